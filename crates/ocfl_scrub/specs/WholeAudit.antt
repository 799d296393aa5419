-- What the audit of a storage root, or of a part of it, does.
use Rattle.std.specs.{Prelude.{◌≡◌, ◌≢◌, ℕ, List, ◌++◌, Bool, false, Option, None}, List.{last_or}}
use Rattle.ocfl_tree.specs.{Place.{Place}, declared.store.Opening.{Opening}}
use Rattle.ocfl_report.specs.{Line.{found}, Text.{text}}
use Rattle.ocfl_rules.specs.Parts.{Part, whole}
use Rattle.ocfl_scrub.specs.declared.stop.ReportStop.TheVariants as halt
use Rattle.ocfl_scrub.specs.{Call.{Call, Writes}, Taking.{WritesLines}}
use Rattle.ocfl_scrub.specs.Starting.{LooksOver, StopsLooking, items_in}
use Rattle.ocfl_scrub.specs.{Written.{places, StopsWithin}, Types.{AuditEnd, AuditStatus, ReportStop}}
use Rattle.ocfl_scrub.specs.declared.checking.AuditStatus.TheVariants as end

-- what an audit does on any store, by what the output is before it and after it
pub record AuditsOnAnyStore {O : Type 0} (contents : O → Option (List ℕ)) (old new : O) (ran : AuditEnd) : Type 0 where
  pub lines : ran.end ≢ end.Stopped halt.Output → WritesLines (contents old) (contents new) ran.found
  pub silent : ran.last ≡ None → ran.end ≢ end.Stopped halt.Output → new ≡ old
  pub none_found : ran.last ≡ None → ran.found ≡ false

-- the text of the audit of a part was written: each hashed file in it was opened once, in order
pub record AuditsWithin (call : Call) (part : Part) (last : Option Place) (finding : Bool) : Type 0 where
  pub trail : List Opening
  pub looks : LooksOver call part None None (places (items_in call.further call.root trail part None)) trail
  pub wrote : Writes call (text (items_in call.further call.root trail part None))
  pub last_is : last ≡ last_or None (places (items_in call.further call.root trail part None))
  pub found_is : finding ≡ found (items_in call.further call.root trail part None)

-- it stopped: the first items of the part went out whole, and of the next at most a proper
-- beginning
pub record AuditStopsWithin (call : Call) (part : Part) (last : Option Place) (finding : Bool) (why : ReportStop) : Type 0 where
  pub trail : List Opening
  pub stops : StopsWithin (items_in call.further call.root trail part None) call.old call.new None last why
  pub found_is : finding ≡ found stops.whole
  pub looks : StopsLooking call part None (places stops.whole ++ stops.begun) trail why

abbrev pub AuditEndsWithin : Call → Part → Option Place → Bool → AuditStatus → Type 0
AuditEndsWithin call part last finding end.Ended = AuditsWithin call part last finding
AuditEndsWithin call part last finding (end.Stopped why) = AuditStopsWithin call part last finding why

-- ---- of the whole, which is one part

abbrev pub AuditEnds : Call → Option Place → Bool → AuditStatus → Type 0
AuditEnds call last finding end = AuditEndsWithin call whole last finding end
