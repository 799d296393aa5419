-- What checking one place does.
use Rattle.std.specs.Prelude.{◌≡◌, ◌≢◌, List, [], ◌∷◌, Bool, not, Some, AllPairs}
use Rattle.ocfl_tree.specs.{Place.{Text, Place}, StorageRoot.{StorageRoot}}
use Rattle.ocfl_tree.specs.declared.store.Opening.{Opening}
use Rattle.ocfl_report.specs.{Line.{Item, found}, Text.{text}}
use Rattle.ocfl_rules.specs.{Lines.{is_empty}, Trail.{unread_of}, Walk.{item_at}}
use Rattle.ocfl_item.specs.{Looking.{way_to, IsFront}, Auditing.{Audits, Fails}}
use Rattle.ocfl_report.specs.declared.further.Further.{Further}
use Rattle.ocfl_walk.specs.WalkCalls.{holder}
use Rattle.ocfl_scrub.specs.{Call.{Call, Writes}, Starting.{FilesLieIn}, Taking.{PartOf, stop_place}}
use Rattle.ocfl_scrub.specs.Types.{AuditStatus, ReportStop}
use Rattle.ocfl_scrub.specs.declared.checking.AuditStatus.TheVariants as end

-- the item at a place, if a trail shows what could not be read
abbrev pub checked_item : Further → StorageRoot → List Opening → Place → List Item
checked_item further root trail p = item_at further root (unread_of further root trail) p

-- each file was opened at most once
abbrev pub AreOnce : List Opening → Type 0
AreOnce trail = AllPairs (λ a b. a.place ≢ b.place) trail

-- only directories on the way to a place were listed, at most the inventory of its object was read,
-- if its head reaches it, and no file was opened twice
pub record IsJustFor (root : StorageRoot) (p : Place) (listed heads : List Place) (trail : List Opening) : Type 0 where
  pub listed_front : IsFront listed (way_to p)
  pub heads_front : IsFront heads (holder root (Some p))
  pub once : AreOnce trail

-- the place was checked: its lines were written, its file was opened if it is hashed and no other
-- content, only directories on the way to it were listed, each once and a hashed file's own among
-- them, and at most the inventory of its object was read
pub record Checks (call : Call) (p : Place) (item finding : Bool) : Type 0 where
  pub trail : List Opening
  pub listed : List Place
  pub heads : List Place
  pub audits : Audits call.further call.root call.before call.after (p ∷ []) listed heads trail
  pub files_lie : FilesLieIn call.further call.root (p ∷ []) listed
  pub just : IsJustFor call.root p listed heads trail
  pub wrote : Writes call (text (checked_item call.further call.root trail p))
  pub item_is : item ≡ not (is_empty (checked_item call.further call.root trail p))
  pub found_is : finding ≡ found (checked_item call.further call.root trail p)

-- checking the place stopped: at most a proper beginning of its text went out, and nothing if it
-- was not the output that failed
pub record CheckStops (call : Call) (p : Place) (why : ReportStop) : Type 0 where
  pub trail : List Opening
  pub begun : List Place
  pub one : IsFront begun (p ∷ [])
  pub listed : List Place
  pub heads : List Place
  pub fails : Fails call.further call.root call.before call.after begun listed heads trail (stop_place why)
  pub files_lie : FilesLieIn call.further call.root begun listed
  pub just : IsJustFor call.root p listed heads trail
  pub part : Text
  pub wrote : Writes call part
  pub part_of : PartOf why (text (checked_item call.further call.root trail p)) part

abbrev pub CheckEnds : Call → Place → Bool → Bool → AuditStatus → Type 0
CheckEnds call p item finding end.Ended = Checks call p item finding
CheckEnds call p item finding (end.Stopped why) = CheckStops call p why
