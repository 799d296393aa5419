-- What judging one item and writing its lines does.
use Rattle.std.specs.Prelude.{◌≡◌, ◌≢◌, ◌<◌, ℕ, List, [], ◌∷◌, Bool, length, take, Option, None}
use Rattle.std.specs.Io.KnownBytes.{Appends}
use Rattle.ocfl_tree.specs.{Place.{Text, Place}, declared.store.Opening.{Opening}}
use Rattle.ocfl_report.specs.{Line.{Item, found}, Text.{text}}
use Rattle.ocfl_rules.specs.{Audit.{total_cost}, Trail.{places_of}, Due.{hashed_among, items_at}}
use Rattle.ocfl_item.specs.{Looking.{IsFront, failed_place}, Auditing.{Audits, Fails}}
use Rattle.ocfl_scrub.specs.Types.{ReportStop}
use Rattle.ocfl_scrub.specs.declared.stop.ReportStop.TheVariants as halt
use Rattle.ocfl_scrub.specs.Call.{Call, Writes}

-- on every store: the text of some items went out, and it is said whether a line of one is a
-- finding
abbrev pub WritesLines : Option (List ℕ) → Option (List ℕ) → Bool → Type 0
WritesLines old new finding = (items : List Item) × Appends old new (text items) × (finding ≡ found items)

-- the place at which the store failed
abbrev pub stop_place : ReportStop → Option Place
stop_place (halt.Fault why) = failed_place why
stop_place halt.Output = None

-- a proper beginning of what was to go out, and nothing if it was not the output that failed
pub record PartOf (why : ReportStop) (whole part : Text) : Type 0 where
  pub gone : ℕ
  pub is : part ≡ take gone whole
  pub proper : why ≡ halt.Output → gone < length whole
  pub none : why ≢ halt.Output → gone ≡ 0

-- the item at p was judged, its file alone was opened if it is hashed, and its lines went out whole
pub record Takes (call : Call) (p : Place) (cost : ℕ) (finding : Bool) : Type 0 where
  pub trail : List Opening
  pub audits : Audits call.further call.root call.before call.after (p ∷ []) [] [] trail
  pub alone : places_of trail ≡ hashed_among call.further call.root (p ∷ [])
  pub wrote : Writes call (text (items_at call.further call.root trail (p ∷ [])))
  pub cost_is : cost ≡ total_cost (items_at call.further call.root trail (p ∷ []))
  pub found_is : finding ≡ found (items_at call.further call.root trail (p ∷ []))

-- it was judged, or not even begun, and its lines did not go out whole
pub record Misses (call : Call) (p : Place) (why : ReportStop) : Type 0 where
  pub trail : List Opening
  pub begun : List Place
  pub one : IsFront begun (p ∷ [])
  pub fails : Fails call.further call.root call.before call.after begun [] [] trail (stop_place why)
  pub alone : places_of trail ≡ hashed_among call.further call.root begun
  pub part : Text
  pub wrote : Writes call part
  pub part_of : PartOf why (text (items_at call.further call.root trail (p ∷ []))) part
