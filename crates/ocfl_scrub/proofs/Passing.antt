-- What a pass over the items above a place and before an end does: it takes one after the other.
use Rattle.std.specs.Prelude.{◌≡◌, ℕ, List, [], ◌++◌, Bool, Option, Some, None, take}
use Rattle.std.specs.{Io.KnownBytes.{Appends}, List.{last_or}}
use Rattle.ocfl_tree.specs.{Place.{Text, Place}, Ascending.{IsAmong}, StorageRoot.{StorageRoot}}
use Rattle.ocfl_tree.specs.{Store.{Store}, declared.store.Opening.{Opening}}
use Rattle.ocfl_report.specs.{Line.{found}, Text.{text}}
use Rattle.ocfl_rules.specs.{Due.{due, items_at}, Between.{looked_between, read_between}}
use Rattle.ocfl_item.specs.{Looking.{IsFront}, Auditing.{Audits, Fails}}
use Rattle.ocfl_report.specs.declared.further.Further.{Further}
use Rattle.ocfl_scrub.specs.Types.{ReportStop}
use Rattle.ocfl_walk.specs.{Ends.{before_end}, declared.end.End.{End}}
use Rattle.ocfl_scrub.specs.{Starting.{AreAhead, FailsUpTo}, Taking.{PartOf, stop_place}}

-- what is between a place and the last one taken: nothing if there is none
abbrev pub up_to_last : (Option Place → Option Place → List Place) → Option Place → Option Place → List Place
up_to_last between from None = []
up_to_last between from (Some p) = between from (Some p)

-- what is due before the end
abbrev pub due_in : Further → StorageRoot → End → Option Place → List Place
due_in further root e from = before_end e (due further root from)

-- from s to t the items above from were taken up to last, each whole and none past the end
pub record Passes (further : Further) (root : StorageRoot) (e : End) (s t : Store) (old new : Option (List ℕ)) (from last : Option Place) (finding : Bool) : Type 0 where
  pub done : List Place
  pub trail : List Opening
  pub audits : Audits further root s t done (up_to_last (looked_between root) from last) (up_to_last (read_between root) from last) trail
  pub due_are : due further root from ≡ done ++ due further root last
  pub inside : before_end e done ≡ done
  pub last_is : last ≡ last_or from done
  pub wrote : Appends old new (text (items_at further root trail done))
  pub found_is : finding ≡ found (items_at further root trail done)

-- from s to t all items above from and before the end were taken
pub record Finishes (further : Further) (root : StorageRoot) (e : End) (s t : Store) (old new : Option (List ℕ)) (from last : Option Place) (finding : Bool) : Type 0 where
  pub trail : List Opening
  pub audits : Audits further root s t (due_in further root e from) (before_end e (looked_between root from None)) (before_end e (read_between root from None)) trail
  pub last_is : last ≡ last_or from (due_in further root e from)
  pub wrote : Appends old new (text (items_at further root trail (due_in further root e from)))
  pub found_is : finding ≡ found (items_at further root trail (due_in further root e from))

-- from s to t the items above from were taken up to last, and then there was a fault: of the next
-- item before the end at most a proper beginning went out. Up to each of these items all
-- directories were listed, and none above an item that is left
pub record Halts (further : Further) (root : StorageRoot) (e : End) (s t : Store) (old new : Option (List ℕ)) (from last : Option Place) (finding : Bool) (why : ReportStop) : Type 0 where
  pub done : List Place
  pub begun : List Place
  pub trail : List Opening
  pub listed : List Place
  pub heads : List Place
  pub fails : Fails further root s t (done ++ begun) listed heads trail (stop_place why)
  pub listed_front : IsFront listed (before_end e (looked_between root from None))
  pub heads_front : IsFront heads (before_end e (read_between root from None))
  pub ahead : AreAhead listed (due_in further root e last)
  pub up_to : FailsUpTo (stop_place why) (due_in further root e last)
  pub there : (p : Place) → IsAmong (done ++ begun) p → (d : Place) → IsAmong (before_end e (looked_between root from (Some p))) d → IsAmong listed d
  pub due_are : due_in further root e from ≡ done ++ due_in further root e last
  pub one : IsFront begun (take 1 (due_in further root e last))
  pub last_is : last ≡ last_or from done
  pub part : Text
  pub wrote : Appends old new (text (items_at further root trail done) ++ part)
  pub part_of : PartOf why (text (items_at further root trail (take 1 (due_in further root e last)))) part
  pub found_is : finding ≡ found (items_at further root trail done)
