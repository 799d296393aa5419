-- The item at a place, from what was looked at.
use Rattle.std.proofs.Common.{arith, ◌≡◌, ◌≢◌, List, [], ◌∷◌, refl, sym, ◌∙◌, ap, true, None}
use Rattle.ocfl_tree.specs.{Place.{Place}, StorageRoot.{StorageRoot}}
use Rattle.ocfl_report.specs.declared.further.Further.{Further}
use Rattle.ocfl_inventory.specs.Note.{Note}
use Rattle.ocfl_inventory.specs.Declaration.{Declared, undeclared, known, unknown, several}
use Rattle.ocfl_rules.specs.Zone.{Zone, skipped, hierarchy, inside, zone, object_declared, is_declared}
use Rattle.ocfl_rules.specs.Inventories.{notes}
use Rattle.ocfl_rules.specs.Trail.{is_head}
use Rattle.ocfl_rules.specs.Head.{or_clean, head_notes_by}
use Rattle.ocfl_rules.proofs.AuditExists.{zone_is, append_nothing}
use Rattle.ocfl_item.specs.Internal.Lines.{HasLines, IsUnhashed}
use Rattle.ocfl_item.specs.declared.lines.PlaceLines.{PlaceLines}
use Rattle.ocfl_tree.proofs.Orders.{true_not_false}
use Rattle.ocfl_item.proofs.{HeadCalls.{head_notes_are}, LinesLaws.{unhashed_at}}
use Rattle.ocfl_item.proofs.{ContentLaws.{named_short}, CommonLaws.{no_version, unnamed_unhashed}}
use Rattle.ocfl_rules.proofs.FurtherLaws.{common_lines}

pub clean_some : (ns : List Note) → or_clean ns ≢ []
clean_some [] e = cc
clean_some (n ∷ ns) e = cc

head_some : (root : StorageRoot) (o : Place) (d : Declared) → is_declared d ≡ true → head_notes_by root o d ≢ []
head_some root o undeclared h e = true_not_false (sym h)
head_some root o (known v) h e = clean_some _ e
head_some root o (unknown t) h e = cc
head_some root o several h e = cc

pub head_zone : (root : StorageRoot) (p : Place) → is_head (zone root p) ≡ true → zone root p ≡ inside p []
head_zone root p e = by (zone root p) refl e
  where
    by : (z : Zone) → zone root p ≡ z → is_head z ≡ true → zone root p ≡ inside p []
    by skipped h g = absurd (true_not_false (sym g))
    by hierarchy h g = absurd (true_not_false (sym g))
    by (inside o []) h g = h ∙ ap (λ x. inside x []) (sym ((zone_is root p o [] h).whole ∙ append_nothing o))
    by (inside o (n ∷ q)) h g = absurd (true_not_false (sym g))

-- an object's head has lines, and nothing is hashed there
pub head_unhashed : (further : Further) (root : StorageRoot) (p : Place) (l : PlaceLines) → is_head (zone root p) ≡ true → l.place ≡ p → HasLines l (notes further root None p) → IsUnhashed further root l
head_unhashed further root p l e at are =
    let z : zone root p ≡ inside p [] = head_zone root p e in
    unhashed_at further root l p at (common_lines further root None p (λ g. head_some root p (object_declared root p) (zone_is root p p [] z).declares (sym (head_notes_are root p z) ∙ g)))
    (unnamed_unhashed root p (no_version root p _ z refl) further (named_short root p p [] z (omega arith))) are
