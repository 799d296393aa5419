-- Objects that are missing, of changes that are taken.
use Rattle.std.proofs.Common.{◌≡◌, List, [], ◌∷◌, ◌++◌, sym, ap, ◌∙◌, append_assoc}
use Rattle.std.specs.Prelude.{flat_map}
use Rattle.std.proofs.lemmas.Grind.{flat_map-append}
use Rattle.ocfl_tree.specs.Place.{Text, Place}
use Rattle.ocfl_report.specs.Line.{Line}
use Rattle.ocfl_compare.specs.{Compared.{IsReport}, Expected.{missing_objects}}
use Rattle.ocfl_compare.specs.Seen.{Seen, change_in, changes_in}
use Rattle.ocfl_compare.specs.declared.change.{Change.{Change}, ChangeAt.{ChangeAt}}
use Rattle.ocfl_compare.specs.declared.change.Change.TheVariants.{Gone, Undeclared, FileGone, Unlooked, Found, Repaired, Missing, Rewritten, WentBack, NewVersion}

abbrev pub place_missing : ChangeAt → List Place
place_missing c = by c.change
  where
    by : Change → List Place
    by Missing = c.place ∷ []
    by Gone = []
    by Undeclared = []
    by FileGone = []
    by Unlooked = []
    by (Found code) = []
    by (Repaired code) = []
    by Rewritten = []
    by WentBack = []
    by NewVersion = []

-- the places of objects that are missing
abbrev pub missing_in : List ChangeAt → List Place
missing_in cs = flat_map place_missing cs

-- of what is seen
abbrev pub missing_seen : List Seen → List Place
missing_seen seen = missing_in (changes_in seen)

-- those of some objects that are missing in the report with these bytes
pub record AreLacking (left objects : List Place) (b : Text) (ps : List Place) : Type 0 where
  pub lines : List Line
  pub report : IsReport b lines
  pub are : ps ≡ missing_objects left objects lines

pub missing_then : (a b c : List Place) (first then : List Seen) → b ≡ a ++ missing_seen first → c ≡ b ++ missing_seen then → c ≡ a ++ missing_seen (first ++ then)
missing_then a b c first then p q =
    q ∙ ap (λ l. l ++ missing_seen then) p ∙ append_assoc a (missing_seen first) (missing_seen then)
    ∙ ap (λ l. a ++ l) (sym (ap missing_in (flat_map-append change_in first then) ∙ flat_map-append place_missing (changes_in first) (changes_in then)))
