-- What is seen of two reports, and the changes in it.
use Rattle.std.proofs.Common.{◌≡◌, List, [], ◌∷◌, ◌++◌, refl, ap, sym, ◌∙◌}
use Rattle.std.proofs.{lemmas.Grind.{flat_map-append}, lemmas.List.{map-append}}
use Rattle.std.specs.Prelude.{flat_map}
use Rattle.ocfl_tree.specs.Place.{Place}
use Rattle.ocfl_report.specs.Line.{Line}
use Rattle.ocfl_compare.specs.Changes.{answers, lines_at, placed, places_of, said_at}
use Rattle.ocfl_compare.specs.Seen.{change, all_seen, change_in, changes_in, changes_seen, lines_seen, seen_at, show_at, shown}
use Rattle.ocfl_compare.specs.declared.change.{Change.{Change}, ChangeAt.{ChangeAt}}
use Rattle.ocfl_compare.specs.declared.question.Question.{Question}
use Rattle.ocfl_compare.specs.declared.question.Question.TheVariants.{Changed, Expected}
use Rattle.ocfl_compare.specs.declared.side.Side.{Side}
use Rattle.ocfl_compare.specs.declared.side.Side.TheVariants.{Before, Now}

-- a line is no change
no_change : (asked : Question) (side : Side) (ls : List Line) → changes_in (lines_seen asked side ls) ≡ []
no_change asked side [] = refl
no_change Changed side (l ∷ ls) = no_change Changed side ls
no_change Expected side (l ∷ ls) = no_change Expected side ls

placed_in : (p : Place) (cs : List Change) → changes_in (shown p cs) ≡ placed p cs
placed_in p [] = refl
placed_in p (c ∷ cs) = ap (λ ds. change_in (show_at p c) ++ ds) (placed_in p cs)

at_place : (asked : Question) (left : List Place) (before now : List Line) (p : Place) → changes_in (seen_at asked left before now p) ≡ placed p (said_at asked left before now p)
at_place asked left before now p =
    flat_map-append change_in (lines_seen asked Before (lines_at p before)) (lines_seen asked Now (lines_at p now) ++ shown p (said_at asked left before now p))
    ∙ (λ i. no_change asked Before (lines_at p before) i ++ flat_map-append change_in (lines_seen asked Now (lines_at p now)) (shown p (said_at asked left before now p)) i)
    ∙ (λ i. no_change asked Now (lines_at p now) i ++ placed_in p (said_at asked left before now p) i)

at_places : (asked : Question) (left : List Place) (before now : List Line) (ps : List Place)
    → changes_in (flat_map (seen_at asked left before now) ps) ≡ flat_map (λ p. placed p (said_at asked left before now p)) ps
at_places asked left before now [] = refl
at_places asked left before now (p ∷ ps) =
    flat_map-append change_in (seen_at asked left before now p) (flat_map (seen_at asked left before now) ps)
    ∙ (λ i. at_place asked left before now p i ++ at_places asked left before now ps i)

-- the changes that are seen are what changed
pub changes_are : (asked : Question) (left : List Place) (before now : List Line) → changes_in (all_seen asked left before now) ≡ answers asked left before now
changes_are asked left before now = at_places asked left before now (places_of before now)

-- where it is asked for objects no line is seen
no_lines : (side : Side) (ls : List Line) → lines_seen Expected side ls ≡ []
no_lines side [] = refl
no_lines side (l ∷ ls) = no_lines side ls

shown_are : (p : Place) (cs : List Change) → shown p cs ≡ changes_seen (placed p cs)
shown_are p [] = refl
shown_are p (c ∷ cs) = ap (λ ds. show_at p c ∷ ds) (shown_are p cs)

only_at : (left : List Place) (before now : List Line) (ps : List Place)
    → flat_map (seen_at Expected left before now) ps ≡ changes_seen (flat_map (λ p. placed p (said_at Expected left before now p)) ps)
only_at left before now [] = refl
only_at left before now (p ∷ ps) =
    let said = said_at Expected left before now p in
    (λ i. (no_lines Before (lines_at p before) i ++ (no_lines Now (lines_at p now) i ++ shown_are p said i)) ++ only_at left before now ps i)
    ∙ sym (map-append change (placed p said) (flat_map (λ q. placed q (said_at Expected left before now q)) ps))

pub only_changes : (left : List Place) (before now : List Line) → all_seen Expected left before now ≡ changes_seen (answers Expected left before now)
only_changes left before now = only_at left before now (places_of before now)

-- the changes among changes are these
pub changes_again : (cs : List ChangeAt) → changes_in (changes_seen cs) ≡ cs
changes_again [] = refl
changes_again (c ∷ cs) = ap (λ ds. c ∷ ds) (changes_again cs)
