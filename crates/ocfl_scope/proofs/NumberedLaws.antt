-- The parts that separators make, by their numbers.
use Rattle.std.proofs.Common.{◌≡◌, ℕ, zero, suc, ◌+◌, ◌-◌, ◌≤◌, List, [], ◌∷◌, Option, Some, None, refl, sym, ◌∙◌, ap, subst, length, map, arith, inl, inr}
use Rattle.std.proofs.lemmas.Bool.Decides.{nat_tests}
use Rattle.std.proofs.lemmas.Option.{none-some, same_Some, slice_get_within}
use Rattle.std.specs.Prelude.{◌⊎◌, ◌↔◌, ◌==◌, IsSome, slice_get, if◌then◌else◌, false}
use Rattle.ocfl_tree.specs.Place.{Place, Text}
use Rattle.ocfl_rules.specs.Parts.{Part, parts_from, parts_of}
use Rattle.ocfl_cursor.specs.declared.ends.PartEnds.{PartEnds}
use Rattle.ocfl_separators.specs.{Parts.{IsPartsText}, Separators.{end_of_part, start_of_part}}
use Rattle.ocfl_separators.specs.declared.reading.PartsStop.TheVariants as parts
use Rattle.ocfl_separators.proofs.PartsTexts.{parts_text_determines, not_bad, not_long}
use Rattle.ocfl_scope.specs.Finding.{PartStops}
use Rattle.ocfl_scope.specs.Numbered.{AreAllFrom, IsPartOf, part_between, part_numbered}
use Rattle.ocfl_scope.specs.declared.stop.ScopeStop.{ScopeStop}
use Rattle.ocfl_scope.specs.declared.stop.ScopeStop.TheVariants as stop

-- where the part at an index begins
abbrev start_at : Option Place → List Place → ℕ → Option Place
start_at from ps zero = from
start_at from ps (suc i) = slice_get ps i

-- the part at an index
abbrev pub part_at : Option Place → List Place → ℕ → Part
part_at from ps i = record { under = []; from = start_at from ps i; below = slice_get ps i }

starts_later : (from : Option Place) (p : Place) (ps : List Place) (i : ℕ) → start_at (Some p) ps i ≡ start_at from (p ∷ ps) (suc i)
starts_later from p ps zero = refl
starts_later from p ps (suc i) = refl

pub parts_at : (from : Option Place) (ps : List Place) (i : ℕ) → i ≤ length ps → slice_get (parts_from from ps) i ≡ Some (part_at from ps i)
parts_at from [] zero h = refl
parts_at from [] (suc i) h = absurd (omega arith)
parts_at from (p ∷ ps) zero h = refl
parts_at from (p ∷ ps) (suc i) h =
    parts_at (Some p) ps i (omega arith) ∙ ap (λ s. Some (record { under = []; from = s; below = slice_get ps i })) (starts_later from p ps i)

count_parts : (from : Option Place) (ps : List Place) → length (parts_from from ps) ≡ suc (length ps)
count_parts from [] = refl
count_parts from (p ∷ ps) = ap suc (count_parts (Some p) ps)

-- ---- by its number

later_start : (ps : List Place) (number i : ℕ) → number ≡ i + 2 → start_of_part ps number ≡ slice_get ps i
later_start ps number i e =
    let later : (number == 1) ≡ false = grind (arith, nat_tests) in
    let index : number - 2 ≡ i = omega arith in
    ap (λ b. if b then None else slice_get ps (number - 2)) later ∙ ap (slice_get ps) index

pub ends_are : (ps : List Place) (number : ℕ) → 1 ≤ number → number ≤ length ps + 1
    → part_numbered ps number ≡ Some (record { under = []; from = start_of_part ps number; below = end_of_part ps number })
ends_are ps zero low high = absurd (omega arith)
ends_are ps (suc zero) low high = parts_at None ps zero (omega arith)
ends_are ps (suc (suc i)) low high =
    let start : start_of_part ps (suc (suc i)) ≡ slice_get ps i = later_start ps (suc (suc i)) i (omega arith) in
    let end : end_of_part ps (suc (suc i)) ≡ slice_get ps (suc i) = let index : suc (suc i) - 1 ≡ suc i = omega arith in ap (slice_get ps) index in
    parts_at None ps (suc i) (omega arith) ∙ sym (ap (λ s. Some (record { under = []; from = s; below = end_of_part ps (suc (suc i)) })) start ∙ ap (λ s. Some (record { under = []; from = slice_get ps i; below = s })) end)

-- the part that has these ends
pub ends_there : (ps : List Place) (number : ℕ) (e : PartEnds) → e.from ≡ start_of_part ps number → e.below ≡ end_of_part ps number → (1 ≤ number) × (number ≤ length ps + 1)
    → Some (part_between e) ≡ part_numbered ps number
ends_there ps number e start end here = ap (λ s. Some (record { under = []; from = s; below = e.below })) start
    ∙ ap (λ s. Some (record { under = []; from = start_of_part ps number; below = s })) end ∙ sym (ends_are ps number here.0 here.1)

-- there is a part with each number up to one more than there are separators
numbered : (ps : List Place) (number : ℕ) (part : Part) → part_numbered ps number ≡ Some part → (1 ≤ number) × (number ≤ length ps + 1)
numbered ps zero part e = absurd cc
numbered ps (suc i) part e =
    let within = slice_get_within (parts_of ps) i part e in
    let count = count_parts None ps in
    (omega arith, omega (arith, within, count))

pub numbers_are : (ps : List Place) (number : ℕ) → IsSome (part_numbered ps number) ↔ (1 ≤ number) × (number ≤ length ps + 1)
numbers_are ps number =
    ((λ h. by (part_numbered ps number) refl h), λ h. subst IsSome (sym (ends_are ps number h.0 h.1)) refl)
  where
    by : (o : Option Part) → part_numbered ps number ≡ o → IsSome o → (1 ≤ number) × (number ≤ length ps + 1)
    by None e h = absurd cc
    by (Some part) e h = numbered ps number part e

pub none_else : (ps : List Place) (number : ℕ) → ((1 ≤ number) × (number ≤ length ps + 1) → ⊥) → part_numbered ps number ≡ None
none_else ps number h = by (part_numbered ps number) refl
  where
    by : (o : Option Part) → part_numbered ps number ≡ o → o ≡ None
    by None e = refl
    by (Some part) e = absurd (h (numbered ps number part e))

-- ---- a text and a number

same_ends : (e f : PartEnds) → part_between e ≡ part_between f → e ≡ f
same_ends e f h = ap (λ part. record { from = part.from; below = part.below }) h

pub part_determined : (b : Text) (number : ℕ) (e f : PartEnds) → IsPartOf b number e → IsPartOf b number f → e ≡ f
part_determined b number e f h k =
    let same : h.separators ≡ k.separators = parts_text_determines h.separators k.separators h.text.separators k.text.separators (sym h.text.is ∙ k.text.is) in
    same_ends e f (same_Some (part_between e) (part_between f) (sym h.is ∙ ap (λ ps. part_numbered ps number) same ∙ k.is))

-- what is in a list from an index on
abbrev from_index : {A : Type 0} → ℕ → List A → List A
from_index zero xs = xs
from_index (suc i) [] = []
from_index (suc i) (x ∷ xs) = from_index i xs

none_from : {A : Type 0} (xs : List A) (i : ℕ) → slice_get xs i ≡ None → from_index i xs ≡ []
none_from [] zero e = refl
none_from [] (suc i) e = refl
none_from (x ∷ xs) zero e = absurd cc
none_from (x ∷ xs) (suc i) e = none_from xs i e

next_from : {A : Type 0} (xs : List A) (i : ℕ) (x : A) → slice_get xs i ≡ Some x → from_index i xs ≡ x ∷ from_index (suc i) xs
next_from [] i x e = absurd cc
next_from (y ∷ xs) zero x e = ap (λ z. z ∷ xs) (same_Some y x e)
next_from (y ∷ xs) (suc i) x e = next_from xs i x e

module _ (b : Text) (ps : List Place) (text : IsPartsText b ps) where
  same_separators : (qs : List Place) → IsPartsText b qs → qs ≡ ps
  same_separators qs h = parts_text_determines qs ps h.separators text.separators (sym h.is ∙ text.is)

  parts_from_index : (ends : List PartEnds) (i : ℕ) → AreAllFrom b (suc i) ends → map part_between ends ≡ from_index i (parts_of ps)
  parts_from_index [] i h = sym (none_from (parts_of ps) i (ap (λ qs. slice_get (parts_of qs) i) (sym (same_separators h.separators h.text)) ∙ h.none))
  parts_from_index (e ∷ ends) i h =
      ap (λ rest. part_between e ∷ rest) (parts_from_index ends (suc i) h.1)
      ∙ sym (next_from (parts_of ps) i (part_between e) (ap (λ qs. slice_get (parts_of qs) i) (sym (same_separators h.0.separators h.0.text)) ∙ h.0.is))

separators_there : (b : Text) (ends : List PartEnds) (number : ℕ) → AreAllFrom b number ends → (ps : List Place) × IsPartsText b ps
separators_there b [] number h = (h.separators, h.text)
separators_there b (e ∷ ends) number h = (h.0.separators, h.0.text)

pub all_parts : (b : Text) (ends : List PartEnds) → AreAllFrom b 1 ends → (ps : List Place) × (IsPartsText b ps × (map part_between ends ≡ parts_of ps))
all_parts b ends h =
    let there = separators_there b ends 1 h in
    (there.0, (there.1, parts_from_index b there.0 there.1 ends zero h))

pub part_not_refused : (b : Text) (number : ℕ) (e : PartEnds) (why : ScopeStop) → IsPartOf b number e → PartStops (Some b) number why
    → (why ≡ stop.Memory) ⊎ ((why ≡ stop.Parts parts.Memory) ⊎ (why ≡ stop.Parts parts.Read))
part_not_refused b number e stop.BadPath h k = absurd k
part_not_refused b number e stop.NoSuchPart h k =
    let same : h.separators ≡ k.separators = parts_text_determines h.separators k.separators h.text.separators k.text.separators (sym h.text.is ∙ k.text.is) in
    absurd (none-some (part_between e) (sym k.none ∙ ap (λ ps. part_numbered ps number) (sym same) ∙ h.is))
part_not_refused b number e (stop.Parts (parts.Line n)) h k = absurd (not_bad b n h.separators h.text k)
part_not_refused b number e (stop.Parts parts.Long) h k = absurd (not_long b h.separators h.text k)
part_not_refused b number e (stop.Parts parts.Read) h k = inr (inr refl)
part_not_refused b number e (stop.Parts parts.Memory) h k = inr (inl refl)
part_not_refused b number e stop.Memory h k = inl refl
