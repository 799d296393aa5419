-- Kept findings that are counted one after the other.
use Rattle.std.proofs.Common.{◌≡◌, ℕ, ◌+◌, ◌<◌, List, [], ◌∷◌, ◌++◌, length, get_or, map, take, drop, ap, sym, ◌∙◌, arith}
use Rattle.std.proofs.lemmas.List.{drop-set-lt, drop_more, length-set, map-append, map_more, take_more_set}
use Rattle.std.specs.Prelude.{slice_set}
use Rattle.ocfl_messages.specs.Finding.{filled, finding_of}
use Rattle.ocfl_messages.specs.declared.finding.{Finding.{Finding}, FileCounts.{FileCounts}}

module _ (c : FileCounts) (xs ys : List Finding) (i : ℕ) (old new : Finding) (l : i < length xs) (is : old ≡ get_or xs i old) (now : finding_of new ≡ filled c (finding_of old))
    (done : map finding_of (take i xs) ≡ map (filled c) (map finding_of (take i ys))) (rest : drop i xs ≡ drop i ys) (same : length xs ≡ length ys) where
  lt : i < length ys
  lt = omega (arith, l, same)

  both : get_or xs i old ∷ drop (i + 1) xs ≡ get_or ys i old ∷ drop (i + 1) ys
  both = sym (drop_more xs i old l) ∙ rest ∙ drop_more ys i old lt

  first : get_or ys i old ≡ old
  first = sym (ap (λ zs. get_or zs 0 old) both) ∙ sym is

  pub rest_more : drop (i + 1) (slice_set xs i new) ≡ drop (i + 1) ys
  rest_more = drop-set-lt (i + 1) xs i new (omega arith) ∙ ap (drop 1) both

  pub done_more : map finding_of (take (i + 1) (slice_set xs i new)) ≡ map (filled c) (map finding_of (take (i + 1) ys))
  done_more =
      let before = map finding_of (take i ys) in
      let there : map finding_of (take (i + 1) ys) ≡ before ++ finding_of old ∷ [] = map_more finding_of ys i old lt ∙ ap (λ f. before ++ finding_of f ∷ []) first in
      ap (map finding_of) (take_more_set xs i new l) ∙ map-append finding_of (take i xs) (new ∷ []) ∙ ap (λ fs. fs ++ finding_of new ∷ []) done
      ∙ ap (λ f. map (filled c) before ++ f ∷ []) now ∙ sym (map-append (filled c) before (finding_of old ∷ [])) ∙ ap (map (filled c)) (sym there)

  pub length_same : length (slice_set xs i new) ≡ length ys
  length_same = length-set xs i new ∙ same
