-- The names of the algorithms.
use Rattle.std.proofs.Common.{◌≡◌, ◌+◌, ◌<◌, ◌∙◌, ℕ, List, Bool, false, cond, Some, refl, ap, sym, length, drop, get_or}
use Rattle.std.proofs.lemmas.List.{at_drop_more}
use Rattle.std.specs.Prelude.{find}
use Rattle.ocfl_digest.specs.Algorithm.{algorithm_name, algorithm_named}
use Rattle.ocfl_digest.specs.declared.algorithm.Algorithm.{Algorithm}
use Rattle.ocfl_digest.specs.declared.algorithm.Algorithm.TheVariants.{Md5, Sha1, Sha256, Sha512, Sha512_256}

pub named_by_name : (a : Algorithm) → algorithm_named (algorithm_name a) ≡ Some a
named_by_name Md5 = refl
named_by_name Sha1 = refl
named_by_name Sha256 = refl
named_by_name Sha512 = refl
named_by_name Sha512_256 = refl

-- past an item that does not hold, the first that does is the same
pub find_past : {A : Type 0} (p : A → Bool) (xs : List A) (i : ℕ) (d : A) → i < length xs → p (get_or xs i d) ≡ false → find p (drop (i + 1) xs) ≡ find p (drop i xs)
find_past p xs i d within other =
    sym (at_drop_more (find p) xs i d within ∙ ap (λ b. cond b (Some (get_or xs i d)) (find p (drop (i + 1) xs))) other)
