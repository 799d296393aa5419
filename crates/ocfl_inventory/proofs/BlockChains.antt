-- Reading the blocks of the algorithms one after the other.
use Rattle.std.proofs.Common.{◌≡◌, ◌+◌, ◌<◌, ℕ, zero, suc, List, [], ◌∷◌, Bool, true, false, cond, Option, Some, None, length, drop, get_or, refl, sym, ap, subst, ◌∙◌}
use Rattle.std.proofs.lemmas.List.{drop_more}
use Rattle.std.specs.{Prelude.{option_and_then, ⊤}, List.{AllByRecursion}}
use Rattle.ocfl_tree.specs.Place.{text_eq}
use Rattle.serde_json.specs.Data.{Data, Members}
use Rattle.ocfl_digest.specs.Algorithm.{algorithm_name, supported}
use Rattle.ocfl_digest.specs.declared.algorithm.Algorithm.{Algorithm}
use Rattle.ocfl_inventory.specs.Reading.{Block, blocks_for}
use Rattle.ocfl_inventory.specs.Internal.Parts.{value_for, values_for, with_block, with_blocks}

abbrev Blocks : Type 0
Blocks = List (Algorithm × Block)

-- the names of algorithms differ
abbrev AreApart : List Algorithm → Type 0
AreApart [] = ⊤
AreApart (a ∷ more) = AllByRecursion (λ b. text_eq (algorithm_name b) (algorithm_name a) ≡ false) more × AreApart more

apart_from : (algorithms : List Algorithm) (i : ℕ) → AreApart algorithms → AreApart (drop i algorithms)
apart_from algorithms zero apart = apart
apart_from [] (suc i) apart = apart
apart_from (a ∷ more) (suc i) apart = apart_from more i apart.1

all_apart : AreApart supported
all_apart = ((refl, (refl, (refl, (refl, tt)))), ((refl, (refl, (refl, tt))), ((refl, (refl, tt)), ((refl, tt), (tt, tt)))))

-- the members at the keys of some algorithms are as they were, and the blocks of these are still to
-- be read after those that were
pub record AreLeft (ms now : Members) (front : Blocks) (algorithms : List Algorithm) : Type 0 where
  pub untouched : AllByRecursion (λ a. value_for a now ≡ value_for a ms) algorithms
  pub reads : with_blocks front (values_for algorithms ms) ≡ blocks_for ms supported

module _ (ms now new : Members) (a : Algorithm) (others : (b : Algorithm) → text_eq (algorithm_name b) (algorithm_name a) ≡ false → value_for b new ≡ value_for b now) where
  still_untouched : (rest : List Algorithm) → AllByRecursion (λ b. text_eq (algorithm_name b) (algorithm_name a) ≡ false) rest
      → AllByRecursion (λ b. value_for b now ≡ value_for b ms) rest → AllByRecursion (λ b. value_for b new ≡ value_for b ms) rest
  still_untouched [] apart untouched = tt
  still_untouched (b ∷ rest) apart untouched = (others b apart.0 ∙ untouched.0, still_untouched rest apart.1 untouched.1)

-- the first of the algorithms that are left is read
module _ (ms now : Members) (front : Blocks) (a : Algorithm) (rest : List Algorithm) (value : Option Data) (left : AreLeft ms now front (a ∷ rest)) (is : value ≡ value_for a now) where
  read_first : (o : Option Blocks) → with_block front value a ≡ o → option_and_then (λ blocks. with_blocks blocks (values_for rest ms)) o ≡ blocks_for ms supported
  read_first o read = ap (option_and_then (λ blocks. with_blocks blocks (values_for rest ms))) (sym read ∙ ap (λ v. with_block front v a) (is ∙ left.untouched.0)) ∙ left.reads

  left_after : (new : Members) (more : Blocks) → AreApart (a ∷ rest) → ((b : Algorithm) → text_eq (algorithm_name b) (algorithm_name a) ≡ false → value_for b new ≡ value_for b now)
      → with_block front value a ≡ Some more → AreLeft ms new more rest
  left_after new more apart others read = record {
    untouched = still_untouched ms now new a others rest apart.0 left.untouched.1;
    reads = read_first (Some more) read;
  }

-- the same of the i-th of the supported algorithms
module _ (ms now : Members) (front : Blocks) (i : ℕ) (d : Algorithm) (value : Option Data) (left : AreLeft ms now front (drop i supported))
    (within : i < length supported) (is : value ≡ value_for (get_or supported i d) now) where
  abbrev rest_is : drop i supported ≡ get_or supported i d ∷ drop (i + 1) supported
  rest_is = drop_more supported i d within

  abbrev from_here : AreLeft ms now front (get_or supported i d ∷ drop (i + 1) supported)
  from_here = subst (AreLeft ms now front) rest_is left

  pub block_stops : (b : Bool) (more : Blocks) → b ≡ false → with_block front value (get_or supported i d) ≡ cond b (Some more) None → None ≡ blocks_for ms supported
  block_stops b more stopped read = read_first ms now front _ _ value from_here is None (read ∙ ap (λ x. cond x (Some more) None) stopped)

  pub block_read : (b : Bool) (new : Members) (more : Blocks) → b ≡ true
      → ((a : Algorithm) → text_eq (algorithm_name a) (algorithm_name (get_or supported i d)) ≡ false → value_for a new ≡ value_for a now)
      → with_block front value (get_or supported i d) ≡ cond b (Some more) None → AreLeft ms new more (drop (i + 1) supported)
  block_read b new more taken others read =
      left_after ms now front _ _ value from_here is new more (subst AreApart rest_is (apart_from supported i all_apart)) others (read ∙ ap (λ x. cond x (Some more) None) taken)
