use Rattle.std.proofs.{Common.{List, length, subst, rules}, lemmas.Fn.{always_returns_same}}
use Rattle.std.proofs.lemmas.List.MinMax.{ranks_by}
use Rattle.std.proofs.lemmas.List.Sorted.{All-permutation, IsPermutation-trans}
use Rattle.std.specs.{Prelude.{All, IsPermutation}, Ordering.{is_lt}}
use Rattle.ocfl_inventory.specs.{Table.{Triple, triple_cmp}, Internal.TripleOrder.{triple_total}}
use Rattle.ocfl_inventory.specs.Internal.SharedFront.{IsBelow, behind}
use Rattle.ocfl_inventory.proofs.SharedFronts.{sorted_behind}
use Rattle.ocfl_inventory.proofs.sorting.sort.Goals as goal

pub returns-clause-permutation : goal.returns-clause-permutation
returns-clause-permutation c = IsPermutation-trans _ _ _ c.in_ok-sort_by_rank.ensures c.sort_unstable_by.ensures.permutation

pub returns-clause-sorted : goal.returns-clause-sorted
returns-clause-sorted c =
    let front = c.shared_front.result.now in
    let before = c.args.triples.now.items in
    let after = c.sort_unstable_by.new.self.items in
    let all = subst (λ (xs : List Triple). All (IsBelow front) xs) c.deref.ensures.value c.shared_front.ensures in
    let permuted : IsPermutation before after = IsPermutation-trans _ _ _ c.in_ok-sort_by_rank.ensures c.sort_unstable_by.ensures.permutation in
    let rank = behind (length front) in
    sorted_behind front after (All-permutation (IsBelow front) before after permuted all)
    (c.sort_unstable_by.ensures.sorted (λ x y. is_lt (triple_cmp (rank x) (rank y))) (ranks_by triple_total rank) (always_returns_same _ _ _ (λ a r f h. search rules)))
