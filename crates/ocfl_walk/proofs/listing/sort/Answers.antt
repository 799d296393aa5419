use Rattle.std.proofs.{Common.{rules}, lemmas.Fn.{always_returns_same}}
use Rattle.std.proofs.lemmas.List.MinMax.{ranks_by, IsStrictWeakOrder-flip}
use Rattle.std.specs.Ordering.{is_lt}
use Rattle.ocfl_tree.specs.{Place.{text_cmp}, declared.store.Entry.{Entry}}
use Rattle.ocfl_rules.proofs.BelowLaws.{text_cmp_total}
use Rattle.ocfl_walk.proofs.listing.sort.Goals as goal

pub returns-clause-sorted : goal.returns-clause-sorted
returns-clause-sorted c =
    let name = λ (e : Entry). e.name in
    c.sort_unstable_by.ensures.sorted (λ x y. is_lt (text_cmp y.name x.name)) (IsStrictWeakOrder-flip _ (ranks_by text_cmp_total name)) (always_returns_same _ _ _ (λ a r f h. search rules))
