use Rattle.std.proofs.{Common.{rules}, lemmas.Fn.{always_returns_same}, lemmas.List.MinMax.{ranks_by}, lemmas.Result.{on_ok_weaker}}
use Rattle.std.specs.Ordering.{is_lt}
use Rattle.ocfl_tree.proofs.Orders.{place_cmp_total}
use Rattle.ocfl_messages.specs.{Known.{entry_cmp}, declared.known.KnownEntry.{KnownEntry}}
use Rattle.ocfl_messages.proofs.known.sort.Goals as goal

pub returns-clause-sorted : goal.returns-clause-sorted
returns-clause-sorted c = on_ok_weaker c.sort_by.result
    (λ sorts. sorts (λ x y. is_lt (entry_cmp x y)) (ranks_by place_cmp_total (λ (e : KnownEntry). e.line.place)) (always_returns_same _ _ _ (λ a r f h. search rules)))
    c.sort_by.ensures.sorted
