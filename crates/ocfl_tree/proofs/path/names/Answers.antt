use Rattle.std.proofs.Common.{lit<, length, sym, ◌∙◌}
use Rattle.std.proofs.lemmas.Iterator.Consumers.{YieldsList-turn, YieldsList-end, YieldsList-at}
use Rattle.std.proofs.lemmas.Iterator.Splits.{YieldsList-from_str_split}
use Rattle.ocfl_tree.proofs.PathNames.{name_at, names_are}
use Rattle.ocfl_tree.proofs.path.names.Goals as goal

pub of-requires : goal.of-requires
of-requires c =
    let split = c.split-name-items.ensures in
    let turn = YieldsList-turn
    (YieldsList-at c.into_iter-name-iterator.ensures.into_iter_gives (YieldsList-from_str_split 47 c.args.path.now (lit< tt) split.text split.has_more split.pattern))
    c.loop-name.yielded _ c.loop-name.yielded_by _ _ c.in-Some.name c.in-Some.is c.next.ensures.steps in
    name_at c.args.path.now (length c.loop-name.yielded) c.in-Some.name.now (sym c.is_empty.ensures ∙ c.if-is_empty.false) c.requires turn

pub returns : goal.returns
returns c =
    let split = c.split-name-items.ensures in
    let end = YieldsList-end
    (YieldsList-at c.into_iter-name-iterator.ensures.into_iter_gives (YieldsList-from_str_split 47 c.args.path.now (lit< tt) split.text split.has_more split.pattern))
    c.loop-name.yielded _ c.loop-name.yielded_by _ _ c.in-None.is c.next.ensures.steps in
    c.loop-name.invariant ∙ end.0 ∙ sym (names_are c.args.path.now (sym c.is_empty.ensures ∙ c.if-is_empty.false))
