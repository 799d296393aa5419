use Rattle.std.proofs.Common.{◌≤◌, ◌<◌, ◌*◌, ◌/◌, ◌+◌, ◌∙◌, ◌∷◌, [], length, refl, sym, subst, ap, arith}
use Rattle.std.proofs.lemmas.List.{length-append}
use Rattle.ocfl_separators.specs.Separators.{AreSeparators}
use Rattle.ocfl_separators.proofs.Orders.{AreSeparators-nil}
use Rattle.ocfl_split.proofs.Cuts.{index_within, index_grows, cut_above, cut_on, got, firsts_more, begins}
use Rattle.ocfl_split.proofs.cutting.cut.Goals as goal

pub loop-part-init : goal.loop-part-init
loop-part-init c = record {
  start = λ l. refl;
  rule = subst AreSeparators (sym c.new-separators.ensures) AreSeparators-nil;
  above = begins c.new-separators.result c.args.level.now (1 * length c.args.level.now / c.min-parts.result) c.new-separators.ensures c.requires.ascend;
  cut = c.new-separators.ensures;
  long = ap length c.new-separators.ensures;
}

pub add-requires-clause-above : goal.add-requires-clause-above
add-requires-clause-above c =
    let l : c.loop-part.part * length c.args.level.now / c.min-parts.result < length c.args.level.now =
    index_within c.loop-part.part c.min-parts.result (length c.args.level.now) c.loop-part-test.true (omega (arith, c.min-parts.ensures)) in
    cut_above c.args.level.now c.loop-part.separators (c.loop-part.part * length c.args.level.now / c.min-parts.result) c.index-level-part.result l c.index-level-part.is c.loop-part.invariant.above

pub loop-part-preserved : goal.loop-part-preserved
loop-part-preserved c =
    let few : c.min-parts.result ≤ length c.args.level.now = omega (arith, c.min-parts.ensures) in
    let some : 0 < c.min-parts.result = omega arith in
    let l : c.loop-part.part * length c.args.level.now / c.min-parts.result < length c.args.level.now =
    index_within c.loop-part.part c.min-parts.result (length c.args.level.now) c.loop-part-test.true few in
    let grows = index_grows c.loop-part.part c.min-parts.result (length c.args.level.now) some few in
    record {
      start = λ k. absurd (omega (arith, k, c.loop-part.auto.part, c.loop-part-test.true));
      rule = c.in_ok-add.ensures.rule;
      above = cut_on c.args.level.now c.loop-part.separators (c.loop-part.part * length c.args.level.now / c.min-parts.result) c.index-level-part.result l
          c.index-level-part.is c.loop-part.invariant.above c.add.new.separators ((c.loop-part.part + 1) * length c.args.level.now / c.min-parts.result) c.in_ok-add.ensures.added grows;
      cut = firsts_more c.args.level.now c.loop-part.separators c.add.new.separators c.min-parts.result c.loop-part.part c.index-level-part.result
          c.loop-part.auto.part (got c.args.level.now (c.loop-part.part * length c.args.level.now / c.min-parts.result) c.index-level-part.result l
          c.index-level-part.is) c.loop-part.invariant.cut c.in_ok-add.ensures.added;
      long = ap length c.in_ok-add.ensures.added ∙ omega (arith, length-append c.loop-part.separators (c.index-level-part.result ∷ []), c.loop-part.invariant.long, c.loop-part.auto.part);
    }
