use Rattle.std.proofs.Common.{◌≡◌, ◌++◌, [], ◌∷◌, List, All, length, flat_map, sym, ap, subst, ◌∙◌, arith, length-append}
use Rattle.std.proofs.lemmas.List.Elements.{All-nil, All-cons, All-append}
use Rattle.ocfl_state.specs.{Checkpoint.{IsLeft, left_text}, declared.checkpoint_parts.Left.{Left}}
use Rattle.ocfl_state.proofs.CheckpointTexts.{lefts_next, lefts_more}
use Rattle.ocfl_state.proofs.checkpoint_left.read_all_left.Goals as goal

pub returns-in-Err-clause-bad : goal.returns-in-Err-clause-bad
returns-in-Err-clause-bad c = λ e ls rest h count f.
    let next = lefts_next c.branches.left.items ls c.branches.rest.now rest c.branches.invariant.names h (omega (arith, count)) (sym c.branches.invariant.read ∙ f) in
    c.in-Err.ensures.bad (cc e) next.left next.rest next.names next.is

pub branches-preserved : goal.branches-preserved
branches-preserved c =
    let before = c.branches.left.items in
    let one = c.in-Ok.read.0 in
    let items : c.push_left.new.left.items ≡ before ++ one ∷ [] = c.in-Ok-push_left.ensures.ok in
    let more = lefts_more before one c.args.text.now c.branches.rest.now c.in-Ok.read.1.now c.branches.invariant.read c.in-Ok.ensures.found in
    record {
      read = subst (λ (ls : List Left). c.args.text.now ≡ flat_map left_text ls ++ c.in-Ok.read.1.now) (sym items) more;
      few = omega (arith, ap length items, length-append before (one ∷ []));
      names = subst (All IsLeft) (sym items) (All-append IsLeft before (one ∷ []) c.branches.invariant.names (All-cons IsLeft one [] c.in-Ok.ensures.names (All-nil IsLeft)));
    }
