use Rattle.std.proofs.Common.{subst}
use Rattle.ocfl_cursor.specs.{Part.{IsPartText}, PartRefusal.{PartRefusedRightly}}
use Rattle.ocfl_cursor.specs.declared.ends.PartEnds.{PartEnds}
use Rattle.ocfl_cursor.specs.declared.refused.PartRefused.TheVariants.{Text}
use Rattle.ocfl_cursor.proofs.Options.{IfErr-passed}
use Rattle.ocfl_cursor.proofs.part_decoding.decode_part.Goals as goal

pub returns-in_err-named-clause-refused : goal.returns-in_err-named-clause-refused
returns-in_err-named-clause-refused c =
    IfErr-passed (PartRefusedRightly c.args.ends.now c.args.text.now) c.from_residual.result (Text c.in_err-named.field-0.0) c.from_residual.ensures.1 c.in_err-named.ensures.refused

pub returns-then-is_same_part-clause-cursor : goal.returns-then-is_same_part-clause-cursor
returns-then-is_same_part-clause-cursor c =
    subst (λ (e : PartEnds). IsPartText e c.args.text.now c.in_ok-named.cursor) (c.is_same_part.ensures.0 c.if-is_same_part.true) c.in_ok-named.ensures.part
