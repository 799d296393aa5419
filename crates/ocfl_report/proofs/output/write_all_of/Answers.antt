use Rattle.std.proofs.{Common.{subst}, KnownBytes.{Appends-trans}}
use Rattle.std.specs.Io.KnownBytes.{Appends}
use Rattle.ocfl_report.proofs.Parts.{take_both, within_both}
use Rattle.ocfl_report.proofs.output.write_all_of.Goals as goal

pub loop-gone-preserved : goal.loop-gone-preserved
loop-gone-preserved g c = record {
  within = within_both c.args.bytes.now c.loop-gone.gone c.write_some.result c.loop-gone.invariant.within c.write_some.ensures.within;
  sent = subst (Appends _ _) (take_both c.args.bytes.now c.loop-gone.gone c.write_some.result) (Appends-trans _ _ _ _ _ c.loop-gone.invariant.sent c.write_some.ensures.sent);
}
