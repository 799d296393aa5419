use Rattle.std.specs.Option.{option_map}
use Rattle.ocfl_joining.proofs.Parts.{missing_step}
use Rattle.ocfl_joining.proofs.missing.find_missing.Goals as goal

pub loop-index-preserved : goal.loop-index-preserved
loop-index-preserved c =
    missing_step c.args.separators.now c.args.root.now c.find_further-further.result c.args.cycle c.find_most_names-most.result c.args.parts.now c.loop-index.index c.loop-index.missing.items c.add_missing.new.missing.items c.find_fault-fault.result
    (option_map (λ p. p.now) c.part_with-part.result) c.find_further-further.ensures c.find_most_names-most.ensures c.loop-index.invariant c.in_ok-add_missing.ensures c.find_fault-fault.ensures c.part_with-part.ensures
