use Rattle.ocfl_digest.specs.declared.algorithm.Algorithm.TheVariants.{Sha256, Sha512}
use Rattle.ocfl_item.proofs.{HeadLaws.{digest_wanted}, LinesLaws.{adds_three}}
use Rattle.ocfl_item.proofs.head_lines.add_sidecars.Goals as goal

pub returns-clause-lines : goal.returns-clause-lines
returns-clause-lines c = λ root o files.
    let bytes = c.args.inventory.now in
    let digests = c.hash_bytes-digests.ensures in
    let short = digest_wanted _ bytes _ c.args.sidecars.now.short Sha256 digests c.wanted_by.ensures.short in
    let long = digest_wanted _ bytes _ c.args.sidecars.now.long Sha512 digests c.wanted_by.ensures.long in
    adds_three c.args.lines.now c.add_unless_any.new.lines c.add_sidecar.new.lines c.add_sidecar-2.new.lines c.add_sidecar-2.result _ _ _
    (c.in_ok-add_unless_any.ensures.lines root o files) (c.in_ok-add_sidecar.ensures.lines root o bytes files.0 short) (c.add_sidecar-2.ensures.lines root o bytes files.1 long)
