use Rattle.std.proofs.Common.{◌∙◌, Option, Bor, ap, sym}
use Rattle.std.specs.Prelude.{option_map}
use Rattle.ocfl_tree.specs.Place.{Text}
use Rattle.ocfl_mem_disk.specs.Paths.{behind_front}
use Rattle.ocfl_mem_disk.proofs.Named.{part_read}
use Rattle.ocfl_mem_disk.proofs.joined_path.part_in.Goals as goal

pub returns : goal.returns
returns c =
    let now : Option (Bor Text) → Option Text = option_map (λ b. b.now) in
    part_read c.args.folder.now c.args.path.now c.in_ok-name.name.now c.in_ok-behind.field-0.now c.number_in.result
    (ap now (sym c.in_ok-name.was) ∙ c.behind.ensures ∙ ap (λ f. behind_front f c.as_bytes-2.result.now) c.as_bytes.ensures.value ∙ ap (behind_front c.args.folder.now) c.as_bytes-2.ensures.value)
    (ap now (sym c.in_ok-behind.was) ∙ c.behind-2.ensures)
    c.number_in.ensures
