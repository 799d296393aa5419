use Rattle.std.proofs.Common.{◌∙◌, Bor, Option, ap, option_map, string_bytes, sym}
use Rattle.ocfl_tree.specs.Place.{Text}
use Rattle.ocfl_mem_disk.specs.Closings.{gone_digits}
use Rattle.ocfl_mem_disk.proofs.Closing.{cycle_so}
use Rattle.ocfl_mem_disk.proofs.mem_closings.MemClosingCalls.cycle_of.Goals as goal

pub returns : goal.returns
returns c =
    let now : Option (Bor Text) → Option Text = option_map (λ b. b.now) in
    cycle_so (string_bytes c.args.self.now.closed.path) c.args.path.now c.in_ok-gone_digits.field-0.now c.number_in.result
    (ap now (sym c.in_ok-gone_digits.was) ∙ c.gone_digits.ensures ∙ ap (λ f. gone_digits f c.args.path.now) c.as_str.ensures.value) c.number_in.ensures
