use Rattle.std.proofs.Common.{◌∙◌, [], Bor, Option, ap, option_map}
use Rattle.ocfl_tree.specs.Place.{Text}
use Rattle.ocfl_mem_disk.specs.{Closings.{list_from}, Paths.{bytes_at}}
use Rattle.ocfl_mem_disk.proofs.Closing.{list_so}
use Rattle.ocfl_mem_disk.proofs.mem_closings.MemClosingCalls.list_at.Goals as goal

pub returns : goal.returns
returns c =
    let now : Option (Bor Text) → Option Text = option_map (λ b. b.now) in
    list_so c.args.self.now.closed c.args.self.now.calls.items c.args.path.now c.args.cycle (now c.text_at-start.result) (now c.list_after.result)
    (c.text_at-start.ensures ∙ ap (λ f. bytes_at f c.args.path.now) c.as_slice.ensures.value)
    (c.list_after.ensures ∙ ap (list_from c.args.cycle [] (now c.text_at-start.result)) c.as_slice-2.ensures.value)
