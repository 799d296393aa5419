use Rattle.std.proofs.Common.{◌≡◌, ◌++◌, ◌∙◌, ap, arith, length}
use Rattle.std.specs.Prelude.{flat_map, string_bytes}
use Rattle.ocfl_joining.specs.{Missing.{numbers, part_at}, Saying.{left_text, partial_line}}
use Rattle.ocfl_joining.proofs.Sayings.{made_adds}
use Rattle.ocfl_joining.proofs.saying.say_lacking.Goals as goal

pub returns : goal.returns
returns c =
    let parts = c.args.parts.now in
    let last = partial_line c.args.cycle c.args.path.now in
    let stop = c.loop-index-test.false in
    let fits = c.loop-index.auto.index-end in
    let all : c.loop-index.index ≡ length parts = omega (arith, stop, fits) in
    made_adds string_bytes c.last_line.result (string_bytes c.add.new.text) (string_bytes c.loop-index.text) last c.in_ok-add.ensures c.last_line.ensures
    ∙ ap (λ t. t ++ last) c.loop-index.invariant
    ∙ ap (λ n. flat_map (λ number. left_text number (part_at parts number)) (numbers n) ++ last) all
