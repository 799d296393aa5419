use Rattle.std.proofs.Common.{◌≡◌, ◌<◌, ◌^◌, ◌++◌, ◌∙◌, length, take, ap, arith, length-append}
use Rattle.ocfl_messages.specs.Gravest.{most_kept}
use Rattle.ocfl_messages.proofs.Taking.{first_both}
use Rattle.ocfl_messages.proofs.gravest.Kept.join.Goals as goal

pub returns : goal.returns
returns c = λ fs gs h k. record {
  first = first_both c.args.self.now.first.items c.args.other.now.first.items c.truncate.new.self.items fs gs
      (c.truncate.ensures.items ∙ ap (take most_kept) c.in_ok-append.ensures.items) h.first k.first;
  count = λ l.
      let both = length-append fs gs in
      let f : length fs < 2 ^ 64 = omega (arith, l, both) in
      let g : length gs < 2 ^ 64 = omega (arith, l, both) in
      omega (arith, l, both, h.count f, k.count g, c.saturating_add-self.ensures);
}
