use Rattle.std.proofs.Common.{map, ap, sym, ◌∙◌}
use Rattle.std.proofs.lemmas.List.{length-map, take-map}
use Rattle.ocfl_messages.specs.{Finding.{filled}, Gravest.{most_kept}}
use Rattle.ocfl_messages.proofs.gravest.Kept.fill.Goals as goal

pub returns : goal.returns
returns c = λ fs h. record {
  first = c.fill_all.ensures ∙ ap (map (filled c.args.files)) h.first ∙ sym (take-map (filled c.args.files) most_kept fs);
  count = λ l. h.count (rw length-map at l) ∙ sym (length-map fs (filled c.args.files));
}
