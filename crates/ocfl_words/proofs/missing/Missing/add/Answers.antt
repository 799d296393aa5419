use Rattle.std.proofs.Common.{[], ◌∷◌, length, length-append, refl, sym, subst}
use Rattle.ocfl_messages.specs.Tally.{IsCount}
use Rattle.ocfl_words.specs.Counted.{gone_at}
use Rattle.ocfl_words.proofs.missing.Missing.add.Goals as goal

pub returns : goal.returns
returns c = λ gs h. record {
  first = c.in_ok-put_first.ensures gs h.first;
  count = subst (IsCount c.add_count-self.result) (sym (length-append gs (gone_at c.args.place.now c.args.kind ∷ []))) (c.add_count-self.ensures (length gs) 1 h.count refl);
}
