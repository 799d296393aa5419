use Rattle.std.proofs.Common.{[], ap, map, subst}
use Rattle.ocfl_messages.specs.{Finding.{first_section}, Gathering.{IsGathered}}
use Rattle.ocfl_words.specs.Held.{marked_of}
use Rattle.ocfl_words.proofs.marked.MarkedLines.new.Goals as goal

pub returns : goal.returns
returns c = record {
  waiting = ap (map marked_of) c.new.ensures.items;
  gathered = λ says all. subst (λ o. IsGathered says c.new-3.result [] (first_section o)) c.new-2.ensures (c.new-3.ensures says);
}
