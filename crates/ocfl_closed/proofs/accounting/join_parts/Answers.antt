use Rattle.std.proofs.Common.{length, subst, sym}
use Rattle.ocfl_messages.specs.Tally.{IsCount, IsTally}
use Rattle.ocfl_words.specs.News.{again_in, findings_in, new_lines, news as news_in_lines}
use Rattle.ocfl_closed.specs.Words.{AreIn}
use Rattle.ocfl_closed.proofs.accounting.join_parts.Goals as goal

pub returns-clause-found : goal.returns-clause-found
returns-clause-found c = λ n h. subst (AreIn c.join-3.new.self) (sym h.is) (record {
  gravest = c.in_ok-join-3.ensures.gravest (news_in_lines h.before h.new_since h.lines) (news_in_lines h.before h.new_again h.again) h.of_since.gravest h.of_whole.gravest;
  again = c.in_ok-join-3.ensures.said (length (again_in h.before (new_lines h.new_since))) (length (again_in h.before (new_lines h.new_again))) h.of_since.again h.of_whole.again;
  count = subst (λ m. IsCount m (findings_in h.lines)) (sym c.join-3.ensures.count) h.of_since.count;
  tally = subst (λ t. IsTally t h.lines) (sym c.join-3.ensures.tally) h.of_since.tally;
})
