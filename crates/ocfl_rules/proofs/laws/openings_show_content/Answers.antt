use Rattle.ocfl_rules.proofs.MetaLaws.{content_shown, unread_shown, read_shown, meta_shown, trail_on, unread_on}
use Rattle.ocfl_rules.proofs.laws.openings_show_content.Goals as goal

pub returns : goal.returns
returns c = record {
  content = λ further root o h. content_shown further root o h;
  unread = λ further root o h e. unread_shown further root o h e;
  read = λ further root o e. read_shown further root o e;
  metadata = λ further root o h. meta_shown further root o h;
  more_content = λ further root front trail. trail_on further root front trail;
  more_unread = λ further root front trail. unread_on further root front trail;
}
