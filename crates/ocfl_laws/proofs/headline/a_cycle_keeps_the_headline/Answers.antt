use Rattle.ocfl_scrub.proofs.ChainHeadline.{headline_of_part, headline_of_whole}
use Rattle.ocfl_laws.proofs.headline.a_cycle_keeps_the_headline.Goals as goal

pub returns-clause-whole : goal.returns-clause-whole
returns-clause-whole c = headline_of_whole

pub returns-clause-part : goal.returns-clause-part
returns-clause-part c = headline_of_part
