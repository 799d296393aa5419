use Rattle.std.proofs.Common.{subst}
use Rattle.ocfl_messages.specs.{Finding.{ended_after, first_section, section_after}, Gathering.{AreRightIn}, Known.{is_unknown}}
use Rattle.ocfl_messages.proofs.Pieces.{right_taken}
use Rattle.ocfl_messages.proofs.found.Found.take_right.Goals as goal

pub returns-clause-taken : goal.returns-clause-taken
returns-clause-taken c = λ known head b ls few lines are none h.
    let first = first_section head in
    let of_section = subst (λ o. AreRightIn o ls) h.gathered.head are in
    right_taken known head c.args.self.now _ b ls h lines of_section.right none none
    (c.take_right.ensures.taken (is_unknown known) (ended_after first h.lines) (section_after first h.lines) ls few of_section h.gathered)
