use Rattle.std.proofs.Common.{None, subst, sym}
use Rattle.ocfl_messages.specs.{Finding.{ended_after, first_section, section_after}, Gathering.{IsGathered}}
use Rattle.ocfl_words.specs.Held.{all_of, lines_of}
use Rattle.ocfl_words.proofs.marked.MarkedLines.end.Goals as goal

pub returns : goal.returns
returns c = λ m h says all.
    let ls = lines_of (all_of m) in
    let fs = ended_after (first_section None) ls in
    let s = section_after (first_section None) ls in
    c.end-found.ensures.found says fs s (subst (λ g. IsGathered says g fs s) (sym c.into_gathering.ensures) ((c.in_ok-settle.ensures m h).gathered says all))
