use Rattle.ocfl_words.proofs.compared.ComparedLines.into_found.Goals as goal

pub returns : goal.returns
returns c = λ h k. record {
  gravest = c.in_ok-end.ensures h.marks k.marks;
  again = k.again;
  count = k.count;
  tally = k.tally;
}
