use Rattle.ocfl_words.proofs.changes.Changes.gone_count.Goals as goal

pub returns : goal.returns
returns c = λ w h. c.add_count.ensures _ w.expected.count (c.add_count-looked_at.ensures w.objects.count w.files.count h.objects.count h.files.count) h.expected.count
