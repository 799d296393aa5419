use Rattle.std.proofs.Common.{sym, subst, ◌∙◌}
use Rattle.ocfl_report.specs.Line.{line_of}
use Rattle.ocfl_codes.specs.Kinds.{tells_object}
use Rattle.ocfl_messages.specs.Tally.{IsCount, IsPlaces, bytes_in, is_wrong, places_of, right_in, right_size}
use Rattle.ocfl_messages.proofs.Tallies.{bytes_more, kept_one, kept_size, places_more, right_more}
use Rattle.ocfl_messages.proofs.tally.Tally.add.Goals as goal

pub returns : goal.returns
returns c = λ ls h.
    let l = line_of c.args.line.now in
    record {
      right = subst (IsCount c.add_count-self.result) (sym (right_more ls l c.is_right.result c.is_right.ensures)) (c.add_count-self.ensures (right_in ls) _ h.right (c.one_if.ensures ∙ sym (kept_one c.is_right.result)));
      bytes = subst (IsCount c.add_count-self-2.result) (sym (bytes_more ls l)) (c.add_count-self-2.ensures (bytes_in ls) (right_size l) h.bytes (c.size_in.ensures ∙ sym (kept_size l)));
      wrong = subst (IsPlaces c.add_if-2.new.self) (places_more is_wrong ls l c.is_wrong.result c.is_wrong.ensures) (c.in_ok-add_if-2.ensures (places_of is_wrong ls) h.wrong);
      objects = subst (IsPlaces c.add_if.new.self) (places_more tells_object ls l c.is_of_object.result c.is_of_object.ensures) (c.in_ok-add_if.ensures (places_of tells_object ls) h.objects);
    }
