use Rattle.std.proofs.Common.{◌≡◌, map, refl, sym, subst, take, ◌∙◌}
use Rattle.std.specs.Option.{option_map}
use Rattle.ocfl_report.specs.Line.{line_of}
use Rattle.ocfl_compare.specs.Changes.{change_at}
use Rattle.ocfl_messages.specs.Tally.{IsCount}
use Rattle.ocfl_words.specs.{Counted.{IsMany, expected_kind, file_kind, is_back, is_known_finding, is_new_finding, is_newer, is_repaired, is_rewritten, is_unlooked, many_of, most_shown, object_kind, repaired_lines, rows_of}, Noted.{noted}, Shown.{in_order}}
use Rattle.ocfl_words.proofs.Firsts.{count_more, kept_one, lines_more, rows_more}
use Rattle.ocfl_words.proofs.changes.Changes.add.Goals as goal

pub returns : goal.returns
returns c = λ ns h.
    let p = c.args.place.now in
    let ch = c.args.change in
    let l = option_map (λ x. line_of x.now) c.args.line in
    let is = c.args.is_known in
    let n = noted (change_at p ch) l is in
    record {
      objects = subst (λ gs. IsMany c.add_if.new.self (many_of gs)) (rows_more object_kind ns p ch l is _ c.object_kind_of.ensures) (c.in_ok-add_if.ensures (rows_of object_kind ns) h.objects);
      files = subst (λ gs. IsMany c.add_if-2.new.self (many_of gs)) (rows_more file_kind ns p ch l is _ c.file_kind_of.ensures) (c.in_ok-add_if-2.ensures (rows_of file_kind ns) h.files);
      expected = subst (λ gs. IsMany c.add_if-3.new.self (many_of gs)) (rows_more expected_kind ns p ch l is _ c.expected_kind_of.ensures) (c.in_ok-add_if-3.ensures (rows_of expected_kind ns) h.expected);
      unlooked = subst (IsCount c.add_count-self.result) (count_more (λ m. is_unlooked m.at.change) ns n c.is_unlooked.result c.is_unlooked.ensures)
          (c.add_count-self.ensures _ _ h.unlooked (c.one_if-unlooked.ensures ∙ sym (kept_one c.is_unlooked.result)));
      repaired = subst (IsCount c.add_count-self-2.result) (count_more (λ m. is_repaired m.at.change) ns n c.is_repaired.result c.is_repaired.ensures)
          (c.add_count-self-2.ensures _ _ h.repaired (c.one_if-repaired.ensures ∙ sym (kept_one c.is_repaired.result)));
      repaired_shown = subst (λ ls. map line_of c.keep_repaired.new.shown.items ≡ in_order (take most_shown ls)) (lines_more ns n c.is_repaired-2.result c.is_repaired-2.ensures)
          (c.in_ok-keep_repaired.ensures (repaired_lines ns) h.repaired_shown);
      appeared = subst (IsCount c.add_count-self-3.result) (count_more is_new_finding ns n c.is_new.result (c.is_new.ensures p l))
          (c.add_count-self-3.ensures _ _ h.appeared (c.one_if-appeared.ensures ∙ sym (kept_one c.is_new.result)));
      known = subst (IsCount c.add_count-self-4.result) (count_more is_known_finding ns n c.is_new_and_known.result (c.is_new_and_known.ensures p l))
          (c.add_count-self-4.ensures _ _ h.known (c.one_if-known.ensures ∙ sym (kept_one c.is_new_and_known.result)));
      rewritten = subst (IsCount c.sum_of-self.result.rewritten) (count_more (λ m. is_rewritten m.at.change) ns n (is_rewritten ch) refl)
          (c.sum_of-self.ensures.rewritten _ _ h.rewritten (c.moved_by.ensures.rewritten ∙ sym (kept_one (is_rewritten ch))));
      went_back = subst (IsCount c.sum_of-self.result.went_back) (count_more (λ m. is_back m.at.change) ns n (is_back ch) refl)
          (c.sum_of-self.ensures.went_back _ _ h.went_back (c.moved_by.ensures.went_back ∙ sym (kept_one (is_back ch))));
      newer = subst (IsCount c.sum_of-self.result.newer) (count_more (λ m. is_newer m.at.change) ns n (is_newer ch) refl)
          (c.sum_of-self.ensures.newer _ _ h.newer (c.moved_by.ensures.newer ∙ sym (kept_one (is_newer ch))));
    }
