use Rattle.std.proofs.Common.{◌++◌, ◌∙◌, map, refl}
use Rattle.ocfl_inventory.specs.Remark.{remark_view}
use Rattle.ocfl_rules.specs.Inventories.{unexpected_notes}
use Rattle.ocfl_item.specs.Pending.{expected_view}
use Rattle.ocfl_item.proofs.LinesLaws.{has_more}
use Rattle.ocfl_item.proofs.file_lines.hashed_lines.Goals as goal

pub returns : goal.returns
returns c = record {
  place = c.in_ok-add_clean_file.ensures.place ∙ c.in_ok-add_each_unexpected.ensures.place;
  lines = λ bytes has count.
      let known = map remark_view c.args.known.remarks.items in
      let more = unexpected_notes bytes (map expected_view c.args.expected.now) in
      let all = has_more c.args.known c.add_each_unexpected.new.lines known more refl (c.in_ok-add_each_unexpected.ensures.lines bytes has) in
      c.in_ok-add_clean_file.ensures.lines bytes (known ++ more) count all;
}
