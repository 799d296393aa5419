use Rattle.std.proofs.Common.{◌<◌, ◌≡◌, Some, None, arith, length, is_ok, string_bytes, option_map, rules}
use Rattle.ocfl_files.specs.Reasons.{words_on}
use Rattle.ocfl_files.proofs.Reasoning.{kept_more, not_found}
use Rattle.ocfl_files.proofs.reasons.Reasons.keep_first.Goals as goal

pub returns-in-Some-clause-kept : goal.returns-in-Some-clause-kept
returns-in-Some-clause-kept c =
    let few = c.if-len-ge-MOST.false in
    let long = c.len.ensures in
    let first : words_on c.args.self.now.kept.items c.args.place.now ≡ None = not_found c.find.result _ c.find.ensures (search rules) in
    kept_more c.args.place.now _ c.args.self.now.kept.items c.push.new.self.items c.in-Some.reason (is_ok c.push.result) (omega (arith, few, long)) first c.in-Some.ensures.place c.in-Some.ensures.words c.push.ensures.items
