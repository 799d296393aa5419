use Rattle.std.proofs.Common.{◌∙◌, ap, option_map, string_bytes}
use Rattle.ocfl_mem_disk.specs.{Closings.{gone_digits}, Paths.{has_file}}
use Rattle.ocfl_mem_disk.proofs.Closing.{digits_so, found_so, is_there, never_list, never_packed, packed_so}
use Rattle.ocfl_mem_disk.proofs.mem_closings.MemClosingCallsClosingCalls.has.Goals as goal

pub returns-in_default-clause-list : goal.returns-in_default-clause-list
returns-in_default-clause-list c = λ told cycle below is. never_list (string_bytes c.args.self.now.closed.path) c.args.path.now cycle (c.in_default.ensures ∙ ap (λ f. gone_digits f c.args.path.now) c.as_str.ensures.value) is

pub returns-in_default-clause-packed : goal.returns-in_default-clause-packed
returns-in_default-clause-packed c = λ told cycle below is. c.has_file.ensures ∙ ap (λ f. has_file f c.args.path.now) c.as_slice.ensures.value ∙ packed_so c.args.self.now.closed c.args.self.now.calls.items c.args.path.now cycle is

pub returns-in-Some-number_in-clause-list : goal.returns-in-Some-number_in-clause-list
returns-in-Some-number_in-clause-list c = λ told cycle below is.
    let of = digits_so (string_bytes c.args.self.now.closed.path) c.args.path.now c.in-Some.digits.now c.in-Some-number_in.cycle (c.in-Some.ensures ∙ ap (λ f. gone_digits f c.args.path.now) c.as_str.ensures.value) c.in-Some-number_in.ensures in
    c.is_some.ensures ∙ is_there c.list_at.result _ (found_so c.args.self.now.closed c.args.self.now.calls.items c.args.path.now c.in-Some-number_in.cycle cycle (option_map (λ b. b.now) c.list_at.result) of c.list_at.ensures is)

pub returns-in-Some-number_in-clause-packed : goal.returns-in-Some-number_in-clause-packed
returns-in-Some-number_in-clause-packed c = λ told cycle below is. never_packed (string_bytes c.args.self.now.closed.path) c.args.path.now c.in-Some.digits.now cycle (c.in-Some.ensures ∙ ap (λ f. gone_digits f c.args.path.now) c.as_str.ensures.value) is
