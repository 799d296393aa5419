use Rattle.std.proofs.Common.{ap, sym, refl}
use Rattle.std.specs.Prelude.{string_bytes}
use Rattle.ocfl_mem_disk.specs.Paths.{JoinedName}
use Rattle.ocfl_mem_disk.proofs.Parted.{name_at, never_closed, never_listed, never_other, never_packed, never_part}
use Rattle.ocfl_mem_disk.proofs.mem_parts.MemPartsPartCalls.has.Goals as goal

pub returns-in-Some-clause-part : goal.returns-in-Some-clause-part
returns-in-Some-clause-part c = λ told part is. never_part (string_bytes c.args.self.now.path) c.args.path.now (record { digits = c.in-Some.name.digits.now; whole = c.in-Some.name.whole }) part c.in-Some.ensures.found is

pub returns-in-Some-clause-closed : goal.returns-in-Some-clause-closed
returns-in-Some-clause-closed c = λ told cycle part whole is. never_closed (string_bytes c.args.self.now.path) c.args.path.now (record { digits = c.in-Some.name.digits.now; whole = c.in-Some.name.whole }) cycle part whole c.in-Some.ensures.found is

pub returns-in-Some-clause-said : goal.returns-in-Some-clause-said
returns-in-Some-clause-said c = λ told cycle part is. never_listed (string_bytes c.args.self.now.path) c.args.path.now (record { digits = c.in-Some.name.digits.now; whole = c.in-Some.name.whole }) cycle part c.in-Some.ensures.found is

pub returns-in-Some-clause-packed : goal.returns-in-Some-clause-packed
returns-in-Some-clause-packed c = λ told cycle whole is. never_packed (string_bytes c.args.self.now.path) c.args.path.now (record { digits = c.in-Some.name.digits.now; whole = c.in-Some.name.whole }) cycle whole c.in-Some.ensures.found is

pub returns-in-Some-clause-joined : goal.returns-in-Some-clause-joined
returns-in-Some-clause-joined c = λ told cycle whole fits is.
    let name = name_at (string_bytes c.args.self.now.path) c.args.path.now (record { digits = c.in-Some.name.digits.now; whole = c.in-Some.name.whole }) cycle whole fits c.in-Some.ensures.found is in
    rw (sym (ap (λ (n : JoinedName). n.whole) name)) (c.has_joined.ensures.value cycle fits (ap (λ (n : JoinedName). n.digits) name))

pub returns-in-None-clause-joined : goal.returns-in-None-clause-joined
returns-in-None-clause-joined c = λ told cycle whole fits is. never_other (string_bytes c.args.self.now.path) c.args.path.now cycle whole fits (c.in-None.ensures.none refl) is
