use Rattle.std.proofs.Common.{ap, sym}
use Rattle.std.specs.Prelude.{string_bytes}
use Rattle.ocfl_mem_disk.specs.Paths.{JoinedName}
use Rattle.ocfl_mem_disk.proofs.Parted.{name_at}
use Rattle.ocfl_mem_disk.proofs.mem_parts.MemPartsPartCalls.put.Goals as goal

pub returns-in-Some-clause-closes : goal.returns-in-Some-clause-closes
returns-in-Some-clause-closes c = λ told cycle whole fits made is new ready.
    let name = name_at (string_bytes c.args.self.now.path) c.args.path.now (record { digits = c.in-Some.name.digits.now; whole = c.in-Some.name.whole }) cycle whole fits c.in-Some.ensures.found is in
    rw (sym (ap (λ (n : JoinedName). n.whole) name)) (c.put_joined.ensures cycle fits (ap (λ (n : JoinedName). n.digits) name) ready)
