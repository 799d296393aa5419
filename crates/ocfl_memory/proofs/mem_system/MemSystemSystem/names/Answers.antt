use Rattle.std.proofs.Common.{rules, ◌≡◌}
use Rattle.ocfl_memory.proofs.Systems.{names_are}
use Rattle.ocfl_memory.proofs.mem_system.MemSystemSystem.names.Goals as goal

pub returns-in-Some-2 : goal.returns-in-Some-2
returns-in-Some-2 g c = λ told p is.
    let here : c.in-Some.here ≡ p = search rules in
    let listing = rw (c.in-Some-2.is, here) at c.in_ok-entries.ensures in
    rw (c.new.ensures) (names_are _ p _ listing)
