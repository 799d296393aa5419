use Rattle.std.proofs.Common.{ap}
use Rattle.std.specs.Option.{option_map}
use Rattle.ocfl_disk.specs.Names.{Stored}
use Rattle.ocfl_disk.proofs.Fronts.{front_found, none_found}
use Rattle.ocfl_disk.proofs.beside.read_front.Goals as goal

pub returns-in_ok-read_front-in-Some-clause-value : goal.returns-in_ok-read_front-in-Some-clause-value
returns-in_ok-read_front-in-Some-clause-value g c = λ told is.
    front_found c.args.there (g.D.Disk.state c.args.disk.now).seen.names _ _ _ _ 1048577 _ is (c.in_ok-file.ensures.found told) (ap (option_map g.D.Disk.number) c.in-Some.is)
    (ap (λ (s : Stored). s.bytes) (c.open.ensures.calm told).seen) (c.in_ok-read_front-in-Some.ensures.value told)

pub returns-in-None-clause-value : goal.returns-in-None-clause-value
returns-in-None-clause-value g c = λ told is.
    none_found c.args.there (g.D.Disk.state c.args.disk.now).seen.names (g.D.Disk.state c.args.disk.now).seen.bytes _ 1048577 is (c.in_ok-file.ensures.found told) (ap (option_map g.D.Disk.number) c.in-None.is)
