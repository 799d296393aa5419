use Rattle.std.proofs.Common.{◌<◌, ap, arith}
use Rattle.ocfl_cursor.proofs.Paths.{slashes, few_slashes, short_place}
use Rattle.ocfl_cursor.proofs.decoding.read_short_place.Goals as goal

pub returns-then-count_slashes-ge-MAX_NAMES-clause-bad : goal.returns-then-count_slashes-ge-MAX_NAMES-clause-bad
returns-then-count_slashes-ge-MAX_NAMES-clause-bad c = λ e p h l f.
    let few = few_slashes p h l in
    let same = ap slashes f in
    omega (arith, few, same)

pub returns-clause-names : goal.returns-clause-names
returns-clause-names c =
    let few : slashes c.args.path.now < 255 = omega arith in
    short_place c.args.path.now c.read_place.result few c.read_place.ensures.ok c.read_place.ensures.names
