use Rattle.std.proofs.Common.{◌≡◌, ◌<◌, true, length, subst, arith, rules}
use Rattle.std.specs.Ordering.{is_lt}
use Rattle.ocfl_tree.specs.Place.{place_cmp}
use Rattle.ocfl_inventory.proofs.TableSearch.{scan_begins, scan_stops}
use Rattle.ocfl_inventory.proofs.table.first_above_from.Goals as goal

pub loop-index-init : goal.loop-index-init
loop-index-init c = scan_begins c.args.place.now c.args.triples.now c.args.first c.requires.found

pub returns-then-is_lt-clause-found : goal.returns-then-is_lt-clause-found
returns-then-is_lt-clause-found c =
    let within : c.loop-index.index < length c.args.triples.now = omega arith in
    let above : is_lt (place_cmp c.args.place.now c.index-triples-index.result.path) ≡ true = search rules in
    scan_stops c.args.place.now c.args.triples.now c.loop-index.index c.index-triples-index.result c.requires.ascending within c.loop-index.invariant
    (subst (λ t. is_lt (place_cmp c.args.place.now t.path) ≡ true) c.index-triples-index.is above)
