-- What stored digests say.
use Rattle.std.specs.Prelude.{string_bytes, List, if◌then◌else◌, Some, None, filter_map}
use Rattle.ocfl_tree.specs.Place.{Place, place_eq}
use Rattle.ocfl_inventory.specs.{Table.{Named, Triple}, declared.triple.Named.{Named as MadeNamed}}

abbrev pub named_view : MadeNamed → Named
named_view n = record { fixity = n.fixity; algorithm = n.algorithm; digest = string_bytes n.digest }

-- those of the triples that are a place's
abbrev pub named_among : List Triple → Place → List Named
named_among es q = filter_map (λ e. if place_eq e.path q then Some e.named else None) es
