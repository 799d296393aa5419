-- The digests that an inventory names for the paths of its object (OCFL 1.1, 3.5.2 Manifest and
-- 3.5.4 Fixity).
use Rattle.std.specs.Prelude.{◌≤◌, ◌<◌, ◌^◌, length, List, ◌++◌, Bool, true, false, if◌then◌else◌, Option, Some, None, Ok, Err, map, filter, filter_map, flat_map}
use Rattle.std.specs.{List.{AllByRecursion}, Ordering.{bool_cmp, ordering_then}}
use Rattle.std.specs.declared.cmp.Ordering.{Ordering}
use Rattle.ocfl_tree.specs.Place.{Text, Place, text_cmp, place_cmp, place_eq}
use Rattle.ocfl_tree.specs.{Ascending.{IsAscending, ascending}, Path.{elements}}
use Rattle.ocfl_digest.specs.{Algorithm.{algorithm_cmp}, declared.algorithm.Algorithm.{Algorithm}}
use Rattle.ocfl_inventory.specs.DigestText.{folded}
use Rattle.ocfl_inventory.specs.Reading.{Reading, Block, Inventory, inventory_of}
use Rattle.ocfl_inventory.specs.ListedPath.{is_kept, max_elements}

-- which block of an inventory names a digest
abbrev pub by_manifest : Bool
by_manifest = false

abbrev pub by_fixity : Bool
by_fixity = true

-- a digest that an inventory names for a path, folded
pub record Named : Type 0 where
  pub fixity : Bool
  pub algorithm : Algorithm
  pub digest : Text

-- the manifest before fixity, then by the algorithm's name, then by the digest
abbrev pub named_cmp : Named → Named → Ordering
named_cmp a b = ordering_then (bool_cmp a.fixity b.fixity) (ordering_then (algorithm_cmp a.algorithm b.algorithm) (text_cmp a.digest b.digest))

-- a path with one of its digests
pub record Triple : Type 0 where
  pub path : Place
  pub named : Named

-- by the path, then as named digests go
abbrev pub triple_cmp : Triple → Triple → Ordering
triple_cmp a b = ordering_then (place_cmp a.path b.path) (named_cmp a.named b.named)

-- what the manifest and the supported algorithms of the fixity block say: the triples ascending,
-- each once
pub record Table : Type 0 where
  pub algorithm : Algorithm
  pub content : Text
  pub triples : List Triple

abbrev pub named_digest : Bool → Algorithm → Text → Named
named_digest fixity a key = record { fixity = fixity; algorithm = a; digest = folded key }

-- each key's digest with each kept path that it lists
abbrev pub triples_of : Bool → Text → Algorithm → Block → List Triple
triples_of fixity content a b = flat_map (λ e. map (λ t. record { path = elements t; named = named_digest fixity a e.0 }) (filter (is_kept content) e.1)) b

abbrev pub table_from : Inventory → Table
table_from i = record {
  algorithm = i.algorithm;
  content = i.content;
  triples = ascending triple_cmp (triples_of by_manifest i.content i.algorithm i.manifest ++ flat_map (λ e. triples_of by_fixity i.content e.0 e.1) i.fixity);
}

abbrev pub table_from_reading : Reading Inventory → Option Table
table_from_reading (Ok i) = Some (table_from i)
table_from_reading (Err n) = None

-- the table of an inventory's bytes, and none if a line stops
abbrev pub table_of : Text → Option Table
table_of bytes = table_from_reading (inventory_of bytes)

-- the digests that a table names for a path, in order
abbrev pub named : Table → Place → List Named
named t q = filter_map (λ e. if place_eq e.path q then Some e.named else None) t.triples

-- the paths that a table names, ascending; a path occurs as often as it has digests
abbrev pub paths_of : Table → List Place
paths_of t = map (λ e. e.path) t.triples

-- a table as it may be read of any bytes
pub record IsFit (t : Table) : Type 0 where
  pub short : AllByRecursion (λ q. length q ≤ max_elements) (paths_of t)
  pub ascends : IsAscending triple_cmp t.triples
  pub few : length t.triples < 2 ^ 64
