-- Gathering the listed paths of a block: kept ones with their digest, bad ones as their texts.
use Rattle.std.specs.Prelude.{◌≡◌, List, ◌++◌, Bool, map, filter, flat_map, is_some, string_bytes}
use Rattle.ocfl_tree.specs.{Place.{Text}, Path.{elements}}
use Rattle.ocfl_digest.specs.declared.algorithm.Algorithm.{Algorithm}
use Rattle.ocfl_inventory.specs.{DigestText.{folded}, Reading.{Block}}
use Rattle.ocfl_inventory.specs.{ListedPath.{is_kept, path_fault}, Table.{Triple}}
use Rattle.ocfl_inventory.specs.declared.gather.Source.{Source}
use Rattle.ocfl_inventory.specs.declared.gather.Gathered.{Gathered}

abbrev pub is_bad : Text → Text → Bool
is_bad content t = is_some (path_fault content t)

abbrev pub triple_of : Bool → Algorithm → Text → Text → Triple
triple_of fixity a digest t = record { path = elements t; named = record { fixity = fixity; algorithm = a; digest = digest } }

-- a digest with each kept path of a list of texts
abbrev pub triples_in : Bool → Text → Algorithm → Text → List Text → List Triple
triples_in fixity content a digest ts = map (triple_of fixity a digest) (filter (is_kept content) ts)

-- the same for a key with the texts that it lists
abbrev pub key_triples : Bool → Text → Algorithm → Text × List Text → List Triple
key_triples fixity content a e = triples_in fixity content a (folded e.0) e.1

abbrev pub bad_texts : Text → Block → List Text
bad_texts content b = flat_map (λ e. filter (is_bad content) e.1) b

-- what texts give that a source lists beside a digest, kept and bad
abbrev pub kept_from : Source → Text → List Text → List Triple
kept_from source digest ts = triples_in source.fixity source.content.now source.algorithm digest ts

abbrev pub bad_from : Source → List Text → List Text
bad_from source ts = filter (is_bad source.content.now) ts

-- the kept paths and the bad texts that are found further
pub record Gathers (old new : Gathered) (kept : List Triple) (texts : List Text) : Type 0 where
  pub triples : new.triples.items ≡ old.triples.items ++ kept
  pub bad : map string_bytes new.bad.items ≡ map string_bytes old.bad.items ++ texts
