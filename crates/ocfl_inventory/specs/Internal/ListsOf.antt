-- What an inventory lists.
use Rattle.std.specs.Prelude.{◌≡◌, List, ◌++◌, ◌∷◌, Option, Some, None, map, flat_map, string_bytes}
use Rattle.ocfl_tree.specs.{Place.{Text}, Path.{slashed}}
use Rattle.ocfl_inventory.specs.{Note.{note, Note}, Reading.{Block}}
use Rattle.ocfl_inventory.specs.Notes.{kept_paths, conflicts, fault_notes, repeated_digests, repeated_notes}
use Rattle.ocfl_inventory.specs.Table.{Triple, by_fixity, by_manifest, triples_of}
use Rattle.ocfl_inventory.specs.{Internal.Gathered.{bad_texts}, declared.gather.Listed.{Listed}}
use Rattle.ocfl_report.specs.declared.code.Code.TheVariants.{E096, E097, E101, S07}
use Rattle.ocfl_digest.specs.{Algorithm.{algorithm_name}, declared.algorithm.Algorithm.{Algorithm}}

-- all triples of a manifest and of a fixity block, as often as they are listed
abbrev pub all_triples : Text → Algorithm → Block → List (Algorithm × Block) → List Triple
all_triples content a m fs = triples_of by_manifest content a m ++ flat_map (λ e. triples_of by_fixity content e.0 e.1) fs

-- the texts of listed paths that have lines
pub record AreListed (content : Text) (m : Block) (fs : List (Algorithm × Block)) (l : Listed) : Type 0 where
  pub manifest_bad : map string_bytes l.manifest_bad.items ≡ bad_texts content m
  pub fixity_bad : map string_bytes l.fixity_bad.items ≡ flat_map (λ e. bad_texts content e.1) fs
  pub conflicting : l.conflicting.items ≡ conflicts (kept_paths content m)

-- the line of a digest that several keys have, of the manifest or of an algorithm of fixity
abbrev pub repeated_note : Option Algorithm → Text → Note
repeated_note None = note E096
repeated_note (Some a) = λ d. note E097 (algorithm_name a ++ 32 ∷ d)

-- the lines of the digests that several keys have
abbrev pub all_repeated : Block → List (Algorithm × Block) → List Note
all_repeated m fs = map (note E096) (repeated_digests m) ++ flat_map repeated_notes fs

-- the other lines, of what was listed
abbrev pub other_notes : Text → Listed → List Text → List Note
other_notes content l unsupported =
    fault_notes content (map string_bytes l.manifest_bad.items)
    ++ fault_notes content (map string_bytes l.fixity_bad.items)
    ++ map (λ p. note E101 (slashed p)) l.conflicting.items
    ++ map (note S07) unsupported
