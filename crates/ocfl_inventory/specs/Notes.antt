-- The lines about the bytes of an inventory, but for its sidecars (OCFL 1.1, 3.5 Inventory).
use Rattle.std.specs.Prelude.{nat_le, List, [], ◌∷◌, ◌++◌, Bool, Option, option_map, Ok, Err, map, filter, filter_map, flat_map, count_by}
use Rattle.std.specs.declared.cmp.Ordering.{Ordering}
use Rattle.ocfl_tree.specs.Place.{Text, Place, text_cmp, text_eq, place_cmp, begins}
use Rattle.ocfl_tree.specs.{Ascending.{ascending}, Path.{elements, slashed}}
use Rattle.ocfl_inventory.specs.{Note.{note, Note}, DigestText.{folded}}
use Rattle.ocfl_inventory.specs.Reading.{Reading, Block, Inventory, inventory_of}
use Rattle.ocfl_inventory.specs.ListedPath.{path_fault, is_kept}
use Rattle.ocfl_report.specs.declared.code.Code.TheVariants.{E096, E097, E101, S07}
use Rattle.ocfl_digest.specs.{Algorithm.{algorithm_name}, declared.algorithm.Algorithm.{Algorithm}}

-- each element that occurs twice or more, once, ascending
abbrev pub repeated : {A : Type 0} → (A → A → Ordering) → (A → A → Bool) → List A → List A
repeated cmp eq xs = filter (λ x. nat_le 2 (count_by (eq x) xs)) (ascending cmp xs)

abbrev pub folded_keys : Block → List Text
folded_keys b = map (λ e. folded e.0) b

-- the digests that several keys have, in either case of letters
abbrev pub repeated_digests : Block → List Text
repeated_digests b = repeated text_cmp text_eq (folded_keys b)

-- all texts that a block lists
abbrev pub listed : Block → List Text
listed b = flat_map (λ e. e.1) b

-- the line of a path text, if it is bad
abbrev pub fault_note : Text → Text → Option Note
fault_note content t = option_map (λ c. note c t) (path_fault content t)

-- a line for each bad path text, once, ascending by bytes
abbrev pub fault_notes : Text → List Text → List Note
fault_notes content ts = filter_map (fault_note content) (ascending text_cmp ts)

-- the paths that are kept, as often as they are listed
abbrev pub kept_paths : Text → Block → List Place
kept_paths content b = map elements (filter (is_kept content) (listed b))

-- a path that two or more of the listed ones are, or begin with it
abbrev pub is_conflict : List Place → Place → Bool
is_conflict ps p = nat_le 2 (count_by (begins p) ps)

abbrev pub conflicts : List Place → List Place
conflicts ps = filter (is_conflict ps) (ascending place_cmp ps)

-- a line for each digest that several keys of an algorithm's fixity block have
abbrev pub repeated_notes : Algorithm × Block → List Note
repeated_notes e = map (λ d. note E097 (algorithm_name e.0 ++ 32 ∷ d)) (repeated_digests e.1)

abbrev pub inventory_notes : Inventory → List Note
inventory_notes i =
    map (note E096) (repeated_digests i.manifest)
    ++ flat_map repeated_notes i.fixity
    ++ fault_notes i.content (listed i.manifest)
    ++ fault_notes i.content (flat_map (λ e. listed e.1) i.fixity)
    ++ map (λ p. note E101 (slashed p)) (conflicts (kept_paths i.content i.manifest))
    ++ map (note S07) i.unsupported

-- the line that stops, or all that do not
abbrev pub reading_notes : Reading Inventory → List Note
reading_notes (Ok i) = inventory_notes i
reading_notes (Err n) = n ∷ []

abbrev pub notes_of : Text → List Note
notes_of bytes = reading_notes (inventory_of bytes)
