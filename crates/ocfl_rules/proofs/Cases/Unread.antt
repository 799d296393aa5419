-- Worked cases: content that can't be read.
use Rattle.std.proofs.Common.{◌≡◌, ap, ℕ, ◌+◌, List, [], ◌∷◌, codes, refl, Bool, true, false, map, replicate, Some, None}
use Prim.Native.String.{String}
use Rattle.ocfl_tree.specs.{Place.{Text}, StorageRoot.{StorageRoot}}
use Rattle.ocfl_tree.specs.declared.store.Opening.{Opening}
use Rattle.ocfl_report.specs.{Line.{Item, found}, declared.code.Code.TheVariants.{S08}, Text.{text}}
use Rattle.ocfl_report.specs.declared.further.Further.TheVariants.{Nothing}
use Rattle.ocfl_inventory.specs.Note.{plain}
use Rattle.ocfl_digest.specs.declared.algorithm.Algorithm.TheVariants.{Sha256}
use Rattle.ocfl_rules.specs.Audit.{Unread, given_by, audit, total_cost}
use Rattle.ocfl_rules.specs.Due.{item_places, due, items_at, hashed_among}
use Rattle.ocfl_rules.specs.{Trail.{unread_of, content_trail}, Runs.{runs, of_budget}}
use Rattle.ocfl_rules.proofs.Cases.OnLiterals.{audit_on_literals}
use Rattle.ocfl_rules.proofs.Cases.Trees.{quickly, three_files_content, three_files_listing, Case, AllAre, place, text_at, bytes_at, folder, sha256_object, f_is_abc, key, listing, listing_with, lists_f, three_files, abc, item, the_root, clean, right}
use Rattle.ocfl_rules.proofs.Cases.Quiet.{quick_256, audit_256, told}

-- what could not be read if the file at this place gave only n bytes
abbrev gave : String → ℕ → Unread
gave p given = (place p, given) ∷ []

given_by_each : (given_by ((place "a", 2) ∷ (place "b", 3) ∷ []) (place "b") ≡ Some 3) × (given_by ((place "a", 2) ∷ (place "b", 3) ∷ []) (place "c") ≡ None)
given_by_each = (refl, refl)

-- the text of the audit if one file of an object with a right sidecar gave only n bytes
abbrev reports_unread : String → Text → StorageRoot → String → ℕ → String → Case
reports_unread name inventory more p given t =
    told name (audit Nothing (sha256_object inventory more) (gave p given)) (quick_256 inventory more (gave p given)) (audit_256 inventory more (gave p given)) (codes t)

-- the item of a file that could not be read, by its cost
abbrev unread : String → ℕ → Item
unread p cost = item p cost (plain S08 ∷ [])

-- ---- a long file `f` whose read fails after 65,536 bytes, and a short one

abbrev long_and_short_listing : Text
long_and_short_listing = listing (key (abc Sha256) "[\"v1/content/f\",\"v1/content/g\"]" ∷ [])

abbrev long_and_short_content : StorageRoot
long_and_short_content = bytes_at "o/v1/content/f" (replicate 65537 97) ∷ text_at "o/v1/content/g" "abc" ∷ []

abbrev long_and_short : StorageRoot
long_and_short = sha256_object long_and_short_listing long_and_short_content

-- what the audit then gives, by the cost of `f`
abbrev other_right : ℕ → List Item
other_right cost = the_root ∷ clean "o" ∷ unread "o/v1/content/f" cost ∷ right "o/v1/content/g" 4 "3" ∷ []

f_unread : (given : ℕ) → audit Nothing long_and_short (gave "o/v1/content/f" given) ≡ other_right (given + 1)
unfolding audit_on_literals
f_unread given = audit_256 long_and_short_listing long_and_short_content (gave "o/v1/content/f" given)

cost_where_read_fails : audit Nothing long_and_short (gave "o/v1/content/f" 65536) ≡ other_right 65537
cost_where_read_fails = f_unread 65536

cost_where_open_fails : audit Nothing long_and_short (gave "o/v1/content/f" 0) ≡ other_right 1
cost_where_open_fails = f_unread 0

text_where_a_long_file_is_unread : (text (other_right 65537) ≡ codes "ok\t.\t-\nok\to\t-\nS08\to/v1/content/f\t-\nok\to/v1/content/g\t3\n") × (text (other_right 1) ≡ text (other_right 65537))
text_where_a_long_file_is_unread = (refl, refl)

unread_file_is_finding : found (unread "o/v1/content/f" 1 ∷ []) ≡ true
unread_file_is_finding = refl

each_is_opened_once : hashed_among Nothing long_and_short ([] ∷ place "o" ∷ place "o/v1/content/f" ∷ place "o/v1/content/g" ∷ []) ≡ place "o/v1/content/f" ∷ place "o/v1/content/g" ∷ []
unfolding audit_on_literals hashed_among
each_is_opened_once = refl

-- ---- three files, of which the first fails

-- what the audit then gives, by the cost of the first
abbrev others_right : ℕ → List Item
others_right cost = the_root ∷ clean "o" ∷ unread "o/v1/content/a" cost ∷ right "o/v1/content/b" 1 "0" ∷ right "o/v1/content/c" 4 "3" ∷ []

first_unread : (given : ℕ) → audit Nothing three_files (gave "o/v1/content/a" given) ≡ others_right (given + 1)
unfolding audit_on_literals
first_unread given = audit_256 three_files_listing three_files_content (gave "o/v1/content/a" given)

-- some bytes, and all, before the device failed
first_gave_two_or_all : (audit Nothing three_files (gave "o/v1/content/a" 2) ≡ others_right 3) × (audit Nothing three_files (gave "o/v1/content/a" 3) ≡ others_right 4)
first_gave_two_or_all = (first_unread 2, first_unread 3)

text_where_first_is_unread : (text (others_right 3) ≡ codes "ok\t.\t-\nok\to\t-\nS08\to/v1/content/a\t-\nok\to/v1/content/b\t0\nok\to/v1/content/c\t3\n")
    × (text (others_right 4) ≡ text (others_right 3))
text_where_first_is_unread = (refl, refl)

cost_where_first_gave_two : total_cost (others_right 3) ≡ 8
cost_where_first_gave_two = refl

runs_where_first_gave_two : (map total_cost (runs (others_right 3) (map of_budget (replicate 5 3))) ≡ 3 ∷ 5 ∷ [])
    × (map total_cost (runs (others_right 3) (map of_budget (replicate 5 4))) ≡ 4 ∷ 4 ∷ [])
runs_where_first_gave_two = (refl, refl)

-- ---- what gives way, and what stays

-- `f` is named by fixity alone
abbrev fixity_alone_listing : Text
fixity_alone_listing = listing_with [] (codes "{\"md5\":{\"900150983cd24fb0d6963f7d28e17f72\":[\"v1/content/f\"]}}")

abbrev other_lines_of_unread_files_cases : List Case
other_lines_of_unread_files_cases =
    -- the lines of its digests give way
    reports_unread "wrong_file_unread" (listing_with lists_f (codes "{\"md5\":{\"x\":[\"v1/content/f\"]}}")) (text_at "o/v1/content/f" "" ∷ []) "o/v1/content/f"
    0 "ok\t.\t-\nok\to\t-\nS08\to/v1/content/f\t-\n" ∷
    -- that the manifest does not name it stays
    reports_unread "unlisted_file_unread" fixity_alone_listing f_is_abc "o/v1/content/f" 0 "ok\t.\t-\nok\to\t-\nE023\to/v1/content/f\t-\nS08\to/v1/content/f\t-\n" ∷
    -- a file that nothing names is never opened
    reports_unread "unnamed_file_stays_unnamed" (listing []) f_is_abc "o/v1/content/f" 2 "ok\t.\t-\nok\to\t-\nE023\to/v1/content/f\t-\n" ∷
    -- nor is what is no file
    reports_unread "missing_file_stays_missing" (listing lists_f) [] "o/v1/content/f" 2 "ok\t.\t-\nok\to\t-\nE092\to/v1/content/f\tsha256 missing\n" ∷
    []

other_lines_of_unread_files : AllAre other_lines_of_unread_files_cases
unfolding audit_on_literals
other_lines_of_unread_files = quickly other_lines_of_unread_files_cases refl

cost_of_unlisted_file_unread : map (λ i. i.cost) (audit Nothing (sha256_object fixity_alone_listing f_is_abc) (gave "o/v1/content/f" 0)) ≡ 0 ∷ 0 ∷ 1 ∷ []
unfolding audit_on_literals
cost_of_unlisted_file_unread = ap (map (λ i. i.cost)) (audit_256 fixity_alone_listing f_is_abc (gave "o/v1/content/f" 0))

cost_of_unnamed_file : total_cost (audit Nothing (sha256_object (listing []) f_is_abc) (gave "o/v1/content/f" 2)) ≡ 0
unfolding audit_on_literals
cost_of_unnamed_file = refl

cost_of_listed_directory_unread : total_cost (audit Nothing (sha256_object (listing lists_f) (folder "o/v1/content/f" ∷ [])) (gave "o/v1/content/f" 2)) ≡ 0
unfolding audit_on_literals
cost_of_listed_directory_unread = refl

-- ---- what openings show

-- an opening of a place, with what it gave and whether it failed
abbrev opening : String → ℕ → Bool → Opening
opening p given failed = record { place = place p; given = given; failed = failed }

-- of a whole audit in which `a` failed after two bytes
abbrev openings : List Opening
openings =
    opening "0=ocfl_1.1" 9 false ∷ opening "o/0=ocfl_object_1.1" 16 false ∷ opening "o/inventory.json" 300 false ∷ opening "o/inventory.json.sha256" 80 false
    ∷ opening "o/v1/content/a" 2 true ∷ opening "o/v1/content/b" 0 false ∷ opening "o/v1/content/c" 3 false ∷ []

openings_of_content : content_trail Nothing three_files openings ≡ place "o/v1/content/a" ∷ place "o/v1/content/b" ∷ place "o/v1/content/c" ∷ []
unfolding audit_on_literals
openings_of_content = refl

unread_by_the_openings : unread_of Nothing three_files openings ≡ (place "o/v1/content/a", 2) ∷ []
unfolding audit_on_literals
unread_by_the_openings = refl

-- an inventory, a sidecar or a declaration that fails is no content that fails
failed_inventory_is_no_unread_content : unread_of Nothing three_files
    (opening "0=ocfl_1.1" 9 true ∷ opening "o/0=ocfl_object_1.1" 1 true ∷ opening "o/inventory.json" 0 true ∷ opening "o/inventory.json.sha512" 0 true ∷ []) ≡ []
unfolding audit_on_literals
failed_inventory_is_no_unread_content = refl

items_by_the_openings : text (items_at Nothing three_files openings (item_places Nothing three_files)) ≡ codes "ok\t.\t-\nok\to\t-\nS08\to/v1/content/a\t-\nok\to/v1/content/b\t0\nok\to/v1/content/c\t3\n"
unfolding audit_on_literals item_places items_at
items_by_the_openings = refl

-- all places at the start, and those behind one
places_that_are_due : (due Nothing three_files None ≡ [] ∷ place "o" ∷ place "o/v1/content/a" ∷ place "o/v1/content/b" ∷ place "o/v1/content/c" ∷ [])
    × (due Nothing three_files (Some (place "o/v1/content/a")) ≡ place "o/v1/content/b" ∷ place "o/v1/content/c" ∷ [])
unfolding audit_on_literals item_places due
places_that_are_due = (refl, refl)
