-- Worked cases: what was taken of items, and what a stop left.
use Rattle.std.proofs.Common.{◌≡◌, ◌∙◌, ◌+◌, refl, sym, ap, inl, inr, arith, ℕ, length, List, [], ◌∷◌, ◌++◌, codes, true, false, Bool, Some, None}
use Rattle.ocfl_tree.specs.{Place.{Place}, StorageRoot.{StorageRoot}, Store.{Store, empty_store}, Calls.{opening}}
use Rattle.ocfl_tree.specs.declared.store.Opening.{Opening}
use Rattle.ocfl_report.specs.{Line.{Item}, Text.{text}}
use Rattle.ocfl_report.specs.declared.code.Code.TheVariants.{E092}
use Rattle.ocfl_report.specs.declared.further.Further.TheVariants.{Nothing, Inventories}
use Rattle.ocfl_inventory.specs.Note.{note}
use Rattle.ocfl_rules.specs.{Audit.{audit}, Between.{looked_between}, Due.{hashed_among}, Inventories.{is_hashed}, Parts.{whole}}
use Rattle.ocfl_rules.specs.Trail.{content_trail, heads_of, is_meta, places_of, unread_of}
use Rattle.ocfl_rules.proofs.Cases.OnLiterals.{audit_on_literals}
use Rattle.ocfl_item.specs.Auditing.{LieIn}
use Rattle.ocfl_rules.proofs.Cases.Run.{items_of_three_files}
use Rattle.ocfl_rules.proofs.Cases.Trees.{place, text_at, three_files, three_files_listing, three_files_content, sha256_object, item, clean, the_root, right}
use Rattle.ocfl_scrub.specs.Call.{Call, call_of}
use Rattle.ocfl_scrub.specs.{Starting.{FilesLieIn, looked_in, read_in}, Written.{places}}
use Rattle.ocfl_scrub.specs.Taking.{WritesLines, Takes, Misses}
use Rattle.ocfl_scrub.specs.WholeAudit.{AuditStopsWithin}
use Rattle.ocfl_scrub.specs.Types.{ReportStop}
use Rattle.ocfl_scrub.specs.declared.stop.ReportStop.TheVariants as halt

-- ---- findings

abbrev missing : Item
missing = item "o/v1/content/a" 0 (note E092 (codes "sha256 missing") ∷ [])

-- a finding in any item is one of what was written
finding_of_the_second_item : WritesLines (Some []) (Some (text (clean "o" ∷ missing ∷ []))) true
finding_of_the_second_item = (clean "o" ∷ missing ∷ [], refl, refl)

-- ---- one item

-- a call over three files, which opened these and did nothing else
abbrev opened : List Opening → Store
opened trail = record empty_store { tree = three_files; openings = trail }

abbrev opening_call : List Opening → Call
opening_call trail = call_of Nothing three_files (opened []) (opened trail) None None

abbrev of_the_first_file : Opening
of_the_first_file = opening (place "o/v1/content/a") 3 false

-- the object itself is no hashed file
head_is_not_hashed : hashed_among Nothing three_files (place "o" ∷ []) ≡ []
unfolding audit_on_literals hashed_among
head_is_not_hashed = refl

none_is_hashed : hashed_among Nothing three_files [] ≡ []
unfolding hashed_among
none_is_hashed = refl

-- where it is missed no file is begun, since none is its own
head_is_missed_without_a_file : (why : ReportStop) → Misses (opening_call (of_the_first_file ∷ [])) (place "o") why → ⊥
head_is_missed_without_a_file why h =
    let e : of_the_first_file ∷ [] ≡ h.trail = h.fails.did.openings_are in
    by h.begun h.one.0 h.one.1 (ap places_of e ∙ h.alone)
  where
    by : (begun rest : List Place) → place "o" ∷ [] ≡ begun ++ rest → place "o/v1/content/a" ∷ [] ≡ hashed_among Nothing three_files begun → ⊥
    by [] rest one alone = let m : place "o/v1/content/a" ∷ [] ≡ [] = alone ∙ none_is_hashed in cc
    by (p ∷ []) rest one alone =
        let same : p ≡ place "o" = cc in
        let m : place "o/v1/content/a" ∷ [] ≡ [] = alone ∙ ap (λ q. hashed_among Nothing three_files (q ∷ [])) same ∙ head_is_not_hashed in
        cc
    by (p ∷ q ∷ begun) rest one alone = cc

-- with an inventory and its sidecar in the version directory
abbrev version_with_inventory : StorageRoot
version_with_inventory = sha256_object three_files_listing (three_files_content ++ text_at "o/v1/inventory.json" "{}" ∷ text_at "o/v1/inventory.json.sha256" "" ∷ [])

-- a call that opened that sidecar
abbrev sidecar_call : Call
sidecar_call = let s : Store = record empty_store { tree = version_with_inventory } in
    call_of Inventories version_with_inventory s (record s { openings = opening (place "o/v1/inventory.json.sha256") 3 false ∷ [] }) None None

checked_head_is_not_hashed : hashed_among Inventories version_with_inventory (place "o" ∷ []) ≡ []
unfolding audit_on_literals hashed_among
checked_head_is_not_hashed = refl

-- to take the object's item it is not opened: that was done when the object was met
head_is_taken_without_a_file : (cost : ℕ) (finding : Bool) → Takes sidecar_call (place "o") cost finding → ⊥
head_is_taken_without_a_file cost finding h =
    let e : opening (place "o/v1/inventory.json.sha256") 3 false ∷ [] ≡ h.trail = h.audits.did.openings_are in
    let alone : place "o/v1/inventory.json.sha256" ∷ [] ≡ hashed_among Inventories version_with_inventory (place "o" ∷ []) = ap places_of e ∙ h.alone in
    let m : place "o/v1/inventory.json.sha256" ∷ [] ≡ [] = alone ∙ checked_head_is_not_hashed in
    cc

-- ---- an audit that stops

-- it has listed all directories, written the lines of the root and of the object, and opened the
-- first file, whose line the output did not take
abbrev listed : List Place
listed = [] ∷ place "o" ∷ place "o/v1" ∷ place "o/v1/content" ∷ []

abbrev written : List Item
written = the_root ∷ clean "o" ∷ []

abbrev to_come : List Item
to_come = right "o/v1/content/a" 4 "3" ∷ right "o/v1/content/b" 1 "0" ∷ right "o/v1/content/c" 4 "3" ∷ []

abbrev stopped_call : Call
stopped_call = call_of Nothing three_files (opened []) (record (opened (of_the_first_file ∷ [])) { listings = listed }) (Some []) (Some (text written))

-- what is so of the file and of its opening
record FirstFile : Type 0 where
  unread : unread_of Nothing three_files (of_the_first_file ∷ []) ≡ []
  content : content_trail Nothing three_files (of_the_first_file ∷ []) ≡ hashed_among Nothing three_files (places written ++ place "o/v1/content/a" ∷ [])
  no_head : heads_of three_files (of_the_first_file ∷ []) ≡ []
  no_metadata : is_meta Nothing three_files (place "o/v1/content/a") ≡ false
  looked : looked_in three_files whole None None ≡ listed
  no_root : is_hashed Nothing three_files [] ≡ false
  no_object : is_hashed Nothing three_files (place "o") ≡ false

first_file : FirstFile
unfolding audit_on_literals hashed_among looked_between
first_file = record { unread = refl; content = refl; no_head = refl; no_metadata = refl; looked = refl; no_root = refl; no_object = refl }

near_listed : LieIn Nothing three_files listed (of_the_first_file ∷ [])
near_listed o (inl e) meta = absurd (let m : false ≡ true = sym first_file.no_metadata ∙ sym (ap (λ x. is_meta Nothing three_files x.place) e) ∙ meta in cc)
near_listed o (inr h) meta = absurd h

files_listed : FilesLieIn Nothing three_files (places written ++ place "o/v1/content/a" ∷ []) listed
files_listed p (inl e) hashed = absurd (let m : false ≡ true = sym first_file.no_root ∙ sym (ap (is_hashed Nothing three_files) e) ∙ hashed in cc)
files_listed p (inr (inl e)) hashed = absurd (let m : false ≡ true = sym first_file.no_object ∙ sym (ap (is_hashed Nothing three_files) e) ∙ hashed in cc)
files_listed p (inr (inr (inl e))) hashed = (place "o/v1/content", (codes "a", (inr (inr (inr (inl refl))), e)))
files_listed p (inr (inr (inr h))) hashed = absurd h

stopped_before_a_line : AuditStopsWithin stopped_call whole (Some (place "o")) false halt.Output
stopped_before_a_line = record {
  trail = of_the_first_file ∷ [];
  stops = record {
    whole = written;
    others = to_come;
    items_are = ap (audit Nothing three_files) first_file.unread ∙ items_of_three_files;
    begun = place "o/v1/content/a" ∷ [];
    one = ([], refl);
    part = [];
    wrote = refl;
    part_of = record { gone = 0; is = refl; proper = λ e. omega arith; none = λ e. refl };
    last_is = refl;
  };
  found_is = refl;
  looks = record {
    down = [];
    listed = listed;
    held = [];
    heads = [];
    fails = record {
      over = refl;
      did = record {
        tree = refl;
        openings_are = refl;
        listings_are = refl;
        failures_are = let e : length (unread_of Nothing three_files (of_the_first_file ∷ [])) ≡ 0 = ap length first_file.unread in omega (arith, e);
        failed = [];
        failed_are = refl;
        failed_among = λ p h. absurd h;
        each_failed = ap (λ us. length us + 0) first_file.unread;
      };
      opened = first_file.content;
      heads_are = first_file.no_head;
      near = near_listed;
      store = λ q e. absurd (let two : None ≡ Some q = e in cc);
    };
    down_front = ([], refl);
    listed_front = ([], first_file.looked);
    held_front = ([], refl);
    heads_front = (read_in three_files whole None None, refl);
    files_lie = files_listed;
  };
}
