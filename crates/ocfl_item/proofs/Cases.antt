-- Worked cases: what a store tells of judged items and of audits, the way to a place, and what is
-- known of an item before its file is read.
use Rattle.std.proofs.Common.{◌≡◌, ◌∙◌, ℕ, arith, length, flat_map, sym, ap, inl, Bool, if◌then◌else◌, List, [], ◌∷◌, codes, refl, true, false, Some}
use Rattle.ocfl_tree.specs.{Place.{Place}, StorageRoot.{StorageRoot}, Store.{Store}}
use Rattle.ocfl_tree.specs.{Calls.{opening}, declared.store.Opening.{Opening}}
use Rattle.ocfl_report.specs.{Line.{Item, Line}, declared.further.Further.TheVariants.{Nothing, Inventories}}
use Rattle.ocfl_report.specs.declared.code.Code.TheVariants.{E023, E093, S08}
use Rattle.ocfl_inventory.specs.Note.{plain, lines_at}
use Rattle.ocfl_digest.specs.declared.algorithm.Algorithm.TheVariants.{Md5}
use Rattle.ocfl_rules.specs.{Due.{items_at, hashed_among}, Inventories.{is_hashed}, Trail.{places_of}}
use Rattle.ocfl_rules.proofs.Cases.OnLiterals.{audit_on_literals}
use Rattle.ocfl_rules.proofs.Cases.Trees.{place, storage_root, sha256_object, listing, listing_with, lists_f, f_is_abc}
use Rattle.ocfl_item.specs.Auditing.{LieIn, LiesBeside, LiesNear, Audits}
use Rattle.ocfl_item.specs.{Judging.{Judges, JudgeFails}, Pending.{IsJudgedBy}}
use Rattle.ocfl_item.specs.Looking.{way_to, IsFront, LiesUpTo}

-- ---- the way to a place, and where one lies

ways : (way_to [] ≡ [] ∷ []) × (way_to (place "a/b") ≡ [] ∷ place "a" ∷ place "a/b" ∷ [])
ways = (refl, refl)

fronts : IsFront {A = ℕ} (1 ∷ []) (1 ∷ 2 ∷ []) × (IsFront {A = ℕ} (2 ∷ []) (1 ∷ 2 ∷ []) → ⊥)
fronts = ((2 ∷ [], refl), λ f. absurd (cc (f.1)))

-- `b/c` is in `b`, which comes after `a`
place_after_its_end : LiesUpTo (Some (place "a")) (place "b/c") → ⊥
place_after_its_end lies = let e : false ≡ true = sym (lies (place "b") (codes "c") refl) in absurd cc

-- ---- metadata

abbrev declaration : Place
declaration = place "0=ocfl_1.1"

-- it was opened, though the storage root was not listed
opened_without_listing : LieIn Nothing (storage_root []) [] (opening declaration 9 false ∷ []) → ⊥
opened_without_listing near = let lies = near (opening declaration 9 false) (inl refl) refl in absurd (lies.1.1.0)

-- without the option nothing counts as near that is in no listed directory, and with it what is
-- beside no inventory of a version does not
near_nothing : (LiesNear Nothing [] [] (place "a/b") → ⊥) × (LiesBeside [] (place "a/inventory.json") (place "a/b") → ⊥)
near_nothing = ((λ lies. absurd (lies.1.1.0)), λ lies. let e : false ≡ true = lies.0 in absurd cc)

-- it could not be read
declaration_unread : (s t : Store) → Audits Nothing (storage_root []) s t [] ([] ∷ []) [] (opening declaration 0 true ∷ []) → ⊥
declaration_unread s t audits = let e : opening declaration 0 true ∷ [] ≡ [] = audits.read in absurd cc

-- ---- a file that cannot be read

abbrev right_file : StorageRoot
right_file = sha256_object (listing lists_f) f_is_abc

-- two of its three bytes were read
abbrev failed : Opening
failed = opening (place "o/v1/content/f") 2 true

abbrev lines_in : List Item → List Line
lines_in [] = []
lines_in (i ∷ items) = i.lines

judged_unread : (s t : Store) (lines : List Line) (j : Judges Nothing right_file s t (place "o/v1/content/f") lines 3) → j.trail ≡ failed ∷ []
    → lines ≡ lines_at (place "o/v1/content/f") (plain S08 ∷ [])
unfolding audit_on_literals items_at
judged_unread s t lines j e = ap lines_in (sym j.item ∙ ap (λ trail. items_at Nothing right_file trail (place "o/v1/content/f" ∷ [])) e)

-- fixity alone names it, and no digest of it is wrong
abbrev unlisted_file : StorageRoot
unlisted_file = sha256_object (listing_with [] (codes "{\"md5\":{\"900150983cd24fb0d6963f7d28e17f72\":[\"v1/content/f\"]}}")) f_is_abc

judged_by_fixity : IsJudgedBy Nothing unlisted_file (place "o/v1/content/f") (plain E023 ∷ []) (record { code = E093; algorithm = Md5; digest = codes "900150983cd24fb0d6963f7d28e17f72" } ∷ [])
unfolding audit_on_literals
judged_by_fixity = record { bytes = codes "abc"; is_file = refl; whole = refl; part = λ given. refl }

-- ---- the inventory of a version, and its sidecar

-- how many bytes the names of places have together
abbrev size : List Place → ℕ
size ps = length (flat_map (λ n. n) (flat_map (λ p. p) ps))

sidecar_is_another : (part hashed : Bool) → place "o/v1/inventory.json.sha256" ∷ [] ≡ (if part then (if hashed then place "o/v1/inventory.json" ∷ [] else []) else []) → ⊥
sidecar_is_another true true e = let m : 24 ≡ 17 = ap size e in omega (arith, m)
sidecar_is_another true false e = let m : 24 ≡ 0 = ap size e in omega (arith, m)
sidecar_is_another false hashed e = let m : 24 ≡ 0 = ap size e in omega (arith, m)

-- where judging the one fails, the other was not opened
sidecar_not_judged : (root : StorageRoot) (s t : Store) (j : JudgeFails Inventories root s t (place "o/v1/inventory.json")) → j.trail ≡ opening (place "o/v1/inventory.json.sha256") 80 false ∷ [] → ⊥
unfolding hashed_among
sidecar_not_judged root s t j e = sidecar_is_another j.part (is_hashed Inventories root (place "o/v1/inventory.json")) (sym (ap places_of e) ∙ j.alone)
