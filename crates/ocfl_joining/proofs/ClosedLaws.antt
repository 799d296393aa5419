-- The closed reports of all parts, joined.
use Rattle.std.proofs.Common.{◌≡◌, ℕ, suc, List, [], ◌∷◌, Some, refl, sym, ap, ◌∙◌, map}
use Rattle.std.specs.Prelude.{flat_map, slice_get}
use Rattle.std.specs.Option.{option_map}
use Rattle.std.proofs.lemmas.List.Folds.{flat_map-map}
use Rattle.std.proofs.lemmas.Simd.{map-map}
use Rattle.std.proofs.lemmas.Option.{slice_get-map}
use Rattle.ocfl_tree.specs.{Ascending.{IsAscending}, Place.{Place, Text, place_cmp}}
use Rattle.ocfl_tree.specs.StorageRoot.{StorageRoot}
use Rattle.ocfl_report.specs.{Text.{text}, declared.further.Further.{Further}}
use Rattle.ocfl_rules.specs.{Audit.{Unread, audit}, Parts.{Part, parts_of, together, within}}
use Rattle.ocfl_rules.proofs.ApartLaws.{apart_texts}
use Rattle.ocfl_joining.specs.{Audited.{AuditedPart, all_known, all_unread, report_of}, Cycles.{hindering_in}, Joined.{all_parts, joined_text}, Missing.{further_of, root_of}, Reports.{Seen}}
use Rattle.ocfl_joining.proofs.Audits.{each_checks}

map_same : {A B : Type 0} (g h : A → B) (xs : List A) → ((n : ℕ) (x : A) → slice_get xs n ≡ Some x → g x ≡ h x) → map g xs ≡ map h xs
map_same g h [] k = refl
map_same g h (x ∷ xs) k = λ i. k 0 x refl i ∷ map_same g h xs (λ n. k (suc n)) i

pub closed_join : (root : StorageRoot) (separators : List Place) (s : Seen) (cycle : ℕ) (parts : List AuditedPart) → IsAscending place_cmp separators → map (λ p. p.part) parts ≡ parts_of separators
    → hindering_in separators (all_known parts) cycle ≡ [] → map s.bytes (all_parts separators) ≡ map (report_of root) parts
    → joined_text separators s ≡ text (audit (further_of (all_known parts)) root (together (all_unread parts)))
closed_join root separators s cycle parts h e none f =
    let further : Further = further_of (all_known parts) in
    let pair : AuditedPart → (Part × Unread) = λ p. (p.part, p.unread) in
    let report : (Part × Unread) → Text = λ e. text (within e.0 (audit further root e.1)) in
    let checks : (n : ℕ) (p : AuditedPart) → slice_get parts n ≡ Some p → p.known.further ≡ further =
    λ n p is. each_checks separators (root_of (all_known parts)) cycle (all_known parts) none n p.known (slice_get-map (λ p. Some p.known) parts n ∙ ap (option_map (λ p. Some p.known)) is) in
    let same : map (report_of root) parts ≡ map (λ p. report (pair p)) parts = map_same (report_of root) (λ p. report (pair p)) parts (λ n p is. ap (λ g. text (within p.part (audit g root p.unread))) (checks n p is)) in
    sym (flat_map-map (λ t. t) s.bytes (all_parts separators)) ∙ ap (flat_map (λ t. t)) (f ∙ same) ∙ flat_map-map (λ t. t) (λ p. report (pair p)) parts ∙ sym (flat_map-map report pair parts)
    ∙ apart_texts further root (all_unread parts) separators h (map-map (λ e. e.0) pair parts ∙ e)
