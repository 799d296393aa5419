-- The lines of expected digests that are not the file's, made one after the other; and those of a
-- content file.
use Rattle.std.proofs.Common.{◌≡◌, ◌≢◌, ℕ, ◌+◌, ◌<◌, ◌≤◌, List, [], ◌∷◌, ◌++◌, length, get_or, take, map, refl, sym, ◌∙◌, ap, subst, Some, None, true, inl, inr, arith}
use Rattle.std.proofs.{lemmas.List.{map_more, take_all}, lemmas.List.Concat.{flat_map-append}}
use Rattle.std.specs.Prelude.{zero, suc}
use Rattle.ocfl_tree.specs.{Place.{Text, Place}, StorageRoot.{StorageRoot}, Ascending.{IsAmong}}
use Rattle.ocfl_tree.proofs.Orders.{among_map}
use Rattle.ocfl_report.specs.declared.further.Further.TheVariants.{Nothing}
use Rattle.ocfl_digest.specs.{Digest.{digest_bytes_of}, Digests.{digest_in}}
use Rattle.ocfl_digest.specs.declared.digests.Digests.{Digests}
use Rattle.ocfl_report.specs.declared.code.Code.TheVariants.{S08}
use Rattle.ocfl_inventory.specs.{Note.{plain}, Table.{Named}}
use Rattle.ocfl_rules.specs.Head.{digest_of}
use Rattle.ocfl_rules.specs.Inventories.{Expected, unexpected_notes, is_hashed}
use Rattle.ocfl_rules.specs.Lines.{file_notes, named_at, or_bytes, unnamed_notes, wrong_notes}
use Rattle.ocfl_item.specs.Internal.FileLines.{HasDigests, expected_by_name, unexpected_by}
use Rattle.ocfl_item.specs.{Internal.Lines.{Adds}, Pending.{IsJudgedBy, expected_view}}
use Rattle.ocfl_item.specs.declared.expected.Expected.{Expected as MadeExpected}
use Rattle.ocfl_item.specs.declared.lines.PlaceLines.{PlaceLines}
use Rattle.ocfl_item.proofs.{ContentLaws.{hashed_file}, LinesLaws.{adds_both}}

among_at : {A : Type 0} (xs : List A) (i : ℕ) (d : A) → i < length xs → IsAmong xs (get_or xs i d)
among_at [] i d l = absurd (omega arith)
among_at (x ∷ xs) zero d l = inl refl
among_at (x ∷ xs) (suc i) d l = inr (among_at xs i d (omega arith))

unexpected_push : (bytes : Text) (es : List Expected) (e : Expected) → unexpected_notes bytes (es ++ e ∷ []) ≡ unexpected_notes bytes es ++ unexpected_notes bytes (e ∷ [])
unexpected_push bytes es e = flat_map-append (λ x. unexpected_by (digest_of x.algorithm bytes) x) es (e ∷ [])

pub unexpected_step : (old mid new : PlaceLines) (es : List MadeExpected) (i : ℕ) (e : MadeExpected) (d : Digests) → i < length es → e ≡ get_or es i e
    → ((bytes : Text) → digest_in d e.algorithm ≡ Some (digest_bytes_of e.algorithm bytes) → Adds mid new (unexpected_notes bytes (expected_view e ∷ [])))
    → ((bytes : Text) → HasDigests (map (λ x. x.algorithm) es) bytes d → Adds old mid (unexpected_notes bytes (map expected_view (take i es))))
    → (bytes : Text) → HasDigests (map (λ x. x.algorithm) es) bytes d → Adds old new (unexpected_notes bytes (map expected_view (take (i + 1) es)))
unexpected_step old mid new es i e d l is last before bytes has =
    let there : IsAmong es e = subst (IsAmong es) (sym is) (among_at es i e l) in
    let both = adds_both old mid new (unexpected_notes bytes (map expected_view (take i es))) (unexpected_notes bytes (expected_view e ∷ [])) (before bytes has)
    (last bytes (has e.algorithm (among_map (λ x. x.algorithm) es e there))) in
    let more : map expected_view (take (i + 1) es) ≡ map expected_view (take i es) ++ expected_view e ∷ [] =
    map_more expected_view es i e l ∙ ap (λ x. map expected_view (take i es) ++ expected_view x ∷ []) (sym is) in
    subst (Adds old new) (sym (ap (unexpected_notes bytes) more ∙ unexpected_push bytes (map expected_view (take i es)) (expected_view e))) both

pub unexpected_done : (old new : PlaceLines) (es : List MadeExpected) (i : ℕ) (d : Digests) → length es ≤ i
    → ((bytes : Text) → HasDigests (map (λ x. x.algorithm) es) bytes d → Adds old new (unexpected_notes bytes (map expected_view (take i es))))
    → (bytes : Text) → HasDigests (map (λ x. x.algorithm) es) bytes d → Adds old new (unexpected_notes bytes (map expected_view es))
unexpected_done old new es i d l all bytes has = subst (λ xs. Adds old new (unexpected_notes bytes (map expected_view xs))) (take_all i es l) (all bytes has)

-- ---- a content file

-- what inventories name is expected
wrong_is_unexpected : (bytes : Text) (ns : List Named) → wrong_notes bytes ns ≡ unexpected_notes bytes (map expected_by_name ns)
wrong_is_unexpected bytes [] = refl
wrong_is_unexpected bytes (n ∷ ns) = ap (λ more. unexpected_by (digest_of n.algorithm bytes) (expected_by_name n) ++ more) (wrong_is_unexpected bytes ns)

whole_lines : (bytes : Text) (ns : List Named) → ns ≢ [] → file_notes bytes ns None ≡ or_bytes bytes (unnamed_notes ns ++ unexpected_notes bytes (map expected_by_name ns))
whole_lines bytes [] h = absurd (h refl)
whole_lines bytes (n ∷ ns) h = ap (λ more. or_bytes bytes (unnamed_notes (n ∷ ns) ++ more)) (wrong_is_unexpected bytes (n ∷ ns))

part_lines : (bytes : Text) (ns : List Named) (given : ℕ) → ns ≢ [] → file_notes bytes ns (Some given) ≡ unnamed_notes ns ++ plain S08 ∷ []
part_lines bytes [] given h = absurd (h refl)
part_lines bytes (n ∷ ns) given h = refl

pub content_judged : (root : StorageRoot) (p : Place) → is_hashed Nothing root p ≡ true → IsJudgedBy Nothing root p (unnamed_notes (named_at root p)) (map expected_by_name (named_at root p))
content_judged root p h =
    let f = hashed_file root p h in
    record {
      bytes = f.bytes;
      is_file = f.is_file;
      whole = f.lines None ∙ whole_lines f.bytes (named_at root p) f.digests;
      part = λ given. f.lines (Some given) ∙ part_lines f.bytes (named_at root p) given f.digests;
    }
