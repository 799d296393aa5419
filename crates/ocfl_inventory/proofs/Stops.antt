-- What a stop says, and the whole object.
use Rattle.std.proofs.Common.{◌≡◌, [], ◌∷◌, Some, None, refl, sym, ap, ◌∙◌, cond, Bool, true, false, BTreeMap, String, Global}
use Rattle.std.proofs.lemmas.Str.{is_utf8-from_IsUtf8, IsUtf8-from_is_utf8}
use Rattle.std.proofs.lemmas.Map.Text.{is_eq-slice_cmp}
use Rattle.std.specs.Prelude.{Ok, Err, option_and_then, IsUtf8, codes, length, ◌==◌, ◌||◌}
use Rattle.std.specs.{Str.{is_utf8, bytes_eq}, List.{list_any}}
use Rattle.serde_json.specs.{Find.{as_object}, Read.{read}, View.{view, members_view}}
use Rattle.serde_json.specs.declared.value.Value.{Value, Object}
use Rattle.serde_json.proofs.Views.{view-Object}
use Rattle.ocfl_tree.specs.Place.{Text, text_eq}
use Rattle.ocfl_digest.specs.declared.algorithm.Algorithm.TheVariants.{Sha256, Sha512}
use Rattle.ocfl_inventory.specs.Note.{note, Note, plain}
use Rattle.ocfl_inventory.specs.Reading.{Reading, or_stop, object_of, digest_algorithm, content_named}
use Rattle.ocfl_inventory.specs.declared.remark.InventoryStop.{InventoryStop}
use Rattle.ocfl_inventory.specs.Internal.Parts.{Says, Fails}
use Rattle.ocfl_report.specs.declared.code.Code.TheVariants.{E033, E025, E017, E018}
use Rattle.ocfl_inventory.specs.declared.remark.InventoryStop.TheVariants as stops

pub fails_by : {Y : Type 0} (e : InventoryStop) (n : Note) (reading : Reading Y) → reading ≡ Err n → Says e n → Fails e reading
fails_by stops.Memory n reading h s = tt
fails_by (stops.Because r) n reading h s = h ∙ ap Err (sym s)

pub object_found : (bytes : Text) (v : Value) (m : BTreeMap (String Global) Value) → IsUtf8 bytes → read bytes ≡ Some (view v) → v ≡ Object m → object_of bytes ≡ Ok (members_view m.entries)
object_found bytes v m u h e =
    let found : option_and_then as_object (read bytes) ≡ Some (members_view m.entries) = rw (h, e, view-Object m) in
    rw (is_utf8-from_IsUtf8 bytes u, found)

pub object_refused : (bytes : Text) → (IsUtf8 bytes → read bytes ≡ None) → object_of bytes ≡ Err (plain E033)
object_refused bytes h = by (is_utf8 bytes) refl
  where
    by : (b : Bool) → is_utf8 bytes ≡ b → or_stop (plain E033) (cond b (option_and_then as_object (read bytes)) None) ≡ Err (plain E033)
    by true e = rw (h (IsUtf8-from_is_utf8 bytes e))
    by false e = refl

pub other_algorithm : (t : Text) (a b : Bool) → a ≡ bytes_eq t (codes "sha512") → b ≡ bytes_eq t (codes "sha256") → a ≡ false → b ≡ false → digest_algorithm t ≡ Err (note E025 t)
other_algorithm t a b h k f g =
    let one : text_eq t (codes "sha512") ≡ false = is_eq-slice_cmp t (codes "sha512") ∙ sym h ∙ f in
    let two : text_eq t (codes "sha256") ≡ false = is_eq-slice_cmp t (codes "sha256") ∙ sym k ∙ g in
    λ i. cond (one i) (Ok Sha512) (cond (two i) (Ok Sha256) (Err (note E025 t)))

pub content_kept : (t : Text) (a b d e : Bool) (u : Text) → a ≡ length t == 0 → u ≡ t → b ≡ list_any (λ c. c == 47) u → d ≡ bytes_eq t (codes ".") → e ≡ bytes_eq t (codes "..")
    → a ≡ false → b ≡ false → d ≡ false → e ≡ false → content_named t ≡ Ok t
content_kept [] a b d e u ha hu hb hd he fa fb fd fe = absurd cc
content_kept (c ∷ t) a b d e u ha hu hb hd he fa fb fd fe =
    let one : list_any (λ x. x == 47) (c ∷ t) ≡ false = ap (list_any (λ x. x == 47)) (sym hu) ∙ sym hb ∙ fb in
    let two : text_eq (c ∷ t) (codes ".") ≡ false = is_eq-slice_cmp (c ∷ t) (codes ".") ∙ sym hd ∙ fd in
    let three : text_eq (c ∷ t) (codes "..") ≡ false = is_eq-slice_cmp (c ∷ t) (codes "..") ∙ sym he ∙ fe in
    λ i. cond (one i) (Err (note E017 (c ∷ t))) (cond (two i || three i) (Err (note E018 (c ∷ t))) (Ok (c ∷ t)))
