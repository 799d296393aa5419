-- An object whose member was taken out.
use Rattle.std.proofs.Common.{◌≡◌, List, [], ◌∷◌, Bool, true, false, Ordering, Less, Equal, Greater, String, Global, Option, Some, refl, sym, ap, ◌∙◌, cond, string_bytes, nat_cmp, is_eq, true≢false}
use Rattle.std.proofs.{lemmas.Map.Text.{is_eq-slice_cmp}, lemmas.Slice.Eq.{bytes_eq-Decides}}
use Rattle.std.specs.{Cmp.Lexicographic.{slice_cmp}, Ordering.{match_ordering}, Map.{remove_entry}}
use Rattle.std.specs.BTreeMap.{is_at}
use Rattle.serde_json.specs.{Data.{Data}, Find.{get_member}, View.{view, members_view}}
use Rattle.serde_json.specs.declared.value.Value.{Value}
use Rattle.ocfl_tree.specs.Place.{Text, text_eq}

abbrev Entry : Type 0
Entry = String Global × Value

either : (o : Ordering) (a b : Option Data) → is_eq o ≡ false → match_ordering o a b a ≡ a
either Less a b e = refl
either Equal a b e = absurd (true≢false e)
either Greater a b e = refl

others_of : (q name : Text) (es : List Entry) → text_eq q name ≡ false
    → get_member q (members_view (remove_entry (is_at (λ k. slice_cmp nat_cmp name (string_bytes k))) es)) ≡ get_member q (members_view es)
others_of q name [] h = refl
others_of q name (e ∷ es) h = by (is_eq (slice_cmp nat_cmp name (string_bytes e.0))) refl (others_of q name es h)
  where
    rest : List Entry
    rest = remove_entry (is_at (λ k. slice_cmp nat_cmp name (string_bytes k))) es

    by : (b : Bool) → is_eq (slice_cmp nat_cmp name (string_bytes e.0)) ≡ b → get_member q (members_view rest) ≡ get_member q (members_view es)
        → get_member q (members_view (cond b es (e ∷ rest))) ≡ get_member q (members_view (e ∷ es))
    by true t later =
        let same : name ≡ string_bytes e.0 = (bytes_eq-Decides name (string_bytes e.0)).0 (sym (is_eq-slice_cmp name (string_bytes e.0)) ∙ t) in
        sym (either (slice_cmp nat_cmp q (string_bytes e.0)) _ _ (ap (λ t. is_eq (slice_cmp nat_cmp q t)) (sym same) ∙ h))
    by false t later = ap (λ r. match_ordering (slice_cmp nat_cmp q (string_bytes e.0)) r (Some (view e.1)) r) later

pub others_stay : (q name : Text) (es fs : List Entry) → text_eq q name ≡ false → fs ≡ remove_entry (is_at (λ k. slice_cmp nat_cmp name (string_bytes k))) es
    → get_member q (members_view fs) ≡ get_member q (members_view es)
others_stay q name es fs h e = ap (λ xs. get_member q (members_view xs)) e ∙ others_of q name es h
