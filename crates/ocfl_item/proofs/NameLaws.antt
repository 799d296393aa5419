-- The names of a listing: no two are equal, however it is sorted.
use Rattle.std.proofs.Common.{◌≡◌, List, [], ◌∷◌, refl, sym, true, false, Bool, Some, None, map, IsPermutation}
use Rattle.std.proofs.lemmas.List.Sorted.{IsPermutation-map}
use Rattle.std.proofs.lemmas.Map.Keys.{IsDistinct-IsPermutation}
use Rattle.std.specs.{Prelude.{cond}, List.{AllByRecursion, IsDistinct}}
use Rattle.ocfl_tree.specs.{Place.{Text, text_eq}, Listing.{AreApart, IsOrdinary, kind_in}}
use Rattle.ocfl_tree.specs.declared.store.Entry.{Entry}
use Rattle.ocfl_tree.proofs.Places.{text_eq-Decides, text_eq_turns, not_decided, differ}
use Rattle.ocfl_rules.proofs.AuditExists.{some_not_none}

abbrev pub names_of : List Entry → List Text
names_of es = map (λ e. e.name) es

distinct_apart : (es : List Entry) → AreApart es → IsDistinct text_eq (names_of es)
unfolding IsDistinct
distinct_apart [] h = tt
distinct_apart (e ∷ es) h = (apart es h.0, distinct_apart es h.1)
  where
    apart : (fs : List Entry) → kind_in fs e.name ≡ None → AllByRecursion (λ n. text_eq e.name n ≡ false) (names_of fs)
    apart [] k = tt
    apart (f ∷ fs) k = by (text_eq f.name e.name) refl k (apart fs)
      where
        by : (b : Bool) → text_eq f.name e.name ≡ b → cond b (Some f.kind) (kind_in fs e.name) ≡ None
            → (kind_in fs e.name ≡ None → AllByRecursion (λ n. text_eq e.name n ≡ false) (names_of fs))
            → (text_eq e.name f.name ≡ false) × AllByRecursion (λ n. text_eq e.name n ≡ false) (names_of fs)
        by true t k more = absurd (some_not_none f.kind (sym k))
        by false t k more = (not_decided _ _ (text_eq-Decides e.name f.name) (λ same. differ _ _ (text_eq-Decides f.name e.name) t (sym same)), more k)

pub names_differ : (es fs : List Entry) → IsOrdinary es → IsPermutation es fs → IsDistinct text_eq (names_of fs)
names_differ es fs ordinary moved =
    IsDistinct-IsPermutation text_eq text_eq_turns (names_of es) (names_of fs) (IsPermutation-map (λ e. e.name) es fs moved) (distinct_apart es ordinary.once)
