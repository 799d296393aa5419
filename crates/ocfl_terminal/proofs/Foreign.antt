-- Names that are not UTF-8.
use Rattle.std.proofs.Common.{◌≡◌, ◌∙◌, ◌∷◌, [], ap, sym, refl, Bool, true, false, not, List, Option, Some, None, Result, Ok, Err, String, IfOk, IfSome, find, option_map, string_bytes}
use Rattle.std.proofs.lemmas.Str.{IsUtf8-from_is_utf8, is_utf8-from_IsUtf8}
use Rattle.std.specs.declared.alloc.Global.{Global}
use Rattle.std.specs.{Prelude.{MatchResult}, Borrow.{Bor}, Result.{is_err, result_ok}, Str.{IsUtf8, is_utf8}}
use Rattle.ocfl_tree.specs.Place.{Text}
use Rattle.ocfl_terminal.specs.Naming.{IsForeign, is_foreign, shown_name}

-- they are those that are not read as UTF-8
pub foreign_is : {E : Type 0} (r : Result (Bor Text) E) (P : E → Type 0) (name : Text)
    → MatchResult r (λ s. (s.now ≡ name) × IsUtf8 name) (λ e. (IsUtf8 name → ⊥) × P e) → is_err r ≡ is_foreign name
foreign_is (Ok s) P name h = sym (ap not (is_utf8-from_IsUtf8 name h.1))
foreign_is (Err e) P name h = by (is_utf8 name) refl
  where
    by : (b : Bool) → is_utf8 name ≡ b → true ≡ not (is_utf8 name)
    by true is = absurd (h.0 (IsUtf8-from_is_utf8 name is))
    by false is = sym (ap not is)

-- what is found passes its test
found_passes : (names : List Text) (name : Text) → Some name ≡ find is_foreign names → is_foreign name ≡ true
found_passes [] name e = absurd (cc)
found_passes (n ∷ names) name e = by (is_foreign n) refl (found_passes names name)
  where
    by : (b : Bool) → is_foreign n ≡ b → (Some name ≡ find is_foreign names → is_foreign name ≡ true) → is_foreign name ≡ true
    by true is more = let here : Some name ≡ Some n = rw is at e in let same : name ≡ n = cc in ap is_foreign same ∙ is
    by false is more = more (rw is at e)

-- so the first of them is shown as one
pub shown_foreign : {E : Type 0} (found : Option (Bor Text)) (name : Bor Text) (names : List Text) (r : Result (String Global) E) (o : Option (String Global))
    → found ≡ Some name → option_map (λ n. n.now) found ≡ find is_foreign names
    → IfOk r (λ text. string_bytes text ≡ shown_name name.now) → o ≡ result_ok r → IfSome o (λ text. IsForeign (string_bytes text))
shown_foreign found name names (Ok text) o is first shown e =
    rw e (record { name = name.now; foreign = found_passes names name.now (sym (ap (option_map (λ n. n.now)) is) ∙ first); is = shown })
shown_foreign found name names (Err why) o is first shown e = rw e tt
