-- Reading a block one after the other, as a loop does.
use Rattle.std.proofs.Common.{◌≡◌, List, [], ◌∷◌, ◌++◌, Bool, true, false, Option, Some, None, option_map, refl, sym, ap, ◌∙◌, append_assoc, String, Global, Vec}
use Rattle.std.specs.Prelude.{◌&&◌, is_some, option_and_then, string_bytes}
use Rattle.std.specs.List.{cons_option, list_all}
use Rattle.serde_json.specs.{Data.{Items}, Find.{as_str, as_array}}
use Rattle.serde_json.specs.{View.{view, items_view, members_view}, declared.value.Value.{Value}}
use Rattle.ocfl_tree.specs.Place.{Text}
use Rattle.ocfl_tree.proofs.Orders.{true_not_false}
use Rattle.ocfl_inventory.specs.{Reading.{Block, texts_of, lists_of}, Internal.Parts.{texts_among}}

-- what was read before, and what is still read
abbrev pub with_front : {A : Type 0} → List A → Option (List A) → Option (List A)
with_front front read = option_map (λ xs. front ++ xs) read

pub with_front_one : {A : Type 0} (front : List A) (x : A) (read : Option (List A)) → with_front front (option_map (λ xs. x ∷ xs) read) ≡ with_front (front ++ x ∷ []) read
with_front_one front x None = refl
with_front_one front x (Some xs) = ap Some (sym (append_assoc front (x ∷ []) xs))

-- ---- values that are texts

texts_tested : (vs : List Value) → list_all (λ v. is_some (as_str (view v))) vs ≡ is_some (texts_of (items_view vs))
texts_tested [] = refl
texts_tested (v ∷ vs) = by (as_str (view v)) (texts_of (items_view vs)) (texts_tested vs)
  where
    by : (o : Option Text) (p : Option (List Text)) → list_all (λ w. is_some (as_str (view w))) vs ≡ is_some p
        → (is_some o && list_all (λ w. is_some (as_str (view w))) vs) ≡ is_some (option_and_then (λ t. option_map (λ ts. t ∷ ts) p) o)
    by None p h = refl
    by (Some t) None h = h
    by (Some t) (Some ts) h = h

texts_are : (vs : List Value) → is_some (texts_of (items_view vs)) ≡ true → Some (texts_among vs) ≡ texts_of (items_view vs)
texts_are [] h = refl
texts_are (v ∷ vs) h = by (as_str (view v)) (texts_of (items_view vs)) h (texts_are vs)
  where
    by : (o : Option Text) (p : Option (List Text)) → is_some (option_and_then (λ t. option_map (λ ts. t ∷ ts) p) o) ≡ true → (is_some p ≡ true → Some (texts_among vs) ≡ p)
        → Some (cons_option o [] ++ texts_among vs) ≡ option_and_then (λ t. option_map (λ ts. t ∷ ts) p) o
    by None p k more = absurd (true_not_false (sym k))
    by (Some t) None k more = absurd (true_not_false (sym k))
    by (Some t) (Some ts) k more = ap (option_map (λ us. t ∷ us)) (more refl)

-- what a test of the values that were read says of the texts among them
module _ (read : List Value) (values : Vec Value Global) (array : Option (Vec Value Global)) (b : Bool) (found : Option Items)
    (tested : b ≡ list_all (λ v. is_some (as_str (view v))) read) (same : read ≡ values.items) (was : array ≡ Some values) (is : option_map (λ v. items_view v.items) array ≡ found) where
  found_is : Some (items_view values.items) ≡ found
  found_is = sym (ap (option_map (λ (v : Vec Value Global). items_view v.items)) was) ∙ is

  tells : is_some (texts_of (items_view values.items)) ≡ b
  tells = sym (texts_tested values.items) ∙ sym (tested ∙ ap (list_all (λ v. is_some (as_str (view v)))) same)

  pub texts_found : b ≡ true → Some (texts_among values.items) ≡ option_and_then texts_of found
  texts_found k = texts_are values.items (tells ∙ k) ∙ ap (option_and_then texts_of) found_is

  pub texts_missing : b ≡ false → None ≡ option_and_then texts_of found
  texts_missing k = by (texts_of (items_view values.items)) (tells ∙ k) ∙ ap (option_and_then texts_of) found_is
    where
      by : (o : Option (List Text)) → is_some o ≡ false → None ≡ o
      by None f = refl
      by (Some ts) f = absurd (true_not_false f)

abbrev Entry : Type 0
Entry = String Global × Value

pub lists_step : (s u : List Entry) (k : String Global) (v : Value) (ts : List Text) (front : Block) (total : Option Block) → s ≡ (k, v) ∷ u → Some ts ≡ option_and_then texts_of (as_array (view v))
    → with_front front (lists_of (members_view s)) ≡ total → with_front (front ++ (string_bytes k, ts) ∷ []) (lists_of (members_view u)) ≡ total
lists_step s u k v ts front total e h so_far =
    let one : lists_of (members_view s) ≡ option_map (λ b. (string_bytes k, ts) ∷ b) (lists_of (members_view u)) = rw (e, ← h) in
    sym (ap (with_front front) one ∙ with_front_one front (string_bytes k, ts) (lists_of (members_view u))) ∙ so_far
