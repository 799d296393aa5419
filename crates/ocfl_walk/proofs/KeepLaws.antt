-- What of a sorted listing lies above a name.
use Rattle.std.proofs.Common.{◌≡◌, ◌-◌, List, [], ◌∷◌, ◌++◌, refl, sym, ◌∙◌, ap, subst, true, false, Bool, Option, Some, None, filter, length}
use Rattle.std.proofs.lemmas.List.{append-nil}
use Rattle.std.specs.{Prelude.{cond, slice_get}, Option.{option_to_list}, Ordering.{is_lt}}
use Rattle.std.specs.declared.cmp.Ordering.TheVariants.{Less}
use Rattle.ocfl_tree.specs.{Place.{Text, text_cmp}, Ascending.{IsAscending, IsBeforeAll}}
use Rattle.ocfl_tree.specs.declared.store.Entry.{Entry}
use Rattle.ocfl_item.proofs.NameLaws.{names_of}
use Rattle.ocfl_walk.specs.Standing.{back}
use Rattle.ocfl_walk.proofs.Backs.{back_push, last_split}
use Rattle.ocfl_rules.proofs.BelowLaws.{text_cmp_total, less_from}

abbrev pub left_above : Text → List Entry → List Entry
left_above n es = filter (λ e. is_lt (text_cmp n e.name)) es

all_above : (n m : Text) (es : List Entry) → text_cmp n m ≡ Less → IsBeforeAll text_cmp m (names_of es) → es ≡ left_above n es
all_above n m [] l h = refl
all_above n m (e ∷ es) l h = by (is_lt (text_cmp n e.name)) (ap is_lt (text_cmp_total.trans n m e.name l h.0)) (all_above n m es l h.1)
  where
    by : (b : Bool) → b ≡ true → es ≡ left_above n es → e ∷ es ≡ cond b (e ∷ left_above n es) (left_above n es)
    by true g k = ap (λ xs. e ∷ xs) k
    by false g k = absurd cc

above_first : (n : Text) (e : Entry) (es : List Entry) → IsAscending text_cmp (names_of (e ∷ es)) → is_lt (text_cmp n e.name) ≡ true → e ∷ es ≡ left_above n (e ∷ es)
above_first n e es h l = ap (λ xs. e ∷ xs) (all_above n e.name es (less_from _ l) h.0) ∙ ap (λ b. cond b (e ∷ left_above n es) (left_above n es)) (sym l)

pub keep_stop : (n : Text) (es : List Entry) (e : Entry) → Some e ≡ slice_get es (length es - 1) → IsAscending text_cmp (names_of (back (λ x. x) es))
    → is_lt (text_cmp n e.name) ≡ true → back (λ x. x) es ≡ left_above n (back (λ x. x) es)
keep_stop n es e last h l =
    let k = last_split es (Some e) last in
    let is : back (λ x. x) es ≡ e ∷ back (λ x. x) k.0 = ap (back (λ x. x)) k.1 ∙ back_push (λ x. x) k.0 e in
    subst (λ xs. xs ≡ left_above n xs) (sym is) (above_first n e (back (λ x. x) k.0) (subst (λ xs. IsAscending text_cmp (names_of xs)) is h) l)

pub keep_end : (n : Text) (es : List Entry) → None ≡ slice_get es (length es - 1) → back (λ x. x) es ≡ left_above n (back (λ x. x) es)
keep_end n es last = subst (λ xs. back (λ x. x) xs ≡ left_above n (back (λ x. x) xs)) (sym (last_split es None last)) refl

first_of : (x e : Entry) (xs es : List Entry) → x ∷ xs ≡ e ∷ es → x ≡ e
first_of x e xs es h = cc

-- the last entry is taken off, and is not above the name
pub keep_drop : (n : Text) (es ys : List Entry) (o : Option Entry) (e : Entry) → Some e ≡ slice_get es (length es - 1) → es ≡ ys ++ option_to_list o
    → IsAscending text_cmp (names_of (back (λ x. x) es)) → is_lt (text_cmp n e.name) ≡ false
    → IsAscending text_cmp (names_of (back (λ x. x) ys)) × (left_above n (back (λ x. x) ys) ≡ left_above n (back (λ x. x) es))
keep_drop n es ys None e last h a l =
    let same : es ≡ ys = h ∙ append-nil ys in
    (subst (λ xs. IsAscending text_cmp (names_of (back (λ x. x) xs))) same a, ap (λ xs. left_above n (back (λ x. x) xs)) (sym same))
keep_drop n es ys (Some x) e last h a l =
    let k = last_split es (Some e) last in
    let is : back (λ x. x) es ≡ e ∷ back (λ x. x) k.0 = ap (back (λ x. x)) k.1 ∙ back_push (λ x. x) k.0 e in
    let two : back (λ x. x) es ≡ x ∷ back (λ x. x) ys = ap (back (λ x. x)) h ∙ back_push (λ x. x) ys x in
    let same : x ≡ e = first_of x e (back (λ x. x) ys) (back (λ x. x) k.0) (sym two ∙ is) in
    let out : is_lt (text_cmp n x.name) ≡ false = ap (λ y. is_lt (text_cmp n y.name)) same ∙ l in (
      (subst (λ xs. IsAscending text_cmp (names_of xs)) two a).1,
      ap (λ b. cond b (x ∷ left_above n (back (λ x. x) ys)) (left_above n (back (λ x. x) ys))) (sym out) ∙ ap (left_above n) (sym two),
    )
