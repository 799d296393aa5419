-- Places and files that are counted as their lines come.
use Rattle.std.proofs.Common.{◌≡◌, ℕ, ◌+◌, ◌^◌, List, [], ◌∷◌, ◌++◌, Bool, true, false, cond, Option, Some, None, map, length, decimal, refl, ap, sym, subst, ◌∙◌, length-append, arith}
use Rattle.std.proofs.{lemmas.Bool.{false≢true, ltb-true}, lemmas.List.{map-append}}
use Rattle.std.specs.{Prelude.{◌&&◌, nat_lt, if◌then◌else◌}, List.{filter}, Str.Parse.{digits_value}}
use Rattle.ocfl_tree.specs.Place.{Place, text_eq}
use Rattle.ocfl_tree.proofs.Places.{place_eq-Decides}
use Rattle.ocfl_report.specs.Line.{Line}
use Rattle.ocfl_messages.specs.Tally.{IsCount, IsPlaces, bytes_in, changes_after, is_last, is_right, kept_count, last_after, places_of, right_in, right_size, size_of}
use Rattle.ocfl_messages.specs.declared.tally.Places.{Places}
use Rattle.ocfl_messages.proofs.Heaps.{filter_more, filter_same}

abbrev new_one : Bool → ℕ
new_one true = 0
new_one false = 1

step : (b : Bool) (n : ℕ) → (if b then 0 else 1) + n ≡ new_one b + n
step true n = refl
step false n = refl

changes_more : (last : Option Place) (ps : List Place) (p : Place) → changes_after last (ps ++ p ∷ []) ≡ changes_after last ps + new_one (is_last (last_after last ps) p)
changes_more last [] p = step (is_last last p) 0 ∙ omega arith
changes_more last (q ∷ ps) p =
    let more = changes_more (Some q) ps p in
    ap (λ n. (if is_last last q then 0 else 1) + n) more ∙ omega arith

last_more : (last : Option Place) (ps : List Place) (p : Place) → last_after last (ps ++ p ∷ []) ≡ Some p
last_more last [] p = refl
last_more last (q ∷ ps) p = last_more (Some q) ps p

pub is_it : (o : Option Place) (p : Place) → is_last o p ≡ true → o ≡ Some p
is_it None p e = absurd (false≢true e)
is_it (Some q) p e = ap Some ((place_eq-Decides q p).0 e)

-- the last place once more
pub stays : (k : Places) (ps : List Place) (p : Place) → is_last k.last p ≡ true → IsPlaces k ps → IsPlaces k (ps ++ p ∷ [])
stays k ps p e h =
    let same : changes_after None (ps ++ p ∷ []) ≡ changes_after None ps = changes_more None ps p ∙ ap (λ o. changes_after None ps + new_one (is_last o p)) (sym h.last)
    ∙ ap (λ b. changes_after None ps + new_one b) e ∙ omega arith in
    record {
      count = subst (IsCount k.count) (sym same) h.count;
      last = is_it k.last p e ∙ sym (last_more None ps p);
    }

-- and another one
pub grows : (k new : Places) (ps : List Place) (p : Place) → is_last k.last p ≡ false → new.last ≡ Some p
    → ((m : ℕ) → IsCount k.count m → IsCount new.count (m + 1)) → IsPlaces k ps → IsPlaces new (ps ++ p ∷ [])
grows k new ps p e at more h =
    let one : changes_after None (ps ++ p ∷ []) ≡ changes_after None ps + 1 = changes_more None ps p ∙ ap (λ o. changes_after None ps + new_one (is_last o p)) (sym h.last)
    ∙ ap (λ b. changes_after None ps + new_one b) e in
    record {
      count = subst (IsCount new.count) (sym one) (more (changes_after None ps) h.count);
      last = at ∙ sym (last_more None ps p);
    }

-- the places of such lines, with one more
pub places_more : (t : Line → Bool) (ls : List Line) (l : Line) (b : Bool) → b ≡ t l → (if b then places_of t ls ++ l.place ∷ [] else places_of t ls) ≡ places_of t (ls ++ l ∷ [])
places_more t ls l true e = sym (ap (map (λ m. m.place)) (filter_more t ls l (sym e)) ∙ map-append (λ m. m.place) (filter t ls) (l ∷ []))
places_more t ls l false e = sym (ap (map (λ m. m.place)) (filter_same t ls l (sym e)))

pub right_more : (ls : List Line) (l : Line) (b : Bool) → b ≡ is_right l → right_in (ls ++ l ∷ []) ≡ right_in ls + (if b then 1 else 0)
right_more ls l true e = ap length (filter_more is_right ls l (sym e)) ∙ length-append (filter is_right ls) (l ∷ [])
right_more ls l false e = ap length (filter_same is_right ls l (sym e)) ∙ omega arith

pub bytes_more : (ls : List Line) (l : Line) → bytes_in (ls ++ l ∷ []) ≡ bytes_in ls + right_size l
bytes_more [] l = omega arith
bytes_more (m ∷ ls) l = ap (λ n. right_size m + n) (bytes_more ls l) ∙ omega arith

-- numbers that fit are kept as they are
pub kept_one : (b : Bool) → kept_count (if b then 1 else 0) ≡ (if b then 1 else 0)
kept_one true = refl
kept_one false = refl

pub kept_size : (l : Line) → kept_count (right_size l) ≡ right_size l
kept_size l = by (is_right l)
  where
    value : ℕ
    value = digits_value 10 l.detail

    sized : (a b : Bool) → nat_lt value (2 ^ 62) ≡ b → kept_count (cond (a && b) value 0) ≡ cond (a && b) value 0
    sized true true e = let k = ltb-true value (2 ^ 62) e in omega (arith, k)
    sized true false e = refl
    sized false b e = refl

    by : (r : Bool) → kept_count (cond r (size_of l.detail) 0) ≡ cond r (size_of l.detail) 0
    by true = sized (text_eq l.detail (decimal value)) (nat_lt value (2 ^ 62)) refl
    by false = refl
