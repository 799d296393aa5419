-- The lines of a report are those of its places, in order.
use Rattle.std.proofs.Common.{◌≡◌, List, [], ◌∷◌, ◌++◌, Bool, true, false, cond, Option, Some, None, All, map, inl, inr, refl, sym, ap, subst, ◌∙◌}
use Rattle.std.proofs.lemmas.{Bool.{false≢true}, List.{map-append}}
use Rattle.std.proofs.lemmas.List.Elements.{All-cons, All-head, All-nil, All-tail, All-weaker}
use Rattle.std.specs.Prelude.{flat_map}
use Rattle.std.specs.declared.cmp.Ordering.{Ordering}
use Rattle.std.specs.declared.cmp.Ordering.TheVariants.{Equal, Greater, Less}
use Rattle.ocfl_tree.specs.{Place.{Place, place_cmp, place_eq}, Ascending.{IsAmong, IsAscending, IsBeforeAll}}
use Rattle.ocfl_tree.proofs.Orders.{among_ascending, among_right, ascends_ascending, before_each, not_below_itself, place_cmp_exact, place_cmp_total}
use Rattle.ocfl_tree.proofs.Places.{not_decided, place_eq-Decides}
use Rattle.ocfl_report.specs.Line.{Line}
use Rattle.ocfl_separators.specs.Splits.{AreInOrder, AreLines}
use Rattle.ocfl_compare.specs.Changes.{lines_at, places_of}

abbrev lines_over : List Line → List Place → List Line
lines_over ls ps = flat_map (λ p. lines_at p ls) ps

abbrev IsBehind : Place → Line → Type 0
IsBehind p l = place_cmp p l.place ≡ Less

-- ---- a place, and what is behind it

differs : (p : Place) (l : Line) → IsBehind p l → place_eq p l.place ≡ false
differs p l less = not_decided (place_eq p l.place) (p ≡ l.place) (place_eq-Decides p l.place) (λ e. not_below_itself place_cmp_total p (subst (λ q. place_cmp p q ≡ Less) (sym e) less))

all_behind : (p q : Place) (ls : List Line) → place_cmp p q ≡ Less → AreInOrder (Some q) ls → All (IsBehind p) ls
all_behind p q [] less order = All-nil (IsBehind p)
all_behind p q (l ∷ ls) less order = by (place_cmp q l.place) refl (λ behind. All-cons (IsBehind p) l ls behind (all_behind p l.place ls behind order.1))
  where
    by : (o : Ordering) → place_cmp q l.place ≡ o → (IsBehind p l → All (IsBehind p) (l ∷ ls)) → All (IsBehind p) (l ∷ ls)
    by Less e on = on (place_cmp_total.trans p q l.place less e)
    by Equal e on = on (subst (λ r. place_cmp p r ≡ Less) (place_cmp_exact q l.place e) less)
    by Greater e on = absurd (order.0 e)

none_at : (p : Place) (ls : List Line) → All (IsBehind p) ls → lines_at p ls ≡ []
none_at p [] behind = refl
none_at p (l ∷ ls) behind = ap (λ b. cond b (l ∷ lines_at p ls) (lines_at p ls)) (differs p l (All-head (IsBehind p) l ls behind)) ∙ none_at p ls (All-tail (IsBehind p) l ls behind)

none_over : (ps : List Place) → lines_over [] ps ≡ []
none_over [] = refl
none_over (p ∷ ps) = none_over ps

-- a line of a place before them
skipped : (l : Line) (ls : List Line) (ps : List Place) → IsBeforeAll place_cmp l.place ps → lines_over (l ∷ ls) ps ≡ lines_over ls ps
skipped l ls [] before = refl
skipped l ls (p ∷ ps) before = λ i. here i ++ skipped l ls ps before.1 i
  where
    other : place_eq p l.place ≡ false
    other = not_decided (place_eq p l.place) (p ≡ l.place) (place_eq-Decides p l.place) (λ e. not_below_itself place_cmp_total l.place (subst (λ q. place_cmp l.place q ≡ Less) e before.0))

    here : lines_at p (l ∷ ls) ≡ lines_at p ls
    here = ap (λ b. cond b (l ∷ lines_at p ls) (lines_at p ls)) other

among_rest : (p : Place) (ps : List Place) (ls : List Line) → All (IsBehind p) ls → All (λ l. IsAmong (p ∷ ps) l.place) ls → All (λ l. IsAmong ps l.place) ls
among_rest p ps [] behind among = All-nil (λ l. IsAmong ps l.place)
among_rest p ps (l ∷ ls) behind among =
    All-cons (λ m. IsAmong ps m.place) l ls (by (All-head (λ m. IsAmong (p ∷ ps) m.place) l ls among))
    (among_rest p ps ls (All-tail (IsBehind p) l ls behind) (All-tail (λ m. IsAmong (p ∷ ps) m.place) l ls among))
  where
    by : IsAmong (p ∷ ps) l.place → IsAmong ps l.place
    by (inl e) = absurd (not_below_itself place_cmp_total p (subst (λ q. place_cmp p q ≡ Less) e (All-head (IsBehind p) l ls behind)))
    by (inr i) = i

by_places : (ps : List Place) → IsAscending place_cmp ps → (last : Option Place) (ls : List Line) → AreInOrder last ls → All (λ l. IsAmong ps l.place) ls → lines_over ls ps ≡ ls
by_places [] ascends last [] order among = refl
by_places [] ascends last (l ∷ ls) order among = absurd (All-head (λ m. IsAmong [] m.place) l ls among)
by_places (p ∷ ps) ascends last ls order among = on (λ before ms o a. by_places ps ascends.1 before ms o a) last ls order among
  where
    on : ((last : Option Place) (ls : List Line) → AreInOrder last ls → All (λ l. IsAmong ps l.place) ls → lines_over ls ps ≡ ls)
        → (last : Option Place) (ls : List Line) → AreInOrder last ls → All (λ l. IsAmong (p ∷ ps) l.place) ls → lines_at p ls ++ lines_over ls ps ≡ ls
    on rest_of last [] order among = none_over ps
    on rest_of last (l ∷ ls) order among = by (place_eq p l.place) refl (on rest_of (Some l.place) ls order.1 (All-tail (λ m. IsAmong (p ∷ ps) m.place) l ls among))
      where
        behind : IsAmong (p ∷ ps) l.place → place_eq p l.place ≡ false → IsBehind p l
        behind (inl e) f = absurd (false≢true (sym f ∙ (place_eq-Decides p l.place).1 (sym e)))
        behind (inr i) f = before_each place_cmp p ps ascends.0 l.place i

        by : (b : Bool) → place_eq p l.place ≡ b → lines_at p ls ++ lines_over ls ps ≡ ls → cond b (l ∷ lines_at p ls) (lines_at p ls) ++ lines_over (l ∷ ls) ps ≡ l ∷ ls
        by true e rest = ap (λ ms. l ∷ (lines_at p ls ++ ms)) (skipped l ls ps (subst (λ q. IsBeforeAll place_cmp q ps) ((place_eq-Decides p l.place).0 e) ascends.0)) ∙ ap (λ ms. l ∷ ms) rest
        by false e rest =
            let first = behind (All-head (λ m. IsAmong (p ∷ ps) m.place) l ls among) e in
            let all = All-cons (IsBehind p) l ls first (all_behind p l.place ls first order.1) in
            ap (λ ms. ms ++ lines_over (l ∷ ls) ps) (none_at p ls (All-tail (IsBehind p) l ls all)) ∙ rest_of last (l ∷ ls) order (among_rest p ps (l ∷ ls) all among)

-- ---- of all places of two reports

each_among : (ls : List Line) → All (λ l. IsAmong (map (λ m. m.place) ls) l.place) ls
each_among [] = All-nil (λ l. IsAmong [] l.place)
each_among (l ∷ ls) =
    All-cons (λ m. IsAmong (l.place ∷ map (λ n. n.place) ls) m.place) l ls (inl refl)
    (All-weaker (λ m. IsAmong (map (λ n. n.place) ls) m.place) (λ m. IsAmong (l.place ∷ map (λ n. n.place) ls) m.place) (λ m i. inr i) ls (each_among ls))

pub all_lines_by_places : (before now : List Line) → AreLines now → flat_map (λ p. lines_at p now) (places_of before now) ≡ now
all_lines_by_places before now are =
    by_places (places_of before now) (ascends_ascending place_cmp_total (map (λ l. l.place) (before ++ now))) None now are.order
    (All-weaker (λ (l : Line). IsAmong (map (λ m. m.place) now) l.place) (λ (l : Line). IsAmong (places_of before now) l.place)
    (λ l i. (among_ascending place_cmp_exact (map (λ m. m.place) (before ++ now)) l.place).0
    (subst (λ ps. IsAmong ps l.place) (sym (map-append (λ (m : Line). m.place) before now)) (among_right (map (λ (m : Line). m.place) before) (map (λ (m : Line). m.place) now) l.place i))) now (each_among now))
