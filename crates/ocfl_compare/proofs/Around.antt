-- What is around a place: whether it is below an object that is shut, and whether lines are below it.
use Rattle.std.proofs.Common.{◌≡◌, ◌≢◌, ◌⊎◌, inl, inr, List, [], ◌∷◌, ◌++◌, Bool, true, false, Option, Some, None, IfSome, All, refl, sym, ap, subst, ◌∙◌}
use Rattle.std.proofs.{Math.Bool.{and-false, or-false}, lemmas.List.Folds.{list_any-append}}
use Rattle.std.proofs.lemmas.List.{map-append}
use Rattle.std.proofs.lemmas.List.Elements.{All-append, All-cons, All-nil, All-head, All-tail}
use Rattle.std.specs.{Prelude.{cond, ◌&&◌, ◌||◌, not, flat_map}, List.{list_any}, Ordering.{is_eq, ordering_then}}
use Rattle.std.specs.declared.cmp.Ordering.{Ordering}
use Rattle.std.specs.declared.cmp.Ordering.TheVariants.{Less, Equal, Greater}
use Rattle.ocfl_tree.specs.Place.{Text, Place, text_cmp, text_eq, place_cmp, place_eq, begins}
use Rattle.ocfl_tree.specs.Ascending.{IsBeforeAll, IsAscending, IsAmong}
use Rattle.ocfl_tree.proofs.Orders.{place_cmp_total, not_below_itself, before_each, among_left, among_right, among_map}
use Rattle.ocfl_tree.proofs.Bools.{and_first, and_second, and_both}
use Rattle.ocfl_tree.proofs.Places.{text_cmp_exact, text_eq-same, place_eq-same}
use Rattle.ocfl_report.specs.{Line.{Line}}
use Rattle.ocfl_compare.specs.Changes.{is_below, has_below, is_shut, lines_at, is_in_shut, is_left, answer_at}
use Rattle.ocfl_compare.specs.Seen.{all_seen, lines_seen, seen_at, shown}
use Rattle.ocfl_compare.specs.declared.side.Side.TheVariants.{Before, Now}
use Rattle.ocfl_compare.specs.declared.question.Question.{Question}
use Rattle.ocfl_compare.specs.Internal.Turns.{Group, IsGroup, group_seen, place_or, first_place, leads_to, AreFollowed, shuts, below_shut, leads_from, IsShutBy, shut_after}
use Rattle.ocfl_compare.proofs.Groups.{places, other_place, lines_of, before_own, now_own, same_places}

-- ---- places

-- what is before a place that begins with another one begins with that one too, or is before it
between : (o p z : Place) → begins o z ≡ true → place_cmp p z ≡ Less → (begins o p ≡ true) ⊎ (place_cmp p o ≡ Less)
between [] p z h e = inl refl
between (a ∷ o) p [] h e = cc
between (a ∷ o) [] (c ∷ z) h e = inr refl
between (a ∷ o) (b ∷ p) (c ∷ z) h e = by (text_cmp b a) refl (between o p z)
  where
    same : a ≡ c
    same = text_cmp_exact a c (is_equal (text_cmp a c) (and_first (text_eq a c) (begins o z) h))
      where
        is_equal : (r : Ordering) → is_eq r ≡ true → r ≡ Equal
        is_equal Less f = cc
        is_equal Equal f = refl
        is_equal Greater f = cc

    from : ordering_then (text_cmp b a) (place_cmp p z) ≡ Less
    from = ap (λ x. ordering_then (text_cmp b x) (place_cmp p z)) same ∙ e

    by : (r : Ordering) → text_cmp b a ≡ r → (begins o z ≡ true → place_cmp p z ≡ Less → (begins o p ≡ true) ⊎ (place_cmp p o ≡ Less)) → (begins (a ∷ o) (b ∷ p) ≡ true) ⊎ (place_cmp (b ∷ p) (a ∷ o) ≡ Less)
    by Less f rest = inr (ap (λ r. ordering_then r (place_cmp p o)) f)
    by Equal f rest = alike (rest (and_second (text_eq a c) (begins o z) h) (ap (λ r. ordering_then r (place_cmp p z)) (sym f) ∙ from))
      where
        alike : (begins o p ≡ true) ⊎ (place_cmp p o ≡ Less) → (begins (a ∷ o) (b ∷ p) ≡ true) ⊎ (place_cmp (b ∷ p) (a ∷ o) ≡ Less)
        alike (inl g) = inl (and_both (text_eq a b) (begins o p) (ap (text_eq a) (text_cmp_exact b a f) ∙ text_eq-same a) g)
        alike (inr g) = inr (ap (λ r. ordering_then r (place_cmp p o)) f ∙ g)
    by Greater f rest = absurd (no_less (ap (λ r. ordering_then r (place_cmp p z)) (sym f) ∙ from))
      where
        no_less : Greater ≡ Less → ⊥
        no_less g = cc

begins_trans : (o p z : Place) → begins o p ≡ true → begins p z ≡ true → begins o z ≡ true
begins_trans [] p z h k = refl
begins_trans (a ∷ o) [] z h k = cc
begins_trans (a ∷ o) (b ∷ p) [] h k = cc
begins_trans (a ∷ o) (b ∷ p) (c ∷ z) h k =
    and_both (text_eq a c) (begins o z) (ap (text_eq a) (sym (same b c (and_first (text_eq b c) (begins p z) k))) ∙ and_first (text_eq a b) (begins o p) h)
    (begins_trans o p z (and_second (text_eq a b) (begins o p) h) (and_second (text_eq b c) (begins p z) k))
  where
    same : (x y : Text) → text_eq x y ≡ true → x ≡ y
    same x y e = text_cmp_exact x y (is_equal (text_cmp x y) e)
      where
        is_equal : (r : Ordering) → is_eq r ≡ true → r ≡ Equal
        is_equal Less f = cc
        is_equal Equal f = refl
        is_equal Greater f = cc

-- a place does not begin an earlier one
begins_later : (p q : Place) → place_cmp q p ≡ Less → begins p q ≡ false
begins_later [] [] e = cc
begins_later [] (b ∷ q) e = cc
begins_later (a ∷ p) [] e = refl
begins_later (a ∷ p) (b ∷ q) e = by (text_eq a b) refl (begins_later p q)
  where
    by : (c : Bool) → text_eq a b ≡ c → (place_cmp q p ≡ Less → begins p q ≡ false) → c && begins p q ≡ false
    by false f rest = refl
    by true f rest = rest (same_names (text_cmp a b) refl)
      where
        same_names : (r : Ordering) → text_cmp a b ≡ r → place_cmp q p ≡ Less
        same_names Less g = absurd (differs (sym (ap is_eq g) ∙ f))
          where
            differs : false ≡ true → ⊥
            differs h = cc
        same_names Greater g = absurd (differs (sym (ap is_eq g) ∙ f))
          where
            differs : false ≡ true → ⊥
            differs h = cc
        same_names Equal g = ap (λ r. ordering_then r (place_cmp q p)) (sym (equal b a (sym (text_cmp_exact a b g)))) ∙ e
          where
            equal : (x y : Text) → x ≡ y → text_cmp x y ≡ Equal
            equal x y h = subst (λ z. text_cmp x z ≡ Equal) h (of_true (text_cmp x x) (text_eq-same x))
              where
                of_true : (r : Ordering) → is_eq r ≡ true → r ≡ Equal
                of_true Less k = cc
                of_true Equal k = refl
                of_true Greater k = cc

below_itself : (p : Place) → is_below p p ≡ false
below_itself p = ap (λ b. begins p p && not b) (place_eq-same p) ∙ and-false (begins p p)

below_earlier : (p q : Place) → place_cmp q p ≡ Less → is_below p q ≡ false
below_earlier p q e = ap (λ b. b && not (place_eq p q)) (begins_later p q e)

below_later : (p q : Place) → place_cmp p q ≡ Less → is_below p q ≡ begins p q
below_later p q e = ap (λ b. begins p q && not b) (other_place p q e) ∙ and_true (begins p q)
  where
    and_true : (b : Bool) → b && true ≡ b
    and_true true = refl
    and_true false = refl

-- ---- shut objects

-- with one more group, which is shut or not
one_more : (gs : List Group) (g : Group) (p : Place) → below_shut (gs ++ g ∷ []) p ≡ below_shut gs p || (is_below g.place p && shuts g)
one_more gs g p = list_any-append (λ f. is_below f.place p && shuts f) gs (g ∷ []) ∙ ap (λ b. below_shut gs p || b) (or-false (is_below g.place p && shuts g))

-- one more group at a place behind it changes nothing for a place
none_more : (gs : List Group) (g : Group) (p : Place) → is_below g.place p ≡ false → below_shut (gs ++ g ∷ []) p ≡ below_shut gs p
none_more gs g p e = one_more gs g p ∙ ap (λ b. below_shut gs p || (b && shuts g)) e ∙ or-false (below_shut gs p)

earlier : (gs : List Group) (p : Place) → All (λ g. place_cmp g.place p ≡ Less) gs → (q : Place) → IsAmong (places gs) q → place_cmp q p ≡ Less
earlier [] p h q i = absurd i
earlier (g ∷ gs) p h q (inl e) = ap (λ x. place_cmp x p) e ∙ All-head (λ f. place_cmp f.place p ≡ Less) g gs h
earlier (g ∷ gs) p h q (inr i) = earlier gs p (All-tail (λ f. place_cmp f.place p ≡ Less) g gs h) q i

module _ (gs : List Group) (g : Group) (shut : Option Place) (less : All (λ f. place_cmp f.place g.place ≡ Less) gs) (h : IsShutBy gs shut) (known : g.in_shut ≡ leads_from shut g.place) where
  -- an object that was left is not come back to
  left_behind : (s : Option Place) → IfSome s (λ q. IsAmong (places gs) q) → leads_from s g.place ≡ false → (p : Place) → place_cmp g.place p ≡ Less → leads_from s p ≡ false
  left_behind None i e p k = refl
  left_behind (Some q) i e p k = by (begins q p) refl
    where
      by : (b : Bool) → begins q p ≡ b → b ≡ false
      by false f = refl
      by true f = absurd (not_between (between q g.place p f k))
        where
          not_between : (begins q g.place ≡ true) ⊎ (place_cmp g.place q ≡ Less) → ⊥
          not_between (inl j) = differs (sym e ∙ j)
            where
              differs : false ≡ true → ⊥
              differs d = cc
          not_between (inr j) = not_below_itself place_cmp_total q (place_cmp_total.trans q g.place q (earlier gs g.place less q i) j)

  -- what is below an object that is left open is as it was
  still_in : (s : Option Place) → leads_from s g.place ≡ true → (p : Place) → is_below g.place p ≡ true → leads_from s p ≡ true
  still_in None e p k = cc
  still_in (Some q) e p k = begins_trans q g.place p e (and_first (begins g.place p) (not (place_eq g.place p)) k)

  ahead : (p : Place) → All (λ f. place_cmp f.place p ≡ Less) (gs ++ g ∷ []) → below_shut (gs ++ g ∷ []) p ≡ leads_from (shut_after shut g.place (shuts g)) p
  ahead p all = one_more gs g p ∙ ap (λ b. b || (is_below g.place p && shuts g)) (h.ahead p before) ∙ by (leads_from shut g.place) refl
    where
      before : All (λ f. place_cmp f.place p ≡ Less) gs
      before = All-front gs all
        where
          All-front : (fs : List Group) → All (λ f. place_cmp f.place p ≡ Less) (fs ++ g ∷ []) → All (λ f. place_cmp f.place p ≡ Less) fs
          All-front [] k = All-nil (λ f. place_cmp f.place p ≡ Less)
          All-front (f ∷ fs) k = All-cons (λ x. place_cmp x.place p ≡ Less) f fs (All-head (λ x. place_cmp x.place p ≡ Less) f (fs ++ g ∷ []) k) (All-front fs (All-tail (λ x. place_cmp x.place p ≡ Less) f (fs ++ g ∷ []) k))

      own : place_cmp g.place p ≡ Less
      own = last gs all
        where
          last : (fs : List Group) → All (λ f. place_cmp f.place p ≡ Less) (fs ++ g ∷ []) → place_cmp g.place p ≡ Less
          last [] k = All-head (λ f. place_cmp f.place p ≡ Less) g [] k
          last (f ∷ fs) k = last fs (All-tail (λ x. place_cmp x.place p ≡ Less) f (fs ++ g ∷ []) k)

      by : (b : Bool) → leads_from shut g.place ≡ b → leads_from shut p || (is_below g.place p && shuts g) ≡ leads_from (cond b shut (cond (shuts g) (Some g.place) None)) p
      by true e = of (is_below g.place p) refl
        where
          of : (c : Bool) → is_below g.place p ≡ c → leads_from shut p || (c && shuts g) ≡ leads_from shut p
          of false f = or-false (leads_from shut p)
          of true f = ap (λ b. b || shuts g) (still_in shut e p f) ∙ sym (still_in shut e p f)
      by false e = (λ i. left_behind shut h.among e p own i || (below_later g.place p own i && shuts g)) ∙ of (shuts g)
        where
          of : (c : Bool) → begins g.place p && c ≡ leads_from (cond c (Some g.place) None) p
          of true = and_true (begins g.place p)
            where
              and_true : (b : Bool) → b && true ≡ b
              and_true true = refl
              and_true false = refl
          of false = and-false (begins g.place p)

  among : IfSome (shut_after shut g.place (shuts g)) (λ q. IsAmong (places (gs ++ g ∷ [])) q)
  among = by (leads_from shut g.place)
    where
      more : (q : Place) → IsAmong (places gs) q ⊎ IsAmong (g.place ∷ []) q → IsAmong (places (gs ++ g ∷ [])) q
      more q (inl i) = subst (λ ps. IsAmong ps q) (sym (map-append (λ f. f.place) gs (g ∷ []))) (among_left (places gs) (g.place ∷ []) q i)
      more q (inr i) = subst (λ ps. IsAmong ps q) (sym (map-append (λ f. f.place) gs (g ∷ []))) (among_right (places gs) (g.place ∷ []) q i)

      old : (s : Option Place) → IfSome s (λ q. IsAmong (places gs) q) → IfSome s (λ q. IsAmong (places (gs ++ g ∷ [])) q)
      old None i = tt
      old (Some q) i = more q (inl i)

      by : (b : Bool) → IfSome (cond b shut (cond (shuts g) (Some g.place) None)) (λ q. IsAmong (places (gs ++ g ∷ [])) q)
      by true = old shut h.among
      by false = of (shuts g)
        where
          of : (c : Bool) → IfSome (cond c (Some g.place) None) (λ q. IsAmong (places (gs ++ g ∷ [])) q)
          of true = more g.place (inr (inl refl))
          of false = tt

  behind : All (λ f. f.in_shut ≡ below_shut (gs ++ g ∷ []) f.place) (gs ++ g ∷ [])
  behind =
      All-append (λ f. f.in_shut ≡ below_shut (gs ++ g ∷ []) f.place) gs (g ∷ []) (still gs less h.behind)
      (All-cons (λ f. f.in_shut ≡ below_shut (gs ++ g ∷ []) f.place) g [] (known ∙ sym (h.ahead g.place less) ∙ sym (none_more gs g g.place (below_itself g.place))) (All-nil (λ f. f.in_shut ≡ below_shut (gs ++ g ∷ []) f.place)))
    where
      still : (fs : List Group) → All (λ f. place_cmp f.place g.place ≡ Less) fs → All (λ f. f.in_shut ≡ below_shut gs f.place) fs → All (λ f. f.in_shut ≡ below_shut (gs ++ g ∷ []) f.place) fs
      still [] k l = All-nil (λ f. f.in_shut ≡ below_shut (gs ++ g ∷ []) f.place)
      still (f ∷ fs) k l =
          All-cons (λ x. x.in_shut ≡ below_shut (gs ++ g ∷ []) x.place) f fs
          (All-head (λ x. x.in_shut ≡ below_shut gs x.place) f fs l ∙ sym (none_more gs g f.place (below_earlier g.place f.place (All-head (λ x. place_cmp x.place g.place ≡ Less) f fs k))))
          (still fs (All-tail (λ x. place_cmp x.place g.place ≡ Less) f fs k) (All-tail (λ x. x.in_shut ≡ below_shut gs x.place) f fs l))

  pub shut_more : IsShutBy (gs ++ g ∷ []) (shut_after shut g.place (shuts g))
  shut_more = record { ahead = ahead; among = among; behind = behind }

-- the same of the reports
module _ (gs : List Group) (h : All IsGroup gs) (k : IsAscending place_cmp (places gs)) where
  abbrev was : List Line
  was = flat_map (λ g. g.before) gs

  abbrev is : List Line
  is = flat_map (λ g. g.now) gs

  over : (p : Place) (fs : List Group) → ((f : Group) → IsAmong fs f → IsAmong gs f) → list_any (λ q. is_below q p && is_shut (lines_at q was) (lines_at q is)) (places fs) ≡ below_shut fs p
  over p [] among = refl
  over p (f ∷ fs) among =
      let b = lines_of (λ x. x.before) before_own gs h k f (among f (inl refl)) in
      let n = lines_of (λ x. x.now) now_own gs h k f (among f (inl refl)) in
      λ i. (is_below f.place p && is_shut (b i) (n i)) || over p fs (λ x m. among x (inr m)) i

  pub in_shut_is : (p : Place) → is_in_shut was is p ≡ below_shut gs p
  in_shut_is p = ap (list_any (λ q. is_below q p && is_shut (lines_at q was) (lines_at q is))) (same_places gs h k) ∙ over p gs (λ f i. i)

-- ---- lines below a place

first_more : (gs : List Group) (g : Group) (next later : Option Place) → first_place (g ∷ []) later ≡ next → first_place (gs ++ g ∷ []) later ≡ first_place gs next
first_more [] g next later e = e
first_more (f ∷ gs) g next later e = ap (place_or f.now) (first_more gs g next later e)

pub followed_more : (gs : List Group) (g : Group) (next later : Option Place) → AreFollowed gs next → first_place (g ∷ []) later ≡ next → g.has_lines ≡ leads_to g.place later → AreFollowed (gs ++ g ∷ []) later
followed_more [] g next later h e f = (f, tt)
followed_more (x ∷ gs) g next later h e f = (h.0 ∙ ap (leads_to x.place) (sym (first_more gs g next later e)), followed_more gs g next later h.1 e f)

none_below : (p q : Place) (ls : List Line) → is_below p q ≡ false → All (λ l. q ≡ l.place) ls → has_below p ls ≡ false
none_below p q [] e h = refl
none_below p q (l ∷ ls) e h = λ i. (ap (is_below p) (sym (All-head (λ m. q ≡ m.place) l ls h)) ∙ e) i || none_below p q ls e (All-tail (λ m. q ≡ m.place) l ls h) i

split_below : (p : Place) (g : Group) (gs : List Group) → has_below p (flat_map (λ x. x.now) (g ∷ gs)) ≡ has_below p g.now || has_below p (flat_map (λ x. x.now) gs)
split_below p g gs = list_any-append (λ l. is_below p l.place) g.now (flat_map (λ x. x.now) gs)

-- behind a place that is not below another one, and comes after it, none is
none_after : (p : Place) (gs : List Group) → All IsGroup gs → All (λ g. begins p g.place ≡ false) gs → has_below p (flat_map (λ x. x.now) gs) ≡ false
none_after p [] h k = refl
none_after p (g ∷ gs) h k =
    split_below p g gs
    ∙ (λ i. none_below p g.place g.now (ap (λ b. b && not (place_eq p g.place)) (All-head (λ x. begins p x.place ≡ false) g gs k)) (All-head IsGroup g gs h).now i
    || none_after p gs (All-tail IsGroup g gs h) (All-tail (λ x. begins p x.place ≡ false) g gs k) i)

all_past : (p q : Place) (gs : List Group) → place_cmp p q ≡ Less → begins p q ≡ false → IsBeforeAll place_cmp q (places gs) → All (λ g. begins p g.place ≡ false) gs
all_past p q [] e f k = All-nil (λ g. begins p g.place ≡ false)
all_past p q (g ∷ gs) e f k = All-cons (λ x. begins p x.place ≡ false) g gs (by (begins p g.place) refl) (all_past p q gs e f k.1)
  where
    by : (b : Bool) → begins p g.place ≡ b → b ≡ false
    by false h = refl
    by true h = absurd (not_between (between p q g.place h k.0))
      where
        not_between : (begins p q ≡ true) ⊎ (place_cmp q p ≡ Less) → ⊥
        not_between (inl j) = differs (sym f ∙ j)
          where
            differs : false ≡ true → ⊥
            differs d = cc
        not_between (inr j) = not_below_itself place_cmp_total p (place_cmp_total.trans p q p e j)

some_below : (p q : Place) (l : Line) (ls : List Line) → is_below p q ≡ true → q ≡ l.place → has_below p (l ∷ ls) ≡ true
some_below p q l ls e f = ap (λ b. b || has_below p ls) (ap (is_below p) (sym f) ∙ e)

-- the first line after a place says whether one is below it
first_says : (p : Place) (gs : List Group) → All IsGroup gs → IsAscending place_cmp (places gs) → IsBeforeAll place_cmp p (places gs) → has_below p (flat_map (λ x. x.now) gs) ≡ leads_to p (first_place gs None)
first_says p [] h k b = refl
first_says p (g ∷ gs) h k b = split_below p g gs ∙ by g.now (All-head IsGroup g gs h).now (first_says p gs (All-tail IsGroup g gs h) k.1 b.1)
  where
    later : (ls : List Line) → All (λ l. g.place ≡ l.place) ls → (c : Bool) → begins p g.place ≡ c → ls ≢ [] → has_below p ls || has_below p (flat_map (λ x. x.now) gs) ≡ c
    later [] a c e some = absurd (some refl)
    later (l ∷ ls) a true e some = ap (λ x. x || has_below p (flat_map (λ y. y.now) gs)) (some_below p g.place l ls (below_later p g.place b.0 ∙ e) (All-head (λ m. g.place ≡ m.place) l ls a))
    later (l ∷ ls) a false e some =
        λ i. none_below p g.place (l ∷ ls) (below_later p g.place b.0 ∙ e) a i || none_after p gs (All-tail IsGroup g gs h) (all_past p g.place gs b.0 e k.0) i

    by : (ls : List Line) → All (λ l. g.place ≡ l.place) ls → has_below p (flat_map (λ x. x.now) gs) ≡ leads_to p (first_place gs None)
        → has_below p ls || has_below p (flat_map (λ x. x.now) gs) ≡ leads_to p (place_or ls (first_place gs None))
    by [] a rest = rest
    by (l ∷ ls) a rest = later (l ∷ ls) a (begins p g.place) refl (λ z. cc) ∙ ap (begins p) (All-head (λ m. g.place ≡ m.place) l ls a)

pub has_lines_is : (gs : List Group) → All IsGroup gs → IsAscending place_cmp (places gs) → AreFollowed gs None → (g : Group) → IsAmong gs g → has_below g.place (flat_map (λ x. x.now) gs) ≡ g.has_lines
has_lines_is [] h k f g i = absurd i
has_lines_is (x ∷ gs) h k f g (inl e) =
    ap (λ y. has_below y.place (flat_map (λ z. z.now) (x ∷ gs))) e
    ∙ split_below x.place x gs
    ∙ ap (λ b. b || has_below x.place (flat_map (λ z. z.now) gs)) (none_below x.place x.place x.now (below_itself x.place) (All-head IsGroup x gs h).now)
    ∙ first_says x.place gs (All-tail IsGroup x gs h) k.1 k.0
    ∙ sym f.0
    ∙ ap (λ y. y.has_lines) (sym e)
has_lines_is (x ∷ gs) h k f g (inr i) =
    let ahead : place_cmp x.place g.place ≡ Less = before_each place_cmp x.place (places gs) k.0 g.place (among_map (λ y. y.place) gs g i) in
    split_below g.place x gs
    ∙ ap (λ b. b || has_below g.place (flat_map (λ z. z.now) gs)) (none_below g.place x.place x.now (below_earlier g.place x.place ahead) (All-head IsGroup x gs h).now)
    ∙ has_lines_is gs (All-tail IsGroup x gs h) k.1 f.1 g i

-- ---- what is said of the groups is what is said of the reports

module _ (asked : Question) (left : List Place) (gs : List Group) (h : All IsGroup gs) (k : IsAscending place_cmp (places gs)) (f : AreFollowed gs None) (shut : Option Place) (s : IsShutBy gs shut) where
  in_shut_of : (g : Group) → IsAmong gs g → is_in_shut (was gs h k) (is gs h k) g.place ≡ g.in_shut
  in_shut_of g i = in_shut_is gs h k g.place ∙ sym (each gs s.behind g i)
    where
      each : (fs : List Group) → All (λ x. x.in_shut ≡ below_shut gs x.place) fs → (x : Group) → IsAmong fs x → x.in_shut ≡ below_shut gs x.place
      each [] a x j = absurd j
      each (y ∷ fs) a x (inl e) = subst (λ z. z.in_shut ≡ below_shut gs z.place) (sym e) (All-head (λ z. z.in_shut ≡ below_shut gs z.place) y fs a)
      each (y ∷ fs) a x (inr j) = each fs (All-tail (λ z. z.in_shut ≡ below_shut gs z.place) y fs a) x j

  at_each : (fs : List Group) → ((g : Group) → IsAmong fs g → IsAmong gs g)
      → flat_map (seen_at asked left (was gs h k) (is gs h k)) (places fs) ≡ flat_map (group_seen asked left) fs
  at_each [] among = refl
  at_each (g ∷ fs) among =
      let i : IsAmong gs g = among g (inl refl) in
      let b = lines_of (λ x. x.before) before_own gs h k g i in
      let n = lines_of (λ x. x.now) now_own gs h k g i in
      let a = in_shut_of g i in
      let l = has_lines_is gs h k f g i in
      λ j. (lines_seen asked Before (b j) ++ (lines_seen asked Now (n j) ++ shown g.place (cond (is_left left g.place) [] (answer_at asked (a j) (l j) (b j) (n j))))) ++ at_each fs (λ x m. among x (inr m)) j

  pub groups_said : flat_map (group_seen asked left) gs ≡ all_seen asked left (was gs h k) (is gs h k)
  groups_said = sym (ap (λ ps. flat_map (seen_at asked left (was gs h k) (is gs h k)) ps) (same_places gs h k) ∙ at_each gs (λ g i. i))
