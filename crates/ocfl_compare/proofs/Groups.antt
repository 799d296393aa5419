-- The lines of two reports, place by place, are those that a filter gives.
use Rattle.std.proofs.Common.{◌≡◌, ◌≢◌, ◌⊎◌, inl, inr, List, [], ◌∷◌, ◌++◌, Bool, true, false, All, map, refl, sym, ap, subst, ◌∙◌, append-nil}
use Rattle.std.proofs.lemmas.List.{map-append}
use Rattle.std.proofs.lemmas.List.Elements.{All-head, All-tail, filter-append}
use Rattle.std.specs.{Prelude.{cond, flat_map}, Ordering.{is_eq}, declared.cmp.Ordering.{Ordering}}
use Rattle.std.specs.declared.cmp.Ordering.TheVariants.{Less, Equal, Greater}
use Rattle.ocfl_tree.specs.Place.{Place, place_cmp, place_eq}
use Rattle.ocfl_tree.specs.Ascending.{IsBeforeAll, IsAscending, IsAmong}
use Rattle.ocfl_tree.proofs.Orders.{place_cmp_total, place_cmp_exact, not_below_itself, before_each, ascending_unique, ascends_ascending, among_ascending, among_left, among_right, among_map}
use Rattle.ocfl_tree.proofs.{Places.{place_eq-same}, Stores.{among_either}}
use Rattle.ocfl_report.specs.Line.{Line}
use Rattle.ocfl_compare.specs.Changes.{lines_at, places_of}
use Rattle.ocfl_compare.specs.Internal.Turns.{Group, IsGroup}

abbrev pub places : List Group → List Place
places gs = map (λ g. g.place) gs

-- ---- the lines of a place

pub other_place : (p q : Place) → place_cmp p q ≡ Less → place_eq p q ≡ false
other_place p q e = ap is_eq e

pub later_place : (p q : Place) → place_cmp q p ≡ Less → place_eq p q ≡ false
later_place p q e = by (place_cmp p q) refl
  where
    by : (r : Ordering) → place_cmp p q ≡ r → is_eq r ≡ false
    by Less f = refl
    by Equal f = absurd (not_below_itself place_cmp_total q (subst (λ x. place_cmp q x ≡ Less) (place_cmp_exact p q f) e))
    by Greater f = refl

all_here : (p : Place) (ls : List Line) → All (λ l. p ≡ l.place) ls → lines_at p ls ≡ ls
all_here p [] h = refl
all_here p (l ∷ ls) h = by (place_eq p l.place) (ap (place_eq p) (sym (All-head (λ m. p ≡ m.place) l ls h)) ∙ place_eq-same p) (all_here p ls (All-tail (λ m. p ≡ m.place) l ls h))
  where
    by : (b : Bool) → b ≡ true → lines_at p ls ≡ ls → cond b (l ∷ lines_at p ls) (lines_at p ls) ≡ l ∷ ls
    by true e rest = ap (λ xs. l ∷ xs) rest
    by false e rest = cc

none_here : (p q : Place) (ls : List Line) → place_eq p q ≡ false → All (λ l. q ≡ l.place) ls → lines_at p ls ≡ []
none_here p q [] e h = refl
none_here p q (l ∷ ls) e h = by (place_eq p l.place) (ap (place_eq p) (sym (All-head (λ m. q ≡ m.place) l ls h)) ∙ e) (none_here p q ls e (All-tail (λ m. q ≡ m.place) l ls h))
  where
    by : (b : Bool) → b ≡ false → lines_at p ls ≡ [] → cond b (l ∷ lines_at p ls) (lines_at p ls) ≡ []
    by true f rest = cc
    by false f rest = rest

module _ (lines : Group → List Line) (own : (g : Group) → IsGroup g → All (λ l. g.place ≡ l.place) (lines g)) where
  split_at : (p : Place) (g : Group) (gs : List Group) → lines_at p (flat_map lines (g ∷ gs)) ≡ lines_at p (lines g) ++ lines_at p (flat_map lines gs)
  split_at p g gs = filter-append (λ l. place_eq p l.place) (lines g) (flat_map lines gs)

  none_behind : (p : Place) (gs : List Group) → All IsGroup gs → IsBeforeAll place_cmp p (places gs) → lines_at p (flat_map lines gs) ≡ []
  none_behind p [] h k = refl
  none_behind p (g ∷ gs) h k =
      split_at p g gs
      ∙ (λ i. none_here p g.place (lines g) (other_place p g.place k.0) (own g (All-head IsGroup g gs h)) i ++ none_behind p gs (All-tail IsGroup g gs h) k.1 i)

  -- the lines of a group are those of its place
  pub lines_of : (gs : List Group) → All IsGroup gs → IsAscending place_cmp (places gs) → (g : Group) → IsAmong gs g → lines_at g.place (flat_map lines gs) ≡ lines g
  lines_of [] h k g i = absurd i
  lines_of (f ∷ gs) h k g (inl e) =
      ap (λ x. lines_at x.place (flat_map lines (f ∷ gs))) e
      ∙ split_at f.place f gs
      ∙ (λ i. all_here f.place (lines f) (own f (All-head IsGroup f gs h)) i ++ none_behind f.place gs (All-tail IsGroup f gs h) k.0 i)
      ∙ append-nil (lines f)
      ∙ ap lines (sym e)
  lines_of (f ∷ gs) h k g (inr i) =
      let behind : place_cmp f.place g.place ≡ Less = before_each place_cmp f.place (places gs) k.0 g.place (among_map (λ x. x.place) gs g i) in
      split_at g.place f gs
      ∙ (λ j. none_here g.place f.place (lines f) (later_place g.place f.place behind) (own f (All-head IsGroup f gs h)) j ++ lines_of gs (All-tail IsGroup f gs h) k.1 g i j)

-- ---- their places

here_only : (p z : Place) (ls : List Line) → All (λ l. p ≡ l.place) ls → IsAmong (map (λ l. l.place) ls) z → z ≡ p
here_only p z [] h i = absurd i
here_only p z (l ∷ ls) h (inl e) = e ∙ sym (All-head (λ m. p ≡ m.place) l ls h)
here_only p z (l ∷ ls) h (inr i) = here_only p z ls (All-tail (λ m. p ≡ m.place) l ls h) i

here_some : (p : Place) (ls : List Line) → All (λ l. p ≡ l.place) ls → ls ≢ [] → IsAmong (map (λ l. l.place) ls) p
here_some p [] h k = absurd (k refl)
here_some p (l ∷ ls) h k = inl (All-head (λ m. p ≡ m.place) l ls h)

module _ (lines : Group → List Line) (own : (g : Group) → IsGroup g → All (λ l. g.place ≡ l.place) (lines g)) where
  from_lines : (gs : List Group) → All IsGroup gs → (z : Place) → IsAmong (map (λ l. l.place) (flat_map lines gs)) z → IsAmong (places gs) z
  from_lines [] h z i = absurd i
  from_lines (g ∷ gs) h z i =
      by (among_either (map (λ l. l.place) (lines g)) (map (λ l. l.place) (flat_map lines gs)) z (subst (λ ps. IsAmong ps z) (map-append (λ l. l.place) (lines g) (flat_map lines gs)) i)) (from_lines gs (All-tail IsGroup g gs h) z)
    where
      by : IsAmong (map (λ l. l.place) (lines g)) z ⊎ IsAmong (map (λ l. l.place) (flat_map lines gs)) z → (IsAmong (map (λ l. l.place) (flat_map lines gs)) z → IsAmong (places gs) z) → IsAmong (places (g ∷ gs)) z
      by (inl j) rest = inl (here_only g.place z (lines g) (own g (All-head IsGroup g gs h)) j)
      by (inr j) rest = inr (rest j)

  to_lines : (gs : List Group) → All IsGroup gs → (g : Group) → IsAmong gs g → lines g ≢ [] → IsAmong (map (λ l. l.place) (flat_map lines gs)) g.place
  to_lines [] h g i k = absurd i
  to_lines (f ∷ gs) h g (inl e) k =
      subst (λ ps. IsAmong ps g.place) (sym (map-append (λ l. l.place) (lines f) (flat_map lines gs)))
      (among_left (map (λ l. l.place) (lines f)) (map (λ l. l.place) (flat_map lines gs)) g.place
      (subst (λ x. IsAmong (map (λ l. l.place) (lines x)) g.place) e (here_some g.place (lines g) (own g (subst IsGroup (sym e) (All-head IsGroup f gs h))) k)))
  to_lines (f ∷ gs) h g (inr i) k =
      subst (λ ps. IsAmong ps g.place) (sym (map-append (λ l. l.place) (lines f) (flat_map lines gs)))
      (among_right (map (λ l. l.place) (lines f)) (map (λ l. l.place) (flat_map lines gs)) g.place (to_lines gs (All-tail IsGroup f gs h) g i k))

among_all : (gs : List Group) → All IsGroup gs → (g : Group) → IsAmong gs g → IsGroup g
among_all [] h g i = absurd i
among_all (f ∷ gs) h g (inl e) = subst IsGroup (sym e) (All-head IsGroup f gs h)
among_all (f ∷ gs) h g (inr i) = among_all gs (All-tail IsGroup f gs h) g i

from_places : (gs : List Group) (z : Place) → IsAmong (places gs) z → (g : Group) × (IsAmong gs g × (z ≡ g.place))
from_places [] z i = absurd i
from_places (g ∷ gs) z (inl e) = (g, (inl refl, e))
from_places (g ∷ gs) z (inr i) = let k = from_places gs z i in (k.0, (inr k.1.0, k.1.1))

pub before_own : (g : Group) → IsGroup g → All (λ l. g.place ≡ l.place) g.before
before_own g h = h.before

pub now_own : (g : Group) → IsGroup g → All (λ l. g.place ≡ l.place) g.now
now_own g h = h.now

module _ (gs : List Group) (h : All IsGroup gs) (k : IsAscending place_cmp (places gs)) where
  abbrev was : List Line
  was = flat_map (λ g. g.before) gs

  abbrev is : List Line
  is = flat_map (λ g. g.now) gs

  to_places : (z : Place) → IsAmong (map (λ l. l.place) (was ++ is)) z → IsAmong (places gs) z
  to_places z i = by (among_either (map (λ l. l.place) was) (map (λ l. l.place) is) z (subst (λ ps. IsAmong ps z) (map-append (λ l. l.place) was is) i))
    where
      by : IsAmong (map (λ l. l.place) was) z ⊎ IsAmong (map (λ l. l.place) is) z → IsAmong (places gs) z
      by (inl j) = from_lines (λ g. g.before) before_own gs h z j
      by (inr j) = from_lines (λ g. g.now) now_own gs h z j

  of_places : (z : Place) → IsAmong (places gs) z → IsAmong (map (λ l. l.place) (was ++ is)) z
  of_places z i =
      let g = from_places gs z i in
      subst (λ ps. IsAmong ps z) (sym (map-append (λ l. l.place) was is)) (subst (λ x. IsAmong (map (λ l. l.place) was ++ map (λ l. l.place) is) x) (sym g.1.1) (by g.0 g.1.0 (among_all gs h g.0 g.1.0).some))
    where
      by : (g : Group) → IsAmong gs g → (g.before ≢ []) ⊎ (g.now ≢ []) → IsAmong (map (λ l. l.place) was ++ map (λ l. l.place) is) g.place
      by g j (inl s) = among_left (map (λ l. l.place) was) (map (λ l. l.place) is) g.place (to_lines (λ x. x.before) before_own gs h g j s)
      by g j (inr s) = among_right (map (λ l. l.place) was) (map (λ l. l.place) is) g.place (to_lines (λ x. x.now) now_own gs h g j s)

  pub same_places : places_of was is ≡ places gs
  same_places =
      ascending_unique place_cmp_total place_cmp_exact (places_of was is) (places gs) (ascends_ascending place_cmp_total (map (λ l. l.place) (was ++ is))) k
      (λ z. (λ i. to_places z ((among_ascending place_cmp_exact (map (λ l. l.place) (was ++ is)) z).1 i), λ i. (among_ascending place_cmp_exact (map (λ l. l.place) (was ++ is)) z).0 (of_places z i)))
