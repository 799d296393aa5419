-- What is on the way to a place comes before all that is above it.
use Rattle.std.proofs.Common.{◌≡◌, ◌⊎◌, inl, inr, List, [], ◌∷◌, ◌++◌, refl, sym, ◌∙◌, ap, subst, Bool, true, false, cond, Option, Some, None, map, filter}
use Rattle.std.proofs.lemmas.List.{map-append}
use Rattle.std.specs.{Prelude.{is_some}, Option.{option_map_or}}
use Rattle.std.specs.declared.cmp.Ordering.TheVariants.{Less}
use Rattle.ocfl_tree.specs.{Place.{Text, Place, place_cmp}, StorageRoot.{StorageRoot}}
use Rattle.ocfl_tree.specs.Ascending.{IsAscending, IsAmong, IsBeforeAll}
use Rattle.ocfl_tree.proofs.{Bools.{and_first}, Orders.{among_left, place_cmp_total, place_cmp_exact}}
use Rattle.ocfl_tree.proofs.Orders.{among_filter, among_from_filter, among_map, ascends_filter}
use Rattle.ocfl_tree.proofs.Orders.{ascending_unique}
use Rattle.ocfl_rules.specs.Zone.{Zone, skipped, hierarchy, inside, zone, inventory_at, beginnings}
use Rattle.ocfl_rules.specs.{Between.{IsBeyond}, Parts.{Part}, Trail.{is_head, reads_inventory}}
use Rattle.ocfl_rules.proofs.BelowLaws.{cmp_behind, from_append, ascends_append}
use Rattle.ocfl_item.specs.Looking.{way_to, IsFront}
use Rattle.ocfl_item.proofs.{ItemLaws.{head_zone}, LooksZones.{inside_on}}
use Rattle.ocfl_walk.specs.{WalkCalls.{holder_of, way_of, holder}, Before.{directory_of}}
use Rattle.ocfl_walk.proofs.{HolderLaws.{held_above, held_alone}, OnWay.{on_way}}
use Rattle.ocfl_walk.proofs.BeforeLaws.{directory_is}
use Rattle.ocfl_scrub.proofs.{DirectoryLaws.{has_directory}, Lists.{nothing_front, ascends_left}}
use Rattle.ocfl_scrub.proofs.Lists.{ascends_across}
use Rattle.ocfl_scrub.proofs.PartStarts.{looked_in_ascends, read_in_ascends, looked_in_beyond, read_in_beyond}
use Rattle.ocfl_scrub.specs.Starting.{entry, entry_by, greater_of, is_before, unless_root}
use Rattle.ocfl_scrub.specs.Starting.{looked_in, read_in, way_by, way_in}

-- ---- the way to a place

module _ (n : Text) where
  below_name : (a : Place) (bs : List Place) → IsBeforeAll place_cmp a bs → IsBeforeAll place_cmp (n ∷ a) (map (λ q. n ∷ q) bs)
  below_name a [] h = tt
  below_name a (b ∷ bs) h = (cmp_behind (n ∷ []) a b ∙ h.0, below_name a bs h.1)

  ascends_name : (ps : List Place) → IsAscending place_cmp ps → IsAscending place_cmp (map (λ q. n ∷ q) ps)
  ascends_name [] h = tt
  ascends_name (a ∷ ps) h = (below_name a ps h.0, ascends_name ps h.1)

  root_before : (ps : List Place) → IsBeforeAll place_cmp [] (map (λ q. n ∷ q) ps)
  root_before [] = tt
  root_before (a ∷ ps) = (refl, root_before ps)

  pub way_parts : (p : Place) → way_to (n ∷ p) ≡ [] ∷ map (λ q. n ∷ q) (way_to p)
  way_parts p = ap (λ ps. [] ∷ ps) (sym (map-append (λ q. n ∷ q) (beginnings p) (p ∷ [])))

pub way_ascends : (p : Place) → IsAscending place_cmp (way_to p)
way_ascends [] = (tt, tt)
way_ascends (n ∷ p) = subst (IsAscending place_cmp) (sym (way_parts n p)) (root_before n (way_to p), ascends_name n (way_to p) (way_ascends p))

pub among_way : (d q : Place) → IsAmong (way_to (d ++ q)) d
among_way [] [] = inl refl
among_way [] (n ∷ q) = inl refl
among_way (n ∷ d) q = subst (λ w. IsAmong w (n ∷ d)) (sym (way_parts n (d ++ q))) (inr (among_map (λ x. n ∷ x) (way_to (d ++ q)) d (among_way d q)))

way_then : (d : Place) (n : Text) → beginnings (d ++ n ∷ []) ≡ way_to d
way_then [] n = refl
way_then (m ∷ d) n = ap (λ ps. [] ∷ map (λ q. m ∷ q) ps) (way_then d n) ∙ sym (way_parts m d)

-- the way to the directory of a place
directory_way : (p : Place) → way_of (directory_of p) ≡ beginnings p
directory_way [] = refl
directory_way (m ∷ p) =
    let s = has_directory (m ∷ p) (λ e. cc) in
    ap (λ x. way_of (directory_of x)) s.1.1 ∙ ap way_of (directory_is s.0 s.1.0) ∙ sym (way_then s.0 s.1.0) ∙ sym (ap beginnings s.1.1)

-- the place itself, or before it
abbrev pub IsUpTo : Place → Place → Type 0
IsUpTo p x = (x ≡ p) ⊎ (place_cmp x p ≡ Less)

way_up_to : (p x : Place) → IsAmong (way_to p) x → IsUpTo p x
way_up_to p x i = by (from_append (beginnings p) (p ∷ []) x i)
  where
    by : IsAmong (beginnings p) x ⊎ IsAmong (p ∷ []) x → IsUpTo p x
    by (inl j) = inr (ascends_across place_cmp (beginnings p) (p ∷ []) x (way_ascends p) j).0
    by (inr (inl e)) = inl e
    by (inr (inr j)) = absurd j

before_beyond : (p x y : Place) → IsUpTo p x → place_cmp p y ≡ Less → place_cmp x y ≡ Less
before_beyond p x y (inl e) l = subst (λ z. place_cmp z y ≡ Less) (sym e) l
before_beyond p x y (inr k) l = place_cmp_total.trans x p y k l

-- what is above a place is above the way to it
pub way_beyond : (from : Option Place) (x y : Place) → IsAmong (way_of from) x → IsBeyond from y → place_cmp x y ≡ Less
way_beyond None x y i l = absurd i
way_beyond (Some p) x y i l = before_beyond p x y (way_up_to p x i) l

-- ---- the object that holds a place

holder_ascends : (root : StorageRoot) (z : Zone) → IsAscending place_cmp (filter (reads_inventory root) (holder_of z))
holder_ascends root skipped = tt
holder_ascends root hierarchy = tt
holder_ascends root (inside o q) = by (reads_inventory root o)
  where
    by : (b : Bool) → IsAscending place_cmp (cond b (o ∷ []) [])
    by true = (tt, tt)
    by false = tt

module _ (root : StorageRoot) where
  -- on the way to a place, its inventory alone is read
  pub held_is : (p : Option Place) → holder root p ≡ filter (reads_inventory root) (way_of p)
  held_is None = refl
  held_is (Some p) =
      ascending_unique place_cmp_total place_cmp_exact _ _ (holder_ascends root (zone root p)) (ascends_filter place_cmp (reads_inventory root) (way_to p) (way_ascends p))
      (λ z. (to z, from z))
    where
      to : (z : Place) → IsAmong (holder root (Some p)) z → IsAmong (filter (reads_inventory root) (way_to p)) z
      to z i =
          let k = held_above root p z i in
          among_filter (reads_inventory root) (way_to p) z (subst (λ x. IsAmong (way_to x) z) (sym k.1.1) (among_way z k.1.0)) k.0

      from : (z : Place) → IsAmong (filter (reads_inventory root) (way_to p)) z → IsAmong (holder root (Some p)) z
      from z i =
          let k = among_from_filter (reads_inventory root) (way_to p) z i in
          let behind = on_way p z k.0 in
          let head : zone root z ≡ inside z [] = head_zone root z (and_first (is_head (zone root z)) (is_some (inventory_at root z)) k.1) in
          let inner : zone root p ≡ inside z behind.0 = ap (zone root) behind.1 ∙ inside_on root z z [] behind.0 head in
          subst (λ xs. IsAmong xs z) (sym (held_alone root p z behind.0 inner k.1)) (inl refl)

-- ---- and what is above it

joined_ascends : (p : Place) (front way rest : List Place) → IsFront front way → IsAscending place_cmp way → ((x : Place) → IsAmong way x → IsUpTo p x)
    → IsAscending place_cmp rest → ((y : Place) → IsAmong rest y → place_cmp p y ≡ Less) → IsAscending place_cmp (front ++ rest)
joined_ascends p front way rest f up low k far =
    ascends_append place_cmp front rest (ascends_left place_cmp front f.0 (subst (IsAscending place_cmp) f.1 up)) k
    (λ x y i j. before_beyond p x y (low x (subst (λ zs. IsAmong zs x) (sym f.1) (among_left front f.0 x i))) (far y j))

front_ascends : (whole xs : List Place) → IsFront xs whole → IsAscending place_cmp whole → IsAscending place_cmp xs
front_ascends whole xs f h = ascends_left place_cmp xs f.0 (subst (IsAscending place_cmp) f.1 h)

-- the directories on the way to a place, and then others above it
listed_then : (from : Option Place) (down listed : List Place) → IsFront down (way_of from) → IsAscending place_cmp listed
    → ((y : Place) → IsAmong listed y → IsBeyond from y) → IsAscending place_cmp (down ++ listed)
listed_then None down listed f up far = subst (λ xs. IsAscending place_cmp (xs ++ listed)) (sym (nothing_front down f)) up
listed_then (Some p) down listed f up far = joined_ascends p down (way_to p) listed f (way_ascends p) (way_up_to p) up far

-- the objects on it whose inventories are read, and then others above the place
read_then : (root : StorageRoot) (from : Option Place) (held heads : List Place) → IsFront held (filter (reads_inventory root) (way_of from)) → IsAscending place_cmp heads
    → ((y : Place) → IsAmong heads y → IsBeyond from y) → IsAscending place_cmp (held ++ heads)
read_then root None held heads f up far = subst (λ xs. IsAscending place_cmp (xs ++ heads)) (sym (nothing_front held f)) up
read_then root (Some p) held heads f up far =
    joined_ascends p held (filter (reads_inventory root) (way_to p)) heads f (ascends_filter place_cmp (reads_inventory root) (way_to p) (way_ascends p))
    (λ x i. way_up_to p x (among_from_filter (reads_inventory root) (way_to p) x i).0) up far

-- ---- of a part

module _ (part : Part) (above : Option Place) where
  -- the way down to where a walk over it begins
  pub way_is : way_of (entry part above) ≡ way_in part above
  way_is = by (greater_of part.under part.from)
    where
      by_place : (above : Option Place) → way_of above ≡ option_map_or way_to above []
      by_place None = refl
      by_place (Some p) = refl

      from_root : (above : Option Place) → way_of above ≡ way_by [] above
      from_root None = refl
      from_root (Some []) = refl
      from_root (Some (m ∷ p)) = refl

      by : (first : Place) → way_of (entry_by (unless_root first) above) ≡ way_by first above
      by [] = from_root above
      by (n ∷ p) = at (is_before above (n ∷ p))
        where
          at : (b : Bool) → way_of (cond b (directory_of (n ∷ p)) above) ≡ cond b (beginnings (n ∷ p)) (option_map_or way_to above [])
          at true = directory_way (n ∷ p)
          at false = by_place above

  pub held_in : (root : StorageRoot) → holder root (entry part above) ≡ filter (reads_inventory root) (way_in part above)
  held_in root = held_is root (entry part above) ∙ ap (filter (reads_inventory root)) way_is

module _ (root : StorageRoot) (part : Part) (from to : Option Place) where
  pub listed_once_in : (down listed : List Place) → IsFront down (way_in part from) → IsFront listed (looked_in root part from to) → IsAscending place_cmp (down ++ listed)
  listed_once_in down listed f g =
      listed_then (entry part from) down listed (subst (IsFront down) (sym (way_is part from)) f) (front_ascends _ listed g (looked_in_ascends root part from to))
      (λ y j. looked_in_beyond root part from to y (subst (λ zs. IsAmong zs y) (sym g.1) (among_left listed g.0 y j)))

  pub read_once_in : (held heads : List Place) → IsFront held (filter (reads_inventory root) (way_in part from)) → IsFront heads (read_in root part from to) → IsAscending place_cmp (held ++ heads)
  read_once_in held heads f g =
      read_then root (entry part from) held heads (subst (λ w. IsFront held (filter (reads_inventory root) w)) (sym (way_is part from)) f) (front_ascends _ heads g (read_in_ascends root part from to))
      (λ y j. read_in_beyond root part from to y (subst (λ zs. IsAmong zs y) (sym g.1) (among_left heads g.0 y j)))
