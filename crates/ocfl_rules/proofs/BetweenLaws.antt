-- What is between two places adds up, and between a place and the next that is seen is at most
-- that one.
use Rattle.std.proofs.Common.{◌≡◌, ◌≢◌, ◌⊎◌, inl, inr, List, [], ◌∷◌, ◌++◌, refl, sym, ◌∙◌, ap, subst, true, false, Bool, map, filter, Option, Some, None, append-nil}
use Rattle.std.proofs.lemmas.Bool.{false_from_ne_true, not-true}
use Rattle.std.specs.{Prelude.{cond, ◌&&◌, not, nat_le, length}, List.{list_all}, Ordering.{is_lt}}
use Rattle.std.specs.declared.cmp.Ordering.{Ordering}
use Rattle.std.specs.declared.cmp.Ordering.TheVariants.{Less, Equal, Greater}
use Rattle.ocfl_tree.specs.{Place.{Place, place_cmp}, Ascending.{ascending, IsAscending, IsAmong}}
use Rattle.ocfl_tree.specs.StorageRoot.{StorageRoot, dir, at, is_dir}
use Rattle.ocfl_tree.proofs.Trees.{dir_from_leaf}
use Rattle.ocfl_tree.proofs.Orders.{place_cmp_total, place_cmp_exact, true_not_false, below_from_greater, not_below_itself, not_less_itself, ascending_unique, among_ascending, among_filter, among_from_filter, among_left, among_right, ascends_filter, ascends_ascending}
use Rattle.ocfl_tree.proofs.Bools.{and_first, and_second}
use Rattle.ocfl_rules.specs.Zone.{Zone, skipped, hierarchy, inside, zone, is_entered, is_listed_zone, seen, max_listed_depth, beginnings}
use Rattle.ocfl_rules.specs.{Walk.{is_reached}, Audit.{candidates}, Due.{places_after}, Head.{on}}
use Rattle.ocfl_rules.specs.Stack.{NoneSeenBetween, NoneSeenAbove}
use Rattle.ocfl_rules.specs.Trail.{is_head, reads_inventory}
use Rattle.ocfl_rules.specs.Between.{IsBeyond, IsWithin, between, up_to, is_looked_into, shows_entries, looked_between, read_between}
use Rattle.ocfl_rules.proofs.AuditExists.{seen_candidate, object_key, zone_is}
use Rattle.ocfl_rules.proofs.BelowLaws.{less_from, on_ascends, from_append, ascends_append}
use Rattle.ocfl_rules.proofs.{WayLaws.{head_seen, is_closed}, WalkLaws.{none_among}}

-- ---- what is between two places, by order alone

module _ (ps : List Place) where
  pub among_between : (from to : Option Place) (z : Place) → IsAmong ps z → IsBeyond from z → IsWithin to z → IsAmong (between ps from to) z
  among_between from to z i l u = up to u (past from l)
    where
      past : (from : Option Place) → IsBeyond from z → IsAmong (places_after ps from) z
      past None l = i
      past (Some a) l = among_filter (λ q. is_lt (place_cmp a q)) ps z i (ap is_lt l)

      up : (to : Option Place) → IsWithin to z → IsAmong (places_after ps from) z → IsAmong (up_to (places_after ps from) to) z
      up None u k = k
      up (Some b) u k = among_filter (λ p. not (is_lt (place_cmp b p))) (places_after ps from) z k (ap not u)

  pub from_between : (from to : Option Place) (z : Place) → IsAmong (between ps from to) z → IsAmong ps z × IsBeyond from z × IsWithin to z
  from_between from to z i = let k = up to i in let l = past from k.0 in (l.0, l.1, k.1)
    where
      past : (from : Option Place) → IsAmong (places_after ps from) z → IsAmong ps z × IsBeyond from z
      past None k = (k, tt)
      past (Some a) k = let l = among_from_filter (λ q. is_lt (place_cmp a q)) ps z k in (l.0, less_from _ l.1)

      up : (to : Option Place) → IsAmong (up_to (places_after ps from) to) z → IsAmong (places_after ps from) z × IsWithin to z
      up None k = (k, tt)
      up (Some b) k = let l = among_from_filter (λ p. not (is_lt (place_cmp b p))) (places_after ps from) z k in (l.0, not-true _ l.1)

  module _ (ascends : IsAscending place_cmp ps) where
    pub between_ascends : (from to : Option Place) → IsAscending place_cmp (between ps from to)
    between_ascends from to = up to (past from)
      where
        past : (from : Option Place) → IsAscending place_cmp (places_after ps from)
        past None = ascends
        past (Some a) = ascends_filter place_cmp (λ q. is_lt (place_cmp a q)) ps ascends

        up : (to : Option Place) → IsAscending place_cmp (places_after ps from) → IsAscending place_cmp (up_to (places_after ps from) to)
        up None k = k
        up (Some b) k = ascends_filter place_cmp (λ p. not (is_lt (place_cmp b p))) (places_after ps from) k

    -- on to b, and from there on
    pub between_on : (from to : Option Place) (b : Place) → IsBeyond from b → IsWithin to b → between ps from (Some b) ++ between ps (Some b) to ≡ between ps from to
    between_on from to b l u =
        ascending_unique place_cmp_total place_cmp_exact _ _
        (ascends_append place_cmp (between ps from (Some b)) (between ps (Some b) to) (between_ascends from (Some b)) (between_ascends (Some b) to) apart) (between_ascends from to)
        (λ z. (to_whole z, to_parts z))
      where
        -- what is not past b is before what is above b
        before : (x y : Place) → is_lt (place_cmp b x) ≡ false → place_cmp b y ≡ Less → place_cmp x y ≡ Less
        before x y n k = by (place_cmp x b) refl
          where
            by : (r : Ordering) → place_cmp x b ≡ r → place_cmp x y ≡ Less
            by Less e = place_cmp_total.trans x b y e k
            by Equal e = ap (λ z. place_cmp z y) (place_cmp_exact x b e) ∙ k
            by Greater e = absurd (true_not_false (sym (ap is_lt (below_from_greater place_cmp_total x b e)) ∙ n))

        apart : (x y : Place) → IsAmong (between ps from (Some b)) x → IsAmong (between ps (Some b) to) y → place_cmp x y ≡ Less
        apart x y i j = before x y (from_between from (Some b) x i).2 (from_between (Some b) to y j).1

        beyond : (from : Option Place) → IsBeyond from b → (z : Place) → place_cmp b z ≡ Less → IsBeyond from z
        beyond None l z k = tt
        beyond (Some a) l z k = place_cmp_total.trans a b z l k

        within : (to : Option Place) → IsWithin to b → (z : Place) → is_lt (place_cmp b z) ≡ false → IsWithin to z
        within None u z n = tt
        within (Some c) u z n = by (place_cmp c z) refl
          where
            by : (r : Ordering) → place_cmp c z ≡ r → is_lt r ≡ false
            by Less e = absurd (true_not_false (sym (ap is_lt (low (place_cmp c b) refl)) ∙ u))
              where
                low : (r : Ordering) → place_cmp c b ≡ r → place_cmp c b ≡ Less
                low Less f = f
                low Equal f = absurd (true_not_false (sym (ap is_lt (sym (ap (λ w. place_cmp w z) (place_cmp_exact c b f)) ∙ e)) ∙ n))
                low Greater f = absurd (true_not_false (sym (ap is_lt (place_cmp_total.trans b c z (below_from_greater place_cmp_total c b f) e)) ∙ n))
            by Equal e = refl
            by Greater e = refl

        to_whole : (z : Place) → IsAmong (between ps from (Some b) ++ between ps (Some b) to) z → IsAmong (between ps from to) z
        to_whole z i = by (from_append (between ps from (Some b)) (between ps (Some b) to) z i)
          where
            by : IsAmong (between ps from (Some b)) z ⊎ IsAmong (between ps (Some b) to) z → IsAmong (between ps from to) z
            by (inl j) = let k = from_between from (Some b) z j in among_between from to z k.0 k.1 (within to u z k.2)
            by (inr j) = let k = from_between (Some b) to z j in among_between from to z k.0 (beyond from l z k.1) k.2

        to_parts : (z : Place) → IsAmong (between ps from to) z → IsAmong (between ps from (Some b) ++ between ps (Some b) to) z
        to_parts z i = let k = from_between from to z i in by k.0 k.1 k.2 (is_lt (place_cmp b z)) refl
          where
            by : IsAmong ps z → IsBeyond from z → IsWithin to z → (r : Bool) → is_lt (place_cmp b z) ≡ r → IsAmong (between ps from (Some b) ++ between ps (Some b) to) z
            by m f t true e = among_right (between ps from (Some b)) (between ps (Some b) to) z (among_between (Some b) to z m (less_from _ e) t)
            by m f t false e = among_left (between ps from (Some b)) (between ps (Some b) to) z (among_between from (Some b) z m f e)

    -- on to b, if nothing is before it but past from
    pub between_step : (from : Option Place) (b : Place) (test : Bool) → IsBeyond from b → (test ≡ true → IsAmong ps b) → (test ≡ false → IsAmong ps b → ⊥)
        → ((y : Place) → IsAmong ps y → IsBeyond from y → place_cmp y b ≡ Less → ⊥)
        → between ps from (Some b) ≡ on test b
    between_step from b test l here out none =
        ascending_unique place_cmp_total place_cmp_exact _ _ (between_ascends from (Some b)) (on_ascends test b) (λ z. (to z test refl, back z test refl))
      where
        same : (z : Place) → IsAmong ps z → IsBeyond from z → is_lt (place_cmp b z) ≡ false → z ≡ b
        same z i f n = by (place_cmp z b) refl
          where
            by : (r : Ordering) → place_cmp z b ≡ r → z ≡ b
            by Less e = absurd (none z i f e)
            by Equal e = place_cmp_exact z b e
            by Greater e = absurd (true_not_false (sym (ap is_lt (below_from_greater place_cmp_total z b e)) ∙ n))

        to : (z : Place) (t : Bool) → test ≡ t → IsAmong (between ps from (Some b)) z → IsAmong (on t b) z
        to z true e i = let k = from_between from (Some b) z i in inl (same z k.0 k.1 k.2)
        to z false e i = let k = from_between from (Some b) z i in absurd (out e (subst (IsAmong ps) (same z k.0 k.1 k.2) k.0))

        back : (z : Place) (t : Bool) → test ≡ t → IsAmong (on t b) z → IsAmong (between ps from (Some b)) z
        back z true e (inl i) = subst (IsAmong (between ps from (Some b))) (sym i) (among_between from (Some b) b (here e) l (not_less_itself place_cmp_total b))
        back z true e (inr i) = absurd i
        back z false e i = absurd i

    pub between_none : (from : Option Place) → ((y : Place) → IsAmong ps y → IsBeyond from y → ⊥) → between ps from None ≡ []
    between_none from none = none_among (between ps from None) (λ y i. let k = from_between from None y i in none y k.0 k.1)

-- ---- directories that are looked into, and objects whose inventories are read

-- the storage root has no beginning before it
abbrev pub directories : StorageRoot → List Place
directories root = filter (is_looked_into root) (ascending place_cmp (candidates root))

abbrev pub objects : StorageRoot → List Place
objects root = filter (reads_inventory root) (ascending place_cmp (map (λ e. e.0) root))

module _ (root : StorageRoot) where
  pub directories_ascend : IsAscending place_cmp (directories root)
  directories_ascend = ascends_filter place_cmp (is_looked_into root) _ (ascends_ascending place_cmp_total (candidates root))

  pub objects_ascend : IsAscending place_cmp (objects root)
  objects_ascend = ascends_filter place_cmp (reads_inventory root) _ (ascends_ascending place_cmp_total (map (λ e. e.0) root))

  pub looked_seen : (p : Place) → is_looked_into root p ≡ true → seen root p ≡ Some dir
  looked_seen [] h = refl
  looked_seen (n ∷ d) h =
      let way = list_all (is_entered root) (beginnings (n ∷ d)) in
      let short = nat_le (length (n ∷ d)) max_listed_depth in
      let rest = and_second way (short && (is_dir root (n ∷ d) && shows_entries root (zone root (n ∷ d)))) h in
      let there = and_first (is_dir root (n ∷ d)) (shows_entries root (zone root (n ∷ d))) (and_second short (is_dir root (n ∷ d) && shows_entries root (zone root (n ∷ d))) rest) in
      ap (λ b. cond b (at root (n ∷ d)) None) (and_first way (short && (is_dir root (n ∷ d) && shows_entries root (zone root (n ∷ d)))) h) ∙ dir_from_leaf (at root (n ∷ d)) there

  pub head_zone : (p : Place) (z : Zone) → zone root p ≡ z → is_head z ≡ true → (o : Place) × (zone root p ≡ inside o [])
  head_zone p skipped e h = absurd (true_not_false (sym h))
  head_zone p hierarchy e h = absurd (true_not_false (sym h))
  head_zone p (inside o []) e h = (o, e)
  head_zone p (inside o (n ∷ q)) e h = absurd (true_not_false (sym h))

  -- an object is seen at its own place, which is not the storage root's
  head_there : (p : Place) → is_head (zone root p) ≡ true → (seen root p ≡ Some dir) × (p ≢ [])
  head_there p h =
      let w = head_zone p (zone root p) refl h in
      let is = zone_is root p w.0 [] w.1 in
      let same : p ≡ w.0 = is.whole ∙ append-nil w.0 in
      (ap (seen root) same ∙ head_seen root (is_closed root) p w.0 [] w.1, λ e. is.below (sym same ∙ e))

  dir_at : (p : Place) → seen root p ≡ Some dir → at root p ≡ Some dir
  dir_at p h = by (list_all (is_entered root) (beginnings p)) h
    where
      by : (b : Bool) → cond b (at root p) None ≡ Some dir → at root p ≡ Some dir
      by true k = k
      by false k = absurd cc

  pub read_seen : (p : Place) → reads_inventory root p ≡ true → (seen root p ≡ Some dir) × (p ≢ [])
  read_seen p h = head_there p (and_first (is_head (zone root p)) _ h)

  -- what is reached is a directory that is seen
  pub seen_reached : (p : Place) → is_reached root p ≡ true → seen root p ≡ Some dir
  seen_reached p h =
      let way = list_all (is_entered root) (beginnings p) in
      let entered = and_second way (is_entered root p) h in
      let there = and_first (is_dir root p) (is_listed_zone root (zone root p)) (and_second (nat_le (length p) max_listed_depth) (is_dir root p && is_listed_zone root (zone root p)) entered) in
      ap (λ b. cond b (at root p) None) (and_first way (is_entered root p) h) ∙ dir_from_leaf (at root p) there

  pub is_directory : (p : Place) → is_looked_into root p ≡ true → IsAmong (directories root) p
  is_directory p h = among_filter (is_looked_into root) (ascending place_cmp (candidates root)) p
      ((among_ascending place_cmp_exact (candidates root) p).0 (seen_candidate root p dir (looked_seen p h))) h

  pub from_directory : (p : Place) → IsAmong (directories root) p → is_looked_into root p ≡ true
  from_directory p i = (among_from_filter (is_looked_into root) (ascending place_cmp (candidates root)) p i).1

  pub is_object : (p : Place) → reads_inventory root p ≡ true → IsAmong (objects root) p
  is_object p h =
      let there = read_seen p h in
      among_filter (reads_inventory root) (ascending place_cmp (map (λ e. e.0) root)) p ((among_ascending place_cmp_exact (map (λ e. e.0) root) p).0 (object_key root p there.1 (dir_at p there.0))) h

  pub from_object : (p : Place) → IsAmong (objects root) p → reads_inventory root p ≡ true
  from_object p i = (among_from_filter (reads_inventory root) (ascending place_cmp (map (λ e. e.0) root)) p i).1

  -- ---- one after the other

  pub looked_on : (from to : Option Place) (b : Place) → IsBeyond from b → IsWithin to b → looked_between root from (Some b) ++ looked_between root (Some b) to ≡ looked_between root from to
  unfolding looked_between
  looked_on from to b l u = between_on (directories root) directories_ascend from to b l u

  pub read_on : (from to : Option Place) (b : Place) → IsBeyond from b → IsWithin to b → read_between root from (Some b) ++ read_between root (Some b) to ≡ read_between root from to
  unfolding read_between
  read_on from to b l u = between_on (objects root) objects_ascend from to b l u

  -- ---- the next place that is seen

  seen_before : (last x : Place) → NoneSeenBetween root last x → (y : Place) → seen root y ≡ Some dir → place_cmp last y ≡ Less → place_cmp y x ≡ Less → ⊥
  seen_before last x none y s l k = none y dir s l k

  not_both : (b : Bool) → b ≡ false → b ≡ true → ⊥
  not_both b h k = true_not_false (sym k ∙ h)

  pub looked_step : (last x : Place) → place_cmp last x ≡ Less → NoneSeenBetween root last x → looked_between root (Some last) (Some x) ≡ on (is_looked_into root x) x
  unfolding looked_between
  looked_step last x l none =
      between_step (directories root) directories_ascend (Some last) x (is_looked_into root x) l (is_directory x) (λ h i. not_both _ h (from_directory x i))
      (λ y i f k. seen_before last x none y (looked_seen y (from_directory y i)) f k)

  pub read_step : (last x : Place) → place_cmp last x ≡ Less → NoneSeenBetween root last x → read_between root (Some last) (Some x) ≡ on (reads_inventory root x) x
  unfolding read_between
  read_step last x l none =
      between_step (objects root) objects_ascend (Some last) x (reads_inventory root x) l (is_object x) (λ h i. not_both _ h (from_object x i))
      (λ y i f k. seen_before last x none y (read_seen y (from_object y i)).0 f k)

  none_below_root : (y : Place) → place_cmp y [] ≡ Less → ⊥
  none_below_root [] h = not_below_itself place_cmp_total [] h
  none_below_root (n ∷ y) h = absurd cc

  pub looked_first : looked_between root None (Some []) ≡ [] ∷ []
  unfolding looked_between
  looked_first = between_step (directories root) directories_ascend None [] true tt (λ h. is_directory [] refl) (λ h i. true_not_false h) (λ y i f k. none_below_root y k)

  pub root_unread : reads_inventory root [] ≡ false
  root_unread = false_from_ne_true (reads_inventory root []) (λ h. (read_seen [] h).1 refl)

  pub read_first : read_between root None (Some []) ≡ []
  unfolding read_between
  read_first = between_step (objects root) objects_ascend None [] false tt (λ h. absurd (true_not_false (sym h))) (λ h i. (read_seen [] (from_object [] i)).1 refl) (λ y i f k. none_below_root y k)

  pub looked_end : (last : Place) → NoneSeenAbove root last → looked_between root (Some last) None ≡ []
  unfolding looked_between
  looked_end last none = between_none (directories root) directories_ascend (Some last) (λ y i f. none y dir (looked_seen y (from_directory y i)) f)

  pub read_end : (last : Place) → NoneSeenAbove root last → read_between root (Some last) None ≡ []
  unfolding read_between
  read_end last none = between_none (objects root) objects_ascend (Some last) (λ y i f. none y dir (read_seen y (from_object y i)).0 f)
