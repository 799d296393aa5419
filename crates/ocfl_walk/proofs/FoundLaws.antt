-- What was done to know one place.
use Rattle.std.proofs.Common.{◌≡◌, ◌≢◌, ℕ, List, [], ◌∷◌, ◌++◌, refl, sym, ◌∙◌, ap, subst, true, false, Bool, Option, Some, None, filter}
use Rattle.std.specs.Prelude.{AllPairs, cond, ◌||◌, not, Result, Ok, Err, MatchResult}
use Rattle.std.specs.Ordering.{is_lt}
use Rattle.ocfl_tree.specs.{Place.{Text, Place, place_cmp, text_eq}, StorageRoot.{StorageRoot}}
use Rattle.ocfl_tree.specs.{Store.{Store, Did}, declared.store.Opening.{Opening}}
use Rattle.ocfl_report.specs.declared.further.Further.{Further}
use Rattle.ocfl_report.specs.declared.further.Further.TheVariants.{Nothing, Inventories}
use Rattle.ocfl_rules.specs.Zone.{Zone, skipped, hierarchy, inside, inventory_name, is_in_extensions, object_zone, root_declared, seen, zone, is_known}
use Rattle.ocfl_rules.specs.Due.{hashed_among}
use Rattle.ocfl_rules.specs.Inventories.{head_notes, is_hashed, notes, version_inventory_in, version_notes}
use Rattle.ocfl_rules.specs.Lines.{common_notes, notes_in}
use Rattle.ocfl_rules.specs.Between.{is_looked_into}
use Rattle.ocfl_rules.specs.Trail.{content_trail, heads_of, inventory_of, reads_inventory}
use Rattle.ocfl_rules.proofs.AuditExists.{zone_is}
use Rattle.ocfl_rules.proofs.PathLaws.{notes_at}
use Rattle.ocfl_item.specs.Auditing.{FailedAt, IsMetadataRead, LieIn}
use Rattle.ocfl_item.specs.{Looking.{IsFront, LiesUpTo, failures_by, way_to}, Meeting.{IsItemAt, Visits}}
use Rattle.ocfl_item.specs.{Ways.{Stops, way_below}, declared.fault.Fault.{Fault}}
use Rattle.ocfl_item.specs.{declared.pending.Pending.{Pending}, declared.visit.Visit.{Visit}}
use Rattle.ocfl_walk.specs.WalkCalls.{AreAllListed, GoDownFails, GoesDown, IsRootFirst, holder, holder_of}
use Rattle.ocfl_walk.specs.Internal.Entering.{Starts, StartFails}
use Rattle.ocfl_walk.specs.Internal.Finding.{Finds, FindsAll, FindFails, FindsItem, LiesUpToOne}
use Rattle.ocfl_item.specs.declared.fault.Fault.TheVariants as fault
use Rattle.ocfl_item.proofs.AuditingLaws.{audits_meta, audits_nothing, fails_meta, front_all, front_kept, none_once}
use Rattle.ocfl_item.proofs.UpToLaws.{begins_not_before, not_less_or}
use Rattle.ocfl_walk.proofs.{DescentLaws.{front_within}, OnWay.{on_way}, ReachLaws.{own_listed}}
use Rattle.ocfl_walk.proofs.EnterLaws.{comes_first, start_listed, start_unlisted}
use Rattle.ocfl_walk.proofs.FindLaws.{all_on, front_own, finds_come, finds_nothing, finds_stopped, item_on, item_refused, may_few}

-- ---- as it is told

pub place_is : (d q p : Place) (n : Text) (r : Place) → d ≡ [] → q ≡ p → q ≡ n ∷ r → p ≡ d ++ n ∷ r
place_is d q p n r base same is = sym same ∙ is ∙ ap (λ x. x ++ n ∷ r) (sym base)

pub no_base : (q p : Place) (n : Text) (r : Place) → q ≡ p → q ≡ n ∷ r → p ≢ []
no_base q p n r same is e = let two : n ∷ r ≡ [] = sym is ∙ same ∙ e in cc

pub none_hashed : (further : Further) (root : StorageRoot) → hashed_among further root [] ≡ []
unfolding hashed_among
none_hashed further root = refl

module _ (further : Further) (root : StorageRoot) where
  module _ (s t : Store) (p : Place) where
    module _ (trail : List Opening) (listed : List Place) (over : s.tree ≡ root) (meta : content_trail further root trail ≡ [])
        (once : AllPairs (λ a b. a.place ≢ b.place) trail) (way : IsFront listed (way_to p)) (heads : IsFront (heads_of root trail) (holder root (Some p))) (near : LieIn further root listed trail) where
      went : Did s t trail listed 0 → IsMetadataRead further root trail → IsRootFirst listed → AreAllListed root (way_to p) listed → GoesDown further root s t (Some p)
      went did read first all = record {
        trail = trail;
        listed = listed;
        heads = heads_of root trail;
        audits = audits_meta further root s t listed (heads_of root trail) trail over did read meta refl near;
        root_first = first;
        all_listed = all;
        listed_front = way;
        heads_front = heads;
        once = once;
      }

      went_wrong : (why : Fault) → ((q : Place) → why ≡ fault.Store q → (is_hashed further root q ≡ false) × FailedAt further root s t listed trail q)
          → Did s t trail listed (failures_by why) → ((q : Place) → why ≡ fault.Store q → LiesUpTo (Some p) q) → GoDownFails further root s t (Some p) why
      went_wrong why store did up_to = record {
        trail = trail;
        listed = listed;
        heads = heads_of root trail;
        fails = fails_meta further root s t listed (heads_of root trail) trail why over did meta refl near store;
        listed_front = way;
        heads_front = heads;
        once = once;
        up_to = λ q e. (p, (refl, up_to q e));
      }

    -- of the object that holds it the inventory is read only if its head reads it
    held : (may : List Place) (f : ℕ) (h : Finds further root s t (way_to p) may f) → IsFront (heads_of root h.calls.trail) (filter (reads_inventory root) may)
    held may f h = front_kept (reads_inventory root) (heads_of root h.calls.trail) may h.calls.reached h.heads

    pub goes_down : (h : FindsAll further root s t (way_to p) (holder_of (zone root p))) → IsRootFirst h.finds.calls.listings → GoesDown further root s t (Some p)
    goes_down h first =
        let k = h.finds.calls in
        went k.trail k.listings k.over k.meta h.finds.once h.finds.listed (held (holder_of (zone root p)) 0 h.finds) h.finds.near k.did (k.read refl) first h.all

    pub go_down_fails : (why : Fault) → FindFails further root s t (way_to p) (holder_of (zone root p)) why → GoDownFails further root s t (Some p) why
    go_down_fails why h =
        let k = h.finds.calls in
        went_wrong k.trail k.listings k.over k.meta h.finds.once h.finds.listed (held (holder_of (zone root p)) (failures_by why) h.finds) h.finds.near why h.store k.did (λ q e. on_the_way q (h.up_to q e))
      where
        -- what is on the way is not after where it leads
        on_the_way : (q : Place) → LiesUpToOne (way_to p) q → LiesUpTo (Some p) q
        on_the_way q g d n is =
            let r = on_way p g.0 g.1.0 in
            not_less_or p g.0 d (subst (λ x. is_lt (place_cmp x g.0) ≡ false) (sym r.1) (begins_not_before g.0 r.0)) (g.1.1 d n is)

    -- the start of a walk is such a way
    pub start_goes_down : Starts further root s t p → GoesDown further root s t (Some p)
    start_goes_down h = goes_down (finds_come further root s t (way_to p) (holder_of (zone root p)) [] (may_few None (zone root p)) h.comes) h.root_first

    pub start_fails_down : (why : Fault) → StartFails further root s t p why → GoDownFails further root s t (Some p) why
    start_fails_down why h = go_down_fails why (finds_stopped further root s t (way_to p) (holder_of (zone root p)) why (may_few None (zone root p)) h)

  abbrev pub IsAnswer : Store → Store → Place → Result (Option Pending) Fault → Type 0
  IsAnswer s t p r = MatchResult r (λ o. GoesDown further root s t (Some p) × IsItemAt further root p o) (λ why. GoDownFails further root s t (Some p) why)

  -- ---- below the storage root

  pub answered_unlisted : (s t : Store) (p : Place) (why : Fault) → Stops further root s t ([] ∷ []) [] why → GoDownFails further root s t (Some p) why
  answered_unlisted s t p why h = start_fails_down s t p why (start_unlisted further root s t p why h)

  module _ (s t : Store) (p : Place) (over : s.tree ≡ root) (did : Did s t [] ([] ∷ []) 0) where
    pub answered_below : (u : Store) (d q : Place) (r : Result (Option Pending) Fault) → d ≡ [] → q ≡ p → FindsItem further root t u (way_below d q) (holder_of (zone root p)) p r → IsAnswer s u p r
    answered_below u d q r base same h =
        by r (subst (λ x. FindsItem further root t u (way_below [] x) (holder_of (zone root p)) p r) same (subst (λ x. FindsItem further root t u (way_below x q) (holder_of (zone root p)) p r) base h))
      where
        may : List Place
        may = holder_of (zone root p)

        by : (r : Result (Option Pending) Fault) → FindsItem further root t u (way_below [] p) may p r → IsAnswer s u p r
        by (Ok o) k =
            let first = comes_first further root s t p over did in
            (goes_down s u p (all_on further root s t u (way_to p) (way_below [] p) may may (may_few None (zone root p)) first.goes k.gives.0 first.all) (_, refl), k.gives.1)
        by (Err why) k =
            let first = comes_first further root s t p over did in
            go_down_fails s u p why (item_on further root s t u (way_to p) (way_below [] p) may may (may_few None (zone root p)) first.goes first.all p (Err why) k).gives

    skipped_notes : (q : Place) → q ≢ [] → is_known (root_declared root) ≡ false → notes further root None q ≡ []
    skipped_notes q some h = by further
      where
        out : zone root q ≡ skipped
        out = ap (λ b. cond (not b || is_in_extensions root q) skipped (object_zone root [] q)) h

        common : common_notes root None q ≡ []
        common = notes_at root None q some ∙ ap (notes_in root q None) out

        by : (f : Further) → notes f root None q ≡ []
        by Nothing = common
        by Inventories = λ i. common i ++ (head_notes root (out i) ++ version_notes root None (version_inventory_in (out i) (seen root q)))

    -- if the root's version is not known nothing else has lines
    pub answered_unknown : p ≢ [] → is_known (root_declared root) ≡ false → GoesDown further root s t (Some p) × IsItemAt further root p None
    answered_unknown some none = (start_goes_down s t p (start_listed further root s t p over did none), skipped_notes p some none)

  -- ---- the storage root

  no_object_there : (trail : List Opening) (xs : List Place) → heads_of root trail ≡ [] ∷ xs → ⊥
  no_object_there [] xs h = absurd cc
  no_object_there (x ∷ trail) xs h = by (zone root x.place) refl (λ k. no_object_there trail xs k) h
    where
      either : (o : Place) (b : Bool) → o ≢ [] → (heads_of root trail ≡ [] ∷ xs → ⊥) → cond b (o ∷ []) [] ++ heads_of root trail ≡ [] ∷ xs → ⊥
      either o true some rest g = some cc
      either o false some rest g = rest g

      by : (z : Zone) → zone root x.place ≡ z → (heads_of root trail ≡ [] ∷ xs → ⊥) → inventory_of z ++ heads_of root trail ≡ [] ∷ xs → ⊥
      by skipped e rest k = rest k
      by hierarchy e rest k = rest k
      by (inside o []) e rest k = rest k
      by (inside o (n ∷ [])) e rest k = either o (text_eq n inventory_name) (zone_is root x.place o (n ∷ []) e).below rest k
      by (inside o (n ∷ m ∷ q)) e rest k = rest k

  no_objects : (trail : List Opening) → IsFront (heads_of root trail) ([] ∷ []) → IsFront (heads_of root trail) (holder root (Some []))
  no_objects trail h = subst (λ xs. IsFront xs (holder root (Some []))) (sym (by (heads_of root trail) refl h.1)) (holder root (Some []), refl)
    where
      by : (xs : List Place) → heads_of root trail ≡ xs → [] ∷ [] ≡ xs ++ h.0 → heads_of root trail ≡ []
      by [] e k = e
      by (x ∷ xs) e k = let top : x ≡ [] = cc in absurd (no_object_there trail xs (e ∙ ap (λ y. y ∷ xs) top))

  pub answered_base : (s t : Store) (p : Place) (v : Visit) → p ≡ [] → Visits further root s t [] (Ok v) → GoesDown further root s t (Some p) × IsItemAt further root p v.item
  answered_base s t p v top h =
      let m = h.gives.0 in
      subst (λ x. GoesDown further root s t (Some x) × IsItemAt further root x v.item) (sym top) (
        went s t [] m.trail m.listings m.over m.meta m.once (front_own [] (is_looked_into root []) m.listings m.listed)
            (no_objects m.trail (front_own [] (reads_inventory root []) (heads_of root m.trail) m.heads)) m.near m.did m.read ([], m.listed) (own_listed root [] m.listings m.listed),
        h.gives.1.item,
      )

  pub answered_no_base : (s t : Store) (p : Place) (why : Fault) → p ≡ [] → Visits further root s t [] (Err why) → GoDownFails further root s t (Some p) why
  answered_no_base s t p why top h =
      let m = h.gives in
      subst (λ x. GoDownFails further root s t (Some x) why) (sym top)
      (went_wrong s t [] m.trail m.listings m.over m.meta m.once (front_within [] (is_looked_into root []) m.listings m.listed)
      (no_objects m.trail (front_within [] (reads_inventory root []) (heads_of root m.trail) m.heads)) m.near why m.store m.did m.up_to)

  pub answered_memory : (s : Store) (p : Place) → s.tree ≡ root → GoDownFails further root s s (Some p) fault.Memory
  answered_memory s p over = go_down_fails s s p fault.Memory (item_refused further root s s (way_to p) (holder_of (zone root p)) p (finds_nothing further root s (way_to p) (holder_of (zone root p)) over)).gives

-- with no place given nothing is done
pub start_at_none : (further : Further) (root : StorageRoot) (s : Store) → s.tree ≡ root → GoesDown further root s s None
start_at_none further root s over = record {
  trail = [];
  listed = [];
  heads = [];
  audits = audits_nothing further root s over;
  root_first = tt;
  all_listed = λ d i k. absurd i;
  listed_front = front_all [];
  heads_front = front_all [];
  once = none_once;
}
