-- What was done on the way down to a place, and where that leads.
use Rattle.std.proofs.Common.{true, false, Bool, filter, ◌≡◌, ◌≤◌, inl, inr, ℕ, List, [], ◌∷◌, ◌++◌, refl, sym, ◌∙◌, ap, subst, Option, Some, None, arith, length, append_assoc}
use Rattle.std.proofs.lemmas.List.{append-nil, length-append}
use Rattle.std.specs.Prelude.{Ok, Err, cond}
use Rattle.ocfl_tree.specs.{Place.{Place, text_eq}, Ascending.{IsAmong}, StorageRoot.{StorageRoot}}
use Rattle.ocfl_tree.specs.{Store.{Store, Did}, declared.store.Opening.{Opening}}
use Rattle.ocfl_report.specs.declared.further.Further.{Further}
use Rattle.ocfl_report.specs.declared.further.Further.TheVariants.{Nothing, Inventories}
use Rattle.ocfl_inventory.specs.Table.{Table}
use Rattle.ocfl_tree.proofs.{Orders.{true_not_false}, Stores.{did_then, did_nothing, listed_well}}
use Rattle.ocfl_rules.specs.Zone.{Zone, skipped, hierarchy, inside, zone, inventory_name}
use Rattle.ocfl_rules.specs.{Head.{on}, Trail.{heads_of, inventory_of, reads_inventory}}
use Rattle.ocfl_item.specs.{Looking.{IsFront, failures_by}, Ways.{AreInventories, Stops}}
use Rattle.ocfl_item.specs.{Internal.Ways.{Opens, ReadsTable}, Around.{IsTableAround}}
use Rattle.ocfl_item.specs.{Auditing.{LiesIn, LiesNear, LieIn}, declared.fault.Fault.{Fault}}
use Rattle.ocfl_item.specs.declared.root.RootInventory.{RootInventory as MadeRoot}
use Rattle.ocfl_walk.specs.Internal.Entering.{AreReached, Calls, NamesFailed, Descends, DescendFails, OpensIn, Opens as Opened}
use Rattle.ocfl_rules.proofs.{AuditExists.{zone_is}, Trails.{content_behind, filter_append}}
use Rattle.ocfl_item.proofs.AuditingLaws.{failed_behind, front_of_none, near_none, near_on, read_behind, heads_append}
use Rattle.ocfl_item.proofs.{LooksCalls.{memory_no_store}, LooksZones.{is_plain}}
use Rattle.ocfl_item.specs.declared.fault.Fault.TheVariants as fault

-- ---- one after the other

pub front_on : {A : Type 0} (a m w b k : List A) → IsFront (a ++ m) w → IsFront (b ++ k) m → IsFront ((a ++ b) ++ k) w
front_on a m w b k h g = (
  g.0 ++ h.0,
  h.1 ∙ ap (λ x. (a ++ x) ++ h.0) g.1 ∙ append_assoc a ((b ++ k) ++ g.0) h.0 ∙ ap (λ x. a ++ x) (append_assoc (b ++ k) g.0 h.0)
      ∙ sym (append_assoc a (b ++ k) (g.0 ++ h.0)) ∙ ap (λ x. x ++ (g.0 ++ h.0)) (sym (append_assoc a b k)),
)

-- ---- of one object

-- at most that object
pub front_within : (e : Place) (b : Bool) (xs : List Place) → IsFront xs (on b e) → IsFront xs (e ∷ [])
front_within e true xs h = h
front_within e false [] h = (e ∷ [], refl)
front_within e false (x ∷ xs) h = absurd cc

-- and only if its head reads its inventory
own_reached : (root : StorageRoot) (o : Place) (xs : List Place) → IsFront xs (on (reads_inventory root o) o) → xs ≡ filter (reads_inventory root) xs
own_reached root o xs h = by (reads_inventory root o) refl xs h
  where
    by : (b : Bool) → reads_inventory root o ≡ b → (xs : List Place) → IsFront xs (on b o) → xs ≡ filter (reads_inventory root) xs
    by b e [] g = refl
    by false e (x ∷ xs) g = absurd cc
    by true e (x ∷ []) g =
        let same : o ≡ x = let k = g.1 in cc in
        sym (ap (λ c. cond c (x ∷ []) []) (ap (reads_inventory root) (sym same) ∙ e))
    by true e (x ∷ y ∷ xs) g = absurd (let k = g.1 in cc)

pub own_inventory_reached : (root : StorageRoot) (o : Place) (trail : List Opening) → IsFront (heads_of root trail) (on (reads_inventory root o) o) → AreReached root trail
own_inventory_reached root o trail h = own_reached root o (heads_of root trail) h

own_inventory : (o : Place) (b : Bool) (c : Place) → IsFront (c ∷ []) (on b o) → c ≡ o
own_inventory o true c h = let k = h.1 in cc
own_inventory o false c h = absurd (let k = h.1 in cc)

at_most_one : (o : Place) (b : Bool) (xs : List Place) → IsFront xs (on b o) → length xs ≤ 1
at_most_one o true [] h = omega arith
at_most_one o true (x ∷ []) h = omega arith
at_most_one o true (x ∷ y ∷ xs) h = absurd (let k = h.1 in cc)
at_most_one o false [] h = omega arith
at_most_one o false (x ∷ xs) h = absurd (let k = h.1 in cc)

-- what is right in one of these directories is near them
near_in : (further : Further) (root : StorageRoot) (ds : List Place) (p : Place) → LiesIn ds p → LiesNear further root ds p
near_in Nothing root ds p h = h
near_in Inventories root ds p h = inl h

module _ (further : Further) (root : StorageRoot) where
  pub both_reached : (os os' : List Opening) → AreReached root os → AreReached root os' → AreReached root (os ++ os')
  both_reached os os' h k =
      heads_append root os os' ∙ (λ i. h i ++ k i) ∙ sym (filter_append (reads_inventory root) (heads_of root os) (heads_of root os'))
      ∙ ap (filter (reads_inventory root)) (sym (heads_append root os os'))

  pub both_inventories : (os os' : List Opening) → AreInventories root os → AreInventories root os' → AreInventories root (os ++ os')
  both_inventories os os' h k =
      let all = ap length (heads_append root os os') in
      omega (arith, h, k, all, length-append os os', length-append (heads_of root os) (heads_of root os'))

  -- one after the other
  abbrev pub calls_then : (s t u : Store) (f : ℕ) → Calls further root s t 0 → Calls further root t u f → Calls further root s u f
  calls_then s t u f h g = record {
    over = h.over;
    trail = h.trail ++ g.trail;
    listings = h.listings ++ g.listings;
    did = did_then s t u h.trail g.trail h.listings g.listings f h.did g.did;
    read = λ e. read_behind further root h.trail g.trail (h.read refl) (g.read e);
    meta = content_behind further root h.trail g.trail h.meta ∙ g.meta;
    reached = both_reached h.trail g.trail h.reached g.reached;
  }

  pub failed_then : (s t u : Store) (why : Fault) (h : Calls further root s t 0) (g : Calls further root t u (failures_by why)) → NamesFailed further root t u why g
      → NamesFailed further root s u why (calls_then s t u (failures_by why) h g)
  failed_then s t u why h g k = λ q e. let f = k q e in (f.0, failed_behind further root s t u h.listings g.listings h.trail g.trail q (h.read refl) (listed_well s t h.trail h.listings 0 (omega arith) h.did) f.1)

  -- directories were listed, and nothing was opened
  abbrev pub lists_calls : (s t : Store) (listings : List Place) (f : ℕ) → s.tree ≡ root → Did s t [] listings f → Calls further root s t f
  lists_calls s t listings f over did = record { over = over; trail = []; listings = listings; did = did; read = λ e. refl; meta = refl; reached = refl }

  abbrev pub no_calls : (s t : Store) → s.tree ≡ root → Did s t [] [] 0 → Calls further root s t 0
  no_calls s t over did = lists_calls s t [] 0 over did

  abbrev pub descends_on : (s t u : Store) (way more more' may left left' : List Place) (f : ℕ) → Descends further root s t way more may left 0
      → Descends further root t u more more' left left' f → Descends further root s u way more' may left' f
  descends_on s t u way more more' may left left' f h g =
      let a = h.calls in
      let b = g.calls in
      record {
        calls = calls_then s t u f a b;
        only = both_inventories a.trail b.trail h.only g.only;
        listed = front_on a.listings more way b.listings more' h.listed g.listed;
        heads = subst (λ x. IsFront (x ++ left') may) (sym (heads_append root a.trail b.trail)) (front_on (heads_of root a.trail) left may (heads_of root b.trail) left' h.heads g.heads);
        near = near_on further root a.listings b.listings a.trail b.trail h.near g.near;
      }

  pub descent_fails_on : (s t u : Store) (way more may left : List Place) (why : Fault) → Descends further root s t way more may left 0
      → DescendFails further root t u more left why → DescendFails further root s u way may why
  descent_fails_on s t u way more may left why h g = record {
    goes = descends_on s t u way more [] may left [] (failures_by why) h g.goes;
    store = failed_then s t u why h.calls g.goes.calls g.store;
  }

  -- nothing was done
  pub descends_not : (s t : Store) (way may : List Place) → s.tree ≡ root → Did s t [] [] 0 → Descends further root s t way [] may [] 0
  descends_not s t way may over did = record { calls = no_calls s t over did; only = refl; listed = (way, refl); heads = (may, refl); near = near_none further root [] }

  pub stops_memory : (s : Store) (way : List Place) → s.tree ≡ root → Stops further root s s way [] fault.Memory
  stops_memory s way over = record {
    goes = record { over = over; listings = []; did = did_nothing s; read = λ e. refl; listed = (way, refl) };
    store = λ q e. absurd (memory_no_store q e);
  }

  pub descent_memory : (s : Store) (way may : List Place) → s.tree ≡ root → DescendFails further root s s way may fault.Memory
  descent_memory s way may over = record { goes = descends_not s s way may over (did_nothing s); store = λ q e. absurd (memory_no_store q e) }

  -- one directory was listed
  abbrev pub descends_one : (s t : Store) (d : Place) (way may : List Place) → s.tree ≡ root → Did s t [] (d ∷ []) 0 → Descends further root s t (d ∷ way) way may may 0
  descends_one s t d way may over did = record {
    calls = lists_calls s t (d ∷ []) 0 over did;
    only = refl;
    listed = ([], sym (append-nil (d ∷ way)));
    heads = ([], sym (append-nil may));
    near = near_none further root (d ∷ []);
  }

  -- what was done, on another way
  abbrev pub descends_as : (s t : Store) (way more may left way' more' may' left' : List Place) (f : ℕ) (h : Descends further root s t way more may left f)
      → IsFront (h.calls.listings ++ more') way' → IsFront (heads_of root h.calls.trail ++ left') may' → Descends further root s t way' more' may' left' f
  descends_as s t way more may left way' more' may' left' f h listed heads = record { calls = h.calls; only = h.only; listed = listed; heads = heads; near = h.near }

  -- no more is done
  abbrev pub descends_end : (s t : Store) (way more may left : List Place) (f : ℕ) → Descends further root s t way more may left f → Descends further root s t way [] may [] f
  descends_end s t way more may left f h =
      let ls = h.calls.listings in
      let os = heads_of root h.calls.trail in
      descends_as s t way more may left way [] may [] f h
      (more ++ h.listed.0, h.listed.1 ∙ append_assoc ls more h.listed.0 ∙ ap (λ x. x ++ (more ++ h.listed.0)) (sym (append-nil ls)))
      (left ++ h.heads.0, h.heads.1 ∙ append_assoc os left h.heads.0 ∙ ap (λ x. x ++ (left ++ h.heads.0)) (sym (append-nil os)))

  -- a listing that failed
  pub listing_fails : (s t : Store) (d : Place) (way may : List Place) (why : Fault) → Stops further root s t (d ∷ []) [] why → DescendFails further root s t (d ∷ way) may why
  listing_fails s t d way may why h =
      let listed : IsFront (h.goes.listings ++ []) (d ∷ way) =
      (h.goes.listed.0 ++ way, ap (λ x. x ++ way) h.goes.listed.1 ∙ append_assoc h.goes.listings h.goes.listed.0 way ∙ ap (λ x. x ++ (h.goes.listed.0 ++ way)) (sym (append-nil h.goes.listings))) in
      record {
        goes = record {
          calls = lists_calls s t h.goes.listings (failures_by why) h.goes.over h.goes.did;
          only = refl;
          listed = listed;
          heads = (may, refl);
          near = near_none further root h.goes.listings;
        };
        store = h.store;
      }

  -- ---- an object's inventory

  -- which is right in it
  one_near : (o : Place) (x : Opening) (z : Zone) → zone root x.place ≡ z → IsFront (inventory_of z ++ []) (on (reads_inventory root o) o) → 1 ≡ length (inventory_of z ++ [])
      → LiesIn (o ∷ []) x.place
  one_near o x skipped e h one = absurd (omega (arith, one))
  one_near o x hierarchy e h one = absurd (omega (arith, one))
  one_near o x (inside c []) e h one = absurd (omega (arith, one))
  one_near o x (inside c (n ∷ m ∷ q)) e h one = absurd (omega (arith, one))
  one_near o x (inside c (n ∷ [])) e h one = by (text_eq n inventory_name) h one
    where
      by : (b : Bool) → IsFront (cond b (c ∷ []) [] ++ []) (on (reads_inventory root o) o) → 1 ≡ length (cond b (c ∷ []) [] ++ []) → LiesIn (o ∷ []) x.place
      by false k l = absurd (omega (arith, l))
      by true k l =
          let same : c ≡ o = own_inventory o (reads_inventory root o) c k in
          (c, (n, (inl same, (zone_is root x.place c (n ∷ []) e).whole)))

  inventory_near : (o : Place) (trail : List Opening) → AreInventories root trail → IsFront (heads_of root trail) (on (reads_inventory root o) o) → LieIn further root (o ∷ []) trail
  inventory_near o [] only h = near_none further root (o ∷ [])
  inventory_near o (x ∷ []) only h = λ y i meta. near_in further root (o ∷ []) y.place (by y i)
    where
      by : (y : Opening) → IsAmong (x ∷ []) y → LiesIn (o ∷ []) y.place
      by y (inl e) = subst (λ v. LiesIn (o ∷ []) v.place) (sym e) (one_near o x (zone root x.place) refl h only)
      by y (inr i) = absurd i
  inventory_near o (x ∷ y ∷ trail) only h = absurd (let few = at_most_one o (reads_inventory root o) (heads_of root (x ∷ y ∷ trail)) h in omega (arith, only, few))

  opens_front : (o : Place) (trail : List Opening) → IsFront (heads_of root trail) (on (reads_inventory root o) o) → IsFront (heads_of root trail ++ []) (o ∷ [])
  opens_front o trail h = subst (λ x. IsFront x (o ∷ [])) (sym (append-nil (heads_of root trail))) (front_within o (reads_inventory root o) (heads_of root trail) h)

  opens_read : (s t : Store) (o : Place) (m : Opens further root s t o) → AreInventories root m.reads.trail → OpensIn further root s t o 0
  opens_read s t o m only = record {
    calls = record {
      over = m.reads.over;
      trail = m.reads.trail;
      listings = [];
      did = m.reads.did;
      read = λ e. m.reads.read;
      meta = m.reads.meta.meta;
      reached =
          own_inventory_reached root o m.reads.trail m.heads;
    };
    only = only;
    unlisted = refl;
    heads = opens_front o m.reads.trail m.heads;
    near = inventory_near o m.reads.trail only m.heads;
  }

  pub opened_stops : (s t : Store) (o : Place) (why : Fault) → ReadsTable further root s t o (Err why) → Opened further root s t o (Err why)
  opened_stops s t o why r =
      let k = r.gives.0.stops in
      record {
        gives = record {
          goes = record {
            calls = record {
              over = k.stops.goes.over;
              trail = k.trail;
              listings = k.stops.goes.listings;
              did = k.stops.goes.did;
              read = k.stops.goes.read;
              meta = k.meta.meta;
              reached = own_inventory_reached root o k.trail r.gives.0.heads;
            };
            only = r.gives.1;
            unlisted = front_of_none k.stops.goes.listings k.stops.goes.listed;
            heads = opens_front o k.trail r.gives.0.heads;
            near = inventory_near o k.trail r.gives.1 r.gives.0.heads;
          };
          store = k.stops.store;
        };
      }

  pub opened_none : (s t : Store) (o : Place) (table : Option Table) (x : Option MadeRoot) → ReadsTable further root s t o (Ok (table, x)) → table ≡ None → Opened further root s t o (Ok None)
  opened_none s t o table x r is = record { gives = (opens_read s t o r.gives.0 r.gives.2, sym r.gives.1 ∙ is) }

  pub opened_memory : (s t : Store) (o : Place) (table : Option Table) (x : Option MadeRoot) → ReadsTable further root s t o (Ok (table, x)) → Opened further root s t o (Err fault.Memory)
  opened_memory s t o table x r = record { gives = record { goes = opens_read s t o r.gives.0 r.gives.2; store = λ q e. absurd (memory_no_store q e) } }

  pub opened_table : (s t : Store) (o p : Place) (given : Option Table) (x : Option MadeRoot) (table : Table) → ReadsTable further root s t o (Ok (given, x)) → given ≡ Some table → p ≡ o
      → Opened further root s t o (Ok (Some (record { place = p; table = table; root = x })))
  opened_table s t o p given x table r is e = record { gives = (opens_read s t o r.gives.0 r.gives.2, (e, sym r.gives.1 ∙ is, r.gives.3)) }

  -- ---- what is shut

  -- if there is no object there is no table
  pub plain_table : (p : Place) → is_plain (zone root p) ≡ true → IsTableAround further root p None
  plain_table p h o s z = absurd (true_not_false (sym h ∙ ap is_plain z))
