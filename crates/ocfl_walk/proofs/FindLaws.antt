-- One place, looked up by itself.
use Rattle.std.proofs.Common.{◌≡◌, ◌≢◌, ◌⊎◌, inl, inr, ℕ, ◌+◌, ◌≤◌, List, [], ◌∷◌, ◌++◌, refl, sym, ◌∙◌, ap, subst, true, false, Bool, Option, Some, None, arith, length, append_assoc}
use Rattle.std.proofs.{lemmas.Bool.{false_from_ne_true}, lemmas.List.{append-nil, length-append, nil_from_length, same_from_push}}
use Rattle.std.proofs.lemmas.List.{Elements.{All-from_recursion}, Kept.{AllPairs-cons}}
use Rattle.std.specs.List.{AllByRecursion}
use Rattle.std.specs.Prelude.{AllPairs, is_some, not, Result, Ok, Err}
use Rattle.ocfl_tree.specs.{Place.{Text, Place}, StorageRoot.{StorageRoot, dir}, Store.{Store, Did}}
use Rattle.ocfl_tree.specs.{Listing.{kind_at, kind_in}, declared.store.Entry.{Entry}}
use Rattle.ocfl_tree.specs.{Calls.{opening}, declared.store.Opening.{Opening}, Ascending.{IsAmong}}
use Rattle.ocfl_report.specs.declared.further.Further.{Further}
use Rattle.ocfl_report.specs.declared.further.Further.TheVariants.{Nothing, Inventories}
use Rattle.ocfl_rules.specs.Inventories.{version_inventory_in}
use Rattle.ocfl_rules.specs.Zone.{Zone, skipped, hierarchy, inside, zone, seen}
use Rattle.ocfl_rules.specs.Trail.{heads_of, inventory_of, is_head, is_meta, content_openings, content_trail, reads_inventory}
use Rattle.ocfl_rules.specs.{Walk.{is_reached}, Head.{on}, Between.{is_looked_into}}
use Rattle.ocfl_walk.specs.WalkCalls.{holder_of, AreAllListed}
use Rattle.ocfl_walk.specs.Internal.Entering.{Comes, Descends, DescendFails, Leads, may_open}
use Rattle.ocfl_walk.specs.Internal.Finding.{Finds, FindsAll, FindFails, FindsItem, LiesUpToOne, OpensNoHead}
use Rattle.ocfl_item.specs.Auditing.{FailedAt, IsMetadataRead, LieIn, LiesBeside, LiesIn, LiesNear, in_listing, in_opening}
use Rattle.ocfl_item.specs.Looking.{IsFront, LiesUpTo, failures_by}
use Rattle.ocfl_item.specs.{Around.{AreBehind, IsMet, IsPart, IsTableAround}, Meeting.{OpensBeside, Visits}}
use Rattle.ocfl_item.specs.{Ways.{AreInventories, IsAt, way_below}, declared.fault.Fault.{Fault}}
use Rattle.ocfl_item.specs.{declared.folder.Folder.{Folder}, declared.pending.Pending.{Pending}}
use Rattle.ocfl_item.specs.{declared.meeting.Around.{Around}, declared.visit.Visit.{Visit}}
use Rattle.ocfl_item.specs.declared.fault.Fault.TheVariants as fault
use Rattle.ocfl_tree.proofs.Orders.{among_filter, among_left, among_map, among_right, true_not_false}
use Rattle.ocfl_tree.proofs.Stores.{among_either, did_nothing}
use Rattle.ocfl_walk.proofs.{BehindLaws.{is_behind}, ReachLaws.{own_listed}}
use Rattle.ocfl_walk.proofs.DescentLaws.{calls_then, failed_then, front_on, front_within, no_calls, own_inventory_reached}
use Rattle.ocfl_walk.proofs.{MeetLaws.{own_head}, StandLaws.{object_zone}}
use Rattle.ocfl_rules.proofs.{BetweenLaws.{seen_reached}, AuditExists.{append_one, some_not_none, zone_is}}
use Rattle.ocfl_rules.proofs.WayLaws.{head_seen, is_closed}
use Rattle.ocfl_item.proofs.AuditingLaws.{few_once, front_all, near_none, near_on, none_once, heads_append}
use Rattle.ocfl_item.proofs.{ItemLaws.{head_zone}, LooksCalls.{memory_no_store}}
use Rattle.ocfl_item.proofs.UpToLaws.{up_to_in, up_to_own}
use Rattle.ocfl_item.proofs.LooksZones.{inside_step, sight_nothing, unseen_behind}

-- ---- lists

pub front_of : {A : Type 0} (xs ys zs : List A) → IsFront (xs ++ ys) zs → IsFront xs zs
front_of xs ys zs h = (ys ++ h.0, h.1 ∙ append_assoc xs ys h.0)

-- a front and what is left of it are no more than the whole
front_fits : {A : Type 0} (xs ys zs : List A) → IsFront (xs ++ ys) zs → length xs + length ys ≤ length zs
front_fits xs ys zs h = let one = ap length h.1 in omega (arith, one, length-append (xs ++ ys) h.0, length-append xs ys)

-- a front of what is left
pub front_next : {A : Type 0} (a m w b : List A) → IsFront (a ++ m) w → IsFront b m → IsFront (a ++ b) w
front_next a m w b h g = front_of (a ++ b) [] w (front_on a m w b [] h (subst (λ x. IsFront x m) (sym (append-nil b)) g))

pub may_few : (a : Option Around) (z : Zone) → length (may_open a z) ≤ 1
may_few None skipped = omega arith
may_few None hierarchy = omega arith
may_few None (inside o q) = omega arith
may_few (Some b) z = omega arith

-- the place, from one directory further down
pub place_beyond : (p d e : Place) (n : Text) (r' r : Place) → p ≡ d ++ n ∷ r → e ≡ d ++ n ∷ [] → r ≡ r' → p ≡ e ++ r'
place_beyond p d e n r' r is at same = is ∙ ap (λ x. d ++ n ∷ x) same ∙ sym (append_one d r' n) ∙ ap (λ x. x ++ r') (sym at)

-- at one place at most that place
pub front_own : (e : Place) (b : Bool) (xs : List Place) → xs ≡ on b e → IsFront xs (e ∷ [])
front_own e b xs is = front_within e b xs ([], sym is ∙ sym (append-nil xs))

-- ---- no object's inventory

pub nothing_no_head : (further : Further) (root : StorageRoot) (trail : List Opening) → trail ≡ [] → OpensNoHead further root trail
nothing_no_head Nothing root trail e = e
nothing_no_head Inventories root trail e = subst (AllByRecursion (λ o. inventory_of (zone root o.place) ≡ [])) (sym e) tt

-- what lies beside the inventory of a version is no object's inventory
beside_quiet : (root : StorageRoot) (e p : Place) → LiesBeside root e p → inventory_of (zone root p) ≡ []
beside_quiet root e p h = by (zone root e) refl h.0
  where
    in_version : (o : Place) (v c : Text) → zone root e ≡ inside o (v ∷ c ∷ []) → inventory_of (zone root p) ≡ []
    in_version o v c z =
        let d = h.1.0 in
        let n = h.1.1.1.0 in
        let whole = (zone_is root e o (v ∷ c ∷ []) z).whole in
        let same = same_from_push d (o ++ v ∷ []) h.1.1.0 c (sym h.1.1.1.1.0 ∙ whole ∙ sym (append_one o (c ∷ []) v)) in
        let is : p ≡ o ++ v ∷ n ∷ [] = h.1.1.1.1.1 ∙ ap (λ x. x ++ n ∷ []) same.0 ∙ append_one o (n ∷ []) v in
        ap (λ x. inventory_of (zone root x)) is ∙ ap inventory_of (object_zone Nothing root o (v ∷ c ∷ []) (v ∷ n ∷ []) e z)

    by : (z : Zone) → zone root e ≡ z → is_some (version_inventory_in z (seen root e)) ≡ true → inventory_of (zone root p) ≡ []
    by skipped z k = absurd (true_not_false (sym k))
    by hierarchy z k = absurd (true_not_false (sym k))
    by (inside o []) z k = absurd (true_not_false (sym k))
    by (inside o (v ∷ [])) z k = absurd (true_not_false (sym k))
    by (inside o (v ∷ c ∷ [])) z k = in_version o v c z
    by (inside o (v ∷ c ∷ n ∷ q)) z k = absurd (true_not_false (sym k))

beside_no_head : (further : Further) (root : StorageRoot) (e : Place) (trail : List Opening) → OpensBeside further root e trail → OpensNoHead further root trail
beside_no_head Nothing root e trail h = h
beside_no_head Inventories root e trail h = all trail (λ o i. beside_quiet root e o.place (h o i))
  where
    all : (xs : List Opening) → ((o : Opening) → IsAmong xs o → inventory_of (zone root o.place) ≡ []) → AllByRecursion (λ o. inventory_of (zone root o.place) ≡ []) xs
    all [] g = tt
    all (x ∷ xs) g = (g x (inl refl), all xs (λ o i. g o (inr i)))

no_heads : (further : Further) (root : StorageRoot) (trail : List Opening) → OpensNoHead further root trail → AllByRecursion (λ o. inventory_of (zone root o.place) ≡ []) trail
no_heads Nothing root trail h = subst (AllByRecursion (λ o. inventory_of (zone root o.place) ≡ [])) (sym h) tt
no_heads Inventories root trail h = h

none_of_heads : (root : StorageRoot) (trail : List Opening) → AllByRecursion (λ o. inventory_of (zone root o.place) ≡ []) trail → heads_of root trail ≡ []
none_of_heads root [] h = refl
none_of_heads root (x ∷ trail) h = (λ i. h.0 i ++ none_of_heads root trail h.1 i)

-- ---- where a descent failed

-- the one file that it opened is an object's inventory
one_inventory : (root : StorageRoot) (trail : List Opening) (x : Opening) → length trail ≤ 1 → AreInventories root trail → IsAmong trail x → inventory_of (zone root x.place) ≡ [] → ⊥
one_inventory root [] x few only i none = i
one_inventory root (y ∷ []) x few only (inl same) none =
    let empty : length (inventory_of (zone root y.place)) ≡ 0 = ap (λ z. length (inventory_of (zone root z.place))) (sym same) ∙ ap length none in
    let one : 1 ≡ length (inventory_of (zone root y.place)) = only ∙ ap length (append-nil (inventory_of (zone root y.place))) in
    omega (arith, empty, one)
one_inventory root (y ∷ []) x few only (inr i) none = i
one_inventory root (y ∷ z ∷ trail) x few only i none = omega (arith, few)

-- what was opened is metadata
pub opened_meta : (further : Further) (root : StorageRoot) (trail : List Opening) → content_trail further root trail ≡ [] → (x : Opening) → IsAmong trail x → is_meta further root x.place ≡ true
opened_meta further root trail none x i = by (is_meta further root x.place) refl
  where
    by : (b : Bool) → is_meta further root x.place ≡ b → b ≡ true
    by true e = refl
    by false e =
        let content = among_filter (λ o. not (is_meta further root o.place)) trail x i (ap not e) in
        absurd (subst (λ ps. IsAmong ps x.place) none (among_map (λ o. o.place) (content_openings further root trail) x content))

descended_up_to : (further : Further) (root : StorageRoot) (s t : Store) (way may : List Place) (why : Fault) → length may ≤ 1 → (h : DescendFails further root s t way may why) (q : Place)
    → FailedAt further root s t h.goes.calls.listings h.goes.calls.trail q → LiesUpToOne way q
descended_up_to further root s t way may why few h q at = by at
  where
    trail : List Opening
    trail = h.goes.calls.trail

    on_way_there : (d : Place) → IsAmong h.goes.calls.listings d → IsAmong way d
    on_way_there d i = subst (λ ps. IsAmong ps d) (sym h.goes.listed.1) (among_left (h.goes.calls.listings ++ []) h.goes.listed.0 d (among_left h.goes.calls.listings [] d i))

    few_there : length trail ≤ 1
    few_there = let k = front_fits (heads_of root trail) [] may h.goes.heads in let only = h.goes.only in omega (arith, few, k, only)

    in_one : LiesIn h.goes.calls.listings q → LiesUpToOne way q
    in_one k = (k.0, (on_way_there k.0 k.1.1.0, subst (λ x. LiesUpTo (Some x) q) (append-nil k.0) (up_to_in k.0 [] q k.1.0 k.1.1.1)))

    near : (given : ℕ) (f : Further) → LiesNear f root h.goes.calls.listings q → IsAmong trail (opening q given true) → LiesUpToOne way q
    near given Nothing k i = in_one k
    near given Inventories (inl k) i = in_one k
    near given Inventories (inr k) i = absurd (one_inventory root trail (opening q given true) few_there h.goes.only i (beside_quiet root k.0 q k.1))

    by : FailedAt further root s t h.goes.calls.listings trail q → LiesUpToOne way q
    by (in_listing before is failed read) =
        let there = subst (λ ls. IsAmong ls q) (sym is) (among_right before (q ∷ []) q (inl refl)) in
        (q, (on_way_there q there, up_to_own q))
    by (in_opening before given is none) =
        let there : IsAmong trail (opening q given true) = subst (λ os. IsAmong os (opening q given true)) (sym is) (among_right before (opening q given true ∷ []) (opening q given true) (inl refl)) in
        near given further (h.goes.near (opening q given true) there (opened_meta further root trail h.goes.calls.meta (opening q given true) there)) there

module _ (further : Further) (root : StorageRoot) where
  -- ---- what was done

  pub few_openings : (trail : List Opening) (left may : List Place) → AreInventories root trail → IsFront (heads_of root trail ++ left) may → length trail + length left ≤ length may
  few_openings trail left may only h = let k = front_fits (heads_of root trail) left may h in omega (arith, only, k)

  abbrev pub finds_descended : (s t : Store) (way more may left : List Place) (f : ℕ) → length may ≤ 1 → Descends further root s t way more may left f → Finds further root s t way may f
  finds_descended s t way more may left f few h =
      let trail = h.calls.trail in
      let all = few_openings trail left may h.only h.heads in
      record {
        calls = h.calls;
        once = few_once trail (omega (arith, few, all));
        closed = λ e. nothing_no_head further root trail (nil_from_length trail (let none = ap length e in omega (arith, none, all)));
        listed = front_of h.calls.listings more way h.listed;
        heads = front_of (heads_of root trail) left may h.heads;
        near = h.near;
      }

  abbrev pub finds_come : (s t : Store) (way may left : List Place) → length may ≤ 1 → Comes further root s t way [] may left → FindsAll further root s t way may
  finds_come s t way may left few h = record {
    finds = finds_descended s t way [] may left 0 few h.goes;
    all = λ e i k. subst (λ ls. IsAmong ls e) (append-nil h.goes.calls.listings) (h.all e i k);
  }

  pub finds_stopped : (s t : Store) (way may : List Place) (why : Fault) → length may ≤ 1 → DescendFails further root s t way may why → FindFails further root s t way may why
  finds_stopped s t way may why few h = record {
    finds = finds_descended s t way [] may [] (failures_by why) few h.goes;
    store = h.store;
    up_to = λ q e. descended_up_to further root s t way may why few h q (h.store q e).1;
  }

  pub both_once : (left : List Place) (os os' : List Opening) → length os + length left ≤ 1 → AreInventories root os → (left ≡ [] → OpensNoHead further root os')
      → AllPairs (λ a b. a.place ≢ b.place) os' → AllPairs (λ a b. a.place ≢ b.place) (os ++ os')
  both_once left [] os' few only closed once = once
  both_once left (x ∷ []) os' few only closed once =
      let own = inventory_of (zone root x.place) in
      let one : length own ≡ 1 = sym (ap length (append-nil own)) ∙ sym only in
      let none = no_heads further root os' (closed (nil_from_length left (omega (arith, few)))) in
      AllPairs-cons (λ a b. a.place ≢ b.place) x os' (All-from_recursion (λ o. x.place ≢ o.place) os' (apart own refl one os' none)) once
    where
      apart : (hs : List Place) → inventory_of (zone root x.place) ≡ hs → length hs ≡ 1 → (rs : List Opening) → AllByRecursion (λ o. inventory_of (zone root o.place) ≡ []) rs
          → AllByRecursion (λ o. x.place ≢ o.place) rs
      apart hs is one [] h = tt
      apart hs is one (r ∷ rs) h = (
        (λ same. let none = ap length (sym is ∙ ap (λ p. inventory_of (zone root p)) same ∙ h.0) in absurd (omega (arith, one, none))),
        apart hs is one rs h.1,
      )
  both_once left (x ∷ y ∷ os) os' few only closed once = absurd (omega (arith, few))

  module _ (s t u : Store) (way more may left : List Place) (few : length may ≤ 1) (h : Descends further root s t way more may left 0) where
    abbrev trail : List Opening
    trail = h.calls.trail

    pub all : length trail + length left ≤ length may
    all = few_openings trail left may h.only h.heads

    abbrev pub finds_on : (f : ℕ) → Finds further root t u more left f → Finds further root s u way may f
    finds_on f g =
        let behind = g.calls.trail in
        record {
          calls = calls_then further root s t u f h.calls g.calls;
          once = both_once left trail behind (omega (arith, all, few)) h.only g.closed g.once;
          closed = λ e.
              let none = ap length e in
              let before = nil_from_length trail (omega (arith, none, all)) in
              let after = g.closed (nil_from_length left (omega (arith, none, all))) in
              subst (λ xs. OpensNoHead further root (xs ++ behind)) (sym before) after;
          listed = front_next h.calls.listings more way g.calls.listings h.listed g.listed;
          heads = subst (λ x. IsFront x may) (sym (heads_append root trail behind)) (front_next (heads_of root trail) left may (heads_of root behind) h.heads g.heads);
          near = near_on further root h.calls.listings g.calls.listings trail behind h.near g.near;
        }

    abbrev pub all_on : (g : FindsAll further root t u more left) → AreAllListed root way (h.calls.listings ++ more) → FindsAll further root s u way may
    all_on g all_first = record {
      finds = finds_on 0 g.finds;
      all = λ e i k. by e k (among_either h.calls.listings more e (all_first e i k));
    }
      where
        by : (e : Place) → is_reached root e ≡ true → IsAmong h.calls.listings e ⊎ IsAmong more e → IsAmong (h.calls.listings ++ g.finds.calls.listings) e
        by e k (inl i) = among_left h.calls.listings g.finds.calls.listings e i
        by e k (inr i) = among_right h.calls.listings g.finds.calls.listings e (g.all e i k)

    pub item_on : AreAllListed root way (h.calls.listings ++ more) → (p : Place) (r : Result (Option Pending) Fault) → FindsItem further root t u more left p r → FindsItem further root s u way may p r
    item_on all_first p (Ok o) k = record { gives = (all_on k.gives.0 all_first, k.gives.1) }
    item_on all_first p (Err why) k = record {
      gives = record { finds = finds_on (failures_by why) k.gives.finds; store = failed_then further root s t u why h.calls k.gives.finds.calls k.gives.store; up_to = λ q e. one_on q (k.gives.up_to q e) };
    }
      where
        one_on : (q : Place) → LiesUpToOne more q → LiesUpToOne way q
        one_on q g = (g.0, (subst (λ ps. IsAmong ps g.0) (sym h.listed.1) (among_left (h.calls.listings ++ more) h.listed.0 g.0 (among_right h.calls.listings more g.0 g.1.0)), g.1.1))

  pub finds_nothing : (s : Store) (way may : List Place) → s.tree ≡ root → Finds further root s s way may 0
  finds_nothing s way may over = record { calls = no_calls further root s s over (did_nothing s); once = none_once; closed = λ e. nothing_no_head further root [] refl; listed = (way, refl); heads = (may, refl); near = near_none further root [] }

  -- if the one place on the way is not entered
  pub finds_none : (s : Store) (p : Place) (may : List Place) → s.tree ≡ root → is_reached root p ≡ false → FindsAll further root s s (p ∷ []) may
  finds_none s p may over out = record { finds = finds_nothing s (p ∷ []) may over; all = λ e i k. absurd (none e i k) }
    where
      none : (e : Place) → IsAmong (p ∷ []) e → is_reached root e ≡ true → ⊥
      none e (inl f) k = true_not_false (sym k ∙ ap (is_reached root) f ∙ out)
      none e (inr i) k = i

  -- what was found, and then memory was refused
  pub item_refused : (s t : Store) (way may : List Place) (p : Place) → Finds further root s t way may 0 → FindsItem further root s t way may p (Err fault.Memory)
  item_refused s t way may p h = record { gives = record { finds = h; store = λ q e. absurd (memory_no_store q e); up_to = λ q e. absurd (memory_no_store q e) } }

  -- ---- at the last name

  module _ (d e : Place) (n : Text) (a : Option Around) (is : e ≡ d ++ n ∷ []) (part : IsPart further root d a) where
    no_head : (b : Around) → IsPart further root d (Some b) → is_head (zone root e) ≡ false
    no_head b p = ap (λ x. is_head (zone root x)) is ∙ ap is_head (inside_step root d b.place p.0 n p.1) ∙ by p.0
      where
        by : (s : Place) → is_head (inside b.place (s ++ n ∷ [])) ≡ false
        by [] = refl
        by (m ∷ s) = refl

    own_inventory : (x : Option Around) → IsPart further root d x → is_head (zone root e) ≡ true → may_open x (zone root e) ≡ e ∷ []
    own_inventory None p h = ap holder_of (head_zone root e h)
    own_inventory (Some b) p h = absurd (true_not_false (sym h ∙ no_head b p))

    not_base : e ≢ []
    not_base k = by d (sym is ∙ k)
      where
        by : (c : Place) → c ++ n ∷ [] ≡ [] → ⊥
        by [] g = absurd cc
        by (m ∷ c) g = absurd cc

    module _ (s t : Store) (trail : List Opening) (heads : IsFront (heads_of root trail) (on (reads_inventory root e) e)) (elsewhere : is_head (zone root e) ≡ false → e ≢ [] → OpensNoHead further root trail) where
      own_heads : (b : Bool) → is_head (zone root e) ≡ b → IsFront (heads_of root trail) (may_open a (zone root e))
      own_heads true h = subst (IsFront (heads_of root trail)) (sym (own_inventory a part h)) (front_within e (reads_inventory root e) (heads_of root trail) heads)
      own_heads false h = subst (λ hs. IsFront hs (may_open a (zone root e))) (sym (none_of_heads root trail (no_heads further root trail (elsewhere h not_base)))) (may_open a (zone root e), refl)

      own_closed : (b : Bool) → is_head (zone root e) ≡ b → may_open a (zone root e) ≡ [] → OpensNoHead further root trail
      own_closed true h k = absurd (let both = sym (own_inventory a part h) ∙ k in cc)
      own_closed false h k = elsewhere h not_base

      abbrev finds_met : (f : ℕ) (listings : List Place) → s.tree ≡ root → Did s t trail listings f → (f ≡ 0 → IsMetadataRead further root trail)
          → content_trail further root trail ≡ [] → AllPairs (λ x y. x.place ≢ y.place) trail → IsFront listings (e ∷ []) → LieIn further root listings trail
          → Finds further root s t (e ∷ []) (may_open a (zone root e)) f
      finds_met f listings over did read meta once listed near = record {
        calls = record { over = over; trail = trail; listings = listings; did = did; read = read; meta = meta; reached = own_inventory_reached root e trail heads };
        once = once;
        closed = own_closed (is_head (zone root e)) refl;
        listed = listed;
        heads = own_heads (is_head (zone root e)) refl;
        near = near;
      }

    module _ (s t : Store) where
      pub item_met : (v : Visit) → Visits further root s t e (Ok v) → FindsItem further root s t (e ∷ []) (may_open a (zone root e)) e (Ok v.item)
      item_met v h =
          let m = h.gives.0 in
          record {
            gives = (
              record {
                finds = finds_met s t m.trail (subst (IsFront (heads_of root m.trail)) m.heads (front_all (heads_of root m.trail))) (λ g n. beside_no_head further root e m.trail (m.elsewhere g n)) 0 m.listings
                    m.over m.did (λ g. m.read) m.meta m.once (front_own e (is_looked_into root e) m.listings m.listed) m.near;
                all = own_listed root e m.listings m.listed;
              },
              h.gives.1.item,
            );
          }

      pub item_unmet : (why : Fault) → Visits further root s t e (Err why) → FindsItem further root s t (e ∷ []) (may_open a (zone root e)) e (Err why)
      item_unmet why h =
          let m = h.gives in
          record {
            gives = record {
              finds =
                  finds_met s t m.trail m.heads (λ g n. beside_no_head further root e m.trail (m.elsewhere g n)) (failures_by why) m.listings m.over m.did m.read m.meta m.once (front_within e (is_looked_into root e) m.listings m.listed) m.near;
              store = m.store;
              up_to = λ q g. (e, (inl refl, m.up_to q g));
            };
          }

  -- ---- a name before it

  module _ (d : Place) (n : Text) (r p : Place) (old new : Option Around) (is : p ≡ d ++ n ∷ r) where
    few_old : length (may_open old (zone root p)) ≤ 1
    few_old = may_few old (zone root p)

    pub item_further : (s t u : Store) (inner : Folder) (r' : Place) (res : Result (Option Pending) Fault) → r ≡ r'
        → Leads further root s t d n r old new (Ok (Some inner)) → FindsItem further root t u (way_below inner.place r') (may_open new (zone root p)) p res
        → FindsItem further root s u (way_below d (n ∷ r)) (may_open old (zone root p)) p res
    item_further s t u inner r' res same h k =
        let came : Comes further root s t (way_below d (n ∷ r)) (way_below (d ++ n ∷ []) r) (may_open old (zone root p)) (may_open new (zone root p)) =
        subst (λ x. Comes further root s t (way_below d (n ∷ r)) (way_below (d ++ n ∷ []) r) (may_open old (zone root x)) (may_open new (zone root x))) (sym is) h.gives.0 in
        item_on s t u (way_below d (n ∷ r)) (way_below (d ++ n ∷ []) r) (may_open old (zone root p)) (may_open new (zone root p)) few_old came.goes came.all
        p res (subst (λ x. FindsItem further root t u (way_below (d ++ n ∷ []) x) (may_open new (zone root p)) p res) (sym same)
        (subst (λ x. FindsItem further root t u (way_below x r') (may_open new (zone root p)) p res) h.gives.1.place k))

    pub item_stop : (s t : Store) (why : Fault) → Leads further root s t d n r old new (Err why) → FindsItem further root s t (way_below d (n ∷ r)) (may_open old (zone root p)) p (Err why)
    item_stop s t why h = record {
      gives = finds_stopped s t (way_below d (n ∷ r)) (may_open old (zone root p)) why few_old
          (subst (λ x. DescendFails further root s t (way_below d (n ∷ r)) (may_open old (zone root x)) why) (sym is) h.gives);
    }

    pub shut_finds : (s t : Store) → Leads further root s t d n r old new (Ok None) → FindsAll further root s t (way_below d (n ∷ r)) (may_open old (zone root p))
    shut_finds s t h = finds_come s t (way_below d (n ∷ r)) (may_open old (zone root p)) [] few_old
        (subst (λ x. Comes further root s t (way_below d (n ∷ r)) [] (may_open old (zone root x)) []) (sym is) h.gives.0)

    pub shut_table : (s t : Store) → Leads further root s t d n r old new (Ok None) → IsTableAround further root p new
    shut_table s t h = subst (λ x. IsTableAround further root x new) (sym is) h.gives.1.table

    pub shut_unseen : (s t : Store) (m : Text) (q : Place) → r ≡ m ∷ q → Leads further root s t d n r old new (Ok None) → seen root p ≡ None
    shut_unseen s t m q e h =
        ap (seen root) (is ∙ ap (λ x. d ++ n ∷ x) e ∙ sym (append_one d (m ∷ q) n)) ∙ unseen_behind root (d ++ n ∷ []) q m h.gives.1.out

  -- ---- an entry that is there, or not

  listed_met : (d e : Place) (n : Text) (es : List Entry) (a : Option Around) (entry : Entry) → IsAt root d es → IsPart further root d a → e ≡ d ++ n ∷ []
      → entry.name ≡ n → kind_in es n ≡ Some entry.kind → IsMet further root d a entry e
  listed_met d e n es a entry at part is name there = record {
    is = is ∙ ap (λ x. d ++ x ∷ []) (sym name);
    reached = at.reached;
    part = part;
    kind = ap (kind_at root d) name ∙ sym (at.listing.each n) ∙ there;
  }

  pub visits_listed : (d e x : Place) (n : Text) (es given : List Entry) (a : Option Around) (entry : Entry) (s t : Store) (r : Result Visit Fault)
      → IsAt root d es → IsPart further root d a → e ≡ d ++ n ∷ [] → x ≡ e → given ≡ es → entry.name ≡ n → kind_in given n ≡ Some entry.kind
      → ((c : Place) → IsMet further root c a entry x → AreBehind further root c entry given → Visits further root s t x r) → Visits further root s t e r
  visits_listed d e x n es given a entry s t r at part is place same name there told =
      let met = listed_met d e n es a entry at part is name (subst (λ ys. kind_in ys n ≡ Some entry.kind) same there) in
      let behind = is_behind further root d entry given (λ m l. ap (λ ys. kind_in ys m) same ∙ at.listing.each m) in
      subst (λ y. Visits further root s t y r) place (told d (subst (IsMet further root d a entry) (sym place) met) behind)

  module _ (d e : Place) (n : Text) (es : List Entry) (at : IsAt root d es) (is : e ≡ d ++ n ∷ []) (none : kind_in es n ≡ None) where
    pub missing_unseen : seen root e ≡ None
    missing_unseen = ap (seen root) is ∙ sight_nothing root d n es at (sym none)

    pub missing_out : is_reached root e ≡ false
    missing_out = false_from_ne_true (is_reached root e) (λ h. some_not_none dir (sym missing_unseen ∙ seen_reached root e h))

    pub missing_table : (a : Option Around) → IsPart further root d a → IsTableAround further root e a
    missing_table None z = λ o s h.
        let own = own_head root d n z o s (sym (ap (zone root) is) ∙ h) in
        let same : o ≡ e = own.0 ∙ sym is in
        absurd (some_not_none dir (sym missing_unseen ∙ ap (seen root) (sym same) ∙ head_seen root (is_closed root) e o s h))
    missing_table (Some b) p = (p.0 ++ n ∷ [], ap (zone root) is ∙ inside_step root d b.place p.0 n p.1, p.2, p.3)
