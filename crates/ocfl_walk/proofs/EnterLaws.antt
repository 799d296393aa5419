-- The start of a walk at a place.
use Rattle.std.proofs.Common.{◌≡◌, inl, inr, true, List, [], ◌∷◌, ◌++◌, append-nil, refl, sym, ◌∙◌, ap, subst, false, Option, Some, None, length, arith}
use Rattle.std.specs.Prelude.{cond, ◌||◌, not, Result, Ok, Err, IfOk, MatchResult}
use Rattle.ocfl_tree.specs.{Place.{Place}, StorageRoot.{StorageRoot}, Store.{Store, Did}}
use Rattle.ocfl_tree.specs.{Listing.{IsOrdinary}, Ascending.{IsAmong}, declared.store.Entry.{Entry}}
use Rattle.ocfl_report.specs.declared.further.Further.{Further}
use Rattle.ocfl_inventory.specs.{Declaration.{declared}, Entries.{file_names}}
use Rattle.ocfl_inventory.specs.declared.declaration.Level.TheVariants as level
use Rattle.ocfl_rules.specs.Zone.{hierarchy, skipped, root_declared, is_listed_zone, zone, is_known}
use Rattle.ocfl_rules.specs.{Walk.{is_reached}, Stack.{seen_places}}
use Rattle.ocfl_item.specs.{Looking.{way_to}, Ways.{Enters, IsHead, Stops, way_below}}
use Rattle.ocfl_item.specs.{declared.fault.Fault.{Fault}, declared.folder.Folder.{Folder}}
use Rattle.ocfl_item.specs.{declared.folder.Head.{Head}, declared.meeting.Around.{Around}}
use Rattle.ocfl_walk.specs.Standing.{IsStanding, Pile, StandsAt, folders_from, piles_in, piles_of, spot_of}
use Rattle.ocfl_walk.specs.Internal.Standing.{IsOrderly, IsOrderlyIf, IsOrderlyStand}
use Rattle.ocfl_walk.specs.Internal.Entering.{Comes, Descends, DescendFails, IsBrought, IsComing, ListsRoot, Starts, StartFails, may_open}
use Rattle.ocfl_walk.specs.{WalkCalls.{holder_of}, declared.stand.Stand.{Stand}}
use Rattle.ocfl_item.specs.declared.fault.Fault.TheVariants as fault
use Rattle.ocfl_item.specs.declared.folder.Head.TheVariants as head
use Rattle.ocfl_walk.proofs.{PlacedLaws.{folders_none}, ReachLaws.{comes_on, none_reached}}
use Rattle.ocfl_walk.proofs.DescentLaws.{descends_end, descent_fails_on, descent_memory, listing_fails, lists_calls, plain_table}
use Rattle.ocfl_item.proofs.AuditingLaws.{near_none}
use Rattle.ocfl_item.proofs.LooksCalls.{head_unknown, root_entered, way_is}
use Rattle.ocfl_item.proofs.LooksZones.{declared_root, out_of_zone, plain_unknown}
use Rattle.ocfl_rules.proofs.{StackLaws.{stack_starts, start_stops}, WayLaws.{is_closed}}

-- nothing is kept
pub orderly_nothing : (p : Place) (fs : List Folder) → fs ≡ [] → IsOrderly p (piles_of fs) None
orderly_nothing p fs e = subst (λ x. IsOrderly p (piles_of x) None) (sym e) (record { chain = tt; few = tt; object = tt })

pub orderly_start : (s : Stand) (p : Place) → s.listings.items ≡ [] → s.around ≡ None → s.last ≡ Some p → IsOrderlyStand s
orderly_start s p none alone last =
    let fs = folders_from 0 (spot_of s.last) s.listings.items in
    subst (λ x. IsOrderlyIf x (piles_of fs) s.around) (sym last) (subst (λ a. IsOrderly p (piles_of fs) a) (sym alone) (orderly_nothing p fs (folders_none (spot_of s.last) s.listings.items none)))

pub orderly_brought : (r : Result Unit Fault) (l : Option Place) (p d q : Place) (ps : List Pile) (a : Option Around) → l ≡ Some p → d ≡ [] → q ≡ p
    → IfOk r (λ _. IsOrderly (d ++ q) ps a) → IfOk r (λ _. IsOrderlyIf l ps a)
orderly_brought (Err why) l p d q ps a last root_is same h = tt
orderly_brought (Ok x) l p d q ps a last root_is same h =
    subst (λ x. IsOrderlyIf x ps a) (sym last) (subst (λ x. IsOrderly x ps a) same (subst (λ e. IsOrderly (e ++ q) ps a) root_is h))

pub coming_root : (d : Place) (es : List Entry) (fs : List Folder) → d ≡ [] → fs ≡ [] → IsOrdinary es → IsComing d es (piles_of fs) None
coming_root d es fs e none ordinary =
    subst (λ x. IsComing d es (piles_of x) None) (sym none) (record { chain = tt; short = (let l : length d ≡ 0 = ap length e in omega (arith, l)); ordinary = ordinary; few = tt; object = tt })

module _ (further : Further) (root : StorageRoot) where
  -- ---- the storage root

  pub root_stops : (s t : Store) (d : Place) (why : Fault) → d ≡ [] → Stops further root s t (d ∷ []) [] why → ListsRoot further root s t (Err why)
  root_stops s t d why e h = record { gives = subst (λ x. Stops further root s t (x ∷ []) [] why) e h }

  module _ (s t : Store) (base : Folder) (m : Head) (ordinary : IsOrdinary base.entries.items)
      (says : IsHead (declared level.Root (file_names base.entries.items)) m) (k : Enters root s t [] base.place base.entries.items) where
    pub root_unknown : (m ≡ head.Known → ⊥) → ListsRoot further root s t (Ok None)
    root_unknown unknown = record {
      gives =
          (k.did, ap is_known (declared_root root base.entries.items ordinary k.listing) ∙ head_unknown (declared level.Root (file_names base.entries.items)) m says unknown);
    }

    pub root_known : m ≡ head.Known → ListsRoot further root s t (Ok (Some base))
    root_known known = record { gives = (k.did, root_entered root s t base.place base.entries.items ordinary k (subst (IsHead (declared level.Root (file_names base.entries.items))) known says)) }

  unknown_out : is_known (root_declared root) ≡ false → is_reached root [] ≡ false
  unknown_out h = out_of_zone root [] (ap (λ b. is_listed_zone root (cond (not b || false) skipped hierarchy)) h)

  -- ---- the start

  pub start_memory : (s : Store) (p : Place) → s.tree ≡ root → StartFails further root s s p fault.Memory
  start_memory s p over = descent_memory further root s (way_to p) (holder_of (zone root p)) over

  pub start_unlisted : (s t : Store) (p : Place) (why : Fault) → Stops further root s t ([] ∷ []) [] why → StartFails further root s t p why
  start_unlisted s t p why h = subst (λ w. DescendFails further root s t w (holder_of (zone root p)) why) (sym (way_is p)) (listing_fails further root s t [] (way_below [] p) (holder_of (zone root p)) why h)

  module _ (s t : Store) (p : Place) (over : s.tree ≡ root) (did : Did s t [] ([] ∷ []) 0) where
    abbrev pub came : Descends further root s t (way_to p) (way_below [] p) (holder_of (zone root p)) (holder_of (zone root p)) 0
    came = record {
      calls = lists_calls further root s t ([] ∷ []) 0 over did;
      only = refl;
      listed = ([], way_is p ∙ sym (append-nil ([] ∷ way_below [] p)));
      heads = ([], sym (append-nil (holder_of (zone root p))));
      near = near_none further root ([] ∷ []);
    }

    abbrev pub comes_first : Comes further root s t (way_to p) (way_below [] p) (holder_of (zone root p)) (holder_of (zone root p))
    comes_first = record { goes = came; all = λ e i k. subst (λ w. IsAmong w e) (way_is p) i }

    -- if nothing below the storage root is entered
    pub start_listed : is_known (root_declared root) ≡ false → Starts further root s t p
    start_listed none = record {
      comes = record {
        goes = descends_end further root s t (way_to p) (way_below [] p) (holder_of (zone root p)) (holder_of (zone root p)) 0 came;
        all = λ e i k. by e (subst (λ w. IsAmong w e) (way_is p) i) k;
      };
      root_first = ([], refl);
    }
      where
        by : (e : Place) → IsAmong ([] ∷ way_below [] p) e → is_reached root e ≡ true → IsAmong (([] ∷ []) ++ []) e
        by e (inl f) k = inl f
        by e (inr i) k = absurd (none_reached root [] p (unknown_out none) e i k)

    module _ (u : Store) (d q : Place) (root_is : d ≡ []) (same : q ≡ p) where
      pub start_down : Comes further root t u (way_below d q) [] (holder_of (zone root (d ++ q))) [] → Starts further root s u p
      start_down h = record {
        comes = comes_on root further s t u (way_to p) (way_below [] p) (holder_of (zone root p)) (holder_of (zone root p)) [] [] comes_first
            (subst (λ x. Comes further root t u (way_below [] x) [] (holder_of (zone root x)) []) same (subst (λ e. Comes further root t u (way_below e q) [] (holder_of (zone root (e ++ q))) []) root_is h));
        root_first = (_, refl);
      }

      pub start_stops_down : (why : Fault) → DescendFails further root t u (way_below d q) (holder_of (zone root (d ++ q))) why → StartFails further root s u p why
      start_stops_down why h =
          descent_fails_on further root s t u (way_to p) (way_below [] p) (holder_of (zone root p)) (holder_of (zone root p)) why came
          (subst (λ x. DescendFails further root t u (way_below [] x) (holder_of (zone root x)) why) same (subst (λ e. DescendFails further root t u (way_below e q) (holder_of (zone root (e ++ q))) why) root_is h))

  -- if the root's version is not known
  standing_nothing : (p : Place) → is_known (root_declared root) ≡ false → IsStanding further root p [] None
  standing_nothing p h = record {
    stack = sym (start_stops root (seen_places root) [] p [] (unknown_out h)) ∙ stack_starts root (is_closed root) p;
    listed = tt;
    entries = tt;
    table = plain_table further root p (plain_unknown root p h);
  }

  pub stands_nothing : (p : Place) (fs : List Folder) → fs ≡ [] → is_known (root_declared root) ≡ false → IsStanding further root p (piles_of fs) None
  stands_nothing p fs none h = subst (λ x. IsStanding further root p (piles_of x) None) (sym none) (standing_nothing p h)

  -- and if it is
  pub stands_brought : (p d q : Place) (fs : List Folder) (new : List Pile) (a : Option Around) → fs ≡ [] → d ≡ [] → q ≡ p → IsBrought further root d q (piles_of fs) new a → IsStanding further root p new a
  stands_brought p d q fs new a none root_is same h =
      let k : IsBrought further root [] p [] new a = subst (λ x. IsBrought further root [] x [] new a) same
      (subst (λ x. IsBrought further root x q [] new a) root_is (subst (λ x. IsBrought further root d q (piles_of x) new a) none h)) in
      record {
        stack = k.stack ∙ stack_starts root (is_closed root) p;
        listed = k.listed tt;
        entries = k.entries tt;
        table = k.table;
      }

  pub stands_start : (s : Stand) (p : Place) → s.listings.items ≡ [] → s.around ≡ None → s.last ≡ Some p → is_known (root_declared root) ≡ false → StandsAt further root s (Some p)
  stands_start s p none alone last h =
      let fs = folders_from 0 (spot_of s.last) s.listings.items in (
        last,
        subst (λ a. IsStanding further root p (piles_of fs) a) (sym alone) (stands_nothing p fs (folders_none (spot_of s.last) s.listings.items none) h),
      )

  -- the way from the storage root came to an end
  pub start_goes : (s t : Store) (p : Place) (over : s.tree ≡ root) (did : Did s t [] ([] ∷ []) 0) (u : Store) (d q : Place) (root_is : d ≡ []) (same : q ≡ p) (old new : Stand)
      → old.listings.items ≡ [] → old.around ≡ None → new.last ≡ Some p → (r : Result Unit Fault)
      → MatchResult r
      (λ _. Comes further root t u (way_below d q) [] (may_open old.around (zone root (d ++ q))) []
      × IsBrought further root d q (piles_in old.last old.listings.items) (piles_in new.last new.listings.items) new.around)
      (λ why. DescendFails further root t u (way_below d q) (may_open old.around (zone root (d ++ q))) why)
      → MatchResult r (λ _. Starts further root s u p × StandsAt further root new (Some p)) (λ why. StartFails further root s u p why)
  start_goes s t p over did u d q root_is same old new none alone last (Ok x) h = (
    start_down s t p over did u d q root_is same (subst (λ a. Comes further root t u (way_below d q) [] (may_open a (zone root (d ++ q))) []) alone h.0),
    (
      last,
      stands_brought p d q (folders_from 0 (spot_of old.last) old.listings.items) (piles_in new.last new.listings.items) new.around
          (folders_none (spot_of old.last) old.listings.items none) root_is same h.1,
    ),
  )
  start_goes s t p over did u d q root_is same old new none alone last (Err why) h =
      start_stops_down s t p over did u d q root_is same why (subst (λ a. DescendFails further root t u (way_below d q) (may_open a (zone root (d ++ q))) why) alone h)
