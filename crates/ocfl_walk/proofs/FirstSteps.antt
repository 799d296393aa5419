-- The first step of a walk that begins at a place.
use Rattle.std.proofs.Common.{◌≡◌, ◌≢◌, ◌<◌, ◌≤◌, [], ◌∷◌, ◌++◌, refl, sym, ◌∙◌, ap, subst, true, false, Option, Some, None, Result, Ok, Err, length, arith}
use Rattle.std.proofs.lemmas.Option.{same_Some}
use Rattle.std.specs.{declared.alloc.Global.{Global}, Prelude.{IfOk, IfSome, Vec}, Ordering.{is_lt}}
use Rattle.std.specs.declared.cmp.Ordering.{Ordering}
use Rattle.std.specs.declared.cmp.Ordering.TheVariants.{Less, Equal, Greater}
use Rattle.arrayvec.specs.ArrayVec.{ArrayVec}
use Rattle.ocfl_tree.specs.{Place.{Place, Text, place_cmp}, Ascending.{IsAmong}}
use Rattle.ocfl_tree.specs.{StorageRoot.{StorageRoot, dir}, Store.{Store}}
use Rattle.ocfl_tree.specs.declared.store.Entry.{Entry}
use Rattle.ocfl_tree.proofs.Orders.{place_cmp_exact, place_cmp_total, below_from_greater, true_not_false}
use Rattle.ocfl_report.specs.declared.further.Further.{Further}
use Rattle.ocfl_rules.specs.{Audit.{candidates}, Between.{IsBeyond, looked_between, read_between}}
use Rattle.ocfl_rules.specs.{Due.{due, item_places}, Stack.{IsListed, IsStack}, Walk.{seen_names}}
use Rattle.ocfl_rules.specs.Zone.{seen}
use Rattle.ocfl_rules.proofs.{AuditExists.{seen_candidate}, BelowLaws.{above_self}}
use Rattle.ocfl_rules.proofs.BetweenLaws.{directories, from_directory, from_object, looked_seen, objects, read_seen}
use Rattle.ocfl_item.specs.{Around.{IsNamedIn}, Meeting.{IsItemAt}, declared.fault.Fault.{Fault}}
use Rattle.ocfl_item.specs.declared.pending.Pending.{Pending}
use Rattle.ocfl_item.proofs.{ShutLaws.{shut_unseen}, VisitLaws.{meets_shut}}
use Rattle.ocfl_walk.specs.{Ends.{before_end, is_past}, Before.{place_before}}
use Rattle.ocfl_walk.specs.Standing.{HaveEntries, IsStanding, frames_of, piles_at, piles_in, size_of, spot_of, stand_size}
use Rattle.ocfl_walk.specs.Internal.Standing.{IsAroundIf, IsBelowNext, IsHeld, IsOrderly, IsOrderlyIf, IsOrderlyStand, IsTurn, cut_top, next_of, popped, trimmed}
use Rattle.ocfl_walk.specs.Internal.Walking.{GoesAt, GoesOn, GoesTo, IsBefore, Steps, StepsAtTo, StepsOutTo, step_from}
use Rattle.ocfl_walk.specs.{declared.end.End.{End}, declared.stand.Stand.{Stand}}
use Rattle.ocfl_walk.specs.declared.stand.Step.{Step}
use Rattle.ocfl_walk.specs.declared.stand.Step.TheVariants as step
use Rattle.ocfl_walk.proofs.BeforeLaws.{IsJustBefore, item_candidate, just_before}
use Rattle.ocfl_walk.proofs.Chosen.{trim_stays}
use Rattle.ocfl_walk.proofs.CutLaws.{IsTop, cut_size, cut_stack, cut_trimmed, entries_cut, listed_cut, path_unseen, table_next, turn_entry, turn_path}
use Rattle.ocfl_walk.proofs.{DueTurns.{near_turn}, EndLaws.{over, past_up}, EntrySteps.{step_to}}
use Rattle.ocfl_walk.proofs.LeadsLaws.{around_on}
use Rattle.ocfl_walk.proofs.PathSteps.{named_short, orderly_on, size_named, size_on}
use Rattle.ocfl_walk.proofs.{PlacedLaws.{begun_if, path_shared, top_here}, SizeLaws.{goes_here}}
use Rattle.ocfl_walk.proofs.WalkCallLaws.{walks_out_nothing}

abbrev Listings : Type 0
Listings = ArrayVec (Vec Entry Global)

-- ---- to a place at which nothing is seen

module _ (old : Stand) (x : Place) (orderly : IsOrderlyStand old) (some : old.last ≢ None) (trim : trimmed (piles_in old.last old.listings.items) ≡ piles_in old.last old.listings.items)
    (next : IfSome old.last (λ last. (place_cmp last x ≡ Less) × IsAroundIf x old.around × IsBelowNext x (next_of (piles_in old.last old.listings.items)))) where
  abbrev at_missing : Stand
  at_missing = record { listings = old.listings; around = old.around; last = Some x }

  gone : (old.last ≡ Some (spot_of old.last)) × IsOrderly (spot_of old.last) (piles_in old.last old.listings.items) old.around
  gone = begun_if old.last (piles_in old.last old.listings.items) old.around orderly some

  ahead : (place_cmp (spot_of old.last) x ≡ Less) × IsAroundIf x old.around × IsBelowNext x (next_of (piles_in old.last old.listings.items))
  ahead = subst (λ l. IfSome l (λ last. (place_cmp last x ≡ Less) × IsAroundIf x old.around × IsBelowNext x (next_of (piles_in old.last old.listings.items)))) gone.0 next

  beside : IsOrderly x (piles_in old.last old.listings.items) old.around
  beside = orderly_on (spot_of old.last) x (piles_in old.last old.listings.items) old.around gone.1 ahead.0 ahead.1 trim ahead.2

  missing_piles : piles_at x old.listings.items ≡ piles_in old.last old.listings.items
  missing_piles = path_shared (spot_of old.last) x old.listings.items old.around gone.1 beside

  pub missing_orderly : IsOrderlyStand at_missing
  missing_orderly = subst (λ ps. IsOrderly x ps old.around) (sym missing_piles) beside

  missing_size : stand_size at_missing ≤ stand_size old
  unfolding stand_size
  missing_size =
      subst (λ ps. size_of (Some x) ps old.around ≤ size_of old.last (piles_in old.last old.listings.items) old.around) (sym missing_piles)
      (subst (λ l. size_of (Some x) (piles_in old.last old.listings.items) old.around ≤ size_of l (piles_in old.last old.listings.items) old.around) (sym gone.0)
      (size_on (spot_of old.last) x (piles_in old.last old.listings.items) old.around gone.1 ahead.0))

  pub missing_falls : IsNamedIn x old.around → stand_size at_missing < stand_size old
  unfolding stand_size
  missing_falls n =
      subst (λ ps. size_of (Some x) ps old.around < size_of old.last (piles_in old.last old.listings.items) old.around) (sym missing_piles)
      (subst (λ l. size_of (Some x) (piles_in old.last old.listings.items) old.around < size_of l (piles_in old.last old.listings.items) old.around) (sym gone.0)
      (size_named (spot_of old.last) x (piles_in old.last old.listings.items) old.around ahead.0 ahead.1 n))

  module _ (item : Option Pending) (r : Step) (is : r ≡ step_from item) where
    pub missing_goes_on : IfSome item (λ p. p.place ≡ x) → IfSome item (λ p. IsNamedIn x old.around) → GoesAt old at_missing r
    missing_goes_on i n = subst (GoesAt old at_missing) (sym is) (by item i n)
      where
        beyond : IsBeyond old.last x
        beyond = subst (λ l. IsBeyond l x) (sym gone.0) ahead.0

        by : (item : Option Pending) → IfSome item (λ p. p.place ≡ x) → IfSome item (λ p. IsNamedIn x old.around) → GoesAt old at_missing (step_from item)
        by None i n = (x, refl, beyond, missing_size)
        by (Some p) i n = (ap (λ y. Some y) (sym i), subst (IsBeyond old.last) (sym i) beyond, missing_size, subst (λ y. length y ≤ 255) (sym i) (named_short x old.around ahead.1 n))

    pub missing_there : GoesTo at_missing x r
    missing_there = subst (GoesTo at_missing x) (sym is) (goes_here at_missing x item refl)

    pub missing_told : (further : Further) (root : StorageRoot) (s : Store) (l : Place) → s.tree ≡ root → IsHeld further root x (piles_in old.last old.listings.items) old.around
        → IsTurn further root l x (frames_of (piles_in old.last old.listings.items)) → seen root x ≡ None → IsItemAt further root x item
        → Steps further root s s (Some l) at_missing r
    missing_told further root s l tree held go unseen i =
        let here : IsStanding further root x (piles_in old.last old.listings.items) old.around = record { stack = go.stack; listed = held.listed; entries = held.entries; table = held.table } in
        subst (Steps further root s s (Some l) at_missing) (sym is)
        (step_to further root s s l x at_missing item (meets_shut further root s x tree (shut_unseen root x unseen)) i (near_turn further root l x _ go)
        (refl, subst (λ ps. IsStanding further root x ps old.around) (sym missing_piles) here) go.some go.none)

-- ---- what is left once all before the name is let go

module _ (further : Further) (old : Stand) (d : Place) (n : Text) (mid : Listings) (there : old.last ≡ Some d) (orderly : IsOrderlyStand old)
    (is : piles_in old.last mid.items ≡ trimmed (cut_top (length d) n (piles_in old.last old.listings.items))) where
  abbrev cut : Stand
  cut = record { listings = mid; around = old.around; last = old.last }

  here : IsOrderly d (piles_in old.last old.listings.items) old.around
  here = subst (λ l. IsOrderlyIf l (piles_in old.last old.listings.items) old.around) there orderly

  pub cut_in_order : IsOrderlyStand cut
  cut_in_order =
      subst (λ l. IsOrderlyIf l (piles_in old.last mid.items) old.around) (sym there)
      (subst (λ ps. IsOrderly d ps old.around) (sym is) (cut_trimmed (length d) n d (piles_in old.last old.listings.items) old.around here))

  pub cut_no_more : stand_size cut ≤ stand_size old
  unfolding stand_size
  cut_no_more =
      subst (λ l. size_of l (piles_in old.last mid.items) old.around ≤ size_of l (piles_in old.last old.listings.items) old.around) (sym there)
      (subst (λ ps. size_of (Some d) ps old.around ≤ size_of (Some d) (piles_in old.last old.listings.items) old.around) (sym is)
      (cut_size (length d) n d (piles_in old.last old.listings.items) old.around))

  pub cut_trims : trimmed (piles_in old.last mid.items) ≡ piles_in old.last mid.items
  cut_trims = trim_stays (cut_top (length d) n (piles_in old.last old.listings.items)) (piles_in old.last mid.items) is

  pub cut_next : (o : Option Place) → IsBelowNext (d ++ n ∷ []) o → o ≡ next_of (piles_in old.last mid.items)
      → IfSome old.last (λ last. (place_cmp last (d ++ n ∷ []) ≡ Less) × IsAroundIf (d ++ n ∷ []) old.around × IsBelowNext (d ++ n ∷ []) (next_of (piles_in old.last mid.items)))
  cut_next o low same =
      subst (λ l. IfSome l (λ last. (place_cmp last (d ++ n ∷ []) ≡ Less) × IsAroundIf (d ++ n ∷ []) old.around × IsBelowNext (d ++ n ∷ []) (next_of (piles_in old.last mid.items)))) (sym there)
      (above_self d n [], around_on d n [] old.around here.object, subst (IsBelowNext (d ++ n ∷ [])) same low)

  pub missing_next : (x : Place) → x ≡ d ++ n ∷ [] → (o : Option Place) → IsBelowNext x o → o ≡ next_of (piles_at d mid.items)
      → IfSome old.last (λ last. (place_cmp last x ≡ Less) × IsAroundIf x old.around × IsBelowNext x (next_of (piles_in old.last mid.items)))
  missing_next x own o low same =
      subst (λ y. IsBelowNext y o → IfSome old.last (λ last. (place_cmp last y ≡ Less) × IsAroundIf y old.around × IsBelowNext y (next_of (piles_in old.last mid.items)))) (sym own)
      (λ l. cut_next o l (same ∙ sym (ap (λ k. next_of (piles_in k mid.items)) there))) low

  module _ (root : StorageRoot) (q : Place) (first : place_before root (d ++ n ∷ []) ≡ Some q) (st : IsStanding further root d (piles_in old.last old.listings.items) old.around) where
    j : IsJustBefore root q (d ++ n ∷ [])
    j = just_before root (d ++ n ∷ []) q first

    pub cut_held : IsHeld further root d (piles_in old.last mid.items) old.around
    cut_held = record {
      listed = subst (λ ps. IsListed root (frames_of ps)) (sym is) (listed_cut root (length d) n (piles_in old.last old.listings.items) st.listed);
      entries = subst (HaveEntries root) (sym is) (entries_cut root (length d) n (piles_in old.last old.listings.items) st.entries);
      table = st.table;
    }

    top : IsTop d (piles_in old.last old.listings.items)
    top = subst (λ l. IsTop d (piles_in l old.listings.items)) (sym there)
        (λ x rest e. top_here d old.listings.items x rest (subst (λ l. IsOrderly d (piles_in l old.listings.items) old.around) there here).chain e)

    stands : IsStack root q (frames_of (piles_in old.last mid.items))
    stands = subst (λ ps. IsStack root q (frames_of ps)) (sym is) (cut_stack root d n q j (piles_in old.last old.listings.items) old.around here top st.stack)

    pub cut_to_entry : (x : Place) → next_of (piles_in old.last mid.items) ≡ Some x → is_lt (place_cmp (d ++ n ∷ []) x) ≡ false
        → IsTurn further root q x ((x, seen_names root x) ∷ popped (piles_in old.last mid.items))
    cut_to_entry x e low = turn_entry root d n q j further x low (piles_in old.last mid.items) e stands cut_held.listed

    module _ (o : Option Place) (low : IsBelowNext (d ++ n ∷ []) o) (same : o ≡ next_of (piles_in old.last mid.items)) where
      orderly_there : IsOrderly (d ++ n ∷ []) (piles_in old.last mid.items) old.around
      orderly_there =
          orderly_on d (d ++ n ∷ []) (piles_in old.last mid.items) old.around
          (subst (λ ps. IsOrderly d ps old.around) (sym is) (cut_trimmed (length d) n d (piles_in old.last old.listings.items) old.around here)) (above_self d n [])
          (around_on d n [] old.around here.object) cut_trims (subst (IsBelowNext (d ++ n ∷ [])) same low)

      pub cut_unseen : seen root (d ++ n ∷ []) ≡ None
      cut_unseen = path_unseen root d n q j (piles_in old.last mid.items) old.around orderly_there stands

      pub cut_to_path : IsTurn further root q (d ++ n ∷ []) (frames_of (piles_in old.last mid.items))
      cut_to_path = turn_path root d n q j (piles_in old.last mid.items) old.around orderly_there stands further cut_held.listed

      pub cut_held_there : IsHeld further root (d ++ n ∷ []) (piles_in old.last mid.items) old.around
      cut_held_there = record { listed = cut_held.listed; entries = cut_held.entries; table = table_next further root d n old.around st.table cut_unseen }

    pub entry_turn : (x y : Place) → y ≡ d ++ n ∷ [] → (o : Option Place) → o ≡ next_of (piles_at d mid.items) → o ≡ Some x → is_lt (place_cmp y x) ≡ false
        → IsTurn further root q x ((x, seen_names root x) ∷ popped (piles_in old.last mid.items))
    entry_turn x y own o next e low = cut_to_entry x (ap (λ l. next_of (piles_in l mid.items)) there ∙ sym next ∙ e) (subst (λ z. is_lt (place_cmp z x) ≡ false) own low)

    pub missing_turn : (x : Place) → x ≡ d ++ n ∷ [] → (o : Option Place) → IsBelowNext x o → o ≡ next_of (piles_at d mid.items)
        → IsHeld further root x (piles_in old.last mid.items) old.around × IsTurn further root q x (frames_of (piles_in old.last mid.items)) × (seen root x ≡ None)
    missing_turn x own o low same =
        subst (λ y. IsBelowNext y o → IsHeld further root y (piles_in old.last mid.items) old.around × IsTurn further root q y (frames_of (piles_in old.last mid.items)) × (seen root y ≡ None)) (sym own)
        (λ l. let e = same ∙ sym (ap (λ k. next_of (piles_in k mid.items)) there) in (cut_held_there o l e, cut_to_path o l e, cut_unseen o l e)) low

-- the directory after which a walk stands
pub one_directory : (last : Option Place) (d c : Place) → last ≡ Some d → last ≡ Some c → d ≡ c
one_directory last d c e f = let both : Some d ≡ Some c = sym e ∙ f in cc

-- ---- what the first step comes to

module _ (old mid new : Stand) (x : Place) (same : mid.last ≡ old.last) (less : stand_size mid ≤ stand_size old) where
  pub goes_at_entry : (r : Result Step Fault) → IfOk r (λ s. GoesOn mid new s) → IfOk r (λ s. GoesTo new x s) → IfOk r (λ s. GoesAt old new s)
  goes_at_entry (Err why) g h = tt
  goes_at_entry (Ok (step.Item p)) g h = (g.0, subst (λ l. IsBeyond l p.place) same g.1, omega (arith, less, g.2), g.3)
  goes_at_entry (Ok step.Nothing) g h = (g.0, g.1, subst (λ l. IsBeyond l g.0) same g.2, omega (arith, less, g.3))
  goes_at_entry (Ok step.End) g h = absurd h

  pub goes_at_missing : (r : Result Step Fault) → IfOk r (λ s. GoesAt mid new s) → IfOk r (λ s. GoesTo new x s) → IfOk r (λ s. GoesAt old new s)
  goes_at_missing (Err why) g h = tt
  goes_at_missing (Ok (step.Item p)) g h = (g.0, subst (λ l. IsBeyond l p.place) same g.1, omega (arith, less, g.2), g.3)
  goes_at_missing (Ok step.Nothing) g h = (g.0, g.1, subst (λ l. IsBeyond l g.0) same g.2, omega (arith, less, g.3))
  goes_at_missing (Ok step.End) g h = absurd h

-- a step that leaves less
pub goes_less : (old new : Stand) (x : Place) (r : Result Step Fault) → IfOk r (λ s. GoesAt old new s) → IfOk r (λ s. GoesTo new x s)
    → IfOk r (λ s. stand_size new < stand_size old) → IfOk r (λ s. GoesOn old new s)
goes_less old new x (Err why) g h l = tt
goes_less old new x (Ok (step.Item p)) g h l = (g.0, g.1, l, g.3)
goes_less old new x (Ok step.Nothing) g h l = (g.0, g.1, g.2, l)
goes_less old new x (Ok step.End) g h l = absurd h

pub stays_before : (e : End) (old new : Stand) (x : Place) → is_past e x ≡ false → (r : Result Step Fault) → IfOk r (λ q. GoesAt old new q)
    → IfOk r (λ q. GoesTo new x q) → IfOk r (λ q. IsBefore e new q)
stays_before e old new x n (Err why) g h = tt
stays_before e old new x n (Ok (step.Item p)) g h = let same : p.place ≡ x = same_Some _ _ (sym g.0 ∙ h) in ap (is_past e) same ∙ n
stays_before e old new x n (Ok step.Nothing) g h = tt
stays_before e old new x n (Ok step.End) g h = tt

pub steps_at : (further : Further) (root : StorageRoot) (s t : Store) (q x : Place) (e : End) (old new : Stand) (r : Result Step Fault) → IfOk r (λ p. GoesTo new x p)
    → StepsOutTo further root s t (Some q) e new r → StepsAtTo further root s t q e old new r
steps_at further root s t q x e old new (Err why) g h = h
steps_at further root s t q x e old new (Ok (step.Item p)) g h = h
steps_at further root s t q x e old new (Ok step.Nothing) g h = h
steps_at further root s t q x e old new (Ok step.End) g h = absurd g

-- ---- past the end

module _ (root : StorageRoot) (p q : Place) (first : place_before root p ≡ Some q) (e : End) (past : is_past e p ≡ true) where
  all_past_from : (y : Place) → IsAmong (candidates root) y → place_cmp q y ≡ Less → is_past e y ≡ true
  all_past_from y i l = by (place_cmp y p) refl
    where
      by : (r : Ordering) → place_cmp y p ≡ r → is_past e y ≡ true
      by Less f = absurd (true_not_false (sym (ap is_lt f) ∙ (just_before root p q first).next y i l))
      by Equal f = ap (is_past e) (place_cmp_exact y p f) ∙ past
      by Greater f = past_up e p y past (below_from_greater place_cmp_total y p f)

  looked_none : before_end e (looked_between root (Some q) None) ≡ []
  unfolding looked_between
  looked_none = over e (directories root) (Some q) (λ y i l. all_past_from y (seen_candidate root y dir (looked_seen root y (from_directory root y i))) l)

  read_none : before_end e (read_between root (Some q) None) ≡ []
  unfolding read_between
  read_none = over e (objects root) (Some q) (λ y i l. all_past_from y (seen_candidate root y dir (read_seen root y (from_object root y i)).0) l)

  due_none : (further : Further) → before_end e (due further root (Some q)) ≡ []
  unfolding due
  due_none further = over e (item_places further root) (Some q) (λ y i l. all_past_from y (item_candidate root p further y i) l)

  pub ends_at : (further : Further) (s : Store) (old : Stand) → s.tree ≡ root → StepsAtTo further root s s q e old old (Ok step.End)
  ends_at further s old tree = (walks_out_nothing further root s (Some q) e tree looked_none read_none, due_none further, refl)
