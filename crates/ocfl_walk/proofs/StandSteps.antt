-- What a stand is after each of its steps.
use Rattle.std.proofs.Common.{◌≡◌, ◌≢◌, ◌⊎◌, inl, inr, ◌<◌, List, [], ◌∷◌, ◌++◌, refl, sym, ◌∙◌, ap, subst, true, Option, Some, None, length}
use Rattle.std.specs.{declared.alloc.Global.{Global}, Prelude.{IfSome, Vec}}
use Rattle.std.specs.declared.cmp.Ordering.TheVariants.{Less}
use Rattle.arrayvec.specs.ArrayVec.{ArrayVec}
use Rattle.ocfl_tree.specs.{Place.{Place, place_cmp}, StorageRoot.{StorageRoot}, Store.{Store}}
use Rattle.ocfl_tree.specs.declared.store.Entry.{Entry}
use Rattle.ocfl_report.specs.declared.further.Further.{Further}
use Rattle.ocfl_rules.specs.{Between.{IsBeyond, looked_between, read_between}, Due.{due}}
use Rattle.ocfl_rules.specs.{Stack.{Frame}, Walk.{seen_names}}
use Rattle.ocfl_rules.proofs.BetweenLaws.{looked_end, read_end}
use Rattle.ocfl_tree.proofs.Orders.{true_not_false}
use Rattle.ocfl_item.specs.{Around.{AreBehind, IsMet, IsNamedIn}, Meeting.{IsItemAt, Meets}}
use Rattle.ocfl_item.specs.{declared.folder.Folder.{Folder}, declared.meeting.Around.{Around}}
use Rattle.ocfl_item.specs.declared.pending.Pending.{Pending}
use Rattle.ocfl_walk.specs.Standing.{HaveEntries, IsStanding, back, Pile, StandsAt, piles_at, piles_in, spot_of, levels}
use Rattle.ocfl_walk.specs.Internal.Standing.{IsAroundIf, IsBelowNext, IsFairPile, IsHeld, IsOrderly, IsOrderlyIf, IsOrderlyStand, IsTaken, IsTurn, TurnIs, next_of, path_from, popped, pushed, still, top_of, trimmed, is_turn_past, turn_before, turn_of}
use Rattle.ocfl_walk.specs.Ends.{before_end, is_past}
use Rattle.ocfl_walk.specs.Internal.Walking.{GoesOn, GoesTo, IsFairMet, IsMeeting, IsPileAt, Steps, StepsOut, step_from}
use Rattle.ocfl_walk.specs.{declared.end.End.{End}, declared.stand.Met.{Met}}
use Rattle.ocfl_walk.specs.{declared.stand.Stand.{Stand}, declared.stand.Step.{Step}}
use Rattle.ocfl_walk.specs.declared.stand.Turn.{Turn}
use Rattle.ocfl_walk.specs.declared.stand.Step.TheVariants as step
use Rattle.ocfl_walk.specs.declared.stand.Turn.TheVariants as turn
use Rattle.ocfl_walk.proofs.BehindLaws.{is_behind, left_behind}
use Rattle.ocfl_walk.proofs.Chosen.{at_first, at_last, chosen_base, chosen_turn, ended_turn}
use Rattle.ocfl_walk.proofs.EndLaws.{all_past, due_past, looked_past, read_past}
use Rattle.ocfl_walk.proofs.{WalkCallLaws.{walks_out_nothing}, DueTurns.{near_turn}}
use Rattle.ocfl_walk.proofs.EntrySteps.{entry_met, step_to, still_around, taken_place}
use Rattle.ocfl_walk.proofs.OrderlyLaws.{entry_after, entry_short, orderly_entry}
use Rattle.ocfl_walk.proofs.{PathSteps.{path_ahead}, PlacedLaws.{begun, entry_pushed, entry_room}}
use Rattle.ocfl_walk.proofs.SizeLaws.{goes_here, goes_to, size_entry, sizes_fall}
use Rattle.ocfl_walk.proofs.StandLaws.{entry_stands}
use Rattle.ocfl_walk.proofs.StartLaws.{first_pushed, first_room, first_stands, item_first, orderly_first, root_short, size_first, step_first}

abbrev Listings : Type 0
Listings = ArrayVec (Vec Entry Global)

-- the listing of a place goes on top
abbrev Pushes : Listings → Listings → Option Folder → Type 0
Pushes old new f = (p : Place) → IfSome f (λ g. (g.place ≡ p) × (length p ≡ length old.items)) → piles_at p new.items ≡ pushed f (piles_at p old.items)

-- ---- to the storage root

module _ (old : Stand) (orderly : IsOrderlyStand old) (first : old.last ≡ None) where
  nothing : (piles_at [] old.listings.items ≡ []) × (old.around ≡ None)
  nothing = subst (λ l. IsOrderlyIf l (piles_in l old.listings.items) old.around) first orderly

  pub base_room : (f : Option Folder) → IfSome f (λ _. length old.listings.items < levels)
  base_room f = first_room old.listings.items f nothing.0

  module _ (new : Listings) (x : Place) (f : Option Folder) (top : x ≡ []) (fair : IfSome f (λ g. IsFairPile [] g)) (push : Pushes old.listings new f) where
    abbrev base : Stand
    base = record { listings = new; around = old.around; last = Some x }

    base_piles : piles_at x new.items ≡ pushed f (piles_at [] old.listings.items)
    base_piles = first_pushed x old.listings.items new.items f top nothing.0 fair push

    pub base_orderly : IsOrderlyStand base
    base_orderly = subst (λ ps. IsOrderly x ps old.around) (sym base_piles) (orderly_first x f (piles_at [] old.listings.items) old.around top nothing.0 nothing.1 fair)

    module _ (item : Option Pending) (r : Step) (is : r ≡ step_from item) where
      pub base_goes_on : IfSome item (λ p. p.place ≡ []) → GoesOn old base r
      base_goes_on i =
          subst (GoesOn old base) (sym is)
          (goes_to old base x item (item_first x item top i) refl (subst (λ y. IsBeyond y x) (sym first) tt)
          (sizes_fall old base None (Some x) (piles_at [] old.listings.items) _ old.around old.around first (ap (λ l. piles_in l old.listings.items) first) refl refl
          base_piles refl (size_first x f (piles_at [] old.listings.items) old.around nothing.0 nothing.1 fair))
          (root_short x top))

      pub base_there : GoesTo base [] r
      base_there = subst (GoesTo base []) (sym is) (goes_here base [] item (ap (λ y. Some y) top))

      pub base_told : (further : Further) (root : StorageRoot) (s t : Store) → Meets further root s t [] → IsItemAt further root [] item → IsPileAt root [] f → Steps further root s t None base r
      base_told further root s t m i pile =
          let st = first_stands further root x f (piles_at [] old.listings.items) old.around top nothing.0 nothing.1 pile in
          subst (Steps further root s t None base) (sym is) (step_first further root s t x base item top m i (refl, subst (λ ps. IsStanding further root x ps old.around) (sym base_piles) st))

-- ---- to an entry

-- what is held where a walk stands
pub held : (further : Further) (root : StorageRoot) (p : Place) (ps : List Pile) (a : Option Around) → IsStanding further root p ps a → IsHeld further root p ps a
held further root p ps a h = record { listed = h.listed; entries = h.entries; table = h.table }

module _ (old : Stand) (entry : Entry) (x : Place) (mid : Listings) (orderly : IsOrderlyStand old)
    (next : next_of (piles_in old.last old.listings.items) ≡ Some x) (taken : (p : Place) → IsTaken (piles_at p old.listings.items) (piles_at p mid.items) entry) where
  there : (old.last ≡ Some (spot_of old.last)) × IsOrderly (spot_of old.last) (piles_in old.last old.listings.items) old.around
  there = begun old.last (piles_in old.last old.listings.items) old.around x orderly next

  own : x ≡ (taken (spot_of old.last)).place ++ entry.name ∷ []
  own = taken_place (piles_in old.last old.listings.items) (piles_in old.last mid.items) entry x (taken (spot_of old.last)) next

  -- the object that was around is taken with it
  module _ (a : Option Around) (same : a ≡ old.around) where
    pub entry_around : IsAroundIf x (still a x)
    entry_around = subst (λ y. IsAroundIf x (still y x)) (sym same) (still_around (spot_of old.last) x old.around there.1.object)

    pub entry_is_met : (further : Further) (root : StorageRoot) (l : Place) → old.last ≡ Some l → IsHeld further root l (piles_in old.last old.listings.items) old.around
        → IsMet further root (taken (spot_of old.last)).place (still a x) entry x
    entry_is_met further root l e st =
        let o = subst (λ y. IsOrderlyIf y (piles_in old.last old.listings.items) old.around) e orderly in
        subst (λ y. IsMet further root (taken (spot_of old.last)).place (still y x) entry x) (sym same)
        (entry_met further root l (piles_in old.last old.listings.items) (piles_in old.last mid.items) entry x old.around o st (taken (spot_of old.last)) own)

  -- what is left of its listing comes after it
  pub entry_is_behind : (further : Further) (root : StorageRoot) (k l : Place) → old.last ≡ Some k → IsHeld further root k (piles_in old.last old.listings.items) old.around
      → IsTurn further root l x ((x, seen_names root x) ∷ popped (piles_in old.last old.listings.items)) → (es : List Entry) → back (λ e. e) es ≡ top_of (piles_in old.last mid.items)
      → AreBehind further root (taken (spot_of old.last)).place entry es
  entry_is_behind further root k l e held go es same =
      let t = taken (spot_of old.last) in
      let met = entry_is_met old.around refl further root k e held in
      let entries : HaveEntries root ((t.place, entry ∷ t.rest) ∷ t.others) = subst (HaveEntries root) t.old_is held.entries in
      is_behind further root t.place entry es
      (left_behind root (spot_of old.last) x (piles_in old.last old.listings.items) (piles_in old.last mid.items) entry old.around there.1 t own go.stack es (same ∙ ap top_of t.new_is) entries.0.1 met.reached)

  module _ (count : length mid.items ≡ length old.listings.items) (m : Met) (fair : IsFairMet x m) where
    pub entry_fits : IfSome m.folder (λ _. length mid.items < levels)
    entry_fits = entry_room (spot_of old.last) x old.listings.items mid.items entry old.around there.1 (taken (spot_of old.last)) count own m.folder fair.folder

    module _ (new : Listings) (push : Pushes mid new m.folder) where
      abbrev at_entry : Stand
      at_entry = record { listings = new; around = m.around; last = Some x }

      entry_piles : piles_at x new.items ≡ pushed m.folder (piles_in old.last mid.items)
      entry_piles = entry_pushed (spot_of old.last) x old.listings.items mid.items entry old.around there.1 (taken (spot_of old.last)) count own new.items m.folder fair.folder push

      pub entry_orderly : IsOrderlyStand at_entry
      entry_orderly =
          subst (λ ps. IsOrderly x ps m.around) (sym entry_piles)
          (orderly_entry (spot_of old.last) (piles_in old.last old.listings.items) (piles_in old.last mid.items) entry old.around there.1
          (taken (spot_of old.last)) x own m.folder fair.folder m.around fair.table)

      module _ (r : Step) (is : r ≡ step_from m.item) where
        pub entry_goes_on : GoesOn old at_entry r
        entry_goes_on =
            let above = subst (λ y. place_cmp (spot_of old.last) y ≡ Less) (sym own)
            (entry_after (spot_of old.last) (piles_in old.last old.listings.items) (piles_in old.last mid.items) entry old.around there.1 (taken (spot_of old.last))) in
            let small = size_entry (spot_of old.last) x (piles_in old.last old.listings.items) (piles_in old.last mid.items) entry old.around m.around
            m.folder there.1 (taken (spot_of old.last)) fair.table fair.folder in
            subst (GoesOn old at_entry) (sym is)
            (goes_to old at_entry x m.item fair.item refl (subst (λ y. IsBeyond y x) (sym there.0) above)
            (sizes_fall old at_entry (Some (spot_of old.last)) (Some x) _ _ old.around m.around there.0 refl refl refl entry_piles refl small)
            (entry_short (spot_of old.last) (piles_in old.last old.listings.items) (piles_in old.last mid.items) entry old.around there.1 (taken (spot_of old.last)) x own))

        pub entry_there : GoesTo at_entry x r
        entry_there = subst (GoesTo at_entry x) (sym is) (goes_here at_entry x m.item refl)

        pub entry_told : (further : Further) (root : StorageRoot) (s u : Store) (l k : Place) → IsHeld further root k (piles_in old.last old.listings.items) old.around
            → IsTurn further root l x ((x, seen_names root x) ∷ popped (piles_in old.last old.listings.items)) → Meets further root s u x → IsMeeting further root x m
            → Steps further root s u (Some l) at_entry r
        entry_told further root s u l k st go meets met =
            let here = entry_stands further root l x (piles_in old.last old.listings.items) (piles_in old.last mid.items) entry m.folder old.around m.around
            st.entries go (taken (spot_of old.last)) met.folder met.table in
            subst (Steps further root s u (Some l) at_entry) (sym is)
            (step_to further root s u l x at_entry m.item meets met.item (near_turn further root l x _ go) (refl, subst (λ ps. IsStanding further root x ps m.around) (sym entry_piles) here) go.some go.none)

-- ---- to a path of the table

module _ (ps : List Pile) (a : Option Around) (x : Place) where
  -- what a turn to a path says of it
  abbrev IsPathNext : Option Place → Type 0
  IsPathNext last = (p : Place) → last ≡ Some p → (path_from p a ≡ Some x) × IsBelowNext x (next_of ps)

  pub path_next : (last : Option Place) → IsOrderlyIf last ps a → IsPathNext last → IfSome last (λ l. (place_cmp l x ≡ Less) × IsAroundIf x a × IsBelowNext x (next_of ps))
  path_next None h n = tt
  path_next (Some p) h n = let k = n p refl in let w = path_ahead p x a h.object k.0 in (w.0, w.1, k.1)

  pub path_named : (last : Option Place) → IsOrderlyIf last ps a → last ≢ None → IsPathNext last → IsNamedIn x a
  path_named None h some n = absurd (some refl)
  path_named (Some p) h some n = (path_ahead p x a h.object (n p refl).0).2

-- ---- by the turn that is chosen

-- what is so of each place after which a walk stands that has begun, and of what its turn comes to,
-- is so of where it stands
pub by_turn : (further : Further) (root : StorageRoot) (old : Stand) → trimmed (piles_in old.last old.listings.items) ≡ piles_in old.last old.listings.items → (t u : Turn)
    → t ≡ u → (u ≡ turn.Base → ⊥) → (old.last ≡ None → t ≡ turn.Base)
    → ((p : Place) → old.last ≡ Some p → t ≡ turn_of (next_of (piles_in old.last old.listings.items)) (path_from p old.around)) → IsOrderlyStand old
    → (X : Option Place → Type 0) (last : Option Place) → StandsAt further root old last
    → ((p : Place) → old.last ≡ Some p → IsStanding further root p (piles_in old.last old.listings.items) old.around → TurnIs further root p (piles_in old.last old.listings.items) u → X (Some p)) → X last
by_turn further root old trim t u same some base next orderly X last st k =
    at_last further root old X last st (λ e. some (subst (λ y. y ≡ turn.Base) same (base e)))
    (λ p e h. k p e h (subst (TurnIs further root p (piles_in old.last old.listings.items)) same (chosen_turn further (piles_in old.last old.listings.items) old.around trim root old.last p t e orderly h (next p e))))

-- ---- at the end

-- what is left lies past the end, or nothing is left
pub ends_here : (further : Further) (root : StorageRoot) (old : Stand) → trimmed (piles_in old.last old.listings.items) ≡ piles_in old.last old.listings.items → (t : Turn)
    → (old.last ≡ None → t ≡ turn.Base) → ((p : Place) → old.last ≡ Some p → t ≡ turn_of (next_of (piles_in old.last old.listings.items)) (path_from p old.around)) → IsOrderlyStand old
    → (e : End) → turn.End ≡ turn_before e t → (s : Store) → s.tree ≡ root → (last : Option Place) → StandsAt further root old last → StepsOut further root s s last e old step.End
ends_here further root old trim t base next orderly e ended s over last st = by t refl (ended_turn e t ended)
  where
    X : Option Place → Type 0
    X l = StepsOut further root s s l e old step.End

    turned : (u : Turn) → t ≡ u → (u ≡ turn.Base → ⊥)
        → ((p : Place) → old.last ≡ Some p → IsStanding further root p (piles_in old.last old.listings.items) old.around → TurnIs further root p (piles_in old.last old.listings.items) u → X (Some p)) → X last
    turned u same some k = by_turn further root old trim t u same some base next orderly X last st k

    past : (p x : Place) (fs : List Frame) → old.last ≡ Some p → IsStanding further root p (piles_in old.last old.listings.items) old.around → is_past e x ≡ true → IsTurn further root p x fs → X (Some p)
    past p x fs l h f go = (walks_out_nothing further root s (Some p) e over (looked_past e root p x go.none_seen f) (read_past e root p x go.none_seen f), due_past e root further p x f go.some go.none, (l, h))

    by : (u : Turn) → t ≡ u → (t ≡ turn.End) ⊎ (is_turn_past e t ≡ true) → X last
    by u same (inl f) =
        turned turn.End f (λ g. cc)
        (λ p l h go. (walks_out_nothing further root s (Some p) e over (ap (before_end e) (looked_end root p go.0)) (ap (before_end e) (read_end root p go.0)), ap (before_end e) go.1, (l, h)))
    by turn.Base same (inr f) =
        let top = ap (is_turn_past e) (sym same) ∙ f in
        at_first further root old X last st (chosen_base old.last (next_of (piles_in old.last old.listings.items)) old.around t base next same) (
          walks_out_nothing further root s None e over (all_past e root top (looked_between root None None)) (all_past e root top (read_between root None None)),
          all_past e root top (due further root None),
          chosen_base old.last (next_of (piles_in old.last old.listings.items)) old.around t base next same,
        )
    by (turn.Entry x) same (inr f) = turned (turn.Entry x) same (λ g. cc) (λ p l h go. past p x _ l h (ap (is_turn_past e) (sym same) ∙ f) go)
    by (turn.Path x) same (inr f) = turned (turn.Path x) same (λ g. cc) (λ p l h go. past p x _ l h (ap (is_turn_past e) (sym same) ∙ f) go.0)
    by turn.End same (inr f) = absurd (true_not_false (sym (ap (is_turn_past e) (sym same) ∙ f)))
