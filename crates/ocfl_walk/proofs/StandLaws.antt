-- Where a walk stands after a step, on a told tree.
use Rattle.std.proofs.Common.{◌≡◌, inl, inr, ◌<◌, List, [], ◌∷◌, ◌++◌, sym, ◌∙◌, ap, subst, false, Option, Some, None, arith}
use Rattle.std.proofs.lemmas.{List.{append-nil}, Option.{same_Some}}
use Rattle.std.specs.Prelude.{IfOk, Result, Ok, Err, option_map}
use Rattle.ocfl_tree.specs.{Place.{Place}, StorageRoot.{StorageRoot}, Store.{Store}}
use Rattle.ocfl_tree.specs.declared.store.Entry.{Entry}
use Rattle.ocfl_tree.proofs.Orders.{place_cmp_total}
use Rattle.ocfl_report.specs.declared.further.Further.{Further}
use Rattle.ocfl_rules.specs.{Zone.{inside, zone}, Walk.{seen_names}, Stack.{IsStack, IsListed}}
use Rattle.ocfl_rules.specs.{Due.{due}, Between.{IsBeyond, IsWithin}}
use Rattle.ocfl_walk.specs.Standing.{StandsAt, stand_size, AreEntries, HaveEntries, IsStanding, Pile, frames_of}
use Rattle.ocfl_walk.specs.Internal.Standing.{IsTaken, IsTurn, left_names, left_of_folder, path_from, popped, pushed}
use Rattle.ocfl_walk.specs.Ends.{before_end, is_past}
use Rattle.ocfl_walk.specs.Internal.Walking.{GoesOn, GoesTo, IsBefore, NextGoesOn, NextTold, Onward, SoFar, Steps, StepsOut, StepsOutTo, StepsTo, IsPileAt}
use Rattle.ocfl_walk.specs.{declared.end.End.{End}, declared.stand.Stand.{Stand}}
use Rattle.ocfl_walk.specs.{declared.stand.Step.{Step}, WalkCalls.{FailsOut, Walks, WalksOut, next_due}}
use Rattle.ocfl_item.specs.{Around.{IsTableAround}, declared.fault.Fault.{Fault}}
use Rattle.ocfl_item.specs.{declared.folder.Folder.{Folder}, declared.meeting.Around.{Around}}
use Rattle.ocfl_item.specs.declared.pending.Pending.{Pending}
use Rattle.ocfl_walk.specs.declared.stand.Step.TheVariants as step
use Rattle.ocfl_item.proofs.LooksZones.{inside_on}
use Rattle.ocfl_walk.proofs.BeforeLaws.{not_below}
use Rattle.ocfl_walk.proofs.WalkCallLaws.{fails_out, walks_fail_out, walks_on, walks_out, walks_over}
use Rattle.ocfl_rules.proofs.WayLaws.{is_closed, zone_part}

-- ---- places, one after the other

pub after_on : (last : Option Place) (x y : Place) → IsBeyond last x → IsBeyond (Some x) y → IsBeyond last y
after_on None x y h k = tt
after_on (Some a) x y h k = place_cmp_total.trans a x y h k

-- ---- the stack after a step

module _ (further : Further) (root : StorageRoot) where
  -- with the listing of x on top if it is entered
  pub stands_top : (x : Place) (f : Option Folder) (ps : List Pile) (a : Option Around) → IsStack root x ((x, seen_names root x) ∷ frames_of ps) → IsListed root (frames_of ps) → HaveEntries root ps
      → IsPileAt root x f → IsTableAround further root x a → IsStanding further root x (pushed f ps) a
  stands_top x None ps a stack listed entries e z = record { stack = subst (λ ns. IsStack root x ((x, ns) ∷ frames_of ps)) e stack; listed = listed; entries = entries; table = z }
  stands_top x (Some g) ps a stack listed entries e z = record {
    stack = subst (λ d. IsStack root x ((d, left_names g) ∷ frames_of ps)) (sym e.0) (subst (λ ns. IsStack root x ((x, ns) ∷ frames_of ps)) (sym e.1) stack);
    listed = subst (λ d. IsListed root ((d, left_names g) ∷ frames_of ps)) (sym e.0) (subst (λ ns. IsListed root ((x, ns) ∷ frames_of ps)) (sym e.1) ((λ n i. i), listed));
    entries = (subst (λ d. AreEntries root d (left_of_folder g)) (sym e.0) e.2, entries);
    table = z;
  }

  -- at an entry
  pub entry_stands : (last x : Place) (ps new : List Pile) (entry : Entry) (f : Option Folder) (a a' : Option Around) → HaveEntries root ps → IsTurn further root last x ((x, seen_names root x) ∷ popped ps)
      → IsTaken ps new entry → IsPileAt root x f → IsTableAround further root x a' → IsStanding further root x (pushed f new) a'
  entry_stands last x ps new entry f a a' h t k m z =
      let left : popped ps ≡ frames_of new = ap popped k.old_is ∙ sym (ap frames_of k.new_is) in
      let listed : IsListed root (frames_of new) = subst (IsListed root) left t.listed.1 in
      let old : HaveEntries root ((k.place, entry ∷ k.rest) ∷ k.others) = subst (HaveEntries root) k.old_is h in
      stands_top x f new a' (subst (λ fs. IsStack root x ((x, seen_names root x) ∷ fs)) left t.stack) listed (subst (HaveEntries root) (sym k.new_is) (old.0.1, old.1)) m z

  pub object_zone : (o s q : Place) (p : Place) → zone root p ≡ inside o s → zone root (o ++ q) ≡ inside o q
  object_zone o s q p e = inside_on root o o [] q (subst (λ x. zone root x ≡ inside o []) (append-nil o) (zone_part root (is_closed root) p o [] s e))

  -- at a path of the table
  pub path_stands : (last b : Place) (ps : List Pile) (a : Option Around) → IsStanding further root last ps a → IsTurn further root last b (frames_of ps) → path_from last a ≡ Some b → IsStanding further root b ps a
  path_stands last b ps a h t p = record { stack = t.stack; listed = t.listed; entries = h.entries; table = by a h.table p }
    where
      of : (a : Around) (o : Option Place) → option_map (λ q. a.place ++ q) o ≡ Some b → (q : Place) × (b ≡ a.place ++ q)
      of a None e = absurd cc
      of a (Some q) e = (q, cc)

      by : (a : Option Around) → IsTableAround further root last a → path_from last a ≡ Some b → IsTableAround further root b a
      by None z e = absurd cc
      by (Some a) z e = let w = of a _ e in (w.0, ap (zone root) w.1 ∙ object_zone a.place z.0 w.0 last z.1, z.2, z.3)

-- ---- steps, one after the other

pub onward_step : (old mid new : Stand) → Onward old mid → GoesOn mid new step.Nothing → Onward old new
onward_step old mid new (inl e) g = inr (g.0, g.1, subst (λ m. IsBeyond m.last g.0) e g.2, subst (λ m. stand_size new < stand_size m) e g.3)
onward_step old mid new (inr h) g = inr (g.0, g.1, after_on old.last h.0 g.0 h.2 (subst (λ l. IsBeyond l g.0) h.1 g.2), omega (arith, g.3, h.3))

pub onward_item : (old mid new : Stand) (p : Pending) → Onward old mid → GoesOn mid new (step.Item p) → NextGoesOn old new (Some p)
onward_item old mid new p (inl e) g = (g.0, subst (λ m. IsBeyond m.last p.place) e g.1, subst (λ m. stand_size new < stand_size m) e g.2, g.3)
onward_item old mid new p (inr h) g = (g.0, after_on old.last h.0 p.place h.2 (subst (λ l. IsBeyond l p.place) h.1 g.1), omega (arith, g.2, h.3), g.3)

-- ---- a step before the end

module _ (further : Further) (root : StorageRoot) (s t : Store) (last : Option Place) (e : End) (x : Place) (new : Stand) where
  pub step_out : (r : Step) → GoesTo new x r → is_past e x ≡ false → Steps further root s t last new r → StepsOut further root s t last e new r
  step_out (step.Item p) g n h = let same : x ≡ p.place = same_Some _ _ (sym g ∙ h.1.0) in (h.0, h.1, h.2, ap (is_past e) (sym same) ∙ n, h.3)
  step_out step.Nothing g n h = let same : x ≡ h.0 = same_Some _ _ (sym g ∙ h.2.0) in (h.0, h.1, h.2, h.3, ap (is_past e) (sym same) ∙ n, h.4)
  step_out step.End g n h = absurd g

  pub steps_out_to : (r : Result Step Fault) → IfOk r (λ q. GoesTo new x q) → IsBeyond last x → IsWithin (next_due further root last) x → is_past e x ≡ false
      → StepsTo further root s t last x new r → StepsOutTo further root s t last e new r
  steps_out_to (Ok q) g l w n h = step_out q g n h
  steps_out_to (Err why) g l w n h = fails_out further root s t t last x e l n why w h

pub stands_before : (e : End) (old new : Stand) (x : Place) → is_past e x ≡ false → (r : Result Step Fault) → IfOk r (λ q. GoesOn old new q)
    → IfOk r (λ q. GoesTo new x q) → IfOk r (λ q. IsBefore e new q)
stands_before e old new x n (Err why) g h = tt
stands_before e old new x n (Ok q) g h = by q g h
  where
    by : (q : Step) → GoesOn old new q → GoesTo new x q → IsBefore e new q
    by (step.Item p) g h = ap (is_past e) (same_Some _ _ (sym g.0 ∙ h)) ∙ n
    by step.Nothing g h = tt
    by step.End g h = tt

module _ (further : Further) (root : StorageRoot) (s t u : Store) (last : Option Place) (e : End) (mid new : Stand) (over : s.tree ≡ root) (f : SoFar further root s t last e mid) where
  stays : t.tree ≡ root
  stays = by f
    where
      by : SoFar further root s t last e mid → t.tree ≡ root
      by (inl h) = ap (λ x. x.tree) h.0 ∙ over
      by (inr h) = walks_over further root s t last (Some h.0) h.1

  pub so_far_fails : (why : Fault) → (t.tree ≡ root → (l : Option Place) → StandsAt further root mid l → FailsOut further root t u l e why) → FailsOut further root s u last e why
  so_far_fails why k = by f
    where
      by : SoFar further root s t last e mid → FailsOut further root s u last e why
      by (inl h) = subst (λ x. FailsOut further root x u last e why) h.0 (k stays last h.1)
      by (inr h) = walks_fail_out further root s t u last h.0 e h.3 h.4 why h.5 h.1 (k stays (Some h.0) h.2)

  module _ (r : Step) (k : t.tree ≡ root → (l : Option Place) → StandsAt further root mid l → StepsOut further root t u l e new r) where
    next_step : (q : Step) → r ≡ q → (l : Option Place) → StandsAt further root mid l → StepsOut further root t u l e new q
    next_step q is l st = subst (StepsOut further root t u l e new) is (k stays l st)

    pub so_far_step : r ≡ step.Nothing → SoFar further root s u last e new
    so_far_step is = by f
      where
        by : SoFar further root s t last e mid → SoFar further root s u last e new
        by (inl h) = inr (subst (λ x. (y : Place) × Walks further root x u last (Some y) × StandsAt further root new (Some y) × IsBeyond last y × (is_past e y ≡ false)
            × (due further root last ≡ due further root (Some y))) h.0 (next_step step.Nothing is last h.1))
        by (inr h) =
            let g = next_step step.Nothing is (Some h.0) h.2 in
            inr (g.0, walks_on further root s t u last h.0 h.3 (Some g.0) (not_below h.0 g.0 g.3) h.1 g.1, g.2, after_on last h.0 g.0 h.3 g.3, g.4, h.5 ∙ g.5)

    pub so_far_item : (p : Pending) → r ≡ step.Item p → NextTold further root s u last e new (Some p)
    so_far_item p is = by f
      where
        by : SoFar further root s t last e mid → NextTold further root s u last e new (Some p)
        by (inl h) = let g = next_step (step.Item p) is last h.1 in (subst (λ x. Walks further root x u last (Some p.place)) h.0 g.0, g.1, g.4)
        by (inr h) =
            let g = next_step (step.Item p) is (Some h.0) h.2 in
            (walks_on further root s t u last h.0 h.3 (Some p.place) (not_below h.0 p.place g.2) h.1 g.0, g.1, record { pending = g.4.pending; due_are = h.5 ∙ g.4.due_are })

    pub so_far_end : r ≡ step.End → NextTold further root s u last e new None
    so_far_end is = by f
      where
        by : SoFar further root s t last e mid → NextTold further root s u last e new None
        by (inl h) = let g = next_step step.End is last h.1 in (subst (λ x. WalksOut further root x u last e) h.0 g.0, g.1, (last, g.2, g.1))
        by (inr h) =
            let g = next_step step.End is (Some h.0) h.2 in
            (walks_out further root s t u last h.0 e h.3 h.4 h.1 g.0, ap (before_end e) h.5 ∙ g.1, (Some h.0, g.2, g.1))
