-- A step to an entry of a listing.
use Rattle.std.proofs.Common.{◌≡◌, ◌≢◌, ◌⊎◌, inl, inr, List, [], ◌∷◌, ◌++◌, refl, sym, ◌∙◌, ap, subst, true, false, Bool, Option, Some, None, append_assoc}
use Rattle.std.proofs.lemmas.List.{append-nil}
use Rattle.std.specs.{Prelude.{cond, ◌&&◌}, declared.cmp.Ordering.TheVariants.{Less}}
use Rattle.ocfl_tree.specs.{Place.{Place, Text, place_cmp, begins, text_eq}, Ascending.{IsAmong}}
use Rattle.ocfl_tree.specs.{StorageRoot.{StorageRoot, names_in}, Store.{Store}}
use Rattle.ocfl_tree.specs.declared.store.Entry.{Entry}
use Rattle.ocfl_tree.proofs.Orders.{place_cmp_total, not_below_itself, true_not_false}
use Rattle.ocfl_report.specs.declared.further.Further.{Further}
use Rattle.ocfl_inventory.specs.Table.{Table}
use Rattle.ocfl_rules.specs.Due.{due}
use Rattle.ocfl_rules.specs.Inventories.{notes}
use Rattle.ocfl_rules.specs.Walk.{is_reached, seen_names}
use Rattle.ocfl_rules.specs.Stack.{IsListed}
use Rattle.ocfl_rules.specs.Zone.{Zone, skipped, hierarchy, inside, zone, table_at, is_listed_zone, is_listed_in_object}
use Rattle.ocfl_rules.proofs.AuditExists.{zone_is}
use Rattle.ocfl_rules.proofs.BelowLaws.{above_self, begins_front, begins_rest, text_from_test}
use Rattle.ocfl_walk.specs.Standing.{HaveEntries, Pile, StandsAt, frames_of}
use Rattle.ocfl_walk.specs.Internal.Standing.{IsAroundIf, IsHeld, IsOrderly, IsTaken, next_of, still}
use Rattle.ocfl_walk.specs.{Internal.Walking.{Steps, step_from}, declared.stand.Stand.{Stand}}
use Rattle.ocfl_item.specs.{Around.{IsMet, IsPart, IsTableAround}, Meeting.{IsItemAt, Meets}}
use Rattle.ocfl_item.specs.{declared.pending.Pending.{Pending}, declared.meeting.Around.{Around}}
use Rattle.ocfl_item.proofs.LooksZones.{inside_on}
use Rattle.ocfl_walk.proofs.{OrderlyLaws.{entry_after, old_chain}, ReachLaws.{reached_listed}}
use Rattle.ocfl_walk.proofs.{WalkCallLaws.{IsNear, meets_walks}, StandLaws.{object_zone}}

pub taken_place : (ps new : List Pile) (entry : Entry) (x : Place) (t : IsTaken ps new entry) → next_of ps ≡ Some x → x ≡ t.place ++ entry.name ∷ []
taken_place ps new entry x t h = let e : Some (t.place ++ entry.name ∷ []) ≡ Some x = sym (ap next_of t.old_is) ∙ h in cc

-- what begins a place begins its directory, or is it
pub begins_last : (o d : Place) (n : Text) → begins o (d ++ n ∷ []) ≡ true → (begins o d ≡ true) ⊎ (o ≡ d ++ n ∷ [])
begins_last [] d n h = inl refl
begins_last (m ∷ []) [] n h = by (text_eq m n) refl h
  where
    by : (b : Bool) → text_eq m n ≡ b → b && true ≡ true → (false ≡ true) ⊎ (m ∷ [] ≡ n ∷ [])
    by true e g = inr (λ i. text_from_test m n e i ∷ [])
    by false e g = absurd (true_not_false (sym g))
begins_last (m ∷ k ∷ o) [] n h = absurd (by (text_eq m n) h)
  where
    by : (b : Bool) → b && false ≡ true → ⊥
    by true g = true_not_false (sym g)
    by false g = true_not_false (sym g)
begins_last (m ∷ o) (a ∷ d) n h = by (text_eq m a) refl h (begins_last o d n)
  where
    by : (b : Bool) → text_eq m a ≡ b → b && begins o (d ++ n ∷ []) ≡ true → (begins o (d ++ n ∷ []) ≡ true → (begins o d ≡ true) ⊎ (o ≡ d ++ n ∷ []))
        → (b && begins o d ≡ true) ⊎ (m ∷ o ≡ a ∷ d ++ n ∷ [])
    by true e g k = go (k g)
      where
        go : (begins o d ≡ true) ⊎ (o ≡ d ++ n ∷ []) → (begins o d ≡ true) ⊎ (m ∷ o ≡ a ∷ d ++ n ∷ [])
        go (inl u) = inl u
        go (inr u) = inr (λ i. text_from_test m a e i ∷ u i)
    by false e g k = absurd (true_not_false (sym g))

module _ (further : Further) (root : StorageRoot) where
  name_reached : (d : Place) (n : Text) → IsAmong (seen_names root d) n → is_reached root d ≡ true
  name_reached d n i = by (is_reached root d) refl i
    where
      by : (b : Bool) → is_reached root d ≡ b → IsAmong (cond b (names_in root d) []) n → b ≡ true
      by true e j = refl
      by false e j = absurd j

  -- which object holds the entry, if the directory is on the way to the last place
  part_is : (last d : Place) (n : Text) (a : Option Around) → IsTableAround further root last a → begins d last ≡ true → is_reached root d ≡ true
      → place_cmp last (d ++ n ∷ []) ≡ Less → IsPart further root d (still a (d ++ n ∷ []))
  part_is last d n a h b r l = by (zone root d) refl (reached_listed root d r)
    where
      x : Place
      x = d ++ n ∷ []

      way : (w : Place) × (last ≡ d ++ w)
      way = begins_rest d last b

      outside : (a : Option Around) → IsTableAround further root last a → zone root d ≡ hierarchy → still a x ≡ None
      outside None k e = refl
      outside (Some o) k e = go (begins o.place x) refl
        where
          whole : last ≡ o.place ++ k.0
          whole = (zone_is root last o.place k.0 k.1).whole

          not_above : (s : Place) → last ≡ x ++ s → ⊥
          not_above [] f = not_below_itself place_cmp_total x (ap (λ y. place_cmp y x) (sym (f ∙ append-nil x)) ∙ l)
          not_above (m ∷ s) f = not_below_itself place_cmp_total x (place_cmp_total.trans x (x ++ m ∷ s) x (above_self x m s) (ap (λ y. place_cmp y x) (sym f) ∙ l))

          no : (begins o.place d ≡ true) ⊎ (o.place ≡ x) → ⊥
          no (inl g) = let w = begins_rest o.place d g in
              let z : zone root d ≡ inside o.place w.0 = ap (zone root) w.1 ∙ object_zone further root o.place k.0 w.0 last k.1 in let bad : hierarchy ≡ inside o.place w.0 = sym e ∙ z in cc
          no (inr g) = not_above k.0 (whole ∙ ap (λ y. y ++ k.0) g)

          go : (c : Bool) → begins o.place x ≡ c → cond c (Some o) None ≡ None
          go true f = absurd (no (begins_last o.place d n f))
          go false f = refl

      within : (o q : Place) (table : Option Table) → zone root d ≡ inside o q → table_at root o ≡ table → is_listed_in_object table q ≡ true
          → (a : Option Around) → IsTableAround further root last a → IsPart further root d (still a x)
      within o q None e f g a k = absurd (true_not_false (sym g))
      within o q (Some t) e f g None k =
          let z : zone root last ≡ inside o (q ++ way.0) = ap (zone root) way.1 ∙ inside_on root d o q way.0 e in
          absurd (let bad : None ≡ Some t = sym (k o (q ++ way.0) z) ∙ f in cc)
      within o q (Some t) e f g (Some c) k =
          let z : zone root last ≡ inside o (q ++ way.0) = ap (zone root) way.1 ∙ inside_on root d o q way.0 e in
          let same : o ≡ c.place = let two : inside o (q ++ way.0) ≡ inside c.place k.0 = sym z ∙ k.1 in cc in
          let whole : d ≡ o ++ q = (zone_is root d o q e).whole in
          let begun : begins c.place x ≡ true = subst (λ y. begins y x ≡ true) same
          (subst (λ y. begins o y ≡ true) (sym (ap (λ y. y ++ n ∷ []) whole ∙ append_assoc o q (n ∷ []))) (begins_front o (q ++ n ∷ []))) in
          subst (IsPart further root d) (sym (ap (λ y. cond y (Some c) None) begun)) (q, subst (λ y. zone root d ≡ inside y q) same e, k.2, k.3)

      by : (z : Zone) → zone root d ≡ z → is_listed_zone root z ≡ true → IsPart further root d (still a x)
      by skipped e g = absurd (true_not_false (sym g))
      by hierarchy e g = subst (IsPart further root d) (sym (outside a h e)) e
      by (inside o q) e g = within o q (table_at root o) e refl g a h

  pub entry_met : (last : Place) (ps new : List Pile) (entry : Entry) (x : Place) (a : Option Around) → IsOrderly last ps a → IsHeld further root last ps a
      → (t : IsTaken ps new entry) → x ≡ t.place ++ entry.name ∷ [] → IsMet further root t.place (still a x) entry x
  entry_met last ps new entry x a o h t e =
      let listed : IsListed root (frames_of ((t.place, entry ∷ t.rest) ∷ t.others)) = subst (λ qs. IsListed root (frames_of qs)) t.old_is h.listed in
      let entries : HaveEntries root ((t.place, entry ∷ t.rest) ∷ t.others) = subst (HaveEntries root) t.old_is h.entries in
      let reached = name_reached t.place entry.name (listed.0 entry.name (inl refl)) in
      record {
        is = e;
        reached = reached;
        part = subst (λ y. IsPart further root t.place (still a y)) (sym e) (part_is last t.place entry.name a h.table (old_chain last ps new entry a o t).0 reached (entry_after last ps new entry a o t));
        kind = entries.0.0;
      }

  -- the step to a place that was met
  pub step_to : (s t : Store) (last x : Place) (new : Stand) (item : Option Pending) → Meets further root s t x → IsItemAt further root x item → IsNear root (Some last) x → StandsAt further root new (Some x)
      → (notes further root None x ≢ [] → due further root (Some last) ≡ x ∷ due further root (Some x)) → (notes further root None x ≡ [] → due further root (Some last) ≡ due further root (Some x)) → Steps further root s t (Some last) new (step_from item)
  step_to s t last x new None m i near st some none = (x, meets_walks further root s t (Some last) x near m, st, near.beyond, none i)
  step_to s t last x new (Some p) m i near st some none =
      let e : x ≡ p.place = sym i.1 in (
        meets_walks further root s t (Some last) p.place (subst (IsNear root (Some last)) e near) (subst (Meets further root s t) e m),
        subst (λ y. StandsAt further root new (Some y)) e st,
        subst (λ y. place_cmp last y ≡ Less) e near.beyond,
        record { pending = i.0; due_are = subst (λ y. due further root (Some last) ≡ y ∷ due further root (Some y)) e (some (subst (λ y. notes further root None y ≢ []) i.1 i.0.some)) },
      )

pub still_around : (last x : Place) (a : Option Around) → IsAroundIf last a → IsAroundIf x (still a x)
still_around last x None h = tt
still_around last x (Some o) h = by (begins o.place x) refl
  where
    by : (b : Bool) → begins o.place x ≡ b → IsAroundIf x (cond b (Some o) None)
    by true e = record { holds = e; depth = h.depth; fit = h.fit }
    by false e = tt
