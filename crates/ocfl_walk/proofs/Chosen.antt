-- The turn that is chosen, and what a stand is once listings of which nothing is left are let go.
use Rattle.std.proofs.Common.{◌≡◌, ◌≢◌, ◌⊎◌, inl, inr, List, [], ◌∷◌, refl, sym, ◌∙◌, ap, subst, true, false, Bool, Option, Some, None, arith}
use Rattle.std.specs.{declared.alloc.Global.{Global}, Prelude.{cond, Vec}, Ordering.{is_lt}}
use Rattle.std.specs.declared.cmp.Ordering.TheVariants.{Less}
use Rattle.arrayvec.specs.ArrayVec.{ArrayVec}
use Rattle.ocfl_tree.specs.{Place.{Place, place_cmp}, StorageRoot.{StorageRoot}}
use Rattle.ocfl_tree.specs.declared.store.Entry.{Entry}
use Rattle.ocfl_report.specs.declared.further.Further.{Further}
use Rattle.ocfl_walk.specs.Standing.{IsStanding, Pile, StandsAt, size_of, stand_size, piles_in}
use Rattle.ocfl_walk.specs.Internal.Standing.{IsBelowNext, IsOrderlyIf, TurnIs, next_of, path_from, trimmed, trimmed_from, is_turn_past, turn_before, turn_of}
use Rattle.ocfl_walk.specs.{Internal.Walking.{GoesOn}}
use Rattle.ocfl_walk.specs.{declared.end.End.{End}, declared.stand.Stand.{Stand}}
use Rattle.ocfl_walk.specs.{declared.stand.Step.{Step}, declared.stand.Turn.{Turn}}
use Rattle.ocfl_rules.specs.Between.{IsBeyond}
use Rattle.ocfl_item.specs.declared.meeting.Around.{Around}
use Rattle.ocfl_walk.specs.declared.stand.Step.TheVariants as step
use Rattle.ocfl_walk.specs.declared.stand.Turn.TheVariants as turn
use Rattle.ocfl_rules.proofs.BelowLaws.{equal_itself, less_from}
use Rattle.ocfl_tree.proofs.Orders.{place_cmp_total}
use Rattle.ocfl_walk.proofs.DueTurns.{turn_comes}
use Rattle.ocfl_walk.proofs.OrderlyLaws.{fit_of, orderly_trimmed, size_trimmed}
use Rattle.ocfl_walk.proofs.TurnLaws.{standing_trimmed}

abbrev Listings : Type 0
Listings = ArrayVec (Vec Entry Global)

not_base : (o p : Option Place) → turn.Base ≡ turn_of o p → ⊥
not_base None None e = cc
not_base (Some x) None e = cc
not_base None (Some b) e = cc
not_base (Some x) (Some b) e = by (is_lt (place_cmp b x)) e
  where
    by : (c : Bool) → turn.Base ≡ cond c (turn.Path b) (turn.Entry x) → ⊥
    by true e = cc
    by false e = cc

entry_next : (o p : Option Place) (x : Place) → turn.Entry x ≡ turn_of o p → o ≡ Some x
entry_next None None x e = absurd cc
entry_next (Some y) None x e = cc
entry_next None (Some b) x e = absurd cc
entry_next (Some y) (Some b) x e = by (is_lt (place_cmp b y)) e
  where
    by : (c : Bool) → turn.Entry x ≡ cond c (turn.Path b) (turn.Entry y) → Some y ≡ Some x
    by true e = absurd cc
    by false e = cc

path_next : (o p : Option Place) (x : Place) → turn.Path x ≡ turn_of o p → (p ≡ Some x) × IsBelowNext x o
path_next None None x e = absurd cc
path_next (Some y) None x e = absurd cc
path_next None (Some b) x e = (cc, tt)
path_next (Some y) (Some b) x e = by (is_lt (place_cmp b y)) refl e
  where
    by : (c : Bool) → is_lt (place_cmp b y) ≡ c → turn.Path x ≡ cond c (turn.Path b) (turn.Entry y) → (Some b ≡ Some x) × (place_cmp x y ≡ Less)
    by true f e = let same : b ≡ x = cc in (ap (λ z. Some z) same, subst (λ z. place_cmp z y ≡ Less) same (less_from _ f))
    by false f e = absurd cc

module _ (last : Option Place) (o : Option Place) (a : Option Around) (t : Turn) (base : last ≡ None → t ≡ turn.Base) (next : (p : Place) → last ≡ Some p → t ≡ turn_of o (path_from p a)) where
  pub chosen_base : t ≡ turn.Base → last ≡ None
  chosen_base e = by last refl
    where
      by : (l : Option Place) → last ≡ l → last ≡ None
      by None g = g
      by (Some p) g = absurd (not_base o (path_from p a) (sym e ∙ next p g))

  pub chosen_entry : (x : Place) → t ≡ turn.Entry x → o ≡ Some x
  chosen_entry x e = by last refl
    where
      by : (l : Option Place) → last ≡ l → o ≡ Some x
      by None g = absurd (let b : turn.Entry x ≡ turn.Base = sym e ∙ base g in cc)
      by (Some p) g = entry_next o (path_from p a) x (sym e ∙ next p g)

  pub chosen_path : (x : Place) → t ≡ turn.Path x → (p : Place) → last ≡ Some p → (path_from p a ≡ Some x) × IsBelowNext x o
  chosen_path x e p g = path_next o (path_from p a) x (sym e ∙ next p g)

  pub chosen_begun : (x : Place) → t ≡ turn.Path x → last ≢ None
  chosen_begun x e g = let two : turn.Base ≡ turn.Path x = sym (base g) ∙ e in cc

-- an entry that is the table's next path is taken as an entry
pub tie : (o p : Option Place) (x : Place) → o ≡ Some x → p ≡ Some x → turn.Entry x ≡ turn_of o p
tie o p x e f = ap (λ r. cond (is_lt r) (turn.Path x) (turn.Entry x)) (sym (equal_itself place_cmp_total x)) ∙ (λ i. turn_of (sym e i) (sym f i))

trimmed_twice : (ps : List Pile) → trimmed (trimmed ps) ≡ trimmed ps
trimmed_twice [] = refl
trimmed_twice (p ∷ ps) = by p.0 p.1 (trimmed_twice ps)
  where
    by : (d : Place) (es : List Entry) → trimmed (trimmed ps) ≡ trimmed ps → trimmed (trimmed_from d es (trimmed ps) ps) ≡ trimmed_from d es (trimmed ps) ps
    by d [] h = h
    by d (e ∷ es) h = refl

pub trim_stays : (ps qs : List Pile) → qs ≡ trimmed ps → trimmed qs ≡ qs
trim_stays ps qs is = ap trimmed is ∙ trimmed_twice ps ∙ sym is

module _ (ps qs : List Pile) (a : Option Around) (is : qs ≡ trimmed ps) where
  pub mid_orderly : (last : Option Place) → IsOrderlyIf last ps a → IsOrderlyIf last qs a
  mid_orderly last h = subst (λ xs. IsOrderlyIf last xs a) (sym is) (orderly_trimmed last ps a h)

  mid_size : (last : Option Place) → size_of last qs a ≡ size_of last ps a
  mid_size last = ap (λ xs. size_of last xs a) is ∙ size_trimmed last ps a

-- the same walk without the listings that are empty
pub mid_at : (further : Further) (root : StorageRoot) (old : Stand) (mid : Listings) → piles_in old.last mid.items ≡ trimmed (piles_in old.last old.listings.items) → (last : Option Place) → StandsAt further root old last
    → StandsAt further root (record { listings = mid; around = old.around; last = old.last }) last
mid_at further root old mid is None st = st
mid_at further root old mid is (Some p) st = (st.0, subst (λ xs. IsStanding further root p xs old.around) (sym is) (standing_trimmed root further p (piles_in old.last old.listings.items) old.around st.1))

-- what the turn that is chosen comes to
pub chosen_turn : (further : Further) (ps : List Pile) (a : Option Around) → trimmed ps ≡ ps → (root : StorageRoot) (last : Option Place) (p : Place) (t : Turn) → last ≡ Some p → IsOrderlyIf last ps a
    → IsStanding further root p ps a → t ≡ turn_of (next_of ps) (path_from p a) → TurnIs further root p ps t
chosen_turn further ps a trim root last p t l o h e =
    let fit = fit_of p ps a (subst (λ x. IsOrderlyIf x ps a) l o) in
    subst (λ xs. TurnIs further root p xs t) trim
    (turn_comes further root p ps a t h fit (e ∙ ap (λ xs. turn_of (next_of xs) (path_from p a)) (sym trim)) (λ b. not_base (next_of ps) (path_from p a) (sym b ∙ e)))

pub sizes : (old mid : Stand) → mid.last ≡ old.last → mid.around ≡ old.around → piles_in mid.last mid.listings.items ≡ trimmed (piles_in old.last old.listings.items) → stand_size mid ≡ stand_size old
unfolding stand_size
sizes old mid l a is = (λ i. size_of (l i) (piles_in mid.last mid.listings.items) (a i)) ∙ mid_size (piles_in old.last old.listings.items) (piles_in mid.last mid.listings.items) old.around is old.last

pub goes_from : (old mid new : Stand) → mid.last ≡ old.last → stand_size mid ≡ stand_size old → (s : Step) → GoesOn mid new s → GoesOn old new s
goes_from old mid new l z (step.Item p) g = (g.0, subst (λ x. IsBeyond x p.place) l g.1, omega (arith, z, g.2), g.3)
goes_from old mid new l z step.Nothing g = (g.0, g.1, subst (λ x. IsBeyond x g.0) l g.2, omega (arith, z, g.3))
goes_from old mid new l z step.End g = tt

-- if the last place is there, the walk stands at it
pub at_last : (further : Further) (root : StorageRoot) (old : Stand) (X : Option Place → Type 0) (last : Option Place) → StandsAt further root old last → (old.last ≡ None → ⊥)
    → ((p : Place) → old.last ≡ Some p → IsStanding further root p (piles_in old.last old.listings.items) old.around → X (Some p)) → X last
at_last further root old X None st n k = absurd (n st)
at_last further root old X (Some p) st n k = k p st.0 st.1

pub at_first : (further : Further) (root : StorageRoot) (old : Stand) (X : Option Place → Type 0) (last : Option Place) → StandsAt further root old last → old.last ≡ None → X None → X last
at_first further root old X None st n k = k
at_first further root old X (Some p) st n k = absurd (let e : None ≡ Some p = sym n ∙ st.0 in cc)

-- ---- the turn before the end

-- a turn that leads somewhere is the one that was chosen, and not past the end
pub kept_turn : (e : End) (t u : Turn) → u ≡ turn_before e t → u ≢ turn.End → (t ≡ u) × (is_turn_past e u ≡ false)
kept_turn e t u is some = by (is_turn_past e t) refl is
  where
    by : (b : Bool) → is_turn_past e t ≡ b → u ≡ cond b turn.End t → (t ≡ u) × (is_turn_past e u ≡ false)
    by true f g = absurd (some g)
    by false f g = (sym g, ap (is_turn_past e) g ∙ f)

pub ended_turn : (e : End) (t : Turn) → turn.End ≡ turn_before e t → (t ≡ turn.End) ⊎ (is_turn_past e t ≡ true)
ended_turn e t is = by (is_turn_past e t) refl is
  where
    by : (b : Bool) → is_turn_past e t ≡ b → turn.End ≡ cond b turn.End t → (t ≡ turn.End) ⊎ (is_turn_past e t ≡ true)
    by true f g = inr f
    by false f g = inl (sym g)
