-- What is between two places, cut in two at the last one taken.
use Rattle.std.proofs.Common.{◌≡◌, ◌⊎◌, inl, inr, List, [], ◌++◌, refl, sym, ◌∙◌, ap, subst, false, Option, Some, None, append_assoc}
use Rattle.std.specs.{Prelude.{not}, Ordering.{is_lt}, declared.cmp.Ordering.TheVariants.{Less}}
use Rattle.ocfl_tree.specs.{Place.{Place, place_cmp}, StorageRoot.{StorageRoot}, Store.{Store}}
use Rattle.ocfl_tree.proofs.Orders.{place_cmp_total}
use Rattle.ocfl_rules.specs.Between.{IsBeyond, IsWithin, between, looked_between, read_between}
use Rattle.ocfl_rules.proofs.{BetweenLaws.{looked_on, read_on}, Trails.{filter_append}}
use Rattle.ocfl_item.specs.{Looking.{IsFront}, declared.fault.Fault.{Fault}}
use Rattle.ocfl_item.proofs.AuditingLaws.{front_all, front_more}
use Rattle.ocfl_report.specs.declared.further.Further.{Further}
use Rattle.ocfl_walk.specs.{Ends.{is_past, before_end}, WalkCalls.{FailsOut, next_due}, declared.end.End.{End}}
use Rattle.ocfl_walk.proofs.{BeforeLaws.{not_below}, EndLaws.{looked_out, read_out}, NextLaws.{next_beyond}}
use Rattle.ocfl_scrub.proofs.{Passing.{up_to_last}, Lists.{filter_none}}

-- nothing was taken, or the last place taken is above the first and before the end
abbrev pub HasGoneOn : End → Option Place → Option Place → Type 0
HasGoneOn e from last = (last ≡ from) ⊎ ((m : Place) × ((last ≡ Some m) × (IsBeyond from m × (is_past e m ≡ false))))

pub gone_self : (e : End) (from : Option Place) → HasGoneOn e from from
gone_self e from = inl refl

beyond_more : (from : Option Place) (m p : Place) → IsBeyond from m → place_cmp m p ≡ Less → IsBeyond from p
beyond_more None m p b l = tt
beyond_more (Some a) m p b l = place_cmp_total.trans a m p b l

pub gone_next : (e : End) (from last : Option Place) (p : Place) → HasGoneOn e from last → IsBeyond last p → is_past e p ≡ false → HasGoneOn e from (Some p)
gone_next e from last p (inl f) l n = inr (p, (refl, (subst (λ x. IsBeyond x p) f l, n)))
gone_next e from last p (inr (m, (f, b))) l n = inr (p, (refl, (beyond_more from m p b.0 (subst (λ x. IsBeyond x p) f l), n)))

module _ (f : Option Place → Option Place → List Place)
    (joins : (from to : Option Place) (b : Place) → IsBeyond from b → IsWithin to b → f from (Some b) ++ f (Some b) to ≡ f from to) (self : (p : Place) → f (Some p) (Some p) ≡ []) where
  up_self : (from : Option Place) → up_to_last f from from ≡ []
  up_self None = refl
  up_self (Some p) = self p

  joined : (e : End) (from last to : Option Place) → HasGoneOn e from last → ((m : Place) → last ≡ Some m → IsWithin to m) → up_to_last f from last ++ f last to ≡ f from to
  joined e from last to (inl g) u = subst (λ x. up_to_last f from x ++ f x to ≡ f from to) (sym g) (ap (λ xs. xs ++ f from to) (up_self from))
  joined e from last to (inr (m, (g, b))) u = subst (λ x. up_to_last f from x ++ f x to ≡ f from to) (sym g) (joins from to m b.0 (u m g))

  joined_next : (e : End) (from last : Option Place) (p : Place) → HasGoneOn e from last → IsBeyond last p → up_to_last f from last ++ f last (Some p) ≡ f from (Some p)
  joined_next e from last p low h = joined e from last (Some p) low (λ m g. not_below m p (subst (λ x. IsBeyond x p) g h))

  -- the same of what is left before the end
  joined_out : (e : End) → ((from : Option Place) (b : Place) → IsBeyond from b → is_past e b ≡ false → f from (Some b) ++ before_end e (f (Some b) None) ≡ before_end e (f from None))
      → (from last : Option Place) → HasGoneOn e from last → up_to_last f from last ++ before_end e (f last None) ≡ before_end e (f from None)
  joined_out e out from last (inl g) = subst (λ x. up_to_last f from x ++ before_end e (f x None) ≡ before_end e (f from None)) (sym g) (ap (λ xs. xs ++ before_end e (f from None)) (up_self from))
  joined_out e out from last (inr (m, (g, b))) = subst (λ x. up_to_last f from x ++ before_end e (f x None) ≡ before_end e (f from None)) (sym g) (out from m b.0 b.1)

-- ---- directories that are looked into, and objects whose inventories are read

between_self : (ps : List Place) (p : Place) → between ps (Some p) (Some p) ≡ []
between_self ps p = filter_none (λ q. is_lt (place_cmp p q)) ps

module _ (root : StorageRoot) where
  looked_none : (p : Place) → looked_between root (Some p) (Some p) ≡ []
  unfolding looked_between
  looked_none p = between_self _ p

  read_none : (p : Place) → read_between root (Some p) (Some p) ≡ []
  unfolding read_between
  read_none p = between_self _ p

  pub looked_self : (from : Option Place) → up_to_last (looked_between root) from from ≡ []
  looked_self from = up_self (looked_between root) (looked_on root) looked_none from

  pub read_self : (from : Option Place) → up_to_last (read_between root) from from ≡ []
  read_self from = up_self (read_between root) (read_on root) read_none from

  module _ (e : End) (from last : Option Place) (low : HasGoneOn e from last) where
    pub looked_next : (p : Place) → IsBeyond last p → up_to_last (looked_between root) from last ++ looked_between root last (Some p) ≡ looked_between root from (Some p)
    looked_next p h = joined_next (looked_between root) (looked_on root) looked_none e from last p low h

    pub looked_end : up_to_last (looked_between root) from last ++ before_end e (looked_between root last None) ≡ before_end e (looked_between root from None)
    looked_end = joined_out (looked_between root) (looked_on root) looked_none e (looked_out e root) from last low

    pub read_next : (p : Place) → IsBeyond last p → up_to_last (read_between root) from last ++ read_between root last (Some p) ≡ read_between root from (Some p)
    read_next p h = joined_next (read_between root) (read_on root) read_none e from last p low h

    pub read_end : up_to_last (read_between root) from last ++ before_end e (read_between root last None) ≡ before_end e (read_between root from None)
    read_end = joined_out (read_between root) (read_on root) read_none e (read_out e root) from last low

  -- up to a next place before the end is a front of all that is left before it
  module _ (e : End) (last : Option Place) (p : Place) (far : IsBeyond last p) (inside : is_past e p ≡ false) where
    pub looked_front : IsFront (looked_between root last (Some p)) (before_end e (looked_between root last None))
    looked_front = (before_end e (looked_between root (Some p) None), sym (looked_out e root last p far inside))

    pub read_front : IsFront (read_between root last (Some p)) (before_end e (read_between root last None))
    read_front = (before_end e (read_between root (Some p) None), sym (read_out e root last p far inside))

-- up to the next item is a front of all that is left before the end
next_front : (f : Option Place → Option Place → List Place) → ((from to : Option Place) (b : Place) → IsBeyond from b → IsWithin to b → f from (Some b) ++ f (Some b) to ≡ f from to) → (e : End) (from to : Option Place)
    → ((b : Place) → to ≡ Some b → IsBeyond from b) → IsFront (before_end e (f from to)) (before_end e (f from None))
next_front f joins e from None far = front_all (before_end e (f from None))
next_front f joins e from (Some b) far =
    (before_end e (f (Some b) None), ap (before_end e) (sym (joins from None b (far b refl) tt)) ∙ filter_append (λ z. not (is_past e z)) (f from (Some b)) (f (Some b) None))

-- a walk that failed looked at that
module _ (further : Further) (root : StorageRoot) (s t : Store) (from : Option Place) (e : End) (why : Fault) (w : FailsOut further root s t from e why) where
  pub lost_listed : IsFront w.listed (before_end e (looked_between root from None))
  lost_listed = let k = next_front (looked_between root) (looked_on root) e from (next_due further root from) (next_beyond further root from) in front_more w.listed _ k.0 _ (sym k.1) w.listed_front

  pub lost_heads : IsFront w.heads (before_end e (read_between root from None))
  lost_heads = let k = next_front (read_between root) (read_on root) e from (next_due further root from) (next_beyond further root from) in front_more w.heads _ k.0 _ (sym k.1) w.heads_front

-- a front of what is left is one of the whole after what was before
pub front_behind : (before front left whole : List Place) → before ++ left ≡ whole → IsFront front left → IsFront (before ++ front) whole
front_behind before front left whole e f = (f.0, sym e ∙ ap (λ xs. before ++ xs) f.1 ∙ sym (append_assoc before front f.0))
