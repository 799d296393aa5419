-- The joined report that was made of reports that were copied.
use Rattle.std.proofs.Common.{◌≡◌, ◌⊎◌, inl, inr, ℕ, ◌+◌, List, [], ◌∷◌, ◌++◌, length, All, Bool, ap, subst, ◌∙◌}
use Rattle.std.proofs.lemmas.List.Elements.{All-cons, All-head, All-nil, All-tail}
use Rattle.ocfl_tree.specs.Place.{Place}
use Rattle.ocfl_say.specs.Said.{Said}
use Rattle.ocfl_joining.specs.{Crash.{Same, MayPut, Outcomes, Passes}, Reports.{Seen, begun, with_put}}
use Rattle.ocfl_joining.specs.Joined.{CanPut, IsJoined, IsRight, IsWordSaid, MayJoin, MayLeaveJoined, all_parts, joined_text}
use Rattle.ocfl_joining.specs.Internal.Copying.{AreAllCopied}
use Rattle.ocfl_joining.proofs.Passing.{joined_passes, two_same}

all_right : (separators : List Place) (s : Seen) (ks : List ℕ) → All (IsRight separators (begun s)) ks → All (IsRight separators s) ks
all_right separators s [] h = All-nil (IsRight separators s)
all_right separators s (k ∷ ks) h =
    let r = All-head (IsRight separators (begun s)) k ks h in
    All-cons (IsRight separators s) k ks (record { closed = r.closed; report = r.report }) (all_right separators s ks (All-tail (IsRight separators (begun s)) k ks h))

module _ (separators : List Place) (whole : Bool) (s c : Seen) (h : AreAllCopied separators (length separators + 1) (begun s) c) (before after : Said) where
  made_is : c.made ≡ joined_text separators s
  made_is = h.made

  pub could_put : IsWordSaid (c.word whole c.made) before after → CanPut separators whole s before after
  could_put w = record {
    right = all_right separators s (all_parts separators) h.right;
    said = subst (λ x. IsWordSaid x before after) (λ i. h.word i whole (made_is i)) w;
  }

  pub is_joined : (e new : Seen) → e ≡ c → new ≡ with_put whole e → IsWordSaid (c.word whole c.made) before after → IsJoined separators whole s new before after
  is_joined e new same q w = record {
    put = ap (λ x. x.put) q ∙ ap (λ x. x.put ++ record { whole = whole; bytes = x.made } ∷ []) same ∙ (λ i. h.put i ++ record { whole = whole; bytes = made_is i } ∷ []);
    could = could_put w;
    once = ap (λ x. x.opened) q ∙ ap (λ x. x.opened) same ∙ h.opened;
  }

  pub may_join : (e new : Seen) → e ≡ c → (new.put ≡ e.put) ⊎ (new ≡ with_put whole e) → IsWordSaid (c.word whole c.made) before after → MayJoin separators whole s new before after
  may_join e new same (inl f) w = inl (f ∙ ap (λ x. x.put) same ∙ h.put)
  may_join e new same (inr q) w = inr (is_joined e new same q w)

  pub made_passes : {F : Type 0} (may_leave : F → Outcomes) (moment : F → ℕ) (left_since : F → ℕ → Outcomes) (f g k l : F) (e : Seen) → e ≡ c → IsWordSaid (c.word whole c.made) before after
      → Passes may_leave moment left_since Same f g → Passes may_leave moment left_since Same g k → Passes may_leave moment left_since (MayPut (record { whole = whole; bytes = e.made })) k l
      → Passes may_leave moment left_since (MayLeaveJoined separators whole s before after) f l
  made_passes may_leave moment left_since f g k l e same w p q r =
      joined_passes may_leave moment left_since separators whole s before after (record { whole = whole; bytes = e.made }) f k l
      ((λ i. record { whole = whole; bytes = (same i).made }) ∙ (λ i. record { whole = whole; bytes = made_is i })) (could_put w)
      (two_same may_leave moment left_since f g k p q) r
