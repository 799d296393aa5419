-- A checkpoint that nights have left is not older than the reports.
use Rattle.std.proofs.Common.{◌≡◌, ◌≢◌, inl, inr, ℕ, [], ◌≤◌, ◌∙◌, ap, subst, arith}
use Rattle.std.specs.Prelude.{IfSome, IsTrue, Bool, false, Option, Some, None}
use Rattle.ocfl_tree.specs.{Place.{Text}, Store.{Store}}
use Rattle.ocfl_state.specs.{Checkpoint.{Checkpoint}, Content.{Content, is_closed}}
use Rattle.ocfl_night.specs.{Chain.{HasClosed}, Looks.{Rounds}, Sound.{Stands, IsSound}}
use Rattle.ocfl_state.specs.declared.checkpoint_parts.Phase.TheVariants.{Closing}
use Rattle.ocfl_night.specs.{Older.{IsBesides, IsOlder, IsToCome, open_cycle}, Refusing.{IsRefused, no_root, in_folder, none, unread, not_own, outdated}}
use Rattle.ocfl_terms.specs.declared.plan.Plan.{Plan}
use Rattle.ocfl_night.specs.declared.site.Site.{Site}
use Rattle.ocfl_terms.specs.declared.refusal.Refusal.TheVariants.{Older}
use Rattle.ocfl_night.proofs.{Chains.{next_cycle_begun, not_there}, Sound.{holds_sound, not_shut}}

-- no closed report is of a cycle from that one on
not_to_come : (rounds : Rounds) (k : Checkpoint) (c : Content) (n : ℕ) {next : ℕ} → HasClosed rounds next c.closed → next ≤ open_cycle k → IsToCome k n → IsTrue (is_closed c.closed n) → ⊥
not_to_come rounds k c n has le (inl is) shut = let unshut : is_closed c.closed n ≡ false = not_there has (omega (arith, le, is)) in cc (unshut, shut)
not_to_come rounds k c n has le (inr is) shut = let unshut : is_closed c.closed n ≡ false = not_there has (omega (arith, le, is)) in cc (unshut, shut)

module _ {rounds : Rounds} {t : Text} {k : Checkpoint} {c : Content} {n : ℕ} where
  pub never_older : Stands rounds t k c → IsOlder k c n → ⊥
  never_older (inl o) (inl older) = not_to_come rounds k c n o.earlier (omega arith) older.0 older.1
  never_older (inl o) (inr b) = cc (o.phase, b.phase)
  never_older (inr (inl w)) (inl older) = not_to_come rounds k c n w.earlier (omega (arith, next_cycle_begun k.cursor w.ends)) older.0 older.1
  never_older (inr (inl w)) (inr b) = cc (not_shut w, b.is, b.closed)
  never_older (inr (inr w)) (inl older) = not_to_come rounds k c n w.earlier (omega (arith, next_cycle_begun k.cursor w.ends)) older.0 older.1
  never_older (inr (inr w)) (inr b) = b.another w.empty

-- so no night over what nights have left is refused for that
pub newest : {told : Bool} {s : Store} {site : Site} {plan : Plan} {c : Content} {n : ℕ} (rounds : Rounds) → IsSound rounds c → IsRefused told s site plan c (Older n) → ⊥
newest rounds sound (no_root is bare) = cc is
newest rounds sound (in_folder id tells (none empty why)) = why
newest rounds sound (in_folder id tells (unread h)) = h.1.1
newest rounds sound (in_folder id tells (not_own k at (inl why))) = why
newest rounds sound (in_folder id tells (not_own k at (inr why))) = why.1.1
newest rounds sound (in_folder id tells (outdated k at own older)) = never_older (holds_sound sound.1 at).stands older

-- ---- of what a folder answers

module _ (k : Checkpoint) {shown c : Content} {cycle : ℕ} (same : shown ≡ c) (at : cycle ≡ k.cursor.cycle) where
  pub besides_of : k.phase ≡ Closing → c.report ≢ [] → (found : Option ℕ) → IfSome found (λ m. (m ≡ cycle) × IsTrue (is_closed shown.closed m)) → IfSome found (IsBesides k c)
  besides_of is another None p = tt
  besides_of is another (Some m) p = record { phase = is; is = p.0 ∙ at; closed = subst (λ (x : Content). IsTrue (is_closed x.closed m)) same p.1; another = another }

  pub none_besides : is_closed shown.closed cycle ≡ false → (n : ℕ) → IsBesides k c n → ⊥
  none_besides unshut n b = cc (unshut, b.closed, b.is, at, ap (λ (x : Content). x.closed) same)
