-- One more content is kept: time passes by that step.
use Rattle.std.proofs.Common.{◌≡◌, ◌≢◌, Some, Result, Ok, Err, OnOk, ◌⊎◌, inl, inr, ⊎_elim, ℕ, zero, suc, ◌≤◌, List, [], ◌∷◌, ◌++◌, length, drop, refl, sym, ◌∙◌, subst, ap, arith, length-append}
use Rattle.ocfl_state.specs.{Content.{Content}, Crash.{Step, Passes, Follows}}
use Rattle.ocfl_state.specs.Memory.{Kept, History, IsImage, IsPast, images, images_since, then_keeps, kept_after}
use Rattle.std.specs.List.{slice_get}

earlier_stays : (past : List Kept) (k : Kept) (c : Content) → IsPast past c → IsPast (past ++ k ∷ []) c
earlier_stays [] k c was = absurd was
earlier_stays (p ∷ past) k c (inl here) = inl here
earlier_stays (p ∷ past) k c (inr there) = inr (earlier_stays past k c there)

joins_past : (past : List Kept) (k : Kept) (c : Content) → IsImage k c → IsPast (past ++ k ∷ []) c
joins_past [] k c image = inl image
joins_past (p ∷ past) k c image = inr (joins_past past k c image)

earlier_or_last : (past : List Kept) (k : Kept) (c : Content) → IsPast (past ++ k ∷ []) c → IsPast past c ⊎ IsImage k c
earlier_or_last [] k c (inl here) = inr here
earlier_or_last [] k c (inr none) = absurd none
earlier_or_last (p ∷ past) k c (inl here) = inl (inl here)
earlier_or_last (p ∷ past) k c (inr there) = ⊎_elim (λ was. inl (inr was)) (λ last. inr last) (earlier_or_last past k c there)

drop_joined : (t : ℕ) (past : List Kept) (k : Kept) → t ≤ length past → drop t (past ++ k ∷ []) ≡ drop t past ++ k ∷ []
drop_joined zero past k le = refl
drop_joined (suc t) [] k le = absurd (omega arith)
drop_joined (suc t) (p ∷ past) k le = drop_joined t past k (omega arith)

abbrev pub Changes : Step → History → History → Type 0
Changes step old new = Passes images (λ h. length h.past) images_since step old new

-- the next content is kept
pub keeps : (step : Step) (old new : History) → new.past ≡ old.past ++ old.now ∷ [] → Follows step (images old) (images new) → Changes step old new
keeps step old new grown follows = record {
  later = omega (arith, length-append old.past (old.now ∷ []), ap length grown);
  now = follows;
  meanwhile = λ t c le since. ⊎_elim
      (λ now. inr (follows c now))
      (λ was. inl (⊎_elim (λ earlier. inr earlier) (λ last. inl last) (earlier_or_last (drop t old.past) old.now c (subst (λ (l : List Kept). IsPast l c) (dropped t le) was))))
      since;
  keeps = λ t c le since. inr (subst (λ (l : List Kept). IsPast l c) (sym (dropped t le)) (⊎_elim (joins_past (drop t old.past) old.now c) (earlier_stays (drop t old.past) old.now c) since));
}
  where
    dropped : (t : ℕ) → t ≤ length old.past → drop t new.past ≡ drop t old.past ++ old.now ∷ []
    dropped t le = ap (drop t) grown ∙ drop_joined t old.past old.now le

-- nothing is changed, which is a step too
pub still : (step : Step) (old new : History) → ((c : Content) → step c c) → new.now ≡ old.now → new.past ≡ old.past → Changes step old new
still step old new steps now past = record {
  later = omega (arith, ap length past);
  now = λ c image. (c, subst (λ (k : Kept). IsImage k c) now image, steps c);
  meanwhile = λ t c le since. inl (back t c since);
  keeps = λ t c le since. there t c since;
}
  where
    back : (t : ℕ) (c : Content) → images_since new t c → images_since old t c
    back t c (inl image) = inl (subst (λ (k : Kept). IsImage k c) now image)
    back t c (inr was) = inr (subst (λ (l : List Kept). IsPast (drop t l) c) past was)

    there : (t : ℕ) (c : Content) → images_since old t c → images_since new t c
    there t c (inl image) = inl (subst (λ (k : Kept). IsImage k c) (sym now) image)
    there t c (inr was) = inr (subst (λ (l : List Kept). IsPast (drop t l) c) (sym past) was)

-- A call that may have changed what is kept by a step, and else changed nothing, which is a step too.
pub kept_or_still : (step : Step) (next : Kept) (old begun new : History) → begun.now ≡ old.now → begun.past ≡ old.past
    → (new ≡ then_keeps next begun) ⊎ (new ≡ begun)
    → ((c : Content) → step c c) → Follows step (images old) (IsImage next) → Changes step old new
kept_or_still step next old begun new now past (inl is) steps follows = keeps step old new grown (subst (λ (k : Kept). Follows step (images old) (IsImage k)) (sym kept) follows)
  where
    kept : new.now ≡ next
    kept = ap (λ (h : History). h.now) is

    grown : new.past ≡ old.past ++ old.now ∷ []
    grown = ap (λ (h : History). h.past) is ∙ (λ i. past i ++ now i ∷ [])
kept_or_still step next old begun new now past (inr is) steps follows = still step old new steps (ap (λ (h : History). h.now) is ∙ now) (ap (λ (h : History). h.past) is ∙ past)

-- the same if what is kept next is what was kept, changed so
pub changed : (step : Step) (change : Kept → Kept) (next : Kept) (old begun new : History) → begun.now ≡ old.now → begun.past ≡ old.past
    → next ≡ change begun.now → (new ≡ then_keeps next begun) ⊎ (new ≡ begun)
    → ((c : Content) → step c c) → Follows step (images old) (IsImage (change old.now)) → Changes step old new
changed step change next old begun new now past is either steps follows = kept_or_still step next old begun new now past either steps (subst (λ (k : Kept). Follows step (images old) (IsImage k)) (sym (is ∙ ap change now)) follows)

-- after `Ok` a crash leaves only what that change made of what it might have left before
pub stored : {X E : Type 0} (step : Step) (change : Kept → Kept) (next : Kept) (old begun new : History) (r : Result X E) → begun.now ≡ old.now
    → next ≡ change begun.now → OnOk r (new ≡ then_keeps next begun) → Follows step (images old) (IsImage (change old.now)) → OnOk r (Follows step (images old) (images new))
stored step change next old begun new (Ok x) now is kept follows = subst (λ (k : Kept). Follows step (images old) (IsImage k)) (sym (ap (λ (h : History). h.now) kept ∙ is ∙ ap change now)) follows
stored step change next old begun new (Err e) now is kept follows = tt

get_last : (past : List Kept) (k : Kept) → slice_get (past ++ k ∷ []) (length past) ≡ Some k
get_last [] k = refl
get_last (p ∷ past) k = get_last past k

get_earlier : (past : List Kept) (k : Kept) (n : ℕ) → n ≢ length past → slice_get (past ++ k ∷ []) n ≡ slice_get past n
get_earlier [] k zero other = absurd (other refl)
get_earlier [] k (suc n) other = refl
get_earlier (p ∷ past) k zero other = refl
get_earlier (p ∷ past) k (suc n) other = get_earlier past k n (λ same. other (ap (λ (m : ℕ). suc m) same))

pub kept_last : (h : History) (n : ℕ) → n ≡ length h.past → kept_after h n ≡ Some h.now
kept_last h n is = ap (slice_get (h.past ++ h.now ∷ [])) is ∙ get_last h.past h.now

pub kept_earlier : (h : History) (n : ℕ) → n ≢ length h.past → kept_after h n ≡ slice_get h.past n
kept_earlier h n other = get_earlier h.past h.now n other
