-- A state folder's clauses, by those of its disk.
use Rattle.std.proofs.Common.{◌≡◌, ◌⊎◌, inl, inr, ⊎_elim, ℕ, ◌≤◌, ◌<◌, refl, sym, subst, ap, arith}
use Rattle.std.specs.Prelude.{Result, Ok, Err, IfErr}
use Rattle.std.specs.IoError.{error_kind}
use Rattle.std.specs.declared.io.ErrorKind.{ErrorKind}
use Rattle.std.specs.declared.io.ErrorKind.TheVariants.{InvalidInput, StorageFull, QuotaExceeded}
use Rattle.ocfl_state.specs.{Content.{Content}, Calls.{HasCauseOr}}
use Rattle.ocfl_state.specs.Crash.{Step, Outcomes, Same, After, Follows, Passes}
use Rattle.ocfl_state.specs.declared.folder.FolderTrouble.{FolderTrouble}
use Rattle.ocfl_state.specs.declared.folder.FolderTrouble.TheVariants.{Failed, Full, Memory}
use Rattle.ocfl_disk.specs.{Reasons.{IsTroubleOf}, Leaving.{Leaves}, Disk.{HasFault, IsWrong}}
use Rattle.ocfl_disk.specs.Names.{Stored, content_of}
use Rattle.ocfl_disk.specs.PowerCut.{DiskState, Passes as DiskPasses, After as DiskAfter}
use Rattle.ocfl_disk.specs.Internal.Contents.{OfContent, FollowsContent}
use Rattle.ocfl_disk.specs.declared.state_file.Reason.{Reason}

after : (step : Step) (outcomes : Stored → Type 0) (c : Content) (s : Stored) → c ≡ content_of s → DiskAfter (OfContent step) outcomes s → After step (Leaves outcomes) c
after step outcomes c s is d = (content_of d.0, (d.0, d.1, refl), subst (step (content_of d.0)) (sym is) d.2)

pub lifted : {F : Type 0} (state : F → DiskState) (step : Step) (old new : F) → DiskPasses (OfContent step) (state old) (state new)
    → Passes (λ f. Leaves (state f).may_leave) (λ f. (state f).moment) (λ f t. Leaves ((state f).left_since t)) step old new
lifted state step old new passes = record {
  later = passes.later;
  now = λ c left. after step (state old).may_leave c left.0 left.2 (passes.now left.0 left.1);
  meanwhile = λ t c le left. ⊎_elim (λ before. inl (left.0, before, left.2)) (λ d. inr (after step (state old).may_leave c left.0 left.2 d)) (passes.meanwhile t left.0 le left.1);
  keeps = λ t c le left. (left.0, passes.keeps t left.0 le left.1, left.2);
}

pub durable : (step : Step) (old new : DiskState) → FollowsContent step old new → Follows step (Leaves old.may_leave) (Leaves new.may_leave)
durable step old new follows c left = after step old.may_leave c left.0 left.2 (follows left.0 left.1)

-- a call that changed nothing, and another one
pub after_same : {F : Type 0} (may_leave : F → Outcomes) (moment : F → ℕ) (left_since : F → ℕ → Outcomes) (step : Step) (old mid new : F)
    → Passes may_leave moment left_since Same old mid → Passes may_leave moment left_since step mid new → ((c : Content) → step c c) → Passes may_leave moment left_since step old new
after_same may_leave moment left_since step old mid new a b still = record {
  later = omega (arith, a.later, b.later);
  now = λ c left. through c (b.now c left);
  meanwhile = λ t c le since. ⊎_elim (λ before. early c (a.meanwhile t c le before)) (λ d. inr (through c d)) (b.meanwhile t c (omega (arith, le, a.later)) since);
  keeps = λ t c le since. b.keeps t c (omega (arith, le, a.later)) (a.keeps t c le since);
}
  where
    through : (c : Content) → After step (may_leave mid) c → After step (may_leave old) c
    through c d = let e = a.now d.0 d.1 in (e.0, e.1, subst (λ (x : Content). step x c) e.2 d.2)

    early : {P : Type 0} (c : Content) → P ⊎ After Same (may_leave old) c → P ⊎ After step (may_leave old) c
    early c (inl before) = inl before
    early c (inr d) = inr (d.0, d.1, subst (step d.0) (sym d.2) (still d.0))

pub weaker : {F : Type 0} (may_leave : F → Outcomes) (moment : F → ℕ) (left_since : F → ℕ → Outcomes) (step : Step) (old new : F)
    → Passes may_leave moment left_since Same old new → ((c : Content) → step c c) → Passes may_leave moment left_since step old new
weaker may_leave moment left_since step old new a still = record {
  later = a.later;
  now = λ c left. as_step c (a.now c left);
  meanwhile = λ t c le since. ⊎_elim inl (λ d. inr (as_step c d)) (a.meanwhile t c le since);
  keeps = a.keeps;
}
  where
    as_step : (c : Content) → After Same (may_leave old) c → After step (may_leave old) c
    as_step c d = (d.0, d.1, subst (step d.0) (sym d.2) (still d.0))

pub follows_same : (step : Step) (old mid new : Outcomes) → Follows Same old mid → Follows step mid new → Follows step old new
follows_same step old mid new a b c left = let d = b c left in let e = a d.0 d.1 in (e.0, e.1, subst (λ (x : Content). step x c) e.2 d.2)

abbrev trouble_of : {T : Type 0} → FolderTrouble → Result T FolderTrouble → FolderTrouble
trouble_of other (Ok v) = other
trouble_of other (Err trouble) = trouble

no_room : (kind : ErrorKind) → kind ≡ InvalidInput → (kind ≡ StorageFull) ⊎ (kind ≡ QuotaExceeded) → ⊥
no_room kind wrong (inl full) = cc
no_room kind wrong (inr full) = cc

-- why a call failed
pub cause_or : {T : Type 0} (Why : Type 0) (old new : DiskState) (outcome : Result T Reason) (result : Result T FolderTrouble) → old.faults ≤ new.faults
    → IfErr outcome (λ reason. HasFault old new reason ⊎ (Why × IsWrong reason))
    → IfErr result (λ trouble. (reason : Reason) × (outcome ≡ Err reason) × IsTroubleOf reason trouble)
    → HasCauseOr Why old.faults new.faults result
cause_or Why old new outcome (Ok v) le fault told = record {
  later = le;
  failed = λ is. absurd cc;
  full = λ is. absurd cc;
  not_taken = λ is. cc;
}
cause_or {T} Why old new outcome (Err trouble) le fault told = record {
  later = le;
  failed = λ is. by_failed (ap (trouble_of Memory) is) why;
  full = λ is. by_full (ap (trouble_of Memory) is) why;
  not_taken = λ is. told.2.not_taken (ap (trouble_of Memory) is);
}
  where
    why : HasFault old new told.0 ⊎ (Why × IsWrong told.0)
    why = subst (λ (r : Result T Reason). IfErr r (λ reason. HasFault old new reason ⊎ (Why × IsWrong reason))) told.1 fault

    by_failed : trouble ≡ Failed → HasFault old new told.0 ⊎ (Why × IsWrong told.0) → (old.faults < new.faults) ⊎ Why
    by_failed is (inl (inl memory)) = let out = told.2.memory.1 memory in absurd cc
    by_failed is (inl (inr more)) = inl more
    by_failed is (inr wrong) = inr wrong.0

    by_full : trouble ≡ Full → HasFault old new told.0 ⊎ (Why × IsWrong told.0) → old.faults < new.faults
    by_full is (inl (inl memory)) = let out = told.2.memory.1 memory in absurd cc
    by_full is (inl (inr more)) = more
    by_full is (inr wrong) = absurd (no_room (error_kind told.0.error) wrong.1 (told.2.full.0 is))
