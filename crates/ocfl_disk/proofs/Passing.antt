-- How one call passes after another.
use Rattle.std.proofs.Common.{◌⊎◌, inl, inr, ⊎_elim, ℕ, sym, subst, arith}
use Rattle.ocfl_disk.specs.Names.{Stored}
use Rattle.ocfl_disk.specs.PowerCut.{DiskState, Change, After, Passes, Same}

-- two calls, whose changes make one
pub passes_then : (first second both : Change) (old mid new : DiskState) → Passes first old mid → Passes second mid new
    → ((d c : Stored) → old.may_leave d → first d c → both d c)
    → ((d e c : Stored) → old.may_leave d → mid.may_leave e → first d e → second e c → both d c)
    → Passes both old new
passes_then first second both old mid new a b one two = record {
  later = omega (arith, a.later, b.later);
  now = λ c left. through c (b.now c left);
  meanwhile = λ t c le since. ⊎_elim (λ before. early t c (a.meanwhile t c le before)) (λ e. inr (through c e)) (b.meanwhile t c (omega (arith, le, a.later)) since);
  keeps = λ t c le since. b.keeps t c (omega (arith, le, a.later)) (a.keeps t c le since);
  faults = omega (arith, a.faults, b.faults);
}
  where
    through : (c : Stored) → After second mid.may_leave c → After both old.may_leave c
    through c e = let d = a.now e.0 e.1 in (d.0, d.1, two d.0 e.0 c d.1 e.1 d.2 e.2)

    early : (t : ℕ) (c : Stored) → old.left_since t c ⊎ After first old.may_leave c → old.left_since t c ⊎ After both old.may_leave c
    early t c (inl before) = inl before
    early t c (inr d) = inr (d.0, d.1, one d.0 c d.1 d.2)

-- a call whose change is such a change
pub passes_as : (change other : Change) (old new : DiskState) → Passes change old new → ((d c : Stored) → old.may_leave d → change d c → other d c) → Passes other old new
passes_as change other old new a into = record {
  later = a.later;
  now = λ c left. let d = a.now c left in (d.0, d.1, into d.0 c d.1 d.2);
  meanwhile = λ t c le since. ⊎_elim inl (λ d. inr (d.0, d.1, into d.0 c d.1 d.2)) (a.meanwhile t c le since);
  keeps = a.keeps;
  faults = a.faults;
}

-- no call
pub passes_still : (change : Change) (d : DiskState) → ((c : Stored) → change c c) → Passes change d d
passes_still change d same = record {
  later = omega arith;
  now = λ c left. (c, left, same c);
  meanwhile = λ t c le since. inl since;
  keeps = λ t c le since. since;
  faults = omega arith;
}

-- a call after one that changed nothing
pub after_calm : (change : Change) (old mid new : DiskState) → Passes Same old mid → Passes change mid new → ((c : Stored) → change c c) → Passes change old new
after_calm change old mid new a b still = passes_then Same change change old mid new a b
    (λ d c left same. subst (λ (x : Stored). change d x) (sym same) (still d))
    (λ d e c left mid_left same step. subst (λ (x : Stored). change x c) same step)

-- one that changed nothing, after another call
pub then_calm : (change : Change) (old mid new : DiskState) → Passes change old mid → Passes Same mid new → Passes change old new
then_calm change old mid new a b = passes_then change Same change old mid new a b
    (λ d c left step. step)
    (λ d e c left mid_left step same. subst (λ (x : Stored). change d x) (sym same) step)
