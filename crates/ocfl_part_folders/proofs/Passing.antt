-- How one call passes after another that changed nothing.
use Rattle.std.proofs.Common.{◌≡◌, ◌⊎◌, ◌∙◌, ◌≤◌, inl, inr, ⊎_elim, ℕ, Result, Ok, Err, MatchResult, None, refl, sym, subst, arith}
use Rattle.ocfl_disk.specs.Names.{Stored, IsNameless, named, with_named}
use Rattle.ocfl_disk.specs.Disk.{Calm, Makes}
use Rattle.ocfl_disk.specs.PowerCut.{DiskState, Change, After, IsDisk, MayMake, Passes, Same}
use Rattle.ocfl_disk.specs.declared.state_file.StateFile.{StateFile}

after_calm : (change : Change) (old mid new : DiskState) → ((t : ℕ) (c : Stored) → t ≤ old.moment → After Same old.may_leave c → old.left_since t c ⊎ After change old.may_leave c) → Passes Same old mid → Passes change mid new → Passes change old new
after_calm change old mid new kept a b = record {
  later = omega (arith, a.later, b.later);
  now = λ c left. through c (b.now c left);
  meanwhile = λ t c le since. ⊎_elim (λ before. early t c le (a.meanwhile t c le before)) (λ e. inr (through c e)) (b.meanwhile t c (omega (arith, le, a.later)) since);
  keeps = λ t c le since. b.keeps t c (omega (arith, le, a.later)) (a.keeps t c le since);
  faults = omega (arith, a.faults, b.faults);
}
  where
    through : (c : Stored) → After change mid.may_leave c → After change old.may_leave c
    through c e = let d = a.now e.0 e.1 in (d.0, d.1, subst (λ (x : Stored). change x c) d.2 e.2)

    early : (t : ℕ) (c : Stored) → t ≤ old.moment → old.left_since t c ⊎ After Same old.may_leave c → old.left_since t c ⊎ After change old.may_leave c
    early t c le (inl before) = inl before
    early t c le (inr d) = kept t c le d

-- nothing is changed by no call, and by two that change nothing
pub calm_still : (d : DiskState) → Calm d d
calm_still d = record {
  passes = record {
    later = omega arith;
    now = λ c left. (c, left, refl);
    meanwhile = λ t c le since. inl since;
    keeps = λ t c le since. since;
    faults = omega arith;
  };
  seen = refl;
  synced = λ file is. is;
}

pub calm_calm : (old mid new : DiskState) → Calm old mid → Calm mid new → Calm old new
calm_calm old mid new a b = record {
  passes = after_calm Same old mid new (λ t c le d. inr d) a.passes b.passes;
  seen = b.seen ∙ a.seen;
  synced = λ file is. b.synced file (a.synced file is);
}

-- a file is made after a call that changed nothing
pub calm_makes : (name : StateFile) (file : ℕ) (old mid new : DiskState) → IsDisk old → Calm old mid → Makes name file mid new → Makes name file old new
calm_makes name file old mid new disk a b = record {
  passes = after_calm (MayMake name file old.seen.names) old mid new
      (λ t c le d. inl (subst (λ (x : Stored). old.left_since t x) (sym d.2) (disk.counts_now t d.0 le d.1)))
      a.passes (subst (λ (x : Stored). Passes (MayMake name file x.names) mid new) a.seen b.passes);
  nameless = subst (λ (x : Stored). IsNameless file x.names) a.seen b.nameless;
  none = subst (λ (x : Stored). named name x.names ≡ None) a.seen b.none;
  names = subst (λ (x : Stored). new.seen.names ≡ with_named name file x.names) a.seen b.names;
  empty = b.empty;
  others = λ other not. subst (λ (x : Stored). new.seen.bytes other ≡ x.bytes other) a.seen (b.others other not);
  synced = λ other not is. b.synced other not (a.synced other is);
}

pub made_after : {M E : Type 0} (r : Result M E) (number : M → ℕ) (name : StateFile) (old mid new : DiskState) → IsDisk old → Calm old mid
    → MatchResult r (λ file. Makes name (number file) mid new) (λ _. Calm mid new) → MatchResult r (λ file. Makes name (number file) old new) (λ _. Calm old new)
made_after (Ok file) number name old mid new disk a made = calm_makes name (number file) old mid new disk a made
made_after (Err why) number name old mid new disk a calm = calm_calm old mid new a calm
