-- What a cut may leave of joined reports, over the calls of a disk.
use Rattle.std.proofs.Common.{◌≡◌, ◌⊎◌, inl, inr, ℕ, ◌≤◌, Bool, IsTrue, List, [], ◌∷◌, ◌++◌, Option, Some, refl, sym, ap, subst, ◌∙◌, arith}
use Rattle.std.specs.Option.{option_map}
use Rattle.ocfl_disk.specs.Names.{Names, Stored, closed_names}
use Rattle.ocfl_disk.specs.PowerCut.{Change, DiskState, IsDisk, MayCloseOver, MayMake, MayTear, Passes, After as DiskAfter, Same as DiskSame}
use Rattle.ocfl_disk.specs.Disk.{Calm, ClosesOver, Makes, Writes}
use Rattle.ocfl_disk.specs.declared.state_file.StateFile.TheVariants.{Report}
use Rattle.ocfl_joining.specs.{Crash.{Step, Same, MayPut, After, Passes as CrashPasses}, Reports.{Put}}
use Rattle.ocfl_join_disk.specs.Shown.{HadLeft, MayLeave, joined_in, joined_of, made_of}
use Rattle.ocfl_join_disk.specs.Internal.Making.{PutsPass}
use Rattle.ocfl_join_disk.proofs.Joined.{IsAt, more_of, same_of}

-- ---- one call

module _ (cycle : ℕ) (change : Change) (step : Step) (old new : DiskState) (p : Passes change old new) (by : (d c : Stored) → old.may_leave d → change d c → step (joined_in cycle d) (joined_in cycle c)) where
  back : (puts : List Put) (c : Stored) → puts ≡ joined_in cycle c → DiskAfter change old.may_leave c → After step (MayLeave old (joined_in cycle)) puts
  back puts c e h = (joined_in cycle h.0, (h.0, (h.1, refl)), subst (step (joined_in cycle h.0)) (sym e) (by h.0 c h.1 h.2))

  pub puts_by : PutsPass cycle step old new
  puts_by = record {
    later = p.later;
    now = λ puts m. back puts m.0 m.1.1 (p.now m.0 m.1.0);
    meanwhile = λ t puts le m. from t puts m.0 m.1.1 (p.meanwhile t m.0 le m.1.0);
    keeps = λ t puts le m. (m.0, (p.keeps t m.0 le m.1.0, m.1.1));
  }
    where
      from : (t : ℕ) (puts : List Put) (c : Stored) → puts ≡ joined_in cycle c → old.left_since t c ⊎ DiskAfter change old.may_leave c → HadLeft old (joined_in cycle) t puts ⊎ After step (MayLeave old (joined_in cycle)) puts
      from t puts c e (inl m) = inl (c, (m, e))
      from t puts c e (inr h) = inr (back puts c e h)

pub calm_puts : (cycle : ℕ) (old new : DiskState) → Calm old new → PutsPass cycle Same old new
calm_puts cycle old new calm = puts_by cycle DiskSame Same old new calm.passes (λ d c left e. ap (joined_in cycle) e)

pub made_puts : (cycle file : ℕ) (old new : DiskState) → Makes Report file old new → PutsPass cycle Same old new
made_puts cycle file old new makes = puts_by cycle (MayMake Report file old.seen.names) Same old new makes.passes same
  where
    names_of : (d c : Stored) → MayMake Report file old.seen.names d c → c.names.closed ≡ d.names.closed
    names_of d c m = of m.names
      where
        of : (c.names ≡ d.names) ⊎ ((d.names.report ≡ old.seen.names.report) × (c.names ≡ record d.names { report = Some file })) → c.names.closed ≡ d.names.closed
        of (inl e) = ap (λ (n : Names). n.closed) e
        of (inr e) = ap (λ (n : Names). n.closed) e.1

    same : (d c : Stored) → old.may_leave d → MayMake Report file old.seen.names d c → joined_in cycle c ≡ joined_in cycle d
    same d c left m =
        ap (λ names. joined_of cycle c.bytes names) (names_of d c m)
        ∙ same_of cycle file d.bytes c.bytes d.names.closed m.nameless.apart.closed m.others

pub written_puts : (cycle file n most : ℕ) (old new : DiskState) → IsDisk old → old.seen.names.report ≡ Some file → Writes file n most old new → PutsPass cycle Same old new
written_puts cycle file n most old new disk is writes = puts_by cycle (MayTear file n most) Same old new writes.passes same
  where
    same : (d c : Stored) → old.may_leave d → MayTear file n most d c → joined_in cycle c ≡ joined_in cycle d
    same d c left m =
        ap (λ (names : Names). joined_of cycle c.bytes names.closed) m.names
        ∙ same_of cycle file d.bytes c.bytes d.names.closed (disk.report file d is left).closed m.others

closes_puts : (cycle file : ℕ) (whole : Bool) (old new : DiskState) → IsDisk old → old.seen.names.report ≡ Some file → IsTrue (old.is_synced file) → ClosesOver cycle whole old new
    → PutsPass cycle (MayPut (record { whole = whole; bytes = old.seen.bytes file })) old new
closes_puts cycle file whole old new disk is synced closes = puts_by cycle (MayCloseOver cycle whole old.seen.names) (MayPut (record { whole = whole; bytes = old.seen.bytes file })) old new closes.passes may
  where
    may : (d c : Stored) → old.may_leave d → MayCloseOver cycle whole old.seen.names d c → MayPut (record { whole = whole; bytes = old.seen.bytes file }) (joined_in cycle d) (joined_in cycle c)
    may d c left (inl e) = inl (ap (joined_in cycle) e)
    may d c left (inr e) = inr (
        ap (joined_in cycle) e.1
        ∙ ap (λ n. joined_of cycle d.bytes (closed_names cycle whole n d.names.closed)) (e.0 ∙ is)
        ∙ more_of cycle whole file d.bytes d.names.closed
        ∙ ap (λ b. joined_in cycle d ++ (record { whole = whole; bytes = b }) ∷ []) (disk.bytes file d synced left))

-- ---- several calls

puts_then : (cycle : ℕ) (first then step : Step) → ((x y : List Put) → first x y → step x y) → ((x y z : List Put) → first x y → then y z → step x z)
    → (a b c : DiskState) → PutsPass cycle first a b → PutsPass cycle then b c → PutsPass cycle step a c
puts_then cycle first then step alone both a b c p q = record {
  later = let one = p.later in let two = q.later in omega (arith, one, two);
  now = λ k m. through k (q.now k m);
  meanwhile = λ t k l m. from t k l (q.meanwhile t k (let one = p.later in omega (arith, one, l)) m);
  keeps = λ t k l m. q.keeps t k (let one = p.later in omega (arith, one, l)) (p.keeps t k l m);
}
  where
    through : (k : List Put) → After then (MayLeave b (joined_in cycle)) k → After step (MayLeave a (joined_in cycle)) k
    through k h = let e = p.now h.0 h.1 in (e.0, e.1, both e.0 h.0 k e.2 h.2)

    earlier : (t : ℕ) (k : List Put) → HadLeft a (joined_in cycle) t k ⊎ After first (MayLeave a (joined_in cycle)) k → HadLeft a (joined_in cycle) t k ⊎ After step (MayLeave a (joined_in cycle)) k
    earlier t k (inl m) = inl m
    earlier t k (inr h) = inr (h.0, h.1, alone h.0 k h.2)

    from : (t : ℕ) (k : List Put) → t ≤ a.moment → HadLeft b (joined_in cycle) t k ⊎ After then (MayLeave b (joined_in cycle)) k → HadLeft a (joined_in cycle) t k ⊎ After step (MayLeave a (joined_in cycle)) k
    from t k l (inl m) = earlier t k (p.meanwhile t k l m)
    from t k l (inr h) = inr (through k h)

pub puts_none : (cycle : ℕ) (a : DiskState) → PutsPass cycle Same a a
puts_none cycle a = record { later = omega arith; now = λ k m. (k, m, refl); meanwhile = λ t k l m. inl m; keeps = λ t k l m. m }

puts_same_then : (cycle : ℕ) (step : Step) → ((k : List Put) → step k k) → (a b c : DiskState) → PutsPass cycle Same a b → PutsPass cycle step b c → PutsPass cycle step a c
puts_same_then cycle step whatever a b c p q = puts_then cycle Same step step (λ x y e. subst (step x) (sym e) (whatever x)) (λ x y z e s. subst (λ d. step d z) e s) a b c p q

puts_then_same : (cycle : ℕ) (step : Step) → (a b c : DiskState) → PutsPass cycle step a b → PutsPass cycle Same b c → PutsPass cycle step a c
puts_then_same cycle step a b c p q = puts_then cycle step Same step (λ x y s. s) (λ x y z s e. subst (step x) (sym e) s) a b c p q

pub two_calm : (cycle : ℕ) (a b c : DiskState) → PutsPass cycle Same a b → PutsPass cycle Same b c → PutsPass cycle Same a c
two_calm cycle a b c p q = puts_same_then cycle Same (λ k. refl) a b c p q

-- nothing is put, where something might be
pub none_put : (cycle : ℕ) (joined : Put) (a b : DiskState) → PutsPass cycle Same a b → PutsPass cycle (MayPut joined) a b
none_put cycle joined a b p = puts_then_same cycle (MayPut joined) a a b (puts_then cycle Same Same (MayPut joined) (λ x y e. inl e) (λ x y z e f. inl (f ∙ e)) a a a (puts_none cycle a) (puts_none cycle a)) p

abbrev joined_with : {M : Type 0} (number : M → ℕ) (whole : Bool) (made : Option M) (old : DiskState) → Put
joined_with number whole made old = record { whole = whole; bytes = made_of old.seen.bytes (option_map number made) }

-- calls that change nothing, and then what was made may get its name
pub named_puts : {M : Type 0} (number : M → ℕ) (cycle same : ℕ) (whole : Bool) (made : Option M) (old mid late new : DiskState) → same ≡ cycle → Calm old mid → Calm mid late → IsAt number made mid → IsDisk late
    → ((file : ℕ) → mid.seen.names.report ≡ Some file → IsTrue (mid.is_synced file)) → Calm late new ⊎ ClosesOver same whole late new
    → PutsPass cycle (MayPut (record { whole = whole; bytes = made_of old.seen.bytes (option_map number made) })) old new
named_puts number cycle same whole made old mid late new is first second at disk synced may =
    puts_same_then cycle (MayPut (joined_with number whole made old)) (λ k. inl refl) old late new (two_calm cycle old mid late (calm_puts cycle old mid first) (calm_puts cycle mid late second)) (by may)
  where
    bytes_are : late.seen.bytes (number at.0) ≡ made_of old.seen.bytes (option_map number made)
    bytes_are = ap (λ (s : Stored). s.bytes (number at.0)) (second.seen ∙ first.seen) ∙ ap (λ m. made_of old.seen.bytes (option_map number m)) (sym at.1.0)

    by : Calm late new ⊎ ClosesOver same whole late new → PutsPass cycle (MayPut (joined_with number whole made old)) late new
    by (inl calm) = none_put cycle (joined_with number whole made old) late new (calm_puts cycle late new calm)
    by (inr closes) =
        subst (λ (b : List ℕ). PutsPass cycle (MayPut (record { whole = whole; bytes = b })) late new) bytes_are
        (closes_puts cycle (number at.0) whole late new disk (ap (λ (s : Stored). s.names.report) second.seen ∙ at.1.1) (second.synced (number at.0) (synced (number at.0) at.1.1))
        (subst (λ (n : ℕ). ClosesOver n whole late new) is closes))

pub named_puts_then : (cycle : ℕ) (joined : Put) (a b c : DiskState) → PutsPass cycle (MayPut joined) a b → Calm b c → PutsPass cycle (MayPut joined) a c
named_puts_then cycle joined a b c p calm = puts_then_same cycle (MayPut joined) a b c p (calm_puts cycle b c calm)

pub same_puts_then : (cycle : ℕ) (joined : Put) (a b c : DiskState) → PutsPass cycle Same a b → PutsPass cycle (MayPut joined) b c → PutsPass cycle (MayPut joined) a c
same_puts_then cycle joined a b c p q = puts_same_then cycle (MayPut joined) (λ k. inl refl) a b c p q

-- ---- reports on a disk

pub passes_by : {F : Type 0} (state : F → DiskState) (cycle : F → ℕ) (step : Step) (a b : F) → cycle b ≡ cycle a → PutsPass (cycle a) step (state a) (state b)
    → CrashPasses (λ f. MayLeave (state f) (joined_in (cycle f))) (λ f. (state f).moment) (λ f. HadLeft (state f) (joined_in (cycle f))) step a b
passes_by state cycle step a b e p = record {
  later = p.later;
  now = λ k m. p.now k (subst (λ n. MayLeave (state b) (joined_in n) k) e m);
  meanwhile = λ t k le m. p.meanwhile t k le (subst (λ n. HadLeft (state b) (joined_in n) t k) e m);
  keeps = λ t k le m. subst (λ n. HadLeft (state b) (joined_in n) t k) (sym e) (p.keeps t k le m);
}
