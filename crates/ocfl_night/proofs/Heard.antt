-- What an output heard.
use Rattle.std.proofs.Common.{◌≡◌, inr, inl, ◌≢◌, refl, ℕ, [], ◌∷◌, ◌++◌, ◌-◌, Option, Some, None, ap, take, drop, sym, ◌∙◌, subst, append_assoc, Result, Ok, Err, ◌≤◌, arith}
use Rattle.std.proofs.{KnownBytes.{Appends-kept, Appends-nil, Appends-trans}, lemmas.List.{append-nil}}
use Rattle.std.specs.{Result.{IsErr, IsErrAnd, IsOk, OnErr, OnOk}, Io.KnownBytes.{Appends, Keeps}}
use Rattle.ocfl_tree.specs.Place.{Text}
use Rattle.ocfl_night.specs.Looks.{Rounds}
use Rattle.ocfl_terms.specs.Output.{Grew, Grows, HasCommitted, HasTaken, Said}
use Rattle.ocfl_terms.proofs.Flushed.{grew_none}
use Rattle.ocfl_state.specs.{Checkpoint.{Checkpoint}, Content.{Content}}
use Rattle.ocfl_state.specs.declared.folder.StateFolder as state
use Rattle.ocfl_state.specs.Crash.{Outcomes, Only, Same, Passes, LeavesOnly}
use Rattle.ocfl_night.specs.Sound.{Stands, IsSoundAt, IsSound, AreSound, IsReady, IsHeard, IsHeardReady, IsFound, IsFoundReady, IsHeardSince, IsReadySince}
use Rattle.ocfl_night.specs.Steps.{MayCheckpoint, IsCheckpointPut, unsaid}
use Rattle.ocfl_night.proofs.Moments.{OnlyNow, leaves, unchanged, unmoved, leaves_weaker, joined_moments}
use Rattle.ocfl_night.proofs.Sound.{sound_holds, marked_put, ready_sound, ready_on, put_on}

pub grew_on : (s0 s1 s2 : Option Text) → Grew s0 s1 → Grew s1 s2 → Grew s0 s2
grew_on s0 s1 s2 a b = (a.0 ++ b.0, Appends-trans s0 s1 s2 a.0 b.0 a.1 b.1)

pub grows_none : (s : Said) → Grows s s
grows_none s = record { given = grew_none s.given; committed = grew_none s.committed; failures = omega arith }

pub grows_on : (s0 s1 s2 : Said) → Grows s0 s1 → Grows s1 s2 → Grows s0 s2
grows_on s0 s1 s2 a b = record {
  given = grew_on s0.given s1.given s2.given a.given b.given;
  committed = grew_on s0.committed s1.committed s2.committed a.committed b.committed;
  failures = omega (arith, a.failures, b.failures);
}

kept_grew : (a b : Option Text) → Keeps a b → Grew a b
kept_grew None b kept = ([], tt)
kept_grew (Some x) None kept = absurd kept
kept_grew (Some x) (Some y) kept = ([], kept ∙ sym (append-nil x))

pub gave_grows : (s0 s1 : Said) → Grew s0.given s1.given → Keeps s0.committed s1.committed → s0.failures ≤ s1.failures → Grows s0 s1
gave_grows s0 s1 grew kept later = record { given = grew; committed = kept_grew s0.committed s1.committed kept; failures = later }

pub committed_grows : (s0 s1 : Said) → Keeps s0.given s1.given → Grew s0.committed s1.committed → s0.failures ≤ s1.failures → Grows s0 s1
committed_grows s0 s1 kept grew later = record { given = kept_grew s0.given s1.given kept; committed = grew; failures = later }

-- what was not said, by a checkpoint's own values
pub unsaid_as : (k : Checkpoint) (c : Content) (from bytes : ℕ) → from ≡ k.said → bytes ≡ k.report.bytes → take (bytes - from) (drop from c.report) ≡ unsaid k c
unsaid_as k c from bytes one two = ap (λ (n : ℕ). take (n - from) (drop from c.report)) two ∙ ap (λ (n : ℕ). take (k.report.bytes - n) (drop n c.report)) one

-- a text was given, and all that was given was committed
pub has_committed : (text : Text) (s0 s1 s2 : Said) → Appends s0.given s1.given text → Keeps s1.given s2.given → s2.committed ≡ s2.given → HasCommitted text s0 s2
has_committed text s0 s1 s2 gave kept all = record { gave = Appends-kept s0.given s1.given s2.given text gave kept; all = all }

module _ {rounds : Rounds} {t : Text} {s0 s1 : Said} {c : Content} where
  pub not_more : IsSoundAt rounds t c → IsHeard rounds t s0 s1 c
  not_more sound = record {
    more = [];
    sound = subst (λ (x : Text). IsSoundAt rounds x c) (sym (append-nil t)) sound;
    took = λ some. absurd (some refl);
  }

  all_more : (more : Text) → IsSoundAt rounds (t ++ more) c → Appends s0.given s1.given more → (more ≢ [] → s1.committed ≡ s1.given) → IsHeard rounds t s0 s1 c
  all_more more sound given all = record {
    more = more;
    sound = sound;
    took = λ some. ([], subst (Appends s0.given s1.committed) (sym (append-nil more)) (subst (λ (o : Option Text). Appends s0.given o more) (sym (all some)) given));
  }

taken_longer : (more : Text) (s0 s1 s2 : Said) → Grew s1.committed s2.committed → HasTaken more s0 s1 → HasTaken more s0 s2
taken_longer more s0 s1 s2 grew h =
    (h.0 ++ grew.0, subst (Appends s0.given s2.committed) (append_assoc more h.0 grew.0) (Appends-trans s0.given s1.committed s2.committed (more ++ h.0) grew.0 h.1 grew.1))

-- what was given and committed, and then more
taken_on : (a more : Text) (s0 s1 s2 : Said) → Appends s0.given s1.given a → (a ≢ [] → s1.committed ≡ s1.given) → Grew s1.committed s2.committed → (more ≢ [] → HasTaken more s1 s2) → a ++ more ≢ [] → HasTaken (a ++ more) s0 s2
taken_on a [] s0 s1 s2 given all grew then some =
    let committed : Appends s0.given s1.committed a = subst (λ (o : Option Text). Appends s0.given o a) (sym (all (λ is. some (append-nil a ∙ is)))) given in
    (grew.0, subst (λ (l : Text). Appends s0.given s2.committed (l ++ grew.0)) (sym (append-nil a)) (Appends-trans s0.given s1.committed s2.committed a grew.0 committed grew.1))
taken_on a (x ∷ more) s0 s1 s2 given all grew then some =
    let h = then (λ is. cc is) in
    (h.0, subst (Appends s0.given s2.committed) (sym (append_assoc a (x ∷ more) h.0)) (Appends-trans s0.given s1.given s2.committed a ((x ∷ more) ++ h.0) given h.1))

module _ {rounds : Rounds} {t : Text} {s0 s1 s2 : Said} {c : Content} where
  heard_longer : Grows s1 s2 → IsHeard rounds t s0 s1 c → IsHeard rounds t s0 s2 c
  heard_longer grew h = record { more = h.more; sound = h.sound; took = λ some. taken_longer h.more s0 s1 s2 grew.committed (h.took some) }

  heard_on : (a : Text) → Appends s0.given s1.given a → (a ≢ [] → s1.committed ≡ s1.given) → Grows s1 s2 → IsHeard rounds (t ++ a) s1 s2 c → IsHeard rounds t s0 s2 c
  heard_on a given all grew h = record {
    more = a ++ h.more;
    sound = subst (λ (x : Text). IsSoundAt rounds x c) (append_assoc t a h.more) h.sound;
    took = taken_on a h.more s0 s1 s2 given all grew.committed h.took;
  }

pub same_ready : {F : Type 0} {S : state.Ghosts F} {rounds : Rounds} {t : Text} {s : Said} {k : Checkpoint} {f : F} → IsReady S rounds t k f → IsHeardReady S rounds t s s k f
same_ready {S = S} {rounds} {t} {s} {k} {f} r = record {
  more = [];
  ready = subst (λ (x : Text). IsReady S rounds x k f) (sym (append-nil t)) r;
  given = Appends-nil s.given;
  all = λ some. absurd (some refl);
}

-- nothing was said
pub silent : {F : Type 0} {moment : F → ℕ} {left_since : F → ℕ → Outcomes} {rounds : Rounds} {t : Text} {s0 s1 : Said} {f g : F} → LeavesOnly moment left_since f g (IsSoundAt rounds t) → LeavesOnly moment left_since f g (IsHeard rounds t s0 s1)
silent p = leaves_weaker (λ c is. not_more is) p

-- something was said, and then no more
pub said_on : {F : Type 0} {S : state.Ghosts F} {rounds : Rounds} {t : Text} {s0 s1 : Said} {k : Checkpoint} {f g h : F} (said : IsHeardReady S rounds t s0 s1 k g)
    → LeavesOnly S.moment S.left_since f g (IsHeard rounds t s0 s1) → LeavesOnly S.moment S.left_since g h (IsSoundAt rounds (t ++ said.more)) → LeavesOnly S.moment S.left_since f h (IsHeard rounds t s0 s1)
said_on said p q = joined_moments p (leaves_weaker (λ c is. all_more said.more is said.given said.all) q)

-- all that a checkpoint did not say yet is said
module _ {F : Type 0} {S : state.Ghosts F} {rounds : Rounds} {t : Text} {k next : Checkpoint} {s0 s1 : Said} {f g h : F}
    (r : IsReady S rounds t k f) (gave : HasCommitted (unsaid k (S.seen f)) s0 s1) (p : Passes S.may_leave S.moment S.left_since Same f g) (same : S.seen g ≡ S.seen f)
    (stands : Stands rounds (t ++ unsaid k (S.seen f)) next (S.seen f)) where
  -- a checkpoint is put, and says so
  pub heard_put : OnlyNow S.may_leave S.moment S.left_since → Passes S.may_leave S.moment S.left_since (MayCheckpoint next) g h → LeavesOnly S.moment S.left_since f h (IsHeard rounds t s0 s1)
  heard_put only_now q =
      let there = ready_on r same p in
      joined_moments
      (silent (unchanged only_now (ready_sound r) p))
      (leaves only_now (λ c n. not_more (ready_sound there c n)) (λ d c n mark. put d c (there.only d n) (not_more (ready_sound there d n)) mark) q)
    where
      put : (d c : Content) → d ≡ S.seen g → IsHeard rounds t s0 s1 d → MayCheckpoint next d c → IsHeard rounds t s0 s1 c
      put d c at old (inl is) = subst (IsHeard rounds t s0 s1) (sym is) old
      put d c at old (inr (bytes, (text, is))) = all_more (unsaid k (S.seen f)) (sound_holds (marked_put (subst (Stands rounds (t ++ unsaid k (S.seen f)) next) (sym (at ∙ same)) stands) (record { bytes = bytes; text = text; put = is }))) gave.gave (λ some. gave.all)

  pub put_heard : IsCheckpointPut next (S.seen g) (S.seen h) → next.report.bytes ≡ k.report.bytes → next.phase ≡ k.phase → Only (S.seen h) (S.may_leave h) → IsHeardReady S rounds t s0 s1 next h
  put_heard put bytes phase only = record {
    more = unsaid k (S.seen f);
    ready = put_on (ready_on r same p) (subst (Stands rounds (t ++ unsaid k (S.seen f)) next) (sym same) stands) put bytes phase only;
    given = gave.gave;
    all = λ some. gave.all;
  }

-- ---- since a night began

module _ {rounds : Rounds} {outcomes : Outcomes} {kept : AreSound rounds outcomes} {s0 s1 : Said} {c : Content} where
  pub found_heard : IsFound rounds outcomes kept c → IsHeardSince rounds outcomes kept s0 s1 c
  found_heard h = record { from = h.from; was = h.was; heard = not_more h.now }

  pub since_longer : {s2 : Said} → Grows s1 s2 → IsHeardSince rounds outcomes kept s0 s1 c → IsHeardSince rounds outcomes kept s0 s2 c
  since_longer grew h = record { from = h.from; was = h.was; heard = heard_longer grew h.heard }

  pub since_sound : IsHeardSince rounds outcomes kept s0 s1 c → IsSound rounds c
  since_sound h = ((kept h.from h.was).0 ++ h.heard.more, h.heard.sound)

  module _ {F : Type 0} {S : state.Ghosts F} {k : Checkpoint} {f : F} where
    pub since_found : (r : IsFoundReady S rounds outcomes kept k f) → IsHeard rounds (kept r.from r.was).0 s0 s1 c → IsHeardSince rounds outcomes kept s0 s1 c
    since_found r h = record { from = r.from; was = r.was; heard = h }

    pub since_ready : {s2 : Said} (r : IsReadySince S rounds outcomes kept s0 s1 k f) → Grows s1 s2 → IsHeard rounds ((kept r.from r.was).0 ++ r.heard.more) s1 s2 c → IsHeardSince rounds outcomes kept s0 s2 c
    since_ready r grew h = record { from = r.from; was = r.was; heard = heard_on r.heard.more r.heard.given r.heard.all grew h }

-- of a part that is known by two names
module _ {F : Type 0} {S : state.Ghosts F} {outcomes : Outcomes} {s0 s1 : Said} {k : Checkpoint} {a : F} {rounds given : Rounds} {kept : AreSound rounds outcomes} (same : given ≡ rounds) (r : IsReadySince S rounds outcomes kept s0 s1 k a) where
  -- all that was said
  abbrev pub said_since : Text
  said_since = (kept r.from r.was).0 ++ r.heard.more

  pub ready_since : IsReady S given said_since k a
  ready_since = subst (λ (p : Rounds). IsReady S p said_since k a) (sym same) r.heard.ready

  pub heard_through : {moment : F → ℕ} {left_since : F → ℕ → Outcomes} {s2 : Said} {f b : F} → LeavesOnly moment left_since f a (IsHeardSince rounds outcomes kept s0 s1) → Grows s1 s2
      → LeavesOnly moment left_since a b (IsHeard given said_since s1 s2) → LeavesOnly moment left_since f b (IsHeardSince rounds outcomes kept s0 s2)
  heard_through {s2 = s2} p grew q =
      joined_moments
      (leaves_weaker (λ c h. since_longer grew h) p)
      (leaves_weaker (λ c h. since_ready r grew (subst (λ (p : Rounds). IsHeard p said_since s1 s2 c) same h)) q)

pub kept_found : {rounds : Rounds} {outcomes : Outcomes} {c : Content} (kept : AreSound rounds outcomes) → outcomes c → IsFound rounds outcomes kept c
kept_found {c = c} kept was = record { from = c; was = was; now = (kept c was).1 }

-- nothing is called, and nothing was said
pub begun_heard : {F : Type 0} {may_leave : F → Outcomes} {moment : F → ℕ} {left_since : F → ℕ → Outcomes} {rounds : Rounds} {s : Said} {f : F} → OnlyNow may_leave moment left_since
    → (kept : AreSound rounds (may_leave f)) → LeavesOnly moment left_since f f (IsHeardSince rounds (may_leave f) kept s s)
begun_heard only_now kept = unmoved only_now (λ c n. found_heard (kept_found kept n))

-- what holds if there is a value, if there is one
pub on_ok : {T E P : Type 0} (r : Result T E) → IsOk r → OnOk r P → P
on_ok (Ok x) ok p = p
on_ok (Err e) ok p = absurd (cc ok)

-- and what holds is what holds if there is none
pub on_err : {T E P : Type 0} (r : Result T E) → P → OnErr r P
on_err (Ok x) p = tt
on_err (Err e) p = p

pub ok_inj : {T E : Type 0} (x y : T) (r : Result T E) → r ≡ Ok x → r ≡ Ok y → x ≡ y
ok_inj x y r a b = cc (a, b)

-- what the exit of a `?` returns is no value
pub is_err : {T E : Type 0} (Q : E → Type 0) (r : Result T E) → IsErrAnd r Q → IsErr r
is_err Q (Ok x) h = absurd h
is_err Q (Err e) h = refl
