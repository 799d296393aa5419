-- Reading a report piece by piece: what a crash may leave stays as it was, and what is pushed is one
-- text.
use Rattle.std.proofs.Common.{◌≡◌, ◌⊎◌, inl, inr, ⊎_elim, ℕ, ◌+◌, ◌-◌, ◌^◌, ◌<◌, ◌≤◌, [], ◌++◌, length, take, drop, refl, sym, ◌∙◌, ap, subst, arith, length-append}
use Rattle.std.proofs.lemmas.List.{take_all, drop-drop, length-take-le, length-take, length-drop}
use Rattle.ocfl_state.specs.{Content.{Bytes, Content}, Crash.{Outcomes, Same, After, Passes}}
use Rattle.ocfl_state.specs.Calls.{IsReadOf}
use Rattle.ocfl_state.specs.Pieces.{no_pieces, CarriedFrom, Carries, Pushes, PushesPart}
use Rattle.ocfl_state.specs.declared.pieces.ReportDigests.{ReportDigests}
use Rattle.ocfl_state.proofs.PieceLaws.{take-more, pushes_nothing, pushes_both}

module _ {F : Type 0} (may_leave : F → Outcomes) (moment : F → ℕ) (left_since : F → ℕ → Outcomes) where
  pub passes_none : (a : F) → Passes may_leave moment left_since Same a a
  passes_none a = record {
    later = omega arith;
    now = λ c may. (c, may, refl);
    meanwhile = λ t c le since. inl since;
    keeps = λ t c le since. since;
  }

  pub passes_then : (a b z : F) → Passes may_leave moment left_since Same a b → Passes may_leave moment left_since Same b z → Passes may_leave moment left_since Same a z
  passes_then a b z first second = record {
    later = omega (arith, first.later, second.later);
    now = λ c may. back c (second.now c may);
    meanwhile = λ t c le since. ⊎_elim (λ before. first.meanwhile t c le before) (λ after. inr (back c after)) (second.meanwhile t c (omega (arith, le, first.later)) since);
    keeps = λ t c le since. second.keeps t c (omega (arith, le, first.later)) (first.keeps t c le since);
  }
    where
      back : (c : Content) → After Same (may_leave b) c → After Same (may_leave a) c
      back c (d, may, same) = let before = first.now d may in (before.0, before.1, same ∙ before.2)

pub pushes_none : (start : ℕ) (report : Bytes) (digests : ReportDigests) → PushesPart (take 0 (drop start report)) 0 digests digests
pushes_none start report digests = record { all = refl; pushed = pushes_nothing digests }

pub pushes_then : (first second : Bytes) (n m : ℕ) (a b c : ReportDigests) → PushesPart first n a b → PushesPart second m b c → PushesPart (first ++ second) (n + m) a c
pushes_then first second n m a b c one two = record {
  all = omega (arith, one.all, two.all, length-append first second);
  pushed = pushes_both first second a b c one.pushed two.pushed;
}

-- the bytes of a report from one offset up to another
abbrev pub part : Bytes → ℕ → ℕ → Bytes
part report start end = take (end - start) (drop start report)

-- up to here the bytes of a report are pushed
pub record IsPushing (report : Bytes) (start end reached : ℕ) (old new : ReportDigests) : Type 0 where
  pub begun : start ≤ reached
  pub within : (reached ≤ end) ⊎ (reached ≡ start)
  pub pushed : PushesPart (part report start reached) (reached - start) old new

pub pushing_begins : (report : Bytes) (start end : ℕ) (digests : ReportDigests) → IsPushing report start end start digests digests
pushing_begins report start end digests = record {
  begun = omega arith;
  within = inr refl;
  pushed = subst (λ n. PushesPart (take n (drop start report)) n digests digests) (sym none) (pushes_none start report digests);
}
  where
    none : start - start ≡ 0
    none = omega arith

pub pushing_goes_on : (report : Bytes) (start end reached count : ℕ) (a b c : ReportDigests) → reached < end → count ≤ end - reached
    → IsPushing report start end reached a b → PushesPart (take count (drop reached report)) count b c → IsPushing report start end (reached + count) a c
pushing_goes_on report start end reached count a b c more most before piece = record {
  begun = omega (arith, before.begun);
  within = inl (omega (arith, more, most));
  pushed = subst (λ (xs : Bytes). PushesPart xs (reached + count - start) a c) (sym joined)
      (subst (λ n. PushesPart (part report start reached ++ take count (drop reached report)) n a c) (omega (arith, before.begun))
      (pushes_then (part report start reached) (take count (drop reached report)) (reached - start) count a b c before.pushed piece));
}
  where
    so_many : reached + count - start ≡ (reached - start) + count
    so_many = omega (arith, before.begun)

    there : start + (reached - start) ≡ reached
    there = omega (arith, before.begun)

    joined : part report start (reached + count) ≡ part report start reached ++ take count (drop reached report)
    joined =
        ap (λ n. take n (drop start report)) so_many
        ∙ take-more (drop start report) (reached - start) count
        ∙ ap (λ (xs : Bytes). part report start reached ++ take count xs) (drop-drop (reached - start) start report ∙ ap (λ n. drop n report) there)

-- all up to the end is pushed
pub pushing_ends : (report : Bytes) (start end reached : ℕ) (a b : ReportDigests) → end ≤ reached
    → IsPushing report start end reached a b → PushesPart (part report start end) (reached - start) a b
pushing_ends report start end reached a b done before = subst (λ n. PushesPart (take n (drop start report)) (reached - start) a b) same before.pushed
  where
    same : reached - start ≡ end - start
    same = ⊎_elim (λ le. omega (arith, le, done)) (λ is. omega (arith, is, done)) before.within

-- the report has no more
pub pushing_stops : (report : Bytes) (start end reached : ℕ) (a b : ReportDigests) → reached < end → drop reached report ≡ []
    → IsPushing report start end reached a b → PushesPart (part report start end) (reached - start) a b
pushing_stops report start end reached a b more none before = subst (λ (xs : Bytes). PushesPart xs (reached - start) a b) same before.pushed
  where
    there : start + (reached - start) ≡ reached
    there = omega (arith, before.begun)

    short : length (drop start report) ≤ reached - start
    short = omega (arith, length-drop (reached - start) (drop start report), ap length (drop-drop (reached - start) start report ∙ ap (λ n. drop n report) there ∙ none))

    same : part report start reached ≡ part report start end
    same = take_all (reached - start) (drop start report) short ∙ sym (take_all (end - start) (drop start report) (omega (arith, short, more, before.begun)))

-- the same if the last read gave nothing
pub pushing_stops_at : (report : Bytes) (start end reached count : ℕ) (a b c : ReportDigests) → reached < end → count ≡ 0 → drop reached report ≡ []
    → IsPushing report start end reached a b → PushesPart (take count (drop reached report)) count b c → PushesPart (part report start end) (reached - start) a c
pushing_stops_at report start end reached count a b c more empty none before piece =
    pushing_stops report start end reached a c more none
    (subst (λ n. IsPushing report start end n a c) (omega (arith, empty))
    (pushing_goes_on report start end reached count a b c more (omega (arith, empty)) before piece))

-- what one read gave is pushed
pub part_pushed : (report : Bytes) (start count room : ℕ) (buffer : Bytes) (a b : ReportDigests) → count ≤ length buffer
    → IsReadOf report start (take count buffer) room → Pushes (take count buffer) a b → PushesPart (take count (drop start report)) count a b
part_pushed report start count room buffer a b within read pushes = record {
  all = sym long ∙ ap length same;
  pushed = subst (λ (xs : Bytes). Pushes xs a b) same pushes;
}
  where
    long : length (take count buffer) ≡ count
    long = length-take-le count buffer within

    same : take count buffer ≡ take count (drop start report)
    same = read.are ∙ ap (λ n. take n (drop start report)) long

pub whole_carried : (report now : Bytes) (end count : ℕ) (a b : ReportDigests) → now ≡ report → end ≡ length report → end < 2 ^ 64
    → CarriedFrom no_pieces 0 0 a [] → a.untailed ≤ end → PushesPart (take (end - 0) (drop 0 now)) count a b → Carries b report
whole_carried report now end count a b same all short carried tailed piece =
    let pushed = subst (λ (xs : Bytes). CarriedFrom no_pieces 0 0 b xs) is (piece.pushed.1 no_pieces 0 0 [] carried (omega (arith, short, length-take (end - 0) now)) (omega (arith, short, length-take (end - 0) now))) in
    (pushed, omega (arith, tailed, piece.pushed.0, pushed.bytes, all))
  where
    is : take (end - 0) now ≡ report
    is = ap (take (end - 0)) same ∙ take_all (end - 0) report (omega (arith, all))
