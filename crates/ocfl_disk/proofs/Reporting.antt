-- Appending to the report, cutting it, and closing it.
use Rattle.std.proofs.Common.{◌≡◌, ◌⊎◌, inl, inr, ℕ, zero, suc, Bool, true, false, ◌||◌, ◌&&◌, ◌==◌, not, List, [], ◌∷◌, ◌++◌, take, Option, Some, None, refl, sym, ◌∙◌, subst, ap}
use Rattle.std.specs.Prelude.{IsSome, IfOk, OnOk, Result, Ok, Err, if◌then◌else◌}
use Rattle.ocfl_state.specs.Content.{Bytes, Content, with_report, moved, is_closed}
use Rattle.ocfl_state.specs.Crash.{Same, IsMoved, MayMove, MayTear as MayTearContent}
use Rattle.ocfl_state.proofs.Images.{not_torn}
use Rattle.ocfl_disk.specs.Names.{ClosedName, Names, Stored, report_of, closed_of, closed_names, close_over, content_of, IsNoClosed}
use Rattle.ocfl_disk.specs.PowerCut.{DiskState, Passes, MayTear, MayCloseOver, IsDisk}
use Rattle.ocfl_disk.specs.Disk.{Calm, Writes, ClosesOver, has_name}
use Rattle.ocfl_disk.specs.Internal.Contents.{OfContent, Still, FollowsContent}
use Rattle.ocfl_disk.proofs.Passing.{passes_then, passes_as}
use Rattle.ocfl_disk.proofs.ContentSteps.{tear_report, written_report, close_is, may_close_over}
use Rattle.ocfl_disk.proofs.Quiets.{still_then, still_of_calm}

pub on_ok : {T E : Type 0} (r : Result T E) (P Q : Type 0) → (P → Q) → OnOk r P → OnOk r Q
on_ok (Ok v) P Q f p = f p
on_ok (Err e) P Q f p = tt

-- what the report was before calls that changed no content
pub report_was : (file : ℕ) (old mid : DiskState) → Still old mid → mid.seen.names.report ≡ Some file → mid.seen.bytes file ≡ report_of old.seen.bytes old.seen.names.report
report_was file old mid still is = ap (report_of mid.seen.bytes) (sym is) ∙ ap (λ (c : Content). c.report) still.seen

pub report_is : (file : ℕ) (bytes : Bytes) (n most : ℕ) (old mid new : DiskState) → Still old mid → IsDisk mid → mid.seen.names.report ≡ Some file
    → Writes file n most mid new → new.seen.bytes file ≡ bytes → content_of new.seen ≡ with_report bytes (content_of old.seen)
report_is file bytes n most old mid new still disk is writes now =
    written_report file mid.seen new.seen writes.names writes.others (disk.report file mid.seen is disk.stays) is
    ∙ ap (λ (b : Bytes). with_report b (content_of mid.seen)) now
    ∙ ap (with_report bytes) still.seen

pub tear_passes : (file n most : ℕ) (old mid new : DiskState) → Still old mid → IsDisk mid → mid.seen.names.report ≡ Some file
    → Writes file n most mid new → Passes (OfContent (MayTearContent n most)) old new
tear_passes file n most old mid new still disk is writes = passes_then (OfContent Same) (MayTear file n most) (OfContent (MayTearContent n most)) old mid new still.passes writes.passes
    (λ d c left same. subst (λ (x : Content). MayTearContent n most (content_of d) x) (sym same) (not_torn n most (content_of d)))
    (λ d e c left mid_left same torn. subst (λ (x : Content). MayTearContent n most x (content_of c)) same (tear_report file n most e c torn (disk.report file e is mid_left)))

pub still_tears : (n most : ℕ) (old new : DiskState) → Still old new → Passes (OfContent (MayTearContent n most)) old new
still_tears n most old new still = passes_as (OfContent Same) (OfContent (MayTearContent n most)) old new still.passes
    (λ d c left same. subst (λ (x : Content). MayTearContent n most (content_of d) x) (sym same) (not_torn n most (content_of d)))

-- the report may be closed, after calls that changed no content
pub close_passes : (cycle : ℕ) (whole : Bool) (old mid new : DiskState) → Still old mid → IsSome mid.seen.names.report → Calm mid new ⊎ ClosesOver cycle whole mid new
    → Passes (OfContent (MayMove cycle whole)) old new
close_passes cycle whole old mid new still some (inl calm) = passes_as (OfContent Same) (OfContent (MayMove cycle whole)) old new (still_then old mid new still (still_of_calm mid new calm)).passes (λ d c left same. inl same)
close_passes cycle whole old mid new still some (inr closes) = by mid.seen.names.report refl some
  where
    by : (name : Option ℕ) → mid.seen.names.report ≡ name → IsSome name → Passes (OfContent (MayMove cycle whole)) old new
    by None is none = absurd cc
    by (Some file) is one = passes_then (OfContent Same) (MayCloseOver cycle whole mid.seen.names) (OfContent (MayMove cycle whole)) old mid new still.passes closes.passes
        (λ d c left same. inl same)
        (λ d e c left mid_left same closed. subst (λ (x : Content). MayMove cycle whole x (content_of c)) same (may_close_over cycle whole file mid.seen.names e c is closed))

pub close_seen : (cycle : ℕ) (whole : Bool) (old mid new : DiskState) → Still old mid → IsSome mid.seen.names.report → ClosesOver cycle whole mid new
    → content_of new.seen ≡ moved cycle whole (content_of old.seen)
close_seen cycle whole old mid new still some closes = by mid.seen.names.report refl some
  where
    by : (name : Option ℕ) → mid.seen.names.report ≡ name → IsSome name → content_of new.seen ≡ moved cycle whole (content_of old.seen)
    by None is none = absurd cc
    by (Some file) is one = ap content_of closes.seen ∙ close_is cycle whole file mid.seen is ∙ ap (moved cycle whole) still.seen

last_is_closed : (file cycle : ℕ) (whole : Bool) (names : List ClosedName) → IsNoClosed file (names ++ (record { cycle = cycle; whole = whole; file = file }) ∷ []) → ⊥
last_is_closed file cycle whole [] apart = apart.0 refl
last_is_closed file cycle whole (name ∷ names) apart = last_is_closed file cycle whole names apart.1

-- of a report that is closed, with both folders on the disk, no cut leaves it open
pub close_durable : (cycle : ℕ) (whole : Bool) (old mid closed new : DiskState) → Still old mid → IsDisk mid → IsSome mid.seen.names.report → ClosesOver cycle whole mid closed → Calm closed new
    → ((c : Stored) → new.may_leave c → c.names ≡ new.seen.names) → FollowsContent (IsMoved cycle whole) old new
close_durable cycle whole old mid closed new still disk some closes calm durable c left = by mid.seen.names.report refl some
  where
    by : (name : Option ℕ) → mid.seen.names.report ≡ name → IsSome name → (d : Stored) × old.may_leave d × IsMoved cycle whole (content_of d) (content_of c)
    by None is none = absurd cc
    by (Some file) is one = at (closes.passes.now e.0 e.1)
      where
        e : (d : Stored) × closed.may_leave d × (c ≡ d)
        e = calm.passes.now c left

        -- the names that reads show
        shown : c.names ≡ (close_over cycle whole mid.seen).names
        shown = durable c left ∙ ap (λ (s : Stored). s.names) (calm.seen ∙ closes.seen)

        more : (close_over cycle whole mid.seen).names.closed ≡ mid.seen.names.closed ++ (record { cycle = cycle; whole = whole; file = file }) ∷ []
        more = ap (λ (n : Option ℕ). closed_names cycle whole n mid.seen.names.closed) is

        at : (d : Stored) × mid.may_leave d × MayCloseOver cycle whole mid.seen.names d e.0 → (d : Stored) × old.may_leave d × IsMoved cycle whole (content_of d) (content_of c)
        at d = next_step d.2 (still.passes.now d.0 d.1)
          where
            next_step : MayCloseOver cycle whole mid.seen.names d.0 e.0 → (b : Stored) × old.may_leave b × (content_of d.0 ≡ content_of b) → (d : Stored) × old.may_leave d × IsMoved cycle whole (content_of d) (content_of c)
            next_step (inl same) b = absurd (last_is_closed file cycle whole mid.seen.names.closed
                (subst (IsNoClosed file) (ap (λ (s : Stored). s.names.closed) (sym same ∙ sym e.2) ∙ ap (λ (n : Names). n.closed) shown ∙ more) (disk.report file d.0 is d.1).closed))
            next_step (inr over) b = (b.0, b.1, ap content_of (e.2 ∙ over.1) ∙ close_is cycle whole file d.0 (over.0 ∙ is) ∙ ap (moved cycle whole) b.2)

-- whether a closed report is there
either_name : (same w t f rest : Bool) → rest ≡ (t || f)
    → (same || rest) ≡ (((same && (if true then w else not w)) || t) || ((same && (if false then w else not w)) || f))
either_name false w t f rest is = is
either_name true true t f rest is = refl
either_name true false true f rest is = refl
either_name true false false f rest is = refl

pub closed_has : (bytes : ℕ → Bytes) (names : List ClosedName) (cycle : ℕ) → is_closed (closed_of bytes names) cycle ≡ (has_name cycle true names || has_name cycle false names)
closed_has bytes [] cycle = refl
closed_has bytes (name ∷ names) cycle = either_name (name.cycle == cycle) name.whole (has_name cycle true names) (has_name cycle false names) (is_closed (closed_of bytes names) cycle) (closed_has bytes names cycle)

neither : (t f : Bool) → (t || f) ≡ false → (t ≡ false) × (f ≡ false)
neither true f is = absurd cc
neither false f is = (refl, is)

pub no_name : (bytes : ℕ → Bytes) (names : List ClosedName) (cycle : ℕ) (whole : Bool) → is_closed (closed_of bytes names) cycle ≡ false → has_name cycle whole names ≡ false
no_name bytes names cycle true none = (neither (has_name cycle true names) (has_name cycle false names) (sym (closed_has bytes names cycle) ∙ none)).0
no_name bytes names cycle false none = (neither (has_name cycle true names) (has_name cycle false names) (sym (closed_has bytes names cycle) ∙ none)).1

pub no_name_after : (cycle : ℕ) (whole : Bool) (old new : DiskState) → Still old new → is_closed (content_of old.seen).closed cycle ≡ false → has_name cycle whole new.seen.names.closed ≡ false
no_name_after cycle whole old new still none = ap (has_name cycle whole) still.closed ∙ no_name old.seen.bytes old.seen.names.closed cycle whole none

pub closed_if_whole : (cycle : ℕ) (old new : DiskState) → Calm old new → has_name cycle true new.seen.names.closed ≡ true → true ≡ is_closed (content_of old.seen).closed cycle
closed_if_whole cycle old new calm is = sym (closed_has old.seen.bytes old.seen.names.closed cycle
    ∙ ap (λ (b : Bool). b || has_name cycle false old.seen.names.closed) (sym (ap (λ (s : Stored). has_name cycle true s.names.closed) calm.seen) ∙ is))

pub closed_if_either : {E : Type 0} (cycle : ℕ) (old mid new : DiskState) → Calm old mid → Calm mid new → has_name cycle true mid.seen.names.closed ≡ false
    → (r : Result Bool E) → IfOk r (λ answer. answer ≡ has_name cycle false new.seen.names.closed) → IfOk r (λ answer. answer ≡ is_closed (content_of old.seen).closed cycle)
closed_if_either cycle old mid new first second away (Ok answer) is = is
    ∙ ap (λ (s : Stored). has_name cycle false s.names.closed) (second.seen ∙ first.seen)
    ∙ sym (closed_has old.seen.bytes old.seen.names.closed cycle ∙ ap (λ (b : Bool). b || has_name cycle false old.seen.names.closed) (sym (ap (λ (s : Stored). has_name cycle true s.names.closed) first.seen) ∙ away))
closed_if_either cycle old mid new first second away (Err e) is = tt

-- a clause of a call whose answer is handed on
pub ok_after : {T E F : Type 0} (outcome : Result T E) (result : Result T F) (P Q : Type 0) → (P → Q) → IfOk result (λ value. outcome ≡ Ok value) → OnOk outcome P → OnOk result Q
ok_after outcome (Ok v) P Q f is p = f (subst (λ r. OnOk r P) is p)
ok_after outcome (Err e) P Q f is p = tt

pub on_both : {T E : Type 0} (r : Result T E) (P Q R : Type 0) → (P → Q → R) → OnOk r P → OnOk r Q → OnOk r R
on_both (Ok v) P Q R f p q = f p q
on_both (Err e) P Q R f p q = tt

pub always : {T E : Type 0} (r : Result T E) (P : Type 0) → P → OnOk r P
always (Ok v) P p = p
always (Err e) P p = tt

pub named_report : {F : Type 0} (number : F → ℕ) (handle : Option F) (before now : Option ℕ) → now ≡ before → ((file : F) → handle ≡ Some file → before ≡ Some (number file)) → IsSome handle → IsSome now
named_report number None before now same opened some = absurd cc
named_report number (Some file) before now same opened some = subst IsSome (sym (same ∙ opened file refl)) refl

pub cut_nothing : (n : ℕ) (old new : DiskState) → Calm old new → new.seen.names.report ≡ None → content_of new.seen ≡ with_report (take n (content_of old.seen).report) (content_of old.seen)
cut_nothing n old new calm none = ap content_of calm.seen ∙ ap (λ (b : Bytes). with_report b (content_of old.seen)) (empty ∙ sym (ap (take n) empty ∙ nothing n))
  where
    empty : (content_of old.seen).report ≡ []
    empty = ap (report_of old.seen.bytes) (sym (ap (λ (s : Stored). s.names.report) calm.seen) ∙ none)

    nothing : (n : ℕ) → take {A = ℕ} n [] ≡ []
    nothing zero = refl
    nothing (suc n) = refl
