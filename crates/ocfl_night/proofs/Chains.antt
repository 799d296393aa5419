-- Chains of runs, and the closed reports.
use Rattle.std.proofs.Common.{◌≡◌, ◌≢◌, ◌⊎◌, ⊎_elim, inl, inr, ℕ, zero, suc, ◌+◌, ◌≤◌, List, [], ◌∷◌, ◌++◌, Option, Some, None, refl, sym, ◌∙◌, ap, subst, arith, append_assoc, Bool, true, false, ◌||◌, ◌==◌, take, ◌-◌, length, length-append}
use Rattle.std.proofs.{lemmas.List.{append-nil, take_all, take-append-le}, lemmas.Bool.{eq-eqb}}
use Rattle.std.proofs.{lemmas.Bool.Decides.{eqb_tells}, lemmas.List.Concat.{flat_map-append}}
use Rattle.std.specs.Prelude.{slice_get}
use Rattle.ocfl_tree.specs.{Place.{Text, Place}, Ascending.{IsAmong}, StorageRoot.{StorageRoot}}
use Rattle.ocfl_report.specs.declared.further.Further.{Further}
use Rattle.ocfl_rules.specs.Parts.{Part}
use Rattle.ocfl_cursor.specs.{Cursor.{Cursor, State, start, behind, ended}, Moves.{after_run}}
use Rattle.ocfl_scrub.specs.Running.{place_in, begun, begun_in, state_after}
use Rattle.ocfl_scrub.specs.Joining.{PartRun, Ran}
use Rattle.ocfl_scrub.specs.declared.running.RunStatus.{RunStatus}
use Rattle.ocfl_scrub.specs.declared.running.RunStatus.TheVariants as status
use Rattle.ocfl_state.specs.{Content.{Closed, is_closed}, declared.checkpoint_parts.Left.{Left}}
use Rattle.ocfl_night.specs.Chain.{AreNextIn, NoneBefore, RootRun, look_of, AreLooked, joined, LeadTo, EndAt, past, past_branch, part_after, from_after, LedBy, Led, LedToEnd, IsClosedAs, AreClosed, AreLeft, HasClosed}
use Rattle.ocfl_night.specs.{Looks.{IsRootOf, Known, MayBeGone, Rounds, IsOneOf}, Sound.{closed_text}}

-- a beginning of nothing
abbrev pub nothing : Text
nothing = []

pub take_nothing : (n : ℕ) → take n nothing ≡ nothing
take_nothing n = take_all n nothing (omega arith)

-- ---- a run more

pub lead_on : (further : Further) (part : Part) (c e : Cursor) (runs : List RootRun) (r : RootRun) → LeadTo further part c runs e → Ran further r.root part e r.run → r.run.ran.end ≢ status.Ended → LeadTo further part c (runs ++ r ∷ []) r.run.ran.cursor
lead_on further part c e [] r chain made goes = (subst (λ (x : Cursor). Ran further r.root part x r.run) chain made, goes, refl)
lead_on further part c e (q ∷ runs) r chain made goes = (chain.0, chain.1, lead_on further part q.run.ran.cursor e runs r chain.2 made goes)

pub end_on : (further : Further) (part : Part) (c e : Cursor) (runs : List RootRun) (r : RootRun) → LeadTo further part c runs e → Ran further r.root part e r.run → r.run.ran.end ≡ status.Ended → EndAt further part c (runs ++ r ∷ []) r.run.ran.cursor
end_on further part c e [] r chain made ends = (subst (λ (x : Cursor). Ran further r.root part x r.run) chain made, ends, refl)
end_on further part c e (q ∷ []) r chain made ends = (chain.0, chain.1, end_on further part q.run.ran.cursor e [] r chain.2 made ends)
end_on further part c e (q ∷ p ∷ runs) r chain made ends = (chain.0, chain.1, end_on further part q.run.ran.cursor e (p ∷ runs) r chain.2 made ends)

-- ---- around branches that are left out

-- a run more at the end of the last leg
module _ (Last : Further → Part → Cursor → List RootRun → Cursor → Type 0) (further : Further) where
  longer : (part : Part) (c d f : Cursor) (runs : List RootRun) (left : List Left) (r : RootRun)
      → ((b : Cursor) (last : List RootRun) → LeadTo further (part_after part left) b last d → Last further (part_after part left) b (last ++ r ∷ []) f) → Led further part c runs left d → LedBy Last further part c (runs ++ r ∷ []) left f
  longer part c d f runs [] r more led = more c runs led
  longer part c d f runs (l ∷ left) r more (first, (rest, (e, (are, (leads, (stood, led)))))) =
      (first, (rest ++ r ∷ [], (e, (ap (λ (rs : List RootRun). rs ++ r ∷ []) are ∙ append_assoc first rest (r ∷ []), (leads, (stood, longer (past_branch part l) e d f rest left r more led))))))

pub led_on : (further : Further) (part : Part) (c d : Cursor) (runs : List RootRun) (left : List Left) (r : RootRun) → Led further part c runs left d → Ran further r.root (part_after part left) d r.run → r.run.ran.end ≢ status.Ended → Led further part c (runs ++ r ∷ []) left r.run.ran.cursor
led_on further part c d runs left r led made goes = longer LeadTo further part c d r.run.ran.cursor runs left r (λ b last leads. lead_on further (part_after part left) b d last r leads made goes) led

pub led_to_end : (further : Further) (part : Part) (c d : Cursor) (runs : List RootRun) (left : List Left) (r : RootRun) → Led further part c runs left d → Ran further r.root (part_after part left) d r.run → r.run.ran.end ≡ status.Ended → LedToEnd further part c (runs ++ r ∷ []) left r.run.ran.cursor
led_to_end further part c d runs left r led made ends = longer EndAt further part c d r.run.ran.cursor runs left r (λ b last leads. end_on further (part_after part left) b d last r leads made ends) led

-- a branch more is left out
pub leave_on : (further : Further) (part : Part) (c d : Cursor) (runs : List RootRun) (left : List Left) (l : Left) → Led further part c runs left d → place_in d.state ≡ l.after → Led further part c runs (left ++ l ∷ []) d
leave_on further part c d runs [] l led stood = (runs, ([], (d, (sym (append-nil runs), (led, (stood, refl))))))
leave_on further part c d runs (x ∷ left) l (first, (rest, (e, (are, (leads, (there, led)))))) stood = (first, (rest, (e, (are, (leads, (there, leave_on further (past_branch part x) e d rest left l led stood))))))

-- and it is next, as those before were
pub next_on : (further : Further) (known : Option Known) (part : Part) (left : List Left) (l : Left) → AreNextIn further known part left
    → (root : StorageRoot) × (IsRootOf known root × NoneBefore further root (part_after part left) l.after l.place) → AreNextIn further known part (left ++ l ∷ [])
next_on further known part [] l all next = (next, tt)
next_on further known part (x ∷ left) l all next = (all.0, next_on further known (past_branch part x) left l all.1 next)

-- it was one of these looks, as those before
pub looked_on : (further : Further) (known : Option Known) (runs : List RootRun) (r : RootRun) → AreLooked further known runs → IsOneOf known (look_of further r) → AreLooked further known (runs ++ r ∷ [])
looked_on further known [] r all one = (one, tt)
looked_on further known (q ∷ runs) r all one = (all.0, looked_on further known runs r all.1 one)

pub joined_on : (runs : List RootRun) (r : RootRun) → joined (runs ++ r ∷ []) ≡ joined runs ++ r.run.report
joined_on runs r =
    flat_map-append (λ (x : RootRun). x.run.report) runs (r ∷ []) ∙ ap (λ (l : Text). joined runs ++ l) (append-nil r.run.report)

-- ---- cursors

-- a run begins with what its cursor checks
pub begun_checks : (c : Cursor) → (begun c).further ≡ c.further
begun_checks c = by c.state
  where
    by : (s : State) → (begun_in c s).further ≡ c.further
    by start = refl
    by (behind p) = refl
    by ended = refl

-- the cursor that a run left
pub left_by_run : (further : Further) (root : StorageRoot) (part : Part) (c : Cursor) (r : PartRun) → Ran further root part c r
    → (last : Option Place) × (r.ran.cursor ≡ after_run (begun c) r.ran.spent r.ran.files (state_after r.ran.end last))
left_by_run further root part c r made = (made.runs.last, made.runs.cursor_is)

pub cycle_after : (b x : Cursor) (spent files : ℕ) (end : RunStatus) (last : Option Place) → end ≢ status.Ended → x ≡ after_run b spent files (state_after end last) → (begun x).cycle ≡ b.cycle
cycle_after b x spent files status.Ended last goes is = absurd (goes refl)
cycle_after b x spent files status.Spent None goes is = ap (λ (y : Cursor). (begun y).cycle) is
cycle_after b x spent files status.Spent (Some p) goes is = ap (λ (y : Cursor). (begun y).cycle) is
cycle_after b x spent files (status.Stopped why) None goes is = ap (λ (y : Cursor). (begun y).cycle) is
cycle_after b x spent files (status.Stopped why) (Some p) goes is = ap (λ (y : Cursor). (begun y).cycle) is
cycle_after b x spent files status.Worn None goes is = ap (λ (y : Cursor). (begun y).cycle) is
cycle_after b x spent files status.Worn (Some p) goes is = ap (λ (y : Cursor). (begun y).cycle) is

-- and leaves one that checks the same
pub run_checks : (further : Further) (root : StorageRoot) (part : Part) (c : Cursor) (r : PartRun) → Ran further root part c r → r.ran.cursor.further ≡ c.further
run_checks further root part c r made = ap (λ (y : Cursor). y.further) (left_by_run further root part c r made).1 ∙ begun_checks c

-- a run that does not end the cycle stays in it
pub same_cycle : (further : Further) (root : StorageRoot) (part : Part) (c : Cursor) (r : PartRun) → Ran further root part c r → r.ran.end ≢ status.Ended → (begun r.ran.cursor).cycle ≡ (begun c).cycle
same_cycle further root part c r made goes =
    let left = left_by_run further root part c r made in
    cycle_after (begun c) r.ran.cursor r.ran.spent r.ran.files r.ran.end left.0 goes left.1

-- the run that ends the cycle
pub ended_cursor : (further : Further) (root : StorageRoot) (part : Part) (c : Cursor) (r : PartRun) → Ran further root part c r → r.ran.end ≡ status.Ended → (r.ran.cursor.state ≡ ended) × (r.ran.cursor.cycle ≡ (begun c).cycle)
ended_cursor further root part c r made is =
    let left = left_by_run further root part c r made in
    (ap (λ (y : Cursor). y.state) left.1 ∙ ap (λ (e : RunStatus). state_after e left.0) is, ap (λ (y : Cursor). y.cycle) left.1)

pub next_cycle_begun : (c : Cursor) → c.state ≡ ended → (begun c).cycle ≡ c.cycle + 1
next_cycle_begun c is = subst (λ (s : State). (begun_in c s).cycle ≡ c.cycle + 1) (sym is) refl

-- ---- closed reports

pub closed_up : (rounds : Rounds) (n next : ℕ) (closed : List Closed) → AreClosed rounds n closed next → n ≤ next
closed_up rounds n next [] are = omega (arith, are)
closed_up rounds n next (d ∷ closed) are = let more = closed_up rounds (n + 1) next closed are.2 in omega (arith, more)

pub closed_on : (rounds : Rounds) (n next : ℕ) (closed : List Closed) (d : Closed) → AreClosed rounds n closed next → d.cycle ≡ next → IsClosedAs rounds d → AreClosed rounds n (closed ++ d ∷ []) (next + 1)
closed_on rounds n next [] d are cycle whole = (cycle ∙ are, whole, ap (λ (x : ℕ). x + 1) are)
closed_on rounds n next (x ∷ closed) d are cycle whole = (are.0, are.1, closed_on rounds (n + 1) next closed d are.2 cycle whole)

differs : (a b : ℕ) → (a ≡ b → ⊥) → (a == b) ≡ false
differs a b other = by (eqb_tells a b)
  where
    by : (((a == b) ≡ true) × (a ≡ b)) ⊎ (((a == b) ≡ false) × (a ≢ b)) → (a == b) ≡ false
    by (inl w) = absurd (other w.1)
    by (inr w) = w.0

or_false : (a b : Bool) → a ≡ false → b ≡ false → (a || b) ≡ false
or_false a b p q = ap (λ (x : Bool). x || b) p ∙ q

or_left : (a b : Bool) → a ≡ true → (a || b) ≡ true
or_left a b p = ap (λ (x : Bool). x || b) p

or_true : (a b : Bool) → b ≡ true → (a || b) ≡ true
or_true true b q = refl
or_true false b q = q

-- no report of a later cycle is closed
pub not_closed : (rounds : Rounds) (n next cycle : ℕ) (closed : List Closed) → AreClosed rounds n closed next → next ≤ cycle → is_closed closed cycle ≡ false
not_closed rounds n next cycle [] are le = refl
not_closed rounds n next cycle (d ∷ closed) are le =
    let up = closed_up rounds (n + 1) next closed are.2 in
    let other : (d.cycle ≡ cycle → ⊥) = λ is. omega (arith, is, are.0, up, le) in
    or_false (d.cycle == cycle) (is_closed closed cycle) (differs d.cycle cycle other) (not_closed rounds (n + 1) next cycle closed are.2 le)

-- that which came last is
pub last_closed : (closed : List Closed) (d : Closed) → is_closed (closed ++ d ∷ []) d.cycle ≡ true
last_closed [] d = or_left (d.cycle == d.cycle) false (eq-eqb d.cycle d.cycle refl)
last_closed (x ∷ closed) d = or_true (x.cycle == d.cycle) (is_closed (closed ++ d ∷ []) d.cycle) (last_closed closed d)

-- ---- what is left of them

neither : (a b : Bool) → (a || b) ≡ false → (a ≡ false) × (b ≡ false)
neither true b is = absurd (cc is)
neither false b is = (refl, is)

module _ (Gone : ℕ → Type 0) where
  pub left_all : (closed : List Closed) → AreLeft Gone closed closed
  left_all [] = refl
  left_all (x ∷ closed) = inl (closed, (refl, left_all closed))

  pub left_on : (closed left : List Closed) (d : Closed) → AreLeft Gone closed left → AreLeft Gone (closed ++ d ∷ []) (left ++ d ∷ [])
  left_on [] left d is = inl ([], (ap (λ (l : List Closed). l ++ d ∷ []) is, refl))
  left_on (x ∷ closed) left d (inl (rest, (same, more))) = inl (rest ++ d ∷ [], (ap (λ (l : List Closed). l ++ d ∷ []) same, left_on closed rest d more))
  left_on (x ∷ closed) left d (inr (gone, more)) = inr (gone, left_on closed left d more)

  left_unclosed : (closed left : List Closed) (cycle : ℕ) → AreLeft Gone closed left → is_closed closed cycle ≡ false → is_closed left cycle ≡ false
  left_unclosed [] left cycle is un = ap (λ (l : List Closed). is_closed l cycle) is
  left_unclosed (x ∷ closed) left cycle (inl (rest, (same, more))) un =
      let both = neither (x.cycle == cycle) (is_closed closed cycle) un in
      ap (λ (l : List Closed). is_closed l cycle) same ∙ or_false (x.cycle == cycle) (is_closed rest cycle) both.0 (left_unclosed closed rest cycle more both.1)
  left_unclosed (x ∷ closed) left cycle (inr (gone, more)) un = left_unclosed closed left cycle more (neither (x.cycle == cycle) (is_closed closed cycle) un).1

  pub left_among : (closed left : List Closed) → AreLeft Gone closed left → (d : Closed) → IsAmong left d → IsAmong closed d
  left_among [] left is d among = absurd (subst (λ (l : List Closed). IsAmong l d) is among)
  left_among (x ∷ closed) left (inl (rest, (same, more))) d among = ⊎_elim (λ first. inl first) (λ later. inr (left_among closed rest more d later)) (subst (λ (l : List Closed). IsAmong l d) same among)
  left_among (x ∷ closed) left (inr (gone, more)) d among = inr (left_among closed left more d among)

  -- and what is left of these
  pub left_again : (More : ℕ → Type 0) → ((cycle : ℕ) → More cycle → Gone cycle) → (closed left now : List Closed) → AreLeft Gone closed left → AreLeft More left now → AreLeft Gone closed now
  left_again More goes [] left now is again = subst (λ (l : List Closed). AreLeft More l now) is again
  left_again More goes (x ∷ closed) left now (inl (rest, (same, more))) again =
      ⊎_elim
      (λ h. inl (h.0, (h.1.0, left_again More goes closed rest h.0 more h.1.1)))
      (λ h. inr (goes x.cycle h.0, left_again More goes closed rest now more h.1))
      (subst (λ (l : List Closed). AreLeft More l now) same again)
  left_again More goes (x ∷ closed) left now (inr (gone, more)) again = inr (gone, left_again More goes closed left now more again)

module _ {rounds : Rounds} where
  -- the same, by another name
  abbrev pub has_in : {next : ℕ} {closed now : List Closed} → now ≡ closed → HasClosed rounds next closed → HasClosed rounds next now
  has_in same h = record { all = h.all; are = h.are; left = subst (AreLeft (MayBeGone rounds.known) h.all) (sym same) h.left }

  abbrev pub has_at : {next then : ℕ} {closed : List Closed} → next ≡ then → HasClosed rounds next closed → HasClosed rounds then closed
  has_at same h = record { all = h.all; are = subst (AreClosed rounds 1 h.all) same h.are; left = h.left }

  -- one more
  abbrev pub has_on : {next : ℕ} {closed now : List Closed} (d : Closed) → now ≡ closed ++ d ∷ [] → d.cycle ≡ next → IsClosedAs rounds d → HasClosed rounds next closed → HasClosed rounds (next + 1) now
  has_on {next} {closed} d same cycle is h = record {
    all = h.all ++ d ∷ [];
    are = closed_on rounds 1 next h.all d h.are cycle is;
    left = subst (AreLeft (MayBeGone rounds.known) (h.all ++ d ∷ [])) (sym same) (left_on (MayBeGone rounds.known) h.all closed d h.left);
  }

  -- none, before the first cycle
  abbrev pub has_none : {closed : List Closed} → closed ≡ [] → HasClosed rounds 1 closed
  has_none same = record { all = []; are = refl; left = same }

  pub not_there : {next cycle : ℕ} {closed : List Closed} → HasClosed rounds next closed → next ≤ cycle → is_closed closed cycle ≡ false
  not_there {next} {cycle} {closed} h le = left_unclosed (MayBeGone rounds.known) h.all closed cycle h.left (not_closed rounds 1 next cycle h.all h.are le)

pub closed_text_on : (closed : List Closed) (d : Closed) → closed_text (closed ++ d ∷ []) ≡ closed_text closed ++ d.report
closed_text_on closed d =
    flat_map-append (λ (x : Closed). x.report) closed (d ∷ []) ∙ ap (λ (l : Text). closed_text closed ++ l) (append-nil d.report)

-- ---- the place past a branch

past_last : (d : Place) (n : Text) → past (d ++ n ∷ []) ≡ d ++ (n ++ 1 ∷ []) ∷ []
past_last [] n = refl
past_last (k ∷ []) n = refl
past_last (k ∷ m ∷ d) n = ap (λ (p : Place). k ∷ p) (past_last (m ∷ d) n)

-- it has another last name
pub past_is : (b d : Place) (n : Text) → b ≡ d ++ n ∷ [] → take (length b - 1) b ++ (n ++ 1 ∷ []) ∷ [] ≡ past b
past_is b d n is =
    let long : length b - 1 ≡ length d = omega (arith, ap length is, length-append d (n ∷ [])) in
    let front : take (length b - 1) b ≡ d = ap (λ (m : ℕ). take m b) long ∙ ap (take (length d)) is ∙ take-append-le (length d) d (n ∷ []) (omega arith) ∙ take_all (length d) d (omega arith) in
    ap (λ (p : Place). p ++ (n ++ 1 ∷ []) ∷ []) front ∙ sym (past_last d n) ∙ ap past (sym is)

-- a part past several branches is that past the last of them
pub after_is : (u : Place) (f b : Option Place) (left : List Left) → part_after (record { under = u; from = f; below = b }) left ≡ record { under = u; from = from_after f left; below = b }
after_is u f b [] = refl
after_is u f b (l ∷ left) = after_is u (Some (past l.place)) b left

last_at : (from : Option Place) (left : List Left) (m : ℕ) (l : Left) → length left ≡ m + 1 → slice_get left m ≡ Some l → from_after from left ≡ Some (past l.place)
last_at from [] m l long is = absurd (omega (arith, long))
last_at from (x ∷ []) zero l long is = let same : x ≡ l = cc is in ap (λ (y : Left). Some (past y.place)) same
last_at from (x ∷ []) (suc m) l long is = absurd (omega (arith, long))
last_at from (x ∷ y ∷ left) zero l long is = absurd (omega (arith, long))
last_at from (x ∷ y ∷ left) (suc m) l long is = last_at (Some (past x.place)) (y ∷ left) m l (omega (arith, long)) is

none_at : (left : List Left) (m : ℕ) → suc m ≤ length left → slice_get left m ≡ None → ⊥
none_at [] m less is = absurd (omega (arith, less))
none_at (x ∷ left) zero less is = cc is
none_at (x ∷ left) (suc m) less is = none_at left m (omega (arith, less)) is

pub from_last : (from : Option Place) (left : List Left) (l : Left) → slice_get left (length left - 1) ≡ Some l → from_after from left ≡ Some (past l.place)
from_last from [] l is = absurd (cc is)
from_last from (x ∷ left) l is = last_at from (x ∷ left) (length (x ∷ left) - 1) l (omega arith) is

pub from_none : (from : Option Place) (left : List Left) → slice_get left (length left - 1) ≡ None → from_after from left ≡ from
from_none from [] is = refl
from_none from (x ∷ left) is = absurd (none_at (x ∷ left) (length (x ∷ left) - 1) (omega arith) is)
