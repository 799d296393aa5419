-- Why joinings stop.
use Rattle.std.proofs.Common.{◌≡◌, ◌⊎◌, inl, inr, ℕ, zero, suc, ◌+◌, ◌≤◌, List, [], ◌∷◌, ◌++◌, length, false, Option, sym, subst, arith}
use Rattle.std.specs.Prelude.{Result, Ok, Err, IfErr}
use Rattle.ocfl_tree.specs.Place.{Place}
use Rattle.ocfl_separators.specs.Separators.{start_of_part, end_of_part}
use Rattle.ocfl_joining.specs.{Joined.{IsAsClosed, IsReportIn, IsRight}, Missing.{KnownPart, part_count}, Reports.{SameReports, Seen}}
use Rattle.ocfl_joining.specs.Stops.{AreChanged, IsCallStop, IsChangedRightly, IsOfPart, IsStopRight, IsUpTo, is_missing}
use Rattle.ocfl_joining.specs.declared.joining.JoinStop.{JoinStop}
use Rattle.ocfl_joining.specs.declared.joining.JoinStop.TheVariants.{Missing, Changed, Part, Output, Unsaid, Memory}

-- ---- the same closed reports, seen otherwise

pub right_as : (separators : List Place) (s r : Seen) → s.bytes ≡ r.bytes → s.marks ≡ r.marks → (k : ℕ) → IsRight separators s k → IsRight separators r k
right_as separators s r bytes marks k h = record {
  closed = subst (λ f. IsAsClosed (r.marks k) (f k)) bytes (subst (λ f. IsAsClosed (f k) (s.bytes k)) marks h.closed);
  report = subst (λ f. IsReportIn (start_of_part separators k) (end_of_part separators k) (f k)) bytes h.report;
}

-- the same closed reports, seen otherwise
changed_as : (separators : List Place) (s r : Seen) → s.bytes ≡ r.bytes → s.marks ≡ r.marks → (n : ℕ) (changed : List ℕ) → AreChanged separators s n changed → AreChanged separators r n changed
changed_as separators s r bytes marks zero changed h = h
changed_as separators s r bytes marks (suc n) changed h = (h.0, (changed_as separators s r bytes marks n h.0 h.1.0, by h.1.1))
  where
    by : (IsRight separators s (n + 1) × (changed ≡ h.0)) ⊎ ((IsRight separators s (n + 1) → ⊥) × (changed ≡ h.0 ++ (n + 1) ∷ []))
        → (IsRight separators r (n + 1) × (changed ≡ h.0)) ⊎ ((IsRight separators r (n + 1) → ⊥) × (changed ≡ h.0 ++ (n + 1) ∷ []))
    by (inl k) = inl (right_as separators s r bytes marks (n + 1) k.0, k.1)
    by (inr k) = inr (λ is. k.0 (right_as separators r s (sym bytes) (sym marks) (n + 1) is), k.1)

pub stops_as : (separators : List Place) (s r : Seen) → s.bytes ≡ r.bytes → s.marks ≡ r.marks → (stop : JoinStop) → IsChangedRightly separators s stop → IsChangedRightly separators r stop
stops_as separators s r bytes marks (Missing found) h = h
stops_as separators s r bytes marks (Changed found) h = (changed_as separators s r bytes marks (length separators + 1) found.items h.0, h.1)
stops_as separators s r bytes marks (Part part why) h = h
stops_as separators s r bytes marks (Output why) h = h
stops_as separators s r bytes marks Unsaid h = h
stops_as separators s r bytes marks Memory h = h

pub result_as : {T : Type 0} (separators : List Place) (s r : Seen) (result : Result T JoinStop) → SameReports r s → IfErr result (IsChangedRightly separators s) → IfErr result (IsChangedRightly separators r)
result_as separators s r (Ok value) same h = tt
result_as separators s r (Err stop) same h = stops_as separators s r same.bytes same.marks stop h

-- ---- at which part

calls_more : (P Q : ℕ → Type 0) (why : JoinStop) → ((part : ℕ) → P part → Q part) → IsCallStop P why → IsCallStop Q why
calls_more P Q (Missing found) f h = h
calls_more P Q (Changed found) f h = h
calls_more P Q (Part part why) f h = f part h
calls_more P Q (Output why) f h = h
calls_more P Q Unsaid f h = h
calls_more P Q Memory f h = h

-- at none, so at one of so many
pub at_none : (count : ℕ) (why : JoinStop) → IsCallStop (λ _. ⊥) why → IsCallStop (IsUpTo count) why
at_none count why h = calls_more (λ _. ⊥) (IsUpTo count) why (λ part no. absurd no) h

-- at one of them
pub at_one : (count number : ℕ) (why : JoinStop) → 1 ≤ number → number ≤ count → IsCallStop (λ at. at ≡ number) why → IsCallStop (IsUpTo count) why
at_one count number why from to h = calls_more (λ at. at ≡ number) (IsUpTo count) why (λ part e. (omega (arith, from, e), omega (arith, to, e))) h

pub call_right : (count last : ℕ) (separators : List Place) (s : Seen) (why : JoinStop) → count ≤ last → IsCallStop (IsUpTo count) why → IsStopRight last separators s why
call_right count last separators s (Missing found) le h = h
call_right count last separators s (Changed found) le h = absurd h
call_right count last separators s (Part part why) le h = (h.0, let below = h.1 in omega (arith, le, below))
call_right count last separators s (Output why) le h = tt
call_right count last separators s Unsaid le h = tt
call_right count last separators s Memory le h = tt

pub right_more : (count last : ℕ) (separators : List Place) (s : Seen) (why : JoinStop) → count ≤ last → IsStopRight count separators s why → IsStopRight last separators s why
right_more count last separators s (Missing found) le h = h
right_more count last separators s (Changed found) le h = h
right_more count last separators s (Part part why) le h = (h.0, let below = h.1 in omega (arith, le, below))
right_more count last separators s (Output why) le h = tt
right_more count last separators s Unsaid le h = tt
right_more count last separators s Memory le h = tt

-- the stop of a joining, which no part keeps from it
pub stop_right : (separators : List Place) (parts : List (Option KnownPart)) (s : Seen) (why : JoinStop) → is_missing why ≡ false → IsChangedRightly separators s why → IsOfPart separators why
    → IsStopRight (part_count separators parts) separators s why
stop_right separators parts s (Missing found) other h p = cc
stop_right separators parts s (Changed found) other h p = h
stop_right separators parts s (Part part why) other h p = (p.0, let below = p.1 in omega (arith, below))
stop_right separators parts s (Output why) other h p = tt
stop_right separators parts s Unsaid other h p = tt
stop_right separators parts s Memory other h p = tt
