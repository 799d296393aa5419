-- What is read of a folder, and what that is by its bytes.
use Rattle.std.proofs.Common.{◌≡◌, ◌<◌, ◌^◌, ◌↔◌, ℕ, Option, Some, None, Result, Ok, Err, IfOk, Bool, true, false, Vec, Global, refl, sym, subst, length, option_map}
use Rattle.std.specs.Prelude.{IsTrue}
use Rattle.std.proofs.lemmas.Bool.{false≢true}
use Rattle.ocfl_tree.specs.Place.{Text}
use Rattle.ocfl_cursor.specs.declared.ends.PartEnds.{PartEnds}
use Rattle.ocfl_state.specs.{Checkpoint.{Checkpoint, IsCheckpointText}, Pieces.{summary_of}, Calls.{bytes_of}}
use Rattle.ocfl_state.specs.declared.checkpoint_parts.ReportMark.{ReportMark}
use Rattle.ocfl_state.proofs.CheckpointTexts.{text_determines}
use Rattle.ocfl_kept.specs.Keeping.{AreEndsBy, ClosedReport, HasMark, Holding, IsAsClosed, IsKept, IsRead, IsShort, seen_report}

some_not_none : {A : Type 0} (x : A) → Some x ≡ None → ⊥
some_not_none x e = cc

-- what was kept, by the bytes that were found
pub kept_so : (found : Option Text) (o : Option Text) (kept : Option (Option Checkpoint)) → found ≡ o → IsKept found kept → IsKept o kept
kept_so found o kept e h = subst (λ (p : Option Text). IsKept p kept) e h

-- the ends of a part, by the bytes that were found
pub ends_so : (o : Option Text) (bytes : Text) (c : Checkpoint) (ends : Option PartEnds) → Some bytes ≡ o → IsCheckpointText bytes c → ends ≡ c.part → AreEndsBy o ends
ends_so o bytes c ends e h i = subst (λ (p : Option Text). AreEndsBy p ends) e (c, h, i)

-- a report that is not there has each mark, and one that is there by its bytes
pub none_marked : (mark : ReportMark) (o : Option ClosedReport) → None ≡ o → IsTrue true ↔ HasMark mark o
none_marked mark o e = subst (λ (p : Option ClosedReport). IsTrue true ↔ HasMark mark p) e ((λ i. tt), (λ k. refl))

pub one_marked : (mark : ReportMark) (o : Option ClosedReport) (whole : Bool) (bytes unread : Text) (is : Type 0) → Some (seen_report whole bytes) ≡ o → unread ≡ bytes
    → (length unread < 2 ^ 63 → is ↔ (mark ≡ summary_of unread)) → IsShort o → is ↔ HasMark mark o
one_marked mark o whole bytes unread is e same marks =
    subst (λ (p : Option ClosedReport). IsShort p → is ↔ HasMark mark p) e
    (subst (λ (t : Text). length t < 2 ^ 63 → is ↔ (mark ≡ summary_of t)) same marks)

-- by the checkpoint that was kept, by bytes that are none, and by nothing
pub by_kept : (o : Option Text) (c : Checkpoint) (report : Option ClosedReport) (is : Type 0) → IsKept o (Some (Some c)) → is ↔ HasMark c.report report → is ↔ IsAsClosed o report
by_kept None c report is h e = absurd (some_not_none (Some c) h)
by_kept (Some bytes) c report is h e =
    (λ i. (c, h, e.0 i), λ k. e.1 (subst (λ (d : Checkpoint). HasMark d.report report) (text_determines bytes k.0 c k.1 h) k.2))

pub by_none : (o : Option Text) (report : Option ClosedReport) → IsKept o (Some None) → IsTrue false ↔ IsAsClosed o report
by_none None report h = absurd (some_not_none None h)
by_none (Some bytes) report h = (λ i. absurd (false≢true i), λ k. absurd (h k.0 k.1))

pub by_nothing : (o : Option Text) (report : Option ClosedReport) → IsKept o None → IsTrue true ↔ IsAsClosed o report
by_nothing None report h = (λ i. tt, λ k. refl)
by_nothing (Some bytes) report h = absurd h

-- the checkpoint that was read
pub read_some : (bytes : Text) (found : Option Checkpoint) (c : Checkpoint) → found ≡ Some c → IsRead bytes found → IsCheckpointText bytes c
read_some bytes found c e h = subst (λ (f : Option Checkpoint). IsRead bytes f) e h

-- what was kept, by the bytes that are there
pub kept_there : (o : Option (Vec ℕ Global)) (v : Vec ℕ Global) (bytes : Text) (found : Option Checkpoint) → o ≡ Some v → bytes ≡ v.items → IsRead bytes found → IsKept (option_map bytes_of o) (Some found)
kept_there o v bytes found e same h =
    subst (λ (p : Option (Vec ℕ Global)). IsKept (option_map bytes_of p) (Some found)) (sym e) (subst (λ (b : Text). IsRead b found) same h)

pub kept_by_all : {E : Type 0} (r : Result (Option (Option Checkpoint)) E) (found o : Option Text) → found ≡ o → IfOk r (λ k. IsKept found k) → IfOk r (λ k. IsKept o k)
kept_by_all r found o e h = subst (λ (p : Option Text). IfOk r (λ k. IsKept p k)) e h

-- whether a report has a mark says whether it is as it was closed
pub closed_so : {E : Type 0} (r : Result Bool E) (h k : Holding) (cycle : ℕ) (kept : Option (Option Checkpoint)) (c : Checkpoint) (mark : ReportMark) → mark ≡ c.report → k ≡ h → IsKept (h.kept cycle) kept → kept ≡ Some (Some c)
    → (IsShort (k.reports cycle) → IfOk r (λ is. IsTrue is ↔ HasMark mark (k.reports cycle))) → IsShort (h.reports cycle) → IfOk r (λ is. IsTrue is ↔ IsAsClosed (h.kept cycle) (h.reports cycle))
closed_so (Ok is) h k cycle kept c mark own same was e marks short =
    let there : IsTrue is ↔ HasMark mark (h.reports cycle) = subst (λ (g : Holding). IsShort (g.reports cycle) → IsTrue is ↔ HasMark mark (g.reports cycle)) same marks short in
    let marked : IsTrue is ↔ HasMark c.report (h.reports cycle) = subst (λ (m : ReportMark). IsTrue is ↔ HasMark m (h.reports cycle)) own there in
    by_kept (h.kept cycle) c (h.reports cycle) (IsTrue is) (subst (λ (o : Option (Option Checkpoint)). IsKept (h.kept cycle) o) e was) marked
closed_so (Err why) h k cycle kept c mark own same was e marks short = tt
