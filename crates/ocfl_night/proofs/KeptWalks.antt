-- The walk that is kept from one slice to the next.
use Rattle.std.proofs.Common.{◌≡◌, Err, ap, List, None, Ok, Option, Result, subst, sym}
use Rattle.std.specs.Prelude.{IfOk}
use Rattle.ocfl_tree.specs.StorageRoot.{StorageRoot}
use Rattle.ocfl_rules.specs.Parts.{Part}
use Rattle.ocfl_cursor.specs.Cursor.{Cursor}
use Rattle.ocfl_scrub.specs.{Keeping.{IsReady, IsReadyIn}, Running.{place_in}}
use Rattle.ocfl_scrub.specs.{declared.kept.KeptWalk.{KeptWalk}, declared.kept.Met.{Met}}
use Rattle.ocfl_scrub.specs.declared.running.RunEnd.{RunEnd}
use Rattle.ocfl_state.specs.{Checkpoint.{Checkpoint}, declared.checkpoint_parts.Left.{Left}}
use Rattle.ocfl_state.specs.declared.checkpoint_parts.ReportMark.{ReportMark}
use Rattle.ocfl_night.specs.{Chain.{part_after}, Steps.{IsNext, IsWalkAt}}
use Rattle.ocfl_terms.specs.{declared.made.Made.{Made}, declared.stop.Stop.{Stop}}

-- if none is kept, the next run begins one
pub walk_none : (root : StorageRoot) (part : Part) (k : Checkpoint) (kept : KeptWalk) → kept.met ≡ None → IsWalkAt root part k kept
walk_none root part k kept none = subst (λ (o : Option Met). IsReadyIn k.cursor.further root (part_after part k.left) (place_in k.cursor.state) o) (sym none) tt

-- of the run that is made from a checkpoint
pub walk_from : (root : StorageRoot) (kept : KeptWalk) (rest part : Part) (k : Checkpoint) (c : Cursor) → rest ≡ part_after part k.left → c ≡ k.cursor → IsWalkAt root part k kept
    → IsReady c.further root rest (place_in c.state) kept
walk_from root kept rest part k c there same walk =
    subst (λ (x : Cursor). IsReady x.further root rest (place_in x.state) kept) (sym same) (subst (λ (y : Part). IsReady k.cursor.further root y (place_in k.cursor.state) kept) (sym there) walk)

-- and of the next one
pub walk_next : (root : StorageRoot) (part : Part) (k next : Checkpoint) (ran : RunEnd) (report : ReportMark) → IsNext k ran report next → (kept : KeptWalk) (rest : Part) → rest ≡ part_after part k.left
    → IsReady ran.cursor.further root rest (place_in ran.cursor.state) kept → IsWalkAt root part next kept
walk_next root part k next ran report is kept rest there walk =
    subst (λ (l : List Left). IsReady next.cursor.further root (part_after part l) (place_in next.cursor.state) kept) (sym (ap (λ (x : Checkpoint). x.left) is.rest_is))
    (subst (λ (x : Cursor). IsReady x.further root (part_after part k.left) (place_in x.state) kept) (sym is.cursor_is)
    (subst (λ (y : Part). IsReady ran.cursor.further root y (place_in ran.cursor.state) kept) there walk))

pub walk_made : (root : StorageRoot) (part : Part) (k : Checkpoint) (ran : RunEnd) (made : Result Made Stop) → IfOk made (λ m. (report : ReportMark) × IsNext k ran report m.checkpoint) → (kept : KeptWalk) (rest : Part) → rest ≡ part_after part k.left
    → IsReady ran.cursor.further root rest (place_in ran.cursor.state) kept → IfOk made (λ m. IsWalkAt root part m.checkpoint kept)
walk_made root part k ran (Ok m) h kept rest there walk = walk_next root part k m.checkpoint ran h.0 h.1 kept rest there walk
walk_made root part k ran (Err e) h kept rest there walk = tt
