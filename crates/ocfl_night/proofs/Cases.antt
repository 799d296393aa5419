-- Worked cases: what a checkpoint and a closed report check, and what begins with a cycle.
use Rattle.std.proofs.Common.{◌≡◌, ◌∙◌, refl, [], true, false}
use Rattle.ocfl_tree.specs.Place.{Text}
use Rattle.ocfl_report.specs.declared.further.Further.TheVariants.{Nothing, Inventories}
use Rattle.ocfl_cursor.specs.Cursor.{ended, new_cursor}
use Rattle.ocfl_state.specs.{Checkpoint.{Checkpoint}, Content.{Content}}
use Rattle.ocfl_identity.specs.declared.identity.Identity.{Identity}
use Rattle.ocfl_night.specs.{Chain.{HasRuns, LeadTo}, Looks.{Rounds}, Site.{IsOwn, first_checkpoint}, Sound.{IsMoved}, Steps.{begun_anew}}
use Rattle.ocfl_night.specs.declared.site.Site.{Site}

-- the checkpoint of an audit that checks the inventories of versions
abbrev checking : Checkpoint → Checkpoint
checking k = record k { cursor = new_cursor Inventories }

-- runs that check nothing further leave no cursor that does
no_runs_lead_to_another_option : (rounds : Rounds) → rounds.further ≡ Nothing → HasRuns LeadTo rounds [] (new_cursor Inventories) → ⊥
no_runs_lead_to_another_option rounds plain h = let m : Inventories ≡ Nothing = h.checks ∙ plain in cc

-- nor is the checkpoint of one that does that of a night without it
checkpoint_of_another_option : (site : Site) (id : Identity) → site.further ≡ Nothing → IsOwn site (checking (first_checkpoint site id)) → ⊥
checkpoint_of_another_option site id plain h = let m : Inventories ≡ Nothing = h.checks ∙ plain in cc

-- nor is a cycle closed by one
closed_by_another_option : (rounds : Rounds) (t : Text) (k : Checkpoint) (c : Content) → rounds.further ≡ Nothing → IsMoved rounds t (record k { cursor = record (new_cursor Inventories) { state = ended } }) c → ⊥
closed_by_another_option rounds t k c plain h = let m : Inventories ≡ Nothing = h.checks ∙ plain in cc

-- of the next cycle nothing was lost, even if something of this one was
next_cycle_is_whole : (k : Checkpoint) → (begun_anew (record k { whole = false })).whole ≡ true
next_cycle_is_whole k = refl
