-- What is on the disk once all was synced.
use Rattle.std.proofs.Common.{◌≡◌, ℕ, List, [], ◌∷◌, Option, Some, None, refl, ◌∙◌, ap}
use Rattle.std.specs.Prelude.{IsTrue}
use Rattle.std.specs.Option.{option_map}
use Rattle.ocfl_state.specs.Content.{Bytes}
use Rattle.ocfl_disk.specs.Names.{ClosedName, Names, Stored, report_of, closed_of, content_of}
use Rattle.ocfl_disk.specs.PowerCut.{DiskState, AreSynced, IsDisk}
use Rattle.ocfl_disk.specs.declared.state_file.StateFile.TheVariants.{Folder, Reports}

same_checkpoint : (other bytes : ℕ → Bytes) (name : Option ℕ) → ((file : ℕ) → name ≡ Some file → other file ≡ bytes file) → option_map other name ≡ option_map bytes name
same_checkpoint other bytes None same = refl
same_checkpoint other bytes (Some file) same = ap Some (same file refl)

same_report : (other bytes : ℕ → Bytes) (name : Option ℕ) → ((file : ℕ) → name ≡ Some file → other file ≡ bytes file) → report_of other name ≡ report_of bytes name
same_report other bytes None same = refl
same_report other bytes (Some file) same = same file refl

same_closed : (d : DiskState) (other : ℕ → Bytes) (names : List ClosedName) → ((file : ℕ) → IsTrue (d.is_synced file) → other file ≡ d.seen.bytes file) → AreSynced d names → closed_of other names ≡ closed_of d.seen.bytes names
same_closed d other [] same synced = refl
same_closed d other (name ∷ names) same synced = λ i. (record { cycle = name.cycle; whole = name.whole; report = same name.file synced.0 i }) ∷ same_closed d other names same synced.1 i

pub all_synced : (d : DiskState) (c : Stored) → IsDisk d → IsTrue (d.has_names Folder) → IsTrue (d.has_names Reports)
    → ((file : ℕ) → d.seen.names.report ≡ Some file → IsTrue (d.is_synced file)) → d.may_leave c → content_of c ≡ content_of d.seen
all_synced d c disk folder reports report left = ap (λ (names : Names). content_of (record { names = names; bytes = c.bytes })) (disk.names c folder reports left) ∙ bytes
  where
    same : (file : ℕ) → IsTrue (d.is_synced file) → c.bytes file ≡ d.seen.bytes file
    same file synced = disk.bytes file c synced left

    bytes : content_of (record { names = d.seen.names; bytes = c.bytes }) ≡ content_of d.seen
    bytes = λ i. record {
      checkpoint = same_checkpoint c.bytes d.seen.bytes d.seen.names.checkpoint (λ file is. same file (disk.checkpoint file is)) i;
      report = same_report c.bytes d.seen.bytes d.seen.names.report (λ file is. same file (report file is)) i;
      closed = same_closed d c.bytes d.seen.names.closed same disk.closed i;
    }
