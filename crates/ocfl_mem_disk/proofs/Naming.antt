-- The names of both folders are on the disk.
use Rattle.std.proofs.Common.{◌≡◌, subst}
use Rattle.std.specs.Prelude.{IsTrue, IfOk, OnOk, Result, Ok, Err}
use Rattle.ocfl_disk.specs.PowerCut.{DiskState, IsDisk}
use Rattle.ocfl_join_disk.specs.Shown.{HasSureNames}
use Rattle.ocfl_disk.specs.declared.state_file.StateFile.TheVariants.{Folder, Reports}

pub at_ok : {T E : Type 0} (r : Result T E) (v : T) (P : Type 0) → r ≡ Ok v → OnOk r P → P
at_ok r v P is ok = subst (λ x. OnOk x P) is ok

pub sure_names : {T E : Type 0} (d : DiskState) (r : Result T E) → IsDisk d → IsTrue (d.has_names Reports) → OnOk r (IsTrue (d.has_names Folder)) → OnOk r (HasSureNames d)
sure_names d (Ok v) disk reports names = λ c left. disk.names c names reports left
sure_names d (Err e) disk reports names = tt
