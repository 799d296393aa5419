-- What each call of the disk in memory does, by what the disk that loses most does.
use Rattle.std.proofs.Common.{◌≡◌, ◌⊎◌, inl, ℕ, ◌≤◌, Bool, true, false, List, [], ◌∷◌, ◌++◌, length, take, Option, Some, None, refl, sym, ◌∙◌, subst, ap, arith}
use Rattle.std.proofs.{Math.Bool.{or-true}, lemmas.Bool.{or_left}}
use Rattle.std.specs.Prelude.{IsTrue, Vec, Result, Ok, Err, OnOk, OnErr, MatchResult}
use Rattle.std.specs.Option.{is_some}
use Rattle.std.specs.declared.alloc.Global.{Global}
use Rattle.ocfl_state.specs.{Content.{Bytes}}
use Rattle.ocfl_disk.specs.Names.{Names, Stored}
use Rattle.ocfl_disk.specs.PowerCut.{DiskState, Change, Same, Passes, MayTear, MayMake, MayDrop, MayPutOver, MayCloseOver}
use Rattle.ocfl_disk.specs.Disk.{Calm, Writes, Makes, Drops, PutsOver, ClosesOver, IsFound}
use Rattle.ocfl_disk.specs.Losing.{DiskCall, after_calls, Loses, IsOwn}
use Rattle.ocfl_disk.specs.declared.state_file.StateFile.{StateFile}
use Rattle.ocfl_disk.specs.declared.state_file.StateFile.TheVariants.{Folder, Above, Checkpoint, NewCheckpoint, Report, Reports, Whole, Incomplete, Kept, Lock, Stop, Log, ScriptsCursor, ScriptsLog}
use Rattle.ocfl_disk.proofs.Losing.{loses_at, own_bytes}
use Rattle.ocfl_mem_disk.specs.Log.{Shown, stuff_of, disk_at, disk_of, calls_of, shown_of, is_free}
use Rattle.ocfl_mem_disk.specs.declared.mem_call.MemCall.{MemCall}
use Rattle.ocfl_mem_disk.specs.declared.mem_call.MemCall.TheVariants.{Append, Cut, MakeNew, MakeReport, Remove, Put, Close, Sync, SyncFolder, SyncReports}
use Rattle.ocfl_mem_disk.specs.Showing.{shows, noted, is_owned, is_ready_of, append_tears, cut_tears, with_faults}

passes_at : (change : Change) (d e : DiskState) (n m : ℕ) → n ≤ m → Passes change d e → Passes change (with_faults d n) (with_faults e m)
passes_at change d e n m le passes = record { later = passes.later; now = passes.now; meanwhile = passes.meanwhile; keeps = passes.keeps; faults = le }

still_at : (change : Change) (d : DiskState) (n m : ℕ) → n ≤ m → ((c : Stored) → change c c) → Passes change (with_faults d n) (with_faults d m)
still_at change d n m le same = record {
  later = omega arith;
  now = λ c left. (c, left, same c);
  meanwhile = λ t c before since. inl since;
  keeps = λ t c before since. since;
  faults = le;
}

-- nothing was noted
pub calm_at : (log log' : List MemCall) (n m : ℕ) → log' ≡ log → n ≤ m → Calm (disk_of log n) (disk_of log' m)
calm_at log log' n m is le = subst (λ (l : List MemCall). Calm (disk_of log n) (disk_of l m)) (sym is)
    (record { passes = still_at Same (after_calls (calls_of log)) n m le (λ c. refl); seen = refl; synced = λ file synced. synced })

pub no_write_at : (file k most : ℕ) (log log' : List MemCall) (n m : ℕ) → log' ≡ log → n ≤ m → Writes file k most (disk_of log n) (disk_of log' m)
no_write_at file k most log log' n m is le = subst (λ (l : List MemCall). Writes file k most (disk_of log n) (disk_of l m)) (sym is)
    (record {
      passes = still_at (MayTear file k most) (after_calls (calls_of log)) n m le (λ c. record { names = refl; others = λ other differs. refl; front = λ text long begins. begins; no_longer = omega arith });
      names = refl;
      others = λ other differs. refl;
      synced = λ other differs synced. synced;
    })

pub no_drop_at : (log log' : List MemCall) (n m : ℕ) → log' ≡ log → n ≤ m → Drops (disk_of log n) (disk_of log' m)
no_drop_at log log' n m is le = subst (λ (l : List MemCall). Drops (disk_of log n) (disk_of l m)) (sym is)
    (record { passes = still_at MayDrop (after_calls (calls_of log)) n m le (λ c. inl refl); seen = inl refl; synced = λ file synced. synced })

loses_of : (log : List MemCall) → Loses (after_calls (calls_of log))
loses_of log = loses_at (calls_of log) (shows log).allowed

calm_with : (d e : DiskState) (n m : ℕ) → n ≤ m → Calm d e → Calm (with_faults d n) (with_faults e m)
calm_with d e n m le calm = record { passes = passes_at Same d e n m le calm.passes; seen = calm.seen; synced = calm.synced }

writes_with : (file k most : ℕ) (d e : DiskState) (n m : ℕ) → n ≤ m → Writes file k most d e → Writes file k most (with_faults d n) (with_faults e m)
writes_with file k most d e n m le w = record { passes = passes_at (MayTear file k most) d e n m le w.passes; names = w.names; others = w.others; synced = w.synced }

pub drops_at : (log log' : List MemCall) (n m : ℕ) → log' ≡ log ++ Remove ∷ [] → n ≤ m → Drops (disk_of log n) (disk_of log' m)
drops_at log log' n m is le = subst (λ (calls : List DiskCall). Drops (disk_of log n) (disk_at calls m)) (sym (ap calls_of is ∙ noted log Remove refl))
    (let drops = (loses_of log).drops.0 in record { passes = passes_at MayDrop (after_calls (calls_of log)) _ n m le drops.passes; seen = drops.seen; synced = drops.synced })

pub appends_at : (file : ℕ) (bytes : Vec ℕ Global) (log log' : List MemCall) (n m : ℕ) → IsOwn file (disk_of log n) → log' ≡ log ++ Append file bytes ∷ [] → n ≤ m
    → Writes file (length ((disk_of log n).seen.bytes file)) (length ((disk_of log n).seen.bytes file ++ bytes.items)) (disk_of log n) (disk_of log' m)
    × ((disk_of log' m).seen.bytes file ≡ (disk_of log n).seen.bytes file ++ bytes.items)
appends_at file bytes log log' n m own is le =
    subst (λ (calls : List DiskCall). Writes file (length ((disk_of log n).seen.bytes file)) (length ((disk_of log n).seen.bytes file ++ bytes.items)) (disk_of log n) (disk_at calls m)
    × ((disk_at calls m).seen.bytes file ≡ (disk_of log n).seen.bytes file ++ bytes.items))
    (sym (ap calls_of is ∙ noted log (Append file bytes) (is_owned file (shown_of log) (calls_of log) (shows log) own))) (
      writes_with file _ _ (after_calls (calls_of log)) _ n m le ((loses_of log).writes file _ _ ((after_calls (calls_of log)).seen.bytes file ++ bytes.items) own (append_tears file bytes.items (after_calls (calls_of log)).seen)).0,
      own_bytes file ((after_calls (calls_of log)).seen.bytes file ++ bytes.items) (after_calls (calls_of log)).seen,
    )

pub cuts_at : (file most : ℕ) (log log' : List MemCall) (n m : ℕ) → IsOwn file (disk_of log n) → log' ≡ log ++ Cut file most ∷ [] → n ≤ m
    → Writes file most 0 (disk_of log n) (disk_of log' m) × ((disk_of log' m).seen.bytes file ≡ take most ((disk_of log n).seen.bytes file))
cuts_at file most log log' n m own is le =
    subst (λ (calls : List DiskCall). Writes file most 0 (disk_of log n) (disk_at calls m) × ((disk_at calls m).seen.bytes file ≡ take most ((disk_of log n).seen.bytes file)))
    (sym (ap calls_of is ∙ noted log (Cut file most) (is_owned file (shown_of log) (calls_of log) (shows log) own))) (
      writes_with file most 0 (after_calls (calls_of log)) _ n m le ((loses_of log).writes file most 0 (take most ((after_calls (calls_of log)).seen.bytes file)) own (cut_tears file most (after_calls (calls_of log)).seen)).0,
      own_bytes file (take most ((after_calls (calls_of log)).seen.bytes file)) (after_calls (calls_of log)).seen,
    )

pub syncs_at : (file : ℕ) (log log' : List MemCall) (n m : ℕ) → log' ≡ log ++ Sync file ∷ [] → n ≤ m → Calm (disk_of log n) (disk_of log' m) × IsTrue ((disk_of log' m).is_synced file)
syncs_at file log log' n m is le = subst (λ (calls : List DiskCall). Calm (disk_of log n) (disk_at calls m) × IsTrue ((disk_at calls m).is_synced file)) (sym (ap calls_of is ∙ noted log (Sync file) refl))
    (calm_with (after_calls (calls_of log)) _ n m le ((loses_of log).syncs file).0, ((loses_of log).syncs file).1)

pub puts_at : (log log' : List MemCall) (n m : ℕ) → ((file : ℕ) → (disk_of log n).seen.names.beside ≡ Some file → IsTrue ((disk_of log n).is_synced file)) → log' ≡ log ++ Put ∷ [] → n ≤ m
    → PutsOver (disk_of log n) (disk_of log' m)
puts_at log log' n m ready is le = subst (λ (calls : List DiskCall). PutsOver (disk_of log n) (disk_at calls m))
    (sym (ap calls_of is ∙ noted log Put (is_ready_of (shown_of log).names.beside (shown_of log) (calls_of log) (shows log) (λ file same. ready file (ap (λ (n : Names). n.beside) (shows log).names ∙ same)))))
    (let puts = ((loses_of log).puts ready).0 in record { passes = passes_at (MayPutOver (after_calls (calls_of log)).seen.names) (after_calls (calls_of log)) _ n m le puts.passes; seen = puts.seen; synced = puts.synced })

pub closes_at : (cycle : ℕ) (whole : Bool) (log log' : List MemCall) (n m : ℕ) → ((file : ℕ) → (disk_of log n).seen.names.report ≡ Some file → IsTrue ((disk_of log n).is_synced file))
    → log' ≡ log ++ Close cycle whole ∷ [] → n ≤ m → ClosesOver cycle whole (disk_of log n) (disk_of log' m)
closes_at cycle whole log log' n m ready is le = subst (λ (calls : List DiskCall). ClosesOver cycle whole (disk_of log n) (disk_at calls m))
    (sym (ap calls_of is ∙ noted log (Close cycle whole) (is_ready_of (shown_of log).names.report (shown_of log) (calls_of log) (shows log) (λ file same. ready file (ap (λ (n : Names). n.report) (shows log).names ∙ same)))))
    (let closes = ((loses_of log).closes cycle whole ready).0 in record { passes = passes_at (MayCloseOver cycle whole (after_calls (calls_of log)).seen.names) (after_calls (calls_of log)) _ n m le closes.passes; seen = closes.seen; synced = closes.synced })

free_of : (name : Option ℕ) → name ≡ None → is_free name ≡ true
free_of name is = ap is_free is

pub makes_new_at : (log log' : List MemCall) (n m : ℕ) → (shown_of log).names.beside ≡ None → log' ≡ log ++ MakeNew ∷ [] → n ≤ m
    → Makes NewCheckpoint (length (shown_of log).files) (disk_of log n) (disk_of log' m)
makes_new_at log log' n m free is le = subst (λ (calls : List DiskCall). Makes NewCheckpoint (length (shown_of log).files) (disk_of log n) (disk_at calls m))
    (sym (ap calls_of is ∙ noted log MakeNew (free_of (shown_of log).names.beside free)))
    (let makes = ((loses_of log).makes_new (length (shown_of log).files) (ap (λ (n : Names). n.beside) (shows log).names ∙ free) ((shows log).new (length (shown_of log).files) (omega arith))).0 in
    record { passes = passes_at (MayMake NewCheckpoint (length (shown_of log).files) (after_calls (calls_of log)).seen.names) (after_calls (calls_of log)) _ n m le makes.passes; nameless = makes.nameless; none = makes.none; names = makes.names; empty = makes.empty; others = makes.others; synced = makes.synced })

pub makes_report_at : (log log' : List MemCall) (n m : ℕ) → (shown_of log).names.report ≡ None → log' ≡ log ++ MakeReport ∷ [] → n ≤ m
    → Makes Report (length (shown_of log).files) (disk_of log n) (disk_of log' m)
makes_report_at log log' n m free is le = subst (λ (calls : List DiskCall). Makes Report (length (shown_of log).files) (disk_of log n) (disk_at calls m))
    (sym (ap calls_of is ∙ noted log MakeReport (free_of (shown_of log).names.report free)))
    (let makes = ((loses_of log).makes_report (length (shown_of log).files) (ap (λ (n : Names). n.report) (shows log).names ∙ free) ((shows log).new (length (shown_of log).files) (omega arith))).0 in
    record { passes = passes_at (MayMake Report (length (shown_of log).files) (after_calls (calls_of log)).seen.names) (after_calls (calls_of log)) _ n m le makes.passes; nameless = makes.nameless; none = makes.none; names = makes.names; empty = makes.empty; others = makes.others; synced = makes.synced })

-- The same of a call that was noted, or was not.
pub drops_either : {A E : Type 0} (log log' : List MemCall) (n m : ℕ) (r : Result A E) → OnOk r (log' ≡ log ++ Remove ∷ []) → OnErr r (log' ≡ log) → n ≤ m → Drops (disk_of log n) (disk_of log' m)
drops_either log log' n m (Ok v) ok err le = drops_at log log' n m ok le
drops_either log log' n m (Err e) ok err le = no_drop_at log log' n m err le

pub appends_either : {A E : Type 0} (file : ℕ) (bytes : Vec ℕ Global) (log log' : List MemCall) (n m : ℕ) (r : Result A E) → IsOwn file (disk_of log n) → OnOk r (log' ≡ log ++ Append file bytes ∷ []) → OnErr r (log' ≡ log) → n ≤ m
    → Writes file (length ((disk_of log n).seen.bytes file)) (length ((disk_of log n).seen.bytes file ++ bytes.items)) (disk_of log n) (disk_of log' m)
appends_either file bytes log log' n m (Ok v) own ok err le = (appends_at file bytes log log' n m own ok le).0
appends_either file bytes log log' n m (Err e) own ok err le = no_write_at file _ _ log log' n m err le

pub appended_ok : {A E : Type 0} (file : ℕ) (bytes : Vec ℕ Global) (log log' : List MemCall) (n m : ℕ) (r : Result A E) → IsOwn file (disk_of log n) → OnOk r (log' ≡ log ++ Append file bytes ∷ []) → n ≤ m
    → OnOk r ((disk_of log' m).seen.bytes file ≡ (disk_of log n).seen.bytes file ++ bytes.items)
appended_ok file bytes log log' n m (Ok v) own ok le = (appends_at file bytes log log' n m own ok le).1
appended_ok file bytes log log' n m (Err e) own ok le = tt

pub cuts_either : {A E : Type 0} (file most : ℕ) (log log' : List MemCall) (n m : ℕ) (r : Result A E) → IsOwn file (disk_of log n) → OnOk r (log' ≡ log ++ Cut file most ∷ []) → OnErr r (log' ≡ log) → n ≤ m
    → Writes file most 0 (disk_of log n) (disk_of log' m)
cuts_either file most log log' n m (Ok v) own ok err le = (cuts_at file most log log' n m own ok le).0
cuts_either file most log log' n m (Err e) own ok err le = no_write_at file most 0 log log' n m err le

pub cut_ok : {A E : Type 0} (file most : ℕ) (log log' : List MemCall) (n m : ℕ) (r : Result A E) → IsOwn file (disk_of log n) → OnOk r (log' ≡ log ++ Cut file most ∷ []) → n ≤ m
    → OnOk r ((disk_of log' m).seen.bytes file ≡ take most ((disk_of log n).seen.bytes file))
cut_ok file most log log' n m (Ok v) own ok le = (cuts_at file most log log' n m own ok le).1
cut_ok file most log log' n m (Err e) own ok le = tt

pub syncs_either : {A E : Type 0} (file : ℕ) (log log' : List MemCall) (n m : ℕ) (r : Result A E) → OnOk r (log' ≡ log ++ Sync file ∷ []) → OnErr r (log' ≡ log) → n ≤ m → Calm (disk_of log n) (disk_of log' m)
syncs_either file log log' n m (Ok v) ok err le = (syncs_at file log log' n m ok le).0
syncs_either file log log' n m (Err e) ok err le = calm_at log log' n m err le

pub synced_ok : {A E : Type 0} (file : ℕ) (log log' : List MemCall) (n m : ℕ) (r : Result A E) → OnOk r (log' ≡ log ++ Sync file ∷ []) → n ≤ m → OnOk r (IsTrue ((disk_of log' m).is_synced file))
synced_ok file log log' n m (Ok v) ok le = (syncs_at file log log' n m ok le).1
synced_ok file log log' n m (Err e) ok le = tt

pub puts_either : {A E : Type 0} (log log' : List MemCall) (n m : ℕ) (r : Result A E) → ((file : ℕ) → (disk_of log n).seen.names.beside ≡ Some file → IsTrue ((disk_of log n).is_synced file)) → OnOk r (log' ≡ log ++ Put ∷ []) → OnErr r (log' ≡ log) → n ≤ m
    → MatchResult r (λ _. PutsOver (disk_of log n) (disk_of log' m)) (λ _. Calm (disk_of log n) (disk_of log' m) ⊎ PutsOver (disk_of log n) (disk_of log' m))
puts_either log log' n m (Ok v) ready ok err le = puts_at log log' n m ready ok le
puts_either log log' n m (Err e) ready ok err le = inl (calm_at log log' n m err le)

pub closes_either : {A E : Type 0} (cycle : ℕ) (whole : Bool) (log log' : List MemCall) (n m : ℕ) (r : Result A E) → ((file : ℕ) → (disk_of log n).seen.names.report ≡ Some file → IsTrue ((disk_of log n).is_synced file))
    → OnOk r (log' ≡ log ++ Close cycle whole ∷ []) → OnErr r (log' ≡ log) → n ≤ m
    → MatchResult r (λ _. ClosesOver cycle whole (disk_of log n) (disk_of log' m)) (λ _. Calm (disk_of log n) (disk_of log' m) ⊎ ClosesOver cycle whole (disk_of log n) (disk_of log' m))
closes_either cycle whole log log' n m (Ok v) ready ok err le = closes_at cycle whole log log' n m ready ok le
closes_either cycle whole log log' n m (Err e) ready ok err le = inl (calm_at log log' n m err le)

-- a folder was synced
pub record Brings (folder : StateFile) (old new : DiskState) : Type 0 where
  pub calm : Calm old new
  pub others : (other : StateFile) → IsTrue (old.has_names other) → IsTrue (new.has_names other)
  pub names : IsTrue (new.has_names folder)
  pub checkpoint : folder ≡ Folder → (c : Stored) → new.may_leave c → c.names.checkpoint ≡ old.seen.names.checkpoint

pub folder_at : (log log' : List MemCall) (n m : ℕ) → log' ≡ log ++ SyncFolder ∷ [] → n ≤ m → Brings Folder (disk_of log n) (disk_of log' m)
folder_at log log' n m is le = subst (λ (calls : List DiskCall). Brings Folder (disk_of log n) (disk_at calls m)) (sym (ap calls_of is ∙ noted log SyncFolder refl))
    (record {
      calm = calm_with (after_calls (calls_of log)) _ n m le ((loses_of log).syncs_folder Folder).0;
      others = λ other has. or_left ((after_calls (calls_of log)).has_names other) _ has;
      names = or-true ((after_calls (calls_of log)).has_names Folder);
      checkpoint = λ same c left. left.checkpoint refl;
    })

pub reports_at : (log log' : List MemCall) (n m : ℕ) → log' ≡ log ++ SyncReports ∷ [] → n ≤ m → Brings Reports (disk_of log n) (disk_of log' m)
reports_at log log' n m is le = subst (λ (calls : List DiskCall). Brings Reports (disk_of log n) (disk_at calls m)) (sym (ap calls_of is ∙ noted log SyncReports refl))
    (record {
      calm = calm_with (after_calls (calls_of log)) _ n m le ((loses_of log).syncs_folder Reports).0;
      others = λ other has. or_left ((after_calls (calls_of log)).has_names other) _ has;
      names = or-true ((after_calls (calls_of log)).has_names Reports);
      checkpoint = λ same. absurd cc;
    })

-- what reads show is what the disk shows
pub bytes_shown : (log : List MemCall) (n file : ℕ) → (stuff_of file (shown_of log)).bytes ≡ (disk_of log n).seen.bytes file
bytes_shown log n file = sym ((shows log).bytes file)

pub names_shown : (log : List MemCall) (n : ℕ) → (disk_of log n).seen.names ≡ (shown_of log).names
names_shown log n = (shows log).names

pub bytes_read : (log log' : List MemCall) (s : Shown) (n file : ℕ) (bytes : Bytes) → bytes ≡ (stuff_of file s).bytes → s ≡ shown_of log' → log' ≡ log → bytes ≡ (disk_of log n).seen.bytes file
bytes_read log log' s n file bytes read shows same = read ∙ ap (λ (a : Shown). (stuff_of file a).bytes) (shows ∙ ap shown_of same) ∙ bytes_shown log n file

pub names_read : (log log' : List MemCall) (s : Shown) (n : ℕ) → s ≡ shown_of log' → log' ≡ log → s.names ≡ (disk_of log n).seen.names
names_read log log' s n shows same = ap (λ (a : Shown). a.names) (shows ∙ ap shown_of same) ∙ sym (names_shown log n)

-- a folder was synced, or was not
pub record BringsOrFails {A E : Type 0} (folder : StateFile) (old new : DiskState) (r : Result A E) : Type 0 where
  pub calm : Calm old new
  pub others : (other : StateFile) → IsTrue (old.has_names other) → IsTrue (new.has_names other)
  pub names : OnOk r (IsTrue (new.has_names folder))
  pub checkpoint : folder ≡ Folder → OnOk r ((c : Stored) → new.may_leave c → c.names.checkpoint ≡ old.seen.names.checkpoint)

others_at : (log log' : List MemCall) (n m : ℕ) → log' ≡ log → (other : StateFile) → IsTrue ((disk_of log n).has_names other) → IsTrue ((disk_of log' m).has_names other)
others_at log log' n m is other = subst (λ (l : List MemCall). IsTrue ((disk_of log n).has_names other) → IsTrue ((disk_of l m).has_names other)) (sym is) (λ has. has)

brings_either : {A E : Type 0} (folder : StateFile) (log log' : List MemCall) (n m : ℕ) (r : Result A E) → OnOk r (Brings folder (disk_of log n) (disk_of log' m)) → OnErr r (log' ≡ log) → n ≤ m
    → BringsOrFails folder (disk_of log n) (disk_of log' m) r
brings_either which log log' n m (Ok v) ok err le = record { calm = ok.calm; others = ok.others; names = ok.names; checkpoint = ok.checkpoint }
brings_either which log log' n m (Err e) ok err le = record { calm = calm_at log log' n m err le; others = others_at log log' n m err; names = tt; checkpoint = λ same. tt }

on_ok : {A E P Q : Type 0} (r : Result A E) → (P → Q) → OnOk r P → OnOk r Q
on_ok (Ok v) step ok = step ok
on_ok (Err e) step ok = tt

pub folder_either : {A E : Type 0} (log log' : List MemCall) (n m : ℕ) (r : Result A E) → OnOk r (log' ≡ log ++ SyncFolder ∷ []) → OnErr r (log' ≡ log) → n ≤ m → BringsOrFails Folder (disk_of log n) (disk_of log' m) r
folder_either log log' n m r ok err le = brings_either Folder log log' n m r (on_ok r (λ is. folder_at log log' n m is le) ok) err le

pub reports_either : {A E : Type 0} (log log' : List MemCall) (n m : ℕ) (r : Result A E) → OnOk r (log' ≡ log ++ SyncReports ∷ []) → OnErr r (log' ≡ log) → n ≤ m → BringsOrFails Reports (disk_of log n) (disk_of log' m) r
reports_either log log' n m r ok err le = brings_either Reports log log' n m r (on_ok r (λ is. reports_at log log' n m is le) ok) err le

pub found_as : (which name : StateFile) (names : Names) (found : Option ℕ) → name ≡ which → IsFound which names found → IsFound name names found
found_as which name names found same is = subst (λ (a : StateFile). IsFound a names found) (sym same) is

pub found_other : (name : StateFile) (names : Names) (found : Option ℕ) → (name ≡ Checkpoint → ⊥) → (name ≡ Report → ⊥) → IsFound name names found
found_other Checkpoint names found differs _ = absurd (differs refl)
found_other Report names found _ differs = absurd (differs refl)
found_other Folder names found _ _ = tt
found_other Above names found _ _ = tt
found_other NewCheckpoint names found _ _ = tt
found_other Reports names found _ _ = tt
found_other (Whole cycle) names found _ _ = tt
found_other (Incomplete cycle) names found _ _ = tt
found_other (Kept cycle) names found _ _ = tt
found_other Lock names found _ _ = tt
found_other Stop names found _ _ = tt
found_other Log names found _ _ = tt
found_other ScriptsCursor names found _ _ = tt
found_other ScriptsLog names found _ _ = tt

none_of : (name : Option ℕ) → is_some name ≡ false → name ≡ None
none_of None is = refl
none_of (Some n) is = absurd cc

pub made_new : (name : StateFile) (file : ℕ) (s : Shown) (log log' : List MemCall) (n m : ℕ) → name ≡ NewCheckpoint → file ≡ length s.files → s ≡ shown_of log → is_some s.names.beside ≡ false → log' ≡ log ++ MakeNew ∷ [] → n ≤ m
    → Makes name file (disk_of log n) (disk_of log' m)
made_new name file s log log' n m named counted shows free is le = subst (λ (a : StateFile). Makes a file (disk_of log n) (disk_of log' m)) (sym named)
    (subst (λ (k : ℕ). Makes NewCheckpoint k (disk_of log n) (disk_of log' m)) (sym (counted ∙ ap (λ (a : Shown). length a.files) shows))
    (makes_new_at log log' n m (none_of (shown_of log).names.beside (sym (ap (λ (a : Shown). is_some a.names.beside) shows) ∙ free)) is le))

pub made_report : (name : StateFile) (file : ℕ) (s : Shown) (log log' : List MemCall) (n m : ℕ) → name ≡ Report → file ≡ length s.files → s ≡ shown_of log → is_some s.names.report ≡ false → log' ≡ log ++ MakeReport ∷ [] → n ≤ m
    → Makes name file (disk_of log n) (disk_of log' m)
made_report name file s log log' n m named counted shows free is le = subst (λ (a : StateFile). Makes a file (disk_of log n) (disk_of log' m)) (sym named)
    (subst (λ (k : ℕ). Makes Report k (disk_of log n) (disk_of log' m)) (sym (counted ∙ ap (λ (a : Shown). length a.files) shows))
    (makes_report_at log log' n m (none_of (shown_of log).names.report (sym (ap (λ (a : Shown). is_some a.names.report) shows) ∙ free)) is le))
