-- What the disk in memory shows is what the disk that loses most shows.
use Rattle.std.proofs.Common.{◌≡◌, ◌≢◌, ◌⊎◌, inl, inr, ⊎_elim, ℕ, zero, suc, ◌≤◌, ◌<◌, max, Bool, true, false, ◌&&◌, ◌||◌, ◌==◌, not, List, [], ◌∷◌, ◌++◌, length, take, set, Option, Some, None, refl, sym, ◌∙◌, subst, ap, arith, append_assoc, length-append}
use Rattle.std.specs.Prelude.{IsTrue, get_or}
use Rattle.std.proofs.Math.Bool.{and-false, and-true, or-false, or-true}
use Rattle.std.proofs.lemmas.{Bool.{cases_eq, cases_lt, eq-eqb, eqb-true, ne_eqb, or_cases}, Option.{none-some}}
use Rattle.std.proofs.lemmas.List.{get_or-set_same, get_or-set_other, get_or_append_left, get_or_past, length-set, length-take}
use Rattle.std.proofs.Math.{Seq.{get_or-append_seam}, Nat.{eq-or-lt_of_le}}
use Rattle.ocfl_state.specs.{Content.{Bytes}, Crash.{Begins}}
use Rattle.ocfl_disk.specs.Names.{ClosedName, Names, Stored, IsNameless, with_named, closed_names}
use Rattle.ocfl_disk.specs.PowerCut.{DiskState, MayTear, MayDrop, MayPutOver, MayCloseOver, AreSynced, IsDisk}
use Rattle.ocfl_disk.specs.Losing.{DiskCall, after_calls, with_bytes, unsynced, IsOwn, write}
use Rattle.ocfl_disk.specs.declared.state_file.StateFile.{StateFile}
use Rattle.ocfl_disk.specs.declared.state_file.StateFile.TheVariants.{NewCheckpoint, Report}
use Rattle.ocfl_disk.proofs.Losing.{is_disk, not_closed, number_of, other_bytes, own_bytes}
use Rattle.ocfl_mem_disk.specs.Log.{Stuff, Shown, blank, stuff_of, is_name_of, is_own, is_free, is_ready, may_make, with_stuff, with_empty, shown_after, call_of, shown_if, calls_if, shown_next, nothing, shown_from, calls_from, shown_of, calls_of, disk_of, IsShown}
use Rattle.ocfl_mem_disk.specs.declared.mem_call.MemCall.{MemCall}
use Rattle.ocfl_mem_disk.specs.declared.mem_call.MemCall.TheVariants.{Append, Cut, MakeNew, MakeReport, Remove, Put, Close, Sync, SyncFolder, SyncReports}

named_by : (file : ℕ) (name : Option ℕ) → is_name_of file name ≡ true → name ≡ Some file
named_by file None is = absurd cc
named_by file (Some other) is = ap Some (eqb-true other file is)

names_it : (file : ℕ) (name : Option ℕ) → name ≡ Some file → is_name_of file name ≡ true
names_it file name is = ap (is_name_of file) is ∙ eq-eqb file file refl

free_is_none : (name : Option ℕ) → is_free name ≡ true → name ≡ None
free_is_none None is = refl
free_is_none (Some n) is = absurd cc

abbrev stuff : Bytes → Bool → Stuff
stuff bytes synced = record { bytes = bytes; synced = synced }

-- which file is the disk's own
own_of : (file : ℕ) (s : Shown) (calls : List DiskCall) → IsShown s calls → is_own file s ≡ true → IsOwn file (after_calls calls)
own_of file s calls is own = ⊎_elim
    (λ report. inl (ap (λ (n : Names). n.report) is.names ∙ named_by file s.names.report report))
    (λ beside. inr (ap (λ (n : Names). n.beside) is.names ∙ named_by file s.names.beside beside))
    (or_cases (is_name_of file s.names.report) (is_name_of file s.names.beside) own)

pub is_owned : (file : ℕ) (s : Shown) (calls : List DiskCall) → IsShown s calls → IsOwn file (after_calls calls) → is_own file s ≡ true
is_owned file s calls is (inl report) = ap (λ (b : Bool). b || is_name_of file s.names.beside) (names_it file s.names.report (sym (ap (λ (n : Names). n.report) is.names) ∙ report))
is_owned file s calls is (inr beside) = ap (λ (b : Bool). is_name_of file s.names.report || b) (names_it file s.names.beside (sym (ap (λ (n : Names). n.beside) is.names) ∙ beside)) ∙ or-true (is_name_of file s.names.report)

own_is_there : (file : ℕ) (s : Shown) (calls : List DiskCall) → IsShown s calls → IsOwn file (after_calls calls) → file < length s.files
own_is_there file s calls is own = by (cases_lt file (length s.files))
  where
    by : (file < length s.files) ⊎ (length s.files ≤ file) → file < length s.files
    by (inl lt) = lt
    by (inr le) = absurd (⊎_elim (is.new file le (after_calls calls).seen (is_disk calls is.allowed).stays).report (is.new file le (after_calls calls).seen (is_disk calls is.allowed).stays).beside own)

-- one file has other bytes
set_at : (file : ℕ) (x : Stuff) (s : Shown) (other : ℕ) → file < length s.files → other ≡ file → get_or (set s.files file x) other blank ≡ x
set_at file x s other lt same = subst (λ (n : ℕ). get_or (set s.files file x) n blank ≡ x) (sym same) (get_or-set_same s.files file x blank lt)

wrote : (file : ℕ) (bytes : Bytes) (n most : ℕ) (s : Shown) (calls : List DiskCall) → IsShown s calls → IsOwn file (after_calls calls) → MayTear file n most (after_calls calls).seen (with_bytes file bytes (after_calls calls).seen)
    → IsShown (with_stuff file bytes false s) (write file bytes n most ∷ calls)
wrote file bytes n most s calls is own tears = record {
  allowed = (is.allowed, (own, tears));
  names = is.names;
  bytes = λ other. bytes_at other (cases_eq other file);
  synced = λ other. synced_at other (cases_eq other file);
  new = λ other le c left. subst (IsNameless other) (sym left.2.names) (is.new other (subst (λ (k : ℕ). k ≤ other) (length-set s.files file now) le) left.0 left.1);
}
  where
    now : Stuff
    now = record { bytes = bytes; synced = false }

    lt : file < length s.files
    lt = own_is_there file s calls is own

    bytes_at : (other : ℕ) → (other ≡ file) ⊎ (other ≢ file) → (with_bytes file bytes (after_calls calls).seen).bytes other ≡ (stuff_of other (with_stuff file bytes false s)).bytes
    bytes_at other (inl same) = subst (λ (k : ℕ). (with_bytes file bytes (after_calls calls).seen).bytes k ≡ bytes) (sym same) (own_bytes file bytes (after_calls calls).seen) ∙ sym (ap (λ (x : Stuff). x.bytes) (set_at file now s other lt same))
    bytes_at other (inr differs) = other_bytes file bytes (after_calls calls).seen other differs ∙ is.bytes other ∙ sym (ap (λ (x : Stuff). x.bytes) (get_or-set_other s.files file other now blank differs))

    synced_at : (other : ℕ) → (other ≡ file) ⊎ (other ≢ file) → unsynced file (after_calls calls) other ≡ (stuff_of other (with_stuff file bytes false s)).synced
    synced_at other (inl same) = ap (λ (b : Bool). (after_calls calls).is_synced other && not b) (subst (λ (k : ℕ). (k == file) ≡ true) (sym same) (eq-eqb file file refl)) ∙ and-false ((after_calls calls).is_synced other) ∙ sym (ap (λ (x : Stuff). x.synced) (set_at file now s other lt same))
    synced_at other (inr differs) = ap (λ (b : Bool). (after_calls calls).is_synced other && not b) (ne_eqb other file differs) ∙ and-true ((after_calls calls).is_synced other) ∙ is.synced other ∙ sym (ap (λ (x : Stuff). x.synced) (get_or-set_other s.files file other now blank differs))

-- bytes that are appended, and a cut, tear no more than they may
pub append_tears : (file : ℕ) (bytes : Bytes) (s : Stored) → MayTear file (length (s.bytes file)) (length (s.bytes file ++ bytes)) s (with_bytes file (s.bytes file ++ bytes) s)
append_tears file bytes s = record {
  names = refl;
  others = other_bytes file (s.bytes file ++ bytes) s;
  front = λ text le begins. subst (Begins text) (sym (own_bytes file (s.bytes file ++ bytes) s)) (begins.0 ++ bytes, ap (λ (l : Bytes). l ++ bytes) begins.1 ∙ append_assoc text begins.0 bytes);
  no_longer = subst (λ (l : Bytes). length l ≤ max (length (s.bytes file)) (length (s.bytes file ++ bytes))) (sym (own_bytes file (s.bytes file ++ bytes) s)) (omega arith);
}

take_front : (text rest : Bytes) (most : ℕ) → length text ≤ most → Begins text (take most (text ++ rest))
take_front [] rest most le = (take most rest, refl)
take_front (x ∷ text) rest zero le = absurd (omega (arith, le))
take_front (x ∷ text) rest (suc most) le = let more = take_front text rest most (omega (arith, le)) in (more.0, ap (λ (l : Bytes). x ∷ l) more.1)

pub cut_tears : (file most : ℕ) (s : Stored) → MayTear file most 0 s (with_bytes file (take most (s.bytes file)) s)
cut_tears file most s = record {
  names = refl;
  others = other_bytes file (take most (s.bytes file)) s;
  front = λ text le begins. subst (Begins text) (sym (own_bytes file (take most (s.bytes file)) s)) (subst (λ (l : Bytes). Begins text (take most l)) (sym begins.1) (take_front text begins.0 most le));
  no_longer = subst (λ (l : Bytes). length l ≤ max (length (s.bytes file)) 0) (sym (own_bytes file (take most (s.bytes file)) s)) (omega (arith, length-take most (s.bytes file)));
}

-- a file that was made is at the end
made_at : (s : Shown) (names : Names) (other : ℕ) → other ≢ length s.files → stuff_of other (with_empty names s) ≡ stuff_of other s
made_at s names other differs = by (cases_lt other (length s.files))
  where
    last : Stuff
    last = record { bytes = []; synced = false }

    longer : length s.files ≤ other → length (s.files ++ last ∷ []) ≤ other
    longer le = ⊎_elim (λ same. absurd (differs (sym same))) (λ lt. omega (arith, length-append s.files (last ∷ []), lt)) (eq-or-lt_of_le le)

    by : (other < length s.files) ⊎ (length s.files ≤ other) → stuff_of other (with_empty names s) ≡ stuff_of other s
    by (inr le) = get_or_past (s.files ++ last ∷ []) other blank (longer le) ∙ sym (get_or_past s.files other blank le)
    by (inl lt) = get_or_append_left s.files (last ∷ []) blank other lt

made_last : (s : Shown) (names : Names) (other : ℕ) → other ≡ length s.files → stuff_of other (with_empty names s) ≡ record { bytes = []; synced = false }
made_last s names other same = subst (λ (k : ℕ). stuff_of k (with_empty names s) ≡ record { bytes = []; synced = false }) (sym same) (get_or-append_seam s.files (record { bytes = []; synced = false }) [] blank)

-- what a call that makes a file shows
made : (s : Shown) (d : DiskState) (names : Names) → ((other : ℕ) → d.seen.bytes other ≡ (stuff_of other s).bytes) → ((other : ℕ) → d.is_synced other ≡ (stuff_of other s).synced)
    → ((other : ℕ) → (with_bytes (length s.files) [] d.seen).bytes other ≡ (stuff_of other (with_empty names s)).bytes)
    × ((other : ℕ) → unsynced (length s.files) d other ≡ (stuff_of other (with_empty names s)).synced)
made s d names bytes synced = (λ other. bytes_at other (cases_eq other (length s.files)), λ other. synced_at other (cases_eq other (length s.files)))
  where
    bytes_at : (other : ℕ) → (other ≡ length s.files) ⊎ (other ≢ length s.files) → (with_bytes (length s.files) [] d.seen).bytes other ≡ (stuff_of other (with_empty names s)).bytes
    bytes_at other (inl same) = subst (λ (k : ℕ). (with_bytes (length s.files) [] d.seen).bytes k ≡ []) (sym same) (own_bytes (length s.files) [] d.seen) ∙ sym (ap (λ (x : Stuff). x.bytes) (made_last s names other same))
    bytes_at other (inr differs) = other_bytes (length s.files) [] d.seen other differs ∙ bytes other ∙ sym (ap (λ (x : Stuff). x.bytes) (made_at s names other differs))

    synced_at : (other : ℕ) → (other ≡ length s.files) ⊎ (other ≢ length s.files) → unsynced (length s.files) d other ≡ (stuff_of other (with_empty names s)).synced
    synced_at other (inl same) = ap (λ (b : Bool). d.is_synced other && not b) (subst (λ (k : ℕ). (k == length s.files) ≡ true) (sym same) (eq-eqb (length s.files) (length s.files) refl)) ∙ and-false (d.is_synced other) ∙ sym (ap (λ (x : Stuff). x.synced) (made_last s names other same))
    synced_at other (inr differs) = ap (λ (b : Bool). d.is_synced other && not b) (ne_eqb other (length s.files) differs) ∙ and-true (d.is_synced other) ∙ synced other ∙ sym (ap (λ (x : Stuff). x.synced) (made_at s names other differs))

more_files : (s : Shown) (names : Names) (other : ℕ) → length (with_empty names s).files ≤ other → (length s.files ≤ other) × (other ≢ length s.files)
more_files s names other le = (omega (arith, length-append s.files ((record { bytes = []; synced = false }) ∷ []), le), λ same. omega (arith, length-append s.files ((record { bytes = []; synced = false }) ∷ []), le, same))

still_nameless : (other file : ℕ) (name : StateFile) (e c : Names) → (name ≡ NewCheckpoint) ⊎ (name ≡ Report) → other ≢ file → (c ≡ e) ⊎ (c ≡ with_named name file e) → IsNameless other e → IsNameless other c
still_nameless other file name e c which differs (inl same) apart = subst (IsNameless other) (sym same) apart
still_nameless other file name e c (inl new) differs (inr is) apart = subst (IsNameless other) (sym (is ∙ ap (λ (n : StateFile). with_named n file e) new))
    (record { apart = record { checkpoint = apart.apart.checkpoint; closed = apart.apart.closed }; beside = λ same. differs (sym (number_of file other same)); report = apart.report })
still_nameless other file name e c (inr new) differs (inr is) apart = subst (IsNameless other) (sym (is ∙ ap (λ (n : StateFile). with_named n file e) new))
    (record { apart = record { checkpoint = apart.apart.checkpoint; closed = apart.apart.closed }; beside = apart.beside; report = λ same. differs (sym (number_of file other same)) })

second : {A B : Type 0} (e c : Names) → (c ≡ e) ⊎ (A × B) → (c ≡ e) ⊎ B
second e c (inl same) = inl same
second e c (inr is) = inr is.1

dropped : (other : ℕ) (e c : Stored) → MayDrop e c → IsNameless other e.names → IsNameless other c.names
dropped other e c (inl is) apart = subst (λ (s : Stored). IsNameless other s.names) (sym is) apart
dropped other e c (inr is) apart = subst (λ (s : Stored). IsNameless other s.names) (sym is)
    (record { apart = record { checkpoint = apart.apart.checkpoint; closed = apart.apart.closed }; beside = none-some other; report = apart.report })

put_over_it : (shown : Names) (other : ℕ) (e c : Stored) → MayPutOver shown e c → IsNameless other e.names → IsNameless other c.names
put_over_it shown other e c (inl is) apart = subst (λ (s : Stored). IsNameless other s.names) (sym is) apart
put_over_it shown other e c (inr is) apart = subst (λ (s : Stored). IsNameless other s.names) (sym is.1)
    (record { apart = record { checkpoint = apart.beside; closed = apart.apart.closed }; beside = none-some other; report = apart.report })

closed_over_it : (cycle : ℕ) (whole : Bool) (shown : Names) (other : ℕ) (e c : Stored) → MayCloseOver cycle whole shown e c → IsNameless other e.names → IsNameless other c.names
closed_over_it cycle whole shown other e c (inl is) apart = subst (λ (s : Stored). IsNameless other s.names) (sym is) apart
closed_over_it cycle whole shown other e c (inr is) apart = subst (λ (s : Stored). IsNameless other s.names) (sym is.1)
    (record { apart = record { checkpoint = apart.apart.checkpoint; closed = not_closed cycle whole other e.names.report e.names.closed apart.report apart.apart.closed }; beside = apart.beside; report = none-some other })

ready_of : (name : Option ℕ) (s : Shown) (calls : List DiskCall) → IsShown s calls → is_ready name s ≡ true → (file : ℕ) → name ≡ Some file → IsTrue ((after_calls calls).is_synced file)
ready_of None s calls is ready file same = absurd (none-some file same)
ready_of (Some n) s calls is ready file same = subst (λ (k : ℕ). (after_calls calls).is_synced k ≡ true) (number_of n file same) (is.synced n ∙ ready)

pub is_ready_of : (name : Option ℕ) (s : Shown) (calls : List DiskCall) → IsShown s calls → ((file : ℕ) → name ≡ Some file → IsTrue ((after_calls calls).is_synced file)) → is_ready name s ≡ true
is_ready_of None s calls is each = refl
is_ready_of (Some n) s calls is each = sym (is.synced n) ∙ each n refl

-- one call more
pub made_call : (call : MemCall) (s : Shown) (calls : List DiskCall) → IsShown s calls → may_make call s ≡ true → IsShown (shown_after call s) (call_of call s (after_calls calls) ∷ calls)
made_call (Append file bytes) s calls is may = subst (λ (b : Bytes). IsShown (with_stuff file (b ++ bytes.items) false s) (call_of (Append file bytes) s (after_calls calls) ∷ calls)) (is.bytes file)
    (wrote file _ _ _ s calls is (own_of file s calls is may) (append_tears file bytes.items (after_calls calls).seen))
made_call (Cut file most) s calls is may = subst (λ (b : Bytes). IsShown (with_stuff file (take most b) false s) (call_of (Cut file most) s (after_calls calls) ∷ calls)) (is.bytes file)
    (wrote file _ _ _ s calls is (own_of file s calls is may) (cut_tears file most (after_calls calls).seen))
made_call MakeNew s calls is may = record {
  allowed = (is.allowed, (ap (λ (n : Names). n.beside) is.names ∙ free_is_none s.names.beside may, is.new (length s.files) (omega arith)));
  names = ap (λ (n : Names). record n { beside = Some (length s.files) }) is.names;
  bytes = (made s (after_calls calls) (record s.names { beside = Some (length s.files) }) is.bytes is.synced).0;
  synced = (made s (after_calls calls) (record s.names { beside = Some (length s.files) }) is.bytes is.synced).1;
  new = λ other le c left. let old = more_files s s.names other le in still_nameless other (length s.files) NewCheckpoint left.0.names c.names (inl refl) old.1 (second left.0.names c.names left.2.names) (is.new other old.0 left.0 left.1);
}
made_call MakeReport s calls is may = record {
  allowed = (is.allowed, (ap (λ (n : Names). n.report) is.names ∙ free_is_none s.names.report may, is.new (length s.files) (omega arith)));
  names = ap (λ (n : Names). record n { report = Some (length s.files) }) is.names;
  bytes = (made s (after_calls calls) (record s.names { report = Some (length s.files) }) is.bytes is.synced).0;
  synced = (made s (after_calls calls) (record s.names { report = Some (length s.files) }) is.bytes is.synced).1;
  new = λ other le c left. let old = more_files s s.names other le in still_nameless other (length s.files) Report left.0.names c.names (inr refl) old.1 (second left.0.names c.names left.2.names) (is.new other old.0 left.0 left.1);
}
made_call Remove s calls is may = record {
  allowed = (is.allowed, tt);
  names = ap (λ (n : Names). record n { beside = None }) is.names;
  bytes = is.bytes;
  synced = is.synced;
  new = λ other le c left. dropped other left.0 c left.2 (is.new other le left.0 left.1);
}
made_call Put s calls is may = record {
  allowed = (is.allowed, λ file same. ready_of s.names.beside s calls is may file (sym (ap (λ (n : Names). n.beside) is.names) ∙ same));
  names = ap (λ (n : Names). record n { checkpoint = n.beside; beside = None }) is.names;
  bytes = is.bytes;
  synced = is.synced;
  new = λ other le c left. put_over_it (after_calls calls).seen.names other left.0 c left.2 (is.new other le left.0 left.1);
}
made_call (Close cycle whole) s calls is may = record {
  allowed = (is.allowed, λ file same. ready_of s.names.report s calls is may file (sym (ap (λ (n : Names). n.report) is.names) ∙ same));
  names = ap (λ (n : Names). record n { report = None; closed = closed_names cycle whole n.report n.closed }) is.names;
  bytes = is.bytes;
  synced = is.synced;
  new = λ other le c left. closed_over_it cycle whole (after_calls calls).seen.names other left.0 c left.2 (is.new other le left.0 left.1);
}
made_call (Sync file) s calls is may = record {
  allowed = (is.allowed, tt);
  names = is.names;
  bytes = λ other. is.bytes other ∙ sync_bytes other (cases_eq other file);
  synced = λ other. sync_synced other (cases_eq other file);
  new = λ other le c left. is.new other (subst (λ (k : ℕ). k ≤ other) (length-set s.files file now) le) c left.0;
}
  where
    now : Stuff
    now = record { bytes = (stuff_of file s).bytes; synced = true }

    own : (file < length s.files) ⊎ (length s.files ≤ file) → stuff_of file (with_stuff file now.bytes true s) ≡ now
    own (inl lt) = get_or-set_same s.files file now blank lt
    own (inr le) = get_or_past (set s.files file now) file blank (subst (λ (k : ℕ). k ≤ file) (sym (length-set s.files file now)) le) ∙ ap (λ (b : Bytes). stuff b true) (sym (ap (λ (x : Stuff). x.bytes) (get_or_past s.files file blank le)))

    sync_bytes : (other : ℕ) → (other ≡ file) ⊎ (other ≢ file) → (stuff_of other s).bytes ≡ (stuff_of other (with_stuff file now.bytes true s)).bytes
    sync_bytes other (inl same) = ap (λ (k : ℕ). (stuff_of k s).bytes) same ∙ sym (ap (λ (x : Stuff). x.bytes) (ap (λ (k : ℕ). stuff_of k (with_stuff file now.bytes true s)) same ∙ own (cases_lt file (length s.files))))
    sync_bytes other (inr differs) = sym (ap (λ (x : Stuff). x.bytes) (get_or-set_other s.files file other now blank differs))

    sync_synced : (other : ℕ) → (other ≡ file) ⊎ (other ≢ file) → ((after_calls calls).is_synced other || (other == file)) ≡ (stuff_of other (with_stuff file now.bytes true s)).synced
    sync_synced other (inl same) = ap (λ (b : Bool). (after_calls calls).is_synced other || b) (subst (λ (k : ℕ). (k == file) ≡ true) (sym same) (eq-eqb file file refl)) ∙ or-true ((after_calls calls).is_synced other)
        ∙ sym (ap (λ (x : Stuff). x.synced) (ap (λ (k : ℕ). stuff_of k (with_stuff file now.bytes true s)) same ∙ own (cases_lt file (length s.files))))
    sync_synced other (inr differs) = ap (λ (b : Bool). (after_calls calls).is_synced other || b) (ne_eqb other file differs) ∙ or-false ((after_calls calls).is_synced other) ∙ is.synced other
        ∙ sym (ap (λ (x : Stuff). x.synced) (get_or-set_other s.files file other now blank differs))
made_call SyncFolder s calls is may = record { allowed = (is.allowed, tt); names = is.names; bytes = is.bytes; synced = is.synced; new = λ other le c left. is.new other le c left.before }
made_call SyncReports s calls is may = record { allowed = (is.allowed, tt); names = is.names; bytes = is.bytes; synced = is.synced; new = λ other le c left. is.new other le c left.before }

next_call : (b : Bool) (call : MemCall) (s : Shown) (calls : List DiskCall) → IsShown s calls → may_make call s ≡ b → IsShown (shown_if b call s) (calls_if b call s calls)
next_call true call s calls is may = made_call call s calls is may
next_call false call s calls is may = is

pub shows_from : (log : List MemCall) (s : Shown) (calls : List DiskCall) → IsShown s calls → IsShown (shown_from s log) (calls_from s calls log)
shows_from [] s calls is = is
shows_from (call ∷ log) s calls is = shows_from log (shown_next call s) (calls_if (may_make call s) call s calls) (next_call (may_make call s) call s calls is refl)

begin : IsShown nothing []
begin = record {
  allowed = tt;
  names = refl;
  bytes = λ file. refl;
  synced = λ file. refl;
  new = λ file le c left. subst (λ (s : Stored). IsNameless file s.names) (sym left)
      (record { apart = record { checkpoint = none-some file; closed = tt }; beside = none-some file; report = none-some file });
}

-- after any log
pub shows : (log : List MemCall) → IsShown (shown_of log) (calls_of log)
shows log = shows_from log nothing [] begin

-- one call at the end
calls_last : (log : List MemCall) (call : MemCall) (s : Shown) (calls : List DiskCall) → calls_from s calls (log ++ call ∷ []) ≡ calls_if (may_make call (shown_from s log)) call (shown_from s log) (calls_from s calls log)
calls_last [] call s calls = refl
calls_last (c ∷ log) call s calls = calls_last log call (shown_next c s) (calls_if (may_make c s) c s calls)

pub noted : (log : List MemCall) (call : MemCall) → may_make call (shown_of log) ≡ true → calls_of (log ++ call ∷ []) ≡ call_of call (shown_of log) (after_calls (calls_of log)) ∷ calls_of log
noted log call may = calls_last log call nothing [] ∙ ap (λ (b : Bool). calls_if b call (shown_of log) (calls_of log)) may

abbrev pub with_faults : DiskState → ℕ → DiskState
with_faults d n = record d { faults = n }

synced_at : (d : DiskState) (n : ℕ) (names : List ClosedName) → AreSynced d names → AreSynced (with_faults d n) names
synced_at d n [] are = tt
synced_at d n (name ∷ names) are = (are.0, synced_at d n names are.1)

disk_with : (d : DiskState) (n : ℕ) → IsDisk d → IsDisk (with_faults d n)
disk_with d n is = record {
  stays = is.stays;
  counts_now = is.counts_now;
  only_now = is.only_now;
  bytes = is.bytes;
  names = is.names;
  checkpoint = is.checkpoint;
  closed = synced_at d n d.seen.names.closed is.closed;
  report = is.report;
  beside = is.beside;
}

pub is_disk_at : (log : List MemCall) (n : ℕ) → IsDisk (disk_of log n)
is_disk_at log n = disk_with (after_calls (calls_of log)) n (is_disk (calls_of log) (shows log).allowed)
