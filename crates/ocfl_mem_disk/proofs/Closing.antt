-- Calls of closings on a state folder in memory.
use Rattle.std.proofs.Common.{◌≡◌, ◌∙◌, ◌++◌, ◌↔◌, ℕ, List, [], ◌∷◌, Bool, true, false, codes, Option, Some, None, option_map, string_bytes, Vec, Bor, append_assoc, refl, sym, ap, subst}
use Rattle.std.specs.declared.alloc.Global.{Global}
use Rattle.ocfl_accounts.specs.Kept.{account_with, with_list, is_some as has}
use Rattle.std.specs.{Option.{is_some}, Prelude.{IfSome}}
use Rattle.std.proofs.lemmas.Option.{none-some}
use Rattle.ocfl_part_folders.specs.Folder.{first_of as first_text}
use Rattle.ocfl_mem_disk.specs.Paths.{bytes_at, has_file}
use Rattle.ocfl_mem_disk.specs.declared.mem_kept.MemKept.{MemKept}
use Rattle.std.specs.Prelude.{IsTrue}
use Rattle.ocfl_tree.specs.Place.{Text}
use Rattle.ocfl_state.specs.{Checkpoint.{Checkpoint, IsCheckpointText}}
use Rattle.ocfl_state.specs.declared.checkpoint_parts.ReportMark.{ReportMark}
use Rattle.ocfl_state.proofs.CheckpointTexts.{text_determines}
use Rattle.ocfl_kept.specs.{FilePaths.{list_path, packed_path, six_digits}, Keeping.{ClosedReport, HasMark, IsAsClosed, IsRead}}
use Rattle.ocfl_closed.specs.{Cut.{AreNamed, Calm, ClosedState, Names, Still}, Files.{Files, report_named}}
use Rattle.ocfl_closed.specs.Losing.{ListCall, list, sync, rename, sync_folder, after_call, after_calls}
use Rattle.ocfl_closed.proofs.{Losing.{loses}}
use Rattle.ocfl_closing.specs.Calls.{first_of}
use Rattle.ocfl_mem_disk.specs.declared.mem_closed_files.MemClosedFiles.{MemClosedFiles}
use Rattle.ocfl_mem_disk.specs.declared.mem_list_call.MemListCall.{MemListCall}
use Rattle.ocfl_mem_disk.specs.declared.mem_list_call.MemListCall.TheVariants.{Write, Sync, Put, SyncFolder}
use Rattle.ocfl_mem_disk.specs.Closings.{IsAsClosedIn, IsReportOf, call_of, calls_onto, closed_after, files_of, gone_digits, gone_in, list_from, state_of}
use Rattle.ocfl_mem_disk.proofs.Named.{behind_its_front}

-- ---- one call more

onto_last : (calls : List ListCall) (log : List MemListCall) (call : MemListCall) → calls_onto calls (log ++ call ∷ []) ≡ call_of call ∷ calls_onto calls log
onto_last calls [] call = refl
onto_last calls (c ∷ log) call = onto_last (call_of c ∷ calls) log call

pub after_last : (files : Files) (log : List MemListCall) (call : MemListCall) → closed_after files (log ++ call ∷ []) ≡ after_call (call_of call) (closed_after files log)
after_last files log call = ap (after_calls files) (onto_last [] log call)

after_same : (files : Files) (log log' : List MemListCall) (call : MemListCall) → log' ≡ log ++ call ∷ [] → closed_after files log' ≡ after_call (call_of call) (closed_after files log)
after_same files log log' call is = ap (closed_after files) is ∙ after_last files log call

pub write_calm : (files : Files) (log log' : List MemListCall) (bytes : Vec ℕ Global) → log' ≡ log ++ Write bytes ∷ [] → Calm (closed_after files log) (closed_after files log')
write_calm files log log' bytes is = subst (Calm (closed_after files log)) (sym (after_same files log log' (Write bytes) is)) ((loses (closed_after files log)).writes bytes.items).0

pub write_beside : (files : Files) (log log' : List MemListCall) (bytes : Vec ℕ Global) → log' ≡ log ++ Write bytes ∷ [] → (closed_after files log').beside ≡ bytes.items
write_beside files log log' bytes is = ap (λ (d : ClosedState). d.beside) (after_same files log log' (Write bytes) is)

pub sync_still : (files : Files) (log log' : List MemListCall) → log' ≡ log ++ Sync ∷ [] → Still (closed_after files log) (closed_after files log')
sync_still files log log' is = subst (Still (closed_after files log)) (sym (after_same files log log' Sync is)) (loses (closed_after files log)).syncs.0

pub sync_synced : (files : Files) (log log' : List MemListCall) → log' ≡ log ++ Sync ∷ [] → IsTrue (closed_after files log').is_synced
sync_synced files log log' is = subst (λ (d : ClosedState). IsTrue d.is_synced) (sym (after_same files log log' Sync is)) (loses (closed_after files log)).syncs.1

pub put_names : (files : Files) (log log' : List MemListCall) (cycle : ℕ) → log' ≡ log ++ Put cycle ∷ [] → Names cycle (closed_after files log) (closed_after files log')
put_names files log log' cycle is = subst (Names cycle (closed_after files log)) (sym (after_same files log log' (Put cycle) is)) ((loses (closed_after files log)).renames cycle)

pub folder_calm : (files : Files) (log log' : List MemListCall) → log' ≡ log ++ SyncFolder ∷ [] → Calm (closed_after files log) (closed_after files log')
folder_calm files log log' is = subst (Calm (closed_after files log)) (sym (after_same files log log' SyncFolder is)) (loses (closed_after files log)).names.0

pub folder_named : (files : Files) (log log' : List MemListCall) → log' ≡ log ++ SyncFolder ∷ [] → AreNamed (closed_after files log')
folder_named files log log' is = subst AreNamed (sym (after_same files log log' SyncFolder is)) (loses (closed_after files log)).names.1

-- ---- what is there

lists_from : (files : Files) (calls : List ListCall) (log : List MemListCall) (cycle : ℕ)
    → (after_calls files (calls_onto calls log)).files.lists cycle ≡ list_from cycle (after_calls files calls).beside ((after_calls files calls).files.lists cycle) log
lists_from files calls [] cycle = refl
lists_from files calls (Write bytes ∷ log) cycle = lists_from files (list bytes.items ∷ calls) log cycle
lists_from files calls (Sync ∷ log) cycle = lists_from files (sync ∷ calls) log cycle
lists_from files calls (Put number ∷ log) cycle = lists_from files (rename number ∷ calls) log cycle
lists_from files calls (SyncFolder ∷ log) cycle = lists_from files (sync_folder ∷ calls) log cycle

pub list_so : (m : MemClosedFiles) (log : List MemListCall) (path : Text) (cycle : ℕ) (start found : Option Text) → start ≡ bytes_at m.files.items path → found ≡ list_from cycle [] start log
    → path ≡ list_path (string_bytes m.path) cycle → found ≡ (state_of m log).files.lists cycle
list_so m log path cycle start found began is named =
    is ∙ ap (λ (o : Option Text). list_from cycle [] o log) (began ∙ ap (bytes_at m.files.items) named) ∙ sym (lists_from (files_of m) [] log cycle)

abbrev with_lists : (ℕ → Option Text) → Files → Files
with_lists lists f = record f { lists = lists }

-- no call changes another file
same_files : (files : Files) (calls : List ListCall) → (after_calls files calls).files ≡ with_lists (after_calls files calls).files.lists files
same_files files [] = refl
same_files files (list bytes ∷ calls) = same_files files calls
same_files files (sync ∷ calls) = same_files files calls
same_files files (rename cycle ∷ calls) = ap (with_lists (with_list (account_with cycle (after_calls files calls).beside) (after_calls files calls).files.lists)) (same_files files calls)
same_files files (sync_folder ∷ calls) = same_files files calls

pub packed_so : (m : MemClosedFiles) (log : List MemListCall) (path : Text) (cycle : ℕ) → path ≡ packed_path (string_bytes m.path) cycle false → has_file m.files.items path ≡ (state_of m log).files.packed cycle
packed_so m log path cycle is = ap (has_file m.files.items) is ∙ sym (ap (λ (f : Files). f.packed cycle) (same_files (files_of m) (calls_onto [] log)))

pub named_so : (m : MemClosedFiles) (log : List MemListCall) (whole : Bool) (cycle : ℕ) → report_named (files_of m) whole cycle ≡ report_named (state_of m log).files whole cycle
named_so m log true cycle = sym (ap (λ (f : Files). f.whole cycle) (same_files (files_of m) (calls_onto [] log)))
named_so m log false cycle = sym (ap (λ (f : Files). f.incomplete cycle) (same_files (files_of m) (calls_onto [] log)))

pub kept_so : (m : MemClosedFiles) (log : List MemListCall) (cycle : ℕ) → (files_of m).kept cycle ≡ (state_of m log).files.kept cycle
kept_so m log cycle = sym (ap (λ (f : Files). f.kept cycle) (same_files (files_of m) (calls_onto [] log)))

pub closed_so : (m : MemClosedFiles) (log : List MemListCall) (cycle : ℕ) (is : Bool) → IsAsClosedIn (files_of m) cycle is → IsAsClosedIn (state_of m log).files cycle is
closed_so m log cycle is h = subst (λ (f : Files). IsAsClosedIn f cycle is) (sym (same_files (files_of m) (calls_onto [] log))) h

-- ---- a report as it was closed

marked : (bytes : Text) (found : Option Checkpoint) (c : Checkpoint) (report : Option ClosedReport) (is : Bool) → found ≡ Some c → IsRead bytes found → IsTrue is ↔ HasMark c.report report → IsTrue is ↔ IsAsClosed (Some bytes) report
marked bytes found c report is some h e =
    let own : IsCheckpointText bytes c = subst (IsRead bytes) some h in
    ((λ i. (c, own, e.0 i)), (λ k. e.1 (subst (λ (d : Checkpoint). HasMark d.report report) (text_determines bytes k.0 c k.1 own) k.2)))

pub by_mark : (o : Option MemKept) (k : MemKept) (c : Checkpoint) (mark : ReportMark) (report : Option ClosedReport) (is : Bool) → Some k ≡ o → k.checkpoint ≡ Some c → mark ≡ c.report → IsTrue is ↔ HasMark mark report
    → IsTrue is ↔ IsAsClosed (option_map (λ k. k.bytes.items) o) report
by_mark o k c mark report is some found own e =
    let is_marked : IsTrue is ↔ HasMark c.report report = subst (λ (m : ReportMark). IsTrue is ↔ HasMark m report) own e in
    subst (λ (p : Option MemKept). IsTrue is ↔ IsAsClosed (option_map (λ k. k.bytes.items) p) report) some (marked k.bytes.items k.checkpoint c report is found k.read is_marked)

pub report_bytes : (whole incomplete bytes : Option Text) → bytes ≡ first_text whole incomplete → IsReportOf (first_of whole incomplete) bytes
report_bytes (Some text) other bytes is = sym is
report_bytes None (Some text) bytes is = sym is
report_bytes None None bytes is = sym is

-- ---- the paths of lists

gone_of_list : (state : Text) (cycle : ℕ) → gone_digits state (list_path state cycle) ≡ Some (six_digits cycle)
gone_of_list state cycle = ap gone_in (behind_its_front state (codes "/reports/gone-" ++ six_digits cycle)) ∙ behind_its_front (codes "/reports/gone-") (six_digits cycle)

none_gone_of_packed : (state : Text) (cycle : ℕ) → gone_digits state (packed_path state cycle false) ≡ None
none_gone_of_packed state cycle =
    ap (gone_digits state) (append_assoc state (codes "/reports/incomplete-" ++ six_digits cycle) (codes ".gz")) ∙ ap gone_in (behind_its_front state ((codes "/reports/incomplete-" ++ six_digits cycle) ++ codes ".gz"))

pub never_list : {P : Type 0} (state path : Text) (cycle : ℕ) → None ≡ gone_digits state path → path ≡ list_path state cycle → P
never_list state path cycle none is = absurd (none-some _ (none ∙ ap (gone_digits state) is ∙ gone_of_list state cycle))

pub never_packed : {P : Type 0} (state path digits : Text) (cycle : ℕ) → Some digits ≡ gone_digits state path → path ≡ packed_path state cycle false → P
never_packed state path digits cycle some is = absurd (none-some digits (sym (some ∙ ap (gone_digits state) is ∙ none_gone_of_packed state cycle)))

some_same : {a b : Text} → Some a ≡ Some b → a ≡ b
some_same e = cc

abbrev IsNumberIn : Text → ℕ → Type 0
IsNumberIn digits n = (number : ℕ) → digits ≡ six_digits number → n ≡ number

abbrev IsCycleOf : Text → Text → ℕ → Type 0
IsCycleOf state path n = (cycle : ℕ) → path ≡ list_path state cycle → n ≡ cycle

pub digits_so : (state path digits : Text) (n : ℕ) → Some digits ≡ gone_digits state path → IsNumberIn digits n → IsCycleOf state path n
digits_so state path digits n some h = λ cycle is. h cycle (some_same (some ∙ ap (gone_digits state) is ∙ gone_of_list state cycle))

pub cycle_so : (state path digits : Text) (r : Option ℕ) → Some digits ≡ gone_digits state path → IfSome r (IsNumberIn digits) → IfSome r (IsCycleOf state path)
cycle_so state path digits None some h = tt
cycle_so state path digits (Some n) some h = digits_so state path digits n some h

-- the list that was found is that of the cycle
pub found_so : (m : MemClosedFiles) (log : List MemListCall) (path : Text) (n cycle : ℕ) (found : Option Text) → IsCycleOf (string_bytes m.path) path n
    → (path ≡ list_path (string_bytes m.path) n → found ≡ (state_of m log).files.lists n) → path ≡ list_path (string_bytes m.path) cycle → found ≡ (state_of m log).files.lists cycle
found_so m log path n cycle found of h is =
    let e : n ≡ cycle = of cycle is in
    h (is ∙ ap (list_path (string_bytes m.path)) (sym e)) ∙ ap (state_of m log).files.lists e

pub is_there : (found : Option (Bor Text)) (o : Option Text) → option_map (λ b. b.now) found ≡ o → is_some found ≡ has o
is_there found o e = by found ∙ ap has e
  where
    by : (f : Option (Bor Text)) → is_some f ≡ has (option_map (λ b. b.now) f)
    by None = refl
    by (Some b) = refl

-- rows that are read from a copy of a list
pub rows_so : (copy : Option (Vec ℕ Global)) (o : Option Text) → option_map (λ b. b.items) copy ≡ o → option_map (λ b. Some b.items) copy ≡ option_map (λ t. Some t) o
rows_so None o e = ap (option_map (λ t. Some t)) e
rows_so (Some bytes) o e = ap (option_map (λ t. Some t)) e
