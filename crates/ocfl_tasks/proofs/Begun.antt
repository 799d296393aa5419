-- What a task does with the file of its cursor, and what it ends with.
use Rattle.std.proofs.Common.{◌≡◌, ◌∙◌, ◌++◌, ◌∷◌, ◌⊎◌, [], ap, sym, subst, refl, inl, inr, Bool, true, false, List, Option, None, Some, Result, Ok, Err, String, IsNone, IsTrue, string_bytes}
use Rattle.std.specs.declared.alloc.Global.{Global}
use Rattle.std.specs.declared.io.Error.{Error}
use Rattle.std.specs.{Borrow.{MutBor}, Option.{option_copied_mut}}
use Rattle.ocfl_tree.specs.{Place.{Text}, Store.{Store}}
use Rattle.ocfl_deed.specs.declared.deed.Deed.{Deed}
use Rattle.ocfl_scope.specs.declared.scope.Scope.{Scope}
use Rattle.ocfl_scrub.specs.{Noting.{IsStatus}, Performing.{bytes_of}, declared.{note.Note.{Note}, performing.Performed.{Performed}}}
use Rattle.ocfl_scrub.specs.declared.note.Note.TheVariants as note
use Rattle.ocfl_state.specs.declared.checkpoint_showing.NotShown.{NotShown}
use Rattle.ocfl_tasks.specs.Calls.{Said, TaskCall, known_of, opening}
use Rattle.ocfl_tasks.specs.Showing.{unshown_text}
use Rattle.ocfl_tasks.specs.Tasks.{EndsWith, HasNotBegun, IsFileNote, IsPerformed, IsUnread, opening_of}
use Rattle.ocfl_tasks.specs.declared.doing.TaskEnd.{TaskEnd}

-- a cursor's file that was opened
pub opening_read : {R : Type 0} (remaining : R → Option Text) (file : Option (String Global)) (reader : Option R) → opening remaining file (Ok reader) ≡ opening_of file (known_of remaining reader)
opening_read remaining None reader = refl
opening_read remaining (Some name) reader = refl

-- what is lent of a reader has its bytes
pub known_lent : {R : Type 0} (remaining : R → Option Text) (lent : Option (MutBor R)) (reader : Option R) → option_copied_mut lent ≡ reader → bytes_of remaining lent ≡ known_of remaining reader
known_lent remaining None reader e = ap (known_of remaining) e
known_lent remaining (Some b) reader e = ap (known_of remaining) e

pub opened_as : {R : Type 0} (remaining : R → Option Text) (file : Option (String Global)) (reader : Option R) (old new : List TaskCall) → new ≡ old ++ opening remaining file (Ok reader) → new ≡ old ++ opening_of file (known_of remaining reader)
opened_as remaining file reader old new h = h ∙ ap (λ made. old ++ made) (opening_read remaining file reader)

-- so what was performed with what is lent was performed with it
pub performed_with : {S O : Type 0} (told : Bool) (state : S → Store) (contents : O → Option Text) (before after : S) (old new : O) (d : Deed) (w : Scope) (lent known : Option (Option Text)) (said : Performed) → lent ≡ known → IsPerformed told state contents before after old new d w lent said → IsPerformed told state contents before after old new d w known said
performed_with told state contents before after old new d w lent known said e h = subst (λ k. IsPerformed told state contents before after old new d w k said) e h

-- a file that was opened, and one that could not be
abbrev read_from : {R : Type 0} → Option R → Result (Option R) Error
read_from reader = Ok reader

abbrev failed_for : {R : Type 0} → Error → Result (Option R) Error
failed_for why = Err why

-- without a file nothing is read
pub known_without : {R : Type 0} (remaining : R → Option Text) (reader : Option R) → read_from reader ≡ Ok None → known_of remaining reader ≡ None
known_without remaining None e = refl
known_without remaining (Some r) e = absurd (cc)

-- a cursor's file that could not be opened
pub not_begun : {R : Type 0} (remaining : R → Option Text) (told : Bool) (file : Option (String Global)) (old new : List TaskCall) (why : Error) (e : TaskEnd) → (IsNone file → failed_for {R = R} why ≡ Ok None) → (IsTrue told → new ≡ old ++ opening remaining file (Err why)) → IsUnread e → HasNotBegun told file old new e
not_begun remaining told None old new why e without opens ends = let no = without refl in absurd (cc)
not_begun remaining told (Some f) old new why e without opens ends = record { name = f; file_is = refl; opens = opens; ends = ends }

-- a task that stopped since its cursor's file failed
pub unread_of : (why : Error) (said : Note) (e : TaskEnd) → IsFileNote why said → e ≡ record { status = 3; note = said } → IsUnread e
unread_of why said e is h = record {
  status = ap (λ (t : TaskEnd). t.status) h;
  note = subst (λ n. (n ≡ note.OutOfMemory) ⊎ (n ≡ note.CursorFileFailed)) (sym (ap (λ (t : TaskEnd). t.note) h)) is.either;
}

-- the status of a task that stopped since its cursor's file failed
pub unread_status : (e : TaskEnd) → IsUnread e → IsStatus e.status e.note
unread_status e u = by u.note
  where
    by : (e.note ≡ note.OutOfMemory) ⊎ (e.note ≡ note.CursorFileFailed) → IsStatus e.status e.note
    by (inl n) = subst (λ n. IsStatus e.status n) (sym n) u.status
    by (inr n) = subst (λ n. IsStatus e.status n) (sym n) u.status

-- the status of a task is that of its deed, or of its cursor's file
pub ended_status : (p : Performed) (put : Bool) (e : TaskEnd) → IsStatus p.status p.note → EndsWith p put e → IsStatus e.status e.note
ended_status p true e h ends = subst (λ n. IsStatus e.status n) (sym ends.1) (subst (λ s. IsStatus s p.note) (sym ends.0) h)
ended_status p false e h ends = unread_status e ends

-- what is said of a file is said of it by its reason
pub said_as : (old new : List TaskCall) (why was : NotShown) → why ≡ was → new ≡ old ++ Said (unshown_text was) ∷ [] → new ≡ old ++ Said (unshown_text why) ∷ []
said_as old new why was is h = h ∙ ap (λ w. old ++ Said (unshown_text w) ∷ []) (sym is)
