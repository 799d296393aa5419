-- What a task does: its deed with the cursor of its file, and which terminals it shows progress on.
use Rattle.std.specs.Prelude.{◌≡◌, ◌⊎◌, ◌↔◌, ◌++◌, ◌∷◌, [], ℕ, ◌&&◌, Bool, true, false, not, IsTrue, IsNone, List, Option, Some, None, String, string_bytes}
use Rattle.std.specs.declared.alloc.Global.{Global}
use Rattle.std.specs.IoError.{error_kind}
use Rattle.std.specs.declared.io.Error.{Error}
use Rattle.std.specs.declared.io.ErrorKind.TheVariants as kind
use Rattle.ocfl_tree.specs.{Place.{Text}, Store.{Store}}
use Rattle.ocfl_deed.specs.declared.deed.Deed.{Deed}
use Rattle.ocfl_deed.specs.declared.deed.Deed.TheVariants as deed
use Rattle.ocfl_scope.specs.declared.scope.Scope.{Scope}
use Rattle.ocfl_arguments.specs.declared.task.Task.{Task}
use Rattle.ocfl_scrub.specs.{Call.{WhereTold}, Performing.{AnswersOnAnyStore, further_of}}
use Rattle.ocfl_scrub.specs.declared.{note.Note.{Note}, performing.Performed.{Performed}}
use Rattle.ocfl_scrub.specs.Scoping.{HandsBackIn, IsSaidIn, PerformsIn, RefusesRightlyIn}
use Rattle.ocfl_scrub.specs.declared.note.Note.TheVariants as note
use Rattle.ocfl_terminal.specs.declared.progress.Terminals.{Terminals}
use Rattle.ocfl_tasks.specs.Calls.{TaskCall, Unopened, Opened, putting}
use Rattle.ocfl_tasks.specs.declared.doing.TaskEnd.{TaskEnd}

-- that memory was refused is told apart, of a cursor's file that failed
pub record IsFileNote (e : Error) (said : Note) : Type 0 where
  pub memory : (said ≡ note.OutOfMemory) ↔ (error_kind e ≡ kind.OutOfMemory)
  pub either : (said ≡ note.OutOfMemory) ⊎ (said ≡ note.CursorFileFailed)

-- a task stopped since its cursor's file could not be read, or not be put in place
pub record IsUnread (e : TaskEnd) : Type 0 where
  pub status : e.status ≡ 3
  pub note : (e.note ≡ note.OutOfMemory) ⊎ (e.note ≡ note.CursorFileFailed)

-- what the command of a deed does within a scope, with a reader of these bytes, on any store, by what the store and
-- the output are before it and after it
pub record IsPerformed {S O : Type 0} (told : Bool) (state : S → Store) (contents : O → Option Text) (before after : S) (old new : O) (d : Deed) (w : Scope) (known : Option (Option Text)) (said : Performed) : Type 0 where
  pub any_store : AnswersOnAnyStore contents before after old new known d said
  pub said_is : IsSaidIn d w said.note
  pub refused : RefusesRightlyIn d w known said.note
  pub handed_back : HandsBackIn d w known said.status said.note said.cursor
  pub of_told : WhereTold (further_of d) told state contents before after old new (λ call. PerformsIn call d w known said.status said.note said.cursor)

-- what a task ends with whose deed ended so, and whose cursor was put in its place, or was not
abbrev pub EndsWith : Performed → Bool → TaskEnd → Type 0
EndsWith p true e = (e.status ≡ p.status) × (e.note ≡ p.note)
EndsWith p false e = IsUnread e

-- with a reader of these bytes a deed was done, and when its report had gone out, just the cursor that it
-- handed back was put in the place of its file, if there are both
pub record Does (Performs : Option (Option Text) → Performed → Type 0) (told : Bool) (file : Option (String Global)) (known : Option (Option Text)) (old new : List TaskCall) (report : Option Text) (e : TaskEnd) : Type 0 where
  pub done : Performed
  pub performs : Performs known done
  pub put : Bool
  pub puts : IsTrue told → new ≡ old ++ putting file done.cursor report put
  pub ends : EndsWith done put e

-- the call that opens a cursor's file, if there is one
abbrev pub opening_of : Option (String Global) → Option (Option Text) → List TaskCall
opening_of None known = []
opening_of (Some file) known = Opened (string_bytes file) known ∷ []

-- a task opened its cursor's file, if there is one, and did so with that
pub record HasDone (Performs : Option (Option Text) → Performed → Type 0) (told : Bool) (file : Option (String Global)) (old new : List TaskCall) (report : Option Text) (e : TaskEnd) : Type 0 where
  pub known : Option (Option Text)
  pub without : IsNone file → known ≡ None
  pub since : List TaskCall
  pub opens : IsTrue told → since ≡ old ++ opening_of file known
  pub does : Does Performs told file known since new report e

-- a task could not open its cursor's file
pub record HasNotBegun (told : Bool) (file : Option (String Global)) (old new : List TaskCall) (e : TaskEnd) : Type 0 where
  pub name : String Global
  pub file_is : file ≡ Some name
  pub opens : IsTrue told → new ≡ old ++ Unopened (string_bytes name) ∷ []
  pub ends : IsUnread e

-- reads more than a file or a place
abbrev pub is_long : Deed → Bool
is_long (deed.Audit further) = true
is_long (deed.Run further limits) = true
is_long (deed.Cycle further limits runs) = true
is_long _ = false

-- progress goes to standard error, and shares a terminal with the report only then
abbrev pub shows : Task → Terminals → Bool
shows task t = is_long task.deed && not task.quiet && t.error

abbrev pub shown_on : Task → Terminals → Terminals
shown_on task t = record { output = shows task t && t.output; error = shows task t }
