-- The calls of the system that a task makes for its cursor, and to say something.
use Rattle.std.specs.Prelude.{ℕ, ◌++◌, ◌∷◌, [], List, Bool, true, false, Option, Some, None, Result, Ok, Err, String, Vec, codes, string_bytes}
use Rattle.std.specs.declared.alloc.Global.{Global}
use Rattle.std.specs.declared.io.Error.{Error}
use Rattle.ocfl_tree.specs.Place.{Text}
use Rattle.ocfl_report.specs.Text.{place_text}
use Rattle.ocfl_cursor.specs.Refused.{refused_text}
use Rattle.ocfl_deed.specs.declared.deed.Deed.{Deed}
use Rattle.ocfl_deed.specs.declared.deed.Deed.TheVariants as deed
use Rattle.ocfl_terminal.specs.Paths.{no_place_text}
use Rattle.ocfl_scrub.specs.NoteText.{note_text}
use Rattle.ocfl_scrub.specs.declared.note.Note.{Note}
use Rattle.ocfl_scrub.specs.declared.note.Note.TheVariants as note
use Rattle.ocfl_tasks.specs.declared.calls.Line.{Line}
use Rattle.ocfl_tasks.specs.declared.calls.Line.TheVariants as line

-- a file was opened, with the bytes that it has as far as they are known, if it is there; it could not
-- be opened; a text was put in the place of a file, or was not, when the report's output had taken so
-- much as is known; or a line was said
pub data TaskCall : Type 0 where
  Opened : Text → Option (Option Text) → TaskCall
  Unopened : Text → TaskCall
  Put : Text → Text → Option Text → Bool → TaskCall
  Said : Text → TaskCall

abbrev pub line_text : Line → Text
line_text (line.Note n) = note_text n.now
line_text (line.NoItemAt path) = codes "no item at " ++ path.now
line_text (line.Words words) = words.now
line_text (line.Unread place why) = place_text place.now ++ codes ": " ++ why.now
line_text (line.Refused why) = codes "checkpoint refused: " ++ refused_text why.now

-- the bytes of a file that is there, as far as they are known
abbrev pub known_of : {R : Type 0} → (R → Option Text) → Option R → Option (Option Text)
known_of remaining None = None
known_of remaining (Some reader) = Some (remaining reader)

abbrev pub opened : {R : Type 0} → (R → Option Text) → Text → Result (Option R) Error → TaskCall
opened remaining file (Ok reader) = Opened file (known_of remaining reader)
opened remaining file (Err why) = Unopened file

-- the calls that open a cursor's file, if there is one
abbrev pub opening : {R : Type 0} → (R → Option Text) → Option (String Global) → Result (Option R) Error → List TaskCall
opening remaining None reader = []
opening remaining (Some file) reader = opened remaining (string_bytes file) reader ∷ []

-- those that put a cursor in the place of its file, if there are both
abbrev pub putting : Option (String Global) → Option (Vec ℕ Global) → Option Text → Bool → List TaskCall
putting (Some file) (Some text) report put = Put (string_bytes file) text.items report put ∷ []
putting file text report put = []

-- why the store did not answer at a place, if it is known
abbrev pub reason_of : Note → Option Text → List TaskCall
reason_of (note.StoppedAt place) (Some why) = Said (place_text place ++ codes ": " ++ why) ∷ []
reason_of n why = []

-- why the path of a check names no place
abbrev pub words_on_path : Deed → Text
words_on_path (deed.Check further path) = no_place_text (string_bytes path)
words_on_path d = []

-- what is said at the end of a deed. Of a check it is said which path has no item, and of a path that
-- names no place why that is so, in these words
abbrev pub end_calls : Deed → Note → Option Text → Text → List TaskCall
end_calls d note.Nothing why words = []
end_calls (deed.Check further path) note.NoItem why words = Said (codes "no item at " ++ string_bytes path) ∷ []
end_calls (deed.Check further path) note.BadPath why words = Said (note_text note.BadPath) ∷ Said words ∷ []
end_calls d n why words = Said (note_text n) ∷ reason_of n why

-- what is said of a cursor's file that lies in the storage root, or of which that is not known, as memory was
-- refused
abbrev pub inside_calls : Result Bool Error → List TaskCall
inside_calls (Ok false) = []
inside_calls (Ok true) = Said (codes "the cursor's file lies in the storage root, which is never written into") ∷ []
inside_calls (Err why) = Said (note_text note.OutOfMemory) ∷ []

-- the status that it is refused with
abbrev pub inside_status : Result Bool Error → Option ℕ
inside_status (Ok false) = None
inside_status (Ok true) = Some 2
inside_status (Err why) = Some 3
