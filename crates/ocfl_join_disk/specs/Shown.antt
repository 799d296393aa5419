-- What a joining sees on a disk: the closed reports of the parts, and the joined ones.
use Rattle.std.specs.Prelude.{◌≡◌, ℕ, ◌+◌, ◌-◌, ◌==◌, ◌&&◌, List, [], ◌∷◌, ◌++◌, length, take, Bool, true, false, not, if◌then◌else◌, Option, Some, None, IsSome, refl, ◌≤◌, ⊤}
use Rattle.std.specs.Io.BufRead.{take_through}
use Rattle.std.specs.Option.{option_map}
use Rattle.ocfl_tree.specs.Place.{Text}
use Rattle.ocfl_disk.specs.Names.{ClosedName, Stored}
use Rattle.ocfl_disk.specs.PowerCut.{DiskState, IsDisk}
use Rattle.ocfl_joining.specs.{Folders.{Folders, no_folders, with_noted}, Reports.{Put, Rest, Seen, no_rest}}

-- what the folders show, and which closed reports were opened, in order
pub record PartFiles : Type 0 where
  pub folders : Folders
  pub opened : List ℕ

abbrev pub no_files : PartFiles
no_files = record { folders = no_folders; opened = [] }

abbrev pub with_opened : ℕ → PartFiles → PartFiles
with_opened number p = record { folders = p.folders; opened = p.opened ++ number ∷ [] }

-- one more text was said
abbrev pub with_text : Text → PartFiles → PartFiles
with_text text p = record { folders = with_noted text p.folders; opened = p.opened }

-- ---- the joined reports of a cycle

abbrev pub put_if : Bool → Put → List Put → List Put
put_if is joined puts = if is then joined ∷ puts else puts

abbrev pub joined_of : ℕ → (ℕ → Text) → List ClosedName → List Put
joined_of cycle bytes [] = []
joined_of cycle bytes (name ∷ names) = put_if (name.cycle == cycle) (record { whole = name.whole; bytes = bytes name.file }) (joined_of cycle bytes names)

-- those that are there
abbrev pub joined_in : ℕ → Stored → List Put
joined_in cycle s = joined_of cycle s.bytes s.names.closed

abbrev pub none_if : Bool → List Put → List Put
none_if is puts = if is then [] else puts

-- those of the other cycles
abbrev pub others_in : ℕ → Stored → ℕ → List Put
others_in cycle s other = none_if (cycle == other) (joined_in other s)

-- a cut may leave these, by what they are of what it leaves
abbrev pub MayLeave : DiskState → (Stored → List Put) → List Put → Type 0
MayLeave d puts_of puts = (c : Stored) × (d.may_leave c × (puts ≡ puts_of c))

-- the same of what one might have left since a moment
abbrev pub HadLeft : DiskState → (Stored → List Put) → ℕ → List Put → Type 0
HadLeft d puts_of t puts = (c : Stored) × (d.left_since t c × (puts ≡ puts_of c))

-- The laws of the trait: what a cut may leave now is what it leaves since this moment.
pub left_now : {d : DiskState} → IsDisk d → (cycle : ℕ) → MayLeave d (joined_in cycle) (joined_in cycle d.seen)
left_now disk cycle = (_, (disk.stays, refl))

pub was_left : {d : DiskState} → IsDisk d → (cycle t : ℕ) (puts : List Put) → t ≤ d.moment → MayLeave d (joined_in cycle) puts → HadLeft d (joined_in cycle) t puts
was_left disk cycle t puts le m = (m.0, (disk.counts_now t m.0 le m.1.0, m.1.1))

pub only_left : {d : DiskState} → IsDisk d → (cycle : ℕ) (puts : List Put) → HadLeft d (joined_in cycle) d.moment puts → MayLeave d (joined_in cycle) puts
only_left disk cycle puts m = (m.0, (disk.only_now m.0 m.1.0, m.1.1))

-- a cut leaves the names that calls show
abbrev pub HasSureNames : DiskState → Type 0
HasSureNames d = (c : Stored) → d.may_leave c → c.names ≡ d.seen.names

-- a cut leaves just these
abbrev pub AreDurable : ℕ → DiskState → Type 0
AreDurable cycle d = (c : Stored) → d.may_leave c → joined_in cycle c ≡ joined_in cycle d.seen

abbrev pub file_if : Bool → ℕ → Option ℕ → Option ℕ
file_if is file other = if is then Some file else other

-- the first file that has the name of the joined report of a cycle, whole or not
abbrev pub file_named : ℕ → Bool → List ClosedName → Option ℕ
file_named cycle whole [] = None
file_named cycle whole (name ∷ names) = file_if ((name.cycle == cycle) && (if whole then name.whole else not name.whole)) name.file (file_named cycle whole names)

-- its bytes, if it is there
abbrev pub text_in : ℕ → Bool → Stored → Option Text
text_in cycle whole s = option_map s.bytes (file_named cycle whole s.names.closed)

-- ---- a report that is open

abbrev pub or_nothing : Option Text → Text
or_nothing None = []
or_nothing (Some text) = text

-- what it has left, by what its reader is known to give
abbrev pub left_in : {R : Type 0} → (R → Option Text) → Option R → Text
left_in known None = []
left_in known (Some report) = or_nothing (known report)

-- the next line was read, with its line feed, or what is left; or nothing is left
pub record ReadsNext (more : Bool) (line old new : Text) : Type 0 where
  pub next : line ≡ take_through 10 old
  pub is : old ≡ line ++ new
  pub some : more ≡ true → (line ≡ [] → ⊥)
  pub end : more ≡ false → old ≡ []

-- ---- what is seen of a joining

abbrev pub made_of : (ℕ → Text) → Option ℕ → Text
made_of bytes None = []
made_of bytes (Some file) = bytes file

-- all but the joined reports of a cycle
abbrev pub rest_in : ℕ → PartFiles → Stored → Rest
rest_in cycle parts s = record { cycle = cycle; made = None; folders = parts.folders; others = others_in cycle s }

-- of one that makes the joined report: `made` is its file, and `buffer` what is not written to it yet
abbrev pub seen_making : ℕ → PartFiles → Text → Stored → Option ℕ → Text → Seen
seen_making cycle parts left s made buffer = record {
  bytes = parts.folders.bytes cycle;
  marks = parts.folders.marks cycle;
  word = λ whole bytes. Some (parts.folders.word cycle whole bytes);
  opened = parts.opened;
  left = left;
  made = made_of s.bytes made ++ buffer;
  put = joined_in cycle s;
  rest = rest_in cycle parts s;
}

-- the closed reports of a cycle, and the joined ones that are there
abbrev pub reports_in : ℕ → PartFiles → Stored → Seen
reports_in cycle parts s = record {
  bytes = parts.folders.bytes cycle;
  marks = parts.folders.marks cycle;
  word = λ _ _. None;
  opened = [];
  left = [];
  made = [];
  put = joined_in cycle s;
  rest = no_rest;
}
