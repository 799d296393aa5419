-- What the words of a command line ask for.
use Rattle.std.specs.Prelude.{◌≡◌, ◌↔◌, ℕ, ◌≤◌, ◌<◌, ◌^◌, List, Option, Some, None, IfSome, IsNone, IsSomeAnd, IsTrue, String, codes, option_map, string_bytes}
use Rattle.std.specs.declared.alloc.Global.{Global}
use Rattle.std.specs.Str.Parse.{IsNumeral, digits_value, without_leading_plus}
use Rattle.clap.specs.Words.{Row, Text, first_of, one_of}
use Rattle.ocfl_report.specs.declared.further.Further.{Further}
use Rattle.ocfl_report.specs.declared.further.Further.TheVariants.{Nothing, Inventories}
use Rattle.ocfl_cursor.specs.declared.limits.Limits.{Limits}
use Rattle.ocfl_arguments.specs.Budget.{IsSizeText}
use Rattle.ocfl_arguments.specs.Line.{most_days, most_hours, most_parts, most_runs, most_split}
use Rattle.ocfl_arguments.specs.{TimeOfDay.{IsTimeText}, declared.task.Chosen.{Chosen}}
use Rattle.ocfl_arguments.specs.declared.task.Chosen.TheVariants.{All, Branch, Part}
use Rattle.ocfl_arguments.specs.{declared.task.Task.{Task}, declared.task.Split.{Split}}
use Rattle.ocfl_arguments.specs.declared.task.Split.TheVariants.{Listing, Report}
use Rattle.ocfl_arguments.specs.declared.night.Until.{Until}
use Rattle.ocfl_arguments.specs.declared.night.Until.TheVariants.{Never, Hours, TimeOfDay, At}
use Rattle.ocfl_arguments.specs.declared.night.NightBounds.{NightBounds}
use Rattle.ocfl_arguments.specs.declared.night.NightAsked.{NightAsked}
use Rattle.ocfl_arguments.specs.{declared.night.JoinAsked.{JoinAsked}, declared.task.Asked.{Asked}}
use Rattle.ocfl_deed.specs.declared.deed.Deed.{Deed}
use Rattle.ocfl_deed.specs.declared.deed.Deed.TheVariants.{Audit, Run, Cycle, Check, Show}
use Rattle.ocfl_arguments.specs.declared.task.Asked.TheVariants as asked

-- what is read is so, and where nothing is read, nothing is so
pub record IsRead {A : Type 0} (P : A → Type 0) (o : Option A) : Type 0 where
  pub found : IfSome o P
  pub missing : IsNone o → (a : A) → P a → ⊥

-- the text writes this number: decimal digits, which a plus sign may precede
abbrev pub IsNumberText : ℕ → Text → Type 0
IsNumberText n t = IsNumeral 10 (without_leading_plus t) × (n ≡ digits_value 10 (without_leading_plus t))

-- an argument is left out
abbrev pub IsLeftOut : Text → List Row → Type 0
IsLeftOut id rows = first_of id rows ≡ None

-- the text of an argument
abbrev pub HasText : Text → List Row → String Global → Type 0
HasText id rows s = first_of id rows ≡ Some (string_bytes s)

-- the number of an option
abbrev pub HasNumber : Text → List Row → ℕ → Type 0
HasNumber id rows n = IsSomeAnd (one_of id rows) (IsNumberText n)

-- the size that the text of an option writes
abbrev pub HasSize : Text → List Row → ℕ → Type 0
HasSize id rows n = IsSomeAnd (first_of id rows) (λ t. IsSizeText t n)

-- the limits of a run
pub record HasLimits (rows : List Row) (limits : Limits) : Type 0 where
  pub budget : HasSize (codes "budget") rows limits.budget
  pub files : HasSize (codes "files") rows limits.files

-- the number of an option, from 1 up to this one
pub record HasCount (id : Text) (most : ℕ) (rows : List Row) (n : ℕ) : Type 0 where
  pub number : HasNumber id rows n
  pub some : 1 ≤ n
  pub few : n ≤ most

-- the most runs of a cycle
abbrev pub HasRuns : List Row → ℕ → Type 0
HasRuns = HasCount (codes "runs") most_runs

-- the flag is given, for which `clap` has this text
abbrev pub IsGiven : Text → List Row → Type 0
IsGiven id rows = first_of id rows ≡ Some (codes "true")

-- what an audit checks beside what every audit checks: the inventories of version directories if their
-- flag is given, else nothing
abbrev pub IsFurther : List Row → Further → Type 0
IsFurther rows Nothing = IsGiven (codes "inventories") rows → ⊥
IsFurther rows Inventories = IsGiven (codes "inventories") rows

-- the deed that the subcommand of this name and its matches ask for
abbrev pub IsDeed : Text → List Row → Deed → Type 0
IsDeed name rows (Audit further) = (name ≡ codes "audit") × IsFurther rows further
IsDeed name rows (Run further limits) = (name ≡ codes "run") × IsFurther rows further × HasLimits rows limits
IsDeed name rows (Cycle further limits runs) = (name ≡ codes "cycle") × IsFurther rows further
    × HasLimits rows limits × HasRuns rows runs
IsDeed name rows (Check further path) = (name ≡ codes "check") × IsFurther rows further × HasText (codes "path") rows path
IsDeed name rows Show = name ≡ codes "show"

-- which items they choose: a part by the file of the separators and its number, a branch by its
-- place, and all of them if neither is given
abbrev pub IsChosen : List Row → Chosen → Type 0
IsChosen rows All = IsLeftOut (codes "under") rows × IsLeftOut (codes "parts") rows × IsLeftOut (codes "part") rows
IsChosen rows (Branch place) = HasText (codes "under") rows place × IsLeftOut (codes "parts") rows
    × IsLeftOut (codes "part") rows
IsChosen rows (Part parts number) = IsLeftOut (codes "under") rows × HasText (codes "parts") rows parts
    × HasCount (codes "part") most_parts rows number

-- a deed, which items it takes, the folder and the file that it is done with, if they are given,
-- and whether quietly
pub record IsTask (name : Text) (rows : List Row) (t : Task) : Type 0 where
  pub deed : IsDeed name rows t.deed
  pub chosen : IsChosen rows t.chosen
  pub root : option_map string_bytes t.root ≡ first_of (codes "root") rows
  pub file : option_map string_bytes t.file ≡ first_of (codes "file") rows
  pub quiet : IsTrue t.quiet ↔ IsGiven (codes "quiet") rows

-- how a storage root is to be split: a count and the folder, or a budget and a report, for an audit
-- with or without `--inventories`
abbrev pub IsSplit : List Row → Split → Type 0
IsSplit rows (Listing count root) = HasCount (codes "count") most_split rows count × HasText (codes "root") rows root
    × IsLeftOut (codes "budget") rows × IsLeftOut (codes "report") rows
IsSplit rows (Report budget report) = HasSize (codes "budget") rows budget
    × HasText (codes "report") rows report × IsLeftOut (codes "count") rows × IsLeftOut (codes "root") rows

-- when a night begins no further run: the one end that is given, or never
abbrev pub IsUntil : List Row → Until → Type 0
IsUntil rows Never = IsLeftOut (codes "hours") rows × IsLeftOut (codes "until") rows × IsLeftOut (codes "end") rows
IsUntil rows (Hours hours) = HasCount (codes "hours") most_hours rows hours
    × IsLeftOut (codes "until") rows × IsLeftOut (codes "end") rows
IsUntil rows (TimeOfDay hour minute) = IsSomeAnd (first_of (codes "until") rows) (λ t. IsTimeText t hour minute)
    × IsLeftOut (codes "hours") rows × IsLeftOut (codes "end") rows
IsUntil rows (At second) = HasNumber (codes "end") rows second × (second < 2 ^ 64)
    × IsLeftOut (codes "hours") rows × IsLeftOut (codes "until") rows

-- the size of an option that may be left out
abbrev pub MayHaveSize : Text → List Row → Option ℕ → Type 0
MayHaveSize id rows None = IsLeftOut id rows
MayHaveSize id rows (Some n) = HasSize id rows n

-- the number of an option that may be left out, from 1 up to this one
abbrev pub MayHaveCount : Text → ℕ → List Row → Option ℕ → Type 0
MayHaveCount id most rows None = IsLeftOut id rows
MayHaveCount id most rows (Some n) = HasCount id most rows n

-- what a night may do, until when, and how many days after the end of the last cycle it may begin
-- the next one
pub record HasBounds (rows : List Row) (bounds : NightBounds) : Type 0 where
  pub budget : MayHaveSize (codes "budget") rows bounds.budget
  pub files : MayHaveSize (codes "files") rows bounds.files
  pub slice : MayHaveSize (codes "slice") rows bounds.slice
  pub until : IsUntil rows bounds.until
  pub every : MayHaveCount (codes "every") most_days rows bounds.every

-- a night, with the folders and the files that it is made with
pub record IsNight (rows : List Row) (n : NightAsked) : Type 0 where
  pub state : HasText (codes "state") rows n.state
  pub root : HasText (codes "root") rows n.root
  pub bounds : HasBounds rows n.bounds
  pub chosen : IsChosen rows n.chosen
  pub further : IsFurther rows n.further
  pub known : option_map string_bytes n.known ≡ first_of (codes "known") rows
  pub expected : option_map string_bytes n.expected ≡ first_of (codes "expected") rows
  pub create : IsTrue n.create ↔ IsGiven (codes "create") rows
  pub force_root : IsTrue n.force_root ↔ IsGiven (codes "force-root") rows
  pub stop_at_faults : IsTrue n.stop_at_faults ↔ IsGiven (codes "stop-at-faults") rows

-- the joining of the closed reports of all parts
abbrev pub IsJoin : List Row → JoinAsked → Type 0
IsJoin rows j = HasText (codes "parts") rows j.parts × HasText (codes "state") rows j.state

-- what the subcommand of this name and its matches ask for
abbrev pub IsAsked : Text → List Row → Asked → Type 0
IsAsked name rows (asked.Task t) = IsTask name rows t
IsAsked name rows (asked.Split s) = (name ≡ codes "split") × IsSplit rows s
IsAsked name rows (asked.Night n) = (name ≡ codes "night") × IsNight rows n
IsAsked name rows (asked.Join j) = (name ≡ codes "join") × IsJoin rows j
IsAsked name rows (asked.Codes json) = (name ≡ codes "codes") × (IsTrue json ↔ IsGiven (codes "json") rows)

-- the same of the subcommand that `clap` finds
abbrev pub Asks : Option (Text × List Row) → Asked → Type 0
Asks sub a = IsSomeAnd sub (λ p. IsAsked p.0 p.1 a)
