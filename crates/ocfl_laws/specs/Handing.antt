-- Calls of the program's function that run a part one after the other: each reads the bytes that
-- the one before handed back. And such calls on all parts of a storage root; even if calls stop,
-- and meet files that they cannot read.
use Rattle.std.specs.Prelude.{◌≡◌, ℕ, List, [], ◌∷◌, ◌++◌, Bool, true, false, Option, Some, None, Vec, IsSome, flat_map, map, option_map, ⊤}
use mathlib.Core.Logic.{inl, inr}
use Rattle.std.specs.declared.alloc.Global.{Global}
use Rattle.ocfl_tree.specs.{Place.{Text, Place}, StorageRoot.{StorageRoot}, Store.{Store}}
use Rattle.ocfl_tree.specs.declared.store.Opening.{Opening}
use Rattle.ocfl_report.specs.Text.{text}
use Rattle.ocfl_rules.specs.{Runs.{Limits}, Trail.{content_trail}}
use Rattle.ocfl_cursor.specs.{Cursor.{Cursor}, Part.{IsPartText}, declared.ends.PartEnds.{PartEnds}}
use Rattle.ocfl_cursor.specs.declared.limits.Limits.{Limits as MadeLimits}
use Rattle.ocfl_deed.specs.declared.deed.Deed.TheVariants as deed
use Rattle.ocfl_report.specs.declared.further.Further.{Further}
use Rattle.ocfl_scope.specs.declared.scope.Scope.TheVariants as scope
use Rattle.ocfl_scope.specs.Numbered.{part_between}
use Rattle.ocfl_scrub.specs.{Call.{Call, known_call}, Joining.{PartRun, items_out}}
use Rattle.ocfl_scrub.specs.{Running.{limits_of, place_in}, Scoping.{PartRunPerformed, PerformsIn}}
use Rattle.ocfl_scrub.specs.declared.note.Note.{Note}
use Rattle.ocfl_scrub.specs.declared.performing.Performed.{Performed}
use Rattle.ocfl_scrub.specs.declared.running.RunEnd.{RunEnd}
use Rattle.ocfl_scrub.specs.declared.note.Note.TheVariants as note

-- ---- one call

-- the limits that it was given, what it wrote and opened, and what it ended with
pub record PartCall : Type 0 where
  pub limits : MadeLimits
  pub report : Text
  pub opened : List Opening
  pub said : Performed

-- the bytes that it handed back
abbrev pub handed_by : PartCall → Option Text
handed_by c = option_map (λ bytes. bytes.items) c.said.cursor

-- the bytes of the reader that a call is given: there is none while nothing is stored
abbrev pub bytes_stored : Option Text → Option (Option Text)
bytes_stored None = None
bytes_stored (Some bytes) = Some (Some bytes)

-- it was asked for a run of the part with these ends, was given these bytes as the stored cursor and
-- a store that tells this tree, and no failure was counted
pub record CalledWell (further : Further) (root : StorageRoot) (e : PartEnds) (stored : Option Text) (c : PartCall) : Type 0 where
  pub before : Store
  pub behind : Store
  pub old : Text
  pub performs : PerformsIn (known_call further root before behind old (old ++ c.report)) (deed.Run further c.limits) (scope.Part e) (bytes_stored stored) c.said.status c.said.note c.said.cursor
  pub opened_is : behind.openings ≡ before.openings ++ c.opened
  pub unfailing : behind.failures ≡ before.failures

-- it says that it made a run, and whether no item is left
abbrev pub SaysMade : Bool → Note → Type 0
SaysMade whole (note.RunMade cycle runs cost ended) = ended ≡ whole
SaysMade whole n = ⊥

-- ---- the calls of one cycle of a part

-- the first was given the bytes that are stored, and each other the bytes that the one before handed
-- back. Each but the last left items, and the last left none
abbrev pub AreCalls : Further → StorageRoot → PartEnds → Option Text → List PartCall → Type 0
AreCalls further root e stored [] = ⊥
AreCalls further root e stored (c ∷ []) = CalledWell further root e stored c × SaysMade true c.said.note
AreCalls further root e stored (c ∷ d ∷ calls) = CalledWell further root e stored c × (SaysMade false c.said.note × AreCalls further root e (handed_by c) (d ∷ calls))

-- nothing is stored, or a cursor with which the part's first item is next
abbrev pub BeginsCycle : PartEnds → Option Text → Type 0
BeginsCycle e None = ⊤
BeginsCycle e (Some bytes) = (c : Cursor) → IsPartText e bytes c → place_in c.state ≡ None

-- what is stored after the calls
abbrev pub stored_after : Option Text → List PartCall → Option Text
stored_after stored [] = stored
stored_after stored (c ∷ calls) = stored_after (handed_by c) calls

-- what they wrote and opened together, and their limits
abbrev pub written_by : List PartCall → Text
written_by calls = flat_map (λ c. c.report) calls

abbrev pub content_opened : Further → StorageRoot → List PartCall → List Place
content_opened further root calls = flat_map (λ c. content_trail further root c.opened) calls

abbrev pub limits_given : List PartCall → List Limits
limits_given calls = map (λ c. limits_of c.limits) calls

-- ---- all parts

-- the calls of one cycle of a part, and what was stored before them
pub record CycleOf (A : Type 0) : Type 0 where
  pub ends : PartEnds
  pub stored : Option Text
  pub calls : List A

abbrev pub CalledCycle : Type 0
CalledCycle = CycleOf PartCall

pub record IsCalledCycle (further : Further) (root : StorageRoot) (d : CalledCycle) : Type 0 where
  pub begins : BeginsCycle d.ends d.stored
  pub are : AreCalls further root d.ends d.stored d.calls

-- ---- the same if any call may stop, and may meet files that it cannot read

-- a call, and what its run answered
pub record MadeCall : Type 0 where
  pub call : PartCall
  pub ran : RunEnd

-- that run
abbrev pub run_in : MadeCall → PartRun
run_in c = record { limits = limits_of c.call.limits; report = c.call.report; opened = c.call.opened; ran = c.ran }

-- the command made a run that answered so, and the report is the lines of the items that went out
abbrev pub HasRun : (call : Call) (e : PartEnds) (known : Option (Option Text)) (limits : Limits) (status : ℕ) (n : Note) (stored : Option (Vec ℕ Global))
    → PartRunPerformed call e known limits status n stored → RunEnd → Text → Type 0
HasRun call e known limits status n stored (inl made) ran report =
    (made.runs.ran ≡ ran)
    × (report ≡ text (items_out call (part_between e) (place_in made.from.state) made.runs.runs.last limits made.runs.ran.spent made.runs.ran.files made.runs.ran.found made.runs.ran.end made.runs.runs.run))
HasRun call e known limits status n stored (inr unmade) ran report = ⊥

-- it was asked for a run of the part with these ends, was given these bytes as the stored cursor and
-- a store that tells this tree, and handed a cursor back, whatever failed in it. After its report
-- comes what went out of the next item's lines, if the output failed
pub record MadeFrom (further : Further) (root : StorageRoot) (e : PartEnds) (stored : Option Text) (c : MadeCall) : Type 0 where
  pub before : Store
  pub behind : Store
  pub old : Text
  pub cut : Text
  pub performs : PerformsIn (known_call further root before behind old (old ++ (c.call.report ++ cut))) (deed.Run further c.call.limits) (scope.Part e) (bytes_stored stored) c.call.said.status c.call.said.note c.call.said.cursor
  pub has_run : HasRun (known_call further root before behind old (old ++ (c.call.report ++ cut))) e (bytes_stored stored) (limits_of c.call.limits) c.call.said.status c.call.said.note c.call.said.cursor performs c.ran c.call.report
  pub handed : IsSome c.call.said.cursor
  pub opened_is : behind.openings ≡ before.openings ++ c.call.opened

-- the first was given the bytes that are stored, and each other the bytes that the one before handed
-- back, and none but the last says that no item is left. A call whose bytes were not stored, or that
-- handed none back, is not among them: what is stored stays, and the next one takes the same items
abbrev pub AreMadeCalls : Further → StorageRoot → PartEnds → Option Text → List MadeCall → Type 0
AreMadeCalls further root e stored [] = ⊥
AreMadeCalls further root e stored (c ∷ []) = MadeFrom further root e stored c
AreMadeCalls further root e stored (c ∷ d ∷ calls) = MadeFrom further root e stored c × ((SaysMade true c.call.said.note → ⊥) × AreMadeCalls further root e (handed_by c.call) (d ∷ calls))

-- the last says that no item is left
abbrev pub SayEnded : List MadeCall → Type 0
SayEnded [] = ⊥
SayEnded (c ∷ []) = SaysMade true c.call.said.note
SayEnded (c ∷ d ∷ calls) = SayEnded (d ∷ calls)

-- what is stored after them, and their runs
abbrev pub stored_last : Option Text → List MadeCall → Option Text
stored_last stored calls = stored_after stored (map (λ c. c.call) calls)

abbrev pub runs_made : List MadeCall → List PartRun
runs_made calls = map run_in calls

-- from the first item of a part to its end
abbrev pub MadeCycle : Type 0
MadeCycle = CycleOf MadeCall

pub record IsMadeCycle (further : Further) (root : StorageRoot) (d : MadeCycle) : Type 0 where
  pub starts : BeginsCycle d.ends d.stored
  pub are : AreMadeCalls further root d.ends d.stored d.calls
  pub says : SayEnded d.calls
