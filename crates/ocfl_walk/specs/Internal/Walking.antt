-- What a walk does to a store that tells its tree.
use Rattle.std.specs.Prelude.{◌≡◌, ◌⊎◌, ◌≤◌, [], ◌∷◌, false, Option, Some, None, Result, MatchOption, MatchResult, IfSome, length, ◌<◌, ⊤}
use Rattle.ocfl_tree.specs.{Place.{Place}, StorageRoot.{StorageRoot}, Store.{Store}}
use Rattle.ocfl_report.specs.declared.further.Further.{Further}
use Rattle.ocfl_rules.specs.{Due.{due}, Between.{IsBeyond}}
use Rattle.ocfl_rules.specs.Walk.{seen_names}
use Rattle.ocfl_item.specs.Meeting.{IsItemAt}
use Rattle.ocfl_item.specs.{Pending.{IsPending}, Around.{IsTableAround}}
use Rattle.ocfl_item.specs.{declared.fault.Fault.{Fault}, declared.folder.Folder.{Folder}}
use Rattle.ocfl_item.specs.declared.pending.Pending.{Pending}
use Rattle.ocfl_walk.specs.{Ends.{before_end, is_past}, WalkCalls.{FailsBetween, FailsOut, Walks, WalksOut}}
use Rattle.ocfl_walk.specs.Standing.{AreEntries, StandsAt, stand_size}
use Rattle.ocfl_walk.specs.Internal.Standing.{IsFairPile, left_names, left_of_folder, IsAroundIf}
use Rattle.ocfl_walk.specs.{declared.end.End.{End}, declared.stand.Met.{Met}}
use Rattle.ocfl_walk.specs.{declared.stand.Stand.{Stand}, declared.stand.Step.{Step}}
use Rattle.ocfl_walk.specs.declared.stand.Step.TheVariants as step

-- ---- at one place

-- the same, put in order
abbrev pub IsPileAt : StorageRoot → Place → Option Folder → Type 0
IsPileAt root e o = MatchOption o (seen_names root e ≡ []) (λ f. (f.place ≡ e) × (left_names f ≡ seen_names root e) × AreEntries root e (left_of_folder f))

-- what was met at an entry, with the object that holds it
pub record IsMeeting (further : Further) (root : StorageRoot) (e : Place) (m : Met) : Type 0 where
  pub item : IsItemAt further root e m.item
  pub folder : IsPileAt root e m.folder
  pub table : IsTableAround further root e m.around

-- ---- the same of any store

pub record IsFairMet (e : Place) (m : Met) : Type 0 where
  pub item : IfSome m.item (λ p. p.place ≡ e)
  pub folder : IfSome m.folder (λ f. IsFairPile e f)
  pub table : IsAroundIf e m.around

-- ---- an answer of a walk

-- the next item: the first that is due
pub record IsNext (further : Further) (root : StorageRoot) (last : Option Place) (p : Pending) : Type 0 where
  pub pending : IsPending further root p
  pub due_are : due further root last ≡ p.place ∷ due further root (Some p.place)

abbrev pub step_from : Option Pending → Step
step_from None = step.Nothing
step_from (Some p) = step.Item p

-- the first of those up to another place, and then there was a fault
abbrev pub FailsTo : Further → StorageRoot → Store → Store → Option Place → Place → Fault → Type 0
FailsTo further root s t from to why = FailsBetween further root s t from (Some to) why

-- one step to a place
abbrev pub Steps : Further → StorageRoot → Store → Store → Option Place → Stand → Step → Type 0
Steps further root s t last new (step.Item p) = Walks further root s t last (Some p.place) × StandsAt further root new (Some p.place) × IsBeyond last p.place × IsNext further root last p
Steps further root s t last new step.Nothing = (x : Place) × Walks further root s t last (Some x) × StandsAt further root new (Some x) × IsBeyond last x × (due further root last ≡ due further root (Some x))
Steps further root s t last new step.End = ⊥

-- what a step to x comes to, or the fault that it meets
abbrev pub StepsTo : Further → StorageRoot → Store → Store → Option Place → Place → Stand → Result Step Fault → Type 0
StepsTo further root s t last x new r = MatchResult r (λ step. Steps further root s t last new step) (λ why. FailsTo further root s t last x why)

-- one step, if there is one before the end
abbrev pub StepsOut : Further → StorageRoot → Store → Store → Option Place → End → Stand → Step → Type 0
StepsOut further root s t last e new (step.Item p) =
    Walks further root s t last (Some p.place) × StandsAt further root new (Some p.place) × IsBeyond last p.place × (is_past e p.place ≡ false) × IsNext further root last p
StepsOut further root s t last e new step.Nothing =
    (x : Place) × Walks further root s t last (Some x) × StandsAt further root new (Some x) × IsBeyond last x × (is_past e x ≡ false) × (due further root last ≡ due further root (Some x))
StepsOut further root s t last e new step.End = WalksOut further root s t last e × (before_end e (due further root last) ≡ []) × StandsAt further root new last

abbrev pub StepsOutTo : Further → StorageRoot → Store → Store → Option Place → End → Stand → Result Step Fault → Type 0
StepsOutTo further root s t last e new r = MatchResult r (λ step. StepsOut further root s t last e new step) (λ why. FailsOut further root s t last e why)

-- the first step of a walk that begins at a place, after the place q before it
abbrev pub StepsAt : Further → StorageRoot → Store → Store → Place → End → Stand → Stand → Step → Type 0
StepsAt further root s t q e old new (step.Item p) = StepsOut further root s t (Some q) e new (step.Item p)
StepsAt further root s t q e old new step.Nothing = StepsOut further root s t (Some q) e new step.Nothing
StepsAt further root s t q e old new step.End = WalksOut further root s t (Some q) e × (before_end e (due further root (Some q)) ≡ []) × (new ≡ old)

abbrev pub StepsAtTo : Further → StorageRoot → Store → Store → Place → End → Stand → Stand → Result Step Fault → Type 0
StepsAtTo further root s t q e old new r = MatchResult r (λ step. StepsAt further root s t q e old new step) (λ why. FailsOut further root s t (Some q) e why)

-- on any store a step to x stands there
abbrev pub GoesTo : Stand → Place → Step → Type 0
GoesTo new x (step.Item p) = new.last ≡ Some x
GoesTo new x step.Nothing = new.last ≡ Some x
GoesTo new x step.End = ⊥

-- on any store a step stands before the end
abbrev pub IsBefore : End → Stand → Step → Type 0
IsBefore e new (step.Item p) = is_past e p.place ≡ false
IsBefore e new step.Nothing = ⊤
IsBefore e new step.End = ⊤

-- on any store it goes on to a greater place, and what is left gets less
abbrev pub GoesOn : Stand → Stand → Step → Type 0
GoesOn old new (step.Item p) = (new.last ≡ Some p.place) × IsBeyond old.last p.place × (stand_size new < stand_size old) × (length p.place ≤ 255)
GoesOn old new step.Nothing = (x : Place) × (new.last ≡ Some x) × IsBeyond old.last x × (stand_size new < stand_size old)
GoesOn old new step.End = ⊤

-- the same of the first step of a walk that begins at a place, if less or as much is left
abbrev pub GoesAt : Stand → Stand → Step → Type 0
GoesAt old new (step.Item p) = (new.last ≡ Some p.place) × IsBeyond old.last p.place × (stand_size new ≤ stand_size old) × (length p.place ≤ 255)
GoesAt old new step.Nothing = (x : Place) × (new.last ≡ Some x) × IsBeyond old.last x × (stand_size new ≤ stand_size old)
GoesAt old new step.End = new ≡ old

-- nothing is left before the end where it stands
abbrev pub HasEnded : Further → StorageRoot → End → Stand → Type 0
HasEnded further root e new = (x : Option Place) × StandsAt further root new x × (before_end e (due further root x) ≡ [])

-- the next item
abbrev pub NextTold : Further → StorageRoot → Store → Store → Option Place → End → Stand → Option Pending → Type 0
NextTold further root s t last e new None = WalksOut further root s t last e × (before_end e (due further root last) ≡ []) × HasEnded further root e new
NextTold further root s t last e new (Some p) = Walks further root s t last (Some p.place) × StandsAt further root new (Some p.place) × IsNext further root last p

abbrev pub NextOutTo : Further → StorageRoot → Store → Store → Option Place → End → Stand → Result (Option Pending) Fault → Type 0
NextOutTo further root s t last e new r = MatchResult r (λ o. NextTold further root s t last e new o) (λ why. FailsOut further root s t last e why)

abbrev pub NextGoesOn : Stand → Stand → Option Pending → Type 0
NextGoesOn old new None = ⊤
NextGoesOn old new (Some p) = (new.last ≡ Some p.place) × IsBeyond old.last p.place × (stand_size new < stand_size old) × (length p.place ≤ 255)

-- where some steps that gave nothing have come to, on any store and on one that tells its tree
abbrev pub Onward : Stand → Stand → Type 0
Onward old new = (new ≡ old) ⊎ ((x : Place) × (new.last ≡ Some x) × IsBeyond old.last x × (stand_size new < stand_size old))

abbrev pub SoFar : Further → StorageRoot → Store → Store → Option Place → End → Stand → Type 0
SoFar further root s t last e stand =
    ((t ≡ s) × StandsAt further root stand last) ⊎ ((x : Place) × Walks further root s t last (Some x) × StandsAt further root stand (Some x) × IsBeyond last x × (is_past e x ≡ false) × (due further root last ≡ due further root (Some x)))
