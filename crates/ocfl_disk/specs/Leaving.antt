-- What a cut may leave of a state folder, as contents.
use Rattle.std.specs.Prelude.{◌≡◌, ℕ, ◌≤◌, refl}
use Rattle.ocfl_state.specs.{Content.{Content}, Crash.{Outcomes, Step, Passes}}
use Rattle.ocfl_disk.specs.Names.{Stored, content_of}
use Rattle.ocfl_disk.specs.PowerCut.{DiskState, IsDisk}

-- the contents of what may be left
abbrev pub Leaves : (Stored → Type 0) → Outcomes
Leaves outcomes c = (s : Stored) × outcomes s × (c ≡ content_of s)

-- The laws of a state folder, by those of its disk.
pub stays : (d : DiskState) → IsDisk d → Leaves d.may_leave (content_of d.seen)
stays d is = (d.seen, is.stays, refl)

pub counts_now : (d : DiskState) → IsDisk d → (t : ℕ) (c : Content) → t ≤ d.moment → Leaves d.may_leave c → Leaves (d.left_since t) c
counts_now d is t c le left = (left.0, is.counts_now t left.0 le left.1, left.2)

pub only_now : (d : DiskState) → IsDisk d → (c : Content) → Leaves (d.left_since d.moment) c → Leaves d.may_leave c
only_now d is c left = (left.0, is.only_now left.0 left.1, left.2)

-- one call of a state folder passes, which has a disk
abbrev pub PassesBy : {F : Type 0} → F → F → (F → DiskState) → Step → Type 0
PassesBy old new state step = Passes (λ folder. Leaves (state folder).may_leave) (λ folder. (state folder).moment) (λ folder t. Leaves ((state folder).left_since t)) step old new
