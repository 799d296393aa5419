-- Any nights over one state folder, each ended or crashed.
use Rattle.std.specs.Prelude.{⊤, ℕ, ◌≡◌, ◌≢◌, ◌++◌, List, [], ◌∷◌, None, Some, IsTrue, true, false, map, flat_map}
use Rattle.std.specs.List.{AllByRecursion}
use Rattle.ocfl_tree.specs.{Place.{Place, Text}, Ascending.{IsAmong}, StorageRoot.{StorageRoot}}
use Rattle.ocfl_report.specs.{Text.{text}, declared.further.Further.{Further}}
use Rattle.ocfl_rules.specs.{Audit.{Unread, audit}, Parts.{Part, within}}
use Rattle.ocfl_state.specs.{Content.{Content, Closed, is_closed}, Crash.{Outcomes, Follows}}
use Rattle.ocfl_state.specs.Checkpoint.{Checkpoint}
use Rattle.ocfl_state.specs.declared.folder.StateFolder as state
use Rattle.ocfl_state.specs.declared.checkpoint_parts.{Left.{Left}, Phase.TheVariants.{Closing}}
use Rattle.ocfl_night_laws.specs.Around.{AreNext, around}
use Rattle.ocfl_night.specs.{Chain.{AreLeft, HasClosed}, Looks.{Known, Look, Rounds}, Sound.{IsAt, IsSafeNight, IsSoundAt}}
use Rattle.ocfl_terms.specs.Output.{HasTaken, Said}

-- A night: of which cycles closed reports may have been taken away before it, the folder when it began
-- and when it was last seen, what its store was looked at for, and what its output had been given and
-- had committed before and then.
pub record Night (F : Type 0) : Type 0 where
  pub gone : List ℕ
  pub began : F
  pub ended : F
  pub look : Look
  pub before : Said
  pub said : Said

-- Between two nights closed reports of some cycles may be taken away, but not that of the checkpoint's
-- own cycle while the checkpoint says that it is to be closed.
pub record IsTidied (gone : List ℕ) (old new : Content) : Type 0 where
  pub checkpoint : new.checkpoint ≡ old.checkpoint
  pub report : new.report ≡ old.report
  pub closed : AreLeft (IsAmong gone) old.closed new.closed
  pub stays : (k : Checkpoint) → IsAt k old → k.phase ≡ Closing → IsTrue (is_closed old.closed k.cursor.cycle) → IsTrue (is_closed new.closed k.cursor.cycle)

-- Nights over a part, whose audit checks this. The first begins on one of these outcomes, and each other one on what a crash of
-- the one before it, at any moment, may have left, or on its end; but closed reports may have been
-- taken away meanwhile.
abbrev pub AreNights : {F : Type 0} → state.Ghosts F → Further → Part → Outcomes → List (Night F) → Type 0
AreNights S further part outcomes [] = ⊤
AreNights S further part outcomes (n ∷ nights) =
    Follows (IsTidied n.gone) outcomes (S.may_leave n.began)
    × IsSafeNight S further part n.look n.began n.ended n.before n.said
    × AreNights S further part (S.left_since n.ended (S.moment n.began)) nights

-- whatever a crash at any moment of each night may have left
abbrev pub AtAnyMoment : {F : Type 0} → state.Ghosts F → (Content → Type 0) → List (Night F) → Type 0
AtAnyMoment S Holds [] = ⊤
AtAnyMoment S Holds (n ∷ nights) = ((c : Content) → S.left_since n.ended (S.moment n.began) c → Holds c) × AtAnyMoment S Holds nights

-- The closed reports are those of the first cycles, each once, but for those that were taken away, and
-- each that is called whole is what a whole chain of runs wrote.
abbrev pub AreWhole : Rounds → List Closed → Type 0
AreWhole rounds closed = (next : ℕ) × HasClosed rounds next closed

-- of each of some closed reports that is called whole this holds
abbrev pub EachWhole : (Text → Type 0) → List Closed → Type 0
EachWhole Holds closed = (d : Closed) → IsAmong closed d → d.whole ≡ true → Holds d.report

-- a text is the audit of a part that checks this, in which a file is called unreadable only if one of
-- these looks could not read it
pub record IsAuditBut (further : Further) (root : StorageRoot) (part : Part) (looks : List Look) (report : Text) : Type 0 where
  pub unread : Unread
  pub is : report ≡ text (within part (audit further root unread))
  pub each : (e : Place × ℕ) → IsAmong unread e → (l : Look) × (IsAmong looks l × IsAmong l.unread e)

-- all nights looked at this storage root
abbrev pub AreOver : {F : Type 0} → StorageRoot → List (Night F) → Type 0
AreOver root nights = AllByRecursion (λ n. n.look.root ≡ root) nights

-- and could read each content file that they opened
abbrev pub HaveReadAll : {F : Type 0} → List (Night F) → Type 0
HaveReadAll nights = AllByRecursion (λ n. n.look.unread ≡ []) nights

-- A text is the audit of a part but for branches that were left out, at least one: up to where each
-- was, and then what comes after it. Between the two no item is lost but the branch's
pub record IsAround (further : Further) (root : StorageRoot) (part : Part) (report : Text) : Type 0 where
  pub left : List Left
  pub some : left ≢ []
  pub next : AreNext further root part left
  pub is : report ≡ text (around part None left (audit further root []))

-- of each other one this holds
abbrev pub EachOther : (Text → Type 0) → List Closed → Type 0
EachOther Holds closed = (d : Closed) → IsAmong closed d → d.whole ≡ false → Holds d.report

-- what is known of these nights
abbrev pub known_of : {F : Type 0} → List (Night F) → Known
known_of nights = record { looks = map (λ n. n.look) nights; gone = flat_map (λ n. n.gone) nights }

-- the rounds that they are
abbrev pub rounds_of : {F : Type 0} → Further → Part → List (Night F) → Rounds
rounds_of further part nights = record { part = part; further = further; known = Some (known_of nights) }

-- a text is joined from what each of these nights' outputs was given first and has committed, the last
-- night first
abbrev pub IsTaken : {F : Type 0} → List (Night F) → Text → Type 0
IsTaken [] said = said ≡ []
IsTaken (n ∷ earlier) said = (t : Text) × ((more : Text) × ((said ≡ t ++ more) × ((more ≢ [] → HasTaken more n.before n.said) × IsTaken earlier t)))

-- at any moment of each night, what was said was committed by its output and those before it
abbrev pub AllTaken : {F : Type 0} → state.Ghosts F → Rounds → List (Night F) → List (Night F) → Type 0
AllTaken S rounds earlier [] = ⊤
AllTaken S rounds earlier (n ∷ nights) =
    ((c : Content) → S.left_since n.ended (S.moment n.began) c → (t : Text) × (IsSoundAt rounds t c × IsTaken (n ∷ earlier) t)) × AllTaken S rounds (n ∷ earlier) nights
