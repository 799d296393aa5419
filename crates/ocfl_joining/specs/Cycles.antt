-- Which cycles of parts are joined, and in which order.
use Rattle.std.specs.Prelude.{◌≡◌, ◌≢◌, ◌⊎◌, ℕ, zero, suc, ◌+◌, ◌-◌, ◌<◌, ◌==◌, ◌&&◌, ◌||◌, max, List, [], ◌∷◌, ◌++◌, length, All, flat_map, Bool, true, false, not, if◌then◌else◌, Option, Some, None, ⊤}
use Rattle.std.specs.List.{Contains}
use Rattle.ocfl_tree.specs.Place.{Text, Place}
use Rattle.ocfl_say.specs.Said.{Said, HasSaid, Grows, unknown}
use Rattle.ocfl_joining.specs.{Joined.{IsRight, all_parts, joined_of, joined_text}, Missing.{KnownPart, are_right, hindering_of, missing_of, part_count, root_of}}
use Rattle.ocfl_joining.specs.{Failing.{failed_status, more_of}, Reports.{Put, Seen, nothing_seen}, Status.{status_of}, Stops.{IsStopRight}}
use Rattle.ocfl_joining.specs.Saying.{lacking_text, missing_text, stop_text, words_of}
use Rattle.ocfl_joining.specs.declared.{cycles.JoinedLook.{JoinedLook}, part.MissingPart.{MissingPart}, status.CycleEnd.{CycleEnd}}
use Rattle.ocfl_joining.specs.declared.{failing.{FailedCall.{FailedCall}, JoinEnd.{JoinEnd}}, joining.JoinStop.{JoinStop}}
use Rattle.ocfl_joining.specs.declared.cycles.JoinedLook.TheVariants.{There, Packed, Away}
use Rattle.ocfl_joining.specs.declared.status.CycleEnd.TheVariants.{IsJoined, IsHindered}

-- The separators of the parts. Of each cycle: what is known of the reports that the parts have closed;
-- which part, by its number, has a closed report and has said what that found; whether a joined report is
-- there compressed; how the path of one is shown that is not whole; the word on one that has these bytes;
-- and the closed reports, with the joined ones that are there. What was said of cycles that were not
-- joined, or not whole. What the output was given for words on joined reports. And whether the folders
-- are there that show all this.
pub record SeenCycles : Type 0 where
  pub separators : List Place
  pub parts : ℕ → List (Option KnownPart)
  pub closed : ℕ → ℕ → Bool
  pub packed : ℕ → Bool
  pub path : ℕ → Text
  pub word : ℕ → Bool → Text → Text
  pub reports : ℕ → Seen
  pub noted : Text
  pub said : Said
  pub there : Bool

-- of cycles of which nothing is known
abbrev pub no_cycles : SeenCycles
no_cycles = record { separators = []; parts = λ _. []; closed = λ _ _. false; packed = λ _. false; path = λ _. []; word = λ _ _ _. []; reports = λ _. nothing_seen; noted = []; said = unknown; there = false }

-- one more text was said
abbrev pub with_said : Text → SeenCycles → SeenCycles
with_said text s = record { separators = s.separators; parts = s.parts; closed = s.closed; packed = s.packed; path = s.path; word = s.word; reports = s.reports; noted = s.noted ++ text; said = s.said; there = s.there }

-- all but the joined reports of one cycle, and what was said, is as it was; the folders are still there
pub record IsBeside (cycle : ℕ) (old new : SeenCycles) : Type 0 where
  pub separators : new.separators ≡ old.separators
  pub parts : new.parts ≡ old.parts
  pub closed : new.closed ≡ old.closed
  pub packed : new.packed ≡ old.packed
  pub path : new.path ≡ old.path
  pub word : new.word ≡ old.word
  pub there : new.there ≡ old.there
  pub others : (other : ℕ) → other ≢ cycle → new.reports other ≡ old.reports other

-- ---- which cycles

-- one of these joined reports is whole, or is not
abbrev pub has_put : Bool → List Put → Bool
has_put whole [] = false
has_put whole (p ∷ ps) = (if whole then p.whole else not p.whole) || has_put whole ps

-- what there is of the joined report of a cycle: one that is whole counts before one that is not
abbrev pub look_of : Bool → List Put → JoinedLook
look_of packed ps =
    if has_put true ps then There true
    else (if has_put false ps then There false
    else (if packed then Packed else Away))

abbrev pub look_at : SeenCycles → ℕ → JoinedLook
look_at s cycle = look_of (s.packed cycle) (s.reports cycle).put

abbrev pub is_there : JoinedLook → Bool
is_there (There whole) = true
is_there Packed = true
is_there Away = false

-- each of so many parts has closed the cycle, and has said what that found
abbrev pub have_all : (ℕ → ℕ → Bool) → ℕ → ℕ → Bool
have_all closed zero cycle = true
have_all closed (suc n) cycle = have_all closed n cycle && closed cycle (n + 1)

-- a cycle before the last one is joined if all parts have closed it, and it is not joined yet
abbrev pub is_due : SeenCycles → ℕ → ℕ → Bool
is_due s parts cycle = not (is_there (look_at s cycle)) && have_all s.closed parts cycle

-- of the cycles before one the last 1,000 are looked at
abbrev pub oldest : ℕ → ℕ
oldest last = max 1 (last - 1000)

abbrev pub whole_of : JoinedLook → Option Bool
whole_of (There whole) = Some whole
whole_of Packed = None
whole_of Away = None

-- the joined report with which the last cycle is compared, if one is there; there is none of cycle 0
abbrev pub made_of : SeenCycles → ℕ → Option Bool
made_of s cycle = if cycle == 0 then None else whole_of (look_at s cycle)

abbrev pub is_none : Option Bool → Bool
is_none None = true
is_none (Some whole) = false

-- how a joining ended: the joined report is whole or not, or parts keep the cycle from being joined
abbrev pub end_of : Bool → Option Bool → CycleEnd
end_of names None = IsHindered names
end_of names (Some whole) = IsJoined whole

-- ---- what a joining makes of a cycle

-- what is wrong with the closed reports of these parts, which are of the root of the first of them
abbrev pub missing_in : List Place → List (Option KnownPart) → ℕ → List MissingPart
missing_in separators parts cycle = missing_of separators (root_of parts) cycle parts

-- the parts that keep them from being joined
abbrev pub hindering_in : List Place → List (Option KnownPart) → ℕ → List MissingPart
hindering_in separators parts cycle = hindering_of separators (root_of parts) cycle parts

-- The closed reports of a cycle can be joined, to a report that is whole if each of them is: each is as
-- it was closed, and in its part.
pub record CanJoin (separators : List Place) (parts : List (Option KnownPart)) (cycle : ℕ) (whole : Bool) (s : Seen) : Type 0 where
  pub none_hinders : hindering_in separators parts cycle ≡ []
  pub whole_is : whole ≡ are_right (missing_in separators parts cycle)
  pub right : All (IsRight separators s) (all_parts separators)

-- the joined report is put beside those that were there, or was found among them
abbrev pub IsPutOrFound : Option Bool → Put → List Put → List Put → Type 0
IsPutOrFound None joined old new = new ≡ old ++ joined ∷ []
IsPutOrFound (Some made) joined old new = (made ≡ joined.whole) × (Contains old joined × (new ≡ old))

-- The joining of a cycle ended so, over what was made of it before: there is a joined report, which has
-- the closed reports of all parts in their order, each once. Or parts keep the cycle from being joined,
-- and nothing is put.
abbrev pub ComesTo : List Place → List (Option KnownPart) → ℕ → Option Bool → CycleEnd → Seen → Seen → Type 0
ComesTo separators parts cycle made (IsJoined whole) old new = CanJoin separators parts cycle whole old × IsPutOrFound made (joined_of separators whole old) old.put new.put
ComesTo separators parts cycle made (IsHindered named) old new = (hindering_in separators parts cycle ≢ []) × (new.put ≡ old.put)

-- the word on a joined report was said if it was made, and nothing if it was compared with the one there
abbrev pub HasWord : Option Bool → Text → Said → Said → Type 0
HasWord None word before after = HasSaid word before after
HasWord (Some made) word before after = after ≡ before

-- what the output was given at the end of a joining, by what the words on joined reports are
abbrev pub IsHeard : List Place → (Bool → Text → Text) → Option Bool → CycleEnd → Seen → Said → Said → Type 0
IsHeard separators word made (IsJoined whole) old before after = HasWord made (word whole (joined_text separators old)) before after
IsHeard separators word made (IsHindered named) old before after = after ≡ before

-- the joined report is put, which could be put, after its word was said
pub record IsPut (separators : List Place) (parts : List (Option KnownPart)) (cycle : ℕ) (word : Bool → Text → Text) (old new : Seen) (before after : Said) : Type 0 where
  pub whole : Bool
  pub could : CanJoin separators parts cycle whole old
  pub put : new.put ≡ old.put ++ joined_of separators whole old ∷ []
  pub said : HasSaid (word whole (joined_text separators old)) before after

-- a call failed: nothing is put, whatever the output was given, or the joined report is
abbrev pub MayCome : List Place → List (Option KnownPart) → ℕ → (Bool → Text → Text) → Seen → Seen → Said → Said → Type 0
MayCome separators parts cycle word old new before after =
    ((new.put ≡ old.put) × Grows before after) ⊎ IsPut separators parts cycle word old new before after

-- what is said of the end: what the joined report lacks, or which parts keep the cycle from being joined
abbrev pub end_text : List Place → List (Option KnownPart) → ℕ → Text → CycleEnd → Text
end_text separators parts cycle path (IsJoined whole) = if whole then [] else lacking_text cycle parts path
end_text separators parts cycle path (IsHindered named) = if named then missing_text cycle parts (hindering_in separators parts cycle) else []

-- ---- what comes of them

-- a cycle was passed by; or its joining ended, and this was said; or it stopped, for this reason, with
-- this status, and this was said
pub data Round : Type 0 where
  passed : Round
  ended : CycleEnd → Text → Round
  stopped : JoinStop → JoinEnd → Text → Round

-- if parts keep a cycle from being joined, they are named or not
abbrev pub NamesAs : Bool → CycleEnd → Type 0
NamesAs names (IsJoined whole) = ⊤
NamesAs names (IsHindered named) = named ≡ names

-- the joining of a cycle ended so, over what was made of it before and what the output was given
pub record Comes (s : SeenCycles) (cycle : ℕ) (made : Option Bool) (names : Bool) (end : CycleEnd) (text : Text) (new : Seen) (before after : Said) : Type 0 where
  pub named : NamesAs names end
  pub comes : ComesTo s.separators (s.parts cycle) cycle made end (s.reports cycle) new
  pub said : text ≡ end_text s.separators (s.parts cycle) cycle (s.path cycle) end
  pub heard : IsHeard s.separators (s.word cycle) made end (s.reports cycle) before after

-- It was said why a cycle stopped, with what the system said of a call that failed, if that is known;
-- or that could not be said.
pub record SaysStop (cycle : ℕ) (why : JoinStop) (end : JoinEnd) (text : Text) : Type 0 where
  pub call : Option FailedCall
  pub status_is : end.status ≡ failed_status why call
  pub text_is : text ≡ (if end.said then stop_text cycle why (words_of call) else [])

-- the greatest number of a part, of so many that are asked for
abbrev pub last_part : SeenCycles → ℕ → ℕ → ℕ
last_part s parts cycle = max parts (part_count s.separators (s.parts cycle))

-- the joining of a cycle stopped, for a reason that holds, which was said
pub record IsStopped (s : SeenCycles) (parts cycle : ℕ) (why : JoinStop) (end : JoinEnd) (text : Text) (new : Seen) (before after : Said) : Type 0 where
  pub may : MayCome s.separators (s.parts cycle) cycle (s.word cycle) (s.reports cycle) new before after
  pub right : IsStopRight (last_part s parts cycle) s.separators (s.reports cycle) why
  pub says : SaysStop cycle why end text

-- A cycle before the last one, with the reports that are there of it then, and what the output was given
-- before it and after it: if it is due it is made, and no part is named; else it is passed by.
abbrev pub IsEarlier : SeenCycles → ℕ → ℕ → Seen → Said → Said → Round → Type 0
IsEarlier s parts cycle new before after passed = (is_due s parts cycle ≡ false) × ((new ≡ s.reports cycle) × (after ≡ before))
IsEarlier s parts cycle new before after (ended end text) = (is_due s parts cycle ≡ true) × Comes s cycle None false end text new before after
IsEarlier s parts cycle new before after (stopped why end text) = IsStopped s parts cycle why end text new before after

-- the last one: it is compared with what was made of it, or made, and then the parts that keep it from
-- it are named
abbrev pub IsLast : SeenCycles → ℕ → Seen → Said → Said → Round → Type 0
IsLast s cycle new before after passed = ⊥
IsLast s cycle new before after (ended end text) = Comes s cycle (made_of s cycle) (is_none (made_of s cycle)) end text new before after
IsLast s cycle new before after (stopped why end text) = IsStopped s 0 cycle why end text new before after

-- cycles before the last one, one after the other, from a number on
abbrev pub AreEarlier : SeenCycles → (ℕ → Seen) → ℕ → ℕ → Said → Said → List Round → Type 0
AreEarlier s new parts first before after [] = after ≡ before
AreEarlier s new parts first before after (r ∷ rounds) = (then_said : Said) × (IsEarlier s parts first (new first) before then_said r × AreEarlier s new parts (first + 1) then_said after rounds)

abbrev pub said_by : Round → Text
said_by passed = []
said_by (ended end text) = text
said_by (stopped why end text) = text

-- its status, and whether all was said
abbrev pub end_by : Round → JoinEnd
end_by passed = record { status = 0; said = true }
end_by (ended end text) = record { status = status_of end; said = true }
end_by (stopped why end text) = end

abbrev pub ends_of : List Round → JoinEnd
ends_of [] = record { status = 0; said = true }
ends_of (r ∷ rounds) = more_of (end_by r) (ends_of rounds)

-- Each cycle up to the last one of so many parts, in order, with the greatest status, and whether all
-- was said. Nothing else was joined or said, and the folders are still there.
pub record AreJoined (old new : SeenCycles) (parts last : ℕ) (result : JoinEnd) : Type 0 where
  pub rounds : List Round
  pub end : Round
  pub heard : Said
  pub are : AreEarlier old new.reports parts (oldest last) old.said heard rounds
  pub all : length rounds ≡ last - oldest last
  pub end_is : IsLast old last (new.reports last) heard new.said end
  pub noted : new.noted ≡ old.noted ++ flat_map said_by (rounds ++ end ∷ [])
  pub result_is : result ≡ ends_of (rounds ++ end ∷ [])
  pub there : new.there ≡ old.there
  pub others : (cycle : ℕ) → (cycle < oldest last) ⊎ (last < cycle) → cycle ≢ last → new.reports cycle ≡ old.reports cycle
