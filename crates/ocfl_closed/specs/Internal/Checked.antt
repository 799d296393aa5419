-- Reading a closed report, which is compared meanwhile with what was kept of its closing.
use Rattle.std.specs.Prelude.{ℕ, ◌++◌, [], ◌∷◌, Bool, true, false, Option, Some, None, IsTrue, ⊤, drop, take}
use Rattle.ocfl_tree.specs.Place.{Text}
use Rattle.ocfl_state.specs.Pieces.{Checks, summary_of}
use Rattle.ocfl_closed.specs.Files.{is_mark}
use Rattle.ocfl_closed.specs.declared.check.ClosedCheck.{ClosedCheck}
use Rattle.ocfl_closed.specs.declared.check.ClosedCheck.TheVariants.{Unchecked, Broken, Kept}

-- a report is as it was closed, by what it is compared with
abbrev pub is_met_by : ClosedCheck → Text → Bool
is_met_by Unchecked report = true
is_met_by Broken report = false
is_met_by (Kept mark check) report = is_mark mark (summary_of report)

-- just these bytes of it were taken
abbrev pub HasTaken : ClosedCheck → Text → Type 0
HasTaken Unchecked bytes = ⊤
HasTaken Broken bytes = ⊤
HasTaken (Kept mark check) bytes = Checks mark check bytes

-- What is behind the bytes of a report: of one that is not as it was closed one byte more, which no
-- read ever gives, since the last one fails. No report ends in it.
abbrev pub end_of : Bool → Text
end_of true = []
end_of false = 0 ∷ []

-- what reads give of a report from an offset on
abbrev pub left_of : ClosedCheck → ℕ → Text → Text
left_of check start report = drop start report ++ end_of (is_met_by check report)

-- if it is told
abbrev pub if_told : Bool → Text → Option Text
if_told true text = Some text
if_told false text = None

-- all bytes before an offset were taken
abbrev pub HasTakenTo : Bool → ClosedCheck → ℕ → Text → Type 0
HasTakenTo told check start report = IsTrue told → HasTaken check (take start report)
