-- What came of the joining of one cycle on a disk.
use Rattle.std.specs.Prelude.{◌≡◌, ◌≢◌, ℕ, List, [], Bool, true, false, Option, Result, IfErr, IfOk, OnErr}
use Rattle.ocfl_tree.specs.Place.{Place}
use Rattle.ocfl_say.specs.Said.{Said}
use Rattle.ocfl_disk.specs.Names.{Stored}
use Rattle.ocfl_joining.specs.{Cycles.{ComesTo, IsHeard, MayCome, end_of, end_text, hindering_in}, Facts.{known_parts}, Folders.{with_noted}, Missing.{KnownPart, part_count}, Stops.{IsChangedRightly, IsMissingRightly, IsOfPart, IsStopRight, is_missing}}
use Rattle.ocfl_joining.specs.declared.{facts.Facts.{Facts}, joining.{Joined.{Joined}, JoinStop.{JoinStop}}}
use Rattle.ocfl_joining.specs.declared.status.CycleEnd.TheVariants.{IsJoined}
use Rattle.ocfl_join_disk.specs.Shown.{PartFiles, joined_in, others_in, reports_in}

-- The closed reports of these parts were joined, or not, and nothing else was changed. The output was
-- given the word on the joined report, if one was made.
pub record HasCome (separators : List Place) (parts : List (Option KnownPart)) (cycle : ℕ) (made : Option Bool) (files now : PartFiles) (s t : Stored) (before after : Said) (joined : Result Joined JoinStop) : Type 0 where
  pub comes : IfOk joined (λ j. ComesTo separators parts cycle made (IsJoined j.whole) (reports_in cycle files s) (reports_in cycle now t))
  pub heard : IfOk joined (λ j. IsHeard separators (files.folders.word cycle) made (IsJoined j.whole) (reports_in cycle files s) before after)
  pub missing : IfErr joined (IsMissingRightly (hindering_in separators parts cycle))
  pub unheard : IfErr joined (λ stop. is_missing stop ≡ true → after ≡ before)
  pub unput : IfErr joined (λ stop. is_missing stop ≡ true → joined_in cycle t ≡ joined_in cycle s)
  pub may : OnErr joined (MayCome separators parts cycle (files.folders.word cycle) (reports_in cycle files s) (reports_in cycle now t) before after)
  pub changed : IfErr joined (IsChangedRightly separators (reports_in cycle files s))
  pub part : IfErr joined (IsOfPart separators)
  pub folders : now.folders ≡ files.folders
  pub others : others_in cycle t ≡ others_in cycle s

-- the cycle was joined, or parts keep it from that, and this was said; or it stopped, for a reason that
-- holds, and nothing was said
pub record HasEnded (separators : List Place) (facts : List (Option Facts)) (cycle : ℕ) (made : Option Bool) (names : Bool) (files now : PartFiles) (s t : Stored) (before after : Said) (whole : Result (Option Bool) JoinStop) : Type 0 where
  pub comes : IfOk whole (λ w. ComesTo separators (known_parts files.folders facts cycle) cycle made (end_of names w) (reports_in cycle files s) (reports_in cycle now t))
  pub heard : IfOk whole (λ w. IsHeard separators (files.folders.word cycle) made (end_of names w) (reports_in cycle files s) before after)
  pub said : IfOk whole (λ w. now.folders ≡ with_noted (end_text separators (known_parts files.folders facts cycle) cycle (files.folders.path cycle false) (end_of names w)) files.folders)
  pub may : OnErr whole (MayCome separators (known_parts files.folders facts cycle) cycle (files.folders.word cycle) (reports_in cycle files s) (reports_in cycle now t) before after)
  pub why : IfErr whole (IsStopRight (part_count separators (known_parts files.folders facts cycle)) separators (reports_in cycle files s))
  pub silent : OnErr whole (now.folders ≡ files.folders)
  pub others : others_in cycle t ≡ others_in cycle s
