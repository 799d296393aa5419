-- What calls in memory answered, as the calls of the system answer it.
use Rattle.ocfl_plan.specs.Stopping.{Answer, HasStop, Ran, Seconds}
use Rattle.ocfl_mem_clock.specs.declared.answered.Answered.{Answered}
use Rattle.ocfl_mem_clock.specs.declared.answered.Answered.TheVariants as kept

abbrev pub answer_of : Answered → Answer
answer_of (kept.Seconds time) = Seconds time
answer_of (kept.HasStop there) = HasStop there
answer_of (kept.Ran made) = Ran made
