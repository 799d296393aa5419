-- What several nights read, one after the other.
use Rattle.std.specs.Prelude.{⊤, ℕ, ◌≡◌, ◌≢◌, List, [], ◌∷◌}
use Rattle.ocfl_tree.specs.Place.{Place}
use Rattle.ocfl_tree.specs.Store.{Store}
use Rattle.ocfl_state.specs.Content.{Content}
use Rattle.ocfl_terms.specs.declared.plan.Halt.{Halt}
use Rattle.ocfl_terms.specs.declared.plan.Halt.TheVariants as halt
use Rattle.ocfl_night.specs.Reading.{IsRead, ReadsBeyond}

-- a night over a folder that showed this before and after it: how it ended, and which content files it
-- opened
pub record Reading : Type 0 where
  pub old : Content
  pub new : Content
  pub before : Store
  pub after : Store
  pub end : Halt
  pub opened : List Place

-- one that ended in order, and in which no failure was counted
pub record IsReading (r : Reading) : Type 0 where
  pub beyond : ReadsBeyond r.old r.opened
  pub read : IsRead r.before r.after r.end r.old r.new r.opened
  pub unfailing : r.after.failures ≡ r.before.failures

-- one after the other, in one cycle: each begins with the checkpoint that the one before it left, and
-- none but the last ended the cycle
abbrev pub AreOfOneCycle : List Reading → Type 0
AreOfOneCycle [] = ⊤
AreOfOneCycle (r ∷ []) = IsReading r
AreOfOneCycle (r ∷ q ∷ readings) = IsReading r × (q.old.checkpoint ≡ r.new.checkpoint) × ((cycle : ℕ) → r.end ≢ halt.CycleEnded cycle) × AreOfOneCycle (q ∷ readings)
