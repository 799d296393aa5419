use Rattle.std.proofs.Common.{ℕ, suc, ◌<◌, ◌≡◌, get_or}
use Rattle.std.specs.declared.cmp.Ordering.TheVariants.{Less}
use Rattle.ocfl_tree.specs.{Place.{text_cmp}, declared.store.Entry.{Entry}}
use Rattle.ocfl_folder.proofs.listed.rise.Given as goal

abbrev pub invariant-loop-i : goal.invariant-loop-i
invariant-loop-i l = (k : ℕ) (d : Entry) → suc k < l.i → text_cmp (get_or l.entries k d).name (get_or l.entries (suc k) d).name ≡ Less
