use Rattle.std.proofs.Common.{ℕ, List, sym, subst, ◌∙◌}
use Rattle.std.specs.Io.KnownBytes.{Consumes}
use Rattle.ocfl_tree.proofs.Places.{text_eq-Decides}
use Rattle.ocfl_join_disk.proofs.comparing.is_next.Goals as goal

pub returns : goal.returns
returns g c = λ is. subst (λ (t : List ℕ). Consumes (g.R.Read.remaining c.args.report.now) (g.R.Read.remaining c.read_exact.new.self) t)
    ((text_eq-Decides _ _).0 (sym c.is_bytes.ensures ∙ is)) c.in_ok-read_exact.ensures.bytes
