use Rattle.std.proofs.Common.{◌≢◌, List, ℕ, ◌++◌, IsNone, sym, subst}
use Rattle.ocfl_cursor.specs.Cursor.{further_line}
use Rattle.ocfl_cursor.specs.Internal.Body.{further_of}
use Rattle.ocfl_cursor.specs.declared.form.FormVersion.{FormVersion}
use Rattle.ocfl_cursor.proofs.decoding.after_further.Goals as goal

pub returns-in-Three-clause-missing : goal.returns-in-Three-clause-missing
returns-in-Three-clause-missing c =
    subst (λ (v : FormVersion). IsNone c.after_prefix.result → (rest : List ℕ) → c.args.lines.now ≢ further_line (further_of v) ++ rest) (sym c.in-Three.is) c.after_prefix.ensures.missing
