use Rattle.std.proofs.Common.{refl, sym, ap, ◌∙◌}
use Rattle.ocfl_cursor.specs.Sealed.{first_line}
use Rattle.ocfl_cursor.proofs.Texts.{first_line-found, first_line-missing}
use Rattle.ocfl_cursor.proofs.pieces.first_line.Goals as goal

pub returns-in-Some : goal.returns-in-Some
returns-in-Some c = sym (ap first_line c.in-Some.ensures.found ∙ first_line-found _ _ c.in-Some.ensures.first)

pub returns-in-None : goal.returns-in-None
returns-in-None c = sym (first_line-missing _ (c.in-None.ensures.missing refl))
