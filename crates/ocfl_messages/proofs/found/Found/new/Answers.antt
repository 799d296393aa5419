use Rattle.std.proofs.Common.{◌≢◌, [], All, subst, sym}
use Rattle.std.proofs.lemmas.List.Elements.{All-nil}
use Rattle.ocfl_report.specs.Text.{IsLine}
use Rattle.ocfl_messages.specs.Known.{is_unknown}
use Rattle.ocfl_messages.proofs.found.Found.new.Goals as goal

pub returns : goal.returns
returns c = λ known. record {
  lines = [];
  are = All-nil IsLine;
  is = sym c.new-2.ensures.items;
  unended = subst (All (λ b. b ≢ 10)) (sym c.new-2.ensures.items) (All-nil (λ b. b ≢ 10));
  gathered = c.new.ensures (is_unknown known);
}
