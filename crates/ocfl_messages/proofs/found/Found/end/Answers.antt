use Rattle.std.proofs.Common.{◌≡◌, ◌==◌, [], ◌++◌, ap, sym, ◌∙◌}
use Rattle.std.proofs.lemmas.List.{append-nil}
use Rattle.ocfl_report.specs.Text.{lines_text}
use Rattle.ocfl_messages.specs.{Finding.{ended_after, first_section, section_after}, Known.{is_unknown}}
use Rattle.ocfl_messages.proofs.{Lists.{no_more}, Placing.{section_head}}
use Rattle.ocfl_messages.proofs.found.Found.end.Goals as goal

pub returns-clause-ok : goal.returns-clause-ok
returns-clause-ok c = λ known head b h.
    let first = first_section head in
    let none : c.args.self.rest.items ≡ [] = no_more c.args.self.rest.items (ap (λ n. n == 0) (sym c.args.self.rest.ok.0) ∙ sym c.is_empty.ensures ∙ c.if-not-is_empty.false) in
    record {
      lines = h.lines;
      are = h.are;
      is = h.is ∙ ap (λ t. lines_text h.lines ++ t) none ∙ append-nil (lines_text h.lines);
      gravest = c.end.ensures.found (is_unknown known) (ended_after first h.lines) (section_after first h.lines) h.gathered;
      heads = ap (λ x. x.last) c.end.ensures.heads ∙ h.gathered.head ∙ section_head first h.lines;
    }
