use Rattle.std.proofs.Common.{◌∷◌, ◌++◌, [], ◌∙◌, map, subst, sym}
use Rattle.std.specs.Option.{option_map}
use Rattle.ocfl_report.specs.Line.{line_of}
use Rattle.ocfl_compare.specs.Changes.{change_at}
use Rattle.ocfl_words.specs.{Counted.{AreCounted, counted}, Held.{AreHeld, held_noted}, Kept.{kept_by}, Noted.{line_in, noted}}
use Rattle.ocfl_words.proofs.KeptLines.{known_by_line}
use Rattle.ocfl_words.proofs.noting.Noting.note.Goals as goal

pub returns-clause-value : goal.returns-clause-value
returns-clause-value c =
    let old = c.args.self.now in
    let kept = kept_by old in
    let at = change_at c.args.place.now c.args.change in
    let line_is = c.line_of_change-line.ensures ∙ (λ i. line_in (map line_of (c.deref.ensures.value i)) (map line_of (c.deref-2.ensures.value i)) at) in
    c.knows-is_known.ensures
    ∙ sym (known_by_line old.known.now kept.before kept.now c.args.place.now c.args.change (option_map (λ l. line_of l.now) c.line_of_change-line.result) line_is)

pub returns-clause-counted : goal.returns-clause-counted
returns-clause-counted c = λ ns h.
    let old = c.args.self.now in
    let kept = kept_by old in
    let at = change_at c.args.place.now c.args.change in
    let line_is = c.line_of_change-line.ensures ∙ (λ i. line_in (map line_of (c.deref.ensures.value i)) (map line_of (c.deref-2.ensures.value i)) at) in
    let is = c.knows-is_known.ensures
    ∙ sym (known_by_line old.known.now kept.before kept.now c.args.place.now c.args.change (option_map (λ l. line_of l.now) c.line_of_change-line.result) line_is) in
    subst (λ n. AreCounted c.add.new.self (counted (ns ++ n ∷ []))) (λ i. noted at (line_is i) (is i)) (c.in_ok-add.ensures ns h)

pub returns-clause-lines : goal.returns-clause-lines
returns-clause-lines c = λ h k.
    let old = c.args.self.now in
    let kept = kept_by old in
    let at = change_at c.args.place.now c.args.change in
    let line_is = c.line_of_change-line.ensures ∙ (λ i. line_in (map line_of (c.deref.ensures.value i)) (map line_of (c.deref-2.ensures.value i)) at) in
    let is = c.knows-is_known.ensures
    ∙ sym (known_by_line old.known.now kept.before kept.now c.args.place.now c.args.change (option_map (λ l. line_of l.now) c.line_of_change-line.result) line_is) in
    subst (λ n. AreHeld c.name_new.new.lines (held_noted (map line_of old.said.now) h n)) (λ i. noted at (line_is i) (is i)) (c.name_new.ensures h c.args.place.now k)
