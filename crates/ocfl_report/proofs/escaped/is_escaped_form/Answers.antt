use Rattle.std.proofs.Common.{◌≡◌, ◌≢◌, ◌++◌, List, ℕ, sym, ap, ◌∙◌}
use Rattle.std.proofs.{lemmas.List.{append_cancel_left}, lemmas.Bool.Decides.{Decides-eqb}}
use Rattle.std.proofs.lemmas.Slice.Eq.{strip_prefix_is}
use Rattle.std.proofs.lemmas.Option.{MatchOption-at_some, MatchOption-at_none}
use Rattle.percent_encoding.specs.Iter.{encoded_text}
use Rattle.ocfl_report.specs.Text.{escape}
use Rattle.ocfl_report.proofs.{Encoded.{percent_encode-escape}, Bytes.{bytes_from_type}}
use Rattle.ocfl_report.proofs.escaped.is_escaped_form.Goals as goal

pub loop-piece-init : goal.loop-piece-init
loop-piece-init c =
    let small = bytes_from_type c.args.text.now c.type_inv.text in
    let whole : encoded_text c.into_iter-piece-iterator.result ≡ escape c.args.text.now =
    rw c.into_iter-piece-iterator.ensures.into_iter_gives (c.percent_encode-piece-items.ensures.text ∙ percent_encode-escape c.args.text.now small) in
    (λ e. e ∙ whole, λ e. e ∙ sym whole)

pub loop-piece-preserved : goal.loop-piece-preserved
loop-piece-preserved c =
    let piece = c.as_bytes.result.now in
    let cut : c.loop-piece.rest.now ≡ piece ++ c.in-Some-strip_prefix.behind.now =
    MatchOption-at_some _ _ _ c.in-Some-strip_prefix.is (strip_prefix_is Decides-eqb c.loop-piece.rest.now piece c.strip_prefix.result c.strip_prefix.ensures.cases) in
    let left : encoded_text c.loop-piece.piece-iterator ≡ piece ++ encoded_text c.next.new.self = rw c.as_bytes.ensures.value c.in-Some.ensures.steps in (
      λ e. c.loop-piece.invariant.0 (cut ∙ ap (λ t. piece ++ t) e ∙ sym left),
      λ e. append_cancel_left piece _ _ (sym cut ∙ c.loop-piece.invariant.1 e ∙ left),
    )

pub returns-in-None-strip_prefix : goal.returns-in-None-strip_prefix
returns-in-None-strip_prefix c =
    let piece = c.as_bytes.result.now in
    let differs : (t : List ℕ) → c.loop-piece.rest.now ≢ piece ++ t =
    MatchOption-at_none _ _ c.in-None-strip_prefix.is (strip_prefix_is Decides-eqb c.loop-piece.rest.now piece c.strip_prefix.result c.strip_prefix.ensures.cases) in
    let left : encoded_text c.loop-piece.piece-iterator ≡ piece ++ encoded_text c.next.new.self = rw c.as_bytes.ensures.value c.in-Some.ensures.steps in
    (λ e. cc, λ e. absurd (differs _ (c.loop-piece.invariant.1 e ∙ left)))
