use Rattle.std.proofs.Common.{[], ◌++◌, ◌≡◌, refl, sym, ap, ◌∙◌, append_assoc, rules}
use Rattle.std.proofs.{Output.{has_written_append}, lemmas.Grind.{flat_map-append}}
use Rattle.std.specs.Prelude.{flat_map}
use Rattle.percent_encoding.specs.Iter.{encoded_text}
use Rattle.ocfl_report.specs.Text.{escape}
use Rattle.ocfl_report.proofs.{Bytes.{utf8_bytes}, Encoded.{percent_encode-escape}}
use Rattle.ocfl_messages.specs.Quoted.{quoted_byte}
use Rattle.ocfl_messages.proofs.quoted.EscapedWithinDisplay.fmt.Goals as goal

pub loop-piece-init : goal.loop-piece-init
loop-piece-init g c = λ plain.
    let small = utf8_bytes c.as_bytes.result.now c.as_bytes.ensures.utf8 in
    let shown = c.percent_encode-piece-items.ensures.text ∙ percent_encode-escape c.as_bytes.result.now small ∙ ap escape c.as_bytes.ensures.value in
    let whole : encoded_text c.into_iter-piece-iterator.result ≡ escape c.args.self.now.0.now = rw c.into_iter-piece-iterator.ensures.into_iter_gives shown in
    ([], search rules, ap (flat_map quoted_byte) whole)

pub loop-piece-preserved : goal.loop-piece-preserved
loop-piece-preserved g c = λ plain.
    let so_far = c.loop-piece.invariant plain in
    let one = c.in_ok-write.ensures.writes so_far.1.plain refl in (
      so_far.0 ++ flat_map quoted_byte c.in-Some.piece.now,
      has_written_append _ _ _ _ _ _ so_far.1 one,
      append_assoc so_far.0 _ _
          ∙ ap (λ t. so_far.0 ++ t) (sym (ap (flat_map quoted_byte) c.in-Some.ensures.steps ∙ flat_map-append quoted_byte c.in-Some.piece.now (encoded_text c.next.new.self))) ∙ so_far.2,
    )
