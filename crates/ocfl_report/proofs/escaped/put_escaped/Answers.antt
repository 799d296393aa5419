use Rattle.std.proofs.Common.{◌≡◌, ◌++◌, sym, ap, ◌∙◌, refl, le_refl, append_assoc}
use Rattle.std.proofs.Transfers.{starts_with_of_append, starts_with_of_eq, starts_with_trans}
use Rattle.percent_encoding.specs.Iter.{encoded_text}
use Rattle.ocfl_report.proofs.{Encoded.{percent_encode-escape}, Bytes.{bytes_from_type}}
use Rattle.ocfl_report.proofs.Growing.{at_least, if_refused, no_room_within}
use Rattle.ocfl_report.proofs.escaped.put_escaped.Goals as goal

pub loop-piece-init : goal.loop-piece-init
loop-piece-init c =
    let small = bytes_from_type c.args.text.now c.type_inv.text in
    record {
      grows = ap (λ t. c.args.out.now.items ++ t) (rw c.into_iter-piece-iterator.ensures.into_iter_gives (c.percent_encode-piece-items.ensures.text ∙ percent_encode-escape c.args.text.now small));
      begins = starts_with_of_eq c.args.out.now.items c.args.out.now.items refl;
      capacity = le_refl _;
    }

pub loop-piece-preserved : goal.loop-piece-preserved
loop-piece-preserved c =
    let inv = c.loop-piece.invariant in
    let left : encoded_text c.loop-piece.piece-iterator ≡ c.as_bytes.result.now ++ encoded_text c.next.new.self = rw c.as_bytes.ensures.value c.in-Some.ensures.steps in
    record {
      grows = ap (λ t. t ++ encoded_text c.next.new.self) c.in_ok-extend_from_slice.ensures.items
          ∙ append_assoc c.loop-piece.out.items c.as_bytes.result.now (encoded_text c.next.new.self) ∙ ap (λ t. c.loop-piece.out.items ++ t) (sym left) ∙ inv.grows;
      begins = starts_with_trans _ _ _ (starts_with_of_append _ _ _ c.in_ok-extend_from_slice.ensures.items) inv.begins;
      capacity = at_least _ _ _ inv.capacity c.in_ok-extend_from_slice.ensures.capacity;
    }

pub returns-in_err-extend_from_slice-clause-begins : goal.returns-in_err-extend_from_slice-clause-begins
returns-in_err-extend_from_slice-clause-begins c =
    starts_with_trans _ _ _ (starts_with_of_eq _ _ c.in_err-extend_from_slice.ensures.items) c.loop-piece.invariant.begins

pub returns-in_err-extend_from_slice-clause-full : goal.returns-in_err-extend_from_slice-clause-full
returns-in_err-extend_from_slice-clause-full c =
    let inv = c.loop-piece.invariant in
    let left : encoded_text c.loop-piece.piece-iterator ≡ c.as_bytes.result.now ++ encoded_text c.next.new.self = rw c.as_bytes.ensures.value c.in-Some.ensures.steps in
    if_refused _ (no_room_within c.args.out.now c.loop-piece.out _ (encoded_text c.next.new.self) _ (ap (λ t. c.loop-piece.out.items ++ t) (sym left) ∙ inv.grows) inv.capacity
    c.in_err-extend_from_slice.ensures.full)

pub returns-in_err-extend_from_slice-clause-capacity : goal.returns-in_err-extend_from_slice-clause-capacity
returns-in_err-extend_from_slice-clause-capacity c = at_least _ _ _ c.loop-piece.invariant.capacity c.in_err-extend_from_slice.ensures.capacity
