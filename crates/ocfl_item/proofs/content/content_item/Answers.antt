use Rattle.std.proofs.Common.{◌≡◌, [], sym, ◌∙◌, ap, arith, vec_len, length, map}
use Rattle.std.proofs.{lemmas.Bool.{eqb-true, eqb-false}, lemmas.List.{nil_from_length}}
use Rattle.ocfl_inventory.specs.TripleView.{named_view}
use Rattle.ocfl_item.specs.Internal.Content.{is_read}
use Rattle.ocfl_item.proofs.PendingLaws.{IsTold, known_lines_are, known_unhashed, nothing_known, pending_hashed}
use Rattle.ocfl_item.proofs.content.content_item.Goals as goal

pub returns-then-is_hashed-clause-told : goal.returns-then-is_hashed-clause-told
returns-then-is_hashed-clause-told c =
    let read = ap (λ ns. is_read c.args.sight (map named_view ns)) (sym c.deref.ensures.value) ∙ sym c.is_hashed.ensures ∙ c.if-is_hashed.true in
    let made = c.in_ok-hashed_item.ensures in
    λ further root t q content digests sight.
    (pending_hashed further root c.args.place q t c.args.named.items c.args.sight (record { content = content; digests = digests; sight = sight }) _ made.place made.hashed made.remarks made.expected read, made.place)

pub returns-then-is_empty-clause-told : goal.returns-then-is_empty-clause-told
returns-then-is_empty-clause-told c =
    let unread = ap (λ ns. is_read c.args.sight (map named_view ns)) (sym c.deref.ensures.value) ∙ sym c.is_hashed.ensures ∙ c.if-is_hashed.false in
    let none : vec_len c.in_ok-known.known.remarks ≡ 0 = eqb-true (vec_len c.in_ok-known.known.remarks) 0 (sym c.is_empty.ensures ∙ c.if-is_empty.true) in
    let empty : c.in_ok-known.known.remarks.items ≡ [] = nil_from_length c.in_ok-known.known.remarks.items (omega (arith, none, c.in_ok-known.known.remarks.ok.0)) in
    λ further root t q content digests sight.
    let told : IsTold root c.args.place t q c.args.named.items c.args.sight = record { content = content; digests = digests; sight = sight } in
    nothing_known further root c.args.place q t c.args.named.items c.args.sight told c.in_ok-known.known.remarks.items unread
    (known_lines_are further root c.args.place q t c.args.named.items c.args.sight told c.deref-2.result.now c.in_ok-known.known c.deref-2.ensures.value
    c.in_ok-known.ensures.lines) empty

pub returns-clause-told : goal.returns-clause-told
returns-clause-told c =
    let unread = ap (λ ns. is_read c.args.sight (map named_view ns)) (sym c.deref.ensures.value) ∙ sym c.is_hashed.ensures ∙ c.if-is_hashed.false in
    let some = λ (e : c.in_ok-known.known.remarks.items ≡ []). eqb-false (vec_len c.in_ok-known.known.remarks) 0
    (sym c.is_empty.ensures ∙ c.if-is_empty.false) (omega (arith, ap length e, c.in_ok-known.known.remarks.ok.0)) in
    λ further root t q content digests sight.
    let told : IsTold root c.args.place t q c.args.named.items c.args.sight = record { content = content; digests = digests; sight = sight } in (
      c.of_lines.ensures.told further root (known_unhashed further root c.args.place q t c.args.named.items c.args.sight told c.in_ok-known.known c.in_ok-known.ensures.place unread
          (known_lines_are further root c.args.place q t c.args.named.items c.args.sight told c.deref-2.result.now c.in_ok-known.known c.deref-2.ensures.value
          c.in_ok-known.ensures.lines) some),
      c.of_lines.ensures.place ∙ c.in_ok-known.ensures.place,
    )
