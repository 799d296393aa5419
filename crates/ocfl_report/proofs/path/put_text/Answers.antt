use Rattle.std.proofs.Common.{◌≡◌, ◌+◌, ◌<◌, ◌++◌, ◌∙◌, sym, ap, subst, codes, length}
use Rattle.std.proofs.Transfers.{starts_with_of_append}
use Rattle.std.specs.Prelude.{OnOk, OnErr, vec_len, vec_capacity}
use Rattle.ocfl_report.specs.Text.{escape, place_text}
use Rattle.ocfl_report.proofs.Growing.{if_refused, no_room_for_one}
use Rattle.ocfl_report.proofs.PathTexts.{path_text, root_text}
use Rattle.ocfl_report.proofs.path.put_text.Goals as goal

pub returns-in_err-push-clause-full : goal.returns-in_err-push-clause-full
returns-in_err-push-clause-full c =
    let root : place_text c.args.place.now ≡ codes "." = ap place_text (sym c.path-path.ensures.place) ∙ root_text c.path-path.result.now (sym c.is_empty.ensures ∙ c.if-is_empty.true) in
    if_refused _ (no_room_for_one (place_text c.args.place.now) c.args.out.now root c.in_err-push.ensures.full)

pub returns-then-is_empty-clause-ok : goal.returns-then-is_empty-clause-ok
returns-then-is_empty-clause-ok c =
    let root : place_text c.args.place.now ≡ codes "." = ap place_text (sym c.path-path.ensures.place) ∙ root_text c.path-path.result.now (sym c.is_empty.ensures ∙ c.if-is_empty.true) in
    c.in_ok-push.ensures.items ∙ ap (λ t. c.args.out.now.items ++ t) (sym root)

pub returns-then-is_empty-clause-begins : goal.returns-then-is_empty-clause-begins
returns-then-is_empty-clause-begins c = starts_with_of_append _ _ _ c.in_ok-push.ensures.items

pub returns-clause-ok : goal.returns-clause-ok
returns-clause-ok c =
    let named : escape c.as_bytes.result.now ≡ place_text c.args.place.now =
    ap escape c.as_bytes.ensures.value ∙ sym (ap place_text (sym c.path-path.ensures.place) ∙ path_text c.path-path.result.now (sym c.is_empty.ensures ∙ c.if-is_empty.false)) in
    subst (λ t. OnOk c.put_escaped.result (c.put_escaped.new.out.items ≡ c.args.out.now.items ++ t)) named c.put_escaped.ensures.ok

pub returns-clause-full : goal.returns-clause-full
returns-clause-full c =
    let named : escape c.as_bytes.result.now ≡ place_text c.args.place.now =
    ap escape c.as_bytes.ensures.value ∙ sym (ap place_text (sym c.path-path.ensures.place) ∙ path_text c.path-path.result.now (sym c.is_empty.ensures ∙ c.if-is_empty.false)) in
    subst (λ t. OnErr c.put_escaped.result (vec_capacity c.args.out.now < vec_len c.args.out.now + length t)) named c.put_escaped.ensures.full
