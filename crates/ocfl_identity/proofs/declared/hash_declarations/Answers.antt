use Rattle.std.proofs.Common.{◌∙◌, ◌+◌, ◌++◌, ◌∷◌, [], Some, ap, drop, refl, sym}
use Rattle.std.proofs.{lemmas.List.{drop_all, drop_more}, lemmas.Result.{err_from_is_err_and}}
use Rattle.std.specs.{Prelude.{string_bytes}, Option.{option_map}}
use Rattle.ocfl_tree.specs.StorageRoot.{file_at}
use Rattle.ocfl_identity.proofs.Askings.{file_there, first_names, gone_file, opened_all, opened_next, opened_some, unread_next}
use Rattle.ocfl_identity.proofs.Sums.{before_next}
use Rattle.ocfl_identity.specs.Identity.{digits_of, sum_line}
use Rattle.ocfl_identity.proofs.declared.hash_declarations.Goals as goal

pub returns-in_err-digits-clause-unread : goal.returns-in_err-digits-clause-unread
returns-in_err-digits-clause-unread g c = λ told root is.
    let names = c.args.names.now in
    let i = c.loop-name.name-index in
    let n = c.name-item.result in
    let first = drop_more names i n c.loop-name-test.true ∙ ap (λ y. y ∷ drop (i + 1) names) (sym c.name-item.is) in
    let p = err_from_is_err_and c.from_residual.result c.from_residual.ensures.1 in
    rw (p.1, p.2) (λ q e. unread_next root _ _ _ names (drop (i + 1) names) n i q (c.loop-name.invariant.opened told root is) first (c.in_err-digits.ensures.unread told root (c.loop-name.invariant.keeps told ∙ is) q e))

pub returns-in_default-clause-opened : goal.returns-in_default-clause-opened
returns-in_default-clause-opened g c = λ told root is.
    let names = c.args.names.now in
    let i = c.loop-name.name-index in
    let n = c.name-item.result in
    let here = c.loop-name.invariant.keeps told ∙ is in
    opened_some root _ _ _ names (drop (i + 1) names) n i (c.loop-name.invariant.opened told root is)
    (drop_more names i n c.loop-name-test.true ∙ ap (λ y. y ∷ drop (i + 1) names) (sym c.name-item.is))
    (gone_file c.in_ok-digits.field-0 (file_at root (n ∷ [])) c.in_default.is (c.in_ok-digits.ensures.told told root here)) (c.in_ok-digits.ensures.opened told root here)

pub returns-clause-opened : goal.returns-clause-opened
returns-clause-opened g c = λ told root is. opened_all root _ _ c.args.names.now c.loop-name.name-index (c.loop-name.invariant.opened told root is) (drop_all c.loop-name.name-index c.args.names.now c.loop-name-test.false)

pub loop-name-preserved : goal.loop-name-preserved
loop-name-preserved g c =
    let names = c.args.names.now in
    let i = c.loop-name.name-index in
    let n = c.name-item.result in
    let inv = c.loop-name.invariant in
    let first = drop_more names i n c.loop-name-test.true ∙ ap (λ y. y ∷ drop (i + 1) names) (sym c.name-item.is) in
    let m = c.as_str-in-loop-name.result.now in
    let same = c.as_str-in-loop-name.ensures.value in
    record {
      lines = inv.lines ++ sum_line c.as_str.result.now m;
      holds = c.add_line.ensures inv.lines inv.holds;
      keeps = λ told. c.in_ok-digits.ensures.keeps told ∙ inv.keeps told;
      unlisted = λ told. c.in_ok-digits.ensures.unlisted told ∙ inv.unlisted told;
      told = λ told root is.
          before_next root inv.lines c.as_str.result.now names (drop (i + 1) names) m i (i + 1) (inv.told told root is)
          (first ∙ ap (λ y. y ∷ drop (i + 1) names) (sym same)) refl
          (ap (λ y. digits_of (file_at root (y ∷ []))) same ∙ sym (c.in_ok-digits.ensures.told told root (inv.keeps told ∙ is)) ∙ ap (option_map string_bytes) c.in-Some.is ∙ ap Some (sym c.as_str.ensures.value));
      opened = λ told root is.
          let here = inv.keeps told ∙ is in
          let there = file_there c.in_ok-digits.field-0 c.in-Some.digits (file_at root (n ∷ [])) c.in-Some.is (c.in_ok-digits.ensures.told told root here) in
          opened_next root _ _ _ names (drop (i + 1) names) n i (i + 1) there.0 (inv.opened told root is) first refl there.1 (c.in_ok-digits.ensures.opened told root here);
    }

pub returns-in_err-digits-clause-refused : goal.returns-in_err-digits-clause-refused
returns-in_err-digits-clause-refused g c = λ told root is.
    let inv = c.loop-name.invariant in
    let names = c.args.names.now in
    let i = c.loop-name.name-index in
    let n = c.name-item.result in
    let first = drop_more names i n c.loop-name-test.true ∙ ap (λ y. y ∷ drop (i + 1) names) (sym c.name-item.is) in
    let p = err_from_is_err_and c.from_residual.result c.from_residual.ensures.1 in
    rw (p.1, p.2) (λ memory. first_names root _ _ _ names (drop (i + 1) names) n i (inv.opened told root is) first (c.in_err-digits.ensures.refused told root (inv.keeps told ∙ is) memory))
