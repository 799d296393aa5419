use Rattle.std.proofs.Common.{◌≢◌, ◌∙◌, codes, sym, ap, subst, refl, string_bytes}
use Rattle.std.proofs.{lemmas.Bool.{both_ways}, lemmas.Result.{err_from_is_err_and}}
use Rattle.std.proofs.lemmas.Str.{IsUtf8-string_bytes}
use Rattle.ocfl_tree.specs.{Name.{IsPlace}, Path.{names_of, slashed}}
use Rattle.ocfl_report.specs.Text.{place_text}
use Rattle.ocfl_report.proofs.Encoded.{same_text_of}
use Rattle.ocfl_report.proofs.ReadPaths.{text_of_path, path_of_text, path_names, path_utf8, text_some}
use Rattle.ocfl_report.proofs.path.read_place.Goals as goal

pub returns-then-is_empty-clause-bad : goal.returns-then-is_empty-clause-bad
returns-then-is_empty-clause-bad c = λ _ place names e.
    both_ways _ (c.is_empty.ensures ∙ text_some c.args.bytes.now place names e) c.if-is_empty.true

pub returns-in_err-path-clause-bad : goal.returns-in_err-path-clause-bad
returns-in_err-path-clause-bad c = λ bad place names e.
    let named : c.args.bytes.now ≢ codes "." = λ root. both_ways _ c.if-is_root_text.false (c.is_root_text.ensures.1 root) in
    let p = err_from_is_err_and c.from_residual.result c.from_residual.ensures.1 in
    c.in_err-path.ensures.bad (cc (p.1, p.2, bad)) (slashed place) (path_utf8 place names) (path_of_text c.args.bytes.now place named e)

pub returns-in-Some-clause-ok : goal.returns-in-Some-clause-ok
returns-in-Some-clause-ok c =
    text_of_path c.args.bytes.now (string_bytes c.in_ok-path.path) (sym c.is_empty.ensures ∙ c.if-is_empty.false) c.in_ok-path.ensures.text ∙ ap place_text (sym c.in-Some.ensures.some)

pub returns-in-None-clause-bad : goal.returns-in-None-clause-bad
returns-in-None-clause-bad c = λ _ place names e.
    let named : c.args.bytes.now ≢ codes "." = λ root. both_ways _ c.if-is_root_text.false (c.is_root_text.ensures.1 root) in
    let path = string_bytes c.in_ok-path.path in
    let same = same_text_of c.args.bytes.now path (slashed place) (IsUtf8-string_bytes c.in_ok-path.path) (path_utf8 place names) c.in_ok-path.ensures.text (path_of_text c.args.bytes.now place named e) in
    c.in-None.ensures.none.0 refl (subst IsPlace (sym (ap names_of same ∙ path_names place names)) names)
