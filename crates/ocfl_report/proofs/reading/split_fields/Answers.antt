use Rattle.std.proofs.{Common.{◌≡◌, [], ◌∷◌, ◌++◌, refl}, lemmas.Slice.Eq.{strip_suffix_is}}
use Rattle.std.proofs.{lemmas.Bool.Decides.{Decides-eqb}, lemmas.Option.{MatchOption-at_some}}
use Rattle.ocfl_report.proofs.Fields.{no_fields_without_tab, no_fields_with_one_tab, fields_from_parts}
use Rattle.ocfl_report.proofs.reading.split_fields.Goals as goal

pub returns-in_err-code-clause-none : goal.returns-in_err-code-clause-none
returns-in_err-code-clause-none c =
    let bytes = c.args.bytes.now in
    let line = c.in_ok-line.line.now in
    let whole : bytes ≡ line ++ 10 ∷ [] = MatchOption-at_some _ _ _ c.in_ok-line.was (strip_suffix_is Decides-eqb bytes (10 ∷ []) c.strip_suffix.result c.strip_suffix.ensures.cases) in
    λ e. no_fields_without_tab bytes line whole (c.in_err-code.ensures.missing refl)

pub returns-in_err-place-clause-none : goal.returns-in_err-place-clause-none
returns-in_err-place-clause-none c =
    let bytes = c.args.bytes.now in
    let line = c.in_ok-line.line.now in
    let whole : bytes ≡ line ++ 10 ∷ [] = MatchOption-at_some _ _ _ c.in_ok-line.was (strip_suffix_is Decides-eqb bytes (10 ∷ []) c.strip_suffix.result c.strip_suffix.ensures.cases) in
    λ e. no_fields_with_one_tab bytes line c.in_ok-code.code.now c.in_ok-code.rest.now whole c.in_ok-code.ensures.found c.in_ok-code.ensures.first (c.in_err-place.ensures.missing refl)

pub returns-clause-some : goal.returns-clause-some
returns-clause-some c =
    let bytes = c.args.bytes.now in
    let line = c.in_ok-line.line.now in
    let whole : bytes ≡ line ++ 10 ∷ [] = MatchOption-at_some _ _ _ c.in_ok-line.was (strip_suffix_is Decides-eqb bytes (10 ∷ []) c.strip_suffix.result c.strip_suffix.ensures.cases) in
    fields_from_parts bytes line c.in_ok-code.code.now c.in_ok-code.rest.now c.in_ok-place.place.now c.in_ok-place.detail.now whole c.in_ok-code.ensures.found c.in_ok-place.ensures.found
