use Rattle.std.proofs.Common.{◌∙◌, sym, arith}
use Rattle.std.proofs.lemmas.{Option.{MatchOption-at_none, MatchOption-at_some}, Str.Pattern.{strip_prefix_char}}
use Rattle.ocfl_compare.proofs.Moves.{named_begins, no_number, number_read}
use Rattle.ocfl_compare.proofs.versions.number_of.Goals as goal

pub returns-then-not-is_version_name : goal.returns-then-not-is_version_name
returns-then-not-is_version_name c = no_number c.args.version.now (sym c.is_version_name.ensures ∙ c.if-not-is_version_name.true)

pub returns-in-Some : goal.returns-in-Some
returns-in-Some c =
    let named = sym c.is_version_name.ensures ∙ c.if-not-is_version_name.false in
    let begins = MatchOption-at_some _ _ c.in-Some.digits c.in-Some.is (strip_prefix_char 118 c.args.version.now c.strip_prefix.result c.strip_prefix.ensures.cases (omega arith)) in
    c.ok.ensures.value ∙ number_read c.args.version.now c.in-Some.digits.now c.parse.result named begins c.parse.ensures.value.0

pub returns-in-None : goal.returns-in-None
returns-in-None c =
    let named = sym c.is_version_name.ensures ∙ c.if-not-is_version_name.false in
    named_begins c.args.version.now named (MatchOption-at_none _ _ c.in-None.is (strip_prefix_char 118 c.args.version.now c.strip_prefix.result c.strip_prefix.ensures.cases (omega arith)))
