use Rattle.std.proofs.Common.{sym, refl}
use Rattle.ocfl_cursor.proofs.Refusals.{begins_otherwise, begins_so, failed, tests_say, version_so}
use Rattle.ocfl_cursor.proofs.seal.body_of.Goals as goal

pub returns-in_default-clause-refused : goal.returns-in_default-clause-refused
returns-in_default-clause-refused c =
    failed _ _ (tests_say c.args.kind (begins_otherwise c.args.front.now c.args.text.now (c.in_default.ensures.missing refl)) refl refl) (λ e. cc)

pub returns-then-not-is_version-clause-refused : goal.returns-then-not-is_version-clause-refused
returns-then-not-is_version-clause-refused c =
    let begins = begins_so c.args.front.now c.args.text.now c.in-Some.rest.now c.in-Some.ensures.found in
    let version = version_so c.args.front.now c.args.text.now c.args.digits.now c.in-Some.rest.now _ _ _ c.in-Some.ensures.found c.first_line.ensures c.is_version.ensures c.if-not-is_version.true in
    failed _ _ (tests_say c.args.kind begins version refl) (λ e. cc)

pub returns-in_default-sealed_body-clause-refused : goal.returns-in_default-sealed_body-clause-refused
returns-in_default-sealed_body-clause-refused c =
    let begins = begins_so c.args.front.now c.args.text.now c.in-Some.rest.now c.in-Some.ensures.found in
    let version = version_so c.args.front.now c.args.text.now c.args.digits.now c.in-Some.rest.now _ _ _ c.in-Some.ensures.found c.first_line.ensures c.is_version.ensures c.if-not-is_version.false in
    failed _ _ (tests_say c.args.kind begins version (sym c.in_default-sealed_body.ensures.sealed)) (λ e. cc)

pub returns-clause-passed : goal.returns-clause-passed
returns-clause-passed c = λ _.
    let begins = begins_so c.args.front.now c.args.text.now c.in-Some.rest.now c.in-Some.ensures.found in
    let version = version_so c.args.front.now c.args.text.now c.args.digits.now c.in-Some.rest.now _ _ _ c.in-Some.ensures.found c.first_line.ensures c.is_version.ensures c.if-not-is_version.false in
    tests_say c.args.kind begins version (sym c.in-Some-sealed_body.ensures.sealed)
