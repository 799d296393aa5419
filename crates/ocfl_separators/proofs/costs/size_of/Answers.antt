use Rattle.std.proofs.Common.{refl, sym, ◌∙◌, arith}
use Rattle.ocfl_separators.proofs.Numbers.{is_size_of, not_size, not_size_large}
use Rattle.ocfl_separators.proofs.costs.size_of.Goals as goal

pub returns-in_err-size-clause-none : goal.returns-in_err-size-clause-none
returns-in_err-size-clause-none c = λ e. not_size c.args.detail.now (λ n l f. c.in_err-size.ensures.missing refl n (omega (arith, l)) (c.as_bytes.ensures.value ∙ f))

pub returns-then-size-lt-SIZE_LIMIT-clause-some : goal.returns-then-size-lt-SIZE_LIMIT-clause-some
returns-then-size-lt-SIZE_LIMIT-clause-some c = (is_size_of c.args.detail.now c.in_ok-size.size (sym c.as_bytes.ensures.value ∙ c.in_ok-size.ensures.found) (omega arith)).0

pub returns-then-size-lt-SIZE_LIMIT-clause-value : goal.returns-then-size-lt-SIZE_LIMIT-clause-value
returns-then-size-lt-SIZE_LIMIT-clause-value c = (is_size_of c.args.detail.now c.in_ok-size.size (sym c.as_bytes.ensures.value ∙ c.in_ok-size.ensures.found) (omega arith)).1

pub returns-else-size-lt-SIZE_LIMIT-clause-none : goal.returns-else-size-lt-SIZE_LIMIT-clause-none
returns-else-size-lt-SIZE_LIMIT-clause-none c =
    λ e. not_size_large c.args.detail.now c.in_ok-size.size (sym c.as_bytes.ensures.value ∙ c.in_ok-size.ensures.found) (omega arith) c.in_ok-size.ensures.fits
