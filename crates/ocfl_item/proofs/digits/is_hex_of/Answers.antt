use Rattle.std.proofs.Common.{refl, sym}
use Rattle.ocfl_item.proofs.DigitLaws.{all_digits, more_digits, other_digits}
use Rattle.ocfl_item.proofs.digits.is_hex_of.Goals as goal

pub returns-in-None : goal.returns-in-None
returns-in-None c =
    sym (other_digits c.args.text.now c.loop-byte.rest.now c.args.digest.now c.loop-byte.byte-index _ c.loop-byte-test.true refl c.in-None.ensures c.loop-byte.invariant)

pub loop-byte-preserved : goal.loop-byte-preserved
loop-byte-preserved c =
    more_digits c.args.text.now c.loop-byte.rest.now c.in-Some.behind.now c.args.digest.now c.loop-byte.byte-index _ c.loop-byte-test.true refl c.in-Some.ensures c.loop-byte.invariant

pub returns : goal.returns
returns c = all_digits c.args.text.now c.loop-byte.rest.now c.args.digest.now c.loop-byte.byte-index c.is_empty.result c.loop-byte-test.false c.is_empty.ensures c.loop-byte.invariant
