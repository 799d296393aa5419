use Rattle.std.proofs.{Common.{refl}, lemmas.Result.{on_ok_weaker}}
use Rattle.ocfl_codes.specs.declared.weight.Weight.TheVariants.{Bytes, Object, Record, Position}
use Rattle.ocfl_speaking.proofs.Reasoned.{first_reasons}
use Rattle.ocfl_speaking.proofs.speaking.put_reasons.Goals as goal

pub returns : goal.returns
returns c =
    let why = c.args.reasons.now in
    let old = c.args.found.now in
    on_ok_weaker c.put_reasons_of-4.result
    (λ last fs h.
    record {
      bytes = first_reasons Bytes why old.bytes _ fs c.in_ok-put_reasons_of.ensures refl h.bytes;
      objects = first_reasons Object why old.objects _ fs c.in_ok-put_reasons_of-2.ensures refl h.objects;
      records = first_reasons Record why old.records _ fs c.in_ok-put_reasons_of-3.ensures refl h.records;
      positions = first_reasons Position why old.positions _ fs last refl h.positions;
    }) c.put_reasons_of-4.ensures
