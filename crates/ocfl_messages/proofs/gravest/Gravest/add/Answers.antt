use Rattle.std.proofs.{Common.{◌≡◌}, lemmas.Result.{on_ok_weaker}}
use Rattle.std.specs.Prelude.{Some}
use Rattle.ocfl_codes.specs.Weight.{weight_of}
use Rattle.ocfl_messages.specs.{Finding.{finding_of}, Gravest.{of_weight}}
use Rattle.ocfl_codes.specs.declared.weight.Weight.TheVariants.{Bytes, Object, Record, Position}
use Rattle.ocfl_messages.proofs.Heaps.{bytes_more, objects_more, positions_more, records_more}
use Rattle.ocfl_messages.proofs.gravest.Gravest.add.Goals as goal

pub returns-in-Some-Bytes-clause-ok : goal.returns-in-Some-Bytes-clause-ok
returns-in-Some-Bytes-clause-ok c =
    let e : weight_of c.args.finding.line.code ≡ Some Bytes = cc in
    on_ok_weaker c.add.result (λ adds ls h. bytes_more c.args.self.now c.add.new.self ls (finding_of c.args.finding) e (adds (of_weight Bytes ls) h.bytes) h) c.add.ensures.ok

pub returns-in-Some-Object-clause-ok : goal.returns-in-Some-Object-clause-ok
returns-in-Some-Object-clause-ok c =
    let e : weight_of c.args.finding.line.code ≡ Some Object = cc in
    on_ok_weaker c.add-in-Some-Object.result (λ adds ls h. objects_more c.args.self.now c.add-in-Some-Object.new.self ls (finding_of c.args.finding) e (adds (of_weight Object ls) h.objects) h) c.add-in-Some-Object.ensures.ok

pub returns-in-Some-Record-clause-ok : goal.returns-in-Some-Record-clause-ok
returns-in-Some-Record-clause-ok c =
    let e : weight_of c.args.finding.line.code ≡ Some Record = cc in
    on_ok_weaker c.add-in-Some-Record.result (λ adds ls h. records_more c.args.self.now c.add-in-Some-Record.new.self ls (finding_of c.args.finding) e (adds (of_weight Record ls) h.records) h) c.add-in-Some-Record.ensures.ok

pub returns-in-Some-Position-clause-ok : goal.returns-in-Some-Position-clause-ok
returns-in-Some-Position-clause-ok c =
    let e : weight_of c.args.finding.line.code ≡ Some Position = cc in
    on_ok_weaker c.add-in-Some-Position.result (λ adds ls h. positions_more c.args.self.now c.add-in-Some-Position.new.self ls (finding_of c.args.finding) e (adds (of_weight Position ls) h.positions) h) c.add-in-Some-Position.ensures.ok
