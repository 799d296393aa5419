use Rattle.std.proofs.Common.{◌++◌, subst, sym}
use Rattle.std.proofs.lemmas.List.Elements.{filter-append}
use Rattle.std.proofs.lemmas.Result.{on_ok_weaker}
use Rattle.ocfl_codes.specs.declared.weight.Weight.{Weight}
use Rattle.ocfl_codes.specs.declared.weight.Weight.TheVariants.{Bytes, Object, Record, Position}
use Rattle.ocfl_messages.specs.Gravest.{IsFirst, is_of_weight, of_weight}
use Rattle.ocfl_messages.proofs.gravest.Gravest.join.Goals as goal

pub returns : goal.returns
returns c = on_ok_weaker c.join-4.result
    (λ joined fs gs h k. record {
      bytes = subst (IsFirst c.join.new.self) (sym (filter-append (is_of_weight Bytes) fs gs)) (c.in_ok-join.ensures (of_weight Bytes fs) (of_weight Bytes gs) h.bytes k.bytes);
      objects = subst (IsFirst c.join-2.new.self) (sym (filter-append (is_of_weight Object) fs gs)) (c.in_ok-join-2.ensures (of_weight Object fs) (of_weight Object gs) h.objects k.objects);
      records = subst (IsFirst c.join-3.new.self) (sym (filter-append (is_of_weight Record) fs gs)) (c.in_ok-join-3.ensures (of_weight Record fs) (of_weight Record gs) h.records k.records);
      positions = subst (IsFirst c.join-4.new.self) (sym (filter-append (is_of_weight Position) fs gs)) (joined (of_weight Position fs) (of_weight Position gs) h.positions k.positions);
    })
    c.join-4.ensures
