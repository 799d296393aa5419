use Rattle.std.proofs.Common.{subst, sym}
use Rattle.ocfl_messages.specs.Gravest.{IsFirst, of_weight}
use Rattle.ocfl_codes.specs.declared.weight.Weight.TheVariants.{Bytes, Object, Record, Position}
use Rattle.ocfl_messages.proofs.Gathered.{of_filled}
use Rattle.ocfl_messages.proofs.gravest.Gravest.fill.Goals as goal

pub returns : goal.returns
returns c = λ fs h. record {
  bytes = subst (IsFirst c.fill.new.self) (sym (of_filled Bytes c.args.files fs)) (c.fill.ensures (of_weight Bytes fs) h.bytes);
  objects = subst (IsFirst c.fill-2.new.self) (sym (of_filled Object c.args.files fs)) (c.fill-2.ensures (of_weight Object fs) h.objects);
  records = subst (IsFirst c.fill-3.new.self) (sym (of_filled Record c.args.files fs)) (c.fill-3.ensures (of_weight Record fs) h.records);
  positions = subst (IsFirst c.fill-4.new.self) (sym (of_filled Position c.args.files fs)) (c.fill-4.ensures (of_weight Position fs) h.positions);
}
