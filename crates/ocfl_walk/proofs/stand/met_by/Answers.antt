use Rattle.std.proofs.Common.{sym, subst}
use Rattle.ocfl_walk.specs.Internal.Standing.{IsAroundIf}
use Rattle.ocfl_item.specs.Around.{IsTableAround}
use Rattle.ocfl_walk.proofs.MeetLaws.{ordinary}
use Rattle.ocfl_walk.proofs.stand.met_by.Goals as goal

pub returns-clause-fair : goal.returns-clause-fair
returns-clause-fair c = λ v r. record {
  item = v.item;
  folder = c.sorted_if-folder.ensures.fair c.args.place.now v.folder;
  table = subst (IsAroundIf c.args.place.now) (sym c.in_ok-around.ensures) r;
}

pub returns-clause-told : goal.returns-clause-told
returns-clause-told c = λ further root fair visit r. record {
  item = visit.item;
  folder = c.sorted_if-folder.ensures.told root c.args.place.now (ordinary root c.args.place.now c.args.visit.folder fair.folder) visit.folder;
  table = subst (IsTableAround further root c.args.place.now) (sym c.in_ok-around.ensures) r;
}
