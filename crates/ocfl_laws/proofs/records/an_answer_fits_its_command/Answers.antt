use Rattle.std.proofs.Common.{refl}
use Rattle.ocfl_laws.proofs.records.an_answer_fits_its_command.Goals as goal

pub returns : goal.returns
returns c = record {
  status = λ s t old new known d said h. h.status;
  silent = λ s t old new known d said h. h.silent;
  bad_path = λ s t old new known d said h. (h.bad_path, h.bad_path_silent);
  show = λ s t old new known said h. (h.show_calls refl, h.show_ends refl);
  cursor = λ s t old new known d said h. (h.unshown, (h.kept, h.without_file));
  lines = λ s t old new known d said h. h.lines;
}
