use Rattle.std.proofs.Common.{◌≡◌, Result, Ok, Err, IfOk, sym, ◌∙◌}
use Rattle.ocfl_tree.specs.{Place.{Text, Place}, Name.{IsPlace}}
use Rattle.ocfl_report.specs.Text.{place_text}
use Rattle.ocfl_report.proofs.PlaceTexts.{place_text_determines}
use Rattle.ocfl_report.proofs.laws.place_reads_back.Goals as goal

-- what is read of the text of a place is that place
same_place : {E : Type 0} (r : Result Place E) (t : Text) (p : Place) → IsPlace p → t ≡ place_text p → IfOk r (λ q. t ≡ place_text q) → IfOk r IsPlace → IfOk r (λ q. q ≡ p)
same_place (Ok q) t p names is read read_names = place_text_determines q p read_names names (sym read ∙ is)
same_place (Err e) t p names is read read_names = tt

pub returns-clause-same : goal.returns-clause-same
returns-clause-same c =
    let text : c.as_slice.result.now ≡ place_text c.args.place.now = rw (c.as_slice.ensures.value, c.in_ok-put_place.ensures.ok, c.new-written.ensures.items) in
    same_place c.read_place.result c.as_slice.result.now c.args.place.now c.every_place_has_names.ensures text c.read_place.ensures.ok c.read_place.ensures.names
