use Rattle.std.proofs.Common.{◌≡◌, sym, ◌∙◌, subst, inl}
use Rattle.ocfl_tree.specs.{Place.{Place}, StorageRoot.{StorageRoot}, Store.{Store}}
use Rattle.std.specs.Prelude.{List, ℕ, Option}
use Rattle.ocfl_report.specs.Text.{place_text}
use Rattle.ocfl_report.proofs.PlaceTexts.{place_text_determines}
use Rattle.ocfl_report.specs.declared.further.Further.{Further}
use Rattle.ocfl_scrub.specs.{Call.{call_of}, Checking.{CheckEnds}}
use Rattle.ocfl_scrub.specs.Noting.{IsCheckNote, ChecksWithNote}
use Rattle.ocfl_scrub.specs.{declared.checking.CheckEnd.{CheckEnd}, declared.note.Note.{Note}}
use Rattle.ocfl_scrub.proofs.command.checked.Goals as goal

-- a check of the place that was read is one of the place that was meant
checked_there : (further : Further) (root : StorageRoot) (s t : Store) (old new : Option (List ℕ)) (p q : Place) (ran : CheckEnd) (status : ℕ) (n : Note)
    → q ≡ p → CheckEnds (call_of further root s t old new) q ran.item ran.found ran.end → IsCheckNote ran.item ran.found ran.end status n → ChecksWithNote (call_of further root s t old new) p status n
checked_there further root s t old new p q ran status n e checks says = record {
  ran = ran;
  checks = subst (λ x. CheckEnds (call_of further root s t old new) x ran.item ran.found ran.end) e checks;
  says = says;
}

pub returns-in-Ok-clause-told : goal.returns-in-Ok-clause-told
returns-in-Ok-clause-told g c told root e short p valid is =
    let read : place_text c.in-Ok.place ≡ place_text p = sym (sym c.as_bytes.ensures.value ∙ c.in-Ok.ensures.ok) ∙ is in
    let same : c.in-Ok.place ≡ p = place_text_determines c.in-Ok.place p c.in-Ok.ensures.names valid read in
    inl (checked_there c.args.further root _ _ _ _ p _ c.check.result _ _ same (c.check.ensures.told told root e short) c.describe_check.ensures.note)
