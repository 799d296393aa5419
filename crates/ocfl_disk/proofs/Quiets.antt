-- Calls that change no content.
use Rattle.std.proofs.Common.{◌≡◌, ◌≢◌, ◌⊎◌, inl, inr, ℕ, Some, refl, ◌∙◌, subst, ap}
use Rattle.ocfl_state.specs.{Content.{Bytes, Content}, Crash.{Step, Same, MayPut}}
use Rattle.ocfl_disk.specs.Names.{Names, Stored, content_of, IsApart}
use Rattle.ocfl_disk.specs.PowerCut.{DiskState, Passes, Same as SameStored, MayTear, MayMake, MayDrop, MayPutOver, IsDisk}
use Rattle.ocfl_disk.specs.Disk.{Calm, Writes, Makes, Drops, PutsOver}
use Rattle.ocfl_disk.specs.Internal.Contents.{OfContent, Still, Quiet, HasBeside, MayReplace}
use Rattle.ocfl_disk.specs.declared.state_file.StateFile.TheVariants.{NewCheckpoint, Report}
use Rattle.ocfl_disk.proofs.Passing.{passes_then, passes_as, passes_still, then_calm}
use Rattle.ocfl_disk.proofs.ContentSteps.{drop_unseen, tear_unseen, make_new_unseen, make_report_unseen, unseen, may_put_over}

-- a call that changed nothing, after another one
pub then_calm_content : (step : Step) (old mid new : DiskState) → Passes (OfContent step) old mid → Calm mid new → Passes (OfContent step) old new
then_calm_content step old mid new passes calm = then_calm (OfContent step) old mid new passes calm.passes

pub still_then : (old mid new : DiskState) → Still old mid → Still mid new → Still old new
still_then old mid new a b = record {
  passes = passes_then (OfContent Same) (OfContent Same) (OfContent Same) old mid new a.passes b.passes
      (λ d c left same. same)
      (λ d e c left mid_left first second. second ∙ first);
  seen = b.seen ∙ a.seen;
  closed = b.closed ∙ a.closed;
}

pub still_of_calm : (old new : DiskState) → Calm old new → Still old new
still_of_calm old new calm = record {
  passes = passes_as SameStored (OfContent Same) old new calm.passes (λ d c left same. ap content_of same);
  seen = ap content_of calm.seen;
  closed = ap (λ (s : Stored). s.names.closed) calm.seen;
}

pub still_of_quiet : (old new : DiskState) → Quiet old new → Still old new
still_of_quiet old new quiet = record { passes = quiet.passes; seen = quiet.seen; closed = quiet.closed }

pub still : (d : DiskState) → Quiet d d
still d = record {
  passes = passes_still (OfContent Same) d (λ c. refl);
  seen = refl;
  report = refl;
  closed = refl;
  synced = λ file is synced. synced;
}

pub then : (old mid new : DiskState) → Quiet old mid → Quiet mid new → Quiet old new
then old mid new a b = record {
  passes = passes_then (OfContent Same) (OfContent Same) (OfContent Same) old mid new a.passes b.passes
      (λ d c left same. same)
      (λ d e c left mid_left first second. second ∙ first);
  seen = b.seen ∙ a.seen;
  report = b.report ∙ a.report;
  closed = b.closed ∙ a.closed;
  synced = λ file is synced. b.synced file (a.report ∙ is) (a.synced file is synced);
}

pub of_calm : (old new : DiskState) → Calm old new → Quiet old new
of_calm old new calm = record {
  passes = passes_as SameStored (OfContent Same) old new calm.passes (λ d c left same. ap content_of same);
  seen = ap content_of calm.seen;
  report = ap (λ (s : Stored). s.names.report) calm.seen;
  closed = ap (λ (s : Stored). s.names.closed) calm.seen;
  synced = λ file is. calm.synced file;
}

pub of_drop : (old new : DiskState) → Drops old new → Quiet old new
of_drop old new drops = record {
  passes = passes_as MayDrop (OfContent Same) old new drops.passes (λ d c left. drop_unseen d c);
  seen = drop_unseen old.seen new.seen drops.seen;
  report = report drops.seen;
  closed = closed drops.seen;
  synced = λ file is. drops.synced file;
}
  where
    report : MayDrop old.seen new.seen → new.seen.names.report ≡ old.seen.names.report
    report (inl is) = ap (λ (s : Stored). s.names.report) is
    report (inr is) = ap (λ (s : Stored). s.names.report) is

    closed : MayDrop old.seen new.seen → new.seen.names.closed ≡ old.seen.names.closed
    closed (inl is) = ap (λ (s : Stored). s.names.closed) is
    closed (inr is) = ap (λ (s : Stored). s.names.closed) is

-- what is written beside
pub of_make_new : (file : ℕ) (old new : DiskState) → Makes NewCheckpoint file old new → Quiet old new
of_make_new file old new makes = record {
  passes = passes_as (MayMake NewCheckpoint file old.seen.names) (OfContent Same) old new makes.passes (λ d c left. make_new_unseen file old.seen.names d c);
  seen = make_new_unseen file old.seen.names old.seen new.seen (record { nameless = makes.nameless; names = inr (refl, makes.names); empty = makes.empty; others = makes.others });
  report = ap (λ (names : Names). names.report) makes.names;
  closed = ap (λ (names : Names). names.closed) makes.names;
  synced = λ other is. makes.synced other (λ same. makes.nameless.report (is ∙ ap Some same));
}

-- the report, where there was none
pub still_of_make_report : (file : ℕ) (old new : DiskState) → Makes Report file old new → Still old new
still_of_make_report file old new makes = record {
  passes = passes_as (MayMake Report file old.seen.names) (OfContent Same) old new makes.passes (λ d c left. make_report_unseen file old.seen.names d c makes.none);
  seen = make_report_unseen file old.seen.names old.seen new.seen makes.none (record { nameless = makes.nameless; names = inr (refl, makes.names); empty = makes.empty; others = makes.others });
  closed = ap (λ (names : Names). names.closed) makes.names;
}

pub of_write_beside : (file n most : ℕ) (old new : DiskState) → IsDisk old → old.seen.names.beside ≡ Some file → Writes file n most old new → Quiet old new
of_write_beside file n most old new disk is writes = record {
  passes = passes_as (MayTear file n most) (OfContent Same) old new writes.passes (λ d c left torn. tear_unseen file n most d c torn (disk.beside file d is left).0 (disk.beside file d is left).1);
  seen = ap (λ (names : Names). content_of (record { names = names; bytes = new.seen.bytes })) writes.names ∙ unseen file new.seen.bytes old.seen.bytes old.seen.names writes.others shown.0 shown.1;
  report = ap (λ (names : Names). names.report) writes.names;
  closed = ap (λ (names : Names). names.closed) writes.names;
  synced = λ other at. writes.synced other (λ same. shown.1 (at ∙ ap Some same));
}
  where
    shown : IsApart file old.seen.names × (old.seen.names.report ≢ Some file)
    shown = disk.beside file old.seen is disk.stays

pub written_beside : (file n most : ℕ) (old dropped made new : DiskState) → Drops old dropped → Makes NewCheckpoint file dropped made → IsDisk made → Writes file n most made new → Quiet old new
written_beside file n most old dropped made new drops makes disk writes =
    then old dropped new (of_drop old dropped drops) (then dropped made new (of_make_new file dropped made makes)
    (of_write_beside file n most made new disk (ap (λ (names : Names). names.beside) makes.names) writes))

-- the checkpoint may be put, after bytes were written beside
pub put_passes : (bytes : Bytes) (old mid new : DiskState) → Quiet old mid → HasBeside bytes mid → IsDisk mid → Calm mid new ⊎ PutsOver mid new → MayReplace bytes old new
put_passes bytes old mid new quiet has disk (inl calm) = record {
  passes = passes_as (OfContent Same) (OfContent (MayPut bytes)) old new (then old mid new quiet (of_calm mid new calm)).passes (λ d c left same. inl same);
  report = (then old mid new quiet (of_calm mid new calm)).report;
}
put_passes bytes old mid new quiet has disk (inr puts) = record {
  passes = passes_then (OfContent Same) (MayPutOver mid.seen.names) (OfContent (MayPut bytes)) old mid new quiet.passes puts.passes
      (λ d c left same. inl same)
      (λ d e c left mid_left same put. subst (λ (x : Content). MayPut bytes x (content_of c)) same
      (may_put_over has.file bytes mid.seen.names e c has.is (disk.bytes has.file e has.synced mid_left ∙ has.bytes_are) put));
  report = ap (λ (s : Stored). s.names.report) puts.seen ∙ quiet.report;
}

pub put_and_calm : (bytes : Bytes) (old mid new : DiskState) → MayReplace bytes old mid → Calm mid new → MayReplace bytes old new
put_and_calm bytes old mid new may calm = record {
  passes = then_calm_content (MayPut bytes) old mid new may.passes calm;
  report = ap (λ (s : Stored). s.names.report) calm.seen ∙ may.report;
}
