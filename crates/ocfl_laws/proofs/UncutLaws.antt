-- Which texts say that no line was cut short.
use Rattle.std.proofs.Common.{◌≡◌, refl, sym, subst, ℕ, List, [], Option, IsSome, false, inl, inr}
use Rattle.std.proofs.KnownBytes.{Appends-nil}
use Rattle.std.specs.Prelude.{◌≢◌, ◌⊎◌}
use Rattle.ocfl_tree.specs.{Place.{Text, Place}, Store.{Store}}
use Rattle.ocfl_report.specs.declared.further.Further.{Further}
use Rattle.ocfl_cursor.specs.declared.limits.Limits.{Limits as MadeLimits}
use Rattle.ocfl_deed.specs.declared.deed.Deed.{Deed}
use Rattle.ocfl_deed.specs.declared.deed.Deed.TheVariants as deed
use Rattle.ocfl_scrub.specs.Noting.{WritesWhole}
use Rattle.ocfl_scrub.specs.Performing.{AnswersOnAnyStore, ShowsWith, WritesBy}
use Rattle.ocfl_scrub.specs.declared.performing.Performed.{Performed}
use Rattle.ocfl_scrub.specs.declared.note.Note.TheVariants as note

unwritten : (old new : Option (List ℕ)) → new ≡ old → WritesWhole old new
unwritten old new e = subst (WritesWhole old) (sym e) (false, ([], Appends-nil old, refl))

module _ (old new : Option (List ℕ)) (known : Option (Option Text)) (said : Performed) where
  stop_cuts_none : (d : Deed) (p : Place) → WritesBy known d said old new → said.note ≡ note.StoppedAt p → WritesWhole old new
  stop_cuts_none (deed.Audit further) p h e = h.uncut (λ f. cc)
  stop_cuts_none (deed.Run further limits) p h e = h.uncut (λ f. cc) (inl (λ f. cc))
  stop_cuts_none (deed.Cycle further limits count) p h e = h.uncut (λ f. cc)
  stop_cuts_none (deed.Check further path) p h e = unwritten old new (h.none (λ f. cc) (λ f. cc))
  stop_cuts_none deed.Show p h e = unwritten old new (subst (λ n. ShowsWith known n old new) e h)

  memory_cuts_none : (d : Deed) → WritesBy known d said old new → said.note ≡ note.OutOfMemory → ((further : Further) (limits : MadeLimits) → d ≢ deed.Run further limits) ⊎ IsSome said.cursor → WritesWhole old new
  memory_cuts_none (deed.Audit further) h e kept = h.uncut (λ f. cc)
  memory_cuts_none (deed.Run further limits) h e (inl other) = absurd (other further limits refl)
  memory_cuts_none (deed.Run further limits) h e (inr kept) = h.uncut (λ f. cc) (inr kept)
  memory_cuts_none (deed.Cycle further limits count) h e kept = h.uncut (λ f. cc)
  memory_cuts_none (deed.Check further path) h e kept = unwritten old new (h.none (λ f. cc) (λ f. cc))
  memory_cuts_none deed.Show h e kept = unwritten old new (subst (λ n. ShowsWith known n old new) e h)

module _ (s t : Store) (old new : Option (List ℕ)) (known : Option (Option Text)) (d : Deed) (said : Performed) where
  pub uncut_by_a_stop : (p : Place) → AnswersOnAnyStore (λ o. o) s t old new known d said → said.note ≡ note.StoppedAt p → WritesWhole old new
  uncut_by_a_stop p h e = stop_cuts_none old new known said d p h.lines e

  pub uncut_by_memory : AnswersOnAnyStore (λ o. o) s t old new known d said → said.note ≡ note.OutOfMemory → ((further : Further) (limits : MadeLimits) → d ≢ deed.Run further limits) ⊎ IsSome said.cursor → WritesWhole old new
  uncut_by_memory h e kept = memory_cuts_none old new known said d h.lines e kept
