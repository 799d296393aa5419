-- Where the runs of a night stop, and that the store failed there.
use Rattle.std.proofs.Common.{ℕ, ◌≡◌, ◌+◌, ◌≤◌, List, [], ◌∷◌, ◌++◌, Bool, true, false, Option, Some, None, Result, Ok, Err, refl, sym, ◌∙◌, ap, subst, arith, append_assoc}
use Rattle.std.proofs.lemmas.List.{append-nil}
use Rattle.std.specs.Prelude.{IfErr, IfOk, if◌then◌else◌}
use Rattle.ocfl_tree.specs.{Place.{Place, place_eq}, Store.{Store}}
use Rattle.ocfl_tree.proofs.Places.{place_eq-Decides}
use Rattle.ocfl_terms.specs.Clock.{Event, Asked, Read, Heard}
use Rattle.ocfl_night.specs.Done.{Done}
use Rattle.ocfl_night.specs.Halting.{AreFailed, FailedMore, stopped_at, stops_at, unread_at}
use Rattle.ocfl_night.specs.{Leaving.{is_at}, Looks.{Counts, failed_at}}
use Rattle.ocfl_night.specs.Runs.{Run, IsAllowed, events_of}
use Rattle.ocfl_night.specs.{declared.looking.NotKept.{NotKept}, declared.pause.Pause.{Pause}}
use Rattle.ocfl_terms.specs.{declared.plan.Plan.{Plan}, declared.stop.Stop.{Stop}}
use Rattle.ocfl_terms.specs.{declared.made.Made.{Made}, declared.made.SliceEnd.{SliceEnd}}
use Rattle.ocfl_night.specs.Ending.{IsMadeBy, slice_end}
use Rattle.ocfl_scrub.specs.declared.running.RunEnd.{RunEnd}
use Rattle.ocfl_night.specs.declared.pause.Pause.TheVariants as pause

-- ---- the store failed

pub failed_later : (s t u : Store) (o : Option Place) → Counts t u → FailedMore s t o → FailedMore s u o
failed_later s t u None counts more = tt
failed_later s t u (Some p) counts more = let later = counts.failed p in omega (arith, later, more)

pub failed_sooner : (s t u : Store) (o : Option Place) → Counts s t → FailedMore t u o → FailedMore s u o
failed_sooner s t u None counts more = tt
failed_sooner s t u (Some p) counts more = let before = counts.failed p in omega (arith, before, more)

pub unread_sooner : (s t u : Store) {T : Type 0} (r : Result T NotKept) (why : NotKept) → r ≡ Err why → Counts s t → FailedMore t u (unread_at why) → IfErr r (λ w. FailedMore s u (unread_at w))
unread_sooner s t u {T} r why is counts more = subst (λ (x : Result T NotKept). IfErr x (λ w. FailedMore s u (unread_at w))) (sym is) (failed_sooner s t u (unread_at why) counts more)

-- in a run that was kept, or was not
pub kept_failed : (s t : Store) (ran : RunEnd) (r : Result Made Stop) → FailedMore s t (stopped_at (slice_end ran.end)) → IfOk r (IsMadeBy ran) → IfOk r (λ made. FailedMore s t (stopped_at made.end))
kept_failed s t ran (Ok made) more by = subst (λ (end : SliceEnd). FailedMore s t (stopped_at end)) (sym by.end) more
kept_failed s t ran (Err why) more by = tt

pub unkept_failed : (s t : Store) (o : Option Place) (r : Result Made Stop) → FailedMore s t o → IfOk r (λ made. stopped_at made.end ≡ o) → IfOk r (λ made. FailedMore s t (stopped_at made.end))
unkept_failed s t o (Ok made) more at = subst (FailedMore s t) (sym at) more
unkept_failed s t o (Err why) more at = tt

-- ---- as often as runs stopped

pub stops_append : (p : Place) (a b : List Event) → stops_at p (a ++ b) ≡ stops_at p a + stops_at p b
stops_append p [] b = omega arith
stops_append p (Asked stops ∷ a) b = stops_append p a b
stops_append p (Read now ∷ a) b = stops_append p a b
stops_append p (Heard made ∷ a) b = let rest = stops_append p a b in omega (arith, rest)

pub none_failed : {events : List Event} {s : Store} → AreFailed events events s s
none_failed {events} = record { events = []; are = sym (append-nil events); each = λ p. omega arith }

pub counts_failed : {events : List Event} {s t : Store} → Counts s t → AreFailed events events s t
counts_failed {events} counts = record { events = []; are = sym (append-nil events); each = λ p. let more = counts.failed p in omega (arith, more) }

step_failed : {old now new : List Event} {r s t : Store} (more : List Event) → AreFailed old now r s → new ≡ now ++ more → ((p : Place) → failed_at p s + stops_at p more ≤ failed_at p t) → AreFailed old new r t
step_failed {old} more so is each = record {
  events = so.events ++ more;
  are = is ∙ ap (λ (x : List Event). x ++ more) so.are ∙ append_assoc old so.events more;
  each = λ p. let one = so.each p in let two = each p in let both = stops_append p so.events more in omega (arith, one, two, both);
}

-- before it no run was made
pub failed_first : {now new : List Event} {s t u : Store} → Counts s t → AreFailed now new t u → AreFailed now new s u
failed_first counts h = record { events = h.events; are = h.are; each = λ p. let one = counts.failed p in let two = h.each p in omega (arith, one, two) }

-- a run more, of which the clock heard
pub run_failed_so : {old now new : List Event} {r s t : Store} (run : Run) → AreFailed old now r s → new ≡ now ++ events_of run → Counts s t → FailedMore s t (stopped_at run.made.end) → AreFailed old new r t
run_failed_so {s = s} {t = t} run so is counts more = step_failed (events_of run) so is (λ p. by p (stopped_at run.made.end) more)
  where
    by : (p : Place) (o : Option Place) → FailedMore s t o → failed_at p s + ((if is_at o p then 1 else 0) + 0) ≤ failed_at p t
    by p None more = let stays = counts.failed p in omega (arith, stays)
    by p (Some q) more = at (place_eq q p) refl
      where
        at : (b : Bool) → place_eq q p ≡ b → failed_at p s + ((if b then 1 else 0) + 0) ≤ failed_at p t
        at true same = let there = subst (λ (x : Place). failed_at x s + 1 ≤ failed_at x t) ((place_eq-Decides q p).0 same) more in omega (arith, there)
        at false other = let stays = counts.failed p in omega (arith, stays)

-- or one of which it did not
pub begun_failed_so : {old now new : List Event} {r s t : Store} (time : ℕ) → AreFailed old now r s → new ≡ now ++ Asked false ∷ Read time ∷ [] → Counts s t → AreFailed old new r t
begun_failed_so time so is counts = step_failed (Asked false ∷ Read time ∷ []) so is (λ p. let more = counts.failed p in omega (arith, more))

-- no further run was made
same_failed : {old now new : List Event} {r s : Store} (more : List Event) → ((p : Place) → stops_at p more ≡ 0) → AreFailed old now r s → new ≡ now ++ more → AreFailed old new r s
same_failed more none so is = step_failed more so is (λ p. let no = none p in omega (arith, no))

pub paused_failed_so : (plan : Plan) (d : Done) {old now new : List Event} {r s : Store} (why : Pause) → AreFailed old now r s → IsAllowed plan d now new (Err why) → AreFailed old new r s
paused_failed_so plan d pause.Asked so is = same_failed (Asked true ∷ []) (λ p. refl) so is
paused_failed_so plan d pause.TimeUp so is = same_failed (Asked false ∷ Read is.0 ∷ []) (λ p. refl) so is.1.0
paused_failed_so plan d pause.Spent so is = same_failed (Asked false ∷ Read is.0.0 ∷ []) (λ p. refl) so is.0.1.0
paused_failed_so plan d pause.Closing so is = absurd is
paused_failed_so plan d (pause.Stopped why) so is = absurd is
paused_failed_so plan d pause.RootChanged so is = absurd is
