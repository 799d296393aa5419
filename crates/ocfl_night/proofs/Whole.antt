-- Whether a closed report is called whole.
use Rattle.std.proofs.Common.{◌≡◌, ◌⊎◌, ◌↔◌, inl, inr, ℕ, ◌∷◌, [], ◌++◌, ◌&&◌, Bool, true, false, List, Option, Some, None, Result, Ok, Err, refl, sym, ◌∙◌, ap, subst, arith, append_assoc, length, length-append, map}
use Rattle.std.proofs.lemmas.List.{append-nil, append_cancel_left, map-append}
use Rattle.std.specs.Prelude.{IsTrue, if◌then◌else◌}
use Rattle.ocfl_tree.specs.Place.{Place, Text}
use Rattle.ocfl_rules.specs.Lines.{is_empty}
use Rattle.ocfl_cursor.specs.declared.limits.Limits.{Limits}
use Rattle.ocfl_state.specs.{Checkpoint.{Checkpoint}, Content.{Closed, Content, is_closed, moved}}
use Rattle.ocfl_state.specs.{Pieces.{summary_of}, declared.checkpoint_parts.Left.{Left}}
use Rattle.ocfl_state.specs.declared.folder.StateFolder as state
use Rattle.ocfl_state.specs.declared.checkpoint_parts.{Phase.{Phase}, Phase.TheVariants.{Open, Closing}}
use Rattle.ocfl_identity.specs.declared.identity.Identity.{Identity}
use Rattle.ocfl_night.specs.{Done.{Done, with_begun, with_made}, Ending.{IsSlice, cycle_ended, place_or_pause}, Leaving.{LeadsOn, remedy_at}, Looks.{Rounds}}
use Rattle.ocfl_night.specs.{Promises.{HasCome, IsUncut}, Site.{IsAlike, with_root}, Sound.{IsAt, IsReady}}
use Rattle.ocfl_night.specs.Steps.{IsComplete, IsFinished, IsOpened, closes_whole, fitted, left_at, what_is_left, with_all_said}
use Rattle.ocfl_night.specs.Runs.{Run, Turn, after_end, remedied, turn, turn_of}
use Rattle.ocfl_night.specs.{declared.opening.Opened.{Opened}, declared.pause.Pause.{Pause}}
use Rattle.ocfl_terms.specs.{declared.plan.Plan.{Plan}, declared.made.Made.{Made}}
use Rattle.ocfl_night.specs.declared.tally.Remedy.{Remedy}
use Rattle.ocfl_night.specs.declared.tally.Remedy.TheVariants as remedy
use Rattle.ocfl_night.proofs.{Compared.{ready_to_close}, Foreigners.{alike_on, alike_self, at_once, made_alike}}

-- ---- what is closed

pub complete_by : (k : Checkpoint) {answer : Bool} {c : Content} → (IsTrue answer ↔ (IsTrue (closes_whole k) × (k.report ≡ summary_of c.report))) → (IsTrue answer ↔ IsComplete k c)
complete_by k fits = ((λ it. let both = fits.0 it in record { whole = both.0; report = both.1 }), (λ all. fits.1 (all.whole, all.report)))

not_longer : (xs : List Closed) (d : Closed) → xs ≡ xs ++ d ∷ [] → ⊥
not_longer xs d is = omega (arith, ap length is, length-append xs (d ∷ []))

one_of : (d e : Closed) → d ∷ [] ≡ e ∷ [] → d ≡ e
one_of d e is = cc is

still_open : {P : Type 0} (shut : Bool) → IsTrue shut ⊎ P → shut ≡ false → P
still_open shut (inl it) open_still = absurd (cc (it, open_still))
still_open shut (inr fits) open_still = fits

module _ {F : Type 0} {S : state.Ghosts F} {rounds : Rounds} {t : Text} {k : Checkpoint} {f : F} {new : Content} where
  -- a report that has come to the closed ones is called whole exactly if the checkpoint says so
  pub come_whole : k.phase ≡ Closing → IsReady S rounds t k f → IsFinished k (S.seen f) new → (d : Closed) → HasCome d (S.seen f) new → (IsTrue d.whole ↔ IsTrue (closes_whole k))
  come_whole ends r h d come = by h.closed.moved
    where
      same : new.closed ≡ h.between.closed
      same = ap (λ (x : Content). x.closed) h.next.put

      by : (IsTrue (is_closed (S.seen f).closed k.cursor.cycle) × (h.between ≡ S.seen f)) ⊎ ((is_closed (S.seen f).closed k.cursor.cycle ≡ false) × (h.between ≡ moved k.cursor.cycle h.closed.whole (S.seen f))) → (IsTrue d.whole ↔ IsTrue (closes_whole k))
      by (inl was) = absurd (not_longer (S.seen f).closed d (sym (same ∙ ap (λ (x : Content). x.closed) was.1) ∙ come))
      by (inr now) =
          let added : Closed = record { cycle = k.cursor.cycle; whole = h.closed.whole; report = (S.seen f).report } in
          let is : d ≡ added = one_of d added (append_cancel_left (S.seen f).closed (d ∷ []) (added ∷ []) (sym come ∙ same ∙ ap (λ (x : Content). x.closed) now.1)) in
          let whole : d.whole ≡ h.closed.whole = ap (λ (x : Closed). x.whole) is in
          let fits : k.report ≡ summary_of (S.seen f).report = still_open (is_closed (S.seen f).closed k.cursor.cycle) (ready_to_close ends r) now.0 in (
            (λ it. (h.closed.exactly.0 (sym whole ∙ it)).whole),
            (λ it. whole ∙ h.closed.exactly.1 (record { whole = it; report = fits })),
          )

-- ---- what a night leaves out meanwhile

pub none_grown : {k : Checkpoint} {had : List Place} → LeadsOn k had k had
none_grown {k} {had} = record { alike = alike_self k; whole = refl; more = []; left = sym (append-nil k.left); named = sym (append-nil had) }

pub grown_on : {k l m : Checkpoint} {a b c : List Place} → LeadsOn k a l b → LeadsOn l b m c → LeadsOn k a m c
grown_on {k} {l} {m} {a} {b} {c} p q = record {
  alike = alike_on p.alike q.alike;
  whole = q.whole ∙ p.whole;
  more = p.more ++ q.more;
  left = q.left ∙ ap (λ (x : List Left). x ++ q.more) p.left ∙ append_assoc k.left p.more q.more;
  named = q.named ∙ ap (λ (x : List Place). x ++ map (λ y. y.place) q.more) p.named ∙ append_assoc a (map (λ y. y.place) p.more) (map (λ y. y.place) q.more) ∙ ap (λ (x : List Place). a ++ x) (sym (map-append (λ (y : Left). y.place) p.more q.more));
}

by_remedy : (p : Place) (d : Done) (k : Checkpoint) (r : Remedy) → LeadsOn k d.left (remedied d k p r).checkpoint (remedied d k p r).done.left
by_remedy p d k remedy.TryAgain = record { alike = alike_self k; whole = refl; more = []; left = sym (append-nil k.left); named = refl }
by_remedy p d k (remedy.LeaveOut branch) = record { alike = record { root = refl; names = refl; part = refl; checks = refl }; whole = refl; more = left_at branch k ∷ []; left = refl; named = refl }
by_remedy p d k remedy.Halt = record { alike = alike_self k; whole = refl; more = []; left = sym (append-nil k.left); named = refl }

after_grown : (strict : Bool) (d : Done) (k : Checkpoint) (at : Result Place (Option Pause)) → LeadsOn k d.left (after_end strict d k at).checkpoint (after_end strict d k at).done.left
after_grown strict d k (Ok p) = by_remedy p d k (remedy_at strict d p)
after_grown strict d k (Err why) = none_grown

-- a run keeps both
slice_keeps : {k : Checkpoint} {limits : Limits} {made : Made} → IsSlice k limits made → (made.checkpoint.whole ≡ k.whole) × (made.checkpoint.left ≡ k.left)
slice_keeps (inl un) = (ap (λ (x : Checkpoint). x.whole) un.checkpoint, ap (λ (x : Checkpoint). x.left) un.checkpoint)
slice_keeps (inr r) = (ap (λ (x : Checkpoint). x.whole) r.1.2.1.rest_is, ap (λ (x : Checkpoint). x.left) r.1.2.1.rest_is)

same_grown : {k l m : Checkpoint} {a b : List Place} → IsAlike k l → l.whole ≡ k.whole → l.left ≡ k.left → LeadsOn l a m b → LeadsOn k a m b
same_grown {k} alike one two h = record { alike = alike_on alike h.alike; whole = h.whole ∙ one; more = h.more; left = h.left ∙ ap (λ (x : List Left). x ++ h.more) two; named = h.named }

-- one run more
pub run_grown : (plan : Plan) (d : Done) {e : Done} {k l : Checkpoint} {pause : Option Pause} {limits : Limits} (r : Run) → IsSlice k limits r.made → turn plan d r ≡ turn_of e (l, pause) → LeadsOn k d.left l e.left
run_grown plan d {e} {k} {l} {pause} r made led =
    let kept = slice_keeps made in
    same_grown (made_alike made) kept.0 kept.1 (subst (λ (x : Turn). LeadsOn r.made.checkpoint d.left x.checkpoint x.done.left) led (after_grown plan.stop_at_faults (with_made r.made (with_begun r.now d)) r.made.checkpoint (place_or_pause r.made.end)))

-- ---- whether a checkpoint says that all is there

closes_by : (w : Bool) (ls more : List Left) (d : List Place) → (IsTrue (w && is_empty (ls ++ more)) ↔ (IsTrue (w && is_empty ls) × (d ++ map (λ x. x.place) more ≡ d)))
closes_by false ls more d = ((λ it. absurd (cc it)), (λ h. absurd (cc h.0)))
closes_by true [] [] d = ((λ it. (refl, append-nil d)), (λ h. refl))
closes_by true [] (l ∷ more) d = ((λ it. absurd (cc it)), (λ h. absurd (omega (arith, ap length h.1, length-append d (map (λ (x : Left). x.place) (l ∷ more))))))
closes_by true (l ∷ ls) more d = ((λ it. absurd (cc it)), (λ h. absurd (cc h.0)))

pub grown_whole : {k l : Checkpoint} {had has : List Place} → LeadsOn k had l has → (IsTrue (closes_whole l) ↔ (IsTrue (closes_whole k) × (has ≡ had)))
grown_whole {k} {l} {had} {has} h =
    let fits = closes_by k.whole k.left h.more had in
    let same : closes_whole l ≡ (k.whole && is_empty (k.left ++ h.more)) = ap (λ (b : Bool). b && is_empty l.left) h.whole ∙ ap (λ (x : List Left). k.whole && is_empty x) h.left in (
      (λ it. let both = fits.0 (sym same ∙ it) in (both.0, h.named ∙ both.1)),
      (λ both. same ∙ fits.1 (both.0, sym h.named ∙ both.1)),
    )

-- ---- what is taken up

taken_by : (lost : Bool) (id : Identity) (k : Checkpoint) (c : Content) → (IsTrue (closes_whole (with_root id (fitted (if lost then Some (what_is_left k c) else None) k))) ↔ ((lost ≡ false) × IsTrue (closes_whole k)))
taken_by true id k c = ((λ it. absurd (cc it)), (λ h. absurd (cc h.0)))
taken_by false id k c = ((λ it. (refl, it)), (λ h. h.1))

-- of a checkpoint that is there nothing was lost or left out exactly if it says so and nothing is lost now
pub opened_whole : {id : Identity} {k : Checkpoint} {c : Content} {opened : Opened} → IsAt k c → IsOpened id k c opened → (IsTrue (closes_whole opened.checkpoint) ↔ ((opened.lost ≡ false) × IsUncut c))
opened_whole {id} {k} {c} {opened} at h =
    let fits = taken_by opened.lost id k c in
    let same = ap closes_whole h.checkpoint in (
      (λ it. let both = fits.0 (sym same ∙ it) in (both.0, λ q there. subst (λ (x : Checkpoint). IsTrue (closes_whole x)) (at_once at there) both.1)),
      (λ both. same ∙ fits.1 (both.0, both.1 k at)),
    )

-- where there is none
pub first_whole : {opened first : Opened} {c : Content} → c.checkpoint ≡ None → opened ≡ first → first.lost ≡ false → IsTrue (closes_whole first.checkpoint) → (IsTrue (closes_whole opened.checkpoint) ↔ ((opened.lost ≡ false) × IsUncut c))
first_whole none is at_first all = (
  (λ it. (ap (λ (o : Opened). o.lost) is ∙ at_first, λ k at. absurd (cc (none, at.is)))),
  (λ both. ap (λ (o : Opened). closes_whole o.checkpoint) is ∙ all),
)

-- once all of it is said
pub said_whole : (k : Checkpoint) {next : Checkpoint} {P : Type 0} → next ≡ with_all_said k → (IsTrue (closes_whole k) ↔ P) → (IsTrue (closes_whole next) ↔ P)
said_whole k is fits = ((λ it. fits.0 (sym (ap closes_whole is) ∙ it)), (λ h. ap closes_whole is ∙ fits.1 h))

pub closing_by : (phase : Phase) (cycle n : ℕ) → cycle_ended phase cycle ≡ Some n → phase ≡ Closing
closing_by Open cycle n is = absurd (cc is)
closing_by Closing cycle n is = refl

pub both_whole : {P Q R S : Type 0} → (P ↔ Q) → (Q ↔ R) → (R ↔ S) → (P ↔ S)
both_whole a b c = ((λ p. c.0 (b.0 (a.0 p))), (λ s. a.1 (b.1 (c.1 s))))
