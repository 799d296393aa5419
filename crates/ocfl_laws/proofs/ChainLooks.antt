-- What each run of a cycle lists and reads.
use Rattle.std.proofs.Common.{◌≡◌, inl, inr, ℕ, suc, ◌+◌, ◌≤◌, List, [], ◌∷◌, ◌++◌, refl, sym, ◌∙◌, ap, subst, Bool, Option, append-nil, append_assoc, filter, length, length-append, arith}
use Rattle.std.proofs.lemmas.List.{length-map}
use Rattle.std.specs.{Prelude.{flat_map}, List.{AllByRecursion}}
use Rattle.ocfl_tree.specs.{Place.{Place, place_cmp}, Ascending.{IsBeforeAll, IsAscending}}
use Rattle.ocfl_tree.specs.{StorageRoot.{StorageRoot}, Store.{Store}}
use Rattle.ocfl_tree.specs.declared.store.Opening.{Opening}
use Rattle.ocfl_rules.specs.{Lines.{is_empty}, Parts.{Part}, Runs.{Limits}, Trail.{heads_of}}
use Rattle.ocfl_rules.proofs.Trails.{filter_append}
use Rattle.ocfl_cursor.specs.Cursor.{Cursor, new_cursor}
use Rattle.ocfl_scrub.specs.{Call.{Call, call_of}, Chaining.{MadeRun, IsMadeOf, CycleOfRunsWithin}}
use Rattle.ocfl_scrub.specs.Running.{place_in, RunEndsWithin}
use Rattle.ocfl_scrub.specs.declared.cycling.CycleEnd.{CycleEnd}
use Rattle.ocfl_scrub.specs.declared.running.RunStatus.{RunStatus}
use Rattle.ocfl_item.specs.Auditing.{FailedAt}
use Rattle.ocfl_item.specs.declared.fault.Fault.TheVariants.{Memory, Store as AtStore}
use Rattle.ocfl_scrub.specs.declared.stop.ReportStop.TheVariants as halt
use Rattle.ocfl_scrub.specs.declared.cycling.CycleStatus.TheVariants as cycle
use Rattle.ocfl_scrub.specs.declared.running.RunStatus.TheVariants as run
use Rattle.ocfl_scrub.proofs.{ChainHeadline.{now}, ChainLaws.{spent_not_stopped}}
use Rattle.ocfl_laws.proofs.LooksOnce.{run_lists_once, run_reads_once}
use Rattle.ocfl_report.specs.declared.further.Further.{Further}
use Rattle.ocfl_scrub.proofs.ChainParts.{calls_of, AreMade, last_end, LastEnds, Apart, apart}

module _ (further : Further) (root : StorageRoot) (part : Part) where
  -- ---- what each run of a chain added, and all together

  module _ {A : Type 0} (of : Store → List A) (Is : List A → Type 0)
      (one : (s t : Store) (old new : Option (List ℕ)) (from last : Option Place) (limits : Limits) (spent files : ℕ) (finding : Bool) (how : RunStatus)
      → RunEndsWithin (call_of further root s t old new) part from last limits spent files finding how → (xs : List A) × ((of t ≡ of s ++ xs) × Is xs)) where
    all_added : (made : List MadeRun) (c : Cursor) (s t : Store) (old new : Option (List ℕ)) → AreMade part c made → IsMadeOf (call_of further root s t old new) (calls_of made)
        → (many : List (List A)) × ((length many ≡ length made) × ((of t ≡ of s ++ flat_map (λ xs. xs) many) × AllByRecursion Is many))
    all_added [] c s t old new h m = ([], (refl, (ap of m.0 ∙ sym (append-nil (of s)), tt)))
    all_added (r ∷ rest) c s t old new h m =
        let k = now further root part s old c r h.0 m.0 in
        let first = one s r.call.after old r.call.new (place_in c.state) k.last r.limits r.ran.spent r.ran.files r.ran.found r.ran.end k.run in
        let more = all_added rest r.ran.cursor r.call.after t r.call.new new h.1 m.1 in (
          first.0 ∷ more.0,
          (
            ap suc more.1.0,
            (
              more.1.1.0 ∙ ap (λ xs. xs ++ flat_map (λ x. x) more.0) first.1.0 ∙ append_assoc (of s) first.0 (flat_map (λ x. x) more.0),
              (first.1.1, more.1.1.1),
            ),
          ),
        )

  lists_all : (made : List MadeRun) (c : Cursor) (s t : Store) (old new : Option (List ℕ)) → AreMade part c made → IsMadeOf (call_of further root s t old new) (calls_of made)
      → (looks : List (List Place)) × ((length looks ≡ length made) × ((t.listings ≡ s.listings ++ flat_map (λ ls. ls) looks) × AllByRecursion (IsAscending place_cmp) looks))
  lists_all = all_added (λ s. s.listings) (IsAscending place_cmp) (λ s t old new. run_lists_once (call_of further root s t old new) part)

  reads_all : (made : List MadeRun) (c : Cursor) (s t : Store) (old new : Option (List ℕ)) → AreMade part c made → IsMadeOf (call_of further root s t old new) (calls_of made)
      → (trails : List (List Opening)) × ((length trails ≡ length made) × ((t.openings ≡ s.openings ++ flat_map (λ os. os) trails)
      × AllByRecursion (λ os. IsAscending place_cmp (heads_of root os)) trails))
  reads_all = all_added (λ s. s.openings) (λ os. IsAscending place_cmp (heads_of root os)) (λ s t old new. run_reads_once (call_of further root s t old new) part)

  -- ---- the last of them, if a call of the store failed

  abbrev FailedIn : Store → Store → Place → Type 0
  FailedIn s t q = (listed : List Place) × ((trail : List Opening) × ((t.listings ≡ s.listings ++ listed) × ((t.openings ≡ s.openings ++ trail) × FailedAt further root s t listed trail q)))

  last_failed : (made : List MadeRun) (c : Cursor) (s t : Store) (old new : Option (List ℕ)) → AreMade part c made → IsMadeOf (call_of further root s t old new) (calls_of made)
      → (q : Place) → last_end made ≡ run.Stopped (halt.Fault (AtStore q)) → (front : List Call) × ((k : Call) × ((calls_of made ≡ front ++ k ∷ []) × FailedIn k.before k.after q))
  last_failed [] c s t old new h m q e = absurd (spent_not_stopped (halt.Fault (AtStore q)) e)
  last_failed (r ∷ []) c s t old new h m q e =
      let k = now further root part s old c r h.0 m.0 in
      let fails = (subst (RunEndsWithin (call_of further root s r.call.after old r.call.new) part (place_in c.state) k.last r.limits r.ran.spent r.ran.files r.ran.found) e k.run).looks.fails in
      ([], (call_of further root s r.call.after old r.call.new, (ap (λ x. x ∷ []) m.0, (_, (_, (fails.did.listings_are, (fails.did.openings_are, (fails.store q refl).1)))))))
  last_failed (r ∷ x ∷ rest) c s t old new h m q e =
      let later = last_failed (x ∷ rest) r.ran.cursor r.call.after t r.call.new new h.1 m.1 q e in
      (r.call ∷ later.0, (later.1.0, (ap (λ ks. r.call ∷ ks) later.1.1.0, later.1.1.1)))

-- ---- how often the storage root is listed

none_later : (ps : List Place) → IsBeforeAll place_cmp [] ps → length (filter is_empty ps) ≡ 0
none_later [] h = refl
none_later ([] ∷ ps) h = absurd (let e = h.0 in cc)
none_later ((n ∷ p) ∷ ps) h = none_later ps h.1

root_once : (ps : List Place) → IsAscending place_cmp ps → length (filter is_empty ps) ≤ 1
root_once [] h = omega arith
root_once ([] ∷ ps) h = let e = none_later ps h.0 in omega (arith, e)
root_once ((n ∷ p) ∷ ps) h = root_once ps h.1

root_each : (looks : List (List Place)) → AllByRecursion (IsAscending place_cmp) looks → length (filter is_empty (flat_map (λ ls. ls) looks)) ≤ length looks
root_each [] h = omega arith
root_each (ps ∷ looks) h =
    let a = root_once ps h.0 in
    let b = root_each looks h.1 in
    let e : length (filter is_empty (ps ++ flat_map (λ ls. ls) looks)) ≡ length (filter is_empty ps) + length (filter is_empty (flat_map (λ ls. ls) looks)) =
    ap length (filter_append is_empty ps (flat_map (λ ls. ls) looks)) ∙ length-append (filter is_empty ps) (filter is_empty (flat_map (λ ls. ls) looks)) in
    omega (arith, a, b, e)

-- ---- a cycle

module _ (call : Call) (part : Part) (limits : List Limits) (ran : CycleEnd) (h : CycleOfRunsWithin call part limits ran) where
  abbrev a : Apart call part limits ran
  a = apart call part limits ran h

  pub cycle_lists : (looks : List (List Place)) × ((length looks ≡ ran.runs) × ((call.after.listings ≡ call.before.listings ++ flat_map (λ ls. ls) looks)
      × AllByRecursion (IsAscending place_cmp) looks))
  cycle_lists = let k = lists_all call.further call.root part a.runs (new_cursor call.further) call.before call.after call.old call.new a.chained a.made_of in (k.0, (k.1.0 ∙ sym a.count_is, k.1.1))

  pub cycle_reads : (trails : List (List Opening)) × ((length trails ≡ ran.runs) × ((call.after.openings ≡ call.before.openings ++ flat_map (λ os. os) trails)
      × AllByRecursion (λ os. IsAscending place_cmp (heads_of call.root os)) trails))
  cycle_reads = let k = reads_all call.further call.root part a.runs (new_cursor call.further) call.before call.after call.old call.new a.chained a.made_of in (k.0, (k.1.0 ∙ sym a.count_is, k.1.1))

  pub root_listed : (listed : List Place) × ((call.after.listings ≡ call.before.listings ++ listed) × (length (filter is_empty listed) ≤ ran.runs))
  root_listed =
      let k = cycle_lists in
      (flat_map (λ ls. ls) k.0, (k.1.1.0, subst (λ n. length (filter is_empty (flat_map (λ ls. ls) k.0)) ≤ n) k.1.0 (root_each k.0 k.1.1.1)))

  pub failed_last : (q : Place) → ran.end ≡ cycle.Stopped (halt.Fault (AtStore q)) → (calls : List Call) × ((k : Call) × (IsMadeOf call (calls ++ k ∷ []) × ((length (calls ++ k ∷ []) ≡ ran.runs)
      × FailedIn call.further call.root part k.before k.after q)))
  failed_last q e = by (subst (LastEnds a.runs a.unused) e a.ends)
    where
      not_memory : halt.Fault (AtStore q) ≡ halt.Fault Memory → ⊥
      not_memory f = cc

      by : LastEnds a.runs a.unused (cycle.Stopped (halt.Fault (AtStore q)))
          → (calls : List Call) × ((k : Call) × (IsMadeOf call (calls ++ k ∷ []) × ((length (calls ++ k ∷ []) ≡ ran.runs) × FailedIn call.further call.root part k.before k.after q)))
      by (inr b) = absurd (not_memory b.memory)
      by (inl f) =
          let k = last_failed call.further call.root part a.runs (new_cursor call.further) call.before call.after call.old call.new a.chained a.made_of q f in
          (k.0, (k.1.0, (subst (IsMadeOf call) k.1.1.0 a.made_of, (ap length (sym k.1.1.0) ∙ length-map a.runs (λ r. r.call) ∙ sym a.count_is, k.1.1.1))))
