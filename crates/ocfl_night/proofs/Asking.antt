-- What the store of a night is asked for, in runs and beside them.
use Rattle.std.proofs.Common.{◌≡◌, ◌≢◌, ◌⊎◌, ⊎_elim, inl, inr, ℕ, List, [], Option, Some, None, Result, Ok, Err, refl, sym, ◌∙◌, ap, subst, arith, append-nil}
use Rattle.std.specs.Prelude.{IfErr, IfOk, OnErr, ⊤}
use Rattle.ocfl_tree.specs.{Place.{Place, Text}, Ascending.{IsAmong}, StorageRoot.{StorageRoot, at}}
use Rattle.ocfl_tree.specs.{Store.{Did, Store}, declared.store.Opening.{Opening}}
use Rattle.ocfl_tree.proofs.Orders.{among_left}
use Rattle.ocfl_rules.specs.Parts.{Part}
use Rattle.ocfl_item.specs.{Judging.{HasShortFiles}, Looking.{IsFront}}
use Rattle.ocfl_identity.specs.Identity.{AreNamed, IsUnread, OpensFirst, in_listing, in_opening, openings_of, too_long}
use Rattle.ocfl_identity.specs.declared.identity.NoIdentity.{NoIdentity}
use Rattle.ocfl_identity.specs.declared.identity.NoIdentity.TheVariants as missing
use Rattle.ocfl_identity.proofs.Askings.{opens_named}
use Rattle.ocfl_cursor.specs.Cursor.{Cursor}
use Rattle.ocfl_scrub.specs.{Keeping.{met_at, met_in}, declared.kept.KeptWalk.{KeptWalk}}
use Rattle.ocfl_scrub.specs.declared.running.{RunEnd.{RunEnd}, RunStatus.{RunStatus}}
use Rattle.ocfl_scrub.specs.declared.running.RunStatus.TheVariants as status
use Rattle.ocfl_scrub.specs.declared.stop.ReportStop.TheVariants as report
use Rattle.ocfl_state.specs.Checkpoint.{Checkpoint}
use Rattle.ocfl_night.specs.Asking.{AskedFrom, GaveAll, IsMetBy, IsRunAndLook, IsUntroubled, LooksOnly, MayAskFrom, OrTroubled}
use Rattle.ocfl_night.specs.{Chain.{part_after}, Ending.{IsAway, IsMadeBy, IsUnkept, place_or_pause, slice_end}}
use Rattle.ocfl_night.specs.declared.looking.NotKept.{NotKept}
use Rattle.ocfl_terms.specs.{declared.made.Made.{Made}, declared.made.SliceEnd.{SliceEnd}, declared.stop.Stop.{Stop}}
use Rattle.ocfl_night.specs.declared.looking.NotKept.TheVariants as unkept
use Rattle.ocfl_terms.specs.declared.made.SliceEnd.TheVariants as slice
use Rattle.ocfl_night.proofs.Looks.{leaf_there}

-- ---- looks

pub looks_did : {names : List Text} {s t : Store} {os : List Opening} {listed dirs : List Place} {n : ℕ} → AreNamed names os → IsFront listed dirs → Did s t os listed n → LooksOnly names dirs s t
looks_did {os = os} {listed} named front did = record { opened = os; listed = listed; openings = did.openings_are; listings = did.listings_are; named = named; front = front }

front_all : (dirs : List Place) → IsFront dirs dirs
front_all dirs = ([], sym (append-nil dirs))

pub looks_none : (names : List Text) (dirs : List Place) (s t : Store) → t ≡ s → LooksOnly names dirs s t
looks_none names dirs s t same = record {
  opened = [];
  listed = [];
  openings = ap (λ (x : Store). x.openings) same ∙ sym (append-nil s.openings);
  listings = ap (λ (x : Store). x.listings) same ∙ sym (append-nil s.listings);
  named = λ o none. absurd none;
  front = (dirs, refl);
}

module _ (root : StorageRoot) {s t : Store} (names : List Text) {listed : List Place} where
  pub looks_all : {n : ℕ} → Did s t (openings_of root names) listed n → LooksOnly names listed s t
  looks_all did = looks_did (opens_named root names) (front_all listed) did

  pub looks_first : OpensFirst s t (openings_of root names) listed → LooksOnly names listed s t
  looks_first h = looks_did (λ o i. opens_named root names o (subst (λ (os : List Opening). IsAmong os o) h.are (among_left h.made h.rest o i))) (front_all listed) h.did

  pub looks_unread : {p : Place} → HasShortFiles root → IsUnread root s t names listed p → LooksOnly names listed s t
  looks_unread short (in_listing is there did) = looks_did (λ o none. absurd none) (front_all listed) did
  looks_unread short (in_opening before given named did) = looks_did named (front_all listed) did
  looks_unread {p = p} short (too_long bytes is long) = absurd (let few = short p bytes (leaf_there (at root p) bytes is) in omega (arith, few, long))

  -- the root has no identity
  pub looks_unidentified : (e : NoIdentity) → HasShortFiles root → (e ≡ missing.Undeclared → Did s t [] listed 0) → ((p : Place) → e ≡ missing.Unread p → IsUnread root s t names listed p)
      → (e ≡ missing.Memory → Did s t [] [] 0 ⊎ OpensFirst s t (openings_of root names) listed) → LooksOnly names listed s t
  looks_unidentified missing.Undeclared short bare unread refused = looks_did (λ o none. absurd none) (front_all listed) (bare refl)
  looks_unidentified (missing.Unread p) short bare unread refused = looks_unread short (unread p refl)
  looks_unidentified missing.Memory short bare unread refused = ⊎_elim (λ did. looks_did (λ o none. absurd none) (listed, refl) did) looks_first (refused refl)

-- ---- runs

-- whatever it gave
pub asked_any : {root : StorageRoot} {part : Part} {names : List Text} {met : Option Place} {c : Cursor} {Gave More : RunEnd → Type 0} {s t : Store} → ((ran : RunEnd) → Gave ran → More ran) → IsRunAndLook root part names met c Gave s t → IsRunAndLook root part names met c More s t
asked_any more h = record { limits = h.limits; old = h.old; new = h.new; ran = h.ran; end = h.end; run = h.run; look = h.look; gave = more h.ran h.gave }

-- nothing is kept of it
pub asked_so : {T Run : Type 0} (Nothing : Type 0) (r : Result T NotKept) → Run → IfErr r (λ why. OrTroubled why Nothing Run)
asked_so Nothing (Ok x) run = tt
asked_so Nothing (Err (unkept.Troubled why)) run = inr run
asked_so Nothing (Err unkept.RootChanged) run = run
asked_so Nothing (Err (unkept.Unread p)) run = run

-- one that was not made asked for nothing
pub asked_either : {s t : Store} {Run : Type 0} (end : RunStatus) → (end ≢ status.Worn → Run) → (end ≡ status.Worn → t ≡ s) → (t ≡ s) ⊎ Run
asked_either status.Worn made unmade = inl (unmade refl)
asked_either status.Ended made unmade = inr (made (λ e. cc))
asked_either status.Spent made unmade = inr (made (λ e. cc))
asked_either (status.Stopped why) made unmade = inr (made (λ e. cc))

-- ---- from a checkpoint

module _ (root : StorageRoot) (part : Part) (names : List Text) (met : Option Place) (k : Checkpoint) {s t : Store} where
  -- by the part and the cursor that it has
  pub asked_from : {Gave : RunEnd → Type 0} (rest : Part) (c : Cursor) → rest ≡ part_after part k.left → c ≡ k.cursor → IsRunAndLook root rest names met c Gave s t → AskedFrom root part names met k Gave s t
  asked_from {Gave} rest c there same h =
      subst (λ (x : Cursor). IsRunAndLook root (part_after part k.left) names met x Gave s t) same (subst (λ (x : Part). IsRunAndLook root x names met c Gave s t) there h)

  may_ask : {Gave : RunEnd → Type 0} → AskedFrom root part names met k Gave s t → MayAskFrom root part names met k s t
  may_ask h = inr (asked_any (λ ran gave. tt) h)

  -- in a slice that is kept
  pub kept_asked : (ran : RunEnd) (r : Result Made Stop) → AskedFrom root part names met k (λ x. x ≡ ran) s t → IfOk r (IsMadeBy ran) → IfOk r (λ made. AskedFrom root part names met k (GaveAll k made) s t)
  kept_asked ran (Ok made) h by = asked_any (λ x same. inr (subst (λ (y : RunEnd). IsMadeBy y made) (sym same) by)) h
  kept_asked ran (Err why) h by = tt

  pub kept_no_more : {Gave : RunEnd → Type 0} (r : Result Made Stop) → AskedFrom root part names met k Gave s t → OnErr r (MayAskFrom root part names met k s t)
  kept_no_more (Ok made) h = tt
  kept_no_more (Err why) h = may_ask h

  pub nothing_asked : (r : Result Made Stop) → t ≡ s → OnErr r (MayAskFrom root part names met k s t)
  nothing_asked (Ok made) same = tt
  nothing_asked (Err stop) same = inl same

-- in one that is not
module _ (root : StorageRoot) (part : Part) (names : List Text) (met : Option Place) (k : Checkpoint) (s t : Store) where
  unkept_may : (why : NotKept) → OrTroubled why (t ≡ s) (AskedFrom root part names met k (λ ran. ⊤) s t) → MayAskFrom root part names met k s t
  unkept_may (unkept.Troubled why) h = h
  unkept_may unkept.RootChanged h = inr h
  unkept_may (unkept.Unread p) h = inr h

  unkept_made : (why : NotKept) → IsUntroubled why → OrTroubled why (t ≡ s) (AskedFrom root part names met k (λ ran. ⊤) s t) → AskedFrom root part names met k (λ ran. ⊤) s t
  unkept_made (unkept.Troubled why) calm h = absurd calm
  unkept_made unkept.RootChanged calm h = h
  unkept_made (unkept.Unread p) calm h = h

  pub unkept_asked : (why : NotKept) (r : Result Made Stop) → OrTroubled why (t ≡ s) (AskedFrom root part names met k (λ ran. ⊤) s t) → IfOk r (λ made. IsUntroubled why) → IfOk r (IsUnkept k) → IfOk r (λ made. AskedFrom root part names met k (GaveAll k made) s t)
  unkept_asked why (Ok made) h calm un = asked_any (λ ran gave. inl un) (unkept_made why calm h)
  unkept_asked why (Err stop) h calm un = tt

  pub unkept_no_more : (why : NotKept) (r : Result Made Stop) → OrTroubled why (t ≡ s) (AskedFrom root part names met k (λ ran. ⊤) s t) → OnErr r (MayAskFrom root part names met k s t)
  unkept_no_more why (Ok made) h = tt
  unkept_no_more why (Err stop) h = unkept_may why h

-- the same, by the part and the cursor that it has
pub unmade_from : (root : StorageRoot) (part : Part) (names : List Text) (met : Option Place) (k : Checkpoint) (s t : Store) (rest : Part) (c : Cursor) (why : NotKept) → rest ≡ part_after part k.left → c ≡ k.cursor
    → OrTroubled why (t ≡ s) (IsRunAndLook root rest names met c (λ ran. ⊤) s t) → OrTroubled why (t ≡ s) (AskedFrom root part names met k (λ ran. ⊤) s t)
unmade_from root part names met k s t rest c (unkept.Troubled why) there same h = ⊎_elim (λ none. inl none) (λ run. inr (asked_from root part names met k rest c there same run)) h
unmade_from root part names met k s t rest c unkept.RootChanged there same h = asked_from root part names met k rest c there same h
unmade_from root part names met k s t rest c (unkept.Unread p) there same h = asked_from root part names met k rest c there same h

-- of files with the same names
pub asked_named : (root : StorageRoot) (part : Part) {ns ms : List Text} (met : Option Place) (k : Checkpoint) {Gave : RunEnd → Type 0} {s t : Store} → ns ≡ ms → AskedFrom root part ns met k Gave s t → AskedFrom root part ms met k Gave s t
asked_named root part met k {Gave} {s} {t} same h = subst (λ (x : List Text). AskedFrom root part x met k Gave s t) same h

pub may_named : (root : StorageRoot) (part : Part) {ns ms : List Text} (met : Option Place) (k : Checkpoint) {s t : Store} → ns ≡ ms → MayAskFrom root part ns met k s t → MayAskFrom root part ms met k s t
may_named root part met k {s} {t} same h = subst (λ (x : List Text). MayAskFrom root part x met k s t) same h

pub err_holds : {T E : Type 0} {P : Type 0} (r : Result T E) (e : E) → r ≡ Err e → OnErr r P → P
err_holds (Ok x) e is h = absurd (cc is)
err_holds (Err d) e is h = h

-- ---- the walk that is kept

none_met : (kept : KeptWalk) → kept.met ≡ None → met_at kept ≡ None
none_met kept none = ap met_in none

-- after a run that was made, and whose lines went out whole
pub met_by : (end : RunStatus) (kept : KeptWalk) → end ≢ status.Worn → end ≢ status.Stopped report.Output → (end ≡ status.Spent → (p : Place) × (met_at kept ≡ Some p)) → (end ≢ status.Spent → kept.met ≡ None) → IsMetBy (slice_end end) (met_at kept)
met_by status.Spent kept made whole spent unspent = spent refl
met_by status.Ended kept made whole spent unspent = none_met kept (unspent (λ e. cc))
met_by status.Worn kept made whole spent unspent = absurd (made refl)
met_by (status.Stopped (report.Fault why)) kept made whole spent unspent = none_met kept (unspent (λ e. cc))
met_by (status.Stopped report.Output) kept made whole spent unspent = absurd (whole refl)

-- in a slice that is kept
pub met_kept : (met : Option Place) (ran : RunEnd) (r : Result Made Stop) → IsMetBy (slice_end ran.end) met → IfOk r (IsMadeBy ran) → IfOk r (λ made. IsMetBy made.end met)
met_kept met ran (Ok made) h by = subst (λ (e : SliceEnd). IsMetBy e met) (sym by.end) h
met_kept met ran (Err why) h by = tt

-- or is not
pub met_unkept : (kept : KeptWalk) (k : Checkpoint) (r : Result Made Stop) → kept.met ≡ None → IfOk r (IsUnkept k) → IfOk r (λ made. IsMetBy made.end (met_at kept))
met_unkept kept k (Err why) none un = tt
met_unkept kept k (Ok made) none un = by made.end un.away
  where
    by : (end : SliceEnd) → IsAway end → IsMetBy end (met_at kept)
    by slice.RootChanged away = none_met kept none
    by (slice.Unread p) away = none_met kept none
    by slice.Ended away = absurd away
    by slice.Spent away = absurd away
    by (slice.Stopped why) away = absurd away

-- none is kept after a run that stopped at a place
pub met_stopped : (end : SliceEnd) (p : Place) (kept : KeptWalk) → place_or_pause end ≡ Ok p → kept.met ≡ None → IsMetBy end (met_at kept)
met_stopped (slice.Stopped why) p kept at none = none_met kept none
met_stopped slice.Ended p kept at none = absurd (cc at)
met_stopped slice.Spent p kept at none = absurd (cc at)
met_stopped slice.RootChanged p kept at none = absurd (cc at)
met_stopped (slice.Unread q) p kept at none = absurd (cc at)
