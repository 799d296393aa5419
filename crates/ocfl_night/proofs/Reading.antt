-- What slices, runs and nights read, one after the other.
use Rattle.std.proofs.Common.{ℕ, ◌≡◌, ◌≢◌, ◌⊎◌, ⊎_elim, inl, inr, List, [], ◌∷◌, ◌++◌, refl, sym, ◌∙◌, ap, subst, true, false, Bool, Some, None, Option, Result, Ok, Err, arith, append-nil, filter, map, not}
use Rattle.std.specs.Prelude.{cond, IfOk, ◌||◌}
use Rattle.std.specs.Ordering.{is_lt}
use Rattle.std.specs.declared.cmp.Ordering.{Ordering}
use Rattle.std.specs.declared.cmp.Ordering.TheVariants.{Less, Equal, Greater}
use Rattle.ocfl_tree.specs.{Place.{Place, Text, place_cmp}, Ascending.{IsAscending, IsAmong}, StorageRoot.{StorageRoot, at}}
use Rattle.ocfl_tree.specs.{Listing.{entries_in}, Store.{Store, Did}, declared.store.Entry.{Entry}, declared.store.Opening.{Opening}}
use Rattle.ocfl_tree.proofs.{Bools.{and_second}, Orders.{among_left, below_from_greater, less_from, place_cmp_exact, place_cmp_total, true_not_false}, Stores.{among_either}}
use Rattle.ocfl_inventory.specs.{Declaration.{is_declaration}, Entries.{is_counted, is_file}}
use Rattle.ocfl_inventory.specs.declared.declaration.Level.TheVariants.{Root}
use Rattle.ocfl_rules.specs.{Trail.{content_trail, is_meta, is_meta_zone}, Zone.{zone}}
use Rattle.ocfl_rules.proofs.{BelowLaws.{ascends_append}, MetaLaws.{common_is_meta}}
use Rattle.ocfl_item.proofs.AuditingLaws.{trail_append}
use Rattle.ocfl_item.specs.Judging.{HasShortFiles}
use Rattle.ocfl_item.specs.declared.fault.Fault.TheVariants as fault
use Rattle.ocfl_identity.specs.Identity.{AreNamed, IsIdentityOf, IsUnread, OpensFirst, declarations_among, in_listing, in_opening, names_of, openings_of, too_long}
use Rattle.ocfl_identity.specs.declared.identity.{Identity.{Identity}, NoIdentity.{NoIdentity}}
use Rattle.ocfl_identity.specs.declared.identity.NoIdentity.TheVariants as missing
use Rattle.ocfl_identity.proofs.Askings.{opens_named}
use Rattle.ocfl_cursor.specs.Cursor.{Cursor, State, start, behind, ended}
use Rattle.ocfl_cursor.specs.declared.limits.Limits.{Limits}
use Rattle.ocfl_scrub.specs.{Joining.{is_taken}, Running.{begun, begun_in, state_after}, Together.{state_at}}
use Rattle.ocfl_scrub.specs.declared.running.RunEnd.{RunEnd}
use Rattle.ocfl_scrub.specs.declared.running.RunStatus.{RunStatus}
use Rattle.ocfl_scrub.specs.declared.running.RunStatus.TheVariants as status
use Rattle.ocfl_state.specs.{Checkpoint.{Checkpoint}, Content.{Content}}
use Rattle.ocfl_state.specs.declared.checkpoint_parts.{Phase.{Phase}, Phase.TheVariants.{Open, Closing}}
use Rattle.ocfl_state.specs.declared.checkpoint_parts.ReportMark.{ReportMark}
use Rattle.ocfl_night.specs.Beginning.{BeginsAt, Position, StandsAt, first, goes_on_at, goes_on_in, stored}
use Rattle.ocfl_night.specs.{Done.{Done}, Leaving.{done_by, remedy_at}, Looks.{Counts, opened_since}}
use Rattle.ocfl_night.specs.Ending.{IsAway, IsMadeBy, IsSlice, IsUnkept, KeepsTo, cycle_ended, ended_by, halt_after, place_or_pause, slice_end}
use Rattle.ocfl_night.specs.Reading.{AreBeyond, AreDeclarations, AreReadOnce, EndsInOrder, HasRead, HaveRead, IsRead, IsReadBy, IsReadTo, ReadsBeyond, StaysTaken, came_to, content_since, reached, reached_in}
use Rattle.ocfl_night.specs.{Runs.{StopsOpen, Turn, after_end, after_made, turn_of}, Sound.{IsAt}}
use Rattle.ocfl_night.specs.Steps.{IsNext, IsNotBegun, with_all_said}
use Rattle.ocfl_terms.specs.{declared.plan.Halt.{Halt}, declared.made.Made.{Made}, declared.made.SliceEnd.{SliceEnd}, declared.stop.Stop.{Stop}}
use Rattle.ocfl_night.specs.{declared.pause.Pause.{Pause}, declared.tally.Remedy.{Remedy}}
use Rattle.ocfl_terms.specs.declared.plan.Halt.TheVariants as halt
use Rattle.ocfl_night.specs.declared.pause.Pause.TheVariants as pause
use Rattle.ocfl_terms.specs.declared.made.SliceEnd.TheVariants as slice
use Rattle.ocfl_night.specs.declared.tally.Remedy.TheVariants as remedy
use Rattle.ocfl_night.proofs.{Foreigners.{at_once}, Looks.{leaf_there, since_both, since_is}, Runs.{made_open, stops_open}}
use Rattle.ocfl_report.specs.declared.further.Further.{Further}

-- ---- openings of declarations

no_content : (further : Further) (root : StorageRoot) (os : List Opening) → ((o : Opening) → IsAmong os o → is_meta further root o.place ≡ true) → content_trail further root os ≡ []
no_content further root [] all = refl
no_content further root (o ∷ os) all = by (is_meta further root o.place) (all o (inl refl)) (no_content further root os (λ x i. all x (inr i)))
  where
    by : (b : Bool) → b ≡ true → content_trail further root os ≡ []
        → map (λ (y : Opening). y.place) (cond (not b) (o ∷ filter (λ (y : Opening). not (is_meta further root y.place)) os) (filter (λ (y : Opening). not (is_meta further root y.place)) os)) ≡ []
    by true is rest = rest
    by false is rest = absurd (true_not_false (sym is))

module _ (further : Further) (root : StorageRoot) (s t : Store) (names : List Text) (all : (n : Text) → IsAmong names n → is_declaration Root n ≡ true) where
  content_named : (os : List Opening) → AreNamed names os → t.openings ≡ s.openings ++ os → content_since further root s t ≡ []
  content_named os named are = ap (content_trail further root) (since_is s t os are) ∙ no_content further root os (λ o i. let k = named o i in meta o k.0 k.1.1 (all k.0 k.1.0))
    where
      meta : (o : Opening) (n : Text) → o.place ≡ n ∷ [] → is_declaration Root n ≡ true → is_meta further root o.place ≡ true
      meta o n at is = ap (is_meta further root) at ∙ common_is_meta further root (n ∷ []) (ap (λ b. b || is_meta_zone (zone root (n ∷ []))) is)

  pub content_did : {listed : List Place} {failures : ℕ} → Did s t (openings_of root names) listed failures → content_since further root s t ≡ []
  content_did did = content_named (openings_of root names) (opens_named root names) did.openings_are

  pub content_first : {listed : List Place} → OpensFirst s t (openings_of root names) listed → content_since further root s t ≡ []
  content_first h = content_named h.made (λ o i. opens_named root names o (subst (λ os. IsAmong os o) h.are (among_left h.made h.rest o i))) h.did.openings_are

  pub content_unread : HasShortFiles root → {listed : List Place} {p : Place} → IsUnread root s t names listed p → content_since further root s t ≡ []
  content_unread short (in_listing is there did) = content_named [] (λ o none. absurd none) did.openings_are
  content_unread short (in_opening before given named did) = content_named _ named did.openings_are
  content_unread short {p = p} (too_long bytes is long) = absurd (let few = short p bytes (leaf_there (at root p) bytes is) in omega (arith, few, long))

  content_bare : {listed : List Place} {failures : ℕ} → Did s t [] listed failures → content_since further root s t ≡ []
  content_bare did = content_named [] (λ o none. absurd none) did.openings_are

  pub content_unidentified : {listed : List Place} (e : NoIdentity) → HasShortFiles root → (e ≡ missing.Undeclared → Did s t [] listed 0)
      → ((p : Place) → e ≡ missing.Unread p → IsUnread root s t names listed p) → (e ≡ missing.Memory → Did s t [] [] 0 ⊎ OpensFirst s t (openings_of root names) listed) → content_since further root s t ≡ []
  content_unidentified missing.Undeclared short bare unread refused = content_bare (bare refl)
  content_unidentified (missing.Unread p) short bare unread refused = content_unread short (unread p refl)
  content_unidentified missing.Memory short bare unread refused = ⊎_elim (λ did. content_bare did) (λ some. content_first some) (refused refl)

-- the names of declarations are
pub counted_names : (es : List Entry) (n : Text) → IsAmong (declarations_among es) n → is_declaration Root n ≡ true
counted_names [] n i = absurd i
counted_names (e ∷ es) n i = by (counted_names es n) (is_counted Root e) refl i
  where
    by : (IsAmong (declarations_among es) n → is_declaration Root n ≡ true) → (b : Bool) → is_counted Root e ≡ b
        → IsAmong (names_of (cond b (e ∷ filter (is_counted Root) es) (filter (is_counted Root) es))) n → is_declaration Root n ≡ true
    by more true is (inl same) = ap (is_declaration Root) same ∙ and_second (is_file e.kind) (is_declaration Root e.name) is
    by more true is (inr j) = more j
    by more false is j = more j

pub are_declarations : (root : StorageRoot) (id : Identity) → IsIdentityOf root id → AreDeclarations id
are_declarations root id is n i = counted_names (entries_in root []) n (subst (λ ns. IsAmong ns n) is.declarations i)

-- ---- what was opened, from one moment to the next

pub content_none : (further : Further) (root : StorageRoot) (s : Store) → content_since further root s s ≡ []
content_none further root s = ap (content_trail further root) (since_is s s [] (sym (append-nil s.openings)))

pub content_same : (further : Further) (root : StorageRoot) (s t : Store) → t ≡ s → content_since further root s t ≡ []
content_same further root s t same = ap (content_since further root s) same ∙ content_none further root s

module _ {r s t : Store} (further : Further) (root : StorageRoot) (p : Counts r s) (q : Counts s t) where
  pub content_both : content_since further root r t ≡ content_since further root r s ++ content_since further root s t
  content_both = ap (content_trail further root) (since_both p q) ∙ trail_append further root (opened_since r s) (opened_since s t)

  -- nothing but metadata after it, or before it
  pub content_first_alone : content_since further root s t ≡ [] → content_since further root r t ≡ content_since further root r s
  content_first_alone none = content_both ∙ ap (λ ps. content_since further root r s ++ ps) none ∙ append-nil (content_since further root r s)

  pub content_last_alone : content_since further root r s ≡ [] → content_since further root r t ≡ content_since further root s t
  content_last_alone none = content_both ∙ ap (λ ps. ps ++ content_since further root s t) none

  pub unfailing_first : t.failures ≡ r.failures → s.failures ≡ r.failures
  unfailing_first same = let one = p.failures in let two = q.failures in omega (arith, one, two, same)

  pub unfailing_last : t.failures ≡ r.failures → t.failures ≡ s.failures
  unfailing_last same = let one = p.failures in let two = q.failures in omega (arith, one, two, same)

-- ---- what has been taken

pub none_beyond : {there : State} {ps : List Place} → ps ≡ [] → AreBeyond there ps
none_beyond is = record { each = λ p i. absurd (subst (λ qs. IsAmong qs p) is i) }

pub beyond_by : {there : State} {ps qs : List Place} → qs ≡ ps → AreBeyond there ps → AreBeyond there qs
beyond_by {there} is all = subst (AreBeyond there) (sym is) all

-- what comes after a later one comes after an earlier one
pub beyond_from : {from to : State} {ps : List Place} → StaysTaken from to → AreBeyond to ps → AreBeyond from ps
beyond_from {from} {to} {ps} stays all = record { each = λ p i. by p i (is_taken from p) refl }
  where
    by : (p : Place) → IsAmong ps p → (b : Bool) → is_taken from p ≡ b → is_taken from p ≡ false
    by p i true is = absurd (true_not_false (sym (stays.each p is) ∙ all.each p i))
    by p i false is = is

pub beyond_both : {there : State} {ps qs : List Place} → AreBeyond there ps → AreBeyond there qs → AreBeyond there (ps ++ qs)
beyond_both {there} {ps} {qs} one then = record { each = λ p i. by p (among_either ps qs p i) }
  where
    by : (p : Place) → IsAmong ps p ⊎ IsAmong qs p → is_taken there p ≡ false
    by p (inl j) = one.each p j
    by p (inr j) = then.each p j

not_not : (b : Bool) → not b ≡ false → b ≡ true
not_not true e = refl
not_not false e = absurd (true_not_false e)

-- of two places, the one that was taken is the lesser
pub taken_below : (there : State) (p q : Place) → is_taken there p ≡ true → is_taken there q ≡ false → place_cmp p q ≡ Less
taken_below start p q is not_yet = absurd (true_not_false (sym is))
taken_below ended p q is not_yet = absurd (true_not_false not_yet)
taken_below (behind c) p q is not_yet = by (place_cmp c p) refl is
  where
    after : place_cmp c q ≡ Less
    after = less_from (place_cmp c q) (not_not (is_lt (place_cmp c q)) not_yet)

    by : (o : Ordering) → place_cmp c p ≡ o → not (is_lt o) ≡ true → place_cmp p q ≡ Less
    by Less e low = absurd (true_not_false (sym low))
    by Equal e low = subst (λ z. place_cmp z q ≡ Less) (place_cmp_exact c p e) after
    by Greater e low = place_cmp_total.trans p c q (below_from_greater place_cmp_total c p e) after

pub once_both : {from to : State} {ps qs : List Place} → StaysTaken from to → AreReadOnce from ps → AreBeyond from qs → AreReadOnce to qs → AreReadOnce to (ps ++ qs)
once_both {from} {to} {ps} {qs} stays one after then = record {
  once = ascends_append place_cmp ps qs one.once then.once (λ p q i j. taken_below from p q (one.taken.each p i) (after.each q j));
  taken = record { each = λ p i. by p (among_either ps qs p i) };
}
  where
    by : (p : Place) → IsAmong ps p ⊎ IsAmong qs p → is_taken to p ≡ true
    by p (inl i) = stays.each p (one.taken.each p i)
    by p (inr i) = then.taken.each p i

pub once_none : (there : State) {ps : List Place} → ps ≡ [] → AreReadOnce there ps
once_none there is = record { once = subst (IsAscending place_cmp) (sym is) tt; taken = record { each = λ p i. absurd (subst (λ qs. IsAmong qs p) is i) } }

pub once_by : {there : State} {ps qs : List Place} → qs ≡ ps → AreReadOnce there ps → AreReadOnce there qs
once_by {there} is h = subst (AreReadOnce there) (sym is) h

-- a cursor that begins a cycle has taken no more than the one before it
pub begun_stays : (c : Cursor) → StaysTaken (begun c).state c.state
begun_stays c = record { each = λ p is. by p c.state refl is }
  where
    by : (p : Place) (s : State) → c.state ≡ s → is_taken (begun_in c s).state p ≡ true → is_taken c.state p ≡ true
    by p start e now = now
    by p (behind q) e now = now
    by p ended e now = absurd (true_not_false (sym now))

begun_going : (c : Cursor) (last : Option Place) → c.state ≡ state_at last → (begun c).state ≡ c.state
begun_going c None e = ap (λ s. (begun_in c s).state) e
begun_going c (Some q) e = ap (λ s. (begun_in c s).state) e

begun_reached : (k : Checkpoint) → StaysTaken (begun k.cursor).state (reached k)
begun_reached k = by k.phase
  where
    by : (phase : Phase) → StaysTaken (begun k.cursor).state (reached_in phase k.cursor)
    by Open = record { each = λ p is. is }
    by Closing = begun_stays k.cursor

-- a run that was not made opened nothing
pub beyond_either : {there : State} {ps : List Place} (end : RunStatus) → (end ≢ status.Worn → AreBeyond there ps) → (end ≡ status.Worn → ps ≡ []) → AreBeyond there ps
beyond_either status.Worn made unmade = none_beyond (unmade refl)
beyond_either status.Ended made unmade = made (λ e. cc)
beyond_either status.Spent made unmade = made (λ e. cc)
beyond_either (status.Stopped why) made unmade = made (λ e. cc)

-- ---- a slice

reached_at : (k : Checkpoint) (c : Cursor) → k.phase ≡ Open → c ≡ k.cursor → reached k ≡ (begun c).state
reached_at k c going same = ap (λ (phase : Phase). reached_in phase k.cursor) going ∙ ap (λ (x : Cursor). (begun x).state) (sym same)

pub slice_beyond : (k : Checkpoint) (c : Cursor) {ps : List Place} → k.phase ≡ Open → c ≡ k.cursor → AreBeyond (begun c).state ps → AreBeyond (reached k) ps
slice_beyond k c {ps} going same all = subst (λ (s : State). AreBeyond s ps) (sym (reached_at k c going same)) all

-- where the checkpoint after a run has come
pub reached_next : {k next : Checkpoint} {c : Cursor} {limits : Limits} {ran : RunEnd} {mark : ReportMark} → KeepsTo c limits ran → IsNext k ran mark next → reached next ≡ ran.cursor.state
reached_next {next = next} {ran = ran} keeps is = there ran.end refl
  where
    goes : ran.end ≢ status.Ended → ran.cursor.state ≡ state_at keeps.last → reached next ≡ ran.cursor.state
    goes other here =
        ap (λ (phase : Phase). reached_in phase next.cursor) (is.goes_on other) ∙ ap (λ (x : Cursor). (begun x).state) is.cursor_is ∙ begun_going ran.cursor keeps.last here

    there : (end : RunStatus) → ran.end ≡ end → reached next ≡ ran.cursor.state
    there status.Ended e = ap (λ (phase : Phase). reached_in phase next.cursor) (is.ended e) ∙ ap (λ (x : Cursor). x.state) is.cursor_is
    there status.Spent e = goes (λ x. absurd (cc (e, x))) (ap (λ (x : Cursor). x.state) keeps.cursor ∙ ap (λ x. state_after x keeps.last) e)
    there (status.Stopped why) e = goes (λ x. absurd (cc (e, x))) (ap (λ (x : Cursor). x.state) keeps.cursor ∙ ap (λ x. state_after x keeps.last) e)
    there status.Worn e = goes (λ x. absurd (cc (e, x))) (ap (λ (x : Cursor). x.state) keeps.cursor ∙ ap (λ x. state_after x keeps.last) e)

-- of which nothing is kept
pub unkept_read : (s t : Store) (ps : List Place) (k : Checkpoint) (r : Result Made Stop) → IfOk r (IsUnkept k) → IfOk r (λ made. HasRead s t (reached k) (reached made.checkpoint) (place_or_pause made.end) ps)
unkept_read s t ps k (Err e) un = tt
unkept_read s t ps k (Ok made) un = record {
  stays = subst (λ (x : Checkpoint). StaysTaken (reached k) (reached x)) (sym un.checkpoint) (record { each = λ p is. is });
  once = λ same. by made.end un.away;
}
  where
    by : (end : SliceEnd) → IsAway end → IsReadBy (place_or_pause end) (reached made.checkpoint) ps
    by slice.RootChanged away = tt
    by (slice.Unread p) away = tt
    by slice.Ended away = absurd away
    by slice.Spent away = absurd away
    by (slice.Stopped why) away = absurd away

-- whose run is kept
pub kept_read : (s t : Store) (ps : List Place) (k : Checkpoint) (c : Cursor) (ran : RunEnd) {limits : Limits} → k.phase ≡ Open → c ≡ k.cursor → KeepsTo c limits ran
    → HasRead s t (begun c).state ran.cursor.state (place_or_pause (slice_end ran.end)) ps → (r : Result Made Stop) → IfOk r (λ made. (mark : ReportMark) × IsNext k ran mark made.checkpoint) → IfOk r (IsMadeBy ran)
    → IfOk r (λ made. HasRead s t (reached k) (reached made.checkpoint) (place_or_pause made.end) ps)
kept_read s t ps k c ran going same keeps read (Err e) next made = tt
kept_read s t ps k c ran going same keeps read (Ok made) next by_run =
    subst (λ (end : SliceEnd). HasRead s t (reached k) (reached made.checkpoint) (place_or_pause end) ps) (sym by_run.end)
    (subst (λ (to : State). HasRead s t (reached k) to (place_or_pause (slice_end ran.end)) ps) (sym (reached_next keeps next.1))
    (subst (λ (from : State). HasRead s t from ran.cursor.state (place_or_pause (slice_end ran.end)) ps) (sym (reached_at k c going same)) read))

-- and then the root was looked at
pub read_then : {s t u : Store} {from to : State} {at : Result Place (Option Pause)} (further : Further) (root : StorageRoot) → Counts s t → Counts t u → content_since further root t u ≡ []
    → HasRead s t from to at (content_since further root s t) → HasRead s u from to at (content_since further root s u)
read_then {s} {t} {u} {from} {to} {at} further root p q none h = record {
  stays = h.stays;
  once = λ same. subst (IsReadBy at to) (sym (content_first_alone further root p q none)) (h.once (unfailing_first further root p q same));
}

-- ---- runs, so far

pub record SoRead (s t : Store) (from to : State) (ps : List Place) : Type 0 where
  pub beyond : AreBeyond from ps
  pub stays : StaysTaken from to
  pub once : t.failures ≡ s.failures → AreReadOnce to ps

pub read_none : (further : Further) (root : StorageRoot) (s : Store) (there : State) → SoRead s s there there (content_since further root s s)
read_none further root s there = record { beyond = none_beyond (content_none further root s); stays = record { each = λ p is. is }; once = λ same. once_none there (content_none further root s) }

module _ {r s t : Store} {from mid : State} (further : Further) (root : StorageRoot) (p : Counts r s) (q : Counts s t) (so : SoRead r s from mid (content_since further root r s)) (beyond : AreBeyond mid (content_since further root s t)) where
  -- a slice more, whatever comes of it
  pub beyond_more : AreBeyond from (content_since further root r t)
  beyond_more = beyond_by (content_both further root p q) (beyond_both so.beyond (beyond_from so.stays beyond))

  -- one after which the night goes on
  pub read_more : {made to : State} {at : Result Place (Option Pause)} → made ≡ to → HasRead s t mid made at (content_since further root s t) → (IsReadBy at made (content_since further root s t) → AreReadOnce made (content_since further root s t))
      → SoRead r t from to (content_since further root r t)
  read_more {made} {to} same h goes = record {
    beyond = beyond_more;
    stays = subst (StaysTaken from) same (record { each = λ x is. h.stays.each x (so.stays.each x is) });
    once = λ unfailing. subst (λ (there : State). AreReadOnce there (content_since further root r t)) same
        (once_by (content_both further root p q) (once_both h.stays (so.once (unfailing_first further root p q unfailing)) beyond (goes (h.once (unfailing_last further root p q unfailing)))));
  }

  -- or that halts it
  pub read_last : {made to : State} {at : Result Place (Option Pause)} {end : Halt} → made ≡ to → HasRead s t mid made at (content_since further root s t) → (IsReadBy at made (content_since further root s t) → EndsInOrder end → ⊥)
      → HaveRead r t from to end (content_since further root r t)
  read_last {made} {to} same h halts = record {
    stays = subst (StaysTaken from) same (record { each = λ x is. h.stays.each x (so.stays.each x is) });
    once = λ unfailing order. absurd (halts (h.once (unfailing_last further root p q unfailing)) order);
  }

-- no further one is made
pub read_all : {s t : Store} {from to : State} {ps : List Place} (end : Halt) → SoRead s t from to ps → HaveRead s t from to end ps
read_all end so = record { stays = so.stays; once = λ same order. so.once same }

-- ---- what is done after a slice

done_reached : (p : Place) (k : Checkpoint) (done : Remedy) → reached (done_by k p done).0 ≡ reached k
done_reached p k remedy.TryAgain = refl
done_reached p k (remedy.LeaveOut branch) = refl
done_reached p k remedy.Halt = refl

after_reached : (strict : Bool) (d : Done) (k : Checkpoint) (at : Result Place (Option Pause)) → reached (after_end strict d k at).checkpoint ≡ reached k
after_reached strict d k (Ok p) = done_reached p k (remedy_at strict d p)
after_reached strict d k (Err why) = refl

module _ (strict : Bool) (d e : Done) {k : Checkpoint} {limits : Limits} {made : Made} (next : Checkpoint × Option Pause) (going : k.phase ≡ Open) (is : IsSlice k limits made) (led : StopsOpen made → turn_of e next ≡ after_made strict d made) where
  turn_is : turn_of e next ≡ after_made strict d made
  turn_is = led (stops_open going is)

  pub next_reached : reached made.checkpoint ≡ reached next.0
  next_reached = sym (ap (λ (x : Turn). reached x.checkpoint) turn_is ∙ after_reached strict d made.checkpoint (place_or_pause made.end))

  -- the night goes on
  pub goes_read : next.1 ≡ None → (there : State) (ps : List Place) → IsReadBy (place_or_pause made.end) there ps → AreReadOnce there ps
  goes_read none there ps = by (place_or_pause made.end) (sym (ap (λ (x : Turn). x.pause) turn_is) ∙ none)
    where
      by : (at : Result Place (Option Pause)) → (after_end strict d made.checkpoint at).pause ≡ None → IsReadBy at there ps → AreReadOnce there ps
      by (Ok p) goes read = absurd read
      by (Err None) goes read = read
      by (Err (Some why)) goes read = absurd (cc goes)

  -- it halts, and not in order
  pub halts_read : {why : Pause} → next.1 ≡ Some why → (there : State) (ps : List Place) (n : ℕ) → IsReadBy (place_or_pause made.end) there ps → EndsInOrder (halt_after (cycle_ended next.0.phase n) why) → ⊥
  halts_read {why} some there ps n read order = by made.end refl (sym (ap (λ (x : Turn). x.pause) turn_is) ∙ some) read
    where
      halted : (w : Pause) → w ≡ why → made.end ≢ slice.Ended → place_or_pause made.end ≡ Err (Some w) → (EndsInOrder (halt_after None w) → ⊥) → ⊥
      halted w same other at disorder =
          let checkpoint : next.0 ≡ made.checkpoint = ap (λ (x : Turn). x.checkpoint) turn_is ∙ ap (λ (x : Result Place (Option Pause)). (after_end strict d made.checkpoint x).checkpoint) at in
          let phase : next.0.phase ≡ Open = ap (λ (x : Checkpoint). x.phase) checkpoint ∙ made_open going is other in
          disorder (subst (λ (x : Pause). EndsInOrder (halt_after None x)) (sym same) (subst (λ (x : Phase). EndsInOrder (halt_after (cycle_ended x n) why)) phase order))

      by : (end : SliceEnd) → made.end ≡ end → (after_end strict d made.checkpoint (place_or_pause made.end)).pause ≡ Some why → IsReadBy (place_or_pause made.end) there ps → ⊥
      by slice.Ended e pauses read = let none = sym (ap (λ (x : SliceEnd). (after_end strict d made.checkpoint (place_or_pause x)).pause) e) ∙ pauses in absurd (cc none)
      by slice.Spent e pauses read = let none = sym (ap (λ (x : SliceEnd). (after_end strict d made.checkpoint (place_or_pause x)).pause) e) ∙ pauses in absurd (cc none)
      by (slice.Stopped (fault.Store p)) e pauses read = subst (λ (x : SliceEnd). IsReadBy (place_or_pause x) there ps) e read
      by (slice.Stopped fault.Memory) e pauses read =
          let same = sym (ap (λ (x : SliceEnd). (after_end strict d made.checkpoint (place_or_pause x)).pause) e) ∙ pauses in
          halted (pause.Stopped fault.Memory) (cc same) (λ x. absurd (cc (e, x))) (ap place_or_pause e) (λ none. none)
      by (slice.Unread p) e pauses read =
          let same = sym (ap (λ (x : SliceEnd). (after_end strict d made.checkpoint (place_or_pause x)).pause) e) ∙ pauses in
          halted (pause.Stopped (fault.Store p)) (cc same) (λ x. absurd (cc (e, x))) (ap place_or_pause e) (λ none. none)
      by slice.RootChanged e pauses read =
          let same = sym (ap (λ (x : SliceEnd). (after_end strict d made.checkpoint (place_or_pause x)).pause) e) ∙ pauses in
          halted pause.RootChanged (cc same) (λ x. absurd (cc (e, x))) (ap place_or_pause e) (λ none. none)

-- ---- the end of a night's runs

-- it stands at the cursor of the last run
goes_on_cursor : (phase : Phase) (k : Checkpoint) → (goes_on_in phase k).cursor ≡ k.cursor
goes_on_cursor Open k = refl
goes_on_cursor Closing k = refl

-- where its checkpoint has come
came_there : (phase : Phase) (c : Cursor) (n : ℕ) (why : Pause) → came_to (halt_after (cycle_ended phase n) why) c ≡ reached_in phase c
came_there Closing c n why = refl
came_there Open c n pause.TimeUp = refl
came_there Open c n pause.Spent = refl
came_there Open c n pause.Closing = refl
came_there Open c n pause.Asked = refl
came_there Open c n (pause.Stopped why) = refl
came_there Open c n pause.RootChanged = refl

pub read_to : {s t : Store} {from : State} {c : Content} {ps : List Place} (last said : Checkpoint) (cycle : Option ℕ) (why : Pause) {end : Halt} → said ≡ with_all_said last → cycle ≡ cycle_ended said.phase said.cursor.cycle → end ≡ halt_after cycle why → StandsAt c (goes_on_at said)
    → HaveRead s t from (reached last) (halt_after (cycle_ended last.phase last.cursor.cycle) why) ps → EndsInOrder end → IsReadTo s t from end c ps
read_to {from = from} {ps = ps} last said cycle why {end} all is so stands read order =
    let cursor : stands.0.cursor ≡ last.cursor = ap (λ (x : Position). x.cursor) stands.1.1 ∙ goes_on_cursor said.phase said ∙ ap (λ (x : Checkpoint). x.cursor) all in
    let same : end ≡ halt_after (cycle_ended last.phase last.cursor.cycle) why = so ∙ ap (λ (o : Option ℕ). halt_after o why) (is ∙ ap (λ (x : Checkpoint). cycle_ended x.phase x.cursor.cycle) all) in
    let came : came_to end stands.0.cursor ≡ reached last = ap (λ (h : Halt). came_to h stands.0.cursor) same ∙ ap (came_to (halt_after (cycle_ended last.phase last.cursor.cycle) why)) cursor ∙ came_there last.phase last.cursor last.cursor.cycle why in
    record {
      last = stands.0;
      at = stands.1.0;
      stays = subst (StaysTaken from) (sym came) read.stays;
      once = λ unfailing. subst (λ (s : State). AreReadOnce s ps) (sym came) (read.once unfailing (subst EndsInOrder same order));
    }

-- ---- a night

-- from the checkpoint that was there
begins_stays : {further : Further} {create : Bool} {c : Content} {start : Checkpoint} → BeginsAt further create c start → (k : Checkpoint) → IsAt k c → StaysTaken (begun k.cursor).state (reached start)
begins_stays (first new there) k here = let none = sym new.none ∙ here.is in absurd (cc none)
begins_stays {start = then} (stored was found there) k here =
    let same : was ≡ k = at_once found here in
    let reach : reached then ≡ reached k = ap (λ (x : Position). reached_in x.phase x.cursor) there ∙ ap reached same in
    subst (StaysTaken (begun k.cursor).state) (sym reach) (begun_reached k)

module _ {s t u : Store} {create : Bool} {old : Content} {start : Checkpoint} (further : Further) (root : StorageRoot) (p : Counts s t) (q : Counts t u) (none : content_since further root s t ≡ []) (begins : BeginsAt further create old start) where
  pub night_beyond : AreBeyond (reached start) (content_since further root t u) → ReadsBeyond old (content_since further root s u)
  night_beyond all k here = beyond_by (content_last_alone further root p q none) (beyond_from (begins_stays begins k here) all)

  pub night_read : {new : Content} {end : Halt} → IsReadTo t u (reached start) end new (content_since further root t u) → IsRead s u end old new (content_since further root s u)
  night_read h = record {
    last = h.last;
    at = h.at;
    stays = λ k here. record { each = λ x is. h.stays.each x ((begins_stays begins k here).each x is) };
    once = λ unfailing. once_by (content_last_alone further root p q none) (h.once (unfailing_last further root p q unfailing));
  }

-- one that was not begun does not end so
pub unbegun_order : (h : Halt) → IsNotBegun h → EndsInOrder h → ⊥
unbegun_order (halt.CycleEnded cycle) un order = un
unbegun_order halt.TimeUp un order = un
unbegun_order halt.Spent un order = un
unbegun_order halt.Asked un order = un
unbegun_order (halt.Stopped why) un order = order
unbegun_order halt.RootChanged un order = order
unbegun_order (halt.Refused why) un order = order
unbegun_order (halt.Troubled why) un order = order

pub in_order : (P : Halt → Type 0) (r : Result Halt Stop) {end : Halt} → end ≡ ended_by r → IfOk r (λ h. EndsInOrder h → P h) → EndsInOrder end → P end
in_order P (Ok h) is then order = subst P (sym is) (then (subst EndsInOrder is order))
in_order P (Err why) is then order = absurd (subst EndsInOrder is order)
