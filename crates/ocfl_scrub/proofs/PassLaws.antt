-- A pass, item by item, and its ends.
use Rattle.std.proofs.Common.{◌≡◌, ◌⊎◌, inl, inr, ℕ, List, [], ◌∷◌, ◌++◌, refl, sym, ◌∙◌, ap, subst, true, false, Bool, Some, None, Option, append-nil, append_assoc, take, not}
use Rattle.std.proofs.KnownBytes.{Appends-nil, Appends-trans}
use Rattle.std.specs.{Prelude.{cond, ◌||◌, slice_get}, List.{list_any, last_or}, Ordering.{is_lt}}
use Rattle.std.specs.{Io.KnownBytes.{Appends}, declared.cmp.Ordering.{Ordering}}
use Rattle.std.specs.declared.cmp.Ordering.TheVariants.{Less, Equal, Greater}
use Rattle.ocfl_tree.specs.{Place.{Place, place_cmp}, Ascending.{IsAscending, IsAmong}}
use Rattle.ocfl_tree.specs.{StorageRoot.{StorageRoot}, Store.{Store}}
use Rattle.ocfl_tree.specs.declared.store.Opening.{Opening}
use Rattle.ocfl_tree.proofs.Orders.{place_cmp_total, place_cmp_exact, not_less_itself, before_each, below_from_greater, true_not_false, among_left, among_right, ascends_filter, among_from_filter}
use Rattle.ocfl_tree.proofs.Stores.{among_either}
use Rattle.ocfl_report.specs.Line.{Item, has_finding, found}
use Rattle.ocfl_report.specs.Text.{lines_text, text}
use Rattle.ocfl_rules.specs.{Due.{item_places, due, items_at, hashed_among}, Trail.{content_trail}}
use Rattle.ocfl_rules.specs.Between.{IsBeyond, IsWithin, looked_between, read_between}
use Rattle.ocfl_rules.proofs.{BelowLaws.{less_from}, BetweenLaws.{among_between, from_between}}
use Rattle.ocfl_rules.proofs.{PartLaws.{items_ascend}, Trails.{filter_append}}
use Rattle.ocfl_item.specs.{Auditing.{Audits, Fails}}
use Rattle.ocfl_item.specs.declared.fault.Fault.{Fault}
use Rattle.ocfl_scrub.specs.Types.{ReportStop}
use Rattle.ocfl_walk.specs.{WalkCalls.{Walks, WalksOut, FailsOut, next_due}, Ends.{is_past, before_end}}
use Rattle.ocfl_walk.specs.declared.end.End.{End}
use Rattle.ocfl_walk.proofs.{BeforeLaws.{not_below}, WalkCallLaws.{audits_as}}
use Rattle.ocfl_scrub.specs.{Call.{call_of}, Taking.{WritesLines, PartOf, Takes, Misses, stop_place}}
use Rattle.ocfl_scrub.specs.declared.stop.ReportStop.TheVariants as halt
use Rattle.ocfl_scrub.proofs.Passing.{up_to_last, due_in, Passes, Finishes, Halts}
use Rattle.ocfl_scrub.proofs.Lists.{flat_append, ascends_left}
use Rattle.ocfl_scrub.proofs.AuditsJoined.{items_before, items_behind, items_then}
use Rattle.ocfl_scrub.proofs.BetweenLaws.{HasGoneOn, looked_self, looked_next, looked_end, looked_front, read_self, read_next, read_end, read_front, lost_listed, lost_heads, front_behind}
use Rattle.ocfl_item.proofs.UpToLaws.{not_less_or}
use Rattle.ocfl_scrub.proofs.TakeLaws.{failed_is, fault_of_nothing, missed_no_store}
use Rattle.ocfl_item.proofs.AuditingLaws.{audits_fail, audits_nothing, audits_on}
use Rattle.ocfl_report.specs.declared.further.Further.{Further}

-- ---- texts and findings of what follows

pub text_append : (xs ys : List Item) → text (xs ++ ys) ≡ text xs ++ text ys
text_append xs ys = flat_append (λ i. lines_text i.lines) xs ys

any_append : {A : Type 0} (test : A → Bool) (xs ys : List A) → list_any test (xs ++ ys) ≡ (list_any test xs || list_any test ys)
any_append test [] ys = refl
any_append test (x ∷ xs) ys = ap (λ b. test x || b) (any_append test xs ys) ∙ by (test x)
  where
    by : (b : Bool) → (b || (list_any test xs || list_any test ys)) ≡ ((b || list_any test xs) || list_any test ys)
    by true = refl
    by false = refl

pub found_append : (xs ys : List Item) → found (xs ++ ys) ≡ (found xs || found ys)
found_append xs ys = any_append has_finding xs ys

-- ---- on every store

pub lines_then : (old mid new : Option (List ℕ)) (a b either : Bool) → WritesLines old mid a → WritesLines mid new b → either ≡ (a || b) → WritesLines old new either
lines_then old mid new a b either h k e = (
  h.0 ++ k.0,
  subst (Appends old new) (sym (text_append h.0 k.0)) (Appends-trans old mid new _ _ h.1 k.1),
  e ∙ ap (λ x. x || b) h.2 ∙ ap (λ x. found h.0 || x) k.2 ∙ sym (found_append h.0 k.0),
)

-- ---- what is due

pub due_ascends : (further : Further) (root : StorageRoot) (last : Option Place) → IsAscending place_cmp (due further root last)
unfolding due
due_ascends further root None = items_ascend further root
due_ascends further root (Some p) = ascends_filter place_cmp (λ q. is_lt (place_cmp p q)) (item_places further root) (items_ascend further root)

pub front_ascends : (further : Further) (root : StorageRoot) (from : Option Place) (ps qs rest : List Place) → due further root from ≡ ps ++ (qs ++ rest) → IsAscending place_cmp (ps ++ qs)
front_ascends further root from ps qs rest e =
    ascends_left place_cmp (ps ++ qs) rest (subst (IsAscending place_cmp) (e ∙ sym (append_assoc ps qs rest)) (due_ascends further root from))

pub last_append : (from : Option Place) (ps : List Place) (p : Place) → last_or from (ps ++ p ∷ []) ≡ Some p
last_append from [] p = refl
last_append from (q ∷ ps) p = last_append (Some q) ps p

pub no_items : (further : Further) (root : StorageRoot) (os : List Opening) → items_at further root os [] ≡ []
unfolding items_at
no_items further root os = refl

pub take_nothing : {A : Type 0} (xs : List A) → take 0 xs ≡ []
take_nothing [] = refl
take_nothing (x ∷ xs) = refl

-- ---- a walk to a place, and then what was done there

module _ (further : Further) (root : StorageRoot) (p : Place) (w : List Opening) (meta : content_trail further root w ≡ hashed_among further root []) where
  -- a walk has no part in the items
  pub walked_items : (os : List Opening) → items_at further root (w ++ os) (p ∷ []) ≡ items_at further root os (p ∷ [])
  walked_items os = items_behind further root w os [] (p ∷ []) (tt, tt) meta

module _ (further : Further) (root : StorageRoot) (t u v : Store) (last to : Option Place) (w : Walks further root t u last to) where
  walk_then : (qs : List Place) (os : List Opening) → Audits further root u v qs [] [] os → Audits further root t v qs (looked_between root last to) (read_between root last to) (w.trail ++ os)
  walk_then qs os k =
      audits_as further (append-nil (looked_between root last to)) (append-nil (read_between root last to)) (audits_on further root t u v [] qs _ [] _ [] w.trail os w.audits k)

  walk_then_fails : (qs : List Place) (os : List Opening) (failed : Option Place) → Fails further root u v qs [] [] os failed
      → Fails further root t v qs (looked_between root last to) (read_between root last to) (w.trail ++ os) failed
  walk_then_fails qs os failed k =
      subst (λ hs. Fails further root t v qs (looked_between root last to) hs (w.trail ++ os) failed) (append-nil (read_between root last to))
      (subst (λ ls. Fails further root t v qs ls (read_between root last to ++ []) (w.trail ++ os) failed) (append-nil (looked_between root last to))
      (audits_fail further root t u v [] qs (looked_between root last to) [] (read_between root last to) [] w.trail os _ w.audits k))

-- ---- the last place that was taken

-- after one place there is a last one
pub last_among : (p : Place) (ps : List Place) → (m : Place) × ((last_or (Some p) ps ≡ Some m) × IsAmong (p ∷ ps) m)
last_among p [] = (p, (refl, inl refl))
last_among p (q ∷ ps) = let h = last_among q ps in (h.0, (h.1.0, inr h.1.1))

-- the last of some places is not less than any of them
last_upper : (from : Option Place) (ps : List Place) → IsAscending place_cmp ps → (p : Place) → IsAmong ps p → (m : Place) × ((last_or from ps ≡ Some m) × (is_lt (place_cmp m p) ≡ false))
last_upper from [] up p i = absurd i
last_upper from (q ∷ []) up p (inl e) = (q, (refl, subst (λ x. is_lt (place_cmp q x) ≡ false) (sym e) (not_less_itself place_cmp_total q)))
last_upper from (q ∷ []) up p (inr i) = absurd i
last_upper from (q ∷ r ∷ ps) up p (inl e) =
    let k = last_upper (Some q) (r ∷ ps) up.1 r (inl refl) in
    (k.0, (k.1.0, not_less_or k.0 r p k.1.1 (not_below p r (subst (λ x. place_cmp x r ≡ Less) (sym e) up.0.0))))
last_upper from (q ∷ r ∷ ps) up p (inr i) = last_upper (Some q) (r ∷ ps) up.1 p i

pub among_more : (xs ys whole rest : List Place) (z : Place) → whole ≡ ys ++ rest → IsAmong (xs ++ ys) z → IsAmong (xs ++ whole) z
among_more xs ys whole rest z e i = by (among_either xs ys z i)
  where
    by : IsAmong xs z ⊎ IsAmong ys z → IsAmong (xs ++ whole) z
    by (inl j) = among_left xs whole z j
    by (inr j) = among_right xs whole z (subst (λ zs. IsAmong zs z) (sym e) (among_left ys rest z j))

module _ (root : StorageRoot) (from : Option Place) where
  -- what is listed up to a place is listed further on
  pub looked_further : (to : Option Place) (p d : Place) → (is_lt (place_cmp p d) ≡ false → IsWithin to d) → IsAmong (looked_between root from (Some p)) d → IsAmong (looked_between root from to) d
  unfolding looked_between
  looked_further to p d far i = let k = from_between _ from (Some p) d i in among_between _ from to d k.0 k.1 (far k.2)

  module _ (e : End) where
    -- what was listed up to a place was listed up to one that is not less
    pub listed_further : (p m d : Place) → is_lt (place_cmp m p) ≡ false → IsAmong (before_end e (looked_between root from (Some p))) d → IsAmong (looked_between root from (Some m)) d
    listed_further p m d n i =
        looked_further (Some m) p d (λ k. not_less_or m p d n k) (among_from_filter (λ z. not (is_past e z)) (looked_between root from (Some p)) d i).0

    pub listed_to_last : (done : List Place) → IsAscending place_cmp done → (p : Place) → IsAmong done p → (d : Place) → IsAmong (before_end e (looked_between root from (Some p))) d
        → (last : Option Place) → last ≡ last_or from done → IsAmong (up_to_last (looked_between root) from last) d
    listed_to_last done up p i d j last is =
        let k = last_upper from done up p i in subst (λ o. IsAmong (up_to_last (looked_between root) from o) d) (sym (is ∙ k.1.0)) (listed_further p k.0 d k.1.1 j)

-- ---- a pass begins

unfoldable pub passes_none : (further : Further) (root : StorageRoot) (e : End) (s : Store) (old : Option (List ℕ)) (from : Option Place) → s.tree ≡ root → Passes further root e s s old old from from false
passes_none further root e s old from over = record {
  done = [];
  trail = [];
  audits = audits_as further (sym (looked_self root from)) (sym (read_self root from)) (audits_nothing further root s over);
  due_are = refl;
  inside = refl;
  last_is = refl;
  wrote = subst (λ is. Appends old old (text is)) (sym (no_items further root [])) (Appends-nil old);
  found_is = sym (ap found (no_items further root []));
}

pub passes_over : {further : Further} {root : StorageRoot} {e : End} {s t : Store} {old new : Option (List ℕ)} {from last : Option Place} {finding : Bool} → Passes further root e s t old new from last finding → t.tree ≡ root
passes_over h = h.audits.did.tree ∙ h.audits.over

-- ---- a pass goes on

-- what is due is above the last place
pub among_beyond : (further : Further) (root : StorageRoot) (last : Option Place) (p : Place) → IsAmong (due further root last) p → IsBeyond last p
unfolding due
among_beyond further root None p i = tt
among_beyond further root (Some q) p i = less_from (place_cmp q p) (among_from_filter (λ z. is_lt (place_cmp q z)) (item_places further root) p i).1

pub due_beyond : (further : Further) (root : StorageRoot) (last : Option Place) (p : Place) (rest : List Place) → due further root last ≡ p ∷ rest → IsBeyond last p
due_beyond further root last p rest e = among_beyond further root last p (subst (λ zs. IsAmong zs p) (sym e) (inl refl))

-- what is due is not before a directory that was listed on the way to it
pub ahead_of : (further : Further) (root : StorageRoot) (last : Option Place) (d : Place) → IsWithin (next_due further root last) d → (y : Place) → IsAmong (due further root last) y → is_lt (place_cmp y d) ≡ false
ahead_of further root last d near y i = by (due further root last) refl near i
  where
    by : (ps : List Place) → due further root last ≡ ps → IsWithin (slice_get ps 0) d → IsAmong ps y → is_lt (place_cmp y d) ≡ false
    by [] e n j = absurd j
    by (p ∷ ps) e n (inl same) = subst (λ x. is_lt (place_cmp x d) ≡ false) (sym same) n
    by (p ∷ ps) e n (inr j) =
        let up : IsAscending place_cmp (p ∷ ps) = subst (IsAscending place_cmp) e (due_ascends further root last) in
        not_less_or y p d (not_below p y (before_each place_cmp p ps up.0 y j)) n

pub lost_ahead : (further : Further) (root : StorageRoot) (t u : Store) (last : Option Place) (e : End) (why : Fault) (w : FailsOut further root t u last e why) (d y : Place)
    → IsAmong w.listed d → IsAmong (due further root last) y → is_lt (place_cmp y d) ≡ false
unfolding looked_between
lost_ahead further root t u last e why w d y i j =
    let front = subst (λ ps. IsAmong ps d) (sym w.listed_front.1) (among_left w.listed w.listed_front.0 d i) in
    let there = (among_from_filter (λ z. not (is_past e z)) (looked_between root last (next_due further root last)) d front).0 in
    ahead_of further root last d (from_between _ last (next_due further root last) d there).2 y j

-- and what is above the last place is not before one that was listed up to there
pub up_ahead : (further : Further) (root : StorageRoot) (from last : Option Place) (d y : Place) → IsAmong (up_to_last (looked_between root) from last) d → IsAmong (due further root last) y → is_lt (place_cmp y d) ≡ false
unfolding looked_between
up_ahead further root from None d y i j = absurd i
up_ahead further root from (Some m) d y i j = not_less_or y m d (not_below m y (among_beyond further root (Some m) y j)) (from_between _ from (Some m) d i).2

module _ (further : Further) (root : StorageRoot) (e : End) (s t u : Store) (old mid : Option (List ℕ)) (from last : Option Place) (finding : Bool)
    (low : HasGoneOn e from last) (h : Passes further root e s t old mid from last finding) where
  -- what was taken, and what is left before the end
  pub halves : due_in further root e from ≡ h.done ++ due_in further root e last
  halves = ap (before_end e) h.due_are ∙ filter_append (λ z. not (is_past e z)) h.done (due further root last) ∙ ap (λ ps. ps ++ due_in further root e last) h.inside

  module _ (p : Place) (up : IsBeyond last p) (least : due further root last ≡ p ∷ due further root (Some p)) (in_front : is_past e p ≡ false)
      (w : Walks further root t u last (Some p)) (v : Store) (new : Option (List ℕ)) where
    pub due_with : due further root from ≡ h.done ++ ((p ∷ []) ++ due further root (Some p))
    due_with = h.due_are ∙ ap (λ ps. h.done ++ ps) least

    pub with_ascends : IsAscending place_cmp (h.done ++ p ∷ [])
    with_ascends = front_ascends further root from h.done (p ∷ []) (due further root (Some p)) due_with

    -- these are up to the place itself
    pub up_to_next : (q : Place) → IsAmong (h.done ++ p ∷ []) q → is_lt (place_cmp p q) ≡ false
    up_to_next q i =
        let k = last_upper from (h.done ++ p ∷ []) with_ascends q i in
        let same : k.0 ≡ p = (let two : Some k.0 ≡ Some p = sym k.1.0 ∙ last_append from h.done p in cc) in
        subst (λ x. is_lt (place_cmp x q) ≡ false) same k.1.1

    module _ (cost : ℕ) (more : Bool) (k : Takes (call_of further root u v mid new) p cost more) where
      pub taken_there : Audits further root t v (p ∷ []) (looked_between root last (Some p)) (read_between root last (Some p)) (w.trail ++ k.trail)
      taken_there = walk_then further root t u v last (Some p) w (p ∷ []) k.trail k.audits

      pub took_items : items_at further root (h.trail ++ (w.trail ++ k.trail)) (h.done ++ p ∷ []) ≡ items_at further root h.trail h.done ++ items_at further root k.trail (p ∷ [])
      took_items =
          items_then further root h.trail (w.trail ++ k.trail) h.done (p ∷ []) with_ascends h.audits.opened taken_there.opened
          ∙ ap (λ is. items_at further root h.trail h.done ++ is) (walked_items further root p w.trail w.audits.opened k.trail)

    unfoldable pub passes_took : (cost : ℕ) (more either : Bool) → Takes (call_of further root u v mid new) p cost more → either ≡ (finding || more) → Passes further root e s v old new from (Some p) either
    passes_took cost more either k f =
        let both = taken_there cost more k in
        let same = took_items cost more k in
        record {
          done = h.done ++ p ∷ [];
          trail = h.trail ++ (w.trail ++ k.trail);
          audits = audits_as further (looked_next root e from last low p up) (read_next root e from last low p up) (audits_on further root s t v h.done (p ∷ []) _ _ _ _ h.trail (w.trail ++ k.trail) h.audits both);
          due_are = due_with ∙ sym (append_assoc h.done (p ∷ []) (due further root (Some p)));
          inside = filter_append (λ z. not (is_past e z)) h.done (p ∷ []) ∙ ap (λ ps. ps ++ before_end e (p ∷ [])) h.inside ∙ ap (λ b. h.done ++ cond (not b) (p ∷ []) []) in_front;
          last_is = sym (last_append from h.done p);
          wrote = subst (Appends old new) (sym (text_append (items_at further root h.trail h.done) (items_at further root k.trail (p ∷ []))) ∙ ap text (sym same)) (Appends-trans old mid new _ _ h.wrote k.wrote);
          found_is = f ∙ ap (λ b. b || more) h.found_is ∙ ap (λ b. found (items_at further root h.trail h.done) || b) k.found_is
              ∙ sym (found_append (items_at further root h.trail h.done) (items_at further root k.trail (p ∷ []))) ∙ ap found (sym same);
        }

    -- the item was not taken
    module _ (why : ReportStop) (k : Misses (call_of further root u v mid new) p why) where
      pub missed_there : Fails further root t v k.begun (looked_between root last (Some p)) (read_between root last (Some p)) (w.trail ++ k.trail) (stop_place why)
      missed_there = walk_then_fails further root t u v last (Some p) w k.begun k.trail _ k.fails

      due_begun : due further root from ≡ h.done ++ (k.begun ++ (k.one.0 ++ due further root (Some p)))
      due_begun = due_with ∙ ap (λ ps. h.done ++ ps) (ap (λ ps. ps ++ due further root (Some p)) k.one.1 ∙ append_assoc k.begun k.one.0 (due further root (Some p)))

      pub missed_items : items_at further root (h.trail ++ (w.trail ++ k.trail)) h.done ≡ items_at further root h.trail h.done
      missed_items = items_before further root h.trail (w.trail ++ k.trail) h.done k.begun (front_ascends further root from h.done k.begun (k.one.0 ++ due further root (Some p)) due_begun) missed_there.opened

    pub due_next : due_in further root e last ≡ p ∷ due_in further root e (Some p)
    due_next = ap (before_end e) least ∙ ap (λ b. cond (not b) (p ∷ due_in further root e (Some p)) (due_in further root e (Some p))) in_front

    pub next_at : (d : Place) → IsAmong (looked_between root from (Some p)) d → is_lt (place_cmp p d) ≡ false
    unfolding looked_between
    next_at d i = (from_between _ from (Some p) d i).2

    pub next_is : take 1 (due_in further root e last) ≡ p ∷ []
    next_is = ap (take 1) due_next ∙ ap (λ ps. p ∷ ps) (take_nothing (due_in further root e (Some p)))

    unfoldable pub passes_missed : (why : ReportStop) → Misses (call_of further root u v mid new) p why → Halts further root e s v old new from last finding why
    passes_missed why k =
        let trail : List Opening = h.trail ++ (w.trail ++ k.trail) in
        let both = missed_there why k in
        let before = missed_items why k in
        let next : items_at further root k.trail (p ∷ []) ≡ items_at further root trail (take 1 (due_in further root e last)) =
        sym (ap (items_at further root trail) next_is ∙ items_behind further root h.trail (w.trail ++ k.trail) h.done (p ∷ []) with_ascends h.audits.opened ∙ walked_items further root p w.trail w.audits.opened k.trail) in
        record {
          done = h.done;
          begun = k.begun;
          trail = trail;
          listed = up_to_last (looked_between root) from last ++ looked_between root last (Some p);
          heads = up_to_last (read_between root) from last ++ read_between root last (Some p);
          fails = audits_fail further root s t v h.done k.begun _ _ _ _ h.trail (w.trail ++ k.trail) _ h.audits both;
          listed_front = front_behind _ _ _ _ (looked_end root e from last low) (looked_front root e last p up in_front);
          heads_front = front_behind _ _ _ _ (read_end root e from last low) (read_front root e last p up in_front);
          ahead = λ d y i j.
              ahead_of further root last d (subst (λ ps. IsWithin (slice_get ps 0) d) (sym least) (next_at d (subst (λ ds. IsAmong ds d) (looked_next root e from last low p up) i)))
              y (among_from_filter (λ z. not (is_past e z)) (due further root last) y j).0;
          up_to = λ q y stop i. absurd (missed_no_store (call_of further root u v mid new) p why k q stop);
          there = λ q i d j. subst (λ ds. IsAmong ds d) (sym (looked_next root e from last low p up)) (listed_further root from e q p d (up_to_next q (among_more h.done k.begun (p ∷ []) k.one.0 q k.one.1 i)) j);
          due_are = halves;
          one = (k.one.0, next_is ∙ k.one.1);
          last_is = h.last_is;
          part = k.part;
          wrote = subst (λ is. Appends old new (text is ++ k.part)) (sym before) (Appends-trans old mid new _ _ h.wrote k.wrote);
          part_of = subst (λ is. PartOf why (text is) k.part) next k.part_of;
          found_is = h.found_is ∙ ap found (sym before);
        }

  pub done_ascends : IsAscending place_cmp h.done
  done_ascends = ascends_left place_cmp h.done (due further root last) (subst (IsAscending place_cmp) h.due_are (due_ascends further root from))

  -- nothing was done but walking
  pub walked_on : (os : List Opening) → content_trail further root os ≡ hashed_among further root [] → items_at further root (h.trail ++ os) h.done ≡ items_at further root h.trail h.done
  walked_on os opened =
      let due_done : due further root from ≡ h.done ++ ([] ++ due further root last) = h.due_are in
      items_before further root h.trail os h.done [] (front_ascends further root from h.done [] (due further root last) due_done) opened

  -- the walk did not get there
  unfoldable pub passes_lost : (why : Fault) → FailsOut further root t u last e why → Halts further root e s u old mid from last finding (halt.Fault why)
  passes_lost why w =
      let trail : List Opening = h.trail ++ w.trail in
      let before : items_at further root trail h.done ≡ items_at further root h.trail h.done = walked_on w.trail w.fails.opened in
      record {
        done = h.done;
        begun = [];
        trail = trail;
        listed = up_to_last (looked_between root) from last ++ w.listed;
        heads = up_to_last (read_between root) from last ++ w.heads;
        fails = audits_fail further root s t u h.done [] _ _ _ _ h.trail w.trail _ h.audits w.fails;
        listed_front = front_behind _ _ _ _ (looked_end root e from last low) (lost_listed further root t u last e why w);
        heads_front = front_behind _ _ _ _ (read_end root e from last low) (lost_heads further root t u last e why w);
        ahead = λ d y i j.
            let due_there = (among_from_filter (λ z. not (is_past e z)) (due further root last) y j).0 in
            lost_or d y due_there (among_either (up_to_last (looked_between root) from last) w.listed d i);
        up_to = λ q y stop i d n is. ahead_of further root last d (w.up_to q (failed_is why q stop) d n is) y (among_from_filter (λ z. not (is_past e z)) (due further root last) y i).0;
        there = λ q i d j. among_left (up_to_last (looked_between root) from last) w.listed d
            (listed_to_last root from e h.done done_ascends q (subst (λ qs. IsAmong qs q) (append-nil h.done) i) d j last h.last_is);
        due_are = halves;
        one = (take 1 (due_in further root e last), refl);
        last_is = h.last_is;
        part = [];
        wrote = subst (λ xs. Appends old mid xs) (sym (append-nil (text (items_at further root trail h.done))))
            (subst (λ is. Appends old mid (text is)) (sym before) h.wrote);
        part_of = fault_of_nothing why (text (items_at further root trail (take 1 (due_in further root e last))));
        found_is = h.found_is ∙ ap found (sym before);
      }
    where
      lost_or : (d y : Place) → IsAmong (due further root last) y → IsAmong (up_to_last (looked_between root) from last) d ⊎ IsAmong w.listed d → is_lt (place_cmp y d) ≡ false
      lost_or d y i (inl j) = up_ahead further root from last d y j i
      lost_or d y i (inr j) = lost_ahead further root t u last e why w d y j i

  -- nothing is left before the end
  pub all_done : due_in further root e last ≡ [] → h.done ≡ due_in further root e from
  all_done none = sym (halves ∙ ap (λ ps. h.done ++ ps) none ∙ append-nil h.done)

  pub finished_items : (w : WalksOut further root t u last e) → due_in further root e last ≡ [] → items_at further root h.trail h.done ≡ items_at further root (h.trail ++ w.trail) (due_in further root e from)
  finished_items w none = sym (walked_on w.trail w.audits.opened) ∙ ap (items_at further root (h.trail ++ w.trail)) (all_done none)

  unfoldable pub passes_finish : WalksOut further root t u last e → due_in further root e last ≡ [] → Finishes further root e s u old mid from last finding
  passes_finish w none =
      let trail : List Opening = h.trail ++ w.trail in
      let done_is = all_done none in
      let before = finished_items w none in
      let joined = audits_on further root s t u h.done [] _ _ _ _ h.trail w.trail h.audits w.audits in
      record {
        trail = trail;
        audits = subst (λ ps. Audits further root s u ps (before_end e (looked_between root from None)) (before_end e (read_between root from None)) trail) (append-nil h.done ∙ done_is)
            (audits_as further (looked_end root e from last low) (read_end root e from last low) joined);
        last_is = h.last_is ∙ ap (last_or from) done_is;
        wrote = subst (λ is. Appends old mid (text is)) before h.wrote;
        found_is = h.found_is ∙ ap found before;
      }
