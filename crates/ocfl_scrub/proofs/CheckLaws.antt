-- A check, put together from the way down, and from what was judged and written.
use Rattle.std.proofs.Common.{◌≡◌, ◌≢◌, ◌⊎◌, inl, inr, ℕ, List, [], ◌∷◌, ◌++◌, refl, sym, ◌∙◌, ap, subst, true, false, Bool, Option, Some, None, append-nil, not}
use Rattle.std.proofs.{KnownBytes.{Appends-nil}, lemmas.List.Quantifiers.{all_pairs_push}}
use Rattle.std.specs.{Prelude.{cond}, Io.KnownBytes.{Appends}}
use Rattle.ocfl_tree.specs.{Place.{Place}, StorageRoot.{StorageRoot}, Store.{Store}}
use Rattle.ocfl_tree.specs.declared.store.Opening.{Opening}
use Rattle.ocfl_tree.proofs.Orders.{true_not_false}
use Rattle.ocfl_report.specs.{Line.{found}, Text.{text}}
use Rattle.ocfl_inventory.specs.Note.{lines_at}
use Rattle.ocfl_rules.specs.Head.{on}
use Rattle.ocfl_rules.specs.Lines.{is_empty}
use Rattle.ocfl_rules.specs.Inventories.{notes, is_hashed}
use Rattle.ocfl_rules.specs.Audit.{Unread, given_by, item_of, has_lines}
use Rattle.ocfl_rules.specs.Trail.{is_meta, places_of, content_trail, unread_of}
use Rattle.ocfl_rules.specs.Due.{hashed_among, items_at}
use Rattle.ocfl_rules.proofs.AuditExists.{lines_from_notes}
use Rattle.ocfl_rules.proofs.FurtherLaws.{lines_alike}
use Rattle.ocfl_rules.proofs.InventoryLaws.{hashed_lines, hashed_no_meta}
use Rattle.ocfl_rules.proofs.Trails.{unread_behind, all_meta, meta_at}
use Rattle.ocfl_item.specs.{Auditing.{Fails}, Pending.{IsPending}}
use Rattle.ocfl_item.specs.{Meeting.{IsItemAt}}
use Rattle.ocfl_scrub.specs.Types.{ReportStop}
use Rattle.ocfl_item.specs.declared.pending.Pending.{Pending}
use Rattle.ocfl_item.specs.declared.fault.Fault.{Fault}
use Rattle.ocfl_walk.specs.WalkCalls.{GoesDown, GoDownFails}
use Rattle.ocfl_scrub.specs.{Call.{call_of}, Taking.{PartOf, Takes, Misses, stop_place}}
use Rattle.ocfl_scrub.specs.Checking.{checked_item, AreOnce, IsJustFor, Checks, CheckStops, CheckEnds}
use Rattle.ocfl_scrub.specs.declared.checking.AuditStatus.{AuditStatus}
use Rattle.ocfl_scrub.specs.declared.checking.AuditStatus.TheVariants.{Stopped}
use Rattle.ocfl_scrub.specs.declared.stop.ReportStop.TheVariants as halt
use Rattle.ocfl_walk.proofs.{FoundLaws.{none_hashed}, WalkCallLaws.{audits_as}}
use Rattle.ocfl_item.proofs.AuditingLaws.{audits_fail, audits_on}
use Rattle.ocfl_report.specs.declared.further.Further.{Further}
use Rattle.ocfl_scrub.proofs.{TakeLaws.{fault_of_nothing}, WayListed.{checked_lie, front_lies}}

-- ---- the item of a place

has_item : (further : Further) (root : StorageRoot) (u : Unread) (p : Place) → notes further root None p ≢ [] → has_lines (item_of further root u p) ≡ true
has_item further root u p some = (lines_from_notes p _).1 (λ e. some (lines_alike further root (given_by u p) None p e))

no_item : (further : Further) (root : StorageRoot) (u : Unread) (p : Place) → notes further root None p ≡ [] → has_lines (item_of further root u p) ≡ false
no_item further root u p none = ap (λ ns. not (is_empty (lines_at p ns))) (lines_alike further root None (given_by u p) p none)

one_item : (further : Further) (root : StorageRoot) (trail : List Opening) (p : Place) → items_at further root trail (p ∷ []) ≡ item_of further root (unread_of further root trail) p ∷ []
unfolding items_at
one_item further root trail p = refl

-- if the place has lines, its item is the one
some_item : (further : Further) (root : StorageRoot) (trail : List Opening) (p : Place) → notes further root None p ≢ [] → checked_item further root trail p ≡ items_at further root trail (p ∷ [])
some_item further root trail p some = ap (λ b. on b (item_of further root (unread_of further root trail) p)) (has_item further root (unread_of further root trail) p some) ∙ sym (one_item further root trail p)

none_item : (further : Further) (root : StorageRoot) (trail : List Opening) (p : Place) → notes further root None p ≡ [] → checked_item further root trail p ≡ []
none_item further root trail p none = ap (λ b. on b (item_of further root (unread_of further root trail) p)) (no_item further root (unread_of further root trail) p none)

items_alike : (further : Further) (root : StorageRoot) (p : Place) (a b : List Opening) → unread_of further root a ≡ unread_of further root b → items_at further root a (p ∷ []) ≡ items_at further root b (p ∷ [])
unfolding items_at
items_alike further root p a b e = ap (λ v. item_of further root v p ∷ []) e

-- what was read on the way down has no part in it
joined_item : (further : Further) (root : StorageRoot) (front trail : List Opening) (p : Place) → content_trail further root front ≡ [] → notes further root None p ≢ []
    → checked_item further root (front ++ trail) p ≡ items_at further root trail (p ∷ [])
joined_item further root front trail p meta some = some_item further root (front ++ trail) p some ∙ items_alike further root p (front ++ trail) trail (unread_behind further root front trail meta)

-- nothing is hashed if there are no lines
lines_free : (further : Further) (root : StorageRoot) (p : Place) → notes further root None p ≡ [] → hashed_among further root (p ∷ []) ≡ []
unfolding hashed_among
lines_free further root p none = by (is_hashed further root p) refl
  where
    by : (b : Bool) → is_hashed further root p ≡ b → cond b (p ∷ []) [] ≡ []
    by true e = absurd (hashed_lines further root None p e none)
    by false e = refl

-- ---- each file once

-- what was opened is nothing, or the file of a hashed place
abbrev IsOne : Further → StorageRoot → Place → List Opening → Type 0
IsOne further root p trail = (trail ≡ []) ⊎ ((x : Opening) × ((trail ≡ x ∷ []) × ((x.place ≡ p) × (is_hashed further root p ≡ true))))

filled : {A : Type 0} (x : A) (xs : List A) → x ∷ xs ≢ []
filled x xs e = cc

hashed_places : (further : Further) (root : StorageRoot) (p : Place) (b : Bool) → is_hashed further root p ≡ b → hashed_among further root (p ∷ []) ≡ cond b (p ∷ []) []
unfolding hashed_among
hashed_places further root p b h = ap (λ x. cond x (p ∷ []) []) h

alone : (further : Further) (root : StorageRoot) (p : Place) (x : Opening) (trail : List Opening) → places_of (x ∷ trail) ≡ p ∷ [] → is_hashed further root p ≡ true → IsOne further root p (x ∷ trail)
alone further root p x [] h e = inr (x, (refl, (cc, e)))
alone further root p x (y ∷ trail) h e = absurd cc

one_or_none : (further : Further) (root : StorageRoot) (p : Place) (trail : List Opening) → places_of trail ≡ hashed_among further root (p ∷ []) → IsOne further root p trail
one_or_none further root p [] h = inl refl
one_or_none further root p (x ∷ trail) h = by (is_hashed further root p) refl
  where
    by : (b : Bool) → is_hashed further root p ≡ b → IsOne further root p (x ∷ trail)
    by false e = absurd (filled x.place (places_of trail) (h ∙ hashed_places further root p false e))
    by true e = alone further root p x trail (h ∙ hashed_places further root p true e) e

none_opened : (trail : List Opening) → places_of trail ≡ [] → trail ≡ []
none_opened [] h = refl
none_opened (x ∷ trail) h = absurd cc

-- of a front of one place
one_of_front : (further : Further) (root : StorageRoot) (p : Place) (begun rest : List Place) (trail : List Opening) → p ∷ [] ≡ begun ++ rest → places_of trail ≡ hashed_among further root begun → IsOne further root p trail
one_of_front further root p [] rest trail e h = inl (none_opened trail (h ∙ none_hashed further root))
one_of_front further root p (q ∷ []) rest trail e h = one_or_none further root p trail (h ∙ ap (λ x. hashed_among further root (x ∷ [])) (let f : q ≡ p = cc in f))
one_of_front further root p (q ∷ r ∷ begun) rest trail e h = absurd cc

-- a content file after metadata is another file
then_one : (further : Further) (root : StorageRoot) (p : Place) (front trail : List Opening) → content_trail further root front ≡ [] → AreOnce front → IsOne further root p trail → AreOnce (front ++ trail)
then_one further root p front trail meta once (inl e) = subst AreOnce (sym (append-nil front) ∙ ap (λ os. front ++ os) (sym e)) once
then_one further root p front trail meta once (inr k) =
    subst (λ os. AreOnce (front ++ os)) (sym k.1.0)
    (all_pairs_push (λ a b. a.place ≢ b.place) front k.0 once
    (λ i d l e. true_not_false (sym (meta_at further root front i d l (all_meta further root front meta)) ∙ ap (is_meta further root) (e ∙ k.1.1.0) ∙ hashed_no_meta further root p k.1.1.1)))

-- ---- the way down, and then the item

module _ (further : Further) (root : StorageRoot) (p : Place) where
  -- the place of the lines that were found
  pub place_there : (o : Option Pending) (q : Pending) → o ≡ Some q → IsItemAt further root p o → (notes further root None p ≢ []) × IsPending further root q × (q.place ≡ p)
  place_there o q e h =
      let there = subst (IsItemAt further root p) e h in
      (subst (λ x. notes further root None x ≢ []) there.1 there.0.some, there.0, there.1)

  pub place_bare : (o : Option Pending) → o ≡ None → IsItemAt further root p o → notes further root None p ≡ []
  place_bare o e h = subst (IsItemAt further root p) e h

  module _ (s t : Store) where
    pub nothing_there : (old : Option (List ℕ)) → GoesDown further root s t (Some p) → notes further root None p ≡ [] → Checks (call_of further root s t old old) p false false
    nothing_there old g none =
        let e : checked_item further root g.trail p ≡ [] = none_item further root g.trail p none in
        record {
          trail = g.trail;
          listed = g.listed;
          heads = g.heads;
          audits = record {
            over = g.audits.over;
            did = g.audits.did;
            read = g.audits.read;
            opened = g.audits.opened ∙ none_hashed further root
                ∙ sym (lines_free further root p none);
            heads_are = g.audits.heads_are;
            near = g.audits.near;
          };
          files_lie = checked_lie further root s t p g;
          just = record { listed_front = g.listed_front; heads_front = g.heads_front; once = g.once };
          wrote = subst (λ is. Appends old old (text is)) (sym e) (Appends-nil old);
          item_is = sym (ap (λ is. not (is_empty is)) e);
          found_is = sym (ap found e);
        }

    pub not_gone_down : (old : Option (List ℕ)) (why : Fault) → GoDownFails further root s t (Some p) why → CheckStops (call_of further root s t old old) p (halt.Fault why)
    not_gone_down old why g = record {
      trail = g.trail;
      begun = [];
      one = (p ∷ [], refl);
      listed = g.listed;
      heads = g.heads;
      fails = g.fails;
      files_lie = λ q i h. absurd i;
      just = record { listed_front = g.listed_front; heads_front = g.heads_front; once = g.once };
      part = [];
      wrote = Appends-nil old;
      part_of = fault_of_nothing why (text (checked_item further root g.trail p));
    }

  module _ (s t u : Store) (old new : Option (List ℕ)) (g : GoesDown further root s t (Some p)) (some : notes further root None p ≢ []) where
    meta : content_trail further root g.trail ≡ []
    meta = g.audits.opened ∙ none_hashed further root

    just_then : (trail : List Opening) → IsOne further root p trail → IsJustFor root p g.listed g.heads (g.trail ++ trail)
    just_then trail one = record { listed_front = g.listed_front; heads_front = g.heads_front; once = then_one further root p g.trail trail meta g.once one }

    pub down_and_taken : (cost : ℕ) (finding : Bool) → Takes (call_of further root t u old new) p cost finding → Checks (call_of further root s u old new) p true finding
    down_and_taken cost finding k =
        let items : checked_item further root (g.trail ++ k.trail) p ≡ items_at further root k.trail (p ∷ []) = joined_item further root g.trail k.trail p meta some in
        record {
          trail = g.trail ++ k.trail;
          listed = g.listed;
          heads = g.heads;
          audits = audits_as further (append-nil g.listed) (append-nil g.heads) (audits_on further root s t u [] (p ∷ []) g.listed [] g.heads [] g.trail k.trail g.audits k.audits);
          files_lie = checked_lie further root s t p g;
          just = just_then k.trail (one_or_none further root p k.trail k.alone);
          wrote = subst (λ is. Appends old new (text is)) (sym items) k.wrote;
          item_is = sym (ap (λ is. not (is_empty is)) (items ∙ one_item further root k.trail p));
          found_is = k.found_is ∙ sym (ap found items);
        }

    pub down_and_missed : (why : ReportStop) → Misses (call_of further root t u old new) p why → CheckStops (call_of further root s u old new) p why
    down_and_missed why k =
        let items : checked_item further root (g.trail ++ k.trail) p ≡ items_at further root k.trail (p ∷ []) = joined_item further root g.trail k.trail p meta some in
        record {
          trail = g.trail ++ k.trail;
          begun = k.begun;
          one = k.one;
          listed = g.listed;
          heads = g.heads;
          fails = subst (λ hs. Fails further root s u k.begun g.listed hs (g.trail ++ k.trail) (stop_place why)) (append-nil g.heads)
              (subst (λ ls. Fails further root s u k.begun ls (g.heads ++ []) (g.trail ++ k.trail) (stop_place why)) (append-nil g.listed)
              (audits_fail further root s t u [] k.begun g.listed [] g.heads [] g.trail k.trail _ g.audits k.fails));
          files_lie = front_lies further root s t p g k.begun k.one.0 k.one.1;
          just = just_then k.trail (one_of_front further root p k.begun k.one.0 k.trail k.one.1 k.alone);
          part = k.part;
          wrote = k.wrote;
          part_of = subst (λ is. PartOf why (text is) k.part) (sym items) k.part_of;
        }

-- ---- at the ends that a call gives

pub check_stopped : (further : Further) (root : StorageRoot) (s t : Store) (old new : Option (List ℕ)) (p : Place) (item finding : Bool) (why : ReportStop) (end : AuditStatus)
    → end ≡ Stopped why → CheckStops (call_of further root s t old new) p why → CheckEnds (call_of further root s t old new) p item finding end
check_stopped further root s t old new p item finding why end e w = subst (λ x. CheckEnds (call_of further root s t old new) p item finding x) (sym e) w

pub check_took : (further : Further) (root : StorageRoot) (s t u : Store) (old new : Option (List ℕ)) (p q : Place) (cost : ℕ) (finding : Bool) → q ≡ p → GoesDown further root s t (Some p)
    → notes further root None p ≢ [] → Takes (call_of further root t u old new) q cost finding
    → Checks (call_of further root s u old new) p true finding
check_took further root s t u old new p q cost finding e g some k = down_and_taken further root p s t u old new g some cost finding (subst (λ x. Takes (call_of further root t u old new) x cost finding) e k)

pub check_missed : (further : Further) (root : StorageRoot) (s t u : Store) (old new : Option (List ℕ)) (p q : Place) (item finding : Bool) (why : ReportStop) (end : AuditStatus)
    → end ≡ Stopped why → q ≡ p → GoesDown further root s t (Some p) → notes further root None p ≢ []
    → Misses (call_of further root t u old new) q why → CheckEnds (call_of further root s u old new) p item finding end
check_missed further root s t u old new p q item finding why end f e g some k =
    check_stopped further root s u old new p item finding why end f (down_and_missed further root p s t u old new g some why (subst (λ x. Misses (call_of further root t u old new) x why) e k))
