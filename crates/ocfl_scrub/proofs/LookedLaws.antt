-- What is listed and read from an item that was met on.
use Rattle.std.proofs.Common.{◌≡◌, inl, ℕ, List, [], ◌∷◌, ◌++◌, refl, sym, ◌∙◌, ap, subst, true, false, Bool, Some, None, Option, append-nil}
use Rattle.std.specs.Prelude.{cond, not}
use Rattle.ocfl_tree.specs.{Place.{Place}, Ascending.{IsAmong}, StorageRoot.{StorageRoot}}
use Rattle.ocfl_tree.specs.{Store.{Store, Did}, declared.store.Opening.{Opening}}
use Rattle.ocfl_tree.proofs.Orders.{among_filter, among_from_filter}
use Rattle.ocfl_rules.specs.{Between.{IsBeyond, looked_between, read_between}, Due.{due}}
use Rattle.ocfl_rules.specs.{Parts.{Part, lies_in}, Trail.{heads_of}}
use Rattle.ocfl_rules.proofs.PartLaws.{places_within_is}
use Rattle.ocfl_item.specs.{Auditing.{Audits}, Looking.{IsFront}, Pending.{IsPending}}
use Rattle.ocfl_item.specs.{declared.pending.Pending.{Pending}}
use Rattle.ocfl_item.specs.declared.fault.Fault.{Fault}
use Rattle.ocfl_scrub.specs.Types.{ReportStop}
use Rattle.ocfl_item.proofs.AuditingLaws.{audits_fail, audits_nothing, audits_on, front_all}
use Rattle.ocfl_report.specs.declared.further.Further.{Further}
use Rattle.ocfl_walk.specs.{Before.{place_before}, Ends.{before_end, is_past}}
use Rattle.ocfl_walk.specs.{WalkCalls.{FailsOut, Walks, WalksOut}, Walks.{Stands}}
use Rattle.ocfl_walk.specs.declared.walk.Walk.{Walk}
use Rattle.ocfl_walk.proofs.WalkCallLaws.{audits_as}
use Rattle.ocfl_scrub.specs.{Call.{call_of}, Keeping.{IsMet, LooksAbove}}
use Rattle.ocfl_scrub.specs.Starting.{due_within, end_of, first_place, looked_in, read_in, stand, stand_by}
use Rattle.ocfl_scrub.specs.{Taking.{Misses, Takes}, declared.kept.Met.{Met}}
use Rattle.ocfl_scrub.proofs.BetweenLaws.{HasGoneOn, front_behind, gone_next, gone_self, lost_heads, lost_listed, looked_end, looked_next, looked_self, read_end, read_next, read_self}
use Rattle.ocfl_scrub.proofs.Passing.{due_in}
use Rattle.ocfl_scrub.proofs.PartStarts.{due_starts, looked_all, not_less_first, read_all}

-- ---- where a part's walk stands after a place of it

pub stand_there : (root : StorageRoot) (part : Part) (q : Place) → lies_in part q ≡ true → stand root part (Some q) ≡ Some q
stand_there root part q lies = by (first_place part) refl
  where
    by : (o : Option Place) → first_place part ≡ o → stand_by root (first_place part) (Some q) ≡ Some q
    by None e = ap (λ o. stand_by root o (Some q)) e
    by (Some b) e = ap (λ o. stand_by root o (Some q)) e ∙ ap (λ v. cond v (place_before root b) (Some q)) (not_less_first part b q e lies)

-- what is due there before the end is in the part
pub due_lies : (further : Further) (root : StorageRoot) (part : Part) (from : Option Place) (q : Place) → IsAmong (due further root (stand root part from)) q → is_past (end_of part) q ≡ false → lies_in part q ≡ true
due_lies further root part from q i before =
    let there : IsAmong (due_in further root (end_of part) (stand root part from)) q = among_filter (λ z. not (is_past (end_of part) z)) (due further root (stand root part from)) q i (ap not before) in
    let inside : IsAmong (due_within further root part from) q = subst (λ ps. IsAmong ps q) (due_starts further root part from) there in
    (among_from_filter (lies_in part) (due further root from) q (subst (λ ps. IsAmong ps q) (places_within_is part (due further root from)) inside)).1

pub met_lies : (further : Further) (root : StorageRoot) (part : Part) (from : Option Place) (m : Met) → IsMet further root part from m → lies_in part m.item.place ≡ true
met_lies further root part from m h = due_lies further root part from m.item.place (subst (λ ps. IsAmong ps m.item.place) (sym h.gives.3) (inl refl)) h.in_front

-- ---- from one item to another

-- from s to t items were taken from one on up to another, and what is between was listed and read
pub record Looked (further : Further) (root : StorageRoot) (part : Part) (s t : Store) (p q : Place) : Type 0 where
  pub gone : HasGoneOn (end_of part) (Some p) (Some q)
  pub done : List Place
  pub trail : List Opening
  pub audits : Audits further root s t done (looked_between root (Some p) (Some q)) (read_between root (Some p) (Some q)) trail

-- and the walk met the other
pub record HasLooked (further : Further) (root : StorageRoot) (part : Part) (s t : Store) (p : Place) (walk : Walk) (q : Pending) : Type 0 where
  pub looked : Looked further root part s t p q.place
  pub pending : IsPending further root q
  pub stands : Stands further root walk (Some q.place)

pub looked_first : (further : Further) (root : StorageRoot) (part : Part) (s : Store) (from : Option Place) (m : Met) → s.tree ≡ root → IsMet further root part from m
    → HasLooked further root part s s m.item.place m.walk m.item
looked_first further root part s from m over h = record {
  looked = record {
    gone = gone_self (end_of part) (Some m.item.place);
    done = [];
    trail = [];
    audits = audits_as further (sym (looked_self root (Some m.item.place))) (sym (read_self root (Some m.item.place))) (audits_nothing further root s over);
  };
  pending = h.gives.2;
  stands = h.gives.1;
}

module _ {further : Further} {root : StorageRoot} {part : Part} {s t : Store} {p q : Place} (h : Looked further root part s t p q) where
  pub looked_over : t.tree ≡ root
  looked_over = h.audits.did.tree ∙ h.audits.over

  pub looked_took : (v : Store) (old new : Option (List ℕ)) (cost : ℕ) (more : Bool) → Takes (call_of further root t v old new) q cost more → Looked further root part s v p q
  looked_took v old new cost more k = record {
    gone = h.gone;
    done = h.done ++ q ∷ [];
    trail = h.trail ++ k.trail;
    audits = audits_as further (append-nil (looked_between root (Some p) (Some q))) (append-nil (read_between root (Some p) (Some q)))
        (audits_on further root s t v h.done (q ∷ []) _ [] _ [] h.trail k.trail h.audits k.audits);
  }

  pub looked_on : (v : Store) (r : Place) → IsBeyond (Some q) r → is_past (end_of part) r ≡ false → Walks further root t v (Some q) (Some r) → Looked further root part s v p r
  looked_on v r far before w = record {
    gone = gone_next (end_of part) (Some p) (Some q) r h.gone far before;
    done = h.done ++ [];
    trail = h.trail ++ w.trail;
    audits = audits_as further (looked_next root (end_of part) (Some p) (Some q) h.gone r far) (read_next root (end_of part) (Some p) (Some q) h.gone r far)
        (audits_on further root s t v h.done [] _ _ _ _ h.trail w.trail h.audits w.audits);
  }

  -- ---- what was looked at in all

  module _ (lies : lies_in part p ≡ true) where
    looked_left : looked_between root (Some p) (Some q) ++ before_end (end_of part) (looked_between root (Some q) None) ≡ looked_in root part (Some p) None
    looked_left =
        looked_end root (end_of part) (Some p) (Some q) h.gone
        ∙ subst (λ o. before_end (end_of part) (looked_between root o None) ≡ looked_in root part (Some p) None) (stand_there root part p lies) (looked_all further root part (Some p))

    read_left : read_between root (Some p) (Some q) ++ before_end (end_of part) (read_between root (Some q) None) ≡ read_in root part (Some p) None
    read_left =
        read_end root (end_of part) (Some p) (Some q) h.gone
        ∙ subst (λ o. before_end (end_of part) (read_between root o None) ≡ read_in root part (Some p) None) (stand_there root part p lies) (read_all further root part (Some p))

    looked_begins : IsFront (looked_between root (Some p) (Some q)) (looked_in root part (Some p) None)
    looked_begins = (before_end (end_of part) (looked_between root (Some q) None), sym looked_left)

    read_begins : IsFront (read_between root (Some p) (Some q)) (read_in root part (Some p) None)
    read_begins = (before_end (end_of part) (read_between root (Some q) None), sym read_left)

    module _ (v : Store) (old new : Option (List ℕ)) where
      above : (listed heads : List Place) (os : List Opening) (f : ℕ) → Did s v os listed f → heads_of root os ≡ heads → IsFront listed (looked_in root part (Some p) None)
          → IsFront heads (read_in root part (Some p) None) → LooksAbove (call_of further root s v old new) part p
      above listed heads os f did are front heads_front = record {
        listed = listed;
        trail = os;
        listings_are = did.listings_are;
        openings_are = did.openings_are;
        listed_front = front;
        heads_front = subst (λ hs. IsFront hs (read_in root part (Some p) None)) (sym are) heads_front;
      }

      -- the item was not taken
      pub above_missed : (mid : Option (List ℕ)) (why : ReportStop) → Misses (call_of further root t v mid new) q why → LooksAbove (call_of further root s v old new) part p
      above_missed mid why k =
          let both = audits_fail further root s t v h.done k.begun _ [] _ [] h.trail k.trail _ h.audits k.fails in
          above _ _ (h.trail ++ k.trail) _ both.did both.heads_are
          (subst (λ ls. IsFront ls (looked_in root part (Some p) None)) (sym (append-nil (looked_between root (Some p) (Some q)))) looked_begins)
          (subst (λ hs. IsFront hs (read_in root part (Some p) None)) (sym (append-nil (read_between root (Some p) (Some q)))) read_begins)

      -- nothing is left before the end
      pub above_ended : WalksOut further root t v (Some q) (end_of part) → LooksAbove (call_of further root s v old new) part p
      above_ended w =
          let both = audits_on further root s t v h.done [] _ _ _ _ h.trail w.trail h.audits w.audits in
          above _ _ (h.trail ++ w.trail) _ both.did both.heads_are
          (subst (λ ls. IsFront ls (looked_in root part (Some p) None)) (sym looked_left) (front_all (looked_in root part (Some p) None)))
          (subst (λ hs. IsFront hs (read_in root part (Some p) None)) (sym read_left) (front_all (read_in root part (Some p) None)))

      -- the walk did not get to its next item
      pub above_lost : (why : Fault) → FailsOut further root t v (Some q) (end_of part) why → LooksAbove (call_of further root s v old new) part p
      above_lost why w =
          let both = audits_fail further root s t v h.done [] _ _ _ _ h.trail w.trail _ h.audits w.fails in
          above _ _ (h.trail ++ w.trail) _ both.did both.heads_are
          (front_behind (looked_between root (Some p) (Some q)) w.listed _ (looked_in root part (Some p) None) looked_left (lost_listed further root t v (Some q) (end_of part) why w))
          (front_behind (read_between root (Some p) (Some q)) w.heads _ (read_in root part (Some p) None) read_left (lost_heads further root t v (Some q) (end_of part) why w))

    -- the next item is left
    pub above_spent : (old new : Option (List ℕ)) → LooksAbove (call_of further root s t old new) part p
    above_spent old new = above t old new _ _ h.trail _ h.audits.did h.audits.heads_are looked_begins read_begins
