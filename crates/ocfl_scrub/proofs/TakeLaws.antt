-- One item, judged and written.
use Rattle.std.proofs.Common.{◌≡◌, ◌≢◌, ℕ, ◌+◌, List, [], ◌∷◌, ◌++◌, refl, sym, ◌∙◌, ap, subst, inl, true, false, Bool, Option, Some, None, length, take, append-nil, arith}
use Rattle.std.proofs.KnownBytes.{Appends-nil}
use Rattle.std.specs.{Prelude.{cond, ◌||◌}, List.{list_any}, Io.KnownBytes.{Appends}}
use Rattle.ocfl_tree.specs.{Place.{Text, Place}, StorageRoot.{StorageRoot}, Store.{Store, Did}}
use Rattle.ocfl_report.specs.{Line.{Line, Item, is_finding_code, has_finding, found}, Text.{lines_text, text}}
use Rattle.ocfl_rules.specs.{Audit.{total_cost}, Due.{hashed_among, items_at}, Trail.{unread_of}}
use Rattle.ocfl_tree.specs.{Ascending.{IsAmong}, Calls.{opening}}
use Rattle.ocfl_tree.proofs.Orders.{among_from_filter, among_map, among_right, true_not_false}
use Rattle.ocfl_rules.specs.Inventories.{is_hashed}
use Rattle.ocfl_item.specs.Auditing.{Fails, FailedAt, in_listing, in_opening}
use Rattle.ocfl_item.specs.{Looking.{IsFront, failed_place}, declared.fault.Fault.{Fault}}
use Rattle.ocfl_item.specs.Judging.{Judges, JudgeFails}
use Rattle.ocfl_scrub.specs.Types.{ReportStop}
use Rattle.ocfl_item.specs.declared.fault.Fault.TheVariants as fault
use Rattle.ocfl_report.specs.declared.further.Further.{Further}
use Rattle.ocfl_scrub.specs.declared.stop.ReportStop.TheVariants as halt
use Rattle.ocfl_scrub.specs.{Call.{Call, call_of}, Taking.{WritesLines, PartOf, Takes, Misses, stop_place}}
use Rattle.ocfl_walk.proofs.FoundLaws.{none_hashed}

pub or_none : (b : Bool) → (b || false) ≡ b
or_none true = refl
or_none false = refl

-- ---- on every store

pub nothing_written : (old : Option (List ℕ)) → WritesLines old old false
nothing_written old = ([], Appends-nil old, refl)

pub lines_written : (old new : Option (List ℕ)) (lines : List Line) (piece : List ℕ) (finding : Bool) → piece ≡ lines_text lines → Appends old new piece
    → finding ≡ list_any (λ l. is_finding_code l.code) lines → WritesLines old new finding
lines_written old new lines piece finding e sent found_is =
    let item : Item = record { place = []; lines = lines; cost = 0 } in
    (item ∷ [], subst (Appends old new) (e ∙ sym (append-nil (lines_text lines))) sent, found_is ∙ sym (or_none (has_finding item)))

-- ---- on a store that tells its tree

-- the place at which the store failed, of a fault
pub failed_is : (why : Fault) (q : Place) → failed_place why ≡ Some q → why ≡ fault.Store q
failed_is (fault.Store p) q e = let same : p ≡ q = cc in ap fault.Store same
failed_is fault.Memory q e = absurd cc

hashed_there : (further : Further) (root : StorageRoot) (ps : List Place) (p : Place) → IsAmong (hashed_among further root ps) p → is_hashed further root p ≡ true
unfolding hashed_among
hashed_there further root ps p i = (among_from_filter (is_hashed further root) ps p i).1

-- an item that was not taken is none at which the store failed
pub missed_no_store : (call : Call) (p : Place) (why : ReportStop) → Misses call p why → (q : Place) → stop_place why ≡ Some q → ⊥
missed_no_store call p why m q stop = by at.1
  where
    at : (is_hashed call.further call.root q ≡ false) × FailedAt call.further call.root call.before call.after [] m.trail q
    at = m.fails.store q stop

    not_empty : {A : Type 0} (before : List A) (x : A) → [] ≡ before ++ x ∷ [] → ⊥
    not_empty [] x e = absurd cc
    not_empty (y ∷ before) x e = absurd cc

    by : FailedAt call.further call.root call.before call.after [] m.trail q → ⊥
    by (in_listing before is failed read) = not_empty before q is
    by (in_opening before given is none) =
        let there : IsAmong m.trail (opening q given true) = subst (λ os. IsAmong os (opening q given true)) (sym is) (among_right before (opening q given true ∷ []) (opening q given true) (inl refl)) in
        let place : IsAmong (hashed_among call.further call.root m.begun) q = subst (λ ps. IsAmong ps q) m.alone (among_map (λ o. o.place) m.trail (opening q given true) there) in
        true_not_false (sym (hashed_there call.further call.root m.begun q place) ∙ at.0)

pub fault_other : (why : Fault) → halt.Fault why ≢ halt.Output
fault_other why e = cc

take_none : (xs : List ℕ) → [] ≡ take 0 xs
take_none [] = refl
take_none (x ∷ xs) = refl

-- nothing went out
pub nothing_of : (why : ReportStop) → why ≢ halt.Output → (whole : Text) → PartOf why whole []
nothing_of why other whole = record { gone = 0; is = take_none whole; proper = λ e. absurd (other e); none = λ _. refl }

pub fault_of_nothing : (why : Fault) (whole : Text) → PartOf (halt.Fault why) whole []
fault_of_nothing why whole = nothing_of (halt.Fault why) (fault_other why) whole

module _ (further : Further) (root : StorageRoot) (s t : Store) (p : Place) (lines : List Line) (cost : ℕ) (j : Judges further root s t p lines cost) where
  judged_text : lines_text lines ≡ text (items_at further root j.trail (p ∷ []))
  judged_text = sym (ap text j.item ∙ append-nil (lines_text lines))

  judged_found : found (items_at further root j.trail (p ∷ [])) ≡ list_any (λ l. is_finding_code l.code) lines
  judged_found = ap found j.item ∙ or_none (list_any (λ l. is_finding_code l.code) lines)

  pub judged_takes : (old new : Option (List ℕ)) (piece : List ℕ) (finding : Bool) → piece ≡ lines_text lines → finding ≡ list_any (λ l. is_finding_code l.code) lines
      → Appends old new piece → Takes (call_of further root s t old new) p cost finding
  judged_takes old new piece finding e f sent = record {
    trail = j.trail;
    audits = j.audits;
    alone = j.alone;
    wrote = subst (Appends old new) (e ∙ judged_text) sent;
    cost_is = sym (ap total_cost j.item ∙ (let z : cost + 0 ≡ cost = omega arith in z));
    found_is = f ∙ sym judged_found;
  }

  judged_fails : Fails further root s t (p ∷ []) [] [] j.trail None
  judged_fails = record {
    over = j.audits.over;
    did = subst (Did s t j.trail []) (let same : length (unread_of further root j.trail) ≡ length (unread_of further root j.trail) + 0 = omega arith in same) j.audits.did;
    opened = j.audits.opened;
    heads_are = j.audits.heads_are;
    near = j.audits.near;
    store = λ q e. absurd cc;
  }

  -- no room for the text
  pub judged_memory : (old : Option (List ℕ)) → Misses (call_of further root s t old old) p (halt.Fault fault.Memory)
  judged_memory old = record {
    trail = j.trail;
    begun = p ∷ [];
    one = ([], refl);
    fails = judged_fails;
    alone = j.alone;
    part = [];
    wrote = Appends-nil old;
    part_of = fault_of_nothing fault.Memory (text (items_at further root j.trail (p ∷ [])));
  }

front_of_one : (p : Place) (part : Bool) → IsFront (cond part (p ∷ []) []) (p ∷ [])
front_of_one p true = ([], refl)
front_of_one p false = (p ∷ [], refl)

none_or_hashed : (further : Further) (root : StorageRoot) (p : Place) (part : Bool) → cond part (hashed_among further root (p ∷ [])) [] ≡ hashed_among further root (cond part (p ∷ []) [])
none_or_hashed further root p true = refl
none_or_hashed further root p false = sym (none_hashed further root)

-- the item was not judged
pub unjudged : (further : Further) (root : StorageRoot) (s t : Store) (old : Option (List ℕ)) (p : Place) → JudgeFails further root s t p → Misses (call_of further root s t old old) p (halt.Fault fault.Memory)
unjudged further root s t old p j = record {
  trail = j.trail;
  begun = cond j.part (p ∷ []) [];
  one = front_of_one p j.part;
  fails = j.fails;
  alone = j.alone ∙ none_or_hashed further root p j.part;
  part = [];
  wrote = Appends-nil old;
  part_of = fault_of_nothing fault.Memory (text (items_at further root j.trail (p ∷ [])));
}
