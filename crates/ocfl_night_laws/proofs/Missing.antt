-- What is missing of a report around branches that were left out: items of the branches alone.
use Rattle.std.proofs.Common.{◌≡◌, ◌⊎◌, inl, inr, List, [], ◌∷◌, ◌++◌, ◌∙◌, Bool, true, false, Option, Some, None, ap, refl, subst, sym}
use Rattle.std.specs.{Prelude.{◌&&◌, not}, Ordering.{is_lt}}
use Rattle.ocfl_tree.specs.{Ascending.{IsAmong}, Name.{IsPlace}, Place.{Place, Text, begins, place_cmp}}
use Rattle.ocfl_tree.specs.StorageRoot.{StorageRoot}
use Rattle.ocfl_tree.proofs.Bools.{and_both, and_first, and_second}
use Rattle.ocfl_tree.proofs.Orders.{among_filter, among_from_filter, among_left, among_map, among_right}
use Rattle.ocfl_report.specs.Line.{Item}
use Rattle.ocfl_rules.specs.{Audit.{after, audit}, Parts.{Part, is_below, is_from, lies_in, within}}
use Rattle.ocfl_rules.proofs.{BranchLaws.{enclosed_is}, PartLaws.{within_is}}
use Rattle.ocfl_scrub.specs.Starting.{due_within}
use Rattle.ocfl_scrub.proofs.{AuditLaws.{places_of_items}, PartStarts.{above_in}}
use Rattle.ocfl_state.specs.declared.checkpoint_parts.Left.{Left}
use Rattle.ocfl_night_laws.specs.Around.{AreNext, IsInBranch, around, up_to}
use Rattle.ocfl_night.specs.Chain.{past, past_branch}
use Rattle.ocfl_report.specs.declared.further.Further.{Further}

-- ---- a place from a branch on and before its end

last_split : (n : Text) (p : Place) → (d : Place) × ((m : Text) × ((n ∷ p ≡ d ++ m ∷ []) × (past (n ∷ p) ≡ d ++ (m ++ 1 ∷ []) ∷ [])))
last_split n [] = ([], (n, (refl, refl)))
last_split n (k ∷ p) = let h = last_split k p in (n ∷ h.0, (h.1.0, (ap (λ q. n ∷ q) h.1.1.0, ap (λ q. n ∷ q) h.1.1.1)))

in_branch : (b p : Place) → IsPlace p → is_lt (place_cmp p b) ≡ false → is_lt (place_cmp p (past b)) ≡ true → begins b p ≡ true
in_branch [] p v low high = refl
in_branch (n ∷ b) p v low high =
    let s = last_split n b in
    let from : is_from (Some (s.0 ++ s.1.0 ∷ [])) p ≡ true = ap not (subst (λ x. is_lt (place_cmp p x) ≡ false) s.1.1.0 low) in
    let below : is_below (Some (s.0 ++ (s.1.0 ++ 1 ∷ []) ∷ [])) p ≡ true = subst (λ x. is_lt (place_cmp p x) ≡ true) s.1.1.1 high in
    ap (λ x. begins x p) s.1.1.0 ∙ sym (enclosed_is s.0 s.1.0 p v) ∙ and_both (is_from (Some (s.0 ++ s.1.0 ∷ [])) p) (is_below (Some (s.0 ++ (s.1.0 ++ 1 ∷ []) ∷ [])) p) from below

-- ---- items above a place, and up to it

among_after : (xs : List Item) (from : Option Place) (i : Item) → IsAmong (after xs from) i → IsAmong xs i
among_after xs None i is = is
among_after xs (Some p) i is = (among_from_filter (λ x. is_lt (place_cmp p x.place)) xs i is).0

-- one of some items is up to a place, or above it
up_or_above : (xs : List Item) (from to : Option Place) (i : Item) → IsAmong (after xs from) i → IsAmong (up_to to (after xs from)) i ⊎ IsAmong (after xs to) i
up_or_above xs from None i is = inr (among_after xs from i is)
up_or_above xs from (Some p) i is = by (is_lt (place_cmp p i.place)) refl
  where
    by : (b : Bool) → is_lt (place_cmp p i.place) ≡ b → IsAmong (up_to (Some p) (after xs from)) i ⊎ IsAmong (after xs (Some p)) i
    by true e = inr (among_filter (λ x. is_lt (place_cmp p x.place)) xs i (among_after xs from i is) e)
    by false e = inl (among_filter (λ x. not (is_lt (place_cmp p x.place))) (after xs from) i is (ap not e))

module _ (further : Further) (root : StorageRoot) where
  -- an item of a part above a place is due there
  item_due : (part : Part) (from : Option Place) (i : Item) → IsAmong (after (within part (audit further root [])) from) i → IsAmong (due_within further root part from) i.place
  item_due part from i is =
      subst (λ ps. IsAmong ps i.place) (places_of_items further root [] (due_within further root part from))
      (among_map (λ x. x.place) _ i (subst (λ xs. IsAmong xs i) (above_in further root part from []) is))

  -- if it comes after a branch, it is one of what comes after that
  still_there : (part : Part) (l : Left) (i : Item) → is_lt (place_cmp i.place (past l.place)) ≡ false → IsAmong (after (within part (audit further root [])) l.after) i
      → IsAmong (after (within (past_branch part l) (audit further root [])) l.after) i
  still_there part l i over is = by l.after is
    where
      here : (xs : List Item) → IsAmong (within part xs) i → IsAmong (within (past_branch part l) xs) i
      here xs j =
          let k = among_from_filter (λ x. lies_in part x.place) xs i (subst (λ ys. IsAmong ys i) (within_is part xs) j) in
          let ends = and_second (begins part.under i.place) (is_from part.from i.place && is_below part.below i.place) k.1 in
          let lies : lies_in (past_branch part l) i.place ≡ true =
          and_both (begins part.under i.place) (is_from (Some (past l.place)) i.place && is_below part.below i.place) (and_first (begins part.under i.place) (is_from part.from i.place && is_below part.below i.place) k.1)
          (and_both (is_from (Some (past l.place)) i.place) (is_below part.below i.place) (ap not over) (and_second (is_from part.from i.place) (is_below part.below i.place) ends)) in
          subst (λ ys. IsAmong ys i) (sym (within_is (past_branch part l) xs)) (among_filter (λ x. lies_in (past_branch part l) x.place) xs i k.0 lies)

      by : (to : Option Place) → IsAmong (after (within part (audit further root [])) to) i → IsAmong (after (within (past_branch part l) (audit further root [])) to) i
      by None j = here (audit further root []) j
      by (Some p) j =
          let k = among_from_filter (λ x. is_lt (place_cmp p x.place)) (within part (audit further root [])) i j in
          among_filter (λ x. is_lt (place_cmp p x.place)) (within (past_branch part l) (audit further root [])) i (here (audit further root []) k.0) k.1

  abbrev front : Part → Option Place → Left → List Item
  front part from l = up_to l.after (after (within part (audit further root [])) from)

  abbrev rest : Part → Left → List Left → List Item
  rest part l left = around (past_branch part l) l.after left (audit further root [])

  -- each item of a part is written, or is in a branch that was left out
  pub written_or_left : (part : Part) (from : Option Place) (left : List Left) → AreNext further root part left → (i : Item) → IsPlace i.place → IsAmong (after (within part (audit further root [])) from) i
      → IsAmong (around part from left (audit further root [])) i ⊎ IsInBranch left i.place
  written_or_left part from [] next i v is = inl is
  written_or_left part from (l ∷ left) next i v is = by (λ j. written_or_left (past_branch part l) l.after left next.1 i v j) (up_or_above (within part (audit further root [])) from l.after i is)
    where
      on : IsAmong (rest part l left) i ⊎ IsInBranch left i.place → IsAmong (front part from l ++ rest part l left) i ⊎ IsInBranch (l ∷ left) i.place
      on (inl j) = inl (among_right (front part from l) (rest part l left) i j)
      on (inr j) = inr (inr j)

      beyond : (IsAmong (after (within (past_branch part l) (audit further root [])) l.after) i → IsAmong (rest part l left) i ⊎ IsInBranch left i.place) → IsAmong (after (within part (audit further root [])) l.after) i → (b : Bool) → is_lt (place_cmp i.place (past l.place)) ≡ b → IsAmong (front part from l ++ rest part l left) i ⊎ IsInBranch (l ∷ left) i.place
      beyond later j true e = inr (inl (in_branch l.place i.place v (next.0 i.place (item_due part l.after i j)) e))
      beyond later j false e = on (later (still_there part l i e j))

      by : (IsAmong (after (within (past_branch part l) (audit further root [])) l.after) i → IsAmong (rest part l left) i ⊎ IsInBranch left i.place) → IsAmong (front part from l) i ⊎ IsAmong (after (within part (audit further root [])) l.after) i → IsAmong (front part from l ++ rest part l left) i ⊎ IsInBranch (l ∷ left) i.place
      by later (inl j) = inl (among_left (front part from l) (rest part l left) i j)
      by later (inr j) = beyond later j (is_lt (place_cmp i.place (past l.place))) refl
