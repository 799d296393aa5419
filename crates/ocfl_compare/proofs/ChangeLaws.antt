-- The laws of what changed.
use Rattle.std.proofs.Common.{◌≡◌, ◌≢◌, ◌⊎◌, ◌↔◌, inl, inr, List, [], ◌∷◌, ◌++◌, Bool, true, false, map, refl, sym, ap, subst, ◌∙◌, append_assoc, append-nil}
use Rattle.std.proofs.Math.Bool.{or-true}
use Rattle.std.specs.{Prelude.{ℕ, cond, ◌&&◌, ◌||◌, nat_lt, not, flat_map, Option, Some, None}, List.{list_any}}
use Rattle.ocfl_tree.specs.{Ascending.{IsAmong}, Place.{Text, Place, text_eq}}
use Rattle.ocfl_tree.proofs.{Orders.{among_left, among_right}, Places.{text_eq-same}}
use Rattle.ocfl_tree.proofs.Stores.{among_either}
use Rattle.ocfl_report.specs.{Line.{Line}, Text.{code_text}, declared.code.Code.{Code}}
use Rattle.ocfl_codes.specs.Kinds.{is_empty, tells_object, tells_file, hides}
use Rattle.ocfl_compare.specs.Changes.{has_code, is_code, finding_codes, new_codes, repaired_codes, when, gone_object, gone_file, changes_at, has_below, is_in_shut, lines_at, is_left, said_at, placed, places_of, comparison}
use Rattle.ocfl_compare.specs.Versions.{inventory_changes, moved, note_in, version_of}
use Rattle.ocfl_compare.specs.declared.change.Change.{Change}
use Rattle.ocfl_compare.specs.declared.change.Change.TheVariants.{Gone, Undeclared, FileGone, Unlooked, Found, Repaired, Rewritten, WentBack, NewVersion}
use Rattle.ocfl_compare.specs.declared.question.Question.TheVariants.{Changed}
use Rattle.ocfl_compare.proofs.Moves.{unchanged}

-- a code is among codes with it
has_itself : (front cs : List Code) (c : Code) → has_code (front ++ c ∷ cs) c ≡ true
has_itself [] cs c = ap (λ b. b || has_code cs c) (text_eq-same (code_text c))
has_itself (d ∷ front) cs c = ap (λ b. is_code c d || b) (has_itself front cs c) ∙ or-true (is_code c d)

none_new : (front cs : List Code) → new_codes (front ++ cs) cs ≡ []
none_new front [] = refl
none_new front (c ∷ cs) = ap (λ b. cond (not b) (c ∷ new_codes (front ++ c ∷ cs) cs) (new_codes (front ++ c ∷ cs) cs)) (has_itself front cs c)
    ∙ ap (λ all. new_codes all cs) (sym (append_assoc front (c ∷ []) cs)) ∙ none_new (front ++ c ∷ []) cs

-- what is there is not gone
none_gone : (b : Bool) (z : Change) → when (not b && b) z ≡ []
none_gone true z = refl
none_gone false z = refl

none_repaired : (hidden : Bool) (ls : List Line) → map Repaired (cond hidden [] (new_codes (finding_codes ls) (finding_codes ls))) ≡ []
none_repaired true ls = refl
none_repaired false ls = ap (map Repaired) (none_new [] (finding_codes ls))

none_moved : (note : Option Text) → inventory_changes note note ≡ []
none_moved None = refl
none_moved (Some t) = unchanged t

same_lines : (shut has_lines : Bool) (ls : List Line) → changes_at shut has_lines ls ls ≡ []
same_lines shut has_lines [] = refl
same_lines shut has_lines (l ∷ ls) =
    (λ i. none_gone (list_any tells_object (l ∷ ls)) (gone_object has_lines) i ++ (map Found (none_new [] (finding_codes (l ∷ ls)) i) ++ (none_repaired (list_any hides (l ∷ ls)) (l ∷ ls) i ++ none_moved (note_in (l ∷ ls)) i)))

module _ (left : List Place) (ls : List Line) where
  none_at : (p : Place) → placed p (said_at Changed left ls ls p) ≡ []
  none_at p = by (is_left left p)
    where
      by : (b : Bool) → placed p (cond b [] (changes_at (is_in_shut ls ls p) (has_below p ls) (lines_at p ls) (lines_at p ls))) ≡ []
      by true = refl
      by false = ap (placed p) (same_lines (is_in_shut ls ls p) (has_below p ls) (lines_at p ls))

  none_of : (ps : List Place) → flat_map (λ p. placed p (said_at Changed left ls ls p)) ps ≡ []
  none_of [] = refl
  none_of (p ∷ ps) = λ i. none_at p i ++ none_of ps i

pub nothing_changed : (left : List Place) (ls : List Line) → comparison left ls ls ≡ []
nothing_changed left ls = none_of left ls (places_of ls ls)

-- ---- what is gone

among_when : (b : Bool) (c d : Change) → IsAmong (when b c) d → (b ≡ true) × (d ≡ c)
among_when true c d (inl e) = (refl, e)
among_when true c d (inr i) = absurd i
among_when false c d i = absurd i

-- a change that is none of a code is among none of codes
none_among : (f : Code → Change) (z : Change) → ((c : Code) → z ≡ f c → ⊥) → (cs : List Code) → IsAmong (map f cs) z → ⊥
none_among f z other [] i = i
none_among f z other (c ∷ cs) (inl e) = other c e
none_among f z other (c ∷ cs) (inr i) = none_among f z other cs i

map_among : (f : Code → Change) (cs : List Code) (c : Code) → IsAmong cs c → IsAmong (map f cs) (f c)
map_among f [] c i = i
map_among f (d ∷ cs) c (inl e) = inl (ap f e)
map_among f (d ∷ cs) c (inr i) = inr (map_among f cs c i)

among_map : (f : Code → Change) → ((d e : Code) → f d ≡ f e → d ≡ e) → (cs : List Code) (c : Code) → IsAmong (map f cs) (f c) → IsAmong cs c
among_map f same [] c i = i
among_map f same (d ∷ cs) c (inl e) = inl (same c d e)
among_map f same (d ∷ cs) c (inr i) = inr (among_map f same cs c i)

-- ---- codes that others lack

among_new : (others cs : List Code) (c : Code) → IsAmong (new_codes others cs) c → IsAmong cs c × (has_code others c ≡ false)
among_new others [] c i = absurd i
among_new others (d ∷ cs) c i = by (has_code others d) refl (among_new others cs c) i
  where
    by : (b : Bool) → has_code others d ≡ b → (IsAmong (new_codes others cs) c → IsAmong cs c × (has_code others c ≡ false))
        → IsAmong (cond (not b) (d ∷ new_codes others cs) (new_codes others cs)) c → IsAmong (d ∷ cs) c × (has_code others c ≡ false)
    by true e more j = (inr (more j).0, (more j).1)
    by false e more (inl f) = (inl f, ap (has_code others) f ∙ e)
    by false e more (inr j) = (inr (more j).0, (more j).1)

new_among : (others cs : List Code) (c : Code) → IsAmong cs c → has_code others c ≡ false → IsAmong (new_codes others cs) c
new_among others [] c i e = i
new_among others (d ∷ cs) c (inl f) e =
    subst (λ b. IsAmong (cond (not b) (d ∷ new_codes others cs) (new_codes others cs)) c) (sym (ap (has_code others) (sym f) ∙ e)) (inl f)
new_among others (d ∷ cs) c (inr i) e = by (has_code others d) (new_among others cs c i e)
  where
    by : (b : Bool) → IsAmong (new_codes others cs) c → IsAmong (cond (not b) (d ∷ new_codes others cs) (new_codes others cs)) c
    by true j = j
    by false j = inr j

-- ---- what became of an inventory

-- none of the three
abbrev IsNoMove : Change → Type 0
IsNoMove z = (z ≡ Rewritten → ⊥) × (z ≡ WentBack → ⊥) × (z ≡ NewVersion → ⊥)

other_than_moved : (v w : Option ℕ) (z : Change) → IsNoMove z → z ≡ moved v w → ⊥
other_than_moved None w z apart e = apart.0 e
other_than_moved (Some v) None z apart e = apart.0 e
other_than_moved (Some v) (Some w) z apart e = by (nat_lt v w) (nat_lt w v) e
  where
    by : (a b : Bool) → z ≡ cond a NewVersion (cond b WentBack Rewritten) → ⊥
    by true b f = apart.2 f
    by false true f = apart.1 f
    by false false f = apart.0 f

none_of_moved : (before now : Option Text) (z : Change) → IsNoMove z → IsAmong (inventory_changes before now) z → ⊥
none_of_moved None now z apart i = i
none_of_moved (Some b) None z apart i = i
none_of_moved (Some b) (Some n) z apart i = by (text_eq b n) i
  where
    by : (q : Bool) → IsAmong (cond q [] (moved (version_of b) (version_of n) ∷ [])) z → ⊥
    by true j = j
    by false (inl e) = other_than_moved (version_of b) (version_of n) z apart e
    by false (inr j) = j

repair_is_no_object : (h : Bool) (c : Code) → Repaired c ≡ gone_object h → ⊥
repair_is_no_object true c e = cc
repair_is_no_object false c e = cc

repair_is_no_file : (s : Bool) (c : Code) → Repaired c ≡ gone_file s → ⊥
repair_is_no_file true c e = cc
repair_is_no_file false c e = cc

gone_is_no_file : (s : Bool) → Gone ≡ gone_file s → ⊥
gone_is_no_file true e = cc
gone_is_no_file false e = cc

undeclared_is_no_file : (s : Bool) → Undeclared ≡ gone_file s → ⊥
undeclared_is_no_file true e = cc
undeclared_is_no_file false e = cc

file_is_no_object : (h : Bool) → FileGone ≡ gone_object h → ⊥
file_is_no_object true e = cc
file_is_no_object false e = cc

unlooked_is_no_object : (h : Bool) → Unlooked ≡ gone_object h → ⊥
unlooked_is_no_object true e = cc
unlooked_is_no_object false e = cc

is_gone : (h : Bool) → Gone ≡ gone_object h → h ≡ false
is_gone true e = cc
is_gone false e = refl

is_undeclared : (h : Bool) → Undeclared ≡ gone_object h → h ≡ true
is_undeclared true e = refl
is_undeclared false e = cc

is_file_gone : (s : Bool) → FileGone ≡ gone_file s → s ≡ false
is_file_gone true e = cc
is_file_gone false e = refl

is_unlooked : (s : Bool) → Unlooked ≡ gone_file s → s ≡ true
is_unlooked true e = refl
is_unlooked false e = cc

left_of : {P Q : Type 0} → P ⊎ Q → (Q → ⊥) → P
left_of (inl p) none = p
left_of (inr q) none = absurd (none q)

right_of : {P Q : Type 0} → P ⊎ Q → (P → ⊥) → Q
right_of (inl p) none = absurd (none p)
right_of (inr q) none = q

none_left : (ls : List Line) (b : Bool) → is_empty ls && b ≡ true → (ls ≡ []) × (b ≡ true)
none_left [] b e = (refl, e)
none_left (l ∷ ls) b e = cc

not_and : (a b : Bool) → not a && b ≡ true → (a ≡ false) × (b ≡ true)
not_and true b e = cc
not_and false b e = (refl, e)

module _ (shut has_lines : Bool) (before now : List Line) where
  abbrev first : List Change
  first = when (not (list_any tells_object now) && list_any tells_object before) (gone_object has_lines)

  abbrev second : List Change
  second = when (is_empty now && list_any tells_file before) (gone_file shut)

  abbrev third : List Change
  third = map Found (new_codes (finding_codes before) (finding_codes now))

  abbrev fourth : List Change
  fourth = map Repaired (repaired_codes before now)

  abbrev fifth : List Change
  fifth = inventory_changes (note_in before) (note_in now)

  abbrev later : List Change
  later = third ++ (fourth ++ fifth)

  -- what is neither a code nor a repair, nor of an inventory, comes before them
  none_later : (z : Change) → ((c : Code) → z ≡ Found c → ⊥) → ((c : Code) → z ≡ Repaired c → ⊥) → IsNoMove z → IsAmong later z → ⊥
  none_later z no_code no_repair no_move i =
      none_among Found z no_code (new_codes (finding_codes before) (finding_codes now)) (left_of (among_either third (fourth ++ fifth) z i) not_behind)
    where
      not_behind : IsAmong (fourth ++ fifth) z → ⊥
      not_behind j = none_among Repaired z no_repair (repaired_codes before now) (left_of (among_either fourth fifth z j) (none_of_moved (note_in before) (note_in now) z no_move))

  in_first : (z : Change) → (z ≡ gone_file shut → ⊥) → ((c : Code) → z ≡ Found c → ⊥) → ((c : Code) → z ≡ Repaired c → ⊥) → IsNoMove z → IsAmong (changes_at shut has_lines before now) z
      → ((list_any tells_object now ≡ false) × (list_any tells_object before ≡ true)) × (z ≡ gone_object has_lines)
  in_first z no_file no_code no_repair no_move i =
      let k = among_when (not (list_any tells_object now) && list_any tells_object before) (gone_object has_lines) z (left_of (among_either first (second ++ later) z i) not_later) in
      (not_and (list_any tells_object now) (list_any tells_object before) k.0, k.1)
    where
      not_second : IsAmong second z → ⊥
      not_second j = no_file (among_when (is_empty now && list_any tells_file before) (gone_file shut) z j).1

      not_later : IsAmong (second ++ later) z → ⊥
      not_later j = none_later z no_code no_repair no_move (right_of (among_either second later z j) not_second)

  first_in : (list_any tells_object now ≡ false) × (list_any tells_object before ≡ true) → IsAmong (changes_at shut has_lines before now) (gone_object has_lines)
  first_in k = among_left first (second ++ later) (gone_object has_lines) (subst (λ b. IsAmong (when b (gone_object has_lines)) (gone_object has_lines)) (sym (λ i. not (k.0 i) && k.1 i)) (inl refl))

  in_second : (z : Change) → (z ≡ gone_object has_lines → ⊥) → ((c : Code) → z ≡ Found c → ⊥) → ((c : Code) → z ≡ Repaired c → ⊥) → IsNoMove z → IsAmong (changes_at shut has_lines before now) z
      → ((now ≡ []) × (list_any tells_file before ≡ true)) × (z ≡ gone_file shut)
  in_second z no_object no_code no_repair no_move i =
      let k = among_when (is_empty now && list_any tells_file before) (gone_file shut) z
      (left_of (among_either second later z (right_of (among_either first (second ++ later) z i) not_first)) (none_later z no_code no_repair no_move)) in
      (none_left now (list_any tells_file before) k.0, k.1)
    where
      not_first : IsAmong first z → ⊥
      not_first j = no_object (among_when (not (list_any tells_object now) && list_any tells_object before) (gone_object has_lines) z j).1

  second_in : (now ≡ []) × (list_any tells_file before ≡ true) → IsAmong (changes_at shut has_lines before now) (gone_file shut)
  second_in k =
      among_right first (second ++ later) (gone_file shut)
      (among_left second later (gone_file shut) (subst (λ b. IsAmong (when b (gone_file shut)) (gone_file shut)) (sym (λ i. is_empty (k.0 i) && k.1 i)) (inl refl)))

  -- ---- what is repaired

  repaired_last : (c : Code) → IsAmong (changes_at shut has_lines before now) (Repaired c) ↔ IsAmong fourth (Repaired c)
  repaired_last c = (
    λ i. left_of (among_either fourth fifth (Repaired c) (right_of (among_either third (fourth ++ fifth) (Repaired c) (right_of (among_either second later (Repaired c) (right_of (among_either first (second ++ later) (Repaired c) i) not_first)) not_second)) not_third)) not_fifth,
    λ i. among_right first (second ++ later) (Repaired c) (among_right second later (Repaired c) (among_right third (fourth ++ fifth) (Repaired c) (among_left fourth fifth (Repaired c) i))),
  )
    where
      not_first : IsAmong first (Repaired c) → ⊥
      not_first i = repair_is_no_object has_lines c (among_when (not (list_any tells_object now) && list_any tells_object before) (gone_object has_lines) (Repaired c) i).1

      not_second : IsAmong second (Repaired c) → ⊥
      not_second i = repair_is_no_file shut c (among_when (is_empty now && list_any tells_file before) (gone_file shut) (Repaired c) i).1

      not_third : IsAmong third (Repaired c) → ⊥
      not_third i = none_among Found (Repaired c) (λ d e. cc) (new_codes (finding_codes before) (finding_codes now)) i

      not_fifth : IsAmong fifth (Repaired c) → ⊥
      not_fifth = none_of_moved (note_in before) (note_in now) (Repaired c) (λ e. cc, λ e. cc, λ e. cc)

  pub repaired_is : (c : Code) → IsAmong (changes_at shut has_lines before now) (Repaired c)
      ↔ ((now ≢ []) × (list_any hides now ≡ false)) × (IsAmong (finding_codes before) c × (has_code (finding_codes now) c ≡ false))
  repaired_is c = (
    λ i. looked (is_empty now) (list_any hides now) refl refl (among_map Repaired same_repaired (repaired_codes before now) c ((repaired_last c).0 i)),
    λ k. (repaired_last c).1 (map_among Repaired (repaired_codes before now) c (said k)),
  )
    where
      some_lines : (ls : List Line) → is_empty ls ≡ false → ls ≢ []
      some_lines [] e = cc
      some_lines (l ∷ ls) e = λ f. cc

      none_empty : (ls : List Line) → ls ≢ [] → is_empty ls ≡ false
      none_empty [] h = absurd (h refl)
      none_empty (l ∷ ls) h = refl

      same_repaired : (d e : Code) → Repaired d ≡ Repaired e → d ≡ e
      same_repaired d e f = cc

      looked : (e h : Bool) → is_empty now ≡ e → list_any hides now ≡ h → IsAmong (cond (e || h) [] (new_codes (finding_codes now) (finding_codes before))) c
          → ((now ≢ []) × (list_any hides now ≡ false)) × (IsAmong (finding_codes before) c × (has_code (finding_codes now) c ≡ false))
      looked true h p q i = absurd i
      looked false true p q i = absurd i
      looked false false p q i = ((some_lines now p, q), among_new (finding_codes now) (finding_codes before) c i)

      said : ((now ≢ []) × (list_any hides now ≡ false)) × (IsAmong (finding_codes before) c × (has_code (finding_codes now) c ≡ false)) → IsAmong (repaired_codes before now) c
      said k = subst (λ b. IsAmong (cond b [] (new_codes (finding_codes now) (finding_codes before))) c) (sym (λ i. none_empty now k.0.0 i || k.0.1 i))
          (new_among (finding_codes now) (finding_codes before) c k.1.0 k.1.1)

-- ---- the laws of what is gone

abbrev IsObjectAway : List Line → List Line → Type 0
IsObjectAway before now = (list_any tells_object now ≡ false) × (list_any tells_object before ≡ true)

abbrev IsFileAway : List Line → List Line → Type 0
IsFileAway before now = (now ≡ []) × (list_any tells_file before ≡ true)

pub gone_is : (shut has_lines : Bool) (before now : List Line) → IsAmong (changes_at shut has_lines before now) Gone ↔ (has_lines ≡ false) × IsObjectAway before now
gone_is shut has_lines before now = (
  λ i. let k = in_first shut has_lines before now Gone (gone_is_no_file shut) (λ c e. cc) (λ c e. cc) (λ e. cc, λ e. cc, λ e. cc) i in (is_gone has_lines k.1, k.0),
  λ k. subst (λ h. IsAmong (changes_at shut h before now) Gone) (sym k.0) (first_in shut false before now k.1),
)

pub undeclared_is : (shut has_lines : Bool) (before now : List Line) → IsAmong (changes_at shut has_lines before now) Undeclared ↔ (has_lines ≡ true) × IsObjectAway before now
undeclared_is shut has_lines before now = (
  λ i. let k = in_first shut has_lines before now Undeclared (undeclared_is_no_file shut) (λ c e. cc) (λ c e. cc) (λ e. cc, λ e. cc, λ e. cc) i in (is_undeclared has_lines k.1, k.0),
  λ k. subst (λ h. IsAmong (changes_at shut h before now) Undeclared) (sym k.0) (first_in shut true before now k.1),
)

pub file_gone_is : (shut has_lines : Bool) (before now : List Line) → IsAmong (changes_at shut has_lines before now) FileGone ↔ (shut ≡ false) × IsFileAway before now
file_gone_is shut has_lines before now = (
  λ i. let k = in_second shut has_lines before now FileGone (file_is_no_object has_lines) (λ c e. cc) (λ c e. cc) (λ e. cc, λ e. cc, λ e. cc) i in (is_file_gone shut k.1, k.0),
  λ k. subst (λ s. IsAmong (changes_at s has_lines before now) FileGone) (sym k.0) (second_in false has_lines before now k.1),
)

pub unlooked_is : (shut has_lines : Bool) (before now : List Line) → IsAmong (changes_at shut has_lines before now) Unlooked ↔ (shut ≡ true) × IsFileAway before now
unlooked_is shut has_lines before now = (
  λ i. let k = in_second shut has_lines before now Unlooked (unlooked_is_no_object has_lines) (λ c e. cc) (λ c e. cc) (λ e. cc, λ e. cc, λ e. cc) i in (is_unlooked shut k.1, k.0),
  λ k. subst (λ s. IsAmong (changes_at s has_lines before now) Unlooked) (sym k.0) (second_in true has_lines before now k.1),
)

-- ---- from nothing

all_new : (cs : List Code) → new_codes [] cs ≡ cs
all_new [] = refl
all_new (c ∷ cs) = ap (λ ds. c ∷ ds) (all_new cs)

pub from_nothing : (shut has_lines : Bool) (now : List Line) → changes_at shut has_lines [] now ≡ map Found (finding_codes now)
from_nothing shut has_lines [] = refl
from_nothing shut has_lines (l ∷ ls) =
    (λ i. none_object (list_any tells_object (l ∷ ls)) i ++ (map Found (all_new (finding_codes (l ∷ ls)) i) ++ none_before (list_any hides (l ∷ ls)) i)) ∙ append-nil (map Found (finding_codes (l ∷ ls)))
  where
    none_object : (b : Bool) → when (not b && false) (gone_object has_lines) ≡ []
    none_object true = refl
    none_object false = refl

    none_before : (b : Bool) → map Repaired (cond b [] []) ++ [] ≡ []
    none_before true = refl
    none_before false = refl
