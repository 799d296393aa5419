-- A level is listed, directory by directory, for the next.
use Rattle.std.proofs.Common.{◌≡◌, ℕ, suc, ◌+◌, ◌-◌, ◌<◌, ◌≤◌, List, [], ◌∷◌, ◌++◌, refl, sym, ◌∙◌, ap, subst, true, false, Some, None, length, take, drop, get_or, arith, rules, append_assoc}
use Rattle.std.proofs.lemmas.List.{take_more, drop_all, length-append, append-nil}
use Rattle.std.proofs.lemmas.Bool.{le-leb, lt-leb, or_right}
use Rattle.std.specs.Prelude.{cond, ◌||◌, ◌==◌, nat_lt, nat_le}
use Rattle.ocfl_tree.specs.{Place.{Place}, StorageRoot.{StorageRoot}, Store.{Store}}
use Rattle.ocfl_tree.proofs.Lists.{drop_item}
use Rattle.ocfl_item.specs.declared.fault.Fault.{Fault}
use Rattle.ocfl_split.specs.Levels.{directories_below, level_below}
use Rattle.ocfl_split.specs.Splitting.{next_level, listed_within, ListsAll, ListsStop}
use Rattle.ocfl_split.proofs.Below.{lists_on, stops_on, stops_before}

-- ---- the next level

-- more than may be held
none_over : (ps : List Place) (room : ℕ) → room < length ps → cond (length ps == 0 || nat_lt room (length ps)) None (Some ps) ≡ None
none_over ps room l =
    let over : nat_lt room (length ps) ≡ true = le-leb (suc room) (length ps) (omega (arith, l)) in
    ap (λ b. cond (length ps == 0 || b) None (Some ps)) over ∙ ap (λ b. cond b None (Some ps)) (or_right (length ps == 0) true refl)

none_empty : (ps : List Place) (room : ℕ) → ps ≡ [] → cond (length ps == 0 || nat_lt room (length ps)) None (Some ps) ≡ None
none_empty [] room e = refl
none_empty (p ∷ ps) room e = cc

some_fits : (ps : List Place) (room : ℕ) → (ps ≡ [] → ⊥) → length ps ≤ room → cond (length ps == 0 || nat_lt room (length ps)) None (Some ps) ≡ Some ps
some_fits [] room some l = absurd (some refl)
some_fits (p ∷ ps) room some l =
    let there : (length (p ∷ ps) == 0) ≡ false = search rules in
    let fits : nat_lt room (length (p ∷ ps)) ≡ false = lt-leb (suc room) (length (p ∷ ps)) (omega (arith, l)) in
    ap (λ b. cond (b || nat_lt room (length (p ∷ ps))) None (Some (p ∷ ps))) there ∙ ap (λ b. cond b None (Some (p ∷ ps))) fits

-- ---- so far

-- the first i directories of a level were listed
pub record IsListedSo (root : StorageRoot) (s t : Store) (room : ℕ) (ds : List Place) (i : ℕ) (found : List Place) : Type 0 where
  pub lists : ListsAll root s t (take i ds)
  pub next : level_below root ds ≡ found ++ level_below root (drop i ds)
  pub listed : listed_within root room ds ≡ take i ds ++ listed_within root (room - length found) (drop i ds)

module _ (root : StorageRoot) where
  module _ (s t u : Store) (room : ℕ) (ds : List Place) (i : ℕ) (d : Place) (next : List Place) (so : IsListedSo root s t room ds i next) (l : i < length ds) (is : d ≡ get_or ds i d) where
    left : drop i ds ≡ d ∷ drop (i + 1) ds
    left = drop_item ds i d l is

    more : take (i + 1) ds ≡ take i ds ++ d ∷ []
    more = take_more ds i d l ∙ ap (λ x. take i ds ++ x ∷ []) (sym is)

    -- one more, and there is room for what is below it
    pub one_more : (new : List Place) → ListsAll root t u (d ∷ []) → new ≡ next ++ directories_below root d → length new ≤ room → IsListedSo root s u room ds (i + 1) new
    one_more new h e few =
        let sum : length new ≡ length next + length (directories_below root d) = ap length e ∙ length-append next (directories_below root d) in
        let fits : nat_le (length (directories_below root d)) (room - length next) ≡ true = le-leb (length (directories_below root d)) (room - length next) (omega (arith, sum, few)) in
        let room_left : room - length next - length (directories_below root d) ≡ room - length new = omega (arith, sum) in
        record {
          lists = subst (ListsAll root s u) (sym more) (lists_on root s t u (take i ds) (d ∷ []) so.lists h);
          next = so.next ∙ ap (λ xs. next ++ level_below root xs) left ∙ sym (append_assoc next (directories_below root d) (level_below root (drop (i + 1) ds)))
              ∙ ap (λ xs. xs ++ level_below root (drop (i + 1) ds)) (sym e);
          listed =
              so.listed
              ∙ ap (λ xs. take i ds ++ listed_within root (room - length next) xs) left
              ∙ ap (λ b. take i ds ++ d ∷ cond b (listed_within root (room - length next - length (directories_below root d)) (drop (i + 1) ds)) []) fits
              ∙ ap (λ r. take i ds ++ d ∷ listed_within root r (drop (i + 1) ds)) room_left
              ∙ sym (append_assoc (take i ds) (d ∷ []) (listed_within root (room - length new) (drop (i + 1) ds)))
              ∙ ap (λ xs. xs ++ listed_within root (room - length new) (drop (i + 1) ds)) (sym more);
        }

    -- there is no room for what is below it
    pub one_too_many : ListsAll root t u (d ∷ []) → length next ≤ room → room < length (next ++ directories_below root d) → (None ≡ next_level root room ds)
        × ListsAll root s u (listed_within root room ds)
    one_too_many h few many =
        let sum = length-append next (directories_below root d) in
        let over : nat_le (length (directories_below root d)) (room - length next) ≡ false = lt-leb (length (directories_below root d)) (room - length next) (omega (arith, sum, few, many)) in
        let whole : level_below root ds ≡ (next ++ directories_below root d) ++ level_below root (drop (i + 1) ds) =
        so.next ∙ ap (λ xs. next ++ level_below root xs) left ∙ sym (append_assoc next (directories_below root d) (level_below root (drop (i + 1) ds))) in
        let long : length (level_below root ds) ≡ length (next ++ directories_below root d) + length (level_below root (drop (i + 1) ds)) =
        ap length whole ∙ length-append (next ++ directories_below root d) (level_below root (drop (i + 1) ds)) in
        let listed : listed_within root room ds ≡ take i ds ++ d ∷ [] =
        so.listed ∙ ap (λ xs. take i ds ++ listed_within root (room - length next) xs) left
        ∙ ap (λ b. take i ds ++ d ∷ cond b (listed_within root (room - length next - length (directories_below root d)) (drop (i + 1) ds)) []) over in (
          sym (none_over (level_below root ds) room (omega (arith, many, long))),
          subst (ListsAll root s u) (sym listed) (lists_on root s t u (take i ds) (d ∷ []) so.lists h),
        )

    -- it could not be listed
    pub one_stops : (why : Fault) → ListsStop root t u (d ∷ []) why → ListsStop root s u (listed_within root room ds) why
    one_stops why h =
        let rest = cond (nat_le (length (directories_below root d)) (room - length next)) (listed_within root (room - length next - length (directories_below root d)) (drop (i + 1) ds)) [] in
        let listed : listed_within root room ds ≡ (take i ds ++ d ∷ []) ++ rest =
        so.listed ∙ ap (λ xs. take i ds ++ listed_within root (room - length next) xs) left ∙ sym (append_assoc (take i ds) (d ∷ []) rest) in
        subst (λ xs. ListsStop root s u xs why) (sym listed) (stops_before root s u (take i ds ++ d ∷ []) rest why (stops_on root s t u (take i ds) (d ∷ []) why so.lists h))

  module _ (s t : Store) (room : ℕ) (ds : List Place) (i : ℕ) (next : List Place) (so : IsListedSo root s t room ds i next) (l : length ds ≤ i) where
    nothing : drop i ds ≡ []
    nothing = drop_all i ds l

    whole : level_below root ds ≡ next
    whole = so.next ∙ ap (λ xs. next ++ level_below root xs) nothing ∙ append-nil next

    -- all of them were listed
    pub all_listed : ListsAll root s t (listed_within root room ds)
    all_listed =
        let listed : listed_within root room ds ≡ take i ds = so.listed ∙ ap (λ xs. take i ds ++ listed_within root (room - length next) xs) nothing ∙ append-nil (take i ds) in
        subst (ListsAll root s t) (sym listed) so.lists

    pub none_deeper : next ≡ [] → None ≡ next_level root room ds
    none_deeper f = sym (none_empty (level_below root ds) room (whole ∙ f))

    pub one_deeper : (next ≡ [] → ⊥) → length next ≤ room → Some next ≡ next_level root room ds
    one_deeper some few = sym (ap (λ ps. cond (length ps == 0 || nat_lt room (length ps)) None (Some ps)) whole ∙ some_fits next room some few)
