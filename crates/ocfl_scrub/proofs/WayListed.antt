-- A call lists the directory of each file that it opens: on the way down to where it begins, or
-- from there on.
use Rattle.std.proofs.Common.{◌≡◌, ◌⊎◌, inl, inr, ℕ, List, [], ◌∷◌, ◌++◌, append-nil, append_assoc, refl, sym, ◌∙◌, ap, ap₂, subst, Bool, true, false, cond, take, Option, Some, None}
use Rattle.std.proofs.lemmas.Bool.{not-true}
use Rattle.std.specs.{Prelude.{◌&&◌, not}, Ordering.{is_lt, ordering_then}}
use Rattle.std.specs.declared.cmp.Ordering.{Ordering}
use Rattle.std.specs.declared.cmp.Ordering.TheVariants.{Less, Equal, Greater}
use Rattle.ocfl_tree.specs.Place.{Text, Place, place_cmp, text_cmp}
use Rattle.ocfl_tree.specs.Ascending.{IsAmong, IsAscending, IsBeforeAll}
use Rattle.ocfl_tree.specs.{StorageRoot.{StorageRoot}, Store.{Store}}
use Rattle.ocfl_tree.proofs.Bools.{and_second}
use Rattle.ocfl_tree.proofs.Orders.{among_filter, among_from_filter, among_left, among_right, below_from_greater, not_below_itself, place_cmp_exact, place_cmp_total, true_not_false}
use Rattle.ocfl_tree.proofs.{Stores.{among_either}, Places.{text_cmp_exact}}
use Rattle.ocfl_rules.specs.Between.{IsBeyond, IsWithin, is_looked_into, looked_between}
use Rattle.ocfl_rules.specs.Due.{due}
use Rattle.ocfl_rules.specs.Inventories.{is_hashed}
use Rattle.ocfl_rules.specs.Parts.{Part, lies_in}
use Rattle.ocfl_rules.specs.Walk.{is_reached}
use Rattle.ocfl_rules.proofs.BelowLaws.{above_self, less_from}
use Rattle.ocfl_rules.proofs.BetweenLaws.{among_between, is_directory}
use Rattle.ocfl_rules.proofs.BranchLaws.{nothing_above}
use Rattle.ocfl_rules.proofs.PartLaws.{places_within_is}
use Rattle.ocfl_item.specs.{Auditing.{LiesIn}, Looking.{way_to}}
use Rattle.ocfl_report.specs.declared.further.Further.{Further}
use Rattle.ocfl_scrub.specs.Types.{ReportStop}
use Rattle.ocfl_walk.specs.{Before.{directory_of}, Ends.{is_past}}
use Rattle.ocfl_walk.specs.WalkCalls.{AreAllListed, GoesDown, way_of}
use Rattle.ocfl_walk.proofs.BeforeLaws.{below_from, directory_is, not_below}
use Rattle.ocfl_walk.proofs.EndLaws.{not_past_down}
use Rattle.ocfl_scrub.specs.Starting.{FilesLieIn, due_within, end_of, entry, entry_by, first_place, greater_of, is_before, looked_in, stand, unless_root}
use Rattle.ocfl_scrub.proofs.{DirectoryLaws.{has_directory, hashed_within}, Lists.{ascends_across}}
use Rattle.ocfl_scrub.proofs.Passing.{Halts, due_in}
use Rattle.ocfl_scrub.proofs.PartStarts.{due_starts, due_within_ascends, lies_exact, looked_starts, not_less_first, unless_root_is}
use Rattle.ocfl_scrub.proofs.PassLaws.{among_beyond, looked_further, take_nothing}
use Rattle.ocfl_item.proofs.UpToLaws.{not_less_or}
use Rattle.ocfl_scrub.proofs.WayOrder.{among_way}

-- ---- places from a directory on, and before what is right in it, are in it

-- if the first names agree
name_behind : (m x : Text) (d a : Place) (n : Text) → (is_lt (place_cmp a d) ≡ false → place_cmp a (d ++ n ∷ []) ≡ Less → (q : Place) × (a ≡ d ++ q)) → (c : Ordering) → text_cmp x m ≡ c
    → is_lt (ordering_then c (place_cmp a d)) ≡ false → ordering_then c (place_cmp a (d ++ n ∷ [])) ≡ Less → (q : Place) × (x ∷ a ≡ (m ∷ d) ++ q)
name_behind m x d a n r Less e f g = absurd (true_not_false f)
name_behind m x d a n r Greater e f g = absurd cc
name_behind m x d a n r Equal e f g = let k = r f g in (k.0, ap₂ (λ y ys. y ∷ ys) (text_cmp_exact x m e) k.1)

within_it : (d a : Place) (n : Text) → is_lt (place_cmp a d) ≡ false → place_cmp a (d ++ n ∷ []) ≡ Less → (q : Place) × (a ≡ d ++ q)
within_it [] a n h k = (a, refl)
within_it (m ∷ d) [] n h k = absurd (true_not_false h)
within_it (m ∷ d) (x ∷ a) n h k = name_behind m x d a n (within_it d a n) (text_cmp x m) refl h k

none_is : (g : Place) → unless_root g ≡ None → g ≡ []
none_is [] e = refl
none_is (n ∷ g) e = absurd (let two : Some (n ∷ g) ≡ None = e in cc)

among_first : (ps : List Place) (p : Place) → IsAmong (take 1 ps) p → IsAmong ps p
among_first [] p i = absurd i
among_first (q ∷ ps) p (inl e) = inl e
among_first (q ∷ ps) p (inr i) = absurd (subst (λ qs. IsAmong qs p) (take_nothing ps) i)

among_both : (xs ys zs : List Place) (p : Place) → (IsAmong ys p → IsAmong zs p) → IsAmong (xs ++ ys) p → IsAmong (xs ++ zs) p
among_both xs ys zs p f i = by (among_either xs ys p i)
  where
    by : IsAmong xs p ⊎ IsAmong ys p → IsAmong (xs ++ zs) p
    by (inl j) = among_left xs zs p j
    by (inr j) = among_right xs zs p (f j)

-- what is not above a place that is before another is not above that one
pub before_next : (p next d : Place) → place_cmp p next ≡ Less → is_lt (place_cmp p d) ≡ false → is_lt (place_cmp next d) ≡ false
before_next p next d l n = not_less_or next p d (not_below p next l) n

-- ---- the directory of a place: on the way to another before it, or after that

module _ (d p : Place) (n : Text) (is : p ≡ d ++ n ∷ []) where
  above_it : place_cmp d p ≡ Less
  above_it = ap (place_cmp d) is ∙ above_self d n []

  on_or_after : (from : Option Place) → IsBeyond from p → IsAmong (way_of from) d ⊎ IsBeyond from d
  on_or_after None l = inr tt
  on_or_after (Some a) l = by (is_lt (place_cmp a d)) refl
    where
      by : (v : Bool) → is_lt (place_cmp a d) ≡ v → IsAmong (way_to a) d ⊎ (place_cmp a d ≡ Less)
      by true e = inr (less_from (place_cmp a d) e)
      by false e = let w = within_it d a n e (subst (λ x. place_cmp a x ≡ Less) is l) in inl (subst (λ x. IsAmong (way_to x) d) (sym w.1) (among_way d w.0))

  -- of a place that is not above it, and is above its directory, that is one
  holds_it : (b : Place) → is_lt (place_cmp p b) ≡ false → place_cmp d b ≡ Less → (q : Place) × (b ≡ d ++ q)
  holds_it b low up = by (place_cmp b p) refl
    where
      by : (r : Ordering) → place_cmp b p ≡ r → (q : Place) × (b ≡ d ++ q)
      by Less e = within_it d b n (not_below d b up) (subst (λ x. place_cmp b x ≡ Less) is e)
      by Equal e = (n ∷ [], place_cmp_exact b p e ∙ is)
      by Greater e = absurd (true_not_false (sym (ap is_lt (below_from_greater place_cmp_total b p e)) ∙ low))

  -- so it is on the way to that one's directory
  on_way_there : (b : Place) → is_lt (place_cmp p b) ≡ false → place_cmp d b ≡ Less → IsAmong (way_of (directory_of b)) d
  on_way_there b low up = let k = holds_it b low up in by k.0 k.1
    where
      by : (q : Place) → b ≡ d ++ q → IsAmong (way_of (directory_of b)) d
      by [] f = absurd (not_below_itself place_cmp_total d (subst (λ x. place_cmp d x ≡ Less) (f ∙ append-nil d) up))
      by (m ∷ q) f =
          let s = has_directory (m ∷ q) (λ e. cc) in
          let there : directory_of b ≡ Some (d ++ s.0) = ap directory_of (f ∙ ap (λ x. d ++ x) s.1.1 ∙ sym (append_assoc d s.0 (s.1.0 ∷ []))) ∙ directory_is (d ++ s.0) s.1.0 in
          subst (λ o. IsAmong (way_of o) d) (sym there) (among_way d s.0)

  -- ---- in a part

  module _ (part : Part) (lies : lies_in part p ≡ true) where
    not_past : is_past (end_of part) d ≡ false
    not_past =
        let there = and_second (not (is_lt (place_cmp p (greater_of part.under part.from)))) (not (is_past (end_of part) p)) (sym (lies_exact part p) ∙ lies) in
        not_past_down (end_of part) p d (not-true (is_past (end_of part) p) there) (not_below d p above_it)

    in_part : is_lt (place_cmp d (greater_of part.under part.from)) ≡ false → lies_in part d ≡ true
    in_part low = lies_exact part d ∙ ap (λ b. not b && not (is_past (end_of part) d)) low ∙ ap not not_past

    abbrev IsPlaced : Option Place → Option Place → Type 0
    IsPlaced from above = IsAmong (way_of above) d ⊎ ((lies_in part d ≡ true) × IsBeyond from d)

    -- above a place that is not before the first of the part
    beyond : (b : Place) → first_place part ≡ Some b → (from : Option Place) → IsBeyond from p → is_before from b ≡ false → IsPlaced from from
    beyond b e None l t = absurd (true_not_false t)
    beyond b e (Some a) l t = by (on_or_after (Some a) l)
      where
        by : IsAmong (way_to a) d ⊎ (place_cmp a d ≡ Less) → IsPlaced (Some a) (Some a)
        by (inl i) = inl i
        by (inr k) = inr (in_part (subst (λ g. is_lt (place_cmp d g) ≡ false) (sym (unless_root_is (greater_of part.under part.from) b e)) (not_less_or d a b (not_below a d k) t)), k)

    -- above a place that is
    before : (b : Place) → first_place part ≡ Some b → (from : Option Place) → is_before from b ≡ true → IsPlaced from (directory_of b)
    before b e from t = by (is_lt (place_cmp d b)) refl
      where
        far : (from : Option Place) → is_before from b ≡ true → is_lt (place_cmp d b) ≡ false → IsBeyond from d
        far None t f = tt
        far (Some a) t f = below_from a b d (less_from (place_cmp a b) t) f

        by : (v : Bool) → is_lt (place_cmp d b) ≡ v → IsPlaced from (directory_of b)
        by true f = inl (on_way_there b (not_less_first part b p e lies) (less_from (place_cmp d b) f))
        by false f = inr (in_part (subst (λ g. is_lt (place_cmp d g) ≡ false) (sym (unless_root_is (greater_of part.under part.from) b e)) f), far from t f)

    -- it is on the way down, or is in the part beyond where the call begins
    placed : (from : Option Place) → IsBeyond from p → IsPlaced from (entry part from)
    placed from l = by (first_place part) refl
      where
        all : IsAmong (way_of from) d ⊎ IsBeyond from d → is_lt (place_cmp d (greater_of part.under part.from)) ≡ false → IsPlaced from from
        all (inl i) low = inl i
        all (inr k) low = inr (in_part low, k)

        at : (b : Place) (v : Bool) → first_place part ≡ Some b → is_before from b ≡ v → IsPlaced from (entry_by (Some b) from)
        at b true e t = subst (λ v. IsPlaced from (cond v (directory_of b) from)) (sym t) (before b e from t)
        at b false e t = subst (λ v. IsPlaced from (cond v (directory_of b) from)) (sym t) (beyond b e from l t)

        by : (o : Option Place) → first_place part ≡ o → IsPlaced from (entry_by (first_place part) from)
        by None e =
            subst (λ o. IsPlaced from (entry_by o from)) (sym e)
            (all (on_or_after from l) (subst (λ g. is_lt (place_cmp d g) ≡ false) (sym (none_is (greater_of part.under part.from) e)) (nothing_above d)))
        by (Some b) e = subst (λ o. IsPlaced from (entry_by o from)) (sym e) (at b (is_before from b) e refl)

-- ---- what was listed

module _ (further : Further) (root : StorageRoot) where
  looked_there : (from to : Option Place) (d : Place) → is_looked_into root d ≡ true → IsBeyond from d → IsWithin to d → IsAmong (looked_between root from to) d
  unfolding looked_between
  looked_there from to d h l u = among_between _ from to d (is_directory root d h) l u

  module _ (part : Part) (from : Option Place) where
    to_looked : (to : Option Place) (d : Place) → IsAmong (looked_between root from to) d → lies_in part d ≡ true → IsAmong (looked_in root part from to) d
    to_looked to d i l = subst (λ ds. IsAmong ds d) (sym (places_within_is part (looked_between root from to))) (among_filter (lies_in part) (looked_between root from to) d i l)

    from_looked : (to : Option Place) (d : Place) → IsAmong (looked_in root part from to) d → IsAmong (looked_between root from to) d × (lies_in part d ≡ true)
    from_looked to d i = among_from_filter (lies_in part) (looked_between root from to) d (subst (λ ds. IsAmong ds d) (places_within_is part (looked_between root from to)) i)

    from_due : (p : Place) → IsAmong (due_within further root part from) p → IsAmong (due further root from) p × (lies_in part p ≡ true)
    from_due p i = among_from_filter (lies_in part) (due further root from) p (subst (λ ps. IsAmong ps p) (places_within_is part (due further root from)) i)

    module _ (down : List Place) (all : AreAllListed root (way_of (entry part from)) down) where
      module _ (listed : List Place) where
        listed_there : (d p : Place) (n : Text) → p ≡ d ++ n ∷ [] → is_reached root d ≡ true → is_looked_into root d ≡ true → lies_in part p ≡ true → IsBeyond from p
            → ((e : Place) → IsAmong (looked_in root part from (Some p)) e → IsAmong listed e) → IsAmong (down ++ listed) d
        listed_there d p n is reached looked lies far covers = by (placed d p n is part lies from far)
          where
            by : IsAmong (way_of (entry part from)) d ⊎ ((lies_in part d ≡ true) × IsBeyond from d) → IsAmong (down ++ listed) d
            by (inl i) = among_left down listed d (all d i reached)
            by (inr k) = among_right down listed d (covers d (to_looked (Some p) d (looked_there from (Some p) d looked k.1 (not_below d p (above_it d p n is))) k.0))

        -- a file of what is due there, up to which all was listed
        lies_there : (p : Place) → is_hashed further root p ≡ true → IsAmong (due_within further root part from) p
            → ((e : Place) → IsAmong (looked_in root part from (Some p)) e → IsAmong listed e) → LiesIn (down ++ listed) p
        lies_there p h i covers =
            let k = hashed_within further root p h in
            let due = from_due p i in
            (k.0, (k.1.0, (listed_there k.0 p k.1.0 k.1.1.1 k.1.1.0.0 k.1.1.0.1 due.1 (among_beyond further root from p due.0) covers, k.1.1.1)))

      -- ---- what was taken

      pub taken_lie : (to : Option Place) (done later : List Place) → due_in further root (end_of part) (stand root part from) ≡ done ++ later
          → ((p d : Place) → IsBeforeAll place_cmp p later → is_lt (place_cmp p d) ≡ false → IsWithin to d) → FilesLieIn further root done (down ++ looked_in root part from to)
      taken_lie to done later due_are far p i h =
          let halves : due_within further root part from ≡ done ++ later = sym (due_starts further root part from) ∙ due_are in
          let up : IsBeforeAll place_cmp p later = ascends_across place_cmp done later p (subst (IsAscending place_cmp) halves (due_within_ascends further root part from)) i in
          let there : IsAmong (due_within further root part from) p = subst (λ ps. IsAmong ps p) (sym halves) (among_left done later p i) in
          lies_there (looked_in root part from to) p h there (λ d j. let k = from_looked (Some p) d j in to_looked to d (looked_further root from to p d (far p d up) k.0) k.1)

      module _ {t u : Store} {old new : Option (List ℕ)} {stood : Option Place} {finding : Bool} {why : ReportStop}
          (k : Halts further root (end_of part) t u old new (stand root part from) stood finding why) where
        due_there : (p : Place) → IsAmong (k.done ++ k.begun) p → IsAmong (due_within further root part from) p
        due_there p i =
            subst (λ ps. IsAmong ps p) (sym (sym (due_starts further root part from) ∙ k.due_are))
            (among_both k.done k.begun (due_in further root (end_of part) stood) p (λ j. among_first (due_in further root (end_of part) stood) p (subst (λ ps. IsAmong ps p) (sym k.one.1) (among_left k.begun k.one.0 p j))) i)

        pub halted_lie : FilesLieIn further root (k.done ++ k.begun) (down ++ k.listed)
        halted_lie p i h =
            lies_there k.listed p h (due_there p i) (λ d j. k.there p i d (subst (λ ds. IsAmong ds d) (sym (looked_starts further root part from (Some p))) j))

-- ---- a check

module _ (further : Further) (root : StorageRoot) (s t : Store) (p : Place) (g : GoesDown further root s t (Some p)) where
  pub checked_lie : FilesLieIn further root (p ∷ []) g.listed
  checked_lie q (inl e) h =
      let k = hashed_within further root q h in
      (k.0, (k.1.0, (g.all_listed k.0 (subst (λ x. IsAmong (way_to x) k.0) (sym k.1.1.1 ∙ e) (among_way k.0 (k.1.0 ∷ []))) k.1.1.0.0, k.1.1.1)))
  checked_lie q (inr i) h = absurd i

  pub front_lies : (begun rest : List Place) → p ∷ [] ≡ begun ++ rest → FilesLieIn further root begun g.listed
  front_lies begun rest is q i h = checked_lie q (subst (λ qs. IsAmong qs q) (sym is) (among_left begun rest q i)) h
