-- A stand stays in order, on any store.
use Rattle.std.proofs.Common.{◌≡◌, ℕ, ◌+◌, ◌<◌, ◌≤◌, List, [], ◌∷◌, ◌++◌, refl, sym, ◌∙◌, ap, subst, true, map, Option, Some, None, length, append_assoc, arith}
use Rattle.std.proofs.lemmas.List.{length_push}
use Rattle.std.specs.{Prelude.{IfSome}, Ordering.{ordering_then}, List.{AllByRecursion}}
use Rattle.std.specs.declared.cmp.Ordering.{Ordering}
use Rattle.std.specs.declared.cmp.Ordering.TheVariants.{Less, Equal, Greater}
use Rattle.ocfl_tree.specs.Place.{Place, Text, text_cmp, place_cmp, begins}
use Rattle.ocfl_tree.specs.{Ascending.{IsAscending, IsBeforeAll}, declared.store.Entry.{Entry}}
use Rattle.ocfl_tree.specs.StorageRoot.{max_entries}
use Rattle.ocfl_tree.proofs.Places.{begins-itself}
use Rattle.ocfl_rules.specs.{Zone.{max_listed_depth}, Stack.{Frame}}
use Rattle.ocfl_walk.specs.Standing.{Pile, back_onto, frames_of, size_of, weigh, entry_weight, paths_above, levels}
use Rattle.ocfl_walk.specs.Internal.Standing.{IsAroundIf, IsChain, IsFairPile, IsFitIf, IsOrderly, IsOrderlyIf, IsTaken, left_of_folder, pushed, trimmed, trimmed_from}
use Rattle.ocfl_item.specs.{declared.folder.Folder.{Folder}, declared.meeting.Around.{Around}}
use Rattle.ocfl_rules.proofs.BelowLaws.{above_self, above_name, begins_front, begins_rest}

-- what is not longer than d and is above it is above all below d
pub above_longer : (d y r : Place) → place_cmp d y ≡ Less → length y ≤ length d → place_cmp (d ++ r) y ≡ Less
above_longer [] [] r h l = absurd cc
above_longer [] (m ∷ y) r h l = absurd (omega (arith, l))
above_longer (n ∷ d) [] r h l = absurd cc
above_longer (n ∷ d) (m ∷ y) r h l = by (text_cmp n m) refl h (λ g. above_longer d y r g (omega (arith, l)))
  where
    by : (o : Ordering) → text_cmp n m ≡ o → ordering_then o (place_cmp d y) ≡ Less → (place_cmp d y ≡ Less → place_cmp (d ++ r) y ≡ Less) → place_cmp (n ∷ d ++ r) (m ∷ y) ≡ Less
    by Less e g k = ap (λ o. ordering_then o (place_cmp (d ++ r) y)) e
    by Equal e g k = ap (λ o. ordering_then o (place_cmp (d ++ r) y)) e ∙ k g
    by Greater e g k = absurd cc

pub begins_on : (d e p : Place) → begins d e ≡ true → begins e p ≡ true → begins d p ≡ true
begins_on d e p h k =
    let r = begins_rest d e h in
    let s = begins_rest e p k in
    subst (λ x. begins d x ≡ true) (sym (s.1 ∙ ap (λ x. x ++ s.0) r.1 ∙ append_assoc d r.0 s.0)) (begins_front d (r.0 ++ s.0))

before_longer : (d p d' : Place) (ns : List Text) → begins d p ≡ true → length d' < length d → IsBeforeAll place_cmp d (map (λ n. d' ++ n ∷ []) ns)
    → IsBeforeAll place_cmp p (map (λ n. d' ++ n ∷ []) ns)
before_longer d p d' [] h l b = tt
before_longer d p d' (n ∷ ns) h l b =
    let r = begins_rest d p h in
    (subst (λ x. place_cmp x (d' ++ n ∷ []) ≡ Less) (sym r.1) (above_longer d (d' ++ n ∷ []) r.0 b.0 (omega (arith, l, length_push d' n))), before_longer d p d' ns h l b.1)

-- a chain that leads down to d leads to all below d
pub chain_on : (p d : Place) (k : ℕ) (fs : List Frame) → begins d p ≡ true → length d < k → IsChain d (length d) fs → IsChain p k fs
chain_on p d k [] h l c = tt
chain_on p d k (f ∷ fs) h l c = (begins_on f.0 d p c.0 h, omega (arith, l, c.1), before_longer d p f.0 f.1 h c.1 c.2, c.3, c.4)

chain_trimmed : (p : Place) (k : ℕ) (ps : List Pile) → IsChain p k (frames_of ps) → IsChain p k (frames_of (trimmed ps))
chain_trimmed p k [] c = c
chain_trimmed p k (q ∷ ps) c = by q.0 q.1 c (chain_trimmed p k ps (chain_on p q.0 k (frames_of ps) c.0 c.1 c.4))
  where
    by : (d : Place) (es : List Entry) → IsChain p k ((d, map (λ e. e.name) es) ∷ frames_of ps) → IsChain p k (frames_of (trimmed ps)) → IsChain p k (frames_of (trimmed_from d es (trimmed ps) ps))
    by d [] h l = l
    by d (e ∷ es) h l = h

few_trimmed : (ps : List Pile) → AllByRecursion (λ p. length p.1 ≤ max_entries) ps → AllByRecursion (λ p. length p.1 ≤ max_entries) (trimmed ps)
few_trimmed [] h = h
few_trimmed (q ∷ ps) h = by q.0 q.1 h.0 h.1 (few_trimmed ps h.1)
  where
    by : (d : Place) (es : List Entry) → length es ≤ max_entries → AllByRecursion (λ p. length p.1 ≤ max_entries) ps
        → AllByRecursion (λ p. length p.1 ≤ max_entries) (trimmed ps) → AllByRecursion (λ p. length p.1 ≤ max_entries) (trimmed_from d es (trimmed ps) ps)
    by d [] k m l = l
    by d (e ∷ es) k m l = (k, m)

pub orderly_trimmed : (last : Option Place) (ps : List Pile) (a : Option Around) → IsOrderlyIf last ps a → IsOrderlyIf last (trimmed ps) a
orderly_trimmed None ps a h = (ap trimmed h.0, h.1)
orderly_trimmed (Some p) ps a h = record { chain = chain_trimmed p levels ps h.chain; few = few_trimmed ps h.few; object = h.object }

weigh_trimmed : (w : ℕ) (ps : List Pile) → weigh w (trimmed ps) ≡ weigh w ps
weigh_trimmed w [] = refl
weigh_trimmed w (q ∷ ps) = by q.0 q.1 (weigh_trimmed w ps)
  where
    by : (d : Place) (es : List Entry) → weigh w (trimmed ps) ≡ weigh w ps → weigh w (trimmed_from d es (trimmed ps) ps) ≡ weigh w ((d, es) ∷ ps)
    by d [] h = grind (arith, h)
    by d (e ∷ es) h = refl

pub size_trimmed : (last : Option Place) (ps : List Pile) (a : Option Around) → size_of last (trimmed ps) a ≡ size_of last ps a
unfolding size_of
size_trimmed None ps a = refl
size_trimmed (Some p) ps a = ap (λ n. n + paths_above p a) (weigh_trimmed entry_weight ps)

pub fit_of : (last : Place) (ps : List Pile) (a : Option Around) → IsOrderly last ps a → IsFitIf a
fit_of last ps None h = tt
fit_of last ps (Some a) h = h.object.fit

-- ---- at an entry

pub before_below : (d r : Place) (n : Text) (ns : List Text) → IsBeforeAll text_cmp n ns → IsBeforeAll place_cmp (d ++ n ∷ r) (map (λ m. d ++ m ∷ []) ns)
before_below d r n [] h = tt
before_below d r n (m ∷ ns) h = (above_name d n m r [] h.0, before_below d r n ns h.1)

pub own_names : (x : Place) (ns : List Text) → IsBeforeAll place_cmp x (map (λ n. x ++ n ∷ []) ns)
own_names x [] = tt
own_names x (n ∷ ns) = (above_self x n [], own_names x ns)

-- with what is left of the listing of the last place on top
pub orderly_top : (d : Place) (left : List Entry) (ps : List Pile) (a : Option Around) → length d ≤ max_listed_depth → IsAscending text_cmp (map (λ e. e.name) left) → length left ≤ max_entries
    → IsChain d (length d) (frames_of ps) → AllByRecursion (λ p. length p.1 ≤ max_entries) ps → IsAroundIf d a → IsOrderly d ((d, left) ∷ ps) a
orderly_top d left ps a short up few chain fewer object = record {
  chain = (begins-itself d, omega (arith, short), own_names d (map (λ e. e.name) left), up, chain);
  few = (few, fewer);
  object = object;
}

module _ (last : Place) (ps new : List Pile) (entry : Entry) (a : Option Around) (h : IsOrderly last ps a) (t : IsTaken ps new entry) where
  pub old_chain : IsChain last levels ((t.place, entry.name ∷ map (λ e. e.name) t.rest) ∷ frames_of t.others)
  old_chain = subst (λ qs. IsChain last levels (frames_of qs)) t.old_is h.chain

  pub entry_after : place_cmp last (t.place ++ entry.name ∷ []) ≡ Less
  entry_after = old_chain.2.0

  -- an entry is in a directory whose place has at most 127 names
  pub entry_short : (x : Place) → x ≡ t.place ++ entry.name ∷ [] → length x ≤ 255
  entry_short x e = omega (arith, ap length e, length_push t.place entry.name, old_chain.1)

  new_few : AllByRecursion (λ p. length p.1 ≤ max_entries) new
  new_few = let f = subst (AllByRecursion (λ p. length p.1 ≤ max_entries)) t.old_is h.few in let n : length t.rest ≤ max_entries = omega (arith, f.0) in subst
      (AllByRecursion (λ p. length p.1 ≤ max_entries)) (sym t.new_is) (n, f.1)

  chain_at_entry : (k : ℕ) → length t.place < k → IsChain (t.place ++ entry.name ∷ []) k (frames_of new)
  chain_at_entry k l = subst (λ qs. IsChain (t.place ++ entry.name ∷ []) k (frames_of qs)) (sym t.new_is)
      (begins_front t.place (entry.name ∷ []), l, before_below t.place [] entry.name (map (λ e. e.name) t.rest) old_chain.3.0, old_chain.3.1, old_chain.4)

  pub orderly_entry : (x : Place) → x ≡ t.place ++ entry.name ∷ [] → (f : Option Folder) → IfSome f (λ g. IsFairPile x g) → (a' : Option Around) → IsAroundIf x a' → IsOrderly x (pushed f new) a'
  orderly_entry x e None g a' h' = record { chain = subst (λ y. IsChain y levels (frames_of new)) (sym e) (chain_at_entry levels old_chain.1); few = new_few; object = h' }
  orderly_entry x e (Some f) g a' h' =
      let deeper : length t.place < length x = omega (arith, ap length e, length_push t.place entry.name) in
      let below : IsChain x (length x) (frames_of new) = subst (λ y. IsChain y (length x) (frames_of new)) (sym e) (chain_at_entry (length x) deeper) in
      subst (λ d. IsOrderly x ((d, left_of_folder f) ∷ new) a') (sym g.place) (orderly_top x (left_of_folder f) new a' g.depth g.ascends g.few below new_few h')

-- ---- room for one more listing

pub chain_short : (p : Place) (k : ℕ) (fs : List Frame) → IsChain p k fs → length fs ≤ k
chain_short p k [] c = omega arith
chain_short p k (f ∷ fs) c = let h = chain_short f.0 (length f.0) fs c.4 in omega (arith, h, c.1)

pub frames_count : (ps : List Pile) → length (frames_of ps) ≡ length ps
frames_count [] = refl
frames_count (p ∷ ps) = omega (arith, frames_count ps)

pub back_count : {A B : Type 0} (f : A → B) (xs : List A) (ys : List B) → length (back_onto f xs ys) ≡ length xs + length ys
back_count f [] ys = omega arith
back_count f (x ∷ xs) ys = let h = back_count f xs (f x ∷ ys) in omega (arith, h)
