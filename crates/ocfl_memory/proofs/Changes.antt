-- What a put and a removal do to a tree in memory.
use Rattle.std.proofs.Common.{◌≡◌, ◌≢◌, ℕ, ◌<◌, ◌≤◌, Bool, true, false, cond, not, List, [], ◌∷◌, ◌++◌, length, Option, Some, None, sym, ◌∙◌, ap, subst, refl, arith, append-nil, length-append, leb, filter}
use Rattle.std.proofs.{lemmas.Bool.{leb-false}, lemmas.List.{same_from_push}}
use Rattle.std.specs.Prelude.{is_some, MatchOption, ⊤, Result, Ok, Err}
use Rattle.ocfl_tree.specs.Place.{Text, Place, begins, child_name}
use Rattle.ocfl_tree.specs.StorageRoot.{StorageRoot, Leaf, dir, lookup, is_dir_leaf, at, is_dir, names_in}
use Rattle.ocfl_tree.specs.{declared.store.Entry.{Entry}, declared.store.Opening.{Opening}}
use Rattle.ocfl_memory.specs.Faults.{Faults}
use Rattle.ocfl_memory.specs.Internal.Nodes.{with_entry, kept_in, AreOnce, stands_at, kept_refusal}
use Rattle.ocfl_memory.specs.MemTree.{parent, put_refusal, after_put, Puts, Removes}
use Rattle.ocfl_memory.specs.{Internal.Kept.{IsKept, seen}, declared.build.BuildStop.{BuildStop}}
use Rattle.ocfl_memory.specs.declared.build.BuildStop.TheVariants.{Exists, NoParent, Full}
use Rattle.ocfl_memory.specs.declared.mem_tree.OpenFile.{OpenFile}
use Rattle.ocfl_tree.proofs.{Places.{append-child_name}, Trees.{dir_from_leaf, some_not_none, at_in_dir}}
use Rattle.ocfl_memory.proofs.Listings.{length-names_in}
use Rattle.ocfl_memory.proofs.Trees.{front_last, parent-append, rooted_from_above, rooted_push, put_leaves, once_push, is_left, removal_leaves, rooted_left, once_left}

-- the refusal that was found is that of the tree
pub refusal_found : (nodes : StorageRoot) (os : List Opening) (o : Option OpenFile) (p : Place) → IsKept nodes os o → kept_refusal nodes p ≡ put_refusal nodes p
refusal_found nodes os o p k =
    let here = k.rooted p in
    let above = k.rooted (parent p) in
    let many = length-names_in nodes (parent p) k.once in
    λ i. cond (is_some (sym here i)) (Some Exists) (cond (not (is_dir_leaf (sym above i))) (Some NoParent) (cond (leb 1000000 (sym many i)) (Some Full) None))

-- what is known if nothing is refused
record IsFree (nodes : StorageRoot) (p : Place) : Type 0 where
  d : Place
  n : Text
  below : p ≡ d ++ n ∷ []
  free : at nodes p ≡ None
  directory : at nodes d ≡ Some dir
  room : length (names_in nodes d) < 1000000

no_refusal : (nodes : StorageRoot) (p : Place) → put_refusal nodes p ≡ None → IsFree nodes p
no_refusal nodes [] h = absurd cc
no_refusal nodes (k ∷ p) h =
    let e = front_last k p in
    by e.0 e.1 e.2 (at nodes (k ∷ p)) refl (is_dir nodes (parent (k ∷ p))) refl (leb 1000000 (length (names_in nodes (parent (k ∷ p))))) refl h
  where
    by : (d : Place) (n : Text) → k ∷ p ≡ d ++ n ∷ [] → (o : Option Leaf) → at nodes (k ∷ p) ≡ o → (b : Bool) → is_dir nodes (parent (k ∷ p)) ≡ b → (c : Bool)
        → leb 1000000 (length (names_in nodes (parent (k ∷ p)))) ≡ c
        → cond (is_some o) (Some Exists) (cond (not b) (Some NoParent) (cond c (Some Full) None)) ≡ None → IsFree nodes (k ∷ p)
    by d n e (Some x) h b i c j none = absurd (some_not_none Exists none)
    by d n e None h false i c j none = absurd (some_not_none NoParent none)
    by d n e None h true i true j none = absurd (some_not_none Full none)
    by d n e None h true i false j none =
        let above : parent (k ∷ p) ≡ d = ap parent e ∙ parent-append d n in
        record {
          d = d;
          n = n;
          below = e;
          free = h;
          directory = ap (at nodes) (sym above) ∙ dir_from_leaf (at nodes (parent (k ∷ p))) i;
          room = subst (λ q. length (names_in nodes q) < 1000000) above (leb-false 1000000 (length (names_in nodes (parent (k ∷ p)))) j);
        }

with_entry-append : (o : Option Text) (x : Leaf) (es fs : List Entry) → with_entry o x (es ++ fs) ≡ with_entry o x es ++ fs
with_entry-append None x es fs = refl
with_entry-append (Some n) x es fs = refl

kept_in-push : (nodes : StorageRoot) (p : Place) (x : Leaf) (d : Place) → kept_in (nodes ++ (p, x) ∷ []) d ≡ kept_in nodes d ++ with_entry (child_name d p) x []
kept_in-push [] p x d = refl
kept_in-push (e ∷ nodes) p x d = ap (with_entry (child_name d e.0) e.1) (kept_in-push nodes p x d) ∙ with_entry-append (child_name d e.0) e.1 (kept_in nodes d) (with_entry (child_name d p) x [])

few_push : (nodes : StorageRoot) (p : Place) (x : Leaf) → AreOnce nodes → IsFree nodes p → ((d : Place) → length (kept_in nodes d) ≤ 1000000) → (d : Place)
    → length (kept_in (nodes ++ (p, x) ∷ []) d) ≤ 1000000
few_push nodes p x once free few d = rw (kept_in-push nodes p x d) (by (child_name d p) refl)
  where
    by : (o : Option Text) → child_name d p ≡ o → length (kept_in nodes d ++ with_entry o x []) ≤ 1000000
    by None is = rw (append-nil (kept_in nodes d)) (few d)
    by (Some m) is =
        let same : d ≡ free.d = (same_from_push d free.d m free.n (sym (append-child_name d p m is) ∙ free.below)).0 in
        let room : length (names_in nodes d) < 1000000 = rw same free.room in
        let many = length-names_in nodes d once in
        omega (arith, length-append (kept_in nodes d) (with_entry (Some m) x []))

pub kept_push : (nodes new : StorageRoot) (p : Place) (x : Leaf) (os : List Opening) (o : Option OpenFile) → put_refusal nodes p ≡ None
    → new ≡ nodes ++ (p, x) ∷ [] → IsKept nodes os o → IsKept new os None
kept_push nodes new p x os o none added k =
    let free = no_refusal nodes p none in
    let absent : lookup nodes p ≡ None = ap (lookup nodes) free.below ∙ sym (at_in_dir nodes free.d free.n free.directory) ∙ ap (at nodes) (sym free.below) ∙ free.free in
    rw added (record {
      once = once_push nodes p x absent k.once;
      rooted = subst (λ q. (r : Place) → at (nodes ++ (q, x) ∷ []) r ≡ stands_at (nodes ++ (q, x) ∷ []) r) (sym free.below) (rooted_push nodes free.d free.n x k.rooted free.directory);
      few = few_push nodes p x k.once free k.few;
      reading = tt;
    })

pub puts : (nodes new : StorageRoot) (p : Place) (x : Leaf) (o : Option OpenFile) (os : List Opening) (ls us : List Place) (f l : ℕ) (faults : Faults)
    → put_refusal nodes p ≡ None → new ≡ nodes ++ (p, x) ∷ [] → IsKept nodes os o
    → Puts (seen nodes o os ls us f l faults).store (seen new None os ls us f l faults).store p x
puts nodes new p x o os ls us f l faults none added k =
    let free = no_refusal nodes p none in
    rw added (record {
      tree = subst (λ q. (r : Place) → at (nodes ++ (q, x) ∷ []) r ≡ after_put nodes q x r) (sym free.below)
          (put_leaves nodes free.d free.n x k.rooted free.directory (ap (at nodes) (sym free.below) ∙ free.free));
      changes = record { closed = refl; openings_are = refl; listings_are = refl; failed_are = refl; failures_are = refl; largest = refl };
    })

-- ---- a removal

few_left : (nodes : StorageRoot) (p d : Place) → length (kept_in (filter (is_left p) nodes) d) ≤ length (kept_in nodes d)
few_left [] p d = omega arith
few_left (e ∷ nodes) p d = by (not (begins p e.0)) (few_left nodes p d)
  where
    both : (o : Option Text) (xs ys : List Entry) → length xs ≤ length ys → length (with_entry o e.1 xs) ≤ length (with_entry o e.1 ys)
    both None xs ys h = h
    both (Some n) xs ys h = omega (arith, h)

    more : (o : Option Text) (xs ys : List Entry) → length xs ≤ length ys → length xs ≤ length (with_entry o e.1 ys)
    more None xs ys h = h
    more (Some n) xs ys h = omega (arith, h)

    by : (b : Bool) → length (kept_in (filter (is_left p) nodes) d) ≤ length (kept_in nodes d)
        → length (kept_in (cond b (e ∷ filter (is_left p) nodes) (filter (is_left p) nodes)) d) ≤ length (with_entry (child_name d e.0) e.1 (kept_in nodes d))
    by true h = both (child_name d e.0) _ _ h
    by false h = more (child_name d e.0) _ _ h

pub kept_left : (nodes new : StorageRoot) (p : Place) (os : List Opening) (o : Option OpenFile) → p ≢ [] → new ≡ filter (is_left p) nodes → IsKept nodes os o → IsKept new os None
kept_left nodes new p os o h is k = rw is (record {
  once = once_left nodes p k.once;
  rooted = rooted_left nodes p h k.rooted;
  few = λ d. omega (arith, few_left nodes p d, k.few d);
  reading = tt;
})

pub removes : (nodes new : StorageRoot) (p : Place) (o : Option OpenFile) (os : List Opening) (ls us : List Place) (f l : ℕ) (faults : Faults) → p ≢ []
    → new ≡ filter (is_left p) nodes → Removes (seen nodes o os ls us f l faults).store (seen new None os ls us f l faults).store p
removes nodes new p o os ls us f l faults h is = rw is (record {
  tree = removal_leaves nodes p h;
  changes = record { closed = refl; openings_are = refl; listings_are = refl; failed_are = refl; failures_are = refl; largest = refl };
})

-- if nothing was refused, there was no reason to
pub not_refused : (o : Option BuildStop) → MatchOption o ⊤ (λ stop. ◌≡◌ {A = Result (Unit {0}) BuildStop} (Ok tt) (Err stop)) → o ≡ None
not_refused None h = refl
not_refused (Some stop) h = absurd cc

-- nothing but the root
pub kept_none : (os : List Opening) → IsKept [] os None
kept_none os = record {
  once = tt;
  rooted = rooted_from_above [] (λ d n x there. absurd (some_not_none x (sym there)));
  few = λ d. omega arith;
  reading = tt;
}
