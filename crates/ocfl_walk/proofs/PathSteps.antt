-- A step to a path of the table at which nothing is seen.
use Rattle.std.proofs.Common.{◌≡◌, inl, inr, ◌+◌, ◌<◌, ◌≤◌, List, [], ◌∷◌, ◌++◌, refl, sym, ◌∙◌, ap, subst, true, false, Bool, map, filter, Option, Some, None, length, drop, arith}
use Rattle.std.proofs.{lemmas.List.{length-append}, Math.Seq.{drop-append_seam}}
use Rattle.std.specs.{Prelude.{cond, find, option_map}, List.{AllByRecursion}, Ordering.{is_lt}}
use Rattle.std.specs.declared.cmp.Ordering.TheVariants.{Less}
use Rattle.ocfl_tree.specs.{Place.{Place, place_cmp, begins}, Ascending.{IsAmong, IsBeforeAll}}
use Rattle.ocfl_tree.specs.declared.store.Entry.{Entry}
use Rattle.ocfl_tree.proofs.Orders.{place_cmp_total, true_not_false}
use Rattle.ocfl_inventory.specs.{Table.{paths_of}, ListedPath.{max_elements}}
use Rattle.ocfl_inventory.specs.NextPath as table
use Rattle.ocfl_walk.specs.Standing.{Pile, frames_of, paths_above, size_of, levels}
use Rattle.ocfl_walk.specs.Internal.Standing.{IsAroundIf, IsBelowNext, IsChain, IsOrderly, next_of, path_from, trimmed, trimmed_from}
use Rattle.ocfl_item.specs.{Around.{IsNamedIn}, declared.meeting.Around.{Around}}
use Rattle.ocfl_rules.proofs.BelowLaws.{begins_front, begins_rest, cmp_behind, equal_itself, less_from}
use Rattle.ocfl_walk.proofs.{EndLaws.{begins_between}, OrderlyLaws.{before_below}}

-- what was found passes the test, and is one of the list
found : (test : Place → Bool) (ps : List Place) (q : Place) → find test ps ≡ Some q → (test q ≡ true) × IsAmong ps q
found test [] q e = absurd cc
found test (p ∷ ps) q e = by (test p) refl e (found test ps q)
  where
    by : (b : Bool) → test p ≡ b → cond b (Some p) (find test ps) ≡ Some q → (find test ps ≡ Some q → (test q ≡ true) × IsAmong ps q) → (test q ≡ true) × IsAmong (p ∷ ps) q
    by true f g k = let same : p ≡ q = cc in (ap test (sym same) ∙ f, inl (sym same))
    by false f g k = let w = k g in (w.0, inr w.1)

record IsOnward (last b : Place) (a : Around) : Type 0 where
  pub path : Place
  pub is : b ≡ a.place ++ path
  pub among : IsAmong (paths_of a.table) path
  pub above : place_cmp last b ≡ Less

onward : (last b : Place) (a : Around) → begins a.place last ≡ true → path_from last (Some a) ≡ Some b → IsOnward last b a
onward last b a h e = by (table.next_path a.table (Some (drop (length a.place) last))) refl e
  where
    rest : (r : Place) × (last ≡ a.place ++ r)
    rest = begins_rest a.place last h

    inner : drop (length a.place) last ≡ rest.0
    inner = ap (drop (length a.place)) rest.1 ∙ drop-append_seam a.place rest.0

    by : (o : Option Place) → table.next_path a.table (Some (drop (length a.place) last)) ≡ o → option_map (λ q. a.place ++ q) o ≡ Some b → IsOnward last b a
    by None f g = absurd cc
    by (Some q) f g =
        let k = found (λ p. is_lt (place_cmp (drop (length a.place) last) p)) (paths_of a.table) q f in
        let is : b ≡ a.place ++ q = cc in
        record {
          path = q;
          is = is;
          among = k.1;
          above = (λ i. place_cmp (rest.1 i) (is i)) ∙ cmp_behind a.place rest.0 q ∙ ap (λ r. place_cmp r q) (sym inner) ∙ less_from _ k.0;
        }

above_all : (b x : Place) (ys : List Place) → place_cmp b x ≡ Less → IsBeforeAll place_cmp x ys → IsBeforeAll place_cmp b ys
above_all b x [] l h = tt
above_all b x (y ∷ ys) l h = (place_cmp_total.trans b x y l h.0, above_all b x ys l h.1)

pub fewer_or_same : (f g : Place → Bool) (ps : List Place) → ((q : Place) → g q ≡ true → f q ≡ true) → length (filter g ps) ≤ length (filter f ps)
fewer_or_same f g [] h = omega arith
fewer_or_same f g (p ∷ ps) h = by (f p) (g p) refl refl (fewer_or_same f g ps h)
  where
    by : (a b : Bool) → f p ≡ a → g p ≡ b → length (filter g ps) ≤ length (filter f ps) → length (cond b (p ∷ filter g ps) (filter g ps)) ≤ length (cond a (p ∷ filter f ps) (filter f ps))
    by true true e k l = omega (arith, l)
    by true false e k l = omega (arith, l)
    by false true e k l = absurd (true_not_false (sym (h p k) ∙ e))
    by false false e k l = l

fewer : (f g : Place → Bool) (ps : List Place) (q : Place) → ((q : Place) → g q ≡ true → f q ≡ true) → IsAmong ps q → f q ≡ true → g q ≡ false → length (filter g ps) < length (filter f ps)
fewer f g [] q h i e k = absurd i
fewer f g (p ∷ ps) q h i e k = by (f p) (g p) refl refl i (fewer_or_same f g ps h) (λ j. fewer f g ps q h j e k)
  where
    by : (a b : Bool) → f p ≡ a → g p ≡ b → IsAmong (p ∷ ps) q → length (filter g ps) ≤ length (filter f ps)
        → (IsAmong ps q → length (filter g ps) < length (filter f ps)) → length (cond b (p ∷ filter g ps) (filter g ps)) < length (cond a (p ∷ filter f ps) (filter f ps))
    by a b u v (inl w) l m = here a b (sym u ∙ ap f (sym w) ∙ e) (sym v ∙ ap g (sym w) ∙ k) l
      where
        here : (a b : Bool) → a ≡ true → b ≡ false → length (filter g ps) ≤ length (filter f ps) → length (cond b (p ∷ filter g ps) (filter g ps)) < length (cond a (p ∷ filter f ps) (filter f ps))
        here true false x y l = omega (arith, l)
        here true true x y l = absurd (true_not_false y)
        here false b x y l = absurd (true_not_false (sym x))
    by true true u v (inr j) l m = let n = m j in omega (arith, n)
    by true false u v (inr j) l m = omega (arith, l)
    by false true u v (inr j) l m = absurd (true_not_false (sym (h p v) ∙ u))
    by false false u v (inr j) l m = m j

head_some : (ps qs : List Pile) (d : Place) → trimmed ps ≡ (d, []) ∷ qs → ⊥
head_some [] qs d e = omega (arith, ap length e)
head_some (p ∷ ps) qs d e = by p.0 p.1 e (head_some ps qs d)
  where
    by : (c : Place) (es : List Entry) → trimmed_from c es (trimmed ps) ps ≡ (d, []) ∷ qs → (trimmed ps ≡ (d, []) ∷ qs → ⊥) → ⊥
    by c [] g k = k g
    by c (x ∷ es) g k = let same : ◌≡◌ {A = Place × List Entry} (c, x ∷ es) (d, []) = cc in omega (arith, ap (λ p. length p.1) same)

-- on to a place above the last one and not above the next entry, in the object if there is one
module _ (last b : Place) (ps : List Pile) (a : Option Around) (h : IsOrderly last ps a) (over : place_cmp last b ≡ Less) where
  pub size_on : size_of (Some b) ps a ≤ size_of (Some last) ps a
  unfolding size_of
  size_on = let f = paths a in omega (arith, f)
    where
      paths : (a : Option Around) → paths_above b a ≤ paths_above last a
      paths None = omega arith
      paths (Some o) = fewer_or_same (λ q. is_lt (place_cmp last (o.place ++ q))) (λ q. is_lt (place_cmp b (o.place ++ q))) (paths_of o.table)
          (λ q u. ap is_lt (place_cmp_total.trans last b (o.place ++ q) over (less_from _ u)))

  pub orderly_on : IsAroundIf b a → trimmed ps ≡ ps → IsBelowNext b (next_of ps) → IsOrderly b ps a
  orderly_on object t n = record { chain = chain ps t n h.chain; few = h.few; object = object }
    where
      chain : (ps : List Pile) → trimmed ps ≡ ps → IsBelowNext b (next_of ps) → IsChain last levels (frames_of ps) → IsChain b levels (frames_of ps)
      chain [] t n c = tt
      chain (q ∷ ps) t n c = by q.0 q.1 t n c
        where
          by : (d : Place) (es : List Entry) → trimmed ((d, es) ∷ ps) ≡ (d, es) ∷ ps → IsBelowNext b (next_of ((d, es) ∷ ps))
              → IsChain last levels ((d, map (λ e. e.name) es) ∷ frames_of ps) → IsChain b levels ((d, map (λ e. e.name) es) ∷ frames_of ps)
          by d [] t n c = absurd (head_some ((d, []) ∷ ps) ps d t)
          by d (e ∷ es) t n c =
              let r = begins_rest d last c.0 in (
                begins_between d r.0 (e.name ∷ []) b (subst (λ x. place_cmp x b ≡ Less) r.1 over) n,
                c.1,
                (n, above_all b (d ++ e.name ∷ []) (map (λ m. d ++ m ∷ []) (map (λ x. x.name) es)) n (before_below d [] e.name (map (λ x. x.name) es) c.3.0)),
                c.3,
                c.4,
              )

-- ---- to a place that the table names

inner_is : (o x : Place) → begins o x ≡ true → x ≡ o ++ drop (length o) x
inner_is o x h = let r = begins_rest o x h in r.1 ∙ ap (λ y. o ++ y) (sym (ap (drop (length o)) r.1 ∙ drop-append_seam o r.0))

-- an object's place has at most 127 names, and a path of its table at most 128
pub named_short : (x : Place) (a : Option Around) → IsAroundIf x a → IsNamedIn x a → length x ≤ 255
named_short x None h n = absurd n
named_short x (Some o) h n =
    let l : length x ≡ length o.place + length (drop (length o.place) x) = ap length (inner_is o.place x h.holds) ∙ length-append o.place (drop (length o.place) x) in
    let s = fits (paths_of o.table) (drop (length o.place) x) h.fit.short n in
    omega (arith, l, s, h.depth)
  where
    fits : (qs : List Place) (q : Place) → AllByRecursion (λ y. length y ≤ max_elements) qs → IsAmong qs q → length q ≤ max_elements
    fits [] q k i = absurd i
    fits (y ∷ qs) q k (inl e) = subst (λ z. length z ≤ max_elements) (sym e) k.0
    fits (y ∷ qs) q k (inr i) = fits qs q k.1 i

module _ (last b : Place) (ps : List Pile) (a : Option Around) (over : place_cmp last b ≡ Less) (object : IsAroundIf b a) (named : IsNamedIn b a) where
  named_fewer : paths_above b a < paths_above last a
  named_fewer = by a object named
    where
      by : (a : Option Around) → IsAroundIf b a → IsNamedIn b a → paths_above b a < paths_above last a
      by None k n = absurd n
      by (Some o) k n =
          let is = inner_is o.place b k.holds in
          fewer (λ q. is_lt (place_cmp last (o.place ++ q))) (λ q. is_lt (place_cmp b (o.place ++ q))) (paths_of o.table) (drop (length o.place) b)
          (λ q u. ap is_lt (place_cmp_total.trans last b (o.place ++ q) over (less_from _ u))) n (ap is_lt (ap (place_cmp last) (sym is) ∙ over))
          (ap is_lt (ap (place_cmp b) (sym is) ∙ equal_itself place_cmp_total b))

  pub size_named : size_of (Some b) ps a < size_of (Some last) ps a
  unfolding size_of
  size_named = let f = named_fewer in omega (arith, f)

-- the table's next path is above the last place and in the object, and is one of the table's
pub path_ahead : (last b : Place) (a : Option Around) → IsAroundIf last a → path_from last a ≡ Some b → (place_cmp last b ≡ Less) × IsAroundIf b a × IsNamedIn b a
path_ahead last b None k e = absurd cc
path_ahead last b (Some o) k e =
    let w = onward last b o k.holds e in (
      w.above,
      record { holds = subst (λ x. begins o.place x ≡ true) (sym w.is) (begins_front o.place w.path); depth = k.depth; fit = k.fit },
      subst (IsAmong (paths_of o.table)) (sym (ap (drop (length o.place)) w.is ∙ drop-append_seam o.place w.path)) w.among,
    )
