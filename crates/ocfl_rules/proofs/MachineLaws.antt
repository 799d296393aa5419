-- The walk over a stack of listings and one table gives what is above the place at which it starts.
use Rattle.std.proofs.Common.{◌≡◌, inl, inr, ℕ, zero, suc, ◌<◌, ◌≤◌, List, [], ◌∷◌, ◌++◌, refl, sym, ◌∙◌, ap, subst, true, false, Bool, filter, Option, Some, None, length, arith}
use Rattle.std.specs.{Prelude.{cond, option_map}, Ordering.{is_lt}}
use Rattle.std.specs.declared.cmp.Ordering.TheVariants.{Less}
use Rattle.ocfl_tree.specs.Place.{Place, Text, text_cmp, place_cmp}
use Rattle.ocfl_tree.specs.Ascending.{ascending, IsBeforeAll, IsAscending, IsAmong}
use Rattle.ocfl_tree.specs.StorageRoot.{StorageRoot, Leaf}
use Rattle.ocfl_inventory.specs.Table.{Table, paths_of}
use Rattle.ocfl_rules.specs.Zone.{Zone, skipped, hierarchy, inside, zone, table_at, seen}
use Rattle.ocfl_rules.specs.Audit.{Unread, candidates, audit, after}
use Rattle.ocfl_rules.specs.Head.{on}
use Rattle.ocfl_rules.specs.Walk.{seen_names, IsClosed, item_at, is_reached}
use Rattle.ocfl_rules.specs.Stack.{Frame, listed_at, NoneSeenBetween, NoPathBetween, NoneSeenAbove, NoPathAbove, IsStack, IsNextPath, IsListed, entry_of, next_entry, first_of_list, next_path_of, next_path_in, next_path, lesser, next_place, taken_with, taken, lists_with, lists}
use Rattle.ocfl_rules.proofs.AuditExists.{seen_candidate, path_candidate, object_key, object_at, zone_is}
use Rattle.ocfl_rules.proofs.BelowLaws.{above, less_from, cmp_behind}
use Rattle.ocfl_rules.proofs.NextLaws.{walk_takes, walk_ends}
use Rattle.ocfl_rules.proofs.WalkLaws.{under_root, items_by_name, items_after_self}
use Rattle.ocfl_rules.proofs.StackLaws.{entry_seen, stack_starts, stack_pops, stack_stays, stack_ends, path_least, path_none, path_off, path_hierarchy}
use Rattle.ocfl_tree.proofs.Orders.{place_cmp_total, place_cmp_exact, true_not_false, not_below_itself, before_each, among_ascending, among_filter, among_from_filter, ascends_filter, ascends_ascending}
use Rattle.ocfl_report.specs.declared.further.Further.{Further}

-- ---- the number of places above

fewer_or_same : (ps : List Place) (last x : Place) → place_cmp last x ≡ Less → length (filter (above x) ps) ≤ length (filter (above last) ps)
fewer_or_same [] last x l = omega arith
fewer_or_same (p ∷ ps) last x l = by (above x p) (above last p) refl refl (fewer_or_same ps last x l)
  where
    by : (a b : Bool) → above x p ≡ a → above last p ≡ b → length (filter (above x) ps) ≤ length (filter (above last) ps)
        → length (cond a (p ∷ filter (above x) ps) (filter (above x) ps)) ≤ length (cond b (p ∷ filter (above last) ps) (filter (above last) ps))
    by true true e f h = omega (arith, h)
    by true false e f h = absurd (true_not_false (sym (ap is_lt (place_cmp_total.trans last x p l (less_from _ e))) ∙ f))
    by false true e f h = omega (arith, h)
    by false false e f h = h

fewer : (ps : List Place) (last x : Place) → place_cmp last x ≡ Less → IsAmong ps x → length (filter (above x) ps) < length (filter (above last) ps)
fewer [] last x l i = absurd i
fewer (p ∷ ps) last x l i = by (above x p) (above last p) refl refl i (fewer_or_same ps last x l) (fewer ps last x l)
  where
    by : (a b : Bool) → above x p ≡ a → above last p ≡ b → IsAmong (p ∷ ps) x → length (filter (above x) ps) ≤ length (filter (above last) ps)
        → (IsAmong ps x → length (filter (above x) ps) < length (filter (above last) ps))
        → length (cond a (p ∷ filter (above x) ps) (filter (above x) ps)) < length (cond b (p ∷ filter (above last) ps) (filter (above last) ps))
    by true b e f (inl g) h k = absurd (not_below_itself place_cmp_total x (ap (place_cmp x) g ∙ less_from _ e))
    by true true e f (inr j) h k = let m = k j in omega (arith, m)
    by true false e f (inr j) h k = absurd (true_not_false (sym (ap is_lt (place_cmp_total.trans last x p l (less_from _ e))) ∙ f))
    by false true e f j h k = omega (arith, h)
    by false false e f (inl g) h k = absurd (true_not_false (sym (ap is_lt (ap (place_cmp last) (sym g) ∙ l)) ∙ f))
    by false false e f (inr j) h k = k j

module _ (root : StorageRoot) (closed : IsClosed root) where
  -- ---- entries

  record IsEntry (last : Place) (k : Place × List Frame) : Type 0 where
    above_last : place_cmp last k.0 ≡ Less
    none_seen : NoneSeenBetween root last k.0
    stack : IsStack root k.0 k.1
    listed : IsListed root k.1
    candidate : IsAmong (candidates root) k.0

  abbrev EntryIs : Place → Option (Place × List Frame) → Type 0
  EntryIs last None = NoneSeenAbove root last
  EntryIs last (Some k) = IsEntry last k

  entry_is : (last : Place) (fs : List Frame) → IsStack root last fs → IsListed root fs → EntryIs last (next_entry root fs)
  entry_is last [] h l = stack_ends root closed last h
  entry_is last (f ∷ fs) h l = by f.0 f.1 h l.0 (λ g. entry_is last fs g l.1)
    where
      by : (d : Place) (ns : List Text) → IsStack root last ((d, ns) ∷ fs) → ((n : Text) → IsAmong ns n → IsAmong (seen_names root d) n)
          → (IsStack root last fs → EntryIs last (next_entry root fs)) → EntryIs last (entry_of root d ns fs (next_entry root fs))
      by d [] g m k = k g
      by d (n ∷ ns) g m k =
          let e = entry_seen root d n (m n (inl refl)) in
          let p = stack_pops root closed last d n ns fs e.0 g e.1 in
          record {
            above_last = p.0;
            none_seen = p.1.0;
            stack = p.1.1;
            listed = ((λ x i. i), ((λ x i. m x (inr i)), l.1));
            candidate = seen_candidate root (d ++ n ∷ []) e.0 e.1;
          }

  -- ---- paths

  record IsPath (last b : Place) : Type 0 where
    above_last : place_cmp last b ≡ Less
    none_named : (x : Place) → (place_cmp b x ≡ Less → ⊥) → NoPathBetween root last x
    candidate : IsAmong (candidates root) b

  abbrev PathIs : Place → Option Place → Type 0
  PathIs last None = NoPathAbove root last
  PathIs last (Some b) = IsPath last b

  path_is : (last : Place) → PathIs last (next_path root last)
  path_is last = by (zone root last) refl
    where
      least : (o s : Place) (t : Table) → zone root last ≡ inside o s → table_at root o ≡ Some t → (ps : List Place)
          → ps ≡ filter (above s) (ascending place_cmp (paths_of t)) → PathIs last (option_map (λ q. o ++ q) (first_of_list ps))
      least o s t z h [] e = path_none root last o s t z h
          (λ q i l. subst (λ xs. IsAmong xs q) (sym e) (among_filter (above s) (ascending place_cmp (paths_of t)) q ((among_ascending place_cmp_exact (paths_of t) q).0 i) (ap is_lt l)))
      least o s t z h (b ∷ ps) e =
          let here = among_from_filter (above s) (ascending place_cmp (paths_of t)) b (subst (λ xs. IsAmong xs b) e (inl refl)) in
          let among : IsAmong (paths_of t) b = (among_ascending place_cmp_exact (paths_of t) b).1 here.0 in
          let is = zone_is root last o s z in
          let next : IsNextPath t s b = record { among = among; above = less_from _ here.1; least = lower } in
          record {
            above_last = (λ i. place_cmp (is.whole i) (o ++ b)) ∙ cmp_behind o s b ∙ less_from _ here.1;
            none_named = λ x over. path_least root last o s t z h b x next over;
            candidate = path_candidate root o b t h (object_key root o is.below (object_at root o is.declares)) among;
          }
        where
          order : IsAscending place_cmp (b ∷ ps)
          order = subst (IsAscending place_cmp) (sym e) (ascends_filter place_cmp (above s) _ (ascends_ascending place_cmp_total (paths_of t)))

          lower : (q : Place) → IsAmong (paths_of t) q → place_cmp s q ≡ Less → place_cmp q b ≡ Less → ⊥
          lower q i l m = go (subst (λ xs. IsAmong xs q) (sym e) (among_filter (above s) (ascending place_cmp (paths_of t)) q ((among_ascending place_cmp_exact (paths_of t) q).0 i) (ap is_lt l)))
            where
              go : IsAmong (b ∷ ps) q → ⊥
              go (inl f) = not_below_itself place_cmp_total q (ap (place_cmp q) f ∙ m)
              go (inr j) = not_below_itself place_cmp_total q (place_cmp_total.trans q b q m (before_each place_cmp b ps order.0 q j))

      no_table : (o s : Place) → zone root last ≡ inside o s → table_at root o ≡ None → NoPathAbove root last
      no_table o s z h o' s' q t y g i l = let e : o' ≡ o = cc in let f : table_at root o' ≡ table_at root o = ap (table_at root) e in cc

      of_table : (o s : Place) → zone root last ≡ inside o s → (table : Option Table) → table_at root o ≡ table → PathIs last (next_path_of o s table)
      of_table o s z None h = no_table o s z h
      of_table o s z (Some t) h = least o s t z h (filter (above s) (ascending place_cmp (paths_of t))) refl

      by : (z : Zone) → zone root last ≡ z → PathIs last (next_path_in root z)
      by skipped e = λ o s q t y g i l. cc
      by hierarchy e = path_hierarchy root last e
      by (inside o s) e = of_table o s e (table_at root o) refl

  -- ---- the lesser of both

  pub record IsNext (last : Place) (k : Place × List Frame) : Type 0 where
    pub above_last : place_cmp last k.0 ≡ Less
    pub none_seen : NoneSeenBetween root last k.0
    pub none_named : NoPathBetween root last k.0
    pub stack : IsStack root k.0 k.1
    pub listed : IsListed root k.1
    pub candidate : IsAmong (candidates root) k.0

  abbrev pub NextIs : Place → Option (Place × List Frame) → Type 0
  NextIs last None = NoneSeenAbove root last × NoPathAbove root last
  NextIs last (Some k) = IsNext last k

  -- a path that no entry reaches is not seen
  path_taken : (last b : Place) (fs : List Frame) → IsStack root last fs → IsListed root fs → IsPath last b → NoneSeenBetween root last b
      → ((leaf : Leaf) → seen root b ≡ Some leaf → ⊥) → IsNext last (b, fs)
  path_taken last b fs h l p none unseen = record {
    above_last = p.above_last;
    none_seen = none;
    none_named = p.none_named b (not_below_itself place_cmp_total b);
    stack = stack_stays root closed last b fs h p.above_last (by (seen root b) unseen) none;
    listed = l;
    candidate = p.candidate;
  }
    where
      by : (o : Option Leaf) → ((leaf : Leaf) → o ≡ Some leaf → ⊥) → o ≡ None
      by None k = refl
      by (Some leaf) k = absurd (k leaf refl)

  both : (last : Place) (fs : List Frame) → IsStack root last fs → IsListed root fs → (e : Option (Place × List Frame)) → EntryIs last e → (p : Option Place)
      → PathIs last p → NextIs last (lesser fs e p)
  both last fs h l None e None p = (e, p)
  both last fs h l (Some k) e None p = record {
    above_last = e.above_last;
    none_seen = e.none_seen;
    none_named = path_off root last k.0 p;
    stack = e.stack;
    listed = e.listed;
    candidate = e.candidate;
  }
  both last fs h l None e (Some b) p = path_taken last b fs h l p (λ q leaf s m g. e q leaf s m) (λ leaf s. e b leaf s p.above_last)
  both last fs h l (Some k) e (Some b) p = by (is_lt (place_cmp b k.0)) refl
    where
      by : (c : Bool) → is_lt (place_cmp b k.0) ≡ c → NextIs last (cond c (Some (b, fs)) (Some k))
      by true f =
          let below : place_cmp b k.0 ≡ Less = less_from _ f in
          path_taken last b fs h l p (λ q leaf s m g. e.none_seen q leaf s m (place_cmp_total.trans q b k.0 g below)) (λ leaf s. e.none_seen b leaf s p.above_last below)
      by false f = record {
        above_last = e.above_last;
        none_seen = e.none_seen;
        none_named = p.none_named k.0 (λ g. true_not_false (sym (ap is_lt g) ∙ f));
        stack = e.stack;
        listed = e.listed;
        candidate = e.candidate;
      }

  pub next_place_is : (last : Place) (fs : List Frame) → IsStack root last fs → IsListed root fs → NextIs last (next_place root last fs)
  next_place_is last fs h l = both last fs h l (next_entry root fs) (entry_is last fs h l) (next_path root last) (path_is last)

  listed_starts : (d q : Place) (fs : List Frame) → IsListed root fs → IsListed root (listed_at root d q fs)
  listed_starts d [] fs l = ((λ n i. i), l)
  listed_starts d (n ∷ q) fs l = listed_starts (d ++ n ∷ []) q _ ((λ m i. (among_from_filter (λ x. is_lt (text_cmp n x)) (seen_names root d) m i).0), l)

  -- ---- what is listed

  all_below : (p x : Place) (ps : List Place) → place_cmp p x ≡ Less → IsBeforeAll place_cmp x ps → IsBeforeAll place_cmp p ps
  all_below p x [] l h = tt
  all_below p x (y ∷ ps) l h = (place_cmp_total.trans p x y l h.0, all_below p x ps l h.1)

  -- only what is above last, in order, and so nothing twice
  pub lists_ascend : (k : ℕ) (last : Place) (fs : List Frame) → IsStack root last fs → IsListed root fs → IsBeforeAll place_cmp last (lists k root last fs)
      × IsAscending place_cmp (lists k root last fs)
  lists_ascend zero last fs h l = (tt, tt)
  lists_ascend (suc k) last fs h l = by (next_place root last fs) (next_place_is last fs h l) (lists_ascend k)
    where
      by : (o : Option (Place × List Frame)) → NextIs last o
          → ((last' : Place) (fs' : List Frame) → IsStack root last' fs' → IsListed root fs' → IsBeforeAll place_cmp last' (lists k root last' fs') × IsAscending place_cmp (lists k root last' fs'))
          → IsBeforeAll place_cmp last (lists_with root (lists k root) o) × IsAscending place_cmp (lists_with root (lists k root) o)
      by None n ih = (tt, tt)
      by (Some x) n ih = go (is_reached root x.0) (ih x.0 x.1 n.stack n.listed)
        where
          go : (b : Bool) → IsBeforeAll place_cmp x.0 (lists k root x.0 x.1) × IsAscending place_cmp (lists k root x.0 x.1)
              → IsBeforeAll place_cmp last (on b x.0 ++ lists k root x.0 x.1) × IsAscending place_cmp (on b x.0 ++ lists k root x.0 x.1)
          go true m = ((n.above_last, all_below last x.0 (lists k root x.0 x.1) n.above_last m.0), m)
          go false m = (all_below last x.0 (lists k root x.0 x.1) n.above_last m.0, m.1)

  pub lists_from : (k : ℕ) (q : Place) → IsBeforeAll place_cmp q (lists k root q (listed_at root [] q [])) × IsAscending place_cmp (lists k root q (listed_at root [] q []))
  lists_from k q = lists_ascend k q (listed_at root [] q []) (stack_starts root closed q) (listed_starts [] q [] tt)

module _ (further : Further) (root : StorageRoot) (closed : IsClosed root) where
  -- ---- all of it

  pub taken_is : (unread : Unread) (k : ℕ) (last : Place) (fs : List Frame) → IsStack root last fs → IsListed root fs
      → length (filter (above last) (candidates root)) < k → taken further k root unread last fs ≡ after (audit further root unread) (Some last)
  taken_is unread zero last fs h l m = absurd (omega (arith, m))
  taken_is unread (suc k) last fs h l m = by (next_place root last fs) (next_place_is root closed last fs h l) (taken_is unread k)
    where
      by : (o : Option (Place × List Frame)) → NextIs root closed last o
          → ((last' : Place) (fs' : List Frame) → IsStack root last' fs' → IsListed root fs' → length (filter (above last') (candidates root)) < k
          → taken further k root unread last' fs' ≡ after (audit further root unread) (Some last'))
          → taken_with further root unread (taken further k root unread) o ≡ after (audit further root unread) (Some last)
      by None n ih = sym (walk_ends further root closed unread last n.0 n.1)
      by (Some x) n ih =
          let less : length (filter (above x.0) (candidates root)) < length (filter (above last) (candidates root)) = fewer (candidates root) last x.0 n.above_last n.candidate in
          let rest : taken further k root unread x.0 x.1 ≡ after (audit further root unread) (Some x.0) = ih x.0 x.1 n.stack n.listed (omega (arith, less, m)) in
          ap (λ xs. item_at further root unread x.0 ++ xs) rest ∙ sym (walk_takes further root closed unread last x.0 n.above_last n.none_seen n.none_named)

  pub taken_from : (unread : Unread) (k : ℕ) (q : Place) → length (candidates root) < k → taken further k root unread q (listed_at root [] q []) ≡ after (audit further root unread) (Some q)
  taken_from unread k q m = taken_is unread k q (listed_at root [] q []) (stack_starts root closed q) (listed_starts root closed [] q [] tt) (let n = at_most (candidates root) in omega (arith, n, m))
    where
      at_most : (ps : List Place) → length (filter (above q) ps) ≤ length ps
      at_most [] = omega arith
      at_most (p ∷ ps) = go (above q p) (at_most ps)
        where
          go : (b : Bool) → length (filter (above q) ps) ≤ length ps → length (cond b (p ∷ filter (above q) ps) (filter (above q) ps)) ≤ length (p ∷ ps)
          go true h = omega (arith, h)
          go false h = omega (arith, h)

  -- from the start: the root's item, and then what is above the root
  pub from_root : (unread : Unread) → audit further root unread ≡ item_at further root unread [] ++ after (audit further root unread) (Some [])
  from_root unread = sym (under_root further root closed unread) ∙ items_by_name further root closed unread []
      ∙ ap (λ xs. item_at further root unread [] ++ xs) (sym (items_after_self further root closed unread []) ∙ ap (λ xs. after xs (Some [])) (under_root further root closed unread))
