-- What is left of the listings at a directory where a walk goes on with one of its names.
use Rattle.std.proofs.Common.{◌≡◌, ◌⊎◌, inl, inr, ℕ, suc, ◌*◌, ◌-◌, ◌^◌, ◌<◌, ◌≤◌, List, [], ◌∷◌, ◌++◌, refl, sym, ◌∙◌, ap, subst, true, false, Bool, map, filter, Option, Some, None, not, length, arith}
use Rattle.std.proofs.{lemmas.Bool.{not-true}, lemmas.List.{append-nil}}
use Rattle.std.proofs.Math.Nat.{mul-le-mul_left, mul_comm}
use Rattle.std.specs.{Prelude.{cond, flat_map, nat_le}, Ordering.{is_lt, ordering_then}}
use Rattle.std.specs.declared.cmp.Ordering.{Ordering}
use Rattle.std.specs.declared.cmp.Ordering.TheVariants.{Less, Equal, Greater}
use Rattle.ocfl_tree.specs.Place.{Place, Text, text_cmp, place_cmp, begins}
use Rattle.ocfl_tree.specs.{Ascending.{IsAmong, IsBeforeAll}, StorageRoot.{StorageRoot, Leaf, dir}}
use Rattle.ocfl_tree.specs.{Listing.{kind_at}, declared.store.Entry.{Entry}}
use Rattle.ocfl_tree.proofs.Orders.{place_cmp_total, place_cmp_exact, true_not_false, not_below_itself, ascending_unique, among_filter, among_from_filter, ascends_filter}
use Rattle.ocfl_report.specs.declared.further.Further.{Further}
use Rattle.ocfl_rules.specs.Audit.{candidates}
use Rattle.ocfl_rules.specs.Stack.{Frame, IsListed, IsStack, seen_in, seen_left, seen_places}
use Rattle.ocfl_rules.specs.{Walk.{seen_names}, Zone.{inside, seen, table_at, zone}}
use Rattle.ocfl_rules.proofs.AuditExists.{object_at, object_key, path_candidate, seen_candidate, zone_is}
use Rattle.ocfl_rules.proofs.BelowLaws.{above, above_self, begins_front, begins_rest, cmp_behind, from_append, from_flat_map, less_from, equal_itself}
use Rattle.ocfl_rules.proofs.Lists.{map_filter}
use Rattle.ocfl_rules.proofs.NextLaws.{same_above, seen_ascend, seen_from, seen_to}
use Rattle.ocfl_rules.proofs.{StackLaws.{entry_seen, stack_pops}, Trails.{filter_append}}
use Rattle.ocfl_rules.proofs.WayLaws.{head_seen, is_closed}
use Rattle.ocfl_item.specs.{Around.{IsTableAround}, declared.meeting.Around.{Around}}
use Rattle.ocfl_item.proofs.{LooksZones.{inside_step}, NameLaws.{names_of}}
use Rattle.ocfl_walk.specs.Standing.{HaveEntries, Pile, entry_weight, frames_of, size_of, weigh, levels}
use Rattle.ocfl_walk.specs.Internal.Standing.{IsChain, IsOrderly, IsTurn, cut_top, from_name, next_in, next_of, popped, popped_from, trimmed}
use Rattle.ocfl_walk.proofs.{BeforeLaws.{IsJustBefore, below_from, not_below}, DueTurns.{turn_by}}
use Rattle.ocfl_walk.proofs.EntrySteps.{begins_last}
use Rattle.ocfl_walk.proofs.FilterLaws.{left_all, left_fewer, left_whole}
use Rattle.ocfl_walk.proofs.OrderlyLaws.{chain_on, orderly_trimmed, size_trimmed}
use Rattle.ocfl_walk.proofs.StandLaws.{object_zone}
use Rattle.ocfl_walk.proofs.TurnLaws.{entries_trimmed, left_trimmed, listed_trimmed}

abbrev is_from_name : Text → Text → Bool
is_from_name n m = not (is_lt (text_cmp m n))

abbrev is_from_place : Place → Place → Bool
is_from_place p x = not (is_lt (place_cmp x p))

-- ---- the names that are kept

kept_names : (n : Text) (es : List Entry) → names_of (from_name n es) ≡ filter (is_from_name n) (names_of es)
kept_names n es = sym (map_filter (is_from_name n) (λ (e : Entry). e.name) es)

kept_fewer : (n : Text) (es : List Entry) → length (from_name n es) ≤ length es
kept_fewer n es = left_fewer (λ (e : Entry). is_from_name n e.name) es

kept_before : (d p : Place) (n : Text) (ns : List Text) → IsBeforeAll place_cmp p (map (λ m. d ++ m ∷ []) ns) → IsBeforeAll place_cmp p (map (λ m. d ++ m ∷ []) (filter (is_from_name n) ns))
kept_before d p n [] h = tt
kept_before d p n (m ∷ ns) h = by (is_from_name n m) (kept_before d p n ns h.1)
  where
    by : (b : Bool) → IsBeforeAll place_cmp p (map (λ k. d ++ k ∷ []) (filter (is_from_name n) ns))
        → IsBeforeAll place_cmp p (map (λ k. d ++ k ∷ []) (cond b (m ∷ filter (is_from_name n) ns) (filter (is_from_name n) ns)))
    by true k = (h.0, k)
    by false k = k

-- ---- what a chain leads to is above its place

longer : (p y r : Place) → place_cmp p y ≡ Less → place_cmp p (y ++ r) ≡ Less
longer p y [] l = ap (place_cmp p) (append-nil y) ∙ l
longer p y (m ∷ r) l = place_cmp_total.trans p y (y ++ m ∷ r) l (above_self y m r)

module _ (xs : List Place) where
  chain_over : (p : Place) (k : ℕ) (fs : List Frame) → IsChain p k fs → (x : Place) → IsAmong (seen_left xs fs) x → place_cmp p x ≡ Less
  chain_over p k [] c x i = absurd i
  chain_over p k (f ∷ fs) c x i = by (from_append (seen_in xs f) (seen_left xs fs) x i) (chain_over p k fs (chain_on p f.0 k fs c.0 c.1 c.4) x)
    where
      here : IsAmong (seen_in xs f) x → place_cmp p x ≡ Less
      here j =
          let w = from_flat_map (λ n. filter (begins (f.0 ++ n ∷ [])) xs) f.1 x j in
          let r = begins_rest (f.0 ++ w.0 ∷ []) x (among_from_filter (begins (f.0 ++ w.0 ∷ [])) xs x w.1.1).1 in
          subst (λ y. place_cmp p y ≡ Less) (sym r.1) (longer p (f.0 ++ w.0 ∷ []) r.0 (named f.1 w.0 c.2 w.1.0))
        where
          named : (ns : List Text) (n : Text) → IsBeforeAll place_cmp p (map (λ m. f.0 ++ m ∷ []) ns) → IsAmong ns n → place_cmp p (f.0 ++ n ∷ []) ≡ Less
          named [] n b j = absurd j
          named (m ∷ ns) n b (inl e) = ap (λ y. place_cmp p (f.0 ++ y ∷ [])) e ∙ b.0
          named (m ∷ ns) n b (inr j) = named ns n b.1 j

      by : IsAmong (seen_in xs f) x ⊎ IsAmong (seen_left xs fs) x → (IsAmong (seen_left xs fs) x → place_cmp p x ≡ Less) → place_cmp p x ≡ Less
      by (inl j) rest = here j
      by (inr j) rest = rest j

  -- so that all of it is not less
  chain_kept : (p : Place) (k : ℕ) (fs : List Frame) → IsChain p k fs → seen_left xs fs ≡ filter (is_from_place p) (seen_left xs fs)
  chain_kept p k fs c = sym (left_whole (is_from_place p) (seen_left xs fs) (λ x i. ap not (not_below p x (chain_over p k fs c x i))))

  -- ---- what the names from n on lead to is what is not less than d ++ n

  module _ (d : Place) (n : Text) where
    abbrev below : Text → List Place
    below m = filter (begins (d ++ m ∷ [])) xs

    not_less : (m : Text) (r : Place) → (o : Ordering) → text_cmp m n ≡ o → is_lt o ≡ false → is_lt (ordering_then o (place_cmp r [])) ≡ false
    not_less m r Less e h = absurd (true_not_false h)
    not_less m [] Equal e h = refl
    not_less m (k ∷ r) Equal e h = refl
    not_less m r Greater e h = refl

    less : (o : Ordering) (u : Ordering) → is_lt o ≡ true → is_lt (ordering_then o u) ≡ true
    less Less u h = refl
    less Equal u h = absurd (true_not_false (sym h))
    less Greater u h = absurd (true_not_false (sym h))

    step : (m : Text) (r : Place) → place_cmp (d ++ m ∷ r) (d ++ n ∷ []) ≡ ordering_then (text_cmp m n) (place_cmp r [])
    step m r = cmp_behind d (m ∷ r) (n ∷ [])

    side : (m : Text) (b : Bool) → is_lt (text_cmp m n) ≡ b → (r : Place) → is_lt (place_cmp (d ++ m ∷ r) (d ++ n ∷ [])) ≡ b
    side m true e r = ap is_lt (step m r) ∙ less (text_cmp m n) (place_cmp r []) e
    side m false e r = ap is_lt (step m r) ∙ not_less m r (text_cmp m n) refl e

    under : (m : Text) (ys : List Place) → ((x : Place) → IsAmong ys x → begins (d ++ m ∷ []) x ≡ true) → (b : Bool) → is_lt (text_cmp m n) ≡ b → filter (is_from_place (d ++ n ∷ [])) ys ≡ cond b [] ys
    under m [] h true e = refl
    under m [] h false e = refl
    under m (y ∷ ys) h b e = by b e (under m ys (λ x i. h x (inr i)) b e)
      where
        w : (r : Place) × (y ≡ (d ++ m ∷ []) ++ r)
        w = begins_rest (d ++ m ∷ []) y (h y (inl refl))

        whole : y ≡ d ++ m ∷ w.0
        whole = w.1 ∙ one d
          where
            one : (c : Place) → (c ++ m ∷ []) ++ w.0 ≡ c ++ m ∷ w.0
            one [] = refl
            one (k ∷ c) = ap (λ z. k ∷ z) (one c)

        by : (b : Bool) → is_lt (text_cmp m n) ≡ b → filter (is_from_place (d ++ n ∷ [])) ys ≡ cond b [] ys → filter (is_from_place (d ++ n ∷ [])) (y ∷ ys) ≡ cond b [] (y ∷ ys)
        by true e k = ap (λ c. cond (not c) (y ∷ filter (is_from_place (d ++ n ∷ [])) ys) (filter (is_from_place (d ++ n ∷ [])) ys))
            (ap (λ z. is_lt (place_cmp z (d ++ n ∷ []))) whole ∙ side m true e w.0) ∙ k
        by false e k = ap (λ c. cond (not c) (y ∷ filter (is_from_place (d ++ n ∷ [])) ys) (filter (is_from_place (d ++ n ∷ [])) ys))
            (ap (λ z. is_lt (place_cmp z (d ++ n ∷ []))) whole ∙ side m false e w.0) ∙ ap (λ zs. y ∷ zs) k

    named_kept : (ns : List Text) → flat_map below (filter (is_from_name n) ns) ≡ filter (is_from_place (d ++ n ∷ [])) (flat_map below ns)
    named_kept [] = refl
    named_kept (m ∷ ns) = by (is_lt (text_cmp m n)) refl (named_kept ns)
      where
        here : (b : Bool) → is_lt (text_cmp m n) ≡ b → filter (is_from_place (d ++ n ∷ [])) (below m) ≡ cond b [] (below m)
        here b e = under m (below m) (λ x i. (among_from_filter (begins (d ++ m ∷ [])) xs x i).1) b e

        by : (b : Bool) → is_lt (text_cmp m n) ≡ b → flat_map below (filter (is_from_name n) ns) ≡ filter (is_from_place (d ++ n ∷ [])) (flat_map below ns)
            → flat_map below (cond (not b) (m ∷ filter (is_from_name n) ns) (filter (is_from_name n) ns)) ≡ filter (is_from_place (d ++ n ∷ [])) (below m ++ flat_map below ns)
        by true e k = k ∙ sym (filter_append (is_from_place (d ++ n ∷ [])) (below m) (flat_map below ns) ∙ ap (λ ys. ys ++ filter (is_from_place (d ++ n ∷ [])) (flat_map below ns)) (here true e))
        by false e k = ap (λ ys. below m ++ ys) k
            ∙ sym (filter_append (is_from_place (d ++ n ∷ [])) (below m) (flat_map below ns) ∙ ap (λ ys. ys ++ filter (is_from_place (d ++ n ∷ [])) (flat_map below ns)) (here false e))

-- ---- on any store

module _ (k : ℕ) (n : Text) where
  pub cut_orderly : (d : Place) (ps : List Pile) (a : Option Around) → IsOrderly d ps a → IsOrderly d (cut_top k n ps) a
  cut_orderly d [] a h = h
  cut_orderly d (x ∷ ps) a h = by (nat_le k (length ps))
    where
      by : (b : Bool) → IsOrderly d (cond b ((x.0, from_name n x.1) ∷ ps) (x ∷ ps)) a
      by true = record {
        chain = subst (λ ns. IsChain d levels ((x.0, ns) ∷ frames_of ps)) (sym (kept_names n x.1))
            (h.chain.0, h.chain.1, kept_before x.0 d n (names_of x.1) h.chain.2, ascends_filter text_cmp (is_from_name n) (names_of x.1) h.chain.3, h.chain.4);
        few = (let f = kept_fewer n x.1 in omega (arith, f, h.few.0), h.few.1);
        object = h.object;
      }
      by false = h

  cut_weight : (w : ℕ) (ps : List Pile) → weigh w (cut_top k n ps) ≤ weigh w ps
  cut_weight w [] = omega arith
  cut_weight w (x ∷ ps) = by (nat_le k (length ps))
    where
      by : (b : Bool) → weigh w (cond b ((x.0, from_name n x.1) ∷ ps) (x ∷ ps)) ≤ weigh w (x ∷ ps)
      by true =
          let v : ℕ = w ^ (levels - length ps) in
          let m : v * length (from_name n x.1) ≤ v * length x.1 = mul-le-mul_left v (kept_fewer n x.1) in
          let l = mul_comm v (length (from_name n x.1)) in
          let r = mul_comm v (length x.1) in
          omega (arith, m, l, r)
      by false = omega arith

  cut_lighter : (d : Place) (ps : List Pile) (a : Option Around) → size_of (Some d) (cut_top k n ps) a ≤ size_of (Some d) ps a
  unfolding size_of
  cut_lighter d ps a = let w = cut_weight entry_weight ps in omega (arith, w)

  pub cut_size : (d : Place) (ps : List Pile) (a : Option Around) → size_of (Some d) (trimmed (cut_top k n ps)) a ≤ size_of (Some d) ps a
  cut_size d ps a = let same = size_trimmed (Some d) (cut_top k n ps) a in let w = cut_lighter d ps a in omega (arith, same, w)

  pub cut_trimmed : (d : Place) (ps : List Pile) (a : Option Around) → IsOrderly d ps a → IsOrderly d (trimmed (cut_top k n ps)) a
  cut_trimmed d ps a h = orderly_trimmed (Some d) (cut_top k n ps) a (cut_orderly d ps a h)

-- ---- on a store that tells its tree

module _ (root : StorageRoot) (k : ℕ) (n : Text) where
  cut_listed : (ps : List Pile) → IsListed root (frames_of ps) → IsListed root (frames_of (cut_top k n ps))
  cut_listed [] h = h
  cut_listed (x ∷ ps) h = by (nat_le k (length ps))
    where
      by : (b : Bool) → IsListed root (frames_of (cond b ((x.0, from_name n x.1) ∷ ps) (x ∷ ps)))
      by true = subst (λ ns. IsListed root ((x.0, ns) ∷ frames_of ps)) (sym (kept_names n x.1)) ((λ m i. h.0 m (among_from_filter (is_from_name n) (names_of x.1) m i).0), h.1)
      by false = h

  cut_entries : (ps : List Pile) → HaveEntries root ps → HaveEntries root (cut_top k n ps)
  cut_entries [] h = h
  cut_entries (x ∷ ps) h = by (nat_le k (length ps))
    where
      by : (b : Bool) → HaveEntries root (cond b ((x.0, from_name n x.1) ∷ ps) (x ∷ ps))
      by true = (left_all (λ (e : Entry). is_from_name n e.name) (λ e. kind_at root x.0 e.name ≡ Some e.kind) x.1 h.0, h.1)
      by false = h

  pub listed_cut : (ps : List Pile) → IsListed root (frames_of ps) → IsListed root (frames_of (trimmed (cut_top k n ps)))
  listed_cut ps h = listed_trimmed root (cut_top k n ps) (cut_listed ps h)

  pub entries_cut : (ps : List Pile) → HaveEntries root ps → HaveEntries root (trimmed (cut_top k n ps))
  entries_cut ps h = entries_trimmed root (cut_top k n ps) (cut_entries ps h)

-- what is known of the deepest listing
abbrev pub IsTop : Place → List Pile → Type 0
IsTop d ps = (x : Pile) (rest : List Pile) → ps ≡ x ∷ rest → (nat_le (length d) (length rest) ≡ true → x.0 ≡ d) × (nat_le (length d) (length rest) ≡ false → length x.0 < length d)

module _ (root : StorageRoot) (d : Place) (n : Text) (q : Place) (j : IsJustBefore root q (d ++ n ∷ [])) where
  abbrev p : Place
  p = d ++ n ∷ []

  abbrev xs : List Place
  xs = seen_places root

  twice_above : filter (is_from_place p) (filter (above d) xs) ≡ filter (above q) xs
  twice_above =
      ascending_unique place_cmp_total place_cmp_exact _ _
      (ascends_filter place_cmp (is_from_place p) (filter (above d) xs) (ascends_filter place_cmp (above d) xs (seen_ascend root))) (ascends_filter place_cmp (above q) xs (seen_ascend root))
      (λ z. (to z, from z))
    where
      to : (z : Place) → IsAmong (filter (is_from_place p) (filter (above d) xs)) z → IsAmong (filter (above q) xs) z
      to z i =
          let k = among_from_filter (is_from_place p) (filter (above d) xs) z i in
          let l = among_from_filter (above d) xs z k.0 in
          among_filter (above q) xs z l.0 (ap is_lt (below_from q p z j.less (not-true (is_lt (place_cmp z p)) k.1)))

      from : (z : Place) → IsAmong (filter (above q) xs) z → IsAmong (filter (is_from_place p) (filter (above d) xs)) z
      from z i =
          let l = among_from_filter (above q) xs z i in
          let s = seen_from root z l.0 in
          let f = j.next z (seen_candidate root z s.0 s.1) (less_from _ l.1) in
          among_filter (is_from_place p) (filter (above d) xs) z (among_filter (above d) xs z l.0 (ap is_lt (below_from d p z (above_self d n []) f))) (ap not f)

  cut_left : (ps : List Pile) (a : Option Around) → IsOrderly d ps a → IsTop d ps → seen_left xs (frames_of (cut_top (length d) n ps)) ≡ filter (is_from_place p) (seen_left xs (frames_of ps))
  cut_left [] a h top = refl
  cut_left (x ∷ ps) a h top = by (nat_le (length d) (length ps)) refl
    where
      rest : x.0 ≡ d → seen_left xs (frames_of ps) ≡ filter (is_from_place p) (seen_left xs (frames_of ps))
      rest same = chain_kept xs p (suc (length d)) (frames_of ps)
          (chain_on p d (suc (length d)) (frames_of ps) (begins_front d (n ∷ [])) (omega arith) (subst (λ y. IsChain y (length y) (frames_of ps)) same h.chain.4))

      here : x.0 ≡ d → seen_in xs (d, filter (is_from_name n) (names_of x.1)) ++ seen_left xs (frames_of ps) ≡ filter (is_from_place p) (seen_in xs (d, names_of x.1) ++ seen_left xs (frames_of ps))
      here same =
          (λ i. named_kept xs d n (names_of x.1) i ++ rest same i)
          ∙ sym (filter_append (is_from_place p) (seen_in xs (d, names_of x.1)) (seen_left xs (frames_of ps)))

      by : (b : Bool) → nat_le (length d) (length ps) ≡ b → seen_left xs (frames_of (cond b ((x.0, from_name n x.1) ∷ ps) (x ∷ ps))) ≡ filter (is_from_place p) (seen_left xs (frames_of (x ∷ ps)))
      by true e =
          let same = (top x ps refl).0 e in
          ap (λ ns. seen_in xs (x.0, ns) ++ seen_left xs (frames_of ps)) (kept_names n x.1)
          ∙ subst (λ y. seen_in xs (y, filter (is_from_name n) (names_of x.1)) ++ seen_left xs (frames_of ps) ≡ filter (is_from_place p)
          (seen_in xs (y, names_of x.1) ++ seen_left xs (frames_of ps))) (sym same) (here same)
      by false e = chain_kept xs p (suc (length d)) (frames_of (x ∷ ps))
          (chain_on p d (suc (length d)) (frames_of (x ∷ ps)) (begins_front d (n ∷ [])) (omega arith) (h.chain.0, (top x ps refl).1 e, h.chain.2, h.chain.3, h.chain.4))

  -- what is left leads to just what is seen above q
  pub cut_stack : (ps : List Pile) (a : Option Around) → IsOrderly d ps a → IsTop d ps → IsStack root d (frames_of ps) → IsStack root q (frames_of (trimmed (cut_top (length d) n ps)))
  cut_stack ps a h top st = left_trimmed root xs (cut_top (length d) n ps) ∙ cut_left ps a h top ∙ ap (filter (is_from_place p)) st ∙ twice_above

  -- ---- the turn to a place that is not above p

  module _ (x : Place) (low : is_lt (place_cmp p x) ≡ false) where
    nothing_between : (y : Place) → IsAmong (candidates root) y → place_cmp q y ≡ Less → place_cmp y x ≡ Less → ⊥
    nothing_between y i l m = true_not_false (sym (ap is_lt (below_from y x p m low)) ∙ j.next y i l)

    turn_low : (further : Further) (fs : List Frame) → place_cmp q x ≡ Less → IsStack root x fs → IsListed root fs → IsTurn further root q x fs
    turn_low further fs over stack listed =
        turn_by further root q x fs over (λ y leaf s l m. nothing_between y (seen_candidate root y leaf s) l m)
        (λ o s r t z e i l m. let is = zone_is root q o s z in nothing_between (o ++ r) (path_candidate root o r t e (object_key root o is.below (object_at root o is.declares)) i) l m)
        stack listed

  -- to an entry
  pub turn_entry : (further : Further) (x : Place) → is_lt (place_cmp p x) ≡ false → (ps : List Pile) → next_of ps ≡ Some x → IsStack root q (frames_of ps)
      → IsListed root (frames_of ps) → IsTurn further root q x ((x, seen_names root x) ∷ popped ps)
  turn_entry further x low [] e st listed = absurd cc
  turn_entry further x low (t ∷ ps) e st listed = by t.0 t.1 e st listed
    where
      by : (c : Place) (es : List Entry) → next_in c es ≡ Some x → IsStack root q ((c, names_of es) ∷ frames_of ps)
          → IsListed root ((c, names_of es) ∷ frames_of ps) → IsTurn further root q x ((x, seen_names root x) ∷ popped_from c es ps)
      by c [] e st listed = absurd cc
      by c (f ∷ es) e st listed =
          let is : c ++ f.name ∷ [] ≡ x = cc in
          let leaf = entry_seen root c f.name (listed.0 f.name (inl refl)) in
          let k = stack_pops root (is_closed root) q c f.name (names_of es) (frames_of ps) leaf.0 st leaf.1 in
          subst (λ y. IsTurn further root q y ((y, seen_names root y) ∷ (c, names_of es) ∷ frames_of ps)) is
          (turn_low (c ++ f.name ∷ []) (subst (λ y. is_lt (place_cmp p y) ≡ false) (sym is) low) further _ k.0 k.1.1 ((λ m i. i), ((λ m i. listed.0 m (inr i)), listed.1)))

  -- to p itself, if no entry is there
  module _ (ps : List Pile) (a : Option Around) (h : IsOrderly p ps a) (st : IsStack root q (frames_of ps)) where
    ahead : (x : Place) → IsAmong xs x → place_cmp q x ≡ Less → place_cmp p x ≡ Less
    ahead x i l = chain_over xs p levels (frames_of ps) h.chain x (subst (λ ys. IsAmong ys x) (sym st) (among_filter (above q) xs x i (ap is_lt l)))

    pub turn_path : (further : Further) → IsListed root (frames_of ps) → IsTurn further root q p (frames_of ps)
    turn_path further listed = turn_low p (ap is_lt (equal_itself place_cmp_total p)) further (frames_of ps) j.less
        (st ∙ same_above xs (seen_ascend root) q p ahead (λ y i l. place_cmp_total.trans q p y j.less l)) listed

    pub path_unseen : seen root p ≡ None
    path_unseen = by (seen root p) refl
      where
        by : (o : Option Leaf) → seen root p ≡ o → o ≡ None
        by None e = refl
        by (Some leaf) e = absurd (not_below_itself place_cmp_total p (ahead p (seen_to root p leaf e) j.less))

-- ---- the object around, one name further

pub table_next : (further : Further) (root : StorageRoot) (d : Place) (n : Text) (a : Option Around) → IsTableAround further root d a → seen root (d ++ n ∷ []) ≡ None → IsTableAround further root (d ++ n ∷ []) a
table_next further root d n (Some b) h unseen = (h.0 ++ n ∷ [], inside_step root d b.place h.0 n h.1, h.2, h.3)
table_next further root d n None h unseen = within
  where
    within : (o s : Place) → zone root (d ++ n ∷ []) ≡ inside o s → table_at root o ≡ None
    within o s z = by (begins_last o d n (subst (λ y. begins o y ≡ true) (sym (zone_is root (d ++ n ∷ []) o s z).whole) (begins_front o s)))
      where
        by : (begins o d ≡ true) ⊎ (o ≡ d ++ n ∷ []) → table_at root o ≡ None
        by (inl b) = let r = begins_rest o d b in h o r.0 (ap (zone root) r.1 ∙ object_zone further root o s r.0 (d ++ n ∷ []) z)
        by (inr e) = absurd (let two : Some dir ≡ None = sym (head_seen root (is_closed root) (d ++ n ∷ []) o s z) ∙ ap (seen root) e ∙ unseen in cc)
