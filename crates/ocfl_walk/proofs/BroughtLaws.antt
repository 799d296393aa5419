-- The listings on the way to a place, name by name.
use Rattle.std.proofs.Common.{◌≡◌, ℕ, ◌≤◌, ◌<◌, List, [], ◌∷◌, ◌++◌, append-nil, refl, sym, ◌∙◌, ap, subst, true, false, Bool, Option, Some, None, filter, length, arith}
use Rattle.std.proofs.lemmas.List.{length_push, nil_from_length}
use Rattle.std.specs.{Prelude.{cond, Result, Ok, Err, IfOk, MatchResult}, Ordering.{is_lt}}
use Rattle.ocfl_tree.specs.{Place.{Text, Place, text_cmp}, Ascending.{IsAscending, IsBeforeAll}}
use Rattle.ocfl_tree.specs.{StorageRoot.{StorageRoot, names_in, max_entries}, Store.{Store}}
use Rattle.ocfl_tree.specs.{Listing.{kind_at}, declared.store.Entry.{Entry}}
use Rattle.ocfl_report.specs.declared.further.Further.{Further}
use Rattle.ocfl_rules.specs.{Zone.{hierarchy, inside, zone}, Walk.{seen_names}}
use Rattle.ocfl_rules.specs.Stack.{IsListed, listed_at, seen_left, seen_places}
use Rattle.ocfl_item.specs.{Ways.{IsAt, way_below}, Around.{IsPart, IsTableAround}}
use Rattle.ocfl_item.specs.{Meeting.{IsFairFolder}, declared.fault.Fault.{Fault}}
use Rattle.ocfl_item.specs.{declared.folder.Folder.{Folder}, declared.meeting.Around.{Around}}
use Rattle.ocfl_walk.specs.Standing.{AreEntries, HaveEntries, Pile, frames_of, levels}
use Rattle.ocfl_walk.specs.Internal.Standing.{IsChain, IsOrderly, IsAroundIf}
use Rattle.ocfl_walk.specs.Internal.Entering.{Comes, DescendFails, IsBrought, IsComing, IsShut, Leads, may_open}
use Rattle.ocfl_item.proofs.NameLaws.{names_of}
use Rattle.ocfl_tree.proofs.Orders.{among_from_filter, ascends_filter}
use Rattle.ocfl_rules.proofs.{AuditExists.{append_one}, BelowLaws.{begins_front, less_from}}
use Rattle.ocfl_rules.proofs.{Lists.{map_filter}, StackLaws.{start_stops}}
use Rattle.ocfl_walk.proofs.{DescentLaws.{descent_fails_on}, FilterLaws.{left_all, left_fewer}}
use Rattle.ocfl_walk.proofs.{ReachLaws.{comes_on}, KeepLaws.{left_above}, LeadsLaws.{around_on}}
use Rattle.ocfl_walk.proofs.OrderlyLaws.{before_below, orderly_top}

-- ---- the names above one

abbrev above_of : Text → List Text → List Text
above_of n ns = filter (λ m. is_lt (text_cmp n m)) ns

above_names : (n : Text) (es : List Entry) → names_of (left_above n es) ≡ above_of n (names_of es)
above_names n es = sym (map_filter (λ m. is_lt (text_cmp n m)) (λ (e : Entry). e.name) es)

before_above : (n : Text) (ns : List Text) → IsBeforeAll text_cmp n (above_of n ns)
before_above n [] = tt
before_above n (m ∷ ns) = by (is_lt (text_cmp n m)) refl (before_above n ns)
  where
    by : (b : Bool) → is_lt (text_cmp n m) ≡ b → IsBeforeAll text_cmp n (above_of n ns) → IsBeforeAll text_cmp n (cond b (m ∷ above_of n ns) (above_of n ns))
    by true e h = (less_from _ e, h)
    by false e h = h

-- ---- on any store, once what is left of a listing is on top

module _ {d : Place} {es : List Entry} {ps qs : List Pile} {a : Option Around} {left : List Entry} (h : IsComing d es ps a) (top : qs ≡ (d, left) ∷ ps) where
  -- the last listing
  pub end_orderly : (q : Place) → length q ≡ 0 → IsAscending text_cmp (names_of left) → length left ≤ max_entries → IsOrderly (d ++ q) qs a
  end_orderly q none up few =
      let same : d ++ q ≡ d = ap (λ x. d ++ x) (nil_from_length q none) ∙ append-nil d in
      subst (λ x. IsOrderly x qs a) (sym same) (subst (λ xs. IsOrderly d xs a) (sym top) (orderly_top d left ps a h.short up few h.chain h.few h.object))

  module _ (n : Text) (whole : List Entry) (left_is : left ≡ left_above n whole) (up : IsAscending text_cmp (names_of whole)) (few : length whole ≤ max_entries) where
    chain_above : (r : Place) (k : ℕ) → length d < k → IsChain (d ++ n ∷ r) k ((d, names_of left) ∷ frames_of ps)
    chain_above r k l =
        subst (λ ns. IsChain (d ++ n ∷ r) k ((d, ns) ∷ frames_of ps)) (sym (ap names_of left_is ∙ above_names n whole)) (
          begins_front d (n ∷ r),
          l,
          before_below d r n (above_of n (names_of whole)) (before_above n (names_of whole)),
          ascends_filter text_cmp (λ m. is_lt (text_cmp n m)) (names_of whole) up,
          h.chain,
        )

    few_left : length left ≤ max_entries
    few_left = let c = left_fewer (λ (e : Entry). is_lt (text_cmp n e.name)) whole in omega (arith, few, c, ap length left_is)

    -- the next directory
    pub coming_next : (inner : Folder) (a' : Option Around) → IsFairFolder (d ++ n ∷ []) inner → IsAroundIf (d ++ n ∷ []) a' → IsComing inner.place inner.entries.items qs a'
    coming_next inner a' fair object =
        let deeper : length d < length (d ++ n ∷ []) = omega (arith, length_push d n) in
        let next : IsComing (d ++ n ∷ []) inner.entries.items ((d, left) ∷ ps) a' = record {
          chain = chain_above [] (length (d ++ n ∷ [])) deeper;
          short = fair.depth;
          ordinary = fair.entries;
          few = (few_left, h.few);
          object = object;
        } in
        subst (λ p. IsComing p inner.entries.items qs a') (sym fair.place) (subst (λ xs. IsComing (d ++ n ∷ []) inner.entries.items xs a') (sym top) next)

    -- no further
    pub stop_orderly : (r q : Place) (a' : Option Around) → q ≡ n ∷ r → a' ≡ a → IsOrderly (d ++ q) qs a'
    stop_orderly r q a' e same =
        let here : IsOrderly (d ++ n ∷ r) ((d, left) ∷ ps) a = record {
          chain = chain_above r levels (omega (arith, h.short));
          few = (few_left, h.few);
          object = around_on d n r a h.object;
        } in
        subst (λ x. IsOrderly (d ++ x) qs a') (sym e) (subst (λ x. IsOrderly (d ++ n ∷ r) qs x) (sym same) (subst (λ xs. IsOrderly (d ++ n ∷ r) xs a) (sym top) here))

pub orderly_at : (d e r q : Place) (n : Text) (ps : List Pile) (a : Option Around) (res : Result Unit Fault) → e ≡ d ++ n ∷ [] → q ≡ n ∷ r
    → IfOk res (λ _. IsOrderly (e ++ r) ps a) → IfOk res (λ _. IsOrderly (d ++ q) ps a)
orderly_at d e r q n ps a (Ok u) same is h = subst (λ x. IsOrderly (d ++ x) ps a) (sym is) (subst (λ x. IsOrderly x ps a) (ap (λ x. x ++ r) same ∙ append_one d r n) h)
orderly_at d e r q n ps a (Err why) same is h = tt

-- ---- on a store that tells its tree

module _ (further : Further) {root : StorageRoot} {d : Place} {es : List Entry} {ps qs : List Pile} {left : List Entry} (at : IsAt root d es) (top : qs ≡ (d, left) ∷ ps) where
  seen_here : seen_names root d ≡ names_in root d
  seen_here = ap (λ b. cond b (names_in root d) []) at.reached

  part_table : (a : Option Around) → IsPart further root d a → IsTableAround further root d a
  part_table None z = λ o s e. absurd (let two : hierarchy ≡ inside o s = sym z ∙ e in cc)
  part_table (Some b) p = p

  pub brought_end : (q : Place) (a : Option Around) → length q ≡ 0 → names_of left ≡ names_in root d → AreEntries root d left → IsPart further root d a → IsBrought further root d q ps qs a
  brought_end q a none names are part =
      let e : frames_of qs ≡ (d, seen_names root d) ∷ frames_of ps = ap frames_of top ∙ ap (λ ns. (d, ns) ∷ frames_of ps) (names ∙ sym seen_here) in
      subst (λ x. IsBrought further root d x ps qs a) (sym (nil_from_length q none)) (record {
        stack = ap (seen_left (seen_places root)) e;
        listed = λ h. subst (IsListed root) (sym e) ((λ m i. i), h);
        entries = λ h. subst (HaveEntries root) (sym top) (are, h);
        table = subst (λ x. IsTableAround further root x a) (sym (append-nil d)) (part_table a part);
      })

  module _ (n : Text) (whole : List Entry) (left_is : left ≡ left_above n whole) (names : names_of whole ≡ names_in root d) (are : AreEntries root d whole) where
    frames_are : frames_of qs ≡ (d, above_of n (seen_names root d)) ∷ frames_of ps
    frames_are = ap frames_of top ∙ ap (λ ns. (d, ns) ∷ frames_of ps) (ap names_of left_is ∙ above_names n whole ∙ ap (above_of n) (names ∙ sym seen_here))

    listed_left : IsListed root (frames_of ps) → IsListed root (frames_of qs)
    listed_left h = subst (IsListed root) (sym frames_are) ((λ m i. (among_from_filter (λ k. is_lt (text_cmp n k)) (seen_names root d) m i).0), h)

    entries_left : HaveEntries root ps → HaveEntries root qs
    entries_left h =
        subst (HaveEntries root) (sym top)
        (subst (AreEntries root d) (sym left_is) (left_all (λ (e : Entry). is_lt (text_cmp n e.name)) (λ e. kind_at root d e.name ≡ Some e.kind) whole are), h)

    brought_on : (r : Place) (new : List Pile) (a : Option Around) → IsBrought further root (d ++ n ∷ []) r qs new a → IsBrought further root d (n ∷ r) ps new a
    brought_on r new a h = record {
      stack = h.stack ∙ ap (λ fr. seen_left (seen_places root) (listed_at root (d ++ n ∷ []) r fr)) frames_are;
      listed = λ k. h.listed (listed_left k);
      entries = λ k. h.entries (entries_left k);
      table = subst (λ x. IsTableAround further root x a) (append_one d r n) h.table;
    }

    brought_stop : (r : Place) (a : Option Around) → IsShut further root d n r a → IsBrought further root d (n ∷ r) ps qs a
    brought_stop r a h = record {
      stack = ap (seen_left (seen_places root)) frames_are ∙ sym (start_stops root (seen_places root) (d ++ n ∷ []) r ((d, above_of n (seen_names root d)) ∷ frames_of ps) h.out);
      listed = listed_left;
      entries = entries_left;
      table = h.table;
    }

    module _ (s t : Store) (r q : Place) (is : q ≡ n ∷ r) (old new : Option Around) where
      -- no further
      pub came_stop : Leads further root s t d n r old new (Ok None) → Comes further root s t (way_below d q) [] (may_open old (zone root (d ++ q))) [] × IsBrought further root d q ps qs new
      came_stop h = subst (λ x. Comes further root s t (way_below d x) [] (may_open old (zone root (d ++ x))) [] × IsBrought further root d x ps qs new) (sym is) (h.gives.0, brought_stop r new h.gives.1)

      -- and on
      module _ (u : Store) (inner : Folder) (rs : List Pile) (a : Option Around) (h : Leads further root s t d n r old new (Ok (Some inner))) where
        -- what comes of the way on from a directory
        abbrev Onwards : Store → Place → Place → List Pile → Option Around → Result Unit Fault → Type 0
        Onwards v c x from may res = MatchResult res (λ _. Comes further root v u (way_below c x) [] (may_open may (zone root (c ++ x))) [] × IsBrought further root c x from rs a)
            (λ why. DescendFails further root v u (way_below c x) (may_open may (zone root (c ++ x))) why)

        then : (res : Result Unit Fault) → Onwards t (d ++ n ∷ []) r qs new res → Onwards s d (n ∷ r) ps old res
        then (Ok x) k = (
          comes_on root further s t u (way_below d (n ∷ r)) (way_below (d ++ n ∷ []) r) (may_open old (zone root (d ++ n ∷ r))) (may_open new (zone root (d ++ n ∷ r))) [] [] h.gives.0
              (subst (λ p. Comes further root t u (way_below (d ++ n ∷ []) r) [] (may_open new (zone root p)) []) (append_one d r n) k.0),
          brought_on r rs a k.1,
        )
        then (Err why) k =
            descent_fails_on further root s t u (way_below d (n ∷ r)) (way_below (d ++ n ∷ []) r) (may_open old (zone root (d ++ n ∷ r))) (may_open new (zone root (d ++ n ∷ r))) why h.gives.0.goes
            (subst (λ p. DescendFails further root t u (way_below (d ++ n ∷ []) r) (may_open new (zone root p)) why) (append_one d r n) k)

        pub came_on : (res : Result Unit Fault) → Onwards t inner.place r qs new res → Onwards s d q ps old res
        came_on res k = subst (λ x. Onwards s d x ps old res) (sym is) (then res (subst (λ e. Onwards t e r qs new res) h.gives.1.place k))

pub came_fails : (further : Further) (root : StorageRoot) (s t : Store) (d q r : Place) (n : Text) (old new : Option Around) (why : Fault) → q ≡ n ∷ r
    → Leads further root s t d n r old new (Err why) → DescendFails further root s t (way_below d q) (may_open old (zone root (d ++ q))) why
came_fails further root s t d q r n old new why is h = subst (λ x. DescendFails further root s t (way_below d x) (may_open old (zone root (d ++ x))) why) (sym is) h.gives
