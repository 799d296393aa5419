-- Listings with their places: the one at index n is that of n names of a place.
use Rattle.std.specs.declared.alloc.Global.{Global}
use Rattle.std.specs.Prelude.{Vec, ◌==◌, IfSome, MatchOption, cond, nat_le, min, option_map, slice_get}
use Rattle.std.specs.Option.{option_to_list}
use Rattle.std.proofs.Common.{◌≡◌, ℕ, zero, suc, ◌+◌, ◌-◌, ◌<◌, ◌≤◌, List, [], ◌∷◌, ◌++◌, refl, sym, ◌∙◌, ap, subst, true, false, Bool, Option, Some, None, length, take, drop, arith, vec_len}
use Rattle.std.proofs.lemmas.{Bool.{leb-true, leb-false, le-leb}, Option.{same_Some}}
use Rattle.std.proofs.lemmas.List.{length-append, length_push, length-take, length-take-le, nil_from_length, same_from_push, take-append-drop, take-append-le, take_min}
use Rattle.std.proofs.Math.Seq.{take-append_seam, take-length}
use Rattle.ocfl_tree.specs.{Place.{Place, Text, begins}, declared.store.Entry.{Entry}}
use Rattle.ocfl_rules.specs.Stack.{Frame}
use Rattle.ocfl_rules.proofs.BelowLaws.{begins_front, begins_rest}
use Rattle.ocfl_walk.specs.Standing.{back, Pile, folders_from, frames_of, pile_of, piles_at, piles_in, piles_of, spot_of, levels}
use Rattle.ocfl_walk.specs.Internal.Standing.{IsChain, cut_top, from_name, IsFairPile, IsOrderly, IsOrderlyIf, IsTaken, left_of_folder, next_of, pushed, top_of, trimmed}
use Rattle.ocfl_item.specs.{declared.meeting.Around.{Around}, declared.folder.Folder.{Folder}}
use Rattle.ocfl_walk.proofs.Backs.{last_split, next_of_last, piles_push, snoc, taken_at, trim_drops_by, trim_keeps_by}
use Rattle.ocfl_walk.proofs.OrderlyLaws.{back_count, chain_short, frames_count}

push_from : (i : ℕ) (p : Place) (vs : List (Vec Entry Global)) (v : Vec Entry Global)
    → folders_from i p (vs ++ v ∷ []) ≡ folders_from i p vs ++ record { place = take (i + length vs) p; entries = v } ∷ []
push_from i p [] v = let e : i ≡ i + 0 = omega arith in ap (λ k. record { place = take k p; entries = v } ∷ []) e
push_from i p (w ∷ vs) v =
    let e : suc i + length vs ≡ i + length (w ∷ vs) = omega arith in
    ap (λ fs. record { place = take i p; entries = w } ∷ fs) (push_from (suc i) p vs v ∙ ap (λ k. folders_from (suc i) p vs ++ record { place = take k p; entries = v } ∷ []) e)

-- a listing more
folders_push : (p : Place) (vs ws : List (Vec Entry Global)) (v : Vec Entry Global) → ws ≡ vs ++ v ∷ []
    → folders_from 0 p ws ≡ folders_from 0 p vs ++ record { place = take (length vs) p; entries = v } ∷ []
folders_push p vs ws v e =
    let none : 0 + length vs ≡ length vs = omega arith in
    ap (folders_from 0 p) e ∙ push_from 0 p vs v ∙ ap (λ k. folders_from 0 p vs ++ record { place = take k p; entries = v } ∷ []) none

pub folders_count : (i : ℕ) (p : Place) (vs : List (Vec Entry Global)) → length (folders_from i p vs) ≡ length vs
folders_count i p [] = refl
folders_count i p (v ∷ vs) = omega (arith, folders_count (suc i) p vs)

pub piles_count : (p : Place) (vs : List (Vec Entry Global)) → length (piles_at p vs) ≡ length vs
piles_count p vs = let a = back_count pile_of (folders_from 0 p vs) [] in let b = folders_count 0 p vs in omega (arith, a, b)

folders_same : (i : ℕ) (p q : Place) (vs : List (Vec Entry Global)) → ((k : ℕ) → k < i + length vs → take k p ≡ take k q) → folders_from i p vs ≡ folders_from i q vs
folders_same i p q [] h = refl
folders_same i p q (v ∷ vs) h =
    let here : take i p ≡ take i q = h i (omega arith) in
    ap (λ d. record { place = d; entries = v } ∷ folders_from (suc i) p vs) here
    ∙ ap (λ fs. record { place = take i q; entries = v } ∷ fs) (folders_same (suc i) p q vs (λ k l. h k (omega (arith, l))))

-- the last place has a name for each listing but the first
pub chain_deep : (p : Place) (k : ℕ) (vs : List (Vec Entry Global)) → IsChain p k (frames_of (piles_at p vs)) → length vs ≤ suc (length p)
chain_deep p k vs c = let n = by (frames_of (piles_at p vs)) c in let a = frames_count (piles_at p vs) in let b = piles_count p vs in omega (arith, n, a, b)
  where
    by : (fs : List Frame) → IsChain p k fs → length fs ≤ suc (length p)
    by [] c = omega arith
    by (f ∷ fs) c =
        let short = chain_short f.0 (length f.0) fs c.4 in
        let r = begins_rest f.0 p c.0 in
        let long : length p ≡ length f.0 + length r.0 = ap length r.1 ∙ length-append f.0 r.0 in
        omega (arith, short, long)

take_within : (k n : ℕ) (p : Place) → k ≤ n → take k (take n p) ≡ take k p
take_within zero n p l = refl
take_within (suc k) zero p l = absurd (omega (arith, l))
take_within (suc k) (suc n) [] l = refl
take_within (suc k) (suc n) (x ∷ p) l = ap (λ q. x ∷ q) (take_within k n p (omega (arith, l)))

-- if the deepest listing is on the way to both places, all do
pub folders_shared : (p q : Place) (vs : List (Vec Entry Global)) (n : ℕ) → length vs ≡ suc n → n ≤ length p → begins (take n p) q ≡ true → folders_from 0 p vs ≡ folders_from 0 q vs
folders_shared p q vs n count deep h = folders_same 0 p q vs (λ k l. same k (omega (arith, l, count)))
  where
    same : (k : ℕ) → k ≤ n → take k p ≡ take k q
    same k l =
        let r = begins_rest (take n p) q h in
        let long : k ≤ length (take n p) = omega (arith, l, length-take-le n p deep) in
        sym (take_within k n p l) ∙ sym (take-append-le k (take n p) r.0 long) ∙ ap (take k) (sym r.1)

pub folders_none : (p : Place) (vs : List (Vec Entry Global)) → vs ≡ [] → folders_from 0 p vs ≡ []
folders_none p vs e = ap (folders_from 0 p) e

-- ---- the next entry

pub next_at : (p : Place) (vs above xs : List (Vec Entry Global)) (v : Vec Entry Global) (es : List Entry) (o : Option Entry) → xs ≡ vs → xs ≡ above ++ v ∷ []
    → es ≡ v.items → o ≡ slice_get es (length es - 1)
    → next_of (piles_at p vs) ≡ option_map (λ e. take (length above) p ++ e.name ∷ []) o
next_at p vs above xs v es o same split items last =
    next_of_last (folders_from 0 p above) (folders_from 0 p vs) (record { place = take (length above) p; entries = v }) o
    (folders_push p above vs v (sym same ∙ split)) (subst (λ ys. o ≡ slice_get ys (length ys - 1)) items last)

-- what is left of the deepest listing
pub top_at : (p : Place) (vs xs : List (Vec Entry Global)) (v : Vec Entry Global) (es : List Entry) → xs ≡ vs → Some v ≡ slice_get xs (length xs - 1) → es ≡ v.items
    → back (λ e. e) es ≡ top_of (piles_at p vs)
top_at p vs xs v es same last items =
    let k = last_split xs (Some v) last in
    let piles = piles_push (folders_from 0 p k.0) (folders_from 0 p vs) (record { place = take (length k.0) p; entries = v }) (folders_push p k.0 vs v (sym same ∙ k.1)) in
    ap (back (λ e. e)) items ∙ sym (ap top_of piles)

-- ---- whether the next entry is at a place

module _ (last x d : Place) (n m : Text) (k : ℕ) (is : x ≡ d ++ n ∷ []) (o : Option Place) (next : o ≡ Some (take k last ++ m ∷ [])) where
  depth : length x ≡ length d + 1
  depth = ap length is ∙ length-append d (n ∷ [])

  pub next_is : n ≡ m → begins d last ≡ true → length x - 1 ≡ min (length last) k → o ≡ Some x
  next_is same h deep =
      let r = begins_rest d last h in
      let least : length d ≡ min k (length last) = omega (arith, deep, depth) in
      let front : take k last ≡ d = sym (take_min k last) ∙ ap (λ j. take j last) (sym least) ∙ ap (take (length d)) r.1 ∙ take-append_seam d r.0 in
      next ∙ ap (λ y. Some y) ((λ i. front i ++ sym same i ∷ []) ∙ sym is)

  pub next_fits : o ≡ Some x → (n ≡ m) × (begins d last ≡ true) × (length x - 1 ≡ min (length last) k)
  next_fits e =
      let w = same_from_push (take k last) d m n (same_Some _ _ (sym next ∙ e) ∙ is) in
      let long = ap length w.0 in
      let least = length-take k last in (
        sym w.1,
        subst (λ y. begins y last ≡ true) w.0 (subst (λ y. begins (take k last) y ≡ true) (take-append-drop k last) (begins_front (take k last) (drop k last))),
        omega (arith, depth, long, least),
      )

-- the deepest listing's entry is taken off
pub taken_here : (p : Place) (vs old new : List (Vec Entry Global)) (v w : Vec Entry Global) (o : Option Entry) → old ≡ vs ++ v ∷ [] → new ≡ vs ++ w ∷ [] → v.items ≡ w.items ++ option_to_list o
    → MatchOption o ((vec_len v ≡ 0) × (vec_len w ≡ 0)) (λ _. vec_len w + 1 ≡ vec_len v) → MatchOption o (next_of (piles_at p old) ≡ None) (λ entry. IsTaken (piles_at p old) (piles_at p new) entry)
taken_here p vs old new v w o h k e n =
    taken_at (folders_from 0 p vs) (folders_from 0 p old) (folders_from 0 p new) (record { place = take (length vs) p; entries = v })
    (record { place = take (length vs) p; entries = w }) o (folders_push p vs old v h) (folders_push p vs new w k) refl e n

pub same_count : {A : Type 0} (vs old new : List A) (v w : A) → old ≡ vs ++ v ∷ [] → new ≡ vs ++ w ∷ [] → length new ≡ length old
same_count vs old new v w h k = ap length k ∙ length-append vs (w ∷ []) ∙ sym (ap length h ∙ length-append vs (v ∷ []))

-- one more on top, of a directory on the way to p
pub pushed_at : (p q : Place) (vs ws : List (Vec Entry Global)) (f : Folder) → ws ≡ vs ++ f.entries ∷ [] → p ≡ f.place ++ q → length vs ≡ length f.place → piles_at p ws ≡ pile_of f ∷ piles_at p vs
pushed_at p q vs ws f e way depth =
    piles_push (folders_from 0 p vs) (folders_from 0 p ws) (record { place = take (length vs) p; entries = f.entries }) (folders_push p vs ws f.entries e)
    ∙ ap (λ d. (d, back (λ x. x) f.entries.items) ∷ piles_at p vs) ((λ i. take (depth i) (way i)) ∙ take-append_seam f.place q)

-- ---- listings that are let go

pub trim_keeps_at : (p : Place) (vs old new : List (Vec Entry Global)) (v : Vec Entry Global) (b : Bool) → old ≡ vs ++ v ∷ [] → new ≡ vs ++ v ∷ []
    → b ≡ (vec_len v == 0) → b ≡ false → piles_at p new ≡ trimmed (piles_at p old)
trim_keeps_at p vs old new v b h k e n =
    trim_keeps_by (folders_from 0 p vs) (folders_from 0 p old) (folders_from 0 p new) (record { place = take (length vs) p; entries = v }) b (folders_push p vs old v h) (folders_push p vs new v k) e n

pub trim_drops_at : (p : Place) (vs old : List (Vec Entry Global)) (v : Vec Entry Global) (b : Bool) → old ≡ vs ++ v ∷ [] → b ≡ (vec_len v == 0) → b ≡ true
    → trimmed (piles_at p vs) ≡ trimmed (piles_at p old)
trim_drops_at p vs old v b h e n = trim_drops_by (folders_from 0 p vs) (folders_from 0 p old) (record { place = take (length vs) p; entries = v }) b (folders_push p vs old v h) e n

-- ---- what is before a name in the deepest listing

pub begins_later : (p : Place) (vs : List (Vec Entry Global)) (k : ℕ) (n : Text) → length vs ≤ k → piles_at p vs ≡ cut_top k n (piles_at p vs)
begins_later p vs k n l = by (piles_at p vs) (piles_count p vs)
  where
    by : (ps : List Pile) → length ps ≡ length vs → ps ≡ cut_top k n ps
    by [] e = refl
    by (x ∷ ps) e = go (nat_le k (length ps)) refl
      where
        go : (b : Bool) → nat_le k (length ps) ≡ b → x ∷ ps ≡ cond b ((x.0, from_name n x.1) ∷ ps) (x ∷ ps)
        go true f = absurd (let m = leb-true k (length ps) f in omega (arith, e, l, m))
        go false f = refl

pub begins_here : (p : Place) (vs old new : List (Vec Entry Global)) (v w : Vec Entry Global) (k : ℕ) (n : Text) → old ≡ vs ++ v ∷ [] → new ≡ vs ++ w ∷ []
    → k < length old → back (λ x. x) w.items ≡ from_name n (back (λ x. x) v.items)
    → piles_at p new ≡ cut_top k n (piles_at p old)
begins_here p vs old new v w k n h e l same =
    piles_push (folders_from 0 p vs) (folders_from 0 p new) (record { place = take (length vs) p; entries = w }) (folders_push p vs new w e)
    ∙ ap (λ es. (take (length vs) p, es) ∷ piles_at p vs) same
    ∙ ap (λ b. cond b ((take (length vs) p, from_name n (back (λ x. x) v.items)) ∷ piles_at p vs) ((take (length vs) p, back (λ x. x) v.items) ∷ piles_at p vs)) (sym deep)
    ∙ sym (ap (cut_top k n) (piles_push (folders_from 0 p vs) (folders_from 0 p old) (record { place = take (length vs) p; entries = v }) (folders_push p vs old v h)))
  where
    deep : nat_le k (length (piles_at p vs)) ≡ true
    deep = let c = piles_count p vs in let m : length old ≡ length vs + 1 = ap length h ∙ length-append vs (v ∷ []) in le-leb k (length (piles_at p vs)) (omega (arith, l, c, m))

-- ---- on to another place

-- the deepest listing's place
top_place : (p : Place) (vs : List (Vec Entry Global)) (n : ℕ) (q : Pile) (ps : List Pile) → length vs ≡ suc n → piles_at p vs ≡ q ∷ ps → q.0 ≡ take n p
top_place p vs n q ps count is =
    let k = snoc vs (λ e. let none = ap length e in omega (arith, none, count)) in
    let above : length k.0 ≡ n = let all = ap length k.2 in omega (arith, all, count, length-append k.0 (k.1 ∷ [])) in
    let top : piles_at p vs ≡ (take (length k.0) p, back (λ x. x) k.1.items) ∷ piles_at p k.0 =
    piles_push (folders_from 0 p k.0) (folders_from 0 p vs) (record { place = take (length k.0) p; entries = k.1 }) (folders_push p k.0 vs k.1 k.2) in
    first (sym is ∙ top) ∙ ap (λ m. take m p) above
  where
    first : {x : Pile} {xs : List Pile} → q ∷ ps ≡ x ∷ xs → q.0 ≡ x.0
    first {x = x} e = let same : ◌≡◌ {A = Pile} q x = cc in ap (λ y. y.0) same

some_count : (p : Place) (vs : List (Vec Entry Global)) (q : Pile) (ps : List Pile) → piles_at p vs ≡ q ∷ ps → length vs ≡ suc (length ps)
some_count p vs q ps is = let n = piles_count p vs in let m : length (piles_at p vs) ≡ length (q ∷ ps) = ap length is in omega (arith, n, m)

-- the deepest listing is that of the last place, or of a directory above it
pub top_here : (d : Place) (vs : List (Vec Entry Global)) (x : Pile) (rest : List Pile) → IsChain d levels (frames_of (piles_at d vs)) → piles_at d vs ≡ x ∷ rest
    → (nat_le (length d) (length rest) ≡ true → x.0 ≡ d) × (nat_le (length d) (length rest) ≡ false → length x.0 < length d)
top_here d vs x rest c is = (whole, (λ e. let m = leb-false (length d) (length rest) e in let l = ap length top ∙ length-take-le (length rest) d (omega (arith, m)) in omega (arith, l, m)))
  where
    many : length vs ≡ suc (length rest)
    many = some_count d vs x rest is

    top : x.0 ≡ take (length rest) d
    top = top_place d vs (length rest) x rest many is

    whole : nat_le (length d) (length rest) ≡ true → x.0 ≡ d
    whole e =
        let l = leb-true (length d) (length rest) e in
        let m = chain_deep d levels vs c in
        let n = many in
        let same : length rest ≡ length d = omega (arith, l, m, n) in
        top ∙ ap (λ k. take k d) same ∙ take-length d

-- a listing that goes on top, of a place as deep as the others are many
pub fits : (x : Place) (vs : List (Vec Entry Global)) (f : Option Folder) → length x ≡ length vs → IfSome f (λ g. IsFairPile x g) → IfSome f (λ g. (g.place ≡ x) × (length x ≡ length vs))
fits x vs None deep k = tt
fits x vs (Some g) deep k = (k.place, deep)

-- at an entry of the deepest listing
module _ (p x : Place) (old new : List (Vec Entry Global)) (entry : Entry) (a : Option Around) (h : IsOrderly p (piles_at p old) a)
    (t : IsTaken (piles_at p old) (piles_at p new) entry) (count : length new ≡ length old) (e : x ≡ t.place ++ entry.name ∷ []) where
  abbrev n : ℕ
  n = length t.others

  many : length old ≡ suc n
  many = some_count p old (t.place, entry ∷ t.rest) t.others t.old_is

  deep : n ≤ length p
  deep = let d = chain_deep p levels old h.chain in let m = many in omega (arith, d, m)

  top : t.place ≡ take n p
  top = top_place p old n (t.place, entry ∷ t.rest) t.others many t.old_is

  pub entry_shared : piles_at x new ≡ piles_at p new
  entry_shared = ap piles_of (sym
      (folders_shared p x new n (count ∙ many) deep (subst (λ y. begins (take n p) y ≡ true) (sym (e ∙ ap (λ d. d ++ entry.name ∷ []) top)) (begins_front (take n p) (entry.name ∷ [])))))

  pub entry_depth : length x ≡ length new
  entry_depth =
      let l : length x ≡ length t.place + 1 = ap length e ∙ length_push t.place entry.name in
      let d : length t.place ≡ n = ap length top ∙ length-take-le n p deep in
      let m = many in
      omega (arith, l, d, m, count)

  -- its listing goes on top
  pub entry_pushed : (ws : List (Vec Entry Global)) (f : Option Folder) → IfSome f (λ g. IsFairPile x g)
      → ((q : Place) → IfSome f (λ g. (g.place ≡ q) × (length q ≡ length new)) → piles_at q ws ≡ pushed f (piles_at q new)) → piles_at x ws ≡ pushed f (piles_at p new)
  entry_pushed ws f fair push = push x (fits x new f entry_depth fair) ∙ ap (pushed f) entry_shared

  pub entry_room : (f : Option Folder) → IfSome f (λ g. IsFairPile x g) → IfSome f (λ _. length new < levels)
  entry_room None k = tt
  entry_room (Some g) k = let d = entry_depth in omega (arith, d, k.depth)

-- at a path of the table
pub path_shared : (p b : Place) (vs : List (Vec Entry Global)) (a : Option Around) → IsOrderly p (piles_at p vs) a → IsOrderly b (piles_at p vs) a → piles_at b vs ≡ piles_at p vs
path_shared p b vs a h k = by (piles_at p vs) refl k.chain
  where
    by : (ps : List Pile) → piles_at p vs ≡ ps → IsChain b levels (frames_of ps) → piles_at b vs ≡ piles_at p vs
    by [] e c = let n = piles_count p vs in let m : length (piles_at p vs) ≡ 0 = ap length e in let none = nil_from_length vs (omega (arith, n, m)) in ap (piles_at b) none ∙ sym (ap (piles_at p) none)
    by (q ∷ ps) e c =
        let many = some_count p vs q ps e in
        let d = chain_deep p levels vs h.chain in
        ap piles_of (sym (folders_shared p b vs (length ps) many (omega (arith, d, many)) (subst (λ y. begins y b ≡ true) (top_place p vs (length ps) q ps many e) c.0)))

-- a walk that has a next entry has begun
pub begun : (last : Option Place) (ps : List Pile) (a : Option Around) (x : Place) → IsOrderlyIf last ps a → next_of ps ≡ Some x → (last ≡ Some (spot_of last)) × IsOrderly (spot_of last) ps a
begun None ps a x h e = absurd (let n : None ≡ Some x = sym (ap next_of h.0) ∙ e in cc)
begun (Some p) ps a x h e = (refl, h)

pub begun_if : (last : Option Place) (ps : List Pile) (a : Option Around) → IsOrderlyIf last ps a → (last ≡ None → ⊥) → (last ≡ Some (spot_of last)) × IsOrderly (spot_of last) ps a
begun_if None ps a h n = absurd (n refl)
begun_if (Some p) ps a h n = (refl, h)

-- ---- on the way down to a place

-- what is left of the next listing is on top
pub on_top : (last : Option Place) (old new : List (Vec Entry Global)) (f : Folder) (d q : Place) → last ≡ Some (d ++ q) → length old ≡ length d → f.place ≡ d
    → ((p r : Place) → p ≡ f.place ++ r → length old ≡ length f.place → piles_at p new ≡ pile_of f ∷ piles_at p old) → piles_in last new ≡ (d, left_of_folder f) ∷ piles_in last old
on_top last old new f d q way depth place push =
    push (spot_of last) q (ap spot_of way ∙ ap (λ x. x ++ q) (sym place)) (depth ∙ ap length (sym place)) ∙ ap (λ x. (x, left_of_folder f) ∷ piles_in last old) place

-- one listing and one name more
pub deeper : (old new : List (Vec Entry Global)) (d : Place) (n : Text) (e : Place) → length new ≡ length old + 1 → length old ≡ length d → e ≡ d ++ n ∷ [] → length new ≡ length e
deeper old new d n e more depth is = let l : length e ≡ length d + 1 = ap length is ∙ length_push d n in omega (arith, more, l, depth)
