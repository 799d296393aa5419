-- What is shared at the front of texts does not count in their order.
use Rattle.std.proofs.Common.{◌≡◌, ℕ, ◌+◌, ◌-◌, length-drop, ◌≤◌, ◌<◌, [], ◌∷◌, ◌++◌, List, Bool, true, false, refl, sym, ◌∙◌, ap, subst, cond, length, take, drop, get_or, arith, append_assoc}
use Rattle.std.proofs.lemmas.Bool.Decides.{Decides-eqb, nat_tests}
use Rattle.std.proofs.lemmas.List.{take-append-drop, take_all, take_more, drop-append-le, take-append-le}
use Rattle.std.proofs.lemmas.List.Elements.{All-append, All-cons, All-nil}
use Rattle.std.proofs.{lemmas.Slice.Eq.{starts_is, bytes_eq-Decides}, Math.Seq.{drop-append_seam}}
use Rattle.std.specs.{Prelude.{◌==◌, ◌&&◌, nat_eq, All}, Ordering.{is_lt, ordering_then}}
use Rattle.std.specs.{List.{starts_with}, List.Sorted.{IsSorted, IsSortedBy}}
use Rattle.std.specs.Cmp.Lexicographic.{pointwise}
use Rattle.ocfl_tree.specs.Place.{Text, Place, place_cmp, begins}
use Rattle.ocfl_tree.specs.Path.{elements, names_of, slashed, path_cmp, byte_cmp, is_ended}
use Rattle.ocfl_tree.proofs.Orders.{true_not_false}
use Rattle.ocfl_tree.proofs.PathOrders.{path_cmp_is, names_cmp, names_begin}
use Rattle.ocfl_inventory.specs.Table.{Triple, triple_cmp, named_cmp}
use Rattle.ocfl_inventory.specs.Internal.SharedFront.{IsBelow, behind}

-- ---- the order

same_byte : (a : ℕ) → (a == a) ≡ true
same_byte a = (Decides-eqb a a).1 refl

same_front : (front t u : Text) → path_cmp (front ++ t) (front ++ u) ≡ path_cmp t u
same_front [] t u = refl
same_front (a ∷ front) t u = ap (λ b. cond b (path_cmp (front ++ t) (front ++ u)) (byte_cmp a a)) (same_byte a) ∙ same_front front t u

same_order : (front : Text) (x y : Triple) → IsBelow front x → IsBelow front y → triple_cmp (behind (length front) x) (behind (length front) y) ≡ triple_cmp x y
same_order front x y h k =
    let n = length front in
    let first : drop n (slashed x.path) ≡ h.rest = ap (drop n) h.whole ∙ drop-append_seam front h.rest in
    let second : drop n (slashed y.path) ≡ k.rest = ap (drop n) k.whole ∙ drop-append_seam front k.rest in
    let paths : place_cmp (elements (drop n (slashed x.path))) (elements (drop n (slashed y.path))) ≡ place_cmp x.path y.path =
    sym (path_cmp_is (drop n (slashed x.path)) (drop n (slashed y.path)))
    ∙ (λ i. path_cmp (first i) (second i))
    ∙ sym (same_front front h.rest k.rest)
    ∙ (λ i. path_cmp (sym h.whole i) (sym k.whole i))
    ∙ names_cmp (slashed x.path) (slashed y.path)
    ∙ (λ i. place_cmp (h.known i) (k.known i)) in
    ap (λ r. ordering_then r (named_cmp x.named y.named)) paths

pub sorted_behind : (front : Text) (xs : List Triple) → All (IsBelow front) xs → IsSortedBy (λ x y. is_lt (triple_cmp (behind (length front) x) (behind (length front) y))) xs → IsSorted triple_cmp xs
sorted_behind front xs all sorted k d low high =
    let here : IsBelow front (get_or xs k d) = all k d (omega arith) in
    let next : IsBelow front (get_or xs (k + 1) d) = all (k + 1) d high in
    ap is_lt (sym (same_order front (get_or xs (k + 1) d) (get_or xs k d) next here)) ∙ sorted k d low high

-- ---- counting shared bytes

pub starts_shared : (text other : Text) (b : Bool) → b ≡ starts_with nat_eq other text → b ≡ true → other ≡ take (length text) text ++ drop (length text) other
starts_shared text other b h e =
    (starts_is Decides-eqb other text b h).0 e ∙ ap (λ t. t ++ drop (length text) other) (sym (take_all (length text) text (omega arith)))

pub shared_so_far : (text other : Text) (n : ℕ) → take n text ≡ take n other → other ≡ take n text ++ drop n other
shared_so_far text other n h = sym (take-append-drop n other) ∙ ap (λ t. t ++ drop n other) (sym h)

-- ---- going over triples

shorter : (front : Text) (n : ℕ) (t : Triple) → IsBelow front t → IsBelow (take n front) t
shorter front n t h = record {
  rest = drop n front ++ h.rest;
  whole = h.whole ∙ ap (λ u. u ++ h.rest) (sym (take-append-drop n front)) ∙ append_assoc (take n front) (drop n front) h.rest;
  known = h.known;
}

pub front_step : (front : Text) (n : ℕ) (xs : List Triple) (i : ℕ) (x : Triple) (text rest : Text) → i < length xs → x ≡ get_or xs i x → text ≡ slashed x.path
    → names_of text ≡ x.path → text ≡ take n front ++ rest
    → All (IsBelow front) (take i xs) → All (IsBelow (take n front)) (take (i + 1) xs)
front_step front n xs i x text rest h is value known shared all =
    let P = IsBelow (take n front) in
    let here : P x = record { rest = rest; whole = sym value ∙ shared; known = ap names_of (sym value) ∙ known } in
    let more : take (i + 1) xs ≡ take i xs ++ x ∷ [] = take_more xs i x h ∙ ap (λ y. take i xs ++ y ∷ []) (sym is) in
    subst (All P) (sym more) (All-append P (take i xs) (x ∷ []) (λ k d l. shorter front n (get_or (take i xs) k d) (all k d l)) (All-cons P x [] here (All-nil P)))

-- ---- what a path begins, by its last bytes

pub last_alike : (path other : Text) (from n m : ℕ) (b : Bool) → from ≤ length path → n ≡ length path - from → m ≡ n
    → b ≡ pointwise nat_eq (take n (drop from path)) (take m (drop from other)) → starts_with nat_eq other path ≡ true → b ≡ true
last_alike path other from n m b low is as_many h begun =
    let rest = drop (length path) other in
    let whole : other ≡ path ++ rest = (starts_is Decides-eqb other path (starts_with nat_eq other path) refl).0 begun in
    let short : m ≤ length (drop from path) = simp length-drop (omega (arith, is, as_many)) in
    let same : take m (drop from other) ≡ take n (drop from path) =
    ap (λ t. take m (drop from t)) whole ∙ ap (take m) (drop-append-le from path rest low) ∙ take-append-le m (drop from path) rest short ∙ ap (λ k. take k (drop from path)) as_many in
    h ∙ ap (pointwise nat_eq (take n (drop from path))) same ∙ (bytes_eq-Decides (take n (drop from path)) (take n (drop from path))).1 refl

pub not_begun : (t u : Text) (p q : Place) (b : Bool) → names_of t ≡ p → names_of u ≡ q → (starts_with nat_eq u t ≡ true → b ≡ true) → b ≡ false → b ≡ begins p q
not_begun [] u p q b ht hu tells h = absurd (true_not_false (sym (tells refl) ∙ h))
not_begun (c ∷ t) u p q b ht hu tells h = by (starts_with nat_eq u (c ∷ t)) refl
  where
    some : (length (c ∷ t) == 0) ≡ false
    some = grind (arith, nat_tests)

    by : (s : Bool) → starts_with nat_eq u (c ∷ t) ≡ s → b ≡ begins p q
    by true e = absurd (true_not_false (sym (tells e) ∙ h))
    by false e = h ∙ ap (λ s. s && is_ended (drop (length (c ∷ t)) u)) (sym e) ∙ names_begin (c ∷ t) u some ∙ (λ i. begins (ht i) (hu i))
