-- The first of some findings, as more come, and as they come by weight.
use Rattle.std.proofs.Common.{◌≡◌, ℕ, zero, suc, ◌-◌, ◌≤◌, ◌<◌, List, [], ◌∷◌, ◌++◌, length, take, map, refl, ap, sym, subst, ◌∙◌, append_assoc, arith}
use Rattle.std.proofs.lemmas.List.{take-append-le, length-take, length-map, map-append, take-map}
use Rattle.ocfl_codes.specs.declared.weight.Weight.TheVariants.{Bytes, Object, Record, Position}
use Rattle.ocfl_messages.specs.{Finding.{Finding, finding_of}, Gravest.{IsOf, gravest, most_kept, of_weight}}
use Rattle.ocfl_messages.specs.declared.gravest.Gravest.{Gravest}
use Rattle.ocfl_messages.specs.declared.finding.Finding.{Finding as MadeFinding}

-- one more behind fewer than n
pub take_grows : {X : Type 0} (n : ℕ) (xs : List X) (x : X) → length (take n xs) < n → take n (xs ++ x ∷ []) ≡ take n xs ++ x ∷ []
take_grows zero xs x l = absurd (omega (arith, l))
take_grows (suc zero) [] x l = refl
take_grows (suc (suc n)) [] x l = refl
take_grows (suc n) (y ∷ xs) x l = ap (λ ys. y ∷ ys) (take_grows n xs x (omega (arith, l)))

-- and behind as many
pub take_stays : {X : Type 0} (n : ℕ) (xs : List X) (x : X) → n ≤ length (take n xs) → take n (xs ++ x ∷ []) ≡ take n xs
take_stays n xs x l = take-append-le n xs (x ∷ []) (omega (arith, l, length-take n xs))

-- the first n of two lists, of which the first m of the one are known
pub take_parts : {X : Type 0} (n m : ℕ) (xs ys : List X) → n ≤ m → take n (xs ++ ys) ≡ take n (take m xs) ++ take (n - length (take m xs)) ys
take_parts zero m xs ys l =
    let e : 0 - length (take m xs) ≡ 0 = omega arith in
    rw e refl
take_parts (suc n) zero xs ys l = absurd (omega (arith, l))
take_parts (suc n) (suc m) [] ys l =
    let e : suc n - 0 ≡ suc n = omega arith in
    ap (λ k. take k ys) (sym e)
take_parts (suc n) (suc m) (x ∷ xs) ys l =
    let e : suc n - length (x ∷ take m xs) ≡ n - length (take m xs) = omega arith in
    rw e (ap (λ zs. x ∷ zs) (take_parts n m xs ys (omega (arith, l))))

-- the first twenty of some findings, as the values that hold them
pub kept_more : (xs : List MadeFinding) (fs : List Finding) (m : MadeFinding) → length xs < most_kept → map finding_of xs ≡ take most_kept fs → map finding_of (xs ++ m ∷ []) ≡ take most_kept (fs ++ finding_of m ∷ [])
kept_more xs fs m few h =
    let same : length (take most_kept fs) ≡ length xs = ap length (sym h) ∙ length-map xs finding_of in
    map-append finding_of xs (m ∷ []) ∙ ap (λ t. t ++ finding_of m ∷ []) h ∙ sym (take_grows most_kept fs (finding_of m) (omega (arith, few, same)))

pub kept_full : (xs : List MadeFinding) (fs : List Finding) (f : Finding) → most_kept ≤ length xs → map finding_of xs ≡ take most_kept fs → map finding_of xs ≡ take most_kept (fs ++ f ∷ [])
kept_full xs fs f full h =
    let same : length (take most_kept fs) ≡ length xs = ap length (sym h) ∙ length-map xs finding_of in
    h ∙ sym (take_stays most_kept fs f (omega (arith, full, same)))

-- the first of what was taken first
take_again : {X : Type 0} (n m : ℕ) (xs : List X) → n ≤ m → take n (take m xs) ≡ take n xs
take_again zero m xs l = refl
take_again (suc n) zero xs l = absurd (omega (arith, l))
take_again (suc n) (suc m) [] l = refl
take_again (suc n) (suc m) (x ∷ xs) l = ap (λ ys. x ∷ ys) (take_again n m xs (omega (arith, l)))

-- the first of two lists, by the first of each
take_both : {X : Type 0} (n : ℕ) (xs ys : List X) → take n (take n xs ++ take n ys) ≡ take n (xs ++ ys)
take_both n xs ys =
    let e = take_again n n xs (omega arith) in
    take_parts n n (take n xs) (take n ys) (omega arith)
    ∙ (λ i. take n (e i) ++ take (n - length (e i)) (take n ys))
    ∙ ap (λ t. take n (take n xs) ++ t) (take_again (n - length (take n xs)) n ys (omega arith))
    ∙ sym (take_parts n n xs ys (omega arith))

pub first_both : (xs ys zs : List MadeFinding) (fs gs : List Finding) → zs ≡ take most_kept (xs ++ ys) → map finding_of xs ≡ take most_kept fs → map finding_of ys ≡ take most_kept gs
    → map finding_of zs ≡ take most_kept (fs ++ gs)
first_both xs ys zs fs gs e f g =
    ap (map finding_of) e ∙ sym (take-map finding_of most_kept (xs ++ ys)) ∙ ap (take most_kept) (map-append finding_of xs ys)
    ∙ (λ i. take most_kept (f i ++ g i)) ∙ take_both most_kept fs gs

step : (n m : ℕ) (xs ys X : List Finding) → n ≤ m → X ≡ take m xs → take n (xs ++ ys) ≡ take n X ++ take (n - length X) ys
step n m xs ys X l e = subst (λ Z. take n (xs ++ ys) ≡ take n Z ++ take (n - length Z) ys) (sym e) (take_parts n m xs ys l)

last : (n m : ℕ) (xs X : List Finding) → n ≤ m → X ≡ take m xs → take n xs ≡ take n X
last n m xs X l e = sym (take_again n m xs l) ∙ ap (take n) (sym e)

-- the most serious findings, as the first of each weight
pub gravest_parts : (a b c d A B C D : List Finding) → A ≡ take most_kept a → B ≡ take most_kept b → C ≡ take most_kept c → D ≡ take most_kept d
    → ((take most_kept A ++ take (most_kept - length A) B) ++ take (most_kept - length A - length B) C)
    ++ take (most_kept - length A - length B - length C) D ≡ take most_kept (((a ++ b) ++ c) ++ d)
gravest_parts a b c d A B C D ea eb ec ed =
    let LA = take most_kept A in
    let LB = take (most_kept - length A) B in
    let LC = take (most_kept - length A - length B) C in
    let LD = take (most_kept - length A - length B - length C) D in
    let one = step most_kept most_kept a (b ++ (c ++ d)) A (omega arith) ea in
    let two = step (most_kept - length A) most_kept b (c ++ d) B (omega arith) eb in
    let three = step (most_kept - length A - length B) most_kept c d C (omega arith) ec in
    let four = last (most_kept - length A - length B - length C) most_kept d D (omega arith) ed in
    let ordered : (((a ++ b) ++ c) ++ d) ≡ a ++ (b ++ (c ++ d)) = append_assoc (a ++ b) c d ∙ append_assoc a b (c ++ d) in
    let whole : take most_kept (((a ++ b) ++ c) ++ d) ≡ LA ++ (LB ++ (LC ++ LD)) =
    ap (take most_kept) ordered ∙ one ∙ ap (λ x. LA ++ x) (two ∙ ap (λ x. LB ++ x) (three ∙ ap (λ x. LC ++ x) four)) in
    let grouped : ((LA ++ LB) ++ LC) ++ LD ≡ LA ++ (LB ++ (LC ++ LD)) = simp append_assoc in
    grouped ∙ sym whole

-- and as the values that hold them, put down weight by weight
pub gravest_put : (g : Gravest) (fs t0 t1 t2 t3 t4 : List Finding) (r1 r2 r3 : ℕ) → IsOf g fs → t0 ≡ []
    → t1 ≡ t0 ++ map finding_of (take most_kept g.bytes.first.items) → r1 ≡ most_kept - length g.bytes.first.items
    → t2 ≡ t1 ++ map finding_of (take r1 g.objects.first.items) → r2 ≡ r1 - length g.objects.first.items
    → t3 ≡ t2 ++ map finding_of (take r2 g.records.first.items) → r3 ≡ r2 - length g.records.first.items
    → t4 ≡ t3 ++ map finding_of (take r3 g.positions.first.items)
    → t4 ≡ gravest fs
gravest_put g fs t0 t1 t2 t3 t4 r1 r2 r3 h e0 e1 f1 e2 f2 e3 f3 e4 =
    let A = map finding_of g.bytes.first.items in
    let B = map finding_of g.objects.first.items in
    let C = map finding_of g.records.first.items in
    let D = map finding_of g.positions.first.items in
    let d1 : t1 ≡ take most_kept A = e1 ∙ ap (λ xs. xs ++ map finding_of (take most_kept g.bytes.first.items)) e0 ∙ sym (take-map finding_of most_kept g.bytes.first.items) in
    let d2 : t2 ≡ t1 ++ take r1 B = e2 ∙ ap (λ xs. t1 ++ xs) (sym (take-map finding_of r1 g.objects.first.items)) in
    let d3 : t3 ≡ t2 ++ take r2 C = e3 ∙ ap (λ xs. t2 ++ xs) (sym (take-map finding_of r2 g.records.first.items)) in
    let d4 : t4 ≡ t3 ++ take r3 D = e4 ∙ ap (λ xs. t3 ++ xs) (sym (take-map finding_of r3 g.positions.first.items)) in
    let la : length A ≡ length g.bytes.first.items = length-map g.bytes.first.items finding_of in
    let lb : length B ≡ length g.objects.first.items = length-map g.objects.first.items finding_of in
    let lc : length C ≡ length g.records.first.items = length-map g.records.first.items finding_of in
    let q1 : r1 ≡ most_kept - length A = f1 ∙ ap (λ n. most_kept - n) (sym la) in
    let q2 : r2 ≡ most_kept - length A - length B = f2 ∙ ap (λ n. n - length g.objects.first.items) q1 ∙ ap (λ n. most_kept - length A - n) (sym lb) in
    let q3 : r3 ≡ most_kept - length A - length B - length C = f3 ∙ ap (λ n. n - length g.records.first.items) q2 ∙ ap (λ n. most_kept - length A - length B - n) (sym lc) in
    d4 ∙ (λ i. ((d3 ∙ (λ j. (d2 ∙ (λ k. d1 k ++ take (q1 k) B)) j ++ take (q2 j) C)) i) ++ take (q3 i) D)
    ∙ gravest_parts (of_weight Bytes fs) (of_weight Object fs) (of_weight Record fs) (of_weight Position fs) A B C D h.bytes.first h.objects.first h.records.first h.positions.first
