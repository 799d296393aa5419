-- How the first findings of each weight grow by one.
use Rattle.std.proofs.Common.{◌≡◌, ◌+◌, ◌^◌, ◌<◌, List, [], ◌∷◌, ◌++◌, Bool, true, false, length, refl, ap, sym, subst, ◌∙◌, arith}
use Rattle.std.proofs.{lemmas.List.{append-nil}, lemmas.List.Elements.{filter-append}}
use Rattle.std.specs.{Prelude.{None, Some}, List.{filter}}
use Rattle.ocfl_codes.specs.Weight.{weight_of, is_weight}
use Rattle.ocfl_messages.specs.{Finding.{Finding}, Gravest.{IsFirst, IsOf, by_weight, is_of_weight, of_weight}}
use Rattle.ocfl_codes.specs.declared.weight.Weight.{Weight}
use Rattle.ocfl_codes.specs.declared.weight.Weight.TheVariants.{Bytes, Object, Record, Position}
use Rattle.ocfl_messages.specs.{declared.gravest.Kept.{Kept}, declared.gravest.Gravest.{Gravest}}
use Rattle.ocfl_messages.proofs.Weights.{length_by_weight}

-- one line more is taken if the test takes it
pub filter_more : {X : Type 0} (p : X → Bool) (ls : List X) (l : X) → p l ≡ true → filter p (ls ++ l ∷ []) ≡ filter p ls ++ l ∷ []
filter_more p ls l h =
    let one : filter p (l ∷ []) ≡ l ∷ [] = rw h refl in
    filter-append p ls (l ∷ []) ∙ ap (λ t. filter p ls ++ t) one

pub filter_same : {X : Type 0} (p : X → Bool) (ls : List X) (l : X) → p l ≡ false → filter p (ls ++ l ∷ []) ≡ filter p ls
filter_same p ls l h =
    let none : filter p (l ∷ []) ≡ [] = rw h refl in
    filter-append p ls (l ∷ []) ∙ ap (λ t. filter p ls ++ t) none ∙ append-nil (filter p ls)

-- a line of this weight
of_more : (w : Weight) (ls : List Finding) (l : Finding) → is_weight w (weight_of l.line.code) ≡ true → of_weight w (ls ++ l ∷ []) ≡ of_weight w ls ++ l ∷ []
of_more w ls l h = filter_more (is_of_weight w) ls l h

-- and of another, or none
of_same : (w : Weight) (ls : List Finding) (l : Finding) → is_weight w (weight_of l.line.code) ≡ false → of_weight w (ls ++ l ∷ []) ≡ of_weight w ls
of_same w ls l h = filter_same (is_of_weight w) ls l h

stays : (k : Kept) (w : Weight) (ls : List Finding) (l : Finding) → is_weight w (weight_of l.line.code) ≡ false → IsFirst k (of_weight w ls) → IsFirst k (of_weight w (ls ++ l ∷ []))
stays k w ls l h f = subst (IsFirst k) (sym (of_same w ls l h)) f

grows : (k : Kept) (w : Weight) (ls : List Finding) (l : Finding) → is_weight w (weight_of l.line.code) ≡ true → IsFirst k (of_weight w ls ++ l ∷ []) → IsFirst k (of_weight w (ls ++ l ∷ []))
grows k w ls l h f = subst (IsFirst k) (sym (of_more w ls l h)) f

pub bytes_more : (g : Gravest) (k : Kept) (ls : List Finding) (l : Finding) → weight_of l.line.code ≡ Some Bytes → IsFirst k (of_weight Bytes ls ++ l ∷ []) → IsOf g ls
    → IsOf (record { bytes = k; objects = g.objects; records = g.records; positions = g.positions }) (ls ++ l ∷ [])
bytes_more g k ls l e f h = record {
  bytes = grows k Bytes ls l (ap (is_weight Bytes) e) f;
  objects = stays g.objects Object ls l (ap (is_weight Object) e) h.objects;
  records = stays g.records Record ls l (ap (is_weight Record) e) h.records;
  positions = stays g.positions Position ls l (ap (is_weight Position) e) h.positions;
}

pub objects_more : (g : Gravest) (k : Kept) (ls : List Finding) (l : Finding) → weight_of l.line.code ≡ Some Object → IsFirst k (of_weight Object ls ++ l ∷ []) → IsOf g ls
    → IsOf (record { bytes = g.bytes; objects = k; records = g.records; positions = g.positions }) (ls ++ l ∷ [])
objects_more g k ls l e f h = record {
  bytes = stays g.bytes Bytes ls l (ap (is_weight Bytes) e) h.bytes;
  objects = grows k Object ls l (ap (is_weight Object) e) f;
  records = stays g.records Record ls l (ap (is_weight Record) e) h.records;
  positions = stays g.positions Position ls l (ap (is_weight Position) e) h.positions;
}

pub records_more : (g : Gravest) (k : Kept) (ls : List Finding) (l : Finding) → weight_of l.line.code ≡ Some Record → IsFirst k (of_weight Record ls ++ l ∷ []) → IsOf g ls
    → IsOf (record { bytes = g.bytes; objects = g.objects; records = k; positions = g.positions }) (ls ++ l ∷ [])
records_more g k ls l e f h = record {
  bytes = stays g.bytes Bytes ls l (ap (is_weight Bytes) e) h.bytes;
  objects = stays g.objects Object ls l (ap (is_weight Object) e) h.objects;
  records = grows k Record ls l (ap (is_weight Record) e) f;
  positions = stays g.positions Position ls l (ap (is_weight Position) e) h.positions;
}

pub positions_more : (g : Gravest) (k : Kept) (ls : List Finding) (l : Finding) → weight_of l.line.code ≡ Some Position → IsFirst k (of_weight Position ls ++ l ∷ []) → IsOf g ls
    → IsOf (record { bytes = g.bytes; objects = g.objects; records = g.records; positions = k }) (ls ++ l ∷ [])
positions_more g k ls l e f h = record {
  bytes = stays g.bytes Bytes ls l (ap (is_weight Bytes) e) h.bytes;
  objects = stays g.objects Object ls l (ap (is_weight Object) e) h.objects;
  records = stays g.records Record ls l (ap (is_weight Record) e) h.records;
  positions = grows k Position ls l (ap (is_weight Position) e) f;
}

-- a line that is no finding
pub none_more : (g : Gravest) (ls : List Finding) (l : Finding) → weight_of l.line.code ≡ None → IsOf g ls → IsOf g (ls ++ l ∷ [])
none_more g ls l e h = record {
  bytes = stays g.bytes Bytes ls l (ap (is_weight Bytes) e) h.bytes;
  objects = stays g.objects Object ls l (ap (is_weight Object) e) h.objects;
  records = stays g.records Record ls l (ap (is_weight Record) e) h.records;
  positions = stays g.positions Position ls l (ap (is_weight Position) e) h.positions;
}

-- all of them together
pub counted : (g : Gravest) (ls : List Finding) → IsOf g ls → length (by_weight ls) < 2 ^ 64 → g.bytes.count + g.objects.count + g.records.count + g.positions.count ≡ length (by_weight ls)
counted g ls h l =
    let all = length_by_weight ls in
    let b = h.bytes.count (omega (arith, l, all)) in
    let o = h.objects.count (omega (arith, l, all)) in
    let r = h.records.count (omega (arith, l, all)) in
    let p = h.positions.count (omega (arith, l, all)) in
    omega (arith, b, o, r, p, all)
