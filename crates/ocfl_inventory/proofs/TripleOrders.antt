-- The order of triples tells them apart.
use Rattle.std.proofs.Common.{◌≡◌, Some, refl, sym, ap, ◌∙◌, true, false}
use Rattle.std.specs.{Ordering.{bool_cmp, is_eq, ordering_then}, FinMap.{IsAntisymmetric}}
use Rattle.std.specs.declared.cmp.Ordering.{Ordering}
use Rattle.std.specs.declared.cmp.Ordering.TheVariants.{Less, Equal, Greater}
use Rattle.ocfl_digest.specs.Algorithm.{algorithm_cmp, algorithm_name, algorithm_named}
use Rattle.ocfl_digest.proofs.Names.{named_by_name}
use Rattle.ocfl_tree.specs.Place.{place_cmp, text_cmp}
use Rattle.ocfl_tree.proofs.{Orders.{place_cmp_exact}, Places.{text_cmp_exact}}
use Rattle.ocfl_inventory.specs.Table.{Triple, named_cmp, triple_cmp}

pub then_parts : (r s : Ordering) → ordering_then r s ≡ Equal → (r ≡ Equal) × (s ≡ Equal)
then_parts Less s e = absurd cc
then_parts Equal s e = (refl, e)
then_parts Greater s e = absurd cc

bool_exact : IsAntisymmetric bool_cmp
bool_exact true true e = refl
bool_exact false false e = refl
bool_exact true false e = cc
bool_exact false true e = cc

algorithm_exact : IsAntisymmetric algorithm_cmp
algorithm_exact a b e =
    let names : algorithm_name a ≡ algorithm_name b = text_cmp_exact (algorithm_name a) (algorithm_name b) e in
    let same : Some a ≡ Some b = sym (named_by_name a) ∙ ap algorithm_named names ∙ named_by_name b in
    cc

named_exact : IsAntisymmetric named_cmp
named_exact a b e =
    let w = then_parts _ _ e in
    let v = then_parts _ _ w.1 in
    let one = bool_exact a.fixity b.fixity w.0 in
    let two = algorithm_exact a.algorithm b.algorithm v.0 in
    let three = text_cmp_exact a.digest b.digest v.1 in
    λ i. record { fixity = one i; algorithm = two i; digest = three i }

pub triple_exact : IsAntisymmetric triple_cmp
triple_exact a b e =
    let w = then_parts _ _ e in
    let one = place_cmp_exact a.path b.path w.0 in
    let two = named_exact a.named b.named w.1 in
    λ i. record { path = one i; named = two i }

then_differs : (p f a r : Ordering) → is_eq r ≡ false → is_eq (ordering_then p (ordering_then f (ordering_then a r))) ≡ false
then_differs Less f a r h = refl
then_differs Greater f a r h = refl
then_differs Equal Less a r h = refl
then_differs Equal Greater a r h = refl
then_differs Equal Equal Less r h = refl
then_differs Equal Equal Greater r h = refl
then_differs Equal Equal Equal r h = h

pub digests_differ : (x y : Triple) → is_eq (text_cmp x.named.digest y.named.digest) ≡ false → is_eq (triple_cmp x y) ≡ false
digests_differ x y h = then_differs (place_cmp x.path y.path) (bool_cmp x.named.fixity y.named.fixity) (algorithm_cmp x.named.algorithm y.named.algorithm) (text_cmp x.named.digest y.named.digest) h
