-- The places on the way to a place.
use Rattle.std.proofs.Common.{◌≡◌, ◌⊎◌, inl, inr, List, [], ◌∷◌, ◌++◌, refl, sym, ◌∙◌, ap, map}
use Rattle.std.proofs.lemmas.List.{append-nil}
use Rattle.ocfl_tree.specs.{Place.{Place, Text}, Ascending.{IsAmong}}
use Rattle.ocfl_rules.specs.Zone.{beginnings}
use Rattle.ocfl_item.specs.Looking.{way_to}
use Rattle.ocfl_item.proofs.WantedLaws.{among_last}

-- a place that another begins with
abbrev pub IsBeginning : Place → Place → Type 0
IsBeginning p d = (q : Place) × (p ≡ d ++ q)

mapped : (n : Text) (ps : List Place) (d : Place) → IsAmong (map (λ q. n ∷ q) ps) d → (e : Place) × IsAmong ps e × (d ≡ n ∷ e)
mapped n [] d i = absurd i
mapped n (e ∷ ps) d (inl f) = (e, inl refl, f)
mapped n (e ∷ ps) d (inr i) = let k = mapped n ps d i in (k.0, inr k.1, k.2)

begun : (p d : Place) → IsAmong (beginnings p) d → IsBeginning p d
begun [] d i = absurd i
begun (n ∷ p) d (inl e) = (n ∷ p, ap (λ x. x ++ n ∷ p) (sym e))
begun (n ∷ p) d (inr i) =
    let k = mapped n (beginnings p) d i in
    let q = begun p k.0 k.1 in
    (q.0, ap (λ x. n ∷ x) q.1 ∙ ap (λ x. x ++ q.0) (sym k.2))

pub on_way : (p d : Place) → IsAmong (way_to p) d → IsBeginning p d
on_way p d i = by ((among_last (beginnings p) p d).0 i)
  where
    by : IsAmong (beginnings p) d ⊎ (d ≡ p) → IsBeginning p d
    by (inl k) = begun p d k
    by (inr e) = ([], sym e ∙ sym (append-nil d))
