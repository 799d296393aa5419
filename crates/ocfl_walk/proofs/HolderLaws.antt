-- Whose inventory is read on the way down to a place, and which directories are on it.
use Rattle.std.proofs.Common.{◌≡◌, Bool, true, false, cond, [], ◌∷◌, ◌++◌, None, Some, inl, inr, filter, refl, ap, sym, ◌∙◌}
use Rattle.ocfl_tree.specs.{Place.{Place}, Ascending.{IsAmong}, StorageRoot.{StorageRoot}}
use Rattle.ocfl_rules.specs.Zone.{Zone, skipped, hierarchy, inside, zone, beginnings}
use Rattle.ocfl_rules.specs.Trail.{reads_inventory}
use Rattle.ocfl_rules.proofs.AuditExists.{zone_is}
use Rattle.ocfl_walk.specs.WalkCalls.{holder_of, holder, way_of}

module _ (root : StorageRoot) (p o : Place) where
  pub held_above : IsAmong (holder root (Some p)) o → (reads_inventory root o ≡ true) × ((q : Place) × (p ≡ o ++ q))
  held_above h = by (zone root p) refl h
    where
      by : (z : Zone) → zone root p ≡ z → IsAmong (filter (reads_inventory root) (holder_of z)) o → (reads_inventory root o ≡ true) × ((q : Place) × (p ≡ o ++ q))
      by skipped z k = absurd k
      by hierarchy z k = absurd k
      by (inside b q) z k = read (reads_inventory root b) refl k
        where
          read : (r : Bool) → reads_inventory root b ≡ r → IsAmong (cond r (b ∷ []) []) o → (reads_inventory root o ≡ true) × ((q : Place) × (p ≡ o ++ q))
          read true g (inl e) = (ap (reads_inventory root) e ∙ g, (q, (zone_is root p b q z).whole ∙ ap (λ x. x ++ q) (sym e)))
          read true g (inr more) = absurd more
          read false g none = absurd none

  pub held_alone : (q : Place) → zone root p ≡ inside o q → reads_inventory root o ≡ true → holder root (Some p) ≡ o ∷ []
  held_alone q z g = ap (λ x. filter (reads_inventory root) (holder_of x)) z ∙ ap (λ r. cond r (o ∷ []) []) g

pub ways : (p : Place) → way_of (Some p) ≡ beginnings p ++ p ∷ []
ways p = refl

pub no_way : (root : StorageRoot) → (holder root None ≡ []) × (way_of None ≡ [])
no_way root = (refl, refl)
