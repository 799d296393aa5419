-- Into a directory of the storage hierarchy that was listed.
use Rattle.std.proofs.Common.{◌≡◌, ◌⊎◌, inl, inr, ℕ, ◌≤◌, List, [], ◌∷◌, ◌++◌, sym, ◌∙◌, ap, subst, true, Option, Some, None, length}
use Rattle.std.specs.Prelude.{Result, Ok, Err}
use Rattle.ocfl_tree.specs.{Place.{Text, Place, begins}, StorageRoot.{StorageRoot}, Store.{Store}}
use Rattle.ocfl_tree.specs.declared.store.Entry.{Entry}
use Rattle.ocfl_tree.proofs.Places.{begins-itself}
use Rattle.ocfl_report.specs.declared.further.Further.{Further}
use Rattle.ocfl_inventory.specs.{Declaration.{declared}, Table.{IsFit}}
use Rattle.ocfl_inventory.specs.Entries.{file_names, meaning, PointsAtOne}
use Rattle.ocfl_inventory.specs.declared.declaration.Declared.{Declared as MadeDeclared}
use Rattle.ocfl_inventory.specs.declared.declaration.Version.{Version}
use Rattle.ocfl_inventory.specs.declared.declaration.Declared.TheVariants as made
use Rattle.ocfl_inventory.specs.declared.declaration.Level.TheVariants as level
use Rattle.ocfl_rules.specs.Zone.{inside, table_at, zone, is_known, max_listed_depth}
use Rattle.ocfl_item.specs.{Ways.{InHierarchy, IsObject}, Internal.Ways.{IsDeclared}}
use Rattle.ocfl_item.specs.{Meeting.{IsFairFolder}, declared.fault.Fault.{Fault}}
use Rattle.ocfl_item.specs.{declared.folder.Folder.{Folder}, declared.meeting.Around.{Around}}
use Rattle.ocfl_walk.specs.Internal.Standing.{IsAroundIf}
use Rattle.ocfl_walk.specs.Internal.Entering.{Leads, ListsBelow, Opens}
use Rattle.ocfl_item.proofs.LooksCalls.{declared_entered, finds_object, no_known, undeclared_entered}
use Rattle.ocfl_item.proofs.LooksZones.{unknown_no_table}
use Rattle.ocfl_walk.proofs.DownLaws.{leads_in, leads_listed, leads_object, leads_object_none, leads_object_stop, shut_object}

-- ---- on any store

pub fair_object : (e : Place) (f : Folder) (a : Around) → (a.place ≡ f.place) × IsFit a.table → IsFairFolder e f → IsFairFolder e f × IsAroundIf e (Some a)
fair_object e f a k h = (
  h,
  record {
    holds = subst (λ p. begins p e ≡ true) (sym (k.0 ∙ h.place)) (begins-itself e);
    depth = subst (λ p. length p ≤ max_listed_depth) (sym (k.0 ∙ h.place)) h.depth;
    fit = k.1;
  },
)

pub fair_in : (e : Place) (f : Folder) (a : Option Around) → a ≡ None → IsFairFolder e f → IsFairFolder e f × IsAroundIf e a
fair_in e f a none h = (h, subst (IsAroundIf e) (sym none) tt)

not_none : (m : MadeDeclared) → ((x : ℕ) × (m ≡ made.Unknown x)) ⊎ (m ≡ made.Several) → m ≡ made.None → ⊥
not_none m (inl k) e = let two : made.Unknown k.0 ≡ made.None = sym k.1 ∙ e in cc
not_none m (inr f) e = let two : made.Several ≡ made.None = sym f ∙ e in cc

-- ---- on a store that tells its tree

module _ (further : Further) (root : StorageRoot) (s t : Store) (d : Place) (n : Text) (inner : Folder) (k : ListsBelow root s t d n inner) (r : Place) (a : Option Around)
    (none : a ≡ None) (given : List Entry) (m : MadeDeclared) (same : given ≡ inner.entries.items)
    (said : meaning level.Object given m ≡ declared level.Object (file_names given)) where
  pub hier_in : m ≡ made.None → Leads further root s t d n r a a (Ok (Some inner))
  hier_in e =
      let h = subst (λ x. InHierarchy root x inner.entries.items) k.enters.is
      (undeclared_entered root s t d inner.place n k.entries inner.entries.items given m k.above k.on k.ordinary k.enters same said e) in
      subst (λ x. Leads further root s t d n r x x (Ok (Some inner))) (sym none) (leads_in further root s t d n r None k.over inner k.enters.did (record { place = k.enters.is; here = h.here; part = h.zone }))

  module _ (points : PointsAtOne level.Object given m) where
    says : (m ≡ made.None → ⊥) → IsDeclared root inner.place inner.entries.items m
    says some = declared_entered root s t d inner.place n k.entries inner.entries.items given m k.above k.on k.ordinary k.enters same said points some

    zone_here : (m ≡ made.None → ⊥) → zone root (d ++ n ∷ []) ≡ inside (d ++ n ∷ []) []
    zone_here some = subst (λ x. zone root x ≡ inside x []) k.enters.is (says some).zone

    pub hier_stopped : ((x : ℕ) × (m ≡ made.Unknown x)) ⊎ (m ≡ made.Several) → Leads further root s t d n r a a (Ok None)
    hier_stopped e =
        let some = not_none m e in
        let h = says some in
        let table = unknown_no_table root inner.place (ap is_known (sym h.says) ∙ no_known root inner.place inner.entries.items m h (inr e)) in
        subst (λ x. Leads further root s t d n r x x (Ok None)) (sym none)
        (leads_listed further root s t d n r None k.over k.enters.did (shut_object further root d n r (zone_here some) (ap (table_at root) (sym k.enters.is) ∙ table)))

    module _ (v : Version) (e : m ≡ made.One v) (u : Store) where
      some : m ≡ made.None → ⊥
      some f = let two : made.One v ≡ made.None = sym e ∙ f in cc

      object : IsObject root inner.place inner.entries.items
      object = finds_object root inner.place inner.entries.items m v (says some) e

      opens : (x : Result (Option Around) Fault) → (IsObject root inner.place inner.entries.items → Opens further root t u inner.place x) → Opens further root t u (d ++ n ∷ []) x
      opens x into = subst (λ o. Opens further root t u o x) k.enters.is (into object)

      pub hier_closed : (IsObject root inner.place inner.entries.items → Opens further root t u inner.place (Ok None)) → Leads further root s u d n r a a (Ok None)
      hier_closed into = subst (λ y. Leads further root s u d n r y y (Ok None)) (sym none) (leads_object_none further root s t u d n r k.over k.enters.did (zone_here some) (opens (Ok None) into))

      pub hier_object : (b : Around) → (IsObject root inner.place inner.entries.items → Opens further root t u inner.place (Ok (Some b))) → Leads further root s u d n r a (Some b) (Ok (Some inner))
      hier_object b into =
          subst (λ y. Leads further root s u d n r y (Some b) (Ok (Some inner))) (sym none)
          (leads_object further root s t u d n r k.over k.enters.did (zone_here some) b inner k.enters.is (subst (λ o. IsObject root o inner.entries.items) k.enters.is object) (opens (Ok (Some b)) into))

      pub hier_fails : (why : Fault) → (IsObject root inner.place inner.entries.items → Opens further root t u inner.place (Err why)) → Leads further root s u d n r a a (Err why)
      hier_fails why into = subst (λ y. Leads further root s u d n r y y (Err why)) (sym none) (leads_object_stop further root s t u d n r k.over k.enters.did (zone_here some) why (opens (Err why) into))
