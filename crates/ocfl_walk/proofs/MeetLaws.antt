-- What is met at an entry, with the object that holds it.
use Rattle.std.proofs.Common.{◌≡◌, [], ◌∷◌, ◌++◌, sym, ◌∙◌, ap, true, false, Bool, Option, Some, None, ◌≤◌, length}
use Rattle.std.specs.Prelude.{cond, IfSome, option_map}
use Rattle.ocfl_tree.specs.{Place.{Place, Text}, StorageRoot.{StorageRoot}}
use Rattle.ocfl_tree.specs.{declared.store.Entry.{Entry}, Listing.{IsOrdinary}}
use Rattle.ocfl_tree.proofs.Places.{begins-itself}
use Rattle.ocfl_report.specs.declared.further.Further.{Further}
use Rattle.ocfl_inventory.specs.Table.{IsFit, Table}
use Rattle.ocfl_rules.specs.Trail.{is_head}
use Rattle.ocfl_rules.specs.Zone.{skipped, hierarchy, inside, zone, table_at, object_declared, is_declared, max_listed_depth}
use Rattle.ocfl_rules.specs.Walk.{is_extensions, step_zone}
use Rattle.ocfl_item.specs.{declared.folder.Folder.{Folder}, Around.{IsMet, IsTableAround}}
use Rattle.ocfl_item.specs.{Meeting.{IsFairFolder, IsTableAt}, declared.meeting.Around.{Around}}
use Rattle.ocfl_item.specs.{declared.root.RootInventory.{RootInventory}, Root.{root_at, root_view}}
use Rattle.ocfl_walk.specs.Internal.Standing.{IsAroundIf, around_of}
use Rattle.ocfl_item.proofs.LooksZones.{inside_on}
use Rattle.ocfl_rules.proofs.StepLaws.{zone_step}

-- below the hierarchy an object begins at its own place
pub own_head : (root : StorageRoot) (d : Place) (n : Text) → zone root d ≡ hierarchy → (o s : Place) → zone root (d ++ n ∷ []) ≡ inside o s → (o ≡ d ++ n ∷ []) × (s ≡ [])
own_head root d n h o s e = by (is_extensions root d n) (is_declared (object_declared root (d ++ n ∷ [])))
    (sym (zone_step root d n ∙ ap (λ z. cond (is_extensions root d n) skipped (step_zone root d n z)) h) ∙ e)
  where
    by : (a b : Bool) → cond a skipped (cond b (inside (d ++ n ∷ []) []) hierarchy) ≡ inside o s → (o ≡ d ++ n ∷ []) × (s ≡ [])
    by true b f = absurd cc
    by false true f = (cc, cc)
    by false false f = absurd cc

pub table_met : (further : Further) (root : StorageRoot) (d x : Place) (entry : Entry) (a : Option Around) (table : Option Table) (r : Option RootInventory) → IsMet further root d a entry x → IsTableAt root x table
    → IfSome table (λ _. option_map root_view r ≡ root_at further root x) → IsTableAround further root x (around_of a x table r)
table_met further root d x entry a (Some t) r m h k = ([], h.0, h.1, k)
table_met further root d x entry None None r m h k = λ o s e.
    let own = own_head root d entry.name m.part o s (sym (ap (zone root) m.is) ∙ e) in
    let same : o ≡ x = own.0 ∙ sym m.is in
    let head : is_head (zone root x) ≡ true = ap is_head (e ∙ ap (inside o) own.1) in
    ap (table_at root) same ∙ h head
table_met further root d x entry (Some b) None r m h k = (m.part.0 ++ entry.name ∷ [], ap (zone root) m.is ∙ inside_on root d b.place m.part.0 (entry.name ∷ []) m.part.1, m.part.2, m.part.3)

pub around_fair : (x : Place) (a : Option Around) (table : Option Table) (r : Option RootInventory) → IsAroundIf x a → IfSome table (λ t. IsFit t × (length x ≤ max_listed_depth))
    → IsAroundIf x (around_of a x table r)
around_fair x a None r h k = h
around_fair x a (Some t) r h k = record { holds = begins-itself x; depth = k.1; fit = k.0 }

pub ordinary : (root : StorageRoot) (x : Place) (f : Option Folder) → IfSome f (λ g. IsFairFolder x g) → IfSome f (λ g. IsOrdinary g.entries.items)
ordinary root x None h = h
ordinary root x (Some g) h = h.entries
