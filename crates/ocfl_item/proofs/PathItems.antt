-- The item at a place at which nothing is seen.
use Rattle.std.proofs.Common.{◌≡◌, ◌≢◌, List, [], ◌∷◌, refl, sym, subst, ◌∙◌, ap, Option, Some, None, false, length, drop, map}
use Rattle.std.proofs.Math.Seq.{drop-append_seam}
use Rattle.std.specs.Prelude.{Result, Ok, Err, IfOk, IfSome}
use Rattle.ocfl_tree.specs.Place.{Place, Text}
use Rattle.ocfl_tree.specs.StorageRoot.{StorageRoot, dir}
use Rattle.ocfl_report.specs.declared.further.Further.{Further}
use Rattle.ocfl_report.specs.declared.further.Further.TheVariants.{Nothing}
use Rattle.ocfl_inventory.specs.Table.{Table, Named, named}
use Rattle.ocfl_inventory.specs.TripleView.{named_view}
use Rattle.ocfl_inventory.specs.declared.triple.Named.{Named as MadeNamed}
use Rattle.ocfl_rules.specs.Zone.{Zone, skipped, hierarchy, inside, zone, seen, table_at}
use Rattle.ocfl_rules.specs.Lines.{content_notes, hierarchy_notes, named_at, named_in, notes_in, object_entry_notes, object_notes, version_entry_notes, within_notes}
use Rattle.ocfl_rules.specs.{Inventories.{notes}, Trail.{is_head}}
use Rattle.ocfl_rules.proofs.AuditExists.{append_nothing, path_among, some_not_none, zone_is}
use Rattle.ocfl_rules.proofs.PathLaws.{named_path, notes_at}
use Rattle.ocfl_rules.proofs.WayLaws.{head_seen, is_closed}
use Rattle.ocfl_item.specs.Internal.Content.{content_at, content_in}
use Rattle.ocfl_item.specs.{Around.{IsNamedIn, IsTableAround}, declared.meeting.Around.{Around}}
use Rattle.ocfl_item.specs.declared.pending.Pending.{Pending}
use Rattle.ocfl_item.proofs.CommonLaws.{lines_alone, unseen_version}

abbrev named_of : Place → Option Table → List Named
named_of q None = []
named_of q (Some t) = named t q

pub some_named : (ns : List MadeNamed) → ns ≢ [] → map named_view ns ≢ []
some_named [] h e = h refl
some_named (n ∷ ns) h e = absurd cc

-- if digests are named the table names the place
pub named_in_table : {E : Type 0} (p : Place) (around : Option Around) (a : Around) → around ≡ Some a → named a.table (drop (length a.place) p) ≢ [] → (r : Result (Option Pending) E) → IfOk r (λ o. IfSome o (λ _. IsNamedIn p around))
named_in_table p around a is some (Err why) = tt
named_in_table p around a is some (Ok None) = tt
named_in_table p around a is some (Ok (Some m)) = subst (IsNamedIn p) (sym is) (path_among a.table (drop (length a.place) p) some)

module _ (root : StorageRoot) (p : Place) where
  inside_named : (o q : Place) (x : Option Table) → zone root p ≡ inside o q → table_at root o ≡ x → named_at root p ≡ named_of q x
  inside_named o q x z e = ap (named_in root) z ∙ ap (λ y. elim y as (λ _. List Named) [ None ↦ [] | Some t ↦ named t q ]) e

  -- no digest is named if there is no table
  pub untabled : (further : Further) → IsTableAround further root p None → named_at root p ≡ []
  untabled further h = by (zone root p) refl
    where
      by : (z : Zone) → zone root p ≡ z → named_at root p ≡ []
      by skipped e = ap (named_in root) e
      by hierarchy e = ap (named_in root) e
      by (inside o q) e = inside_named o q None e (h o q e)

  module _ (further : Further) (a : Around) (h : IsTableAround further root p (Some a)) where
    inner : drop (length a.place) p ≡ h.0
    inner = ap (drop (length a.place)) (zone_is root p a.place h.0 h.1).whole ∙ drop-append_seam a.place h.0

    pub named_around : named_at root p ≡ named a.table (drop (length a.place) p)
    named_around = inside_named a.place h.0 (Some a.table) h.1 h.2 ∙ ap (named a.table) (sym inner)

    -- digests are named for content places alone
    pub named_content : named_at root p ≢ [] → content_at root p ≡ Some (a.table, drop (length a.place) p)
    named_content some =
        let k = named_path root p some in
        let both : inside a.place h.0 ≡ inside k.object (k.version ∷ k.content ∷ k.name ∷ k.rest) = sym h.1 ∙ k.lies in
        let o : a.place ≡ k.object = cc in
        let shape : h.0 ≡ k.version ∷ k.content ∷ k.name ∷ k.rest = cc in
        ap (content_in root) (h.1 ∙ ap (inside a.place) shape)
        ∙ ap (λ y. elim y as (λ _. Option (Table × Place)) [ None ↦ None | Some t ↦ Some (t, k.version ∷ k.content ∷ k.name ∷ k.rest) ]) h.2
        ∙ ap (λ q. Some (a.table, q)) (sym (inner ∙ shape))

  -- if nothing is seen only named digests have lines
  pub unseen_notes : seen root p ≡ None → named_at root p ≡ [] → notes Nothing root None p ≡ []
  unseen_notes h none = notes_at root None p not_base ∙ by (zone root p) refl
    where
      not_base : p ≢ []
      not_base e = some_not_none dir (sym h ∙ ap (seen root) e)

      within : (t : Table) (o q : Place) → named_at root p ≡ named t q → within_notes root p None (seen root p) t q ≡ []
      within t o [] e = refl
      within t o (n ∷ []) e = ap (object_entry_notes root p n) h
      within t o (v ∷ n ∷ []) e = ap (version_entry_notes root t p n) h
      within t o (v ∷ c ∷ n ∷ q) e = ap (content_notes root p (named t (v ∷ c ∷ n ∷ q)) None) h ∙ ap (λ ns. content_notes root p ns None None) (sym e ∙ none)

      in_object : (o : Place) (n : Text) (q : Place) → zone root p ≡ inside o (n ∷ q) → (x : Option Table) → table_at root o ≡ x → object_notes root p None x (n ∷ q) ≡ []
      in_object o n q z None e = refl
      in_object o n q z (Some t) e = within t o (n ∷ q) (inside_named o (n ∷ q) (Some t) z e)

      at_object : (o : Place) → zone root p ≡ inside o [] → ⊥
      at_object o z =
          let same : p ≡ o = (zone_is root p o [] z).whole ∙ append_nothing o in
          some_not_none dir (sym h ∙ ap (seen root) same ∙ head_seen root (is_closed root) p o [] z)

      by : (z : Zone) → zone root p ≡ z → notes_in root p None (zone root p) ≡ []
      by skipped e = ap (notes_in root p None) e
      by hierarchy e = ap (notes_in root p None) e ∙ ap (hierarchy_notes root p) h
      by (inside o []) e = absurd (at_object o e)
      by (inside o (n ∷ q)) e = ap (notes_in root p None) e ∙ in_object o n q e (table_at root o) refl

  -- and so it is where further inventories are checked
  pub unseen_lines : (further : Further) → seen root p ≡ None → named_at root p ≡ [] → notes further root None p ≡ []
  unseen_lines further h none = lines_alone root p (unseen_version root p h) further (no_head (zone root p) refl) None ∙ unseen_notes h none
    where
      no_head : (z : Zone) → zone root p ≡ z → is_head (zone root p) ≡ false
      no_head skipped e = ap is_head e
      no_head hierarchy e = ap is_head e
      no_head (inside o []) e = absurd (some_not_none dir (sym h ∙ ap (seen root) ((zone_is root p o [] e).whole ∙ append_nothing o) ∙ head_seen root (is_closed root) p o [] e))
      no_head (inside o (n ∷ q)) e = ap is_head e
