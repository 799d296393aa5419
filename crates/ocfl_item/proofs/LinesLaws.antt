-- The lines of a place, as they are gathered.
use Rattle.std.proofs.Common.{◌≡◌, ◌≢◌, List, [], ◌++◌, Bool, false, Result, Ok, Err, OnOk, None, map, refl, sym, ◌∙◌, ap, subst, append_assoc}
use Rattle.std.proofs.lemmas.List.{append-nil}
use Rattle.ocfl_tree.specs.{Place.{Place}, StorageRoot.{StorageRoot}}
use Rattle.ocfl_report.specs.declared.further.Further.{Further}
use Rattle.ocfl_inventory.specs.{Note.{Note}, Remark.{remark_view}}
use Rattle.ocfl_rules.specs.Head.{on}
use Rattle.ocfl_rules.specs.Inventories.{notes, is_hashed}
use Rattle.ocfl_item.specs.Internal.Lines.{Adds, HasLines, IsUnhashed}
use Rattle.ocfl_item.specs.declared.lines.PlaceLines.{PlaceLines}

pub adds_both : (old mid new : PlaceLines) (ms ns : List Note) → Adds old mid ms → Adds mid new ns → Adds old new (ms ++ ns)
adds_both old mid new ms ns h k = (k.0 ∙ h.0, k.1 ∙ ap (λ ls. ls ++ ns) h.1 ∙ append_assoc (map remark_view old.remarks.items) ms ns)

pub has_more : (old new : PlaceLines) (ms ns : List Note) → HasLines old ms → Adds old new ns → HasLines new (ms ++ ns)
has_more old new ms ns h k = k.1 ∙ ap (λ ls. ls ++ ns) h

-- ---- lines that are there or not

pub adds_none : (old : PlaceLines) → Adds old old []
adds_none old = (refl, sym (append-nil (map remark_view old.remarks.items)))

pub adds_not : (old : PlaceLines) (b : Bool) (n : Note) → b ≡ false → Adds old old (on b n)
adds_not old b n h = subst (λ c. Adds old old (on c n)) (sym h) (adds_none old)

pub adds_two : {X E : Type 0} (old mid new : PlaceLines) (r : Result X E) (ms ns : List Note) → Adds old mid ms → OnOk r (Adds mid new ns) → OnOk r (Adds old new (ms ++ ns))
adds_two old mid new (Ok _) ms ns h k = adds_both old mid new ms ns h k
adds_two old mid new (Err e) ms ns h k = tt

pub adds_three : {E : Type 0} (old one two new : PlaceLines) (r : Result (Unit {0}) E) (ls ms ns : List Note) → Adds old one ls → Adds one two ms
    → OnOk r (Adds two new ns) → OnOk r (Adds old new (ls ++ ms ++ ns))
adds_three old one two new r ls ms ns h k l = adds_two old two new r (ls ++ ms) ns (adds_both old one two ls ms h k) l

-- ---- an item of lines alone

pub unhashed_at : (further : Further) (root : StorageRoot) (l : PlaceLines) (p : Place) → l.place ≡ p → notes further root None p ≢ [] → is_hashed further root p ≡ false
    → HasLines l (notes further root None p) → IsUnhashed further root l
unhashed_at further root l p at some unhashed are = record {
  some = subst (λ x. notes further root None x ≢ []) (sym at) some;
  unhashed = ap (is_hashed further root) at ∙ unhashed;
  lines = are ∙ ap (notes further root None) (sym at);
}
