-- The lines of a stored cursor determine the part and the cursor.
use Rattle.std.proofs.Common.{◌≡◌, Option, Some, None, IfSome, ◌++◌, Bool, true, false, nat_eq, get_or, codes, refl, sym, ap, subst, ◌∙◌}
use Rattle.std.proofs.lemmas.Bool.{eqb-false, true≢false}
use Rattle.std.specs.List.{starts_with}
use Rattle.ocfl_tree.specs.Place.{Text}
use Rattle.ocfl_report.specs.declared.further.Further.{Further}
use Rattle.ocfl_report.specs.declared.further.Further.TheVariants.{Nothing, Inventories}
use Rattle.ocfl_cursor.specs.Cursor.{Cursor, IsCursor, cursor_lines}
use Rattle.ocfl_cursor.specs.Part.{AreEnds, ends_lines, part_lines}
use Rattle.ocfl_cursor.specs.{Lines.{stored_lines, AreStoredLines}, Internal.Body.{version_of, AreLinesOf}}
use Rattle.ocfl_cursor.specs.declared.ends.PartEnds.{PartEnds}
use Rattle.ocfl_cursor.proofs.CursorTexts.{lines_by, lines_of-cursor, lines_determine, AreLinesOf-cursor}
use Rattle.ocfl_cursor.proofs.PartTexts.{ends_lines_determine}

-- ---- what is checked further

-- whether lines begin with that of the inventories
abbrev pub tells_inventories : Text → Bool
tells_inventories lines = starts_with nat_eq lines (codes "checks inventories\n")

abbrev pub is_inventories : Further → Bool
is_inventories Nothing = false
is_inventories Inventories = true

tells_so : (f : Further) (c : Cursor) → tells_inventories (lines_by f c) ≡ is_inventories f
tells_so Nothing c = refl
tells_so Inventories c = refl

same_further : (f g : Further) → is_inventories f ≡ is_inventories g → f ≡ g
same_further Nothing Nothing e = refl
same_further Nothing Inventories e = absurd (true≢false (sym e))
same_further Inventories Nothing e = absurd (true≢false e)
same_further Inventories Inventories e = refl

-- a cursor's lines tell it
pub told_further : (f : Further) (lines : Text) (c : Cursor) → tells_inventories lines ≡ is_inventories f → lines ≡ cursor_lines c → f ≡ c.further
told_further f lines c e h = same_further f c.further (sym e ∙ ap tells_inventories h ∙ tells_so c.further c)

-- ---- the part and the cursor

-- a part's lines begin with `f`, and others with `c`
apart_by : (e : PartEnds) (c : Cursor) (f : Further) (d : Cursor) → part_lines e c ≡ lines_by f d → ⊥
apart_by e c Nothing d h = eqb-false 102 99 refl (ap (λ t. get_or t 0 0) h)
apart_by e c Inventories d h = eqb-false 102 99 refl (ap (λ t. get_or t 0 0) h)

apart : (e : PartEnds) (c d : Cursor) → part_lines e c ≡ cursor_lines d → ⊥
apart e c d h = apart_by e c d.further d h

same_cursors : (c d : Cursor) → IsCursor c → IsCursor d → cursor_lines c ≡ cursor_lines d → c ≡ d
same_cursors c d h k e =
    let further = told_further c.further (cursor_lines c) d (tells_so c.further c) e in
    let first : AreLinesOf (version_of d.further) (cursor_lines c) c = subst (λ f. AreLinesOf (version_of f) (cursor_lines c) c) further (AreLinesOf-cursor c h) in
    lines_determine (version_of d.further) (cursor_lines c) c d first (subst (λ t. AreLinesOf (version_of d.further) t d) (sym e) (AreLinesOf-cursor d k))

pub stored_lines_determine : (p q : Option PartEnds) (c d : Cursor) → IfSome p AreEnds → IfSome q AreEnds → IsCursor c → IsCursor d → stored_lines p c ≡ stored_lines q d → (p ≡ q) × (c ≡ d)
stored_lines_determine None None c d h k hc hd e = (refl, same_cursors c d hc hd e)
stored_lines_determine None (Some f) c d h k hc hd e = absurd (apart f d c (sym e))
stored_lines_determine (Some f) None c d h k hc hd e = absurd (apart f c d e)
stored_lines_determine (Some f) (Some g) c d h k hc hd e =
    let both = ends_lines_determine f g (cursor_lines c) (cursor_lines d) h k e in
    (ap Some both.0, same_cursors c d hc hd both.1)

-- whether lines begin as a part's
abbrev pub is_parts : Text → Bool
is_parts lines = starts_with nat_eq lines (codes "from ")

not_parts : (f : Further) (c : Cursor) → is_parts (lines_by f c) ≡ false
not_parts Nothing c = refl
not_parts Inventories c = refl

-- and lines that do are those of some part
pub record StoredPart (lines : Text) (c : Cursor) : Type 0 where
  pub ends : PartEnds
  pub names : AreEnds ends
  pub is : lines ≡ ends_lines ends ++ cursor_lines c

pub stored_part : (lines : Text) (p : Option PartEnds) (c : Cursor) → is_parts lines ≡ true → AreStoredLines p lines c → StoredPart lines c
stored_part lines None c f h = absurd (true≢false (sym f ∙ ap is_parts h.are ∙ not_parts c.further c))
stored_part lines (Some e) c f h = record { ends = e; names = h.ends; is = h.are }

-- what follows the ends of a part, once these are read
pub stored_rest : (e : PartEnds) (lines rest : Text) (p : Option PartEnds) (c : Cursor) → AreEnds e → is_parts lines ≡ true → lines ≡ ends_lines e ++ rest
    → AreStoredLines p lines c → AreStoredLines None rest c
stored_rest e lines rest p c names f g h =
    let stored = stored_part lines p c f h in
    let same = ends_lines_determine e stored.ends rest (cursor_lines c) names stored.names (sym g ∙ stored.is) in
    record { ends = tt; keeps = h.keeps; are = same.1 }

-- ---- the lines of a whole root's cursor, by what they tell

pub stored_from_version : (f : Further) (lines : Text) (c : Cursor) → AreLinesOf (version_of f) lines c → AreStoredLines None lines c
stored_from_version f lines c h = record { ends = tt; keeps = h.keeps; are = lines_of-cursor f lines c h }

pub version_from_stored : (f : Further) (lines : Text) (c : Cursor) → ((d : Cursor) → lines ≡ cursor_lines d → f ≡ d.further) → AreStoredLines None lines c → AreLinesOf (version_of f) lines c
version_from_stored f lines c tells h =
    let written = subst (λ g. AreLinesOf (version_of g) (cursor_lines c) c) (sym (tells c h.are)) (AreLinesOf-cursor c h.keeps) in
    subst (λ t. AreLinesOf (version_of f) t c) (sym h.are) written
