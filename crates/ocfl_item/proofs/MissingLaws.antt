-- The lines of a file that is missing: one for each block and algorithm that names it.
use Rattle.std.proofs.Common.{◌≡◌, ℕ, ◌≤◌, length, drop, List, [], ◌∷◌, ◌++◌, refl, sym, ◌∙◌, ap, true, false, Bool, Option, Some, None, map, not, append-nil}
use Rattle.std.proofs.lemmas.List.{at_drop_all}
use Rattle.std.specs.Ordering.{bool_cmp, ordering_then, is_eq, match_ordering}
use Rattle.std.specs.Cmp.{IsTotalOrder, on_total, then_total, bool_cmp_total, tied_itself, alike_right}
use Rattle.std.specs.FinMap.{slice_cmp-IsAntisymmetric, nat_cmp-IsAntisymmetric}
use Rattle.std.specs.{Prelude.{codes, if◌then◌else◌}, declared.cmp.Ordering.{Ordering}}
use Rattle.std.specs.declared.cmp.Ordering.TheVariants.{Less, Equal, Greater}
use Rattle.ocfl_report.specs.declared.code.Code.TheVariants.{E092, E093}
use Rattle.ocfl_tree.specs.{Place.{Text, text_cmp}, Ascending.{IsAscending, insert_once, ascending}}
use Rattle.ocfl_inventory.specs.{Remark.{remark_view}, Note.{note, Note}, Table.{Named, named_cmp}}
use Rattle.ocfl_inventory.proofs.TripleOrders.{then_parts}
use Rattle.ocfl_inventory.specs.TripleView.{named_view}
use Rattle.ocfl_inventory.specs.declared.triple.Named.{Named as MadeNamed}
use Rattle.ocfl_digest.specs.Algorithm.{algorithm_name, algorithm_cmp}
use Rattle.ocfl_rules.specs.{Head.{on}, Lines.{block_cmp, missing_notes}}
use Rattle.ocfl_item.specs.Internal.Lines.{Adds, is_repeated, missing_note}
use Rattle.ocfl_item.specs.declared.lines.PlaceLines.{PlaceLines}
use Rattle.ocfl_item.proofs.NamedLaws.{algorithm_cmp_total}

-- the lines of named digests, if the one before them had its own
abbrev pub notes_behind : Option Named → List Named → List Note
notes_behind before [] = []
notes_behind before (n ∷ ns) = on (not (is_repeated before n)) (missing_note n) ++ notes_behind (Some n) ns

block_cmp_total : IsTotalOrder block_cmp
block_cmp_total = then_total (on_total (λ n. n.fixity) bool_cmp_total) (on_total (λ n. n.algorithm) algorithm_cmp_total)

-- ---- digests of one block and algorithm have one line

same_flag : (a b : Bool) → bool_cmp a b ≡ Equal → a ≡ b
same_flag true true e = refl
same_flag true false e = absurd cc
same_flag false true e = absurd cc
same_flag false false e = refl

same_text : (s t : Text) → text_cmp s t ≡ Equal → s ≡ t
same_text s t e = slice_cmp-IsAntisymmetric nat_cmp-IsAntisymmetric s t e

same_line : (m n : Named) → block_cmp m n ≡ Equal → missing_note m ≡ missing_note n
same_line m n e =
    let parts = then_parts (bool_cmp m.fixity n.fixity) (algorithm_cmp m.algorithm n.algorithm) e in
    let flags : m.fixity ≡ n.fixity = same_flag m.fixity n.fixity parts.0 in
    let names : algorithm_name m.algorithm ≡ algorithm_name n.algorithm = same_text _ _ parts.1 in
    (λ i. note (if flags i then E093 else E092) (names i ++ codes " missing"))

-- what comes before in the order of named digests is not of a later block
not_later : (a b c : Ordering) → ordering_then a (ordering_then b c) ≡ Less → ordering_then a b ≡ Greater → ⊥
not_later Less b c h k = cc
not_later Equal Less c h k = cc
not_later Equal Equal c h k = cc
not_later Equal Greater c h k = cc
not_later Greater b c h k = cc

-- ---- the blocks in order

record Blocks (m : Named) (ms : List Named) : Type 0 where
  first : Named
  others : List Named
  is : ascending block_cmp (m ∷ ms) ≡ first ∷ others
  like : block_cmp m first ≡ Equal
  notes : map missing_note (first ∷ others) ≡ missing_note m ∷ notes_behind (Some m) ms

blocks : (m : Named) (ms : List Named) → IsAscending named_cmp (m ∷ ms) → Blocks m ms
blocks m [] h = record { first = m; others = []; is = refl; like = tied_itself block_cmp_total m; notes = refl }
blocks m (k ∷ ks) h = by (blocks k ks h.1)
  where
    by : Blocks k ks → Blocks m (k ∷ ks)
    by b = go (block_cmp m k) refl
      where
        ordered : (r : Ordering) → block_cmp m k ≡ r → ascending block_cmp (m ∷ k ∷ ks) ≡ match_ordering r (m ∷ b.first ∷ b.others) (b.first ∷ b.others) (b.first ∷ insert_once block_cmp m b.others)
        ordered r e =
            ap (insert_once block_cmp m) b.is
            ∙ ap (λ o. match_ordering o (m ∷ b.first ∷ b.others) (b.first ∷ b.others) (b.first ∷ insert_once block_cmp m b.others)) (sym (alike_right block_cmp_total k b.first m b.like) ∙ e)

        go : (r : Ordering) → block_cmp m k ≡ r → Blocks m (k ∷ ks)
        go Less e = record {
          first = m;
          others = b.first ∷ b.others;
          is = ordered Less e;
          like = tied_itself block_cmp_total m;
          notes = ap (λ ns. missing_note m ∷ ns) (b.notes ∙ ap (λ o. on (not (is_eq o)) (missing_note k) ++ notes_behind (Some k) ks) (sym e));
        }
        go Equal e = record {
          first = b.first;
          others = b.others;
          is = ordered Equal e;
          like = sym (alike_right block_cmp_total k b.first m b.like) ∙ e;
          notes = b.notes ∙ (λ i. sym (same_line m k e) i ∷ notes_behind (Some k) ks) ∙ ap (λ o. missing_note m ∷ (on (not (is_eq o)) (missing_note k) ++ notes_behind (Some k) ks)) (sym e);
        }
        go Greater e = absurd (not_later (bool_cmp m.fixity k.fixity) (algorithm_cmp m.algorithm k.algorithm) (text_cmp m.digest k.digest) h.0.0 e)

pub missing_in_order : (ns : List Named) → IsAscending named_cmp ns → missing_notes ns ≡ notes_behind None ns
missing_in_order [] h = refl
missing_in_order (m ∷ ms) h = let b = blocks m ms h in ap (map missing_note) b.is ∙ b.notes

-- ---- the loop over the digests

pub missing_done : (old new : PlaceLines) (ns : List MadeNamed) (i : ℕ) (before : Option Named) → length ns ≤ i
    → (new.place ≡ old.place) × (map remark_view new.remarks.items ++ notes_behind before (map named_view (drop i ns))
    ≡ map remark_view old.remarks.items ++ notes_behind None (map named_view ns))
    → IsAscending named_cmp (map named_view ns) → Adds old new (missing_notes (map named_view ns))
missing_done old new ns i before l so_far ascend = (
  so_far.0,
  sym (append-nil (map remark_view new.remarks.items)) ∙ sym (at_drop_all (λ ms. map remark_view new.remarks.items ++ notes_behind before (map named_view ms)) ns i l) ∙ so_far.1
      ∙ ap (λ ms. map remark_view old.remarks.items ++ ms) (sym (missing_in_order (map named_view ns) ascend)),
)
