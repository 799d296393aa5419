-- The items at content places.
use Rattle.std.proofs.Common.{◌≡◌, ◌≢◌, List, [], ◌∷◌, ◌++◌, map, refl, sym, ◌∙◌, ap, subst, true, false, Some, None}
use Rattle.ocfl_tree.specs.{Place.{Place}, StorageRoot.{StorageRoot}, Ascending.{IsAscending}}
use Rattle.ocfl_tree.proofs.Orders.{true_not_false}
use Rattle.ocfl_report.specs.declared.further.Further.{Further}
use Rattle.ocfl_inventory.specs.{Remark.{remark_view}, declared.remark.Remark.{Remark}}
use Rattle.ocfl_inventory.specs.{Table.{Table, named, named_cmp}, TripleView.{named_view}}
use Rattle.ocfl_inventory.specs.declared.triple.Named.{Named as MadeNamed}
use Rattle.ocfl_rules.specs.Lines.{missing_notes, named_at, unnamed_notes}
use Rattle.ocfl_rules.specs.Inventories.{notes, is_hashed}
use Rattle.ocfl_rules.proofs.InventoryLaws.{hashed_lines}
use Rattle.ocfl_item.specs.Internal.Content.{IsSight, content_at, is_read, sight_notes}
use Rattle.ocfl_item.specs.{Pending.{IsJudgedBy, IsPending, expected_view}, Internal.Lines.{HasLines, IsUnhashed}}
use Rattle.ocfl_item.specs.Internal.FileLines.{expected_by_name}
use Rattle.ocfl_item.specs.declared.lines.PlaceLines.{PlaceLines}
use Rattle.ocfl_item.specs.{declared.pending.Pending.{Pending}, declared.sight.Sight.{Sight}}
use Rattle.ocfl_item.proofs.{ContentLaws.{IsContent, content_is, hashed_by_sight, known_by_sight}, ExpectedLaws.{content_judged}}
use Rattle.ocfl_item.proofs.CommonLaws.{hashed_alone, lines_alone}

no_remarks : (remarks : List Remark) → map remark_view remarks ≡ [] → remarks ≡ []
no_remarks [] e = refl
no_remarks (r ∷ rs) e = absurd cc

map_map : {A B C : Type 0} (f : A → B) (g : B → C) (xs : List A) → map g (map f xs) ≡ map (λ x. g (f x)) xs
map_map f g [] = refl
map_map f g (x ∷ xs) = ap (λ ys. g (f x) ∷ ys) (map_map f g xs)

-- what is told of a content place
pub record IsTold (root : StorageRoot) (p : Place) (t : Table) (q : Place) (ns : List MadeNamed) (s : Sight) : Type 0 where
  pub content : content_at root p ≡ Some (t, q)
  pub digests : map named_view ns ≡ named t q
  pub sight : IsSight root p s

module _ (further : Further) (root : StorageRoot) (p q : Place) (t : Table) (ns : List MadeNamed) (s : Sight) (told : IsTold root p t q ns s) where
  known : IsContent root p (named t q)
  known = content_is root p q t told.content

  names : map named_view ns ≡ named_at root p
  names = told.digests ∙ sym (content_is root p q t told.content).digests

  names_ascend : IsAscending named_cmp (map named_view ns)
  names_ascend = subst (IsAscending named_cmp) (sym told.digests) (content_is root p q t told.content).ascend

  hashed_is : is_hashed further root p ≡ is_read s (map named_view ns)
  hashed_is = hashed_alone root p known.version further ∙ hashed_by_sight root p (named_at root p) s told.sight ∙ ap (is_read s) (sym names)

  known_is : is_read s (map named_view ns) ≡ false → notes further root None p ≡ sight_notes s ++ missing_notes (map named_view ns)
  known_is unread =
      let digests = sym told.digests in
      lines_alone root p known.version further known.head None ∙ known.lines None ∙ known_by_sight root p (named t q) None s told.sight (ap (is_read s) digests ∙ unread) ∙ ap (λ ms. sight_notes s ++ missing_notes ms) digests

  file_judged : is_hashed further root p ≡ true → IsJudgedBy further root p (unnamed_notes (named_at root p)) (map expected_by_name (named_at root p))
  file_judged whole =
      let j = content_judged root p (sym (hashed_alone root p known.version further) ∙ whole) in
      let alone = lines_alone root p known.version further known.head in
      record { bytes = j.bytes; is_file = j.is_file; whole = alone None ∙ j.whole; part = λ given. alone (Some given) ∙ j.part given }

  pub pending_hashed : (made : Pending) → made.place ≡ p → made.hashed ≡ true → map remark_view made.remarks.items ≡ unnamed_notes (map named_view ns)
      → map expected_view made.expected.items ≡ map (λ n. expected_by_name (named_view n)) ns → is_read s (map named_view ns) ≡ true → IsPending further root made
  pending_hashed made place hashed remarks digests read =
      let whole : is_hashed further root p ≡ true = hashed_is ∙ read in
      let lines : map remark_view made.remarks.items ≡ unnamed_notes (named_at root p) = remarks ∙ ap unnamed_notes names in
      let all : map expected_view made.expected.items ≡ map expected_by_name (named_at root p) = digests ∙ sym (map_map named_view expected_by_name ns) ∙ ap (map expected_by_name) names in
      record {
        some = subst (λ x. notes further root None x ≢ []) (sym place) (hashed_lines further root None p whole);
        hashed = hashed ∙ sym whole ∙ ap (is_hashed further root) (sym place);
        lines = λ unread. absurd (true_not_false (sym hashed ∙ unread));
        judged = λ _. subst (λ x. IsJudgedBy further root x (map remark_view made.remarks.items) (map expected_view made.expected.items)) (sym place)
            (subst (λ ls. IsJudgedBy further root p ls (map expected_view made.expected.items)) (sym lines)
            (subst (IsJudgedBy further root p (unnamed_notes (named_at root p))) (sym all) (file_judged whole)));
      }

  pub known_lines_are : (ms : List MadeNamed) (l : PlaceLines) → ms ≡ ns
      → (IsAscending named_cmp (map named_view ms) → HasLines l (sight_notes s ++ missing_notes (map named_view ms)))
      → HasLines l (sight_notes s ++ missing_notes (map named_view ns))
  known_lines_are ms l same made =
      made (subst (λ xs. IsAscending named_cmp (map named_view xs)) (sym same) names_ascend) ∙ ap (λ xs. sight_notes s ++ missing_notes (map named_view xs)) same

  pub known_unhashed : (l : PlaceLines) → l.place ≡ p → is_read s (map named_view ns) ≡ false → HasLines l (sight_notes s ++ missing_notes (map named_view ns))
      → l.remarks.items ≢ [] → IsUnhashed further root l
  known_unhashed l place unread lines some =
      let lines_known : map remark_view l.remarks.items ≡ notes further root None p = lines ∙ sym (known_is unread) in
      record {
        some = subst (λ x. notes further root None x ≢ []) (sym place) (λ e. some (no_remarks l.remarks.items (lines_known ∙ e)));
        unhashed = ap (is_hashed further root) place ∙ hashed_is ∙ unread;
        lines = lines_known ∙ ap (notes further root None) (sym place);
      }

  pub nothing_known : (remarks : List Remark) → is_read s (map named_view ns) ≡ false
      → map remark_view remarks ≡ sight_notes s ++ missing_notes (map named_view ns) → remarks ≡ [] → notes further root None p ≡ []
  nothing_known remarks unread are none = known_is unread ∙ sym are ∙ ap (map remark_view) none
