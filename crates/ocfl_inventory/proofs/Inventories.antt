-- What an inventory lists, put in order.
use Rattle.std.proofs.Common.{◌≡◌, ◌+◌, List, [], ◌∷◌, ◌++◌, Bool, false, refl, sym, ◌∙◌, ap, subst, cond, map, filter, get_or, arith, append_assoc}
use Rattle.std.proofs.lemmas.List.Filters.{dedup_is}
use Rattle.std.proofs.lemmas.List.Sorted.{IsPermutation-map, IsPermutation-refl, IsPermutation-sym, IsPermutation-append_left, IsPermutation-trans}
use Rattle.std.proofs.{lemmas.List.{map-append}, lemmas.List.Elements.{filter-append}}
use Rattle.std.specs.Prelude.{flat_map, Option, Some, None, option_map, filter_map, is_some, nat_eq}
use Rattle.std.specs.{List.{cons_option, dedup}, Cmp.{IsTotalOrder}, FinMap.{IsAntisymmetric}}
use Rattle.std.specs.List.Retain.{IsFiltered, DiffersFromLast}
use Rattle.std.specs.List.Sorted.{IsPermutation, IsSorted}
use Rattle.std.specs.Ordering.{is_lt, eq_by_cmp, ordering_then}
use Rattle.std.specs.declared.cmp.Ordering.{Ordering}
use Rattle.std.specs.declared.cmp.Ordering.TheVariants.{Less, Equal, Greater}
use Rattle.std.specs.Cmp.Lexicographic.{pointwise, nat_list_cmp_total}
use Rattle.ocfl_tree.specs.Place.{Text, Place, text_cmp, place_cmp, begins}
use Rattle.ocfl_tree.specs.{Ascending.{ascending}, Path.{elements, slashed}}
use Rattle.ocfl_tree.proofs.Places.{place_eq-pointwise}
use Rattle.ocfl_tree.proofs.Places.{text_cmp_exact}
use Rattle.ocfl_tree.proofs.Orders.{place_cmp_total, place_cmp_exact, ascending_unique, ascends_ascending, ascends_filter, among_ascending, among_filter, among_from_filter}
use Rattle.ocfl_digest.specs.declared.algorithm.Algorithm.{Algorithm}
use Rattle.ocfl_inventory.specs.{Note.{note, Note}, ListedPath.{is_kept, path_fault}}
use Rattle.ocfl_inventory.specs.{DigestText.{folded}, Reading.{Block, Inventory}}
use Rattle.ocfl_inventory.specs.Internal.ListsOf.{AreListed, all_repeated, all_triples, other_notes}
use Rattle.ocfl_inventory.specs.declared.gather.Listed.{Listed}
use Rattle.ocfl_inventory.specs.Internal.Gathered.{triple_of, is_bad, bad_texts}
use Rattle.ocfl_inventory.specs.Notes.{conflicts, kept_paths, listed, fault_notes, inventory_notes, repeated_digests, repeated_notes, fault_note}
use Rattle.ocfl_inventory.specs.Table.{Table, Triple, triple_cmp, named_cmp, table_from, triples_of}
use Rattle.ocfl_inventory.specs.{Internal.TripleOrder.{triple_total}, Internal.Beside.{hits}}
use Rattle.ocfl_report.specs.declared.code.Code.{Code}
use Rattle.ocfl_report.specs.declared.code.Code.TheVariants.{E096, E101, S07}
use Rattle.ocfl_inventory.proofs.{Runs.{IsUp}, Once.{up_from_sorted, sorted_once, among_permuted}}
use Rattle.ocfl_inventory.proofs.Beginnings.{sorted_conflicts}
use Rattle.ocfl_inventory.proofs.TripleOrders.{triple_exact}

-- ---- sorted triples

path_under : (x y : Triple) → is_lt (triple_cmp y x) ≡ false → is_lt (place_cmp y.path x.path) ≡ false
path_under x y h = by (place_cmp y.path x.path) h
  where
    by : (r : Ordering) → is_lt (ordering_then r (named_cmp y.named x.named)) ≡ false → is_lt r ≡ false
    by Less e = e
    by Equal e = refl
    by Greater e = refl

paths_up : (xs : List Triple) → IsSorted triple_cmp xs → IsUp place_cmp (map (λ e. e.path) xs)
paths_up xs s = up_from_sorted place_cmp_total place_cmp_exact (λ e. e.path) xs (λ k d h. path_under (get_or xs k d) (get_or xs (k + 1) d) (s k d (omega arith) h))

triples_up : (xs : List Triple) → IsSorted triple_cmp xs → IsUp triple_cmp xs
triples_up xs s = subst (IsUp triple_cmp) (itself xs) (up_from_sorted triple_total triple_exact (λ e. e) xs (λ k d h. s k d (omega arith) h))
  where
    itself : (xs : List Triple) → map (λ e. e) xs ≡ xs
    itself [] = refl
    itself (x ∷ xs) = ap (λ ys. x ∷ ys) (itself xs)

pub conflicting : (es : List Triple) (hs zs : List Place) → IsSorted triple_cmp es → hs ≡ hits begins (map (λ e. e.path) es)
    → IsFiltered (DiffersFromLast (pointwise (pointwise nat_eq))) [] hs zs → zs ≡ conflicts (map (λ e. e.path) es)
conflicting es hs zs s h f =
    dedup_is (pointwise (pointwise nat_eq)) hs zs f
    ∙ (λ i. dedup (λ p q. place_eq-pointwise p q i) (h i))
    ∙ sorted_conflicts (map (λ e. e.path) es) (map (λ e. e.path) es) (IsPermutation-refl (map (λ e. e.path) es)) (paths_up es s)

pub conflicts_permuted : (es fs : List Triple) → IsPermutation es fs → IsSorted triple_cmp fs → conflicts (map (λ e. e.path) fs) ≡ conflicts (map (λ e. e.path) es)
conflicts_permuted es fs p s =
    let up = paths_up fs s in
    sym (sorted_conflicts (map (λ e. e.path) fs) (map (λ e. e.path) fs) (IsPermutation-refl (map (λ e. e.path) fs)) up)
    ∙ sorted_conflicts (map (λ e. e.path) es) (map (λ e. e.path) fs) (IsPermutation-map (λ e. e.path) es fs p) up

pub triples_once : (es zs : List Triple) → IsSorted triple_cmp es → IsFiltered (DiffersFromLast (eq_by_cmp triple_cmp)) [] es zs → zs ≡ ascending triple_cmp es
triples_once es zs s f = dedup_is (eq_by_cmp triple_cmp) es zs f ∙ sorted_once triple_total triple_exact es es (IsPermutation-refl es) (triples_up es s)

-- ---- what is listed

pub kept_paths_of : (fixity : Bool) (content : Text) (a : Algorithm) (b : Block) → map (λ e. e.path) (triples_of fixity content a b) ≡ kept_paths content b
kept_paths_of fixity content a [] = refl
kept_paths_of fixity content a (e ∷ b) =
    map-append (λ x. x.path) (map (triple_of fixity a (folded e.0)) (filter (is_kept content) e.1)) (triples_of fixity content a b)
    ∙ (λ i. each (filter (is_kept content) e.1) i ++ kept_paths_of fixity content a b i)
    ∙ sym (ap (map elements) (filter-append (is_kept content) e.1 (listed b)) ∙ map-append elements (filter (is_kept content) e.1) (filter (is_kept content) (listed b)))
  where
    each : (ts : List Text) → map (λ x. x.path) (map (triple_of fixity a (folded e.0)) ts) ≡ map elements ts
    each [] = refl
    each (t ∷ ts) = ap (λ ps. elements t ∷ ps) (each ts)

-- ---- lines of bad paths

module _ {A : Type 0} (cmp : A → A → Ordering) (total : IsTotalOrder cmp) (exact : IsAntisymmetric cmp) (test : A → Bool) where
  pub ascending_filter : (xs : List A) → ascending cmp (filter test xs) ≡ filter test (ascending cmp xs)
  ascending_filter xs = ascending_unique total exact (ascending cmp (filter test xs)) (filter test (ascending cmp xs))
      (ascends_ascending total (filter test xs)) (ascends_filter cmp test (ascending cmp xs) (ascends_ascending total xs)) (λ z. (
        λ i. let w = among_from_filter test xs z ((among_ascending exact (filter test xs) z).1 i) in among_filter test (ascending cmp xs) z ((among_ascending exact xs z).0 w.0) w.1,
        λ i. let w = among_from_filter test (ascending cmp xs) z i in (among_ascending exact (filter test xs) z).0 (among_filter test xs z ((among_ascending exact xs z).1 w.0) w.1),
      ))

module _ (content : Text) where
  faults_left : (ts : List Text) → filter_map (fault_note content) (filter (is_bad content) ts) ≡ filter_map (fault_note content) ts
  faults_left [] = refl
  faults_left (t ∷ ts) = by (path_fault content t) refl (faults_left ts)
    where
      by : (o : Option Code) → path_fault content t ≡ o → filter_map (fault_note content) (filter (is_bad content) ts) ≡ filter_map (fault_note content) ts
          → filter_map (fault_note content) (cond (is_some o) (t ∷ filter (is_bad content) ts) (filter (is_bad content) ts)) ≡ cons_option
          (option_map (λ c. note c t) o) (filter_map (fault_note content) ts)
      by None e h = h
      by (Some code) e h = ap (λ o. cons_option (option_map (λ c. note c t) o) (filter_map (fault_note content) (filter (is_bad content) ts))) e ∙ ap (λ ns. note code t ∷ ns) h

  pub faults_of_bad : (ts : List Text) → fault_notes content (filter (is_bad content) ts) ≡ fault_notes content ts
  faults_of_bad ts = ap (filter_map (fault_note content)) (ascending_filter text_cmp nat_list_cmp_total text_cmp_exact (is_bad content) ts) ∙ faults_left (ascending text_cmp ts)

  pub bad_listed : (b : Block) → bad_texts content b ≡ filter (is_bad content) (listed b)
  bad_listed [] = refl
  bad_listed (e ∷ b) = ap (λ ts. filter (is_bad content) e.1 ++ ts) (bad_listed b) ∙ sym (filter-append (is_bad content) e.1 (listed b))

  pub bad_fixity : (fs : List (Algorithm × Block)) → flat_map (λ e. bad_texts content e.1) fs ≡ filter (is_bad content) (flat_map (λ e. listed e.1) fs)
  bad_fixity [] = refl
  bad_fixity (e ∷ fs) = (λ i. bad_listed e.1 i ++ bad_fixity fs i) ∙ sym (filter-append (is_bad content) (listed e.1) (flat_map (λ x. listed x.1) fs))

four_joined : (front a b c d : List Note) → front ++ (a ++ b ++ c ++ d) ≡ front ++ a ++ b ++ c ++ d
four_joined front a b c d = sym (append_assoc front (a ++ b ++ c) d) ∙ ap (λ x. x ++ d) (sym (append_assoc front (a ++ b) c) ∙ ap (λ x. x ++ c) (sym (append_assoc front a b)))

pub others_joined : (l0 l1 l2 l3 a b c d : List Note) → l1 ≡ l0 ++ a → l2 ≡ l1 ++ b → l3 ≡ l2 ++ c → l3 ++ d ≡ l0 ++ (a ++ b ++ c ++ d)
others_joined l0 l1 l2 l3 a b c d h1 h2 h3 =
    let k2 : l2 ≡ l0 ++ a ++ b = h2 ∙ ap (λ x. x ++ b) h1 in
    let k3 : l3 ≡ l0 ++ a ++ b ++ c = h3 ∙ ap (λ x. x ++ c) k2 in
    ap (λ x. x ++ d) k3 ∙ sym (four_joined l0 a b c d)

-- the lines of what is listed, if what is listed is known
pub lines_of_listed : (i : Inventory) (l : Listed) → AreListed i.content i.manifest i.fixity l → all_repeated i.manifest i.fixity ++ other_notes i.content l i.unsupported ≡ inventory_notes i
lines_of_listed i l h =
    let repeats = map (note E096) (repeated_digests i.manifest) in
    let in_fixity = flat_map repeated_notes i.fixity in
    let manifest = ap (fault_notes i.content) (h.manifest_bad ∙ bad_listed i.content i.manifest) ∙ faults_of_bad i.content (listed i.manifest) in
    let fixity = ap (fault_notes i.content) (h.fixity_bad ∙ bad_fixity i.content i.fixity) ∙ faults_of_bad i.content (flat_map (λ e. listed e.1) i.fixity) in
    four_joined (repeats ++ in_fixity) _ _ _ _
    ∙ (λ k. repeats ++ in_fixity ++ manifest k ++ fixity k ++ map (λ p. note E101 (slashed p)) (h.conflicting k) ++ map (note S07) i.unsupported)

-- ---- the table's triples

pub ascending_permuted : (es fs : List Triple) → IsPermutation es fs → ascending triple_cmp fs ≡ ascending triple_cmp es
ascending_permuted es fs p = ascending_unique triple_total triple_exact (ascending triple_cmp fs) (ascending triple_cmp es) (ascends_ascending triple_total fs)
    (ascends_ascending triple_total es) (λ z. (
      λ i. (among_ascending triple_exact es z).0 (among_permuted triple_total triple_exact fs es (IsPermutation-sym es fs p) z ((among_ascending triple_exact fs z).1 i)),
      λ i. (among_ascending triple_exact fs z).0 (among_permuted triple_total triple_exact es fs p z ((among_ascending triple_exact es z).1 i)),
    ))

-- what was gathered beside sorted triples, of all that is listed
pub all_gathered : (in_manifest sorted in_fixity found : List Triple) → IsPermutation in_manifest sorted → IsPermutation (sorted ++ in_fixity) found → IsPermutation (in_manifest ++ in_fixity) found
all_gathered in_manifest sorted in_fixity found h k = IsPermutation-trans _ _ _ (IsPermutation-append_left in_fixity in_manifest sorted h) k

-- the table of what was gathered, if the content directory is as it was handed on
pub table_gathered : (i : Inventory) (content : Text) (found : List Triple) (t : Table) → content ≡ i.content → IsPermutation (all_triples content i.algorithm i.manifest i.fixity) found
    → t ≡ record { algorithm = i.algorithm; content = i.content; triples = ascending triple_cmp found } → t ≡ table_from i
table_gathered i content found t same gathered is =
    let with_triples : List Triple → Table = λ es. record { algorithm = i.algorithm; content = i.content; triples = es } in
    let all : IsPermutation (all_triples i.content i.algorithm i.manifest i.fixity) found = subst (λ (d : Text). IsPermutation (all_triples d i.algorithm i.manifest i.fixity) found) same gathered in
    is ∙ ap with_triples (ascending_permuted (all_triples i.content i.algorithm i.manifest i.fixity) found all)
