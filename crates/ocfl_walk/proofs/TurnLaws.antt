-- One turn of the walk: what is next by the listings that are left and the table is what is next on
-- a told tree.
use Rattle.std.proofs.Common.{◌≡◌, ◌≢◌, List, [], ◌∷◌, ◌++◌, refl, sym, ◌∙◌, ap, subst, true, false, Bool, map, filter, Option, Some, None, length, drop}
use Rattle.std.proofs.Math.Seq.{drop-append_seam}
use Rattle.std.specs.{Prelude.{cond, option_map, find}, Ordering.{is_lt, match_ordering}}
use Rattle.std.specs.declared.cmp.Ordering.{Ordering}
use Rattle.std.specs.declared.cmp.Ordering.TheVariants.{Less, Equal, Greater}
use Rattle.ocfl_tree.specs.Place.{Place, place_cmp}
use Rattle.ocfl_tree.specs.Ascending.{ascending, insert_once, IsAscending}
use Rattle.ocfl_tree.specs.{StorageRoot.{StorageRoot}, declared.store.Entry.{Entry}}
use Rattle.ocfl_tree.proofs.Orders.{place_cmp_exact}
use Rattle.ocfl_report.specs.declared.further.Further.{Further}
use Rattle.ocfl_inventory.specs.Table.{Table, Triple, paths_of, triple_cmp}
use Rattle.ocfl_inventory.specs.NextPath as table
use Rattle.ocfl_rules.specs.Zone.{Zone, skipped, hierarchy, inside, zone, table_at}
use Rattle.ocfl_rules.specs.Walk.{IsClosed, seen_names}
use Rattle.ocfl_rules.specs.Stack.{IsListed, seen_places, seen_left, next_entry, next_path, next_path_in, next_path_of, next_place, lesser, least_path, first_of_list}
use Rattle.ocfl_walk.specs.Standing.{Pile, frames_of, IsStanding, AreEntries, HaveEntries}
use Rattle.ocfl_walk.specs.Internal.Standing.{trimmed, trimmed_from, next_of, path_from, turn_of, place_by, IsFitIf}
use Rattle.ocfl_item.specs.{Around.{IsTableAround}, declared.meeting.Around.{Around}}
use Rattle.ocfl_walk.specs.declared.stand.Turn.TheVariants as turn
use Rattle.ocfl_rules.proofs.{AuditExists.{zone_is}, BelowLaws.{above}}
use Rattle.ocfl_rules.proofs.MachineLaws.{NextIs, next_place_is}

-- ---- the next path of a table

find_first : (test : Place → Bool) (ps : List Place) → find test ps ≡ first_of_list (filter test ps)
find_first test [] = refl
find_first test (p ∷ ps) = by (test p) (find_first test ps)
  where
    by : (b : Bool) → find test ps ≡ first_of_list (filter test ps) → cond b (Some p) (find test ps) ≡ first_of_list (cond b (p ∷ filter test ps) (filter test ps))
    by true h = refl
    by false h = h

-- each path is not above the one after it
abbrev Rises : List Place → Type 0
Rises [] = Unit {0}
Rises (p ∷ []) = Unit {0}
Rises (p ∷ q ∷ ps) = (place_cmp p q ≢ Greater) × Rises (q ∷ ps)

rises_triples : (ts : List Triple) → IsAscending triple_cmp ts → Rises (map (λ e. e.path) ts)
rises_triples [] h = tt
rises_triples (t ∷ []) h = tt
rises_triples (t ∷ u ∷ ts) h = (by (place_cmp t.path u.path) refl h.0.0, rises_triples (u ∷ ts) h.1)
  where
    by : (r : Ordering) → place_cmp t.path u.path ≡ r → triple_cmp t u ≡ Less → r ≢ Greater
    by Less e f = λ g. cc
    by Equal e f = λ g. cc
    by Greater e f = λ g. cc

-- sorting a list that rises leaves its first as it is
ascending_from : (p : Place) (ps : List Place) → Rises (p ∷ ps) → (rest : List Place) × (ascending place_cmp (p ∷ ps) ≡ p ∷ rest)
ascending_from p [] h = ([], refl)
ascending_from p (q ∷ ps) h = let k = ascending_from q ps h.1 in by k.0 k.1 (place_cmp p q) refl h.0
  where
    by : (rest : List Place) → ascending place_cmp (q ∷ ps) ≡ q ∷ rest → (r : Ordering) → place_cmp p q ≡ r → r ≢ Greater → (more : List Place) × (ascending place_cmp (p ∷ q ∷ ps) ≡ p ∷ more)
    by rest e Less f n = (q ∷ rest, ap (insert_once place_cmp p) e ∙ ap (λ r. match_ordering r (p ∷ q ∷ rest) (q ∷ rest) (q ∷ insert_once place_cmp p rest)) f)
    by rest e Equal f n = (
      rest,
      ap (insert_once place_cmp p) e ∙ ap (λ r. match_ordering r (p ∷ q ∷ rest) (q ∷ rest) (q ∷ insert_once place_cmp p rest)) f
          ∙ ap (λ x. x ∷ rest) (sym (place_cmp_exact p q f)),
    )
    by rest e Greater f n = absurd (n refl)

least_first : (s : Place) (ps : List Place) → Rises ps → first_of_list (filter (above s) (ascending place_cmp ps)) ≡ first_of_list (filter (above s) ps)
least_first s [] h = refl
least_first s (p ∷ []) h = refl
least_first s (p ∷ q ∷ ps) h = let k = ascending_from q ps h.1 in by k.0 k.1 (place_cmp p q) refl h.0 (least_first s (q ∷ ps) h.1)
  where
    both : (b : Bool) (xs ys : List Place) → first_of_list xs ≡ first_of_list ys → first_of_list (cond b (p ∷ xs) xs) ≡ first_of_list (cond b (p ∷ ys) ys)
    both true xs ys e = refl
    both false xs ys e = e

    by : (rest : List Place) → ascending place_cmp (q ∷ ps) ≡ q ∷ rest → (r : Ordering) → place_cmp p q ≡ r → r ≢ Greater
        → first_of_list (filter (above s) (ascending place_cmp (q ∷ ps))) ≡ first_of_list (filter (above s) (q ∷ ps))
        → first_of_list (filter (above s) (ascending place_cmp (p ∷ q ∷ ps))) ≡ first_of_list (filter (above s) (p ∷ q ∷ ps))
    by rest e Less f n ih =
        ap (λ xs. first_of_list (filter (above s) xs)) (ap (insert_once place_cmp p) e ∙ ap (λ r. match_ordering r (p ∷ q ∷ rest) (q ∷ rest) (q ∷ insert_once place_cmp p rest)) f)
        ∙ both (above s p) (filter (above s) (q ∷ rest)) (filter (above s) (q ∷ ps)) (ap (λ xs. first_of_list (filter (above s) xs)) (sym e) ∙ ih)
    by rest e Equal f n ih =
        ap (λ xs. first_of_list (filter (above s) xs)) (ap (insert_once place_cmp p) e ∙ ap (λ r. match_ordering r (p ∷ q ∷ rest) (q ∷ rest) (q ∷ insert_once place_cmp p rest)) f ∙ sym e)
        ∙ ih
        ∙ twice (above s q) (filter (above s) ps)
        ∙ ap (λ x. first_of_list (cond (above s x) (x ∷ filter (above s) (q ∷ ps)) (filter (above s) (q ∷ ps)))) (sym (place_cmp_exact p q f))
      where
        twice : (b : Bool) (xs : List Place) → first_of_list (cond b (q ∷ xs) xs) ≡ first_of_list (cond b (q ∷ cond b (q ∷ xs) xs) (cond b (q ∷ xs) xs))
        twice true xs = refl
        twice false xs = refl
    by rest e Greater f n ih = absurd (n refl)

next_same : (t : Table) (s : Place) → IsAscending triple_cmp t.triples → least_path s (paths_of t) ≡ table.next_path t (Some s)
next_same t s h = least_first s (paths_of t) (rises_triples t.triples h) ∙ sym (find_first (above s) (paths_of t))

pub path_same : (further : Further) (root : StorageRoot) (last : Place) (a : Option Around) → IsTableAround further root last a → IsFitIf a → next_path root last ≡ path_from last a
path_same further root last None h fit = by (zone root last) refl
  where
    none : (o s : Place) → (table : Option Table) → table ≡ None → next_path_of o s table ≡ None
    none o s None e = refl
    none o s (Some t) e = absurd cc

    by : (z : Zone) → zone root last ≡ z → next_path_in root z ≡ None
    by skipped e = refl
    by hierarchy e = refl
    by (inside o s) e = none o s (table_at root o) (h o s e)
path_same further root last (Some a) h fit =
    let whole : last ≡ a.place ++ h.0 = (zone_is root last a.place h.0 h.1).whole in
    ap (next_path_in root) h.1
    ∙ ap (next_path_of a.place h.0) h.2
    ∙ ap (option_map (λ q. a.place ++ q)) (next_same a.table h.0 fit.ascends ∙ ap (λ s. table.next_path a.table (Some s)) (sym (ap (drop (length a.place)) whole ∙ drop-append_seam a.place h.0)))

-- ---- listings of which nothing is left

module _ (root : StorageRoot) where
  pub left_trimmed : (xs : List Place) (ps : List Pile) → seen_left xs (frames_of (trimmed ps)) ≡ seen_left xs (frames_of ps)
  left_trimmed xs [] = refl
  left_trimmed xs (p ∷ ps) = by p.0 p.1 (left_trimmed xs ps)
    where
      by : (d : Place) (es : List Entry) → seen_left xs (frames_of (trimmed ps)) ≡ seen_left xs (frames_of ps)
          → seen_left xs (frames_of (trimmed_from d es (trimmed ps) ps)) ≡ seen_left xs ((d, map (λ e. e.name) es) ∷ frames_of ps)
      by d [] h = h
      by d (e ∷ es) h = refl

  pub listed_trimmed : (ps : List Pile) → IsListed root (frames_of ps) → IsListed root (frames_of (trimmed ps))
  listed_trimmed [] h = h
  listed_trimmed (p ∷ ps) h = by p.0 p.1 h (listed_trimmed ps h.1)
    where
      by : (d : Place) (es : List Entry) → IsListed root ((d, map (λ e. e.name) es) ∷ frames_of ps) → IsListed root (frames_of (trimmed ps))
          → IsListed root (frames_of (trimmed_from d es (trimmed ps) ps))
      by d [] k l = l
      by d (e ∷ es) k l = k

  pub entries_trimmed : (ps : List Pile) → HaveEntries root ps → HaveEntries root (trimmed ps)
  entries_trimmed [] h = h
  entries_trimmed (p ∷ ps) h = by p.0 p.1 h.0 h.1 (entries_trimmed ps h.1)
    where
      by : (d : Place) (es : List Entry) → AreEntries root d es → HaveEntries root ps → HaveEntries root (trimmed ps) → HaveEntries root (trimmed_from d es (trimmed ps) ps)
      by d [] k m l = l
      by d (e ∷ es) k m l = (k, m)

  pub standing_trimmed : (further : Further) (last : Place) (ps : List Pile) (a : Option Around) → IsStanding further root last ps a → IsStanding further root last (trimmed ps) a
  standing_trimmed further last ps a h = record {
    stack = left_trimmed (seen_places root) ps ∙ h.stack;
    listed = listed_trimmed ps h.listed;
    entries = entries_trimmed ps h.entries;
    table = h.table;
  }

  -- ---- the turn

  turn_same : (ps : List Pile) (path : Option Place)
      → lesser (frames_of (trimmed ps)) (next_entry root (frames_of (trimmed ps))) path ≡ place_by root (trimmed ps) (turn_of (next_of (trimmed ps)) path)
  turn_same [] None = refl
  turn_same [] (Some b) = refl
  turn_same (p ∷ ps) path = by p.0 p.1 path (turn_same ps path)
    where
      chosen : (d : Place) (e : Entry) (es : List Entry) (b : Place) (c : Bool)
          → cond c (Some (b, (d, e.name ∷ map (λ x. x.name) es) ∷ frames_of ps))
          (Some (d ++ e.name ∷ [], (d ++ e.name ∷ [], seen_names root (d ++ e.name ∷ [])) ∷ (d, map (λ x. x.name) es) ∷ frames_of ps))
          ≡ place_by root ((d, e ∷ es) ∷ ps) (cond c (turn.Path b) (turn.Entry (d ++ e.name ∷ [])))
      chosen d e es b true = refl
      chosen d e es b false = refl

      by : (d : Place) (es : List Entry) (path : Option Place)
          → lesser (frames_of (trimmed ps)) (next_entry root (frames_of (trimmed ps))) path ≡ place_by root (trimmed ps) (turn_of (next_of (trimmed ps)) path)
          → lesser (frames_of (trimmed_from d es (trimmed ps) ps)) (next_entry root (frames_of (trimmed_from d es (trimmed ps) ps))) path ≡ place_by root
          (trimmed_from d es (trimmed ps) ps) (turn_of (next_of (trimmed_from d es (trimmed ps) ps)) path)
      by d [] path h = h
      by d (e ∷ es) None h = refl
      by d (e ∷ es) (Some b) h = chosen d e es b (is_lt (place_cmp b (d ++ e.name ∷ [])))

  -- the turn that is chosen leads to the next place of the walk
  pub turn_is : (further : Further) (last : Place) (ps : List Pile) (a : Option Around) → IsTableAround further root last a → IsFitIf a
      → place_by root (trimmed ps) (turn_of (next_of (trimmed ps)) (path_from last a)) ≡ next_place root last (frames_of (trimmed ps))
  turn_is further last ps a h fit =
      sym (ap (lesser (frames_of (trimmed ps)) (next_entry root (frames_of (trimmed ps)))) (path_same further root last a h fit) ∙ turn_same ps (path_from last a))

  pub turn_is_next : (further : Further) (closed : IsClosed root) (last : Place) (ps : List Pile) (a : Option Around) → IsStanding further root last ps a → IsFitIf a
      → NextIs root closed last (place_by root (trimmed ps) (turn_of (next_of (trimmed ps)) (path_from last a)))
  turn_is_next further closed last ps a h fit =
      let k = standing_trimmed further last ps a h in
      subst (NextIs root closed last) (sym (turn_is further last ps a h.table fit)) (next_place_is root closed last (frames_of (trimmed ps)) k.stack k.listed)
