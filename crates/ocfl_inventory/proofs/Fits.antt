-- Tables are fit to be walked.
use Rattle.std.proofs.Common.{◌≡◌, ◌≤◌, ◌<◌, ◌^◌, List, [], ◌∷◌, ◌++◌, refl, sym, subst, true, false, Bool, Some, None, arith, length, map, filter}
use Rattle.std.proofs.lemmas.Bool.{ltb-false}
use Rattle.std.specs.{Prelude.{cond, ◌||◌, not, is_some, nat_lt, flat_map}, List.{AllByRecursion}}
use Rattle.std.specs.{Ordering.{match_ordering}, declared.cmp.Ordering.{Ordering}}
use Rattle.std.specs.declared.cmp.Ordering.TheVariants.{Less, Equal, Greater}
use Rattle.ocfl_tree.specs.{Place.{Text}, Path.{elements}, Ascending.{ascending, insert_once}}
use Rattle.ocfl_tree.proofs.Orders.{ascends_ascending, true_not_false}
use Rattle.ocfl_digest.specs.declared.algorithm.Algorithm.{Algorithm}
use Rattle.ocfl_report.specs.declared.code.Code.TheVariants.{E099, E100, S06}
use Rattle.ocfl_inventory.specs.{ListedPath.{is_kept}, Reading.{Block, Inventory}}
use Rattle.ocfl_inventory.specs.Table.{IsFit, Table, Triple, named_digest, table_from, triple_cmp, triples_of}
use Rattle.ocfl_inventory.specs.Internal.TripleOrder.{triple_total}

abbrev IsShort : Triple → Type 0
IsShort t = length t.path ≤ 128

short_kept : (content t : Text) → is_kept content t ≡ true → length (elements t) ≤ 128
short_kept content t h = by (nat_lt 128 (length (elements t))) refl _ _ _ _ h
  where
    by : (l : Bool) → nat_lt 128 (length (elements t)) ≡ l → (a b x y : Bool)
        → not (is_some (cond a (Some E100) (cond b (Some E099) (cond (x || l || y) (Some S06) None)))) ≡ true → length (elements t) ≤ 128
    by false e a b x y k = let n = ltb-false 128 (length (elements t)) e in omega (arith, n)
    by true e true b x y k = absurd (true_not_false (sym k))
    by true e false true x y k = absurd (true_not_false (sym k))
    by true e false false true y k = absurd (true_not_false (sym k))
    by true e false false false y k = absurd (true_not_false (sym k))

module _ where
  all_append : (xs ys : List Triple) → AllByRecursion IsShort xs → AllByRecursion IsShort ys → AllByRecursion IsShort (xs ++ ys)
  all_append [] ys h k = k
  all_append (x ∷ xs) ys h k = (h.0, all_append xs ys h.1 k)

  all_insert : (x : Triple) (ys : List Triple) → IsShort x → AllByRecursion IsShort ys → AllByRecursion IsShort (insert_once triple_cmp x ys)
  all_insert x [] h k = (h, tt)
  all_insert x (y ∷ ys) h k = by (triple_cmp x y) (all_insert x ys h k.1)
    where
      by : (r : Ordering) → AllByRecursion IsShort (insert_once triple_cmp x ys) → AllByRecursion IsShort (match_ordering r (x ∷ y ∷ ys) (y ∷ ys) (y ∷ insert_once triple_cmp x ys))
      by Less m = (h, k)
      by Equal m = k
      by Greater m = (k.0, m)

  all_ascending : (xs : List Triple) → AllByRecursion IsShort xs → AllByRecursion IsShort (ascending triple_cmp xs)
  all_ascending [] h = tt
  all_ascending (x ∷ xs) h = all_insert x (ascending triple_cmp xs) h.0 (all_ascending xs h.1)

  all_of_key : (fixity : Bool) (content : Text) (a : Algorithm) (key : Text) (ts : List Text)
      → AllByRecursion IsShort (map (λ t. record { path = elements t; named = named_digest fixity a key }) (filter (is_kept content) ts))
  all_of_key fixity content a key [] = tt
  all_of_key fixity content a key (t ∷ ts) = by (is_kept content t) refl (all_of_key fixity content a key ts)
    where
      by : (b : Bool) → is_kept content t ≡ b → AllByRecursion IsShort (map (λ t. record { path = elements t; named = named_digest fixity a key }) (filter (is_kept content) ts))
          → AllByRecursion IsShort (map (λ t. record { path = elements t; named = named_digest fixity a key }) (cond b (t ∷ filter (is_kept content) ts) (filter (is_kept content) ts)))
      by true e more = (short_kept content t e, more)
      by false e more = more

  all_of_block : (fixity : Bool) (content : Text) (a : Algorithm) (b : Block) → AllByRecursion IsShort (triples_of fixity content a b)
  all_of_block fixity content a [] = tt
  all_of_block fixity content a (e ∷ b) = all_append _ _ (all_of_key fixity content a e.0 e.1) (all_of_block fixity content a b)

  all_of_fixity : (content : Text) (bs : List (Algorithm × Block)) → AllByRecursion IsShort (flat_map (λ e. triples_of true content e.0 e.1) bs)
  all_of_fixity content [] = tt
  all_of_fixity content (e ∷ bs) = all_append _ _ (all_of_block true content e.0 e.1) (all_of_fixity content bs)

short_paths : (ts : List Triple) → AllByRecursion IsShort ts → AllByRecursion (λ q. length q ≤ 128) (map (λ e. e.path) ts)
short_paths [] h = tt
short_paths (t ∷ ts) h = (h.0, short_paths ts h.1)

abbrev all_of : Inventory → List Triple
all_of i = triples_of false i.content i.algorithm i.manifest ++ flat_map (λ e. triples_of true i.content e.0 e.1) i.fixity

short_all : (i : Inventory) → AllByRecursion IsShort (all_of i)
short_all i = all_append (triples_of false i.content i.algorithm i.manifest) (flat_map (λ e. triples_of true i.content e.0 e.1) i.fixity)
    (all_of_block false i.content i.algorithm i.manifest) (all_of_fixity i.content i.fixity)

table_fits : (i : Inventory) → length (table_from i).triples < 2 ^ 64 → IsFit (table_from i)
table_fits i few = record {
  short = short_paths (ascending triple_cmp (all_of i)) (all_ascending (all_of i) (short_all i));
  ascends = ascends_ascending triple_total (all_of i);
  few = few;
}

pub read_fits : (i : Inventory) (t : Table) → t ≡ table_from i → length t.triples < 2 ^ 64 → IsFit t
read_fits i t is few = subst IsFit (sym is) (table_fits i (subst (λ x. length x.triples < 2 ^ 64) is few))
