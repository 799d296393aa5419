-- What is paid for is cut.
use Rattle.std.proofs.Common.{◌≡◌, ℕ, zero, suc, ◌+◌, ◌<◌, ◌≤◌, List, [], ◌∷◌, ◌++◌, refl, sym, ◌∙◌, ap, subst, true, false, Bool, Some, None, Option, append-nil, length, take, drop, arith, eqb-true, ltb-true, ltb-false}
use Rattle.std.proofs.{lemmas.Bool.{eqb-false, lt-ltb, or_right}}
use Rattle.std.specs.Prelude.{if◌then◌else◌, cond, ◌==◌, ◌||◌, ◌&&◌, nat_lt}
use Rattle.ocfl_tree.specs.{Place.{Place, Text}, StorageRoot.{StorageRoot, Leaf, file, dir, other}}
use Rattle.ocfl_report.specs.Line.{Item}
use Rattle.ocfl_inventory.specs.Table.{Named}
use Rattle.ocfl_report.specs.declared.further.Further.{Further}
use Rattle.ocfl_report.specs.declared.further.Further.TheVariants.{Nothing, Inventories}
use Rattle.ocfl_rules.specs.Zone.{seen}
use Rattle.ocfl_rules.specs.Lines.{named_at, common_cost, cost_of}
use Rattle.ocfl_rules.specs.Inventories.{Expected, VersionInventory, cost, expected_of, further_cost, inventory_cost, is_hashed, version_cost, version_inventory}
use Rattle.ocfl_rules.specs.Audit.{total_cost}
use Rattle.ocfl_rules.specs.Runs.{Limits, files_of, total_files, may_take, cut_len, cut, left}
pub use Rattle.ocfl_rules.proofs.RunLaws.{cut_and_left, taken_test}
use Rattle.ocfl_scrub.proofs.Paying.{Paid}

-- ---- cuts

module _ (l : Limits) where
  pub paid_append : (s f : ℕ) (xs ys : List Item) → Paid l s f xs → Paid l (s + total_cost xs) (f + total_files xs) ys → Paid l s f (xs ++ ys)
  paid_append s f [] ys h k =
      let e : s + 0 ≡ s = omega arith in
      let g : f + 0 ≡ f = omega arith in
      subst (λ n. Paid l n f ys) e (subst (λ n. Paid l (s + 0) n ys) g k)
  paid_append s f (x ∷ xs) ys h k =
      let e : s + (x.cost + total_cost xs) ≡ s + x.cost + total_cost xs = omega arith in
      let g : f + (files_of x.cost + total_files xs) ≡ f + files_of x.cost + total_files xs = omega arith in (
        h.0,
        paid_append (s + x.cost) (f + files_of x.cost) xs ys h.1
            (subst (λ n. Paid l n (f + files_of x.cost + total_files xs) ys) e (subst (λ n. Paid l (s + (x.cost + total_cost xs)) n ys) g k)),
      )

  paid_len : (s f : ℕ) (xs ys : List Item) → Paid l s f xs → cut_len l s f (xs ++ ys) ≡ length xs + cut_len l (s + total_cost xs) (f + total_files xs) ys
  paid_len s f [] ys h =
      let e : s ≡ s + 0 = omega arith in
      let g : f ≡ f + 0 = omega arith in
      let m : cut_len l s f ys ≡ cut_len l (s + 0) (f + 0) ys = ap (λ n. cut_len l n f ys) e ∙ ap (λ n. cut_len l (s + 0) n ys) g in
      omega (arith, m)
  paid_len s f (x ∷ xs) ys h =
      let e : s + x.cost + total_cost xs ≡ s + (x.cost + total_cost xs) = omega arith in
      let g : f + files_of x.cost + total_files xs ≡ f + (files_of x.cost + total_files xs) = omega arith in
      let k : cut_len l (s + x.cost + total_cost xs) (f + files_of x.cost + total_files xs) ys ≡ cut_len l (s + (x.cost + total_cost xs)) (f + (files_of x.cost + total_files xs)) ys =
      ap (λ n. cut_len l n (f + files_of x.cost + total_files xs) ys) e ∙ ap (λ n. cut_len l (s + (x.cost + total_cost xs)) n ys) g in
      let m = paid_len (s + x.cost) (f + files_of x.cost) xs ys h.1 in
      let t : cond (may_take l s f x.cost) (suc (cut_len l (s + x.cost) (f + files_of x.cost) (xs ++ ys))) 0 ≡ suc (cut_len l (s + x.cost) (f + files_of x.cost) (xs ++ ys)) =
      ap (λ v. cond v (suc (cut_len l (s + x.cost) (f + files_of x.cost) (xs ++ ys))) 0) h.0 in
      t ∙ omega (arith, m, k)

  -- nothing is left, or what the limits do not allow
  abbrev pub IsStop : ℕ → ℕ → List Item → Type 0
  IsStop s f [] = Unit {0}
  IsStop s f (i ∷ items) = may_take l s f i.cost ≡ false

  stop_len : (s f : ℕ) (ys : List Item) → IsStop s f ys → cut_len l s f ys ≡ 0
  stop_len s f [] h = refl
  stop_len s f (y ∷ ys) h = ap (λ v. cond v (suc (cut_len l (s + y.cost) (f + files_of y.cost) ys)) 0) h

  take_front : (xs ys : List Item) (n : ℕ) → take (length xs + n) (xs ++ ys) ≡ xs ++ take n ys
  take_front [] ys n = let e : 0 + n ≡ n = omega arith in ap (λ m. take m ys) e
  take_front (x ∷ xs) ys n = let e : suc (length xs) + n ≡ suc (length xs + n) = omega arith in ap (λ m. take m (x ∷ xs ++ ys)) e ∙ ap (λ zs. x ∷ zs) (take_front xs ys n)

  drop_front : (xs ys : List Item) (n : ℕ) → drop (length xs + n) (xs ++ ys) ≡ drop n ys
  drop_front [] ys n = let e : 0 + n ≡ n = omega arith in ap (λ m. drop m ys) e
  drop_front (x ∷ xs) ys n = let e : suc (length xs) + n ≡ suc (length xs + n) = omega arith in ap (λ m. drop m (x ∷ xs ++ ys)) e ∙ drop_front xs ys n

  -- what is paid for begins the cut
  pub paid_begins : (xs ys : List Item) → Paid l 0 0 xs → cut (xs ++ ys) l ≡ xs ++ take (cut_len l (0 + total_cost xs) (0 + total_files xs) ys) ys
  paid_begins xs ys h = ap (λ n. take n (xs ++ ys)) (paid_len 0 0 xs ys h) ∙ take_front xs ys _

  stops_here : (xs ys : List Item) → IsStop (total_cost xs) (total_files xs) ys → cut_len l (0 + total_cost xs) (0 + total_files xs) ys ≡ 0
  stops_here xs ys k =
      let e : 0 + total_cost xs ≡ total_cost xs = omega arith in
      let g : 0 + total_files xs ≡ total_files xs = omega arith in
      ap (λ n. cut_len l n (0 + total_files xs) ys) e ∙ ap (λ n. cut_len l (total_cost xs) n ys) g ∙ stop_len (total_cost xs) (total_files xs) ys k

  pub cut_of_paid : (xs ys : List Item) → Paid l 0 0 xs → IsStop (total_cost xs) (total_files xs) ys → cut (xs ++ ys) l ≡ xs
  cut_of_paid xs ys h k = paid_begins xs ys h ∙ ap (λ n. xs ++ take n ys) (stops_here xs ys k) ∙ append-nil xs

  pub left_of_paid : (xs ys : List Item) → Paid l 0 0 xs → IsStop (total_cost xs) (total_files xs) ys → left (xs ++ ys) l ≡ ys
  left_of_paid xs ys h k = ap (λ n. drop n (xs ++ ys)) (paid_len 0 0 xs ys h) ∙ drop_front xs ys _ ∙ ap (λ n. drop n ys) (stops_here xs ys k)

-- ---- the test before an item

pub test_paid : (l : Limits) (s f c : ℕ) → s < l.budget → f < l.files → may_take l s f c ≡ true
test_paid l s f c h k = ap (λ t. c == 0 || (t && nat_lt f l.files)) (lt-ltb s l.budget h) ∙ ap (λ t. c == 0 || t) (lt-ltb f l.files k) ∙ or_right (c == 0) true refl

pub test_free : (l : Limits) (s f c : ℕ) → c ≡ 0 → may_take l s f c ≡ true
test_free l s f c h = ap (λ n. n == 0 || (nat_lt s l.budget && nat_lt f l.files)) h

pub test_unpaid : (l : Limits) (s f c : ℕ) → 0 < c → ((s < l.budget) × (f < l.files) → ⊥) → may_take l s f c ≡ false
test_unpaid l s f c h k = by (c == 0) refl (nat_lt s l.budget) refl (nat_lt f l.files) refl
  where
    by : (t : Bool) → c == 0 ≡ t → (r : Bool) → nat_lt s l.budget ≡ r → (u : Bool) → nat_lt f l.files ≡ u → (t || (r && u)) ≡ false
    by true e r g u i = let z : c ≡ 0 = eqb-true c 0 e in absurd (omega (arith, z, h))
    by false e true g true i = absurd (k (ltb-true s l.budget g, ltb-true f l.files i))
    by false e true g false i = refl
    by false e false g u i = refl

-- ---- what an item costs, read or not

cost_is : (ns : List Named) (u : Option ℕ) (leaf : Option Leaf) → nat_lt 0 (cost_of ns None leaf) ≡ nat_lt 0 (cost_of ns u leaf)
cost_is [] u leaf = refl
cost_is (n ∷ ns) None leaf = refl
cost_is (n ∷ ns) (Some g) None = refl
cost_is (n ∷ ns) (Some g) (Some (file bytes)) = more (length bytes) ∙ sym (more g)
  where
    more : (k : ℕ) → nat_lt 0 (k + 1) ≡ true
    more k = lt-ltb 0 (k + 1) (omega arith)
cost_is (n ∷ ns) (Some g) (Some dir) = refl
cost_is (n ∷ ns) (Some g) (Some other) = refl

-- the same of the inventory of a version
inventory_cost_is : (bytes : Text) (es : List Expected) (u : Option ℕ) → nat_lt 0 (inventory_cost bytes es None) ≡ nat_lt 0 (inventory_cost bytes es u)
inventory_cost_is bytes [] u = refl
inventory_cost_is bytes (e ∷ es) None = refl
inventory_cost_is bytes (e ∷ es) (Some g) = lt-ltb 0 (length bytes + 1) (omega arith) ∙ sym (lt-ltb 0 (g + 1) (omega arith))

version_cost_is : (root : StorageRoot) (u : Option ℕ) (x : Option VersionInventory) → nat_lt 0 (version_cost root None x) ≡ nat_lt 0 (version_cost root u x)
version_cost_is root u None = refl
version_cost_is root u (Some x) = inventory_cost_is x.2 (expected_of root x.0 x.1) u

either_costs : (a b : ℕ) → nat_lt 0 (a + b) ≡ (nat_lt 0 a || nat_lt 0 b)
either_costs zero b = ap (nat_lt 0) (let none : zero + b ≡ b = omega arith in none)
either_costs (suc a) b = lt-ltb 0 (suc a + b) (omega arith) ∙ ap (λ t. t || nat_lt 0 b) (sym (lt-ltb 0 (suc a) (omega arith)))

-- a hashed item costs something, whatever could be read, and another nothing
cost_read_or_not : (further : Further) (root : StorageRoot) (u : Option ℕ) (p : Place) → is_hashed further root p ≡ nat_lt 0 (cost further root u p)
cost_read_or_not Nothing root u p = cost_is (named_at root p) u (seen root p)
cost_read_or_not Inventories root u p =
    either_costs (common_cost root None p) (further_cost root None p)
    ∙ (λ i. cost_is (named_at root p) u (seen root p) i || version_cost_is root u (version_inventory root p) i)
    ∙ sym (either_costs (common_cost root u p) (further_cost root u p))

pub hashed_costs : (further : Further) (root : StorageRoot) (u : Option ℕ) (p : Place) → is_hashed further root p ≡ true → 0 < cost further root u p
hashed_costs further root u p h = ltb-true 0 (cost further root u p) (sym (cost_read_or_not further root u p) ∙ h)

pub free_costs : (further : Further) (root : StorageRoot) (u : Option ℕ) (p : Place) → is_hashed further root p ≡ false → cost further root u p ≡ 0
free_costs further root u p h = let l : cost further root u p ≤ 0 = ltb-false 0 (cost further root u p) (sym (cost_read_or_not further root u p) ∙ h) in omega (arith, l)

-- ---- by how much what was spent passes the budget

-- the cost of the last item that costs something
abbrev pub last_cost : List Item → ℕ
last_cost [] = 0
last_cost (i ∷ items) = if last_cost items == 0 then i.cost else last_cost items

pub no_cost : (items : List Item) → total_cost items ≡ 0 → last_cost items ≡ 0
no_cost [] h = refl
no_cost (i ∷ items) h =
    let m : total_cost items ≡ 0 = omega (arith, h) in
    let z = no_cost items m in
    ap (λ n. cond (n == 0) i.cost n) z ∙ (let k : i.cost ≡ 0 = omega (arith, h) in k)

zero_costs : (items : List Item) → last_cost items ≡ 0 → total_cost items ≡ 0
zero_costs [] h = refl
zero_costs (i ∷ items) h = by (last_cost items == 0) refl h (zero_costs items)
  where
    by : (r : Bool) → last_cost items == 0 ≡ r → cond r i.cost (last_cost items) ≡ 0 → (last_cost items ≡ 0 → total_cost items ≡ 0) → i.cost + total_cost items ≡ 0
    by true e k f = let z = f (eqb-true (last_cost items) 0 e) in omega (arith, k, z)
    by false e k f = absurd (eqb-false (last_cost items) 0 e k)

-- what is paid for passes the budget by less than the cost of its last file
paid_by_less : (l : Limits) (s f : ℕ) (items : List Item) → Paid l s f items → 0 < total_cost items → s + total_cost items < l.budget + last_cost items
paid_by_less l s f [] h k = absurd (omega (arith, k))
paid_by_less l s f (i ∷ items) h k = by (last_cost items == 0) refl (paid_by_less l (s + i.cost) (f + files_of i.cost) items h.1)
  where
    by : (r : Bool) → last_cost items == 0 ≡ r → (0 < total_cost items → s + i.cost + total_cost items < l.budget + last_cost items)
        → s + (i.cost + total_cost items) < l.budget + cond r i.cost (last_cost items)
    by true e rest =
        let z = zero_costs items (eqb-true (last_cost items) 0 e) in
        let p : 0 < i.cost = omega (arith, z, k) in
        let q = (taken_test l s f i.cost h.0 p).0 in
        omega (arith, z, q)
    by false e rest = some (total_cost items) refl
      where
        some : (n : ℕ) → total_cost items ≡ n → s + (i.cost + total_cost items) < l.budget + last_cost items
        some zero g = absurd (eqb-false (last_cost items) 0 e (no_cost items g))
        some (suc n) g = let q = rest (omega (arith, g)) in omega (arith, q)

pub paid_passes : (l : Limits) (items : List Item) → Paid l 0 0 items → 0 < total_cost items → total_cost items < l.budget + last_cost items
paid_passes l items h k = let q = paid_by_less l 0 0 items h k in omega (arith, q)
