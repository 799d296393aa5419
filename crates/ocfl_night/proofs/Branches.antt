-- The last name of a place, and whether a branch has an end.
use Rattle.std.proofs.Common.{◌≡◌, ◌≢◌, ◌<◌, ◌≤◌, ◌++◌, ◌∷◌, ◌∙◌, [], ⊎_elim, Bool, true, false, Option, Some, None, ap, refl, sym, subst, length, length-append, arith}
use Rattle.std.proofs.{lemmas.Bool.{cases_lt}, lemmas.Bool.Decides.{nat_tests}, lemmas.List.Elements.{All-append, All-cons, All-nil}}
use Rattle.std.specs.Prelude.{◌&&◌, ◌||◌, All, IsTrue, List, nat_le, nat_lt, if◌then◌else◌}
use Rattle.ocfl_tree.specs.{Name.{IsName}, Place.{Text, Place}}
use Rattle.ocfl_inventory.specs.Declaration.{is_declaration}
use Rattle.ocfl_inventory.specs.declared.declaration.Level.TheVariants.{Root}
use Rattle.ocfl_rules.specs.Trail.{is_root_meta}
use Rattle.ocfl_rules.proofs.BranchLaws.{end_is_name}
use Rattle.ocfl_night.specs.Chain.{past}
use Rattle.ocfl_night.specs.Done.{Done}
use Rattle.ocfl_night.specs.Leaving.{MayLeave, branch_at, branch_for, end_of, has_end, is_at, last_name, remedy_at, remedy_by, tried_by}
use Rattle.ocfl_night.specs.declared.tally.Remedy.TheVariants.{TryAgain, LeaveOut, Halt}

last_is : (d : Place) (n : Text) → last_name (d ++ n ∷ []) ≡ n
last_is [] n = refl
last_is (k ∷ []) n = refl
last_is (k ∷ m ∷ d) n = last_is (m ∷ d) n

pub last_of : (b d : Place) (n : Text) → b ≡ d ++ n ∷ [] → last_name b ≡ n
last_of b d n is = ap last_name is ∙ last_is d n

has_end_is : (d : Place) (n : Text) → has_end (d ++ n ∷ []) ≡ nat_lt (length n) 255
has_end_is [] n = refl
has_end_is (k ∷ d) n = ap (λ (t : Text). nat_lt (length t) 255) (last_is (k ∷ d) n)

chosen : (b d : Place) (n : Text) (fits : Bool) → b ≡ d ++ n ∷ [] → nat_lt (length n) 255 ≡ fits → end_of b ≡ (if fits then Some (past b) else None)
chosen b d n fits is test = ap (λ (x : Bool). if x then Some (past b) else None) (ap has_end is ∙ has_end_is d n ∙ test)

pub an_end : (b d : Place) (n : Text) → b ≡ d ++ n ∷ [] → length n < 255 → end_of b ≡ Some (past b)
an_end b d n is less = chosen b d n true is (grind (arith, nat_tests))

pub no_end : (b d : Place) (n : Text) → b ≡ d ++ n ∷ [] → 255 ≤ length n → end_of b ≡ None
no_end b d n is more = chosen b d n false is (grind (arith, nat_tests))

-- ---- a name with the byte 1 after it

pub is_short : (n t : Text) → t ≡ n ++ 1 ∷ [] → IsName t → length n < 255
is_short n t is name = let short : length t ≤ 255 = name.fits.short in omega (arith, short, ap length is, length-append n (1 ∷ []))

pub is_long : (n t : Text) → t ≡ n ++ 1 ∷ [] → (IsName t → ⊥) → IsName n → 255 ≤ length n
is_long n t is unnamed name =
    ⊎_elim (λ less. absurd (unnamed (subst IsName (sym is) (end_is_name n name less)))) (λ long. long) (cases_lt (length n) 255)

-- ---- declarations of the storage root

pub declares : (p : Place) → length p ≡ 1 → is_declaration Root (last_name p) ≡ is_root_meta p
declares [] one = absurd (omega (arith, one))
declares (n ∷ []) one = refl
declares (n ∷ m ∷ p) one = absurd (omega (arith, one))

pub declares_not : (p : Place) → length p ≢ 1 → false ≡ is_root_meta p
declares_not [] other = refl
declares_not (n ∷ []) other = absurd (other refl)
declares_not (n ∷ m ∷ p) other = refl

-- ---- what is left out

-- a branch that can be left out for a place can be one more
pub may_leave_more : (left more : List Place) (p b : Place) → Some b ≡ branch_for left p → more ≡ left ++ b ∷ [] → MayLeave false left → MayLeave false more
may_leave_more left more p b is grown may = by (nat_lt (length left) 16) (has_end (branch_at p)) refl refl is
  where
    by : (few ends : Bool) → nat_lt (length left) 16 ≡ few → has_end (branch_at p) ≡ ends → Some b ≡ (if few && ends then Some (branch_at p) else None) → MayLeave false more
    by false ends f e i = absurd cc
    by true false f e i = absurd cc
    by true true f e i =
        let same : branch_at p ≡ b = cc in
        let less : length left < 16 = grind (arith, nat_tests) in
        record {
          few = omega (arith, less, ap length grown, length-append left (b ∷ []));
          none = λ strict. absurd cc;
          ends = subst (All (λ x. IsTrue (has_end x))) (sym grown)
              (All-append (λ x. IsTrue (has_end x)) left (b ∷ []) may.ends (All-cons (λ x. IsTrue (has_end x)) b [] (ap has_end (sym same) ∙ e) (All-nil (λ x. IsTrue (has_end x)))));
        }

-- a branch that is left out for a place is that place's
pub left_branch : (strict : Bool) (d : Done) (p b : Place) → remedy_at strict d p ≡ LeaveOut b → branch_at p ≡ b
left_branch strict d p b is = by (strict || nat_le 64 d.stops) (is_at d.tried p) (nat_lt (length d.left) 16 && has_end (branch_at p)) is
  where
    by : (x y z : Bool) → (if x then Halt else (if y then remedy_by (if z then Some (branch_at p) else None) else TryAgain)) ≡ LeaveOut b → branch_at p ≡ b
    by true y z e = absurd cc
    by false false z e = absurd cc
    by false true false e = absurd cc
    by false true true e = cc

-- without a try nothing is tried once more
pub untried : (p : Place) (found : Option Place) → tried_by p (remedy_by found) ≡ None
untried p None = refl
untried p (Some branch) = refl
