-- What putting a list leaves.
use Rattle.std.proofs.Common.{◌≡◌, ◌⊎◌, inl, inr, ℕ, Bool, true, false, Option, Some, refl, sym, subst, ap, ◌∙◌}
use Rattle.std.specs.Prelude.{◌==◌, cond}
use Rattle.ocfl_tree.specs.Place.{Text}
use Rattle.ocfl_accounts.specs.{Kept.{Kept, Account, account_with, with_account, with_list}, Crash.{Same, IsPut, MayPut, After, Follows}}
use Rattle.ocfl_closed.specs.{Files.{Files}, Cut.{ClosedState, Passes, Calm, Still, Names, AreNamed, with_listed}}
use Rattle.ocfl_closed.proofs.Passing.{passes_then, passes_none, same_then, then_same}

-- an account that is put where it is
put_twice : (a : Account) (lists : ℕ → Option Text) → with_list a (with_list a lists) ≡ with_list a lists
put_twice a lists = λ i cycle. by cycle (a.cycle == cycle) i
  where
    by : (cycle : ℕ) (b : Bool) → cond b (Some a.list) (cond b (Some a.list) (lists cycle)) ≡ cond b (Some a.list) (lists cycle)
    by cycle true = refl
    by cycle false = refl

is_there : (a : Account) (k : Kept) (lists : ℕ → Option Text) → k.lists ≡ with_list a lists → k ≡ with_account a k
is_there a k lists e = λ i. record { sights = k.sights; reports = k.reports; listed = k.listed; lists = (e ∙ sym (put_twice a lists) ∙ ap (with_list a) (sym e)) i }

-- the list was brought to the disk, it got its name, and that was brought to the disk
pub put_durable : (cycle : ℕ) (a b c d : ClosedState) → Still a b → Names cycle b c → Calm c d → AreNamed d
    → Follows (IsPut (account_with cycle a.beside)) a.may_leave d.may_leave
put_durable cycle a b c d s n q named k m = by (q.passes.now k m)
  where
    put : Account
    put = account_with cycle a.beside

    lists_are : d.files.lists ≡ with_list put b.files.lists
    lists_are = ap (λ (f : Files). f.lists) (q.files ∙ n.files) ∙ ap (λ l. with_list (account_with cycle l) b.files.lists) s.beside

    back : (e : Kept) → b.may_leave e → k ≡ with_account put e → After (IsPut put) a.may_leave k
    back e left is = let f = s.calm.passes.now e left in (f.0, f.1, is ∙ ap (with_account put) f.2)

    of : (e : Kept) → b.may_leave e → (k ≡ e) ⊎ (k ≡ with_account (account_with cycle b.beside) e) → After (IsPut put) a.may_leave k
    of e left (inl same) = back k (subst b.may_leave (sym same) left) (is_there put k b.files.lists (named k m ∙ lists_are))
    of e left (inr is) = back e left (is ∙ ap (λ l. with_account (account_with cycle l) e) s.beside)

    by : After Same c.may_leave k → After (IsPut put) a.may_leave k
    by h = let e = n.passes.now h.0 h.1 in of e.0 e.1 (subst (λ x. (x ≡ e.0) ⊎ (x ≡ with_account (account_with cycle b.beside) e.0)) (sym h.2) e.2)

pub put_passes : (cycle : ℕ) (a b c : ClosedState) → Still a b → Names cycle b c → Passes (MayPut (account_with cycle a.beside)) a c
put_passes cycle a b c s n = same_then (MayPut (account_with cycle a.beside)) (λ k. inl refl) a b c s.calm.passes (subst (λ l. Passes (MayPut (account_with cycle l)) b c) s.beside n.passes)

pub put_files : (cycle : ℕ) (a b c : ClosedState) → Still a b → Names cycle b c → c.files ≡ with_listed (account_with cycle a.beside) a.files
put_files cycle a b c s n = n.files ∙ (λ i. with_listed (account_with cycle (s.beside i)) (s.calm.files i))

-- what is so while a list is put, whatever call fails
pub record MayPass (cycle : ℕ) (a d : ClosedState) : Type 0 where
  pub passes : Passes (MayPut (account_with cycle a.beside)) a d
  pub files : (d.files ≡ a.files) ⊎ (d.files ≡ with_listed (account_with cycle a.beside) a.files)

pub may_still : (cycle : ℕ) (a b : ClosedState) → Still a b → MayPass cycle a b
may_still cycle a b s = record {
  passes = passes_then Same Same (MayPut (account_with cycle a.beside)) a b b s.calm.passes (passes_none b)
      (λ x y e. inl e) (λ x y z e f. inl (f ∙ e));
  files = inl s.calm.files;
}

pub may_name : (cycle : ℕ) (a b c : ClosedState) → Still a b → (Calm b c ⊎ Names cycle b c) → MayPass cycle a c
may_name cycle a b c s (inl q) = may_still_calm
  where
    may_still_calm : MayPass cycle a c
    may_still_calm = record {
      passes = passes_then Same Same (MayPut (account_with cycle a.beside)) a b c s.calm.passes q.passes (λ x y e. inl e) (λ x y z e f. inl (f ∙ e));
      files = inl (q.files ∙ s.calm.files);
    }
may_name cycle a b c s (inr n) = record { passes = put_passes cycle a b c s n; files = inr (put_files cycle a b c s n) }

pub may_calm : (cycle : ℕ) (a c d : ClosedState) → MayPass cycle a c → Calm c d → MayPass cycle a d
may_calm cycle a c d p q = record {
  passes = then_same (MayPut (account_with cycle a.beside)) a c d p.passes q.passes;
  files = by p.files;
}
  where
    by : (c.files ≡ a.files) ⊎ (c.files ≡ with_listed (account_with cycle a.beside) a.files) → (d.files ≡ a.files) ⊎ (d.files ≡ with_listed (account_with cycle a.beside) a.files)
    by (inl e) = inl (q.files ∙ e)
    by (inr e) = inr (q.files ∙ e)
