-- What a crash may leave of closed reports in memory.
use Rattle.std.proofs.Common.{◌≡◌, ◌⊎◌, inl, inr, ⊎_elim, ℕ, zero, suc, Bool, true, false, Option, Some, None, Result, Ok, Err, OnOk, OnErr, IfOk, Vec, Global, ◌+◌, ◌≤◌, List, [], ◌∷◌, length, refl, sym, ap, subst, ◌∙◌, arith, length-append}
use Rattle.std.proofs.lemmas.{Bool.{eqb-true, false≢true}, List.{take-append-le}}
use Rattle.ocfl_accounts.specs.{Crash.{Step, After, Passes, MayPut, IsPut, Follows}, Kept.{Kept, Account, is_some, no_lists, with_account, with_list, with_lists}}
use Rattle.std.specs.{Prelude.{◌==◌, ◌||◌, cond}, List.{list_any}}
use Rattle.ocfl_compare.specs.declared.change.ChangeAt.{ChangeAt}
use Rattle.ocfl_accounts.specs.{Changes.{AreChanges, AreFound}, Sights.{IsOf, IsSight}, declared.{closed.Look.{Look}, pair.Pair.{Pair}}}
use Rattle.ocfl_accounts.specs.Memory.{Held, held_of, sight_in, Content, Folder, all_kept, content_and, content_with, kept_of, leaves_now, left_since}
use Rattle.ocfl_accounts.proofs.Rounds.{lists_more}

-- whether one of the accounts that were put is of this cycle
pub is_among : (accounts : List Account) (cycle : ℕ) → list_any (λ a. a.cycle == cycle) accounts ≡ is_some (with_lists accounts no_lists cycle)
is_among accounts cycle = from accounts no_lists
  where
    one : (b c : Bool) (list : List ℕ) (old : Option (List ℕ)) → (is_some old || (b || c)) ≡ (is_some (cond b (Some list) old) || c)
    one true c list None = refl
    one true c list (Some x) = refl
    one false c list None = refl
    one false c list (Some x) = refl

    from : (accounts : List Account) (lists : ℕ → Option (List ℕ)) → (is_some (lists cycle) || list_any (λ a. a.cycle == cycle) accounts) ≡ is_some (with_lists accounts lists cycle)
    from [] lists = none (is_some (lists cycle))
      where
        none : (b : Bool) → (b || false) ≡ b
        none true = refl
        none false = refl
    from (a ∷ accounts) lists = one (a.cycle == cycle) (list_any (λ b. b.cycle == cycle) accounts) a.list (lists cycle) ∙ from accounts (with_list a lists)

fewer_kept : (n : ℕ) (a : Account) (c : Content) → n ≤ length c.accounts → kept_of (content_with n (content_and a c)) ≡ kept_of (content_with n c)
fewer_kept n a c le = λ i. kept_of (record { held = c.held; listed = c.listed; accounts = take-append-le n c.accounts (a ∷ []) le i })

-- what is kept with one account more
pub kept_and : (a : Account) (c d : Content) → d ≡ content_and a c → kept_of d ≡ with_account a (kept_of c)
kept_and a c d put = ap kept_of put ∙ (λ i. record { sights = (kept_of c).sights; reports = (kept_of c).reports; listed = c.listed; lists = sym (lists_more c.accounts a no_lists) i })

abbrev moment : Folder → ℕ
moment f = length f.content.accounts

-- a call that puts no account
pub nothing_put : (step : Step) → ((k : Kept) → step k k) → (f g : Folder) → g.content ≡ f.content → Passes leaves_now moment left_since step f g
nothing_put step whatever f g same = record {
  later = omega (arith, ap (λ c. length c.accounts) same);
  now = λ k m. (kept_of f.content, refl, subst (step (kept_of f.content)) (sym (m ∙ ap kept_of same)) (whatever (kept_of f.content)));
  meanwhile = λ t k le m. inl (there t k same m);
  keeps = λ t k le m. there t k (sym same) m;
}
  where
    there : (t : ℕ) (k : Kept) {c d : Content} → c ≡ d
        → (n : ℕ) × ((t ≤ n) × ((n ≤ length c.accounts) × (k ≡ kept_of (content_with n c)))) → (n : ℕ) × ((t ≤ n) × ((n ≤ length d.accounts) × (k ≡ kept_of (content_with n d))))
    there t k e m = subst (λ c. (n : ℕ) × ((t ≤ n) × ((n ≤ length c.accounts) × (k ≡ kept_of (content_with n c))))) e m

at_most_or_next : (n m : ℕ) → n ≤ m + 1 → (n ≤ m) ⊎ (n ≡ m + 1)
at_most_or_next zero m le = inl (omega arith)
at_most_or_next (suc n) zero le = inr (omega (arith, le))
at_most_or_next (suc n) (suc m) le = ⊎_elim (λ l. inl (omega (arith, l))) (λ e. inr (omega (arith, e))) (at_most_or_next n m (omega (arith, le)))

-- a call that puts one
pub one_put : (a : Account) (f g : Folder) → g.content ≡ content_and a f.content → Passes leaves_now moment left_since (MayPut a) f g
one_put a f g put = record {
  later = omega (arith, longer);
  now = λ k m. (kept_of f.content, refl, inr (m ∙ kept_and a f.content g.content put));
  meanwhile = λ t k le m. from t k m (at_most_or_next m.0 (length f.content.accounts) (let most = m.1.1.0 in omega (arith, most, longer)));
  keeps = λ t k le m. (m.0, (m.1.0, (let most = m.1.1.0 in omega (arith, most, longer), m.1.1.1 ∙ sym (ap (λ c. kept_of (content_with m.0 c)) put ∙ fewer_kept m.0 a f.content m.1.1.0))));
}
  where
    longer : length g.content.accounts ≡ length f.content.accounts + 1
    longer = ap (λ c. length c.accounts) put ∙ length-append f.content.accounts (a ∷ [])

    from : (t : ℕ) (k : Kept) (m : left_since g t k) → (m.0 ≤ length f.content.accounts) ⊎ (m.0 ≡ length f.content.accounts + 1) → left_since f t k ⊎ After (MayPut a) (leaves_now f) k
    from t k m (inl le) = inl (m.0, (m.1.0, (le, m.1.1.1 ∙ ap (λ c. kept_of (content_with m.0 c)) put ∙ fewer_kept m.0 a f.content le)))
    from t k m (inr last) = inr (kept_of f.content, refl, inr (m.1.1.1 ∙ all_kept m.0 g.content (omega (arith, last, longer)) ∙ kept_and a f.content g.content put))

-- a call that puts one if it goes well, and else nothing, after one that put none
pub put_or_not : {T E : Type 0} (r : Result T E) (a : Account) (f0 : Folder) (c : Content) (g : Folder) → c ≡ f0.content → OnOk r (g.content ≡ content_and a c) → OnErr r (g.content ≡ c)
    → Passes leaves_now moment left_since (MayPut a) f0 g
put_or_not (Ok x) a f0 c g same put none = one_put a f0 g (put ∙ ap (content_and a) same)
put_or_not (Err e) a f0 c g same put none = nothing_put (MayPut a) (λ k. inl refl) f0 g (none ∙ same)

-- the cycle that was found for a number has it
has_number : (held : List Held) (cycle : ℕ) (h : Held) → held_of held cycle ≡ Some h → h.closed.cycle ≡ cycle
has_number [] cycle h e = cc
has_number (x ∷ held) cycle h e = by (x.closed.cycle == cycle) refl e (λ f. has_number held cycle h f)
  where
    by : (b : Bool) → (x.closed.cycle == cycle) ≡ b → cond b (Some x) (held_of held cycle) ≡ Some h → (held_of held cycle ≡ Some h → h.closed.cycle ≡ cycle) → h.closed.cycle ≡ cycle
    by true f g rest = ap (λ o. o.closed.cycle) (sym (same g)) ∙ eqb-true x.closed.cycle cycle f
      where
        same : Some x ≡ Some h → x ≡ h
        same k = cc
    by false f g rest = rest g

pub look_found : (held : List Held) (cycle : ℕ) (h : Held) (look : Look) → held_of held cycle ≡ Some h → IsSight h.closed.cycle (sight_in (Some h)) look → IsSight cycle (sight_in (held_of held cycle)) look
look_found held cycle h look e s = (ap sight_in e ∙ s.0, subst (λ n. IsOf n look) (has_number held cycle h e) s.1)

-- what is found of a cycle that lost no lines
pub found_or_lost : {E : Type 0} (k : Kept) (pair : Pair) (r : Result (Vec ChangeAt Global) E) → pair.closed.lost ≡ false → IfOk r (λ changes. AreFound k pair changes.items) → IfOk r (λ changes. AreChanges k pair changes.items)
found_or_lost k pair (Ok x) e found = (λ lost. absurd (false≢true (sym e ∙ lost)), λ kept. found)
found_or_lost k pair (Err why) e found = tt

-- what is kept then, what may be, and what a crash leaves
pub put_kept : {T E : Type 0} (r : Result T E) (a : Account) (f0 : Folder) (c : Content) (g : Folder) → c ≡ f0.content → OnOk r (g.content ≡ content_and a c) → OnOk r (kept_of g.content ≡ with_account a (kept_of f0.content))
put_kept (Ok x) a f0 c g same put = kept_and a f0.content g.content (put ∙ ap (content_and a) same)
put_kept (Err e) a f0 c g same put = tt

pub put_may : {T E : Type 0} (r : Result T E) (a : Account) (f0 : Folder) (c : Content) (g : Folder) → c ≡ f0.content → OnOk r (g.content ≡ content_and a c) → OnErr r (g.content ≡ c)
    → MayPut a (kept_of f0.content) (kept_of g.content)
put_may (Ok x) a f0 c g same put none = inr (kept_and a f0.content g.content (put ∙ ap (content_and a) same))
put_may (Err e) a f0 c g same put none = inl (ap kept_of (none ∙ same))

pub put_lasts : {T E : Type 0} (r : Result T E) (a : Account) (f0 : Folder) (c : Content) (g : Folder) → c ≡ f0.content → OnOk r (g.content ≡ content_and a c) → OnOk r (Follows (IsPut a) (leaves_now f0) (leaves_now g))
put_lasts (Ok x) a f0 c g same put = λ k m. (kept_of f0.content, refl, m ∙ kept_and a f0.content g.content (put ∙ ap (content_and a) same))
put_lasts (Err e) a f0 c g same put = tt
