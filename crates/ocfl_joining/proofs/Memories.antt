-- What a crash may leave of joined reports in memory.
use Rattle.std.proofs.Common.{◌≡◌, ◌⊎◌, inl, inr, ⊎_elim, ℕ, zero, suc, ◌+◌, ◌≤◌, List, [], ◌∷◌, ◌++◌, length, refl, sym, ap, subst, ◌∙◌, arith, length-append, take}
use Rattle.std.specs.Prelude.{map}
use Rattle.std.proofs.lemmas.List.{map-append, take_all, take-append-le}
use Rattle.ocfl_tree.specs.Place.{Text}
use Rattle.ocfl_joining.specs.{Crash.{Step, After, Passes, Same, MayPut}, Reports.{Put}, Memory.{leaves_now, left_since, put_of, seen_in}}
use Rattle.ocfl_joining.specs.declared.memory.{MemoryJoined.{MemoryJoined}, MemoryReports.{MemoryReports}}

abbrev moment : MemoryReports → ℕ
moment m = length (seen_in m).put

-- a call that puts nothing
pub nothing_put_by : (step : Step) → ((ps : List Put) → step ps ps) → (m n : MemoryReports) → (seen_in n).put ≡ (seen_in m).put → Passes leaves_now moment left_since step m n
nothing_put_by step whatever m n same = record {
  later = omega (arith, ap (λ (ps : List Put). length ps) same);
  now = λ k l. ((seen_in m).put, refl, subst (step (seen_in m).put) (sym (l ∙ same)) (whatever (seen_in m).put));
  meanwhile = λ t k le l. inl (there t k same l);
  keeps = λ t k le l. there t k (sym same) l;
}
  where
    there : (t : ℕ) (k : List Put) {c d : List Put} → c ≡ d → (n : ℕ) × ((t ≤ n) × ((n ≤ length c) × (k ≡ take n c))) → (n : ℕ) × ((t ≤ n) × ((n ≤ length d) × (k ≡ take n d)))
    there t k e l = subst (λ c. (n : ℕ) × ((t ≤ n) × ((n ≤ length c) × (k ≡ take n c)))) e l

pub same_passes : (m n : MemoryReports) → (seen_in n).put ≡ (seen_in m).put → Passes leaves_now moment left_since Same m n
same_passes m n same = nothing_put_by Same (λ ps. refl) m n same

pub none_passes : (p : Put) (m n : MemoryReports) → (seen_in n).put ≡ (seen_in m).put → Passes leaves_now moment left_since (MayPut p) m n
none_passes p m n same = nothing_put_by (MayPut p) (λ ps. inl refl) m n same

at_most_or_next : (n m : ℕ) → n ≤ m + 1 → (n ≤ m) ⊎ (n ≡ m + 1)
at_most_or_next zero m le = inl (omega arith)
at_most_or_next (suc n) zero le = inr (omega (arith, le))
at_most_or_next (suc n) (suc m) le = ⊎_elim (λ l. inl (omega (arith, l))) (λ e. inr (omega (arith, e))) (at_most_or_next n m (omega (arith, le)))

pub map_more : (old new : List MemoryJoined) (j : MemoryJoined) (bytes : Text) → new ≡ old ++ j ∷ [] → j.bytes.items ≡ bytes → map put_of new ≡ map put_of old ++ record { whole = j.whole; bytes = bytes } ∷ []
map_more old new j bytes e f = ap (map put_of) e ∙ map-append put_of old (j ∷ []) ∙ (λ i. map put_of old ++ record { whole = j.whole; bytes = f i } ∷ [])

-- a call that puts one
pub one_passes : (p : Put) (m n : MemoryReports) → (seen_in n).put ≡ (seen_in m).put ++ p ∷ [] → Passes leaves_now moment left_since (MayPut p) m n
one_passes p m n put = record {
  later = omega (arith, longer);
  now = λ k l. ((seen_in m).put, refl, inr (l ∙ put));
  meanwhile = λ t k le l. from t k l (at_most_or_next l.0 (length (seen_in m).put) (let most = l.1.1.0 in omega (arith, most, longer)));
  keeps = λ t k le l. (l.0, (l.1.0, (let most = l.1.1.0 in omega (arith, most, longer), l.1.1.1 ∙ sym (ap (take l.0) put ∙ take-append-le l.0 (seen_in m).put (p ∷ []) l.1.1.0))));
}
  where
    longer : length (seen_in n).put ≡ length (seen_in m).put + 1
    longer = ap (λ (ps : List Put). length ps) put ∙ length-append (seen_in m).put (p ∷ [])

    from : (t : ℕ) (k : List Put) (l : left_since n t k) → (l.0 ≤ length (seen_in m).put) ⊎ (l.0 ≡ length (seen_in m).put + 1) → left_since m t k ⊎ After (MayPut p) (leaves_now m) k
    from t k l (inl le) = inl (l.0, (l.1.0, (le, l.1.1.1 ∙ ap (take l.0) put ∙ take-append-le l.0 (seen_in m).put (p ∷ []) le)))
    from t k l (inr last) = inr ((seen_in m).put, refl, inr (l.1.1.1 ∙ take_all l.0 (seen_in n).put (omega (arith, last, longer)) ∙ put))
