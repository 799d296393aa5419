-- What the watch of a system in memory tells once it has noted more.
use Rattle.std.proofs.Common.{◌≡◌, ℕ, ◌+◌, ◌-◌, ◌<◌, ◌^◌, Bool, true, false, cond, List, [], ◌∷◌, ◌++◌, length, Some, None, sym, ◌∙◌, ap, subst, refl, arith, max, filter, length-append}
use Rattle.std.proofs.lemmas.List.Elements.{filter-append}
use Rattle.std.proofs.lemmas.Option.{same_Some, slice_get_within, none-some}
use Rattle.std.specs.Prelude.{slice_get}
use Rattle.ocfl_tree.specs.{Place.{Place}, Store.{failed_openings}}
use Rattle.ocfl_tree.specs.Calls.{opening, change_last, with_given, with_failure}
use Rattle.ocfl_tree.specs.declared.store.Opening.{Opening}
use Rattle.ocfl_tree.proofs.{Lists.{change_last-append}, Orders.{true_not_false}}
use Rattle.ocfl_folder.specs.Noted.{with_answer, with_read, with_room, last_failed, IsReading}
use Rattle.ocfl_folder.specs.declared.answer.Answer.TheVariants.{Listed, NotListed, Opened, NotOpened}
use Rattle.ocfl_folder.specs.declared.answer.ReadAnswer.TheVariants.{Gave, Failed}
use Rattle.ocfl_folder.proofs.Notes.{last_failed-push}
use Rattle.ocfl_memory.specs.MemWatch.{watched}
use Rattle.ocfl_memory.proofs.Seen.{last_is}

-- ---- how many openings failed

pub failed_push : (os : List Opening) (o : Opening) → failed_openings (os ++ o ∷ []) ≡ failed_openings os + failed_openings (o ∷ [])
failed_push os o = ap length (filter-append (λ o. o.failed) os (o ∷ [])) ∙ length-append (filter (λ o. o.failed) os) (filter (λ o. o.failed) (o ∷ []))

same_length : (b : Bool) (x y : Opening) (xs ys : List Opening) → length xs ≡ length ys → length (cond b (x ∷ xs) xs) ≡ length (cond b (y ∷ ys) ys)
same_length true x y xs ys h = omega (arith, h)
same_length false x y xs ys h = h

pub failed_given : (n : ℕ) (os : List Opening) → failed_openings (change_last (with_given n) os) ≡ failed_openings os
failed_given n [] = refl
failed_given n (x ∷ []) = same_length x.failed (with_given n x) x [] [] refl
failed_given n (x ∷ y ∷ os) = same_length x.failed x x (filter (λ o. o.failed) (change_last (with_given n) (y ∷ os))) (filter (λ o. o.failed) (y ∷ os)) (failed_given n (y ∷ os))

-- ---- notes

module _ (os : List Opening) (ls us : List Place) (l : ℕ) where
  pub listed : (ls' : List Place) (p : Place) → ls' ≡ ls ++ p ∷ [] → watched os ls' us l ≡ with_answer Listed p (watched os ls us l)
  listed ls' p added = ap (λ x. watched os x us l) added

  pub unlisted : (ls' us' : List Place) (p : Place) → ls' ≡ ls ++ p ∷ [] → us' ≡ us ++ p ∷ [] → watched os ls' us' l ≡ with_answer NotListed p (watched os ls us l)
  unlisted ls' us' p added noted =
      let more : failed_openings os + length (us ++ p ∷ []) ≡ failed_openings os + length us + 1 = omega (arith, length-append us (p ∷ [])) in
      rw (added, noted) (ap (λ n. record (watched os (ls ++ p ∷ []) (us ++ p ∷ []) l) { failures = n }) more)

  pub opened : (os' : List Opening) (p : Place) → os' ≡ os ++ opening p 0 false ∷ [] → watched os' ls us l ≡ with_answer Opened p (watched os ls us l)
  opened os' p added =
      let same : failed_openings (os ++ opening p 0 false ∷ []) + length us ≡ failed_openings os + length us = omega (arith, failed_push os (opening p 0 false)) in
      rw added (ap (λ n. record (watched (os ++ opening p 0 false ∷ []) ls us l) { failures = n }) same)

  pub unopened : (os' : List Opening) (p : Place) → os' ≡ os ++ opening p 0 true ∷ [] → watched os' ls us l ≡ with_answer NotOpened p (watched os ls us l)
  unopened os' p added =
      let more : failed_openings (os ++ opening p 0 true ∷ []) + length us ≡ failed_openings os + length us + 1 = omega (arith, failed_push os (opening p 0 true)) in
      rw added (ap (λ n. record (watched (os ++ opening p 0 true ∷ []) ls us l) { failures = n }) more)

  pub gave : (os' : List Opening) (n room : ℕ) → os' ≡ change_last (with_given n) os → watched os' ls us (max l room) ≡ with_read (Gave n) (with_room room (watched os ls us l))
  gave os' n room added =
      let same : failed_openings (change_last (with_given n) os) + length us ≡ failed_openings os + length us = ap (λ k. k + length us) (failed_given n os) in
      rw added (ap (λ k. record (watched (change_last (with_given n) os) ls us (max l room)) { failures = k }) same)

  pub failed : (os' : List Opening) (room : ℕ) → os' ≡ change_last with_failure os → failed_openings os' ≡ failed_openings os + 1
      → watched os' ls us (max l room) ≡ with_read Failed (with_room room (watched os ls us l))
  failed os' room added counted =
      let more : failed_openings os' + length us ≡ failed_openings os + length us + 1 = omega (arith, counted) in
      ap (λ k. record (watched os' ls us (max l room)) { failures = k }) more ∙ ap (λ x. record (watched x ls us (max l room)) { failures = failed_openings os + length us + 1 }) added

-- ---- the last opening

front_last : {X : Type 0} (x : X) (xs : List X) → (front : List X) × (y : X) × (x ∷ xs ≡ front ++ y ∷ [])
front_last x [] = ([], x, refl)
front_last x (y ∷ xs) = let e = front_last y xs in (x ∷ e.0, e.1, ap (λ ys. x ∷ ys) e.2)

-- a list whose last element was changed
pub changed_last : {X : Type 0} (f : X → X) (xs ys : List X) → 0 < length xs → ((front : List X) (last : X) → xs ≡ front ++ last ∷ [] → ys ≡ front ++ f last ∷ []) → ys ≡ change_last f xs
changed_last f [] ys some h = absurd (omega (arith, some))
changed_last f (x ∷ xs) ys some h =
    let e = front_last x xs in
    h e.0 e.1 e.2 ∙ sym (ap (change_last f) e.2 ∙ change_last-append f e.0 e.1)

module _ (os : List Opening) (x : Opening) (is : slice_get os (length os - 1) ≡ Some x) where
  pub some_last : 0 < length os
  some_last = omega (arith, slice_get_within os (length os - 1) x is)

  pub same_last : (front : List Opening) (last : Opening) → os ≡ front ++ last ∷ [] → x ≡ last
  same_last front last split = same_Some x last (sym is ∙ ap (λ xs. slice_get xs (length xs - 1)) split ∙ last_is front last)

  pub last_fits : (n : ℕ) → x.given + n < 2 ^ 64 → (front : List Opening) (last : Opening) → os ≡ front ++ last ∷ [] → last.given + n < 2 ^ 64
  last_fits n small front last split = subst (λ o. o.given + n < 2 ^ 64) (same_last front last split) small

  pub failure_counted : (ys : List Opening) → x.failed ≡ false → ((front : List Opening) (last : Opening) → os ≡ front ++ last ∷ [] → ys ≡ front ++ with_failure last ∷ [])
      → failed_openings ys ≡ failed_openings os + 1
  failure_counted ys right h = by os refl
    where
      by : (zs : List Opening) → os ≡ zs → failed_openings ys ≡ failed_openings os + 1
      by [] e = absurd (omega (arith, some_last, ap length e))
      by (z ∷ zs) e =
          let f = front_last z zs in
          let split : os ≡ f.0 ++ f.1 ∷ [] = e ∙ f.2 in
          let same : x ≡ f.1 = same_last f.0 f.1 split in
          let none : failed_openings (f.1 ∷ []) ≡ 0 = ap (λ b. length (cond b (f.1 ∷ []) [])) (ap (λ (o : Opening). o.failed) (sym same) ∙ right) in
          let before : failed_openings os ≡ failed_openings f.0 + failed_openings (f.1 ∷ []) = ap failed_openings split ∙ failed_push f.0 f.1 in
          let after : failed_openings ys ≡ failed_openings f.0 + 1 = ap failed_openings (h f.0 f.1 split) ∙ failed_push f.0 (with_failure f.1) in
          omega (arith, none, before, after)

  pub not_reading : x.failed ≡ true → IsReading os → ⊥
  not_reading wrong reading = by os refl
    where
      by : (zs : List Opening) → os ≡ zs → ⊥
      by [] e = omega (arith, some_last, ap length e)
      by (z ∷ zs) e =
          let f = front_last z zs in
          let split : os ≡ f.0 ++ f.1 ∷ [] = e ∙ f.2 in
          let right : f.1.failed ≡ false = same_Some f.1.failed false (sym (last_failed-push f.0 f.1) ∙ ap last_failed (sym split) ∙ reading) in
          let failed' : f.1.failed ≡ true = ap (λ (o : Opening). o.failed) (sym (same_last f.0 f.1 split)) ∙ wrong in
          true_not_false (sym failed' ∙ right)

pub none_last : (os : List Opening) → slice_get os (length os - 1) ≡ None → os ≡ []
none_last [] h = refl
none_last (x ∷ xs) h =
    let f = front_last x xs in
    absurd (none-some f.1 (sym h ∙ ap (λ ys. slice_get ys (length ys - 1)) f.2 ∙ last_is f.0 f.1))
