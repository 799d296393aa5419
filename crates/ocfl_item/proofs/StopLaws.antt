-- What stopped, and what did not fail.
use Rattle.std.proofs.Common.{◌≡◌, ◌+◌, ◌⊎◌, inl, inr, ◌&&◌, ℕ, Bool, true, false, cond, List, [], ◌∷◌, ◌++◌, length, filter, refl, ap, ◌∙◌, Some}
use Rattle.std.proofs.lemmas.Bool.{false≢true}
use Rattle.ocfl_tree.specs.{Place.{Place}, Ascending.{IsAmong}, StorageRoot.{StorageRoot}}
use Rattle.ocfl_tree.specs.{Store.{Store}, declared.store.Opening.{Opening}}
use Rattle.ocfl_report.specs.declared.further.Further.{Further}
use Rattle.ocfl_rules.specs.Inventories.{is_hashed}
use Rattle.ocfl_rules.specs.Trail.{is_meta, unread_of}
use Rattle.ocfl_item.specs.Auditing.{Audits, Fails, FailedAt, in_listing, in_opening}
use Rattle.ocfl_item.proofs.AuditingLaws.{audits_well}

none_passes : (test : Opening → Bool) (os : List Opening) → filter test os ≡ [] → (o : Opening) → IsAmong os o → test o ≡ false
none_passes test [] e o there = absurd there
none_passes test (x ∷ os) e o there = by (test x) refl e (λ k later. none_passes test os k o later) there
  where
    by : (b : Bool) → test x ≡ b → cond b (x ∷ filter test os) (filter test os) ≡ [] → (filter test os ≡ [] → IsAmong os o → test o ≡ false) → IsAmong (x ∷ os) o → test o ≡ false
    by true g k more h = absurd cc
    by false g k more (inl same) = ap test same ∙ g
    by false g k more (inr later) = more k later

second_false : (a b : Bool) → a ≡ true → (a && b) ≡ false → b ≡ false
second_false true b e k = k
second_false false b e k = absurd (false≢true e)

module _ (further : Further) (root : StorageRoot) (s t : Store) (places listed heads : List Place) (trail : List Opening) where
  no_metadata : filter (λ o. o.failed && is_meta further root o.place) trail ≡ [] → (o : Opening) → IsAmong trail o → o.failed ≡ true → is_meta further root o.place ≡ false
  no_metadata e o there failed = second_false o.failed (is_meta further root o.place) failed (none_passes (λ x. x.failed && is_meta further root x.place) trail e o there)

  pub only_content_failed : Audits further root s t places listed heads trail → (s.tree ≡ root)
      × ((t.tree ≡ root) × ((t.failed_listings ≡ s.failed_listings) × ((o : Opening) → IsAmong trail o → o.failed ≡ true → is_meta further root o.place ≡ false)))
  only_content_failed h = (h.over, (h.did.tree ∙ h.over, (audits_well further root s t places listed heads trail h, no_metadata h.read)))

  pub no_hashed_file_stops : (q : Place) → Fails further root s t places listed heads trail (Some q) → (is_hashed further root q ≡ false) × (t.failures ≡ s.failures + (length (unread_of further root trail) + 1))
  no_hashed_file_stops q h = ((h.store q refl).0, h.did.failures_are)

  pub last_call_failed : (q : Place) → Fails further root s t places listed heads trail (Some q)
      → ((before : List Place) × ((listed ≡ before ++ q ∷ [])
      × ((t.failed_listings ≡ s.failed_listings ++ q ∷ []) × ((o : Opening) → IsAmong trail o → o.failed ≡ true → is_meta further root o.place ≡ false))))
      ⊎ ((before : List Opening) × ((given : ℕ) × ((trail ≡ before ++ record { place = q; given = given; failed = true } ∷ []) × (t.failed_listings ≡ s.failed_listings))))
  last_call_failed q h = by (h.store q refl).1
    where
      by : FailedAt further root s t listed trail q
          → ((before : List Place) × ((listed ≡ before ++ q ∷ [])
          × ((t.failed_listings ≡ s.failed_listings ++ q ∷ []) × ((o : Opening) → IsAmong trail o → o.failed ≡ true → is_meta further root o.place ≡ false))))
          ⊎ ((before : List Opening) × ((given : ℕ) × ((trail ≡ before ++ record { place = q; given = given; failed = true } ∷ []) × (t.failed_listings ≡ s.failed_listings))))
      by (in_listing before e failed read) = inl (before, (e, (failed, no_metadata read)))
      by (in_opening before given e none) = inr (before, (given, (e, none)))
