-- What each refusal means.
use Rattle.std.proofs.Common.{◌≡◌, ◌≢◌, ◌⊎◌, ◌+◌, ◌<◌, ◌∙◌, [], inl, inr, Bool, false, true, IsTrue, Some, None, ℕ, length, subst, arith}
use Rattle.ocfl_tree.specs.{Listing.{entries_in}, Place.{Place, Text}, Store.{Store, IfTold}}
use Rattle.ocfl_identity.specs.Identity.{declarations_among, declared_by}
use Rattle.ocfl_report.specs.declared.further.Further.{Further}
use Rattle.ocfl_cursor.specs.declared.refused.Refused.{Refused}
use Rattle.ocfl_state.specs.{Checkpoint.{Checkpoint}, CheckpointRefusal.{RefusedRightly}, Content.{Content, is_closed}}
use Rattle.ocfl_night.specs.{Older.{IsOlder}, Promises.{IfThere}}
use Rattle.ocfl_night.specs.Refusing.{IsRefused, no_root, in_folder, none, unread, not_own, outdated}
use Rattle.ocfl_terms.specs.declared.plan.Plan.{Plan}
use Rattle.ocfl_night.specs.declared.site.Site.{Site}
use Rattle.ocfl_terms.specs.declared.refusal.Refusal.TheVariants as refusal
use Rattle.ocfl_night.proofs.Foreigners.{at_once}

module _ {tells : Bool} {s : Store} {site : Site} {plan : Plan} {c : Content} where
  pub no_checkpoint_is : IsRefused tells s site plan c refusal.NoCheckpoint → (c.checkpoint ≡ None) × (plan.create ≡ false)
  no_checkpoint_is (no_root is bare) = cc is
  no_checkpoint_is (in_folder id tells (none empty why)) = (empty, why)
  no_checkpoint_is (in_folder id tells (unread h)) = absurd h.1.1
  no_checkpoint_is (in_folder id tells (not_own k at (inl why))) = absurd why
  no_checkpoint_is (in_folder id tells (not_own k at (inr why))) = absurd why.1.1
  no_checkpoint_is (in_folder id tells (outdated k at own why)) = absurd why

  pub has_reports_is : IsRefused tells s site plan c refusal.HasReports → (c.checkpoint ≡ None) × (plan.create ≡ true) × ((c.report ≢ []) ⊎ IsTrue (is_closed c.closed 1))
  has_reports_is (no_root is bare) = cc is
  has_reports_is (in_folder id tells (none empty why)) = (empty, why.0, why.1)
  has_reports_is (in_folder id tells (unread h)) = absurd h.1.1
  has_reports_is (in_folder id tells (not_own k at (inl why))) = absurd why
  has_reports_is (in_folder id tells (not_own k at (inr why))) = absurd why.1.1
  has_reports_is (in_folder id tells (outdated k at own why)) = absurd why

  pub unread_is : (why : Refused) → IsRefused tells s site plan c (refusal.Unread why) → (bytes : Text) → c.checkpoint ≡ Some bytes → RefusedRightly bytes why
  unread_is why (no_root is bare) bytes there = cc is
  unread_is why (in_folder id tells (none empty by)) bytes there = absurd by
  unread_is why (in_folder id tells (unread h)) bytes there =
      let same : h.0 ≡ bytes = cc (h.1.0, there) in
      subst (λ (t : Text). RefusedRightly t why) same h.1.1.1
  unread_is why (in_folder id tells (not_own k at (inl by))) bytes there = absurd by
  unread_is why (in_folder id tells (not_own k at (inr by))) bytes there = absurd by.1.1
  unread_is why (in_folder id tells (outdated k at own by)) bytes there = absurd by

  pub older_is : (cycle : ℕ) → IsRefused tells s site plan c (refusal.Older cycle) → IfThere c (λ k. IsOlder k c cycle)
  older_is cycle (no_root is bare) k at = cc is
  older_is cycle (in_folder id tells (none empty by)) k at = absurd by
  older_is cycle (in_folder id tells (unread h)) k at = absurd h.1.1
  older_is cycle (in_folder id tells (not_own l there (inl by))) k at = absurd by
  older_is cycle (in_folder id tells (not_own l there (inr by))) k at = absurd by.1.1
  older_is cycle (in_folder id tells (outdated l there own by)) k at = subst (λ (x : Checkpoint). IsOlder x c cycle) (at_once there at) by

  pub no_root_is : IsRefused tells s site plan c refusal.NoRoot → IfTold tells s (λ root. declarations_among (entries_in root []) ≡ [])
  no_root_is (no_root is bare) = bare
  no_root_is (in_folder id tells (none empty by)) = absurd by
  no_root_is (in_folder id tells (unread h)) = absurd h.1.1
  no_root_is (in_folder id tells (not_own l there (inl by))) = absurd by
  no_root_is (in_folder id tells (not_own l there (inr by))) = absurd by.1.1
  no_root_is (in_folder id tells (outdated l there own by)) = absurd by

  pub other_root_is : (path : Place) → IsRefused tells s site plan c (refusal.OtherRoot path) → IfThere c (λ k. (k.root.path ≡ path) × (path ≢ site.path))
  other_root_is path (no_root is bare) k at = cc is
  other_root_is path (in_folder id tells (none empty by)) k at = absurd by
  other_root_is path (in_folder id tells (unread h)) k at = absurd h.1.1
  other_root_is path (in_folder id tells (not_own l there (inl by))) k at = subst (λ (x : Checkpoint). (x.root.path ≡ path) × (path ≢ site.path)) (at_once there at) by
  other_root_is path (in_folder id tells (not_own l there (inr by))) k at = absurd by.1.1
  other_root_is path (in_folder id tells (outdated l there own by)) k at = absurd by

  pub other_part_is : IsRefused tells s site plan c refusal.OtherPart → IfThere c (λ k. (k.root.path ≡ site.path) × (k.part ≢ site.ends))
  other_part_is (no_root is bare) k at = cc is
  other_part_is (in_folder id tells (none empty by)) k at = absurd by
  other_part_is (in_folder id tells (unread h)) k at = absurd h.1.1
  other_part_is (in_folder id tells (not_own l there (inl by))) k at = subst (λ (x : Checkpoint). (x.root.path ≡ site.path) × (x.part ≢ site.ends)) (at_once there at) by
  other_part_is (in_folder id tells (not_own l there (inr by))) k at = absurd by.1.1
  other_part_is (in_folder id tells (outdated l there own by)) k at = absurd by

  pub other_audit_is : (further : Further) → IsRefused tells s site plan c (refusal.OtherAudit further)
      → IfThere c (λ k. (k.root.path ≡ site.path) × (k.part ≡ site.ends) × (k.cursor.further ≡ further) × (further ≢ site.further))
  other_audit_is further (no_root is bare) k at = cc is
  other_audit_is further (in_folder id tells (none empty by)) k at = absurd by
  other_audit_is further (in_folder id tells (unread h)) k at = absurd h.1.1
  other_audit_is further (in_folder id tells (not_own l there (inl by))) k at =
      subst (λ (x : Checkpoint). (x.root.path ≡ site.path) × (x.part ≡ site.ends) × (x.cursor.further ≡ further) × (further ≢ site.further)) (at_once there at) by
  other_audit_is further (in_folder id tells (not_own l there (inr by))) k at = absurd by.1.1
  other_audit_is further (in_folder id tells (outdated l there own by)) k at = absurd by

  pub other_declaration_is : IsRefused tells s site plan c refusal.OtherDeclaration → IfThere c (λ k. (plan.force_root ≡ false) × IfTold tells s (λ root. declared_by root (declarations_among (entries_in root [])) ≢ Some k.root.declared))
  other_declaration_is (no_root is bare) k at = cc is
  other_declaration_is (in_folder id tells (none empty by)) k at = absurd by
  other_declaration_is (in_folder id tells (unread h)) k at = absurd h.1.1
  other_declaration_is (in_folder id tells (not_own l there (inl by))) k at = absurd by
  other_declaration_is (in_folder id of (not_own l there (inr by))) k at =
      (by.1.0, λ t root over is. let e = of t root over in by.1.1 (cc (at_once there at, e.declared, e.declarations, is)))
  other_declaration_is (in_folder id tells (outdated l there own by)) k at = absurd by

  pub names_gone_is : (gone before : ℕ) → IsRefused tells s site plan c (refusal.NamesGone gone before)
      → IfThere c (λ k. (plan.force_root ≡ false) × (before ≡ k.names.count) × IfTold tells s (λ root. (gone + length (entries_in root []) ≡ before) × (length (entries_in root []) + length (entries_in root []) < before)))
  names_gone_is gone before (no_root is bare) k at = cc is
  names_gone_is gone before (in_folder id tells (none empty by)) k at = absurd by
  names_gone_is gone before (in_folder id tells (unread h)) k at = absurd h.1.1
  names_gone_is gone before (in_folder id tells (not_own l there (inl by))) k at = absurd by
  names_gone_is gone before (in_folder id of (not_own l there (inr by))) k at =
      let was : l.names.count ≡ k.names.count = cc (at_once there at) in (
        by.1.0,
        by.1.1.1.1.0 ∙ was,
        λ t root over. let e = of t root over in (omega (arith, by.1.1.1.0, by.1.1.1.1.0, by.1.1.1.1.1, e.count), omega (arith, by.1.1.1.0, by.1.1.1.1.0, e.count)),
      )
  names_gone_is gone before (in_folder id tells (outdated l there own by)) k at = absurd by
