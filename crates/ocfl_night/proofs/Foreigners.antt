-- Whose a checkpoint is.
use Rattle.std.proofs.Common.{◌≡◌, ◌≢◌, [], inl, inr, Bool, false, Err, Option, None, Result, Some, refl, sym, ◌∙◌, ap, subst, arith}
use Rattle.ocfl_tree.specs.{Listing.{entries_in}, Place.{Text}, StorageRoot.{StorageRoot}, Store.{Store, IfTold}}
use Rattle.ocfl_identity.specs.Identity.{IsIdentityOf, declarations_among, declared_by}
use Rattle.ocfl_identity.specs.declared.identity.{Identity.{Identity}, NoIdentity.{NoIdentity}}
use Rattle.ocfl_identity.specs.declared.identity.NoIdentity.TheVariants as none
use Rattle.ocfl_state.specs.{Checkpoint.{Checkpoint, IsCheckpointText}, Content.{Content}}
use Rattle.ocfl_state.proofs.CheckpointTexts.{text_determines}
use Rattle.ocfl_state.specs.declared.checkpoint_parts.{ReportMark.{ReportMark}, RootIdentity.{RootIdentity}}
use Rattle.ocfl_cursor.specs.{Cursor.{Cursor}, declared.limits.Limits.{Limits}}
use Rattle.ocfl_night.proofs.Chains.{begun_checks}
use Rattle.ocfl_scrub.specs.declared.running.RunEnd.{RunEnd}
use Rattle.ocfl_night.specs.Site.{IsAlike, IsForeign, IsOfSite, IsOfStore, IsOther, IsOtherThan, IsOwn, IsSameRoot, first_checkpoint, with_root}
use Rattle.ocfl_night.specs.Steps.{IsTakenUp, fitted}
use Rattle.ocfl_terms.specs.declared.made.Made.{Made}
use Rattle.ocfl_night.specs.{Ending.{IsNextBy, IsSlice, KeepsTo, unopened_by}, Older.{IfOlder}, Refusing.{IfForeign, IsBarred, IsRefused, another, no_root, older, other_root, undeclared}}
use Rattle.ocfl_night.specs.declared.not_opened.NotOpened.TheVariants.{Refused}
use Rattle.ocfl_terms.specs.declared.refusal.Refusal.{Refusal}
use Rattle.ocfl_night.specs.{Sound.{IsAt}, declared.site.Site.{Site}}
use Rattle.ocfl_terms.specs.declared.plan.Plan.{Plan}

-- a folder is at one checkpoint
pub at_once : {c : Content} {k found : Checkpoint} → IsAt found c → IsAt k c → found ≡ k
at_once {k = k} {found} a b =
    let same : a.bytes ≡ b.bytes = cc (a.is, b.is) in
    text_determines b.bytes found k (subst (λ (t : Text). IsCheckpointText t found) same a.text) b.text

not_other : {id : Identity} {k : Checkpoint} → IsSameRoot id k → IsOther id k → ⊥
not_other same (inl other) = other same.declared
not_other same (inr gone) = omega (arith, same.names, gone)

-- one that was taken is not foreign
not_foreign : {site : Site} {id : Identity} {force : Bool} {k : Checkpoint} → IsOwn site k → (force ≡ false → IsSameRoot id k) → IsForeign site id force k → ⊥
not_foreign own same (inl (inl path)) = path own.path
not_foreign own same (inl (inr (inl part))) = part own.part
not_foreign own same (inl (inr (inr checks))) = checks own.checks
not_foreign own same (inr other) = not_other (same other.0) other.1

pub own_at : {site : Site} {id : Identity} {force : Bool} {c : Content} {k found : Checkpoint} → IsAt found c → IsAt k c → IsOwn site found → (force ≡ false → IsSameRoot id found) → IsForeign site id force k → ⊥
own_at {site} {id} {force} a b own same foreign = not_foreign own same (subst (λ (x : Checkpoint). IsForeign site id force x) (sym (at_once a b)) foreign)

-- ---- whether two are alike

pub alike_self : (k : Checkpoint) → IsAlike k k
alike_self k = record { root = refl; names = refl; part = refl; checks = refl }

pub alike_on : {j k l : Checkpoint} → IsAlike j k → IsAlike k l → IsAlike j l
alike_on a b = record { root = b.root ∙ a.root; names = b.names ∙ a.names; part = b.part ∙ a.part; checks = b.checks ∙ a.checks }

-- what is made of one that is alike
pub alike_as : (k : Checkpoint) {l m : Checkpoint} → l ≡ m → IsAlike k m → IsAlike k l
alike_as k same alike = subst (IsAlike k) (sym same) alike

-- one after a run, and after a slice
pub next_alike : {k l : Checkpoint} {limits : Limits} {ran : RunEnd} → KeepsTo k.cursor limits ran → IsNextBy k ran l → IsAlike k l
next_alike {k} keeps n = record {
  root = ap (λ (x : Checkpoint). x.root) n.1.rest_is;
  names = ap (λ (x : Checkpoint). x.names) n.1.rest_is;
  part = ap (λ (x : Checkpoint). x.part) n.1.rest_is;
  checks = ap (λ (x : Cursor). x.further) (n.1.cursor_is ∙ keeps.cursor) ∙ begun_checks k.cursor;
}

pub made_alike : {k : Checkpoint} {limits : Limits} {made : Made} → IsSlice k limits made → IsAlike k made.checkpoint
made_alike {k} (inl un) = alike_as k un.checkpoint (alike_self k)
made_alike (inr r) = next_alike r.1.0 r.1.2

-- one like that of a site
pub of_site : {site : Site} {id : Identity} {k l : Checkpoint} → IsAlike k l → IsOfSite site id k → IsOfSite site id l
of_site same of = record {
  own = record { path = ap (λ (r : RootIdentity). r.path) same.root ∙ of.own.path; part = same.part ∙ of.own.part; checks = same.checks ∙ of.own.checks };
  declared = ap (λ (r : RootIdentity). r.declared) same.root ∙ of.declared;
}

pub of_store : {told : Bool} {s : Store} {site : Site} {k l : Checkpoint} → IsAlike k l → IsOfStore told s site k → IsOfStore told s site l
of_store same of = record {
  own = record { path = ap (λ (r : RootIdentity). r.path) same.root ∙ of.own.path; part = same.part ∙ of.own.part; checks = same.checks ∙ of.own.checks };
  declared = λ tells root over. of.declared tells root over ∙ ap (λ (r : RootIdentity). Some r.declared) (sym same.root);
}

-- of a site with the identity of the root of a store
pub site_of : {told : Bool} {s : Store} {site : Site} {id : Identity} {k : Checkpoint} → IfTold told s (λ root. IsIdentityOf root id) → IsOfSite site id k → IsOfStore told s site k
site_of is of = record {
  own = of.own;
  declared = λ tells root over. let at = is tells root over in ap (declared_by root) (sym at.declarations) ∙ at.declared ∙ ap Some (sym of.declared);
}

-- what is taken up of one
pub taken_own : {site : Site} {id : Identity} {k l : Checkpoint} → IsOwn site k → IsTakenUp id k l → IsOfSite site id l
taken_own {site} {id} {k} {l} own (there, is) = by there is
  where
    by : (o : Option ReportMark) → l ≡ with_root id (fitted o k) → IsOfSite site id l
    by None is = record { own = record { path = ap (λ (x : Checkpoint). x.root.path) is ∙ own.path; part = ap (λ (x : Checkpoint). x.part) is ∙ own.part; checks = ap (λ (x : Checkpoint). x.cursor.further) is ∙ own.checks }; declared = ap (λ (x : Checkpoint). x.root.declared) is }
    by (Some mark) is = record { own = record { path = ap (λ (x : Checkpoint). x.root.path) is ∙ own.path; part = ap (λ (x : Checkpoint). x.part) is ∙ own.part; checks = ap (λ (x : Checkpoint). x.cursor.further) is ∙ own.checks }; declared = ap (λ (x : Checkpoint). x.root.declared) is }

-- the first one
pub first_own : (site : Site) (id : Identity) {k : Checkpoint} → k ≡ first_checkpoint site id → IsOfSite site id k
first_own site id is = subst (IsOfSite site id) (sym is) (record { own = record { path = refl; part = refl; checks = refl }; declared = refl })

-- of a storage root, by its identity
pub other_by : (root : StorageRoot) (id : Identity) (k : Checkpoint) → IsIdentityOf root id → IsOtherThan root k → IsOther id k
other_by root id k is (inl other) =
    inl (λ same. other (ap (declared_by root) (sym is.declarations) ∙ is.declared ∙ ap Some (sym same)))
other_by root id k is (inr gone) = inr (omega (arith, gone, is.count))

-- ---- of a night

-- a root that is looked at declares itself, so what bars a night is a checkpoint
pub barred_by : {told : Bool} {s : Store} {site : Site} {plan : Plan} {c : Content} {P : Type 0} (id : Identity) → IfTold told s (λ root. IsIdentityOf root id) → id.declarations.items ≢ [] → IfForeign site id plan c P → IfOlder c P → IsBarred told s site plan c → P
barred_by id is declares of_foreign of_older (another k at others) = of_foreign k at (inl others)
barred_by id is declares of_foreign of_older (other_root tells root over k at other force) = of_foreign k at (inr (force, other_by root id k (is tells root over) other))
barred_by id is declares of_foreign of_older (older k at n below by) = of_older k at n below by
barred_by id is declares of_foreign of_older (undeclared tells root over none) = absurd (declares ((is tells root over).declarations ∙ none))

-- one that is not begun since its root declares nothing
pub no_root_by : {told : Bool} {s : Store} {site : Site} {plan : Plan} {c : Content} {why : Refusal} (r : Result Identity NoIdentity) (e : NoIdentity) → r ≡ Err e → unopened_by e ≡ Refused why
    → IfTold told s (λ root. r ≡ Err none.Undeclared → declarations_among (entries_in root []) ≡ []) → IsRefused told s site plan c why
no_root_by r none.Undeclared was is bare = no_root (cc is) (λ tells root over. bare tells root over was)
no_root_by r (none.Unread p) was is bare = absurd (cc is)
no_root_by r none.Memory was is bare = absurd (cc is)
