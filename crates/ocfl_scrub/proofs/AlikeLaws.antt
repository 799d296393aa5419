-- What calls did to one store, done to another.
use Rattle.std.proofs.Common.{◌≡◌, ℕ, ◌+◌, List, [], ◌∷◌, ◌++◌, refl, sym, ◌∙◌, ap, Bool, Some, None, Option, append-nil, append_assoc, arith, length}
use Rattle.std.proofs.lemmas.List.{append_cancel_left}
use Rattle.ocfl_tree.specs.{Place.{Place, Text}, StorageRoot.{StorageRoot}, Store.{Store, Did}}
use Rattle.ocfl_tree.specs.declared.store.Opening.{Opening}
use Rattle.ocfl_rules.specs.Trail.{unread_of}
use Rattle.ocfl_item.specs.Looking.{failures_at}
use Rattle.ocfl_item.specs.Auditing.{Audits, Fails, FailedAt, in_listing, in_opening}
use Rattle.ocfl_item.specs.{declared.pending.Pending.{Pending}}
use Rattle.ocfl_item.specs.declared.fault.Fault.{Fault}
use Rattle.ocfl_report.specs.declared.further.Further.{Further}
use Rattle.ocfl_scrub.specs.Types.{ReportStop}
use Rattle.ocfl_walk.specs.{WalkCalls.{FailsOut, Walks, WalksOut}, Walks.{GivesOut}}
use Rattle.ocfl_walk.specs.{declared.end.End.{End}, declared.walk.Walk.{Walk}}
use Rattle.ocfl_scrub.specs.{Alike.{Added, IsAlike, with_added}, Call.{call_of}}
use Rattle.ocfl_scrub.specs.Taking.{Misses, Takes}

-- ---- nothing, and one call after the other

abbrev nothing_of : Store → Added
nothing_of s = record { openings = []; listings = []; failed = []; failures = 0; rest = s.rest; largest = s.largest }

nothing_added : (s t : Store) → s.rest ≡ t.rest → s.largest ≡ t.largest → s ≡ with_added (nothing_of t) s
nothing_added s t rest largest = λ i. record {
  tree = s.tree;
  rest = rest i;
  openings = sym (append-nil s.openings) i;
  listings = sym (append-nil s.listings) i;
  failed_listings = sym (append-nil s.failed_listings) i;
  failures = none i;
  largest = largest i;
}
  where
    none : s.failures ≡ s.failures + 0
    none = omega arith

pub alike_start : (s a : Store) → a.rest ≡ s.rest → a.largest ≡ s.largest → IsAlike s s a a
alike_start s a rest largest = record { added = nothing_of s; here = nothing_added s s refl refl; there = nothing_added a s rest largest }

abbrev both_of : Added → Added → Added
both_of d e = record {
  openings = d.openings ++ e.openings;
  listings = d.listings ++ e.listings;
  failed = d.failed ++ e.failed;
  failures = d.failures + e.failures;
  rest = e.rest;
  largest = e.largest;
}

both_added : (s : Store) (d e : Added) → with_added e (with_added d s) ≡ with_added (both_of d e) s
both_added s d e = λ i. record {
  tree = s.tree;
  rest = e.rest;
  openings = append_assoc s.openings d.openings e.openings i;
  listings = append_assoc s.listings d.listings e.listings i;
  failed_listings = append_assoc s.failed_listings d.failed e.failed i;
  failures = sum i;
  largest = e.largest;
}
  where
    sum : (s.failures + d.failures) + e.failures ≡ s.failures + (d.failures + e.failures)
    sum = omega arith

module _ {s t u a b c : Store} where
  pub alike_then : IsAlike s t a b → IsAlike t u b c → IsAlike s u a c
  alike_then h k = record {
    added = both_of h.added k.added;
    here = k.here ∙ ap (with_added k.added) h.here ∙ both_added s h.added k.added;
    there = k.there ∙ ap (with_added k.added) h.there ∙ both_added a h.added k.added;
  }

-- the same done to the same
pub alike_same : {s t b : Store} → IsAlike s t s b → b ≡ t
alike_same h = h.there ∙ sym h.here

pub alike_tree : {s t a b : Store} → IsAlike s t a b → t.tree ≡ s.tree
alike_tree h = ap (λ (x : Store). x.tree) h.here

pub alike_there : {s t a b : Store} → IsAlike s t a b → b.tree ≡ a.tree
alike_there h = ap (λ (x : Store). x.tree) h.there

-- ---- what was done

module _ (s t a : Store) (os : List Opening) (ls : List Place) (f : ℕ) (h : Did s t os ls f) where
  abbrev added_with : Option Text → ℕ → Added
  added_with rest largest = record { openings = os; listings = ls; failed = h.failed; failures = f; rest = rest; largest = largest }

  -- done to a, with this left of the open file and of the largest read
  abbrev pub done_with : Option Text → ℕ → Store
  done_with rest largest = with_added (added_with rest largest) a

  abbrev pub elsewhere : Store
  elsewhere = done_with t.rest t.largest

  pub alike_did : IsAlike s t a elsewhere
  alike_did = record {
    added = added_with t.rest t.largest;
    here = λ i. record {
      tree = h.tree i;
      rest = t.rest;
      openings = h.openings_are i;
      listings = h.listings_are i;
      failed_listings = h.failed_are i;
      failures = h.failures_are i;
      largest = t.largest;
    };
    there = refl;
  }

  pub did_there : (rest : Option Text) (largest : ℕ) → Did a (done_with rest largest) os ls f
  did_there rest largest = record {
    tree = refl;
    openings_are = refl;
    listings_are = refl;
    failures_are = refl;
    failed = h.failed;
    failed_are = refl;
    failed_among = h.failed_among;
    each_failed = h.each_failed;
  }

module _ (further : Further) (root : StorageRoot) (s t a : Store) (over : a.tree ≡ root) where
  audits_with : (rest : Option Text) (largest : ℕ) (ps ls hs : List Place) (os : List Opening) (h : Audits further root s t ps ls hs os)
      → Audits further root a (done_with s t a os ls (length (unread_of further root os)) h.did rest largest) ps ls hs os
  audits_with rest largest ps ls hs os h = record {
    over = over;
    did = did_there s t a os ls (length (unread_of further root os)) h.did rest largest;
    read = h.read;
    opened = h.opened;
    heads_are = h.heads_are;
    near = h.near;
  }

  failed_there : (b : Store) (ls : List Place) (os : List Opening) (q : Place) (fs : List Place) → t.failed_listings ≡ s.failed_listings ++ fs → b.failed_listings ≡ a.failed_listings ++ fs
      → FailedAt further root s t ls os q → FailedAt further root a b ls os q
  failed_there b ls os q fs e f (in_listing before is failed read) =
      in_listing before is (f ∙ ap (λ x. a.failed_listings ++ x) (append_cancel_left s.failed_listings fs (q ∷ []) (sym e ∙ failed))) read
  failed_there b ls os q fs e f (in_opening before given is none) =
      in_opening before given is
      (f ∙ ap (λ x. a.failed_listings ++ x) (append_cancel_left s.failed_listings fs [] (sym e ∙ none ∙ sym (append-nil s.failed_listings))) ∙ append-nil a.failed_listings)

  fails_there : (ps ls hs : List Place) (os : List Opening) (failed : Option Place) (h : Fails further root s t ps ls hs os failed)
      → Fails further root a (elsewhere s t a os ls (length (unread_of further root os) + failures_at failed) h.did) ps ls hs os failed
  fails_there ps ls hs os failed h = record {
    over = over;
    did = did_there s t a os ls (length (unread_of further root os) + failures_at failed) h.did t.rest t.largest;
    opened = h.opened;
    heads_are = h.heads_are;
    near = h.near;
    store = λ q e. let w = h.store q e in (w.0, failed_there _ ls os q h.did.failed h.did.failed_are refl w.1);
  }

  -- what is so after calls there, is so after calls here
  audits_alike : (X : Store → Type 0) {ps ls hs : List Place} {os : List Opening} → Audits further root s t ps ls hs os → ((b : Store) → Audits further root a b ps ls hs os → X b)
      → (b : Store) × (IsAlike s t a b × X b)
  audits_alike X h then = (elsewhere s t a _ _ _ h.did, (alike_did s t a _ _ _ h.did, then _ (audits_with t.rest t.largest _ _ _ _ h)))

  fails_alike : (X : Store → Type 0) {ps ls hs : List Place} {os : List Opening} {failed : Option Place} → Fails further root s t ps ls hs os failed
      → ((b : Store) → Fails further root a b ps ls hs os failed → X b) → (b : Store) × (IsAlike s t a b × X b)
  fails_alike X h then = (elsewhere s t a _ _ _ h.did, (alike_did s t a _ _ _ h.did, then _ (fails_there _ _ _ _ _ h)))

  -- ---- a walk

  pub walks_elsewhere : (from to : Option Place) → Walks further root s t from to → (b : Store) × (IsAlike s t a b × Walks further root a b from to)
  walks_elsewhere from to w = audits_alike (λ b. Walks further root a b from to) w.audits (λ b h. record { trail = w.trail; audits = h })

  -- with this left of the open file and of the largest read
  pub walks_with : (rest : Option Text) (largest : ℕ) (from to : Option Place) → Walks further root s t from to → (b : Store) × ((b.rest ≡ rest) × (b.largest ≡ largest) × Walks further root a b from to)
  walks_with rest largest from to w =
      let b : Store = done_with s t a _ _ _ w.audits.did rest largest in
      (b, (refl, refl, record { trail = w.trail; audits = audits_with rest largest _ _ _ _ w.audits }))

  pub out_elsewhere : (from : Option Place) (e : End) → WalksOut further root s t from e → (b : Store) × (IsAlike s t a b × WalksOut further root a b from e)
  out_elsewhere from e w = audits_alike (λ b. WalksOut further root a b from e) w.audits (λ b h. record { trail = w.trail; audits = h })

  pub lost_elsewhere : (from : Option Place) (e : End) (why : Fault) → FailsOut further root s t from e why → (b : Store) × (IsAlike s t a b × FailsOut further root a b from e why)
  lost_elsewhere from e why w = fails_alike (λ b. FailsOut further root a b from e why) w.fails (λ b h. record {
    trail = w.trail;
    listed = w.listed;
    heads = w.heads;
    fails = h;
    listed_front = w.listed_front;
    heads_front = w.heads_front;
    up_to = w.up_to;
  })

  pub gives_elsewhere : (last : Option Place) (e : End) (next : Walk) (o : Option Pending) → GivesOut further root s t last e next o → (b : Store) × (IsAlike s t a b × GivesOut further root a b last e next o)
  gives_elsewhere last e next None g = let w = out_elsewhere last e g.0 in (w.0, (w.1.0, (w.1.1, g.1, g.2)))
  gives_elsewhere last e next (Some p) g = let w = walks_elsewhere last (Some p.place) g.0 in (w.0, (w.1.0, (w.1.1, g.1, g.2, g.3)))

  -- ---- an item

  pub takes_elsewhere : (old new : Option (List ℕ)) (p : Place) (cost : ℕ) (more : Bool) → Takes (call_of further root s t old new) p cost more
      → (b : Store) × (IsAlike s t a b × Takes (call_of further root a b old new) p cost more)
  takes_elsewhere old new p cost more k = audits_alike (λ b. Takes (call_of further root a b old new) p cost more) k.audits (λ b h. record {
    trail = k.trail;
    audits = h;
    alone = k.alone;
    wrote = k.wrote;
    cost_is = k.cost_is;
    found_is = k.found_is;
  })

  pub misses_elsewhere : (old new : Option (List ℕ)) (p : Place) (why : ReportStop) → Misses (call_of further root s t old new) p why
      → (b : Store) × (IsAlike s t a b × Misses (call_of further root a b old new) p why)
  misses_elsewhere old new p why k = fails_alike (λ b. Misses (call_of further root a b old new) p why) k.fails (λ b h. record {
    trail = k.trail;
    begun = k.begun;
    one = k.one;
    fails = h;
    alone = k.alone;
    part = k.part;
    wrote = k.wrote;
    part_of = k.part_of;
  })
