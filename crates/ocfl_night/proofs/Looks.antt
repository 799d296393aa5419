-- Looks at a storage root, and what a store counts meanwhile.
use Rattle.std.proofs.Common.{◌≡◌, ◌≢◌, ◌⊎◌, ⊎_elim, ℕ, ◌+◌, ◌≤◌, List, [], ◌∷◌, ◌++◌, inl, inr, true, false, Bool, Option, Some, None, refl, sym, ◌∙◌, ap, subst, arith, append_assoc, length, length-append, drop, filter}
use Rattle.std.proofs.{lemmas.List.{append-nil, drop-append-le, drop_all}, lemmas.List.Elements.{filter-append}}
use Rattle.std.specs.{Option.{option_and_then}, Prelude.{◌&&◌, cond}}
use Rattle.ocfl_tree.specs.{Place.{Text, Place, place_eq}, Ascending.{IsAmong}, StorageRoot.{Leaf, StorageRoot, at, bytes_of, dir, file, other}}
use Rattle.ocfl_tree.specs.{Store.{Store, Did, failed_openings}, declared.store.Opening.{Opening}}
use Rattle.ocfl_tree.specs.Calls.{opening}
use Rattle.ocfl_tree.proofs.{Orders.{among_left, among_right}, Places.{place_eq-same}}
use Rattle.ocfl_rules.specs.{Audit.{Unread}, Trail.{unread_of}}
use Rattle.ocfl_item.proofs.AuditingLaws.{unread_append}
use Rattle.ocfl_item.specs.Judging.{HasShortFiles}
use Rattle.ocfl_identity.specs.Identity.{IsUnread, OpensFirst, in_listing, in_opening, too_long}
use Rattle.ocfl_scrub.specs.declared.running.RunStatus.{RunStatus}
use Rattle.ocfl_scrub.specs.declared.running.RunStatus.TheVariants as status
use Rattle.ocfl_night.specs.Looks.{IsRootOf, Counts, failed_at, failed_in, IfGiven, IsOneOf, IsWithin, Known, Look, look_between, opened_since}
use Rattle.ocfl_identity.specs.declared.identity.NoIdentity.{NoIdentity}
use Rattle.ocfl_identity.specs.declared.identity.NoIdentity.TheVariants as none
use Rattle.ocfl_report.specs.declared.further.Further.{Further}

-- ---- what a store counts

behind : (xs ys : List Opening) → drop (length xs) (xs ++ ys) ≡ ys
behind xs ys = drop-append-le (length xs) xs ys (omega arith) ∙ ap (λ (l : List Opening). l ++ ys) (drop_all (length xs) xs (omega arith))

-- what was opened is what came to the openings
pub since_is : (s t : Store) (os : List Opening) → t.openings ≡ s.openings ++ os → opened_since s t ≡ os
since_is s t os are = ap (drop (length s.openings)) are ∙ behind s.openings os

pub failed_append : (xs ys : List Opening) → failed_openings (xs ++ ys) ≡ failed_openings xs + failed_openings ys
failed_append xs ys = ap length (filter-append (λ (o : Opening). o.failed) xs ys) ∙ length-append (filter (λ (o : Opening). o.failed) xs) (filter (λ (o : Opening). o.failed) ys)

-- how often it failed at a place then
abbrev is_failed : Place → Opening → Bool
is_failed p o = o.failed && place_eq o.place p

failed_then : (p : Place) (os more : List Opening) (ls then : List Place) → failed_in p (os ++ more) (ls ++ then) ≡ failed_in p os ls + failed_in p more then
failed_then p os more ls then =
    let one = ap length (filter-append (is_failed p) os more) ∙ length-append (filter (is_failed p) os) (filter (is_failed p) more) in
    let two = ap length (filter-append (λ (q : Place). place_eq q p) ls then) ∙ length-append (filter (λ (q : Place). place_eq q p) ls) (filter (λ (q : Place). place_eq q p) then) in
    omega (arith, one, two)

pub failed_more : (p : Place) (s t : Store) (os : List Opening) (ls : List Place) → t.openings ≡ s.openings ++ os → t.failed_listings ≡ s.failed_listings ++ ls → failed_at p t ≡ failed_at p s + failed_in p os ls
failed_more p s t os ls opened listed =
    ap (λ (x : List Opening). failed_in p x t.failed_listings) opened ∙ ap (failed_in p (s.openings ++ os)) listed ∙ failed_then p s.openings os s.failed_listings ls

few_opened : (p : Place) (os : List Opening) → length (filter (is_failed p) os) ≤ failed_openings os
few_opened p [] = omega arith
few_opened p (o ∷ os) = by o.failed (place_eq o.place p) (few_opened p os)
  where
    by : (a b : Bool) → length (filter (is_failed p) os) ≤ failed_openings os
        → length (cond (a && b) (o ∷ filter (is_failed p) os) (filter (is_failed p) os)) ≤ length (cond a (o ∷ filter (λ (x : Opening). x.failed) os) (filter (λ (x : Opening). x.failed) os))
    by true true few = omega (arith, few)
    by true false few = omega (arith, few)
    by false b few = few

few_listed : (p : Place) (ls : List Place) → length (filter (λ (q : Place). place_eq q p) ls) ≤ length ls
few_listed p [] = omega arith
few_listed p (l ∷ ls) = by (place_eq l p) (few_listed p ls)
  where
    by : (b : Bool) → length (filter (λ (q : Place). place_eq q p) ls) ≤ length ls → length (cond b (l ∷ filter (λ (q : Place). place_eq q p) ls) (filter (λ (q : Place). place_eq q p) ls)) ≤ length (l ∷ ls)
    by true few = omega (arith, few)
    by false few = omega (arith, few)

-- calls of which none failed
pub failed_none : (p : Place) {s t : Store} {os : List Opening} {listed : List Place} {n : ℕ} → Did s t os listed n → n ≡ 0 → failed_at p t ≤ failed_at p s
failed_none p {s} {t} {os} did none =
    let more = failed_more p s t os did.failed did.openings_are did.failed_are in
    let one = few_opened p os in
    let two = few_listed p did.failed in
    omega (arith, more, one, two, none, did.each_failed)

-- the last of which failed
pub one_listed : (p : Place) (os : List Opening) (ls : List Place) → 1 ≤ failed_in p os (p ∷ ls)
one_listed p os ls = by (place_eq p p) (place_eq-same p)
  where
    by : (b : Bool) → b ≡ true → 1 ≤ length (filter (is_failed p) os) + length (cond b (p ∷ filter (λ (q : Place). place_eq q p) ls) (filter (λ (q : Place). place_eq q p) ls))
    by true is = omega arith
    by false is = absurd (cc is)

pub one_opened : (p : Place) (before : List Opening) (given : ℕ) (ls : List Place) → 1 ≤ failed_in p (before ++ opening p given true ∷ []) ls
one_opened p before given ls = let both = failed_then p before (opening p given true ∷ []) [] ls in let one = last in omega (arith, both, one)
  where
    last : 1 ≤ failed_in p (opening p given true ∷ []) ls
    last = by (place_eq p p) (place_eq-same p)
      where
        by : (b : Bool) → b ≡ true → 1 ≤ length (cond (true && b) (opening p given true ∷ []) []) + length (filter (λ (q : Place). place_eq q p) ls)
        by true is = omega arith
        by false is = absurd (cc is)

pub counts_by : (s t : Store) (os : List Opening) (ls : List Place) → t.openings ≡ s.openings ++ os → t.failed_listings ≡ s.failed_listings ++ ls → s.failures + failed_openings os ≤ t.failures → Counts s t
counts_by s t os ls are listed few = record {
  openings = are ∙ ap (λ (l : List Opening). s.openings ++ l) (sym (since_is s t os are));
  failures = subst (λ (l : List Opening). s.failures + failed_openings l ≤ t.failures) (sym (since_is s t os are)) few;
  failed = λ p. let more = failed_more p s t os ls are listed in omega (arith, more);
}

pub counts_did : {s t : Store} {os : List Opening} {listed : List Place} {n : ℕ} → Did s t os listed n → Counts s t
counts_did {s} {t} {os} did = counts_by s t os did.failed did.openings_are did.failed_are (omega (arith, did.failures_are, did.each_failed))

pub counts_same : (s t : Store) → t ≡ s → Counts s t
counts_same s t same =
    counts_by s t [] [] (ap (λ (x : Store). x.openings) same ∙ sym (append-nil s.openings)) (ap (λ (x : Store). x.failed_listings) same ∙ sym (append-nil s.failed_listings)) (omega (arith, ap (λ (x : Store). x.failures) same))

pub counts_none : (s : Store) → Counts s s
counts_none s = counts_same s s refl

module _ {r s t : Store} (p : Counts r s) (q : Counts s t) where
  both : t.openings ≡ r.openings ++ (opened_since r s ++ opened_since s t)
  both = q.openings ∙ ap (λ (l : List Opening). l ++ opened_since s t) p.openings ∙ append_assoc r.openings (opened_since r s) (opened_since s t)

  pub since_both : opened_since r t ≡ opened_since r s ++ opened_since s t
  since_both = since_is r t (opened_since r s ++ opened_since s t) both

  pub counts_on : Counts r t
  counts_on = record {
    openings = both ∙ ap (λ (l : List Opening). r.openings ++ l) (sym since_both);
    failures = let since = ap failed_openings since_both ∙ failed_append (opened_since r s) (opened_since s t) in omega (arith, p.failures, q.failures, since);
    failed = λ x. let one = p.failed x in let two = q.failed x in omega (arith, one, two);
  }

  unread_both : (further : Further) (root : StorageRoot) → unread_of further root (opened_since r t) ≡ unread_of further root (opened_since r s) ++ unread_of further root (opened_since s t)
  unread_both further root = ap (unread_of further root) since_both ∙ unread_append further root (opened_since r s) (opened_since s t)

  pub first_within : (further : Further) (root : StorageRoot) → IsWithin (look_between further root r s) (look_between further root r t)
  first_within further root = record {
    root = refl;
    unread = λ e is. subst (λ (u : Unread). IsAmong u e) (sym (unread_both further root)) (among_left (unread_of further root (opened_since r s)) (unread_of further root (opened_since s t)) e is);
  }

  pub last_within : (further : Further) (root : StorageRoot) → IsWithin (look_between further root s t) (look_between further root r t)
  last_within further root = record {
    root = refl;
    unread = λ e is. subst (λ (u : Unread). IsAmong u e) (sym (unread_both further root)) (among_right (unread_of further root (opened_since r s)) (unread_of further root (opened_since s t)) e is);
  }

-- ---- looks

pub within_on : {a b c : Look} → IsWithin a b → IsWithin b c → IsWithin a c
within_on {a} {b} {c} p q = record { root = p.root ∙ q.root; unread = λ e is. q.unread e (p.unread e is) }

pub one_of_on : {a b : Look} (known : Option Known) → IsWithin a b → IsOneOf known b → IsOneOf known a
one_of_on None p is = tt
one_of_on (Some known) p is = (is.0, (is.1.0, within_on p is.1.1))

pub given_on : {P Q : Type 0} (known : Option Known) → (P → Q) → IfGiven known P → IfGiven known Q
given_on None more p = tt
given_on (Some known) more p = more p

pub given_so : {P : Type 0} (known : Option Known) → P → IfGiven known P
given_so None p = tt
given_so (Some known) p = p

-- its root is one of theirs
pub root_of : (known : Option Known) (l : Look) → IsOneOf known l → IsRootOf known l.root
root_of None l one = tt
root_of (Some known) l one = (one.0, (one.1.0, sym one.1.1.root))

-- the first steps, and the last
module _ {r s t : Store} (further : Further) (root : StorageRoot) (known : Option Known) (p : Counts r s) (q : Counts s t) (is : IsOneOf known (look_between further root r t)) where
  pub first_of : IsOneOf known (look_between further root r s)
  first_of = one_of_on known (first_within p q further root) is

  pub last_of : IsOneOf known (look_between further root s t)
  last_of = one_of_on known (last_within p q further root) is

-- a run that was not made did nothing
pub counts_either : {s t : Store} (end : RunStatus) → (end ≢ status.Worn → Counts s t) → (end ≡ status.Worn → t ≡ s) → Counts s t
counts_either {s} {t} status.Worn made unmade = counts_same s t (unmade refl)
counts_either status.Ended made unmade = made (λ e. cc)
counts_either status.Spent made unmade = made (λ e. cc)
counts_either (status.Stopped why) made unmade = made (λ e. cc)

pub leaf_there : (o : Option Leaf) (bytes : Text) → option_and_then bytes_of o ≡ Some bytes → o ≡ Some (file bytes)
leaf_there None bytes is = absurd (cc is)
leaf_there (Some (file found)) bytes is = let same : found ≡ bytes = cc is in ap (λ (b : Text). Some (file b)) same
leaf_there (Some dir) bytes is = absurd (cc is)
leaf_there (Some other) bytes is = absurd (cc is)

-- a declaration could not be read
pub counts_unread : {root : StorageRoot} {s t : Store} {names : List Text} {listed : List Place} {p : Place} → HasShortFiles root → IsUnread root s t names listed p → Counts s t
counts_unread short (in_listing is there did) = counts_did did
counts_unread short (in_opening before given named did) = counts_did did
counts_unread {root} {p = p} short (too_long bytes is long) = absurd (let few = short p bytes (leaf_there (at root p) bytes is) in omega (arith, few, long))

-- memory was refused
pub counts_first : {s t : Store} {os : List Opening} {listed : List Place} → OpensFirst s t os listed → Counts s t
counts_first first = counts_did first.did

-- the root has no identity
pub counts_unidentified : {root : StorageRoot} {s t : Store} {os : List Opening} {names : List Text} {listed : List Place} (e : NoIdentity) → HasShortFiles root → (e ≡ none.Undeclared → Did s t [] listed 0)
    → ((p : Place) → e ≡ none.Unread p → IsUnread root s t names listed p) → (e ≡ none.Memory → Did s t [] [] 0 ⊎ OpensFirst s t os listed) → Counts s t
counts_unidentified none.Undeclared short bare unread refused = counts_did (bare refl)
counts_unidentified (none.Unread p) short bare unread refused = counts_unread short (unread p refl)
counts_unidentified none.Memory short bare unread refused = ⊎_elim counts_did counts_first (refused refl)

-- it failed there
pub failed_unread : {root : StorageRoot} {s t : Store} {names : List Text} {listed : List Place} {p : Place} → HasShortFiles root → IsUnread root s t names listed p → failed_at p s + 1 ≤ failed_at p t
failed_unread {s = s} {t = t} {p = p} short (in_listing is there did) =
    let more = failed_more p s t [] did.failed did.openings_are did.failed_are in
    let one = by did.failed did.each_failed (λ q i. alone q (subst (λ qs. IsAmong qs q) there (did.failed_among q i))) in
    omega (arith, more, one)
  where
    alone : (q : Place) → IsAmong (p ∷ []) q → q ≡ p
    alone q (inl same) = same
    alone q (inr none) = absurd none

    by : (ls : List Place) → 1 ≡ 0 + length ls → ((q : Place) → IsAmong ls q → q ≡ p) → 1 ≤ failed_in p [] ls
    by [] one all = absurd (omega (arith, one))
    by (q ∷ ls) one all = subst (λ (x : Place). 1 ≤ failed_in p [] (x ∷ ls)) (sym (all q (inl refl))) (one_listed p [] ls)
failed_unread {s = s} {t = t} {p = p} short (in_opening before given named did) =
    let more = failed_more p s t _ did.failed did.openings_are did.failed_are in let one = one_opened p before given did.failed in omega (arith, more, one)
failed_unread {root} {p = p} short (too_long bytes is long) = absurd (let few = short p bytes (leaf_there (at root p) bytes is) in omega (arith, few, long))
