-- What calls did adds up; where a call failed; and files that were opened once each.
use Rattle.std.proofs.Common.{◌≡◌, ◌⊎◌, inl, inr, ℕ, suc, cond, ◌+◌, List, [], ◌∷◌, ◌++◌, refl, sym, ◌∙◌, ap, subst, Bool, false, map, filter, length, append_assoc, add-zero, arith, ◌≢◌, ◌≤◌, true, Option, Some, None}
use Rattle.std.proofs.lemmas.List.{append-nil, length-append, map-append}
use Rattle.std.specs.Prelude.{not, ◌&&◌, AllPairs, is_some}
use Rattle.ocfl_tree.specs.{Place.{Text, Place}, Ascending.{IsAmong}}
use Rattle.ocfl_tree.specs.{StorageRoot.{StorageRoot, file_at}, Store.{Store, Did, failed_openings}}
use Rattle.ocfl_tree.specs.{declared.store.Opening.{Opening}, Calls.{opening}}
use Rattle.ocfl_tree.proofs.Orders.{among_left, among_right, among_map}
use Rattle.ocfl_tree.proofs.Stores.{among_either, did_both, did_nothing, listed_well, listing_failed}
use Rattle.ocfl_report.specs.declared.further.Further.{Further}
use Rattle.ocfl_report.specs.declared.further.Further.TheVariants.{Nothing, Inventories}
use Rattle.ocfl_rules.specs.Zone.{zone}
use Rattle.ocfl_rules.specs.Inventories.{is_hashed}
use Rattle.ocfl_rules.specs.Due.{hashed_among}
use Rattle.ocfl_rules.specs.Trail.{is_meta, content_openings, content_trail, unread_of, heads_of, inventory_of, places_of}
use Rattle.ocfl_rules.proofs.Trails.{filter_append, none_unread}
use Rattle.ocfl_item.specs.Looking.{IsFront, failed_place, failures_at, failures_by}
use Rattle.ocfl_item.specs.Auditing.{Audits, Fails, FailedAt, IsMetadataRead, LiesIn, LieIn, LiesNear, in_listing, in_opening}
use Rattle.ocfl_item.specs.{HeadFiles.{files_there}, declared.fault.Fault.{Fault}}
use Rattle.ocfl_item.specs.declared.fault.Fault.TheVariants as fault

-- ---- metadata that was read

pub read_behind : (further : Further) (root : StorageRoot) (os os' : List Opening) → IsMetadataRead further root os → IsMetadataRead further root os' → IsMetadataRead further root (os ++ os')
read_behind further root os os' h k = filter_append (λ o. o.failed && is_meta further root o.place) os os' ∙ (λ i. h i ++ k i)

-- ---- where a call failed

-- what was done before does not matter, if neither metadata nor a listing failed
pub failed_behind : (further : Further) (root : StorageRoot) (s t u : Store) (ls ls' : List Place) (os os' : List Opening) (q : Place) → IsMetadataRead further root os → t.failed_listings ≡ s.failed_listings
    → FailedAt further root t u ls' os' q → FailedAt further root s u (ls ++ ls') (os ++ os') q
failed_behind further root s t u ls ls' os os' q h well (in_listing before e failed k) =
    in_listing (ls ++ before) (ap (λ x. ls ++ x) e ∙ sym (append_assoc ls before (q ∷ []))) (failed ∙ ap (λ x. x ++ q ∷ []) well) (read_behind further root os os' h k)
failed_behind further root s t u ls ls' os os' q h well (in_opening before given e none) =
    in_opening (os ++ before) given (ap (λ x. os ++ x) e ∙ sym (append_assoc os before (opening q given true ∷ []))) (none ∙ well)

-- a listing that failed
pub failed_listing : (further : Further) (root : StorageRoot) (s t : Store) (p q : Place) → p ≡ q → Did s t [] (p ∷ []) 1 → FailedAt further root s t (p ∷ []) [] q
failed_listing further root s t p q e did = in_listing [] (ap (λ x. x ∷ []) e) (listing_failed s t p did ∙ ap (λ x. s.failed_listings ++ x ∷ []) e) refl

-- an opening that failed is one of metadata or of content
failed_split : (further : Further) (root : StorageRoot) (os : List Opening) → failed_openings os ≡ length (filter (λ o. o.failed && is_meta further root o.place) os) + length (unread_of further root os)
failed_split further root [] = refl
failed_split further root (o ∷ os) = by o.failed refl (is_meta further root o.place) (failed_split further root os)
  where
    failed : List Opening → List Opening
    failed xs = filter (λ x. x.failed) xs

    metas : List Opening → List Opening
    metas xs = filter (λ x. x.failed && is_meta further root x.place) xs

    count : List Opening → ℕ
    count xs = length {A = Place × ℕ} (map (λ x. (x.place, x.given)) xs)

    contents : List Opening
    contents = content_openings further root os

    by : (b : Bool) → o.failed ≡ b → (m : Bool) → length (failed os) ≡ length (metas os) + count (failed contents)
        → length (cond b (o ∷ failed os) (failed os)) ≡ length (cond (b && m) (o ∷ metas os) (metas os)) + count (failed (cond (not m) (o ∷ contents) contents))
    by true e true k = omega (arith, k)
    by true e false k =
        let one : count (failed (o ∷ contents)) ≡ suc (count (failed contents)) = ap (λ c. count (cond c (o ∷ failed contents) (failed contents))) e in
        omega (arith, k, one)
    by false e true k = k
    by false e false k = k ∙ ap (λ n. length (metas os) + n) (sym (ap (λ c. count (cond c (o ∷ failed contents) (failed contents))) e))

-- if no metadata failed, each failure is that of a content file
pub content_failed : (further : Further) (root : StorageRoot) (os : List Opening) → IsMetadataRead further root os → length (unread_of further root os) ≤ failed_openings os
content_failed further root os h = let all = failed_split further root os in let none : length (filter (λ o. o.failed && is_meta further root o.place) os) ≡ 0 = ap length h in omega (arith, all, none)

pub audits_well : (further : Further) (root : StorageRoot) (s t : Store) (ps ls hs : List Place) (os : List Opening) → Audits further root s t ps ls hs os → t.failed_listings ≡ s.failed_listings
audits_well further root s t ps ls hs os h = listed_well s t os ls (length (unread_of further root os)) (content_failed further root os h.read) h.did

-- ---- once each

pub few_once : (trail : List Opening) → length trail ≤ 1 → AllPairs (λ a b. a.place ≢ b.place) trail
few_once trail few i j d l k = absurd (omega (arith, few, l, k))

pub none_once : AllPairs {X = Opening} (λ a b. a.place ≢ b.place) []
none_once i j d l k = absurd (omega (arith, l, k))

-- ---- trails

pub heads_append : (root : StorageRoot) (xs ys : List Opening) → heads_of root (xs ++ ys) ≡ heads_of root xs ++ heads_of root ys
heads_append root [] ys = refl
heads_append root (x ∷ xs) ys = ap (λ zs. inventory_of (zone root x.place) ++ zs) (heads_append root xs ys)
    ∙ sym (append_assoc (inventory_of (zone root x.place)) (heads_of root xs) (heads_of root ys))

content_append : (further : Further) (root : StorageRoot) (xs ys : List Opening) → content_openings further root (xs ++ ys) ≡ content_openings further root xs ++ content_openings further root ys
content_append further root xs ys = filter_append (λ o. not (is_meta further root o.place)) xs ys

pub trail_append : (further : Further) (root : StorageRoot) (xs ys : List Opening) → content_trail further root (xs ++ ys) ≡ content_trail further root xs ++ content_trail further root ys
trail_append further root xs ys = ap (map (λ o. o.place)) (content_append further root xs ys) ∙ map-append (λ o. o.place) (content_openings further root xs) (content_openings further root ys)

pub unread_append : (further : Further) (root : StorageRoot) (xs ys : List Opening) → unread_of further root (xs ++ ys) ≡ unread_of further root xs ++ unread_of further root ys
unread_append further root xs ys =
    ap (λ os. map (λ o. (o.place, o.given)) (filter (λ o. o.failed) os)) (content_append further root xs ys)
    ∙ ap (map (λ o. (o.place, o.given))) (filter_append (λ o. o.failed) (content_openings further root xs) (content_openings further root ys))
    ∙ map-append (λ o. (o.place, o.given)) (filter (λ o. o.failed) (content_openings further root xs)) (filter (λ o. o.failed) (content_openings further root ys))

unread_count : (further : Further) (root : StorageRoot) (xs ys : List Opening) → length (unread_of further root (xs ++ ys)) ≡ length (unread_of further root xs) + length (unread_of further root ys)
unread_count further root xs ys = ap length (unread_append further root xs ys) ∙ length-append (unread_of further root xs) (unread_of further root ys)

pub hashed_append : (further : Further) (root : StorageRoot) (ps qs : List Place) → hashed_among further root (ps ++ qs) ≡ hashed_among further root ps ++ hashed_among further root qs
unfolding hashed_among
hashed_append further root ps qs = filter_append (is_hashed further root) ps qs

-- ---- where metadata is

pub near_none : (further : Further) (root : StorageRoot) (ds : List Place) → LieIn further root ds []
near_none further root ds o i meta = absurd i

lies_left : (ds es : List Place) (p : Place) → LiesIn ds p → LiesIn (ds ++ es) p
lies_left ds es p h = (h.0, (h.1.0, (among_left ds es h.0 h.1.1.0, h.1.1.1)))

lies_right : (ds es : List Place) (p : Place) → LiesIn es p → LiesIn (ds ++ es) p
lies_right ds es p h = (h.0, (h.1.0, (among_right ds es h.0 h.1.1.0, h.1.1.1)))

lies_near : (further : Further) (root : StorageRoot) (ds es : List Place) (p : Place) → (LiesIn ds p → LiesIn es p) → LiesNear further root ds p → LiesNear further root es p
lies_near Nothing root ds es p more h = more h
lies_near Inventories root ds es p more (inl h) = inl (more h)
lies_near Inventories root ds es p more (inr h) = inr h

right_in : (further : Further) (root : StorageRoot) (ds : List Place) (p : Place) → LiesIn ds p → LiesNear further root ds p
right_in Nothing root ds p h = h
right_in Inventories root ds p h = inl h

near_both : (further : Further) (root : StorageRoot) (ds : List Place) (os os' : List Opening) → LieIn further root ds os → LieIn further root ds os' → LieIn further root ds (os ++ os')
near_both further root ds os os' h k o i meta = by (among_either os os' o i)
  where
    by : IsAmong os o ⊎ IsAmong os' o → LiesNear further root ds o.place
    by (inl j) = h o j meta
    by (inr j) = k o j meta

near_left : (further : Further) (root : StorageRoot) (ds es : List Place) (os : List Opening) → LieIn further root ds os → LieIn further root (ds ++ es) os
near_left further root ds es os h o i meta = lies_near further root ds (ds ++ es) o.place (lies_left ds es o.place) (h o i meta)

pub near_on : (further : Further) (root : StorageRoot) (ds es : List Place) (os os' : List Opening) → LieIn further root ds os → LieIn further root es os' → LieIn further root (ds ++ es) (os ++ os')
near_on further root ds es os os' h k = near_both further root (ds ++ es) os os' (near_left further root ds es os h) (λ o i meta. lies_near further root es (ds ++ es) o.place (lies_right ds es o.place) (k o i meta))

-- both in directories of the first
pub near_within : (further : Further) (root : StorageRoot) (ds es : List Place) (os os' : List Opening) → LieIn further root ds os → LieIn further root ds os' → LieIn further root (ds ++ es) (os ++ os')
near_within further root ds es os os' h k = near_both further root (ds ++ es) os os' (near_left further root ds es os h) (near_left further root ds es os' k)

one_of : (o : Place) (ns : List Text) (p : Place) → IsAmong (map (λ n. o ++ n ∷ []) ns) p → (n : Text) × (p ≡ o ++ n ∷ [])
one_of o [] p i = absurd i
one_of o (n ∷ ns) p (inl e) = (n, e)
one_of o (n ∷ ns) p (inr i) = one_of o ns p i

-- files of o are in o
pub files_in : (root : StorageRoot) (o : Place) (names : List Text) (trail : List Opening) → IsFront (places_of trail) (files_there root o names) → (x : Opening) → IsAmong trail x
    → (n : Text) × (x.place ≡ o ++ n ∷ [])
files_in root o names trail h x i =
    let place : IsAmong (places_of trail) x.place = among_map (λ y. y.place) trail x i in
    one_of o (filter (λ n. is_some (file_at root (o ++ n ∷ []))) names) x.place (subst (λ l. IsAmong l x.place) (sym h.1) (among_left (places_of trail) h.0 x.place place))

pub files_near : (further : Further) (root : StorageRoot) (o : Place) (names : List Text) (trail : List Opening) → IsFront (places_of trail) (files_there root o names) → LieIn further root (o ∷ []) trail
files_near further root o names trail h x i meta =
    let file = files_in root o names trail h x i in
    right_in further root (o ∷ []) x.place (o, (file.0, (inl refl, file.1)))

-- ---- one call after the other

module _ (further : Further) (root : StorageRoot) (s t u : Store) where
  pub audits_on : (ps qs ls ls' hs hs' : List Place) (os os' : List Opening) → Audits further root s t ps ls hs os → Audits further root t u qs ls' hs' os'
      → Audits further root s u (ps ++ qs) (ls ++ ls') (hs ++ hs') (os ++ os')
  audits_on ps qs ls ls' hs hs' os os' h k = record {
    over = h.over;
    did = subst (Did s u (os ++ os') (ls ++ ls')) (sym (unread_count further root os os')) (did_both s t u os os' ls ls' (length (unread_of further root os)) (length (unread_of further root os')) h.did k.did);
    read = read_behind further root os os' h.read k.read;
    opened = trail_append further root os os' ∙ ap (λ l. l ++ content_trail further root os') h.opened ∙ ap (λ l. hashed_among further root ps ++ l) k.opened ∙ sym (hashed_append further root ps qs);
    heads_are = heads_append root os os' ∙ ap (λ l. l ++ heads_of root os') h.heads_are ∙ ap (λ l. hs ++ l) k.heads_are;
    near = near_on further root ls ls' os os' h.near k.near;
  }

  pub audits_fail : (ps qs ls ls' hs hs' : List Place) (os os' : List Opening) (failed : Option Place) → Audits further root s t ps ls hs os → Fails further root t u qs ls' hs' os' failed
      → Fails further root s u (ps ++ qs) (ls ++ ls') (hs ++ hs') (os ++ os') failed
  audits_fail ps qs ls ls' hs hs' os os' failed h k = record {
    over = h.over;
    did =
        let both : Did s u (os ++ os') (ls ++ ls') (length (unread_of further root os) + (length (unread_of further root os') + failures_at failed)) =
        did_both s t u os os' ls ls' (length (unread_of further root os)) (length (unread_of further root os') + failures_at failed) h.did k.did in
        let count = unread_count further root os os' in
        let same : length (unread_of further root os) + (length (unread_of further root os') + failures_at failed) ≡ length (unread_of further root (os ++ os')) + failures_at failed = omega (arith, count) in
        subst (Did s u (os ++ os') (ls ++ ls')) same both;
    opened = trail_append further root os os' ∙ ap (λ l. l ++ content_trail further root os') h.opened ∙ ap (λ l. hashed_among further root ps ++ l) k.opened ∙ sym (hashed_append further root ps qs);
    heads_are = heads_append root os os' ∙ ap (λ l. l ++ heads_of root os') h.heads_are ∙ ap (λ l. hs ++ l) k.heads_are;
    near = near_on further root ls ls' os os' h.near k.near;
    store = λ q e. let w = k.store q e in (w.0, failed_behind further root s t u ls ls' os os' q h.read (audits_well further root s t ps ls hs os h) w.1);
  }

-- what was done, and then memory was refused
pub fails_after : (further : Further) (root : StorageRoot) (s t : Store) (ps ls hs : List Place) (os : List Opening) → Audits further root s t ps ls hs os → Fails further root s t ps ls hs os None
fails_after further root s t ps ls hs os h = record {
  over = h.over;
  did = subst (Did s t os ls) (sym (add-zero (length (unread_of further root os)))) h.did;
  opened = h.opened;
  heads_are = h.heads_are;
  near = h.near;
  store = λ q e. absurd cc;
}

-- if only metadata was read
pub audits_meta : (further : Further) (root : StorageRoot) (s t : Store) (ls hs : List Place) (os : List Opening) → s.tree ≡ root → Did s t os ls 0 → IsMetadataRead further root os
    → content_trail further root os ≡ [] → heads_of root os ≡ hs → LieIn further root ls os → Audits further root s t [] ls hs os
unfolding hashed_among
audits_meta further root s t ls hs os over did read meta heads near =
    record { over = over; did = subst (Did s t os ls) (sym (ap length (none_unread further root os meta))) did; read = read; opened = meta; heads_are = heads; near = near }

pub failed_store : (why : Fault) (q : Place) → failed_place why ≡ Some q → why ≡ fault.Store q
failed_store (fault.Store p) q e = let same : p ≡ q = cc in ap fault.Store same
failed_store fault.Memory q e = absurd cc

pub fails_meta : (further : Further) (root : StorageRoot) (s t : Store) (ls hs : List Place) (os : List Opening) (why : Fault) → s.tree ≡ root → Did s t os ls (failures_by why)
    → content_trail further root os ≡ [] → heads_of root os ≡ hs → LieIn further root ls os
    → ((q : Place) → why ≡ fault.Store q → (is_hashed further root q ≡ false) × FailedAt further root s t ls os q) → Fails further root s t [] ls hs os (failed_place why)
unfolding hashed_among
fails_meta further root s t ls hs os why over did meta heads near store = record {
  over = over;
  did = let none : length (unread_of further root os) ≡ 0 = ap length (none_unread further root os meta) in
      let same : failures_by why ≡ length (unread_of further root os) + failures_by why = omega (arith, none) in subst (Did s t os ls) same did;
  opened = meta;
  heads_are = heads;
  near = near;
  store = λ q e. store q (failed_store why q e);
}

-- if nothing was done
pub audits_nothing : (further : Further) (root : StorageRoot) (s : Store) → s.tree ≡ root → Audits further root s s [] [] [] []
audits_nothing further root s over = audits_meta further root s s [] [] [] over (did_nothing s) refl refl refl (near_none further root [])

pub fails_nothing : (further : Further) (root : StorageRoot) (s : Store) → s.tree ≡ root → Fails further root s s [] [] [] [] None
fails_nothing further root s over = fails_after further root s s [] [] [] [] (audits_nothing further root s over)

-- ---- beginnings

pub front_all : {A : Type 0} (xs : List A) → IsFront xs xs
front_all xs = ([], sym (append-nil xs))

pub front_none : {A : Type 0} (xs : List A) → IsFront [] xs
front_none xs = (xs, refl)

pub front_of_none : {A : Type 0} (xs : List A) → IsFront xs [] → xs ≡ []
front_of_none [] h = refl
front_of_none (x ∷ xs) h = absurd (let k = h.1 in cc)

pub front_more : {A : Type 0} (xs ys zs whole : List A) → ys ++ zs ≡ whole → IsFront xs ys → IsFront xs whole
front_more xs ys zs whole e h = (h.0 ++ zs, sym e ∙ ap (λ l. l ++ zs) h.1 ∙ append_assoc xs h.0 zs)

-- what passes a test is among what passes it
pub front_kept : {A : Type 0} (test : A → Bool) (xs whole : List A) → xs ≡ filter test xs → IsFront xs whole → IsFront xs (filter test whole)
front_kept test xs whole kept h = (filter test h.0, ap (filter test) h.1 ∙ filter_append test xs h.0 ∙ ap (λ l. l ++ filter test h.0) (sym kept))

pub front_behind : {A : Type 0} (xs ys zs whole : List A) → xs ++ zs ≡ whole → IsFront ys zs → IsFront (xs ++ ys) whole
front_behind xs ys zs whole e h = (h.0, sym e ∙ ap (λ l. xs ++ l) h.1 ∙ sym (append_assoc xs ys h.0))
