-- What reading the files of an object did.
use Rattle.std.proofs.Common.{◌≡◌, ◌≢◌, ◌⊎◌, inl, inr, ℕ, ◌+◌, ◌<◌, ◌≤◌, List, [], ◌∷◌, ◌++◌, refl, sym, ◌∙◌, ap, subst, true, false, Bool, Some, None, arith, length, map, filter, get_or, is_some}
use Rattle.std.proofs.lemmas.List.{append-nil, map-append, get_or-map, get_or_append_left, length-append, length-map, same_from_push}
use Rattle.std.proofs.{Math.Bool.{or-true}, lemmas.Bool.{false_from_ne_true}, lemmas.List.Elements.{filter-append}, lemmas.List.Kept.{AllPairs-filter}}
use Rattle.std.specs.Prelude.{cond, ◌||◌, ◌&&◌, not, min, AllPairs, Ok, Err, option_and_then}
use Rattle.std.specs.List.{list_all}
use Rattle.ocfl_tree.specs.{Place.{Text, Place}, StorageRoot.{StorageRoot, file_at, bytes_of}}
use Rattle.ocfl_tree.specs.{Store.{Store, Did}, Calls.{opening}, Listing.{kind_at, kind_in}}
use Rattle.ocfl_tree.specs.{declared.store.Entry.{Entry}, declared.store.Opening.{Opening}}
use Rattle.ocfl_tree.specs.declared.store.Trouble.{Trouble}
use Rattle.ocfl_tree.specs.declared.store.Trouble.TheVariants.{Device, Absent, Memory}
use Rattle.ocfl_report.specs.declared.further.Further.{Further}
use Rattle.ocfl_digest.specs.Bounded.{ReadsBounded, StopsReading}
use Rattle.ocfl_digest.specs.declared.bounded.Bounded.{Bounded}
use Rattle.ocfl_rules.specs.Zone.{inside, zone}
use Rattle.ocfl_rules.specs.Inventories.{is_hashed}
use Rattle.ocfl_rules.specs.Trail.{is_root_meta, is_meta_zone, is_meta, is_object_meta, places_of, content_trail}
use Rattle.ocfl_rules.proofs.AuditExists.{some_not_none}
use Rattle.ocfl_rules.proofs.{InventoryLaws.{hashed_no_meta}, MetaLaws.{common_is_meta}}
use Rattle.ocfl_item.specs.Looking.{IsFront, failures_by}
use Rattle.ocfl_item.specs.Auditing.{FailedAt, IsMetadataRead, in_opening}
use Rattle.ocfl_item.specs.Internal.Ways.{fault_by, AreMeta, ReadsMeta, SeekStops, is_file_kind}
use Rattle.ocfl_item.specs.HeadFiles.{files_there, ReadsFiles, FilesStop}
use Rattle.ocfl_item.specs.{Internal.HeadFiles.{ReadsFile, ReadsSome}, declared.fault.Fault.{Fault}}
use Rattle.ocfl_item.specs.declared.fault.Fault.TheVariants as fault
use Rattle.ocfl_tree.proofs.{Orders.{true_not_false}, Stores.{did_then, did_nothing, listed_well}}
use Rattle.ocfl_item.proofs.AuditingLaws.{failed_behind, front_behind, front_more, read_behind}
use Rattle.ocfl_item.proofs.{LooksEntries.{file_there, no_file_there}, LooksZones.{inside_on}}
use Rattle.ocfl_item.proofs.LooksCalls.{store_place, memory_no_store, kind_is_file, kind_is_no_file}

-- ---- one file

-- a fault of the store is a failure
store_counts : ◌≡◌ {A = ℕ} 1 0 → ⊥
store_counts e = omega (arith, e)

module _ (further : Further) (root : StorageRoot) (o : Place) (n : Text) (z : zone root o ≡ inside o []) (meta : is_object_meta (n ∷ []) ≡ true) where
  pub file_is_meta : is_meta further root (o ++ n ∷ []) ≡ true
  file_is_meta = common_is_meta further root (o ++ n ∷ []) (
      ap (λ x. is_root_meta (o ++ n ∷ []) || is_meta_zone x) (inside_on root o o [] (n ∷ []) z)
      ∙ ap (λ b. is_root_meta (o ++ n ∷ []) || b) meta ∙ or-true (is_root_meta (o ++ n ∷ [])))

module _ (further : Further) (root : StorageRoot) (o : Place) (n : Text) (meta : is_meta further root (o ++ n ∷ []) ≡ true) where
  file_not_hashed : is_hashed further root (o ++ n ∷ []) ≡ false
  file_not_hashed = false_from_ne_true (is_hashed further root (o ++ n ∷ [])) (λ e. true_not_false (sym meta ∙ hashed_no_meta further root (o ++ n ∷ []) e))

  module _ (es : List Entry) (tells : kind_in es n ≡ kind_at root o n) where
    stops_by : (s t : Store) (limit : ℕ) (trouble : Trouble) → s.tree ≡ root → is_file_kind (kind_in es n) ≡ true
        → StopsReading root s t (o ++ n ∷ []) limit trouble → FilesStop further root s t o (n ∷ []) (fault_by (o ++ n ∷ []) trouble)
    stops_by s t limit trouble over is k =
        let there = file_there root o n es tells (kind_is_file (kind_in es n) is) in
        let bytes : file_at root (o ++ n ∷ []) ≡ Some there.0 = ap (option_and_then bytes_of) there.1 in
        by trouble k bytes
      where
        one : (given : ℕ) (failed : Bool) (bytes : Text) → file_at root (o ++ n ∷ []) ≡ Some bytes → IsFront (places_of (opening (o ++ n ∷ []) given failed ∷ [])) (files_there root o (n ∷ []))
        one given failed bytes e = ([], ap (λ b. map (λ m. o ++ m ∷ []) (cond (is_some b) (n ∷ []) [])) e)

        one_failed : (given : ℕ) → {os : List Opening} → os ≡ opening (o ++ n ∷ []) given true ∷ [] → Did s t os [] 1 → t.failed_listings ≡ s.failed_listings
        one_failed given e did = listed_well s t (opening (o ++ n ∷ []) given true ∷ []) [] 1 (let one : 1 ≤ 1 = omega arith in one) (subst (λ os. Did s t os [] 1) e did)

        by : (trouble : Trouble) → StopsReading root s t (o ++ n ∷ []) limit trouble → {bytes : Text} → file_at root (o ++ n ∷ []) ≡ Some bytes
            → FilesStop further root s t o (n ∷ []) (fault_by (o ++ n ∷ []) trouble)
        by Device k {bytes = bytes} e = record {
          trail = k.openings;
          stops = record {
            goes = record { over = over; listings = []; did = k.did; read = λ g. absurd (store_counts g); listed = ([], refl) };
            store = λ q g. (
              ap (is_hashed further root) (sym (store_place (o ++ n ∷ []) q g))
                  ∙ file_not_hashed,
              subst (FailedAt further root s t [] k.openings) (store_place (o ++ n ∷ []) q g) (in_opening [] k.opened.0 k.opened.2 (one_failed k.opened.0 k.opened.2 k.did)),
            );
          };
          opened = subst (λ os. IsFront (places_of os) (files_there root o (n ∷ []))) (sym k.opened.2) (one k.opened.0 true bytes e);
        }
        by Absent k {bytes = bytes} e = absurd (some_not_none bytes (sym (k.absent refl) ∙ e))
        by Memory k {bytes = bytes} e = record {
          trail = k.openings;
          stops = record { goes = record { over = over; listings = []; did = k.did; read = λ g. quiet k.opened; listed = ([], refl) }; store = λ q g. absurd (memory_no_store q g) };
          opened = either k.opened;
        }
          where
            either : (k.openings ≡ []) ⊎ ((given : ℕ) × (given ≤ limit) × (k.openings ≡ opening (o ++ n ∷ []) given false ∷ [])) → IsFront (places_of k.openings) (files_there root o (n ∷ []))
            either (inl g) = (files_there root o (n ∷ []), ap (λ os. places_of os ++ files_there root o (n ∷ [])) (sym g))
            either (inr g) = subst (λ os. IsFront (places_of os) (files_there root o (n ∷ []))) (sym g.2) (one g.0 false bytes e)

            quiet : (k.openings ≡ []) ⊎ ((given : ℕ) × (given ≤ limit) × (k.openings ≡ opening (o ++ n ∷ []) given false ∷ [])) → IsMetadataRead further root k.openings
            quiet (inl g) = subst (IsMetadataRead further root) (sym g) refl
            quiet (inr g) = subst (IsMetadataRead further root) (sym g.2) refl

    pub file_fails : (s t : Store) (p : Place) (limit : ℕ) (trouble : Trouble) (why : Fault) → s.tree ≡ root → (p ≡ o ++ n ∷ [])
        × (is_file_kind (kind_in es n) ≡ true) → StopsReading root s t p limit trouble → why ≡ fault_by p trouble
        → ReadsFile further root s t o n limit (Err why)
    file_fails s t p limit trouble why over there l e = record {
      gives = subst (FilesStop further root s t o (n ∷ [])) (sym (e ∙ ap (λ x. fault_by x trouble) there.0))
          (stops_by s t limit trouble over there.1 (subst (λ x. StopsReading root s t x limit trouble) there.0 l));
    }

    pub file_absent : (s : Store) (limit : ℕ) → s.tree ≡ root → is_file_kind (kind_in es n) ≡ false → ReadsFile further root s s o n limit (Ok None)
    file_absent s limit over none =
        let gone : file_at root (o ++ n ∷ []) ≡ None = no_file_there root o n es tells (kind_is_no_file (kind_in es n) none) in
        record { gives = (record { over = over; trail = []; did = did_nothing s; read = refl; opened = ap (λ b. map (λ m. o ++ m ∷ []) (cond (is_some b) (n ∷ []) [])) (sym gone) }, gone) }

  pub file_read : (s t : Store) (p : Place) (limit : ℕ) (b : Bounded) → s.tree ≡ root → p ≡ o ++ n ∷ [] → ReadsBounded root s t p limit b → ReadsFile further root s t o n limit (Ok (Some b))
  file_read s t p limit b over there l =
      let k = subst (λ x. ReadsBounded root s t x limit b) there l in
      record {
        gives = (
          record {
            over = over;
            trail = opening (o ++ n ∷ []) (min (length k.bytes) (limit + 1)) false ∷ [];
            did = k.did;
            read = refl;
            opened =
                ap (λ x. map (λ m. o ++ m ∷ []) (cond (is_some x) (n ∷ []) [])) (sym k.is_file);
          },
          (k.bytes, k.is_file, k.is_bounded),
        );
      }

-- out of memory before the store is asked
pub file_memory : (further : Further) (root : StorageRoot) (s : Store) (o : Place) (n : Text) (limit : ℕ) → s.tree ≡ root → ReadsFile further root s s o n limit (Err fault.Memory)
file_memory further root s o n limit over = record {
  gives = record {
    trail = [];
    stops = record { goes = record { over = over; listings = []; did = did_nothing s; read = λ e. refl; listed = ([], refl) }; store = λ q e. absurd (memory_no_store q e) };
    opened = (files_there root o (n ∷ []), refl);
  };
}

-- ---- one after the other

module _ (root : StorageRoot) (o : Place) where
  pub there_then : (ns ms : List Text) → files_there root o (ns ++ ms) ≡ files_there root o ns ++ files_there root o ms
  there_then ns ms =
      ap (map (λ n. o ++ n ∷ [])) (filter-append (λ n. is_some (file_at root (o ++ n ∷ []))) ns ms)
      ∙ map-append (λ n. o ++ n ∷ []) (filter (λ n. is_some (file_at root (o ++ n ∷ []))) ns) (filter (λ n. is_some (file_at root (o ++ n ∷ []))) ms)

  places_then : (os os' : List Opening) → places_of (os ++ os') ≡ places_of os ++ places_of os'
  places_then os os' = map-append (λ x. x.place) os os'

  joined : (os os' : List Opening) (ns ms : List Text) → places_of os ≡ files_there root o ns → IsFront (places_of os') (files_there root o ms)
      → IsFront (places_of (os ++ os')) (files_there root o (ns ++ ms))
  joined os os' ns ms h k =
      let all : IsFront (files_there root o ns ++ places_of os') (files_there root o ns ++ files_there root o ms) =
      front_behind (files_there root o ns) (places_of os') (files_there root o ms) _ refl k in
      subst (λ x. IsFront x (files_there root o (ns ++ ms))) (sym (places_then os os' ∙ ap (λ x. x ++ places_of os') h))
      (subst (IsFront (files_there root o ns ++ places_of os')) (sym (there_then ns ms)) all)

  pub whole_front : (os : List Opening) (ns : List Text) → places_of os ≡ files_there root o ns → IsFront (places_of os) (files_there root o ns)
  whole_front os ns h = ([], sym h ∙ sym (append-nil (places_of os)))

  more_there : (xs : List Place) (ns ms : List Text) → IsFront xs (files_there root o ns) → IsFront xs (files_there root o (ns ++ ms))
  more_there xs ns ms h = subst (IsFront xs) (sym (there_then ns ms)) (front_more xs (files_there root o ns) (files_there root o ms) _ refl h)

module _ (further : Further) (root : StorageRoot) (o : Place) where
  pub files_then : (s t u : Store) (ns ms : List Text) → ReadsFiles further root s t o ns → ReadsFiles further root t u o ms → ReadsFiles further root s u o (ns ++ ms)
  files_then s t u ns ms h k = record {
    over = h.over;
    trail = h.trail ++ k.trail;
    did = did_then s t u h.trail k.trail [] [] 0 h.did k.did;
    read = read_behind further root h.trail k.trail h.read k.read;
    opened = places_then root o h.trail k.trail ∙ (λ i. h.opened i ++ k.opened i) ∙ sym (there_then root o ns ms);
  }

  abbrev pub some_of : (s t : Store) (ns : List Text) → ReadsFiles further root s t o ns → ReadsSome further root s t o ns
  some_of s t ns h = record { over = h.over; trail = h.trail; did = h.did; read = h.read; opened = whole_front root o h.trail ns h.opened }

  pub some_more : (s t : Store) (ns ms : List Text) → ReadsSome further root s t o ns → ReadsSome further root s t o (ns ++ ms)
  some_more s t ns ms h = record { over = h.over; trail = h.trail; did = h.did; read = h.read; opened = more_there root o (places_of h.trail) ns ms h.opened }

  pub stop_more : (s t : Store) (ns ms : List Text) (why : Fault) → FilesStop further root s t o ns why → FilesStop further root s t o (ns ++ ms) why
  stop_more s t ns ms why h = record { trail = h.trail; stops = h.stops; opened = more_there root o (places_of h.trail) ns ms h.opened }

  pub stop_then : (s t u : Store) (ns ms : List Text) (why : Fault) → ReadsFiles further root s t o ns → FilesStop further root t u o ms why → FilesStop further root s u o (ns ++ ms) why
  stop_then s t u ns ms why h k =
      record {
        trail = h.trail ++ k.trail;
        stops = record {
          goes = record {
            over = h.over;
            listings = k.stops.goes.listings;
            did = did_then s t u h.trail k.trail [] k.stops.goes.listings (failures_by why) h.did k.stops.goes.did;
            read = λ e. read_behind further root h.trail k.trail h.read (k.stops.goes.read e);
            listed = k.stops.goes.listed;
          };
          store = λ q e. let f = k.stops.store q e in (f.0, failed_behind further root s t u [] k.stops.goes.listings h.trail k.trail q h.read (listed_well s t h.trail [] 0 (omega arith) h.did) f.1);
        };
        opened = joined root o h.trail k.trail ns ms h.opened k.opened;
      }

  pub memory_after : (s t : Store) (ns : List Text) → ReadsSome further root s t o ns → FilesStop further root s t o ns fault.Memory
  memory_after s t ns h = record {
    trail = h.trail;
    stops = record { goes = record { over = h.over; listings = []; did = h.did; read = λ e. h.read; listed = ([], refl) }; store = λ q e. absurd (memory_no_store q e) };
    opened = h.opened;
  }

-- ---- each of them is metadata, and is opened once

front_pairs : {X : Type 0} (R : X → X → Type 0) (front whole : List X) → IsFront front whole → AllPairs R whole → AllPairs R front
front_pairs R front whole h all i j d l k =
    let e = h.1 in
    let long : length whole ≡ length front + length h.0 = ap length e ∙ length-append front h.0 in
    let one : get_or whole i d ≡ get_or front i d = ap (λ xs. get_or xs i d) e ∙ get_or_append_left front h.0 d i (omega (arith, l, k)) in
    let two : get_or whole j d ≡ get_or front j d = ap (λ xs. get_or xs j d) e ∙ get_or_append_left front h.0 d j k in
    subst (λ x. R x (get_or front j d)) one (subst (R (get_or whole i d)) two (all i j d l (omega (arith, l, k, long))))

map_pairs : {X Y : Type 0} (f : X → Y) (R : Y → Y → Type 0) (xs : List X) → AllPairs (λ a b. R (f a) (f b)) xs → AllPairs R (map f xs)
map_pairs f R [] all i j d l k = absurd (omega (arith, k))
map_pairs f R (x ∷ xs) all i j d l k =
    let same : length (map f (x ∷ xs)) ≡ length (x ∷ xs) = length-map (x ∷ xs) f in
    let short : j < length (x ∷ xs) = omega (arith, k, same) in
    let one : get_or (map f (x ∷ xs)) i d ≡ f (get_or (x ∷ xs) i x) = get_or-map f (x ∷ xs) i x d (omega (arith, l, short)) in
    let two : get_or (map f (x ∷ xs)) j d ≡ f (get_or (x ∷ xs) j x) = get_or-map f (x ∷ xs) j x d short in
    subst (λ y. R y (get_or (map f (x ∷ xs)) j d)) (sym one) (subst (R (f (get_or (x ∷ xs) i x))) (sym two) (all i j x l short))

pairs_unmapped : {X Y : Type 0} (f : X → Y) (R : Y → Y → Type 0) (xs : List X) → AllPairs R (map f xs) → AllPairs (λ a b. R (f a) (f b)) xs
pairs_unmapped f R xs all i j d l k =
    let same : length (map f xs) ≡ length xs = length-map xs f in
    let one : get_or (map f xs) i (f d) ≡ f (get_or xs i d) = get_or-map f xs i d (f d) (omega (arith, l, k)) in
    let two : get_or (map f xs) j (f d) ≡ f (get_or xs j d) = get_or-map f xs j d (f d) k in
    subst (λ y. R y (f (get_or xs j d))) one (subst (R (get_or (map f xs) i (f d))) two (all i j (f d) l (omega (arith, k, same))))

module _ (root : StorageRoot) (o : Place) (ns : List Text) (apart : AllPairs (λ n m. n ≢ m) ns) where
  there_apart : AllPairs (λ p q. p ≢ q) (files_there root o ns)
  there_apart =
      map_pairs (λ n. o ++ n ∷ []) (λ p q. p ≢ q) (filter (λ n. is_some (file_at root (o ++ n ∷ []))) ns)
      (λ i j d l k e. AllPairs-filter (λ n m. n ≢ m) (λ n. is_some (file_at root (o ++ n ∷ []))) ns apart i j d l k (same_from_push o o _ _ e).1)

  pub front_once : (trail : List Opening) → IsFront (places_of trail) (files_there root o ns) → AllPairs (λ a b. a.place ≢ b.place) trail
  front_once trail h = pairs_unmapped (λ x. x.place) (λ p q. p ≢ q) trail (front_pairs (λ p q. p ≢ q) (places_of trail) (files_there root o ns) h there_apart)

module _ (further : Further) (root : StorageRoot) (o : Place) (z : zone root o ≡ inside o []) (ns : List Text) (meta : list_all (λ n. is_object_meta (n ∷ [])) ns ≡ true) (apart : AllPairs (λ n m. n ≢ m) ns) where
  there_meta : (ms : List Text) → list_all (λ n. is_object_meta (n ∷ [])) ms ≡ true → list_all (is_meta further root) (files_there root o ms) ≡ true
  there_meta [] h = refl
  there_meta (m ∷ ms) h = by (is_object_meta (m ∷ [])) refl h (is_some (file_at root (o ++ m ∷ []))) (there_meta ms)
    where
      by : (b : Bool) → is_object_meta (m ∷ []) ≡ b → b && list_all (λ n. is_object_meta (n ∷ [])) ms ≡ true → (c : Bool)
          → (list_all (λ n. is_object_meta (n ∷ [])) ms ≡ true → list_all (is_meta further root) (files_there root o ms) ≡ true)
          → list_all (is_meta further root) (map (λ n. o ++ n ∷ []) (cond c (m ∷ filter (λ n. is_some (file_at root (o ++ n ∷ []))) ms) (filter (λ n. is_some (file_at root (o ++ n ∷ []))) ms))) ≡ true
      by false e k c rest = absurd (true_not_false (sym k))
      by true e k false rest = rest k
      by true e k true rest = ap (λ b. b && list_all (is_meta further root) (files_there root o ms)) (file_is_meta further root o m z e) ∙ rest k

  front_all : (xs ys : List Place) → list_all (is_meta further root) (xs ++ ys) ≡ true → list_all (is_meta further root) xs ≡ true
  front_all [] ys h = refl
  front_all (x ∷ xs) ys h = by (is_meta further root x) h (front_all xs ys)
    where
      by : (b : Bool) → b && list_all (is_meta further root) (xs ++ ys) ≡ true → (list_all (is_meta further root) (xs ++ ys) ≡ true → list_all (is_meta further root) xs ≡ true) → b && list_all (is_meta further root) xs ≡ true
      by true k rest = rest k
      by false k rest = k

  no_content : (trail : List Opening) → list_all (is_meta further root) (places_of trail) ≡ true → content_trail further root trail ≡ []
  no_content [] h = refl
  no_content (x ∷ trail) h = by (is_meta further root x.place) h (no_content trail)
    where
      by : (b : Bool) → b && list_all (is_meta further root) (places_of trail) ≡ true → (list_all (is_meta further root) (places_of trail) ≡ true → content_trail further root trail ≡ [])
          → map (λ y. y.place) (cond (not b) (x ∷ filter (λ y. not (is_meta further root y.place)) trail) (filter (λ y. not (is_meta further root y.place)) trail)) ≡ []
      by true k rest = rest k
      by false k rest = absurd (true_not_false (sym k))

  pub front_are_meta : (trail : List Opening) → IsFront (places_of trail) (files_there root o ns) → AreMeta further root trail
  front_are_meta trail h = record {
    meta = no_content trail (front_all (places_of trail) h.0 (ap (list_all (is_meta further root)) (sym h.1) ∙ there_meta ns meta));
    once = front_once root o ns apart trail h;
  }

  abbrev pub some_is_meta : (s t : Store) → ReadsSome further root s t o ns → ReadsMeta further root s t
  some_is_meta s t h = record { over = h.over; trail = h.trail; did = h.did; read = h.read; meta = front_are_meta h.trail h.opened }

  abbrev pub stop_is_meta : (s t : Store) (why : Fault) → FilesStop further root s t o ns why → SeekStops further root s t [] why
  stop_is_meta s t why h = record { trail = h.trail; stops = h.stops; meta = front_are_meta h.trail h.opened }
