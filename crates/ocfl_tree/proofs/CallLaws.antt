-- What each call of a store does, in other words.
use Rattle.std.proofs.Common.{◌≡◌, ◌≢◌, ℕ, ◌+◌, ◌<◌, ◌≤◌, true, false, List, [], ◌∷◌, ◌++◌, None, Some, length, refl, ap, ◌∙◌, append-nil, arith}
use Rattle.ocfl_tree.specs.{Place.{Text, Place as Spot}, StorageRoot.{file, dir, at}}
use Rattle.ocfl_tree.specs.{Listing.{kind_in, kind_at}, Ascending.{IsAmong}}
use Rattle.ocfl_tree.specs.Store.{Store, Did, failed_openings}
use Rattle.ocfl_tree.specs.Calls.{opening, change_last, with_given, with_failure, Lists, ListFails, Opens, OpenFails, Reads, ReadFails, Closes}
use Rattle.ocfl_tree.specs.{declared.store.Entry.{Entry}, declared.store.Opening.{Opening}}
use Rattle.ocfl_tree.specs.declared.store.Trouble.{Trouble}
use Rattle.ocfl_tree.specs.declared.store.Trouble.TheVariants.{Device, Absent, Memory}
use Rattle.ocfl_tree.proofs.{Lists.{change_last-append}, Stores.{listed_well, listing_failed}}

none_more : (a b : ℕ) → b ≡ a + 0 → b ≡ a
none_more a b e = omega (arith, e)

-- what is after a call that did nothing and left no file open
abbrev IsClosed : Store → Store → Type 0
IsClosed s t = (t.tree ≡ s.tree)
    × ((t.openings ≡ s.openings) × ((t.listings ≡ s.listings) × ((t.failures ≡ s.failures) × ((t.rest ≡ None) × (t.largest ≡ s.largest)))))

did_nothing : (s t : Store) → Did s t [] [] 0 → t.rest ≡ None → t.largest ≡ s.largest → IsClosed s t
did_nothing s t did closed largest = (
  did.tree,
  ((did.openings_are ∙ append-nil s.openings), ((did.listings_are ∙ append-nil s.listings), ((none_more s.failures t.failures did.failures_are), (closed, largest)))),
)

pub call_listed : (s t : Store) (p : Spot) (es : List Entry) → Lists s t p es → (at s.tree p ≡ Some dir)
    × (((n : Text) → kind_in es n ≡ kind_at s.tree p n)
    × ((t.tree ≡ s.tree) × ((t.openings ≡ s.openings) × ((t.listings ≡ s.listings ++ p ∷ []) × ((t.failures ≡ s.failures) × ((t.rest ≡ s.rest) × (t.largest ≡ s.largest)))))))
call_listed s t p es h = (
  h.entries.directory,
  (h.entries.each, (h.did.tree, ((h.did.openings_are ∙ append-nil s.openings), (h.did.listings_are, ((none_more s.failures t.failures h.did.failures_are), (h.rest, h.largest)))))),
)

pub call_unlisted : (s t : Store) (p : Spot) → ListFails s t p Device → (t.tree ≡ s.tree)
    × ((t.openings ≡ s.openings) × ((t.listings ≡ s.listings ++ p ∷ []) × ((t.failures ≡ s.failures + 1) × ((t.rest ≡ None) × (t.largest ≡ s.largest)))))
call_unlisted s t p h = (h.fails.did.tree, ((h.fails.did.openings_are ∙ append-nil s.openings), (h.fails.did.listings_are, (h.fails.did.failures_are, (h.fails.closed, h.fails.largest)))))

pub call_no_directory : (s t : Store) (p : Spot) → ListFails s t p Absent → (at s.tree p ≢ Some dir) × IsClosed s t
call_no_directory s t p h = (h.absent refl, did_nothing s t h.fails.did h.fails.closed h.fails.largest)

pub call_no_memory : (s t : Store) (p : Spot) → ListFails s t p Memory → IsClosed s t
call_no_memory s t p h = did_nothing s t h.fails.did h.fails.closed h.fails.largest

pub call_opened : (s t : Store) (p : Spot) → Opens s t p → (bytes : Text)
    × ((at s.tree p ≡ Some (file bytes))
    × ((t.rest ≡ Some bytes) × ((t.tree ≡ s.tree) × ((t.openings ≡ s.openings ++ opening p 0 false ∷ []) × ((t.listings ≡ s.listings) × ((t.failures ≡ s.failures) × (t.largest ≡ s.largest)))))))
call_opened s t p h = (
  h.bytes,
  (h.is_file, (h.rest, (h.did.tree, (h.did.openings_are, ((h.did.listings_are ∙ append-nil s.listings), ((none_more s.failures t.failures h.did.failures_are), h.largest)))))),
)

pub call_unopened : (s t : Store) (p : Spot) → OpenFails s t p Device → (t.tree ≡ s.tree)
    × ((t.openings ≡ s.openings ++ opening p 0 true ∷ []) × ((t.listings ≡ s.listings) × ((t.failures ≡ s.failures + 1) × ((t.rest ≡ None) × (t.largest ≡ s.largest)))))
call_unopened s t p h = (h.fails.did.tree, (h.fails.did.openings_are, ((h.fails.did.listings_are ∙ append-nil s.listings), (h.fails.did.failures_are, (h.fails.closed, h.fails.largest)))))

pub call_no_file : (s t : Store) (p : Spot) → OpenFails s t p Absent → ((bytes : Text) → at s.tree p ≢ Some (file bytes)) × IsClosed s t
call_no_file s t p h = (h.absent refl, did_nothing s t h.fails.did h.fails.closed h.fails.largest)

pub call_read : (s t : Store) (bytes : Text) (room : ℕ) → Reads s t bytes room → (left : Text)
    × ((s.rest ≡ Some (bytes ++ left)) × ((t.rest ≡ Some left) × ((bytes ≡ [] → 0 < room → left ≡ []) × ((t.tree ≡ s.tree) × ((t.listings ≡ s.listings) × (t.failures ≡ s.failures))))))
call_read s t bytes room h = (h.left, (h.before, (h.after, (h.end, (h.tree, (h.listings_are, h.failures_are))))))

pub call_given : (s t : Store) (bytes : Text) (room : ℕ) (front : List Opening) (o : Opening) → Reads s t bytes room → s.openings ≡ front ++ o ∷ []
    → t.openings ≡ front ++ record o { given = o.given + length bytes } ∷ []
call_given s t bytes room front o h e = h.openings_are ∙ ap (change_last (with_given (length bytes))) e ∙ change_last-append (with_given (length bytes)) front o

pub call_unread : (s t : Store) → ReadFails s t Device → (s.rest ≢ None) × ((t.rest ≡ None) × ((t.tree ≡ s.tree) × ((t.listings ≡ s.listings) × (t.failures ≡ s.failures + 1))))
call_unread s t h = ((h.device refl).0, (h.closed, (h.tree, (h.listings_are, h.failures_are))))

pub call_failed : (s t : Store) (front : List Opening) (o : Opening) → ReadFails s t Device → s.openings ≡ front ++ o ∷ [] → t.openings ≡ front ++ record o { failed = true } ∷ []
call_failed s t front o h e = (h.device refl).1 ∙ ap (change_last with_failure) e ∙ change_last-append with_failure front o

pub call_nothing_open : (s t : Store) → ReadFails s t Absent → (s.rest ≡ None)
    × ((t.rest ≡ None) × ((t.tree ≡ s.tree) × ((t.openings ≡ s.openings) × ((t.listings ≡ s.listings) × (t.failures ≡ s.failures)))))
call_nothing_open s t h = ((h.absent refl).0, (h.closed, (h.tree, ((h.absent refl).1, (h.listings_are, (none_more s.failures t.failures h.failures_are))))))

pub call_closed : (s t : Store) → Closes s t → IsClosed s t
call_closed s t h = did_nothing s t h.did h.closed h.largest

-- ---- which listings failed

pub listed_none_failed : (s t : Store) (p : Spot) (es : List Entry) → Lists s t p es → t.failed_listings ≡ s.failed_listings
listed_none_failed s t p es h = listed_well s t [] (p ∷ []) 0 (omega arith) h.did

pub unlisted_failed : (s t : Store) (p : Spot) → ListFails s t p Device → t.failed_listings ≡ s.failed_listings ++ p ∷ []
unlisted_failed s t p h = listing_failed s t p h.fails.did

pub absent_none_failed : (s t : Store) (p : Spot) → ListFails s t p Absent → t.failed_listings ≡ s.failed_listings
absent_none_failed s t p h = listed_well s t [] [] 0 (omega arith) h.fails.did

pub memory_none_failed : (s t : Store) (p : Spot) → ListFails s t p Memory → t.failed_listings ≡ s.failed_listings
memory_none_failed s t p h = listed_well s t [] [] 0 (omega arith) h.fails.did

pub opened_none_failed : (s t : Store) (p : Spot) → Opens s t p → t.failed_listings ≡ s.failed_listings
opened_none_failed s t p h = listed_well s t (opening p 0 false ∷ []) [] 0 (omega arith) h.did

pub unopened_none_failed : (s t : Store) (p : Spot) (why : Trouble) → OpenFails s t p why → t.failed_listings ≡ s.failed_listings
unopened_none_failed s t p Device h = listed_well s t (opening p 0 true ∷ []) [] 1 (let one : 1 ≤ 1 = omega arith in one) h.fails.did
unopened_none_failed s t p Absent h = listed_well s t [] [] 0 (omega arith) h.fails.did
unopened_none_failed s t p Memory h = listed_well s t [] [] 0 (omega arith) h.fails.did

pub read_none_failed : (s t : Store) (bytes : Text) (room : ℕ) → Reads s t bytes room → t.failed_listings ≡ s.failed_listings
read_none_failed s t bytes room h = h.failed_are

pub unread_none_failed : (s t : Store) (why : Trouble) → ReadFails s t why → t.failed_listings ≡ s.failed_listings
unread_none_failed s t why h = h.failed_listings_are

pub closed_none_failed : (s t : Store) → Closes s t → t.failed_listings ≡ s.failed_listings
closed_none_failed s t h = listed_well s t [] [] 0 (omega arith) h.did

-- what calls did together: each failure is told by an opening or a listing
pub each_failure_is_told : (s t : Store) (os : List Opening) (ls : List Spot) (f : ℕ) → Did s t os ls f → (failed : List Spot)
    × ((t.failed_listings ≡ s.failed_listings ++ failed) × (((p : Spot) → IsAmong failed p → IsAmong ls p) × (f ≡ failed_openings os + length failed)))
each_failure_is_told s t os ls f h = (h.failed, (h.failed_are, (h.failed_among, h.each_failed)))
