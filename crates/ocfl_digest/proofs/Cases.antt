-- Worked cases: names of algorithms, digests, and what reading a file tells of a store.
use Rattle.std.proofs.Common.{◌≡◌, ℕ, ◌≤◌, ◌<◌, List, [], ◌∷◌, codes, length, refl, ap, arith, Option, Some, None, true, false, if◌then◌else◌}
use Rattle.md5.specs.Md5 as m5
use Rattle.ocfl_tree.specs.{Place.{Text, Place}, StorageRoot.{StorageRoot, file}, Store.{Store, Did, empty_store}, Calls.{opening}}
use Rattle.ocfl_tree.specs.declared.store.Opening.{Opening}
use Rattle.ocfl_tree.specs.declared.store.Trouble.TheVariants as trouble
use Rattle.ocfl_digest.specs.{Algorithm.{algorithm_named}, Digests.{digest_in, AreDigests, AreDigestsOfSome}, Digest.{digest_bytes_of}, Wanted.{wants}, Stop.{cause_of}}
use Rattle.ocfl_digest.specs.Bounded.{small_block, ReadsBounded, IsStopTrail, StopsReading}
use Rattle.ocfl_digest.specs.Hashing.{HashesFile, stop_trail, stop_failures, StopFits, StopsHashing}
use Rattle.ocfl_digest.specs.declared.algorithm.Algorithm.{Algorithm}
use Rattle.ocfl_digest.specs.{declared.digests.Digests.{Digests}, declared.wanted.Wanted.{Wanted}}
use Rattle.ocfl_digest.specs.declared.algorithm.Algorithm.TheVariants.{Md5, Sha1, Sha256, Sha512, Sha512_256}
use Rattle.ocfl_digest.specs.declared.bounded.Bounded.TheVariants.{Over}
use Rattle.ocfl_digest.specs.declared.stop.Cause.TheVariants.{Device, Absent, TooLong}

-- ---- algorithms

algorithms_by_name : (algorithm_named (codes "sha512/256") ≡ Some Sha512_256) × (algorithm_named (codes "MD5") ≡ None) × (algorithm_named (codes "blake2b-512") ≡ None)
algorithms_by_name = (refl, refl, refl)

-- ---- digests

abbrev no_algorithms : Wanted
no_algorithms = record { md5 = false; sha1 = false; sha256 = false; sha512 = false; sha512_256 = false }

abbrev no_digests : Digests
no_digests = record { md5 = None; sha1 = None; sha256 = None; sha512 = None; sha512_256 = None }

none_of_no_algorithms : AreDigests no_algorithms (codes "abc") no_digests
none_of_no_algorithms = record { each = each }
  where
    each : (a : Algorithm) → digest_in no_digests a ≡ (if wants no_algorithms a then Some (digest_bytes_of a (codes "abc")) else None)
    each Md5 = refl
    each Sha1 = refl
    each Sha256 = refl
    each Sha512 = refl
    each Sha512_256 = refl

-- the MD5 of `a` (RFC 1321, A.5), which is not that of no bytes
abbrev digest_of_a : Digests
digest_of_a = record no_digests { md5 = Some (0x0c ∷ 0xc1 ∷ 0x75 ∷ 0xb9 ∷ 0xc0 ∷ 0xf1 ∷ 0xb6 ∷ 0xa8 ∷ 0x31 ∷ 0xc3 ∷ 0x99 ∷ 0xe2 ∷ 0x69 ∷ 0x77 ∷ 0x26 ∷ 0x61 ∷ []) }

abbrev first_of : Option (List ℕ) → ℕ
first_of None = 0
first_of (Some []) = 0
first_of (Some (b ∷ bs)) = b

digest_of_a_is_of_some_bytes : AreDigestsOfSome (record no_algorithms { md5 = true }) digest_of_a 0 → ⊥
unfolding m5.block_words m5.rounds m5.compress m5.hash_after m5.digest_bytes m5.md5
digest_of_a_is_of_some_bytes h = by h.bytes h.length_is (h.digests.each Md5)
  where
    by : (bytes : Text) → length bytes ≡ 0 → digest_of_a.md5 ≡ Some (m5.md5 bytes) → ⊥
    by [] n e = let k : 0x0c ≡ 0xd4 = ap first_of e in omega (arith, k)
    by (b ∷ bs) n e = omega (arith, n)

-- ---- what reading tells

abbrev f : Place
f = codes "f" ∷ []

abbrev tree : StorageRoot
tree = (f, file (codes "abc")) ∷ []

-- a store of that tree, of which nothing was asked
abbrev unread : Store
unread = record empty_store { tree = tree }

-- the same after one opening, some failures and a largest read
abbrev after : Opening → ℕ → ℕ → Store
after o failures largest = record unread { openings = o ∷ []; failures = failures; largest = largest }

one_opening : (n largest : ℕ) → Did unread (after (opening f n false) 0 largest) (opening f n false ∷ []) [] 0
one_opening n largest = record {
  tree = refl;
  openings_are = refl;
  listings_are = refl;
  failures_are = refl;
  failed = [];
  failed_are = refl;
  failed_among = λ _ i. i;
  each_failed = refl;
}

one_failed_opening : (n largest : ℕ) → Did unread (after (opening f n true) 1 largest) (opening f n true ∷ []) [] 1
one_failed_opening n largest = record {
  tree = refl;
  openings_are = refl;
  listings_are = refl;
  failures_are = refl;
  failed = [];
  failed_are = refl;
  failed_among = λ _ i. i;
  each_failed = refl;
}

-- ---- reading within a limit

bytes_read_at_once : small_block ≡ 4096
bytes_read_at_once = refl

-- of the three bytes the third shows that there are more than two
one_byte_past_the_limit : ReadsBounded tree unread (after (opening f 3 false) 0 3) f 2 Over
one_byte_past_the_limit = record {
  bytes = codes "abc";
  is_file = refl;
  is_bounded = let more : 2 < 3 = omega arith in more;
  did = one_opening 3 3;
  closed = refl;
  largest = refl;
}

absent_file_is_not_shown : IsStopTrail f 2 trouble.Absent []
absent_file_is_not_shown = refl

device_is_not_absent : trouble.Device ≡ trouble.Absent → ⊥
device_is_not_absent e = cc

failed_opening_is_a_failure : StopsReading tree unread (after (opening f 0 true) 1 0) f 2 trouble.Device
failed_opening_is_a_failure = record {
  openings = opening f 0 true ∷ [];
  opened = (0, (let few : 0 ≤ 2 = omega arith in few), refl);
  did = one_failed_opening 0 0;
  absent = λ e. absurd (device_is_not_absent e);
  closed = refl;
  largest = let few : 0 ≤ 4096 = omega arith in few;
}

-- ---- hashing

hashed_by_no_algorithm : HashesFile tree unread (after (opening f 3 false) 0 65536) f no_algorithms no_digests 3
hashed_by_no_algorithm = record {
  bytes = codes "abc";
  is_file = refl;
  digests = none_of_no_algorithms;
  length_is = refl;
  did = one_opening 3 65536;
  closed = refl;
  largest = refl;
}

too_long_file_was_opened : stop_trail f 3 TooLong ≡ opening f 3 false ∷ []
too_long_file_was_opened = refl

too_long_file_is_no_failure : stop_failures TooLong ≡ 0
too_long_file_is_no_failure = refl

some_is_not_none : {A : Type 0} (x : A) → Some x ≡ None → ⊥
some_is_not_none x e = cc

file_that_is_there_is_not_absent : StopFits tree f 0 Absent → ⊥
file_that_is_there_is_not_absent h = some_is_not_none (codes "abc") h.0

stopped_in_a_large_read : StopsHashing tree unread (after (opening f 0 true) 1 65536) f 0 Device
stopped_in_a_large_read = record {
  fits = λ bytes e. let few : 0 ≤ length bytes = omega arith in few;
  did = one_failed_opening 0 65536;
  closed = refl;
  largest = let few : 65536 ≤ 65536 = omega arith in few;
}

cause_of_an_absent_file : cause_of trouble.Absent ≡ Absent
cause_of_an_absent_file = refl
