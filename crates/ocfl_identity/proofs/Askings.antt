-- What a store is asked while declarations are read.
use Rattle.std.proofs.Common.{◌≡◌, ◌⊎◌, inl, inr, ◌∙◌, ℕ, suc, zero, true, false, List, [], ◌∷◌, ◌++◌, drop, length, refl, sym, ap, subst, Option, Some, None, Result, Ok, Err, append_assoc, append-nil}
use Rattle.std.specs.{Prelude.{IfErr, String, string_bytes}, Option.{option_map}}
use Rattle.std.specs.declared.alloc.Global.{Global}
use Rattle.ocfl_tree.specs.{Place.{Text, Place}, Ascending.{IsAmong}, StorageRoot.{StorageRoot, file_at}}
use Rattle.ocfl_tree.specs.{Store.{Store, Did}, Calls.{ListFails, opening}, declared.store.Opening.{Opening}}
use Rattle.ocfl_tree.specs.declared.store.Trouble.{Trouble}
use Rattle.ocfl_tree.specs.declared.store.Trouble.TheVariants as trouble
use Rattle.ocfl_tree.proofs.{Orders.{among_left, among_right}, Stores.{among_either, did_nothing, did_then}}
use Rattle.ocfl_digest.specs.{Hashing.{StopsHashing}, declared.stop.Cause.{Cause}}
use Rattle.ocfl_digest.specs.declared.stop.Cause.TheVariants.{Device, Absent, Memory, TooLong}
use Rattle.ocfl_identity.specs.Identity.{AreNamed, IsUnread, in_listing, in_opening, too_long, OpensFirst, digits_of, opened_then, openings_of}

-- the openings of the names before an index were made
pub record AreOpened (root : StorageRoot) (s t : Store) (names : List Text) (start : ℕ) : Type 0 where
  pub done : List Opening
  pub did : Did s t done [] 0
  pub is : done ++ openings_of root (drop start names) ≡ openings_of root names

-- those of the first name, if its file is there
opens_first : (root : StorageRoot) (n : Text) (names : List Text) (bytes : Text) → file_at root (n ∷ []) ≡ Some bytes
    → openings_of root (n ∷ []) ++ openings_of root names ≡ openings_of root (n ∷ names)
opens_first root n names bytes e = ap (λ o. opened_then n o [] ++ openings_of root names) e ∙ sym (ap (λ o. opened_then n o (openings_of root names)) e)

-- and if it is not
opens_none : (root : StorageRoot) (n : Text) (names : List Text) → file_at root (n ∷ []) ≡ None → openings_of root (n ∷ names) ≡ []
opens_none root n names e = ap (λ o. opened_then n o (openings_of root names)) e

pub opened_next : (root : StorageRoot) (s t u : Store) (names rest : List Text) (n : Text) (i j : ℕ) (bytes : Text) → AreOpened root s t names i
    → drop i names ≡ n ∷ rest → drop j names ≡ rest → file_at root (n ∷ []) ≡ Some bytes → Did t u (openings_of root (n ∷ [])) [] 0
    → AreOpened root s u names j
opened_next root s t u names rest n i j bytes h first then there did = record {
  done = h.done ++ openings_of root (n ∷ []);
  did = did_then s t u h.done (openings_of root (n ∷ [])) [] [] 0 h.did did;
  is = append_assoc h.done (openings_of root (n ∷ [])) (openings_of root (drop j names))
      ∙ ap (λ ns. h.done ++ (openings_of root (n ∷ []) ++ openings_of root ns)) then
      ∙ ap (λ os. h.done ++ os) (opens_first root n rest bytes there)
      ∙ ap (λ ns. h.done ++ openings_of root ns) (sym first) ∙ h.is;
}

pub opened_all : (root : StorageRoot) (s t : Store) (names : List Text) (i : ℕ) → AreOpened root s t names i → drop i names ≡ [] → Did s t (openings_of root names) [] 0
opened_all root s t names i h end = subst (λ os. Did s t os [] 0) (sym (append-nil h.done) ∙ ap (λ ns. h.done ++ openings_of root ns) (sym end) ∙ h.is) h.did

pub opened_some : (root : StorageRoot) (s t u : Store) (names rest : List Text) (n : Text) (i : ℕ) → AreOpened root s t names i → drop i names ≡ n ∷ rest
    → file_at root (n ∷ []) ≡ None → Did t u (openings_of root (n ∷ [])) [] 0 → Did s u (openings_of root names) [] 0
opened_some root s t u names rest n i h first gone did =
    let nothing : Did t u [] [] 0 = subst (λ os. Did t u os [] 0) (opens_none root n [] gone) did in
    subst (λ os. Did s u os [] 0)
    (ap (λ os. h.done ++ os) (sym (opens_none root n rest gone) ∙ ap (openings_of root) (sym first)) ∙ h.is)
    (did_then s t u h.done [] [] [] 0 h.did nothing)

-- ---- which files are opened

one_named : (n : Text) (o : Opening) → o.place ≡ n ∷ [] → AreNamed (n ∷ []) (o ∷ [])
one_named n o at x (inl is) = (n, (inl refl, ap (λ (y : Opening). y.place) is ∙ at))
one_named n o at x (inr none) = absurd none

both_named : (names : List Text) (xs ys : List Opening) → AreNamed names xs → AreNamed names ys → AreNamed names (xs ++ ys)
both_named names xs ys first then o is = by (among_either xs ys o is)
  where
    by : IsAmong xs o ⊎ IsAmong ys o → (n : Text) × (IsAmong names n × (o.place ≡ n ∷ []))
    by (inl i) = first o i
    by (inr i) = then o i

pub opens_named : (root : StorageRoot) (names : List Text) → AreNamed names (openings_of root names)
opens_named root [] o is = absurd is
opens_named root (n ∷ names) o is = by (opens_named root names o) (file_at root (n ∷ [])) is
  where
    by : (IsAmong (openings_of root names) o → (m : Text) × (IsAmong names m × (o.place ≡ m ∷ []))) → (file : Option Text) → IsAmong (opened_then n file (openings_of root names)) o → (m : Text) × (IsAmong (n ∷ names) m × (o.place ≡ m ∷ []))
    by later None none = absurd none
    by later (Some bytes) (inl it) = (n, (inl refl, ap (λ (y : Opening). y.place) it))
    by later (Some bytes) (inr more) = let k = later more in (k.0, (inr k.1.0, k.1.1))

-- the name at an index is one of them
name_at : (names : List Text) (n : Text) (rest : List Text) (i : ℕ) → drop i names ≡ n ∷ rest → IsAmong names n
name_at [] n rest zero is = absurd (cc is)
name_at [] n rest (suc i) is = absurd (cc is)
name_at (m ∷ names) n rest zero is = inl (cc is)
name_at (m ∷ names) n rest (suc i) is = inr (name_at names n rest i is)

-- what is opened of one of them
among_named : (names : List Text) (n : Text) (os : List Opening) → IsAmong names n → AreNamed (n ∷ []) os → AreNamed names os
among_named names n os there one o is = by (one o is)
  where
    by : (m : Text) × (IsAmong (n ∷ []) m × (o.place ≡ m ∷ [])) → (m : Text) × (IsAmong names m × (o.place ≡ m ∷ []))
    by (m, (inl same, at)) = (n, (there, at ∙ ap (λ (x : Text). x ∷ []) same))
    by (m, (inr none, at)) = absurd none

-- those of the first of them
first_named : (root : StorageRoot) (s t : Store) (names : List Text) (i : ℕ) (h : AreOpened root s t names i) → AreNamed names h.done
first_named root s t names i h o is =
    opens_named root names o (subst (λ os. IsAmong os o) h.is (among_left h.done (openings_of root (drop i names)) o is))

-- ---- one file

pub file_hashed : (root : StorageRoot) (s t : Store) (n : Text) (p : Place) (given : ℕ) (bytes : Text) → p ≡ n ∷ [] → file_at root p ≡ Some bytes → given ≡ length bytes
    → Did s t (opening p given false ∷ []) [] 0 → Did s t (openings_of root (n ∷ [])) [] 0
file_hashed root s t n p given bytes at there all did =
    let here : file_at root (n ∷ []) ≡ Some bytes = ap (file_at root) (sym at) ∙ there in
    subst (λ os. Did s t os [] 0)
    (ap (λ q. opening q given false ∷ []) at ∙ ap (λ m. opening (n ∷ []) m false ∷ []) all ∙ sym (ap (λ o. opened_then n o []) here)) did

pub file_absent : (root : StorageRoot) (s t : Store) (n : Text) (p : Place) (given : ℕ) (cause : Cause) → p ≡ n ∷ [] → cause ≡ Absent → StopsHashing root s t p given cause
    → Did s t (openings_of root (n ∷ [])) [] 0
file_absent root s t n p given cause at is h =
    let stops : StopsHashing root s t p given Absent = subst (StopsHashing root s t p given) is h in
    let gone : file_at root (n ∷ []) ≡ None = ap (file_at root) (sym at) ∙ stops.fits.0 in
    subst (λ os. Did s t os [] 0) (sym (opens_none root n [] gone)) stops.did

pub file_unread : (root : StorageRoot) (s t : Store) (n : Text) (p q : Place) (given : ℕ) (cause : Cause) → p ≡ n ∷ [] → (cause ≡ Device) ⊎ (cause ≡ TooLong) → p ≡ q → StopsHashing root s t p given cause
    → IsUnread root s t (n ∷ []) [] q
file_unread root s t n p q given cause at (inl is) e h =
    let stops : StopsHashing root s t p given Device = subst (StopsHashing root s t p given) is h in
    in_opening [] given (one_named n (opening q given true) (sym e ∙ at)) (subst (λ x. Did s t (opening x given true ∷ []) [] 1) e stops.did)
file_unread root s t n p q given cause at (inr is) e h =
    let stops : StopsHashing root s t p given TooLong = subst (StopsHashing root s t p given) is h in
    too_long stops.fits.0 (ap (file_at root) (sym e) ∙ stops.fits.1) stops.fits.2

pub gone_file : (found : Option (String Global)) (file : Option Text) → found ≡ None → option_map string_bytes found ≡ digits_of file → file ≡ None
gone_file found None none e = refl
gone_file found (Some bytes) none e = absurd (let both = ap (option_map string_bytes) (sym none) ∙ e in cc)

pub file_there : (found : Option (String Global)) (digits : String Global) (file : Option Text) → found ≡ Some digits → option_map string_bytes found ≡ digits_of file
    → (bytes : Text) × (file ≡ Some bytes)
file_there found digits None some e = absurd (let both = ap (option_map string_bytes) (sym some) ∙ e in cc)
file_there found digits (Some bytes) some e = (bytes, refl)

-- ---- a place that could not be read

pub unread_behind : (root : StorageRoot) (s t u : Store) (names few : List Text) (done : List Opening) (first listed : List Place) (p : Place) → AreNamed names done → ((os : List Opening) → AreNamed few os → AreNamed names os) → Did s t done first 0 → IsUnread root t u few [] p
    → first ≡ listed → IsUnread root s u names listed p
unread_behind root s t u names few done first listed p named more h (in_listing top is did) e = let two : [] ≡ p ∷ [] = is in cc
unread_behind root s t u names few done first listed p named more h (in_opening before given are did) e =
    in_opening (done ++ before) given
    (subst (AreNamed names) (sym (append_assoc done before (opening p given true ∷ []))) (both_named names done (before ++ opening p given true ∷ []) named (more (before ++ opening p given true ∷ []) are)))
    (subst (λ ls. Did s u ((done ++ before) ++ opening p given true ∷ []) ls 1) (append-nil first ∙ e)
    (subst (λ os. Did s u os (first ++ []) 1) (sym (append_assoc done before (opening p given true ∷ [])))
    (did_then s t u done (before ++ opening p given true ∷ []) first [] 1 h did)))
unread_behind root s t u names few done first listed p named more h (too_long bytes is long) e = too_long bytes is long

-- the next of them could not be
pub unread_next : (root : StorageRoot) (s t u : Store) (names rest : List Text) (n : Text) (i : ℕ) (p : Place) (h : AreOpened root s t names i) → drop i names ≡ n ∷ rest → IsUnread root t u (n ∷ []) [] p → IsUnread root s u names [] p
unread_next root s t u names rest n i p h first unread =
    unread_behind root s t u names (n ∷ []) h.done [] [] p (first_named root s t names i h) (λ os one. among_named names n os (name_at names n rest i first) one) h.did unread refl

-- after the listing of the top folder
pub opened_listed : (s t u : Store) (p : Place) (os : List Opening) → p ≡ [] → Did s t [] (p ∷ []) 0 → Did t u os [] 0 → Did s u os ([] ∷ []) 0
opened_listed s t u p os top h did = did_then s t u [] os ([] ∷ []) [] 0 (subst (λ q. Did s t [] (q ∷ []) 0) top h) did

pub unread_listed : (root : StorageRoot) (s t u : Store) (names few : List Text) (p q : Place) → p ≡ [] → few ≡ names → Did s t [] (p ∷ []) 0 → IsUnread root t u few [] q → IsUnread root s u names ([] ∷ []) q
unread_listed root s t u names few p q top same h unread =
    unread_behind root s t u names few [] ([] ∷ []) ([] ∷ []) q (λ o none. absurd none) (λ os are. subst (λ ns. AreNamed ns os) same are) (subst (λ x. Did s t [] (x ∷ []) 0) top h) unread refl

-- with nothing after it
pub listed_alone : (s t u : Store) (p : Place) → p ≡ [] → Did s t [] (p ∷ []) 0 → u ≡ t → Did s u [] ([] ∷ []) 0
listed_alone s t u p top h same = subst (λ x. Did s x [] ([] ∷ []) 0) (sym same) (subst (λ q. Did s t [] (q ∷ []) 0) top h)

-- ---- memory that was refused

pub err_always : {A E : Type 0} (r : Result A E) {P : E → Type 0} → ((e : E) → P e) → IfErr r P
err_always (Ok x) all = tt
err_always (Err e) all = all e

pub first_none : (s : Store) (os : List Opening) → OpensFirst s s os []
first_none s os = record { made = []; rest = os; are = refl; did = did_nothing s }

pub first_all : {s t : Store} {os : List Opening} {listed : List Place} → Did s t os listed 0 → OpensFirst s t os listed
first_all {os = os} did = record { made = os; rest = []; are = append-nil os; did = did }

-- of one file
pub first_file : (root : StorageRoot) (s t : Store) (n : Text) (p : Place) (given : ℕ) (cause : Cause) → cause ≡ Memory → StopsHashing root s t p given cause
    → OpensFirst s t (openings_of root (n ∷ [])) []
first_file root s t n p given cause is h =
    let stops : StopsHashing root s t p given Memory = subst (StopsHashing root s t p given) is h in
    record { made = []; rest = openings_of root (n ∷ []); are = refl; did = stops.did }

-- what begins the openings of one name begins those of more
first_then : (n : Text) (file : Option Text) (made rest later : List Opening) → made ++ rest ≡ opened_then n file [] → (more : List Opening) × (made ++ more ≡ opened_then n file later)
first_then n None made rest later are = (rest, are)
first_then n (Some bytes) made rest later are = (rest ++ later, sym (append_assoc made rest later) ∙ ap (λ os. os ++ later) are)

pub first_names : (root : StorageRoot) (s t u : Store) (names rest : List Text) (n : Text) (i : ℕ) → AreOpened root s t names i → drop i names ≡ n ∷ rest
    → OpensFirst t u (openings_of root (n ∷ [])) [] → OpensFirst s u (openings_of root names) []
first_names root s t u names rest n i h first one =
    let then = first_then n (file_at root (n ∷ [])) one.made one.rest (openings_of root rest) one.are in
    record {
      made = h.done ++ one.made;
      rest = then.0;
      are = append_assoc h.done one.made then.0 ∙ ap (λ os. h.done ++ os) (then.1 ∙ ap (openings_of root) (sym first)) ∙ h.is;
      did = did_then s t u h.done one.made [] [] 0 h.did one.did;
    }

-- after the listing of the top folder
pub first_listed : (s t u : Store) (p : Place) (os all : List Opening) → p ≡ [] → os ≡ all → Did s t [] (p ∷ []) 0 → OpensFirst t u os [] → OpensFirst s u all ([] ∷ [])
first_listed s t u p os all top same h one = record { made = one.made; rest = one.rest; are = one.are ∙ same; did = opened_listed s t u p one.made top h one.did }

-- and if that was refused
pub list_refused : (s t : Store) (p : Place) (why : Trouble) → why ≡ trouble.Memory → ListFails s t p why → Did s t [] [] 0
list_refused s t p why is h = let fails : ListFails s t p trouble.Memory = subst (ListFails s t p) is h in fails.fails.did
