-- The disk that loses the most that the calls allow keeps the laws of a disk.
use Rattle.std.proofs.Common.{◌≡◌, ◌≢◌, ◌⊎◌, inl, inr, ⊎_elim, ℕ, ◌+◌, ◌≤◌, Bool, true, false, ◌==◌, not, List, [], ◌∷◌, ◌++◌, Option, Some, None, refl, sym, ◌∙◌, subst, ap, arith}
use Rattle.std.specs.Prelude.{IsTrue, if◌then◌else◌}
use Rattle.std.proofs.lemmas.Bool.{and_from, and_parts, eq-eqb, eqb-true, ne_eqb, or_cases, or_left, or_right}
use Rattle.std.proofs.lemmas.Option.{none-some}
use Rattle.ocfl_state.specs.Content.{Bytes}
use Rattle.ocfl_disk.specs.Names.{ClosedName, Names, Stored, IsNoClosed, IsApart, IsNameless, close_over, closed_names}
use Rattle.ocfl_disk.specs.PowerCut.{DiskState, Change, Same, After, Passes, MayTear, MayMake, MayDrop, MayPutOver, MayCloseOver, AreSynced, IsDisk}
use Rattle.ocfl_disk.specs.Disk.{Calm, Writes, Makes, Drops, PutsOver, ClosesOver}
use Rattle.ocfl_disk.specs.Losing.{next, with_bytes, unsynced, after_write, after_make, after_drop, after_put, after_close, after_sync, after_sync_folder, IsCertain, begun, IsOwn, Loses, DiskCall, write, make_new, make_report, remove, put, close, sync, sync_folder, IsAllowed, after_call, after_calls, AreAllowed}
use Rattle.ocfl_disk.specs.declared.state_file.StateFile.{StateFile}
use Rattle.ocfl_disk.specs.declared.state_file.StateFile.TheVariants.{NewCheckpoint, Report}

passes_next : (change : Change) (seen : Stored) (may : Stored → Type 0) (synced : ℕ → Bool) (has : StateFile → Bool) (d : DiskState)
    → ((c : Stored) → may c → After change d.may_leave c) → Passes change d (next seen may synced has d)
passes_next change seen may synced has d each = record {
  later = omega arith;
  now = each;
  meanwhile = λ t c le left. ⊎_elim (λ before. inl before.1) (λ here. inr (each c here)) left;
  keeps = λ t c le left. inl (le, left);
  faults = omega arith;
}

only_here : (m : ℕ) (P Q : Type 0) → ((m + 1 ≤ m) × P) ⊎ Q → Q
only_here m P Q (inl before) = absurd (omega (arith, before.0))
only_here m P Q (inr here) = here

-- one file has these bytes, and each other what it had
pub other_bytes : (file : ℕ) (bytes : Bytes) (s : Stored) (other : ℕ) → other ≢ file → (with_bytes file bytes s).bytes other ≡ s.bytes other
other_bytes file bytes s other apart = ap (λ (b : Bool). if b then bytes else s.bytes other) (ne_eqb other file apart)

pub own_bytes : (file : ℕ) (bytes : Bytes) (s : Stored) → (with_bytes file bytes s).bytes file ≡ bytes
own_bytes file bytes s = ap (λ (b : Bool). if b then bytes else s.bytes file) (eq-eqb file file refl)

stays_synced : (file : ℕ) (d : DiskState) (other : ℕ) → other ≢ file → IsTrue (d.is_synced other) → IsTrue (unsynced file d other)
stays_synced file d other apart synced = and_from (d.is_synced other) (not (other == file)) synced (ap not (ne_eqb other file apart))

was_synced : (file : ℕ) (d : DiskState) (other : ℕ) → IsTrue (unsynced file d other) → (other ≢ file) × IsTrue (d.is_synced other)
was_synced file d other is = (λ same. differs (ap (λ (n : ℕ). n == file) same ∙ eq-eqb file file refl), both.0)
  where
    both : (d.is_synced other ≡ true) × (not (other == file) ≡ true)
    both = and_parts (d.is_synced other) (not (other == file)) is

    differs : (other == file) ≡ true → ⊥
    differs same = by (other == file) same both.1
      where
        by : (b : Bool) → b ≡ true → not b ≡ true → ⊥
        by true first second = cc
        by false first second = cc

some_of : ℕ → Option ℕ → ℕ
some_of other (Some n) = n
some_of other None = other

pub number_of : (n m : ℕ) → Some n ≡ Some m → n ≡ m
unfolding some_of
number_of n m is = ap (some_of n) is

closed_synced : (d e : DiskState) (file : ℕ) (names : List ClosedName) → ((other : ℕ) → other ≢ file → IsTrue (d.is_synced other) → IsTrue (e.is_synced other))
    → IsNoClosed file names → AreSynced d names → AreSynced e names
closed_synced d e file [] more apart synced = tt
closed_synced d e file (name ∷ names) more apart synced = (more name.file apart.0 synced.0, closed_synced d e file names more apart.1 synced.1)

all_synced : (d e : DiskState) (names : List ClosedName) → ((other : ℕ) → IsTrue (d.is_synced other) → IsTrue (e.is_synced other)) → AreSynced d names → AreSynced e names
all_synced d e [] more synced = tt
all_synced d e (name ∷ names) more synced = (more name.file synced.0, all_synced d e names more synced.1)

more_synced : (d : DiskState) (name : ClosedName) (names : List ClosedName) → AreSynced d names → IsTrue (d.is_synced name.file) → AreSynced d (names ++ name ∷ [])
more_synced d name [] synced last = (last, tt)
more_synced d name (n ∷ names) synced last = (synced.0, more_synced d name names synced.1 last)

more_apart : (file : ℕ) (name : ClosedName) (names : List ClosedName) → IsNoClosed file names → name.file ≢ file → IsNoClosed file (names ++ name ∷ [])
more_apart file name [] apart last = (last, tt)
more_apart file name (n ∷ names) apart last = (apart.0, more_apart file name names apart.1 last)

pub not_closed : (cycle : ℕ) (whole : Bool) (file : ℕ) (name : Option ℕ) (names : List ClosedName) → name ≢ Some file → IsNoClosed file names → IsNoClosed file (closed_names cycle whole name names)
not_closed cycle whole file None names differs apart = apart
not_closed cycle whole file (Some n) names differs apart = more_apart file (record { cycle = cycle; whole = whole; file = n }) names apart (λ same. differs (ap Some same))

writes : (d : DiskState) → IsDisk d → (file n most : ℕ) (bytes : Bytes) → IsOwn file d → MayTear file n most d.seen (with_bytes file bytes d.seen)
    → Writes file n most d (after_write file bytes n most d) × IsDisk (after_write file bytes n most d)
writes d disk file n most bytes own tears = (
  record {
    passes = passes_next (MayTear file n most) _ _ _ _ d (λ c left. left);
    names = refl;
    others = other_bytes file bytes d.seen;
    synced = stays_synced file d;
  },
  record {
    stays = (d.seen, disk.stays, tears);
    counts_now = λ t c le left. inr left;
    only_now = λ c left. only_here d.moment (d.left_since (d.moment + 1) c) (After (MayTear file n most) d.may_leave c) left;
    bytes = λ other c synced left. let was = was_synced file d other synced in
        left.2.others other was.0 ∙ disk.bytes other left.0 was.1 left.1 ∙ sym (other_bytes file bytes d.seen other was.0);
    names = λ c folder reports left. left.2.names ∙ disk.names left.0 folder reports left.1;
    checkpoint = λ other is. stays_synced file d other (λ same. (apart d.seen disk.stays).checkpoint (is ∙ ap Some same)) (disk.checkpoint other is);
    closed = closed_synced d (after_write file bytes n most d) file d.seen.names.closed (stays_synced file d) (apart d.seen disk.stays).closed disk.closed;
    report = λ other c is left. subst (IsApart other) (sym left.2.names) (disk.report other left.0 is left.1);
    beside = λ other c is left. subst (λ (names : Names). IsApart other names × (names.report ≢ Some other)) (sym left.2.names) (disk.beside other left.0 is left.1);
  },
)
  where
    apart : (c : Stored) → d.may_leave c → IsApart file c.names
    apart c left = ⊎_elim (λ is. disk.report file c is left) (λ is. (disk.beside file c is left).0) own

makes_new : (d : DiskState) → IsDisk d → (file : ℕ) → d.seen.names.beside ≡ None → ((c : Stored) → d.may_leave c → IsNameless file c.names)
    → Makes NewCheckpoint file d (after_make NewCheckpoint file d) × IsDisk (after_make NewCheckpoint file d)
makes_new d disk file none nameless = (
  record {
    passes = passes_next (MayMake NewCheckpoint file d.seen.names) _ _ _ _ d (λ c left. left);
    nameless = nameless d.seen disk.stays;
    none = none;
    names = refl;
    empty = own_bytes file [] d.seen;
    others = other_bytes file [] d.seen;
    synced = stays_synced file d;
  },
  record {
    stays = (d.seen, disk.stays, record { nameless = nameless d.seen disk.stays; names = inr (refl, refl); empty = own_bytes file [] d.seen; others = other_bytes file [] d.seen });
    counts_now = λ t c le left. inr left;
    only_now = λ c left. only_here d.moment (d.left_since (d.moment + 1) c) (After (MayMake NewCheckpoint file d.seen.names) d.may_leave c) left;
    bytes = λ other c synced left. let was = was_synced file d other synced in
        left.2.others other was.0 ∙ disk.bytes other left.0 was.1 left.1 ∙ sym (other_bytes file [] d.seen other was.0);
    names = λ c folder reports left. absurd cc;
    checkpoint = λ other is. stays_synced file d other (λ same. (nameless d.seen disk.stays).apart.checkpoint (is ∙ ap Some same)) (disk.checkpoint other is);
    closed = closed_synced d (after_make NewCheckpoint file d) file d.seen.names.closed (stays_synced file d) (nameless d.seen disk.stays).apart.closed disk.closed;
    report = λ other c is left. apart_of other c left.0 left.2.names (disk.report other left.0 is left.1);
    beside = λ other c is left. subst (λ (n : ℕ). IsApart n c.names × (c.names.report ≢ Some n)) (number_of file other is)
        (apart_of file c left.0 left.2.names (nameless left.0 left.1).apart, report_of_it file c left.0 left.2.names (nameless left.0 left.1).report);
  },
)
  where
    Named : Stored → Stored → Type 0
    Named c e = (c.names ≡ e.names) ⊎ ((e.names.beside ≡ d.seen.names.beside) × (c.names ≡ record e.names { beside = Some file }))

    apart_of : (other : ℕ) (c e : Stored) → (c.names ≡ e.names) ⊎ ((e.names.beside ≡ d.seen.names.beside) × (c.names ≡ record e.names { beside = Some file })) → IsApart other e.names → IsApart other c.names
    apart_of other c e (inl is) apart = subst (IsApart other) (sym is) apart
    apart_of other c e (inr is) apart = subst (IsApart other) (sym is.1) (record { checkpoint = apart.checkpoint; closed = apart.closed })

    report_of_it : (other : ℕ) (c e : Stored) → (c.names ≡ e.names) ⊎ ((e.names.beside ≡ d.seen.names.beside) × (c.names ≡ record e.names { beside = Some file })) → e.names.report ≢ Some other → c.names.report ≢ Some other
    report_of_it other c e (inl is) apart = subst (λ (names : Names). names.report ≢ Some other) (sym is) apart
    report_of_it other c e (inr is) apart = subst (λ (names : Names). names.report ≢ Some other) (sym is.1) apart

makes_report : (d : DiskState) → IsDisk d → (file : ℕ) → d.seen.names.report ≡ None → ((c : Stored) → d.may_leave c → IsNameless file c.names)
    → Makes Report file d (after_make Report file d) × IsDisk (after_make Report file d)
makes_report d disk file none nameless = (
  record {
    passes = passes_next (MayMake Report file d.seen.names) _ _ _ _ d (λ c left. left);
    nameless = nameless d.seen disk.stays;
    none = none;
    names = refl;
    empty = own_bytes file [] d.seen;
    others = other_bytes file [] d.seen;
    synced = stays_synced file d;
  },
  record {
    stays = (d.seen, disk.stays, record { nameless = nameless d.seen disk.stays; names = inr (refl, refl); empty = own_bytes file [] d.seen; others = other_bytes file [] d.seen });
    counts_now = λ t c le left. inr left;
    only_now = λ c left. only_here d.moment (d.left_since (d.moment + 1) c) (After (MayMake Report file d.seen.names) d.may_leave c) left;
    bytes = λ other c synced left. let was = was_synced file d other synced in
        left.2.others other was.0 ∙ disk.bytes other left.0 was.1 left.1 ∙ sym (other_bytes file [] d.seen other was.0);
    names = λ c folder reports left. absurd cc;
    checkpoint = λ other is. stays_synced file d other (λ same. (nameless d.seen disk.stays).apart.checkpoint (is ∙ ap Some same)) (disk.checkpoint other is);
    closed = closed_synced d (after_make Report file d) file d.seen.names.closed (stays_synced file d) (nameless d.seen disk.stays).apart.closed disk.closed;
    report = λ other c is left. subst (λ (n : ℕ). IsApart n c.names) (number_of file other is) (apart_of file c left.0 left.2.names (nameless left.0 left.1).apart);
    beside = λ other c is left. let own = disk.beside other left.0 is left.1 in
        (apart_of other c left.0 left.2.names own.0, report_of_it other c left.0 left.2.names own.1 (λ same. (nameless d.seen disk.stays).beside (is ∙ sym same)));
  },
)
  where
    apart_of : (other : ℕ) (c e : Stored) → (c.names ≡ e.names) ⊎ ((e.names.report ≡ d.seen.names.report) × (c.names ≡ record e.names { report = Some file })) → IsApart other e.names → IsApart other c.names
    apart_of other c e (inl is) apart = subst (IsApart other) (sym is) apart
    apart_of other c e (inr is) apart = subst (IsApart other) (sym is.1) (record { checkpoint = apart.checkpoint; closed = apart.closed })

    report_of_it : (other : ℕ) (c e : Stored) → (c.names ≡ e.names) ⊎ ((e.names.report ≡ d.seen.names.report) × (c.names ≡ record e.names { report = Some file })) → e.names.report ≢ Some other → Some file ≢ Some other → c.names.report ≢ Some other
    report_of_it other c e (inl is) apart differs = subst (λ (names : Names). names.report ≢ Some other) (sym is) apart
    report_of_it other c e (inr is) apart differs = subst (λ (names : Names). names.report ≢ Some other) (sym is.1) differs

drops : (d : DiskState) → IsDisk d → Drops d (after_drop d) × IsDisk (after_drop d)
drops d disk = (
  record {
    passes = passes_next MayDrop _ _ _ _ d (λ c left. left);
    seen = inr refl;
    synced = λ file synced. synced;
  },
  record {
    stays = (d.seen, disk.stays, inr refl);
    counts_now = λ t c le left. inr left;
    only_now = λ c left. only_here d.moment (d.left_since (d.moment + 1) c) (After MayDrop d.may_leave c) left;
    bytes = λ file c synced left. ap (λ (b : ℕ → Bytes). b file) (bytes_of c left.0 left.2) ∙ disk.bytes file left.0 synced left.1;
    names = λ c folder reports left. absurd cc;
    checkpoint = disk.checkpoint;
    closed = all_synced d (after_drop d) d.seen.names.closed (λ file synced. synced) disk.closed;
    report = λ file c is left. apart_of file c left.0 left.2 (disk.report file left.0 is left.1);
    beside = λ file c is left. absurd (none-some file is);
  },
)
  where
    bytes_of : (c e : Stored) → MayDrop e c → c.bytes ≡ e.bytes
    bytes_of c e (inl is) = ap (λ (s : Stored). s.bytes) is
    bytes_of c e (inr is) = ap (λ (s : Stored). s.bytes) is

    apart_of : (file : ℕ) (c e : Stored) → MayDrop e c → IsApart file e.names → IsApart file c.names
    apart_of file c e (inl is) apart = subst (λ (s : Stored). IsApart file s.names) (sym is) apart
    apart_of file c e (inr is) apart = subst (λ (s : Stored). IsApart file s.names) (sym is) (record { checkpoint = apart.checkpoint; closed = apart.closed })

puts : (d : DiskState) → IsDisk d → ((file : ℕ) → d.seen.names.beside ≡ Some file → IsTrue (d.is_synced file)) → PutsOver d (after_put d) × IsDisk (after_put d)
puts d disk ready = (
  record {
    passes = passes_next (MayPutOver d.seen.names) _ _ _ _ d (λ c left. left);
    seen = refl;
    synced = λ file synced. synced;
  },
  record {
    stays = (d.seen, disk.stays, inr (refl, refl));
    counts_now = λ t c le left. inr left;
    only_now = λ c left. only_here d.moment (d.left_since (d.moment + 1) c) (After (MayPutOver d.seen.names) d.may_leave c) left;
    bytes = λ file c synced left. ap (λ (b : ℕ → Bytes). b file) (bytes_of c left.0 left.2) ∙ disk.bytes file left.0 synced left.1;
    names = λ c folder reports left. absurd cc;
    checkpoint = ready;
    closed = all_synced d (after_put d) d.seen.names.closed (λ file synced. synced) disk.closed;
    report = λ file c is left. apart_of file c left.0 left.2 (disk.report file left.0 is left.1) (λ same. (disk.beside file d.seen same disk.stays).1 is);
    beside = λ file c is left. absurd (none-some file is);
  },
)
  where
    bytes_of : (c e : Stored) → MayPutOver d.seen.names e c → c.bytes ≡ e.bytes
    bytes_of c e (inl is) = ap (λ (s : Stored). s.bytes) is
    bytes_of c e (inr is) = ap (λ (s : Stored). s.bytes) is.1

    apart_of : (file : ℕ) (c e : Stored) → MayPutOver d.seen.names e c → IsApart file e.names → d.seen.names.beside ≢ Some file → IsApart file c.names
    apart_of file c e (inl is) apart differs = subst (λ (s : Stored). IsApart file s.names) (sym is) apart
    apart_of file c e (inr is) apart differs = subst (λ (s : Stored). IsApart file s.names) (sym is.1) (record { checkpoint = λ same. differs (sym is.0 ∙ same); closed = apart.closed })

closes : (d : DiskState) → IsDisk d → (cycle : ℕ) (whole : Bool) → ((file : ℕ) → d.seen.names.report ≡ Some file → IsTrue (d.is_synced file))
    → ClosesOver cycle whole d (after_close cycle whole d) × IsDisk (after_close cycle whole d)
closes d disk cycle whole ready = (
  record {
    passes = passes_next (MayCloseOver cycle whole d.seen.names) _ _ _ _ d (λ c left. left);
    seen = refl;
    synced = λ file synced. synced;
  },
  record {
    stays = (d.seen, disk.stays, inr (refl, refl));
    counts_now = λ t c le left. inr left;
    only_now = λ c left. only_here d.moment (d.left_since (d.moment + 1) c) (After (MayCloseOver cycle whole d.seen.names) d.may_leave c) left;
    bytes = λ file c synced left. ap (λ (b : ℕ → Bytes). b file) (bytes_of c left.0 left.2) ∙ disk.bytes file left.0 synced left.1;
    names = λ c folder reports left. absurd cc;
    checkpoint = disk.checkpoint;
    closed = all_synced d (after_close cycle whole d) (close_over cycle whole d.seen).names.closed (λ file synced. synced) (closed_of_it d.seen.names.report ready);
    report = λ file c is left. absurd (none-some file is);
    beside = λ file c is left. apart_of file c left.0 left.2 (disk.beside file left.0 is left.1);
  },
)
  where
    bytes_of : (c e : Stored) → MayCloseOver cycle whole d.seen.names e c → c.bytes ≡ e.bytes
    bytes_of c e (inl is) = ap (λ (s : Stored). s.bytes) is
    bytes_of c e (inr is) = ap (λ (s : Stored). s.bytes) is.1

    closed_of_it : (name : Option ℕ) → ((file : ℕ) → name ≡ Some file → IsTrue (d.is_synced file)) → AreSynced d (closed_names cycle whole name d.seen.names.closed)
    closed_of_it None synced = disk.closed
    closed_of_it (Some file) synced = more_synced d (record { cycle = cycle; whole = whole; file = file }) d.seen.names.closed disk.closed (synced file refl)

    apart_of : (file : ℕ) (c e : Stored) → MayCloseOver cycle whole d.seen.names e c → IsApart file e.names × (e.names.report ≢ Some file) → IsApart file c.names × (c.names.report ≢ Some file)
    apart_of file c e (inl is) own = subst (λ (s : Stored). IsApart file s.names × (s.names.report ≢ Some file)) (sym is) own
    apart_of file c e (inr is) own = subst (λ (s : Stored). IsApart file s.names × (s.names.report ≢ Some file)) (sym is.1)
        (record { checkpoint = own.0.checkpoint; closed = not_closed cycle whole file e.names.report e.names.closed own.1 own.0.closed }, none-some file)

syncs : (d : DiskState) → IsDisk d → (file : ℕ) → Calm d (after_sync file d) × IsTrue ((after_sync file d).is_synced file) × IsDisk (after_sync file d)
syncs d disk file = (
  record {
    passes = passes_next Same _ _ _ _ d (λ c left. (c, left.0, refl));
    seen = refl;
    synced = λ other synced. or_left (d.is_synced other) (other == file) synced;
  },
  or_right (d.is_synced file) (file == file) (eq-eqb file file refl),
  record {
    stays = (disk.stays, refl);
    counts_now = λ t c le left. inr left;
    only_now = λ c left. only_here d.moment (d.left_since (d.moment + 1) c) (d.may_leave c × (c.bytes file ≡ d.seen.bytes file)) left;
    bytes = λ other c synced left. ⊎_elim (λ was. disk.bytes other c was left.0) (λ same. own c other (eqb-true other file same) left.1) (or_cases (d.is_synced other) (other == file) synced);
    names = λ c folder reports left. disk.names c folder reports left.0;
    checkpoint = λ other is. or_left (d.is_synced other) (other == file) (disk.checkpoint other is);
    closed = all_synced d (after_sync file d) d.seen.names.closed (λ other synced. or_left (d.is_synced other) (other == file) synced) disk.closed;
    report = λ other c is left. disk.report other c is left.0;
    beside = λ other c is left. disk.beside other c is left.0;
  },
)
  where
    own : (c : Stored) (other : ℕ) → other ≡ file → c.bytes file ≡ d.seen.bytes file → c.bytes other ≡ d.seen.bytes other
    own c other same is = subst (λ (n : ℕ). c.bytes n ≡ d.seen.bytes n) (sym same) is

syncs_folder : (d : DiskState) → IsDisk d → (folder : StateFile) → Calm d (after_sync_folder folder d) × IsDisk (after_sync_folder folder d)
syncs_folder d disk folder = (
  record {
    passes = passes_next Same _ _ _ _ d (λ c left. (c, left.before, refl));
    seen = refl;
    synced = λ other synced. synced;
  },
  record {
    stays = record { before = disk.stays; checkpoint = λ is. refl; all = λ top reports. refl };
    counts_now = λ t c le left. inr left;
    only_now = λ c left. only_here d.moment (d.left_since (d.moment + 1) c) (IsCertain folder d c) left;
    bytes = λ file c synced left. disk.bytes file c synced left.before;
    names = λ c top reports left. left.all top reports;
    checkpoint = disk.checkpoint;
    closed = all_synced d (after_sync_folder folder d) d.seen.names.closed (λ file synced. synced) disk.closed;
    report = λ file c is left. disk.report file c is left.before;
    beside = λ file c is left. disk.beside file c is left.before;
  },
)

loses : (d : DiskState) → IsDisk d → Loses d
loses d disk = record {
  writes = writes d disk;
  makes_new = makes_new d disk;
  makes_report = makes_report d disk;
  drops = drops d disk;
  puts = puts d disk;
  closes = closes d disk;
  syncs = syncs d disk;
  syncs_folder = syncs_folder d disk;
}

begins : IsDisk begun
begins = record {
  stays = refl;
  counts_now = λ t c le left. left;
  only_now = λ c left. left;
  bytes = λ file c synced left. ap (λ (s : Stored). s.bytes file) left;
  names = λ c top reports left. ap (λ (s : Stored). s.names) left;
  checkpoint = λ file is. refl;
  closed = tt;
  report = λ file c is left. absurd (none-some file is);
  beside = λ file c is left. absurd (none-some file is);
}

after_one : (d : DiskState) → Loses d → (call : DiskCall) → IsAllowed call d → IsDisk (after_call call d)
after_one d before (write file bytes n most) is = (before.writes file n most bytes is.0 is.1).1
after_one d before (make_new file) is = (before.makes_new file is.0 is.1).1
after_one d before (make_report file) is = (before.makes_report file is.0 is.1).1
after_one d before remove is = before.drops.1
after_one d before put is = (before.puts is).1
after_one d before (close cycle whole) is = (before.closes cycle whole is).1
after_one d before (sync file) is = (before.syncs file).2
after_one d before (sync_folder folder) is = (before.syncs_folder folder).1

kept : (calls : List DiskCall) → AreAllowed calls → IsDisk (after_calls calls)
kept [] allowed = begins
kept (call ∷ calls) allowed = after_one (after_calls calls) (loses (after_calls calls) (kept calls allowed.0)) call allowed.1

pub is_disk : (calls : List DiskCall) → AreAllowed calls → IsDisk (after_calls calls)
is_disk calls allowed = kept calls allowed

pub loses_at : (calls : List DiskCall) → AreAllowed calls → Loses (after_calls calls)
loses_at calls allowed = loses (after_calls calls) (kept calls allowed)
