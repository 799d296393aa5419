-- What judging one item does to a store that tells its tree.
use Rattle.std.proofs.Common.{◌≡◌, inl, inr, ◌≢◌, ℕ, ◌+◌, ◌<◌, ◌≤◌, ◌^◌, List, [], ◌∷◌, ◌++◌, length, cond, map, filter, refl, sym, ◌∙◌, ap, subst, true, false, Bool, Option, Some, None, not, arith}
use Rattle.std.specs.Prelude.{option_and_then, max, IfErr, IfOk, MatchResult, Result, Ok, Err}
use Rattle.ocfl_tree.specs.Place.{Place, Text}
use Rattle.ocfl_tree.specs.{StorageRoot.{StorageRoot, file_at, bytes_of}, Store.{Store, Did}}
use Rattle.ocfl_tree.specs.{Calls.{opening}, declared.store.Opening.{Opening}}
use Rattle.ocfl_report.specs.{Line.{Line}, declared.code.Code.TheVariants.{S08}}
use Rattle.ocfl_report.specs.declared.further.Further.{Further}
use Rattle.ocfl_inventory.specs.{Note.{Note, plain, lines_at}, Remark.{remark_view}}
use Rattle.ocfl_digest.specs.{Digest.{digest_bytes_of}, declared.algorithm.Algorithm.{Algorithm}}
use Rattle.ocfl_digest.specs.Hashing.{HashesFile, StopsHashing, StopFits, stop_trail, stop_failures}
use Rattle.ocfl_digest.specs.{declared.digests.Digests.{Digests}, declared.stop.Cause.{Cause}}
use Rattle.ocfl_digest.specs.declared.stop.ReadStop.{ReadStop}
use Rattle.ocfl_digest.specs.declared.stop.Cause.TheVariants.{Device, Absent, Memory, TooLong}
use Rattle.ocfl_digest.specs.declared.wanted.Wanted.{Wanted}
use Rattle.ocfl_rules.specs.Audit.{given_by}
use Rattle.ocfl_rules.specs.Due.{items_at, hashed_among}
use Rattle.ocfl_rules.specs.Inventories.{Expected, unexpected_notes, notes, is_hashed, cost}
use Rattle.ocfl_rules.specs.Lines.{or_bytes}
use Rattle.ocfl_rules.specs.Trail.{is_meta, content_openings, content_trail, heads_of, unread_of}
use Rattle.ocfl_rules.proofs.AuditExists.{some_not_none}
use Rattle.ocfl_rules.proofs.BelowLaws.{place_eq-same}
use Rattle.ocfl_rules.proofs.InventoryLaws.{hashed_no_meta}
use Rattle.ocfl_item.specs.Internal.FileLines.{HasDigests, given_in}
use Rattle.ocfl_item.specs.{Judging.{HasShortFiles, Judges, JudgeFails}, Pending.{IsPending, IsJudgedBy, expected_view}}
use Rattle.ocfl_item.specs.{PlaceLines.{lines_of}, Internal.Lines.{HasLines}}
use Rattle.ocfl_item.specs.declared.lines.PlaceLines.{PlaceLines}
use Rattle.ocfl_item.specs.{declared.pending.Pending.{Pending}, Auditing.{Audits, IsMetadataRead, LieIn}}
use Rattle.ocfl_item.proofs.CostLaws.{IsCounted, counted, unhashed_cost}
use Rattle.ocfl_item.proofs.{AuditingLaws.{audits_meta, fails_after, near_none}, WantedLaws.{AreWanted}}
use Rattle.ocfl_tree.proofs.{Orders.{true_not_false}, Reading.{same_some}, Stores.{did_nothing}}

-- ---- one place and a trail

item_is : (further : Further) (root : StorageRoot) (p : Place) (trail : List Opening) (u : Option ℕ) (lines : List Line) (c : ℕ) → given_by (unread_of further root trail) p ≡ u
    → lines_at p (notes further root u p) ≡ lines → cost further root u p ≡ c
    → items_at further root trail (p ∷ []) ≡ record { place = p; lines = lines; cost = c } ∷ []
unfolding items_at
item_is further root p trail u lines c e f k =
    ap (λ g. record { place = p; lines = lines_at p (notes further root g p); cost = cost further root g p } ∷ []) e ∙ (λ i. record { place = p; lines = f i; cost = k i } ∷ [])

hashed_alone : (further : Further) (root : StorageRoot) (p : Place) (b : Bool) → is_hashed further root p ≡ b → hashed_among further root (p ∷ []) ≡ cond b (p ∷ []) []
unfolding hashed_among
hashed_alone further root p b h = ap (λ x. cond x (p ∷ []) []) h

-- ---- an item whose file is not hashed

pub judged_known : (further : Further) (root : StorageRoot) (s : Store) (made : Pending) → s.tree ≡ root → IsPending further root made → made.hashed ≡ false
    → Judges further root s s made.place (lines_at made.place (map remark_view made.remarks.items)) 0
judged_known further root s made over pending unhashed =
    let free : is_hashed further root made.place ≡ false = sym pending.hashed ∙ unhashed in
    record {
      trail = [];
      audits = record { over = over; did = did_nothing s; read = refl; opened = sym (hashed_alone further root made.place false free); heads_are = refl; near = near_none further root [] };
      alone = sym (hashed_alone further root made.place false free);
      item = item_is further root made.place [] None _ 0 refl (ap (lines_at made.place) (sym (pending.lines unhashed))) (unhashed_cost further root made.place free);
    }

pub nothing_judged : (further : Further) (root : StorageRoot) (s t : Store) (p : Place) → s.tree ≡ root → Did s t [] [] 0 → JudgeFails further root s t p
unfolding hashed_among
nothing_judged further root s t p over did = record {
  trail = [];
  part = false;
  fails = fails_after further root s t [] [] [] [] (audits_meta further root s t [] [] [] over did refl refl refl (near_none further root []));
  alone = refl;
}

-- ---- one opening of a file that is hashed

module _ (further : Further) (root : StorageRoot) (p : Place) (hashed : is_hashed further root p ≡ true) where
  opened_content : (n : ℕ) (failed : Bool) → content_openings further root (opening p n failed ∷ []) ≡ opening p n failed ∷ []
  opened_content n failed = ap (λ b. cond (not b) (opening p n failed ∷ []) []) (hashed_no_meta further root p hashed)

  opened_place : (n : ℕ) (failed : Bool) → content_trail further root (opening p n failed ∷ []) ≡ hashed_among further root (p ∷ [])
  opened_place n failed = ap (map (λ o. o.place)) (opened_content n failed) ∙ sym (hashed_alone further root p true hashed)

  opened_read : (n : ℕ) (failed : Bool) → IsMetadataRead further root (opening p n failed ∷ [])
  opened_read n false = refl
  opened_read n true = ap (λ b. cond b (opening p n true ∷ []) []) (hashed_no_meta further root p hashed)

  opened_near : (n : ℕ) (failed : Bool) → LieIn further root [] (opening p n failed ∷ [])
  opened_near n failed o (inl e) meta = absurd (true_not_false (sym meta ∙ ap (λ x. is_meta further root x.place) e ∙ hashed_no_meta further root p hashed))
  opened_near n failed o (inr i) meta = absurd i

  none_unread : (n : ℕ) → unread_of further root (opening p n false ∷ []) ≡ []
  none_unread n = ap (λ os. map (λ o. (o.place, o.given)) (filter (λ o. o.failed) os)) (opened_content n false)

  one_unread : (n : ℕ) → unread_of further root (opening p n true ∷ []) ≡ (p, n) ∷ []
  one_unread n = ap (λ os. map (λ o. (o.place, o.given)) (filter (λ o. o.failed) os)) (opened_content n true)

  no_head : (n : ℕ) (failed : Bool) → heads_of root (opening p n failed ∷ []) ≡ []
  no_head n failed = ap (λ hs. hs ++ []) (counted further root p hashed).heads

  did_whole : (s t : Store) (n : ℕ) → Did s t (opening p n false ∷ []) [] 0 → Did s t (opening p n false ∷ []) [] (length (unread_of further root (opening p n false ∷ [])))
  did_whole s t n did = subst (Did s t (opening p n false ∷ []) []) (sym (ap length (none_unread n))) did

  did_part : (s t : Store) (n : ℕ) → Did s t (opening p n true ∷ []) [] 1 → Did s t (opening p n true ∷ []) [] (length (unread_of further root (opening p n true ∷ [])))
  did_part s t n did = subst (Did s t (opening p n true ∷ []) []) (sym (ap length (one_unread n))) did

  opens_audits : (s t : Store) (n : ℕ) (failed : Bool) → s.tree ≡ root → Did s t (opening p n failed ∷ []) [] (length (unread_of further root (opening p n failed ∷ [])))
      → Audits further root s t (p ∷ []) [] [] (opening p n failed ∷ [])
  opens_audits s t n failed over did = record { over = over; did = did; read = opened_read n failed; opened = opened_place n failed; heads_are = no_head n failed; near = opened_near n failed }

  opens_fails : (s t : Store) (n : ℕ) (failed : Bool) → s.tree ≡ root → Did s t (opening p n failed ∷ []) [] (length (unread_of further root (opening p n failed ∷ []))) → JudgeFails further root s t p
  opens_fails s t n failed over did =
      record {
        trail = opening p n failed ∷ [];
        part = true;
        fails = fails_after further root s t (p ∷ []) [] [] (opening p n failed ∷ []) (opens_audits s t n failed over did);
        alone = sym (hashed_alone further root p true hashed);
      }

  whole_fails : (s t : Store) (n : ℕ) → s.tree ≡ root → Did s t (opening p n false ∷ []) [] 0 → JudgeFails further root s t p
  whole_fails s t n over did = opens_fails s t n false over (did_whole s t n did)

  part_fails : (s t : Store) (n : ℕ) → s.tree ≡ root → Did s t (opening p n true ∷ []) [] 1 → JudgeFails further root s t p
  part_fails s t n over did = opens_fails s t n true over (did_part s t n did)

  opens_judges : (s t : Store) (n : ℕ) (failed : Bool) (u : Option ℕ) (lines : List Line) → s.tree ≡ root
      → Did s t (opening p n failed ∷ []) [] (length (unread_of further root (opening p n failed ∷ []))) → given_by (unread_of further root (opening p n failed ∷ [])) p ≡ u
      → lines_at p (notes further root u p) ≡ lines → cost further root u p ≡ n + 1 → Judges further root s t p lines (n + 1)
  opens_judges s t n failed u lines over did given are costs = record {
    trail = opening p n failed ∷ [];
    audits = opens_audits s t n failed over did;
    alone = sym (hashed_alone further root p true hashed);
    item = item_is further root p (opening p n failed ∷ []) u lines (n + 1) given are costs;
  }

  whole_judges : (s t : Store) (n : ℕ) (lines : List Line) → s.tree ≡ root → Did s t (opening p n false ∷ []) [] 0
      → lines_at p (notes further root None p) ≡ lines → cost further root None p ≡ n + 1 → Judges further root s t p lines (n + 1)
  whole_judges s t n lines over did are costs = opens_judges s t n false None lines over (did_whole s t n did) (ap (λ u. given_by u p) (none_unread n)) are costs

  part_judges : (s t : Store) (n : ℕ) (lines : List Line) → s.tree ≡ root → Did s t (opening p n true ∷ []) [] 1
      → lines_at p (notes further root (Some n) p) ≡ lines → cost further root (Some n) p ≡ n + 1 → Judges further root s t p lines (n + 1)
  part_judges s t n lines over did are costs =
      opens_judges s t n true (Some n) lines over (did_part s t n did) (ap (λ u. given_by u p) (one_unread n) ∙ ap (λ b. cond b (Some n) None) (place_eq-same p)) are costs

  -- a file that is there and short enough stops only by the device, or if memory was refused
  by_device : HasShortFiles root → (s t : Store) (n : ℕ) (cause : Cause) → StopsHashing root s t p n cause → cause ≢ Memory → Did s t (opening p n true ∷ []) [] 1
  by_device short s t n cause stops kept = go cause stops.fits stops.did kept
    where
      f : IsCounted further root p
      f = counted further root p hashed

      bytes_are : file_at root p ≡ Some f.bytes
      bytes_are = ap (option_and_then bytes_of) f.is_file

      go : (why : Cause) → StopFits root p n why → Did s t (stop_trail p n why) [] (stop_failures why) → why ≢ Memory → Did s t (opening p n true ∷ []) [] 1
      go Device fits did k = did
      go Absent fits did k = absurd (some_not_none f.bytes (sym fits.0 ∙ bytes_are))
      go Memory fits did k = absurd (k refl)
      go TooLong fits did k =
          let same : fits.0 ≡ f.bytes = same_some fits.0 f.bytes (sym fits.1 ∙ bytes_are) in
          let long : 2 ^ 62 ≤ length f.bytes = subst (λ b. 2 ^ 62 ≤ length b) same fits.2 in
          let small : length f.bytes < 2 ^ 62 = short p f.bytes f.is_file in
          absurd (omega (arith, long, small))

-- ---- the same, from what was made

-- its lines but for those of what its file holds, and the digests that are expected of that
abbrev before : Pending → List Note
before made = map remark_view made.remarks.items

abbrev expected : Pending → List Expected
expected made = map expected_view made.expected.items

abbrev algorithms : Pending → List Algorithm
algorithms made = map (λ e. e.algorithm) made.expected.items

module _ (further : Further) (root : StorageRoot) (s t : Store) (made : Pending) (over : s.tree ≡ root) (pending : IsPending further root made) (hashed : made.hashed ≡ true) where
  file_is : is_hashed further root made.place ≡ true
  file_is = sym pending.hashed ∙ hashed

  pub failed_whole : (w : Wanted) (d : Digests) (n : ℕ) → HashesFile root s t made.place w d n → JudgeFails further root s t made.place
  failed_whole w d n h = whole_fails further root made.place file_is s t n over h.did

  file_judged : IsJudgedBy further root made.place (before made) (expected made)
  file_judged = pending.judged hashed

  -- its bytes are those of its cost
  one_file : (counted further root made.place file_is).bytes ≡ file_judged.bytes
  one_file = same_some _ _ (sym (ap (option_and_then bytes_of) (counted further root made.place file_is).is_file) ∙ ap (option_and_then bytes_of) file_judged.is_file)

  pub judged_whole : (w : Wanted) (d : Digests) (n : ℕ) (lines : List Line) → AreWanted w (algorithms made) → HashesFile root s t made.place w d n
      → ((bytes : Text) → HasDigests (algorithms made) bytes d → n ≡ length bytes → lines ≡ lines_at made.place (or_bytes bytes (before made ++ unexpected_notes bytes (expected made))))
      → Judges further root s t made.place lines (n + 1)
  judged_whole w d n lines wanted h are =
      let j = file_judged in
      let bytes : h.bytes ≡ j.bytes = same_some h.bytes j.bytes (sym h.is_file ∙ ap (option_and_then bytes_of) j.is_file) in
      let count : n ≡ length j.bytes = h.length_is ∙ ap length bytes in
      let has : HasDigests (algorithms made) j.bytes d =
      subst (λ b. HasDigests (algorithms made) b d) bytes (λ a i. h.digests.each a ∙ ap (λ b. cond b (Some (digest_bytes_of a h.bytes)) None) ((wanted a).1 i)) in
      whole_judges further root made.place file_is s t n lines over h.did
      (ap (lines_at made.place) j.whole ∙ sym (are j.bytes has count))
      ((counted further root made.place file_is).whole ∙ ap (λ b. length b + 1) one_file ∙ ap (λ k. k + 1) (sym count))

  pub failed_part : HasShortFiles root → (n : ℕ) (cause : Cause) → StopsHashing root s t made.place n cause → cause ≢ Memory → JudgeFails further root s t made.place
  failed_part short n cause stops kept = part_fails further root made.place file_is s t n over (by_device further root made.place file_is short s t n cause stops kept)

  pub judged_part : HasShortFiles root → (n : ℕ) (cause : Cause) (lines : List Line) → StopsHashing root s t made.place n cause → cause ≢ Memory
      → lines ≡ lines_at made.place (before made ++ plain S08 ∷ []) → Judges further root s t made.place lines (n + 1)
  judged_part short n cause lines stops kept are =
      part_judges further root made.place file_is s t n lines over (by_device further root made.place file_is short s t n cause stops kept)
      (ap (lines_at made.place) (file_judged.part n) ∙ sym are) ((counted further root made.place file_is).part n)

  -- if memory was refused the file was not opened
  refused : (n : ℕ) → StopsHashing root s t made.place n Memory → JudgeFails further root s t made.place
  refused n h = nothing_judged further root s t made.place over h.did

-- ---- by what came of reading the file

-- what a reading did
abbrev Read : StorageRoot → Store → Store → Place → Wanted → Result (Digests × ℕ) ReadStop → Type 0
Read root s t p w read = MatchResult read (λ hashed. HashesFile root s t p w hashed.0 hashed.1) (λ stop. StopsHashing root s t p stop.bytes stop.cause)

pub read_closed : (root : StorageRoot) (s t : Store) (p : Place) (w : Wanted) (read : Result (Digests × ℕ) ReadStop) → Read root s t p w read → t.rest ≡ None
read_closed root s t p w (Ok hashed) h = h.closed
read_closed root s t p w (Err stop) h = h.closed

pub read_largest : (root : StorageRoot) (s t : Store) (p : Place) (w : Wanted) (read : Result (Digests × ℕ) ReadStop) → Read root s t p w read → t.largest ≤ max s.largest 65536
read_largest root s t p w (Ok hashed) h = let e = h.largest in omega (arith, e)
read_largest root s t p w (Err stop) h = h.largest

-- what memory refuses is not opened, and all else is the device's
by_cause : {X : Type 0} (cause : Cause) → (cause ≡ Memory → X) → (cause ≢ Memory → X) → X
by_cause Device k l = l (λ e. cc)
by_cause Absent k l = l (λ e. cc)
by_cause Memory k l = k refl
by_cause TooLong k l = l (λ e. cc)

abbrev Made : Type 0
Made = PlaceLines × ℕ

lines_are : (p : Place) (l : PlaceLines) (ns : List Note) → l.place ≡ p → HasLines l ns → lines_of l ≡ lines_at p ns
lines_are p l ns placed has i = lines_at (placed i) (has i)

module _ (further : Further) (root : StorageRoot) (s t : Store) (made : Pending) (over : s.tree ≡ root) (pending : IsPending further root made) (hashed : made.hashed ≡ true) (short : HasShortFiles root)
    (w : Wanted) (wanted : AreWanted w (algorithms made)) where
  abbrev IsJudged : {E : Type 0} → Result Made E → Type 0
  IsJudged r = MatchResult r (λ j. Judges further root s t made.place (lines_of j.0) j.1) (λ why. JudgeFails further root s t made.place)

  module _ (j : Made) (placed : j.0.place ≡ made.place) where
    whole_is : (read : Digests × ℕ) → HashesFile root s t made.place w read.0 read.1 → j.1 ≡ read.1 + 1
        → ((bytes : Text) → HasDigests (algorithms made) bytes read.0 → read.1 ≡ length bytes
        → HasLines j.0 (or_bytes bytes (before made ++ unexpected_notes bytes (expected made)))) → Judges further root s t made.place (lines_of j.0) j.1
    whole_is read h costs are =
        subst (Judges further root s t made.place (lines_of j.0)) (sym costs)
        (judged_whole further root s t made over pending hashed w read.0 read.1 (lines_of j.0) wanted h (λ bytes has count. lines_are made.place j.0 _ placed (are bytes has count)))

    part_is : (stop : ReadStop) → StopsHashing root s t made.place stop.bytes stop.cause → j.1 ≡ stop.bytes + 1 → stop.cause ≢ Memory
        → HasLines j.0 (before made ++ plain S08 ∷ []) → Judges further root s t made.place (lines_of j.0) j.1
    part_is stop h costs kept are =
        subst (Judges further root s t made.place (lines_of j.0)) (sym costs)
        (judged_part further root s t made over pending hashed short stop.bytes stop.cause (lines_of j.0) h kept (lines_are made.place j.0 _ placed are))

  pub judged_is : {E : Type 0} (read : Result (Digests × ℕ) ReadStop) (r : Result Made E) → Read root s t made.place w read → IfOk r (λ j. j.0.place ≡ made.place)
      → IfOk r (λ j. j.1 ≡ given_in read + 1)
      → IfErr read (λ stop. stop.cause ≡ Memory → IfOk r (λ j. ⊥))
      → IfOk read (λ h. (bytes : Text) → HasDigests (algorithms made) bytes h.0 → h.1 ≡ length bytes
      → IfOk r (λ j. HasLines j.0 (or_bytes bytes (before made ++ unexpected_notes bytes (expected made)))))
      → IfErr read (λ stop. stop.cause ≢ Memory → IfOk r (λ j. HasLines j.0 (before made ++ plain S08 ∷ []))) → IsJudged r
  judged_is (Ok h) (Ok j) did placed costs none whole part = whole_is j placed h did costs whole
  judged_is (Ok h) (Err why) did placed costs none whole part = failed_whole further root s t made over pending hashed w h.0 h.1 did
  judged_is (Err stop) (Ok j) did placed costs none whole part = by_cause stop.cause (λ e. absurd (none e)) (λ kept. part_is j placed stop did costs kept (part kept))
  judged_is (Err stop) (Err why) did placed costs none whole part =
      by_cause stop.cause (λ e. refused further root s t made over pending hashed stop.bytes (subst (StopsHashing root s t made.place stop.bytes) e did))
      (λ kept. failed_part further root s t made over pending hashed short stop.bytes stop.cause did kept)
