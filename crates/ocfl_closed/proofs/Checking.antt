-- Reading on in a closed report that is checked.
use Rattle.std.proofs.Common.{◌≡◌, ℕ, ◌+◌, ◌-◌, ◌<◌, ◌≤◌, ◌^◌, [], ◌++◌, Bool, true, false, IsTrue, Result, Ok, Err, IfOk, OnOk, length, take, drop, refl, sym, ap, subst, ◌∙◌, arith, ⊎_elim, eq-zero-or-pos, append_assoc, length-append}
use Rattle.std.proofs.{Math.Bool.{Bool-set}, Math.Logic.{∥∥₁_elim, ∥∥₁_map}}
use Rattle.std.proofs.lemmas.{List.{drop-drop, length-drop, length-take, take-append-drop, take_all}}
use Rattle.std.specs.Io.{KnownBytes.{Consumes, IsAtEnd, ReadConsumes}, ReadsAtMost}
use Rattle.ocfl_tree.specs.Place.{Text}
use Rattle.ocfl_state.specs.Calls.{IsReadOf}
use Rattle.ocfl_state.proofs.PieceLaws.{take-more}
use Rattle.ocfl_closed.specs.declared.check.ClosedCheck.{ClosedCheck}
use Rattle.ocfl_closed.specs.Internal.Checked.{HasTaken, HasTakenTo, end_of, if_told, is_met_by, left_of}

-- a piece of a report from an offset on
abbrev pub IsPiece : Text → ℕ → Text → Type 0
IsPiece report start bytes = bytes ≡ take (length bytes) (drop start report)

-- it ends within the report, or is empty
piece_within : (report : Text) (start : ℕ) (bytes : Text) → IsPiece report start bytes → length bytes ≤ length report - start
piece_within report start bytes is =
    let long = ap (λ (xs : Text). length xs) is in
    let least = length-take (length bytes) (drop start report) in
    let left = length-drop start report in
    omega (arith, long, least, left)

-- what follows the piece begins where this number says
abbrev pub IsNext : ℕ → ℕ → ℕ → Type 0
IsNext start count next = (count ≡ 0 → next ≡ start) × (start + count < 2 ^ 64 → next ≡ start + count)

module _ (report : Text) (start next : ℕ) (bytes : Text) (short : length report < 2 ^ 63) (is : IsPiece report start bytes) (on : IsNext start (length bytes) next) where
  next_is : next ≡ start + length bytes
  next_is =
      let within = piece_within report start bytes is in
      ⊎_elim (λ z. on.0 z ∙ omega (arith, z)) (λ p. on.1 (omega (arith, p, within, short))) (eq-zero-or-pos (length bytes))

  taken_next : take next report ≡ take start report ++ bytes
  taken_next = ap (λ n. take n report) next_is ∙ take-more report start (length bytes) ∙ ap (λ (xs : Text). take start report ++ xs) (sym is)

  left_next : drop start report ≡ bytes ++ drop next report
  left_next =
      sym (take-append-drop (length bytes) (drop start report))
      ∙ (λ i. sym is i ++ (drop-drop (length bytes) start report ∙ ap (λ n. drop n report) (sym next_is)) i)

  few : length (take start report ++ bytes) < 2 ^ 64
  few =
      let both = length-append (take start report) bytes in
      let front = length-take start report in
      let within = piece_within report start bytes is in
      omega (arith, both, front, within, short)

  taken_on : (old new : ClosedCheck) → ((t : Text) → HasTaken old t → length (t ++ bytes) < 2 ^ 64 → HasTaken new (t ++ bytes)) → HasTaken old (take start report) → HasTaken new (take next report)
  taken_on old new pushed taken = subst (HasTaken new) (sym taken_next) (pushed (take start report) taken few)

  pub left_on : (old new : ClosedCheck) → is_met_by new report ≡ is_met_by old report → left_of old start report ≡ bytes ++ left_of new next report
  left_on old new same =
      ap (λ (xs : Text). xs ++ end_of (is_met_by old report)) left_next
      ∙ append_assoc bytes (drop next report) (end_of (is_met_by old report))
      ∙ ap (λ b. bytes ++ (drop next report ++ end_of b)) (sym same)

pub taken_then : (told : Bool) (report : Text) (start next : ℕ) (bytes : Text) (old new : ClosedCheck) → (IsTrue told → length report < 2 ^ 63) → (IsTrue told → IsPiece report start bytes)
    → IsNext start (length bytes) next → ((t : Text) → HasTaken old t → length (t ++ bytes) < 2 ^ 64 → HasTaken new (t ++ bytes)) → ∥ HasTakenTo told old start report ∥₁ → ∥ HasTakenTo told new next report ∥₁
taken_then told report start next bytes old new short is on pushed taken = ∥∥₁_map taken (λ t. λ is_told. taken_on report start next bytes (short is_told) (is is_told) on old new pushed (t is_told))

-- after the last bytes, what was taken decides whether the report is as it was closed
pub met_at_end : (told : Bool) (check : ClosedCheck) (start : ℕ) (report : Text) (met : Bool) → ∥ HasTakenTo told check start report ∥₁ → IsTrue told → length report ≤ start
    → ((r : Text) → HasTaken check r → met ≡ is_met_by check r) → met ≡ true → is_met_by check report ≡ true
met_at_end told check start report met taken is_told over says is =
    ∥∥₁_elim taken (Bool-set (is_met_by check report) true) (λ t. sym (says report (subst (HasTaken check) (take_all start report over) (t is_told))) ∙ is)

pub none_within : {E : Type 0} (r : Result ℕ E) (buffer : Text) → IfOk r (λ count. count ≡ 0) → ReadsAtMost r buffer
none_within (Ok count) buffer none = subst (λ n. (n ≤ length buffer) × (n ≡ length (take n buffer))) (sym none) (omega arith, refl)
none_within (Err why) buffer none = tt

-- a read that gave nothing
is_over : (report : Text) (start count : ℕ) (buffer : Text) → count ≡ 0 → IsReadOf report start (take count buffer) (length buffer) → 0 < length buffer → drop start report ≡ []
is_over report start count buffer none read some = read.end (ap (λ n. take n buffer) none) some

abbrev IsMet : {E : Type 0} → Result ℕ E → ℕ → ℕ → ClosedCheck → Text → Type 0
IsMet r room start check report = 0 < room → length report ≤ start → OnOk r (is_met_by check report ≡ true)

pub ended : {E : Type 0} (told : Bool) (r : Result ℕ E) (a b : ClosedCheck) (m n : ℕ) (f g buffer : Text) (count room : ℕ) → b ≡ a → n ≡ m → g ≡ f → IfOk r (λ count. count ≡ 0) → count ≡ 0 → room ≡ length buffer
    → (IsTrue told → IsReadOf f m (take count buffer) (length buffer)) → (IsTrue told → IsMet r room m a f) → ReadConsumes (if_told told (left_of a m f)) (if_told told (left_of b n g)) r buffer
ended {E = E} told r a b m n f g buffer count room ab mn fg none zero long read met =
    subst (λ x. ReadConsumes (if_told told (left_of a m f)) (if_told told x) r buffer) (λ i. left_of (sym ab i) (sym mn i) (sym fg i)) (by told r none read met)
  where
    over : IsReadOf f m (take count buffer) (length buffer) → 0 < length buffer → length f ≤ m
    over it some = let left = length-drop m f in let empty = ap (λ (xs : Text). length xs) (is_over f m count buffer zero it some) in omega (arith, left, empty)

    by : (t : Bool) (s : Result ℕ E) → IfOk s (λ count. count ≡ 0) → (IsTrue t → IsReadOf f m (take count buffer) (length buffer)) → (IsTrue t → IsMet s room m a f)
        → ReadConsumes (if_told t (left_of a m f)) (if_told t (left_of a m f)) s buffer
    by false (Ok k) nothing it is = (tt, λ z some. tt)
    by false (Err why) nothing it is = tt
    by true (Ok k) nothing it is = (
      ap (λ j. take j buffer ++ left_of a m f) (sym nothing),
      λ z some. λ i. is_over f m count buffer zero (it refl) some i ++ end_of (is refl (omega (arith, some, long)) (over (it refl) some) i),
    )
    by true (Err why) nothing it is = refl

-- a read that gave bytes
pub went_on : (told : Bool) (xs ys : Text) (count : ℕ) (buffer : Text) → (IsTrue told → xs ≡ take count buffer ++ ys) → (count ≡ 0 → ⊥)
    → Consumes (if_told told xs) (if_told told ys) (take count buffer) × (count ≡ 0 → 0 < length buffer → IsAtEnd (if_told told ys))
went_on false xs ys count buffer is some = (tt, λ z room. tt)
went_on true xs ys count buffer is some = (is refl, λ z room. absurd (some z))
