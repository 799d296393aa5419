-- The bytes of closed reports that were opened.
use Rattle.std.proofs.Common.{◌≡◌, ℕ, [], ◌++◌, Bool, true, false, Option, Some, None, Result, Ok, Err, IfOk, Global, option_map, refl, sym, ap, subst, ◌∙◌, append-nil}
use Rattle.std.specs.Prelude.{not, ◌==◌, ◌||◌, if◌then◌else◌}
use Rattle.std.specs.Io.{Buffered.{reader_buffer, reader_capacity, reader_inner, reader_remaining}, KnownBytes.{prepend_known}}
use Rattle.std.specs.declared.io.buffered.BufReader.{BufReader}
use Rattle.ocfl_tree.specs.Place.{Text}
use Rattle.ocfl_closed.specs.{Files.{Files, bytes_by, kept_of, report_named}, Unchanged.{is_unchanged, is_unchanged_by}}
use Rattle.ocfl_closed.specs.Internal.Checked.{end_of, if_told, is_met_by, left_of}
use Rattle.ocfl_closed.specs.declared.check.ClosedCheck.{ClosedCheck}
use Rattle.ocfl_closed.specs.declared.check.ClosedCheck.TheVariants.{Unchecked}

-- the whole one is there, or not
pub whole_bytes : {R : Type 0} (bytes : R → Text) (f : Files) (cycle : ℕ) (report : R) → option_map bytes (Some report) ≡ report_named f true cycle → bytes report ≡ (kept_of f).reports cycle
whole_bytes bytes f cycle report e = ap (λ o. bytes_by o (f.incomplete cycle)) e

pub other_bytes : {R : Type 0} (bytes : R → Text) (f g : Files) (cycle : ℕ) (found : Option R) (report : R) → found ≡ None → g ≡ f → option_map bytes found ≡ report_named f true cycle
    → option_map bytes (Some report) ≡ report_named g false cycle → bytes report ≡ (kept_of f).reports cycle
other_bytes bytes f g cycle found report is same e d =
    λ i. bytes_by ((sym (ap (option_map bytes) is) ∙ e) i) ((subst (λ h. option_map bytes (Some report) ≡ report_named h false cycle) same d) i)

nothing_before : (known : Option Text) → prepend_known [] known ≡ known
nothing_before None = refl
nothing_before (Some xs) = refl

-- of a reader that buffers, before its first read
pub begun : {R : Type 0} (r : BufReader R Global) (inner : R) (remaining : R → Option Text) (known : Option Text) → reader_inner r ≡ inner → reader_buffer r ≡ [] → reader_capacity r ≡ 8192
    → remaining inner ≡ known → reader_remaining remaining r ≡ known
begun r inner remaining known is empty capacity e =
    ap (λ n. if n == 0 then None else prepend_known (reader_buffer r) (remaining (reader_inner r))) capacity
    ∙ (λ i. prepend_known (empty i) (remaining (is i)))
    ∙ nothing_before (remaining inner)
    ∙ e

pub left_same : (told : Bool) (a b : ClosedCheck) (m n : ℕ) (f g : Text) → a ≡ b → m ≡ n → f ≡ g → if_told told (left_of a m f) ≡ if_told told (left_of b n g)
left_same told a b m n f g c s e = λ i. if_told told (left_of (c i) (s i) (e i))

same_if_ok : {E R : Type 0} (r : Result R E) (remaining : R → Option Text) (one other : Option Text) → one ≡ other → IfOk r (λ reader. remaining reader ≡ one) → IfOk r (λ reader. remaining reader ≡ other)
same_if_ok (Ok reader) remaining one other e is = is ∙ e
same_if_ok (Err why) remaining one other e is = tt

pub unchecked_bytes : {E R : Type 0} (r : Result R E) (remaining : R → Option Text) (told : Bool) (report bytes : Text) → told ≡ true → report ≡ bytes
    → IfOk r (λ reader. remaining reader ≡ if_told told (left_of Unchecked 0 report)) → IfOk r (λ reader. remaining reader ≡ Some bytes)
unchecked_bytes r remaining told report bytes is_told e is =
    same_if_ok r remaining (if_told told (left_of Unchecked 0 report)) (Some bytes) (ap (λ b. if_told b (report ++ [])) is_told ∙ ap Some (append-nil report ∙ e)) is

pub checked_bytes : {E R : Type 0} (r : Result R E) (remaining : R → Option Text) (told : Bool) (check : ClosedCheck) (report : Text) (f g : Files) (cycle : ℕ) → told ≡ true → g ≡ f → report ≡ (kept_of f).reports cycle
    → ((t : Text) → is_met_by check t ≡ is_unchanged_by (g.kept cycle) (g.checkpoint cycle) t)
    → IfOk r (λ reader. remaining reader ≡ if_told told (left_of check 0 report)) → IfOk r (λ reader. remaining reader ≡ Some ((kept_of f).reports cycle ++ end_of (is_unchanged f cycle)))
checked_bytes r remaining told check report f g cycle is_told same e met is =
    same_if_ok r remaining (if_told told (left_of check 0 report)) (Some ((kept_of f).reports cycle ++ end_of (is_unchanged f cycle)))
    (ap (λ b. if_told b (report ++ end_of (is_met_by check report))) is_told ∙ ap (λ (t : Text). Some (t ++ end_of (is_met_by check t))) e
    ∙ ap (λ b. Some ((kept_of f).reports cycle ++ end_of b)) (subst (λ h. is_met_by check ((kept_of f).reports cycle) ≡ is_unchanged_by (h.kept cycle) (h.checkpoint cycle) ((kept_of f).reports cycle)) same (met ((kept_of f).reports cycle))))
    is

-- the report of a pair, which is checked or not
pub now_checked : {E R : Type 0} (r : Result R E) (remaining : R → Option Text) (f : Files) (cycle n : ℕ) (before : Bool) → n ≡ cycle → before ≡ true
    → IfOk r (λ reader. remaining reader ≡ Some ((kept_of f).reports n ++ end_of (is_unchanged f n))) → IfOk r (λ reader. remaining reader ≡ Some ((kept_of f).reports cycle ++ end_of (not before || is_unchanged f cycle)))
now_checked r remaining f cycle n before e after is =
    same_if_ok r remaining _ _ (ap (λ m. Some ((kept_of f).reports m ++ end_of (is_unchanged f m))) e ∙ ap (λ b. Some ((kept_of f).reports cycle ++ end_of (not b || is_unchanged f cycle))) (sym after)) is

pub now_unchecked : {E R : Type 0} (r : Result R E) (remaining : R → Option Text) (f : Files) (cycle n : ℕ) (before : Bool) → n ≡ cycle → before ≡ false
    → IfOk r (λ reader. remaining reader ≡ Some ((kept_of f).reports n)) → IfOk r (λ reader. remaining reader ≡ Some ((kept_of f).reports cycle ++ end_of (not before || is_unchanged f cycle)))
now_unchecked r remaining f cycle n before e other is =
    same_if_ok r remaining _ _ (ap (λ m. Some ((kept_of f).reports m)) e ∙ ap Some (sym (append-nil ((kept_of f).reports cycle))) ∙ ap (λ b. Some ((kept_of f).reports cycle ++ end_of (not b || is_unchanged f cycle))) (sym other)) is
