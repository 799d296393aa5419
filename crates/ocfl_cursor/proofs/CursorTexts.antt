-- The text of a cursor determines the cursor, and is refused for no reason.
use Rattle.std.proofs.Common.{◌≡◌, ◌⊎◌, inl, inr, ℕ, ◌+◌, ◌^◌, ◌<◌, ◌≤◌, [], ◌∷◌, ◌++◌, ◌==◌, false, length, get_or, decimal, codes, refl, sym, ap, subst, ◌∙◌, append_assoc, length-append, arith}
use Rattle.std.proofs.lemmas.Bool.{eqb-false}
use Rattle.std.proofs.lemmas.List.{append_cancel_left, append_cancel_right}
use Rattle.std.proofs.lemmas.Fmt.{length-decimal-le_wide}
use Rattle.ocfl_tree.specs.Place.{Text}
use Rattle.ocfl_report.specs.Text.{place_text}
use Rattle.ocfl_report.specs.declared.further.Further.{Further}
use Rattle.ocfl_report.specs.declared.further.Further.TheVariants.{Nothing, Inventories}
use Rattle.ocfl_report.proofs.{PlaceTexts.{place_text_determines}, Numbers.{wide}}
use Rattle.ocfl_cursor.specs.Cursor.{State, start, behind, ended, Cursor, IsShortPlace, IsCursor, further_line, number_line, state_text, cursor_lines, cursor_first_line, cursor_body, digest_line, cursor_text, HasVersionOne, version_one_body, version_one_text}
use Rattle.ocfl_cursor.specs.Internal.Body.{further_of, version_of, version_line, files_line, FilesFit, counts_text, CountsFit, IsStateLine, AreLinesOf, IsBodyOf}
use Rattle.ocfl_cursor.specs.{Refusal.{IsTextOf}, declared.form.FormVersion.{FormVersion}}
use Rattle.ocfl_cursor.specs.declared.form.FormVersion.TheVariants.{One, Two, Three}
use Rattle.ocfl_cursor.proofs.{Numbers.{number_line_determines}, Paths.{length-place_text}}
use Rattle.ocfl_cursor.proofs.Seals.{length-sealed, sealed_determines}

-- ---- the first line

-- the digit of a version is the byte after the front
abbrev version_digit : FormVersion → ℕ
version_digit One = 49
version_digit Two = 50
version_digit Three = 51

digit_of_line : (v : FormVersion) (r : Text) → get_or (version_line v ++ r) 18 0 ≡ version_digit v
digit_of_line One r = refl
digit_of_line Two r = refl
digit_of_line Three r = refl

same_digits : (v w : FormVersion) → version_digit v ≡ version_digit w → v ≡ w
same_digits One One e = refl
same_digits One Two e = absurd (eqb-false 49 50 refl e)
same_digits One Three e = absurd (eqb-false 49 51 refl e)
same_digits Two One e = absurd (eqb-false 50 49 refl e)
same_digits Two Two e = refl
same_digits Two Three e = absurd (eqb-false 50 51 refl e)
same_digits Three One e = absurd (eqb-false 51 49 refl e)
same_digits Three Two e = absurd (eqb-false 51 50 refl e)
same_digits Three Three e = refl

-- the version is the same if texts begin with its line, and so is what follows
pub version_line_determines : (v w : FormVersion) (r s : Text) → version_line v ++ r ≡ version_line w ++ s → (v ≡ w) × (r ≡ s)
version_line_determines v w r s e =
    let same : v ≡ w = same_digits v w (sym (digit_of_line v r) ∙ ap (λ t. get_or t 18 0) e ∙ digit_of_line w s) in
    (same, append_cancel_left (version_line w) r s (ap (λ u. version_line u ++ r) (sym same) ∙ e))

-- a text without any of the lines has none
pub no_version_line : (body : Text) → ((r : Text) → body ≡ version_line Three ++ r → ⊥) → ((r : Text) → body ≡ version_line Two ++ r → ⊥)
    → ((r : Text) → body ≡ version_line One ++ r → ⊥) → (v : FormVersion) (r : Text) → body ≡ version_line v ++ r → ⊥
no_version_line body three two one One r e = one r e
no_version_line body three two one Two r e = two r e
no_version_line body three two one Three r e = three r e

-- ---- what is checked further

-- the first line of the version that is written for it
pub first_line_is : (f : Further) → cursor_first_line f ≡ version_line (version_of f)
first_line_is Nothing = refl
first_line_is Inventories = refl

-- the version that is written for it tells it
pub further_written : (f : Further) → further_of (version_of f) ≡ f
further_written Nothing = refl
further_written Inventories = refl

-- ---- the line of the files

-- numbers of files are the same if texts begin with their lines, and so is what follows them
files_line_determines : (v : FormVersion) (f g : ℕ) (r s : Text) → FilesFit v f → FilesFit v g → files_line v f ++ r ≡ files_line v g ++ s → (f ≡ g) × (r ≡ s)
files_line_determines One f g r s h k e = (h ∙ sym k, e)
files_line_determines Two f g r s h k e = number_line_determines (codes "files") f g r s h k e
files_line_determines Three f g r s h k e = number_line_determines (codes "files") f g r s h k e

-- ---- the numbers

wide_cycle : {v : FormVersion} {n m k f : ℕ} → CountsFit v n m k f → n < 2 ^ 128
wide_cycle h = omega (arith, h.cycle)

wide_runs : {v : FormVersion} {n m k f : ℕ} → CountsFit v n m k f → m < 2 ^ 128
wide_runs h = omega (arith, h.runs)

-- what follows each line
abbrev from_files : FormVersion → ℕ → Text → Text
from_files v f r = files_line v f ++ r

abbrev from_spent : FormVersion → ℕ → ℕ → Text → Text
from_spent v k f r = number_line (codes "spent") k ++ from_files v f r

abbrev from_runs : FormVersion → ℕ → ℕ → ℕ → Text → Text
from_runs v m k f r = number_line (codes "runs") m ++ from_spent v k f r

abbrev from_cycle : FormVersion → ℕ → ℕ → ℕ → ℕ → Text → Text
from_cycle v n m k f r = number_line (codes "cycle") n ++ from_runs v m k f r

abbrev from_further : FormVersion → ℕ → ℕ → ℕ → ℕ → Text → Text
from_further v n m k f r = further_line (further_of v) ++ from_cycle v n m k f r

-- their lines and what follows, one after the other
pub counts_text-append : (v : FormVersion) (n m k f : ℕ) (r : Text) → counts_text v n m k f ++ r ≡ from_further v n m k f r
counts_text-append v n m k f r =
    let further : Text = further_line (further_of v) in
    append_assoc (further ++ number_line (codes "cycle") n ++ number_line (codes "runs") m ++ number_line (codes "spent") k) (files_line v f) r
    ∙ append_assoc (further ++ number_line (codes "cycle") n ++ number_line (codes "runs") m) (number_line (codes "spent") k) (from_files v f r)
    ∙ append_assoc (further ++ number_line (codes "cycle") n) (number_line (codes "runs") m) (from_spent v k f r)
    ∙ append_assoc further (number_line (codes "cycle") n) (from_runs v m k f r)

-- numbers are the same if texts begin with their lines, and so is what follows them
pub record SameCounts (n m k f n' m' k' f' : ℕ) (r s : Text) : Type 0 where
  pub cycle : n ≡ n'
  pub runs : m ≡ m'
  pub spent : k ≡ k'
  pub files : f ≡ f'
  pub rest : r ≡ s

pub counts_text_determines : (v : FormVersion) (n m k f n' m' k' f' : ℕ) (r s : Text) → CountsFit v n m k f → CountsFit v n' m' k' f'
    → counts_text v n m k f ++ r ≡ counts_text v n' m' k' f' ++ s → SameCounts n m k f n' m' k' f' r s
counts_text_determines v n m k f n' m' k' f' r s h h' e =
    let lines = append_cancel_left (further_line (further_of v)) (from_cycle v n m k f r) (from_cycle v n' m' k' f' s) (sym (counts_text-append v n m k f r) ∙ e ∙ counts_text-append v n' m' k' f' s) in
    let first = number_line_determines (codes "cycle") n n' _ _ (wide_cycle h) (wide_cycle h') lines in
    let second = number_line_determines (codes "runs") m m' _ _ (wide_runs h) (wide_runs h') first.1 in
    let third = number_line_determines (codes "spent") k k' _ _ h.spent h'.spent second.1 in
    let fourth = files_line_determines v f f' r s h.files h'.files third.1 in
    record { cycle = first.0; runs = second.0; spent = third.0; files = fourth.0; rest = fourth.1 }

-- ---- the state

-- texts that begin with different bytes differ
differ : (a b : ℕ) (t u : Text) → a == b ≡ false → a ∷ t ≡ b ∷ u → ⊥
differ a b t u h e = eqb-false a b h (ap (λ x. get_or x 0 0) e)

-- states are the same if their texts are
state_text_determines : (s t : State) → IsShortPlace s → IsShortPlace t → state_text s ≡ state_text t → s ≡ t
state_text_determines start start h k e = refl
state_text_determines start (behind q) h k e = absurd (differ 115 97 _ _ refl e)
state_text_determines start ended h k e = absurd (differ 115 101 _ _ refl e)
state_text_determines (behind p) start h k e = absurd (differ 97 115 _ _ refl e)
state_text_determines (behind p) (behind q) h k e = ap behind (place_text_determines p q h.0 k.0 (append_cancel_left (codes "after ") _ _ e))
state_text_determines (behind p) ended h k e = absurd (differ 97 101 _ _ refl e)
state_text_determines ended start h k e = absurd (differ 101 115 _ _ refl e)
state_text_determines ended (behind q) h k e = absurd (differ 101 97 _ _ refl e)
state_text_determines ended ended h k e = refl

pub state_line_determines : (line : Text) (s t : State) → IsStateLine line s → IsStateLine line t → s ≡ t
state_line_determines line s t h k = state_text_determines s t h.short k.short (append_cancel_right (state_text s) (state_text t) (10 ∷ []) (sym h.is ∙ k.is))

-- ---- the lines between the first and the digest line

-- as many numbers as a cursor's text tells
pub CountsFit-lines : (v : FormVersion) (lines : Text) (c : Cursor) → AreLinesOf v lines c → CountsFit v c.cycle c.runs c.spent c.files
CountsFit-lines v lines c h = record { cycle = h.keeps.cycle; runs = h.keeps.runs; spent = omega (arith, h.keeps.spent, h.keeps.runs); files = h.files }

-- the lines as those of the numbers, and that of the state
pub lines_parts : (v : FormVersion) (lines : Text) (c : Cursor) → AreLinesOf v lines c → lines ≡ counts_text v c.cycle c.runs c.spent c.files ++ (state_text c.state ++ 10 ∷ [])
lines_parts v lines c h = h.is ∙ append_assoc (counts_text v c.cycle c.runs c.spent c.files) (state_text c.state) (10 ∷ [])

-- the line of a cursor's state
IsStateLine-cursor : (c : Cursor) → IsCursor c → IsStateLine (state_text c.state ++ 10 ∷ []) c.state
IsStateLine-cursor c h = record { short = h.place; is = refl }

-- cursors are the same if their lines are
pub lines_determine : (v : FormVersion) (lines : Text) (c d : Cursor) → AreLinesOf v lines c → AreLinesOf v lines d → c ≡ d
lines_determine v lines c d h k =
    let same = counts_text_determines v c.cycle c.runs c.spent c.files d.cycle d.runs d.spent d.files _ _ (CountsFit-lines v lines c h)
    (CountsFit-lines v lines d k) (sym (lines_parts v lines c h) ∙ lines_parts v lines d k) in
    let state : c.state ≡ d.state = state_line_determines _ c.state d.state (IsStateLine-cursor c h.keeps) (record { short = k.keeps.place; is = same.rest }) in
    let further : c.further ≡ d.further = h.further ∙ sym k.further in
    λ i. record { cycle = same.cycle i; runs = same.runs i; spent = same.spent i; files = same.files i; further = further i; state = state i }

-- the lines of a cursor, if its audit checked this further
abbrev pub lines_by : Further → Cursor → Text
lines_by f c = further_line f ++ number_line (codes "cycle") c.cycle ++ number_line (codes "runs") c.runs ++ number_line (codes "spent") c.spent
    ++ number_line (codes "files") c.files ++ state_text c.state ++ 10 ∷ []

-- those of its own audit
lines_so : (f : Further) (c : Cursor) → c.further ≡ f → cursor_lines c ≡ lines_by f c
lines_so f c e = ap (λ g. lines_by g c) e

-- a cursor has lines in the version that is written for its audit
AreLinesOf-written : (f : Further) (c : Cursor) → c.further ≡ f → IsCursor c → AreLinesOf (version_of f) (cursor_lines c) c
AreLinesOf-written Nothing c e h = record { keeps = h; files = omega (arith, h.files, h.spent, h.runs); further = e; is = lines_so Nothing c e }
AreLinesOf-written Inventories c e h = record { keeps = h; files = omega (arith, h.files, h.spent, h.runs); further = e; is = lines_so Inventories c e }

pub AreLinesOf-cursor : (c : Cursor) → IsCursor c → AreLinesOf (version_of c.further) (cursor_lines c) c
AreLinesOf-cursor c h = AreLinesOf-written c.further c refl h

-- and these are its lines
pub lines_of-cursor : (f : Further) (lines : Text) (c : Cursor) → AreLinesOf (version_of f) lines c → lines ≡ cursor_lines c
lines_of-cursor Nothing lines c h = h.is ∙ sym (lines_so Nothing c h.further)
lines_of-cursor Inventories lines c h = h.is ∙ sym (lines_so Inventories c h.further)

-- ---- the text before the digest line

-- a cursor's body in one of the versions: its first line, and the others
pub record IsWritten (v : FormVersion) (lines body : Text) (c : Cursor) : Type 0 where
  pub is : body ≡ version_line v ++ lines
  pub tells : AreLinesOf v lines c

-- the lines of version 1
abbrev one_lines : Cursor → Text
one_lines c = counts_text One c.cycle c.runs c.spent c.files ++ state_text c.state ++ 10 ∷ []

cursor_body_parts : (c : Cursor) → cursor_body c ≡ version_line (version_of c.further) ++ cursor_lines c
cursor_body_parts c = ap (λ t. t ++ cursor_lines c) (first_line_is c.further)

-- the body of a cursor whose audit checks this further
body_so : (f : Further) (body lines : Text) (c : Cursor) → body ≡ version_line (version_of f) ++ lines → AreLinesOf (version_of f) lines c → body ≡ cursor_body c
body_so f body lines c e h =
    let further : c.further ≡ f = h.further ∙ further_written f in
    e ∙ ap (λ t. version_line (version_of f) ++ t) (lines_of-cursor f lines c h) ∙ ap (λ g. version_line (version_of g) ++ cursor_lines c) (sym further) ∙ sym (cursor_body_parts c)

without_files : (a b d e t u : Text) → a ++ b ++ d ++ e ++ t ++ u ≡ a ++ (b ++ d ++ e ++ [] ++ t ++ u)
without_files a b d e t u = simp append_assoc

version_one_parts : (c : Cursor) → version_one_body c ≡ version_line One ++ one_lines c
version_one_parts c = without_files (codes "ocfl-scrub cursor 1\n") (number_line (codes "cycle") c.cycle) (number_line (codes "runs") c.runs)
    (number_line (codes "spent") c.spent) (state_text c.state) (10 ∷ [])

-- a body is written in the version for the audit, or in version 1
pub written_body : (body : Text) (c : Cursor) → IsBodyOf body c → (v : FormVersion) × ((lines : Text) × IsWritten v lines body c)
written_body body c h = by h.is
  where
    by : (body ≡ cursor_body c) ⊎ (HasVersionOne c × (body ≡ version_one_body c)) → (v : FormVersion) × ((lines : Text) × IsWritten v lines body c)
    by (inl e) = (version_of c.further, (cursor_lines c, record { is = e ∙ cursor_body_parts c; tells = AreLinesOf-cursor c h.keeps }))
    by (inr e) = (One, (one_lines c, record { is = e.1 ∙ version_one_parts c; tells = record { keeps = h.keeps; files = e.0.files; further = e.0.further; is = refl } }))

-- and what is written so is a body
pub body_from_lines : (v : FormVersion) (body lines : Text) (c : Cursor) → body ≡ version_line v ++ lines → AreLinesOf v lines c → IsBodyOf body c
body_from_lines One body lines c e h =
    let one : HasVersionOne c = record { files = h.files; further = h.further } in
    record { keeps = h.keeps; is = inr (one, e ∙ ap (λ t. version_line One ++ t) h.is ∙ sym (version_one_parts c)) }
body_from_lines Two body lines c e h = record { keeps = h.keeps; is = inl (body_so Nothing body lines c e h) }
body_from_lines Three body lines c e h = record { keeps = h.keeps; is = inl (body_so Inventories body lines c e h) }

-- the lines of a body whose first line is known
pub lines_from_body : (v : FormVersion) (body lines : Text) (c : Cursor) → body ≡ version_line v ++ lines → IsBodyOf body c → AreLinesOf v lines c
lines_from_body v body lines c e h =
    let w = written_body body c h in
    let same = version_line_determines w.0 v w.1.0 lines (sym w.1.1.is ∙ e) in
    subst (λ t. AreLinesOf v t c) same.1 (subst (λ u. AreLinesOf u w.1.0 c) same.0 w.1.1.tells)

-- without a first line no text is a body
pub no_body : (body : Text) → ((v : FormVersion) (r : Text) → body ≡ version_line v ++ r → ⊥) → (c : Cursor) → IsBodyOf body c → ⊥
no_body body none c h = let w = written_body body c h in none w.0 w.1.0 w.1.1.is

-- cursors are the same if their bodies are
body_determines : (body : Text) (c d : Cursor) → IsBodyOf body c → IsBodyOf body d → c ≡ d
body_determines body c d h k = let w = written_body body c h in lines_determine w.0 w.1.0 c d w.1.1.tells (lines_from_body w.0 body w.1.0 d w.1.1.is k)

-- ---- the digest line

-- what a cursor's text seals
abbrev Sealed : Text → Cursor → Type 0
Sealed b c = (body : Text) × ((b ≡ body ++ digest_line body) × IsBodyOf body c)

sealed_body : (b : Text) (c : Cursor) → IsTextOf b c → Sealed b c
sealed_body b c h = by h.is
  where
    by : (b ≡ cursor_text c) ⊎ (HasVersionOne c × (b ≡ version_one_text c)) → Sealed b c
    by (inl e) = (cursor_body c, (e, record { keeps = h.keeps; is = inl refl }))
    by (inr e) = (version_one_body c, (e.1, record { keeps = h.keeps; is = inr (e.0, refl) }))

-- a sealed text is a cursor's if what it seals is the cursor's body
pub IsTextOf-sealed : (text body : Text) (c : Cursor) → text ≡ body ++ digest_line body → IsBodyOf body c → IsTextOf text c
IsTextOf-sealed text body c e h = record { keeps = h.keeps; is = by h.is }
  where
    by : (body ≡ cursor_body c) ⊎ (HasVersionOne c × (body ≡ version_one_body c)) → (text ≡ cursor_text c) ⊎ (HasVersionOne c × (text ≡ version_one_text c))
    by (inl f) = inl (e ∙ ap (λ b. b ++ digest_line b) f)
    by (inr f) = inr (f.0, e ∙ ap (λ b. b ++ digest_line b) f.1)

-- and only then
pub IsBodyOf-sealed : (text body : Text) (c : Cursor) → text ≡ body ++ digest_line body → IsTextOf text c → IsBodyOf body c
IsBodyOf-sealed text body c e h =
    let s = sealed_body text c h in
    subst (λ b. IsBodyOf b c) (sealed_determines (codes "digest ") refl s.0 body (sym s.1.0 ∙ e)) s.1.1

-- a text determines the cursor whose text it is
pub text_determines : (b : Text) (c d : Cursor) → IsTextOf b c → IsTextOf b d → c ≡ d
text_determines b c d h k = let s = sealed_body b c h in body_determines s.0 c d s.1.1 (IsBodyOf-sealed b s.0 d s.1.0 k)

-- ---- a cursor's text is not refused

length-number_line : (name : Text) (n : ℕ) → n < 2 ^ 128 → length (number_line name n) ≤ length name + 41
length-number_line name n l =
    omega (arith, length-append (name ++ 32 ∷ decimal n) (10 ∷ []), length-append name (32 ∷ decimal n), length-decimal-le_wide 39 n (omega arith) (omega arith) (wide n l))

length-version_line : (v : FormVersion) → length (version_line v) ≤ 20
length-version_line One = omega arith
length-version_line Two = omega arith
length-version_line Three = omega arith

length-further_line : (v : FormVersion) → length (further_line (further_of v)) ≤ 19
length-further_line One = omega arith
length-further_line Two = omega arith
length-further_line Three = omega arith

length-files_line : (v : FormVersion) (f : ℕ) → FilesFit v f → length (files_line v f) ≤ 46
length-files_line One f h = omega arith
length-files_line Two f h = length-number_line (codes "files") f h
length-files_line Three f h = length-number_line (codes "files") f h

length-counts_text : (v : FormVersion) (n m k f : ℕ) → CountsFit v n m k f → length (counts_text v n m k f) ≤ 202
length-counts_text v n m k f h =
    let further : Text = further_line (further_of v) in
    omega (
      arith,
      length-append (further ++ number_line (codes "cycle") n ++ number_line (codes "runs") m ++ number_line (codes "spent") k) (files_line v f),
      length-append (further ++ number_line (codes "cycle") n ++ number_line (codes "runs") m) (number_line (codes "spent") k),
      length-append (further ++ number_line (codes "cycle") n) (number_line (codes "runs") m),
      length-append further (number_line (codes "cycle") n),
      length-further_line v,
      length-number_line (codes "cycle") n (wide_cycle h),
      length-number_line (codes "runs") m (wide_runs h),
      length-number_line (codes "spent") k h.spent,
      length-files_line v f h.files,
    )

length-state_text : (s : State) → IsShortPlace s → length (state_text s) ≤ 195335
length-state_text start h = omega arith
length-state_text (behind p) h = omega (arith, length-append (codes "after ") (place_text p), length-place_text p h.0 h.1)
length-state_text ended h = omega arith

length-lines : (v : FormVersion) (lines : Text) (c : Cursor) → AreLinesOf v lines c → length lines ≤ 195538
length-lines v lines c h =
    omega (
      arith,
      ap length h.is,
      length-append (counts_text v c.cycle c.runs c.spent c.files ++ state_text c.state) (10 ∷ []),
      length-append (counts_text v c.cycle c.runs c.spent c.files) (state_text c.state),
      length-counts_text v c.cycle c.runs c.spent c.files (CountsFit-lines v lines c h),
      length-state_text c.state h.keeps.place,
    )

length-written : (v : FormVersion) (lines body : Text) (c : Cursor) → IsWritten v lines body c → length body ≤ 195558
length-written v lines body c h = omega (arith, ap length h.is, length-append (version_line v) lines, length-version_line v, length-lines v lines c h.tells)

-- the text of a cursor stays below 196,000 bytes
pub length-text : (b : Text) (c : Cursor) → IsTextOf b c → length b < 196000
length-text b c h =
    let s = sealed_body b c h in
    let w = written_body s.0 c s.1.1 in
    omega (arith, ap length s.1.0, length-sealed (codes "digest ") refl s.0, length-written w.0 w.1.0 s.0 c w.1.1)

-- ---- the lines of the numbers, read one after the other

-- what is left of the lines once some are read, where the text begins with all of them
pub record LinesLeft (v : FormVersion) (a : Text) (n m k f : ℕ) (r : Text) : Type 0 where
  pub fits : CountsFit v n m k f
  pub is : a ≡ from_cycle v n m k f r

-- they begin with the line of what is checked further
pub begins_further : (v : FormVersion) (a : Text) (n m k f : ℕ) (r : Text) → a ≡ counts_text v n m k f ++ r → a ≡ further_line (further_of v) ++ from_cycle v n m k f r
begins_further v a n m k f r e = e ∙ counts_text-append v n m k f r

-- and go on with those of the numbers
pub all_lines_left : (v : FormVersion) (lines a : Text) (n m k f : ℕ) (r : Text) → CountsFit v n m k f → lines ≡ further_line (further_of v) ++ a
    → lines ≡ counts_text v n m k f ++ r → LinesLeft v a n m k f r
all_lines_left v lines a n m k f r h q e =
    record { fits = h; is = append_cancel_left (further_line (further_of v)) a (from_cycle v n m k f r) (sym q ∙ begins_further v lines n m k f r e) }

pub after_cycle_line : (w : FormVersion) (a b : Text) (i n m k f : ℕ) (r : Text) → LinesLeft w a n m k f r → i < 2 ^ 64 → a ≡ number_line (codes "cycle") i ++ b → b ≡ from_runs w m k f r
after_cycle_line w a b i n m k f r h l q = (number_line_determines (codes "cycle") i n b _ (omega arith) (wide_cycle h.fits) (sym q ∙ h.is)).1

pub after_runs_line : (w : FormVersion) (a b d : Text) (i j n m k f : ℕ) (r : Text) → LinesLeft w a n m k f r → i < 2 ^ 64 → j < 2 ^ 64
    → a ≡ number_line (codes "cycle") i ++ b → b ≡ number_line (codes "runs") j ++ d → d ≡ from_spent w k f r
after_runs_line w a b d i j n m k f r h l l' q q' = (number_line_determines (codes "runs") j m d _ (omega arith) (wide_runs h.fits) (sym q' ∙ after_cycle_line w a b i n m k f r h l q)).1

pub after_spent_line : (w : FormVersion) (a b d e : Text) (i j u n m k f : ℕ) (r : Text) → LinesLeft w a n m k f r → i < 2 ^ 64 → j < 2 ^ 64 → u < 2 ^ 128
    → a ≡ number_line (codes "cycle") i ++ b → b ≡ number_line (codes "runs") j ++ d → d ≡ number_line (codes "spent") u ++ e
    → e ≡ from_files w f r
after_spent_line w a b d e i j u n m k f r h l l' l'' q q' q'' = (number_line_determines (codes "spent") u k e _ l'' h.fits.spent (sym q'' ∙ after_runs_line w a b d i j n m k f r h l l' q q')).1

-- ---- lines whose parts are read

-- what follows the numbers is the line of the cursor's state, and the numbers are the cursor's
same_parts : (lines line : Text) (v : FormVersion) (n m k f : ℕ) (c : Cursor) → CountsFit v n m k f → lines ≡ counts_text v n m k f ++ line → AreLinesOf v lines c
    → SameCounts n m k f c.cycle c.runs c.spent c.files line (state_text c.state ++ 10 ∷ [])
same_parts lines line v n m k f c fit e h =
    counts_text_determines v n m k f c.cycle c.runs c.spent c.files line _ fit (CountsFit-lines v lines c h) (sym e ∙ lines_parts v lines c h)

pub IsStateLine-read : (lines line : Text) (v : FormVersion) (n m k f : ℕ) (c : Cursor) → CountsFit v n m k f → lines ≡ counts_text v n m k f ++ line → AreLinesOf v lines c → IsStateLine line c.state
IsStateLine-read lines line v n m k f c fit e h = record { short = h.keeps.place; is = (same_parts lines line v n m k f c fit e h).rest }

-- the parts are those of the cursor
cursor_from_parts : (lines line : Text) (v : FormVersion) (n m k f : ℕ) (g : Further) (s : State) (c : Cursor) → CountsFit v n m k f → lines ≡ counts_text v n m k f ++ line → g ≡ further_of v
    → IsStateLine line s → AreLinesOf v lines c → ◌≡◌ {A = Cursor} c (record { cycle = n; runs = m; spent = k; files = f; further = g; state = s })
cursor_from_parts lines line v n m k f g s c fit e tells h b =
    let same = same_parts lines line v n m k f c fit e b in
    let state = state_line_determines line s c.state h (IsStateLine-read lines line v n m k f c fit e b) in
    let further : g ≡ c.further = tells ∙ sym b.further in
    sym (λ i. record { cycle = same.cycle i; runs = same.runs i; spent = same.spent i; files = same.files i; further = further i; state = state i })

-- if no cursor has the parts, no cursor has the lines
pub no_cursor_of-parts : (lines line : Text) (v : FormVersion) (n m k f : ℕ) (g : Further) (s : State) → CountsFit v n m k f → lines ≡ counts_text v n m k f ++ line → g ≡ further_of v
    → IsStateLine line s → (IsCursor (record { cycle = n; runs = m; spent = k; files = f; further = g; state = s }) → ⊥) → (c : Cursor) → AreLinesOf v lines c → ⊥
no_cursor_of-parts lines line v n m k f g s fit e tells h none c b = none (subst IsCursor (cursor_from_parts lines line v n m k f g s c fit e tells h b) b.keeps)

-- the cursor of the parts has the lines
pub lines_of-parts : (lines line : Text) (v : FormVersion) (n m k f : ℕ) (g : Further) (s : State) → CountsFit v n m k f → lines ≡ counts_text v n m k f ++ line → g ≡ further_of v
    → IsStateLine line s → IsCursor (record { cycle = n; runs = m; spent = k; files = f; further = g; state = s })
    → AreLinesOf v lines (record { cycle = n; runs = m; spent = k; files = f; further = g; state = s })
lines_of-parts lines line v n m k f g s fit e tells h keeps =
    record { keeps = keeps; files = fit.files; further = tells; is = e ∙ ap (λ t. counts_text v n m k f ++ t) h.is ∙ sym (append_assoc (counts_text v n m k f) (state_text s) (10 ∷ [])) }
