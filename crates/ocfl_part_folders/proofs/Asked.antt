-- What the closed report of a part is, by the names that are there.
use Rattle.std.proofs.Common.{◌≡◌, ◌≢◌, IfSome, ◌⊎◌, ◌∙◌, ℕ, List, true, false, Option, Some, None, Result, Ok, Err, MatchResult, IfOk, is_some, inl, inr, refl, sym, ap, subst}
use Rattle.std.specs.Prelude.{OnOk}
use Rattle.std.proofs.lemmas.Bool.{false≢true}
use Rattle.ocfl_tree.specs.Place.{Text}
use Rattle.ocfl_state.specs.Checkpoint.{Checkpoint}
use Rattle.ocfl_cursor.specs.declared.refused.Refused.{Refused}
use Rattle.ocfl_cursor.specs.declared.refused.Refused.TheVariants.{Memory}
use Rattle.std.specs.IoError.{error_kind}
use Rattle.std.specs.declared.io.{Error.{Error}, ErrorKind.TheVariants.{UnexpectedEof}}
use Rattle.ocfl_files.specs.{Failing.{OrMemory, Says, StopsOn, out_of_memory, stopped_status}, declared.failing.Failure.{Failure}}
use Rattle.ocfl_joining.specs.declared.facts.Facts.{Facts}
use Rattle.ocfl_join_disk.specs.Shown.{with_opened as seen_opened, with_text}
use Rattle.ocfl_part_folders.specs.Refusing.{SaysUnjoined, other_text}
use Rattle.ocfl_part_folders.specs.Folder.{PartsFolder, files_in, found_by, with_note, with_opened, with_part}

-- one is there that is whole
pub found_whole : (whole other : Option Text) (kept : Option (Option Checkpoint)) → true ≡ is_some whole → true ≡ is_some (found_by whole other kept)
found_whole None other kept e = absurd (false≢true (sym e))
found_whole (Some text) other kept e = refl

-- none is, so the other one counts
pub found_other : (whole other : Option Text) (kept : Option (Option Checkpoint)) → false ≡ is_some whole → is_some other ≡ is_some (found_by whole other kept)
found_other (Some text) other kept e = absurd (false≢true e)
found_other None None kept e = refl
found_other None (Some text) kept e = refl

-- bytes are refused for a reason that holds, unless memory was
pub refused_so : {E : Type 0} (r : Result Failure E) (f : Failure) (why : Refused) (IsRight : Refused → Type 0) (Tells : Refused → Failure → Type 0) → MatchResult r (λ g. f ≡ g) (λ _. f ≡ out_of_memory)
    → IfOk r (Tells why) → (why ≡ Memory → IfOk r (λ _. ⊥)) → IsRight why ⊎ (why ≡ Memory) → OrMemory (λ g. (w : Refused) × (IsRight w × Tells w g)) f
refused_so (Ok g) f why IsRight Tells e told memory (inl right) = inr (why, (right, subst (Tells why) (sym e) told))
refused_so (Ok g) f why IsRight Tells e told memory (inr m) = absurd (memory m)
refused_so (Err x) f why IsRight Tells e told memory of = inl e

-- what is seen of a disk, where but a report was opened
pub files_opened : {A E F : Type 0} (r : Result A E) (made : Result A F) (facts facts' : List (Option Facts)) (n : ℕ) (f g h : PartsFolder) → IfOk r (λ v. made ≡ Ok v) → facts' ≡ facts → h ≡ g
    → OnOk made (g ≡ with_part n f) → OnOk r (files_in facts' h ≡ seen_opened n (files_in facts f))
files_opened {A = A} {E = E} {F = F} (Ok v) made facts facts' n f g h ok same is has =
    let one : g ≡ with_part n f = subst (λ (m : Result A F). OnOk m (g ≡ with_part n f)) ok has in
    ap (λ (fs : List (Option Facts)). files_in fs h) same ∙ ap (files_in facts) (is ∙ one)
files_opened {A = A} {E = E} {F = F} (Err e) made facts facts' n f g h ok same is has = tt

pub files_on : (facts facts' : List (Option Facts)) (f g h : PartsFolder) (opened : List ℕ) → facts' ≡ facts → h ≡ g → g ≡ with_opened opened f → (files_in facts' h).folders ≡ (files_in facts f).folders
files_on facts facts' f g h opened same is e =
    ap (λ (fs : List (Option Facts)). (files_in fs h).folders) same ∙ ap (λ (k : PartsFolder). (files_in facts k).folders) (is ∙ e)

pub files_noted : (facts : List (Option Facts)) (text : Text) (f g : PartsFolder) → g ≡ with_note text f → files_in facts g ≡ with_text text (files_in facts f)
files_noted facts text f g e = ap (files_in facts) e

-- what is said of a file in place of a joined report, by each error
pub unjoined_so : (path : Text) (error : Option Error) (f : Failure) → (error ≡ None → OrMemory (Says stopped_status (other_text path)) f) → IfSome error (λ e. error_kind e ≡ UnexpectedEof → OrMemory (Says stopped_status (other_text path)) f)
    → IfSome error (λ e. error_kind e ≢ UnexpectedEof → OrMemory (StopsOn path) f) → SaysUnjoined path error f
unjoined_so path None f other end failed = other refl
unjoined_so path (Some e) f other end failed = (end, failed)
