-- Closed reports in memory, and an output in memory.
use Rattle.std.specs.Prelude.{◌≡◌, ℕ, ◌≤◌, ◌==◌, ◌%◌, List, [], ◌∷◌, ◌++◌, Bool, true, false, Option, Some, None, length, take}
use Rattle.std.proofs.{Common.{◌∙◌, arith, sym}, lemmas.List.{take_all}}
use Rattle.std.specs.List.{find, list_any}
use Rattle.ocfl_tree.specs.Place.{Text, Place}
use Rattle.ocfl_compare.specs.declared.change.{Change.{Change}, ChangeAt.{ChangeAt}}
use Rattle.ocfl_compare.specs.declared.change.Change.TheVariants.{Gone, Undeclared, FileGone, Unlooked, Found, Repaired, Missing, Rewritten, WentBack, NewVersion}
use Rattle.ocfl_accounts.specs.{Cycle.{Cycle, Sight, there, away}, Crash.{Outcomes}, Kept.{Kept, Account, no_lists, with_lists}}
use Rattle.ocfl_accounts.specs.declared.pair.Pair.{Pair}

-- a closed cycle, and the bytes of its report, if that is there
pub record Held : Type 0 where
  pub closed : Cycle
  pub report : Option Text

abbrev pub held_of : List Held → ℕ → Option Held
held_of held cycle = find (λ h. h.closed.cycle == cycle) held

abbrev pub sight_held : Cycle → Option Text → Sight
sight_held c None = away c.whole c.lost
sight_held c (Some bytes) = there c

abbrev pub sight_in : Option Held → Sight
sight_in None = away true false
sight_in (Some h) = sight_held h.closed h.report

abbrev pub bytes_or_none : Option Text → Text
bytes_or_none None = []
bytes_or_none (Some bytes) = bytes

abbrev pub report_in : Option Held → Text
report_in None = []
report_in (Some h) = bytes_or_none h.report

abbrev pub kept_by : List Held → Option (List Place) → List Account → Kept
kept_by held listed accounts = record {
  sights = λ cycle. sight_in (held_of held cycle);
  reports = λ cycle. report_in (held_of held cycle);
  listed = listed;
  lists = with_lists accounts no_lists;
}

-- the cycles, the objects that must be there, and the accounts that were put
pub record Content : Type 0 where
  pub held : List Held
  pub listed : Option (List Place)
  pub accounts : List Account

abbrev pub kept_of : Content → Kept
kept_of c = kept_by c.held c.listed c.accounts

-- with one account more, and with the first of them alone
abbrev pub content_and : Account → Content → Content
content_and a c = record { held = c.held; listed = c.listed; accounts = c.accounts ++ a ∷ [] }

abbrev pub content_with : ℕ → Content → Content
content_with n c = record { held = c.held; listed = c.listed; accounts = take n c.accounts }

-- what it holds, the list of what was found last, how often a call has failed, which of the following calls fails,
-- counted from 1, and whether all after that one fail too
pub record Folder : Type 0 where
  pub content : Content
  pub found : Text
  pub faults : ℕ
  pub call : Option ℕ
  pub ends : Bool

-- accounts are on the disk once they are put
abbrev pub leaves_now : Folder → Outcomes
leaves_now f k = k ≡ kept_of f.content

abbrev pub left_since : Folder → ℕ → Outcomes
left_since f t k = (n : ℕ) × ((t ≤ n) × ((n ≤ length f.content.accounts) × (k ≡ kept_of (content_with n f.content))))

-- The laws of the trait: what a crash may leave now is what it leaves since this moment.
pub all_kept : (n : ℕ) (c : Content) → length c.accounts ≤ n → kept_of (content_with n c) ≡ kept_of c
all_kept n c le = λ i. kept_of (record { held = c.held; listed = c.listed; accounts = take_all n c.accounts le i })

pub counts_now : (f : Folder) (t : ℕ) (k : Kept) → t ≤ length f.content.accounts → leaves_now f k → left_since f t k
counts_now f t k le now = (length f.content.accounts, (le, (omega arith, now ∙ sym (all_kept (length f.content.accounts) f.content (omega arith)))))

pub only_now : (f : Folder) (k : Kept) → left_since f (length f.content.accounts) k → leaves_now f k
only_now f k left = left.1.1.1 ∙ all_kept left.0 f.content left.1.0

-- of a cycle the last byte of its number and of how much it found
abbrev pub text_of : Pair → List ChangeAt → Text
text_of pair changes = pair.closed.cycle % 256 ∷ length changes % 256 ∷ []

abbrev pub is_grave : ChangeAt → Bool
is_grave c = by c.change
  where
    by : Change → Bool
    by Gone = true
    by Undeclared = true
    by FileGone = true
    by Unlooked = false
    by (Found code) = true
    by (Repaired code) = false
    by Missing = true
    by Rewritten = true
    by WentBack = true
    by NewVersion = false

-- that is said, whatever is kept
abbrev pub says : Kept → Pair → List ChangeAt → Text → Bool → Type 0
says k pair changes text grave = (text ≡ text_of pair changes) × (grave ≡ list_any is_grave changes)
