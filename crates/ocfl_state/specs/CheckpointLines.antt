-- The lines of a checkpoint's text, by what they tell: a reader of the public contracts needs none
-- of it.
use Rattle.std.specs.Prelude.{◌≡◌, ◌≢◌, ℕ, ◌^◌, ◌<◌, List, [], ◌∷◌, ◌++◌, All, Bool, codes, decimal, length, flat_map}
use Rattle.hex.specs.Hex.{encode_lower}
use Rattle.ocfl_tree.specs.Place.{Text}
use Rattle.ocfl_report.specs.declared.further.Further.{Further}
use Rattle.ocfl_cursor.specs.Lines.{stored_lines}
use Rattle.ocfl_state.specs.Checkpoint.{Checkpoint, IsDigest, AreNames, IsMark, IsCheckpoint, path_text, names_text, phase_text, yes_or_no, size_text, left_text, checkpoint_first_line, checkpoint_body, lines_then}
use Rattle.ocfl_state.specs.declared.checkpoint_parts.RootIdentity.{RootIdentity}
use Rattle.ocfl_state.specs.declared.checkpoint_parts.TopNames.{TopNames}
use Rattle.ocfl_state.specs.declared.checkpoint_parts.Phase.{Phase}
use Rattle.ocfl_state.specs.declared.checkpoint_parts.ReportMark.{ReportMark}
use Rattle.ocfl_state.specs.declared.checkpoint_parts.Left.{Left}
use Rattle.ocfl_state.specs.declared.checkpoint_account.Standing.{Standing}
use Rattle.ocfl_state.specs.declared.checkpoint_account.Account.{Account}

-- a line by its front and its field, and what follows it
abbrev pub field_line : Text → Text → Text → Text
field_line front field rest = front ++ (field ++ 10 ∷ rest)

-- ---- in writing

abbrev pub root_lines : RootIdentity → Text → Text
root_lines r rest = lines_then ((codes "root " ++ path_text r.path) ∷ (codes "declared " ++ encode_lower r.declared) ∷ []) rest

abbrev pub names_line : TopNames → Text → Text
names_line n rest = lines_then ((codes "names " ++ names_text n) ∷ []) rest

abbrev pub standing_lines : Phase → Bool → Text → Text
standing_lines phase whole rest = lines_then ((codes "phase " ++ phase_text phase) ∷ (codes "whole " ++ yes_or_no whole) ∷ []) rest

abbrev pub mark_lines : ReportMark → Text → Text
mark_lines m rest = lines_then ((codes "report " ++ size_text m) ∷ (codes "pieces " ++ encode_lower m.pieces) ∷ (codes "tail " ++ encode_lower m.tail) ∷ []) rest

abbrev pub said_line : ℕ → Text → Text
said_line said rest = lines_then ((codes "told " ++ decimal said) ∷ []) rest

abbrev pub all_left : List Left → Text → Text
all_left ls rest = lines_then ((codes "left " ++ decimal (length ls)) ∷ []) (flat_map left_text ls ++ rest)

-- ---- in reading

-- the lines from that of the declaration to that of the whole, and what follows them
abbrev pub standing_text : Standing → Text → Text
standing_text s rest = field_line (codes "declared ") (encode_lower s.declared) (field_line (codes "names ") (names_text s.names)
    (field_line (codes "phase ") (phase_text s.phase) (field_line (codes "whole ") (yes_or_no s.whole) rest)))

pub record IsStanding (s : Standing) : Type 0 where
  pub declared : IsDigest s.declared
  pub names : AreNames s.names

abbrev pub sizes_text : ℕ → ℕ → Text
sizes_text bytes lines = decimal bytes ++ 32 ∷ decimal lines

-- the lines of the report, and what follows them
abbrev pub mark_text : ReportMark → Text → Text
mark_text m rest = field_line (codes "report ") (size_text m) (field_line (codes "pieces ") (encode_lower m.pieces) (field_line (codes "tail ") (encode_lower m.tail) rest))

-- the lines from those of the report to that of how many branches were left out
abbrev pub account_text : Account → Text → Text
account_text a rest = mark_text a.report (field_line (codes "told ") (decimal a.said) (field_line (codes "left ") (decimal a.left) rest))

pub record IsAccount (a : Account) : Type 0 where
  pub report : IsMark a.report
  pub said : a.said < 2 ^ 64
  pub left : a.left < 2 ^ 64

-- the text before the last line, by what the first line tells, the path of the root, the lines
-- after it, and what follows them
abbrev pub body_text : Further → Text → Standing → Account → Text → Text
body_text f path s a rest = checkpoint_first_line f ++ field_line (codes "root ") path (standing_text s (account_text a rest))

-- the path of the root is within its line
abbrev pub OneLine : Text → Type 0
OneLine t = All (λ b. b ≢ 10) t

-- the lines of a branch that was left out, by its place and where the cursor was
abbrev pub left_fields : Text → Text → Text → Text
left_fields path stood rest = field_line (codes "left ") path (field_line [] stood rest)

-- what the lines with a fixed number tell of a checkpoint
abbrev pub standing_of : Checkpoint → Standing
standing_of c = record { declared = c.root.declared; names = c.names; phase = c.phase; whole = c.whole }

abbrev pub account_of : Checkpoint → Account
account_of c = record { report = c.report; said = c.said; left = length c.left }

-- what is read is that of this checkpoint
pub record ArePartsOf (f : Further) (front : Text) (s : Standing) (a : Account) (back : Text) (c : Checkpoint) : Type 0 where
  pub keeps : IsCheckpoint c
  pub further : f ≡ c.cursor.further
  pub path : front ≡ path_text c.root.path
  pub standing : s ≡ standing_of c
  pub account : a ≡ account_of c
  pub rest : back ≡ flat_map left_text c.left ++ stored_lines c.part c.cursor

-- the text before the last line is that of this checkpoint
pub record IsBodyOf (body : Text) (c : Checkpoint) : Type 0 where
  pub keeps : IsCheckpoint c
  pub is : body ≡ checkpoint_body c
