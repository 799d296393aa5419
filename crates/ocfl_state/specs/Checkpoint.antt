-- A checkpoint, and its text: what one night leaves for the next.
use Rattle.std.specs.Prelude.{◌≡◌, ℕ, ◌^◌, ◌<◌, ◌≤◌, List, [], ◌∷◌, ◌++◌, All, Bool, true, false, Option, Some, None, IfSome, length, flat_map, codes, decimal}
use Rattle.hex.specs.Hex.{encode_lower, IsBytes}
use Rattle.ocfl_tree.specs.{Place.{Text, Place}, Name.{IsPlace}}
use Rattle.ocfl_report.specs.Text.{place_text}
use Rattle.ocfl_report.specs.declared.further.Further.{Further}
use Rattle.ocfl_report.specs.declared.further.Further.TheVariants.{Nothing, Inventories}
use Rattle.ocfl_cursor.specs.{Cursor.{Cursor, IsCursor}, Lines.{stored_lines}, Sealed.{with_seal}}
use Rattle.ocfl_cursor.specs.{Part.{AreEnds}, declared.ends.PartEnds.{PartEnds}}
use Rattle.ocfl_state.specs.declared.checkpoint_parts.RootIdentity.{RootIdentity}
use Rattle.ocfl_state.specs.declared.checkpoint_parts.TopNames.{TopNames}
use Rattle.ocfl_state.specs.declared.checkpoint_parts.Phase.{Phase}
use Rattle.ocfl_state.specs.declared.checkpoint_parts.Phase.TheVariants.{Open, Closing}
use Rattle.ocfl_state.specs.declared.checkpoint_parts.ReportMark.{ReportMark}
use Rattle.ocfl_state.specs.declared.checkpoint_parts.Left.{Left}

-- whose root is read, how much of the report belongs to the cursor, how much of that was said, what
-- was left out, and where the next run begins
pub record Checkpoint : Type 0 where
  pub root : RootIdentity
  pub names : TopNames
  pub phase : Phase
  pub whole : Bool
  pub report : ReportMark
  pub said : ℕ
  pub left : List Left
  pub part : Option PartEnds
  pub cursor : Cursor

-- ---- its own rule

-- a SHA-256 (FIPS 180-4, 6.2)
pub record IsDigest (d : Text) : Type 0 where
  pub size : length d ≡ 32
  pub bytes : IsBytes d

pub record IsRoot (r : RootIdentity) : Type 0 where
  pub path : IsPlace r.path
  pub declared : IsDigest r.declared

pub record AreNames (n : TopNames) : Type 0 where
  pub count : n.count < 2 ^ 64
  pub digest : IsDigest n.digest

pub record IsMark (m : ReportMark) : Type 0 where
  pub bytes : m.bytes < 2 ^ 64
  pub lines : m.lines < 2 ^ 64
  pub pieces : IsDigest m.pieces
  pub tail : IsDigest m.tail

pub record IsLeft (l : Left) : Type 0 where
  pub place : IsPlace l.place
  pub after : IfSome l.after IsPlace

-- no more was said than belongs to the cursor
pub record IsCheckpoint (c : Checkpoint) : Type 0 where
  pub root : IsRoot c.root
  pub names : AreNames c.names
  pub report : IsMark c.report
  pub said : c.said ≤ c.report.bytes
  pub left : All IsLeft c.left
  pub count : length c.left < 2 ^ 64
  pub part : IfSome c.part AreEnds
  pub cursor : IsCursor c.cursor

-- ---- its text

-- the path of a storage root from `/` on
abbrev pub path_text : Place → Text
path_text [] = codes "/"
path_text (n ∷ p) = codes "/" ++ place_text (n ∷ p)

abbrev pub names_text : TopNames → Text
names_text n = decimal n.count ++ 32 ∷ encode_lower n.digest

abbrev pub phase_text : Phase → Text
phase_text Open = codes "open"
phase_text Closing = codes "closing"

abbrev pub yes_or_no : Bool → Text
yes_or_no true = codes "yes"
yes_or_no false = codes "no"

abbrev pub size_text : ReportMark → Text
size_text m = decimal m.bytes ++ 32 ∷ decimal m.lines

-- where the cursor was
abbrev pub stood_text : Option Place → Text
stood_text None = codes "start"
stood_text (Some p) = codes "after " ++ place_text p

-- these lines, each with its line feed, and then the rest
abbrev pub lines_then : List Text → Text → Text
lines_then [] rest = rest
lines_then (l ∷ ls) rest = l ++ 10 ∷ lines_then ls rest

-- the lines of a branch that was left out
abbrev pub left_text : Left → Text
left_text l = lines_then ((codes "left " ++ place_text l.place) ∷ stood_text l.after ∷ []) []

-- the lines before those of the branches that were left out, without their line feeds
abbrev pub checkpoint_lines : Checkpoint → List Text
checkpoint_lines c =
    (codes "root " ++ path_text c.root.path)
    ∷ (codes "declared " ++ encode_lower c.root.declared)
    ∷ (codes "names " ++ names_text c.names)
    ∷ (codes "phase " ++ phase_text c.phase)
    ∷ (codes "whole " ++ yes_or_no c.whole)
    ∷ (codes "report " ++ size_text c.report)
    ∷ (codes "pieces " ++ encode_lower c.report.pieces)
    ∷ (codes "tail " ++ encode_lower c.report.tail)
    ∷ (codes "told " ++ decimal c.said)
    ∷ (codes "left " ++ decimal (length c.left))
    ∷ []

-- the text without its first line and its last: what is shown of a checkpoint
abbrev pub shown_text : Checkpoint → Text
shown_text c = lines_then (checkpoint_lines c) (flat_map left_text c.left ++ stored_lines c.part c.cursor)

-- the first line, which names the version
abbrev pub checkpoint_first_line : Further → Text
checkpoint_first_line Nothing = codes "ocfl-scrub checkpoint 1\n"
checkpoint_first_line Inventories = codes "ocfl-scrub checkpoint 2\n"

-- the text before its last line: the audit of the cursor decides on the version
abbrev pub checkpoint_body : Checkpoint → Text
checkpoint_body c = checkpoint_first_line c.cursor.further ++ shown_text c

abbrev pub checkpoint_text : Checkpoint → Text
checkpoint_text c = with_seal (codes "sha256 ") (checkpoint_body c)

-- the bytes are the text of this checkpoint
pub record IsCheckpointText (b : Text) (c : Checkpoint) : Type 0 where
  pub keeps : IsCheckpoint c
  pub is : b ≡ checkpoint_text c
