-- The lines of a checkpoint, written one after the other.
use Rattle.std.proofs.Common.{◌≡◌, List, [], ◌∷◌, ◌++◌, codes, decimal, length, flat_map, refl, ap, ◌∙◌, append-nil, append_assoc}
use Rattle.hex.specs.Hex.{encode_lower}
use Rattle.ocfl_tree.specs.Place.{Text}
use Rattle.ocfl_cursor.specs.Lines.{stored_lines}
use Rattle.ocfl_state.specs.Checkpoint.{Checkpoint, left_text, lines_then, shown_text, names_text, phase_text, yes_or_no, size_text, path_text}
use Rattle.ocfl_state.specs.CheckpointLines.{field_line, root_lines, names_line, standing_lines, mark_lines, said_line, all_left, sizes_text}
use Rattle.ocfl_state.specs.declared.checkpoint_parts.Left.{Left}
use Rattle.ocfl_state.specs.declared.checkpoint_parts.ReportMark.{ReportMark}

-- lines and what follows them
pub lines_then-append : (ls : List Text) (rest : Text) → lines_then ls [] ++ rest ≡ lines_then ls rest
lines_then-append [] rest = refl
lines_then-append (l ∷ ls) rest = append_assoc l (10 ∷ lines_then ls []) rest ∙ ap (λ t. l ++ 10 ∷ t) (lines_then-append ls rest)

all_left-append : (ls : List Left) (rest : Text) → all_left ls [] ++ rest ≡ all_left ls rest
all_left-append ls rest =
    let front : Text = codes "left " ++ decimal (length ls) in
    let each : Text = flat_map left_text ls in
    append_assoc front (10 ∷ (each ++ [])) rest ∙ ap (λ t. front ++ 10 ∷ (t ++ rest)) (append-nil each)

-- what was added to a text, and what follows it
step : (new old add rest whole : Text) → new ≡ old ++ add → add ++ rest ≡ whole → new ++ rest ≡ old ++ whole
step new old add rest whole e f = ap (λ t. t ++ rest) e ∙ append_assoc old add rest ∙ ap (λ t. old ++ t) f

-- what follows each of the lines
abbrev from_left : Checkpoint → Text
from_left c = all_left c.left (stored_lines c.part c.cursor)

abbrev from_said : Checkpoint → Text
from_said c = said_line c.said (from_left c)

abbrev from_mark : Checkpoint → Text
from_mark c = mark_lines c.report (from_said c)

abbrev from_standing : Checkpoint → Text
from_standing c = standing_lines c.phase c.whole (from_mark c)

abbrev from_names : Checkpoint → Text
from_names c = names_line c.names (from_standing c)

mark_lines-append : (c : Checkpoint) → mark_lines c.report [] ++ from_said c ≡ from_mark c
mark_lines-append c =
    lines_then-append ((codes "report " ++ size_text c.report) ∷ (codes "pieces " ++ encode_lower c.report.pieces) ∷ (codes "tail " ++ encode_lower c.report.tail) ∷ []) (from_said c)

standing_lines-append : (c : Checkpoint) → standing_lines c.phase c.whole [] ++ from_mark c ≡ from_standing c
standing_lines-append c = lines_then-append ((codes "phase " ++ phase_text c.phase) ∷ (codes "whole " ++ yes_or_no c.whole) ∷ []) (from_mark c)

root_lines-append : (c : Checkpoint) → root_lines c.root [] ++ from_names c ≡ root_lines c.root (from_names c)
root_lines-append c = lines_then-append ((codes "root " ++ path_text c.root.path) ∷ (codes "declared " ++ encode_lower c.root.declared) ∷ []) (from_names c)

pub written_whole : (c : Checkpoint) (t₀ t₁ t₂ t₃ t₄ t₅ t₆ t₇ : Text) → t₀ ≡ [] → t₁ ≡ t₀ ++ root_lines c.root [] → t₂ ≡ t₁ ++ names_line c.names []
    → t₃ ≡ t₂ ++ standing_lines c.phase c.whole [] → t₄ ≡ t₃ ++ mark_lines c.report [] → t₅ ≡ t₄ ++ said_line c.said [] → t₆ ≡ t₅ ++ all_left c.left []
    → t₇ ≡ t₆ ++ stored_lines c.part c.cursor → t₇ ≡ shown_text c
written_whole c t₀ t₁ t₂ t₃ t₄ t₅ t₆ t₇ e₀ e₁ e₂ e₃ e₄ e₅ e₆ e₇ =
    e₇ ∙ step t₆ t₅ (all_left c.left []) (stored_lines c.part c.cursor) (from_left c) e₆ (all_left-append c.left (stored_lines c.part c.cursor))
    ∙ step t₅ t₄ (said_line c.said []) (from_left c) (from_said c) e₅ (lines_then-append ((codes "told " ++ decimal c.said) ∷ []) (from_left c))
    ∙ step t₄ t₃ (mark_lines c.report []) (from_said c) (from_mark c) e₄ (mark_lines-append c)
    ∙ step t₃ t₂ (standing_lines c.phase c.whole []) (from_mark c) (from_standing c) e₃ (standing_lines-append c)
    ∙ step t₂ t₁ (names_line c.names []) (from_standing c) (from_names c) e₂ (lines_then-append ((codes "names " ++ names_text c.names) ∷ []) (from_standing c))
    ∙ step t₁ t₀ (root_lines c.root []) (from_names c) (root_lines c.root (from_names c)) e₁ (root_lines-append c)
    ∙ ap (λ t. t ++ root_lines c.root (from_names c)) e₀

-- ---- the lines of the report

field_line-append : (front field rest : Text) → field_line front field [] ++ rest ≡ field_line front field rest
field_line-append front field rest = append_assoc front (field ++ 10 ∷ []) rest ∙ ap (λ t. front ++ t) (append_assoc field (10 ∷ []) rest)

pub written_mark : (m : ReportMark) (t₀ t₁ t₂ t₃ : Text) → t₁ ≡ t₀ ++ field_line (codes "report ") (sizes_text m.bytes m.lines) []
    → t₂ ≡ t₁ ++ field_line (codes "pieces ") (encode_lower m.pieces) [] → t₃ ≡ t₂ ++ field_line (codes "tail ") (encode_lower m.tail) [] → t₃ ≡ t₀ ++ mark_lines m []
written_mark m t₀ t₁ t₂ t₃ e₁ e₂ e₃ =
    let tail : Text = field_line (codes "tail ") (encode_lower m.tail) [] in
    let pieces : Text = field_line (codes "pieces ") (encode_lower m.pieces) tail in
    e₃ ∙ step t₂ t₁ (field_line (codes "pieces ") (encode_lower m.pieces) []) tail pieces e₂ (field_line-append (codes "pieces ") (encode_lower m.pieces) tail)
    ∙ step t₁ t₀ (field_line (codes "report ") (sizes_text m.bytes m.lines) []) pieces (field_line (codes "report ") (sizes_text m.bytes m.lines) pieces) e₁
    (field_line-append (codes "report ") (sizes_text m.bytes m.lines) pieces)
