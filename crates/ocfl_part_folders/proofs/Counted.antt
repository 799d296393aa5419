-- How lines are counted, one after the other.
use Rattle.std.proofs.Common.{◌≡◌, ◌∙◌, ◌+◌, ◌++◌, List, [], ◌∷◌, Option, Some, None, IfSome, Result, Ok, Err, IfOk, sym, ap, subst, append_assoc, append-nil}
use Rattle.std.specs.Option.{option_to_list}
use Rattle.std.specs.Prelude.{⊤}
use Rattle.std.specs.Io.{BufRead.{take_through}, KnownBytes.{Consumes, IsAtEnd}}
use Rattle.ocfl_tree.specs.Place.{Text}
use Rattle.ocfl_report.specs.Line.{Line}
use Rattle.ocfl_messages.specs.Tally.{IsCount, IsTally, bytes_in, objects_in, right_in, wrong_in}
use Rattle.ocfl_messages.specs.declared.tally.{Counts.{Counts}, Tally.{Tally}}
use Rattle.ocfl_part_folders.specs.Counting.{CountAs, CountsAs, CountsFirst, HasCounts, counts_in, lines_of}
use Rattle.ocfl_part_folders.proofs.Readable.{counts_are}

-- of a report these lines were counted, and the rest is left
pub record IsCounted (tally : Tally) (bytes rest : Text) : Type 0 where
  pub lines : List (Option Line)
  pub on : (more : List (Option Line)) → CountAs rest more → CountAs bytes (lines ++ more)
  pub counted : IsTally tally (lines_of lines)

pub none_counted : (tally : Tally) (bytes : Text) → IsTally tally [] → IsCounted tally bytes bytes
none_counted tally bytes h = record { lines = []; on = λ more h. h; counted = h }

lines_more : (lines : List (Option Line)) (line : Option Line) → lines_of (lines ++ line ∷ []) ≡ lines_of lines ++ option_to_list line
lines_more [] line = append-nil (option_to_list line)
lines_more (l ∷ lines) line = ap (λ (t : List Line). option_to_list l ++ t) (lines_more lines line) ∙ sym (append_assoc (option_to_list l) (lines_of lines) (option_to_list line))

-- one more
pub counted_more : (old new : Tally) (bytes rest left text : Text) (line : Option Line) → IsCounted old bytes rest → rest ≡ text ++ left → text ≡ take_through 10 rest → (text ≡ [] → ⊥) → CountsAs text line
    → ((ls : List Line) → IsTally old ls → IsTally new (ls ++ option_to_list line)) → IsCounted new bytes left
counted_more old new bytes rest left text line h is next some counts adds = record {
  lines = h.lines ++ line ∷ [];
  on = λ more after. subst (λ (ls : List (Option Line)). CountAs bytes ls) (sym (append_assoc h.lines (line ∷ []) more)) (h.on (line ∷ more) (left, (first, after)));
  counted = subst (λ (ls : List Line). IsTally new ls) (sym (lines_more h.lines line)) (adds (lines_of h.lines) h.counted);
}
  where
    first : CountsFirst rest left line
    first = record {
      is = is ∙ ap (λ (t : Text). t ++ left) next;
      some = λ e. some (next ∙ e);
      counts = subst (λ (t : Text). CountsAs t line) next counts;
    }

-- all
pub counted_all : (tally : Tally) (bytes rest : Text) (counts : Counts) → IsCounted tally bytes rest → rest ≡ [] → ((ls : List Line) → IsTally tally ls → IsCount counts.right (right_in ls)) → ((ls : List Line) → IsTally tally ls → IsCount counts.files (right_in ls + wrong_in ls))
    → ((ls : List Line) → IsTally tally ls → IsCount counts.objects (objects_in ls)) → ((ls : List Line) → IsTally tally ls → IsCount counts.bytes (bytes_in ls)) → HasCounts bytes counts
counted_all tally bytes rest counts h none right files objects sizes = record {
  lines = h.lines;
  count = subst (λ (ls : List (Option Line)). CountAs bytes ls) (append-nil h.lines) (h.on [] none);
  right = right (lines_of h.lines) h.counted;
  files = files (lines_of h.lines) h.counted;
  objects = objects (lines_of h.lines) h.counted;
  bytes_are = sizes (lines_of h.lines) h.counted;
}

-- ---- over a reader, if it is known what that gives

abbrev pub IsReadOn : Option Text → Option Text → Tally → Type 0
IsReadOn None now tally = ⊤
IsReadOn (Some bytes) None tally = ⊥
IsReadOn (Some bytes) (Some rest) tally = IsCounted tally bytes rest

pub read_none : (known : Option Text) (tally : Tally) → IsTally tally [] → IsReadOn known known tally
read_none None tally h = tt
read_none (Some bytes) tally h = none_counted tally bytes h

pub read_more : (known old new : Option Text) (before after : Tally) (text : Text) → IsReadOn known old before → Consumes old new text → IfSome old (λ bytes. text ≡ take_through 10 bytes) → (text ≡ [] → ⊥)
    → ((line : Option Line) × (CountsAs text line × ((ls : List Line) → IsTally before ls → IsTally after (ls ++ option_to_list line)))) → IsReadOn known new after
read_more None old new before after text h eats next some line = tt
read_more (Some bytes) None new before after text h eats next some line = absurd h
read_more (Some bytes) (Some rest) None before after text h eats next some line = absurd eats
read_more (Some bytes) (Some rest) (Some left) before after text h eats next some line = counted_more before after bytes rest left text line.0 h eats next some line.1.0 line.1.1

pub read_all : (known now : Option Text) (tally : Tally) (counts : Counts) → IsReadOn known now tally → IsAtEnd now → ((ls : List Line) → IsTally tally ls → IsCount counts.right (right_in ls)) → ((ls : List Line) → IsTally tally ls → IsCount counts.files (right_in ls + wrong_in ls))
    → ((ls : List Line) → IsTally tally ls → IsCount counts.objects (objects_in ls)) → ((ls : List Line) → IsTally tally ls → IsCount counts.bytes (bytes_in ls)) → IfSome known (λ bytes. HasCounts bytes counts)
read_all None now tally counts h end right files objects sizes = tt
read_all (Some bytes) None tally counts h end right files objects sizes = absurd h
read_all (Some bytes) (Some rest) tally counts h end right files objects sizes = counted_all tally bytes rest counts h end right files objects sizes

-- of a report that has these bytes
pub counted_as : {E : Type 0} (r : Result Counts E) (known : Option Text) (bytes : Text) → known ≡ Some bytes → IfOk r (λ k. IfSome known (λ b. HasCounts b k)) → IfOk r (λ k. k ≡ counts_in bytes)
counted_as (Ok k) known bytes is has = counts_are bytes k (subst (λ (o : Option Text). IfSome o (λ b. HasCounts b k)) is has)
counted_as (Err e) known bytes is has = tt
