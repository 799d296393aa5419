-- Options that are left out.
use Rattle.std.proofs.Common.{◌≡◌, ℕ, List, Option, Some, None, ap, true≢false}
use Rattle.std.specs.Prelude.{IsSomeAnd, find, is_some, option_and_then, option_map, slice_get}
use Rattle.std.specs.Str.{bytes_eq}
use Rattle.clap.specs.{Words.{Row, Text, read_as}, Walk.{row_text}}
use Rattle.clap.specs.declared.builder.value_parser.Reading.{Reading}
use Rattle.ocfl_arguments.specs.Asks.{HasNumber, IsLeftOut, IsNumberText}

-- an option that is left out has no number
pub no_number : (id : Text) (rows : List Row) (n : ℕ) → IsLeftOut id rows → HasNumber id rows n → ⊥
no_number id rows n out = go (find (λ r. bytes_eq r.id id) rows) out
  where
    text : (how : Reading) (o : Option Text) → o ≡ None → IsSomeAnd (option_map (read_as how) o) (IsNumberText n) → ⊥
    text how None e h = h
    text how (Some t) e h = true≢false (ap is_some e)

    go : (o : Option Row) → option_and_then (λ r. slice_get r.values 0) o ≡ None
        → IsSomeAnd (option_and_then row_text o) (IsNumberText n) → ⊥
    go None e h = h
    go (Some r) e h = text r.reading (slice_get r.values 0) e h
