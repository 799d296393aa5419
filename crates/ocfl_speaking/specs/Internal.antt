-- What private functions say of bytes that are sifted.
use Rattle.std.specs.Prelude.{◌≡◌, ◌+◌, List, [], All}
use Rattle.ocfl_tree.specs.Place.{Text}
use Rattle.ocfl_report.specs.Text.{IsLine, lines_text}
use Rattle.ocfl_messages.specs.{Finding.{head_after}, Found.{IsAfter}, Tally.{IsCount}}
use Rattle.ocfl_messages.specs.declared.known.KnownEntry.{KnownEntry}
use Rattle.ocfl_speaking.specs.Sifting.{AreTaken, Given, IsSeen, Taken, beginning, broken_end, broken_in, lines_in, texts_in}
use Rattle.ocfl_speaking.specs.declared.sifting.Sifting.{Sifting}

-- its whole lines, without the rest behind them
abbrev pub given_whole : Given → List Taken → Text → Given
given_whole g ts rest = record { head = g.head; seen = g.seen; bytes = texts_in ts; broken = g.broken + broken_end rest }

-- all lines of what was given are among the findings, and no beginning of a line is kept
pub record IsRead (known : List KnownEntry) (s : Sifting) (g : Given) : Type 0 where
  pub lines : List Taken
  pub are : AreTaken g.seen lines
  pub bytes : g.bytes ≡ texts_in lines
  pub broken : IsCount s.broken (g.broken + broken_in lines)
  pub reports : All IsLine (lines_in lines)
  pub found : IsAfter known g.head s.found (lines_text (lines_in lines))
  pub whole : s.found.rest.items ≡ []
  pub right : s.right ≡ 0
  pub rest : s.rest.items ≡ []
  pub within : s.within.items ≡ beginning (head_after g.seen (lines_in lines))
  pub object : IsSeen (head_after g.seen (lines_in lines)) (head_after g.head (lines_in lines))
