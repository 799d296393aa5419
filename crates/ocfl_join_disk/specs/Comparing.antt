-- What is seen of a joining that compares a joined report which was made before.
use Rattle.std.specs.Prelude.{◌≡◌, ℕ, ◌-◌, List, [], ◌∷◌, ◌++◌, length, drop, take, Bool, true, false, Option, Some, None}
use Rattle.ocfl_tree.specs.Place.{Text}
use Rattle.ocfl_disk.specs.Names.{Stored}
use Rattle.ocfl_joining.specs.Reports.{Put, Rest, Seen}
use Rattle.ocfl_join_disk.specs.Shown.{PartFiles, joined_in, text_in}

-- the end of a text that has the length of what is left
abbrev pub end_of : Option Text → Option Text → Option Text
end_of None text = None
end_of (Some left) None = None
end_of (Some left) (Some text) = Some (drop (length text - length left) text)

-- the text before its end
abbrev pub before_rest : Option Text → Option Text → Text
before_rest None text = []
before_rest (Some left) None = []
before_rest (Some left) (Some text) = take (length text - length left) text

-- what was compared, of a text that was begun
abbrev pub compared_in : {R : Type 0} → (R → Option Text) → Option R → Option Text → Text
compared_in known None text = []
compared_in known (Some report) text = before_rest (known report) text

-- the joined report, once it was found
abbrev pub found_of : Bool → Bool → Option Text → List Put
found_of false whole text = []
found_of true whole None = []
found_of true whole (Some text) = record { whole = whole; bytes = text } ∷ []

-- nothing is put, so the joined reports of all cycles stay as they are
abbrev pub all_in : ℕ → Bool → PartFiles → Stored → Rest
all_in cycle whole parts s = record { cycle = cycle; made = Some whole; folders = parts.folders; others = λ other. joined_in other s }

-- What was compared stands for what is made, and the report that was found for the one that is put.
-- Nothing is said of it.
abbrev pub seen_comparing : ℕ → Bool → PartFiles → Text → Stored → Text → Bool → Seen
seen_comparing cycle whole parts left s compared found = record {
  bytes = parts.folders.bytes cycle;
  marks = parts.folders.marks cycle;
  word = λ _ _. None;
  opened = parts.opened;
  left = left;
  made = compared;
  put = found_of found whole (text_in cycle whole s);
  rest = all_in cycle whole parts s;
}
