-- What is counted and shown of the changes of a closed cycle.
use Rattle.std.specs.Prelude.{◌≡◌, ℕ, ◌+◌, List, [], ◌∷◌, ◌++◌, Bool, true, false, not, take, flat_map, filter, length, map, Option, Some, None, if◌then◌else◌}
use Rattle.std.specs.Option.{option_to_list}
use Rattle.ocfl_tree.specs.Place.{Place}
use Rattle.ocfl_report.specs.Line.{Line, line_of}
use Rattle.ocfl_compare.specs.declared.change.Change.{Change}
use Rattle.ocfl_compare.specs.declared.change.Change.TheVariants.{Gone, Undeclared, FileGone, Unlooked, Found, Repaired, Missing, Rewritten, WentBack, NewVersion}
use Rattle.ocfl_messages.specs.Tally.{IsCount}
use Rattle.ocfl_messages.specs.declared.closing.{Gone.{Gone as GoneRow}, GoneKind.{GoneKind}}
use Rattle.ocfl_messages.specs.declared.closing.GoneKind.TheVariants as kind
use Rattle.ocfl_words.specs.{Noted.{Noted}, Shown.{in_order}}
use Rattle.ocfl_words.specs.declared.missing.Missing.{Missing as MadeMissing}
use Rattle.ocfl_words.specs.declared.changes.Changes.{Changes}

-- ---- what is gone

-- so many of what is gone, and of what is repaired, are shown first
abbrev pub most_shown : ℕ
most_shown = 20

abbrev pub gone_at : Place → GoneKind → GoneRow
gone_at p k = record { kind = k; place = p }

abbrev pub rows_at : Place → Option GoneKind → List GoneRow
rows_at p None = []
rows_at p (Some k) = gone_at p k ∷ []

-- an object that has no line any more, or is no longer declared
abbrev pub object_kind : Change → Option GoneKind
object_kind Gone = Some kind.Object
object_kind Undeclared = Some kind.Undeclared
object_kind FileGone = None
object_kind Unlooked = None
object_kind (Found code) = None
object_kind (Repaired code) = None
object_kind Missing = None
object_kind Rewritten = None
object_kind WentBack = None
object_kind NewVersion = None

-- a file that has no line any more
abbrev pub file_kind : Change → Option GoneKind
file_kind FileGone = Some kind.File
file_kind Gone = None
file_kind Undeclared = None
file_kind Unlooked = None
file_kind (Found code) = None
file_kind (Repaired code) = None
file_kind Missing = None
file_kind Rewritten = None
file_kind WentBack = None
file_kind NewVersion = None

-- an object of the list that has no line
abbrev pub expected_kind : Change → Option GoneKind
expected_kind Missing = Some kind.Expected
expected_kind Gone = None
expected_kind Undeclared = None
expected_kind FileGone = None
expected_kind Unlooked = None
expected_kind (Found code) = None
expected_kind (Repaired code) = None
expected_kind Rewritten = None
expected_kind WentBack = None
expected_kind NewVersion = None

abbrev pub row_of : (Change → Option GoneKind) → Noted → List GoneRow
row_of kind n = rows_at n.at.place (kind n.at.change)

abbrev pub rows_of : (Change → Option GoneKind) → List Noted → List GoneRow
rows_of kind ns = flat_map (row_of kind) ns

-- ---- what is counted

abbrev pub is_unlooked : Change → Bool
is_unlooked Unlooked = true
is_unlooked Gone = false
is_unlooked Undeclared = false
is_unlooked FileGone = false
is_unlooked (Found code) = false
is_unlooked (Repaired code) = false
is_unlooked Missing = false
is_unlooked Rewritten = false
is_unlooked WentBack = false
is_unlooked NewVersion = false

abbrev pub is_repaired : Change → Bool
is_repaired (Repaired code) = true
is_repaired Gone = false
is_repaired Undeclared = false
is_repaired FileGone = false
is_repaired Unlooked = false
is_repaired (Found code) = false
is_repaired Missing = false
is_repaired Rewritten = false
is_repaired WentBack = false
is_repaired NewVersion = false

-- the line of the report before of a finding that is repaired
abbrev pub repaired_line : Noted → List Line
repaired_line n = if is_repaired n.at.change then option_to_list n.line else []

abbrev pub repaired_lines : List Noted → List Line
repaired_lines ns = flat_map repaired_line ns

abbrev pub is_found : Change → Bool
is_found (Found code) = true
is_found Gone = false
is_found Undeclared = false
is_found FileGone = false
is_found Unlooked = false
is_found (Repaired code) = false
is_found Missing = false
is_found Rewritten = false
is_found WentBack = false
is_found NewVersion = false

-- a finding that is new and known, or new and not known
abbrev pub is_known_finding : Noted → Bool
is_known_finding n = if is_found n.at.change then n.is_known else false

abbrev pub is_new_finding : Noted → Bool
is_new_finding n = if is_found n.at.change then not n.is_known else false

-- a root inventory is another one: of the same version, of an older one, or of a newer one
abbrev pub is_rewritten : Change → Bool
is_rewritten Rewritten = true
is_rewritten _ = false

abbrev pub is_back : Change → Bool
is_back WentBack = true
is_back _ = false

abbrev pub is_newer : Change → Bool
is_newer NewVersion = true
is_newer _ = false

abbrev pub count_of : (Noted → Bool) → List Noted → ℕ
count_of counts ns = length (filter counts ns)

-- something is gone, a finding is new that is not known, or a root inventory is another one without a
-- newer version
abbrev pub is_news : Noted → Bool
is_news n = by n.at.change
  where
    by : Change → Bool
    by Gone = true
    by Undeclared = true
    by FileGone = true
    by Unlooked = false
    by (Found code) = not n.is_known
    by (Repaired code) = false
    by Missing = true
    by Rewritten = true
    by WentBack = true
    by NewVersion = false

-- the first of what is gone, and how much there is
pub record Many : Type 0 where
  pub first : List GoneRow
  pub count : ℕ

abbrev pub many_of : List GoneRow → Many
many_of gs = record { first = take most_shown gs; count = length gs }

-- of two comparisons the first of each
abbrev pub many_more : Many → Many → Many
many_more m n = record { first = m.first ++ n.first; count = m.count + n.count }

pub record Counted : Type 0 where
  pub objects : Many
  pub files : Many
  pub expected : Many
  pub unlooked : ℕ
  pub repaired : ℕ
  pub repaired_shown : List Line
  pub appeared : ℕ
  pub known : ℕ
  pub rewritten : ℕ
  pub went_back : ℕ
  pub newer : ℕ

-- of the changes of one comparison
abbrev pub counted : List Noted → Counted
counted ns = record {
  objects = many_of (rows_of object_kind ns);
  files = many_of (rows_of file_kind ns);
  expected = many_of (rows_of expected_kind ns);
  unlooked = count_of (λ n. is_unlooked n.at.change) ns;
  repaired = count_of (λ n. is_repaired n.at.change) ns;
  repaired_shown = in_order (take most_shown (repaired_lines ns));
  appeared = count_of is_new_finding ns;
  known = count_of is_known_finding ns;
  rewritten = count_of (λ n. is_rewritten n.at.change) ns;
  went_back = count_of (λ n. is_back n.at.change) ns;
  newer = count_of (λ n. is_newer n.at.change) ns;
}

abbrev pub joined : Counted → Counted → Counted
joined v w = record {
  objects = many_more v.objects w.objects;
  files = many_more v.files w.files;
  expected = many_more v.expected w.expected;
  unlooked = v.unlooked + w.unlooked;
  repaired = v.repaired + w.repaired;
  repaired_shown = v.repaired_shown ++ w.repaired_shown;
  appeared = v.appeared + w.appeared;
  known = v.known + w.known;
  rewritten = v.rewritten + w.rewritten;
  went_back = v.went_back + w.went_back;
  newer = v.newer + w.newer;
}

-- what is shown of what is gone: objects before files
abbrev pub shown_of : Counted → List GoneRow
shown_of w = w.objects.first ++ w.expected.first ++ w.files.first

abbrev pub gone_in : Counted → ℕ
gone_in w = w.objects.count + w.files.count + w.expected.count

-- ---- as they are kept: numbers up to the greatest that fits

pub record IsMany (m : MadeMissing) (n : Many) : Type 0 where
  pub first : m.first.items ≡ n.first
  pub count : IsCount m.count n.count

pub record AreCounted (c : Changes) (w : Counted) : Type 0 where
  pub objects : IsMany c.objects w.objects
  pub files : IsMany c.files w.files
  pub expected : IsMany c.expected w.expected
  pub unlooked : IsCount c.unlooked w.unlooked
  pub repaired : IsCount c.repaired_count w.repaired
  pub repaired_shown : map line_of c.repaired.items ≡ w.repaired_shown
  pub appeared : IsCount c.appeared_count w.appeared
  pub known : IsCount c.known_count w.known
  pub rewritten : IsCount c.moved.rewritten w.rewritten
  pub went_back : IsCount c.moved.went_back w.went_back
  pub newer : IsCount c.moved.newer w.newer
