-- What calls of a disk leave beside the joined reports of a cycle.
use Rattle.std.proofs.Common.{◌≡◌, ◌⊎◌, inl, inr, ℕ, ◌==◌, Bool, true, false, List, [], ◌∷◌, ◌++◌, Option, Some, None, refl, sym, ◌∙◌, ap, subst}
use Rattle.ocfl_tree.specs.Place.{Text}
use Rattle.ocfl_disk.specs.Names.{ClosedName, Stored, closed_names}
use Rattle.ocfl_disk.specs.PowerCut.{DiskState, IsDisk}
use Rattle.ocfl_disk.specs.Disk.{Calm, ClosesOver, Makes, Writes}
use Rattle.ocfl_disk.specs.declared.state_file.StateFile.TheVariants.{Report}
use Rattle.ocfl_joining.specs.Reports.{Put}
use Rattle.ocfl_join_disk.specs.Shown.{PartFiles, joined_in, joined_of, none_if, others_in, put_if, rest_in}
use Rattle.ocfl_join_disk.specs.Comparing.{all_in}
use Rattle.ocfl_join_disk.proofs.Joined.{same_made, same_written}

pub others_calm : (cycle : ℕ) (old new : DiskState) → Calm old new → others_in cycle new.seen ≡ others_in cycle old.seen
others_calm cycle old new calm = ap (others_in cycle) calm.seen

pub others_made : (cycle file : ℕ) (old new : DiskState) → Makes Report file old new → others_in cycle new.seen ≡ others_in cycle old.seen
others_made cycle file old new makes = λ i other. none_if (cycle == other) (same_made other file old new makes i)

pub others_written : (cycle file n most : ℕ) (old new : DiskState) → IsDisk old → old.seen.names.report ≡ Some file → Writes file n most old new → others_in cycle new.seen ≡ others_in cycle old.seen
others_written cycle file n most old new disk is writes = λ i other. none_if (cycle == other) (same_written other file n most old new disk is writes i)

-- a report of a cycle more is none of another cycle
apart_more : (cycle other : ℕ) (whole : Bool) (file : ℕ) (bytes : ℕ → Text) (names : List ClosedName) → (cycle == other) ≡ false
    → joined_of other bytes (names ++ (record { cycle = cycle; whole = whole; file = file }) ∷ []) ≡ joined_of other bytes names
apart_more cycle other whole file bytes [] e = ap (λ b. put_if b (record { whole = whole; bytes = bytes file }) []) e
apart_more cycle other whole file bytes (name ∷ names) e = ap (put_if (name.cycle == other) (record { whole = name.whole; bytes = bytes name.file })) (apart_more cycle other whole file bytes names e)

other_more : (cycle other : ℕ) (whole : Bool) (file : ℕ) (bytes : ℕ → Text) (names : List ClosedName) (b : Bool) → (cycle == other) ≡ b
    → none_if b (joined_of other bytes (names ++ (record { cycle = cycle; whole = whole; file = file }) ∷ [])) ≡ none_if b (joined_of other bytes names)
other_more cycle other whole file bytes names true e = refl
other_more cycle other whole file bytes names false e = apart_more cycle other whole file bytes names e

other_named : (cycle other : ℕ) (whole : Bool) (report : Option ℕ) (bytes : ℕ → Text) (names : List ClosedName)
    → none_if (cycle == other) (joined_of other bytes (closed_names cycle whole report names)) ≡ none_if (cycle == other) (joined_of other bytes names)
other_named cycle other whole None bytes names = refl
other_named cycle other whole (Some file) bytes names = other_more cycle other whole file bytes names (cycle == other) refl

pub others_closed : (cycle : ℕ) (whole : Bool) (old new : DiskState) → ClosesOver cycle whole old new → others_in cycle new.seen ≡ others_in cycle old.seen
others_closed cycle whole old new closes = ap (others_in cycle) closes.seen ∙ (λ i other. other_named cycle other whole old.seen.names.report old.seen.bytes old.seen.names.closed i)

-- calls that change nothing, and then what was made may get its name
pub others_named : (cycle same : ℕ) (whole : Bool) (old mid late new : DiskState) → same ≡ cycle → Calm old mid → Calm mid late → Calm late new ⊎ ClosesOver same whole late new → others_in cycle new.seen ≡ others_in cycle old.seen
others_named cycle same whole old mid late new is first second may = by may ∙ others_calm cycle mid late second ∙ others_calm cycle old mid first
  where
    by : Calm late new ⊎ ClosesOver same whole late new → others_in cycle new.seen ≡ others_in cycle late.seen
    by (inl calm) = others_calm cycle late new calm
    by (inr closes) = others_closed cycle whole late new (subst (λ (n : ℕ). ClosesOver n whole late new) is closes)

-- ---- what stays as it is

pub rest_same : (cycle same : ℕ) (parts now : PartFiles) (s t : Stored) → same ≡ cycle → now.folders ≡ parts.folders → others_in cycle t ≡ others_in cycle s → rest_in same now t ≡ rest_in cycle parts s
rest_same cycle same parts now s t e f o = ap (λ n. rest_in n now t) e ∙ (λ i. record { cycle = cycle; made = None; folders = f i; others = o i })

pub all_same : (cycle same : ℕ) (whole is : Bool) (parts now : PartFiles) (s t : Stored) → same ≡ cycle → is ≡ whole → now.folders ≡ parts.folders → t ≡ s → all_in same is now t ≡ all_in cycle whole parts s
all_same cycle same whole is parts now s t e w f o = λ i. record { cycle = e i; made = Some (w i); folders = f i; others = λ other. joined_in other (o i) }
