-- Lines that are kept, and looked up.
use Rattle.std.proofs.Common.{◌≡◌, List, [], ◌∷◌, ◌++◌, Bool, true, false, ◌&&◌, map, cond, refl, sym, ap, ◌∙◌, Option, Some, None}
use Rattle.std.specs.{Prelude.{filter, is_some}, List.{find}, Option.{option_map}}
use Rattle.ocfl_tree.specs.Place.{Place}
use Rattle.ocfl_report.specs.Line.{Line, is_finding_code, line_of}
use Rattle.ocfl_report.specs.declared.{code.Code.{Code}, line.Line.{Line as MadeLine}}
use Rattle.ocfl_compare.specs.{Changes.{change_at, lines_at}, declared.change.Change.{Change}}
use Rattle.ocfl_compare.specs.declared.change.Change.TheVariants.{Gone, Undeclared, FileGone, Unlooked, Found, Repaired, Missing, Rewritten, WentBack, NewVersion}
use Rattle.ocfl_messages.specs.declared.known.KnownEntry.{KnownEntry}
use Rattle.ocfl_words.specs.{Counted.{is_found}, Kept.{kept_with, with_finding}, Noted.{first_at, is_finding_at, is_known_in, is_named, line_in}}

-- what is found of lines, and of what they say
find_mapped : {X Y : Type 0} (f : X → Y) (test : Y → Bool) (xs : List X) → option_map f (find (λ x. test (f x)) xs) ≡ find test (map f xs)
find_mapped f test [] = refl
find_mapped {X = X} f test (x ∷ xs) = by (test (f x)) (find_mapped f test xs)
  where
    by : (b : Bool) → option_map f (find (λ (y : X). test (f y)) xs) ≡ find test (map f xs)
        → option_map f (cond b (Some x) (find (λ (y : X). test (f y)) xs)) ≡ cond b (Some (f x)) (find test (map f xs))
    by true rest = refl
    by false rest = rest

pub filter_mapped : {X Y : Type 0} (f : X → Y) (test : Y → Bool) (xs : List X) → map f (filter (λ x. test (f x)) xs) ≡ filter test (map f xs)
filter_mapped f test [] = refl
filter_mapped {X = X} f test (x ∷ xs) = by (test (f x)) (filter_mapped f test xs)
  where
    by : (b : Bool) → map f (filter (λ (y : X). test (f y)) xs) ≡ filter test (map f xs)
        → map f (cond b (x ∷ filter (λ (y : X). test (f y)) xs) (filter (λ (y : X). test (f y)) xs)) ≡ cond b (f x ∷ filter test (map f xs)) (filter test (map f xs))
    by true rest = ap (λ ys. f x ∷ ys) rest
    by false rest = rest

-- the same of the first finding of a code at a place
pub first_found : (p : Place) (code : Code) (ls : List MadeLine) → option_map line_of (find (λ l. is_finding_at p code (line_of l)) ls) ≡ first_at p code (map line_of ls)
first_found p code ls = find_mapped line_of (is_finding_at p code) ls

twice_mapped : {A B C : Type 0} (v : A → B) (f : B → C) (o : Option A) → option_map (λ x. f (v x)) o ≡ option_map f (option_map v o)
twice_mapped v f None = refl
twice_mapped v f (Some x) = refl

pub found_at : {A : Type 0} (v : A → MadeLine) (p : Place) (code : Code) (ls : List MadeLine) (o : Option A) → option_map v o ≡ find (λ l. is_finding_at p code (line_of l)) ls
    → option_map (λ x. line_of (v x)) o ≡ first_at p code (map line_of ls)
found_at v p code ls o h = twice_mapped v line_of o ∙ ap (option_map line_of) h ∙ first_found p code ls

pub some_mapped : {A B : Type 0} (v : A → B) (o : Option A) → is_some o ≡ is_some (option_map v o)
some_mapped v None = refl
some_mapped v (Some x) = refl

-- ---- with one line more

pub not_kept : (kept : List Line) (l : Line) → is_finding_code l.code ≡ false → kept ≡ kept_with kept l
not_kept kept l e = ap (λ b. cond b (with_finding kept l) kept) (sym e)

pub finding_kept : (kept : List Line) (l : Line) → is_finding_code l.code ≡ true → with_finding kept l ≡ kept_with kept l
finding_kept kept l e = ap (λ b. cond b (with_finding kept l) kept) (sym e)

pub same_kept : (kept : List Line) (l : Line) → is_some (first_at l.place l.code kept) ≡ true → kept ≡ with_finding kept l
same_kept kept l e = ap (λ b. cond b kept (lines_at l.place kept ++ l ∷ [])) (sym e)

pub one_kept : (kept : List Line) (l : Line) → is_some (first_at l.place l.code kept) ≡ false → lines_at l.place kept ++ l ∷ [] ≡ with_finding kept l
one_kept kept l e = ap (λ b. cond b kept (lines_at l.place kept ++ l ∷ [])) (sym e)

-- ---- what is known

and_true : (b : Bool) → b ≡ (b && true)
and_true true = refl
and_true false = refl

and_false : (b : Bool) → false ≡ (b && false)
and_false true = refl
and_false false = refl

-- by the line that a change is of
pub known_by_line : (known : List KnownEntry) (before now : List Line) (p : Place) (c : Change) (o : Option Line) → o ≡ line_in before now (change_at p c)
    → is_known_in known now (change_at p c) ≡ (is_named known o && is_found c)
known_by_line known before now p (Found code) o e = ap (is_named known) (sym e) ∙ and_true (is_named known o)
known_by_line known before now p (Repaired code) o e = and_false (is_named known o)
known_by_line known before now p Gone o e = and_false (is_named known o)
known_by_line known before now p Undeclared o e = and_false (is_named known o)
known_by_line known before now p FileGone o e = and_false (is_named known o)
known_by_line known before now p Unlooked o e = and_false (is_named known o)
known_by_line known before now p Missing o e = and_false (is_named known o)
known_by_line known before now p Rewritten o e = and_false (is_named known o)
known_by_line known before now p WentBack o e = and_false (is_named known o)
known_by_line known before now p NewVersion o e = and_false (is_named known o)
