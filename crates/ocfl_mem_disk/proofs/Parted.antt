-- What the paths in the folder of all parts are of, as a joined report or another file.
use Rattle.std.proofs.Common.{◌≡◌, ◌∙◌, ◌++◌, ◌<◌, ◌^◌, ℕ, [], ◌∷◌, Bool, true, false, Option, Some, None, codes, drop, sym, ap, append-nil}
use Rattle.std.proofs.lemmas.Option.{none-some}
use Rattle.ocfl_tree.specs.Place.{Text}
use Rattle.ocfl_kept.specs.FilePaths.{list_path, packed_path, part_path, report_path, six_digits}
use Rattle.ocfl_part_folders.specs.Folder.{new_path}
use Rattle.ocfl_mem_disk.specs.Paths.{JoinedName, joined_name}
use Rattle.ocfl_mem_disk.proofs.Named.{name_of_joined, no_name_beside, no_name_of_part}

-- ---- a path that a joined report can have is none of these

never : {P : Type 0} (folder path : Text) (n : JoinedName) → joined_name folder path ≡ Some n → joined_name folder path ≡ None → P
never folder path n named none = absurd (none-some n (sym none ∙ named))

in_part : (folder path : Text) (part : ℕ) (more : Text) → path ≡ part_path folder part ++ more → joined_name folder path ≡ None
in_part folder path part more is = ap (joined_name folder) is ∙ no_name_of_part folder part more

pub never_part : {P : Type 0} (folder path : Text) (n : JoinedName) (part : ℕ) → joined_name folder path ≡ Some n → path ≡ part_path folder part → P
never_part folder path n part named is = never folder path n named (in_part folder path part [] (is ∙ sym (append-nil (part_path folder part))))

pub never_closed : {P : Type 0} (folder path : Text) (n : JoinedName) (cycle part : ℕ) (whole : Bool) → joined_name folder path ≡ Some n → path ≡ report_path (part_path folder part) cycle whole → P
never_closed folder path n cycle part true named is = never folder path n named (in_part folder path part (codes "/reports/cycle-" ++ six_digits cycle) is)
never_closed folder path n cycle part false named is = never folder path n named (in_part folder path part (codes "/reports/incomplete-" ++ six_digits cycle) is)

pub never_listed : {P : Type 0} (folder path : Text) (n : JoinedName) (cycle part : ℕ) → joined_name folder path ≡ Some n → path ≡ list_path (part_path folder part) cycle → P
never_listed folder path n cycle part named is = never folder path n named (in_part folder path part (codes "/reports/gone-" ++ six_digits cycle) is)

pub never_packed : {P : Type 0} (folder path : Text) (n : JoinedName) (cycle : ℕ) (whole : Bool) → joined_name folder path ≡ Some n → path ≡ packed_path folder cycle whole → P
never_packed folder path n cycle whole named is = never folder path n named (ap (joined_name folder) is ∙ no_name_beside folder cycle whole (codes "gz"))

pub never_made : {P : Type 0} (folder path : Text) (n : JoinedName) (cycle : ℕ) → joined_name folder path ≡ Some n → path ≡ new_path folder cycle → P
never_made folder path n cycle named is = never folder path n named (ap (joined_name folder) is ∙ no_name_beside folder cycle true (codes "new"))

-- ---- that of a joined report is one

pub never_other : {P : Type 0} (folder path : Text) (cycle : ℕ) (whole : Bool) → cycle < 2 ^ 64 → joined_name folder path ≡ None → path ≡ report_path folder cycle whole → P
never_other folder path cycle whole fits none is = absurd (none-some _ (sym none ∙ ap (joined_name folder) is ∙ name_of_joined folder cycle whole fits))

same_name : (m n : JoinedName) → Some m ≡ Some n → m ≡ n
same_name m n e = cc

pub name_at : (folder path : Text) (n : JoinedName) (cycle : ℕ) (whole : Bool) → cycle < 2 ^ 64 → joined_name folder path ≡ Some n → path ≡ report_path folder cycle whole → n ≡ record { digits = six_digits cycle; whole = whole }
name_at folder path n cycle whole fits named is = same_name n _ (sym named ∙ ap (joined_name folder) is ∙ name_of_joined folder cycle whole fits)

-- ---- what is read of an open report

pub opened_as : (pos : ℕ) (items bytes : Text) (o : Option Text) → pos ≡ 0 → items ≡ bytes → Some bytes ≡ o → Some (drop pos items) ≡ o
opened_as pos items bytes o start is so = ap (λ p. Some (drop p items)) start ∙ ap Some is ∙ so
