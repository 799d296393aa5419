-- Worked cases: checkpoints and their text.
use Rattle.std.proofs.Common.{◌≡◌, ◌==◌, [], ◌∷◌, true, false, Some, None, codes, refl, replicate, take}
use Rattle.std.specs.List.{slice_split}
use Prim.Native.String.{String}
use Rattle.ocfl_tree.specs.Place.{Place}
use Rattle.ocfl_report.specs.declared.further.Further.TheVariants.{Nothing, Inventories}
use Rattle.ocfl_cursor.specs.Cursor.{Cursor, behind, ended}
use Rattle.ocfl_cursor.proofs.OnLiterals.{cursor_on_literals}
use Rattle.ocfl_state.specs.Checkpoint.{Checkpoint, checkpoint_body, checkpoint_text, shown_text, path_text}
use Rattle.ocfl_state.specs.declared.checkpoint_parts.Phase.TheVariants.{Open, Closing}

-- a place by its text
abbrev place : String → Place
place t = slice_split (λ b. b == 47) (codes t)

abbrev of_a_slice : Cursor
of_a_slice = record { cycle = 1; runs = 1; spent = 4; files = 1; further = Nothing; state = behind (place "o/v1/content/a") }

-- after the first slice of a first cycle
abbrev after_a_slice : Checkpoint
after_a_slice = record {
  root = record { path = place "srv/ocfl"; declared = replicate 32 17 };
  names = record { count = 3; digest = replicate 32 171 };
  phase = Open;
  whole = true;
  report = record { bytes = 120; lines = 3; pieces = replicate 32 0; tail = replicate 32 227 };
  said = 60;
  left = [];
  part = None;
  cursor = of_a_slice;
}

text_after_a_slice : checkpoint_text after_a_slice ≡ codes
    "ocfl-scrub checkpoint 1\nroot /srv/ocfl\ndeclared 1111111111111111111111111111111111111111111111111111111111111111\nnames 3 abababababababababababababababababababababababababababababababab\nphase open\nwhole yes\nreport 120 3\npieces 0000000000000000000000000000000000000000000000000000000000000000\ntail e3e3e3e3e3e3e3e3e3e3e3e3e3e3e3e3e3e3e3e3e3e3e3e3e3e3e3e3e3e3e3e3\ntold 60\nleft 0\ncycle 1\nruns 1\nspent 4\nfiles 1\nafter o/v1/content/a\nsha256 cbb44e94eb3662aba258c26594e167a4cb4760b9ca98538285f7ed6ebb391159\n"
unfolding cursor_on_literals
text_after_a_slice = refl

-- the same of an audit that checks the inventories of versions
-- Seen to refuse: such a checkpoint has version 1.
text_of_version_two : checkpoint_text (record after_a_slice { cursor = record of_a_slice { further = Inventories } }) ≡ codes
    "ocfl-scrub checkpoint 2\nroot /srv/ocfl\ndeclared 1111111111111111111111111111111111111111111111111111111111111111\nnames 3 abababababababababababababababababababababababababababababababab\nphase open\nwhole yes\nreport 120 3\npieces 0000000000000000000000000000000000000000000000000000000000000000\ntail e3e3e3e3e3e3e3e3e3e3e3e3e3e3e3e3e3e3e3e3e3e3e3e3e3e3e3e3e3e3e3e3\ntold 60\nleft 0\nchecks inventories\ncycle 1\nruns 1\nspent 4\nfiles 1\nafter o/v1/content/a\nsha256 0fd7a1ba6c31f107122d13ad900441ff5b89e79d7a201f412ad9add41faa7f1f\n"
unfolding cursor_on_literals
text_of_version_two = refl

-- of a part, at the end of a cycle that lost lines of its report, and left two branches out
abbrev of_a_part : Checkpoint
of_a_part = record {
  root = record { path = codes "mnt" ∷ (114 ∷ 195 ∷ 169 ∷ 32 ∷ 37 ∷ []) ∷ codes "ocfl" ∷ []; declared = replicate 32 171 };
  names = record { count = 18446744073709551615; digest = replicate 32 17 };
  phase = Closing;
  whole = false;
  report = record { bytes = 18446744073709551615; lines = 7; pieces = replicate 32 227; tail = replicate 32 0 };
  said = 18446744073709551615;
  left = (record { place = []; after = None }) ∷ (record { place = codes "o" ∷ codes "a\nb" ∷ []; after = Some (codes "start" ∷ []) }) ∷ [];
  part = Some (record { from = Some (codes "start" ∷ []); below = Some (codes "z" ∷ []) });
  cursor = record { cycle = 7; runs = 2; spent = 9; files = 3; further = Nothing; state = ended };
}

shown_of_a_part : shown_text of_a_part ≡ codes
    "root /mnt/r%C3%A9 %25/ocfl\ndeclared abababababababababababababababababababababababababababababababab\nnames 18446744073709551615 1111111111111111111111111111111111111111111111111111111111111111\nphase closing\nwhole no\nreport 18446744073709551615 7\npieces e3e3e3e3e3e3e3e3e3e3e3e3e3e3e3e3e3e3e3e3e3e3e3e3e3e3e3e3e3e3e3e3\ntail 0000000000000000000000000000000000000000000000000000000000000000\ntold 18446744073709551615\nleft 2\nleft .\nstart\nleft o/a%0Ab\nafter start\nfrom ./start\nbelow z\ncycle 7\nruns 2\nspent 9\nfiles 3\nended\n"
unfolding cursor_on_literals
shown_of_a_part = refl

-- what is sealed begins with the first line
sealed_from_the_first_line : take 24 (checkpoint_body of_a_part) ≡ codes "ocfl-scrub checkpoint 1\n"
unfolding cursor_on_literals
sealed_from_the_first_line = refl

path_of_the_system_root : path_text [] ≡ codes "/"
path_of_the_system_root = refl
