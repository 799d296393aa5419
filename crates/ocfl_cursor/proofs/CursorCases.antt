-- Worked cases: cursors, their text, and why bytes are none.
use Rattle.std.proofs.Common.{◌≡◌, ◌==◌, ◌+◌, ◌-◌, ◌∙◌, ℕ, zero, suc, List, [], ◌∷◌, ◌++◌, codes, refl, sym, ap, ap₂, inl, inr, arith, Some, None, length, map, replicate, take, drop, get_or}
use Rattle.std.specs.{Prelude.{◌&&◌, nat_le}, List.{slice_split}}
use Prim.Native.String.{String}
use Rattle.ocfl_tree.specs.Place.{Text, Place, text_eq}
use Rattle.ocfl_report.specs.declared.further.Further.TheVariants.{Nothing, Inventories}
use Rattle.ocfl_cursor.specs.Cursor.{start, behind, ended, Cursor, IsCursor, new_cursor, cursor_lines, cursor_body, cursor_text, digest_line, version_one_body, version_one_text}
use Rattle.ocfl_cursor.specs.{Part.{part_text}, declared.ends.PartEnds.{PartEnds}}
use Rattle.ocfl_cursor.specs.Refusal.{refusal, is_cursor_front, is_version_read, IsTextOf}
use Rattle.ocfl_cursor.specs.{Refused.{first_reason}, Moves.{at_start}, Shown.{IsShownFrom}, Stop.{max_part_text}}
use Rattle.ocfl_cursor.specs.declared.refused.Refused.{Refused}
use Rattle.ocfl_cursor.specs.declared.refused.Refused.TheVariants.{NotA, Version, Damaged, Malformed}
use Rattle.ocfl_cursor.specs.declared.refused.TextKind.TheVariants as kind
use Rattle.ocfl_cursor.proofs.OnLiterals.{cursor_on_literals}

-- a place by its text
abbrev place : String → Place
place t = slice_split (λ b. b == 47) (codes t)

-- ---- texts

-- of a third cycle, after its second run
abbrev third_cycle : Cursor
third_cycle = record { cycle = 3; runs = 2; spent = 9; files = 3; further = Nothing; state = behind (place "o/v1/content/c") }

-- Seen to refuse: a cursor's digest leaves out the last line feed; leading zeros in a cursor; a
-- cursor's files before what was spent; a cursor with files in version 1.
text_of_a_cursor : cursor_text third_cycle ≡ codes
    "ocfl-scrub cursor 2\ncycle 3\nruns 2\nspent 9\nfiles 3\nafter o/v1/content/c\ndigest 894422823bd158b8102505a5075ffb65b0f4cfeb1067789d3830a518ec8f4b26\n"
unfolding cursor_on_literals
text_of_a_cursor = refl

-- the first line has 20 bytes, and the last one 72
-- Seen to refuse: a cursor's files before what was spent.
cursor_as_shown : (cursor_lines third_cycle ≡ codes "cycle 3\nruns 2\nspent 9\nfiles 3\nafter o/v1/content/c\n") × (take 52 (drop 20 (cursor_text third_cycle)) ≡ cursor_lines third_cycle)
unfolding cursor_on_literals
cursor_as_shown = (refl, refl)

-- Seen to refuse: a cursor's digest leaves out the last line feed; a cursor with files in
-- version 1.
text_of_a_new_cursor : cursor_text (new_cursor Nothing) ≡ codes "ocfl-scrub cursor 2\ncycle 1\nruns 0\nspent 0\nfiles 0\nstart\ndigest f5dddf8c1323ee2119db1954daab3d21b29adbdb93b23e9c366e50fbc8b52aa3\n"
unfolding cursor_on_literals
text_of_a_new_cursor = refl

-- ---- texts of version 3, of audits that check the inventories of versions

abbrev checking : Cursor
checking = record third_cycle { further = Inventories }

-- Seen to refuse: the line of inventories is left out; it comes last.
text_of_version_three : cursor_text checking ≡ codes
    "ocfl-scrub cursor 3\nchecks inventories\ncycle 3\nruns 2\nspent 9\nfiles 3\nafter o/v1/content/c\ndigest 916840502fbca1329d44a9d683a6ffff5d6b796cea5c97378ecabe129c010ba6\n"
unfolding cursor_on_literals
text_of_version_three = refl

version_three_as_shown : cursor_lines checking ≡ codes "checks inventories\ncycle 3\nruns 2\nspent 9\nfiles 3\nafter o/v1/content/c\n"
unfolding cursor_on_literals
version_three_as_shown = refl

version_three_of_a_new_cursor : cursor_text (new_cursor Inventories) ≡ codes "ocfl-scrub cursor 3\nchecks inventories\ncycle 1\nruns 0\nspent 0\nfiles 0\nstart\ndigest 2c54512d7b48ea8d7af1398607da3c856272f7a6ac6e2f8d2c745ac27d8e1fa3\n"
unfolding cursor_on_literals
version_three_of_a_new_cursor = refl

-- of a part its first line is that of version 2, and the line comes after those of the ends
abbrev from_b : PartEnds
from_b = record { from = Some (place "o/v1/content/b"); below = None }

text_of_a_part : part_text from_b checking ≡ codes
    "ocfl-scrub part cursor 2\nfrom o/v1/content/b\nbelow end\nchecks inventories\ncycle 3\nruns 2\nspent 9\nfiles 3\nafter o/v1/content/c\ndigest 343019590ad84b0b1eff59e071b8f587662c724c525df04c272b9cf965c09ff0\n"
unfolding cursor_on_literals
text_of_a_part = refl

first_line_of_a_part : take 25 (part_text from_b third_cycle) ≡ codes "ocfl-scrub part cursor 1\n"
unfolding cursor_on_literals
first_line_of_a_part = refl

-- ---- texts of version 1

-- that cursor without files
abbrev without_files : Cursor
without_files = record third_cycle { files = 0 }

version_one_of_a_cursor : version_one_text without_files ≡ codes
    "ocfl-scrub cursor 1\ncycle 3\nruns 2\nspent 9\nafter o/v1/content/c\ndigest 822836e04ff6618e0a7571237f0049f590a6f9890506f09338f0505902d351d7\n"
unfolding cursor_on_literals
version_one_of_a_cursor = refl

-- it is read as that cursor
version_one_is_read : IsCursor without_files
    → IsTextOf (codes "ocfl-scrub cursor 1\ncycle 3\nruns 2\nspent 9\nafter o/v1/content/c\ndigest 822836e04ff6618e0a7571237f0049f590a6f9890506f09338f0505902d351d7\n") without_files
version_one_is_read keeps = record { keeps = keeps; is = inr (record { files = refl; further = refl }, sym version_one_of_a_cursor) }

-- and shown with the line of its files
version_one_as_shown : cursor_lines without_files ≡ codes "cycle 3\nruns 2\nspent 9\nfiles 0\nafter o/v1/content/c\n"
unfolding cursor_on_literals
version_one_as_shown = refl

version_one_of_a_new_cursor : version_one_text (new_cursor Nothing) ≡ codes "ocfl-scrub cursor 1\ncycle 1\nruns 0\nspent 0\nstart\ndigest eec5ed22301f28c448cd6ef3e3f29ee5aef8b762c091f1384e735a1c51cad9b7\n"
unfolding cursor_on_literals
version_one_of_a_new_cursor = refl

-- ---- texts in both versions

abbrev behind_the_root : Cursor
behind_the_root = record (new_cursor Nothing) { state = behind [] }

-- how many bytes the text has in version 2, and in version 1
abbrev lengths : Cursor → ℕ × ℕ
lengths c = (length (cursor_text c), length (version_one_text c))

lengths_of_texts : (lengths (new_cursor Nothing) ≡ (129, 121)) × (lengths behind_the_root ≡ (131, 123)) × (lengths third_cycle ≡ (144, 136))
unfolding cursor_on_literals
lengths_of_texts = (refl, refl, refl)

-- and how many before the last line, and in it
abbrev lengths_around : Text → ℕ × ℕ
lengths_around body = (length body, length (digest_line body))

last_lines : (lengths_around (cursor_body third_cycle) ≡ (72, 72)) × (lengths_around (version_one_body third_cycle) ≡ (64, 72))
unfolding cursor_on_literals
last_lines = (refl, refl)

-- the text before the last line in version 2, and in version 1 that of the cursor without files
abbrev bodies : Cursor → Text × Text
bodies c = (cursor_body c, version_one_body (record c { files = 0 }))

bodies_behind_the_root : bodies behind_the_root ≡ (codes "ocfl-scrub cursor 2\ncycle 1\nruns 0\nspent 0\nfiles 0\nafter .\n", codes "ocfl-scrub cursor 1\ncycle 1\nruns 0\nspent 0\nafter .\n")
unfolding cursor_on_literals
bodies_behind_the_root = refl

bodies_of_an_ended_cursor : bodies (record { cycle = 18446744073709551615; runs = 10; spent = 9223372036854775808; files = 12; further = Nothing; state = ended })
    ≡ (
      codes "ocfl-scrub cursor 2\ncycle 18446744073709551615\nruns 10\nspent 9223372036854775808\nfiles 12\nended\n",
      codes
          "ocfl-scrub cursor 1\ncycle 18446744073709551615\nruns 10\nspent 9223372036854775808\nended\n",
    )
unfolding cursor_on_literals
bodies_of_an_ended_cursor = refl

-- a place is written as in a report
bodies_at_an_odd_place : bodies (record (new_cursor Nothing) { state = behind (codes "a%" ∷ (0xC3 ∷ 0xA9 ∷ 32 ∷ 10 ∷ []) ∷ []) })
    ≡ (codes "ocfl-scrub cursor 2\ncycle 1\nruns 0\nspent 0\nfiles 0\nafter a%25/%C3%A9 %0A\n", codes "ocfl-scrub cursor 1\ncycle 1\nruns 0\nspent 0\nafter a%25/%C3%A9 %0A\n")
unfolding cursor_on_literals
bodies_at_an_odd_place = refl

-- 255 names of 255 bytes, each escaped
abbrev longest : Cursor
longest = record (new_cursor Nothing) { runs = 1; state = behind (replicate 255 (replicate 255 1)) }

-- with the last line 195,459 bytes, 195,451 in version 1, and 195,478 in version 3
longest_bodies : (length (cursor_body longest) ≡ 195387) × (length (version_one_body longest) ≡ 195379) × (length (cursor_body (record longest { further = Inventories })) ≡ 195406)
unfolding cursor_on_literals
longest_bodies = (refl, refl, refl)

-- ---- a cursor's own rule

-- a cursor without files, by its other numbers
abbrev counted : ℕ → ℕ → ℕ → Cursor
counted cycle runs spent = record { cycle = cycle; runs = runs; spent = spent; files = 0; further = Nothing; state = start }

-- these are cursors
record KeepTheRule : Type 0 where
  a_new_cursor : IsCursor (new_cursor Inventories)
  most_spent_in_one_run : IsCursor (counted 1 1 9223372036854775808)
  last_cycle_and_run : IsCursor (counted 18446744073709551615 18446744073709551615 0)
  as_many_files_as_spent : IsCursor (record (counted 1 1 9) { files = 9 })

they_keep_the_rule : KeepTheRule
they_keep_the_rule = search arith

-- and these are none
record BreakTheRule : Type 0 where
  no_cycle : IsCursor (counted 0 1 0) → ⊥
  cycle_too_large : IsCursor (counted 18446744073709551616 1 0) → ⊥
  runs_too_large : IsCursor (counted 1 18446744073709551616 0) → ⊥
  spent_without_a_run : IsCursor (counted 1 0 1) → ⊥
  -- Seen to refuse: a cursor may have spent one more than its runs can.
  more_spent_than_runs_can : IsCursor (counted 1 1 9223372036854775809) → ⊥
  -- Seen to refuse: a cursor may have more files than it spent.
  more_files_than_spent : IsCursor (record (counted 1 1 9) { files = 10 }) → ⊥
  place_of_256_names : IsCursor (record (new_cursor Nothing) { state = behind (replicate 256 (1 ∷ [])) }) → ⊥

they_break_the_rule : BreakTheRule
they_break_the_rule = search arith

-- ---- refusals

-- a text with the right last line after it
abbrev sealed : String → Text
sealed body = codes body ++ digest_line (codes body)

-- Seen to refuse: *version* before *not a cursor*.
no_bytes_at_all : refusal [] ≡ NotA kind.Cursor
no_bytes_at_all = refl

-- n, and what follows, k in all
abbrev upward : ℕ → ℕ → List ℕ
upward n zero = []
upward n (suc k) = n ∷ upward (n + 1) k

-- the text of that cursor in version 1
abbrev whole : Text
whole = codes "ocfl-scrub cursor 1\ncycle 3\nruns 2\nspent 9\nafter o/v1/content/c\ndigest 822836e04ff6618e0a7571237f0049f590a6f9890506f09338f0505902d351d7\n"

-- cut after n bytes
abbrev cut_to : ℕ → Refused
cut_to n = refusal (take n whole)

-- within the first line, in front of the version, and anywhere after it
-- Seen to refuse: *version* before *not a cursor*; version 1 of a cursor is refused.
cut_anywhere : map cut_to (upward 0 136) ≡ replicate 18 (NotA kind.Cursor) ++ Version ∷ replicate 117 Damaged
unfolding cursor_on_literals
cut_anywhere = refl

-- the byte at n made another
abbrev changed_at : ℕ → Refused
changed_at n = refusal (take n whole ++ 33 ∷ drop (n + 1) whole)

-- a text with a byte changed, and what its last line is to be the digest of
abbrev changed : ℕ → Text
changed n = take n whole ++ 33 ∷ drop (n + 1) whole

abbrev front_of : Text → Text
front_of b = take (length b - 72) b

-- the last line of that cursor's text in version 1, which is computed once
abbrev last_line : Text
last_line = codes "digest 822836e04ff6618e0a7571237f0049f590a6f9890506f09338f0505902d351d7\n"

last_line_is : digest_line (front_of whole) ≡ last_line
unfolding cursor_on_literals
last_line_is = refl

-- the refusal of bytes if that is the line that they are to end with
abbrev refusal_by : Text → Text → Refused
refusal_by line b =
    first_reason kind.Cursor (is_cursor_front b) (is_version_read b) (nat_le 72 (length b) && text_eq (drop (length b - 72) b) line)

same_refusal : (b : Text) → front_of b ≡ front_of whole → refusal b ≡ refusal_by last_line b
same_refusal b e = ap (λ line. refusal_by line b) (ap digest_line e ∙ last_line_is)

same_refusals : (ns : List ℕ) → map (λ n. front_of (changed n)) ns ≡ replicate (length ns) (front_of whole)
    → map changed_at ns ≡ map (λ n. refusal_by last_line (changed n)) ns
same_refusals [] e = refl
same_refusals (n ∷ ns) e =
    ap₂ (λ x xs. x ∷ xs) (same_refusal (changed n) (ap (λ xs. get_or xs 0 []) e)) (same_refusals ns (ap (drop 1) e))

-- in the last line
changed_in_last_line : map changed_at (upward 64 72) ≡ replicate 72 Damaged
changed_in_last_line = same_refusals (upward 64 72) refl ∙ refl

-- and in front of it
changed_in_front : map changed_at (upward 0 64) ≡ replicate 18 (NotA kind.Cursor) ++ Version ∷ Version ∷ replicate 44 Damaged
unfolding cursor_on_literals
changed_in_front = refl

in_two : (f : ℕ → Refused) → map f (upward 0 136) ≡ map f (upward 0 64) ++ map f (upward 64 72)
in_two f = refl

-- in the first line, in the version or the line feed after it, and anywhere else
changed_anywhere : map changed_at (upward 0 136) ≡ replicate 18 (NotA kind.Cursor) ++ Version ∷ Version ∷ replicate 116 Damaged
changed_anywhere = in_two changed_at ∙ ap₂ ◌++◌ changed_in_front changed_in_last_line

byte_behind_the_text : refusal (whole ++ 10 ∷ []) ≡ Damaged
unfolding cursor_on_literals
byte_behind_the_text = refl

-- its digits in capitals
digest_in_capitals : refusal (codes "ocfl-scrub cursor 1\ncycle 3\nruns 2\nspent 9\nafter o/v1/content/c\ndigest 822836E04FF6618E0A7571237F0049F590A6F9890506F09338F0505902D351D7\n") ≡ Damaged
unfolding cursor_on_literals
digest_in_capitals = refl

-- Seen to refuse: a fourth version of a cursor.
version_of_the_future : refusal (codes "ocfl-scrub cursor 4\ncycle 3\nruns 2\nspent 9\nafter o/v1/content/c\n") ≡ Version
version_of_the_future = refl

-- the version is looked at before the last line
-- Seen to refuse: a fourth version of a cursor.
sealed_version_of_the_future : refusal (sealed "ocfl-scrub cursor 4\ncycle 3\nruns 2\nspent 9\nafter o/v1/content/c\n") ≡ Version
unfolding cursor_on_literals
sealed_version_of_the_future = refl

-- a text of version 1 whose first line is made that of version 2
version_one_made_two : refusal (codes "ocfl-scrub cursor 2\ncycle 3\nruns 2\nspent 9\nafter o/v1/content/c\ndigest 822836e04ff6618e0a7571237f0049f590a6f9890506f09338f0505902d351d7\n") ≡ Damaged
unfolding cursor_on_literals
version_one_made_two = refl

version_with_a_zero : refusal (sealed "ocfl-scrub cursor 01\ncycle 1\nruns 0\nspent 0\nstart\n") ≡ Version
unfolding cursor_on_literals
version_with_a_zero = refl

-- bytes that are no cursor's text are then malformed
-- Seen to refuse: version 1 of a cursor is refused.
leading_zero : refusal (sealed "ocfl-scrub cursor 1\ncycle 03\nruns 2\nspent 9\nafter o/v1/content/c\n") ≡ Malformed
unfolding cursor_on_literals
leading_zero = refl

sealed_cycle_too_large : refusal (sealed "ocfl-scrub cursor 1\ncycle 18446744073709551616\nruns 1\nspent 0\nstart\n") ≡ Malformed
unfolding cursor_on_literals
sealed_cycle_too_large = refl

sealed_spent_too_large : refusal (sealed "ocfl-scrub cursor 1\ncycle 1\nruns 1\nspent 9223372036854775809\nstart\n") ≡ Malformed
unfolding cursor_on_literals
sealed_spent_too_large = refl

first_line_alone : refusal (sealed "ocfl-scrub cursor 1\n") ≡ Malformed
unfolding cursor_on_literals
first_line_alone = refl

sealed_files_above_spent : refusal (sealed "ocfl-scrub cursor 2\ncycle 3\nruns 2\nspent 9\nfiles 10\nafter o/v1/content/c\n") ≡ Malformed
unfolding cursor_on_literals
sealed_files_above_spent = refl

version_two_without_files : refusal (sealed "ocfl-scrub cursor 2\ncycle 3\nruns 2\nspent 9\nafter o/v1/content/c\n") ≡ Malformed
unfolding cursor_on_literals
version_two_without_files = refl

version_one_with_files : refusal (sealed "ocfl-scrub cursor 1\ncycle 3\nruns 2\nspent 9\nfiles 0\nafter o/v1/content/c\n") ≡ Malformed
unfolding cursor_on_literals
version_one_with_files = refl

version_three_without_its_line : refusal (sealed "ocfl-scrub cursor 3\ncycle 3\nruns 2\nspent 9\nfiles 3\nafter o/v1/content/c\n") ≡ Malformed
unfolding cursor_on_literals
version_three_without_its_line = refl

version_two_with_its_line : refusal (sealed "ocfl-scrub cursor 2\nchecks inventories\ncycle 3\nruns 2\nspent 9\nfiles 3\nafter o/v1/content/c\n") ≡ Malformed
unfolding cursor_on_literals
version_two_with_its_line = refl

-- 262,145 bytes that begin as a cursor
-- Seen to refuse: a cursor may have 262,145 bytes.
text_too_long : refusal (codes "ocfl-scrub cursor 1\n" ++ replicate 262125 49) ≡ NotA kind.Cursor
unfolding cursor_on_literals
text_too_long = refl

-- ---- moves

-- it has had its runs all the same
third_cycle_from_the_start : at_start third_cycle ≡ record third_cycle { state = start }
third_cycle_from_the_start = refl

-- ---- what is shown

-- the stored bytes are the text, and not the lines that are shown of it
stored_text_of_what_is_shown : IsShownFrom (Some (cursor_text (new_cursor Inventories))) (cursor_lines (new_cursor Inventories))
stored_text_of_what_is_shown = record {
  bytes = cursor_text (new_cursor Inventories);
  are = inl (record { cursor = new_cursor Inventories; is_text = record { keeps = they_keep_the_rule.a_new_cursor; is = inl refl }; lines_are = refl });
  stored = refl;
}

-- ---- parts

most_bytes_of_a_part : max_part_text ≡ 67108864
most_bytes_of_a_part = refl
