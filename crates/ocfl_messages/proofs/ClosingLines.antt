-- How many lines the text of a closing has.
use Rattle.std.proofs.Common.{◌≡◌, ◌≢◌, ℕ, ◌+◌, ◌-◌, ◌/◌, ◌%◌, ◌<◌, ◌≤◌, ◌^◌, ◌==◌, min, List, [], ◌∷◌, ◌++◌, Bool, true, false, cond, All, IsUtf8, length, map, take, codes, decimal, refl, ap, ◌∙◌, nat_le, arith}
use Rattle.std.proofs.lemmas.{Bool.Decides.{nat_tests}, List.{length-take}}
use Rattle.std.proofs.lemmas.List.Elements.{All-cons, All-head, All-nil, All-tail, All-take}
use Rattle.std.specs.Prelude.{IfSome, Option, Some, None, nat_lt, option_map}
use Rattle.ocfl_tree.specs.{Name.{IsPlace}, Place.{Text, Place}}
use Rattle.ocfl_report.specs.{Line.{Line, line_of}, Text.{IsLine, escape}, declared.code.Code.{Code}}
use Rattle.ocfl_report.specs.declared.line.Line.{Line as MadeLine}
use Rattle.ocfl_report.proofs.{Bytes.{IsByte}, Escapes.{escape_printable}, LineTexts.{no_line_feed}}
use Rattle.ocfl_codes.specs.Kinds.{is_dash}
use Rattle.ocfl_messages.specs.{Command.{over_text, path_text}, Finding.{Finding, IsPlaced}, Gravest.{by_weight, gravest, most_kept}}
use Rattle.ocfl_messages.specs.Closing.{AreCounts, IsMade, above_text, alone_text, back_head, back_line, back_lines, back_room, back_text, behind_new, changed_command, changed_text, closing_text, counted_text, counts_text, ended_text, gone_head, gone_line, gone_lines, gone_room, gone_text, is_unmoved, kind_text, lead_text, list_command, moved_text, most_closing_lines, most_of, new_head, new_lines, new_room, new_text, not_shown, not_whole_text, one_unless, repaired_head, repaired_line, repaired_lines, repaired_room, repaired_text, room_of_sections, run_count_text, section_lines, section_text, since_text, some_gone_text, some_moved_text, some_new_text, some_unlooked_text, summary_text, two_unless, uncompared_text, unlooked_text, why_lines, word_lines}
use Rattle.ocfl_messages.specs.{Grouped.{groups_text, led_by, line_count, shown_leads}, Many.{are_text, many_text, scaled_text, size_text}, Night.{findings_command, more_text}}
use Rattle.ocfl_messages.specs.Wording.{at_space, both_text, coded_text, cut_text, detail_text, digests_text, has_digests, most_digits, named_text, plain_detail, path_part}
use Rattle.ocfl_messages.specs.{declared.closing.Closing.{Closing}, declared.closing.Gone.{Gone}, declared.closing.GoneKind.{GoneKind}, declared.closing.Moved.{Moved}, declared.tally.Counts.{Counts}}
use Rattle.ocfl_messages.specs.declared.closing.GoneKind.TheVariants.{Object, Undeclared, File, Expected}
use Rattle.ocfl_messages.proofs.LineCounts.{both, coded_flat, digits_flat, escape_flat, gravest_placed, groups_fit, many_flat, more_short, none, over_flat, part_flat, path_flat}

-- ---- details

bytes_flat : (t : Text) → All IsByte t → line_count (escape t) ≡ 0
bytes_flat t h = none (escape t) (no_line_feed (escape t) (escape_printable t h))

abbrev AreBytes : Text × Text → Type 0
AreBytes p = All IsByte p.0 × All IsByte p.1

at_space_bytes : (t : Text) → All IsByte t → IfSome (at_space t) AreBytes
at_space_bytes [] h = tt
at_space_bytes (b ∷ t) h = by (b == 32) (at_space t) (at_space_bytes t (All-tail IsByte b t h))
  where
    by : (q : Bool) (r : Option (Text × Text)) → IfSome r AreBytes → IfSome (cond q (Some ([], t)) (option_map (λ p. (b ∷ p.0, p.1)) r)) AreBytes
    by true r k = (All-nil IsByte, All-tail IsByte b t h)
    by false None k = tt
    by false (Some p) k = (All-cons IsByte b p.0 (All-head IsByte b t h) k.0, k.1)

cut_flat : (t : Text) → All IsByte t → line_count (cut_text t) ≡ 0
cut_flat t h =
    let first : line_count (escape (take most_digits t) ++ codes "..") ≡ 0 = both (escape (take most_digits t)) (codes "..") ∙ omega (arith, bytes_flat (take most_digits t) (All-take IsByte most_digits t h)) in
    elim (nat_le (length t) most_digits) as (λ q. line_count (cond q (escape t) (escape (take most_digits t) ++ codes "..")) ≡ 0) [ true ↦ bytes_flat t h | false ↦ first ]

digests_flat : (name expected found : Text) → All IsByte name → All IsByte expected → All IsByte found → line_count (digests_text name expected found) ≡ 0
digests_flat name expected found a b d =
    let N = codes ", expected " ++ escape name in
    let E = (N ++ codes " ") ++ cut_text expected in
    both (E ++ codes ", found ") (cut_text found)
    ∙ omega (arith, both E (codes ", found "), both (N ++ codes " ") (cut_text expected), both N (codes " "), both (codes ", expected ") (escape name), bytes_flat name a, cut_flat expected b, cut_flat found d)

both_flat : (name : Text) (o : Option (Text × Text)) → All IsByte name → IfSome o AreBytes → line_count (both_text name o) ≡ 0
both_flat name None a k = refl
both_flat name (Some p) a k = digests_flat name p.0 p.1 a k.0 k.1

named_flat : (o : Option (Text × Text)) → IfSome o AreBytes → line_count (named_text o) ≡ 0
named_flat None k = refl
named_flat (Some p) k = both_flat p.0 (at_space p.1) k.0 (at_space_bytes p.1 k.1)

other_flat : (detail : Text) → All IsByte detail → line_count (plain_detail detail) ≡ 0
other_flat detail h =
    let said : line_count (codes ": " ++ escape detail) ≡ 0 = both (codes ": ") (escape detail) ∙ omega (arith, bytes_flat detail h) in
    elim (is_dash detail) as (λ q. line_count (cond q [] (codes ": " ++ escape detail)) ≡ 0) [ true ↦ refl | false ↦ said ]

detail_flat : (c : Code) (detail : Text) → All IsByte detail → line_count (detail_text c detail) ≡ 0
detail_flat c detail h = elim (has_digests c) as (λ q. line_count (cond q (named_text (at_space detail)) (plain_detail detail)) ≡ 0) [
  | true ↦ named_flat (at_space detail) (at_space_bytes detail h)
  | false ↦ other_flat detail h
]

-- ---- lines of sections

repaired_one : (l : Line) → IsLine l → line_count (repaired_line l) ≡ 1
repaired_one l h =
    let P = path_part (path_text l.place) in
    let C = coded_text l in
    let D = detail_text l.code l.detail in
    both (((codes "\t" ++ P) ++ C) ++ D) (codes "\n")
    ∙ omega (
      arith,
      both ((codes "\t" ++ P) ++ C) D,
      both (codes "\t" ++ P) C,
      both (codes "\t") P,
      part_flat (path_text l.place) (path_flat l.place h.place),
      coded_flat l,
      detail_flat l.code l.detail h.detail,
    )

repaired_all : (ls : List MadeLine) → All (λ l. IsLine (line_of l)) ls → line_count (repaired_lines (map line_of ls)) ≡ length ls
repaired_all [] h = refl
repaired_all (l ∷ ls) h =
    both (repaired_line (line_of l)) (repaired_lines (map line_of ls))
    ∙ omega (arith, repaired_one (line_of l) (All-head (λ m. IsLine (line_of m)) l ls h), repaired_all ls (All-tail (λ m. IsLine (line_of m)) l ls h))

kind_flat : (k : GoneKind) → line_count (kind_text k) ≡ 0
kind_flat Object = refl
kind_flat Undeclared = refl
kind_flat File = refl
kind_flat Expected = refl

gone_one : (g : Gone) → IsPlace g.place → line_count (gone_line g) ≡ 1
gone_one g h =
    let nine : line_count (9 ∷ path_text g.place) ≡ 0 = path_flat g.place h in
    both (kind_text g.kind ++ 9 ∷ path_text g.place) (10 ∷ []) ∙ omega (arith, both (kind_text g.kind) (9 ∷ path_text g.place), kind_flat g.kind, nine)

gone_all : (gs : List Gone) → All (λ g. IsPlace g.place) gs → line_count (gone_lines gs) ≡ length gs
gone_all [] h = refl
gone_all (g ∷ gs) h =
    both (gone_line g) (gone_lines gs) ∙ omega (arith, gone_one g (All-head (λ x. IsPlace x.place) g gs h), gone_all gs (All-tail (λ x. IsPlace x.place) g gs h))

back_one : (p : Place) → IsPlace p → line_count (back_line p) ≡ 1
back_one p h = both (codes "object\t" ++ path_text p) (10 ∷ []) ∙ omega (arith, both (codes "object\t") (path_text p), path_flat p h)

back_all : (ps : List Place) → All IsPlace ps → line_count (back_lines ps) ≡ length ps
back_all [] h = refl
back_all (p ∷ ps) h = both (back_line p) (back_lines ps) ∙ omega (arith, back_one p (All-head IsPlace p ps h), back_all ps (All-tail IsPlace p ps h))

-- ---- a section

more_none : (command file : Text) (n : ℕ) → n ≡ 0 → line_count (more_text command file n) ≡ 0
more_none command file n e = ap (λ k. line_count (more_text command file k)) e

section_short : (count room listed : ℕ) (head shown command file : Text) → count < 2 ^ 64 → listed ≤ count → (count ≢ 0 → 2 ≤ room)
    → line_count head ≡ 1 → line_count shown ≡ min (most_of room count) listed → line_count command ≡ 0 → IsUtf8 file
    → line_count (section_text count head shown command file (not_shown room count listed)) ≤ section_lines room count
section_short count room listed head shown command file l few some one items plain text = by (count == 0) refl
  where
    left : ℕ
    left = not_shown room count listed

    M : Text
    M = more_text command file left

    short : line_count M ≤ 1
    short = more_short command file left plain text (omega (arith, l))

    all : line_count ((head ++ shown) ++ M) ≡ 1 + min (most_of room count) listed + line_count M
    all = both (head ++ shown) M ∙ omega (arith, both head shown, one, items)

    within : (b e : Bool) → nat_lt count room ≡ b → (left == 0) ≡ e → count ≢ 0 → line_count ((head ++ shown) ++ M) ≤ min (count + 1) room
    within true true d z s = grind (arith, nat_tests, all, d, z, few, some s, more_none command file left)
    within true false d z s = grind (arith, nat_tests, all, short, d, z, few, some s)
    within false e d z s = grind (arith, nat_tests, all, short, d, few, some s)

    by : (b : Bool) → (count == 0) ≡ b → line_count (cond b [] ((head ++ shown) ++ M)) ≤ cond b 0 (min (count + 1) room)
    by true e = omega arith
    by false e = within (nat_lt count room) (left == 0) refl refl (grind (arith, nat_tests, e))

-- ---- the word at the end

scaled_flat : (n tenth : ℕ) (unit : Text) → n / tenth / 10 < 2 ^ 64 → n / tenth % 10 < 2 ^ 64 → line_count unit ≡ 0 → line_count (scaled_text n tenth unit) ≡ 0
scaled_flat n tenth unit a b u =
    let W = decimal (n / tenth / 10) ++ codes "." in
    let D = decimal (n / tenth % 10) in
    both ((W ++ D) ++ codes " ") unit ∙ omega (arith, both (W ++ D) (codes " "), both W D, both (decimal (n / tenth / 10)) (codes "."), digits_flat (n / tenth / 10) a, digits_flat (n / tenth % 10) b, u)

size_flat : (n : ℕ) → n < 2 ^ 64 → line_count (size_text n) ≡ 0
size_flat n l =
    let T = scaled_flat n 100000000000 (codes "TB") (omega (arith, l)) (omega (arith, l)) refl in
    let G = scaled_flat n 100000000 (codes "GB") (omega (arith, l)) (omega (arith, l)) refl in
    let M = scaled_flat n 100000 (codes "MB") (omega (arith, l)) (omega (arith, l)) refl in
    let K = scaled_flat n 100 (codes "kB") (omega (arith, l)) (omega (arith, l)) refl in
    let B = many_flat n (codes "byte") (codes "bytes") l refl refl in
    let g : Text = cond (nat_lt n 1000000000000) (scaled_text n 100000000 (codes "GB")) (scaled_text n 100000000000 (codes "TB")) in
    let eg : line_count g ≡ 0 = elim (nat_lt n 1000000000000) as (λ q. line_count (cond q (scaled_text n 100000000 (codes "GB")) (scaled_text n 100000000000 (codes "TB"))) ≡ 0) [ true ↦ G | false ↦ T ] in
    let m : Text = cond (nat_lt n 1000000000) (scaled_text n 100000 (codes "MB")) g in
    let em : line_count m ≡ 0 = elim (nat_lt n 1000000000) as (λ q. line_count (cond q (scaled_text n 100000 (codes "MB")) g) ≡ 0) [ true ↦ M | false ↦ eg ] in
    let k : Text = cond (nat_lt n 1000000) (scaled_text n 100 (codes "kB")) m in
    let ek : line_count k ≡ 0 = elim (nat_lt n 1000000) as (λ q. line_count (cond q (scaled_text n 100 (codes "kB")) m) ≡ 0) [ true ↦ K | false ↦ em ] in
    elim (nat_lt n 1000) as (λ q. line_count (cond q (many_text n (codes "byte") (codes "bytes")) k) ≡ 0) [ true ↦ B | false ↦ ek ]

counts_flat : (k : Counts) → AreCounts k → line_count (counts_text k) ≡ 0
counts_flat k h =
    let F = many_text k.files (codes "file") (codes "files") in
    let O = many_text k.objects (codes "object") (codes "objects") in
    let A = (decimal k.right ++ codes " of ") ++ F in
    let B = (A ++ codes " right, ") ++ O in
    both (B ++ codes ", ") (size_text k.bytes)
    ∙ omega (
      arith,
      both B (codes ", "),
      both (A ++ codes " right, ") O,
      both A (codes " right, "),
      both (decimal k.right ++ codes " of ") F,
      both (decimal k.right) (codes " of "),
      digits_flat k.right h.right,
      many_flat k.files (codes "file") (codes "files") h.files refl refl,
      many_flat k.objects (codes "object") (codes "objects") h.objects refl refl,
      size_flat k.bytes h.bytes,
    )

run_count_flat : (n : ℕ) → n < 2 ^ 64 → line_count (run_count_text n) ≡ 0
run_count_flat n l =
    let R = many_text n (codes "run") (codes "runs") in
    let some : line_count (codes ", " ++ R) ≡ 0 = both (codes ", ") R ∙ omega (arith, many_flat n (codes "run") (codes "runs") l refl refl) in
    elim (n == 0) as (λ q. line_count (cond q [] (codes ", " ++ R)) ≡ 0) [ true ↦ refl | false ↦ some ]

some_new_flat : (n : ℕ) → n < 2 ^ 64 → line_count (some_new_text n) ≡ 0
some_new_flat n l = elim (n == 0) as (λ q. line_count (cond q (codes "Nothing new") (many_text n (codes "new finding") (codes "new findings"))) ≡ 0) [
  | true ↦ refl
  | false ↦ many_flat n (codes "new finding") (codes "new findings") l refl refl
]

some_gone_flat : (n : ℕ) → n < 2 ^ 64 → line_count (some_gone_text n) ≡ 0
some_gone_flat n l = elim (n == 0) as (λ q. line_count (cond q (codes "nothing gone") (many_text n (codes "object or file gone") (codes "objects and files gone"))) ≡ 0) [
  | true ↦ refl
  | false ↦ many_flat n (codes "object or file gone") (codes "objects and files gone") l refl refl
]

since_flat : (a g b : ℕ) → a < 2 ^ 64 → g < 2 ^ 64 → b < 2 ^ 64 → line_count (since_text a g b) ≡ 0
since_flat a g b la lg lb =
    let A = some_new_text a ++ codes ", " in
    let G = A ++ some_gone_text g in
    both (G ++ codes " since cycle ") (decimal b)
    ∙ omega (arith, both G (codes " since cycle "), both A (some_gone_text g), both (some_new_text a) (codes ", "), some_new_flat a la, some_gone_flat g lg, digits_flat b lb)

alone_flat : (why : Text) → line_count (alone_text why) ≡ 0
alone_flat [] = refl
alone_flat (b ∷ why) = refl

changed_flat : (c : Closing) → IsMade c → line_count (changed_text c) ≡ 0
changed_flat c h = elim (c.before == 0) as (λ q. line_count (cond q (alone_text c.uncompared.now) (since_text c.appeared_count c.gone_count c.before)) ≡ 0) [
  | true ↦ alone_flat c.uncompared.now
  | false ↦ since_flat c.appeared_count c.gone_count c.before h.appeared h.gone_count h.before
]

summary_two : (c : Closing) (k : Counts) → IsMade c → AreCounts k → line_count (summary_text c k) ≡ 2
summary_two c k h a =
    let C = counts_text k ++ run_count_text c.runs in
    let A = C ++ codes ".\n" in
    both (A ++ changed_text c) (codes ".\n")
    ∙ omega (arith, both A (changed_text c), both C (codes ".\n"), both (counts_text k) (run_count_text c.runs), counts_flat k a, run_count_flat c.runs h.runs, changed_flat c h)

not_whole_one : (c : Closing) → IsMade c → line_count (not_whole_text c.cycle c.report.now) ≡ 1
not_whole_one c h =
    let A = codes "Cycle " ++ decimal c.cycle in
    let B = A ++ codes " ended, but its report is incomplete: " in
    both (B ++ escape c.report.now) (codes "\n")
    ∙ omega (arith, both B (escape c.report.now), both A (codes " ended, but its report is incomplete: "), both (codes "Cycle ") (decimal c.cycle), digits_flat c.cycle h.cycle, escape_flat c.report.now h.report)

ended_short : (c : Closing) → IsMade c → line_count (ended_text c) ≤ word_lines c.whole
ended_short c h = by c.counts h.counts
  where
    N : Text
    N = not_whole_text c.cycle c.report.now

    E : Text
    E = (codes "Cycle " ++ decimal c.cycle) ++ codes " ended: "

    ended : line_count E ≡ 0
    ended = both (codes "Cycle " ++ decimal c.cycle) (codes " ended: ") ∙ omega (arith, both (codes "Cycle ") (decimal c.cycle), digits_flat c.cycle h.cycle)

    in_it : line_count (N ++ codes "In it: ") ≡ 1
    in_it = both N (codes "In it: ") ∙ omega (arith, not_whole_one c h)

    by : (o : Option Counts) → IfSome o AreCounts → line_count (counted_text c o) ≤ word_lines c.whole
    by None k = elim c.whole as (λ q. line_count (cond q [] N) ≤ word_lines q) [ true ↦ omega arith | false ↦ omega (arith, not_whole_one c h) ]
    by (Some n) k =
        let lead : line_count (lead_text c) + 2 ≤ word_lines c.whole = elim c.whole as (λ q. line_count (cond q E (N ++ codes "In it: ")) + 2 ≤ word_lines q) [ true ↦ omega (arith, ended) | false ↦ omega (arith, in_it) ] in
        omega (arith, both (lead_text c) (summary_text c n), summary_two c n h k, lead)

uncompared_short : (why : Text) → IsUtf8 why → line_count (uncompared_text why) ≤ why_lines why
uncompared_short [] h = omega arith
uncompared_short (b ∷ why) h =
    let A = codes "What is new or gone since the last report is not known: " in
    omega (arith, both (A ++ escape (b ∷ why)) (codes "\n"), both A (escape (b ∷ why)), escape_flat (b ∷ why) h)

are_flat : (n : ℕ) → line_count (are_text n) ≡ 0
are_flat n = elim (n == 1) as (λ q. line_count (cond q (codes " is") (codes " are")) ≡ 0) [ true ↦ refl | false ↦ refl ]

unlooked_short : (n : ℕ) → n < 2 ^ 64 → line_count (unlooked_text n) ≤ one_unless (n == 0)
unlooked_short n l =
    let M = many_text n (codes "file") (codes "files") in
    let A = M ++ codes " of objects that are gone, or whose inventory cannot be used," in
    let some : line_count (some_unlooked_text n) ≡ 1 = both (A ++ are_text n) (codes " not looked at any more.\n")
    ∙ omega (arith, both A (are_text n), both M (codes " of objects that are gone, or whose inventory cannot be used,"), many_flat n (codes "file") (codes "files") l refl refl, are_flat n) in
    elim (n == 0) as (λ q. line_count (cond q [] (some_unlooked_text n)) ≤ one_unless q) [ true ↦ omega arith | false ↦ omega (arith, some) ]

moved_short : (m : Moved) (list : Text) → m.rewritten < 2 ^ 64 → m.went_back < 2 ^ 64 → m.newer < 2 ^ 64 → IsUtf8 list → line_count (moved_text m list) ≤ one_unless (is_unmoved m)
moved_short m list r b n u =
    let A = codes "Root inventories: " ++ decimal m.rewritten in
    let B = (A ++ codes " changed without a new version, ") ++ decimal m.went_back in
    let C = (B ++ codes " went back, ") ++ decimal m.newer in
    let D = (C ++ codes " of a new version: ") ++ over_text list_command list in
    let some : line_count (some_moved_text m list) ≡ 1 = both D (codes "\n")
    ∙ omega (
      arith,
      both (C ++ codes " of a new version: ") (over_text list_command list),
      both C (codes " of a new version: "),
      both (B ++ codes " went back, ") (decimal m.newer),
      both B (codes " went back, "),
      both (A ++ codes " changed without a new version, ") (decimal m.went_back),
      both A (codes " changed without a new version, "),
      both (codes "Root inventories: ") (decimal m.rewritten),
      digits_flat m.rewritten r,
      digits_flat m.went_back b,
      digits_flat m.newer n,
      over_flat list_command list refl u,
    ) in
    elim (is_unmoved m) as (λ q. line_count (cond q [] (some_moved_text m list)) ≤ one_unless q) [ true ↦ omega arith | false ↦ omega (arith, some) ]

-- ---- the lines before sections

gone_head_one : (n cycle : ℕ) → n < 2 ^ 64 → cycle < 2 ^ 64 → line_count (gone_head n cycle) ≡ 1
gone_head_one n cycle l k =
    let M = many_text n (codes "object or file") (codes "objects and files") in
    let A = M ++ are_text n in
    let B = A ++ codes " gone or missing in cycle " in
    both (B ++ decimal cycle) (codes ":\n")
    ∙ omega (arith, both B (decimal cycle), both A (codes " gone or missing in cycle "), both M (are_text n), many_flat n (codes "object or file") (codes "objects and files") l refl refl, are_flat n, digits_flat cycle k)

back_head_one : (n cycle : ℕ) → n < 2 ^ 64 → cycle < 2 ^ 64 → line_count (back_head n cycle) ≡ 1
back_head_one n cycle l k =
    let M = many_text n (codes "object") (codes "objects") in
    let A = M ++ are_text n in
    let B = A ++ codes " back in cycle " in
    both (B ++ decimal cycle) (codes ":\n")
    ∙ omega (arith, both B (decimal cycle), both A (codes " back in cycle "), both M (are_text n), many_flat n (codes "object") (codes "objects") l refl refl, are_flat n, digits_flat cycle k)

repaired_head_one : (n cycle before : ℕ) → n < 2 ^ 64 → cycle < 2 ^ 64 → before < 2 ^ 64 → line_count (repaired_head n cycle before) ≡ 1
repaired_head_one n cycle before l k m =
    let M = many_text n (codes "finding") (codes "findings") in
    let A = M ++ codes " of cycle " in
    let B = (A ++ decimal before) ++ are_text n in
    let C = B ++ codes " repaired in cycle " in
    both (C ++ decimal cycle) (codes ":\n")
    ∙ omega (
      arith,
      both C (decimal cycle),
      both B (codes " repaired in cycle "),
      both (A ++ decimal before) (are_text n),
      both A (decimal before),
      both M (codes " of cycle "),
      many_flat n (codes "finding") (codes "findings") l refl refl,
      are_flat n,
      digits_flat before m,
      digits_flat cycle k,
    )

above_flat : (n : ℕ) → n < 2 ^ 64 → line_count (above_text n) ≡ 0
above_flat n l =
    let some : line_count ((codes ", " ++ decimal n) ++ codes " of them above") ≡ 0 = both (codes ", " ++ decimal n) (codes " of them above") ∙ omega (arith, both (codes ", ") (decimal n), digits_flat n l) in
    elim (n == 0) as (λ q. line_count (cond q [] ((codes ", " ++ decimal n) ++ codes " of them above")) ≡ 0) [ true ↦ refl | false ↦ some ]

new_head_flat : (c : Closing) → IsMade c → line_count (new_head c) ≡ 0
new_head_flat c h =
    let M = many_text c.appeared_count (codes "finding") (codes "findings") in
    let A = M ++ codes " of cycle " in
    let B = (A ++ decimal c.cycle) ++ are_text c.appeared_count in
    let C = B ++ codes " new since cycle " in
    both (C ++ decimal c.before) (above_text c.said)
    ∙ omega (
      arith,
      both C (decimal c.before),
      both B (codes " new since cycle "),
      both (A ++ decimal c.cycle) (are_text c.appeared_count),
      both A (decimal c.cycle),
      both M (codes " of cycle "),
      many_flat c.appeared_count (codes "finding") (codes "findings") h.appeared refl refl,
      are_flat c.appeared_count,
      digits_flat c.cycle h.cycle,
      digits_flat c.before h.before,
      above_flat c.said h.said,
    )

-- ---- sections

gone_short : (c : Closing) → IsMade c → (c.gone_count ≢ 0 → 2 ≤ gone_room c) → line_count (gone_text c) ≤ section_lines (gone_room c) c.gone_count
gone_short c h some =
    let m = most_of (gone_room c) c.gone_count in
    let items = gone_all (take m c.gone.now) (All-take (λ g. IsPlace g.place) m c.gone.now h.gone) ∙ length-take m c.gone.now in
    section_short c.gone_count (gone_room c) (length c.gone.now) (gone_head c.gone_count c.cycle) (gone_lines (take m c.gone.now)) list_command c.list.now
    h.gone_count h.all_gone some (gone_head_one c.gone_count c.cycle h.gone_count h.cycle) items refl h.list

command_flat : (c : Closing) → IsMade c → line_count (changed_command c) ≡ 0
command_flat c h = over_flat (codes "ocfl-scrub-reports changed") c.earlier.now refl h.earlier

repaired_short : (c : Closing) → IsMade c → (c.repaired_count ≢ 0 → 2 ≤ repaired_room c) → line_count (repaired_text c) ≤ section_lines (repaired_room c) c.repaired_count
repaired_short c h some =
    let m = most_of (repaired_room c) c.repaired_count in
    let items = repaired_all (take m c.repaired.now) (All-take (λ l. IsLine (line_of l)) m c.repaired.now h.repaired) ∙ length-take m c.repaired.now in
    section_short c.repaired_count (repaired_room c) (length c.repaired.now) (repaired_head c.repaired_count c.cycle c.before) (repaired_lines (map line_of (take m c.repaired.now))) (changed_command c) c.report.now
    h.repaired_count h.all_repaired some (repaired_head_one c.repaired_count c.cycle c.before h.repaired_count h.cycle h.before) items (command_flat c h) h.report

back_short : (c : Closing) → IsMade c → (c.back_count ≢ 0 → 2 ≤ back_room c) → line_count (back_text c) ≤ section_lines (back_room c) c.back_count
back_short c h some =
    let m = most_of (back_room c) c.back_count in
    let items = back_all (take m c.back.now) (All-take IsPlace m c.back.now h.back) ∙ length-take m c.back.now in
    section_short c.back_count (back_room c) (length c.back.now) (back_head c.back_count c.cycle) (back_lines (take m c.back.now)) (changed_command c) c.report.now
    h.back_count h.all_back some (back_head_one c.back_count c.cycle h.back_count h.cycle) items (command_flat c h) h.report

new_short : (c : Closing) (fs : List Finding) → IsMade c → All IsPlaced fs → (c.appeared_count ≢ 0 → 2 ≤ new_room c)
    → line_count (new_text c fs) ≤ new_lines (new_room c) c.appeared_count (c.appeared_count - c.said)
new_short c fs h placed some = by (c.appeared_count == 0) refl
  where
    room : ℕ
    room = new_room c

    n : ℕ
    n = c.appeared_count - c.said

    G : List Finding
    G = gravest fs

    F : Text
    F = groups_text c.root.now (room - 2) G

    M : Text
    M = more_text findings_command c.report.now (n - length (led_by (shown_leads (room - 2) G) G))

    fits : line_count F ≤ room - 2
    fits = groups_fit c.root.now G (room - 2) (omega (arith, length-take most_kept (by_weight fs))) (gravest_placed fs placed)

    more : line_count M ≤ 1
    more = more_short findings_command c.report.now (n - length (led_by (shown_leads (room - 2) G) G)) refl h.report (omega (arith, h.appeared))

    rest : line_count (codes ":\n" ++ (F ++ M)) ≡ 1 + (line_count F + line_count M)
    rest = both (codes ":\n") (F ++ M) ∙ omega (arith, both F M)

    tail : c.appeared_count ≢ 0 → line_count (cond (n == 0) (codes ".\n") (codes ":\n" ++ (F ++ M))) ≤ cond (n == 0) 1 room
    tail k = elim (n == 0) as (λ q. line_count (cond q (codes ".\n") (codes ":\n" ++ (F ++ M))) ≤ cond q 1 room) [ true ↦ omega arith | false ↦ omega (arith, rest, fits, more, some k) ]

    whole : c.appeared_count ≢ 0 → line_count (new_head c ++ cond (n == 0) (codes ".\n") (codes ":\n" ++ (F ++ M))) ≤ cond (n == 0) 1 room
    whole k = omega (arith, both (new_head c) (cond (n == 0) (codes ".\n") (codes ":\n" ++ (F ++ M))), new_head_flat c h, tail k)

    by : (b : Bool) → (c.appeared_count == 0) ≡ b
        → line_count (cond b [] (new_head c ++ cond (n == 0) (codes ".\n") (codes ":\n" ++ (F ++ M)))) ≤ cond b 0 (cond (n == 0) 1 room)
    by true e = omega arith
    by false e = whole (grind (arith, nat_tests, e))

-- ---- all of it

two_most : (b : Bool) → two_unless b ≤ 2
two_most true = omega arith
two_most false = omega arith

two_some : (n : ℕ) → n ≢ 0 → two_unless (n == 0) ≡ 2
two_some n k =
    let e : (n == 0) ≡ false = grind (arith, nat_tests, k) in
    ap two_unless e

within_room : (room count : ℕ) → section_lines room count ≤ room
within_room room count = elim (count == 0) as (λ q. cond q 0 (min (count + 1) room) ≤ room) [ true ↦ omega arith | false ↦ omega arith ]

new_within : (room count unsaid : ℕ) → (count ≢ 0 → 2 ≤ room) → new_lines room count unsaid ≤ room
new_within room count unsaid some = by (count == 0) refl (unsaid == 0)
  where
    by : (b : Bool) → (count == 0) ≡ b → (q : Bool) → cond b 0 (cond q 1 room) ≤ room
    by true e q = omega arith
    by false e true = omega (arith, some (grind (arith, nat_tests, e)))
    by false e false = omega arith

one_first : (room ta tr tb gr gl nr : ℕ) → 8 ≤ room → ta ≤ 2 → tr ≤ 2 → tb ≤ 2 → gr ≡ room - ta - tr - tb → gl ≤ gr → nr ≡ room - gl - tr - tb → (2 ≤ gr) × (ta ≤ nr)
one_first room ta tr tb gr gl nr a b c d e f g = (omega (arith, a, b, c, d, e), omega (arith, a, b, c, d, e, f, g))

then_rest : (room ta tr tb gr gl nr nl bn rr rl br bl : ℕ) → 8 ≤ room → ta ≤ 2 → tr ≤ 2 → tb ≤ 2 → gr ≡ room - ta - tr - tb → gl ≤ gr → nr ≡ room - gl - tr - tb → nl ≤ nr
    → bn ≡ room - gl - nl → rr ≡ bn - tb → rl ≤ rr → br ≡ bn - rl → (tr ≤ rr) × (tb ≤ br) × (bl ≤ br → gl + nl + rl + bl ≤ room)
then_rest room ta tr tb gr gl nr nl bn rr rl br bl a b c d e f g h i j k l =
    (omega (arith, a, b, c, d, e, f, g, h, i, j), omega (arith, a, b, c, d, e, f, g, h, i, j, k, l), λ m. omega (arith, a, b, c, d, e, f, g, h, i, j, k, l, m))

word_most : (b : Bool) → word_lines b ≤ 3
word_most true = omega arith
word_most false = omega arith

why_most : (t : Text) → why_lines t ≤ 1
why_most [] = omega arith
why_most (b ∷ t) = omega arith

one_most : (b : Bool) → one_unless b ≤ 1
one_most true = omega arith
one_most false = omega arith

all_of : (e u g l v n r b w y o z room gl nl rl bl all : ℕ) → w ≤ 3 → y ≤ 1 → o ≤ 1 → room ≡ 13 - w - y - o → e ≤ w → u ≤ y → l ≤ o → v ≤ z → g ≤ gl → n ≤ nl → r ≤ rl → b ≤ bl
    → gl + nl + rl + bl ≤ room → all ≡ e + u + g + l + v + n + r + b → all ≤ 13 + z
all_of e u g l v n r b w y o z room gl nl rl bl all a1 a2 a3 a4 a5 a6 a7 a8 a9 b1 b2 b3 b4 b5 = omega (arith, a1, a2, a3, a4, a5, a6, a7, a8, a9, b1, b2, b3, b4, b5)

pub closing_is_short : (c : Closing) (fs : List Finding) → IsMade c → All IsPlaced fs → line_count (closing_text c fs) ≤ most_closing_lines + one_unless (is_unmoved c.moved)
closing_is_short c fs h placed =
    let w = word_most c.whole in
    let y = why_most c.uncompared.now in
    let o = one_most (c.unlooked == 0) in
    let roomy : 8 ≤ room_of_sections c = omega (arith, w, y, o) in
    let ta = two_most (c.appeared_count == 0) in
    let tr = two_most (c.repaired_count == 0) in
    let tb = two_most (c.back_count == 0) in
    let gl = within_room (gone_room c) c.gone_count in
    let first = one_first (room_of_sections c) (two_unless (c.appeared_count == 0)) (two_unless (c.repaired_count == 0)) (two_unless (c.back_count == 0)) (gone_room c)
    (section_lines (gone_room c) c.gone_count) (new_room c) roomy ta tr tb refl gl refl in
    let new_two : c.appeared_count ≢ 0 → 2 ≤ new_room c = λ k. omega (arith, first.1, two_some c.appeared_count k) in
    let nl = new_within (new_room c) c.appeared_count (c.appeared_count - c.said) new_two in
    let rest = then_rest (room_of_sections c) (two_unless (c.appeared_count == 0)) (two_unless (c.repaired_count == 0)) (two_unless (c.back_count == 0)) (gone_room c)
    (section_lines (gone_room c) c.gone_count) (new_room c) (new_lines (new_room c) c.appeared_count (c.appeared_count - c.said)) (behind_new c) (repaired_room c)
    (section_lines (repaired_room c) c.repaired_count) (back_room c) (section_lines (back_room c) c.back_count) roomy ta tr tb refl gl refl nl refl refl
    (within_room (repaired_room c) c.repaired_count) refl in
    let sum = rest.2 (within_room (back_room c) c.back_count) in
    let E = ended_text c in
    let U = uncompared_text c.uncompared.now in
    let G = gone_text c in
    let L = unlooked_text c.unlooked in
    let V = moved_text c.moved c.list.now in
    let N = new_text c fs in
    let R = repaired_text c in
    let B = back_text c in
    let se = ended_short c h in
    let su = uncompared_short c.uncompared.now h.why in
    let sg = gone_short c h (λ k. first.0) in
    let sl = unlooked_short c.unlooked h.unlooked in
    let sv = moved_short c.moved c.list.now h.rewritten h.went_back h.newer h.list in
    let sn = new_short c fs h placed new_two in
    let sr = repaired_short c h (λ k. omega (arith, rest.0, two_some c.repaired_count k)) in
    let sb = back_short c h (λ k. omega (arith, rest.1, two_some c.back_count k)) in
    let joined = both ((((((E ++ U) ++ G) ++ L) ++ V) ++ N) ++ R) B in
    let split : line_count ((((((E ++ U) ++ G) ++ L) ++ V) ++ N) ++ R) ≡ line_count E + line_count U + line_count G + line_count L + line_count V + line_count N + line_count R =
    omega (arith, both (((((E ++ U) ++ G) ++ L) ++ V) ++ N) R, both ((((E ++ U) ++ G) ++ L) ++ V) N, both (((E ++ U) ++ G) ++ L) V, both ((E ++ U) ++ G) L, both (E ++ U) G, both E U) in
    all_of (line_count E) (line_count U) (line_count G) (line_count L) (line_count V) (line_count N) (line_count R) (line_count B) (word_lines c.whole) (why_lines c.uncompared.now)
    (one_unless (c.unlooked == 0)) (one_unless (is_unmoved c.moved)) (room_of_sections c) _ _ _ _ _ w y o refl se su sl sv sg sn sr sb sum (joined ∙ ap (λ k. k + line_count B) split)
