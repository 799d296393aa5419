-- How many lines the groups of a message have.
use Rattle.std.proofs.Common.{◌≡◌, ◌≢◌, ℕ, ◌+◌, ◌-◌, ◌<◌, ◌≤◌, ◌^◌, ◌==◌, List, [], ◌∷◌, ◌++◌, Bool, true, false, cond, All, length, take, drop, codes, decimal, refl, ap, ◌∙◌, nat_le, leb-true, length-append, flat_map, IsUtf8, arith}
use Rattle.std.proofs.lemmas.{Bool.Decides.{nat_tests}, List.{length-take}}
use Rattle.std.proofs.lemmas.List.Elements.{All-append, All-cons, All-drop, All-filter, All-head, All-nil, All-tail, All-take, filter-append}
use Rattle.std.specs.{Prelude.{IfSome, Option, Some, None, ◌&&◌, nat_lt, not}, List.{filter, list_any}}
use Rattle.ocfl_tree.specs.{Name.{IsName, IsPlace}, Path.{slashed}, Place.{Text, Place}}
use Rattle.ocfl_report.specs.{Line.{Line}, Text.{code_text, escape, place_text}, declared.code.Code.{Code}}
use Rattle.ocfl_report.specs.declared.code.Code.TheVariants.{Clean, E001, E003, E007, E015, E017, E018, E023, E024, E025, E033, E036, E041, E058, E060, E061, E063, E064, E069, E072, E073, E076, E080, E092, E093, E096, E097, E099, E100, E101, S01, S02, S03, S04, S05, S06, S07, S08, S09}
use Rattle.ocfl_report.proofs.{Bytes.{utf8_bytes}, CodeTexts.{code_text_printable}, Escapes.{escape_printable}, LineTexts.{no_line_feed}, Numbers.{decimal_no_line_feed}, PlaceTexts.{place_text_printable}, ReadPaths.{path_utf8}}
use Rattle.ocfl_codes.specs.{Inventories.{is_version_inventory}, Meaning.{meaning_at, meaning_of, version_meaning_of}}
use Rattle.ocfl_messages.specs.{Command.{is_plain, over_text, path_text}, Finding.{Finding, IsPlaced}, Quoted.{has_control, quoted, quoted_byte}}
use Rattle.ocfl_messages.specs.Grouped.{Sorted, below_text, brief_body, brief_finding, brief_head, brief_respelt, brief_text, count_with, first_with, fit_text, group_text, groups_text, inner_text, is_alone, is_beside, is_with, kept_of, lead_with, leads_after, leads_of, led_by, line_count, one_if, others_text, picked, respelt_of, respelt_words, shown_group, shown_leads, sorted}
use Rattle.ocfl_codes.specs.declared.weight.Weight.{Weight}
use Rattle.ocfl_codes.specs.declared.weight.Weight.TheVariants.{Bytes, Object, Record, Position}
use Rattle.ocfl_messages.specs.{Gravest.{by_weight, gravest, is_of_weight, most_kept, of_weight}, Many.{many_text, word_text}, declared.night.Night.{Night}}
use Rattle.ocfl_messages.specs.Night.{IsNamed, findings_command, tonight_text, hint_text, more_text, most_night_lines, night_text, room_of_groups, runs_text, whose_text}
use Rattle.ocfl_messages.specs.Wording.{at_space, coded_text, has_digests, is_missing, path_part, words_text}
use Rattle.ocfl_messages.proofs.Controls.{no_line_feeds, plain_has_none}

-- ---- texts without a line feed

pub both : (a b : Text) → line_count (a ++ b) ≡ line_count a + line_count b
both a b = ap length (filter-append (λ c. c == 10) a b) ∙ length-append (filter (λ c. c == 10) a) (filter (λ c. c == 10) b)

pub none : (t : Text) → All (λ b. b ≢ 10) t → line_count t ≡ 0
none [] h = refl
none (b ∷ t) h =
    let other : (b == 10) ≡ false = grind (arith, nat_tests, All-head (λ c. c ≢ 10) b t h) in
    rw other (none t (All-tail (λ c. c ≢ 10) b t h))

place_flat : (p : Place) → IsPlace p → line_count (place_text p) ≡ 0
place_flat p h = none (place_text p) (no_line_feed (place_text p) (place_text_printable p h))

code_flat : (c : Code) → line_count (code_text c) ≡ 0
code_flat c = none (code_text c) (no_line_feed (code_text c) (code_text_printable c))

plain_flat : (t : Text) → IsUtf8 t → is_plain t ≡ true → line_count t ≡ 0
plain_flat t u e = none t (no_line_feeds t u (plain_has_none t e))

pub path_flat : (p : Place) → IsPlace p → line_count (path_text p) ≡ 0
path_flat p h = by (is_plain (slashed p)) refl
  where
    by : (b : Bool) → is_plain (slashed p) ≡ b → line_count (cond b (slashed p) (place_text p)) ≡ 0
    by true e = plain_flat (slashed p) (path_utf8 p h) e
    by false e = place_flat p h

meaning_flat : (c : Code) → line_count (meaning_of c) ≡ 0
meaning_flat Clean = refl
meaning_flat E001 = refl
meaning_flat E003 = refl
meaning_flat E007 = refl
meaning_flat E015 = refl
meaning_flat E017 = refl
meaning_flat E018 = refl
meaning_flat E023 = refl
meaning_flat E024 = refl
meaning_flat E025 = refl
meaning_flat E033 = refl
meaning_flat E036 = refl
meaning_flat E041 = refl
meaning_flat E058 = refl
meaning_flat E060 = refl
meaning_flat E061 = refl
meaning_flat E063 = refl
meaning_flat E064 = refl
meaning_flat E069 = refl
meaning_flat E072 = refl
meaning_flat E073 = refl
meaning_flat E076 = refl
meaning_flat E080 = refl
meaning_flat E092 = refl
meaning_flat E093 = refl
meaning_flat E096 = refl
meaning_flat E097 = refl
meaning_flat E099 = refl
meaning_flat E100 = refl
meaning_flat E101 = refl
meaning_flat S01 = refl
meaning_flat S02 = refl
meaning_flat S03 = refl
meaning_flat S04 = refl
meaning_flat S05 = refl
meaning_flat S06 = refl
meaning_flat S07 = refl
meaning_flat S08 = refl
meaning_flat S09 = refl

version_flat : (c : Code) → line_count (version_meaning_of c) ≡ 0
version_flat E058 = refl
version_flat E060 = refl
version_flat E061 = refl
version_flat c = meaning_flat c

meaning_there_flat : (c : Code) (p : Place) → line_count (meaning_at c p) ≡ 0
meaning_there_flat c p = elim (is_version_inventory p) as (λ b. line_count (cond b (version_meaning_of c) (meaning_of c)) ≡ 0) [ true ↦ version_flat c | false ↦ meaning_flat c ]

words_flat : (l : Line) → line_count (words_text l) ≡ 0
words_flat l = elim (has_digests l.code && is_missing (at_space l.detail)) as (λ b. line_count (cond b (codes "missing") (meaning_at l.code l.place)) ≡ 0) [
  | true ↦ refl
  | false ↦ meaning_there_flat l.code l.place
]

pub coded_flat : (l : Line) → line_count (coded_text l) ≡ 0
coded_flat l =
    both ((words_text l ++ codes " (") ++ code_text l.code) (codes ")") ∙ ap (λ n. n + 0) (both (words_text l ++ codes " (") (code_text l.code))
    ∙ omega (arith, both (words_text l) (codes " ("), words_flat l, code_flat l.code)

pub part_flat : (t : Text) → line_count t ≡ 0 → line_count (path_part t) ≡ 0
part_flat [] e = refl
part_flat (b ∷ t) e = both (b ∷ t) (codes ": ") ∙ omega (arith, e)

others_flat : (n : ℕ) → n < 2 ^ 64 → line_count (others_text n) ≡ 0
others_flat n l = elim (n == 0) as (λ b. line_count (cond b [] ((codes ", and " ++ decimal n) ++ codes " more")) ≡ 0) [
  | true ↦ refl
  | false ↦
      both (codes ", and " ++ decimal n) (codes " more") ∙ omega (arith, both (codes ", and ") (decimal n), none (decimal n) (decimal_no_line_feed n (omega (arith, l))))
]

inner_flat : (p : Place) → IsPlace p → line_count (inner_text p) ≡ 0
inner_flat [] h = refl
inner_flat (n ∷ p) h = path_flat (n ∷ p) h

below_flat : (o : Option Place) (p : Place) → IsPlace p → line_count (below_text o p) ≡ 0
below_flat None p h = path_flat p h
below_flat (Some o) p h = inner_flat (drop (length o) p) (All-drop IsName (length o) p h)

head_flat : (f : Finding) → IsPlaced f → line_count (brief_head f.object) ≡ 0
head_flat f h = by f.object h.object
  where
    by : (o : Option Place) → IfSome o IsPlace → line_count (brief_head o) ≡ 0
    by None k = refl
    by (Some o) k = both (codes "Object " ++ path_text o) (codes ": ") ∙ omega (arith, both (codes "Object ") (path_text o), path_flat o k)

-- ---- groups

shorter : (p : Finding → Bool) (fs : List Finding) → length (filter p fs) ≤ length fs
shorter p [] = omega arith
shorter p (g ∷ fs) = elim (p g) as (λ b. length (cond b (g ∷ filter p fs) (filter p fs)) ≤ length (g ∷ fs)) [ true ↦ omega (arith, shorter p fs) | false ↦ omega (arith, shorter p fs) ]

fewer : (f : Finding) (fs : List Finding) → count_with f fs ≤ length fs
fewer f fs = shorter (is_with f) fs

finding_flat : (n : ℕ) (f : Finding) → n < 2 ^ 64 → IsPlaced f → line_count (brief_finding n f) ≡ 0
finding_flat n f l h =
    let P = path_part (below_text f.object f.line.place) in
    let C = coded_text f.line in
    both (P ++ C) (others_text (n - 1))
    ∙ omega (arith, both P C, part_flat (below_text f.object f.line.place) (below_flat f.object f.line.place h.place), coded_flat f.line, others_flat (n - 1) (omega (arith, l)))

respelt_flat : (n : ℕ) (f : Finding) → n < 2 ^ 64 → IsPlaced f → line_count (brief_respelt n f) ≡ 0
respelt_flat n f l h =
    let P = path_part (below_text f.object f.line.place) in
    both (P ++ respelt_words) (others_text (n - 2))
    ∙ omega (arith, both P respelt_words, part_flat (below_text f.object f.line.place) (below_flat f.object f.line.place h.place), others_flat (n - 2) (omega (arith, l)))

first_placed : (f : Finding) (fs : List Finding) → All IsPlaced fs → IfSome (first_with f fs) IsPlaced
first_placed f [] h = tt
first_placed f (g ∷ gs) h = elim (is_with f g) as (λ b. IfSome (cond b (Some g) (first_with f gs)) IsPlaced) [
  | true ↦ All-head IsPlaced g gs h
  | false ↦ first_placed f gs (All-tail IsPlaced g gs h)
]

body_flat : (n : ℕ) (f : Finding) (o : Option Finding) → n < 2 ^ 64 → IsPlaced f → IfSome o IsPlaced → line_count (brief_body n f o) ≡ 0
body_flat n f None l h k = respelt_flat n f l h
body_flat n f (Some g) l h k = finding_flat n g l k

-- few findings, and places that a store can have
record IsSorted (s : Sorted) : Type 0 where
  pub few : length s.all < 2 ^ 64
  pub placed : All IsPlaced s.alone

brief_one : (s : Sorted) (f : Finding) → IsSorted s → IsPlaced f → line_count (brief_text s f) ≡ 1
brief_one s f l h =
    let B = brief_body (count_with f s.all) f (first_with f s.alone) in
    both (brief_head f.object ++ B) (codes "\n")
    ∙ omega (arith, both (brief_head f.object) B, head_flat f h, body_flat (count_with f s.all) f (first_with f s.alone) (omega (arith, l.few, fewer f s.all)) h (first_placed f s.alone l.placed))

shown_fits : (root : Text) (s : Sorted) (before : List Finding) (f : Finding) (room behind : ℕ) → IsSorted s → IsPlaced f → behind + 1 ≤ room
    → line_count (shown_group root s room behind before f) ≤ room - behind
shown_fits root s before f room behind l h some = by (nat_le (line_count W) (room - behind)) refl
  where
    W : Text
    W = group_text root s before f

    by : (b : Bool) → nat_le (line_count W) (room - behind) ≡ b → line_count (cond b W (brief_text s f)) ≤ room - behind
    by true e = leb-true _ _ e
    by false e = omega (arith, brief_one s f l h, some)

fit_fits : (root : Text) (s : Sorted) (before leads : List Finding) (room : ℕ) → IsSorted s → All IsPlaced leads → length leads ≤ room
    → line_count (fit_text root s room before leads) ≤ room
fit_fits root s before [] room l h few = omega arith
fit_fits root s before (f ∷ rest) room l h few =
    let S = shown_group root s room (length rest) before f in
    let now = shown_fits root s before f room (length rest) l (All-head IsPlaced f rest h) (omega (arith, few)) in
    let then = fit_fits root s (before ++ f ∷ []) rest (room - line_count S) l (All-tail IsPlaced f rest h) (omega (arith, now, few)) in
    omega (arith, both S (fit_text root s (room - line_count S) (before ++ f ∷ []) rest), now, then, few)

leads_placed : (leads fs : List Finding) → All IsPlaced leads → All IsPlaced fs → All IsPlaced (leads_after leads fs)
leads_placed leads [] h k = h
leads_placed leads (f ∷ fs) h k = leads_placed (lead_with leads f) fs (by (list_any (is_with f) leads)) (All-tail IsPlaced f fs k)
  where
    by : (b : Bool) → All IsPlaced (cond b leads (leads ++ f ∷ []))
    by true = h
    by false = All-append IsPlaced leads (f ∷ []) h (All-cons IsPlaced f [] (All-head IsPlaced f fs k) (All-nil IsPlaced))

picked_placed : (is : List Finding → Finding → Bool) (seen fs : List Finding) → All IsPlaced fs → All IsPlaced (picked is seen fs)
picked_placed is seen [] h = h
picked_placed is seen (f ∷ fs) h = All-append IsPlaced (one_if (is seen f) f) (picked is (seen ++ f ∷ []) fs) (by (is seen f)) (picked_placed is (seen ++ f ∷ []) fs (All-tail IsPlaced f fs h))
  where
    by : (b : Bool) → All IsPlaced (one_if b f)
    by true = All-cons IsPlaced f [] (All-head IsPlaced f fs h) (All-nil IsPlaced)
    by false = All-nil IsPlaced

pub groups_fit : (root : Text) (fs : List Finding) (room : ℕ) → length fs < 2 ^ 64 → All IsPlaced fs → line_count (groups_text root room fs) ≤ room
groups_fit root fs room l h =
    let is_kept : Finding → Bool = λ f. not (is_beside (respelt_of fs) f) in
    let few : length (kept_of fs) < 2 ^ 64 = omega (arith, l, shorter is_kept fs) in
    let placed : All IsPlaced (kept_of fs) = All-filter is_kept IsPlaced fs h in
    fit_fits root (sorted fs) [] (take room (leads_of fs)) room (record { few = few; placed = picked_placed (is_alone (kept_of fs)) [] (kept_of fs) placed }) (All-take IsPlaced room (leads_of fs) (leads_placed [] fs (All-nil IsPlaced) h)) (omega (arith, length-take room (leads_of fs)))

-- ---- the message of a night

pub escape_flat : (t : Text) → IsUtf8 t → line_count (escape t) ≡ 0
escape_flat t h = none (escape t) (no_line_feed (escape t) (escape_printable t (utf8_bytes t h)))

pub digits_flat : (n : ℕ) → n < 2 ^ 64 → line_count (decimal n) ≡ 0
digits_flat n l = none (decimal n) (decimal_no_line_feed n (omega (arith, l)))

quotes_flat : (t : Text) → All (λ b. b ≢ 10) t → line_count (flat_map quoted_byte t) ≡ 0
quotes_flat [] h = refl
quotes_flat (b ∷ t) h =
    let other : (b == 10) ≡ false = grind (arith, nat_tests, All-head (λ c. c ≢ 10) b t h) in
    let rest = All-tail (λ c. c ≢ 10) b t h in
    let one : line_count (b ∷ []) ≡ 0 = rw other refl in
    let first : line_count (quoted_byte b) ≡ 0 = elim (b == 39) as (λ q. line_count (cond q (39 ∷ 92 ∷ 39 ∷ 39 ∷ []) (b ∷ [])) ≡ 0) [ true ↦ refl | false ↦ one ] in
    both (quoted_byte b) (flat_map quoted_byte t) ∙ omega (arith, first, quotes_flat t rest)

quoted_flat : (t : Text) → IsUtf8 t → has_control t ≡ false → line_count (quoted t) ≡ 0
quoted_flat t u e =
    let inner : line_count (flat_map quoted_byte t ++ 39 ∷ []) ≡ 0 = both (flat_map quoted_byte t) (39 ∷ []) ∙ omega (arith, quotes_flat t (no_line_feeds t u e)) in
    rw e inner

pub over_flat : (command file : Text) → line_count command ≡ 0 → IsUtf8 file → line_count (over_text command file) ≡ 0
over_flat command file plain h = by (has_control file) refl
  where
    by : (b : Bool) → has_control file ≡ b → line_count (cond b (escape file) ((command ++ codes " ") ++ quoted file)) ≡ 0
    by true e = escape_flat file h
    by false e = both (command ++ codes " ") (quoted file) ∙ omega (arith, both command (codes " "), plain, quoted_flat file h e)

pub more_short : (command file : Text) (n : ℕ) → line_count command ≡ 0 → IsUtf8 file → n < 2 ^ 64 → line_count (more_text command file n) ≤ 1
more_short command file n plain h l =
    let D = decimal n in
    let O = over_text command file in
    let some : line_count (((D ++ codes " not shown here: ") ++ O) ++ codes "\n") ≡ 1 =
    both ((D ++ codes " not shown here: ") ++ O) (codes "\n")
    ∙ omega (arith, both (D ++ codes " not shown here: ") O, both D (codes " not shown here: "), digits_flat n l, over_flat command file plain h) in
    elim (n == 0) as (λ b. line_count (cond b [] (((D ++ codes " not shown here: ") ++ O) ++ codes "\n")) ≤ 1) [ true ↦ omega arith | false ↦ omega (arith, some) ]

hint_short : (fs : List Finding) → line_count (hint_text fs) ≤ 1
hint_short fs = elim (nat_lt 1 (length (leads_of fs))) as (λ b. line_count (cond b (codes "What to do first about a code: ocfl-scrub codes\n") []) ≤ 1) [ true ↦ omega arith | false ↦ omega arith ]

pub many_flat : (n : ℕ) (one more : Text) → n < 2 ^ 64 → line_count one ≡ 0 → line_count more ≡ 0 → line_count (many_text n one more) ≡ 0
many_flat n one more l a b =
    let word : line_count (word_text (n == 1) one more) ≡ 0 = elim (n == 1) as (λ q. line_count (cond q one more) ≡ 0) [ true ↦ a | false ↦ b ] in
    both (decimal n ++ codes " ") (word_text (n == 1) one more) ∙ omega (arith, both (decimal n) (codes " "), digits_flat n l, word)

whose_flat : (part : Option ℕ) (root : Text) → IfSome part (λ k. k < 2 ^ 64) → IsUtf8 root → line_count (whose_text part root) ≡ 0
whose_flat None root l h = escape_flat root h
whose_flat (Some k) root l h =
    both ((codes "part " ++ decimal k) ++ codes " of ") (escape root)
    ∙ omega (arith, both (codes "part " ++ decimal k) (codes " of "), both (codes "part ") (decimal k), digits_flat k l, escape_flat root h)

runs_flat : (a b : ℕ) → a < 2 ^ 64 → b < 2 ^ 64 → line_count (runs_text a b) ≡ 0
runs_flat a b la lb =
    let one : line_count (codes "run " ++ decimal a) ≡ 0 = both (codes "run ") (decimal a) ∙ omega (arith, digits_flat a la) in
    let two : line_count (((codes "runs " ++ decimal a) ++ codes " to ") ++ decimal b) ≡ 0 =
    both ((codes "runs " ++ decimal a) ++ codes " to ") (decimal b)
    ∙ omega (arith, both (codes "runs " ++ decimal a) (codes " to "), both (codes "runs ") (decimal a), digits_flat a la, digits_flat b lb) in
    elim (a == b) as (λ q. line_count (cond q (codes "run " ++ decimal a) (((codes "runs " ++ decimal a) ++ codes " to ") ++ decimal b)) ≡ 0) [ true ↦ one | false ↦ two ]

head_one : (n : Night) (count : ℕ) → IsNamed n → count < 2 ^ 64 → line_count (tonight_text n count) ≡ 1
head_one n count h l =
    let M = many_text count (codes "finding") (codes "findings") in
    let W = whose_text n.part n.root.now in
    let D = decimal n.cycle in
    let R = runs_text n.first n.last in
    let A = M ++ codes " tonight in " in
    let B = (A ++ W) ++ codes ", cycle " in
    let C = (B ++ D) ++ codes ", " in
    both (C ++ R) (codes ":\n")
    ∙ omega (
      arith,
      both C R,
      both (B ++ D) (codes ", "),
      both B D,
      both (A ++ W) (codes ", cycle "),
      both A W,
      both M (codes " tonight in "),
      many_flat count (codes "finding") (codes "findings") l refl refl,
      whose_flat n.part n.root.now h.part h.root,
      digits_flat n.cycle h.cycle,
      runs_flat n.first n.last h.first h.last,
    )

pub gravest_placed : (fs : List Finding) → All IsPlaced fs → All IsPlaced (gravest fs)
gravest_placed fs h =
    let of : (w : Weight) → All IsPlaced (of_weight w fs) = λ w. All-filter (is_of_weight w) IsPlaced fs h in
    All-take IsPlaced most_kept (by_weight fs) (All-append IsPlaced ((of_weight Bytes fs ++ of_weight Object fs) ++ of_weight Record fs) (of_weight Position fs)
    (All-append IsPlaced (of_weight Bytes fs ++ of_weight Object fs) (of_weight Record fs) (All-append IsPlaced (of_weight Bytes fs) (of_weight Object fs) (of Bytes) (of Object)) (of Record)) (of Position))

pub night_is_short : (n : Night) (fs : List Finding) → IsNamed n → length (by_weight fs) < 2 ^ 64 → All IsPlaced fs → line_count (night_text n fs) ≤ most_night_lines
night_is_short n fs h l placed =
    let G = gravest fs in
    let count = length (by_weight fs) in
    let few : length G < 2 ^ 64 = omega (arith, length-take most_kept (by_weight fs)) in
    let H = tonight_text n count in
    let B = groups_text n.root.now room_of_groups G in
    let left = count - length (led_by (shown_leads room_of_groups G) G) in
    let M = more_text findings_command n.report.now left in
    let T = hint_text G in
    let some : line_count ((H ++ (B ++ M)) ++ T) ≤ most_night_lines =
    omega (
      arith,
      both (H ++ (B ++ M)) T,
      both H (B ++ M),
      both B M,
      head_one n count h l,
      groups_fit n.root.now G room_of_groups few (gravest_placed fs placed),
      more_short findings_command n.report.now left refl h.report (omega (arith, l)),
      hint_short G,
    ) in
    elim (count == 0) as (λ b. line_count (cond b [] ((H ++ (B ++ M)) ++ T)) ≤ most_night_lines) [ true ↦ omega arith | false ↦ some ]
