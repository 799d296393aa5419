-- What is noted while two reports are compared is what is noted by all of their lines.
use Rattle.std.proofs.Common.{◌≡◌, List, [], ◌∷◌, ◌++◌, Bool, true, false, ◌&&◌, cond, Option, Some, None, All, map, inl, inr, refl, sym, ap, subst, ◌∙◌, append_assoc}
use Rattle.std.proofs.lemmas.Bool.{and_right}
use Rattle.std.proofs.lemmas.List.{map-append, Folds.{find-append}}
use Rattle.std.proofs.lemmas.List.Elements.{All-head, All-tail, All-weaker, filter_passes}
use Rattle.std.specs.{Prelude.{filter, flat_map, if◌then◌else◌, is_some}, List.{find}, Option.{option_or}}
use Rattle.std.specs.declared.cmp.Ordering.TheVariants.{Less}
use Rattle.ocfl_tree.specs.{Place.{Place, place_cmp, place_eq, text_eq}, Ascending.{IsAmong, IsAscending}}
use Rattle.ocfl_tree.proofs.Bools.{and_second}
use Rattle.ocfl_tree.proofs.Orders.{ascends_ascending, before_each, not_below_itself, place_cmp_total}
use Rattle.ocfl_tree.proofs.Places.{not_decided, place_eq-Decides, text_eq-Decides}
use Rattle.ocfl_report.specs.{Line.{Line, is_finding_code}, Text.{code_text}, declared.code.Code.{Code}}
use Rattle.ocfl_compare.specs.Changes.{change_at, changes_at, comparison, has_below, is_code, is_in_shut, is_left, lines_at, placed, places_of}
use Rattle.ocfl_compare.specs.Expected.{missing}
use Rattle.ocfl_compare.specs.Seen.{Seen, change, changes_in, changes_seen, line, shown}
use Rattle.ocfl_compare.specs.declared.{change.{Change.{Change}, ChangeAt.{ChangeAt}}, side.Side.{Side}, side.Side.TheVariants.{Before, Now}}
use Rattle.ocfl_compare.specs.declared.change.Change.TheVariants.{Gone, Undeclared, FileGone, Unlooked, Found, Repaired, Missing, Rewritten, WentBack, NewVersion}
use Rattle.ocfl_messages.specs.declared.known.KnownEntry.{KnownEntry}
use Rattle.ocfl_words.specs.Kept.{Kept, kept_seen, kept_with, none_kept, noted_from, with_finding}
use Rattle.ocfl_words.specs.Noted.{Noted, changes_of, first_at, is_finding_at, is_named, noted, noted_in}
use Rattle.ocfl_closed.specs.{Internal.Takes.{within}, Words.{no_finding}}

-- ---- the first finding of a code at a place

skipped : (p : Place) (code : Code) (l : Line) (ls : List Line) → is_finding_at p code l ≡ false → first_at p code (l ∷ ls) ≡ first_at p code ls
skipped p code l ls e = ap (λ b. cond b (Some l) (first_at p code ls)) e

elsewhere : (p : Place) (code : Code) (l : Line) → place_eq p l.place ≡ false → is_finding_at p code l ≡ false
elsewhere p code l e = ap (λ b. b && (is_finding_code l.code && is_code code l.code)) e

no_find : (p : Place) (code : Code) (l : Line) → is_finding_code l.code ≡ false → is_finding_at p code l ≡ false
no_find p code l e = and_right (place_eq p l.place) _ (ap (λ b. b && is_code code l.code) e)

or_none : {A : Type 0} (o : Option A) → o ≡ option_or o None
or_none None = refl
or_none (Some x) = refl

or_then : {A : Type 0} (o p q : Option A) → option_or (option_or o p) q ≡ option_or o (option_or p q)
or_then None p q = refl
or_then (Some x) p q = refl

-- it is the first among the lines of its place
own_lines : (p : Place) (code : Code) (ls : List Line) → first_at p code (lines_at p ls) ≡ first_at p code ls
own_lines p code [] = refl
own_lines p code (l ∷ ls) = by (place_eq p l.place) refl (own_lines p code ls)
  where
    by : (b : Bool) → place_eq p l.place ≡ b → first_at p code (lines_at p ls) ≡ first_at p code ls
        → first_at p code (cond b (l ∷ lines_at p ls) (lines_at p ls)) ≡ first_at p code (l ∷ ls)
    by true e rest = ap (λ o. cond (is_finding_at p code l) (Some l) o) rest
    by false e rest = rest ∙ sym (skipped p code l ls (elsewhere p code l e))

-- and there is none among those of another one
other_lines : (p q : Place) (code : Code) (ls : List Line) → place_eq q p ≡ false → first_at q code (lines_at p ls) ≡ None
other_lines p q code [] e = refl
other_lines p q code (l ∷ ls) e = by (place_eq p l.place) refl (other_lines p q code ls e)
  where
    by : (b : Bool) → place_eq p l.place ≡ b → first_at q code (lines_at p ls) ≡ None → first_at q code (cond b (l ∷ lines_at p ls) (lines_at p ls)) ≡ None
    by true f rest = skipped q code l (lines_at p ls) (elsewhere q code l (ap (place_eq q) (sym ((place_eq-Decides p l.place).0 f)) ∙ e)) ∙ rest
    by false f rest = rest

-- a code counts by its text
same_code : (p : Place) (c d : Code) (ls : List Line) → code_text c ≡ code_text d → first_at p c ls ≡ first_at p d ls
same_code p c d ls e = ap (λ t. find (λ l. place_eq p l.place && (is_finding_code l.code && text_eq t (code_text l.code))) ls) e

-- ---- among the lines that are kept

-- with one line more of its place
with_one : (p : Place) (code : Code) (kept : List Line) (l : Line) → p ≡ l.place → first_at p code (kept_with kept l) ≡ option_or (first_at p code kept) (first_at p code (l ∷ []))
with_one p code kept l here = by (is_finding_code l.code) refl
  where
    nothing : is_finding_at p code l ≡ false → first_at p code kept ≡ option_or (first_at p code kept) (first_at p code (l ∷ []))
    nothing e = or_none (first_at p code kept) ∙ ap (option_or (first_at p code kept)) (sym (skipped p code l [] e))

    same : (m : Line) → first_at l.place l.code kept ≡ Some m → (b : Bool) → is_finding_at p code l ≡ b → first_at p code kept ≡ option_or (first_at p code kept) (first_at p code (l ∷ []))
    same m e false f = nothing f
    same m e true f =
        let code_is : is_code code l.code ≡ true = and_second (is_finding_code l.code) (is_code code l.code) (and_second (place_eq p l.place) (is_finding_code l.code && is_code code l.code) f) in
        let there : first_at p code kept ≡ Some m =
        same_code p code l.code kept ((text_eq-Decides (code_text code) (code_text l.code)).0 code_is) ∙ ap (λ q. first_at q l.code kept) here ∙ e in
        subst (λ o. o ≡ option_or o (first_at p code (l ∷ []))) (sym there) refl

    kept_one : (o : Option Line) → first_at l.place l.code kept ≡ o
        → first_at p code (cond (is_some o) kept (lines_at l.place kept ++ l ∷ [])) ≡ option_or (first_at p code kept) (first_at p code (l ∷ []))
    kept_one (Some m) e = same m e (is_finding_at p code l) refl
    kept_one None e =
        find-append (is_finding_at p code) (lines_at l.place kept) (l ∷ [])
        ∙ ap (λ o. option_or o (first_at p code (l ∷ []))) (ap (λ q. first_at p code (lines_at q kept)) (sym here) ∙ own_lines p code kept)

    by : (b : Bool) → is_finding_code l.code ≡ b → first_at p code (cond b (with_finding kept l) kept) ≡ option_or (first_at p code kept) (first_at p code (l ∷ []))
    by false e = nothing (no_find p code l e)
    by true e = kept_one (first_at l.place l.code kept) refl

-- with one line more of another place
with_other : (q : Place) (code : Code) (kept : List Line) (l : Line) → place_eq q l.place ≡ false → first_at q code kept ≡ None → first_at q code (kept_with kept l) ≡ None
with_other q code kept l apart none = by (is_finding_code l.code)
  where
    kept_one : (o : Option Line) → first_at q code (cond (is_some o) kept (lines_at l.place kept ++ l ∷ [])) ≡ None
    kept_one (Some m) = none
    kept_one None =
        find-append (is_finding_at q code) (lines_at l.place kept) (l ∷ [])
        ∙ ap (λ o. option_or o (first_at q code (l ∷ []))) (other_lines l.place q code kept apart)
        ∙ skipped q code l [] (elsewhere q code l apart)

    by : (b : Bool) → first_at q code (cond b (with_finding kept l) kept) ≡ None
    by false = none
    by true = kept_one (first_at l.place l.code kept)

-- with all of these
abbrev pub kept_lines : List Line → List Line → List Line
kept_lines kept [] = kept
kept_lines kept (l ∷ ls) = kept_lines (kept_with kept l) ls

own_after : (p : Place) (code : Code) (kept ls : List Line) → All (λ l. p ≡ l.place) ls → first_at p code (kept_lines kept ls) ≡ option_or (first_at p code kept) (first_at p code ls)
own_after p code kept [] here = or_none (first_at p code kept)
own_after p code kept (l ∷ ls) here =
    own_after p code (kept_with kept l) ls (All-tail (λ m. p ≡ m.place) l ls here)
    ∙ ap (λ o. option_or o (first_at p code ls)) (with_one p code kept l (All-head (λ m. p ≡ m.place) l ls here))
    ∙ or_then (first_at p code kept) (first_at p code (l ∷ [])) (first_at p code ls)
    ∙ ap (option_or (first_at p code kept)) (sym (find-append (is_finding_at p code) (l ∷ []) ls))

other_after : (q : Place) (code : Code) (kept ls : List Line) → All (λ l. place_eq q l.place ≡ false) ls → first_at q code kept ≡ None → first_at q code (kept_lines kept ls) ≡ None
other_after q code kept [] apart none = none
other_after q code kept (l ∷ ls) apart none =
    other_after q code (kept_with kept l) ls (All-tail (λ m. place_eq q m.place ≡ false) l ls apart)
    (with_other q code kept l (All-head (λ m. place_eq q m.place ≡ false) l ls apart) none)

-- ---- along what is seen

abbrev pub lines_of : Side → List Line → List Seen
lines_of side ls = flat_map (λ l. line side l ∷ []) ls

abbrev pub said_in : List Place → List Line → List Line → Place → List Change
said_in left before now p = if is_left left p then [] else changes_at (is_in_shut before now p) (has_below p now) (lines_at p before) (lines_at p now)

-- of a place the lines of both reports, and then some changes
abbrev pub block : (Place → List Change) → List Line → List Line → Place → List Seen
block says before now p = lines_of Before (lines_at p before) ++ (lines_of Now (lines_at p now) ++ shown p (says p))

abbrev seen_in : List Place → List Line → List Line → Place → List Seen
seen_in left before now p = block (said_in left before now) before now p

-- all that is seen of two reports that are compared
abbrev pub all_compared : List Place → List Line → List Line → List Seen
all_compared left before now = flat_map (seen_in left before now) (places_of before now)

abbrev pub kept_of : List Line → List Line → Kept
kept_of b n = record { before = b; now = n }

noted_before : (known : List KnownEntry) (b n ls : List Line) (rest : List Seen) → noted_from known (kept_of b n) (lines_of Before ls ++ rest) ≡ noted_from known (kept_of (kept_lines b ls) n) rest
noted_before known b n [] rest = refl
noted_before known b n (l ∷ ls) rest = noted_before known (kept_with b l) n ls rest

noted_now : (known : List KnownEntry) (b n ls : List Line) (rest : List Seen) → noted_from known (kept_of b n) (lines_of Now ls ++ rest) ≡ noted_from known (kept_of b (kept_lines n ls)) rest
noted_now known b n [] rest = refl
noted_now known b n (l ∷ ls) rest = noted_now known b (kept_with n l) ls rest

abbrev pub noted_at : List KnownEntry → List Line → List Line → Place → List Change → List Noted
noted_at known b n p cs = map (λ c. noted_in known b n (change_at p c)) cs

noted_shown : (known : List KnownEntry) (b n : List Line) (p : Place) (cs : List Change) (rest : List Seen)
    → noted_from known (kept_of b n) (shown p cs ++ rest) ≡ noted_at known b n p cs ++ noted_from known (kept_of b n) rest
noted_shown known b n p [] rest = refl
noted_shown known b n p (c ∷ cs) rest = ap (λ ns. noted_in known b n (change_at p c) ∷ ns) (noted_shown known b n p cs rest)

-- it is noted by the first findings of the place alone
same_noted : (known : List KnownEntry) (b n before now : List Line) (p : Place) → ((code : Code) → first_at p code b ≡ first_at p code before) → ((code : Code) → first_at p code n ≡ first_at p code now)
    → (cs : List Change) → noted_at known b n p cs ≡ noted_at known before now p cs
same_noted known b n before now p was is [] = refl
same_noted known b n before now p was is (c ∷ cs) = λ i. one c i ∷ same_noted known b n before now p was is cs i
  where
    one : (c : Change) → noted_in known b n (change_at p c) ≡ noted_in known before now (change_at p c)
    one (Found code) = ap (λ o. noted (change_at p (Found code)) o (is_named known o)) (is code)
    one (Repaired code) = ap (λ o. noted (change_at p (Repaired code)) o false) (was code)
    one Gone = refl
    one Undeclared = refl
    one FileGone = refl
    one Unlooked = refl
    one Missing = refl
    one Rewritten = refl
    one WentBack = refl
    one NewVersion = refl

noted_placed : (known : List KnownEntry) (before now : List Line) (p : Place) (cs : List Change) → noted_at known before now p cs ≡ map (noted_in known before now) (placed p cs)
noted_placed known before now p [] = refl
noted_placed known before now p (c ∷ cs) = ap (λ ns. noted_in known before now (change_at p c) ∷ ns) (noted_placed known before now p cs)

-- no finding of these places is kept
abbrev AreFresh : List Place → List Line → Type 0
AreFresh ps kept = (p : Place) → IsAmong ps p → (code : Code) → first_at p code kept ≡ None

here_all : (p : Place) (ls : List Line) → All (λ l. p ≡ l.place) (lines_at p ls)
here_all p ls = All-weaker (λ (l : Line). place_eq p l.place ≡ true) (λ (l : Line). p ≡ l.place) (λ l e. (place_eq-Decides p l.place).0 e) (lines_at p ls) (filter_passes (λ (l : Line). place_eq p l.place) ls)

apart_all : (p q : Place) (ls : List Line) → place_cmp p q ≡ Less → All (λ l. place_eq q l.place ≡ false) (lines_at p ls)
apart_all p q ls less = All-weaker (λ (l : Line). p ≡ l.place) (λ (l : Line). place_eq q l.place ≡ false) (λ l e. ap (place_eq q) (sym e) ∙ other) (lines_at p ls) (here_all p ls)
  where
    other : place_eq q p ≡ false
    other = not_decided (place_eq q p) (q ≡ p) (place_eq-Decides q p) (λ e. not_below_itself place_cmp_total p (subst (λ x. place_cmp p x ≡ Less) e less))

own_kept : (p : Place) (ps : List Place) (kept ls : List Line) → AreFresh (p ∷ ps) kept → (code : Code) → first_at p code (kept_lines kept (lines_at p ls)) ≡ first_at p code ls
own_kept p ps kept ls fresh code =
    own_after p code kept (lines_at p ls) (here_all p ls)
    ∙ ap (λ o. option_or o (first_at p code (lines_at p ls))) (fresh p (inl refl) code)
    ∙ own_lines p code ls

still_fresh : (p : Place) (ps : List Place) (kept ls : List Line) → IsAscending place_cmp (p ∷ ps) → AreFresh (p ∷ ps) kept → AreFresh ps (kept_lines kept (lines_at p ls))
still_fresh p ps kept ls ascends fresh q among code =
    other_after q code kept (lines_at p ls) (apart_all p q ls (before_each place_cmp p ps ascends.0 q among)) (fresh q (inr among) code)

pub noted_block : (known : List KnownEntry) (says : Place → List Change) (before now : List Line) (p : Place) (b n : List Line) (rest : List Seen)
    → noted_from known (kept_of b n) (block says before now p ++ rest)
    ≡ noted_at known (kept_lines b (lines_at p before)) (kept_lines n (lines_at p now)) p (says p)
    ++ noted_from known (kept_of (kept_lines b (lines_at p before)) (kept_lines n (lines_at p now))) rest
noted_block known says before now p b n rest =
    let was = lines_of Before (lines_at p before) in
    let is = lines_of Now (lines_at p now) in
    ap (noted_from known (kept_of b n)) (append_assoc was (is ++ shown p (says p)) rest ∙ ap (λ s. was ++ s) (append_assoc is (shown p (says p)) rest))
    ∙ noted_before known b n (lines_at p before) (is ++ (shown p (says p) ++ rest))
    ∙ noted_now known (kept_lines b (lines_at p before)) n (lines_at p now) (shown p (says p) ++ rest)
    ∙ noted_shown known (kept_lines b (lines_at p before)) (kept_lines n (lines_at p now)) p (says p) rest

module _ (known : List KnownEntry) (left : List Place) (before now : List Line) where
  abbrev said : Place → List Change
  said p = said_in left before now p

  abbrev sights : List Place → List Seen
  sights ps = flat_map (seen_in left before now) ps

  all_noted : (ps : List Place) (b n : List Line) → IsAscending place_cmp ps → AreFresh ps b → AreFresh ps n
      → noted_from known (kept_of b n) (sights ps) ≡ map (noted_in known before now) (flat_map (λ p. placed p (said p)) ps)
  all_noted [] b n ascends was is = refl
  all_noted (p ∷ ps) b n ascends was is =
      let c = kept_lines b (lines_at p before) in
      let m = kept_lines n (lines_at p now) in
      let own : noted_at known c m p (said p) ≡ map (noted_in known before now) (placed p (said p)) =
      same_noted known c m before now p (own_kept p ps b before was) (own_kept p ps n now is) (said p) ∙ noted_placed known before now p (said p) in
      let rest = all_noted ps c m ascends.1 (still_fresh p ps b before ascends was) (still_fresh p ps n now ascends is) in
      noted_block known said before now p b n (sights ps) ∙ (λ i. own i ++ rest i) ∙ sym (map-append (noted_in known before now) (placed p (said p)) (flat_map (λ q. placed q (said q)) ps))

  -- by all lines of both reports
  pub noted_whole : noted_from known none_kept (all_compared left before now) ≡ map (noted_in known before now) (comparison left before now)
  noted_whole = all_noted (places_of before now) [] [] (ascends_ascending place_cmp_total (map (λ l. l.place) (before ++ now))) (λ p i code. refl) (λ p i code. refl)

-- ---- some of it

pub noted_within : (known : List KnownEntry) (k : Kept) (places : List Place) (seen : List Seen)
    → noted_from known k (within places seen) ≡ filter (λ n. is_left places n.at.place) (noted_from known k seen)
noted_within known k places [] = refl
noted_within known k places (line side l ∷ seen) = noted_within known (kept_seen k side l) places seen
noted_within known k places (change c ∷ seen) = by (is_left places c.place) (noted_within known k places seen)
  where
    n : Noted
    n = noted_in known k.before k.now c

    by : (b : Bool) → noted_from known k (within places seen) ≡ filter (λ n. is_left places n.at.place) (noted_from known k seen)
        → noted_from known k (cond b (change c ∷ within places seen) (within places seen)) ≡ cond b (n ∷ filter (λ n. is_left places n.at.place) (noted_from known k seen)) (filter (λ n. is_left places n.at.place) (noted_from known k seen))
    by true e = ap (λ ns. n ∷ ns) e
    by false e = e

pub noted_missing : (known : List KnownEntry) (k : Kept) (ps : List Place) → noted_from known k (changes_seen (map missing ps)) ≡ map no_finding (map missing ps)
noted_missing known k [] = refl
noted_missing known k (p ∷ ps) = ap (λ ns. no_finding (missing p) ∷ ns) (noted_missing known k ps)

-- ---- the changes that are noted

pub changes_noted : (known : List KnownEntry) (k : Kept) (seen : List Seen) → changes_of (noted_from known k seen) ≡ changes_in seen
changes_noted known k [] = refl
changes_noted known k (line side l ∷ seen) = changes_noted known (kept_seen k side l) seen
changes_noted known k (change c ∷ seen) = ap (λ cs. c ∷ cs) (changes_noted known k seen)

pub changes_of_noted : (known : List KnownEntry) (before now : List Line) (cs : List ChangeAt) → changes_of (map (noted_in known before now) cs) ≡ cs
changes_of_noted known before now [] = refl
changes_of_noted known before now (c ∷ cs) = ap (λ ds. c ∷ ds) (changes_of_noted known before now cs)

pub changes_of_no_findings : (cs : List ChangeAt) → changes_of (map no_finding cs) ≡ cs
changes_of_no_findings [] = refl
changes_of_no_findings (c ∷ cs) = ap (λ ds. c ∷ ds) (changes_of_no_findings cs)

pub changes_of_within : (places : List Place) (ns : List Noted) → changes_of (filter (λ n. is_left places n.at.place) ns) ≡ filter (λ c. is_left places c.place) (changes_of ns)
changes_of_within places [] = refl
changes_of_within places (n ∷ ns) = by (is_left places n.at.place) (changes_of_within places ns)
  where
    by : (b : Bool) → changes_of (filter (λ m. is_left places m.at.place) ns) ≡ filter (λ c. is_left places c.place) (changes_of ns)
        → changes_of (cond b (n ∷ filter (λ m. is_left places m.at.place) ns) (filter (λ m. is_left places m.at.place) ns))
        ≡ cond b (n.at ∷ filter (λ c. is_left places c.place) (changes_of ns)) (filter (λ c. is_left places c.place) (changes_of ns))
    by true e = ap (λ cs. n.at ∷ cs) e
    by false e = e

-- those that two reports show
pub changes_seen_all : (known : List KnownEntry) (left : List Place) (before now : List Line) → comparison left before now ≡ changes_in (all_compared left before now)
changes_seen_all known left before now =
    sym (changes_of_noted known before now (comparison left before now))
    ∙ ap changes_of (sym (noted_whole known left before now))
    ∙ changes_noted known none_kept (all_compared left before now)
