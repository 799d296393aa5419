-- How many paths a list has, line by line.
use Rattle.std.proofs.Common.{◌≡◌, ◌≢◌, ◌⊎◌, inl, inr, ℕ, ◌+◌, ◌-◌, ◌^◌, ◌==◌, List, [], ◌∷◌, ◌++◌, Bool, true, false, Option, Some, None, All, IfSome, length, length-append, map, cond, refl, sym, ap, ◌∙◌, append_assoc, append-nil, arith}
use Rattle.std.proofs.lemmas.{Bool.{eqb-true, ne_eqb}, List.{map-append, Splits.{slice_split_at}}}
use Rattle.std.proofs.lemmas.List.Elements.{All-append, All-cons, All-nil, All-weaker}
use Rattle.std.specs.Prelude.{⊤, flat_map, min}
use Rattle.std.specs.Io.{BufRead.{take_through}, KnownBytes.{Consumes, IsAtEnd}}
use Rattle.ocfl_tree.specs.Place.{Text, Place}
use Rattle.ocfl_report.specs.Text.{place_text}
use Rattle.ocfl_report.proofs.Separators.{first_parts}
use Rattle.ocfl_compare.specs.Listed.{IsList, IsObjectPlace, listed_paths, path_in}

-- ---- the first line

-- a text has a line feed, and this is before the first one, and that behind it
record HasFeed (t : Text) : Type 0 where
  pub line : Text
  pub rest : Text
  pub is : t ≡ line ++ 10 ∷ rest
  pub plain : All (λ b. b ≢ 10) line
  pub through : take_through 10 t ≡ line ++ 10 ∷ []

-- or it has none
record HasNone (t : Text) : Type 0 where
  pub through : take_through 10 t ≡ t

first_feed : (t : Text) → HasFeed t ⊎ HasNone t
first_feed [] = inr (record { through = refl })
first_feed (x ∷ t) = by (x == 10) refl (first_feed t)
  where
    by : (z : Bool) → (x == 10) ≡ z → HasFeed t ⊎ HasNone t → HasFeed (x ∷ t) ⊎ HasNone (x ∷ t)
    by true e h =
        let same : x ≡ 10 = eqb-true x 10 e in
        inl (record {
          line = [];
          rest = t;
          is = ap (λ b. b ∷ t) same;
          plain = All-nil (λ b. b ≢ 10);
          through = ap (λ c. cond c (x ∷ []) (x ∷ take_through 10 t)) e ∙ ap (λ b. b ∷ []) same;
        })
    by false e (inl h) = inl (record {
      line = x ∷ h.line;
      rest = h.rest;
      is = ap (λ b. x ∷ b) h.is;
      plain = All-cons (λ b. b ≢ 10) x h.line (λ f. absurd (true_is_false (sym (is_ten f) ∙ e))) h.plain;
      through = ap (λ c. cond c (x ∷ []) (x ∷ take_through 10 t)) e ∙ ap (λ b. x ∷ b) h.through;
    })
      where
        true_is_false : true ≡ false → ⊥
        true_is_false e = cc

        is_ten : x ≡ 10 → (x == 10) ≡ true
        is_ten f = ap (λ y. y == 10) f
    by false e (inr h) = inr (record { through = ap (λ c. cond c (x ∷ []) (x ∷ take_through 10 t)) e ∙ ap (λ b. x ∷ b) h.through })

-- the paths of a line and of what follows it
listed_on : (line rest : Text) → All (λ b. b ≢ 10) line → listed_paths (line ++ 10 ∷ rest) ≡ path_in line ++ listed_paths rest
listed_on line rest plain =
    ap (flat_map path_in) (slice_split_at (λ c. c == 10) line 10 rest (All-weaker (λ b. b ≢ 10) (λ b. (b == 10) ≡ false) (λ b n. ne_eqb b 10 n) line plain) refl)

nothing_left : (t after : Text) → t ≡ t ++ after → after ≡ []
nothing_left [] after e = sym e
nothing_left (x ∷ t) after e = nothing_left t after cc

listed_split : (t after : Text) → t ≡ take_through 10 t ++ after → listed_paths t ≡ listed_paths (take_through 10 t) ++ listed_paths after
listed_split t after e = by (first_feed t)
  where
    by : HasFeed t ⊎ HasNone t → listed_paths t ≡ listed_paths (take_through 10 t) ++ listed_paths after
    by (inl h) =
        let whole : h.line ++ 10 ∷ h.rest ≡ h.line ++ 10 ∷ after = sym h.is ∙ e ∙ ap (λ x. x ++ after) h.through ∙ append_assoc h.line (10 ∷ []) after in
        let same : h.rest ≡ after = (first_parts 10 h.line h.line h.rest after h.plain h.plain whole).1 in
        let one : listed_paths (take_through 10 t) ≡ path_in h.line = ap listed_paths h.through ∙ listed_on h.line [] h.plain ∙ append-nil (path_in h.line) in
        ap listed_paths h.is ∙ listed_on h.line h.rest h.plain ∙ ap (λ r. path_in h.line ++ listed_paths r) same ∙ ap (λ ps. ps ++ listed_paths after) (sym one)
    by (inr h) =
        let none : after ≡ [] = nothing_left t after (e ∙ ap (λ x. x ++ after) h.through) in
        sym (append-nil (listed_paths t)) ∙ ap (λ x. listed_paths x ++ []) (sym h.through) ∙ ap (λ r. listed_paths (take_through 10 t) ++ listed_paths r) (sym none)

-- ---- lines so far

-- what is counted of some places: up to the greatest number that fits
abbrev pub IsNumber : ℕ → List Place → Type 0
IsNumber n ps = n ≡ min (length ps) (2 ^ 64 - 1)

-- the paths before what is left are those of so many places
abbrev pub AreCounted : Option Text → Option Text → ℕ → Type 0
AreCounted None left n = ⊤
AreCounted (Some b) None n = ⊥
AreCounted (Some b) (Some l) n = (ps : List Place) × (All IsObjectPlace ps × ((listed_paths b ≡ map place_text ps ++ listed_paths l) × IsNumber n ps))

pub none_counted : (start : Option Text) → AreCounted start start 0
none_counted None = tt
none_counted (Some b) = ([], (All-nil IsObjectPlace, (refl, refl)))

pub more_counted : (start left after : Option Text) (text line_text : Text) (n k m : ℕ) → AreCounted start left n → Consumes left after text → IfSome left (λ bytes. text ≡ take_through 10 bytes)
    → line_text ≡ text → (places : List Place) × (IsList line_text places × (k ≡ length places)) → m ≡ min (n + k) (2 ^ 64 - 1) → AreCounted start after m
more_counted None left after text line_text n k m h read line same more sum = tt
more_counted (Some b) None after text line_text n k m h read line same more sum = absurd h
more_counted (Some b) (Some l) None text line_text n k m h read line same more sum = absurd read
more_counted (Some b) (Some l) (Some a) text line_text n k m h read line same more sum =
    let ps = h.0 in
    let qs = more.0 in
    let list = more.1.0 in
    let split : listed_paths l ≡ listed_paths text ++ listed_paths a = listed_split l a (read ∙ ap (λ x. x ++ a) line) ∙ ap (λ x. listed_paths x ++ listed_paths a) (sym line) in
    let paths : listed_paths b ≡ map place_text (ps ++ qs) ++ listed_paths a =
    h.1.1.0 ∙ ap (λ x. map place_text ps ++ x) (split ∙ ap (λ x. x ++ listed_paths a) (ap listed_paths (sym same) ∙ list.is)) ∙ sym (append_assoc (map place_text ps) (map place_text qs) (listed_paths a))
    ∙ ap (λ x. x ++ listed_paths a) (sym (map-append place_text ps qs)) in
    let long : length (ps ++ qs) ≡ length ps + length qs = length-append ps qs in
    let before : n ≡ min (length ps) (2 ^ 64 - 1) = h.1.1.1 in
    let count : k ≡ length qs = more.1.1 in
    (ps ++ qs, (All-append IsObjectPlace ps qs h.1.0 list.places, (paths, omega (arith, long, before, count, sum))))

pub all_counted : (start left : Option Text) (n : ℕ) → AreCounted start left n → IsAtEnd left → IfSome start (λ bytes. (places : List Place) × (IsList bytes places × IsNumber n places))
all_counted None left n h end = tt
all_counted (Some b) None n h end = absurd h
all_counted (Some b) (Some l) n h end =
    (h.0, (record { places = h.1.0; is = h.1.1.0 ∙ ap (λ x. map place_text h.0 ++ listed_paths x) end ∙ append-nil (map place_text h.0) }, h.1.1.1))
