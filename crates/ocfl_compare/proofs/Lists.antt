-- The lines of a list, one by one.
use Rattle.std.proofs.Common.{◌≡◌, ◌≢◌, ◌⊎◌, inl, inr, ℕ, ◌+◌, ◌-◌, ◌<◌, List, [], ◌∷◌, ◌++◌, Bool, true, false, Option, Some, None, IfSome, length, All, map, refl, sym, ap, subst, ◌∙◌, append_assoc, append-nil, length-append, arith}
use Rattle.std.proofs.lemmas.{Bool.{or_right}, List.{same_from_push}, List.Concat.{flat_map-append}}
use Rattle.std.proofs.lemmas.List.Elements.{All-append}
use Rattle.std.specs.{Prelude.{⊤, cond, ◌==◌, ◌||◌, flat_map}, List.{onto_first}}
use Rattle.std.specs.{Io.BufRead.{take_through}, Io.KnownBytes.{Consumes}}
use Rattle.ocfl_tree.specs.{Place.{Text, Place}, Name.{IsPlace}}
use Rattle.ocfl_report.specs.Text.{place_text}
use Rattle.ocfl_report.proofs.PlaceTexts.{place_text_determines}
use Rattle.ocfl_compare.specs.Listed.{is_trimmed, trim_onto, trimmed, path_of, path_in, list_lines, IsObjectPlace, IsBadListLine, ListStopsRightly, max_lines}
use Rattle.ocfl_compare.specs.declared.listing.ListStop.{ListStop}
use Rattle.ocfl_compare.specs.declared.listing.ListStop.TheVariants.{Line, Long, Failed, Memory}

-- ---- trimming

trim_last : (t : Text) (b : ℕ) → is_trimmed b ≡ true → trimmed (t ++ b ∷ []) ≡ trimmed t
trim_last [] b e = ap (λ c. cond c [] (b ∷ [])) e
trim_last (c ∷ t) b e = ap (trim_onto c) (trim_last t b e)

-- ---- the first line

-- the first line of some bytes, the line feed aside, and what follows: further lines, or nothing
abbrev AreLinesOf : Text → Text → Text → Type 0
AreLinesOf b line after = (list_lines b ≡ line ∷ list_lines after) ⊎ ((after ≡ []) × ((list_lines b ≡ line ∷ []) × (line ≢ [])))

record Splits (b text after : Text) : Type 0 where
  pub line : Text
  pub same : trimmed text ≡ trimmed line
  pub lines : AreLinesOf b line after

tail_same : (x y : ℕ) (b c : Text) → x ∷ b ≡ y ∷ c → b ≡ c
tail_same x y b c e = cc

filled : (x : ℕ) (t : Text) → x ∷ t ≡ [] → ⊥
filled x t e = cc

onto : (x : ℕ) (b after line : Text) → AreLinesOf b line after
    → (onto_first x (list_lines b) ≡ (x ∷ line) ∷ list_lines after) ⊎ ((after ≡ []) × ((onto_first x (list_lines b) ≡ (x ∷ line) ∷ []) × (x ∷ line ≢ [])))
onto x b after line (inl h) = inl (ap (onto_first x) h)
onto x b after line (inr h) = inr (h.0, (ap (onto_first x) h.1.0, filled x line))

blank_end : (x : ℕ) (c : Bool) → cond (c || true) [] (x ∷ []) ≡ []
blank_end x c = ap (λ b. cond b [] (x ∷ [])) (or_right c true refl)

first : (b after : Text) → b ≡ take_through 10 b ++ after → b ≢ [] → Splits b (take_through 10 b) after
first [] after e some = absurd (some refl)
first (x ∷ []) after e some = by (x == 10) refl e
  where
    by : (z : Bool) → (x == 10) ≡ z → x ∷ [] ≡ cond z (x ∷ []) (x ∷ []) ++ after → Splits (x ∷ []) (cond z (x ∷ []) (x ∷ [])) after
    by true f g = record { line = []; same = ap (λ c. cond (x == 47 || c) [] (x ∷ [])) f ∙ blank_end x (x == 47); lines = inl (ap (λ c. cond c ([] ∷ ([] ∷ [])) ((x ∷ []) ∷ [])) f ∙ ap (λ t. [] ∷ list_lines t) (tail_same x x [] after g)) }
    by false f g = record { line = x ∷ []; same = refl; lines = inr (sym (tail_same x x [] after g), (ap (λ c. cond c ([] ∷ ([] ∷ [])) ((x ∷ []) ∷ [])) f, filled x [])) }
first (x ∷ y ∷ b) after e some = by (x == 10) refl e (λ g. first (y ∷ b) after g (λ h. cc))
  where
    by : (z : Bool) → (x == 10) ≡ z → x ∷ y ∷ b ≡ cond z (x ∷ []) (x ∷ take_through 10 (y ∷ b)) ++ after → (y ∷ b ≡ take_through 10 (y ∷ b) ++ after → Splits (y ∷ b) (take_through 10 (y ∷ b)) after)
        → Splits (x ∷ y ∷ b) (cond z (x ∷ []) (x ∷ take_through 10 (y ∷ b))) after
    by true f g k = record {
      line = [];
      same = ap (λ c. cond (x == 47 || c) [] (x ∷ [])) f ∙ blank_end x (x == 47);
      lines = inl (ap (λ c. cond c ([] ∷ list_lines (y ∷ b)) (onto_first x (list_lines (y ∷ b)))) f ∙ ap (λ t. [] ∷ list_lines t) (tail_same x x (y ∷ b) after g));
    }
    by false f g k =
        let rest = k (tail_same x x (y ∷ b) (take_through 10 (y ∷ b) ++ after) g) in
        record {
          line = x ∷ rest.line;
          same = ap (trim_onto x) rest.same;
          lines = subst (λ ls. (ls ≡ (x ∷ rest.line) ∷ list_lines after) ⊎ ((after ≡ []) × ((ls ≡ (x ∷ rest.line) ∷ []) × (x ∷ rest.line ≢ [])))) (sym (ap (λ c. cond c ([] ∷ list_lines (y ∷ b)) (onto_first x (list_lines (y ∷ b)))) f)) (onto x (y ∷ b) after rest.line rest.lines);
        }

-- ---- lines so far

-- the last of these lines is not empty
abbrev pub HasLast : List Text → Type 0
HasLast done = (before : List Text) × ((line : Text) × ((done ≡ before ++ line ∷ []) × (line ≢ [])))

-- these lines were read of all bytes, and what is left
abbrev pub AreRead : Text → Text → List Text → Type 0
AreRead b left done = (list_lines b ≡ done ++ list_lines left) ⊎ ((left ≡ []) × ((list_lines b ≡ done) × HasLast done))

pub record IsListed (b left : Text) (ps : List Place) (n : ℕ) : Type 0 where
  pub done : List Text
  pub read : AreRead b left done
  pub places : All IsObjectPlace ps
  pub paths : flat_map path_in done ≡ map place_text ps
  pub count : n ≡ length done + 1

lines_more : (b left after line : Text) (done : List Text) → left ≢ [] → AreRead b left done → AreLinesOf left line after → AreRead b after (done ++ line ∷ [])
lines_more b left after line done some (inr h) k = absurd (some h.0)
lines_more b left after line done some (inl h) (inl k) = inl (h ∙ ap (λ ls. done ++ ls) k ∙ sym (append_assoc done (line ∷ []) (list_lines after)))
lines_more b left after line done some (inl h) (inr k) = inr (k.0, (h ∙ ap (λ ls. done ++ ls) k.1.0, (done, (line, (refl, k.1.1)))))

line_stands : (b left after line : Text) (done : List Text) → left ≢ [] → AreRead b left done → AreLinesOf left line after → (rest : List Text) × (list_lines b ≡ done ++ line ∷ rest)
line_stands b left after line done some (inr h) k = absurd (some h.0)
line_stands b left after line done some (inl h) (inl k) = (list_lines after, h ∙ ap (λ ls. done ++ ls) k)
line_stands b left after line done some (inl h) (inr k) = ([], h ∙ ap (λ ls. done ++ ls) k.1.0)

map_more : (xs ys : List Place) → map place_text (xs ++ ys) ≡ map place_text xs ++ map place_text ys
map_more [] ys = refl
map_more (x ∷ xs) ys = ap (λ t. place_text x ∷ t) (map_more xs ys)

module _ (b left after text : Text) (ps : List Place) (n : ℕ) (h : IsListed b left ps n) (some : text ≢ []) (is_first : text ≡ take_through 10 left) (read : left ≡ text ++ after) where
  not_empty : left ≢ []
  not_empty e = some (is_first ∙ ap (take_through 10) e)

  split : Splits left (take_through 10 left) after
  split = first left after (read ∙ ap (λ t. t ++ after) is_first) not_empty

  path_is : path_in text ≡ path_in split.line
  path_is = ap path_in is_first ∙ ap path_of split.same

  pub listed_more : (more : List Place) (qs : List Place) (k : ℕ) → All IsObjectPlace more → qs ≡ ps ++ more → path_in text ≡ map place_text more → k ≡ n + 1 → IsListed b after qs k
  listed_more more qs k places e paths f = record {
    done = h.done ++ split.line ∷ [];
    read = lines_more b left after split.line h.done not_empty h.read split.lines;
    places = subst (All IsObjectPlace) (sym e) (All-append IsObjectPlace ps more h.places places);
    paths = flat_map-append path_in h.done (split.line ∷ []) ∙ (λ i. h.paths i ++ (append-nil (path_in split.line) ∙ sym path_is ∙ paths) i) ∙ sym (map_more ps more) ∙ ap (map place_text) (sym e);
    count = f ∙ ap (λ x. x + 1) (h.count ∙ sym (length-append h.done (split.line ∷ [])));
  }

  pub line_bad : (m : ℕ) → m ≡ n → path_in text ≢ [] → ((p : Place) → IsObjectPlace p → path_in text ≢ place_text p ∷ []) → IsBadListLine b m
  line_bad m e path bad =
      let stands = line_stands b left after split.line h.done not_empty h.read split.lines in
      record {
        before = h.done;
        line = split.line;
        rest = stands.0;
        listed = ps;
        is = stands.1;
        number = e ∙ h.count;
        places = h.places;
        paths = h.paths;
        some = λ z. path (path_is ∙ z);
        bad = λ p o z. bad p o (path_is ∙ z);
      }

-- ---- more lines than a list has

-- a list that is not empty has a last element
ended : (ls : List Text) (m : ℕ) → length ls ≡ m + 1 → (before : List Text) × ((line : Text) × ((ls ≡ before ++ line ∷ []) × (length before ≡ m)))
ended [] m e = absurd (omega (arith, e))
ended (l ∷ []) m e = ([], (l, (refl, omega (arith, e))))
ended (l ∷ k ∷ ls) m e =
    let shorter : length (k ∷ ls) ≡ (m - 1) + 1 = omega (arith, e) in
    let h = ended (k ∷ ls) (m - 1) shorter in
    let before : length h.0 ≡ m - 1 = h.1.1.1 in
    let long = e in
    (l ∷ h.0, (h.1.0, (ap (λ xs. l ∷ xs) h.1.1.0, omega (arith, before, long))))

split_some : (b : Text) → list_lines b ≢ []
split_some [] e = cc
split_some (x ∷ b) e = by (x == 10) e
  where
    onto_some : (ls : List Text) → onto_first x ls ≢ []
    onto_some [] f = cc
    onto_some (l ∷ ls) f = cc

    by : (z : Bool) → cond z ([] ∷ list_lines b) (onto_first x (list_lines b)) ≡ [] → ⊥
    by true f = cc
    by false f = onto_some (list_lines b) f

long : (b left : Text) (ps : List Place) (n m : ℕ) → IsListed b left ps n → n ≡ m + 2 → (before : List Text) × ((line : Text) × ((rest : List Text) × ((list_lines b ≡ before ++ line ∷ rest)
    × ((length before ≡ m) × ((line ≢ []) ⊎ (rest ≢ []))))))
long b left ps n m h e = by h.read
  where
    last : (before : List Text) × ((line : Text) × ((h.done ≡ before ++ line ∷ []) × (length before ≡ m)))
    last = let counted = h.count in ended h.done m (omega (arith, e, counted))

    by : AreRead b left h.done → (before : List Text) × ((line : Text) × ((rest : List Text) × ((list_lines b ≡ before ++ line ∷ rest) × ((length before ≡ m) × ((line ≢ []) ⊎ (rest ≢ []))))))
    by (inl k) = (last.0, (last.1.0, (list_lines left, (k ∙ ap (λ ls. ls ++ list_lines left) last.1.1.0 ∙ append_assoc last.0 (last.1.0 ∷ []) (list_lines left), (last.1.1.1, inr (split_some left))))))
    by (inr k) = (last.0, (last.1.0, ([], (k.1.0 ∙ last.1.1.0, (last.1.1.1, inl (λ z. k.1.1.1.1.1 ((same_from_push k.1.1.0 last.0 k.1.1.1.0 last.1.0 (sym k.1.1.1.1.0 ∙ last.1.1.0)).1 ∙ z)))))))

-- ---- of a reader's bytes, if they are known

abbrev pub KnownListed : Option Text → Option Text → List Place → ℕ → Type 0
KnownListed None left ps n = ⊤
KnownListed (Some b) None ps n = ⊥
KnownListed (Some b) (Some left) ps n = IsListed b left ps n

pub known_more : (all left after : Option Text) (text bytes : Text) (ps : List Place) (n : ℕ) → KnownListed all left ps n → text ≢ [] → IfSome left (λ xs. text ≡ take_through 10 xs)
    → Consumes left after text → bytes ≡ text → (qs : List Place) (k : ℕ)
    → (more : List Place) × (All IsObjectPlace more × ((qs ≡ ps ++ more) × (path_in bytes ≡ map place_text more))) → k ≡ n + 1 → KnownListed all after qs k
known_more None left after text bytes ps n h some line read e qs k m f = tt
known_more (Some b) None after text bytes ps n h some line read e qs k m f = absurd h
known_more (Some b) (Some left) None text bytes ps n h some line read e qs k m f = absurd read
known_more (Some b) (Some left) (Some after) text bytes ps n h some line read e qs k m f =
    listed_more b left after text ps n h some line read m.0 qs k m.1.0 m.1.1.0 (ap path_in (sym e) ∙ m.1.1.1) f

pub known_bad : (all left after : Option Text) (text bytes : Text) (ps : List Place) (n : ℕ) (stop : ListStop) → KnownListed all left ps n → text ≢ [] → IfSome left (λ xs. text ≡ take_through 10 xs)
    → Consumes left after text → bytes ≡ text
    → ((m : ℕ) → stop ≡ Line m → (m ≡ n) × ((path_in bytes ≢ []) × ((p : Place) → IsObjectPlace p → path_in bytes ≢ place_text p ∷ [])))
    → stop ≢ Long → IfSome all (λ b. ListStopsRightly b stop)
known_bad None left after text bytes ps n stop h some line read e bad short = tt
known_bad (Some b) None after text bytes ps n stop h some line read e bad short = absurd h
known_bad (Some b) (Some left) None text bytes ps n stop h some line read e bad short = absurd read
known_bad (Some b) (Some left) (Some after) text bytes ps n (Line m) h some line read e bad short =
    let k = bad m refl in
    line_bad b left after text ps n h some line read m k.0 (λ z. k.1.0 (ap path_in e ∙ z)) (λ p o z. k.1.1 p o (ap path_in e ∙ z))
known_bad (Some b) (Some left) (Some after) text bytes ps n Long h some line read e bad short = absurd (short refl)
known_bad (Some b) (Some left) (Some after) text bytes ps n Failed h some line read e bad short = tt
known_bad (Some b) (Some left) (Some after) text bytes ps n Memory h some line read e bad short = tt

pub known_long : (all left : Option Text) (ps : List Place) (n : ℕ) → KnownListed all left ps n → n ≡ max_lines + 2 → IfSome all (λ b. ListStopsRightly b Long)
known_long None left ps n h e = tt
known_long (Some b) None ps n h e = absurd h
known_long (Some b) (Some left) ps n h e =
    let k = long b left ps n max_lines h e in
    record { before = k.0; line = k.1.0; rest = k.1.1.0; is = k.1.1.1.0; many = k.1.1.1.1.0; some = k.1.1.1.1.1 }

-- ---- one line

some_path : (line path : Text) → path ≡ trimmed line → path_of path ≡ path ∷ [] → path_in line ≢ []
some_path line path e f z = let two : path ∷ [] ≡ [] = sym (ap path_of (sym e) ∙ f) ∙ z in cc

head_same : (x y : Text) → x ∷ [] ≡ y ∷ [] → x ≡ y
head_same x y e = cc

pub bad_path : (line path : Text) (k : ℕ) → path ≡ trimmed line → path_of path ≡ path ∷ [] → ((p : Place) → IsPlace p → path ≡ place_text p → p ≢ [] → ⊥)
    → (m : ℕ) → Line k ≡ Line m → (m ≡ k) × ((path_in line ≢ []) × ((p : Place) → IsObjectPlace p → path_in line ≢ place_text p ∷ []))
bad_path line path k e f bad m g = (same m g, (some_path line path e f, λ p o z. bad p o.names (head_same path (place_text p) (sym (ap path_of (sym e) ∙ f) ∙ z)) o.below))
  where
    same : (m : ℕ) → Line k ≡ Line m → m ≡ k
    same m g = cc

pub root_only : (path : Text) (p : Place) → IsPlace p → length p ≡ 0 → path ≡ place_text p → (q : Place) → IsPlace q → path ≡ place_text q → q ≢ [] → ⊥
root_only path p names none e q others f some = some (place_text_determines q p others names (sym f ∙ e) ∙ empty p none)
  where
    empty : (xs : Place) → length xs ≡ 0 → xs ≡ []
    empty [] h = refl
    empty (x ∷ xs) h = cc

-- ---- trimming, as the code does it

trim_none : (t : Text) (b : ℕ) → is_trimmed b ≡ false → trimmed (t ++ b ∷ []) ≡ t ++ b ∷ []
trim_none [] b e = ap (λ c. cond c [] (b ∷ [])) e
trim_none (c ∷ []) b e = ap (trim_onto c) (trim_none [] b e)
trim_none (c ∷ d ∷ t) b e = ap (trim_onto c) (trim_none (d ∷ t) b e)

pub end_off : (line rest : Text) (b : ℕ) (z : Bool) → line ≡ rest ++ b ∷ [] → z ≡ is_trimmed b → z ≡ true → trimmed line ≡ trimmed rest
end_off line rest b z e f g = ap trimmed e ∙ trim_last rest b (sym f ∙ g)

pub end_on : (line rest : Text) (b : ℕ) (z : Bool) → line ≡ rest ++ b ∷ [] → z ≡ is_trimmed b → z ≡ false → trimmed line ≡ line
end_on line rest b z e f g = ap trimmed e ∙ trim_none rest b (sym f ∙ g) ∙ sym e

pub shorter_by_one : (line rest : Text) (b : ℕ) → line ≡ rest ++ b ∷ [] → length rest < length line
shorter_by_one line rest b e = omega (arith, ap length e, length-append rest (b ∷ []))
