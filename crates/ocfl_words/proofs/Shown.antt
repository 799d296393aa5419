-- Lines in the order in which they are shown.
use Rattle.std.proofs.Common.{◌≡◌, ◌≤◌, ◌<◌, ◌+◌, ℕ, List, [], ◌∷◌, ◌++◌, Bool, true, false, cond, map, length, take, drop, get_or, refl, sym, ap, ◌∙◌, append_assoc, append-nil, arith}
use Rattle.std.proofs.lemmas.List.{drop_all, map-append, take_all, take_more}
use Rattle.ocfl_tree.proofs.Lists.{drop_item}
use Rattle.ocfl_report.specs.{Line.{Line, line_of}, declared.line.Line.{Line as MadeLine}}
use Rattle.ocfl_words.specs.{Counted.{most_shown}, Shown.{in_order, insert_shown, is_shown_before, ordered_onto}}
use Rattle.ocfl_words.proofs.Firsts.{take_grows, take_stays}

ordered_append : (shown xs ys : List Line) → ordered_onto shown (xs ++ ys) ≡ ordered_onto (ordered_onto shown xs) ys
ordered_append shown [] ys = refl
ordered_append shown (x ∷ xs) ys = ordered_append (insert_shown x shown) xs ys

length_insert : (l : Line) (ls : List Line) → length (insert_shown l ls) ≡ length ls + 1
length_insert l [] = refl
length_insert l (m ∷ ls) = by (is_shown_before l m) (length_insert l ls)
  where
    by : (b : Bool) → length (insert_shown l ls) ≡ length ls + 1 → length (cond b (l ∷ m ∷ ls) (m ∷ insert_shown l ls)) ≡ length (m ∷ ls) + 1
    by true rest = omega arith
    by false rest = omega (arith, rest)

length_ordered : (shown ls : List Line) → length (ordered_onto shown ls) ≡ length shown + length ls
length_ordered shown [] = omega arith
length_ordered shown (l ∷ ls) = omega (arith, length_ordered (insert_shown l shown) ls, length_insert l shown)

as_long : (n : ℕ) (shown ls : List Line) → shown ≡ in_order (take n ls) → length shown ≡ length (take n ls)
as_long n shown ls h = omega (arith, ap length h, length_ordered [] (take n ls))

-- one more behind fewer than are shown, and behind as many
pub shown_more : (shown ls : List Line) (l : Line) → length shown < most_shown → shown ≡ in_order (take most_shown ls) → insert_shown l shown ≡ in_order (take most_shown (ls ++ l ∷ []))
shown_more shown ls l few h =
    ap (insert_shown l) h ∙ sym (ordered_append [] (take most_shown ls) (l ∷ []))
    ∙ ap in_order (sym (take_grows most_shown ls l (omega (arith, few, as_long most_shown shown ls h))))

pub shown_full : (shown ls : List Line) (l : Line) → most_shown ≤ length shown → shown ≡ in_order (take most_shown ls) → shown ≡ in_order (take most_shown (ls ++ l ∷ []))
shown_full shown ls l full h = h ∙ ap in_order (sym (take_stays most_shown ls l (omega (arith, full, as_long most_shown shown ls h))))

-- ---- where a line comes

-- it comes among the lines from an index on
abbrev pub ComesFrom : Line → List MadeLine → ℕ → Type 0
ComesFrom l ms i = insert_shown l (map line_of ms) ≡ map line_of (take i ms) ++ insert_shown l (map line_of (drop i ms))

-- right at an index
abbrev pub ComesAt : Line → List MadeLine → ℕ → Type 0
ComesAt l ms i = insert_shown l (map line_of ms) ≡ map line_of (take i ms) ++ l ∷ map line_of (drop i ms)

pub comes_later : (l : Line) (ms : List MadeLine) (i : ℕ) (m : MadeLine) → i < length ms → m ≡ get_or ms i m → is_shown_before l (line_of m) ≡ false → ComesFrom l ms i → ComesFrom l ms (i + 1)
comes_later l ms i m within is after h =
    let front = map line_of (take i ms) in
    let rest = map line_of (drop (i + 1) ms) in
    let taken : take (i + 1) ms ≡ take i ms ++ m ∷ [] = take_more ms i m within ∙ ap (λ x. take i ms ++ x ∷ []) (sym is) in
    h ∙ ap (λ xs. front ++ insert_shown l (map line_of xs)) (drop_item ms i m within is)
    ∙ ap (λ b. front ++ cond b (l ∷ line_of m ∷ rest) (line_of m ∷ insert_shown l rest)) after
    ∙ sym (append_assoc front (line_of m ∷ []) (insert_shown l rest))
    ∙ ap (λ xs. xs ++ insert_shown l rest) (sym (map-append line_of (take i ms) (m ∷ [])) ∙ ap (map line_of) (sym taken))

pub comes_here : (l : Line) (ms : List MadeLine) (i : ℕ) (m : MadeLine) → i < length ms → m ≡ get_or ms i m → is_shown_before l (line_of m) ≡ true → ComesFrom l ms i → ComesAt l ms i
comes_here l ms i m within is before h =
    let front = map line_of (take i ms) in
    let rest = map line_of (drop (i + 1) ms) in
    h ∙ ap (λ xs. front ++ insert_shown l (map line_of xs)) (drop_item ms i m within is)
    ∙ ap (λ b. front ++ cond b (l ∷ line_of m ∷ rest) (line_of m ∷ insert_shown l rest)) before
    ∙ ap (λ xs. front ++ l ∷ map line_of xs) (sym (drop_item ms i m within is))

pub comes_last : (l : Line) (ms : List MadeLine) (i n : ℕ) → length ms ≤ i → length ms ≤ n → ComesFrom l ms i → ComesAt l ms n
comes_last l ms i n past end h =
    h ∙ ap (λ xs. map line_of (take i ms) ++ insert_shown l (map line_of xs)) (drop_all i ms past)
    ∙ ap (λ xs. map line_of xs ++ l ∷ []) (take_all i ms past ∙ sym (take_all n ms end))
    ∙ ap (λ xs. map line_of (take n ms) ++ l ∷ map line_of xs) (sym (drop_all n ms end))

pub inserted : (l : Line) (ms : List MadeLine) (i : ℕ) (m : MadeLine) → line_of m ≡ l → ComesAt l ms i → map line_of (take i ms ++ m ∷ drop i ms) ≡ insert_shown l (map line_of ms)
inserted l ms i m is h =
    map-append line_of (take i ms) (m ∷ drop i ms) ∙ ap (λ x. map line_of (take i ms) ++ x ∷ map line_of (drop i ms)) is ∙ sym h

-- ---- where nothing comes

pub shown_as_is : (shown ls : List Line) → shown ≡ in_order (take most_shown ls) → shown ≡ in_order (take most_shown (ls ++ []))
shown_as_is shown ls h = h ∙ ap (λ xs. in_order (take most_shown xs)) (sym (append-nil ls))
