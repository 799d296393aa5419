-- Lists of findings that are gone through one by one.
use Rattle.std.proofs.Common.{◌≡◌, ℕ, ◌+◌, ◌-◌, ◌<◌, List, [], ◌∷◌, ◌++◌, Bool, true, false, cond, length, get_or, map, take, drop, filter, codes, refl, ap, sym, ◌∙◌, append_assoc, arith}
use Rattle.std.proofs.lemmas.List.{at_drop_more, drop-map, length-drop, length-map, map_more, take-map}
use Rattle.std.proofs.lemmas.List.Elements.{filter-append}
use Rattle.std.specs.{Prelude.{◌||◌, Option, Some, if◌then◌else◌}, List.{list_any}}
use Rattle.ocfl_tree.specs.Place.{Text}
use Rattle.ocfl_messages.specs.Finding.{Finding, finding_of}
use Rattle.ocfl_messages.specs.Grouped.{Sorted, each_text, first_with, fit_text, is_with, lead_with, leads_after, leads_of, led_by, line_count, one_if, one_step_text, picked, says_step, shown_group, step_of}
use Rattle.ocfl_messages.specs.declared.finding.Finding.{Finding as MadeFinding}

-- one more of a list
pub each_on : (one : List Finding → Finding → Text) (xs : List MadeFinding) (i : ℕ) (x : MadeFinding) (t0 t1 t : Text) → i < length xs → x ≡ get_or xs i x
    → t1 ≡ t0 ++ one (map finding_of (take i xs)) (finding_of x)
    → t0 ++ each_text one (take i (map finding_of xs)) (drop i (map finding_of xs)) ≡ t
    → t1 ++ each_text one (take (i + 1) (map finding_of xs)) (drop (i + 1) (map finding_of xs)) ≡ t
each_on one xs i x t0 t1 t l is h all =
    let S = map finding_of (take i xs) in
    let B = map finding_of (drop (i + 1) xs) in
    let rest : drop i (map finding_of xs) ≡ finding_of x ∷ B = drop-map finding_of i xs ∙ at_drop_more (map finding_of) xs i x l ∙ ap (λ y. finding_of y ∷ B) (sym is) in
    let before : take i (map finding_of xs) ≡ S = take-map finding_of i xs in
    let more : take (i + 1) (map finding_of xs) ≡ S ++ finding_of x ∷ [] = take-map finding_of (i + 1) xs ∙ map_more finding_of xs i x l ∙ ap (λ y. S ++ finding_of y ∷ []) (sym is) in
    let behind : drop (i + 1) (map finding_of xs) ≡ B = drop-map finding_of (i + 1) xs in
    (λ j. h j ++ each_text one (more j) (behind j))
    ∙ append_assoc t0 (one S (finding_of x)) (each_text one (S ++ finding_of x ∷ []) B)
    ∙ (λ j. t0 ++ each_text one (sym before j) (sym rest j)) ∙ all

-- a test of any of them
pub any_map : (p : Finding → Bool) (xs : List MadeFinding) → list_any p (map finding_of xs) ≡ list_any (λ x. p (finding_of x)) xs
any_map p [] = refl
any_map p (x ∷ xs) = ap (λ b. p (finding_of x) || b) (any_map p xs)

-- the first findings of groups, with one more of the list
after_more : (leads xs : List Finding) (f : Finding) → leads_after leads (xs ++ f ∷ []) ≡ lead_with (leads_after leads xs) f
after_more leads [] f = refl
after_more leads (x ∷ xs) f = after_more (lead_with leads x) xs f

pub leads_more : (xs : List MadeFinding) (i : ℕ) (x : MadeFinding) (old new : List Finding) → i < length xs → x ≡ get_or xs i x
    → new ≡ lead_with old (finding_of x) → old ≡ leads_of (map finding_of (take i xs)) → new ≡ leads_of (map finding_of (take (i + 1) xs))
leads_more xs i x old new l is step h =
    let S = map finding_of (take i xs) in
    step ∙ ap (λ fs. lead_with fs (finding_of x)) h
    ∙ sym (ap leads_of (map_more finding_of xs i x l ∙ ap (λ y. S ++ finding_of y ∷ []) (sym is)) ∙ after_more [] S (finding_of x))

-- those of a list that are taken, with one more
pub taken_more : (p : Finding → Bool) (xs : List MadeFinding) (i : ℕ) (x : MadeFinding) (t0 t1 : List Finding) → i < length xs → x ≡ get_or xs i x
    → t1 ≡ t0 ++ filter p (finding_of x ∷ []) → t0 ≡ filter p (map finding_of (take i xs)) → t1 ≡ filter p (map finding_of (take (i + 1) xs))
taken_more p xs i x t0 t1 l is e h =
    let S = map finding_of (take i xs) in
    e ∙ ap (λ fs. fs ++ filter p (finding_of x ∷ [])) h ∙ sym (filter-append p S (finding_of x ∷ []))
    ∙ ap (filter p) (sym (map_more finding_of xs i x l ∙ ap (λ y. S ++ finding_of y ∷ []) (sym is)))

-- one finding, if it is of one of these groups or not
pub led_one : (leads : List Finding) (f : Finding) → list_any (is_with f) leads ≡ true → led_by leads (f ∷ []) ≡ f ∷ []
led_one leads f e = rw e refl

pub led_none : (leads : List Finding) (f : Finding) → list_any (is_with f) leads ≡ false → led_by leads (f ∷ []) ≡ []
led_none leads f e = rw e refl

-- one more group
pub fit_on : (root : Text) (fs : Sorted) (xs : List MadeFinding) (i room left : ℕ) (x : MadeFinding) (t0 t1 t : Text) → i < length xs → x ≡ get_or xs i x
    → t1 ≡ t0 ++ shown_group root fs room (length xs - i - 1) (map finding_of (take i xs)) (finding_of x)
    → left ≡ room - line_count (shown_group root fs room (length xs - i - 1) (map finding_of (take i xs)) (finding_of x))
    → t0 ++ fit_text root fs room (take i (map finding_of xs)) (drop i (map finding_of xs)) ≡ t
    → t1 ++ fit_text root fs left (take (i + 1) (map finding_of xs)) (drop (i + 1) (map finding_of xs)) ≡ t
fit_on root fs xs i room left x t0 t1 t l is h e all =
    let S = map finding_of (take i xs) in
    let B = map finding_of (drop (i + 1) xs) in
    let rest : drop i (map finding_of xs) ≡ finding_of x ∷ B = drop-map finding_of i xs ∙ at_drop_more (map finding_of) xs i x l ∙ ap (λ y. finding_of y ∷ B) (sym is) in
    let before : take i (map finding_of xs) ≡ S = take-map finding_of i xs in
    let more : take (i + 1) (map finding_of xs) ≡ S ++ finding_of x ∷ [] = take-map finding_of (i + 1) xs ∙ map_more finding_of xs i x l ∙ ap (λ y. S ++ finding_of y ∷ []) (sym is) in
    let behind : drop (i + 1) (map finding_of xs) ≡ B = drop-map finding_of (i + 1) xs in
    let many : length xs - i - 1 ≡ length B = omega (arith, length-map (drop (i + 1) xs) finding_of, length-drop (i + 1) xs) in
    let G : ℕ → Text = λ n. shown_group root fs room n S (finding_of x) in
    (λ j. h j ++ fit_text root fs (e j) (more j) (behind j))
    ∙ ap (λ n. (t0 ++ G n) ++ fit_text root fs (room - line_count (G n)) (S ++ finding_of x ∷ []) B) many
    ∙ append_assoc t0 (G (length B)) (fit_text root fs (room - line_count (G (length B))) (S ++ finding_of x ∷ []) B)
    ∙ (λ j. t0 ++ fit_text root fs room (sym before j) (sym rest j)) ∙ all

-- those of a list that are picked, with one more
pub picked_on : (is : List Finding → Finding → Bool) (xs : List MadeFinding) (i : ℕ) (x : MadeFinding) (b : Bool) (t0 t1 t : List Finding) → i < length xs → x ≡ get_or xs i x
    → b ≡ is (map finding_of (take i xs)) (finding_of x) → t1 ≡ t0 ++ one_if b (finding_of x)
    → t0 ++ picked is (take i (map finding_of xs)) (drop i (map finding_of xs)) ≡ t
    → t1 ++ picked is (take (i + 1) (map finding_of xs)) (drop (i + 1) (map finding_of xs)) ≡ t
picked_on is xs i x b t0 t1 t l at e h all =
    let S = map finding_of (take i xs) in
    let B = map finding_of (drop (i + 1) xs) in
    let rest : drop i (map finding_of xs) ≡ finding_of x ∷ B = drop-map finding_of i xs ∙ at_drop_more (map finding_of) xs i x l ∙ ap (λ y. finding_of y ∷ B) (sym at) in
    let before : take i (map finding_of xs) ≡ S = take-map finding_of i xs in
    let more : take (i + 1) (map finding_of xs) ≡ S ++ finding_of x ∷ [] = take-map finding_of (i + 1) xs ∙ map_more finding_of xs i x l ∙ ap (λ y. S ++ finding_of y ∷ []) (sym at) in
    let behind : drop (i + 1) (map finding_of xs) ≡ B = drop-map finding_of (i + 1) xs in
    (λ j. (h ∙ ap (λ q. t0 ++ one_if q (finding_of x)) e) j ++ picked is (more j) (behind j))
    ∙ append_assoc t0 (one_if (is S (finding_of x)) (finding_of x)) (picked is (S ++ finding_of x ∷ []) B)
    ∙ (λ j. t0 ++ picked is (sym before j) (sym rest j)) ∙ all

-- what to do first, if one before has said so or not
pub step_seen : (alone before : List Finding) (g : Finding) → list_any (says_step alone g) before ≡ true → one_step_text alone before g ≡ []
step_seen alone before g e = rw e refl

pub step_new : (alone before : List Finding) (g : Finding) → list_any (says_step alone g) before ≡ false
    → one_step_text alone before g ≡ codes "\tTo do: " ++ step_of g ++ codes "\n"
step_new alone before g e = rw e refl

-- the first of a list that is of a group, from here on
first_on : (f : Finding) (xs : List MadeFinding) (i : ℕ) (x : MadeFinding) → i < length xs → x ≡ get_or xs i x
    → first_with f (drop i (map finding_of xs)) ≡ (if is_with f (finding_of x) then Some (finding_of x) else first_with f (drop (i + 1) (map finding_of xs)))
first_on f xs i x l is =
    ap (first_with f) (drop-map finding_of i xs ∙ at_drop_more (map finding_of) xs i x l ∙ ap (λ y. finding_of y ∷ map finding_of (drop (i + 1) xs)) (sym is))
    ∙ ap (λ t. cond (is_with f (finding_of x)) (Some (finding_of x)) (first_with f t)) (sym (drop-map finding_of (i + 1) xs))

pub first_here : (f : Finding) (xs : List MadeFinding) (i : ℕ) (x : MadeFinding) (t : Option Finding) → i < length xs → x ≡ get_or xs i x → is_with f (finding_of x) ≡ true
    → first_with f (drop i (map finding_of xs)) ≡ t → Some (finding_of x) ≡ t
first_here f xs i x t l is e all =
    sym (first_on f xs i x l is ∙ ap (λ b. cond b (Some (finding_of x)) (first_with f (drop (i + 1) (map finding_of xs)))) e) ∙ all

pub first_later : (f : Finding) (xs : List MadeFinding) (i : ℕ) (x : MadeFinding) (t : Option Finding) → i < length xs → x ≡ get_or xs i x → is_with f (finding_of x) ≡ false
    → first_with f (drop i (map finding_of xs)) ≡ t → first_with f (drop (i + 1) (map finding_of xs)) ≡ t
first_later f xs i x t l is e all =
    sym (first_on f xs i x l is ∙ ap (λ b. cond b (Some (finding_of x)) (first_with f (drop (i + 1) (map finding_of xs)))) e) ∙ all

-- the first findings of groups, if one of the group of another finding is there or not
pub lead_seen : (leads : List Finding) (f : Finding) → list_any (is_with f) leads ≡ true → lead_with leads f ≡ leads
lead_seen leads f e = rw e refl

pub lead_new : (leads : List Finding) (f : Finding) → list_any (is_with f) leads ≡ false → lead_with leads f ≡ leads ++ f ∷ []
lead_new leads f e = rw e refl
