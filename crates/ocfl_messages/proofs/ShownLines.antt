-- The message of a night, put down part by part.
use Rattle.std.proofs.Common.{◌≡◌, ◌≢◌, ℕ, ◌-◌, ◌==◌, false, List, [], ◌++◌, length, ap, ap₂, ◌∙◌, append_assoc, arith}
use Rattle.std.proofs.lemmas.Bool.Decides.{nat_tests}
use Rattle.ocfl_tree.specs.Place.{Text}
use Rattle.ocfl_messages.specs.{Finding.{Finding}, Gravest.{by_weight, gravest}, Grouped.{fit_text, led_by, shown_leads, sorted}}
use Rattle.ocfl_messages.specs.{Night.{findings_command, findings_text, more_text, night_text, some_text}, declared.night.Night.{Night}}

-- the groups, and how many more there are
pub some_whole : (root report : Text) (room count : ℕ) (fs leads : List Finding) (t0 t1 t2 : Text) → leads ≡ shown_leads room fs
    → t1 ≡ t0 ++ fit_text root (sorted fs) room [] leads → t2 ≡ t1 ++ more_text findings_command report (count - length (led_by leads fs))
    → t2 ≡ t0 ++ some_text root room report count fs
some_whole root report room count fs leads t0 t1 t2 e h1 h2 =
    let F : List Finding → Text = λ ls. fit_text root (sorted fs) room [] ls in
    let M : List Finding → Text = λ ls. more_text findings_command report (count - length (led_by ls fs)) in
    h2 ∙ ap (λ t. t ++ M leads) h1 ∙ append_assoc t0 (F leads) (M leads) ∙ ap (λ ls. t0 ++ (F ls ++ M ls)) e

pub night_whole : (n : Night) (fs kept : List Finding) (count : ℕ) (t : Text) → count ≡ length (by_weight fs) → count ≢ 0 → kept ≡ gravest fs
    → t ≡ findings_text n count kept → t ≡ night_text n fs
night_whole n fs kept count t e some k h =
    let found : (length (by_weight fs) == 0) ≡ false = grind (arith, nat_tests) in
    let whole : t ≡ findings_text n (length (by_weight fs)) (gravest fs) = h ∙ ap₂ (λ c ls. findings_text n c ls) e k in
    rw found whole
