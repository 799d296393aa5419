-- The text of a closing, put down section by section.
use Rattle.std.proofs.Common.{◌≡◌, ◌≢◌, ℕ, ◌-◌, ◌==◌, Bool, false, cond, List, [], ◌++◌, ap, sym, ◌∙◌, append_assoc, arith}
use Rattle.std.proofs.lemmas.Bool.Decides.{nat_tests}
use Rattle.ocfl_tree.specs.Place.{Text}
use Rattle.ocfl_messages.specs.{Closing.{new_head, new_room, new_text, section_text, unsaid_text}, Finding.{Finding}, Gravest.{gravest}, Night.{more_text}}
use Rattle.ocfl_messages.specs.declared.closing.Closing.{Closing}

other : (b : Bool) (x y : Text) → b ≡ false → y ≡ cond b x y
other b x y e = ap (λ d. cond d x y) (sym e)

-- the line before what is new, and what follows it
pub new_whole : (c : Closing) (fs kept : List Finding) (t0 t1 t2 : Text) → c.appeared_count ≢ 0 → kept ≡ gravest fs
    → t1 ≡ t0 ++ new_head c → t2 ≡ t1 ++ unsaid_text (new_room c) (c.appeared_count - c.said) kept c.root.now c.report.now → t2 ≡ t0 ++ new_text c fs
new_whole c fs kept t0 t1 t2 some k e h =
    let U : List Finding → Text = λ ls. unsaid_text (new_room c) (c.appeared_count - c.said) ls c.root.now c.report.now in
    let found : (c.appeared_count == 0) ≡ false = grind (arith, nat_tests) in
    h ∙ ap (λ t. t ++ U kept) e ∙ append_assoc t0 (new_head c) (U kept) ∙ ap (λ ls. t0 ++ (new_head c ++ U ls)) k
    ∙ ap (λ t. t0 ++ t) (other (c.appeared_count == 0) [] (new_head c ++ U (gravest fs)) found)

-- a line, what is shown, and how many more there are
pub section_whole : (count : ℕ) (head shown command file : Text) (left : ℕ) (t0 t1 t2 t3 : Text) → count ≢ 0
    → t1 ≡ t0 ++ head → t2 ≡ t1 ++ shown → t3 ≡ t2 ++ more_text command file left → t3 ≡ t0 ++ section_text count head shown command file left
section_whole count head shown command file left t0 t1 t2 t3 some e1 e2 e3 =
    let M = more_text command file left in
    let found : (count == 0) ≡ false = grind (arith, nat_tests) in
    let whole : t3 ≡ t0 ++ ((head ++ shown) ++ M) =
    e3 ∙ ap (λ t. t ++ M) (e2 ∙ ap (λ t. t ++ shown) e1) ∙ ap (λ t. t ++ M) (append_assoc t0 head shown) ∙ append_assoc t0 (head ++ shown) M in
    rw found whole
