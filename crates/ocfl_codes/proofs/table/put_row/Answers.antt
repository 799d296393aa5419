use Rattle.std.proofs.Common.{◌≡◌, ℕ, refl, [], ◌∷◌, ◌++◌, ap, ◌∙◌, append_assoc}
use Rattle.ocfl_tree.specs.Place.{Text}
use Rattle.ocfl_codes.specs.Table.{kind_text, weight_text}
use Rattle.ocfl_codes.proofs.table.put_row.Goals as goal

cons_append : (x : ℕ) (xs ys : Text) → (x ∷ xs) ++ ys ≡ x ∷ (xs ++ ys)
cons_append x xs ys = refl

-- four columns with the tabs after them, and a last one
row : (t0 t1 t2 t3 t4 t5 t6 a b c d e : Text) → t1 ≡ t0 ++ a ++ 9 ∷ [] → t2 ≡ t1 ++ b ++ 9 ∷ [] → t3 ≡ t2 ++ c ++ 9 ∷ []
    → t4 ≡ t3 ++ d ++ 9 ∷ [] → t5 ≡ t4 ++ e → t6 ≡ t5 ++ 10 ∷ []
    → t6 ≡ t0 ++ (a ++ 9 ∷ b ++ 9 ∷ c ++ 9 ∷ d ++ 9 ∷ e ++ 10 ∷ [])
row t0 t1 t2 t3 t4 t5 t6 a b c d e h1 h2 h3 h4 h5 h6 =
    h6 ∙ ap (λ x. x ++ 10 ∷ []) (h5 ∙ ap (λ x. x ++ e) (h4 ∙ ap (λ x. x ++ d ++ 9 ∷ []) (h3 ∙ ap (λ x. x ++ c ++ 9 ∷ [])
    (h2 ∙ ap (λ x. x ++ b ++ 9 ∷ []) h1)))) ∙ simp (append_assoc, cons_append)

pub returns : goal.returns
returns c =
    let w = c.weight_text.ensures ∙ ap weight_text c.weigh.ensures in
    let k = c.kind_text.ensures ∙ ap kind_text c.kind_of.ensures in
    let last = c.in_ok-extend_from_slice.ensures.items ∙ ap (λ x. c.put_field-4.new.text.items ++ x) c.as_bytes.ensures.value in
    row _ _ _ _ _ _ _ _ _ _ _ _ c.in_ok-put_field.ensures c.in_ok-put_field-2.ensures c.in_ok-put_field-3.ensures c.in_ok-put_field-4.ensures last c.in_ok-push.ensures.items
    ∙ (λ i. c.args.text.now.items ++ (c.text.ensures i ++ 9 ∷ w i ++ 9 ∷ k i ++ 9 ∷ c.meaning.ensures i ++ 9 ∷ c.first_step.ensures i ++ 10 ∷ []))
