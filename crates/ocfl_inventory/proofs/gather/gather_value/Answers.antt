use Rattle.std.proofs.Common.{rules, ◌≡◌, [], ◌∷◌, ◌++◌, sym, ap, ◌∙◌, map, cond, true, false, string_bytes}
use Rattle.std.proofs.{lemmas.List.{append-nil, map_push}, lemmas.Bool.{not-true, not-false}}
use Rattle.serde_json.specs.declared.value.Value.{the_lemmas}
use Rattle.ocfl_inventory.specs.{Internal.Gathered.{is_bad}, Internal.Parts.{text_in}}
use Rattle.ocfl_inventory.proofs.gather.gather_value.Goals as goal

pub returns-in_ok-push-in-Some : goal.returns-in_ok-push-in-Some
returns-in_ok-push-in-Some c =
    let seen : text_in c.args.value ≡ string_bytes c.in-String.text ∷ [] = rw c.in-String.is (search (rules, the_lemmas)) in
    let kept = rw c.in-Some.is at c.in_ok-path.ensures in
    let good : is_bad c.args.source.now.content.now c.as_str.result.now ≡ false = not-true _ kept.0 in
    let texts = map string_bytes c.args.found.now.bad.items in
    rw seen (record {
      triples = search rules;
      bad = sym (ap (λ b. texts ++ cond b (string_bytes c.in-String.text ∷ []) []) (ap (is_bad c.args.source.now.content.now) (sym c.as_str.ensures.value) ∙ good) ∙ append-nil texts);
    })

pub returns-in_ok-push-in-None : goal.returns-in_ok-push-in-None
returns-in_ok-push-in-None c =
    let seen : text_in c.args.value ≡ string_bytes c.in-String.text ∷ [] = rw c.in-String.is (search (rules, the_lemmas)) in
    let bad : is_bad c.args.source.now.content.now c.as_str.result.now ≡ true = not-false _ (rw c.in-None.is at c.in_ok-path.ensures) in
    let texts = map string_bytes c.args.found.now.bad.items in
    rw seen (record {
      triples = search rules;
      bad = ap (map string_bytes) c.in_ok-push-in-None.ensures.items ∙ map_push string_bytes c.args.found.now.bad.items c.in-String.text
          ∙ sym (ap (λ b. texts ++ cond b (string_bytes c.in-String.text ∷ []) []) (ap (is_bad c.args.source.now.content.now) (sym c.as_str.ensures.value) ∙ bad));
    })
