use Rattle.std.proofs.Common.{◌++◌, ◌∷◌, [], ◌∙◌, sym, ap, take, append-nil, append_assoc}
use Rattle.std.specs.Prelude.{flat_map, string_bytes}
use Rattle.std.proofs.lemmas.{Grind.{flat_map-append}, List.{take_more}}
use Rattle.ocfl_joining.specs.Saying.{left_line}
use Rattle.ocfl_joining.proofs.Sayings.{made_adds}
use Rattle.ocfl_joining.proofs.saying.add_place_lines.Goals as goal

pub loop-place-preserved : goal.loop-place-preserved
loop-place-preserved c =
    let ps = c.args.places.now in
    let i = c.loop-place.place-index in
    let p = c.place-item.result in
    let line = left_line c.args.number in
    let more = take_more ps i p c.loop-place-test.true ∙ ap (λ q. take i ps ++ q ∷ []) (sym c.place-item.is) in
    let lines = ap (flat_map line) more ∙ flat_map-append line (take i ps) (p ∷ []) ∙ ap (λ t. flat_map line (take i ps) ++ t) (append-nil (line p)) in
    made_adds string_bytes c.left_one.result (string_bytes c.add.new.text) (string_bytes c.loop-place.text) (line p) c.in_ok-add.ensures c.left_one.ensures
    ∙ ap (λ t. t ++ line p) c.loop-place.invariant
    ∙ append_assoc (string_bytes c.args.text.now) (flat_map line (take i ps)) (line p)
    ∙ ap (λ t. string_bytes c.args.text.now ++ t) (sym lines)
