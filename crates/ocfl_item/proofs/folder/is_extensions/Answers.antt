use Rattle.std.proofs.Common.{◌≡◌, [], ◌∷◌, ◌∙◌, Bool, ap, false, length, refl, rules}
use Rattle.std.specs.Prelude.{◌&&◌, codes, nat_eq}
use Rattle.ocfl_tree.specs.Place.{Place, Text, text_eq}
use Rattle.ocfl_item.specs.Ways.{is_extensions_name}
use Rattle.ocfl_item.proofs.folder.is_extensions.Goals as goal

extensions_by : (d : Place) (n : Text) → nat_eq (length d) 0 && text_eq n (codes "extensions") ≡ is_extensions_name d n
extensions_by [] n = refl
extensions_by (m ∷ d) n =
    let deeper : nat_eq (length (m ∷ d)) 0 ≡ false = search rules in
    ap (λ (b : Bool). b && text_eq n (codes "extensions")) deeper

pub returns : goal.returns
returns c = c.names_extensions.ensures ∙ ap (λ k. nat_eq k 0 && text_eq c.args.name.now (codes "extensions")) c.depth.ensures ∙ extensions_by c.args.folder.now.place c.args.name.now
