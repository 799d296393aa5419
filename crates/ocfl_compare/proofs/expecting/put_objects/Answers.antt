use Rattle.std.proofs.Common.{[], ◌∷◌, ◌++◌, All, ap, sym, subst, take, ◌∙◌, ◌≡◌, map}
use Rattle.std.proofs.lemmas.List.{take_more}
use Rattle.std.proofs.lemmas.List.Elements.{All-append, All-cons, All-nil}
use Rattle.ocfl_tree.specs.Name.{IsPlace}
use Rattle.ocfl_report.specs.Text.{lines_text}
use Rattle.ocfl_compare.specs.Internal.Listing.{as_object}
use Rattle.ocfl_compare.proofs.Listings.{text_more}
use Rattle.ocfl_compare.proofs.expecting.put_objects.Goals as goal

pub loop-place-preserved : goal.loop-place-preserved
loop-place-preserved c =
    let ps = c.args.places.now in
    let i = c.loop-place.place-index in
    let p = c.place-item.result in
    let more = take_more ps i p c.loop-place-test.true ∙ ap (λ y. take i ps ++ y ∷ []) (sym c.place-item.is) in
    record {
      text = subst (λ xs. c.put_object.new.text.items ≡ c.args.text.now.items ++ lines_text (map as_object xs)) (sym more)
          (text_more c.args.text.now.items c.loop-place.text.items c.put_object.new.text.items (take i ps) p c.loop-place.invariant.text c.in_ok-put_object.ensures.text);
      names = subst (All IsPlace) (sym more) (All-append IsPlace (take i ps) (p ∷ []) c.loop-place.invariant.names (All-cons IsPlace p [] c.in_ok-put_object.ensures.names (All-nil IsPlace)));
    }
