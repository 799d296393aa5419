-- Which reasons are kept.
use Rattle.std.proofs.Common.{◌≡◌, ◌<◌, ◌++◌, ◌∙◌, [], ◌∷◌, List, Bool, true, false, Option, Some, None, Bor, inl, inr, sym, refl, ap, length, string_bytes, option_map, is_some, if◌then◌else◌}
use Rattle.std.proofs.lemmas.Bool.{false≢true}
use Rattle.ocfl_tree.specs.Place.{Place, Text}
use Rattle.ocfl_files.specs.Reasons.{Keeps, words_on}
use Rattle.ocfl_files.specs.declared.reasons.Reason.{Reason}

-- where nothing was found, there are no words
pub not_found : (found : Option (Bor Text)) (words : Option Text) → option_map (λ w. w.now) found ≡ words → is_some found ≡ false → words ≡ None
not_found None words e h = sym e
not_found (Some w) words e h = absurd (false≢true (sym h))

-- a reason is pushed, if there is memory
pub kept_more : (p : Place) (words : Option Text) (old new : List Reason) (r : Reason) (ok : Bool) → length old < 1000 → words_on old p ≡ None → r.place ≡ p → words ≡ Some (string_bytes r.words) → new ≡ (if ok then old ++ r ∷ [] else old)
    → Keeps p words old new
kept_more p words old new r true room first place said e = inr (record { reason = r; room = room; first = first; place = place; said = said; is = e })
kept_more p words old new r false room first place said e = inl e
