-- What a taker of changes has, first and then.
use Rattle.std.proofs.Common.{◌≡◌, List, ◌++◌, Option, sym, ap, subst, ◌∙◌, append_assoc}
use Rattle.std.proofs.lemmas.Grind.{flat_map-append}
use Rattle.std.specs.Io.KnownBytes.{Appends}
use Rattle.ocfl_tree.specs.Place.{Text}
use Rattle.ocfl_compare.specs.declared.change.ChangeAt.{ChangeAt}
use Rattle.ocfl_compare.specs.{Gone.{gone_text}, Seen.{Seen, change_in, changes_in}}
use Rattle.ocfl_compare.specs.Internal.Gones.{texts_joined}

pub changes_joined : (a b c : List ChangeAt) (first then : List Seen) → b ≡ a ++ changes_in first → c ≡ b ++ changes_in then → c ≡ a ++ changes_in (first ++ then)
changes_joined a b c first then p q =
    q ∙ ap (λ l. l ++ changes_in then) p ∙ append_assoc a (changes_in first) (changes_in then) ∙ ap (λ l. a ++ l) (sym (flat_map-append change_in first then))

pub rows_joined : (a b c : Option Text) (first then : List Seen) → Appends a b (gone_text (changes_in first)) → Appends b c (gone_text (changes_in then)) → Appends a c (gone_text (changes_in (first ++ then)))
rows_joined a b c first then p q = subst (λ cs. Appends a c (gone_text cs)) (sym (flat_map-append change_in first then)) (texts_joined a b c (changes_in first) (changes_in then) p q)
