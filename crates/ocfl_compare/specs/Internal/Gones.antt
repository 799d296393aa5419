-- The text of a list of what is gone, joined.
use Rattle.std.proofs.Common.{List, ◌++◌, Option, sym, subst}
use Rattle.std.proofs.{KnownBytes.{Appends-trans}, lemmas.List.Concat.{flat_map-append}}
use Rattle.std.specs.Io.KnownBytes.{Appends}
use Rattle.ocfl_tree.specs.Place.{Text}
use Rattle.ocfl_compare.specs.declared.change.ChangeAt.{ChangeAt}
use Rattle.ocfl_compare.specs.Gone.{gone_row, gone_text}

pub texts_joined : (a b c : Option Text) (first then : List ChangeAt) → Appends a b (gone_text first) → Appends b c (gone_text then) → Appends a c (gone_text (first ++ then))
texts_joined a b c first then p q = subst (Appends a c) (sym (flat_map-append gone_row first then)) (Appends-trans a b c (gone_text first) (gone_text then) p q)
