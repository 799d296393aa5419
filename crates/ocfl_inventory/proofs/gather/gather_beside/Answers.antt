use Rattle.std.proofs.Common.{List, String, Global, IsPermutation, ap, ◌∙◌, ◌++◌, map, subst, string_bytes}
use Rattle.std.specs.Prelude.{flat_map}
use Rattle.ocfl_inventory.specs.{Internal.Gathered.{bad_texts}, Internal.Parts.{supported_view}}
use Rattle.ocfl_inventory.specs.Table.{Triple}
use Rattle.ocfl_inventory.proofs.gather.gather_beside.Goals as goal

pub returns-clause-triples : goal.returns-clause-triples
returns-clause-triples c = subst (λ (ts : List Triple). IsPermutation ts c.sort.new.triples.items) c.in_ok-gather_fixity.ensures.triples c.in_ok-sort.ensures.permutation

pub returns-clause-sorted : goal.returns-clause-sorted
returns-clause-sorted c = c.in_ok-sort.ensures.sorted

pub returns-clause-bad : goal.returns-clause-bad
returns-clause-bad c =
    c.in_ok-gather_fixity.ensures.bad
    ∙ ap (λ (ts : List (String Global)). map string_bytes ts ++ flat_map (λ e. bad_texts c.args.content.now e.1) (supported_view c.args.fixity.items)) c.new.ensures.items
