use Rattle.std.proofs.Common.{true}
use Rattle.std.specs.Prelude.{flat_map}
use Rattle.ocfl_inventory.specs.{Table.{triples_of}, Internal.Parts.{supported_view}}
use Rattle.ocfl_inventory.specs.Internal.Gathered.{Gathers, bad_texts}
use Rattle.ocfl_inventory.proofs.gather.gather_fixity.Given as goal

abbrev pub invariant-loop-supported : goal.invariant-loop-supported
invariant-loop-supported l = Gathers l.initial.found l.found
    (flat_map (λ e. triples_of true l.content e.0 e.1) (supported_view l.yielded))
    (flat_map (λ e. bad_texts l.content e.1) (supported_view l.yielded))
