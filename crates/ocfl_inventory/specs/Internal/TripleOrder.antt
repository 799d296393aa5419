-- The order of triples is total.
use Rattle.std.specs.Cmp.{IsTotalOrder, bool_cmp_total}
use Rattle.std.specs.Cmp.Lexicographic.{nat_list_cmp_total, lists_total}
use Rattle.std.proofs.lemmas.Cmp.{then_total, on_total}
use Rattle.ocfl_digest.specs.Algorithm.{algorithm_name}
use Rattle.ocfl_inventory.specs.Table.{named_cmp, triple_cmp}

pub named_total : IsTotalOrder named_cmp
named_total = then_total (on_total (λ n. n.fixity) bool_cmp_total) (then_total (on_total (λ n. algorithm_name n.algorithm) nat_list_cmp_total) (on_total (λ n. n.digest) nat_list_cmp_total))

pub triple_total : IsTotalOrder triple_cmp
triple_total = then_total (on_total (λ e. e.path) (lists_total nat_list_cmp_total)) (on_total (λ e. e.named) named_total)
