use Rattle.std.proofs.Common.{◌≡◌, ◌++◌, map, filter, string_bytes}
use Rattle.std.specs.Prelude.{not, is_some}
use Rattle.serde_json.specs.View.{members_view}
use Rattle.ocfl_digest.specs.Algorithm.{algorithm_named}
use Rattle.ocfl_inventory.specs.Reading.{keys_of}
use Rattle.ocfl_inventory.proofs.reading.unsupported_keys.Given as goal

abbrev pub invariant-loop-key : goal.invariant-loop-key
invariant-loop-key l = map string_bytes l.found.items ++ filter (λ k. not (is_some (algorithm_named k))) (keys_of (members_view l.key-iterator)) ≡ filter
    (λ k. not (is_some (algorithm_named k))) (keys_of (members_view l.members.entries))
