use Rattle.std.proofs.Common.{◌∙◌, sym}
use Rattle.std.specs.Option.{option_map}
use Rattle.ocfl_accounts.specs.Memory.{kept_by}
use Rattle.ocfl_accounts.proofs.Memories.{found_or_lost}
use Rattle.ocfl_accounts.proofs.held.find_in.Goals as goal

pub returns : goal.returns
returns c = λ accounts. found_or_lost (kept_by c.args.cycles.now (option_map (λ places. places.items) c.args.listed.now) accounts) c.args.pair.now c.find_all.result (sym c.is_lost.ensures ∙ c.if-is_lost.false) (c.find_all.ensures accounts)
