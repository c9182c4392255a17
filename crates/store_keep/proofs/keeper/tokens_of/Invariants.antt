use Rattle.std.proofs.Common.{◌≡◌}
use Rattle.store_keep.specs.Names.{first_tokens}
use Rattle.store_keep.proofs.keeper.tokens_of.Given as goal

abbrev pub invariant-loop-count : goal.invariant-loop-count
invariant-loop-count g l = l.tokens.items ≡ first_tokens l.line.index l.count
