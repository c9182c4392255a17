use Rattle.std.proofs.Common.{length}
use Rattle.store_keep.proofs.keeper.Keeper.+first_stray.Given as goal

-- proposed from what the function passes where it calls itself
abbrev pub decreases-first_stray : goal.decreases-first_stray
decreases-first_stray g l = length l.tokens.now
