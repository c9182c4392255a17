use Rattle.std.proofs.Common.{length}
use Rattle.store_keep.proofs.closing.+tell_all.Given as goal

-- proposed from what the function passes where it calls itself
abbrev pub decreases-tell_all : goal.decreases-tell_all
decreases-tell_all g l = length l.tokens.now
