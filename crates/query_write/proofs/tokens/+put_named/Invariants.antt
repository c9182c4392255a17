use Rattle.std.proofs.Common.{length}
use Rattle.query_write.proofs.tokens.+put_named.Given as goal

abbrev pub decreases-put_named : goal.decreases-put_named
decreases-put_named l = length l.names.now
