use Rattle.std.proofs.Common.{map}
use Rattle.occ_lists.proofs.Following.{Followed, spots}
use Rattle.occ_lists.proofs.runs.put_runs.Given as goal

-- the keywords so far follow each other up to what is left
abbrev pub invariant-loop-term : goal.invariant-loop-term
invariant-loop-term l = Followed l.initial.ends.items (map (spots l.spans) l.rest) l.term-index l.ends.items
