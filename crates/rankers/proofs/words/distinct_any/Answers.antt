use Rattle.std.proofs.Common.{false}
use Rattle.std.proofs.lemmas.List.{get_or-replicate}
use Rattle.rankers.proofs.words.distinct_any.Goals as goal

pub distinct_by-requires-clause-none : goal.distinct_by-requires-clause-none
distinct_by-requires-clause-none c = λ k d h. get_or-replicate 65536 k false d h
