use Rattle.std.proofs.Common.{rules, ◌≡◌, ◌==◌, ℕ, false, map, sym, subst}
use Rattle.std.specs.List.{AllByRecursion}
use Rattle.snap_share.specs.Tokens.{TokenValue}
use Rattle.snap_share.specs.Closings.{WorkersDiffer}
use Rattle.share_vectors.proofs.Differ.{none_differ, one_more_differs}
use Rattle.share_vectors.proofs.commits.+workers_differ.Goals as goal

pub returns-in-None : goal.returns-in-None
returns-in-None g t c = λ yes. none_differ c.args.tokens.now c.in-None.ensures.cases

pub returns-then-has_none : goal.returns-then-has_none
returns-then-has_none g t c = λ yes.
    subst WorkersDiffer (sym c.in-Some.ensures.cases.0)
    (one_more_differs c.in-Some.token.now c.in-Some.others.now
    (subst (λ (own : ℕ). AllByRecursion (λ (worker : ℕ). (own == worker) ≡ false) (map (λ (other : TokenValue). other.worker) c.in-Some.others.now)) c.worker.ensures (c.has_none.ensures (search rules)))
    (c.workers_differ.ensures yes))
