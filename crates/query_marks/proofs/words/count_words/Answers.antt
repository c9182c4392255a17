use Rattle.std.proofs.Common.{◌≡◌, ◌+◌, length, drop, ap, ◌∙◌, arith}
use Rattle.query_marks.specs.QueryWords.{runs_in}
use Rattle.query_marks.specs.steps.Runs.{one_or_none}
use Rattle.query_marks.proofs.RunSteps.{front, count_next, one_within}
use Rattle.query_marks.proofs.words.count_words.Goals as goal

pub runs-preserved : goal.runs-preserved
runs-preserved c =
    let rest = c.runs.rest.now in
    let one : c.one_if_any-count.result ≡ one_or_none (front rest) = c.one_if_any-count.ensures ∙ ap one_or_none c.run_len-len.ensures.len in
    let left : length (runs_in c.after_run-rest.result.now) ≡ length (runs_in (drop (front rest + 1) rest)) =
    ap (λ l. length (runs_in l)) c.after_run-rest.ensures.rest ∙ ap (λ n. length (runs_in (drop (n + 1) rest))) c.run_len-len.ensures.len in
    record {
      is = omega (arith, c.runs.invariant.is, count_next rest, one, left);
      within = omega (arith, c.runs.invariant.within, c.one_if_any-count.ensures, one_within c.run_len-len.result, c.run_len-len.ensures.within, c.after_run-rest.ensures.len);
    }
