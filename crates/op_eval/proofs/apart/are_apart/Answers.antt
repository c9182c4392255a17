use Rattle.std.proofs.Common.{ap, ◌∙◌}
use Rattle.op_eval.specs.declared.joining.Join.{Join}
use Rattle.op_eval.specs.Finding.{node_finds}
use Rattle.op_eval.specs.steps.Evaluating.{join_by}
use Rattle.op_eval.proofs.FarWords.{words_apart}
use Rattle.op_eval.proofs.apart.are_apart.Goals as goal

pub returns-then-are_words : goal.returns-then-are_words
returns-then-are_words c = λ apart row number marks first second.
    let spans = c.args.spans.now in
    let words = c.are_words.ensures c.if-are_words.true in
    ap (λ (join : Join). join_by marks join (node_finds row number c.args.a.now spans).occurrences (node_finds row number c.args.b.now spans).occurrences) c.in-Near.is
    ∙ words_apart row number spans c.in-Near.n c.args.a.now c.args.b.now c.args.left.now c.args.right.now words.0 words.1 (c.are_words_apart.ensures apart) first second
