use Rattle.std.proofs.Common.{◌<◌, length, ◌∙◌, arith}
use Rattle.ql_answers.specs.Transactions.{put_by}
use Rattle.ql_answers.proofs.Putting.{amid_last, amid_more}
use Rattle.ql_answers.proofs.writing.put_all.Goals as goal

pub ops-preserved : goal.ops-preserved
ops-preserved c =
    let low : c.ops.op-index < length c.ops.ops = omega (arith, c.ops.auto.ops, c.ops-test.true) in
    amid_more put_by c.args.ops.now c.ops.ops c.ops.op-index c.op-item.result c.put.new.op low c.ops.invariant c.put.ensures

pub returns : goal.returns
returns c = c.ops.invariant ∙ amid_last put_by c.args.ops.now c.ops.op-index (omega (arith, c.ops-test.false))
