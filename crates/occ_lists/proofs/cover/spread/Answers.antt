use Rattle.std.proofs.Common.{arith}
use Rattle.occ_lists.proofs.Spreading.{spreading_none, spreading_more, spreading_all}
use Rattle.occ_lists.proofs.cover.spread.Goals as goal

pub loop-at-init : goal.loop-at-init
loop-at-init c = spreading_none c.args.list.now.items

pub loop-at-preserved : goal.loop-at-preserved
loop-at-preserved c =
    spreading_more c.args.list.now.items c.loop-at.list.items c.loop-at.at c.index.result.now c.index-in-loop-at.result.now c.reaching.result c.loop-at.invariant c.loop-at.auto.at (omega (arith, c.loop-at.list.ok.0, c.args.list.now.ok.0)) c.index.ensures c.index-in-loop-at.ensures c.reaching.ensures

pub returns : goal.returns
returns c = spreading_all c.args.list.now.items c.loop-at.list.items c.loop-at.at c.loop-at.invariant (omega (arith, c.loop-at.list.ok.0, c.args.list.now.ok.0))
