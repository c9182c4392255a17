use Rattle.std.proofs.Common.{◌∙◌, arith}
use Rattle.row_select.proofs.Values.{values_all, values_more}
use Rattle.doc_search.proofs.room.copy_values.Goals as goal

pub loop-attr-preserved : goal.loop-attr-preserved
loop-attr-preserved g c = λ doc here.
    c.in_ok-push.ensures.items
    ∙ values_more (g.C.Chunk.content c.args.chunk.now) c.args.number doc here c.loop-attr.attr c.value.result c.loop-attr.values.items c.value.ensures (c.loop-attr.invariant doc here)

pub returns : goal.returns
returns g c = λ doc here.
    values_all (g.C.Chunk.content c.args.chunk.now) c.args.number doc here c.loop-attr.attr c.loop-attr.values.items (omega (arith, c.requires.attrs doc here)) (c.loop-attr.invariant doc here)
