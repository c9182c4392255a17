use Rattle.std.proofs.Common.{◌<◌, ◌^◌, All, arith, rules, subst}
use Rattle.doc_types.specs.declared.tokens.FieldTokens.{FieldTokens}
use Rattle.image_parts.specs.Images.{HasZones}
use Rattle.image_chunk.proofs.Building.{all_more, all_taken}
use Rattle.image_chunk.proofs.ram_chunk.zones_fit.Goals as goal

pub loop-row-preserved : goal.loop-row-preserved
loop-row-preserved c = all_more HasZones c.args.rows.now c.loop-row.row-index c.row-item.result (omega arith) (search rules) c.loop-row.invariant (record { fit = subst (All (λ (tokens : FieldTokens). All (λ span. span.zone < 2 ^ 16) tokens.spans)) c.as_slice.ensures c.fields_fit.ensures })

pub returns : goal.returns
returns c = all_taken HasZones c.args.rows.now c.loop-row.row-index (omega arith) c.loop-row.invariant
