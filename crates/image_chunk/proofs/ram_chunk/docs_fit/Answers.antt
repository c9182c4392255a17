use Rattle.std.proofs.Common.{◌<◌, ◌^◌, ◌≤◌, All, arith, length, map, rules, subst}
use Rattle.std.proofs.lemmas.List.{length-map}
use Rattle.doc_types.specs.declared.tokens.FieldTokens.{FieldTokens}
use Rattle.image_parts.specs.Images.{HasZones}
use Rattle.image_write.specs.Written.{row_of}
use Rattle.image_chunk.proofs.Building.{all_mapped, all_taken}
use Rattle.image_chunk.proofs.ram_chunk.docs_fit.Goals as goal

pub loop-doc-preserved : goal.loop-doc-preserved
loop-doc-preserved c =
    all_mapped HasZones (λ doc. row_of doc.now c.args.number) c.args.docs.now c.loop-doc.doc-index c.doc-item.result (omega arith) (search rules) c.loop-doc.invariant
    (record { fit = subst (All (λ (tokens : FieldTokens). All (λ span. span.zone < 2 ^ 16) tokens.spans)) c.as_slice.ensures c.fields_fit.ensures })

pub returns : goal.returns
returns c =
    let rows = map (λ doc. row_of doc.now c.args.number) c.args.docs.now in
    let past : length rows ≤ c.loop-doc.doc-index = omega (arith, length-map c.args.docs.now (λ doc. row_of doc.now c.args.number)) in
    all_taken HasZones rows c.loop-doc.doc-index past c.loop-doc.invariant
