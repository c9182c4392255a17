-- The columns of the last index of a configuration keep the limits.
use Rattle.std.proofs.Common.{◌≡◌, List, [], ◌∷◌, ◌++◌, All, length, length-append, arith, subst}
use Rattle.std.proofs.Math.Seq.{get_or-append_seam}
use Rattle.index_conf.specs.declared.conf.IndexConf.{IndexConf}
use Rattle.doc_types.specs.Schemas.{IsSchema}

pub last_columns : (indexes front : List IndexConf) (index : IndexConf) → All (λ index. IsSchema index.schema) indexes → indexes ≡ front ++ index ∷ [] → IsSchema index.schema
last_columns indexes front index all are =
    let each : All (λ (index : IndexConf). IsSchema index.schema) (front ++ index ∷ []) = subst (All (λ (index : IndexConf). IsSchema index.schema)) are all in
    subst (λ (index : IndexConf). IsSchema index.schema) (get_or-append_seam front index [] index) (each (length front) index (omega (arith, length-append front (index ∷ []))))
