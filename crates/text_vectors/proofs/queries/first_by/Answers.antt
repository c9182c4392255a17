use Rattle.std.proofs.Common.{All, List, sym, subst, ◌∙◌, arith}
use Rattle.doc_types.specs.Schemas.{IsSchema}
use Rattle.index_conf.specs.declared.conf.IndexConf.{IndexConf}
use Rattle.text_vectors.proofs.queries.first_by.Goals as goal

pub first_of-requires : goal.first_of-requires
first_of-requires c =
    let each = subst (λ (list : List IndexConf). All (λ index. IsSchema index.schema) list) (sym c.as_slice.ensures ∙ c.in-Some.ensures.cases.0) c.requires.schemas in
    each 0 c.in-Some.index.now (omega arith)
