-- The first index of a configuration keeps the limits.
use Rattle.std.proofs.Common.{◌≡◌, List, ◌∷◌, All, arith, subst}
use Rattle.index_conf.specs.Soundness.{IsSound}
use Rattle.index_conf.specs.declared.conf.Conf.{Conf}
use Rattle.index_conf.specs.declared.conf.IndexConf.{IndexConf}
use Rattle.doc_types.specs.Schemas.{IsSchema}
use Rattle.eval_vectors.specs.steps.Reading.{IsSoundIndex}

first_holds : (P : IndexConf → Type 0) (indexes rest : List IndexConf) (index : IndexConf) → All P indexes → indexes ≡ index ∷ rest → P index
first_holds P indexes rest index all are =
    let each : All P (index ∷ rest) = subst (All P) are all in
    each 0 index (omega arith)

pub first_is_sound : (conf : Conf) (index : IndexConf) (rest : List IndexConf) → IsSound conf → conf.indexes ≡ index ∷ rest → IsSoundIndex index
first_is_sound conf index rest sound are = record {
  schema = first_holds (λ (index : IndexConf). IsSchema index.schema) conf.indexes rest index sound.schemas are;
  zones = first_holds (λ (index : IndexConf). index.rules.zones ≡ index.schema.zones) conf.indexes rest index sound.zones are;
}
