-- What a commit makes of a store.
use Rattle.std.proofs.Common.{◌≡◌, ◌<◌, ◌+◌, ℕ, List, [], ◌∷◌, ◌++◌, false, map, length, take, drop, refl, sym, ap, subst, ◌∙◌, arith, All, length-append}
use Rattle.std.specs.FinMap as finite
use Rattle.std.specs.List.{filter}
use Rattle.std.proofs.lemmas.List.{get_or-append-add}
use Rattle.std.proofs.lemmas.List.Elements.{All-append, All-cons, All-filter, All-head, All-drop, All-map, All-nil, All-take}
use Rattle.std.proofs.lemmas.List.Sorted.{All-permutation}
use Rattle.doc_types.specs.declared.documents.DocRow.{DocRow}
use Rattle.doc_types.specs.declared.schema.Schema.{Schema}
use Rattle.doc_types.specs.declared.transactions.TxnOp.{TxnOp}
use Rattle.doc_types.specs.Documents.{AreRowsOf, IsDocOf}
use Rattle.doc_types.specs.Snapshots.{AreLayers, IsLayer, LayerValue, SnapshotValue, all_living, live}
use Rattle.doc_types.specs.Transactions.{IsOpOf}
use Rattle.doc_types.proofs.Changes.{accepted}
use Rattle.commit_outcomes.specs.declared.outcome.TheConstants.{MAX_DOCUMENTS}
use Rattle.commit_outcomes.specs.Outcomes.{Accepts}
use Rattle.layer_commit.specs.Commits.{Applies, ArePut, is_kept, layer_after, layers_of}
use Rattle.layer_commit.proofs.Layered.{put_of}
use Rattle.layer_joins.specs.Joins.{AreOfOne, Joins, MayMerge}
use Rattle.layer_joins.proofs.Kept.{of_joined}
use Rattle.layer_joins.proofs.Livings.{docs_of}
use Rattle.layer_joins.proofs.Upkeep.{live_joined}
use Rattle.doc_vectors.specs.steps.Stores.{IsStore}

-- the documents of a store are of its columns
pub of_store : (schema : Schema) (layers : List LayerValue) → IsStore schema layers → AreOfOne (all_living layers)
of_store schema layers store = record { schema = schema; limits = store.limits; docs = docs_of schema layers store.rows }

rows_of_put : (schema : Schema) (put : List DocRow) → AreRowsOf schema put → All (λ layer. AreRowsOf schema layer.rows) (layers_of put)
rows_of_put schema [] are = All-nil (λ (layer : LayerValue). AreRowsOf schema layer.rows)
rows_of_put schema (row ∷ rows) are = All-cons (λ (layer : LayerValue). AreRowsOf schema layer.rows) (record { rows = row ∷ rows; disk = false; dead = [] }) [] are (All-nil (λ (layer : LayerValue). AreRowsOf schema layer.rows))

-- a store after a commit is a store
pub store_committed : (schema : Schema) (limit : ℕ) (ops : List TxnOp) (old : SnapshotValue) (removed : ℕ) (new : SnapshotValue) → IsStore schema old.layers → All (IsOpOf schema) ops → Applies limit ops old removed new → IsStore schema new.layers
store_committed schema limit ops old removed new store of applies =
    let put : AreRowsOf schema applies.put =
    put_of schema new.number ops applies.put (subst (λ changes. ArePut new.number changes applies.put) (accepted (λ id. finite.contains_key (live old) id) ops applies.changes removed applies.verdict) applies.are_put) of in
    subst (IsStore schema) (sym applies.layers) (record {
      limits = store.limits;
      rows =
          All-append (λ (layer : LayerValue). AreRowsOf schema layer.rows) (filter is_kept (map (layer_after applies.changes) old.layers)) (layers_of applies.put)
          (All-filter is_kept (λ (layer : LayerValue). AreRowsOf schema layer.rows) (map (layer_after applies.changes) old.layers) (All-map (λ (layer : LayerValue). AreRowsOf schema layer.rows) (layer_after applies.changes) old.layers (λ k d h. store.rows k d h)))
          (rows_of_put schema applies.put put);
    })

-- a store whose last layers were put together is a store
pub store_joined : (schema : Schema) (old new : List LayerValue) → IsStore schema old → AreLayers new → Joins old new → IsStore schema new
store_joined schema old new store are joins =
    subst (IsStore schema) (sym joins.layers) (record {
      limits = store.limits;
      rows = subst (All (λ layer. AreRowsOf schema layer.rows)) joins.layers (of_joined schema old new store.rows are joins);
    })
