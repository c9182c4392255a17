use Rattle.std.proofs.Common.{◌≡◌, All, sym, subst, rules}
use Rattle.std.specs.Arc.{arc_value}
use Rattle.doc_types.specs.Snapshots.{SnapshotValue}
use Rattle.doc_types.specs.Transactions.{IsOpOf}
use Rattle.commit_outcomes.specs.declared.outcome.TheConstants.{MAX_DOCUMENTS}
use Rattle.layer_commit.specs.Commits.{Applies}
use Rattle.doc_vectors.specs.steps.Stores.{StoreValue}
use Rattle.doc_vectors.proofs.Committed.{of_store, store_committed, store_joined}
use Rattle.doc_vectors.proofs.store.PlainStore.commit.Goals as goal

pub upkept-requires : goal.upkept-requires
upkept-requires c =
    let same : c.deref.result.now ≡ arc_value c.self.inside.snapshot = search rules in
    let own : Applies MAX_DOCUMENTS c.args.txn.now.ops c.deref.result.now c.in-Ok.removed c.in-Ok.next = search rules in
    let applies : Applies MAX_DOCUMENTS c.args.txn.now.ops (arc_value c.self.inside.snapshot) c.in-Ok.removed c.in-Ok.next = subst (λ (old : SnapshotValue). Applies MAX_DOCUMENTS c.args.txn.now.ops old c.in-Ok.removed c.in-Ok.next) same own in
    let ops : All (IsOpOf c.self.inside.schema) c.args.txn.now.ops = subst (λ (store : StoreValue). All (IsOpOf store.schema) c.args.txn.now.ops) (sym c.self.view_is) c.requires.of.operations in
    record { of = of_store _ _ (store_committed c.self.inside.schema MAX_DOCUMENTS c.args.txn.now.ops (arc_value c.self.inside.snapshot) c.in-Ok.removed c.in-Ok.next c.self.invariant ops applies) }

pub invariant_of-self : goal.invariant_of-self
invariant_of-self c =
    let same : c.deref.result.now ≡ arc_value c.self.inside.snapshot = search rules in
    let own : Applies MAX_DOCUMENTS c.args.txn.now.ops c.deref.result.now c.in-Ok.removed c.in-Ok.next = search rules in
    let applies : Applies MAX_DOCUMENTS c.args.txn.now.ops (arc_value c.self.inside.snapshot) c.in-Ok.removed c.in-Ok.next = subst (λ (old : SnapshotValue). Applies MAX_DOCUMENTS c.args.txn.now.ops old c.in-Ok.removed c.in-Ok.next) same own in
    let ops : All (IsOpOf c.self.inside.schema) c.args.txn.now.ops = subst (λ (store : StoreValue). All (IsOpOf store.schema) c.args.txn.now.ops) (sym c.self.view_is) c.requires.of.operations in
    store_joined c.self.inside.schema c.in-Ok.next.layers (arc_value c.in_ok-self-inside-in-Ok.field-0).layers
    (store_committed c.self.inside.schema MAX_DOCUMENTS c.args.txn.now.ops (arc_value c.self.inside.snapshot) c.in-Ok.removed c.in-Ok.next c.self.invariant ops applies)
    c.in_ok-self-inside-in-Ok.ensures.sound c.in_ok-self-inside-in-Ok.ensures.merges.joins
