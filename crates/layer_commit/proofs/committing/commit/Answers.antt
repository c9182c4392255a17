use Rattle.std.proofs.Common.{◌≡◌, ◌∙◌, ◌+◌, ◌≤◌, ◌==◌, ◌||◌, ◌++◌, ℕ, List, All, Bor, Err, ap, arith, length, map, refl, rules, subst, sym}
use Rattle.std.specs.List.{filter, list_any}
use Rattle.std.proofs.lemmas.Result.{err_from_is_err_and}
use Rattle.doc_types.specs.declared.documents.Doc.{Doc}
use Rattle.doc_types.specs.declared.transactions.TxnOp.{TxnOp}
use Rattle.doc_types.specs.Snapshots.{AreLayers, IsLayer, LayerValue, SnapshotValue, all_living}
use Rattle.layer_commit.specs.Commits.{is_kept, layers_of, row_at}
use Rattle.layer_commit.specs.steps.Finding.{layer_with}
use Rattle.layer_commit.specs.steps.Trying.{ComesTo, Tries}
use Rattle.layer_commit.proofs.Layered.{applies, are_layers, dies, few_kept, few_next, is_full, next_layers, of_schema, refused_by}
use Rattle.layer_commit.proofs.committing.commit.Goals as goal

pub returns-in_err-outcome : goal.returns-in_err-outcome
returns-in_err-outcome g c =
    let p = err_from_is_err_and c.from_residual-in_err-outcome.result c.from_residual-in_err-outcome.ensures.1 in
    let are : AreLayers c.args.snapshot.now.layers = subst (λ (s : SnapshotValue). AreLayers s.layers) c.snapshot.view_is c.snapshot.invariant in
    let same : c.as_slice-layers.result.now ≡ c.args.snapshot.now.layers = c.as_slice-layers.ensures ∙ ap (λ (s : SnapshotValue). s.layers) c.snapshot.view_is in
    let tries : Tries c.args.snapshot.now.layers c.args.txn.now.ops (Err c.in_err-outcome.field-0.0) =
    subst (λ (ops : List TxnOp). Tries c.args.snapshot.now.layers ops (Err c.in_err-outcome.field-0.0)) c.as_slice.ensures (subst (λ (ls : List LayerValue). Tries ls c.as_slice.result.now (Err c.in_err-outcome.field-0.0)) same c.in_err-outcome.ensures) in
    rw (p.1, p.2) (refused_by c.args.limit c.args.txn.now.ops c.args.snapshot.now c.in_err-outcome.field-0.0 are tries)

pub live_count-requires-2 : goal.live_count-requires-2
live_count-requires-2 g c =
    let are : AreLayers c.args.snapshot.now.layers = subst (λ (s : SnapshotValue). AreLayers s.layers) c.snapshot.view_is c.snapshot.invariant in
    let same : c.as_slice-layers.result.now ≡ c.args.snapshot.now.layers = c.as_slice-layers.ensures ∙ ap (λ (s : SnapshotValue). s.layers) c.snapshot.view_is in
    let kept : c.in_ok-layers.layers.items ≡ filter is_kept (map (layer_with (dies c.in_ok-outcome.outcome)) c.args.snapshot.now.layers) =
    c.in_ok-layers.ensures
    ∙ ap (λ (ids : List ℕ). filter is_kept (map (layer_with (λ id. c.in_ok-outcome.outcome.cleared || list_any (λ n. n == id) ids)) c.as_slice-layers.result.now)) c.as_slice-2.ensures.value
    ∙ ap (λ (ls : List LayerValue). filter is_kept (map (layer_with (dies c.in_ok-outcome.outcome)) ls)) same in
    omega (arith, ap length c.as_slice-3.ensures.value, ap length kept, few_kept c.in_ok-outcome.outcome c.args.snapshot.now.layers, are.few_layers)

pub returns-then-after-limit : goal.returns-then-after-limit
returns-then-after-limit g c =
    let are : AreLayers c.args.snapshot.now.layers = subst (λ (s : SnapshotValue). AreLayers s.layers) c.snapshot.view_is c.snapshot.invariant in
    let same : c.as_slice-layers.result.now ≡ c.args.snapshot.now.layers = c.as_slice-layers.ensures ∙ ap (λ (s : SnapshotValue). s.layers) c.snapshot.view_is in
    let comes : ComesTo c.args.snapshot.now.layers c.args.txn.now.ops c.in_ok-outcome.outcome =
    subst (λ (ops : List TxnOp). ComesTo c.args.snapshot.now.layers ops c.in_ok-outcome.outcome) c.as_slice.ensures (subst (λ (ls : List LayerValue). ComesTo ls c.as_slice.result.now c.in_ok-outcome.outcome) same c.in_ok-outcome.ensures) in
    let kept : c.in_ok-layers.layers.items ≡ filter is_kept (map (layer_with (dies c.in_ok-outcome.outcome)) c.args.snapshot.now.layers) =
    c.in_ok-layers.ensures
    ∙ ap (λ (ids : List ℕ). filter is_kept (map (layer_with (λ id. c.in_ok-outcome.outcome.cleared || list_any (λ n. n == id) ids)) c.as_slice-layers.result.now)) c.as_slice-2.ensures.value
    ∙ ap (λ (ls : List LayerValue). filter is_kept (map (layer_with (dies c.in_ok-outcome.outcome)) ls)) same in
    let count : c.live_count-2.result ≡ length (all_living c.in_ok-layers.layers.items) = c.live_count-2.ensures.count ∙ ap (λ (ls : List LayerValue). length (all_living ls)) c.as_slice-3.ensures.value in
    let docs : c.len.result ≡ length c.in_ok-outcome.outcome.docs.items = search rules in
    let many : c.live_count-2.result ≡ length (all_living (filter is_kept (map (layer_with (dies c.in_ok-outcome.outcome)) c.args.snapshot.now.layers))) = count ∙ ap (λ (ls : List LayerValue). length (all_living ls)) kept in
    is_full c.args.limit c.args.txn.now.ops c.in_ok-outcome.outcome c.args.snapshot.now _ are comes refl (c.from-at.ensures ∙ c.live_count.ensures)
    (omega (arith, c.saturating_sub-need.ensures, many, docs, c.from-at.ensures, c.live_count.ensures))
    (omega (arith, c.if-after-limit.true, many, docs))

pub add_docs-requires-clause-of : goal.add_docs-requires-clause-of
add_docs-requires-clause-of g c =
    let same : c.as_slice-layers.result.now ≡ c.args.snapshot.now.layers = c.as_slice-layers.ensures ∙ ap (λ (s : SnapshotValue). s.layers) c.snapshot.view_is in
    let comes : ComesTo c.args.snapshot.now.layers c.args.txn.now.ops c.in_ok-outcome.outcome =
    subst (λ (ops : List TxnOp). ComesTo c.args.snapshot.now.layers ops c.in_ok-outcome.outcome) c.as_slice.ensures (subst (λ (ls : List LayerValue). ComesTo ls c.as_slice.result.now c.in_ok-outcome.outcome) same c.in_ok-outcome.ensures) in
    rw (c.as_slice-4.ensures.value) (of_schema c.in_ok-number.number c.args.snapshot.now.layers c.args.txn.now.ops c.in_ok-outcome.outcome comes c.requires.of.0 c.requires.of.1 c.requires.of.2.operations)

pub invariant_of-next : goal.invariant_of-next
invariant_of-next g c =
    let are : AreLayers c.args.snapshot.now.layers = subst (λ (s : SnapshotValue). AreLayers s.layers) c.snapshot.view_is c.snapshot.invariant in
    let same : c.as_slice-layers.result.now ≡ c.args.snapshot.now.layers = c.as_slice-layers.ensures ∙ ap (λ (s : SnapshotValue). s.layers) c.snapshot.view_is in
    let comes : ComesTo c.args.snapshot.now.layers c.args.txn.now.ops c.in_ok-outcome.outcome =
    subst (λ (ops : List TxnOp). ComesTo c.args.snapshot.now.layers ops c.in_ok-outcome.outcome) c.as_slice.ensures (subst (λ (ls : List LayerValue). ComesTo ls c.as_slice.result.now c.in_ok-outcome.outcome) same c.in_ok-outcome.ensures) in
    let kept : c.in_ok-layers.layers.items ≡ filter is_kept (map (layer_with (dies c.in_ok-outcome.outcome)) c.args.snapshot.now.layers) =
    c.in_ok-layers.ensures
    ∙ ap (λ (ids : List ℕ). filter is_kept (map (layer_with (λ id. c.in_ok-outcome.outcome.cleared || list_any (λ n. n == id) ids)) c.as_slice-layers.result.now)) c.as_slice-2.ensures.value
    ∙ ap (λ (ls : List LayerValue). filter is_kept (map (layer_with (dies c.in_ok-outcome.outcome)) ls)) same in
    let count : c.live_count-2.result ≡ length (all_living c.in_ok-layers.layers.items) = c.live_count-2.ensures.count ∙ ap (λ (ls : List LayerValue). length (all_living ls)) c.as_slice-3.ensures.value in
    let docs : c.len.result ≡ length c.in_ok-outcome.outcome.docs.items = search rules in
    let all : c.new-layers.result ≡ next_layers c.in_ok-number.number c.in_ok-outcome.outcome c.args.snapshot.now.layers =
    c.new-layers.ensures
    ∙ c.in_ok-add_docs.ensures.layers
    ∙ ap (λ (docs : List (Bor Doc)). c.in_ok-layers.layers.items ++ layers_of (map (λ doc. row_at c.in_ok-number.number doc.now) docs)) c.as_slice-4.ensures.value
    ∙ ap (λ (ls : List LayerValue). ls ++ layers_of (map (λ doc. row_at c.in_ok-number.number doc.now) c.in_ok-outcome.outcome.docs.items)) kept in
    let few : length (all_living (next_layers c.in_ok-number.number c.in_ok-outcome.outcome c.args.snapshot.now.layers)) ≤ c.args.limit =
    few_next c.in_ok-number.number c.args.limit c.in_ok-outcome.outcome c.args.snapshot.now.layers c.in_ok-layers.layers.items c.live_count-2.result c.len.result kept count docs (omega (arith, c.if-after-limit.false)) in
    let put : All IsLayer (layers_of (map (λ doc. row_at c.in_ok-number.number doc.now) c.in_ok-outcome.outcome.docs.items)) =
    subst (λ (docs : List (Bor Doc)). All IsLayer (layers_of (map (λ doc. row_at c.in_ok-number.number doc.now) docs))) c.as_slice-4.ensures.value c.in_ok-add_docs.ensures.sound in
    subst AreLayers (sym all)
    (are_layers c.in_ok-number.number c.args.snapshot.now.layers c.args.txn.now.ops c.in_ok-outcome.outcome comes are put
    (omega (arith, c.if-len-gt-MAX_LAYERS.false, c.len-2.ensures, ap length all, ap length c.new-layers.ensures))
    (omega (arith, few, c.requires.few)))

pub returns : goal.returns
returns g c =
    let are : AreLayers c.args.snapshot.now.layers = subst (λ (s : SnapshotValue). AreLayers s.layers) c.snapshot.view_is c.snapshot.invariant in
    let same : c.as_slice-layers.result.now ≡ c.args.snapshot.now.layers = c.as_slice-layers.ensures ∙ ap (λ (s : SnapshotValue). s.layers) c.snapshot.view_is in
    let comes : ComesTo c.args.snapshot.now.layers c.args.txn.now.ops c.in_ok-outcome.outcome =
    subst (λ (ops : List TxnOp). ComesTo c.args.snapshot.now.layers ops c.in_ok-outcome.outcome) c.as_slice.ensures (subst (λ (ls : List LayerValue). ComesTo ls c.as_slice.result.now c.in_ok-outcome.outcome) same c.in_ok-outcome.ensures) in
    let kept : c.in_ok-layers.layers.items ≡ filter is_kept (map (layer_with (dies c.in_ok-outcome.outcome)) c.args.snapshot.now.layers) =
    c.in_ok-layers.ensures
    ∙ ap (λ (ids : List ℕ). filter is_kept (map (layer_with (λ id. c.in_ok-outcome.outcome.cleared || list_any (λ n. n == id) ids)) c.as_slice-layers.result.now)) c.as_slice-2.ensures.value
    ∙ ap (λ (ls : List LayerValue). filter is_kept (map (layer_with (dies c.in_ok-outcome.outcome)) ls)) same in
    let count : c.live_count-2.result ≡ length (all_living c.in_ok-layers.layers.items) = c.live_count-2.ensures.count ∙ ap (λ (ls : List LayerValue). length (all_living ls)) c.as_slice-3.ensures.value in
    let docs : c.len.result ≡ length c.in_ok-outcome.outcome.docs.items = search rules in
    let all : c.new-layers.result ≡ next_layers c.in_ok-number.number c.in_ok-outcome.outcome c.args.snapshot.now.layers =
    c.new-layers.ensures
    ∙ c.in_ok-add_docs.ensures.layers
    ∙ ap (λ (docs : List (Bor Doc)). c.in_ok-layers.layers.items ++ layers_of (map (λ doc. row_at c.in_ok-number.number doc.now) docs)) c.as_slice-4.ensures.value
    ∙ ap (λ (ls : List LayerValue). ls ++ layers_of (map (λ doc. row_at c.in_ok-number.number doc.now) c.in_ok-outcome.outcome.docs.items)) kept in
    let few : length (all_living (next_layers c.in_ok-number.number c.in_ok-outcome.outcome c.args.snapshot.now.layers)) ≤ c.args.limit =
    few_next c.in_ok-number.number c.args.limit c.in_ok-outcome.outcome c.args.snapshot.now.layers c.in_ok-layers.layers.items c.live_count-2.result c.len.result kept count docs (omega (arith, c.if-after-limit.false)) in
    let number : c.in_ok-number.number ≡ c.snapshot.inside.number + 1 = search rules in
    applies c.args.limit c.args.txn.now.ops c.in_ok-outcome.outcome c.args.snapshot.now (record { number = c.in_ok-number.number; shape = c.snapshot.inside.shape; layers = c.new-layers.result }) are comes
    (number ∙ ap (λ (s : SnapshotValue). s.number + 1) c.snapshot.view_is) (ap (λ (s : SnapshotValue). s.shape) c.snapshot.view_is) all few
