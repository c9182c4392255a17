use Rattle.std.proofs.Common.{◌≡◌, ◌∙◌, ℕ, ◌+◌, List, [], IfOk, ap, subst, sym, length, arith, rules, tests}
use Rattle.std.proofs.lemmas.List.{nil_from_length}
use Rattle.std.specs.List.{count_by}
use Rattle.doc_types.specs.declared.documents.DocRow.{DocRow}
use Rattle.doc_types.specs.Chunks.{CursorPlace, rows_with}
use Rattle.doc_types.specs.Snapshots.{LayerValue, living}
use Rattle.table_search.specs.steps.Counting.{docs_with, lives_among}
use Rattle.table_search.proofs.LiveRows.{by_count, by_numbers}
use Rattle.table_search.proofs.keywords.add_layer.Goals as goal

pub returns-in-Some : goal.returns-in-Some
returns-in-Some g c =
    let word : List ℕ = c.args.word.now in
    let docs : g.C.Chunk.content c.deref-chunk.result.now ≡ c.args.layer.now.rows =
    ap g.C.Chunk.content c.deref-chunk.ensures ∙ ap (λ (its : LayerValue). its.rows) c.layer.view_is in
    let dead : c.as_slice-dead.result.now ≡ c.args.layer.now.dead = c.as_slice-dead.ensures ∙ c.deref.ensures ∙ ap (λ (its : LayerValue). its.dead) c.layer.view_is in
    subst (λ (n : ℕ). IfOk c.add_rows.result (λ more. more ≡ c.args.docs + n))
    (ap (λ (place : CursorPlace). count_by (lives_among c.as_slice-dead.result.now) place.ahead) c.in-Some.ensures.first.1
    ∙ ap (λ (numbers : List ℕ). count_by (lives_among numbers) (rows_with word (g.C.Chunk.content c.deref-chunk.result.now))) dead
    ∙ ap (λ (rows : List DocRow). count_by (lives_among c.args.layer.now.dead) (rows_with word rows)) docs
    ∙ sym (by_numbers word c.args.layer.now))
    c.add_rows.ensures

pub returns-in-None : goal.returns-in-None
returns-in-None g c =
    let word : List ℕ = c.args.word.now in
    let docs : g.C.Chunk.content c.deref-chunk.result.now ≡ c.args.layer.now.rows =
    ap g.C.Chunk.content c.deref-chunk.ensures ∙ ap (λ (its : LayerValue). its.rows) c.layer.view_is in
    let none : docs_with word (living c.args.layer.now) ≡ 0 =
    by_numbers word c.args.layer.now ∙ ap (count_by (lives_among c.args.layer.now.dead)) (ap (rows_with word) (sym docs) ∙ c.in-None.ensures.none) in
    omega (arith, none)

pub returns-then-is_empty : goal.returns-then-is_empty
returns-then-is_empty g c =
    let word : List ℕ = c.args.word.now in
    let docs : g.C.Chunk.content c.deref-chunk.result.now ≡ c.args.layer.now.rows =
    ap g.C.Chunk.content c.deref-chunk.ensures ∙ ap (λ (its : LayerValue). its.rows) c.layer.view_is in
    let dead : c.as_slice-dead.result.now ≡ c.args.layer.now.dead = c.as_slice-dead.ensures ∙ c.deref.ensures ∙ ap (λ (its : LayerValue). its.dead) c.layer.view_is in
    let none : c.as_slice-dead.result.now ≡ [] = search (rules, tests, nil_from_length) in
    subst (λ (n : ℕ). IfOk c.more.result (λ more. more ≡ c.args.docs + n))
    (c.count.ensures ∙ ap (λ (rows : List DocRow). length (rows_with word rows)) docs ∙ sym (by_count word c.args.layer.now (sym dead ∙ none)))
    c.more.ensures
