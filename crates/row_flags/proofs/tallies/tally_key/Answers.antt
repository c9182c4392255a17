use Rattle.std.proofs.Common.{◌≡◌, ◌+◌, ◌∙◌, [], List, ℕ, cond, get_or, refl, sym, ap}
use Rattle.doc_types.specs.Chunks.{CursorPlace, rows_with}
use Rattle.row_plans.proofs.Seeking.{is_in}
use Rattle.row_flags.specs.steps.Tallies.{with_word}
use Rattle.row_flags.proofs.KeyTallies.{is_with, tallied_none, tallied_word}
use Rattle.row_flags.proofs.tallies.tally_key.Goals as goal

pub returns-else-by_fields-clause-each : goal.returns-else-by_fields-clause-each
returns-else-by_fields-clause-each g c = λ i row d within there.
    let rows = g.C.Chunk.content c.args.chunk.now in
    let key = c.args.key.now in
    let number = c.args.from + i in
    let told = get_or c.args.into.now i d in
    let all : (g.C.Chunk.place c.args.chunk.now c.in-Some.cursor).ahead ≡ rows_with key.word rows =
    ap (λ (place : CursorPlace). place.ahead) c.in-Some.ensures.first.1 ∙ ap (λ (word : List ℕ). rows_with word rows) c.as_bytes.ensures in
    tallied_word row key told (get_or c.tally_ahead.new.into i d) c.args.by_fields c.if-by_fields.false
    (c.tally_ahead.ensures.each i d within ∙ ap (λ b. cond b (with_word 0 told) told) (ap (is_in number) all ∙ is_with rows key.word number row there))

pub returns-in_default-clause-each : goal.returns-in_default-clause-each
returns-in_default-clause-each g c = λ i row d within there.
    let rows = g.C.Chunk.content c.args.chunk.now in
    let key = c.args.key.now in
    let number = c.args.from + i in
    let told = get_or c.args.into.now i d in
    let none : rows_with key.word rows ≡ [] = ap (λ (word : List ℕ). rows_with word rows) (sym c.as_bytes.ensures) ∙ c.in_default.ensures.none in
    tallied_none row key told told c.args.by_fields (sym (is_with rows key.word number row there) ∙ ap (is_in number) none) refl
