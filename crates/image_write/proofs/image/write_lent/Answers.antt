use Rattle.std.proofs.Common.{◌≡◌, ◌≤◌, ◌++◌, ℕ, List, refl, length, map, All, rules, arith, sym, ap, subst, ◌∙◌, Vec, Global}
use Rattle.doc_types.specs.declared.documents.DocRow.{DocRow}
use Rattle.doc_types.specs.declared.schema.Schema.{Schema}
use Rattle.chunk_image.specs.ChunkImage.{IsImageOf, dictionary_bytes, marks_bytes, postings_bytes, rows_bytes, table_bytes}
use Rattle.chunk_image.proofs.Orderly.{have_fields}
use Rattle.image_write.specs.declared.gathering.Occurrence.{Occurrence}
use Rattle.image_write.specs.declared.image.Counts.{Counts}
use Rattle.image_write.specs.Written.{IsWritten, row_of}
use Rattle.image_write.specs.steps.Gathering.{AreGathered, CanPost, IsGathered, WordPlaces}
use Rattle.image_write.specs.Headers.{counted}
use Rattle.image_write.specs.steps.Places.{HasHead, by_word}
use Rattle.image_write.proofs.Tabled.{word_of}
use Rattle.image_write.proofs.Imaged.{AreCounts, assembled, can_post}
use Rattle.image_write.proofs.Lent.{as_many, docs_are, docs_lent, few_lent}
use Rattle.image_write.proofs.Listed.{gathered}
use Rattle.image_write.proofs.Results.{handed}
use Rattle.image_write.proofs.image.write_lent.Goals as goal

pub gather-requires : goal.gather-requires
gather-requires g c =
    let lent = g.R.LendsDoc.lent in
    let born = g.R.LendsDoc.born_at c.args.number in
    let rows : List DocRow = map (λ row. row_of (lent row) (born row)) c.args.rows.now in
    few_lent lent born c.args.rows.now (have_fields c.requires.0 rows c.requires.1.limits c.requires.1.of)

pub put_rows-requires-clause-rows : goal.put_rows-requires-clause-rows
put_rows-requires-clause-rows g c = (c.requires.0, c.requires.1.limits, docs_lent g.R.LendsDoc.lent (g.R.LendsDoc.born_at c.args.number) c.requires.0 c.args.rows.now c.requires.1.of.docs)

pub tables_of-requires-clause-heads : goal.tables_of-requires-clause-heads
tables_of-requires-clause-heads g c = subst (All (HasHead (map g.R.LendsDoc.lent c.args.rows.now))) (sym c.deref.ensures.value) c.in_ok-places.ensures.heads

pub tables_of-requires-clause-posted : goal.tables_of-requires-clause-posted
tables_of-requires-clause-posted g c =
    let lent = g.R.LendsDoc.lent in
    let born = g.R.LendsDoc.born_at c.args.number in
    let docs = map lent c.args.rows.now in
    let rows : List DocRow = map (λ row. row_of (lent row) (born row)) c.args.rows.now in
    let places = c.in_ok-places.places.items in
    let rows_n : c.in_ok-count.count ≡ length c.args.rows.now = search rules in
    let few : c.in_ok-count.count ≤ 536870912 = search rules in
    let all : AreGathered rows (by_word docs places) =
    gathered docs rows places (docs_are lent born c.args.rows.now) c.in_ok-places.ensures (omega (arith, few, rows_n, as_many lent born c.args.rows.now)) (have_fields c.requires.0 rows c.requires.1.limits c.requires.1.of) in
    subst (λ (l : List Occurrence). All CanPost (by_word docs l)) (sym c.deref.ensures.value) (can_post rows (by_word docs places) all.each)

pub returns-clause-is : goal.returns-clause-is
returns-clause-is g c =
    let lent = g.R.LendsDoc.lent in
    let born = g.R.LendsDoc.born_at c.args.number in
    let docs = map lent c.args.rows.now in
    let rows : List DocRow = map (λ row. row_of (lent row) (born row)) c.args.rows.now in
    let places = c.in_ok-places.places.items in
    let words = by_word docs places in
    let columns = c.put_rows.new.columns.items in
    let marks = c.put_rows.new.marks.items in
    let tables = c.in_ok-tables.tables in
    let counts : Counts = record { rows = c.in_ok-count.count; fields = c.args.fields; attrs = c.args.attrs; words = tables.words; marks = c.in_ok-place_in.field-0; dictionary = c.in_ok-place_in-2.field-0; postings = c.in_ok-place_in-3.field-0 } in
    let rows_n : c.in_ok-count.count ≡ length c.args.rows.now = search rules in
    let few_rows : c.in_ok-count.count ≤ 536870912 = search rules in
    let seen : by_word docs c.deref.result.now ≡ words = ap (by_word docs) c.deref.ensures.value in
    let cs : columns ≡ rows_bytes 0 rows = c.in_ok-put_rows.ensures.columns ∙ ap (λ (l : List ℕ). l ++ rows_bytes 0 rows) c.in_ok-columns.ensures.items in
    let ms : marks ≡ marks_bytes rows = c.in_ok-put_rows.ensures.marks in
    let ds : tables.dictionary.items ≡ dictionary_bytes (map word_of words) = c.in_ok-tables.ensures.dictionary ∙ ap (λ (ws : List WordPlaces). dictionary_bytes (map word_of ws)) seen in
    let words_is : tables.words ≡ length words = c.in_ok-tables.ensures.count ∙ ap length seen in
    let bytes : List ℕ = counted counts ++ columns ++ marks ++ tables.table.items ++ tables.dictionary.items ++ tables.postings.items in
    handed (λ (image : Vec ℕ Global). image.items ≡ bytes)
    (λ (image : Vec ℕ Global). (schema : Schema) → IsWritten schema rows c.args.fields c.args.attrs → IsImageOf schema rows image.items) c.assembled.result
    (λ image is schema written.
    let all : AreGathered rows words =
    gathered docs rows places (docs_are lent born c.args.rows.now) c.in_ok-places.ensures (omega (arith, few_rows, rows_n, as_many lent born c.args.rows.now)) (have_fields schema rows written.limits written.of) in
    let each : All (IsGathered rows) (by_word docs c.deref.result.now) = subst (All (IsGathered rows)) (sym seen) all.each in
    let ts : tables.table.items ≡ table_bytes rows 0 0 (map word_of words) = c.in_ok-tables.ensures.table rows each ∙ ap (λ (ws : List WordPlaces). table_bytes rows 0 0 (map word_of ws)) seen in
    let ps : tables.postings.items ≡ postings_bytes rows (map word_of words) = c.in_ok-tables.ensures.postings rows each ∙ ap (λ (ws : List WordPlaces). postings_bytes rows (map word_of ws)) seen in
    let are : AreCounts rows words c.args.fields c.args.attrs counts = record {
      rows_n = rows_n ∙ sym (as_many lent born c.args.rows.now);
      fields_n = refl;
      attrs_n = refl;
      words_n = words_is;
      marks_n = c.in_ok-place_in.ensures.is ∙ ap length ms;
      dictionary_n = c.in_ok-place_in-2.ensures.is ∙ ap length ds;
      postings_n = c.in_ok-place_in-3.ensures.is ∙ ap length ps;
    } in
    assembled schema rows words c.args.fields c.args.attrs counts columns marks tables.table.items tables.dictionary.items tables.postings.items image.items
    written all (omega (arith, c.in_ok-tables.ensures.few, words_is)) are c.in_ok-put_rows.ensures.room cs ms ts ds ps is)
    (search rules)
