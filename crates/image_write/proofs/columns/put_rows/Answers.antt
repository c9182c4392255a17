use Rattle.std.proofs.Common.{◌≡◌, ◌++◌, ℕ, rules, arith, ap, subst, ◌∙◌, List}
use Rattle.doc_types.specs.declared.documents.Doc.{Doc}
use Rattle.doc_types.specs.declared.documents.DocRow.{DocRow}
use Rattle.chunk_image.specs.Marks.{row_marks}
use Rattle.chunk_image.specs.ChunkImage.{HasRoom, row_bytes}
use Rattle.image_write.specs.Written.{row_of}
use Rattle.image_write.proofs.Columned.{all_more, columns_more, marked, marks_more}
use Rattle.image_write.proofs.Meeting.{all_lent}
use Rattle.image_write.proofs.columns.put_rows.Goals as goal

pub loop-row-preserved : goal.loop-row-preserved
loop-row-preserved g c =
    let f : g.row.R.Denot → DocRow = λ row. row_of (g.R.LendsDoc.lent row) (g.R.LendsDoc.born_at c.args.number row) in
    let rows = c.args.rows.now in
    let i = c.loop-row.row-index in
    let x = c.row-item.result in
    let place = c.in_ok-place.place in
    let columns = c.loop-row.columns.items in
    let marks = c.loop-row.marks.items in
    let put : c.put_row.new.out.items ≡ columns ++ row_bytes place (f x) =
    c.in_ok-put_row.ensures.columns ∙ ap (λ (doc : Doc). columns ++ row_bytes place (row_of doc c.born.result)) c.doc.ensures
    ∙ ap (λ (born : ℕ). columns ++ row_bytes place (row_of (g.R.LendsDoc.lent x) born)) c.born.ensures in
    let marked_by : c.put_marks.new.out.items ≡ marks ++ row_marks (f x) =
    c.in_ok-put_marks.ensures ∙ ap (λ (doc : Doc). marks ++ row_marks (row_of doc 0)) c.doc-in-loop-row.ensures
    ∙ ap (λ (l : List ℕ). marks ++ l) (marked (g.R.LendsDoc.lent x) (g.R.LendsDoc.born_at c.args.number x)) in
    let room : HasRoom (f x) =
    subst (λ (born : ℕ). HasRoom (row_of (g.R.LendsDoc.lent x) born)) c.born.ensures (subst (λ (doc : Doc). HasRoom (row_of doc c.born.result)) c.doc.ensures c.in_ok-put_row.ensures.room) in
    record {
      columns = columns_more f rows i place x columns marks c.put_row.new.out.items c.put_marks.new.out.items _ (omega arith) (search rules) c.loop-row.invariant.columns c.in_ok-place.ensures.is put marked_by;
      marks = marks_more f rows i x marks c.put_marks.new.out.items (omega arith) (search rules) c.loop-row.invariant.marks marked_by;
      room = all_more (λ row. HasRoom (f row)) rows i x (omega arith) (search rules) c.loop-row.invariant.room room;
    }

pub returns-clause-room : goal.returns-clause-room
returns-clause-room g c =
    all_lent HasRoom (λ row. row_of (g.R.LendsDoc.lent row) (g.R.LendsDoc.born_at c.args.number row)) c.args.rows.now c.loop-row.row-index (omega arith) c.loop-row.invariant.room
