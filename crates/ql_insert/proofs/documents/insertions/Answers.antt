use Rattle.std.proofs.Common.{◌≡◌, ◌<◌, Err, List, [], ◌∷◌, ◌++◌, sym, ◌∙◌, ap, subst, length, take, ◌+◌, arith}
use Rattle.std.specs.Prelude.{All}
use Rattle.std.specs.List.{AllZip}
use Rattle.std.proofs.lemmas.List.{take_more}
use Rattle.std.proofs.lemmas.Slice.Zip.{all_zipped_more}
use Rattle.std.proofs.lemmas.List.Elements.{All-push}
use Rattle.doc_types.specs.declared.transactions.TxnOp.{TxnOp}
use Rattle.doc_types.specs.declared.transactions.TxnOp.TheVariants.{Insert}
use Rattle.doc_types.specs.Transactions.{IsOpOf}
use Rattle.ql_tree.specs.declared.statement.Val.{Val}
use Rattle.ql_insert.specs.Insertions.{Inserts}
use Rattle.ql_insert.specs.steps.Documents.{Builds}
use Rattle.std.proofs.lemmas.Result.{err_from_is_err_and}
use Rattle.ql_insert.proofs.Filling.{rows_good, rows_unbuilt}
use Rattle.ql_insert.proofs.documents.insertions.Goals as goal

pub rows-preserved : goal.rows-preserved
rows-preserved c =
    let below : c.rows.row-index < length c.args.rows.now = omega arith in
    let R : List Val → TxnOp → Type 0 = Inserts c.args.conf.now c.args.targets.now in
    let D : List Val → Type 0 = λ r. R r (Insert c.in_ok-doc.doc) in
    let here : D c.row-item.result = subst D c.as_slice.ensures c.in_ok-doc.ensures.0 in
    let zipped : AllZip R (take c.rows.row-index c.args.rows.now ++ c.row-item.result ∷ []) (c.rows.ops.items ++ Insert c.in_ok-doc.doc ∷ []) =
    all_zipped_more R (take c.rows.row-index c.args.rows.now) c.rows.ops.items c.row-item.result (Insert c.in_ok-doc.doc) c.rows.invariant.inserts here in
    let more : take (c.rows.row-index + 1) c.args.rows.now ≡ take c.rows.row-index c.args.rows.now ++ c.row-item.result ∷ [] =
    take_more c.args.rows.now c.rows.row-index c.row-item.result below ∙ ap (λ (r : List Val). take c.rows.row-index c.args.rows.now ++ r ∷ []) (sym c.row-item.is) in
    let O : List TxnOp → Type 0 = λ os. All (IsOpOf c.args.conf.now.schema) os in
    let Z : List TxnOp → Type 0 = λ os. AllZip R (take (c.rows.row-index + 1) c.args.rows.now) os in
    let ops : O (c.rows.ops.items ++ Insert c.in_ok-doc.doc ∷ []) =
    All-push (IsOpOf c.args.conf.now.schema) c.rows.ops.items (Insert c.in_ok-doc.doc) c.rows.invariant.of c.in_ok-doc.ensures.1 in
    record {
      inserts = subst Z (sym c.in_ok-push.ensures.items) (rw more zipped);
      of = subst O (sym c.in_ok-push.ensures.items) ops;
      good = (rows_good c.args.conf.now.schema c.args.targets.now c.args.rows.now c.row-item.result c.rows.row-index below (sym c.row-item.is) c.rows.invariant.good).1;
    }

pub returns-in_err-doc : goal.returns-in_err-doc
returns-in_err-doc c =
    let end = err_from_is_err_and c.from_residual-in_err-doc.result c.from_residual-in_err-doc.ensures.1 in
    let D : List Val → Type 0 = λ row. Builds c.args.conf.now c.args.targets.now row (Err c.in_err-doc.field-0.0) in
    rw (end.1, end.2) (rows_unbuilt c.args.conf.now c.args.targets.now c.args.rows.now c.row-item.result c.rows.ops.items c.rows.row-index c.in_err-doc.field-0.0
    c.rows-test.true c.row-item.is c.rows.invariant.inserts (subst D c.as_slice.ensures c.in_err-doc.ensures))
