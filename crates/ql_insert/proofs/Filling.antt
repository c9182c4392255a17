-- Values that are put into a document one after the other: good ones of good rows, each into its column.
use Rattle.std.proofs.Common.{◌≡◌, ℕ, ◌+◌, ◌<◌, List, [], ◌∷◌, ◌++◌, None, Some, Err, length, take, drop, get_or, sym, ◌∙◌, ap, subst, refl, suc, add-one, nat_eq, Bool, true, false, drop-cons, length-set, arith}
use Rattle.std.proofs.lemmas.Bool.{eqb-true}
use Rattle.std.proofs.lemmas.List.{take_more, length-take-le}
use Rattle.std.proofs.lemmas.List.Elements.{All-set}
use Rattle.std.proofs.Math.ListN.{set}
use Rattle.std.proofs.lemmas.Option.{slice_get-get_or}
use Rattle.std.specs.List.{AllZip}
use Rattle.srch_base.specs.declared.faults.Or.{Or}
use Rattle.srch_base.specs.declared.faults.Or.TheVariants.{NoMemory, Fault}
use Rattle.doc_types.specs.declared.documents.Doc.{Doc}
use Rattle.doc_types.specs.declared.schema.Schema.{Schema}
use Rattle.doc_types.specs.declared.tokens.FieldTokens.{FieldTokens}
use Rattle.doc_types.specs.declared.transactions.TxnOp.{TxnOp}
use Rattle.doc_types.specs.Documents.{IsField}
use Rattle.index_conf.specs.declared.conf.IndexConf.{IndexConf}
use Rattle.ql_tree.specs.declared.statement.Val.{Val}
use Rattle.ql_columns.specs.declared.columns.IndexColumn.{IndexColumn}
use Rattle.ql_refusals.specs.Refusals.{Refused, first, wrong_number}
use Rattle.ql_refusals.proofs.FirstFault.{first_none}
use Rattle.ql_insert.specs.Insertions.{Puts, Fills, Inserts, value_fault, values_fault, row_fault, rows_fault}
use Rattle.ql_insert.specs.steps.Documents.{Builds, BuildsAll, IsShaped}

-- one more value is put after the others
Fills-snoc : (conf : IndexConf) (targets : List IndexColumn) (values : List Val) (old now new : Doc) (target : IndexColumn) (value : Val)
    → length targets ≡ length values → Fills conf targets values old now → Puts conf target value now new
    → Fills conf (targets ++ target ∷ []) (values ++ value ∷ []) old new
Fills-snoc conf [] [] old now new target value e fills puts =
    let P : Doc → Type 0 = λ d. Puts conf target value d new in (new, subst P fills puts, refl)
Fills-snoc conf [] (v ∷ vs) old now new target value e fills puts = absurd (omega arith)
Fills-snoc conf (t ∷ ts) [] old now new target value e fills puts = absurd (omega arith)
Fills-snoc conf (t ∷ ts) (v ∷ vs) old now new target value e fills puts =
    (fills.0, fills.1, Fills-snoc conf ts vs fills.0 now new target value (omega arith) fills.2 puts)

length_front : {X : Type 0} (xs : List X) (i : ℕ) → i < length xs → length (take i xs) ≡ i
length_front xs i h = length-take-le i xs (omega arith)

pub Fills-more : (conf : IndexConf) (targets : List IndexColumn) (values : List Val) (old now new : Doc) (d : IndexColumn) (value : Val) (i : ℕ)
    → i < length targets → i < length values → get_or values i value ≡ value
    → Fills conf (take i targets) (take i values) old now → Puts conf (get_or targets i d) value now new
    → Fills conf (take (i + 1) targets) (take (i + 1) values) old new
Fills-more conf targets values old now new d value i below within is_value fills puts =
    let fronts : length (take i targets) ≡ length (take i values) = length_front targets i below ∙ sym (length_front values i within) in
    let ts : take (i + 1) targets ≡ take i targets ++ get_or targets i d ∷ [] = take_more targets i d below in
    let vs : take (i + 1) values ≡ take i values ++ value ∷ [] = take_more values i value within ∙ ap (λ (x : Val). take i values ++ x ∷ []) is_value in
    rw (ts, vs) (Fills-snoc conf (take i targets) (take i values) old now new (get_or targets i d) value fronts fills puts)

pub good_rest : (schema : Schema) (targets : List IndexColumn) (values : List Val) (target : IndexColumn) (value : Val) (i : ℕ)
    → i < length targets → i < length values
    → values_fault schema (drop i targets) (drop i values) ≡ None → values_fault schema (drop (i + 1) targets) (drop (i + 1) values) ≡ None
good_rest schema targets values target value i below within h =
    rw (add-one) (first_none (value_fault schema (get_or targets i target) (get_or values i value)) _ (rw (drop-cons targets i target below, drop-cons values i value within) at h)).1

pub IsShaped-set : (schema : Schema) (doc : Doc) (i : ℕ) (tokens : FieldTokens) → IsShaped schema doc → IsField tokens
    → IsShaped schema (record doc { fields = set doc.fields i tokens })
IsShaped-set schema doc i tokens shaped good = record {
  fields = length-set doc.fields i tokens ∙ shaped.fields;
  values = shaped.values;
  tokens = All-set IsField doc.fields i tokens good shaped.tokens;
}

row_by : (schema : Schema) (targets : List IndexColumn) (row : List Val) (same : Bool) → nat_eq (length row) (length targets) ≡ same
    → row_fault schema targets row ≡ None → (length row ≡ length targets) × (values_fault schema targets row ≡ None)
row_by schema targets row true e h = (eqb-true _ _ e, rw e at h)
row_by schema targets row false e h =
    let bad : Some wrong_number ≡ None = rw e at h in cc

-- the first row of good ones is good, and so are the others
pub rows_good : (schema : Schema) (targets : List IndexColumn) (rows : List (List Val)) (row : List Val) (i : ℕ)
    → i < length rows → get_or rows i row ≡ row → rows_fault schema targets (drop i rows) ≡ None
    → (row_fault schema targets row ≡ None) × (rows_fault schema targets (drop (i + 1) rows) ≡ None)
rows_good schema targets rows row i below is h =
    let e : drop i rows ≡ row ∷ drop (suc i) rows = drop-cons rows i row below ∙ ap (λ (x : List Val). x ∷ drop (suc i) rows) is in
    let both : first (row_fault schema targets row) (rows_fault schema targets (drop (suc i) rows)) ≡ None = rw e at h in
    let none = first_none (row_fault schema targets row) _ both in
    (none.0, rw (add-one) none.1)

-- a good row has as many values as there are columns, and each is good
pub row_good : (schema : Schema) (targets : List IndexColumn) (row : List Val)
    → row_fault schema targets row ≡ None → (length row ≡ length targets) × (values_fault schema targets row ≡ None)
row_good schema targets row h = row_by schema targets row (nat_eq (length row) (length targets)) refl h

-- where a row isn't built, after rows that were, the rows aren't
pub rows_unbuilt : (conf : IndexConf) (targets : List IndexColumn) (rows : List (List Val)) (row : List Val) (ops : List TxnOp) (place : ℕ) (end : Or Refused)
    → place < length rows → row ≡ get_or rows place row → AllZip (Inserts conf targets) (take place rows) ops
    → Builds conf targets row (Err end) → BuildsAll conf targets rows (Err end)
rows_unbuilt conf targets rows row ops place NoMemory below is inserts unbuilt = tt
rows_unbuilt conf targets rows row ops place (Fault refusal) below is inserts unbuilt = record {
  place = place;
  ops = ops;
  good = inserts;
  row = row;
  is = slice_get-get_or rows place row below ∙ ap Some (sym is);
  refuses = unbuilt;
}
