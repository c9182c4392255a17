-- An INSERT is read in one way: its rows become one list of insertions, or one text of them is the first that is too long.
use Rattle.std.proofs.Common.{◌≡◌, ◌⊎◌, ℕ, zero, suc, List, [], ◌∷◌, Option, Some, refl, sym, ap, subst, ◌∙◌, inl, inr, take}
use Rattle.std.specs.Prelude.{pos, slice_get, slice_set}
use Rattle.std.specs.List.{AllZip}
use Rattle.std.proofs.lemmas.Option.{none-some, same_Some}
use Rattle.index_conf.specs.declared.conf.IndexConf.{IndexConf}
use Rattle.doc_tokens.specs.Tokens.{IsTooLong, TokensOf}
use Rattle.doc_types.specs.declared.documents.Doc.{Doc}
use Rattle.doc_types.specs.declared.tokens.FieldTokens.{FieldTokens}
use Rattle.doc_types.specs.declared.transactions.Txn.{Txn}
use Rattle.doc_types.specs.declared.transactions.TxnOp.{TxnOp}
use Rattle.doc_types.specs.declared.transactions.TxnOp.TheVariants as operations
use Rattle.doc_types.specs.Documents.{IsField}
use Rattle.mark_scan.specs.declared.mark.MarkRules.{MarkRules}
use Rattle.ql_tree.specs.declared.statement.Val.{Val}
use Rattle.ql_tree.specs.declared.statement.Val.TheVariants.{Number, Text}
use Rattle.ql_columns.specs.declared.columns.IndexColumn.{IndexColumn}
use Rattle.ql_columns.specs.declared.columns.IndexColumn.TheVariants.{Id, Field, Attr}
use Rattle.ql_refusals.specs.Refusals.{Refused}
use Rattle.ql_insert.specs.Insertions.{Fills, Inserts, IsTooLongFor, Puts, RefusesRow, RefusesRows, RefusesValues, Makes, blank, columns_fault, fold_of, rows_fault, targets}
use Rattle.ql_refusals.proofs.Options.{not_both, one_value}

-- the same place holds one value
at_head : {X : Type 0} (x y : X) (xs : List X) → slice_get (x ∷ xs) 0 ≡ Some y → y ≡ x
at_head x y xs is = sym (same_Some x y is)

-- A text of the row is too long, after values that aren't: as `RefusesRow` says it, by recursion on the row.
abbrev Overfills : IndexConf → List IndexColumn → List Val → Doc → Refused → Type 0
Overfills conf [] values old refusal = ⊥
Overfills conf (target ∷ targets) [] old refusal = ⊥
Overfills conf (target ∷ targets) (value ∷ values) old refusal =
    IsTooLongFor conf target value refusal ⊎ ((next : Doc) × Puts conf target value old next × Overfills conf targets values next refusal)

-- Some row is refused, and those before it become insertions: as `RefusesRows` says it, by recursion on the rows.
abbrev Breaks : IndexConf → List IndexColumn → List (List Val) → Refused → Type 0
Breaks conf targets [] refusal = ⊥
Breaks conf targets (row ∷ rows) refusal = RefusesRow conf targets row refusal ⊎ ((op : TxnOp) × Inserts conf targets row op × Breaks conf targets rows refusal)

module _
    (one_tokens : (fold : ℕ → Option ℕ) (rules : MarkRules) (text : List ℕ) (a b : FieldTokens) → TokensOf fold rules text a → TokensOf fold rules text b → a ≡ b)
    (not_too_long : (fold : ℕ → Option ℕ) (rules : MarkRules) (text : List ℕ) (tokens : FieldTokens) (position : ℕ) → TokensOf fold rules text tokens → IsField tokens → IsTooLong fold rules text position → ⊥) where
  -- ---- a value
  put_once : (conf : IndexConf) (target : IndexColumn) (value : Val) (old a b : Doc) → Puts conf target value old a → Puts conf target value old b → a ≡ b
  put_once conf Id (Number number) old a b (id, is, says) (id', is', says') =
      let numbers : pos id ≡ pos id' = sym is ∙ is' in
      let ids : id ≡ id' = cc in
      let with_id : ℕ → Doc = λ n. record old { id = n } in
      says ∙ ap with_id ids ∙ sym says'
  put_once conf (Field field) (Text text) old a b (tokens, are, good, says) (tokens', are', good', says') =
      let with_tokens : FieldTokens → Doc = λ ts. record old { fields = slice_set old.fields field ts } in
      says ∙ ap with_tokens (one_tokens (fold_of conf) conf.rules text tokens tokens' are are') ∙ sym says'
  put_once conf (Attr attr) (Number number) old a b says says' = says ∙ sym says'
  put_once conf target value old a b puts puts' = absurd puts

  not_put : (conf : IndexConf) (target : IndexColumn) (value : Val) (old new : Doc) (refusal : Refused) → Puts conf target value old new → IsTooLongFor conf target value refusal → ⊥
  not_put conf (Field field) (Text text) old new refusal (tokens, are, good, says) (position, long, is) =
      not_too_long (fold_of conf) conf.rules text tokens position are good long
  not_put conf target value old new refusal puts long = long

  one_long : (conf : IndexConf) (target : IndexColumn) (value : Val) (a b : Refused) → IsTooLongFor conf target value a → IsTooLongFor conf target value b → a ≡ b
  one_long conf (Field field) (Text text) a b (position, long, says) (position', long', says') = says ∙ sym says'
  one_long conf target value a b long long' = absurd long

  -- ---- a row
  filled_once : (conf : IndexConf) (targets : List IndexColumn) (values : List Val) (old a b : Doc) → Fills conf targets values old a → Fills conf targets values old b → a ≡ b
  filled_once conf [] values old a b says says' = says ∙ sym says'
  filled_once conf (target ∷ targets) [] old a b says says' = says ∙ sym says'
  filled_once conf (target ∷ targets) (value ∷ values) old a b (next, puts, fills) (next', puts', fills') =
      let same : next' ≡ next = put_once conf target value old next' next puts' puts in
      filled_once conf targets values next a b fills (subst (λ (doc : Doc). Fills conf targets values doc b) same fills')

  overfills_at : (conf : IndexConf) (place : ℕ) (targets : List IndexColumn) (values : List Val) (target : IndexColumn) (value : Val) (old front : Doc) (refusal : Refused)
      → Fills conf (take place targets) (take place values) old front → slice_get targets place ≡ Some target → slice_get values place ≡ Some value → IsTooLongFor conf target value refusal
      → Overfills conf targets values old refusal
  overfills_at conf place [] values target value old front refusal good for is long = none-some target for
  overfills_at conf place (t ∷ targets) [] target value old front refusal good for is long = none-some value is
  overfills_at conf zero (t ∷ targets) (v ∷ values) target value old front refusal good for is long =
      inl (subst (λ (x : IndexColumn). IsTooLongFor conf x v refusal) (at_head t target targets for)
      (subst (λ (x : Val). IsTooLongFor conf target x refusal) (at_head v value values is) long))
  overfills_at conf (suc place) (t ∷ targets) (v ∷ values) target value old front refusal (next, puts, good) for is long =
      inr (next, puts, overfills_at conf place targets values target value next front refusal good for is long)

  overfilled_once : (conf : IndexConf) (targets : List IndexColumn) (values : List Val) (old : Doc) (a b : Refused) → Overfills conf targets values old a → Overfills conf targets values old b → a ≡ b
  overfilled_once conf [] values old a b one two = absurd one
  overfilled_once conf (target ∷ targets) [] old a b one two = absurd one
  overfilled_once conf (target ∷ targets) (value ∷ values) old a b (inl long) (inl long') = one_long conf target value a b long long'
  overfilled_once conf (target ∷ targets) (value ∷ values) old a b (inl long) (inr (next, puts, later)) = absurd (not_put conf target value old next a puts long)
  overfilled_once conf (target ∷ targets) (value ∷ values) old a b (inr (next, puts, later)) (inl long) = absurd (not_put conf target value old next b puts long)
  overfilled_once conf (target ∷ targets) (value ∷ values) old a b (inr (next, puts, later)) (inr (next', puts', later')) =
      let same : next' ≡ next = put_once conf target value old next' next puts' puts in
      overfilled_once conf targets values next a b later (subst (λ (doc : Doc). Overfills conf targets values doc b) same later')

  not_filled : (conf : IndexConf) (targets : List IndexColumn) (values : List Val) (old new : Doc) (refusal : Refused) → Fills conf targets values old new → Overfills conf targets values old refusal → ⊥
  not_filled conf [] values old new refusal fills over = over
  not_filled conf (target ∷ targets) [] old new refusal fills over = over
  not_filled conf (target ∷ targets) (value ∷ values) old new refusal (next, puts, fills) (inl long) = not_put conf target value old next refusal puts long
  not_filled conf (target ∷ targets) (value ∷ values) old new refusal (next, puts, fills) (inr (next', puts', later)) =
      let same : next' ≡ next = put_once conf target value old next' next puts' puts in
      not_filled conf targets values next new refusal fills (subst (λ (doc : Doc). Overfills conf targets values doc refusal) same later)

  overfills : (conf : IndexConf) (targets : List IndexColumn) (row : List Val) (refusal : Refused) → RefusesRow conf targets row refusal → Overfills conf targets row (blank conf.schema) refusal
  overfills conf targets row refusal refuses =
      overfills_at conf refuses.place targets row refuses.target refuses.value (blank conf.schema) refuses.doc refusal refuses.good refuses.for refuses.is refuses.too_long

  one_row_refusal : (conf : IndexConf) (targets : List IndexColumn) (row : List Val) (a b : Refused) → RefusesRow conf targets row a → RefusesRow conf targets row b → a ≡ b
  one_row_refusal conf targets row a b one two =
      overfilled_once conf targets row (blank conf.schema) a b (overfills conf targets row a one) (overfills conf targets row b two)

  -- ---- rows
  inserted_once : (conf : IndexConf) (targets : List IndexColumn) (row : List Val) (a b : TxnOp) → Inserts conf targets row a → Inserts conf targets row b → a ≡ b
  inserted_once conf targets row (operations.Insert a) (operations.Insert b) one two = ap operations.Insert (filled_once conf targets row (blank conf.schema) a b one two)
  inserted_once conf targets row (operations.Insert a) b one two = absurd two
  inserted_once conf targets row a b one two = absurd one

  not_inserted : (conf : IndexConf) (targets : List IndexColumn) (row : List Val) (op : TxnOp) (refusal : Refused) → Inserts conf targets row op → RefusesRow conf targets row refusal → ⊥
  not_inserted conf targets row (operations.Insert doc) refusal is refuses = not_filled conf targets row (blank conf.schema) doc refusal is (overfills conf targets row refusal refuses)
  not_inserted conf targets row op refusal is refuses = is

  all_once : (conf : IndexConf) (targets : List IndexColumn) (rows : List (List Val)) (a b : List TxnOp) → AllZip (Inserts conf targets) rows a → AllZip (Inserts conf targets) rows b → a ≡ b
  all_once conf targets [] [] [] one two = refl
  all_once conf targets [] [] (y ∷ b) one two = absurd two
  all_once conf targets [] (x ∷ a) b one two = absurd one
  all_once conf targets (row ∷ rows) [] b one two = absurd one
  all_once conf targets (row ∷ rows) (x ∷ a) [] one two = absurd two
  all_once conf targets (row ∷ rows) (x ∷ a) (y ∷ b) one two =
      ap (λ (op : TxnOp). op ∷ a) (inserted_once conf targets row x y one.0 two.0) ∙ ap (λ (ops : List TxnOp). y ∷ ops) (all_once conf targets rows a b one.1 two.1)

  breaks_at : (conf : IndexConf) (targets : List IndexColumn) (place : ℕ) (rows : List (List Val)) (ops : List TxnOp) (row : List Val) (refusal : Refused)
      → AllZip (Inserts conf targets) (take place rows) ops → slice_get rows place ≡ Some row → RefusesRow conf targets row refusal → Breaks conf targets rows refusal
  breaks_at conf targets place [] ops row refusal good is refuses = none-some row is
  breaks_at conf targets zero (x ∷ rows) ops row refusal good is refuses =
      inl (subst (λ (r : List Val). RefusesRow conf targets r refusal) (at_head x row rows is) refuses)
  breaks_at conf targets (suc place) (x ∷ rows) [] row refusal good is refuses = absurd good
  breaks_at conf targets (suc place) (x ∷ rows) (op ∷ ops) row refusal good is refuses =
      inr (op, good.0, breaks_at conf targets place rows ops row refusal good.1 is refuses)

  broken_once : (conf : IndexConf) (targets : List IndexColumn) (rows : List (List Val)) (a b : Refused) → Breaks conf targets rows a → Breaks conf targets rows b → a ≡ b
  broken_once conf targets [] a b one two = absurd one
  broken_once conf targets (row ∷ rows) a b (inl refuses) (inl refuses') = one_row_refusal conf targets row a b refuses refuses'
  broken_once conf targets (row ∷ rows) a b (inl refuses) (inr (op, is, later)) = absurd (not_inserted conf targets row op a is refuses)
  broken_once conf targets (row ∷ rows) a b (inr (op, is, later)) (inl refuses) = absurd (not_inserted conf targets row op b is refuses)
  broken_once conf targets (row ∷ rows) a b (inr (op, is, later)) (inr (op', is', later')) = broken_once conf targets rows a b later later'

  not_broken : (conf : IndexConf) (targets : List IndexColumn) (rows : List (List Val)) (ops : List TxnOp) (refusal : Refused) → AllZip (Inserts conf targets) rows ops → Breaks conf targets rows refusal → ⊥
  not_broken conf targets [] ops refusal inserts breaks = breaks
  not_broken conf targets (row ∷ rows) [] refusal inserts breaks = inserts
  not_broken conf targets (row ∷ rows) (op ∷ ops) refusal inserts (inl refuses) = not_inserted conf targets row op refusal inserts.0 refuses
  not_broken conf targets (row ∷ rows) (op ∷ ops) refusal inserts (inr (op', is, later)) = not_broken conf targets rows ops refusal inserts.1 later

  breaks : (conf : IndexConf) (targets : List IndexColumn) (rows : List (List Val)) (refusal : Refused) → RefusesRows conf targets rows refusal → Breaks conf targets rows refusal
  breaks conf targets rows refusal refuses = breaks_at conf targets refuses.place rows refuses.ops refuses.row refusal refuses.good refuses.is refuses.refuses

  -- ---- an INSERT
  pub one_values_fault : (conf : IndexConf) (columns : Option (List (List ℕ))) (rows : List (List Val)) (a b : Refused) → RefusesValues conf columns rows a → RefusesValues conf columns rows b → a ≡ b
  one_values_fault conf columns rows a b (inl fault) (inl fault') = one_value (columns_fault conf.schema columns) a b fault fault'
  one_values_fault conf columns rows a b (inl fault) (inr (inl (named, fault'))) = absurd (not_both (columns_fault conf.schema columns) a named fault)
  one_values_fault conf columns rows a b (inl fault) (inr (inr (good, refuses))) = absurd (not_both (columns_fault conf.schema columns) a good.good_columns fault)
  one_values_fault conf columns rows a b (inr (inl (named, fault))) (inl fault') = absurd (not_both (columns_fault conf.schema columns) b named fault')
  one_values_fault conf columns rows a b (inr (inl (named, fault))) (inr (inl (named', fault'))) = one_value (rows_fault conf.schema (targets conf.schema columns) rows) a b fault fault'
  one_values_fault conf columns rows a b (inr (inl (named, fault))) (inr (inr (good, refuses))) = absurd (not_both (rows_fault conf.schema (targets conf.schema columns) rows) a good.good_rows fault)
  one_values_fault conf columns rows a b (inr (inr (good, refuses))) (inl fault) = absurd (not_both (columns_fault conf.schema columns) b good.good_columns fault)
  one_values_fault conf columns rows a b (inr (inr (good, refuses))) (inr (inl (named, fault))) = absurd (not_both (rows_fault conf.schema (targets conf.schema columns) rows) b good.good_rows fault)
  one_values_fault conf columns rows a b (inr (inr (good, refuses))) (inr (inr (good', refuses'))) =
      let list = targets conf.schema columns in
      broken_once conf list rows a b (breaks conf list rows a refuses) (breaks conf list rows b refuses')

  pub one_txn : (conf : IndexConf) (columns : Option (List (List ℕ))) (rows : List (List Val)) (a b : Txn) → Makes conf columns rows a → Makes conf columns rows b → a ≡ b
  one_txn conf columns rows a b one two =
      let ops : a.ops ≡ b.ops = all_once conf (targets conf.schema columns) rows a.ops b.ops one.inserts two.inserts in
      λ i. record { ops = ops i }

  pub not_refused_values : (conf : IndexConf) (columns : Option (List (List ℕ))) (rows : List (List Val)) (txn : Txn) (refusal : Refused)
      → Makes conf columns rows txn → RefusesValues conf columns rows refusal → ⊥
  not_refused_values conf columns rows txn refusal makes (inl fault) = not_both (columns_fault conf.schema columns) refusal makes.good.good_columns fault
  not_refused_values conf columns rows txn refusal makes (inr (inl (named, fault))) =
      not_both (rows_fault conf.schema (targets conf.schema columns) rows) refusal makes.good.good_rows fault
  not_refused_values conf columns rows txn refusal makes (inr (inr (good, refuses))) =
      let list = targets conf.schema columns in
      not_broken conf list rows txn.ops refusal makes.inserts (breaks conf list rows refusal refuses)
