-- A statement that writes wants one plan or is refused for one reason: by its index, by what it says, or by the transaction that its
-- operations would go into.
use Rattle.std.proofs.Common.{◌≡◌, ℕ, List, Bool, Option, Some, sym, ap, ◌∙◌, inl, inr}
use Rattle.std.proofs.lemmas.Bool.{false≢true}
use Rattle.index_conf.specs.declared.conf.IndexConf.{IndexConf}
use Rattle.doc_types.specs.declared.transactions.Txn.{Txn}
use Rattle.ql_tree.specs.declared.statement.Ids.{Ids}
use Rattle.ql_tree.specs.declared.statement.Statement.TheVariants.{Delete, Insert, TruncateRtindex}
use Rattle.ql_tree.specs.declared.statement.Val.{Val}
use Rattle.ql_refusals.specs.Refusals.{Refused}
use Rattle.ql_refusals.proofs.Options.{not_both, one_value}
use Rattle.ql_insert.specs.Insertions.{Makes, RefusesValues}
use Rattle.ql_answers.specs.declared.plan.Counted.TheVariants.{Nothing, Removed, Rows}
use Rattle.ql_answers.specs.declared.plan.Plan.{Plan}
use Rattle.ql_answers.specs.declared.plan.Plan.TheVariants.{Put}
use Rattle.ql_answers.specs.declared.state.State.{State}
use Rattle.ql_answers.specs.Indexes.{index_fault}
use Rattle.ql_answers.specs.Plans.{Refuses, RefusesDelete, RefusesTruncate, Wants}
use Rattle.ql_answers.specs.Transactions.{clearing, killing, write_fault, written}
use Rattle.ql_answers.proofs.OneInsert.{not_refused_insert, one_insert, one_refused_insert}
use Rattle.ql_answers.proofs.OneServed.{not_served, one_place}

-- the same operations on one index are refused by what is pending, or they aren't
fault_of : (state : State) (p q : ℕ) (a b : Txn) (fault : Option Refused) → p ≡ q → a ≡ b → write_fault state q b ≡ fault → write_fault state p a ≡ fault
fault_of state p q a b fault place txn is = ap (λ (n : ℕ). write_fault state n a) place ∙ ap (write_fault state q) txn ∙ is

module _
    (one_txn : (conf : IndexConf) (columns : Option (List (List ℕ))) (rows : List (List Val)) (a b : Txn) → Makes conf columns rows a → Makes conf columns rows b → a ≡ b)
    (one_values_fault : (conf : IndexConf) (columns : Option (List (List ℕ))) (rows : List (List Val)) (a b : Refused) → RefusesValues conf columns rows a → RefusesValues conf columns rows b → a ≡ b)
    (not_refused_values : (conf : IndexConf) (columns : Option (List (List ℕ))) (rows : List (List Val)) (txn : Txn) (refusal : Refused) → Makes conf columns rows txn → RefusesValues conf columns rows refusal → ⊥)
    (confs : List IndexConf) (state : State) (replace : Bool) (index : List ℕ) (columns : Option (List (List ℕ))) (rows : List (List Val)) where
  pub one_store : (a b : Plan) → Wants confs state (Insert replace index columns rows) a → Wants confs state (Insert replace index columns rows) b → a ≡ b
  one_store a b (p, txn, wants, fits, is) (q, other, wants', fits', is') =
      let same = one_insert one_txn one_values_fault not_refused_values confs replace index columns rows p q txn other wants wants' in
      is ∙ (ap (λ (place : ℕ). written state place txn Rows) same.0 ∙ ap (λ (t : Txn). written state q t Rows) same.1) ∙ sym is'

  pub one_refused_store : (a b : Refused) → Refuses confs state (Insert replace index columns rows) a → Refuses confs state (Insert replace index columns rows) b → a ≡ b
  one_refused_store a b (inl refuses) (inl refuses') = one_refused_insert one_txn one_values_fault not_refused_values confs replace index columns rows a b refuses refuses'
  one_refused_store a b (inl refuses) (inr (place, txn, wants, fault)) = absurd (not_refused_insert one_txn one_values_fault not_refused_values confs replace index columns rows place txn a wants refuses)
  one_refused_store a b (inr (place, txn, wants, fault)) (inl refuses) = absurd (not_refused_insert one_txn one_values_fault not_refused_values confs replace index columns rows place txn b wants refuses)
  one_refused_store a b (inr (p, txn, wants, fault)) (inr (q, other, wants', fault')) =
      let same = one_insert one_txn one_values_fault not_refused_values confs replace index columns rows p q txn other wants wants' in
      one_value (write_fault state p txn) a b fault (fault_of state p q txn other (Some b) same.0 same.1 fault')

  pub not_stored : (plan : Plan) (refusal : Refused) → Wants confs state (Insert replace index columns rows) plan → Refuses confs state (Insert replace index columns rows) refusal → ⊥
  not_stored plan refusal (place, txn, wants, fits, is) (inl refuses) = not_refused_insert one_txn one_values_fault not_refused_values confs replace index columns rows place txn refusal wants refuses
  not_stored plan refusal (p, txn, wants, fits, is) (inr (q, other, wants', fault)) =
      let same = one_insert one_txn one_values_fault not_refused_values confs replace index columns rows p q txn other wants wants' in
      not_both (write_fault state p txn) refusal fits (fault_of state p q txn other (Some refusal) same.0 same.1 fault)

module _ (confs : List IndexConf) (state : State) (index : List ℕ) where
  pub one_delete : (ids : Ids) (a b : Plan) → Wants confs state (Delete index ids) a → Wants confs state (Delete index ids) b → a ≡ b
  one_delete ids a b (p, conf, serves, fits, is) (q, other, serves', fits', is') =
      is ∙ ap (λ (place : ℕ). written state place (killing ids) Removed) (one_place confs index p q conf other serves serves') ∙ sym is'

  pub one_refused_delete : (txn : Txn) (a b : Refused) → RefusesDelete confs state index txn a → RefusesDelete confs state index txn b → a ≡ b
  one_refused_delete txn a b (inl fault) (inl fault') = one_value (index_fault confs index) a b fault fault'
  one_refused_delete txn a b (inl fault) (inr (place, conf, serves, says)) = absurd (not_served confs index place conf a serves fault)
  one_refused_delete txn a b (inr (place, conf, serves, says)) (inl fault) = absurd (not_served confs index place conf b serves fault)
  one_refused_delete txn a b (inr (p, conf, serves, says)) (inr (q, other, serves', says')) =
      one_value (write_fault state p txn) a b says (ap (λ (place : ℕ). write_fault state place txn) (one_place confs index p q conf other serves serves') ∙ says')

  pub not_deleted : (ids : Ids) (plan : Plan) (refusal : Refused) → Wants confs state (Delete index ids) plan → RefusesDelete confs state index (killing ids) refusal → ⊥
  not_deleted ids plan refusal (place, conf, serves, fits, is) (inl fault) = not_served confs index place conf refusal serves fault
  not_deleted ids plan refusal (p, conf, serves, fits, is) (inr (q, other, serves', says)) =
      not_both (write_fault state p (killing ids)) refusal fits (ap (λ (place : ℕ). write_fault state place (killing ids)) (one_place confs index p q conf other serves serves') ∙ says)

  pub one_truncate : (a b : Plan) → Wants confs state (TruncateRtindex index) a → Wants confs state (TruncateRtindex index) b → a ≡ b
  one_truncate a b (p, conf, serves, closed, is) (q, other, serves', closed', is') =
      is ∙ ap (λ (place : ℕ). Put place clearing Nothing) (one_place confs index p q conf other serves serves') ∙ sym is'

  pub one_refused_truncate : (a b : Refused) → RefusesTruncate confs state index a → RefusesTruncate confs state index b → a ≡ b
  one_refused_truncate a b (inl fault) (inl fault') = one_value (index_fault confs index) a b fault fault'
  one_refused_truncate a b (inl fault) (inr (good, is_open, says)) = absurd (not_both (index_fault confs index) a good fault)
  one_refused_truncate a b (inr (good, is_open, says)) (inl fault) = absurd (not_both (index_fault confs index) b good fault)
  one_refused_truncate a b (inr (good, is_open, says)) (inr (good', is_open', says')) = says ∙ sym says'

  pub not_truncated : (plan : Plan) (refusal : Refused) → Wants confs state (TruncateRtindex index) plan → RefusesTruncate confs state index refusal → ⊥
  not_truncated plan refusal (place, conf, serves, closed, is) (inl fault) = not_served confs index place conf refusal serves fault
  not_truncated plan refusal (place, conf, serves, closed, is) (inr (good, is_open, says)) = false≢true (sym closed ∙ is_open)
