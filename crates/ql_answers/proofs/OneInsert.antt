-- The rows of an INSERT or a REPLACE become one transaction or are refused for one reason: by the index that it names, or by their
-- values.
use Rattle.std.proofs.Common.{◌≡◌, ℕ, List, Bool, Option, sym, ap, subst, ◌∙◌, inl, inr}
use Rattle.index_conf.specs.declared.conf.IndexConf.{IndexConf}
use Rattle.doc_types.specs.declared.transactions.Txn.{Txn}
use Rattle.ql_tree.specs.declared.statement.Val.{Val}
use Rattle.ql_refusals.specs.Refusals.{Refused}
use Rattle.ql_refusals.proofs.Options.{one_value}
use Rattle.ql_insert.specs.Insertions.{Makes, RefusesValues}
use Rattle.ql_answers.specs.Indexes.{index_fault}
use Rattle.ql_answers.specs.Transactions.{stored}
use Rattle.ql_answers.specs.Writing.{RefusesStore, WantsStore}
use Rattle.ql_answers.proofs.OneServed.{not_served, one_conf, one_place}

module _
    (one_txn : (conf : IndexConf) (columns : Option (List (List ℕ))) (rows : List (List Val)) (a b : Txn) → Makes conf columns rows a → Makes conf columns rows b → a ≡ b)
    (one_values_fault : (conf : IndexConf) (columns : Option (List (List ℕ))) (rows : List (List Val)) (a b : Refused) → RefusesValues conf columns rows a → RefusesValues conf columns rows b → a ≡ b)
    (not_refused_values : (conf : IndexConf) (columns : Option (List (List ℕ))) (rows : List (List Val)) (txn : Txn) (refusal : Refused) → Makes conf columns rows txn → RefusesValues conf columns rows refusal → ⊥)
    (confs : List IndexConf) (replace : Bool) (index : List ℕ) (columns : Option (List (List ℕ))) (rows : List (List Val)) where
  pub one_insert : (p q : ℕ) (a b : Txn) → WantsStore confs replace index columns rows p a → WantsStore confs replace index columns rows q b → (p ≡ q) × (a ≡ b)
  one_insert p q a b one two =
      let confs_are : two.conf ≡ one.conf = one_conf confs index q p two.conf one.conf two.serves one.serves in
      let makes = subst (λ (conf : IndexConf). Makes conf columns rows two.inserted) confs_are two.makes in (
        one_place confs index p q one.conf two.conf one.serves two.serves,
        one.is ∙ ap (stored replace) (one_txn one.conf columns rows one.inserted two.inserted one.makes makes) ∙ sym two.is,
      )

  pub one_refused_insert : (a b : Refused) → RefusesStore confs index columns rows a → RefusesStore confs index columns rows b → a ≡ b
  one_refused_insert a b (inl fault) (inl fault') = one_value (index_fault confs index) a b fault fault'
  one_refused_insert a b (inl fault) (inr (place, conf, serves, refuses)) = absurd (not_served confs index place conf a serves fault)
  one_refused_insert a b (inr (place, conf, serves, refuses)) (inl fault) = absurd (not_served confs index place conf b serves fault)
  one_refused_insert a b (inr (p, conf, serves, refuses)) (inr (q, other, serves', refuses')) =
      let confs_are : other ≡ conf = one_conf confs index q p other conf serves' serves in
      one_values_fault conf columns rows a b refuses (subst (λ (c : IndexConf). RefusesValues c columns rows b) confs_are refuses')

  pub not_refused_insert : (place : ℕ) (txn : Txn) (refusal : Refused) → WantsStore confs replace index columns rows place txn → RefusesStore confs index columns rows refusal → ⊥
  not_refused_insert place txn refusal wants (inl fault) = not_served confs index place wants.conf refusal wants.serves fault
  not_refused_insert place txn refusal wants (inr (q, conf, serves, refuses)) =
      let confs_are : conf ≡ wants.conf = one_conf confs index q place conf wants.conf serves wants.serves in
      not_refused_values wants.conf columns rows wants.inserted refusal wants.makes (subst (λ (c : IndexConf). RefusesValues c columns rows refusal) confs_are refuses)
