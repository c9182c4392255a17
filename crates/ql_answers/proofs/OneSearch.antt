-- A SELECT wants one search or is refused for one reason: by the index that it names, or by what it says.
use Rattle.std.proofs.Common.{◌≡◌, ℕ, List, subst, inl, inr}
use Rattle.index_conf.specs.declared.conf.IndexConf.{IndexConf}
use Rattle.ql_tree.specs.declared.select.Select.{Select}
use Rattle.ql_refusals.specs.Refusals.{Refused}
use Rattle.ql_refusals.proofs.Options.{one_value}
use Rattle.ql_select.specs.declared.selection.Selection.{Selection}
use Rattle.ql_select.specs.Selections.{RefusesSelection, Selects}
use Rattle.ql_answers.specs.Indexes.{index_fault}
use Rattle.ql_answers.specs.Reading.{RefusesSelect, WantsSearch}
use Rattle.ql_answers.proofs.OneServed.{not_served, one_conf, one_place}

module _
    (one_selection : (conf : IndexConf) (select : Select) (a b : Selection) → Selects conf select a → Selects conf select b → a ≡ b)
    (one_selection_fault : (conf : IndexConf) (select : Select) (a b : Refused) → RefusesSelection conf select a → RefusesSelection conf select b → a ≡ b)
    (not_refused_selection : (conf : IndexConf) (select : Select) (selection : Selection) (refusal : Refused) → Selects conf select selection → RefusesSelection conf select refusal → ⊥) where
  pub one_search : (confs : List IndexConf) (select : Select) (p q : ℕ) (a b : Selection) → WantsSearch confs select p a → WantsSearch confs select q b → (p ≡ q) × (a ≡ b)
  one_search confs select p q a b one two =
      let confs_are : two.conf ≡ one.conf = one_conf confs select.index q p two.conf one.conf two.serves one.serves in (
        one_place confs select.index p q one.conf two.conf one.serves two.serves,
        one_selection one.conf select a b one.selects (subst (λ (conf : IndexConf). Selects conf select b) confs_are two.selects),
      )

  pub one_refused_select : (confs : List IndexConf) (select : Select) (a b : Refused) → RefusesSelect confs select a → RefusesSelect confs select b → a ≡ b
  one_refused_select confs select a b (inl fault) (inl fault') = one_value (index_fault confs select.index) a b fault fault'
  one_refused_select confs select a b (inl fault) (inr (place, conf, serves, refuses)) = absurd (not_served confs select.index place conf a serves fault)
  one_refused_select confs select a b (inr (place, conf, serves, refuses)) (inl fault) = absurd (not_served confs select.index place conf b serves fault)
  one_refused_select confs select a b (inr (p, conf, serves, refuses)) (inr (q, other, serves', refuses')) =
      let confs_are : other ≡ conf = one_conf confs select.index q p other conf serves' serves in
      one_selection_fault conf select a b refuses (subst (λ (c : IndexConf). RefusesSelection c select b) confs_are refuses')

  pub not_searched : (confs : List IndexConf) (select : Select) (place : ℕ) (selection : Selection) (refusal : Refused) → WantsSearch confs select place selection → RefusesSelect confs select refusal → ⊥
  not_searched confs select place selection refusal wants (inl fault) = not_served confs select.index place wants.conf refusal wants.serves fault
  not_searched confs select place selection refusal wants (inr (q, conf, serves, refuses)) =
      let confs_are : conf ≡ wants.conf = one_conf confs select.index q place conf wants.conf serves wants.serves in
      not_refused_selection wants.conf select selection refusal wants.selects (subst (λ (c : IndexConf). RefusesSelection c select refusal) confs_are refuses)
