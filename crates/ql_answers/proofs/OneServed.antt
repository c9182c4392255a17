-- A name of an index is served in one way: by one index, or for one reason by none.
use Rattle.std.proofs.Common.{◌≡◌, ℕ, List, Some, sym, ap, ◌∙◌}
use Rattle.std.specs.Prelude.{slice_get}
use Rattle.std.proofs.lemmas.Option.{same_Some}
use Rattle.index_conf.specs.declared.conf.IndexConf.{IndexConf}
use Rattle.ql_refusals.specs.Refusals.{Refused}
use Rattle.ql_refusals.proofs.Options.{not_both}
use Rattle.ql_answers.specs.Indexes.{Serves, index_fault}

pub one_place : (confs : List IndexConf) (name : List ℕ) (p q : ℕ) (a b : IndexConf) → Serves confs name p a → Serves confs name q b → p ≡ q
one_place confs name p q a b one two = same_Some p q (sym one.place_is ∙ two.place_is)

pub one_conf : (confs : List IndexConf) (name : List ℕ) (p q : ℕ) (a b : IndexConf) → Serves confs name p a → Serves confs name q b → a ≡ b
one_conf confs name p q a b one two =
    same_Some a b (sym one.is ∙ ap (slice_get confs) (one_place confs name p q a b one two) ∙ two.is)

pub not_served : (confs : List IndexConf) (name : List ℕ) (place : ℕ) (conf : IndexConf) (refusal : Refused) → Serves confs name place conf → index_fault confs name ≡ Some refusal → ⊥
not_served confs name place conf refusal serves fault = not_both (index_fault confs name) refusal serves.good fault
