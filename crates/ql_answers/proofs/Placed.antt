-- The index that stands at a name's place.
use Rattle.std.proofs.Common.{◌≡◌, ◌<◌, ℕ, zero, suc, List, [], ◌∷◌, Some, None, length, refl, arith}
use Rattle.std.specs.Prelude.{slice_get}
use Rattle.index_conf.specs.declared.conf.IndexConf.{IndexConf}
use Rattle.ql_answers.specs.Indexes.{Serves, index_fault, place_of}

held : {X : Type 0} (xs : List X) (i : ℕ) → i < length xs → (x : X) × (slice_get xs i ≡ Some x)
held [] i low = absurd (omega (arith, low))
held (x ∷ xs) zero low = (x, refl)
held (x ∷ xs) (suc i) low = held xs i (omega (arith, low))

pub placed : (confs : List IndexConf) (name : List ℕ) (place : ℕ) → index_fault confs name ≡ None → place_of confs name ≡ Some place → place < length confs → (conf : IndexConf) × Serves confs name place conf
placed confs name place good is low = let one = held confs place low in (one.0, record { good = good; place_is = is; is = one.1 })
