-- Result sets one after another.
use Rattle.std.proofs.Common.{◌≡◌, ◌∙◌, ℕ, suc, Bool, List, [], ◌∷◌, ◌==◌, length, map, ap, refl}
use Rattle.std.specs.Prelude.{if◌then◌else◌}
use Rattle.std.proofs.Math.Dec.{eqb-suc-zero}
use Rattle.reply_rows.specs.ResultSets.{followed, status_before}
use Rattle.reply_rows.specs.declared.result_set.ResultSet.{ResultSet}

-- the status of a set that these follow
pub own_is : {X : Type 0} (set : X → ResultSet) (rest : List X) (status own : ℕ) (last : Bool) → last ≡ (length rest == 0) → own ≡ (if last then status else followed status) → own ≡ status_before (map set rest) status
own_is set [] status own last is so = so ∙ ap (λ (b : Bool). if b then status else followed status) is
own_is set (x ∷ rest) status own last is so = so ∙ ap (λ (b : Bool). if b then status else followed status) (is ∙ eqb-suc-zero (length rest))
