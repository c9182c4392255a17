-- Results that are handed on.
use Rattle.std.specs.Prelude.{Result, Ok, Err, IfOk}

-- what follows of a value, where there is one
pub handed : {T E : Type 0} (P Q : T → Type 0) (r : Result T E) → ((x : T) → P x → Q x) → IfOk r P → IfOk r Q
handed P Q (Ok x) each is = each x is
handed P Q (Err e) each is = tt
