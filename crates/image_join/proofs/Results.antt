-- Results that are handed on.
use Rattle.std.specs.Prelude.{Result, Ok, Err, IfOk, OnOk}

-- what follows of a value, where there is one, by what is known of it and of where it comes from
pub handed_with : {T E : Type 0} (P S Q : T → Type 0) (F : Type 0) (r : Result T E) → ((x : T) → P x → S x → F → Q x) → IfOk r P → IfOk r S → OnOk r F → IfOk r Q
handed_with P S Q F (Ok x) each is short few = each x is short few
handed_with P S Q F (Err e) each is short few = tt
