-- A text that goes on with three parts.
use Rattle.std.proofs.Common.{◌≡◌, ◌∙◌, ℕ, List, ◌++◌, ap, append_assoc}
use Rattle.ql_refusals.specs.Refusals.{Refused}

then_three : (text a b c : List ℕ) → ((text ++ a) ++ b) ++ c ≡ text ++ (a ++ b ++ c)
then_three text a b c = ap (λ (front : List ℕ). front ++ c) (append_assoc text a b) ∙ append_assoc text (a ++ b) c

pub three_parts : (a b c part : List ℕ) (from one two three : Refused) → one ≡ record { code = from.code; text = from.text ++ a } → two ≡ record { code = one.code; text = one.text ++ part } → three ≡ record { code = two.code; text = two.text ++ c } → part ≡ b
    → three ≡ record { code = from.code; text = from.text ++ (a ++ b ++ c) }
three_parts a b c part from one two three first second third same =
    third
    ∙ ap (λ (r : Refused). record { code = r.code; text = r.text ++ c }) second
    ∙ ap (λ (r : Refused). record { code = r.code; text = r.text ++ part ++ c }) first
    ∙ ap (λ (p : List ℕ). record { code = from.code; text = from.text ++ a ++ p ++ c }) same
    ∙ ap (λ (t : List ℕ). record { code = from.code; text = t }) (then_three from.text a b c)
