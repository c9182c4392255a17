-- How keywords compare in the code.
use Rattle.std.proofs.Common.{◌≡◌, Bool, true, false, inl, inr, refl, sym, ◌∙◌, subst, rules}
use Rattle.std.proofs.lemmas.Bool.{cases_Bool}
use denote.Enum.Bare.{sameb, same_true, same_false}
use Rattle.ql_grammar.specs.contracts.keyword.Keyword.{the_type}
use Rattle.ql_grammar.specs.declared.keyword.Keyword.{Keyword}
use Rattle.ql_grammar.specs.Keywords.{same_keyword}
use Rattle.ql_grammar.specs.KeywordLaws.{keyword_same, same_to_itself}

pub compared : (v w : Keyword) → sameb the_type v w ≡ same_keyword v w
compared v w = elim (cases_Bool (sameb the_type v w)) [
  | inl same ↦ same ∙ sym (subst (λ (x : Keyword). same_keyword v x ≡ true) (same_true the_type (search rules) v w same) (same_to_itself v))
  | inr other ↦ other ∙ sym (differs (same_keyword v w) refl other)
]
  where
    differs : (b : Bool) → same_keyword v w ≡ b → sameb the_type v w ≡ false → b ≡ false
    differs true is other = absurd (same_false the_type v w other (keyword_same v w is))
    differs false is other = refl
