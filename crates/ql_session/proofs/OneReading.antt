-- A text is read in one way, since its tokens are.
use Rattle.std.proofs.Common.{◌≡◌, ◌≤◌, ℕ, List, length, sym, ap, subst, ◌∙◌, inl, inr}
use Rattle.ql_lex.specs.declared.fault.LexKind.{LexKind}
use Rattle.ql_lex.specs.Tokens.{AreTokens, FaultAt, Lexeme}
use Rattle.ql_grammar.specs.declared.fault.ParseFault.{ParseFault}
use Rattle.ql_tree.specs.declared.statement.Statement.{Statement}
use Rattle.ql_tree.specs.declared.statement.TheConstants.{MAX_STATEMENTS}
use Rattle.ql_grammar.specs.Packets.{IsFault, IsPacket}
use Rattle.ql_refusals.specs.Refusals.{Refused, bad_syntax, bad_token}
use Rattle.ql_session.specs.Statements.{RefusesText, RefusesTokens, States}

module _
    (one_tokens : (text : List ℕ) (a b : List Lexeme) → AreTokens text a → AreTokens text b → a ≡ b)
    (no_place : (text : List ℕ) (tokens : List Lexeme) (place : ℕ) (kind : LexKind) → AreTokens text tokens → FaultAt text place kind → ⊥)
    (one_place : (text : List ℕ) (p q : ℕ) (j k : LexKind) → FaultAt text p j → FaultAt text q k → (p ≡ q) × (j ≡ k))
    (one_value : (tokens : List Lexeme) (a b : List Statement) → IsPacket a tokens → IsPacket b tokens → a ≡ b)
    (no_fault : (tokens : List Lexeme) (list : List Statement) (fault : ParseFault) → IsPacket list tokens → length list ≤ MAX_STATEMENTS → IsFault tokens fault → ⊥)
    (one_fault : (tokens : List Lexeme) (a b : ParseFault) → IsFault tokens a → IsFault tokens b → a ≡ b) where
  pub one_list : (text : List ℕ) (a b : List Statement) → States text a → States text b → a ≡ b
  one_list text a b (tokens, are, packet, few) (others, are', packet', few') =
      one_value tokens a b packet (subst (λ (ts : List Lexeme). IsPacket b ts) (one_tokens text others tokens are' are) packet')

  one_of_tokens : (tokens : List Lexeme) (a b : Refused) → RefusesTokens tokens a → RefusesTokens tokens b → a ≡ b
  one_of_tokens tokens a b (f, is, says) (g, is', says') = says ∙ ap bad_syntax (one_fault tokens f g is is') ∙ sym says'

  pub one_refusal : (text : List ℕ) (a b : Refused) → RefusesText text a → RefusesText text b → a ≡ b
  one_refusal text a b (inl (f, at, says)) (inl (g, at', says')) =
      let said : ℕ → LexKind → Refused = λ place kind. bad_token (record { place = place; kind = kind }) in
      let same = one_place text f.place g.place f.kind g.kind at at' in
      says ∙ (ap (λ (place : ℕ). said place f.kind) same.0 ∙ ap (λ (kind : LexKind). said g.place kind) same.1) ∙ sym says'
  one_refusal text a b (inl (f, at, says)) (inr (tokens, are, refuses)) = absurd (no_place text tokens f.place f.kind are at)
  one_refusal text a b (inr (tokens, are, refuses)) (inl (g, at, says)) = absurd (no_place text tokens g.place g.kind are at)
  one_refusal text a b (inr (tokens, are, refuses)) (inr (others, are', refuses')) =
      one_of_tokens tokens a b refuses (subst (λ (ts : List Lexeme). RefusesTokens ts b) (one_tokens text others tokens are' are) refuses')

  not_refused : (tokens : List Lexeme) (statements : List Statement) (refusal : Refused) → IsPacket statements tokens → length statements ≤ MAX_STATEMENTS → RefusesTokens tokens refusal → ⊥
  not_refused tokens statements refusal packet few (f, is, says) = no_fault tokens statements f packet few is

  pub not_both : (text : List ℕ) (statements : List Statement) (refusal : Refused) → States text statements → RefusesText text refusal → ⊥
  not_both text statements refusal (tokens, are, packet, few) (inl (f, at, says)) = no_place text tokens f.place f.kind are at
  not_both text statements refusal (tokens, are, packet, few) (inr (others, are', refuses)) =
      not_refused tokens statements refusal packet few (subst (λ (ts : List Lexeme). RefusesTokens ts refusal) (one_tokens text others tokens are' are) refuses)
