-- The grammar of packets and their statements: as many as it has room for.
use Rattle.std.proofs.Common.{arith, ◌≡◌, ◌≤◌, ℕ, zero, suc, length, List, [], ◌∷◌, ◌++◌, inl, inr, refl, sym, ◌∙◌, ap, subst, append_assoc}
use Rattle.ql_lex.specs.declared.token.Sign.TheVariants as signs
use Rattle.ql_lex.specs.Tokens.{Lexeme}
use Rattle.ql_tree.specs.declared.statement.Statement.{Statement}
use Rattle.ql_grammar.specs.Tokens.{kind}
use Rattle.ql_grammar.specs.Classes.{the_end, fits}
use Rattle.token_grammar.specs.Language.{one, In}
use Rattle.ql_grammar.specs.steps.Grammar.{more_statements, packet}
use Rattle.ql_grammar.specs.Parts.{IsSign}
use Rattle.token_grammar.specs.Values.{◌then◌, IsPerhaps, AreListed}
use Rattle.ql_grammar.specs.Packets.{IsEnd, IsPacket}
use Rattle.ql_grammar.specs.Statements.{IsStatement}
use Rattle.ql_grammar.proofs.Agreement.{agree_sign}
use Rattle.token_grammar.proofs.Agreement.{Agrees}
use Rattle.ql_grammar.proofs.StatementAgreement.{statement_agrees}
use Rattle.ql_grammar.proofs.ClassKinds.{end_is}
use Rattle.ql_grammar.specs.Alphabet.{sphinxql}

pub agree_end : Agrees sphinxql (one the_end) IsEnd
unfolding In
agree_end = record {
  text = λ x u (t, e, k). (t, e, ap (fits the_end) k);
  value = λ u (t, e, f). (tt, (t, e, end_is (kind t) f));
}

-- [;] end
abbrev pub IsEnding : List Lexeme → Type 0
IsEnding = IsPerhaps (IsSign signs.Semicolon) then IsEnd

pub ending_text : (n : ℕ) (v : List Lexeme) → IsEnding v → In sphinxql (more_statements n) v
unfolding In
ending_text zero v (a, b, e, inl s, end) = inl (a, b, e, (agree_sign signs.Semicolon).text tt a s, agree_end.text tt b end)
ending_text zero v (a, b, e, inr none, end) = inr (subst (λ w. In sphinxql (one the_end) w) (sym (e ∙ ap (λ w. w ++ b) none)) (agree_end.text tt b end))
ending_text (suc n) v (a, b, e, inl s, end) = inl (a, b, e, (agree_sign signs.Semicolon).text tt a s, inr (agree_end.text tt b end))
ending_text (suc n) v (a, b, e, inr none, end) = inr (subst (λ w. In sphinxql (one the_end) w) (sym (e ∙ ap (λ w. w ++ b) none)) (agree_end.text tt b end))

statements_text : (n : ℕ) (list : List Statement) (u v : List Lexeme) → AreListed (IsSign signs.Semicolon) IsStatement list u → IsEnding v → length list ≤ suc n → In sphinxql (packet n) (u ++ v)
unfolding In
statements_text n [] u v h end few = absurd h
statements_text n (x ∷ []) u v h end few = (u, v, refl, statement_agrees.text x u h, ending_text n v end)
statements_text zero (x ∷ y ∷ list) u v h end few = absurd (omega arith)
statements_text (suc n) (x ∷ y ∷ list) u v (a, bc, e, p, (b, c, f, s, rest)) end few =
    let fewer : length (y ∷ list) ≤ suc n = omega arith in (
      a,
      b ++ (c ++ v),
      ap (λ w. w ++ v) (e ∙ ap (λ w. a ++ w) f) ∙ append_assoc a (b ++ c) v ∙ ap (λ w. a ++ w) (append_assoc b c v),
      statement_agrees.text x a p,
      inl (b, c ++ v, refl, (agree_sign signs.Semicolon).text tt b s, inl (statements_text n (y ∷ list) c v rest end fewer)),
    )

-- A packet of so few statements is a text, ..
pub packet_text : (n : ℕ) (list : List Statement) (u : List Lexeme) → IsPacket list u → length list ≤ suc n → In sphinxql (packet n) u
packet_text n list u (a, b, e, h, end) few = subst (λ w. In sphinxql (packet n) w) (sym e) (statements_text n list a b h end few)

-- The statements of a text, and that they are so few.
Packet : ℕ → List Lexeme → Type 0
Packet n u = (list : List Statement) × IsPacket list u × (length list ≤ suc n)

one_more : (n : ℕ) (x : Statement) (u a s t : List Lexeme) → u ≡ a ++ (s ++ t) → IsStatement x a → IsSign signs.Semicolon s → Packet n t → Packet (suc n) u
unfolding Packet
one_more n x u a s t e p q ([], (c, d, f, h, end), few) = absurd h
one_more n x u a s t e p q (y ∷ list, (c, d, f, h, end), few) =
    let fewer : length (x ∷ y ∷ list) ≤ suc (suc n) = omega arith in
    (x ∷ y ∷ list, (a ++ (s ++ c), d, e ∙ ap (λ w. a ++ (s ++ w)) f ∙ sym (append_assoc a (s ++ c) d ∙ ap (λ w. a ++ w) (append_assoc s c d)), (a, s ++ c, refl, p, (s, c, refl, q, h)), end), fewer)

last_one : (n : ℕ) (x : Statement) (u a b : List Lexeme) → u ≡ a ++ b → IsStatement x a → IsEnding b → Packet n u
unfolding Packet
last_one n x u a b e p end =
    let few : length (x ∷ []) ≤ suc n = omega arith in
    (x ∷ [], (a, b, e, p, end), few)

packet_of : (n : ℕ) (u : List Lexeme) → In sphinxql (packet n) u → Packet n u
unfolding In
packet_of zero u (a, b, e, i, inl (s, t, f, j, k)) =
    let (x, p) = statement_agrees.value a i in
    last_one zero x u a b e p (s, t, f, inl ((agree_sign signs.Semicolon).value s j).1, (agree_end.value t k).1)
packet_of zero u (a, b, e, i, inr k) =
    let (x, p) = statement_agrees.value a i in
    last_one zero x u a b e p ([], b, refl, inr refl, (agree_end.value b k).1)
packet_of (suc n) u (a, b, e, i, inl (s, t, f, j, inl rest)) =
    let (x, p) = statement_agrees.value a i in
    one_more n x u a s t (e ∙ ap (λ w. a ++ w) f) p ((agree_sign signs.Semicolon).value s j).1 (packet_of n t rest)
packet_of (suc n) u (a, b, e, i, inl (s, t, f, j, inr k)) =
    let (x, p) = statement_agrees.value a i in
    last_one (suc n) x u a b e p (s, t, f, inl ((agree_sign signs.Semicolon).value s j).1, (agree_end.value t k).1)
packet_of (suc n) u (a, b, e, i, inr k) =
    let (x, p) = statement_agrees.value a i in
    last_one (suc n) x u a b e p ([], b, refl, inr refl, (agree_end.value b k).1)

-- .. and each text is such a packet.
pub packet_value : (n : ℕ) (u : List Lexeme) → In sphinxql (packet n) u → (list : List Statement) × IsPacket list u × (length list ≤ suc n)
unfolding Packet
packet_value n u i = packet_of n u i
