-- Tokens are a packet of one list of statements only.
use Rattle.std.proofs.Common.{◌≡◌, zero, List, [], ◌∷◌, ◌++◌, refl, sym, ◌∙◌, ap, subst, append_assoc, append-nil}
use Rattle.ql_lex.specs.declared.token.Sign.TheVariants as signs
use Rattle.ql_lex.specs.Tokens.{Lexeme}
use Rattle.ql_tree.specs.declared.statement.Statement.{Statement}
use Rattle.token_grammar.specs.Language.{seq, In}
use Rattle.ql_grammar.specs.Terminals.{sign}
use Rattle.ql_grammar.specs.steps.Grammar.{statement, more_statements}
use Rattle.ql_grammar.specs.Packets.{IsPacket}
use Rattle.ql_grammar.specs.Parts.{IsSign}
use Rattle.token_grammar.specs.Values.{AreListed}
use Rattle.ql_grammar.specs.steps.GoingOn.{select_goes_on}
use Rattle.ql_grammar.specs.Statements.{IsStatement}
use Rattle.token_grammar.proofs.Once.{StartsApart, follows}
use Rattle.token_grammar.proofs.OnceChoices.{Parted, as_row, parted_after, parted_first, parted_left}
use Rattle.ql_parse.proofs.OnceParts.{once_sign}
use Rattle.ql_parse.proofs.OnceStatements.{once_statement}
use Rattle.ql_grammar.proofs.PacketAgreement.{IsEnding, ending_text}
use Rattle.ql_grammar.specs.Alphabet.{sphinxql}

nothing_apart : (p : List Lexeme) → StartsApart sphinxql [] p
nothing_apart [] = tt
nothing_apart (t ∷ p) = refl

-- a statement goes on neither with the end of a packet ..
ending_apart : (p : List Lexeme) → IsEnding p → StartsApart sphinxql select_goes_on p
ending_apart p end = subst (λ w. StartsApart sphinxql select_goes_on w) (append-nil p) (follows sphinxql select_goes_on (more_statements zero) p [] refl (ending_text zero p end) (λ e. tt))

-- .. nor with a separator
separator_apart : (b w : List Lexeme) → IsSign signs.Semicolon b → StartsApart sphinxql select_goes_on (b ++ w)
separator_apart b w s = follows sphinxql select_goes_on (sign signs.Semicolon) b w refl ((once_sign signs.Semicolon).text tt b s) (λ e. cc)

abbrev AreStatements : List Statement → List Lexeme → Type 0
AreStatements = AreListed (IsSign signs.Semicolon) IsStatement

-- another statement isn't the end
more_or_end : Parted sphinxql [] (more_statements zero) (seq (sign signs.Semicolon) statement)
more_or_end = parted_left (parted_after (parted_first refl refl refl)) (parted_first refl refl refl)

not_ended : (y : Statement) (ys : List Statement) (p b d q : List Lexeme) → IsEnding p → IsSign signs.Semicolon b → AreStatements (y ∷ ys) d → p ≡ b ++ (d ++ q) → ⊥
unfolding In
not_ended y ys p b d q end s rest g =
    let (a, c, e, k, row) = as_row (IsSign signs.Semicolon) IsStatement y ys d rest in
    more_or_end.never p (b ++ a) [] (c ++ q) (ending_text zero p end) (b, a, refl, (once_sign signs.Semicolon).text tt b s, once_statement.text y a k)
    (append-nil p ∙ g ∙ ap (λ w. b ++ w) (ap (λ w. w ++ q) e ∙ append_assoc a c q) ∙ sym (append_assoc b a (c ++ q))) tt (nothing_apart (c ++ q))

regrouped : (a b d q bd v : List Lexeme) → v ≡ a ++ bd → bd ≡ b ++ d → v ++ q ≡ a ++ (b ++ (d ++ q))
regrouped a b d q bd v e f = ap (λ w. w ++ q) (e ∙ ap (λ w. a ++ w) f) ∙ append_assoc a (b ++ d) q ∙ ap (λ w. a ++ w) (append_assoc b d q)

once_statements : (xs ys : List Statement) (u v p q : List Lexeme) → AreStatements xs u → AreStatements ys v → IsEnding p → IsEnding q → u ++ p ≡ v ++ q → xs ≡ ys
once_statements [] ys u v p q i j hp hq g = absurd i
once_statements (x ∷ []) [] u v p q i j hp hq g = absurd j
once_statements (x ∷ x' ∷ xs) [] u v p q i j hp hq g = absurd j
once_statements (x ∷ []) (y ∷ []) u v p q i j hp hq g =
    let (m, n, o) = once_statement.once x y u v p q i j g (ending_apart p hp) (ending_apart q hq) in ap (λ (z : Statement). z ∷ []) m
once_statements (x ∷ []) (y ∷ y' ∷ ys) u v p q i (a, bd, e, k, (b, d, f, s, rest)) hp hq g =
    let (m, n, o) = once_statement.once x y u a p (b ++ (d ++ q)) i k (g ∙ regrouped a b d q bd v e f) (ending_apart p hp) (separator_apart b (d ++ q) s) in
    absurd (not_ended y' ys p b d q hp s rest o)
once_statements (x ∷ x' ∷ xs) (y ∷ []) u v p q (a, bd, e, k, (b, d, f, s, rest)) j hp hq g =
    let (m, n, o) = once_statement.once x y a v (b ++ (d ++ p)) q k j (sym (regrouped a b d p bd u e f) ∙ g) (separator_apart b (d ++ p) s) (ending_apart q hq) in
    absurd (not_ended x' xs q b d p hq s rest (sym o))
once_statements (x ∷ x' ∷ xs) (y ∷ y' ∷ ys) u v p q (a, bd, e, k, (b, d, f, s, rest)) (a', bd', e', k', (b', d', f', s', rest')) hp hq g =
    let all : a ++ (b ++ (d ++ p)) ≡ a' ++ (b' ++ (d' ++ q)) = sym (regrouped a b d p bd u e f) ∙ g ∙ regrouped a' b' d' q bd' v e' f' in
    let (m, n, o) = once_statement.once x y a a' (b ++ (d ++ p)) (b' ++ (d' ++ q)) k k' all (separator_apart b (d ++ p) s) (separator_apart b' (d' ++ q) s') in
    let (m', n', o') = (once_sign signs.Semicolon).once tt tt b b' (d ++ p) (d' ++ q) s s' o (nothing_apart (d ++ p)) (nothing_apart (d' ++ q)) in
    ap (λ (z : Statement). z ∷ x' ∷ xs) m ∙ ap (λ (zs : List Statement). y ∷ zs) (once_statements (x' ∷ xs) (y' ∷ ys) d d' p q rest rest' hp hq o')

pub one_packet : (tokens : List Lexeme) (a b : List Statement) → IsPacket a tokens → IsPacket b tokens → a ≡ b
one_packet tokens a b (u, p, e, i, hp) (v, q, f, j, hq) = once_statements a b u v p q i j hp hq (sym e ∙ f)
