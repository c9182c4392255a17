-- Tokens with one space between them are read as themselves.
use Rattle.std.proofs.Common.{◌≡◌, ◌≢◌, ℕ, suc, ◌+◌, ◌-◌, ◌<◌, ◌≤◌, Bool, true, false, ◌&&◌, if◌then◌else◌, List, [], ◌∷◌, ◌++◌, Option, None, length, get_or, take, drop, slice_range, refl, sym, ap, ◌∙◌, subst, arith, append_assoc, append-nil, length-append, eqb}
use Rattle.std.proofs.Math.Seq.{take-append_seam, drop-append_seam, take-append-add}
use Rattle.std.proofs.lemmas.List.{get_or-append-add}
use Rattle.std.specs.Char.{is_ascii_digit}
use Rattle.std.specs.Prelude.{IsSome}
use Rattle.ql_lex.specs.declared.part.Part.{Part}
use Rattle.ql_lex.specs.declared.part.Part.TheVariants.{Blank, Token as TokenPart}
use Rattle.ql_lex.specs.declared.token.Sign.{Sign}
use Rattle.ql_lex.specs.declared.token.TokenKind.{TokenKind}
use Rattle.ql_lex.specs.declared.token.TokenKind.TheVariants as forms
use Rattle.ql_lex.specs.Shapes.{is_blank, is_name_byte, is_variable_byte, sign_of, sign_of_two, IsLexeme}
use Rattle.ql_lex.specs.Tokens.{IsToken, IsWhole, Splits, tokens_among}
use Rattle.ql_lex.specs.Spacing.{Spelling, IsSpelling, AreSpellings, spaced, AreSpelled, HasTokens}

-- A token ends before a space, and at the end of the text.
pub data Ends (rest : List ℕ) : Type 0 where
  at_end : rest ≡ [] → Ends rest
  at_space : (more : List ℕ) → rest ≡ 32 ∷ more → Ends rest

-- what stands at a place
slice_here : (before s rest : List ℕ) → slice_range (before ++ (s ++ rest)) (length before) (length before + length s) ≡ s
slice_here before s rest =
    let size : length before + length s - length before ≡ length s = omega arith in
    ap (λ n. take n (drop (length before) (before ++ (s ++ rest)))) size
    ∙ ap (λ v. take (length s) v) (drop-append_seam before (s ++ rest))
    ∙ take-append_seam s rest

next_byte : (before s rest : List ℕ) → get_or (before ++ (s ++ rest)) (length before + length s) 0 ≡ get_or rest 0 0
next_byte before s rest =
    let e : length s ≡ length s + 0 = omega arith in
    get_or-append-add before (s ++ rest) (length s) 0
    ∙ ap (λ n. get_or (s ++ rest) n 0) e
    ∙ get_or-append-add s rest 0 0

-- no token that ends at a byte of the test goes on at a token's end
ends_by : (test : ℕ → Bool) → test 0 ≡ false → test 32 ≡ false → (rest : List ℕ) → Ends rest → test (get_or rest 0 0) ≡ false
ends_by test none space rest (at_end e) = ap (λ (v : List ℕ). test (get_or v 0 0)) e ∙ none
ends_by test none space rest (at_space more e) = ap (λ (v : List ℕ). test (get_or v 0 0)) e ∙ space

no_point : (rest : List ℕ) → Ends rest → get_or rest 0 0 ≢ 46
no_point rest (at_end e) = λ (is : get_or rest 0 0 ≡ 46). let f : get_or rest 0 0 ≡ 0 = ap (λ (v : List ℕ). get_or v 0 0) e in absurd (omega arith)
no_point rest (at_space more e) = λ (is : get_or rest 0 0 ≡ 46). let f : get_or rest 0 0 ≡ 32 = ap (λ (v : List ℕ). get_or v 0 0) e in absurd (omega arith)

and_none : (p : Bool) (x y : Option Sign) → (if p && false then x else y) ≡ y
and_none true x y = refl
and_none false x y = refl

one_ends : (a : ℕ) → sign_of_two a 32 ≡ None
one_ends a = and_none (eqb a 33) _ _ ∙ and_none (eqb a 60) _ _ ∙ and_none (eqb a 60) _ _ ∙ and_none (eqb a 62) _ _

-- no sign goes on with a space
sign_ends : (s xs : List ℕ) → IsSome (sign_of s) → sign_of (s ++ 32 ∷ xs) ≡ None
sign_ends [] xs some = cc
sign_ends (a ∷ []) [] some = one_ends a
sign_ends (a ∷ []) (x ∷ xs) some = refl
sign_ends (a ∷ b ∷ []) xs some = refl
sign_ends (a ∷ b ∷ c ∷ s) xs some = refl

-- more than a part is the part, and what follows it
slice_further : (before s rest : List ℕ) (n : ℕ) → slice_range (before ++ (s ++ rest)) (length before) (length before + length s + n) ≡ s ++ take n rest
slice_further before s rest n =
    let size : length before + length s + n - length before ≡ length s + n = omega arith in
    ap (λ m. take m (drop (length before) (before ++ (s ++ rest)))) size
    ∙ ap (λ v. take (length s + n) v) (drop-append_seam before (s ++ rest))
    ∙ take-append-add s rest n

sign_whole : (s before rest : List ℕ) → IsSome (sign_of s) → Ends rest → (further : ℕ) → length before + length s < further → further ≤ length (before ++ (s ++ rest)) → sign_of (slice_range (before ++ (s ++ rest)) (length before) further) ≡ None
sign_whole s before rest some (at_end e) further above within =
    let size : length (before ++ (s ++ rest)) ≡ length before + length s + length rest = omega (arith, length-append before (s ++ rest), length-append s rest) in
    let none : length rest ≡ 0 = ap length e in
    absurd (omega arith)
sign_whole s before rest some (at_space more e) further above within =
    let n : ℕ = further - (length before + length s) - 1 in
    let to : further ≡ length before + length s + suc n = omega arith in
    ap (λ m. sign_of (slice_range (before ++ (s ++ rest)) (length before) m)) to
    ∙ ap sign_of (slice_further before s rest (suc n))
    ∙ ap (λ (v : List ℕ). sign_of (s ++ take (suc n) v)) e
    ∙ sign_ends s (take n more) some

whole_here : (kind : TokenKind) (s before rest : List ℕ) → IsLexeme kind s → (kind ≡ forms.End → ⊥) → Ends rest → IsWhole kind (before ++ (s ++ rest)) (length before) (length before + length s)
whole_here forms.Name s before rest is other ends = ap is_name_byte (next_byte before s rest) ∙ ends_by is_name_byte refl refl rest ends
whole_here forms.Sign s before rest is other ends = sign_whole s before rest is ends
whole_here forms.Quoted s before rest is other ends = tt
whole_here forms.Number s before rest is other ends =
    let next : get_or (before ++ (s ++ rest)) (length before + length s) 0 ≡ get_or rest 0 0 = next_byte before s rest in
    (ap is_ascii_digit next ∙ ends_by is_ascii_digit refl refl rest ends, λ is. no_point rest ends (sym next ∙ is))
whole_here forms.Text s before rest is other ends = tt
whole_here forms.SysVar s before rest is other ends = ap is_variable_byte (next_byte before s rest) ∙ ends_by is_variable_byte refl refl rest ends
whole_here forms.End s before rest is other ends = other refl

token_here : (s : Spelling) (before rest : List ℕ) → IsSpelling s → Ends rest → IsToken s.kind (before ++ (s.bytes ++ rest)) (length before) (length before + length s.bytes)
token_here s before rest is ends = record {
  within = omega (arith, length-append before (s.bytes ++ rest), length-append s.bytes rest);
  lexeme = subst (λ v. IsLexeme s.kind v) (sym (slice_here before s.bytes rest)) is.lexeme;
  whole = whole_here s.kind s.bytes before rest is.lexeme is.other ends;
}

-- From a place on the text is these tokens.
record Lexed (ps : List Spelling) (body : List ℕ) (from : ℕ) : Type 0 where
  parts : List Part
  splits : Splits body from parts (length body)
  spells : AreSpelled ps (tokens_among body from parts)

lexed : (ps : List Spelling) (before : List ℕ) → AreSpellings ps → Lexed ps (before ++ spaced ps) (length before)
lexed [] before fit = record { parts = []; splits = ap length (sym (append-nil before)); spells = refl }
lexed (p ∷ []) before (fits, none) =
    let l : Lexed (p ∷ []) (before ++ (p.bytes ++ [])) (length before) = record {
      parts = TokenPart (p.kind) (length before + length (p.bytes)) ∷ [];
      splits = (token_here p before [] fits (at_end refl), omega (arith, length-append before (p.bytes ++ []), length-append (p.bytes) []));
      spells = (record { kind = refl; bytes = slice_here before (p.bytes) [] }, refl);
    } in
    subst (λ (v : List ℕ). Lexed (p ∷ []) (before ++ v) (length before)) (append-nil (p.bytes)) l
lexed (p ∷ q ∷ ps) before (fits, fit) =
    let rest : List ℕ = 32 ∷ spaced (q ∷ ps) in
    let to : ℕ = length before + length (p.bytes) in
    let body : List ℕ = before ++ (p.bytes ++ rest) in
    let e : (before ++ (p.bytes ++ 32 ∷ [])) ++ spaced (q ∷ ps) ≡ body = append_assoc before (p.bytes ++ 32 ∷ []) (spaced (q ∷ ps)) ∙ ap (λ v. before ++ v) (append_assoc (p.bytes) (32 ∷ []) (spaced (q ∷ ps))) in
    let size : length (before ++ (p.bytes ++ 32 ∷ [])) ≡ to + 1 = omega (arith, length-append before (p.bytes ++ 32 ∷ []), length-append (p.bytes) (32 ∷ [])) in
    let l : Lexed (q ∷ ps) body (to + 1) = subst (λ (v : List ℕ). Lexed (q ∷ ps) v (to + 1)) e (subst (λ (n : ℕ). Lexed (q ∷ ps) ((before ++ (p.bytes ++ 32 ∷ [])) ++ spaced (q ∷ ps)) n) size (lexed (q ∷ ps) (before ++ (p.bytes ++ 32 ∷ [])) fit)) in
    record {
      parts = TokenPart (p.kind) to ∷ Blank ∷ l.parts;
      splits = (token_here p before rest fits (at_space (spaced (q ∷ ps)) refl), (ap is_blank (next_byte before (p.bytes) rest), l.splits));
      spells = (record { kind = refl; bytes = slice_here before (p.bytes) rest }, l.spells);
    }

pub spaced_tokens : (list : List Spelling) → AreSpellings list → HasTokens (spaced list) list
spaced_tokens list are =
    let l : Lexed list (spaced list) 0 = lexed list [] are in
    record {
      front = tokens_among (spaced list) 0 l.parts;
      are = record { parts = l.parts; splits = l.splits; are = refl };
      spelled = l.spells;
    }
