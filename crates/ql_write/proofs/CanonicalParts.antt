-- Parts of statements, and the pieces that they are written as: pieces fit where some tokens are the part, and are the part.
use Rattle.std.proofs.Common.{◌≡◌, ℕ, zero, suc, ◌+◌, ◌^◌, ◌<◌, inl, inr, List, [], ◌∷◌, ◌++◌, ℤ, pos, negsuc, neg_ℤ, Option, Some, None, length, refl, sym, ap, ◌∙◌, subst, arith, append-nil, length-append}
use Rattle.std.proofs.Math.ListN.{get_or-append}
use Rattle.std.proofs.lemmas.List.{get_or-append-add}
use Rattle.std.specs.Prelude.{All}
use Rattle.ql_lex.specs.declared.token.Sign.{Sign}
use Rattle.ql_lex.specs.declared.token.Sign.TheVariants as signs
use Rattle.std.specs.Str.{IsUtf8}
use Rattle.ql_lex.specs.Shapes.{IsLexeme, is_name_byte, is_variable_byte, inside}
use Rattle.ql_lex.proofs.TextValues.{unescaped_utf8}
use Rattle.ql_lex.specs.Spacing.{IsSpelled}
use Rattle.ql_lex.specs.Tokens.{Lexeme}
use Rattle.ql_grammar.specs.declared.keyword.Keyword.{Keyword}
use Rattle.ql_grammar.specs.declared.kind.Kind.TheVariants as kinds
use Rattle.ql_grammar.specs.Tokens.{kind, number_value}
use Rattle.ql_grammar.specs.Classes.{is_name}
use Rattle.ql_grammar.specs.Parts.{IsKeyword, AreKeywords, IsSign, IsComma, IsName, IsNumber, IsText, IsVariable, IsWhole, IsEnclosed, AreParens}
use Rattle.token_grammar.specs.Values.{◌then◌, IsAbsent, IsOne, IsGiven, AreGiven, AreListed, AreInRow}
use Rattle.ql_write.specs.Pieces.{Piece, keyword, sign, name, number, text, variable, spelling, whole, listed, in_parentheses, given, given_all, in_row}
use Rattle.ql_write.proofs.CanonicalNames.{IsNameBy, name_facts, variable_facts, number_facts, text_facts, decimal_fits}
use Rattle.ql_write.proofs.CanonicalTexts.{text_fits}
use Rattle.ql_write.proofs.CanonicalPieces.{form, spelled_as, AllFit, Spells, fits, word_fits, word_reads, sign_fits, sign_reads, kind_is, quoted_fits, quoted_kind, quoted_name, variable_fits, variable_kind, variable_name, number_kind, number_is, text_kind, text_is}

abbrev pub AreGood : List Lexeme → Type 0
AreGood u = All (λ t. IsLexeme t.kind t.text) u

-- Where some tokens have the property, the pieces fit, and each tokens that are spelled as the pieces have it.
pub record Stays (P : List Lexeme → Type 0) (ps : List Piece) : Type 0 where
  pub fit : (u : List Lexeme) → AreGood u → P u → AllFit ps
  pub is : (u : List Lexeme) → AreGood u → P u → (v : List Lexeme) → Spells ps v → P v

-- Lists of pieces and of tokens in two.

fit_append : (ps qs : List Piece) → AllFit ps → AllFit qs → AllFit (ps ++ qs)
fit_append [] qs first second = second
fit_append (p ∷ ps) qs (f, first) second = (f, fit_append ps qs first second)

record SpellsBoth (ps qs : List Piece) (v : List Lexeme) : Type 0 where
  front : List Lexeme
  back : List Lexeme
  is : v ≡ front ++ back
  first : Spells ps front
  second : Spells qs back

spells_both : (ps qs : List Piece) (v : List Lexeme) → Spells (ps ++ qs) v → SpellsBoth ps qs v
spells_both [] qs v s = record { front = []; back = v; is = refl; first = refl; second = s }
spells_both (p ∷ ps) qs [] s = absurd s
spells_both (p ∷ ps) qs (t ∷ v) (f, s) =
    let b : SpellsBoth ps qs v = spells_both ps qs v s in
    record { front = t ∷ b.front; back = b.back; is = ap (λ (w : List Lexeme). t ∷ w) b.is; first = (f, b.first); second = b.second }

pub good_front : (a b : List Lexeme) → AreGood (a ++ b) → AreGood a
good_front a b good = λ k d below. subst (λ (t : Lexeme). IsLexeme t.kind t.text) (get_or-append a b d k below) (good k d (omega (arith, length-append a b)))

pub good_back : (a b : List Lexeme) → AreGood (a ++ b) → AreGood b
good_back a b good = λ k d below. subst (λ (t : Lexeme). IsLexeme t.kind t.text) (get_or-append-add a b k d) (good (length a + k) d (omega (arith, length-append a b)))

good_one : (t : Lexeme) → AreGood (t ∷ []) → IsLexeme t.kind t.text
good_one t good = good 0 t (omega arith)

-- Parts in a row, and choices.

pub stays_then : {P Q : List Lexeme → Type 0} {ps qs : List Piece} → Stays P ps → Stays Q qs → Stays (P then Q) (ps ++ qs)
stays_then {P} {Q} {ps} {qs} first second = record {
  fit = λ u good (a, b, e, p, q).
      let both : AreGood (a ++ b) = subst AreGood e good in
      fit_append ps qs (first.fit a (good_front a b both) p) (second.fit b (good_back a b both) q);
  is = λ u good (a, b, e, p, q) v s.
      let both : AreGood (a ++ b) = subst AreGood e good in
      let two : SpellsBoth ps qs v = spells_both ps qs v s in
      (two.front, two.back, two.is, first.is a (good_front a b both) p two.front two.first, second.is b (good_back a b both) q two.back two.second);
}

pub stays_absent : Stays IsAbsent []
stays_absent = record { fit = λ u good p. tt; is = λ u good p v s. s }

pub stays_given : {A : Type 0} {Is : A → List Lexeme → Type 0} {f : A → List Piece} → ((x : A) → Stays (Is x) (f x)) → (o : Option A) → Stays (IsGiven Is o) (given f o)
stays_given each None = stays_absent
stays_given each (Some x) = each x

pub stays_given_all : {A : Type 0} {Are : List A → List Lexeme → Type 0} {f : List A → List Piece} → ((xs : List A) → Stays (Are xs) (f xs)) → (xs : List A) → Stays (AreGiven Are xs) (given_all f xs)
stays_given_all each [] = stays_absent
stays_given_all each (x ∷ xs) = each (x ∷ xs)

pub stays_in_row : {A : Type 0} {Is : A → List Lexeme → Type 0} {f : A → List Piece} → ((x : A) → Stays (Is x) (f x)) → (xs : List A) → Stays (AreInRow Is xs) (in_row f xs)
stays_in_row each [] = stays_absent
stays_in_row each (x ∷ xs) = stays_then (each x) (stays_in_row each xs)

pub stays_listed : {A : Type 0} {Between : List Lexeme → Type 0} {Is : A → List Lexeme → Type 0} {between : Piece} {f : A → List Piece} → Stays Between (between ∷ []) → ((x : A) → Stays (Is x) (f x)) → (xs : List A) → Stays (AreListed Between Is xs) (listed between f xs)
stays_listed m each [] = record { fit = λ u good p. absurd p; is = λ u good p v s. absurd p }
stays_listed {A} {Between} {Is} {between} {f} m each (x ∷ []) = subst (λ ps. Stays (Is x) ps) (sym (append-nil (f x))) (each x)
stays_listed m each (x ∷ y ∷ xs) = stays_then (each x) (stays_then m (stays_listed m each (y ∷ xs)))

-- One token.

one_back : {P : Lexeme → Type 0} (p : Piece) → ((r : Lexeme) → IsSpelled (spelled_as p) r → P r) → (v : List Lexeme) → Spells (p ∷ []) v → IsOne P v
one_back p one [] s = absurd s
one_back p one (r ∷ v) (f, none) = (r, ap (λ (w : List Lexeme). r ∷ w) none, one r f)

pub stays_one : {P : Lexeme → Type 0} (p : Piece) → ((t : Lexeme) → IsLexeme t.kind t.text → P t → IsLexeme (form p) (spelling p)) → ((t : Lexeme) → IsLexeme t.kind t.text → P t → (s : Lexeme) → IsSpelled (spelled_as p) s → P s) → Stays (IsOne P) (p ∷ [])
stays_one {P} p fit is = record {
  fit = λ u good (t, e, q). (fits p (fit t (good_one t (subst AreGood e good)) q), tt);
  is = λ u good (t, e, q) v s. one_back p (λ r. is t (good_one t (subst AreGood e good)) q r) v s;
}

pub word_back : (w : Keyword) (v : List Lexeme) → Spells (keyword w ∷ []) v → IsKeyword w v
word_back w v s = one_back (keyword w) (λ r is. kind_is (keyword w) r is ∙ word_reads w) v s

pub stays_word : (w : Keyword) → Stays (IsKeyword w) (keyword w ∷ [])
stays_word w = stays_one (keyword w) (λ t good e. word_fits w) (λ t good e s is. kind_is (keyword w) s is ∙ word_reads w)

pub stays_words : (v w : Keyword) → Stays (AreKeywords v w) (keyword v ∷ keyword w ∷ [])
stays_words v w = stays_then (stays_word v) (stays_word w)

pub stays_sign : (s : Sign) → Stays (IsSign s) (sign s ∷ [])
stays_sign s = stays_one (sign s) (λ t good e. sign_fits s) (λ t good e r is. kind_is (sign s) r is ∙ sign_reads s)

pub stays_name : (bytes : List ℕ) → Stays (IsName bytes) (name bytes ∷ [])
stays_name bytes = stays_one (name bytes)
    (λ t good (e, v). quoted_fits bytes (subst (λ b. IsNameBy is_name_byte b) (sym v) (name_facts t.kind t.text good e)))
    (λ t good (e, v) s is.
    (ap is_name (quoted_kind bytes s is), quoted_name bytes s (subst (λ b. IsNameBy is_name_byte b) (sym v) (name_facts t.kind t.text good e)).small is))

pub stays_variable : (bytes : List ℕ) → Stays (IsVariable bytes) (variable bytes ∷ [])
stays_variable bytes = stays_one (variable bytes)
    (λ t good (e, v). variable_fits bytes (subst (λ b. IsNameBy is_variable_byte b) (sym v) (variable_facts t.kind t.text good e)))
    (λ t good (e, v) s is.
    (variable_kind bytes s is, variable_name bytes s (subst (λ b. IsNameBy is_variable_byte b) (sym v) (variable_facts t.kind t.text good e)).small is))

below_limit : (n : ℕ) (t : Lexeme) → IsLexeme t.kind t.text → kind t ≡ kinds.Number → n ≡ number_value t → n < 2 ^ 64
below_limit n t good e v = subst (λ m. m < 2 ^ 64) (sym v) (number_facts t.kind t.text good e)

pub stays_number : (n : ℕ) → Stays (IsNumber n) (number n ∷ [])
stays_number n = stays_one (number n)
    (λ t good (e, v). decimal_fits n (below_limit n t good e v))
    (λ t good (e, v) s is. (number_kind n s is, number_is n s (below_limit n t good e v) is))

pub stays_text : (bytes : List ℕ) → Stays (IsText bytes) (text bytes ∷ [])
stays_text bytes = stays_one (text bytes)
    (λ t good (e, v). text_fits bytes (subst IsUtf8 (sym v) (unescaped_utf8 (inside t.text) (text_facts t.kind t.text good e).1)))
    (λ t good (e, v) s is. (text_kind bytes s is, text_is bytes s is))

-- A number, maybe after a `-`; nothing is written without one.

number_back : (n : ℕ) → n < 2 ^ 64 → (v : List Lexeme) → Spells (number n ∷ []) v → IsNumber n v
number_back n below v s = one_back (number n) (λ r is. (number_kind n r is, number_is n r below is)) v s

minus_back : (v : List Lexeme) → Spells (sign signs.Minus ∷ []) v → IsSign signs.Minus v
minus_back v s = one_back (sign signs.Minus) (λ r is. kind_is (sign signs.Minus) r is ∙ sign_reads signs.Minus) v s

negative_back : (n : ℕ) → n < 2 ^ 64 → (v : List Lexeme) → Spells (sign signs.Minus ∷ number n ∷ []) v → (IsSign signs.Minus then IsNumber n) v
negative_back n below v s =
    let b : SpellsBoth (sign signs.Minus ∷ []) (number n ∷ []) v = spells_both (sign signs.Minus ∷ []) (number n ∷ []) v s in
    (b.front, b.back, b.is, minus_back b.front b.first, number_back n below b.back b.second)

number_below : (n : ℕ) (u : List Lexeme) → AreGood u → IsNumber n u → n < 2 ^ 64
number_below n u good (t, e, (f, v)) = below_limit n t (good_one t (subst AreGood e good)) f v

negative_below : (n : ℕ) (u : List Lexeme) → AreGood u → (IsSign signs.Minus then IsNumber n) u → n < 2 ^ 64
negative_below n u good (a, b, e, p, q) = number_below n b (good_back a b (subst AreGood e good)) q

pos_same : (n m : ℕ) → pos n ≡ pos m → n ≡ m
pos_same n m e = cc

negsuc_same : (n m : ℕ) → negsuc n ≡ negsuc m → n ≡ m
negsuc_same n m e = cc

size_by : (n m : ℕ) → n ≡ m → m < 2 ^ 64 → n < 2 ^ 64
size_by n m e below = omega arith

positive_by : (n m : ℕ) → pos n ≡ neg_ℤ (pos m) → n ≡ zero
positive_by n zero e = pos_same n zero e
positive_by n (suc m) e = cc

positive_size : (n : ℕ) (u : List Lexeme) → AreGood u → IsWhole (pos n) u → n < 2 ^ 64
positive_size n u good (inl (m, e, is)) = size_by n m (pos_same n m e) (number_below m u good is)
positive_size n u good (inr (m, e, is)) = size_by n zero (positive_by n m e) (omega arith)

negative_by : (n m : ℕ) → negsuc n ≡ neg_ℤ (pos m) → suc n ≡ m
negative_by n zero e = cc
negative_by n (suc m) e = ap suc (negsuc_same n m e)

negative_size : (n : ℕ) (u : List Lexeme) → AreGood u → IsWhole (negsuc n) u → suc n < 2 ^ 64
negative_size n u good (inl (m, e, is)) = cc
negative_size n u good (inr (m, e, is)) = size_by (suc n) m (negative_by n m e) (negative_below m u good is)

pub stays_whole : (z : ℤ) → Stays (IsWhole z) (whole z)
stays_whole (pos n) = record {
  fit = λ u good p. (fits (number n) (decimal_fits n (positive_size n u good p)), tt);
  is = λ u good p v s. inl (n, refl, number_back n (positive_size n u good p) v s);
}
stays_whole (negsuc n) = record {
  fit = λ u good p. (fits (sign signs.Minus) (sign_fits signs.Minus), (fits (number (suc n)) (decimal_fits (suc n) (negative_size n u good p)), tt));
  is = λ u good p v s. inr (suc n, refl, negative_back (suc n) (negative_size n u good p) v s);
}

pub stays_enclosed : {P : List Lexeme → Type 0} {ps : List Piece} → Stays P ps → Stays (IsEnclosed P) (in_parentheses ps)
stays_enclosed h = stays_then (stays_sign signs.OpenParen) (stays_then h (stays_sign signs.CloseParen))

pub stays_parens : Stays AreParens (in_parentheses [])
stays_parens = stays_then (stays_sign signs.OpenParen) (stays_sign signs.CloseParen)

pub stays_with_commas : {A : Type 0} {Is : A → List Lexeme → Type 0} {f : A → List Piece} → ((x : A) → Stays (Is x) (f x)) → (xs : List A) → Stays (AreListed IsComma Is xs) (listed (sign signs.Comma) f xs)
stays_with_commas each xs = stays_listed (stays_sign signs.Comma) each xs
