-- Rows are told by their answers.
use Rattle.std.proofs.Common.{◌≡◌, ℕ, ◌+◌, ◌<◌, zero, List, [], ◌∷◌, Bool, true, false, cond, ◌||◌, refl, sym, ap, ◌∙◌, map, arith, All}
use Rattle.std.specs.List.{AllZip, filter, enumerate_from, list_any}
use Rattle.doc_types.specs.declared.documents.DocRow.{DocRow}
use Rattle.doc_types.specs.declared.tokens.FieldTokens.{FieldTokens}
use Rattle.doc_types.specs.declared.tokens.TokenWord.{TokenWord}
use Rattle.doc_types.specs.declared.schema.Schema.{Schema}
use Rattle.doc_types.specs.Documents.{AreRowsOf, IsField}
use Rattle.doc_types.specs.Chunks.{IsContent, hits_of, has_word, is_word, positions_of}
use Rattle.doc_types.proofs.FieldParts.{parts}
use Rattle.doc_types.proofs.Numbers.{All-tail}
use Rattle.chunk_image.specs.AlikeRows.{AnswerAlike, AreAlike, postings}
use Rattle.chunk_image.proofs.OneRow.{row_same}
use Rattle.std.specs.Coded.{codes}
use Rattle.std.proofs.Math.Logic.{∥∥₁_elim}
use Rattle.chunk_image.proofs.ByField.{Above, heads, tails}

-- a row without the word has no place of it
no_places : (word : List ℕ) (tokens : List TokenWord) → list_any (is_word word) tokens ≡ false → map (λ (t : TokenWord). t.position) (filter (is_word word) tokens) ≡ []
no_places word [] e = refl
no_places word (t ∷ ts) e =
    elim (is_word word t) as (λ b. (b || list_any (is_word word) ts) ≡ false → map (λ (t : TokenWord). t.position) (cond b (t ∷ filter (is_word word) ts) (filter (is_word word) ts)) ≡ []) [
      | true ↦ λ no. absurd cc
      | false ↦ λ no. no_places word ts no
    ] e

neither : (b c : Bool) → (b || c) ≡ false → (b ≡ false) × (c ≡ false)
neither true c e = absurd cc
neither false c e = (refl, e)

-- nor has it hits
no_parts : (word : List ℕ) (n : ℕ) (fields : List FieldTokens) → list_any (λ field. list_any (is_word word) field.words) fields ≡ false → parts n (positions_of word) fields ≡ []
no_parts word n [] e = refl
no_parts word n (f ∷ fs) e =
    let rest : list_any (λ field. list_any (is_word word) field.words) fs ≡ false → parts (n + 1) (positions_of word) fs ≡ [] = no_parts word (n + 1) fs in
    let both = neither (list_any (is_word word) f.words) (list_any (λ field. list_any (is_word word) field.words) fs) e in
    rw (no_places word f.words both.0) (rest both.1)

no_hits : (word : List ℕ) (row : DocRow) → has_word word row ≡ false → hits_of word row ≡ []
no_hits word row e = no_parts word 0 row.doc.fields e

-- all rows of a word's list have their numbers above what they begin behind
above_postings : (word : List ℕ) (n m : ℕ) (rows : List DocRow) → n < m → Above n (postings word m rows)
above_postings word n m [] low = tt
above_postings word n m (r ∷ rs) low =
    let rest : Above n (postings word (m + 1) rs) = above_postings word n (m + 1) rs (omega (arith, low)) in
    elim (has_word word r) as (λ b. Above n (map (λ (e : ℕ × DocRow). (e.0, hits_of word e.1)) (cond b ((m, r) ∷ filter (λ e. has_word word e.1) (enumerate_from (m + 1) rs)) (filter (λ e. has_word word e.1) (enumerate_from (m + 1) rs))))) [
      | true ↦ (low, rest)
      | false ↦ rest
    ]

first_above : {X : Type 0} (n : ℕ) (y : X) (ys us : List (ℕ × X)) → Above n us → us ≡ (n, y) ∷ ys → ⊥
first_above n y ys [] above e = absurd cc
first_above n y ys (a ∷ us) above e = let same : a.0 ≡ n = cc in absurd (omega (arith, same, above.0))

abbrev AreFields : DocRow → Type 0
AreFields row = All IsField row.doc.fields

-- the answers for a word, taken apart: those of the first row and those of the others
abbrev Split : List ℕ → ℕ → DocRow → DocRow → List DocRow → List DocRow → Type 0
Split word n r s rs ss = (hits_of word r ≡ hits_of word s) × (postings word (n + 1) rs ≡ postings word (n + 1) ss)

abbrev listed : List ℕ → ℕ → DocRow → List DocRow → Bool → List (ℕ × List (ℕ × ℕ))
listed word n r rs b = map (λ (e : ℕ × DocRow). (e.0, hits_of word e.1)) (cond b ((n, r) ∷ filter (λ e. has_word word e.1) (enumerate_from (n + 1) rs)) (filter (λ e. has_word word e.1) (enumerate_from (n + 1) rs)))

split : (word : List ℕ) (n : ℕ) (r s : DocRow) (rs ss : List DocRow) (b c : Bool) → has_word word r ≡ b → has_word word s ≡ c → listed word n r rs b ≡ listed word n s ss c → Split word n r s rs ss
split word n r s rs ss true true ib ic e = (ap (λ m. m.1) (heads _ _ _ _ e), tails _ _ _ _ e)
split word n r s rs ss true false ib ic e = absurd (first_above n (hits_of word r) (postings word (n + 1) rs) (postings word (n + 1) ss) (above_postings word n (n + 1) ss (omega arith)) (sym e))
split word n r s rs ss false true ib ic e = absurd (first_above n (hits_of word s) (postings word (n + 1) ss) (postings word (n + 1) rs) (above_postings word n (n + 1) rs (omega arith)) e)
split word n r s rs ss false false ib ic e = (no_hits word r ib ∙ sym (no_hits word s ic), e)

told : (n : ℕ) (rows other : List DocRow) → All AreFields rows → All AreFields other → AllZip AreAlike rows other → ((word : List ℕ) → postings word n rows ≡ postings word n other) → rows ≡ other
told n [] [] isr iso aside e = refl
told n [] (s ∷ ss) isr iso aside e = absurd aside
told n (r ∷ rs) [] isr iso aside e = absurd aside
told n (r ∷ rs) (s ∷ ss) isr iso aside e =
    let parts : (word : List ℕ) → Split word n r s rs ss = λ word. split word n r s rs ss (has_word word r) (has_word word s) refl refl (e word) in
    let here : r ≡ s = row_same r s (isr zero r (omega arith)) (iso zero s (omega arith)) aside.0 (λ word. (parts word).0) in
    let rest : rs ≡ ss = told (n + 1) rs ss (All-tail AreFields r rs isr) (All-tail AreFields s ss iso) aside.1 (λ word. (parts word).1) in
    cc

-- rows of schemas with the same answers are the same
pub rows_told : (schema its : Schema) (rows other : List DocRow) → AreRowsOf schema rows → AreRowsOf its other → AnswerAlike rows other → rows ≡ other
rows_told schema its rows other are aro alike = told 0 rows other (λ k d h. (are.docs k d h).tokens) (λ k d h. (aro.docs k d h).tokens) alike.each alike.words

-- lists of rows are a set: two equalities of rows are one
rows_set : IsSet (List DocRow)
rows_set = hlevel codes

-- so what two chunks hold is told by their answers
pub contents_told : (rows other : List DocRow) → ∥ IsContent rows ∥₁ → ∥ IsContent other ∥₁ → AnswerAlike rows other → rows ≡ other
contents_told rows other is its alike = ∥∥₁_elim is (rows_set rows other) (λ a. ∥∥₁_elim its (rows_set rows other) (λ b. rows_told a.schema b.schema rows other a.of b.of alike))
