-- The rows that have a word are the entries of its list.
use Rattle.std.proofs.Common.{◌≡◌, ℕ, ◌+◌, ◌<◌, ◌≤◌, Bool, true, false, cond, eqb, eq-eqb, List, [], ◌∷◌, ◌++◌, ◌||◌, length, map, refl, sym, ap, ◌∙◌, arith, inl, inr, ◌⊎◌}
use Rattle.std.specs.List.{filter, enumerate_from, list_any}
use Rattle.std.proofs.lemmas.Bool.{eqb-true}
use Rattle.doc_types.specs.declared.documents.DocRow.{DocRow}
use Rattle.doc_types.specs.declared.tokens.FieldTokens.{FieldTokens}
use Rattle.doc_types.specs.declared.tokens.TokenWord.{TokenWord}
use Rattle.doc_types.specs.Chunks.{has_word, hits_of, is_word, positions_of}
use Rattle.doc_types.proofs.FieldParts.{parts}
use Rattle.chunk_image.specs.AlikeRows.{postings}
use Rattle.chunk_damage.specs.WordLists.{AreEntries, Entry}
use Rattle.chunk_damage.specs.Cover.{hits_in}
use Rattle.image_rows.proofs.Filters.{differ}

same_or : (a b : ℕ) → (a ≡ b) ⊎ (a ≡ b → ⊥)
same_or a b = elim (eqb a b) as (λ t. eqb a b ≡ t → (a ≡ b) ⊎ (a ≡ b → ⊥)) [ true ↦ λ is. inl (eqb-true a b is) | false ↦ λ is. inr (λ e. let t : eqb a b ≡ true = eq-eqb a b e in absurd cc) ] refl

-- no row before the first one of some entries
pub none_before : (rows least row : ℕ) (es : List Entry) → AreEntries rows least es → row < least → hits_in row es ≡ []
none_before rows least row [] are low = refl
none_before rows least row (e ∷ es) are low =
    ap (λ b. cond b e.1 (hits_in row es)) (differ e.0 row (omega (arith, are.0.behind, low))) ∙ none_before rows (e.0 + 1) row es are.2 (omega (arith, are.0.behind, low))

-- a row has a word exactly where it has hits of it
word_found : (word : List ℕ) (ts : List TokenWord) → list_any (is_word word) ts ≡ true → map (λ (t : TokenWord). t.position) (filter (is_word word) ts) ≡ [] → ⊥
word_found word [] e none = absurd cc
word_found word (t ∷ ts) e none = by (word_found word ts) (is_word word t) e none
  where
    by : (list_any (is_word word) ts ≡ true → map (λ (t : TokenWord). t.position) (filter (is_word word) ts) ≡ [] → ⊥) → (b : Bool)
        → (b || list_any (is_word word) ts) ≡ true → map (λ (t : TokenWord). t.position) (cond b (t ∷ filter (is_word word) ts) (filter (is_word word) ts)) ≡ [] → ⊥
    by later true e none = absurd cc
    by later false e none = later e none

nil_parts : {X : Type 0} (xs ys : List X) → xs ++ ys ≡ [] → (xs ≡ []) × (ys ≡ [])
nil_parts [] ys e = (refl, e)
nil_parts (x ∷ xs) ys e = absurd cc

nil_map : {X Y : Type 0} (f : X → Y) (xs : List X) → map f xs ≡ [] → xs ≡ []
nil_map f [] e = refl
nil_map f (x ∷ xs) e = absurd cc

not_there : (word : List ℕ) (n : ℕ) (fields : List FieldTokens) → parts n (positions_of word) fields ≡ []
    → list_any (λ field. list_any (is_word word) field.words) fields ≡ false
not_there word n [] e = refl
not_there word n (f ∷ fs) e =
    let both = nil_parts (map (λ x. (n, x)) (positions_of word f)) (parts (n + 1) (positions_of word) fs) e in
    let none = nil_map (λ x. (n, x)) (positions_of word f) both.0 in
    by (list_any (is_word word) f.words) refl (not_there word (n + 1) fs both.1) none
  where
    by : (b : Bool) → list_any (is_word word) f.words ≡ b → list_any (λ field. list_any (is_word word) field.words) fs ≡ false → positions_of word f ≡ []
        → (b || list_any (λ field. list_any (is_word word) field.words) fs) ≡ false
    by true is rest none = absurd (word_found word f.words is none)
    by false is rest none = rest

no_places : (word : List ℕ) (ts : List TokenWord) → list_any (is_word word) ts ≡ false → map (λ (t : TokenWord). t.position) (filter (is_word word) ts) ≡ []
no_places word [] e = refl
no_places word (t ∷ ts) e = by (no_places word ts) (is_word word t) e
  where
    by : (list_any (is_word word) ts ≡ false → map (λ (t : TokenWord). t.position) (filter (is_word word) ts) ≡ []) → (b : Bool)
        → (b || list_any (is_word word) ts) ≡ false → map (λ (t : TokenWord). t.position) (cond b (t ∷ filter (is_word word) ts) (filter (is_word word) ts)) ≡ []
    by later true e = absurd cc
    by later false e = later e

neither : (b c : Bool) → (b || c) ≡ false → (b ≡ false) × (c ≡ false)
neither true c e = absurd cc
neither false c e = (refl, e)

no_parts : (word : List ℕ) (n : ℕ) (fields : List FieldTokens) → list_any (λ field. list_any (is_word word) field.words) fields ≡ false
    → parts n (positions_of word) fields ≡ []
no_parts word n [] e = refl
no_parts word n (f ∷ fs) e =
    let both = neither (list_any (is_word word) f.words) (list_any (λ field. list_any (is_word word) field.words) fs) e in
    let rest : parts (n + 1) (positions_of word) fs ≡ [] = no_parts word (n + 1) fs both.1 in
    rw (no_places word f.words both.0) rest

there : (word : List ℕ) (row : DocRow) → 1 ≤ length (hits_of word row) → has_word word row ≡ true
there word row some = by (has_word word row) refl
  where
    by : (b : Bool) → has_word word row ≡ b → b ≡ true
    by true e = refl
    by false e = absurd (omega (arith, some, ap length (no_parts word 0 row.doc.fields e)))

absent : (word : List ℕ) (row : DocRow) → hits_of word row ≡ [] → has_word word row ≡ false
absent word row none = not_there word 0 row.doc.fields none

-- the hits of a word in each row are those of the list
abbrev pub HaveHits : List ℕ → List Entry → ℕ → List DocRow → Type 0
HaveHits word es n [] = Unit {0}
HaveHits word es n (row ∷ rows) = (hits_of word row ≡ hits_in n es) × HaveHits word es (n + 1) rows

pass_over : (word : List ℕ) (n : ℕ) (row : DocRow) (rows : List DocRow) → hits_of word row ≡ [] → postings word n (row ∷ rows) ≡ postings word (n + 1) rows
pass_over word n row rows none = ap (λ b. map (λ (e : ℕ × DocRow). (e.0, hits_of word e.1)) (cond b ((n, row) ∷ filter (λ e. has_word word e.1) (enumerate_from (n + 1) rows)) (filter (λ e. has_word word e.1) (enumerate_from (n + 1) rows)))) (absent word row none)

take_in : (word : List ℕ) (n : ℕ) (row : DocRow) (rows : List DocRow) → 1 ≤ length (hits_of word row)
    → postings word n (row ∷ rows) ≡ (n, hits_of word row) ∷ postings word (n + 1) rows
take_in word n row rows some = ap (λ b. map (λ (e : ℕ × DocRow). (e.0, hits_of word e.1)) (cond b ((n, row) ∷ filter (λ e. has_word word e.1) (enumerate_from (n + 1) rows)) (filter (λ e. has_word word e.1) (enumerate_from (n + 1) rows)))) (there word row some)

-- without the entry of an earlier row
later_hits : (word : List ℕ) (e : Entry) (es : List Entry) (n : ℕ) (rows : List DocRow) → e.0 < n → HaveHits word (e ∷ es) n rows → HaveHits word es n rows
later_hits word e es n [] low have = tt
later_hits word e es n (row ∷ rows) low have = (have.0 ∙ ap (λ b. cond b e.1 (hits_in n es)) (differ e.0 n (omega (arith, low))), later_hits word e es (n + 1) rows (omega (arith, low)) have.1)

pub posted : (word : List ℕ) (high n least : ℕ) (rows : List DocRow) (es : List Entry) → high ≡ n + length rows → n ≤ least → AreEntries high least es
    → HaveHits word es n rows → postings word n rows ≡ es
posted word high n least [] [] e low are have = refl
posted word high n least [] (f ∷ es) e low are have = absurd (omega (arith, e, low, are.0.behind, are.1))
posted word high n least (row ∷ rows) [] e low are have =
    pass_over word n row rows have.0 ∙ posted word high (n + 1) (n + 1) rows [] (omega (arith, e)) (omega arith) tt have.1
posted word high n least (row ∷ rows) (f ∷ es) e low are have =
    elim (same_or f.0 n) [
      | inl same ↦
          let hits : hits_of word row ≡ f.1 = have.0 ∙ ap (λ b. cond b f.1 (hits_in n es)) (eq-eqb f.0 n same) in
          let some : 1 ≤ length (hits_of word row) = omega (arith, ap length hits, are.0.are.some) in
          let rest = posted word high (n + 1) (f.0 + 1) rows es (omega (arith, e)) (omega (arith, same)) are.2 (later_hits word f es (n + 1) rows (omega (arith, same)) have.1) in
          take_in word n row rows some ∙ ap (λ l. (n, hits_of word row) ∷ l) rest ∙ (let first : n ≡ f.0 = sym same in λ i. (first i, hits i) ∷ es)
      | inr other ↦
          let none : hits_of word row ≡ [] = have.0 ∙ ap (λ b. cond b f.1 (hits_in n es)) (differ f.0 n other)
          ∙ none_before high (f.0 + 1) n es are.2 (omega (arith, low, are.0.behind)) in
          let behind : n + 1 ≤ f.0 = omega (arith, low, are.0.behind, other) in
          pass_over word n row rows none
          ∙ posted word high (n + 1) (n + 1) rows (f ∷ es) (omega (arith, e)) (omega arith) (record { behind = behind; counted = are.0.counted; are = are.0.are }, are.1, are.2) have.1
    ]
