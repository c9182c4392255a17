-- The places of a word in the row that a cursor stands at.
use Rattle.std.proofs.Common.{◌≡◌, ℕ, suc, ◌+◌, ◌≤◌, ◌^◌, ◌||◌, true, false, cond, List, [], ◌∷◌, ◌++◌, Some, map, slice_get, refl, sym, ap, ◌∙◌, arith}
use Rattle.std.specs.Prelude.{if◌then◌else◌}
use Rattle.std.specs.Option.{option_map_or}
use Rattle.std.specs.List.{filter, enumerate_from, list_any, sum_by}
use Rattle.std.proofs.lemmas.Bool.{le-ltb, lt-ltb}
use Rattle.std.proofs.lemmas.List.Sums.{sum_by-append}
use Rattle.doc_types.proofs.FieldParts.{bit_of, parts}
use Rattle.doc_types.specs.declared.cursor.Cursor.{Cursor}
use Rattle.doc_types.specs.declared.documents.DocRow.{DocRow}
use Rattle.doc_types.specs.declared.tokens.FieldTokens.{FieldTokens}
use Rattle.doc_types.specs.declared.tokens.TokenWord.{TokenWord}
use Rattle.doc_types.specs.Chunks.{fields_ahead, fields_with, has_word, hits_ahead, hits_of, is_word, positions_of}
use Rattle.chunk_image.specs.AlikeRows.{postings}
use Rattle.image_chunk.specs.Places.{Entry, place_in}
use Rattle.image_chunk.specs.steps.FieldBits.{field_bits}
use Rattle.image_chunk.proofs.Cursors.{GoesOn}

-- the entry is that of a row of these, which have numbers from this one on
pub record IsPosted (word : List ℕ) (n : ℕ) (rows : List DocRow) (entry : Entry) : Type 0 where
  pub k : ℕ
  pub row : DocRow
  pub number : entry.0 ≡ n + k
  pub there : slice_get rows k ≡ Some row
  pub hits : entry.1 ≡ hits_of word row

later : (word : List ℕ) (n : ℕ) (r : DocRow) (rs : List DocRow) (entry : Entry) → IsPosted word (n + 1) rs entry → IsPosted word n (r ∷ rs) entry
later word n r rs entry is = record { k = suc is.k; row = is.row; number = omega (arith, is.number); there = is.there; hits = is.hits }

at_front : (word : List ℕ) (n : ℕ) (r : DocRow) (rs : List DocRow) (behind : List Entry) (entry : Entry) (entries : List Entry) → ((others : List Entry) → others ++ entry ∷ entries ≡ postings word (n + 1) rs → IsPosted word (n + 1) rs entry)
    → behind ++ entry ∷ entries ≡ (n, hits_of word r) ∷ postings word (n + 1) rs → IsPosted word n (r ∷ rs) entry
at_front word n r rs [] entry entries go e =
    let same : entry ≡ (n, hits_of word r) = cc in
    record { k = 0; row = r; number = ap (λ (its : Entry). its.0) same ∙ omega arith; there = refl; hits = ap (λ (its : Entry). its.1) same }
at_front word n r rs (b ∷ behind) entry entries go e = let rest : behind ++ entry ∷ entries ≡ postings word (n + 1) rs = cc in later word n r rs entry (go behind rest)

pub is_posted : (word : List ℕ) (n : ℕ) (rows : List DocRow) (behind : List Entry) (entry : Entry) (entries : List Entry) → behind ++ entry ∷ entries ≡ postings word n rows → IsPosted word n rows entry
is_posted word n [] [] entry entries e = absurd cc
is_posted word n [] (b ∷ behind) entry entries e = absurd cc
is_posted word n (r ∷ rs) behind entry entries e =
    elim (has_word word r) as (λ b. behind ++ entry ∷ entries ≡ map (λ (e : ℕ × DocRow). (e.0, hits_of word e.1)) (cond b ((n, r) ∷ filter (λ e. has_word word e.1) (enumerate_from (n + 1) rs)) (filter (λ e. has_word word e.1) (enumerate_from (n + 1) rs))) → IsPosted word n (r ∷ rs) entry) [
      | true ↦ λ f. at_front word n r rs behind entry entries (λ others g. is_posted word (n + 1) rs others entry entries g) f
      | false ↦ λ f. later word n r rs entry (is_posted word (n + 1) rs behind entry entries f)
    ] e

-- where there is a row, what is asked of it
posted_at : {X : Type 0} (word : List ℕ) (rows : List DocRow) (entry : Entry) (is : IsPosted word 0 rows entry) (f : DocRow → X) (d : X) → option_map_or f (slice_get rows entry.0) d ≡ f is.row
posted_at word rows entry is f d =
    let same : entry.0 ≡ is.k = omega (arith, is.number) in
    ap (λ n. option_map_or f (slice_get rows n) d) same ∙ ap (λ found. option_map_or f found d) is.there

-- the places that are ahead of a cursor are those of the entry that it stands at
pub hits_are : (rows : List DocRow) (words : List (List ℕ)) (bytes list : List ℕ) (cursor : Cursor) (goes : GoesOn rows words bytes list cursor) → hits_ahead rows (place_in rows words cursor) ≡ goes.stood.entry.1
hits_are rows words bytes list cursor goes =
    let is = is_posted goes.word 0 rows goes.stood.behind goes.stood.entry goes.stood.entries goes.stood.both in
    rw (goes.there, goes.stood.ahead) (posted_at goes.word rows goes.stood.entry is (hits_of goes.word) [] ∙ sym is.hits)

-- the first of these hits is of this field at least
abbrev FirstFrom : ℕ → List (ℕ × ℕ) → Type 0
FirstFrom least [] = Unit {0}
FirstFrom least (hit ∷ hits) = least ≤ hit.0

in_front : (least n : ℕ) (places : List ℕ) (rest : List (ℕ × ℕ)) → least ≤ n → FirstFrom least rest → FirstFrom least (map (λ p. (n, p)) places ++ rest)
in_front least n [] rest low first = first
in_front least n (p ∷ places) rest low first = low

parts_from : (word : List ℕ) (least n : ℕ) (fields : List FieldTokens) → least ≤ n → FirstFrom least (parts n (positions_of word) fields)
parts_from word least n [] low = tt
parts_from word least n (f ∷ fs) low = in_front least n (positions_of word f) (parts (n + 1) (positions_of word) fs) low (parts_from word least (n + 1) fs (omega (arith, low)))

-- no field below the first one has a bit
none_below : (least more : ℕ) (hits : List (ℕ × ℕ)) → least ≤ more → FirstFrom more hits → field_bits least hits ≡ field_bits more hits
none_below least more [] low first = refl
none_below least more (hit ∷ hits) low first = rw (le-ltb hit.0 least (omega (arith, low, first)), le-ltb hit.0 more first) refl

-- a field has its bit once
passed_over : (n : ℕ) (places : List ℕ) (rest : List (ℕ × ℕ)) → field_bits (n + 1) (map (λ p. (n, p)) places ++ rest) ≡ field_bits (n + 1) rest
passed_over n [] rest = refl
passed_over n (p ∷ places) rest = rw (lt-ltb n (n + 1) (omega arith)) (passed_over n places rest)

field_bit : (word : List ℕ) (n : ℕ) (words : List TokenWord) (rest : List (ℕ × ℕ)) → FirstFrom (n + 1) rest
    → field_bits n (map (λ p. (n, p)) (map (λ token. token.position) (filter (is_word word) words)) ++ rest) ≡ (if list_any (is_word word) words then 2 ^ n else 0) + field_bits (n + 1) rest
field_bit word n [] rest first = none_below n (n + 1) rest (omega arith) first ∙ omega arith
field_bit word n (t ∷ ts) rest first =
    elim (is_word word t) as (λ b. field_bits n (map (λ p. (n, p)) (map (λ (token : TokenWord). token.position) (cond b (t ∷ filter (is_word word) ts) (filter (is_word word) ts))) ++ rest) ≡ cond (b || list_any (is_word word) ts) (2 ^ n) 0 + field_bits (n + 1) rest) [
      | true ↦ rw (le-ltb n n (omega arith)) (ap (λ (m : ℕ). 2 ^ n + m) (passed_over n (map (λ (token : TokenWord). token.position) (filter (is_word word) ts)) rest))
      | false ↦ field_bit word n ts rest first
    ]

sum_front : (word : List ℕ) (e : ℕ × FieldTokens) (es : List (ℕ × FieldTokens)) → sum_by (bit_of word) (e ∷ es) ≡ bit_of word e + sum_by (bit_of word) es
sum_front word e es = sum_by-append (bit_of word) (e ∷ []) es ∙ ap (λ (n : ℕ). n + sum_by (bit_of word) es) (first (bit_of word e)) where
  first : (n : ℕ) → 0 + n ≡ n
  first n = omega arith

bits_from : (word : List ℕ) (n : ℕ) (fields : List FieldTokens) → field_bits n (parts n (positions_of word) fields) ≡ sum_by (bit_of word) (enumerate_from n fields)
bits_from word n [] = refl
bits_from word n (f ∷ fs) =
    field_bit word n f.words (parts (n + 1) (positions_of word) fs) (parts_from word (n + 1) (n + 1) fs (omega arith))
    ∙ ap (λ (m : ℕ). bit_of word (n, f) + m) (bits_from word (n + 1) fs) ∙ sym (sum_front word (n, f) (enumerate_from (n + 1) fs))

-- the fields of the places ahead
pub fields_are : (rows : List DocRow) (words : List (List ℕ)) (bytes list : List ℕ) (cursor : Cursor) (goes : GoesOn rows words bytes list cursor) → field_bits 0 goes.stood.entry.1 ≡ fields_ahead rows (place_in rows words cursor)
fields_are rows words bytes list cursor goes =
    let is = is_posted goes.word 0 rows goes.stood.behind goes.stood.entry goes.stood.entries goes.stood.both in
    rw (goes.there, goes.stood.ahead) (ap (field_bits 0) is.hits ∙ bits_from goes.word 0 is.row.doc.fields ∙ sym (posted_at goes.word rows goes.stood.entry is (fields_with goes.word) 0))
