-- What a word has in rows of a schema can be posted: rows ascend, and the places in each are hits of it.
use Rattle.std.proofs.Common.{◌≡◌, ℕ, ◌+◌, ◌*◌, ◌<◌, ◌≤◌, List, [], ◌∷◌, ◌++◌, true, false, cond, ◌||◌, length, refl, arith, map, All, zero, length-append}
use Rattle.std.specs.List.{filter, list_any, enumerate_from}
use Rattle.std.proofs.lemmas.List.{length-map}
use Rattle.doc_types.specs.declared.tokens.TheConstants.{MAX_POSITION}
use Rattle.doc_types.specs.declared.documents.DocRow.{DocRow}
use Rattle.doc_types.specs.declared.tokens.FieldTokens.{FieldTokens}
use Rattle.doc_types.specs.declared.tokens.Gap.{Gap}
use Rattle.doc_types.specs.declared.tokens.Gap.TheVariants as gaps
use Rattle.doc_types.specs.declared.tokens.TokenWord.{TokenWord}
use Rattle.doc_types.specs.Documents.{Follow, IsField, step}
use Rattle.doc_types.specs.Chunks.{has_word, hits_of, is_word, positions_of}
use Rattle.doc_types.proofs.FieldParts.{parts}
use Rattle.doc_types.proofs.Numbers.{All-tail}
use Rattle.chunk_image.specs.AlikeRows.{postings}
use Rattle.posting_codec.specs.HitLists.{Ascend, AreHits}
use Rattle.chunk_image.proofs.PostingsTold.{ArePosted}

step_some : (gap : Gap) → 1 ≤ step gap
step_some gaps.None = omega arith
step_some gaps.Sentence = omega arith
step_some gaps.Paragraph = omega arith

abbrev places : List ℕ → List TokenWord → List ℕ
places word words = map (λ token. token.position) (filter (is_word word) words)

-- the places of a word in a field, before hits that lie behind the field
in_field : (word : List ℕ) (n before low : ℕ) (words : List TokenWord) (rest : List (ℕ × ℕ)) → n < 32 → Follow before words → All (λ token. token.position ≤ MAX_POSITION) words
    → low ≤ n * 65536 + before → ((k : ℕ) → k ≤ (n + 1) * 65536 → Ascend k rest) → before ≤ MAX_POSITION → Ascend low (map (λ p. (n, p)) (places word words) ++ rest)
in_field word n before low [] rest few follow within at later small = later low (omega (arith, at, small))
in_field word n before low (t ∷ ts) rest few follow within at later small =
    let tail = All-tail (λ (token : TokenWord). token.position ≤ MAX_POSITION) t ts within in
    let here : t.position ≤ MAX_POSITION = within zero t (omega arith) in
    let step : before < t.position = omega (arith, follow.0, step_some t.gap) in
    elim (is_word word t) as (λ b. Ascend low (map (λ p. (n, p)) (map (λ (token : TokenWord). token.position) (cond b (t ∷ filter (is_word word) ts) (filter (is_word word) ts))) ++ rest)) [
      | true ↦ (record { field = few; from_one = omega (arith, step); within = omega (arith, here) }, omega (arith, at, step), in_field word n t.position (n * 65536 + t.position) ts rest few follow.1 tail (omega arith) later here)
      | false ↦ in_field word n t.position low ts rest few follow.1 tail (omega (arith, at, step)) later here
    ]

in_fields : (word : List ℕ) (n low : ℕ) (fields : List FieldTokens) → n + length fields ≤ 32 → All IsField fields → low ≤ n * 65536 → Ascend low (parts n (positions_of word) fields)
in_fields word n low [] few are at = tt
in_fields word n low (f ∷ fs) few are at =
    let is = are zero f (omega arith) in
    in_field word n 0 low f.words (parts (n + 1) (positions_of word) fs) (omega (arith, few)) is.placed.follow is.within (omega (arith, at))
    (λ k below. in_fields word (n + 1) k fs (omega (arith, few)) (All-tail IsField f fs are) below) (omega arith)

-- a field with the word has a place of it
some_place : (word : List ℕ) (words : List TokenWord) → list_any (is_word word) words ≡ true → 1 ≤ length (places word words)
some_place word [] e = absurd cc
some_place word (t ∷ ts) e =
    elim (is_word word t) as (λ b. (b || list_any (is_word word) ts) ≡ true → 1 ≤ length (map (λ (token : TokenWord). token.position) (cond b (t ∷ filter (is_word word) ts) (filter (is_word word) ts)))) [
      | true ↦ λ _. omega arith
      | false ↦ λ later. some_place word ts later
    ] e

some_hit : (word : List ℕ) (n : ℕ) (fields : List FieldTokens) → list_any (λ field. list_any (is_word word) field.words) fields ≡ true → 1 ≤ length (parts n (positions_of word) fields)
some_hit word n [] e = absurd cc
some_hit word n (f ∷ fs) e =
    let own_parts : List (ℕ × ℕ) = map (λ p. (n, p)) (positions_of word f) in
    let size = length-append own_parts (parts (n + 1) (positions_of word) fs) in
    let own : length own_parts ≡ length (positions_of word f) = length-map {B = ℕ × ℕ} (positions_of word f) (λ p. (n, p)) in
    elim (list_any (is_word word) f.words) as (λ b. list_any (is_word word) f.words ≡ b → (b || list_any (λ field. list_any (is_word word) field.words) fs) ≡ true → 1 ≤ length (parts n (positions_of word) (f ∷ fs))) [
      | true ↦ λ here _. omega (arith, size, own, some_place word f.words here)
      | false ↦ λ _ later. omega (arith, size, some_hit word (n + 1) fs later)
    ] refl e

pub are_hits : (word : List ℕ) (row : DocRow) → length row.doc.fields ≤ 32 → All IsField row.doc.fields → has_word word row ≡ true → AreHits (hits_of word row)
are_hits word row few are has = record { some = some_hit word 0 row.doc.fields has; ascend = in_fields word 0 0 row.doc.fields (omega (arith, few)) are (omega arith) }

-- what is asked of a row here
pub record HasFields (row : DocRow) : Type 0 where
  pub few : length row.doc.fields ≤ 32
  pub are : All IsField row.doc.fields

weaker : (least more : ℕ) (entries : List (ℕ × List (ℕ × ℕ))) → least ≤ more → ArePosted more entries → ArePosted least entries
weaker least more [] low posted = tt
weaker least more (e ∷ es) low posted = (omega (arith, low, posted.0), posted.1, posted.2)

pub rows_posted : (word : List ℕ) (n : ℕ) (rows : List DocRow) → All HasFields rows → ArePosted n (postings word n rows)
rows_posted word n [] are = tt
rows_posted word n (r ∷ rs) are =
    let rest = rows_posted word (n + 1) rs (All-tail HasFields r rs are) in
    let own = are zero r (omega arith) in
    elim (has_word word r) as (λ b. has_word word r ≡ b → ArePosted n (map (λ (e : ℕ × DocRow). (e.0, hits_of word e.1)) (cond b ((n, r) ∷ filter (λ e. has_word word e.1) (enumerate_from (n + 1) rs)) (filter (λ e. has_word word e.1) (enumerate_from (n + 1) rs))))) [
      | true ↦ λ has. (omega arith, are_hits word r own.few own.are has, rest)
      | false ↦ λ _. weaker n (n + 1) (postings word (n + 1) rs) (omega arith) rest
    ] refl
