-- Rows of an image have no more words than it has bytes.
use Rattle.std.proofs.Common.{◌≡◌, ℕ, zero, suc, ◌+◌, ◌-◌, ◌<◌, ◌≤◌, List, [], ◌∷◌, ◌++◌, Bool, true, false, cond, ◌||◌, nat_lt, ◌%◌, ◌/◌, length, map, get_or, refl, sym, ap, ◌∙◌, arith, All, Contains, length-append}
use Rattle.std.specs.List.{filter, list_any, enumerate_from, sum_by}
use Rattle.std.proofs.lemmas.List.{length-map}
use Rattle.std.proofs.lemmas.List.Concat.{length-flat_map}
use Rattle.std.proofs.lemmas.List.Elements.{All-head, All-tail}
use Rattle.std.proofs.lemmas.List.Sums.{sum_by-cons, sum_by-le-sum_by}
use Rattle.std.proofs.lemmas.Option.{slice_get-get_or}
use Rattle.std.proofs.lemmas.Slice.Eq.{bytes_eq-Decides}
use Rattle.doc_types.specs.declared.documents.DocRow.{DocRow}
use Rattle.doc_types.specs.declared.schema.Schema.{Schema}
use Rattle.doc_types.specs.declared.tokens.FieldTokens.{FieldTokens}
use Rattle.doc_types.specs.declared.tokens.TokenWord.{TokenWord}
use Rattle.doc_types.specs.Chunks.{AreWordsOf, has_word, hits_of, is_word, positions_of}
use Rattle.doc_types.specs.Documents.{word_count}
use Rattle.doc_types.proofs.FieldParts.{parts}
use Rattle.chunk_image.specs.AlikeRows.{postings}
use Rattle.posting_codec.specs.HitLists.{differences, hit_list, key}
use Rattle.posting_codec.specs.Numbers.{number, spelled}
use Rattle.posting_codec.specs.PostingLists.{posting, posting_list}
use Rattle.chunk_image.specs.ChunkImage.{IsImageOf, dictionary_bytes, header_bytes, marks_bytes, postings_bytes, rows_bytes, table_bytes, word_postings}
use Rattle.image_join.proofs.Worded.{some_with}

-- how often a word stands in a field, and in fields
abbrev times : List ℕ → List TokenWord → ℕ
times word tokens = length (filter (is_word word) tokens)

abbrev times_in : List ℕ → List FieldTokens → ℕ
times_in word fields = sum_by (λ (field : FieldTokens). times word field.words) fields

hits_count : (word : List ℕ) (n : ℕ) (fields : List FieldTokens) → length (parts n (positions_of word) fields) ≡ times_in word fields
hits_count word n [] = refl
hits_count word n (f ∷ fs) =
    length-append (map (λ (x : ℕ). (n, x)) (positions_of word f)) (parts (n + 1) (positions_of word) fs)
    ∙ ap (λ k. k + length (parts (n + 1) (positions_of word) fs)) (length-map {B = ℕ × ℕ} (positions_of word f) (λ x. (n, x)) ∙ length-map (filter (is_word word) f.words) (λ (token : TokenWord). token.position))
    ∙ ap (λ k. times word f.words + k) (hits_count word (n + 1) fs) ∙ sym (sum_by-cons (λ (field : FieldTokens). times word field.words) f fs)

no_times : (word : List ℕ) (tokens : List TokenWord) → list_any (is_word word) tokens ≡ false → times word tokens ≡ 0
no_times word [] e = refl
no_times word (t ∷ ts) e =
    elim (is_word word t) as (λ b. (b || list_any (is_word word) ts) ≡ false → length (cond b (t ∷ filter (is_word word) ts) (filter (is_word word) ts)) ≡ 0) [
      | true ↦ λ h. absurd cc
      | false ↦ λ h. no_times word ts h
    ] e

no_times_in : (word : List ℕ) (fields : List FieldTokens) → list_any (λ field. list_any (is_word word) field.words) fields ≡ false → times_in word fields ≡ 0
no_times_in word [] e = refl
no_times_in word (f ∷ fs) e =
    elim (list_any (is_word word) f.words) as (λ b. list_any (is_word word) f.words ≡ b → (b || list_any (λ field. list_any (is_word word) field.words) fs) ≡ false → times_in word (f ∷ fs) ≡ 0) [
      | true ↦ λ here h. absurd cc
      | false ↦ λ here h. omega (arith, sum_by-cons (λ (field : FieldTokens). times word field.words) f fs, no_times word f.words here, no_times_in word fs h)
    ] refl e

sum_strict : (f g : List ℕ → ℕ) (words : List (List ℕ)) (word : List ℕ) (k : ℕ) → k < length words → get_or words k word ≡ word → ((w : List ℕ) → g w ≤ f w) → g word + 1 ≤ f word → sum_by g words + 1 ≤ sum_by f words
sum_strict f g [] word k low at all own = absurd (omega (arith, low))
sum_strict f g (w ∷ ws) word zero low at all own =
    let one : g w ≡ g word = ap g at in
    let two : f w ≡ f word = ap f at in
    omega (arith, sum_by-cons f w ws, sum_by-cons g w ws, sum_by-le-sum_by g f ws all, one, two, own)
sum_strict f g (w ∷ ws) word (suc k) low at all own =
    omega (arith, sum_by-cons f w ws, sum_by-cons g w ws, all w, sum_strict f g ws word k (omega (arith, low)) at all own)

abbrev AreAmong : List (List ℕ) → List TokenWord → Type 0
AreAmong words tokens = All (λ (token : TokenWord). Contains words token.word) tokens

tokens_counted : (words : List (List ℕ)) (tokens : List TokenWord) → AreAmong words tokens → length tokens ≤ sum_by (λ word. times word tokens) words
tokens_counted words [] are = omega arith
tokens_counted words (t ∷ ts) are =
    let rest = tokens_counted words ts (All-tail (λ (token : TokenWord). Contains words token.word) t ts are) in
    let found = All-head (λ (token : TokenWord). Contains words token.word) t ts are in
    let itself : is_word t.word t ≡ true = (bytes_eq-Decides t.word t.word).1 refl in
    let own : times t.word ts + 1 ≤ times t.word (t ∷ ts) = rw itself (omega arith) in
    let all : (w : List ℕ) → times w ts ≤ times w (t ∷ ts) = λ w. elim (is_word w t) as (λ b. length (filter (is_word w) ts) ≤ length (cond b (t ∷ filter (is_word w) ts) (filter (is_word w) ts))) [ true ↦ omega arith | false ↦ omega arith ] in
    omega (arith, rest, sum_strict (λ w. times w (t ∷ ts)) (λ w. times w ts) words t.word found.0 found.1 found.2 all own)

sum_plus : (f g : List ℕ → ℕ) (words : List (List ℕ)) → sum_by (λ w. f w + g w) words ≡ sum_by f words + sum_by g words
sum_plus f g [] = refl
sum_plus f g (w ∷ ws) = omega (arith, sum_by-cons (λ w. f w + g w) w ws, sum_by-cons f w ws, sum_by-cons g w ws, sum_plus f g ws)

fields_counted : (words : List (List ℕ)) (fields : List FieldTokens) → All (λ field. AreAmong words field.words) fields → sum_by (λ (field : FieldTokens). length field.words) fields ≤ sum_by (λ word. times_in word fields) words
fields_counted words [] are = omega arith
fields_counted words (f ∷ fs) are =
    let own = tokens_counted words f.words (All-head (λ (field : FieldTokens). AreAmong words field.words) f fs are) in
    let rest = fields_counted words fs (All-tail (λ (field : FieldTokens). AreAmong words field.words) f fs are) in
    let both = sum_plus (λ w. times w f.words) (λ w. times_in w fs) words in
    let all = sum_by-le-sum_by (λ w. times w f.words + times_in w fs) (λ w. times_in w (f ∷ fs)) words (λ w. omega (arith, sum_by-cons (λ (field : FieldTokens). times w field.words) f fs)) in
    omega (arith, sum_by-cons (λ (field : FieldTokens). length field.words) f fs, own, rest, both, all)

number_some : (n : ℕ) → 1 ≤ length (number n)
unfolding number
number_some n = elim (nat_lt n 128) as (λ b. 1 ≤ length (cond b (n ∷ []) ((128 + n % 128) ∷ spelled 3 (n / 128)))) [ true ↦ omega arith | false ↦ omega arith ]

differences_long : (before : ℕ) (hits : List (ℕ × ℕ)) → length hits ≤ length (differences before hits)
differences_long before [] = omega arith
differences_long before (h ∷ hs) =
    let rest = differences_long (key h) hs in
    omega (arith, rest, number_some (key h - before), length-append (number (key h - before)) (differences (key h) hs))

hits_long : (hits : List (ℕ × ℕ)) → length hits ≤ length (hit_list hits)
unfolding hit_list
hits_long hits = omega (arith, differences_long 0 hits, length-append (number (length hits)) (differences 0 hits))

posting_long : (least row : ℕ) (hits : List (ℕ × ℕ)) → length hits ≤ length (posting least row hits)
posting_long least row hits =
    omega (arith, hits_long hits, length-append (number (row + 1 - least) ++ number (length (hit_list hits))) (hit_list hits))

-- the words of a row are among these
abbrev HasWords : List (List ℕ) → DocRow → Type 0
HasWords words row = All (λ (field : FieldTokens). AreAmong words field.words) row.doc.fields

rows_counted : (words : List (List ℕ)) (n : ℕ) (rows : List DocRow) (least : List ℕ → ℕ) → All (HasWords words) rows → sum_by word_count rows ≤ sum_by (λ word. length (posting_list (least word) (postings word n rows))) words
rows_counted words n [] least are = omega arith
rows_counted words n (r ∷ rs) least are =
    let next : List ℕ → ℕ = λ w. cond (has_word w r) (n + 1) (least w) in
    let rest = rows_counted words (n + 1) rs next (All-tail (HasWords words) r rs are) in
    let own = fields_counted words r.doc.fields (All-head (HasWords words) r rs are) in
    let step : (w : List ℕ) → times_in w r.doc.fields + length (posting_list (next w) (postings w (n + 1) rs)) ≤ length (posting_list (least w) (postings w n (r ∷ rs))) = λ w.
    elim (has_word w r) as (λ b. has_word w r ≡ b → times_in w r.doc.fields + length (posting_list (cond b (n + 1) (least w)) (postings w (n + 1) rs)) ≤ length (posting_list (least w) (map (λ (e : ℕ × DocRow). (e.0, hits_of w e.1)) (cond b ((n, r) ∷ filter (λ e. has_word w e.1) (enumerate_from (n + 1) rs)) (filter (λ e. has_word w e.1) (enumerate_from (n + 1) rs)))))) [
      | true ↦ λ _. omega (arith, hits_count w 0 r.doc.fields, posting_long (least w) n (hits_of w r), length-append (posting (least w) n (hits_of w r)) (posting_list (n + 1) (postings w (n + 1) rs)))
      | false ↦ λ e. omega (arith, no_times_in w r.doc.fields e)
    ] refl in
    let both = sum_plus (λ w. times_in w r.doc.fields) (λ w. length (posting_list (next w) (postings w (n + 1) rs))) words in
    let all = sum_by-le-sum_by (λ w. times_in w r.doc.fields + length (posting_list (next w) (postings w (n + 1) rs))) (λ w. length (posting_list (least w) (postings w n (r ∷ rs)))) words step in
    omega (arith, sum_by-cons word_count r rs, own, rest, both, all)

any_at : {X : Type 0} (p : X → Bool) (xs : List X) (k : ℕ) (d : X) → k < length xs → p (get_or xs k d) ≡ true → list_any p xs ≡ true
any_at p [] k d low e = absurd (omega (arith, low))
any_at p (x ∷ xs) zero d low e = rw e refl
any_at p (x ∷ xs) (suc k) d low e =
    let rest = any_at p xs k d (omega (arith, low)) e in
    elim (p x) as (λ b. (b || list_any p xs) ≡ true) [ true ↦ refl | false ↦ rest ]

have_words : (rows : List DocRow) (words : List (List ℕ)) → AreWordsOf rows words → All (HasWords words) rows
have_words rows words are k d low j f within i t there =
    let row = get_or rows k d in
    let field = get_or row.doc.fields j f in
    let token = get_or field.words i t in
    let itself : is_word token.word token ≡ true = (bytes_eq-Decides token.word token.word).1 refl in
    let in_field : list_any (is_word token.word) field.words ≡ true = any_at (is_word token.word) field.words i t there itself in
    let has : has_word token.word row ≡ true = any_at (λ (field : FieldTokens). list_any (is_word token.word) field.words) row.doc.fields j f within in_field in
    are.all token.word (some_with token.word rows k row (slice_get-get_or rows k d low) has)

-- each word of the rows takes a byte of a hit list
pub few_words : (schema : Schema) (rows : List DocRow) (bytes : List ℕ) → IsImageOf schema rows bytes → sum_by word_count rows ≤ length bytes
unfolding word_postings
few_words schema rows bytes is =
    let counted = rows_counted is.words 0 rows (λ _. 0) (have_words rows is.words is.are) in
    let all : length (postings_bytes rows is.words) ≡ sum_by (λ word. length (posting_list 0 (postings word 0 rows))) is.words = length-flat_map (λ (word : List ℕ). posting_list 0 (postings word 0 rows)) is.words in
    let front = header_bytes schema rows is.words ++ rows_bytes 0 rows ++ marks_bytes rows ++ table_bytes rows 0 0 is.words ++ dictionary_bytes is.words in
    omega (arith, counted, all, ap length is.is, length-append front (postings_bytes rows is.words))
