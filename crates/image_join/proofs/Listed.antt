-- Entries for all rows that have a word, in their order, are its posting list.
use Rattle.std.proofs.Common.{◌≡◌, ℕ, zero, suc, ◌+◌, ◌<◌, ◌≤◌, List, [], ◌∷◌, ◌++◌, Bool, true, false, cond, ◌==◌, ◌||◌, Some, slice_get, length, map, refl, sym, ap, subst, ◌∙◌, arith, All}
use Rattle.std.specs.List.{filter, list_any, enumerate_from}
use Rattle.std.specs.List.Sorted.{IsPermutation}
use Rattle.std.proofs.lemmas.Bool.Decides.{nat_tests}
use Rattle.std.proofs.lemmas.List.{length-map}
use Rattle.std.proofs.lemmas.List.Sorted.{All-permutation, length_permutation, list_any-IsPermutation}
use Rattle.doc_types.specs.declared.documents.DocRow.{DocRow}
use Rattle.doc_types.specs.Chunks.{has_word, hits_of, rows_with}
use Rattle.doc_types.proofs.Numbers.{All-tail}
use Rattle.chunk_image.specs.AlikeRows.{postings}
use Rattle.posting_codec.specs.HitLists.{hit_list}
use Rattle.posting_codec.specs.PostingLists.{posting_list, spelled_posting}
use Rattle.chunk_image.specs.ChunkImage.{word_postings}
use Rattle.chunk_image.proofs.WordsTold.{many}
use Rattle.image_join.specs.steps.Entries.{AreEntriesOf, Entry, IsEntryOf, Rising, spelled_list}

-- a row's hits as an entry
abbrev pub spell : ℕ × List (ℕ × ℕ) → Entry
spell posting = (posting.0, hit_list posting.1)

differ : (a b : ℕ) → (a ≡ b → ⊥) → (a == b) ≡ false
differ a b ne = grind (arith, nat_tests)

one : (a b : ℕ) → (a == b) ≡ true → a ≡ b
one a b e = grind (arith, nat_tests)

-- no entry of a row before the first one
none_before : (n least : ℕ) (entries : List Entry) → n < least → Rising least entries → list_any (λ entry. entry.0 == n) entries ≡ false
none_before n least [] low up = refl
none_before n least (e ∷ es) low up =
    rw (differ e.0 n (λ same. omega (arith, same, low, up.0)))
    (none_before n (e.0 + 1) es (omega (arith, low, up.0)) up.2)

-- all of them are behind it
all_behind : (least : ℕ) (entries : List Entry) → Rising least entries → All (λ entry. least ≤ entry.0) entries
all_behind least [] up k d h = absurd (omega (arith, h))
all_behind least (e ∷ es) up zero d h = up.0
all_behind least (e ∷ es) up (suc k) d h = let rest = all_behind (e.0 + 1) es up.2 k d (omega (arith, h)) in omega (arith, rest, up.0)

-- an entry of one of the rows behind the first
later : (word : List ℕ) (n : ℕ) (row : DocRow) (rows : List DocRow) (entry : Entry) (at : ℕ) (own : DocRow) → entry.0 ≡ n + at → slice_get (row ∷ rows) at ≡ Some own → has_word word own ≡ true → entry.1 ≡ hit_list (hits_of word own)
    → n + 1 ≤ entry.0 → IsEntryOf word (n + 1) rows entry
later word n row rows entry zero own numbered here has hits low = absurd (omega (arith, numbered, low))
later word n row rows entry (suc at) own numbered here has hits low = record { at = at; row = own; numbered = omega (arith, numbered); here = here; has = has; hits = hits }

all_later : (word : List ℕ) (n : ℕ) (row : DocRow) (rows : List DocRow) (entries : List Entry) → All (IsEntryOf word n (row ∷ rows)) entries → Rising (n + 1) entries → All (IsEntryOf word (n + 1) rows) entries
all_later word n row rows entries each up k d h =
    let is = each k d h in
    later word n row rows _ is.at is.row is.numbered is.here is.has is.hits (all_behind (n + 1) entries up k d h)

-- the entries of a row that hasn't the word lie behind it
behind_other : (word : List ℕ) (n : ℕ) (row : DocRow) (rows : List DocRow) (entries : List Entry) → has_word word row ≡ false → All (IsEntryOf word n (row ∷ rows)) entries → Rising n entries → Rising (n + 1) entries
behind_other word n row rows [] without each up = tt
behind_other word n row rows (e ∷ es) without each up =
    let is = each zero e (omega arith) in
    (go e is.at is.row is.numbered is.here is.has up.0, up.1, up.2)
  where
    go : (entry : Entry) (at : ℕ) (own : DocRow) → entry.0 ≡ n + at → slice_get (row ∷ rows) at ≡ Some own → has_word word own ≡ true → n ≤ entry.0 → n + 1 ≤ entry.0
    go entry zero own numbered here has low =
        let same : row ≡ own = cc in
        let clash : false ≡ true = sym without ∙ ap (has_word word) same ∙ has in
        absurd cc
    go entry (suc at) own numbered here has low = omega (arith, numbered)

-- the first entry of a row that has it
first_is : (word : List ℕ) (n : ℕ) (row : DocRow) (rows : List DocRow) (entry : Entry) (at : ℕ) (own : DocRow) → entry.0 ≡ n → entry.0 ≡ n + at → slice_get (row ∷ rows) at ≡ Some own → entry.1 ≡ hit_list (hits_of word own) → entry ≡ (n, hit_list (hits_of word row))
first_is word n row rows entry zero own first numbered here hits =
    let same : own ≡ row = cc in
    let bytes : entry.1 ≡ hit_list (hits_of word row) = hits ∙ ap (λ r. hit_list (hits_of word r)) same in
    λ i. (first i, bytes i)
first_is word n row rows entry (suc at) own first numbered here hits = absurd (omega (arith, first, numbered))

abbrev Has : List ℕ → ℕ → List DocRow → List Entry → Type 0
Has word n rows entries = (k : ℕ) (row : DocRow) → slice_get rows k ≡ Some row → has_word word row ≡ true → list_any (λ entry. entry.0 == n + k) entries ≡ true

or_false : (a b : Bool) → b ≡ false → (a || b) ≡ true → a ≡ true
or_false true b none e = refl
or_false false b none e = absurd (let clash : false ≡ true = sym none ∙ e in cc)

or_true : (a b : Bool) → a ≡ false → (a || b) ≡ true → b ≡ true
or_true a b none e = sym (ap (λ x. x || b) none) ∙ e

-- the first entry is that of a row that has the word, where those behind it are the postings of the rows behind it
with_first : (word : List ℕ) (n : ℕ) (r : DocRow) (rs : List DocRow) (more : (es : List Entry) → Rising (n + 1) es → All (IsEntryOf word (n + 1) rs) es → Has word (n + 1) rs es → es ≡ map spell (postings word (n + 1) rs))
    (entries : List Entry) → Rising n entries → All (IsEntryOf word n (r ∷ rs)) entries → Has word n (r ∷ rs) entries → has_word word r ≡ true → entries ≡ (n, hit_list (hits_of word r)) ∷ map spell (postings word (n + 1) rs)
with_first word n r rs more [] up each all has = let found = all zero r refl has in absurd cc
with_first word n r rs more (e ∷ es) up each all has =
    let is = each zero e (omega arith) in
    let found : list_any (λ (entry : Entry). entry.0 == n) (e ∷ es) ≡ true = subst (λ m. list_any (λ (entry : Entry). entry.0 == m) (e ∷ es) ≡ true) (omega arith) (all zero r refl has) in
    let first : e.0 ≡ n = one e.0 n (or_false (e.0 == n) (list_any (λ (entry : Entry). entry.0 == n) es) (none_before n (e.0 + 1) es (omega (arith, up.0)) up.2) found) in
    let rising : Rising (n + 1) es = subst (λ m. Rising (m + 1) es) first up.2 in
    let rest : es ≡ map spell (postings word (n + 1) rs) =
    more es rising (all_later word n r rs es (All-tail (IsEntryOf word n (r ∷ rs)) e es each) rising)
    (λ k row here has.
    let there : list_any (λ (entry : Entry). entry.0 == n + suc k) (e ∷ es) ≡ true = all (suc k) row here has in
    let own : (e.0 == n + suc k) ≡ false = differ e.0 (n + suc k) (λ same. omega (arith, same, first)) in
    subst (λ m. list_any (λ (entry : Entry). entry.0 == m) es ≡ true) (omega arith) (or_true (e.0 == n + suc k) (list_any (λ (entry : Entry). entry.0 == n + suc k) es) own there)) in
    let head : e ≡ (n, hit_list (hits_of word r)) = first_is word n r rs e is.at is.row first is.numbered is.here is.hits in
    cc

-- rising entries of the rows that have the word, one for each, are its postings
pub listed : (word : List ℕ) (n : ℕ) (rows : List DocRow) (entries : List Entry) → Rising n entries → All (IsEntryOf word n rows) entries → Has word n rows entries → entries ≡ map spell (postings word n rows)
listed word n [] [] up each all = refl
listed word n [] (e ∷ es) up each all = let is = each zero e (omega arith) in let here = is.here in absurd cc
listed word n (r ∷ rs) entries up each all =
    elim (has_word word r) as (λ b. has_word word r ≡ b → entries ≡ map spell (map (λ (e : ℕ × DocRow). (e.0, hits_of word e.1)) (cond b ((n, r) ∷ filter (λ e. has_word word e.1) (enumerate_from (n + 1) rs)) (filter (λ e. has_word word e.1) (enumerate_from (n + 1) rs))))) [
      | true ↦ λ has. with_first word n r rs (listed word (n + 1) rs) entries up each all has
      | false ↦ λ without.
          let rising : Rising (n + 1) entries = behind_other word n r rs entries without each up in
          listed word (n + 1) rs entries rising (all_later word n r rs entries each rising) (λ k row here has. subst (λ m. list_any (λ (entry : Entry). entry.0 == m) entries ≡ true) (omega arith) (all (suc k) row here has))
    ] refl

pub spelled_postings : (least : ℕ) (entries : List (ℕ × List (ℕ × ℕ))) → spelled_list least (map spell entries) ≡ posting_list least entries
spelled_postings least [] = refl
spelled_postings least (e ∷ es) = ap (λ l. spelled_posting least e.0 (hit_list e.1) ++ l) (spelled_postings (e.0 + 1) es)

-- entries in another order, which rise, are the posting list
pub word_listed : (word : List ℕ) (rows : List DocRow) (found entries : List Entry) → AreEntriesOf word rows found → IsPermutation found entries → Rising 0 entries
    → (spelled_list 0 entries ≡ word_postings rows word) × (length found ≡ length (rows_with word rows))
unfolding word_postings
word_listed word rows found entries are moved up =
    let is : entries ≡ map spell (postings word 0 rows) =
    listed word 0 rows entries up (All-permutation (IsEntryOf word 0 rows) found entries moved are.each)
    (λ k row here has.
    let there : list_any (λ (entry : Entry). entry.0 == k) entries ≡ true = sym (list_any-IsPermutation (λ (entry : Entry). entry.0 == k) found entries moved) ∙ are.all k row here has in
    subst (λ m. list_any (λ (entry : Entry). entry.0 == m) entries ≡ true) (omega arith) there) in (
      ap (spelled_list 0) is ∙ spelled_postings 0 (postings word 0 rows),
      omega (arith, length_permutation found entries moved, ap length is, length-map {B = Entry} (postings word 0 rows) spell, many word rows),
    )
