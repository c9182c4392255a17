-- Posting lists of a word one behind the other.
use Rattle.std.proofs.Common.{◌≡◌, Some, get_or, ℕ, ◌+◌, ◌-◌, ◌<◌, ◌≤◌, List, [], ◌∷◌, ◌++◌, true, false, cond, slice_get, length, map, drop, take, refl, sym, ap, subst, ◌∙◌, arith, length-append, append_assoc, append-nil}
use Rattle.std.specs.List.{filter, flat_map, enumerate_from}
use Rattle.std.proofs.Math.Seq.{drop-append_seam}
use Rattle.std.proofs.lemmas.List.{length-drop, length-map, map-append, take_all, take_more}
use Rattle.std.proofs.lemmas.List.Concat.{flat_map-append}
use Rattle.doc_types.specs.declared.cursor.TheConstants.{NO_ROW}
use Rattle.doc_types.specs.declared.documents.DocRow.{DocRow}
use Rattle.doc_types.specs.Chunks.{has_word, hits_of, rows_with}
use Rattle.chunk_image.specs.AlikeRows.{postings}
use Rattle.posting_codec.specs.Numbers.{IsNumberAt, number}
use Rattle.posting_codec.specs.HitLists.{hit_list}
use Rattle.posting_codec.specs.PostingLists.{posting, posting_list}
use Rattle.chunk_image.specs.ChunkImage.{word_postings}
use Rattle.chunk_image.proofs.WordsTold.{many}
use Rattle.image_join.specs.declared.stacking.Reached.{Reached}
use Rattle.image_join.specs.steps.Entries.{Entry, Rising, spelled_list}
use Rattle.image_join.specs.steps.Parts.{PartValue}
use Rattle.image_join.specs.steps.Stacking.{ArePosted, Posting, behind, moved, stacked_in}
use Rattle.image_join.proofs.Listed.{spell, spelled_postings}

abbrev firsts : List Entry → List ℕ
firsts entries = map (λ entry. entry.0) entries

-- lists one behind the other
spelled_append : (least : ℕ) (a b : List Entry) → spelled_list least (a ++ b) ≡ spelled_list least a ++ spelled_list (behind least (firsts a)) b
spelled_append least [] b = refl
spelled_append least (e ∷ es) b =
    let own = number (e.0 + 1 - least) ++ number (length e.1) ++ e.1 in
    ap (λ l. own ++ l) (spelled_append (e.0 + 1) es b) ∙ sym (append_assoc own (spelled_list (e.0 + 1) es) (spelled_list (behind (e.0 + 1) (firsts es)) b))

rising_append : (least : ℕ) (a b : List Entry) → Rising least a → Rising (behind least (firsts a)) b → Rising least (a ++ b)
rising_append least [] b up more = more
rising_append least (e ∷ es) b up more = (up.0, up.1, rising_append (e.0 + 1) es b up.2 more)

behind_append : (least : ℕ) (a b : List ℕ) → behind least (a ++ b) ≡ behind (behind least a) b
behind_append least [] b = refl
behind_append least (x ∷ xs) b = behind_append (x + 1) xs b

pub posted_none : (out : List ℕ) (reached : Reached) → ArePosted [] out out reached reached
posted_none out reached = record { bytes = sym (append-nil out); rising = tt; least = refl; count = omega arith }

pub posted_more : (a b : List Entry) (old mid new : List ℕ) (r s t : Reached) → ArePosted a old mid r s → ArePosted b mid new s t → ArePosted (a ++ b) old new r t
posted_more a b old mid new r s t was more =
    let here : spelled_list s.least b ≡ spelled_list (behind r.least (firsts a)) b = ap (λ l. spelled_list l b) was.least in
    record {
      bytes =
          more.bytes ∙ ap (λ l. l ++ spelled_list s.least b) was.bytes ∙ append_assoc old (spelled_list r.least a) (spelled_list s.least b)
          ∙ ap (λ l. old ++ (spelled_list r.least a ++ l)) here ∙ ap (λ l. old ++ l) (sym (spelled_append r.least a b));
      rising = rising_append r.least a b was.rising (subst (λ l. Rising l b) was.least more.rising);
      least = more.least ∙ ap (λ l. behind l (firsts b)) was.least ∙ sym (behind_append r.least (firsts a) (firsts b)) ∙ ap (behind r.least) (sym (map-append (λ (e : Entry). e.0) a b));
      count = omega (arith, more.count, was.count, length-append a b);
    }

-- a list whose rows stand further on
moved_on : (by k : ℕ) (entries : List Posting) → posting_list (by + k) (moved by entries) ≡ posting_list k entries
moved_on by k [] = refl
moved_on by k (e ∷ es) =
    let far : by + e.0 + 1 - (by + k) ≡ e.0 + 1 - k = omega arith in
    let next : by + e.0 + 1 ≡ by + (e.0 + 1) = omega arith in
    let tail : posting_list (by + e.0 + 1) (moved by es) ≡ posting_list (e.0 + 1) es = ap (λ n. posting_list n (moved by es)) next ∙ moved_on by (e.0 + 1) es in
    ap (λ n. number n ++ number (length (hit_list e.1)) ++ hit_list e.1 ++ posting_list (by + e.0 + 1) (moved by es)) far
    ∙ ap (λ l. posting k e.0 e.1 ++ l) tail

-- what stands behind the first entry's distance
abbrev pub others : Posting → List Posting → List ℕ
others e es = number (length (hit_list e.1)) ++ hit_list e.1 ++ posting_list (e.0 + 1) es

split : (n : ℕ) (e : Posting) (rest : List ℕ) → number n ++ number (length (hit_list e.1)) ++ hit_list e.1 ++ rest ≡ number n ++ (number (length (hit_list e.1)) ++ hit_list e.1 ++ rest)
split n e rest =
    ap (λ l. l ++ rest) (append_assoc (number n) (number (length (hit_list e.1))) (hit_list e.1)) ∙ append_assoc (number n) (number (length (hit_list e.1)) ++ hit_list e.1) rest

front : (e : Posting) (es : List Posting) → posting_list 0 (e ∷ es) ≡ number (e.0 + 1) ++ others e es
front e es =
    let same : e.0 + 1 - 0 ≡ e.0 + 1 = omega arith in
    ap (λ n. number n ++ number (length (hit_list e.1)) ++ hit_list e.1 ++ posting_list (e.0 + 1) es) same ∙ split (e.0 + 1) e (posting_list (e.0 + 1) es)

-- the first entry's distance stands in front
pub first_there : (list : List ℕ) (e : Posting) (es : List Posting) (by : ℕ) → list ≡ posting_list 0 (e ∷ es) → by + e.0 < NO_ROW → IsNumberAt list 0 (e.0 + 1) (others e es)
first_there list e es by is low = record { fits = omega (arith, low); here = is ∙ front e es }

pub others_there : (list : List ℕ) (e : Posting) (es : List Posting) → list ≡ posting_list 0 (e ∷ es) → drop (length (number (e.0 + 1))) list ≡ others e es
others_there list e es is = ap (drop (length (number (e.0 + 1)))) (is ∙ front e es) ∙ drop-append_seam (number (e.0 + 1)) (others e es)

-- what stands behind it, to the end
pub rest_there : (list : List ℕ) (e : Posting) (es : List Posting) (behind : ℕ) → list ≡ posting_list 0 (e ∷ es) → behind ≡ 0 + length (number (e.0 + 1)) → take (length list - behind) (drop behind list) ≡ others e es
rest_there list e es at is ends =
    let here : at ≡ length (number (e.0 + 1)) = omega (arith, ends) in
    take_all (length list - at) (drop at list) (omega (arith, length-drop at list)) ∙ ap (λ n. drop n list) here ∙ others_there list e es is

pub place_within : (list : List ℕ) (e : Posting) (es : List Posting) → list ≡ posting_list 0 (e ∷ es) → length (number (e.0 + 1)) ≤ length list
place_within list e es is = omega (arith, ap length (is ∙ front e es), length-append (number (e.0 + 1)) (others e es))

-- the same with another distance
pub moved_there : (by least n : ℕ) (e : Posting) (es : List Posting) (old spelled new rest : List ℕ) → n ≡ by + e.0 + 1 - least → rest ≡ others e es → spelled ≡ old ++ number n → new ≡ spelled ++ rest
    → new ≡ old ++ posting_list least (moved by (e ∷ es))
moved_there by least n e es old spelled new rest far behind put next =
    let tail : posting_list (by + e.0 + 1) (moved by es) ≡ posting_list (e.0 + 1) es = ap (λ m. posting_list m (moved by es)) (omega arith) ∙ moved_on by (e.0 + 1) es in
    let whole : posting_list least (moved by (e ∷ es)) ≡ number n ++ others e es =
    ap (λ m. number m ++ number (length (hit_list e.1)) ++ hit_list e.1 ++ posting_list (by + e.0 + 1) (moved by es)) (sym far)
    ∙ ap (λ l. number n ++ number (length (hit_list e.1)) ++ hit_list e.1 ++ l) tail
    ∙ split n e (posting_list (e.0 + 1) es) in
    next ∙ ap (λ l. spelled ++ l) behind ∙ ap (λ l. l ++ others e es) put ∙ append_assoc old (number n) (others e es) ∙ ap (λ l. old ++ l) (sym whole)

-- the rows that have a word, with their numbers
abbrev with_word : List ℕ → ℕ → List DocRow → List (ℕ × DocRow)
with_word word n rows = filter (λ e. has_word word e.1) (enumerate_from n rows)

postings_moved : (by n : ℕ) (word : List ℕ) (rows : List DocRow) → moved by (postings word n rows) ≡ postings word (by + n) rows
postings_moved by n word [] = refl
postings_moved by n word (r ∷ rs) =
    let next : moved by (postings word (n + 1) rs) ≡ postings word (by + n + 1) rs = postings_moved by (n + 1) word rs ∙ ap (λ m. postings word m rs) (omega arith) in
    elim (has_word word r) as (λ b. moved by (map (λ (e : ℕ × DocRow). (e.0, hits_of word e.1)) (cond b ((n, r) ∷ with_word word (n + 1) rs) (with_word word (n + 1) rs))) ≡ map (λ (e : ℕ × DocRow). (e.0, hits_of word e.1)) (cond b ((by + n, r) ∷ with_word word (by + n + 1) rs) (with_word word (by + n + 1) rs))) [
      | true ↦ ap (λ (l : List Posting). (by + n, hits_of word r) ∷ l) next
      | false ↦ next
    ]

-- the rows of postings, and of their entries
rows_of : (word : List ℕ) (rows : List (ℕ × DocRow)) → map (λ (e : Posting). e.0) (map (λ (e : ℕ × DocRow). (e.0, hits_of word e.1)) rows) ≡ map (λ (e : ℕ × DocRow). e.0) rows
rows_of word [] = refl
rows_of word (r ∷ rs) = ap (λ (l : List ℕ). r.0 ∷ l) (rows_of word rs)

firsts_moved : (by : ℕ) (entries : List Posting) → firsts (map spell (moved by entries)) ≡ map (λ n. by + n) (map (λ (e : Posting). e.0) entries)
firsts_moved by [] = refl
firsts_moved by (e ∷ es) = ap (λ (l : List ℕ). (by + e.0) ∷ l) (firsts_moved by es)

behind_moved : (by least : ℕ) (rows : List ℕ) → by + behind least rows ≡ behind (by + least) (map (λ n. by + n) rows)
behind_moved by least [] = refl
behind_moved by least (r ∷ rs) = behind_moved by (r + 1) rs ∙ ap (λ n. behind n (map (λ m. by + m) rs)) (omega arith)

-- one row further on
pub behind_ahead : (ahead : List ℕ) (row least : ℕ) → Some row ≡ slice_get ahead 0 → behind (row + 1) (drop 1 ahead) ≡ behind least ahead
behind_ahead [] row least next = absurd cc
behind_ahead (x ∷ xs) row least next =
    let same : row ≡ x = cc in
    ap (λ n. behind (n + 1) xs) same

behind_some : (a b : ℕ) (rows : List ℕ) → 0 < length rows → behind a rows ≡ behind b rows
behind_some a b [] some = absurd (omega (arith, some))
behind_some a b (r ∷ rs) some = refl

-- the last rows tell what all of them do
pub behind_last : (first last : List ℕ) → 0 < length last → behind 0 last ≡ behind 0 (first ++ last)
behind_last first last some = behind_some 0 (behind 0 first) last some ∙ sym (behind_append 0 first last)

-- the entries rise
rising_from : (word : List ℕ) (least n : ℕ) (rows : List DocRow) → least ≤ n → n + length rows < NO_ROW → Rising least (map spell (postings word n rows))
rising_from word least n [] low few = tt
rising_from word least n (r ∷ rs) low few =
    elim (has_word word r) as (λ b. Rising least (map spell (map (λ (e : ℕ × DocRow). (e.0, hits_of word e.1)) (cond b ((n, r) ∷ with_word word (n + 1) rs) (with_word word (n + 1) rs))))) [
      | true ↦ (low, omega (arith, few), rising_from word (n + 1) (n + 1) rs (omega arith) (omega (arith, few)))
      | false ↦ rising_from word least (n + 1) rs (omega (arith, low)) (omega (arith, few))
    ]

rising_at : (least other : ℕ) (entries : List Posting) → ((e : Posting) (es : List Posting) → entries ≡ e ∷ es → least ≤ e.0) → Rising other (map spell entries) → Rising least (map spell entries)
rising_at least other [] low up = tt
rising_at least other (e ∷ es) low up = (low e es refl, up.1, up.2)

-- the first of a word's postings
pub record Begins (by : ℕ) (entries : List Posting) : Type 0 where
  pub entry : Posting
  pub more : List Posting
  pub is : entries ≡ entry ∷ more
  pub low : by + entry.0 < NO_ROW

begun : (by : ℕ) (entries : List Posting) → 0 < length entries → Rising by (map spell (moved by entries)) → Begins by entries
begun by [] some up = absurd (omega (arith, some))
begun by (e ∷ es) some up = record { entry = e; more = es; is = refl; low = up.1 }

pub first_of : (word : List ℕ) (part : PartValue) → 0 < length (rows_with word part.rows) → part.first + length part.rows < NO_ROW → Begins part.first (postings word 0 part.rows)
first_of word part some few =
    let here : moved part.first (postings word 0 part.rows) ≡ postings word part.first part.rows = postings_moved part.first 0 word part.rows ∙ ap (λ n. postings word n part.rows) (omega arith) in
    begun part.first (postings word 0 part.rows) (omega (arith, some, many word part.rows))
    (subst (λ (l : List Posting). Rising part.first (map spell l)) (sym here) (rising_from word part.first part.first part.rows (omega arith) few))

pub list_of : (word list : List ℕ) (part : PartValue) (its : Begins part.first (postings word 0 part.rows)) → list ≡ word_postings part.rows word → list ≡ posting_list 0 (its.entry ∷ its.more)
unfolding word_postings
list_of word list part its is = is ∙ ap (posting_list 0) its.is

only : (e : Posting) (es : List Posting) → length (map (λ (x : Posting). x.0) (e ∷ es)) ≡ 1 → behind 0 (map (λ (x : Posting). x.0) (e ∷ es)) ≡ e.0 + 1
only e [] one = refl
only e (x ∷ xs) one = absurd (omega (arith, one))

-- where one row has the word, the row behind the first is that behind the last
pub behind_one : (word : List ℕ) (part : PartValue) (its : Begins part.first (postings word 0 part.rows)) → length (rows_with word part.rows) ≡ 1 → behind 0 (rows_with word part.rows) ≡ its.entry.0 + 1
behind_one word part its one =
    let own : map (λ (e : Posting). e.0) (its.entry ∷ its.more) ≡ rows_with word part.rows = ap (map (λ (e : Posting). e.0)) (sym its.is) ∙ rows_of word (with_word word 0 part.rows) in
    ap (behind 0) (sym own) ∙ only its.entry its.more (ap length own ∙ one)

-- the entries of a part were appended
pub posted_part : (word : List ℕ) (part : PartValue) (its : Begins part.first (postings word 0 part.rows)) (old new : List ℕ) (before after : Reached) → part.first + length part.rows < NO_ROW
    → before.least ≤ part.first + its.entry.0 → new ≡ old ++ posting_list before.least (moved part.first (its.entry ∷ its.more))
    → after.least ≡ part.first + behind 0 (rows_with word part.rows) → after.count ≡ before.count + length (rows_with word part.rows)
    → ArePosted (stacked_in word part) old new before after
posted_part word part its old new before after few low put least count =
    let by = part.first in
    let all : List Posting = postings word 0 part.rows in
    let there : moved by all ≡ postings word by part.rows = postings_moved by 0 word part.rows ∙ ap (λ n. postings word n part.rows) (omega arith) in
    let own : moved by (its.entry ∷ its.more) ≡ postings word by part.rows = ap (moved by) (sym its.is) ∙ there in
    let rows : map (λ (e : Posting). e.0) all ≡ rows_with word part.rows = rows_of word (with_word word 0 part.rows) in
    let nums : firsts (stacked_in word part) ≡ map (λ n. by + n) (rows_with word part.rows) = ap (λ (l : List Posting). firsts (map spell l)) (sym there) ∙ firsts_moved by all ∙ ap (map (λ n. by + n)) rows in
    let some : 0 < length (rows_with word part.rows) = omega (arith, ap length its.is, many word part.rows) in
    let many_there : length (map (λ (n : ℕ). by + n) (rows_with word part.rows)) ≡ length (rows_with word part.rows) = length-map (rows_with word part.rows) (λ (n : ℕ). by + n) in
    record {
      bytes = put ∙ ap (λ l. old ++ l) (sym (spelled_postings before.least (moved by (its.entry ∷ its.more))) ∙ ap (λ (l : List Posting). spelled_list before.least (map spell l)) own);
      rising =
          subst (λ (l : List Posting). Rising before.least (map spell l)) own
          (rising_at before.least by (moved by (its.entry ∷ its.more)) (λ e es is. low_first e es is)
          (subst (λ (l : List Posting). Rising by (map spell l)) (sym own) (rising_from word by by part.rows (omega arith) few)));
      least =
          least ∙ behind_moved by 0 (rows_with word part.rows) ∙ behind_some (by + 0) before.least (map (λ n. by + n) (rows_with word part.rows)) (omega (arith, some, many_there))
          ∙ ap (behind before.least) (sym nums);
      count = count ∙ ap (λ n. before.count + n) (omega (arith, ap length nums, many_there, length-map (stacked_in word part) (λ (e : Entry). e.0)));
    }
  where
    low_first : (e : Posting) (es : List Posting) → moved part.first (its.entry ∷ its.more) ≡ e ∷ es → before.least ≤ e.0
    low_first e es is = let same : part.first + its.entry.0 ≡ e.0 = ap (head_row (part.first + its.entry.0)) is in omega (arith, low, same)
      where
        head_row : ℕ → List Posting → ℕ
        head_row d [] = d
        head_row d (x ∷ xs) = x.0

-- a part without the word has no entry
pub none_stacked : (word : List ℕ) (part : PartValue) → rows_with word part.rows ≡ [] → stacked_in word part ≡ []
none_stacked word part none =
    let there : moved part.first (postings word 0 part.rows) ≡ postings word part.first part.rows = postings_moved part.first 0 word part.rows ∙ ap (λ n. postings word n part.rows) (omega arith) in
    let all : postings word 0 part.rows ≡ [] = nothing (postings word 0 part.rows) (many word part.rows ∙ ap length none) in
    ap (map spell) (sym there) ∙ ap (λ (l : List Posting). map spell (moved part.first l)) all
  where
    nothing : (l : List Posting) → length l ≡ 0 → l ≡ []
    nothing [] e = refl
    nothing (x ∷ xs) e = absurd (omega (arith, e))

-- the parts up to here
pub stacked_more : (word : List ℕ) (parts : List PartValue) (i : ℕ) (part : PartValue) (old mid new : List ℕ) (r s t : Reached) → i < length parts → part ≡ get_or parts i part
    → ArePosted (flat_map (stacked_in word) (take i parts)) old mid r s → ArePosted (stacked_in word part) mid new s t → ArePosted (flat_map (stacked_in word) (take (i + 1) parts)) old new r t
stacked_more word parts i part old mid new r s t low is was more =
    let all : take (i + 1) parts ≡ take i parts ++ part ∷ [] = take_more parts i part low ∙ ap (λ (p : PartValue). take i parts ++ p ∷ []) (sym is) in
    let entries : flat_map (stacked_in word) (take (i + 1) parts) ≡ flat_map (stacked_in word) (take i parts) ++ stacked_in word part =
    ap (flat_map (stacked_in word)) all ∙ flat_map-append (stacked_in word) (take i parts) (part ∷ []) ∙ ap (λ (l : List Entry). flat_map (stacked_in word) (take i parts) ++ l) (append-nil (stacked_in word part)) in
    subst (λ (es : List Entry). ArePosted es old new r t) (sym entries) (posted_more (flat_map (stacked_in word) (take i parts)) (stacked_in word part) old mid new r s t was more)
