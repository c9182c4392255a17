-- Runs of letters, one after the other.
use Rattle.std.proofs.Common.{◌≡◌, ℕ, zero, suc, ◌+◌, ◌≤◌, eqb, arith, Bool, false, List, [], ◌∷◌, ◌++◌, length, take, drop, map, refl, sym, ap, ◌∙◌, append_assoc, append-nil, length-append}
use Rattle.std.specs.Prelude.{Option, Some, None, filter}
use Rattle.std.specs.Option.{is_some}
use Rattle.std.specs.List.{prefix_len, slice_split, onto_first}
use Rattle.std.proofs.lemmas.Bool.{cond-false, ne_eqb}
use Rattle.std.proofs.lemmas.List.{map-append, length-map}
use Rattle.query_tree.specs.declared.key.Key.{Key}
use Rattle.query_tree.specs.declared.key.Limit.{Limit}
use Rattle.query_marks.specs.declared.keys.Standing.{Standing}
use Rattle.query_marks.specs.Marks.{keys_after}
use Rattle.query_marks.specs.QueryWords.{separates, has_letters, runs_in, word_of}
use Rattle.query_marks.specs.steps.Runs.{one_or_none}

-- how many letters stand at the front
abbrev pub front : List (Option ℕ) → ℕ
front letters = prefix_len is_some letters

take_more : {X : Type 0} (n : ℕ) (x : X) (xs : List X) → take (1 + n) (x ∷ xs) ≡ x ∷ take n xs
take_more n x xs = let e : 1 + n ≡ suc n = omega arith in ap (λ k. take k (x ∷ xs)) e

drop_past : {X : Type 0} (n : ℕ) (x : X) (xs : List X) → drop (1 + n + 1) (x ∷ xs) ≡ drop (n + 1) xs
drop_past n x xs = let e : 1 + n + 1 ≡ suc (n + 1) = omega arith in ap (λ k. drop k (x ∷ xs)) e

split_next : (letters : List (Option ℕ)) → (more : List (List (Option ℕ))) × (slice_split separates letters ≡ take (front letters) letters ∷ more) × (filter has_letters more ≡ runs_in (drop (front letters + 1) letters))
split_next [] = ([], refl, refl)
split_next (None ∷ letters) = (slice_split separates letters, refl, refl)
split_next (Some v ∷ letters) =
    let next = split_next letters in (
      next.0,
      ap (onto_first (Some v)) next.1 ∙ ap (λ run. run ∷ next.0) (sym (take_more (front letters) (Some v) letters)),
      next.2 ∙ ap runs_in (sym (drop_past (front letters) (Some v) letters)),
    )

some_first : (run : List (Option ℕ)) (more : List (List (Option ℕ))) → filter has_letters (run ∷ more) ≡ filter has_letters (run ∷ []) ++ filter has_letters more
some_first [] more = refl
some_first (v ∷ run) more = refl

-- the first run, and those after it
pub runs_next : (letters : List (Option ℕ)) → runs_in letters ≡ filter has_letters (take (front letters) letters ∷ []) ++ runs_in (drop (front letters + 1) letters)
runs_next letters =
    let next = split_next letters in
    ap (filter has_letters) next.1 ∙ some_first (take (front letters) letters) next.0 ∙ ap (λ l. filter has_letters (take (front letters) letters ∷ []) ++ l) next.2

front_some : (letters : List (Option ℕ)) → length (filter has_letters (take (front letters) letters ∷ [])) ≡ one_or_none (front letters)
front_some [] = refl
front_some (None ∷ letters) = refl
front_some (Some v ∷ letters) =
    ap (λ run. length (filter has_letters (run ∷ []))) (take_more (front letters) (Some v) letters)
    ∙ sym (cond-false (eqb (1 + front letters) 0) 0 1 (ne_eqb (1 + front letters) 0 (λ e. omega (arith, e))))

pub one_within : (len : ℕ) → one_or_none len ≤ len
one_within zero = omega arith
one_within (suc len) = omega (arith, cond-false {A = ℕ} (eqb (suc len) 0) 0 1 (ne_eqb (suc len) 0 (λ e. omega (arith, e))))

pub count_next : (letters : List (Option ℕ)) → length (runs_in letters) ≡ one_or_none (front letters) + length (runs_in (drop (front letters + 1) letters))
count_next letters =
    ap length (runs_next letters)
    ∙ length-append (filter has_letters (take (front letters) letters ∷ [])) (runs_in (drop (front letters + 1) letters))
    ∙ ap (λ n. n + length (runs_in (drop (front letters + 1) letters))) (front_some letters)

keys_append : (n : ℕ) (limit : Limit) (start end : Bool) (words more : List (List ℕ)) → keys_after n limit start end (words ++ more) ≡ keys_after n limit start end words ++ keys_after (n + length words) limit start end more
keys_append n limit start end [] more = let e : n ≡ n + 0 = omega arith in ap (λ k. keys_after k limit start end more) e
keys_append n limit start end (word ∷ words) more =
    let e : n + 1 + length words ≡ n + length (word ∷ words) = omega arith in
    ap (λ l. record { query = n + 1; word = word; limit = limit; start = start; end = end; prefix = false } ∷ l)
    (keys_append (n + 1) limit start end words more ∙ ap (λ k. keys_after (n + 1) limit start end words ++ keys_after k limit start end more) e)

keys_length : (n : ℕ) (limit : Limit) (start end : Bool) (words : List (List ℕ)) → length (keys_after n limit start end words) ≡ length words
keys_length n limit start end [] = refl
keys_length n limit start end (word ∷ words) = ap suc (keys_length (n + 1) limit start end words)

-- The keywords of the runs that were read, with those of the letters that are left, are as wanted, and few enough.
pub record Spells (all rest : List (Option ℕ)) (standing : Standing) (keys : List Key) : Type 0 where
  pub is : keys ++ keys_after (standing.before + length keys) standing.limit standing.start standing.end (map word_of (runs_in rest)) ≡ keys_after standing.before standing.limit standing.start standing.end (map word_of (runs_in all))
  pub few : standing.before + length keys + length (runs_in rest) ≤ 255

pub spells_start : (all : List (Option ℕ)) (standing : Standing) (keys : List Key) → keys ≡ [] → standing.before + length (runs_in all) ≤ 255 → Spells all all standing keys
spells_start all standing keys empty few =
    let none : length keys ≡ 0 = ap length empty in
    let e : standing.before + length keys ≡ standing.before = omega (arith, none) in
    record {
      is = ap (λ l. l ++ keys_after (standing.before + length keys) standing.limit standing.start standing.end (map word_of (runs_in all))) empty
          ∙ ap (λ k. keys_after k standing.limit standing.start standing.end (map word_of (runs_in all))) e;
      few = omega (arith, none, few);
    }

pub spells_next : (all rest left : List (Option ℕ)) (standing : Standing) (keys next : List Key) (len : ℕ) → len ≡ front rest → left ≡ drop (len + 1) rest → next ≡ keys ++ keys_after (standing.before + length keys) standing.limit standing.start standing.end (map word_of (filter has_letters (take len rest ∷ []))) → Spells all rest standing keys → Spells all left standing next
spells_next all rest left standing keys next len is ahead grown spells =
    let read : List (List ℕ) = map word_of (filter has_letters (take (front rest) rest ∷ [])) in
    let more : List (List ℕ) = map word_of (runs_in (drop (front rest + 1) rest)) in
    let n : ℕ = standing.before + length keys in
    let keys_from : ℕ → List (List ℕ) → List Key = λ k words. keys_after k standing.limit standing.start standing.end words in
    let grown' : next ≡ keys ++ keys_from n read = grown ∙ ap (λ k. keys ++ keys_from n (map word_of (filter has_letters (take k rest ∷ [])))) is in
    let ahead' : left ≡ drop (front rest + 1) rest = ahead ∙ ap (λ k. drop (k + 1) rest) is in
    let count : length next ≡ length keys + length read = ap length grown' ∙ length-append keys (keys_from n read) ∙ ap (λ k. length keys + k) (keys_length n standing.limit standing.start standing.end read) in
    let e : standing.before + length next ≡ n + length read = omega (arith, count) in
    let words : map word_of (runs_in rest) ≡ read ++ more = ap (map word_of) (runs_next rest) ∙ map-append word_of (filter has_letters (take (front rest) rest ∷ [])) (runs_in (drop (front rest + 1) rest)) in
    let total : length (runs_in rest) ≡ length read + length (runs_in (drop (front rest + 1) rest)) =
    ap length (runs_next rest) ∙ length-append (filter has_letters (take (front rest) rest ∷ [])) (runs_in (drop (front rest + 1) rest)) ∙ ap (λ k. k + length (runs_in (drop (front rest + 1) rest))) (sym (length-map (filter has_letters (take (front rest) rest ∷ [])) word_of)) in
    let same : length (runs_in left) ≡ length (runs_in (drop (front rest + 1) rest)) = ap (λ l. length (runs_in l)) ahead' in
    record {
      is = ap (λ l. l ++ keys_from (standing.before + length next) (map word_of (runs_in left))) grown'
          ∙ append_assoc keys (keys_from n read) (keys_from (standing.before + length next) (map word_of (runs_in left)))
          ∙ ap (λ l. keys ++ (keys_from n read ++ keys_from (standing.before + length next) (map word_of (runs_in l)))) ahead'
          ∙ ap (λ k. keys ++ (keys_from n read ++ keys_from k more)) e
          ∙ ap (λ l. keys ++ l) (sym (keys_append n standing.limit standing.start standing.end read more))
          ∙ ap (λ l. keys ++ keys_from n l) (sym words)
          ∙ spells.is;
      few = omega (arith, spells.few, count, total, same);
    }

pub spells_end : (all rest : List (Option ℕ)) (standing : Standing) (keys : List Key) → rest ≡ [] → Spells all rest standing keys → keys ≡ keys_after standing.before standing.limit standing.start standing.end (map word_of (runs_in all))
spells_end all rest standing keys none spells =
    sym (append-nil keys)
    ∙ ap (λ l. keys ++ keys_after (standing.before + length keys) standing.limit standing.start standing.end (map word_of (runs_in l))) (sym none)
    ∙ spells.is
