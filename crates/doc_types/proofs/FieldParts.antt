-- What the fields of a row have, one field more at a time.
use Rattle.std.proofs.Common.{◌≡◌, ℕ, ◌+◌, suc, zero, ◌<◌, ◌≤◌, List, [], ◌∷◌, ◌++◌, length, get_or, map, take, refl, sym, ap, ◌∙◌, append-nil, append_assoc, arith, add-one, length-append, length-take}
use Rattle.std.proofs.Common.{◌^◌, Bool, true, false, if◌then◌else◌}
use Rattle.std.proofs.Math.Nat.{two-pow-succ}
use Rattle.std.specs.List.{flat_map, enumerate_from, list_any, sum_by}
use Rattle.doc_types.specs.declared.tokens.FieldTokens.{FieldTokens}
use Rattle.doc_types.specs.Chunks.{is_word}
use Rattle.std.proofs.lemmas.List.{take-take, take_at, take_more}
use Rattle.std.proofs.lemmas.List.Sums.{sum_by-append}
use Rattle.doc_types.proofs.Indexed.{enumerated}

abbrev pub parts : {X Y : Type 0} → ℕ → (Y → List X) → List Y → List (ℕ × X)
parts n items ys = flat_map (λ e. map (λ x. (e.0, x)) (items e.1)) (enumerate_from n ys)

step : {X Y : Type 0} (f : Y → List X) (xs : List Y) (i n m : ℕ) (d : Y) → i < length xs → m ≡ n + i → parts n f (take (suc i) xs) ≡ parts n f (take i xs) ++ map (λ x. (m, x)) (f (get_or xs i d))
step f [] i n m d h e = absurd (omega arith)
step f (x ∷ xs) zero n m d h e = let k : m ≡ n = omega (arith, e) in rw k (append-nil _)
step f (x ∷ xs) (suc i) n m d h e = ap (λ t. map (λ y. (n, y)) (f x) ++ t) (step f xs i (n + 1) m d (omega arith) (omega (arith, e))) ∙ sym (append_assoc (map (λ y. (n, y)) (f x)) (parts (n + 1) f (take i xs)) (map (λ y. (m, y)) (f (get_or xs i d))))

-- the parts of one field more
pub parts_more : {X Y : Type 0} (f : Y → List X) (ys : List Y) (i : ℕ) (y : Y) (start before after : List (ℕ × X)) → i < length ys → y ≡ get_or ys i y → before ≡ start ++ parts 0 f (take i ys) → after ≡ before ++ map (λ x. (i, x)) (f y) → after ≡ start ++ parts 0 f (take (i + 1) ys)
parts_more f ys i y start before after h e b a =
    let grown : parts 0 f (take (i + 1) ys) ≡ parts 0 f (take i ys) ++ map (λ x. (i, x)) (f (get_or ys i y)) = rw (add-one i) (step f ys i 0 i y h (omega arith)) in
    let joined : before ++ map (λ x. (i, x)) (f y) ≡ start ++ parts 0 f (take (i + 1) ys) =
    rw (b, grown, ← e) (append_assoc start (parts 0 f (take i ys)) (map (λ x. (i, x)) (f y))) in
    a ∙ joined

-- a list that is cut back to where it began
pub cut_back : {X : Type 0} (start more before after : List X) (n : ℕ) → n ≡ length start → before ≡ start ++ more → take (length before) after ≡ before → take n after ≡ start
cut_back start more before after n e b t =
    let long : length before ≡ length start + length more = ap length b ∙ length-append start more in
    let short : n ≤ length before = omega (arith, long, e) in
    let front : take n before ≡ start = rw (e, b) (take_at start more (length start) refl) in
    sym (take-take n (length before) after short) ∙ ap (take n) t ∙ front

-- the bit of a field that has the word
abbrev pub bit_of : List ℕ → ℕ × FieldTokens → ℕ
bit_of word e = if list_any (is_word word) e.1.words then 2 ^ e.0 else 0

-- the bits of the first fields, and that they lie below that of the next one
pub record AreBits (word : List ℕ) (fields : List FieldTokens) (count bits : ℕ) : Type 0 where
  pub sum : bits ≡ sum_by (bit_of word) (enumerate_from 0 (take count fields))
  pub below : bits < 2 ^ count

first : (n : ℕ) → 0 + n ≡ n
first n = omega arith

sum_more : {Y : Type 0} (f : ℕ × Y → ℕ) (ys : List Y) (i : ℕ) (y : Y) → i < length ys → y ≡ get_or ys i y → sum_by f (enumerate_from 0 (take (i + 1) ys)) ≡ sum_by f (enumerate_from 0 (take i ys)) + f (i, y)
sum_more f ys i y h at =
    let long : i ≡ 0 + length (take i ys) = omega (arith, length-take i ys, h) in
    let split : take (i + 1) ys ≡ take i ys ++ y ∷ [] = take_more ys i y h ∙ ap (λ z. take i ys ++ z ∷ []) (sym at) in
    ap (λ its. sum_by f (enumerate_from 0 its)) split
    ∙ ap (sum_by f) (enumerated (take i ys) y 0 i long)
    ∙ sum_by-append f (enumerate_from 0 (take i ys)) ((i, y) ∷ [])
    ∙ ap (λ (n : ℕ). sum_by f (enumerate_from 0 (take i ys)) + n) (first (f (i, y)))

doubled : (word : List ℕ) (i : ℕ) (has : Bool) (bits : ℕ) → bits < 2 ^ i → bits + (if has then 2 ^ i else 0) < 2 ^ (i + 1)
doubled word i true bits low = rw (add-one i) (omega (arith, low, two-pow-succ i))
doubled word i false bits low = rw (add-one i) (omega (arith, low, two-pow-succ i))

-- the bits of one field more
pub bits_more : (word : List ℕ) (fields : List FieldTokens) (i : ℕ) (field : FieldTokens) (before after : ℕ) → i < length fields → field ≡ get_or fields i field → AreBits word fields i before → after ≡ before + bit_of word (i, field) → AreBits word fields (i + 1) after
bits_more word fields i field before after h at are e = record {
  sum = e ∙ ap (λ (n : ℕ). n + bit_of word (i, field)) are.sum ∙ sym (sum_more (bit_of word) fields i field h at);
  below = rw e (doubled word i (list_any (is_word word) field.words) before are.below);
}
