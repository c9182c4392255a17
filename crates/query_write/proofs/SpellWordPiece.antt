-- A word as it is written is one piece of the text.
use Rattle.std.proofs.Common.{◌≡◌, ◌≢◌, ℕ, ◌+◌, ◌<◌, Bool, true, false, eqb, List, [], ◌∷◌, ◌++◌, ◌||◌, ◌&&◌, not, length, get_or, codes, encode_utf8, encode_utf8_all, refl, sym, ap, ◌∙◌, subst, arith, ⊎_elim}
use Rattle.std.specs.Prelude.{Option, None, if◌then◌else◌, ◌==◌, MatchOption}
use Rattle.std.proofs.lemmas.Bool.{and_parts, and_right, both_ways, eqb-true, or_cases}
use Rattle.query_pieces.specs.declared.piece.Form.TheVariants as forms
use Rattle.query_pieces.specs.declared.piece.Piece.{Piece}
use Rattle.query_pieces.specs.QueryBytes.{byte, is_bound}
use Rattle.query_pieces.specs.Operators.{slice, piece, operator_at, operator_by}
use Rattle.query_pieces.specs.Letters.{Alphabet, Letter, is_star, letter_at}
use Rattle.query_pieces.specs.Pieces.{IsRun, IsWord, IsPlain, Stands, after_start, word_piece, separator_at}
use Rattle.query_write.specs.Spelling.{is_plain, is_lettered, stays, escape, spelled_from, spelled}
use Rattle.query_write.proofs.SpellPlaces.{IsRest, rest_past, byte_first}
use Rattle.query_write.proofs.SpellSigns.{IsEnd, ends_word, no_operator, apart}
use Rattle.query_write.proofs.SpellLetters.{AreKept, HasNone, encode_some}
use Rattle.query_write.proofs.SpellWords.{StarEnds, letters_are, no_letter}

-- `^` where the flag is true
abbrev pub start_text : Bool → List ℕ
start_text start = if start then codes "^" else []

-- `$` and `*` where the flags are true
abbrev pub end_text : Bool → Bool → List ℕ
end_text end prefix = (if end then codes "$" else []) ++ (if prefix then codes "*" else [])

-- what stands after a word without `$` and `*`
abbrev pub parts_word : ℕ → Bool
parts_word b = (b == 32) || (b == 41)

pub parts_cases : (P : ℕ → Type 0) (b : ℕ) → parts_word b ≡ true → P 32 → P 41 → P b
parts_cases P b is blank close = ⊎_elim (λ e. subst P (sym (eqb-true b 32 e)) blank) (λ e. subst P (sym (eqb-true b 41 e)) close) (or_cases (b == 32) (b == 41) is)

-- the first byte of a word is plain, or a `\`
pub first_byte : (bounded : Bool) (b : ℕ) (bytes rest : List ℕ) (test : ℕ → Bool) → ((c : ℕ) → is_plain c ≡ true → test c ≡ false) → test 92 ≡ false → test (get_or (spelled_from bounded (b ∷ bytes) ++ rest) 0 32) ≡ false
first_byte bounded b bytes rest test plain escaped = by (stays bounded b bytes) refl
  where
    by : (s : Bool) → stays bounded b bytes ≡ s → test (get_or (escape s ++ b ∷ spelled_from (is_bound b) bytes ++ rest) 0 32) ≡ false
    by true e = plain b (and_parts (is_plain b) (not (bounded && is_lettered (b ∷ bytes))) e).0
    by false e = escaped

word_none : (text : List ℕ) (inside : Bool) (place b : ℕ) (bytes rest : List ℕ) → IsEnd rest → IsRest text place (spelled (b ∷ bytes) ++ rest) → operator_at text inside place ≡ None
unfolding operator_at
word_none text inside place b bytes rest end at = by (stays true b bytes) refl
  where
    by : (s : Bool) → stays true b bytes ≡ s → operator_at text inside place ≡ None
    by true e = no_operator text inside place true b bytes rest (record { at = at; stays = e; before = λ bound. refl; end = end })
    by false e = ap (operator_by text inside place) (byte_first text place (spelled (b ∷ bytes) ++ rest) at ∙ ap (λ (s : Bool). get_or (escape s ++ b ∷ spelled_from (is_bound b) bytes ++ rest) 0 32) e)

-- A word stands in a text, with its marks and what stands after it. A `*` makes it a prefix.
pub record StandsAt (alphabet : Alphabet) (text : List ℕ) (place : ℕ) (start end prefix : Bool) (word rest : List ℕ) : Type 0 where
  pub at : IsRest text place (start_text start ++ (spelled word ++ (end_text end prefix ++ rest)))
  pub after : parts_word (get_or rest 0 32) ≡ true
  pub star : prefix ≡ true → (alphabet.stars ≡ true) × (end ≡ false)

-- the places of its parts
abbrev pub word_from : ℕ → Bool → ℕ
word_from place start = place + length (start_text start)

abbrev pub word_to : ℕ → Bool → List ℕ → ℕ
word_to place start word = word_from place start + length (spelled word)

word_end : (end prefix : Bool) (rest : List ℕ) → parts_word (get_or rest 0 32) ≡ true → IsEnd (end_text end prefix ++ rest)
word_end true prefix rest after = record { is = refl }
word_end false true rest after = record { is = refl }
word_end false false rest after = record { is = parts_cases (λ (c : ℕ). ends_word c ≡ true) (get_or rest 0 32) after refl refl }

star_ends : (alphabet : Alphabet) (end prefix : Bool) (rest : List ℕ) → parts_word (get_or rest 0 32) ≡ true → (prefix ≡ true → (alphabet.stars ≡ true) × (end ≡ false)) → StarEnds alphabet true (end_text end prefix ++ rest)
star_ends alphabet true prefix rest after star e = let same : 36 ≡ 42 = e in absurd (omega (arith, same))
star_ends alphabet false true rest after star e = (refl, (star refl).0)
star_ends alphabet false false rest after star e = absurd (both_ways false refl (sym (ap parts_word e) ∙ after))

starts_none : (text : List ℕ) (inside : Bool) (place : ℕ) (start : Bool) (b : ℕ) (bytes rest : List ℕ) → IsEnd rest → IsRest text place (start_text start ++ (spelled (b ∷ bytes) ++ rest)) → operator_at text inside place ≡ None
unfolding operator_at
starts_none text inside place true b bytes rest end at = ap (operator_by text inside place) (byte_first text place (94 ∷ (spelled (b ∷ bytes) ++ rest)) at)
starts_none text inside place false b bytes rest end at = word_none text inside place b bytes rest end at

start_is : (text : List ℕ) (place : ℕ) (start : Bool) (b : ℕ) (bytes rest : List ℕ) → IsRest text place (start_text start ++ (spelled (b ∷ bytes) ++ rest)) → (byte text place == 94) ≡ start
start_is text place true b bytes rest at = ap (λ (c : ℕ). eqb c 94) (byte_first text place (94 ∷ (spelled (b ∷ bytes) ++ rest)) at)
start_is text place false b bytes rest at = ap (λ (c : ℕ). eqb c 94) (byte_first text place (spelled (b ∷ bytes) ++ rest) at) ∙ first_byte true b bytes rest (λ (c : ℕ). eqb c 94) (λ c plain. apart is_plain c 94 plain refl) refl

start_place : (place : ℕ) (start : Bool) → (if start then place + 1 else place) ≡ word_from place start
start_place place true = refl
start_place place false = omega arith

end_is : (text : List ℕ) (to : ℕ) (end prefix : Bool) (rest : List ℕ) → parts_word (get_or rest 0 32) ≡ true → IsRest text to (end_text end prefix ++ rest) → (byte text to == 36) ≡ end
end_is text to true prefix rest after at = ap (λ (c : ℕ). eqb c 36) (byte_first text to (end_text true prefix ++ rest) at)
end_is text to false true rest after at = ap (λ (c : ℕ). eqb c 36) (byte_first text to (42 ∷ rest) at)
end_is text to false false rest after at = ap (λ (c : ℕ). eqb c 36) (byte_first text to rest at) ∙ parts_cases (λ (c : ℕ). eqb c 36 ≡ false) (get_or rest 0 32) after refl refl

star_is : (alphabet : Alphabet) (text : List ℕ) (to : ℕ) (end prefix : Bool) (rest : List ℕ) → parts_word (get_or rest 0 32) ≡ true → (prefix ≡ true → (alphabet.stars ≡ true) × (end ≡ false)) → IsRest text to (end_text end prefix ++ rest) → is_star alphabet (byte text to) ≡ prefix
star_is alphabet text to true true rest after star at = absurd (both_ways true (star refl).1 refl)
star_is alphabet text to true false rest after star at = and_right alphabet.stars (byte text to == 42) (ap (λ (c : ℕ). eqb c 42) (byte_first text to (36 ∷ rest) at))
star_is alphabet text to false true rest after star at =
    ap (λ (b : Bool). b && (byte text to == 42)) (star refl).0 ∙ ap (λ (c : ℕ). eqb c 42) (byte_first text to (42 ∷ rest) at)
star_is alphabet text to false false rest after star at =
    and_right alphabet.stars (byte text to == 42) (ap (λ (c : ℕ). eqb c 42) (byte_first text to rest at) ∙ parts_cases (λ (c : ℕ). eqb c 42 ≡ false) (get_or rest 0 32) after refl refl)

end_place : (to : ℕ) (end prefix : Bool) → (prefix ≡ true → end ≡ false) → (if end || prefix then to + 1 else to) ≡ to + length (end_text end prefix)
end_place to true true apart = absurd (both_ways true (apart refl) refl)
end_place to true false apart = refl
end_place to false true apart = refl
end_place to false false apart = omega arith

-- the piece of a word
abbrev pub piece_of_word : ℕ → Bool → Bool → Bool → List ℕ → Piece
piece_of_word place start end prefix word =
    piece (forms.Word (record { letters = slice (word_from place start) (word_to place start word); start = start; end = end; prefix = prefix })) (word_to place start word + length (end_text end prefix))

abbrev built : ℕ → Bool → Bool → Bool → ℕ → ℕ → Piece
built from start end prefix to after = piece (forms.Word (record { letters = slice from to; start = start; end = end; prefix = prefix })) after

word_built : (alphabet : Alphabet) (text : List ℕ) (place : ℕ) (start end prefix : Bool) (b : ℕ) (bytes rest : List ℕ) → StandsAt alphabet text place start end prefix (b ∷ bytes) rest
    → piece_of_word place start end prefix (b ∷ bytes) ≡ word_piece alphabet text place (after_start text place) (word_to place start (b ∷ bytes))
word_built alphabet text place start end prefix b bytes rest s =
    let to : ℕ = word_to place start (b ∷ bytes) in
    let ends : IsRest text to (end_text end prefix ++ rest) = rest_past text (word_from place start) (spelled (b ∷ bytes)) (end_text end prefix ++ rest) (rest_past text place (start_text start) (spelled (b ∷ bytes) ++ (end_text end prefix ++ rest)) s.at) in
    let first : (byte text place == 94) ≡ start = start_is text place start b bytes (end_text end prefix ++ rest) s.at in
    let last : (byte text to == 36) ≡ end = end_is text to end prefix rest s.after ends in
    let star : is_star alphabet (byte text to) ≡ prefix = star_is alphabet text to end prefix rest s.after s.star ends in
    sym (ap (λ (f : Bool). built (if f then place + 1 else place) f (byte text to == 36) (is_star alphabet (byte text to)) to (if (byte text to == 36) || is_star alphabet (byte text to) then to + 1 else to)) first
    ∙ ap (λ (n : ℕ). built n start (byte text to == 36) (is_star alphabet (byte text to)) to (if (byte text to == 36) || is_star alphabet (byte text to) then to + 1 else to)) (start_place place start)
    ∙ ap (λ (e : Bool). built (word_from place start) start e (is_star alphabet (byte text to)) to (if e || is_star alphabet (byte text to) then to + 1 else to)) last
    ∙ ap (λ (p : Bool). built (word_from place start) start end p to (if end || p then to + 1 else to)) star
    ∙ ap (built (word_from place start) start end prefix to) (end_place to end prefix (λ e. (s.star e).1)))

-- where the first letter stands
start_at : (alphabet : Alphabet) (text : List ℕ) (place : ℕ) (start end prefix : Bool) (b : ℕ) (bytes rest : List ℕ) → StandsAt alphabet text place start end prefix (b ∷ bytes) rest → after_start text place ≡ word_from place start
start_at alphabet text place start end prefix b bytes rest s = ap (λ (f : Bool). if f then place + 1 else place) (start_is text place start b bytes (end_text end prefix ++ rest) s.at) ∙ start_place place start

word_run : (alphabet : Alphabet) (text : List ℕ) (place : ℕ) (start end prefix : Bool) (cs rest : List ℕ) → HasNone alphabet.fold → AreKept alphabet.fold cs → cs ≢ [] → StandsAt alphabet text place start end prefix (encode_utf8_all cs) rest → IsRun alphabet text (word_from place start) cs (word_to place start (encode_utf8_all cs))
word_run alphabet text place start end prefix cs rest none kept some s =
    let from : IsRest text (word_from place start) (spelled (encode_utf8_all cs) ++ (end_text end prefix ++ rest)) = rest_past text place (start_text start) (spelled (encode_utf8_all cs) ++ (end_text end prefix ++ rest)) s.at in
    let ends : IsEnd (end_text end prefix ++ rest) = word_end end prefix rest s.after in
    record {
      some = some;
      are = letters_are alphabet text false (word_from place start) true cs (end_text end prefix ++ rest) kept ends (λ bound. refl) from;
      whole = no_letter alphabet text true (word_to place start (encode_utf8_all cs)) (end_text end prefix ++ rest) none ends (star_ends alphabet end prefix rest s.after s.star) (rest_past text (word_from place start) (spelled (encode_utf8_all cs)) (end_text end prefix ++ rest) from);
    }

-- a word has bytes
pub word_bytes : (c : ℕ) (cs : List ℕ) → (b : ℕ) × (bytes : List ℕ) × (encode_utf8_all (c ∷ cs) ≡ b ∷ bytes)
word_bytes c cs = by (encode_utf8 c) (encode_some c)
  where
    by : (front : List ℕ) → 0 < length front → (b : ℕ) × (bytes : List ℕ) × (front ++ encode_utf8_all cs ≡ b ∷ bytes)
    by [] some = absurd (omega (arith, some))
    by (b ∷ front) some = (b, front ++ encode_utf8_all cs, refl)

pub word_stands : (alphabet : Alphabet) (text : List ℕ) (inside : Bool) (place : ℕ) (start end prefix : Bool) (c : ℕ) (cs rest : List ℕ) → HasNone alphabet.fold → AreKept alphabet.fold (c ∷ cs) → StandsAt alphabet text place start end prefix (encode_utf8_all (c ∷ cs)) rest → Stands alphabet text inside place (piece_of_word place start end prefix (encode_utf8_all (c ∷ cs)))
word_stands alphabet text inside place start end prefix c cs rest none kept s =
    let bytes = word_bytes c cs in
    let here : StandsAt alphabet text place start end prefix (bytes.0 ∷ bytes.1) rest = subst (λ (l : List ℕ). StandsAt alphabet text place start end prefix l rest) bytes.2 s in
    let from : after_start text place ≡ word_from place start = start_at alphabet text place start end prefix bytes.0 bytes.1 rest here in
    let run : IsRun alphabet text (word_from place start) (c ∷ cs) (word_to place start (encode_utf8_all (c ∷ cs))) = word_run alphabet text place start end prefix (c ∷ cs) rest none kept (λ e. cc) s in
    let is : piece_of_word place start end prefix (encode_utf8_all (c ∷ cs)) ≡ word_piece alphabet text place (after_start text place) (word_to place start (encode_utf8_all (c ∷ cs))) =
    subst (λ (l : List ℕ). piece_of_word place start end prefix l ≡ word_piece alphabet text place (after_start text place) (word_to place start l)) (sym bytes.2) (word_built alphabet text place start end prefix bytes.0 bytes.1 rest here) in
    let word : IsWord alphabet text place (piece_of_word place start end prefix (encode_utf8_all (c ∷ cs))) =
    record { letters = c ∷ cs; to = word_to place start (encode_utf8_all (c ∷ cs)); run = subst (λ (n : ℕ). IsRun alphabet text n (c ∷ cs) (word_to place start (encode_utf8_all (c ∷ cs)))) (sym from) run; is = is } in
    let plain : IsPlain alphabet text place (piece_of_word place start end prefix (encode_utf8_all (c ∷ cs))) =
    subst (λ (o : Option Letter). MatchOption o (piece_of_word place start end prefix (encode_utf8_all (c ∷ cs)) ≡ separator_at text place) (λ letter. IsWord alphabet text place (piece_of_word place start end prefix (encode_utf8_all (c ∷ cs)))))
    (sym (ap (letter_at alphabet text false) from ∙ run.are.1)) word in
    subst (λ (o : Option Piece). MatchOption o (IsPlain alphabet text place (piece_of_word place start end prefix (encode_utf8_all (c ∷ cs)))) (λ operator. piece_of_word place start end prefix (encode_utf8_all (c ∷ cs)) ≡ operator))
    (sym (starts_none text inside place start bytes.0 bytes.1 (end_text end prefix ++ rest) (word_end end prefix rest here.after) here.at)) plain
