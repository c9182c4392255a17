-- A quoted piece as it is written is one piece of the text.
use Rattle.std.proofs.Common.{◌≡◌, ℕ, suc, ◌+◌, Bool, true, false, eqb, leb, List, [], ◌∷◌, ◌++◌, length, map, All, Contains, codes, encode_utf8, encode_utf8_all, refl, sym, ap, ap₂, ◌∙◌, subst, arith, ⊎_elim, append_assoc, append-nil, length-append}
use Rattle.std.specs.Prelude.{Option, Some, None, if◌then◌else◌, nat_lt}
use Rattle.std.specs.List.{list_all, flat_map}
use Rattle.std.proofs.Math.Utf8.{scalar}
use Rattle.std.proofs.lemmas.Bool.{and_parts, and_from, not_from_false, ne_eqb, lt-ltb, cases_lt}
use Rattle.std.proofs.lemmas.List.Elements.{All-head, All-tail}
use Rattle.query_pieces.specs.declared.piece.Quotation.{Quotation}
use Rattle.query_pieces.specs.declared.piece.Form.TheVariants as forms
use Rattle.query_pieces.specs.declared.piece.Piece.{Piece}
use Rattle.query_pieces.specs.QueryBytes.{is_bound}
use Rattle.query_pieces.specs.Operators.{slice, piece, NumberAt, number_at, quoted_at, quote_end, is_inside}
use Rattle.query_pieces.specs.Letters.{Alphabet}
use Rattle.query_pieces.specs.Pieces.{Stands}
use Rattle.query_tree.specs.declared.key.Key.{Key}
use Rattle.query_tree.specs.declared.key.How.{How}
use Rattle.query_marks.specs.QueryWords.{words_in}
use Rattle.query_marks.specs.LimitNames.{bytes_of}
use Rattle.query_write.specs.Spelling.{stays, escape, spelled_from, spelled}
use Rattle.query_write.specs.Written.{key_text, parted, how_text, quoted_text}
use Rattle.query_write.specs.steps.Signs.{IsHow, IsPlainWord, IsPlainKey, HasSmall}
use Rattle.query_write.proofs.SpellPlaces.{IsRest, rest_past, rest_next, rest_inside, slice_at}
use Rattle.query_write.proofs.SpellLetters.{AreKept, HasNone, are_high, encode_high, spelled_small, spelled_encode}
use Rattle.query_write.proofs.SpellTexts.{AllKept, spaced, spells_words, spells_none}
use Rattle.query_write.proofs.SpellOperators.{run_ends, operator_stands, by_byte}
use Rattle.query_write.proofs.SpellNumbers.{IsParted, HasNumber, how_number}
use Rattle.query_write.proofs.SpellSigns.{apart}

-- ---- no quote in a word
all_append : (test : ℕ → Bool) (a b : List ℕ) → list_all test a ≡ true → list_all test b ≡ true → list_all test (a ++ b) ≡ true
all_append test [] b first second = second
all_append test (x ∷ a) b first second =
    let both = and_parts (test x) (list_all test a) first in and_from (test x) (list_all test (a ++ b)) both.0 (all_append test a b both.1 second)

inside_high : (bytes : List ℕ) → are_high bytes ≡ true → list_all is_inside bytes ≡ true
inside_high [] are = refl
inside_high (b ∷ bytes) are =
    let both = and_parts (leb 128 b) (are_high bytes) are in
    and_from (is_inside b) (list_all is_inside bytes) (not_from_false (eqb b 34) (apart (λ c. leb 128 c) b 34 both.0 refl)) (inside_high bytes both.1)

inside_escape : (s : Bool) → list_all is_inside (escape s) ≡ true
inside_escape true = refl
inside_escape false = refl

kept_inside : (fold : ℕ → Option ℕ) (c : ℕ) → fold 34 ≡ None → fold c ≡ Some c → is_inside c ≡ true
kept_inside fold c none same = not_from_false (eqb c 34) (ne_eqb c 34 (λ e. differ (ap fold (sym e) ∙ same)))
  where
    differ : fold 34 ≡ Some c → ⊥
    differ is = cc

pub spelled_inside : (fold : ℕ → Option ℕ) (bounded : Bool) (cs : List ℕ) → fold 34 ≡ None → AreKept fold cs → list_all is_inside (spelled_from bounded (encode_utf8_all cs)) ≡ true
spelled_inside fold bounded [] none kept = refl
spelled_inside fold bounded (c ∷ cs) none kept =
    ⊎_elim (λ small. subst (λ (l : List ℕ). list_all is_inside l ≡ true) (sym (spelled_small bounded c (encode_utf8_all cs) small))
    (all_append is_inside (escape (stays bounded c (encode_utf8_all cs))) (c ∷ spelled_from (is_bound c) (encode_utf8_all cs)) (inside_escape (stays bounded c (encode_utf8_all cs)))
    (and_from (is_inside c) (list_all is_inside (spelled_from (is_bound c) (encode_utf8_all cs))) (kept_inside fold c none kept.1) (spelled_inside fold (is_bound c) cs none kept.2))))
    (λ high. subst (λ (l : List ℕ). list_all is_inside l ≡ true) (sym (spelled_encode bounded c (encode_utf8_all cs) high))
    (all_append is_inside (encode_utf8 c) (spelled_from false (encode_utf8_all cs)) (inside_high (encode_utf8 c) (encode_high c high)) (spelled_inside fold false cs none kept.2)))
    (cases_lt c 128)

pub spaced_inside : (fold : ℕ → Option ℕ) (css : List (List ℕ)) → fold 34 ≡ None → AllKept fold css → list_all is_inside (spaced css) ≡ true
spaced_inside fold [] none kept = refl
spaced_inside fold (cs ∷ css) none kept = all_append is_inside (spelled (encode_utf8_all cs)) (spaced css) (spelled_inside fold true cs none kept.0) (spaced_inside fold css none kept.3)

-- ---- keywords by their characters
contains_more : (c x : ℕ) (cs : List ℕ) → Contains cs x → Contains (c ∷ cs) x
contains_more c x cs at = (suc at.0, omega (arith, at.1), at.2)

kept_from : (fold : ℕ → Option ℕ) (cs : List ℕ) → ((c : ℕ) → Contains cs c → scalar c ≡ true) → ((c : ℕ) → Contains cs c → fold c ≡ Some c) → AreKept fold cs
kept_from fold [] are same = tt
kept_from fold (c ∷ cs) are same =
    let first : Contains (c ∷ cs) c = (0, omega arith, refl) in
    (are c first, same c first, kept_from fold cs (λ x at. are x (contains_more c x cs at)) (λ x at. same x (contains_more c x cs at)))

pub word_chars : (fold : ℕ → Option ℕ) (word : List ℕ) → (w : IsPlainWord fold word) → AreKept fold w.chars
word_chars fold word w = kept_from fold w.chars w.are_chars w.folded

-- the characters of keywords
pub record IsReadAs (fold : ℕ → Option ℕ) (keys : List Key) (css : List (List ℕ)) : Type 0 where
  pub kept : AllKept fold css
  pub words : map encode_utf8_all css ≡ map (λ key. key.word) keys
  pub after : flat_map (λ next. 32 ∷ next) (map key_text keys) ≡ spaced css

-- the text of a keyword without marks
pub bare_text : (key : Key) → key.start ≡ false → key.end ≡ false → key.prefix ≡ false → key_text key ≡ spelled key.word
bare_text key start end prefix =
    ap₂ (λ (s e : Bool). (if s then codes "^" else []) ++ (spelled key.word ++ ((if e then codes "$" else []) ++ (if key.prefix then codes "*" else [])))) start end
    ∙ ap (λ (p : Bool). spelled key.word ++ (if p then codes "*" else [])) prefix ∙ append-nil (spelled key.word)

pub keys_read : (fold : ℕ → Option ℕ) (keys : List Key) → All (IsPlainKey fold) keys → (css : List (List ℕ)) × IsReadAs fold keys css
keys_read fold [] all = ([], record { kept = tt; words = refl; after = refl })
keys_read fold (key ∷ keys) all =
    let first : IsPlainKey fold key = All-head (IsPlainKey fold) key keys all in
    let rest = keys_read fold keys (All-tail (IsPlainKey fold) key keys all) in (
      first.0.chars ∷ rest.0,
      record {
        kept = (word_chars fold key.word first.0, first.0.some, first.0.short, rest.1.kept);
        words = ap₂ (λ (w : List ℕ) (ws : List (List ℕ)). w ∷ ws) (sym first.0.is) rest.1.words;
        after = ap₂ (λ (w v : List ℕ). 32 ∷ (w ++ v)) (bare_text key first.1 first.2 first.3 ∙ ap spelled first.0.is) rest.1.after;
      },
    )

-- the inside of a quoted piece: no quote stands in it, and it spells the words
pub record IsInside (fold : ℕ → Option ℕ) (keys : List Key) (inside : List ℕ) : Type 0 where
  pub closed : list_all is_inside inside ≡ true
  pub words : words_in fold inside ≡ map (λ key. key.word) keys

pub inside_is : (fold : ℕ → Option ℕ) (keys : List Key) → HasNone fold → All (IsPlainKey fold) keys → IsInside fold keys (parted 32 (map key_text keys))
inside_is fold [] none all = record { closed = refl; words = spells_none fold }
inside_is fold (key ∷ keys) none all =
    let first : IsPlainKey fold key = All-head (IsPlainKey fold) key keys all in
    let rest = keys_read fold keys (All-tail (IsPlainKey fold) key keys all) in
    let kept : AllKept fold (first.0.chars ∷ rest.0) = (word_chars fold key.word first.0, first.0.some, first.0.short, rest.1.kept) in
    let text : key_text key ++ flat_map (λ next. 32 ∷ next) (map key_text keys) ≡ spelled (encode_utf8_all first.0.chars) ++ spaced rest.0 =
    ap₂ (λ (w v : List ℕ). w ++ v) (bare_text key first.1 first.2 first.3 ∙ ap spelled first.0.is) rest.1.after in
    record {
      closed = ap (list_all is_inside) text ∙ all_append is_inside (spelled (encode_utf8_all first.0.chars)) (spaced rest.0) (spelled_inside fold true first.0.chars none.quote kept.0) (spaced_inside fold rest.0 none.quote kept.3);
      words = ap (words_in fold) text ∙ spells_words fold first.0.chars rest.0 none kept ∙ ap₂ (λ (w : List ℕ) (ws : List (List ℕ)). w ∷ ws) (sym first.0.is) rest.1.words;
    }

-- ---- the piece
-- a quoted piece, whose second quote stands at a place
abbrev quoted_by : List ℕ → ℕ → ℕ → NumberAt → Piece
quoted_by text place last found = if nat_lt last (length text) then piece (forms.Quoted (record { inside = slice (place + 1) last; number = found.number })) found.to else piece forms.Unclosed (length text)

quoted_is : (text : List ℕ) (place last : ℕ) (found : NumberAt) (inside rest : List ℕ) → list_all is_inside inside ≡ true → last ≡ place + 1 + length inside → number_at text (last + 1) ≡ found → IsRest text place (34 ∷ (inside ++ 34 ∷ rest)) → quoted_at text place ≡ piece (forms.Quoted (record { inside = slice (place + 1) last; number = found.number })) found.to
quoted_is text place last found inside rest closed e number at =
    let next : IsRest text (place + 1) (inside ++ 34 ∷ rest) = rest_next text place 34 (inside ++ 34 ∷ rest) at in
    let ends : quote_end text (place + 1) ≡ last = run_ends is_inside text (place + 1) inside (34 ∷ rest) next closed refl ∙ sym e in
    let quote : IsRest text last (34 ∷ rest) = subst (λ (n : ℕ). IsRest text n (34 ∷ rest)) (sym e) (rest_past text (place + 1) inside (34 ∷ rest) next) in
    ap (λ (n : ℕ). quoted_by text place n (number_at text (n + 1))) ends
    ∙ ap (quoted_by text place last) number
    ∙ ap (λ (b : Bool). if b then piece (forms.Quoted (record { inside = slice (place + 1) last; number = found.number })) found.to else piece forms.Unclosed (length text)) (lt-ltb last (length text) (rest_inside text last 34 rest quote))

-- What a quoted piece is read as.
pub record ReadsQuoted (alphabet : Alphabet) (text : List ℕ) (inside : Bool) (place : ℕ) (keys : List Key) (how : How) : Type 0 where
  pub quotation : Quotation
  pub to : ℕ
  pub stands : Stands alphabet text inside place (piece (forms.Quoted quotation) to)
  pub ends : to ≡ place + length (quoted_text keys how)
  pub words : words_in alphabet.fold (bytes_of text quotation.inside) ≡ map (λ key. key.word) keys
  pub number : IsHow text quotation.number how

pub quoted_reads : (alphabet : Alphabet) (text : List ℕ) (inside : Bool) (place : ℕ) (keys : List Key) (how : How) (rest : List ℕ) → HasNone alphabet.fold → All (IsPlainKey alphabet.fold) keys → HasSmall how → IsParted rest → IsRest text place (quoted_text keys how ++ rest) → ReadsQuoted alphabet text inside place keys how
quoted_reads alphabet text inside place keys how rest none all small parted_rest at =
    let words : List ℕ = parted 32 (map key_text keys) in
    let is : IsInside alphabet.fold keys words = inside_is alphabet.fold keys none all in
    let here : IsRest text place (34 ∷ (words ++ 34 ∷ (how_text how ++ rest))) = subst (λ (l : List ℕ). IsRest text place (34 ∷ l)) (append_assoc words (34 ∷ how_text how) rest) at in
    let next : IsRest text (place + 1) (words ++ 34 ∷ (how_text how ++ rest)) = rest_next text place 34 (words ++ 34 ∷ (how_text how ++ rest)) here in
    let last : ℕ = place + 1 + length words in
    let past : IsRest text (last + 1) (how_text how ++ rest) = rest_next text last 34 (how_text how ++ rest) (rest_past text (place + 1) words (34 ∷ (how_text how ++ rest)) next) in
    let number : HasNumber text (last + 1) how = how_number text (last + 1) how rest small parted_rest past in
    let quoted : quoted_at text place ≡ piece (forms.Quoted (record { inside = slice (place + 1) last; number = number.number })) number.to =
    quoted_is text place last (record { number = number.number; to = number.to }) words (how_text how ++ rest) is.closed refl number.is here in
    record {
      quotation = record { inside = slice (place + 1) last; number = number.number };
      to = number.to;
      stands = operator_stands alphabet text inside place (piece (forms.Quoted (record { inside = slice (place + 1) last; number = number.number })) number.to)
          (by_byte text inside place 34 (words ++ 34 ∷ (how_text how ++ rest)) here ∙ ap (λ (p : Piece). Some p) quoted);
      ends = omega (arith, number.ends, length-append words (34 ∷ how_text how));
      words = ap (words_in alphabet.fold) (slice_at text (place + 1) last words (34 ∷ (how_text how ++ rest)) refl next) ∙ is.words;
      number = number.reads;
    }
