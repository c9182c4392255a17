-- A token as it is written is one piece of the text, whatever stands beside it that it allows.
use Rattle.std.proofs.Common.{◌≡◌, ◌≢◌, ℕ, ◌+◌, ◌<◌, ◌≤◌, Bool, true, false, eqb, List, [], ◌∷◌, ◌++◌, length, get_or, map, codes, decimal, encode_utf8_all, refl, sym, ap, ◌∙◌, subst, arith, append_assoc, append-nil, length-append}
use Rattle.std.specs.Prelude.{Option, ◌==◌}
use Rattle.std.specs.Str.{chars}
use Rattle.doc_types.specs.declared.schema.Schema.{Schema}
use Rattle.doc_types.specs.declared.tokens.TheConstants.{MAX_WORD_CHARS}
use Rattle.query_pieces.specs.declared.piece.Form.{Form}
use Rattle.query_pieces.specs.declared.piece.Spelling.{Spelling}
use Rattle.query_pieces.specs.declared.piece.Form.TheVariants as forms
use Rattle.query_pieces.specs.QueryBytes.{byte_before, is_bound, is_blank, opens_not, is_zone_byte, begins_zone}
use Rattle.query_pieces.specs.Operators.{slice, piece, zones_of}
use Rattle.query_pieces.specs.Pieces.{Stands, ends_in_letter}
use Rattle.query_tree.specs.declared.key.Key.{Key}
use Rattle.query_tree.specs.declared.key.How.{How}
use Rattle.query_marks.specs.LimitNames.{bytes_of}
use Rattle.query_marks.specs.QueryWords.{letters_in, words_in}
use Rattle.query_write.specs.Spelling.{stays, escape, spelled, spelled_from}
use Rattle.query_write.specs.Written.{WrittenToken, key_text, token_text, listed, parted, zones_text, name_of, fields_text, positions_text}
use Rattle.query_write.specs.steps.Signs.{alphabet_by, IsPieceOf, IsKeyOf, IsPlainWord, IsSmall, HaveNames, CanBeRead}
use Rattle.query_write.proofs.SpellPlaces.{IsRest, rest_past, before_next, slice_at}
use Rattle.query_write.proofs.SpellLetters.{AreKept, HasNone}
use Rattle.query_write.proofs.SpellTexts.{chars_kept, spells_letters, spells_words}
use Rattle.query_write.proofs.SpellWordPiece.{parts_word, start_text, end_text, StandsAt, word_from, word_to, word_stands, word_bytes}
use Rattle.query_write.proofs.SpellOperators.{operator_stands, by_byte, open_stands, close_stands, or_stands, before_stands, not_stands, maybe_stands, sentence_stands, paragraph_stands, near_stands, space_stands}
use Rattle.query_write.proofs.SpellNumbers.{decimal_digits}
use Rattle.query_write.proofs.SpellQuotes.{ReadsQuoted, quoted_reads, word_chars}
use Rattle.query_write.proofs.SpellLimits.{ReadsFields, fields_read, names_to, names_found, names_bytes, zone_is, span_is}

-- ---- what stands beside a token
-- what a token asks of what stands before it
abbrev pub Needs : WrittenToken → List ℕ → Bool → ℕ → Type 0
Needs WrittenToken.Not text inside place = opens_not (byte_before text place) ≡ true
Needs WrittenToken.Maybe text inside place = is_bound (byte_before text place) ≡ true
Needs WrittenToken.Sentence text inside place = is_bound (byte_before text place) ≡ true
Needs WrittenToken.Paragraph text inside place = is_bound (byte_before text place) ≡ true
Needs (WrittenToken.Near n) text inside place = is_bound (byte_before text place) ≡ true
Needs (WrittenToken.Zones zones) text inside place = (inside ≡ false) × ((byte_before text place == 94) ≡ false)
Needs (WrittenToken.Spans zones) text inside place = (inside ≡ false) × ((byte_before text place == 94) ≡ false)
Needs _ text inside place = Unit {0}

-- what it asks of the byte after it
abbrev pub Allows : WrittenToken → ℕ → Type 0
Allows WrittenToken.Not b = is_blank b ≡ false
Allows WrittenToken.Maybe b = b ≡ 32
Allows WrittenToken.Sentence b = b ≡ 32
Allows WrittenToken.Paragraph b = b ≡ 32
Allows (WrittenToken.Near n) b = b ≡ 32
Allows (WrittenToken.Fields n positions) b = b ≡ 32
Allows (WrittenToken.Word key) b = parts_word b ≡ true
Allows (WrittenToken.Quoted keys how) b = parts_word b ≡ true
Allows _ b = Unit {0}

-- what a token leaves before the one after it
abbrev pub Leaves : WrittenToken → List ℕ → Bool → ℕ → Type 0
Leaves WrittenToken.Space text inside place = (inside ≡ false) × (byte_before text place ≡ 32)
Leaves WrittenToken.Open text inside place = (inside ≡ false) × (byte_before text place ≡ 40)
Leaves _ text inside place = Unit {0}

-- What a token that stands at a place is read as.
pub record Reads (fold : ℕ → Option ℕ) (schema : Schema) (text : List ℕ) (inside : Bool) (place : ℕ) (token : WrittenToken) : Type 0 where
  pub form : Form
  pub to : ℕ
  pub stands : Stands (alphabet_by fold schema) text inside place (piece form to)
  pub ends : to ≡ place + length (token_text schema token)
  pub some : place < to
  pub is : IsPieceOf fold schema text token form
  pub leaves : Leaves token text (ends_in_letter form) to

-- ---- words, quoted pieces and field limits
spelled_some : (c : ℕ) (cs : List ℕ) → 0 < length (spelled (encode_utf8_all (c ∷ cs)))
spelled_some c cs =
    let bytes = word_bytes c cs in
    subst (λ (l : List ℕ). 0 < length (spelled l)) (sym bytes.2) (omega (arith, length-append (escape (stays true bytes.0 bytes.1)) (bytes.0 ∷ spelled_from (is_bound bytes.0) bytes.1)))

word_reads : (fold : ℕ → Option ℕ) (schema : Schema) (text : List ℕ) (inside : Bool) (place : ℕ) (key : Key) (rest : List ℕ) → HasNone fold → IsPlainWord fold key.word → IsKeyOf schema key → parts_word (get_or rest 0 32) ≡ true → IsRest text place (key_text key ++ rest) → Reads fold schema text inside place (WrittenToken.Word key)
word_reads fold schema text inside place key rest none plain takes after at = by plain.chars plain.is plain.some plain.short (word_chars fold key.word plain)
  where
    by : (cs : List ℕ) → key.word ≡ encode_utf8_all cs → cs ≢ [] → length cs ≤ MAX_WORD_CHARS → AreKept fold cs → Reads fold schema text inside place (WrittenToken.Word key)
    by [] is some short kept = absurd (some refl)
    by (c ∷ cs) is some short kept =
        let word : List ℕ = encode_utf8_all (c ∷ cs) in
        let marks : List ℕ = end_text key.end key.prefix in
        let here : IsRest text place (start_text key.start ++ (spelled key.word ++ (marks ++ rest))) =
        subst (λ (l : List ℕ). IsRest text place l) (append_assoc (start_text key.start) (spelled key.word ++ marks) rest ∙ ap (λ (l : List ℕ). start_text key.start ++ l) (append_assoc (spelled key.word) marks rest)) at in
        let stands_at : StandsAt (alphabet_by fold schema) text place key.start key.end key.prefix word rest = record {
          at = subst (λ (w : List ℕ). IsRest text place (start_text key.start ++ (spelled w ++ (marks ++ rest)))) is here;
          after = after;
          star = λ e. ((takes e).taken, (takes e).goes_on);
        } in
        let size : length (key_text key) ≡ length (start_text key.start) + (length (spelled word) + length marks) =
        length-append (start_text key.start) (spelled key.word ++ marks) ∙ ap (λ (n : ℕ). length (start_text key.start) + n) (length-append (spelled key.word) marks ∙ ap (λ (w : List ℕ). length (spelled w) + length marks) is) in
        let bytes : 0 < length (spelled word) = spelled_some c cs in
        let from : IsRest text (word_from place key.start) (spelled word ++ (marks ++ rest)) = rest_past text place (start_text key.start) (spelled word ++ (marks ++ rest)) stands_at.at in
        let spelling : Spelling = record { letters = slice (word_from place key.start) (word_to place key.start word); start = key.start; end = key.end; prefix = key.prefix } in
        let inner : bytes_of text spelling.letters ≡ spelled word ++ [] = slice_at text (word_from place key.start) (word_to place key.start word) (spelled word) (marks ++ rest) refl from ∙ sym (append-nil (spelled word)) in
        record {
          form = forms.Word spelling;
          to = word_to place key.start word + length marks;
          stands = word_stands (alphabet_by fold schema) text inside place key.start key.end key.prefix c cs rest none kept stands_at;
          ends = omega (arith, size);
          some = omega (arith, bytes);
          is = (
            spelling,
            refl,
            ap (words_in fold) inner ∙ spells_words fold (c ∷ cs) [] none (kept, some, short, tt) ∙ ap (λ (w : List ℕ). w ∷ []) (sym is),
            refl,
            refl,
            refl,
            ap (λ (l : List ℕ). length (letters_in fold (chars l))) inner ∙ spells_letters fold (c ∷ cs) kept ∙ ap length (sym (chars_kept fold (c ∷ cs) kept)) ∙ ap (λ (w : List ℕ). length (chars w)) (sym is),
          );
          leaves = tt;
        }

quoted_reads_as : (fold : ℕ → Option ℕ) (schema : Schema) (text : List ℕ) (inside : Bool) (place : ℕ) (keys : List Key) (how : How) → ReadsQuoted (alphabet_by fold schema) text inside place keys how → Reads fold schema text inside place (WrittenToken.Quoted keys how)
quoted_reads_as fold schema text inside place keys how q = record {
  form = forms.Quoted q.quotation;
  to = q.to;
  stands = q.stands;
  ends = q.ends;
  some = omega (arith, q.ends);
  is = (q.quotation, refl, q.words, q.number);
  leaves = tt;
}

fields_reads_as : (fold : ℕ → Option ℕ) (schema : Schema) (text : List ℕ) (inside : Bool) (place n positions : ℕ) (rest : List ℕ) → IsRest text place (64 ∷ rest) → ReadsFields schema.fields text place n positions → Reads fold schema text inside place (WrittenToken.Fields n positions)
fields_reads_as fold schema text inside place n positions rest at f = record {
  form = forms.Fields f.limit;
  to = f.to;
  stands = operator_stands (alphabet_by fold schema) text inside place (piece (forms.Fields f.limit) f.to) (by_byte text inside place 64 rest at ∙ f.is);
  ends = omega (arith, f.ends);
  some = omega (arith, f.ends);
  is = (f.limit, refl, f.fields_are, f.positions_are);
  leaves = tt;
}

-- ---- zone limits
zones_reads_as : (fold : ℕ → Option ℕ) (schema : Schema) (text : List ℕ) (inside : Bool) (place : ℕ) (zones : List ℕ) (rest : List ℕ) → HaveNames begins_zone is_zone_byte (map (name_of schema.zones) zones) → (inside ≡ false) × ((byte_before text place == 94) ≡ false) → IsRest text place (codes "ZONE:" ++ (zones_text schema.zones zones ++ rest)) → Reads fold schema text inside place (WrittenToken.Zones zones)
zones_reads_as fold schema text inside place zones rest names needs at =
    let list : List (List ℕ) = map (name_of schema.zones) zones in
    let next : IsRest text (place + 5) (listed list ++ rest) = rest_past text place (codes "ZONE:") (listed list ++ rest) at in
    record {
      form = forms.Zones (record { span = false; names = slice (place + 5 + 1) (names_to (place + 5) list) });
      to = names_to (place + 5) list + 1;
      stands = operator_stands (alphabet_by fold schema) text inside place (zones_of false (names_found (place + 5) list)) (by_byte text inside place 90 (codes "ONE:" ++ (listed list ++ rest)) at ∙ zone_is text inside place list rest names needs.0 needs.1 at);
      ends = omega (arith, length-append (parted 44 list) (41 ∷ []));
      some = omega arith;
      is = (record { span = false; names = slice (place + 5 + 1) (names_to (place + 5) list) }, refl, refl, names_bytes text (place + 5) list rest next);
      leaves = tt;
    }

spans_reads_as : (fold : ℕ → Option ℕ) (schema : Schema) (text : List ℕ) (inside : Bool) (place : ℕ) (zones : List ℕ) (rest : List ℕ) → HaveNames begins_zone is_zone_byte (map (name_of schema.zones) zones) → (inside ≡ false) × ((byte_before text place == 94) ≡ false) → IsRest text place (codes "ZONESPAN:" ++ (zones_text schema.zones zones ++ rest)) → Reads fold schema text inside place (WrittenToken.Spans zones)
spans_reads_as fold schema text inside place zones rest names needs at =
    let list : List (List ℕ) = map (name_of schema.zones) zones in
    let next : IsRest text (place + 9) (listed list ++ rest) = rest_past text place (codes "ZONESPAN:") (listed list ++ rest) at in
    record {
      form = forms.Zones (record { span = true; names = slice (place + 9 + 1) (names_to (place + 9) list) });
      to = names_to (place + 9) list + 1;
      stands = operator_stands (alphabet_by fold schema) text inside place (zones_of true (names_found (place + 9) list)) (by_byte text inside place 90 (codes "ONESPAN:" ++ (listed list ++ rest)) at ∙ span_is text inside place list rest names needs.0 needs.1 at);
      ends = omega (arith, length-append (parted 44 list) (41 ∷ []));
      some = omega arith;
      is = (record { span = true; names = slice (place + 9 + 1) (names_to (place + 9) list) }, refl, refl, names_bytes text (place + 9) list rest next);
      leaves = tt;
    }

near_reads_as : (fold : ℕ → Option ℕ) (schema : Schema) (text : List ℕ) (inside : Bool) (place n : ℕ) (rest : List ℕ) → IsSmall n → is_bound (byte_before text place) ≡ true → is_bound (get_or rest 0 32) ≡ true → IsRest text place (codes "NEAR/" ++ (decimal n ++ rest)) → Reads fold schema text inside place (WrittenToken.Near n)
near_reads_as fold schema text inside place n rest small before after at = record {
  form = forms.Near (slice (place + 5) (place + 5 + length (decimal n)));
  to = place + 5 + length (decimal n);
  stands = near_stands (alphabet_by fold schema) text inside place (place + 5 + length (decimal n)) (decimal n) rest (decimal_digits n small) before after refl at;
  ends = omega arith;
  some = omega arith;
  is = (slice (place + 5) (place + 5 + length (decimal n)), refl, slice_at text (place + 5) (place + 5 + length (decimal n)) (decimal n) rest refl (rest_past text place (codes "NEAR/") (decimal n ++ rest) at));
  leaves = tt;
}

-- ---- each token
pub token_reads : (fold : ℕ → Option ℕ) (schema : Schema) (text : List ℕ) (inside : Bool) (place : ℕ) (token : WrittenToken) (rest : List ℕ) → HasNone fold → CanBeRead fold schema token → Needs token text inside place → Allows token (get_or rest 0 32) → IsRest text place (token_text schema token ++ rest) → Reads fold schema text inside place token
token_reads fold schema text inside place WrittenToken.Space rest none can needs allows at =
    record { form = forms.Separator; to = place + 1; stands = space_stands (alphabet_by fold schema) text inside place rest none at; ends = refl; some = omega arith; is = refl; leaves = (refl, before_next text place 32 rest at) }
token_reads fold schema text inside place WrittenToken.Open rest none can needs allows at =
    record { form = forms.Open; to = place + 1; stands = open_stands (alphabet_by fold schema) text inside place rest at; ends = refl; some = omega arith; is = refl; leaves = (refl, before_next text place 40 rest at) }
token_reads fold schema text inside place WrittenToken.Close rest none can needs allows at =
    record { form = forms.Close; to = place + 1; stands = close_stands (alphabet_by fold schema) text inside place rest at; ends = refl; some = omega arith; is = refl; leaves = tt }
token_reads fold schema text inside place WrittenToken.Or rest none can needs allows at =
    record { form = forms.Or; to = place + 1; stands = or_stands (alphabet_by fold schema) text inside place rest at; ends = refl; some = omega arith; is = refl; leaves = tt }
token_reads fold schema text inside place WrittenToken.Maybe rest none can needs allows at =
    record { form = forms.Maybe; to = place + 5; stands = maybe_stands (alphabet_by fold schema) text inside place rest needs (ap is_bound allows) at; ends = refl; some = omega arith; is = refl; leaves = tt }
token_reads fold schema text inside place WrittenToken.Before rest none can needs allows at =
    record { form = forms.Before; to = place + 2; stands = before_stands (alphabet_by fold schema) text inside place rest at; ends = refl; some = omega arith; is = refl; leaves = tt }
token_reads fold schema text inside place (WrittenToken.Near n) rest none can needs allows at = near_reads_as fold schema text inside place n rest can needs (ap is_bound allows) at
token_reads fold schema text inside place WrittenToken.Sentence rest none can needs allows at =
    record { form = forms.Sentence; to = place + 8; stands = sentence_stands (alphabet_by fold schema) text inside place rest needs (ap is_bound allows) at; ends = refl; some = omega arith; is = refl; leaves = tt }
token_reads fold schema text inside place WrittenToken.Paragraph rest none can needs allows at =
    record { form = forms.Paragraph; to = place + 9; stands = paragraph_stands (alphabet_by fold schema) text inside place rest needs (ap is_bound allows) at; ends = refl; some = omega arith; is = refl; leaves = tt }
token_reads fold schema text inside place WrittenToken.Not rest none can needs allows at =
    record { form = forms.Not; to = place + 1; stands = not_stands (alphabet_by fold schema) text inside place rest needs allows at; ends = refl; some = omega arith; is = refl; leaves = tt }
token_reads fold schema text inside place (WrittenToken.Word key) rest none can needs allows at = word_reads fold schema text inside place key rest none can.0 can.1 allows at
token_reads fold schema text inside place (WrittenToken.Quoted keys how) rest none can needs allows at =
    quoted_reads_as fold schema text inside place keys how (quoted_reads (alphabet_by fold schema) text inside place keys how rest none can.0 can.1 allows at)
token_reads fold schema text inside place (WrittenToken.Fields n positions) rest none can needs allows at =
    let here : IsRest text place (64 ∷ (fields_text schema.fields n ++ (positions_text positions ++ rest))) = subst (λ (l : List ℕ). IsRest text place (64 ∷ l)) (append_assoc (fields_text schema.fields n) (positions_text positions) rest) at in
    fields_reads_as fold schema text inside place n positions (fields_text schema.fields n ++ (positions_text positions ++ rest)) here (fields_read schema.fields text place n positions rest can.0 can.1 (ap (λ (b : ℕ). eqb b 91) allows) here)
token_reads fold schema text inside place (WrittenToken.Zones zones) rest none can needs allows at = zones_reads_as fold schema text inside place zones rest can needs at
token_reads fold schema text inside place (WrittenToken.Spans zones) rest none can needs allows at = spans_reads_as fold schema text inside place zones rest can needs at
