-- Texts that are one run without ends of sentences.
use Rattle.std.proofs.Common.{◌≡◌, ℕ, ◌+◌, ◌<◌, ◌≤◌, Bool, true, false, cond, nat_lt, ◌&&◌, ◌||◌, List, [], ◌∷◌, ◌++◌, length, Option, Some, Result, Ok, Err, IsUtf8, encode_utf8_all, refl, sym, ◌∙◌, ap, subst, arith, length-append}
use Rattle.std.specs.Char.{encode_utf8, len_utf8}
use Rattle.std.specs.List.{flat_map}
use Rattle.std.specs.Str.{chars}
use Rattle.std.proofs.lemmas.Bool.Decides.{nat_tests}
use Rattle.std.proofs.lemmas.Str.{encodes-chars, length-encode, len_utf8_bounds, chars-nil, chars_past_char}
use Rattle.srch_base.specs.declared.faults.Or.{Or}
use Rattle.srch_base.specs.declared.faults.Or.TheVariants as causes
use Rattle.mark_scan.specs.declared.mark.Mark.{Mark}
use Rattle.mark_scan.specs.declared.mark.MarkRules.{MarkRules}
use Rattle.mark_scan.specs.declared.mark.MarkKind.TheVariants as kinds
use Rattle.mark_scan.specs.Markup.{plain}
use Rattle.mark_scan.specs.Marks.{PartsBy, sentences_of, AreMarks}
use Rattle.doc_tokens.specs.declared.field.TooLong.{TooLong}
use Rattle.doc_tokens.specs.declared.sign.TextSign.{TextSign}
use Rattle.doc_tokens.specs.TextSigns.{run_sign, char_signs, tag_signs, begins_in, tags_in, signs_from}
use Rattle.doc_tokens.specs.declared.reader.Found.{Found}
use Rattle.doc_tokens.specs.declared.reader.Reader.{Reader}
use Rattle.doc_tokens.specs.Words.{segments}
use Rattle.doc_tokens.specs.Tokens.{first_above}
use Rattle.doc_tokens.specs.steps.TokenReader.{plain_signs, Wants, ReadsSign, Finds, IsFound, FindsIn}

-- the one mark of such a text
abbrev whole : ℕ → Mark
whole size = record { kind = kinds.Text; from = 0; to = size }

-- it has no tag
no_tags : (size from to : ℕ) → tags_in (whole size ∷ []) from to ≡ []
no_tags size from to =
    elim (begins_in from to (whole size)) as (λ b. flat_map (λ (m : Mark). tag_signs m.kind) (cond b (whole size ∷ []) []) ≡ []) [ true ↦ refl | false ↦ refl ]

-- it covers each character
covers_all : (size from to : ℕ) → 0 < to → from < size → ((true && (nat_lt 0 to && nat_lt from size)) || false) ≡ true
covers_all size from to some below = grind (arith, nat_tests)

char_plain : (fold : ℕ → Option ℕ) (size from to c : ℕ) → 0 < to → from < size → char_signs fold (whole size ∷ []) from to c ≡ run_sign (fold c) false ∷ []
char_plain fold size from to c some below =
    ap (λ (b : Bool). cond b (run_sign (fold c) false ∷ []) (char_signs fold [] from to c)) (covers_all size from to some below)

all_plain : (fold : ℕ → Option ℕ) (size place : ℕ) (cs : List ℕ) → place + length (encode_utf8_all cs) ≤ size → signs_from fold (whole size ∷ []) place cs ≡ plain_signs fold cs
all_plain fold size place [] within = refl
all_plain fold size place (c ∷ cs) within =
    let end = place + len_utf8 c in
    let one = len_utf8_bounds c in
    let bytes = length-encode c in
    let more = length-append (encode_utf8 c) (encode_utf8_all cs) in
    let rest : signs_from fold (whole size ∷ []) end cs ≡ plain_signs fold cs = all_plain fold size end cs (omega (arith, within, bytes, more)) in
    let here : char_signs fold (whole size ∷ []) place end c ≡ run_sign (fold c) false ∷ [] = char_plain fold size place end c (omega (arith, one)) (omega (arith, within, bytes, more, one)) in
    (λ i. no_tags size place end i ++ (here i ++ rest i))

-- The marks of such a text, by which each character is what the table says.
pub record HasPlain (fold : ℕ → Option ℕ) (rules : MarkRules) (text : List ℕ) : Type 0 where
  pub marks : List Mark
  pub are : AreMarks fold rules text marks
  pub signs : signs_from fold marks 0 (chars text) ≡ plain_signs fold (chars text)

pub plain_text : (fold : ℕ → Option ℕ) (rules : MarkRules) (text : List ℕ) → rules.strip ≡ false → rules.sp ≡ false → IsUtf8 text → HasPlain fold rules text
plain_text fold rules [] strip sp utf8 = record {
  marks = [];
  are = record { parts = []; are = subst (λ (b : Bool). PartsBy b [] []) (sym strip) refl; marks_are = refl };
  signs = ap (signs_from fold [] 0) chars-nil ∙ ap (plain_signs fold) (sym chars-nil);
}
plain_text fold rules (b ∷ bytes) strip sp utf8 =
    let text = b ∷ bytes in
    record {
      marks = whole (length text) ∷ [];
      are = record {
        parts = plain text ∷ [];
        are = subst (λ (s : Bool). PartsBy s text (plain text ∷ [])) (sym strip) refl;
        marks_are =
            ap (λ (n : ℕ). whole n ∷ []) (omega arith)
            ∙ ap (λ (s : Bool). whole (0 + length text) ∷ (sentences_of s fold 0 [] (chars text) (chars []) ++ [])) (sym sp);
      };
      signs = all_plain fold (length text) 0 (chars text) (omega (arith, ap length (encodes-chars text utf8)));
    }

-- the signs of a text are that of its first character, and then those of the rest
pub plain_next : (fold : ℕ → Option ℕ) (all : List TextSign) (rest beyond : List ℕ) (c : ℕ) (sign : TextSign) (reader : Reader) → IsUtf8 rest → rest ≡ encode_utf8 c ++ beyond → sign ≡ run_sign (fold c) false
    → Wants all reader (plain_signs fold (chars rest)) → Wants all reader (sign ∷ plain_signs fold (chars beyond))
plain_next fold all rest beyond c sign reader utf8 is sign_is wants =
    subst (λ (s : TextSign). Wants all reader (s ∷ plain_signs fold (chars beyond))) (sym sign_is)
    (subst (λ (cs : List ℕ). Wants all reader (plain_signs fold cs)) (chars_past_char rest beyond c utf8 is) wants)

-- a word stands above the limit
pub plain_above : (fold : ℕ → Option ℕ) (all : List TextSign) (rest beyond : List ℕ) (c : ℕ) (sign : TextSign) (old new : Reader) (fault : Or TooLong) → IsUtf8 rest → rest ≡ encode_utf8 c ++ beyond → sign ≡ run_sign (fold c) false
    → ReadsSign old sign new (Err fault) → Wants all old (plain_signs fold (chars rest)) → Finds all (Err fault)
plain_above fold all rest beyond c sign old new causes.NoMemory utf8 is sign_is reads wants = tt
plain_above fold all rest beyond c sign old new (causes.Fault too_long) utf8 is sign_is reads wants =
    reads all (plain_signs fold (chars beyond)) (plain_next fold all rest beyond c sign old utf8 is sign_is wants)

-- what was found of the signs was found in the text
pub finds_plain : (fold : ℕ → Option ℕ) (rules : MarkRules) (text : List ℕ) (result : Result Found (Or TooLong)) → rules.strip ≡ false → rules.sp ≡ false → IsUtf8 text
    → Finds (plain_signs fold (chars text)) result → FindsIn fold rules text result
finds_plain fold rules text (Ok found) strip sp utf8 finds =
    let has = plain_text fold rules text strip sp utf8 in
    record { marks = has.marks; are = has.are; is = subst (λ (all : List TextSign). IsFound all found) (sym has.signs) finds }
finds_plain fold rules text (Err causes.NoMemory) strip sp utf8 finds = tt
finds_plain fold rules text (Err (causes.Fault too_long)) strip sp utf8 finds =
    let has = plain_text fold rules text strip sp utf8 in
    record { marks = has.marks; are = has.are; first = subst (λ (all : List TextSign). first_above (segments all) ≡ Some too_long.position) (sym has.signs) finds }
