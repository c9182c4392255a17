-- The walk over the characters of a text.
use Rattle.std.proofs.Common.{◌≡◌, ℕ, ◌+◌, ◌≤◌, List, ◌++◌, Option, Ok, Err, IsUtf8, sym, ◌∙◌, ap, subst}
use Rattle.std.specs.Prelude.{option_to_list}
use Rattle.std.specs.Char.{encode_utf8, len_utf8}
use Rattle.std.specs.Str.{chars}
use Rattle.std.proofs.lemmas.Str.{chars_past_char}
use Rattle.srch_base.specs.declared.faults.Or.{Or}
use Rattle.srch_base.specs.declared.faults.Or.TheVariants as causes
use Rattle.mark_scan.specs.declared.mark.Mark.{Mark}
use Rattle.doc_tokens.specs.declared.field.TooLong.{TooLong}
use Rattle.doc_tokens.specs.declared.reader.Reader.{Reader}
use Rattle.doc_tokens.specs.declared.walk.Passed.{Passed}
use Rattle.doc_tokens.specs.declared.sign.TextSign.{TextSign}
use Rattle.doc_tokens.specs.TextSigns.{char_signs, tags_in, signs_from}
use Rattle.doc_tokens.specs.steps.TokenReader.{sign_by, HasPassed, Wants, ReadsSome, PassesMarks, Finds}
use Rattle.doc_tokens.proofs.Passing.{char_sign-list}

-- the signs of a text are those of its first character, and then those of the rest
pub signs_of_char : (fold : ℕ → Option ℕ) (marks : List Mark) (place end c : ℕ) (rest beyond : List ℕ) → IsUtf8 rest → rest ≡ encode_utf8 c ++ beyond → end ≡ place + len_utf8 c
    → signs_from fold marks place (chars rest) ≡ tags_in marks place end ++ (char_signs fold marks place end c ++ signs_from fold marks end (chars beyond))
signs_of_char fold marks place end c rest beyond utf8 is end_is =
    ap (signs_from fold marks place) (chars_past_char rest beyond c utf8 is)
    ∙ ap (λ (e : ℕ). tags_in marks place e ++ (char_signs fold marks place e c ++ signs_from fold marks e (chars beyond))) (sym end_is)

-- the tags that begin in a character were read
pub tags_read : (fold : ℕ → Option ℕ) (marks : List Mark) (all : List TextSign) (old new : Reader) (start passed : Passed) (place end c : ℕ) (beyond : List ℕ) → HasPassed marks start place
    → PassesMarks marks old start end new (Ok passed) → place ≤ end
    → Wants all old (tags_in marks place end ++ (char_signs fold marks place end c ++ signs_from fold marks end (chars beyond)))
    → HasPassed marks passed end × Wants all new (option_to_list (sign_by fold passed.cover place c) ++ signs_from fold marks end (chars beyond))
tags_read fold marks all old new start passed place end c beyond has passes below wants =
    let both = passes place below has in
    (both.0, subst (λ (some : List TextSign). Wants all new (some ++ signs_from fold marks end (chars beyond))) (char_sign-list fold marks passed place end c both.0) (both.1 all _ wants))

-- a word stands above the limit
pub tags_above : (marks : List Mark) (all rest : List TextSign) (old new : Reader) (start : Passed) (place end : ℕ) (fault : Or TooLong) → HasPassed marks start place
    → PassesMarks marks old start end new (Err fault) → place ≤ end → Wants all old (tags_in marks place end ++ rest) → Finds all (Err fault)
tags_above marks all rest old new start place end causes.NoMemory has passes below wants = tt
tags_above marks all rest old new start place end (causes.Fault too_long) has passes below wants = passes place below has all rest wants

pub some_above : (all rest some : List TextSign) (old new : Reader) (fault : Or TooLong) → ReadsSome old some new (Err fault) → Wants all old (some ++ rest) → Finds all (Err fault)
some_above all rest some old new causes.NoMemory reads wants = tt
some_above all rest some old new (causes.Fault too_long) reads wants = reads all rest wants
