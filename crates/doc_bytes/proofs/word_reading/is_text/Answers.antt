use Rattle.std.proofs.Common.{◌∙◌, subst, sym}
use Rattle.std.specs.Bool.{MatchBool}
use Rattle.std.specs.Str.{IsAscii, IsNotAscii}
use Rattle.std.proofs.lemmas.Str.{IsUtf8-from_ascii, is_utf8-from_IsUtf8}
use Rattle.doc_bytes.proofs.Words.{is_text_by}
use Rattle.doc_bytes.proofs.word_reading.is_text.Goals as goal

pub returns-then-is_ascii : goal.returns-then-is_ascii
returns-then-is_ascii c =
    let text = c.args.text.now in
    let ascii : IsAscii text = subst (λ is. MatchBool is (IsAscii text) (IsNotAscii text)) c.if-is_ascii.true c.is_ascii.ensures.cases in
    c.if-is_ascii.true ∙ sym (is_utf8-from_IsUtf8 text (IsUtf8-from_ascii text ascii))

pub returns-else-is_ascii : goal.returns-else-is_ascii
returns-else-is_ascii c = c.is_ok.ensures.value ∙ is_text_by c.from_utf8.result c.args.text.now _ _ c.from_utf8.ensures.cases
