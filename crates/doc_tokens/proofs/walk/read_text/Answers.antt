use Rattle.std.proofs.Common.{◌≡◌, ◌+◌, ◌++◌, [], length, sym, ◌∙◌, ap, subst, arith, length-append}
use Rattle.std.specs.Prelude.{Option, option_to_list}
use Rattle.std.specs.Char.{encode_utf8}
use Rattle.std.specs.Str.{chars}
use Rattle.std.proofs.lemmas.Result.{err_from_is_err_and}
use Rattle.std.proofs.lemmas.Str.{chars-nil}
use Rattle.charset_map.specs.Spans.{folded}
use Rattle.doc_tokens.specs.declared.sign.TextSign.{TextSign}
use Rattle.doc_tokens.specs.TextSigns.{char_signs, signs_from}
use Rattle.doc_tokens.specs.steps.TokenReader.{Wants}
use Rattle.doc_tokens.proofs.WalkSteps.{signs_of_char, tags_read, tags_above, some_above}
use Rattle.doc_tokens.proofs.walk.read_text.Goals as goal

pub returns-in-None : goal.returns-in-None
returns-in-None c =
    let fold = folded c.args.charset.now in
    let marks = c.args.marks.now in
    let none : chars c.chars.rest.now ≡ [] = ap chars c.in-None.ensures.next ∙ chars-nil in
    c.finish.ensures (signs_from fold marks 0 (chars c.args.text.now)) (subst (λ cs. Wants (signs_from fold marks 0 (chars c.args.text.now)) c.chars.reader (signs_from fold marks c.chars.place cs)) none c.chars.invariant.wants)

pub returns-in_err-passed-in-Some : goal.returns-in_err-passed-in-Some
returns-in_err-passed-in-Some c =
    let fold = folded c.args.charset.now in
    let marks = c.args.marks.now in
    let place = c.chars.place in
    let all = signs_from fold marks 0 (chars c.args.text.now) in
    let signs = signs_of_char fold marks place (place + c.len_utf8.result) c.in-Some.c c.chars.rest.now c.in-Some.beyond.now c.chars.invariant.utf8 c.in-Some.ensures.next (ap (λ n. place + n) c.len_utf8.ensures.value) in
    let end = c.from_residual-in_err-passed-in-Some in
    let p = err_from_is_err_and end.result end.ensures.1 in
    rw (p.1, p.2) (tags_above marks all (char_signs fold marks place (place + c.len_utf8.result) c.in-Some.c ++ signs_from fold marks (place + c.len_utf8.result) (chars c.in-Some.beyond.now)) c.chars.reader c.pass_marks.new.reader c.chars.passed place (place + c.len_utf8.result) c.in_err-passed-in-Some.field-0.0 c.chars.invariant.passed c.in_err-passed-in-Some.ensures (omega arith) (subst (Wants all c.chars.reader) signs c.chars.invariant.wants))

pub returns-in_err-read_some-in-Some : goal.returns-in_err-read_some-in-Some
returns-in_err-read_some-in-Some c =
    let fold = folded c.args.charset.now in
    let marks = c.args.marks.now in
    let place = c.chars.place in
    let all = signs_from fold marks 0 (chars c.args.text.now) in
    let signs = signs_of_char fold marks place (place + c.len_utf8.result) c.in-Some.c c.chars.rest.now c.in-Some.beyond.now c.chars.invariant.utf8 c.in-Some.ensures.next (ap (λ n. place + n) c.len_utf8.ensures.value) in
    let read = tags_read fold marks all c.chars.reader c.pass_marks.new.reader c.chars.passed c.in_ok-passed-in-Some.passed place (place + c.len_utf8.result) c.in-Some.c c.in-Some.beyond.now c.chars.invariant.passed c.in_ok-passed-in-Some.ensures (omega arith) (subst (Wants all c.chars.reader) signs c.chars.invariant.wants) in
    let end = c.from_residual-in_err-read_some-in-Some in
    let p = err_from_is_err_and end.result end.ensures.1 in
    rw (p.1, p.2)
    (some_above all (signs_from fold marks (place + c.len_utf8.result) (chars c.in-Some.beyond.now)) (option_to_list c.sign.result) c.pass_marks.new.reader c.read_some.new.reader c.in_err-read_some-in-Some.field-0.0 c.in_err-read_some-in-Some.ensures
    (subst (λ (o : Option TextSign). Wants all c.pass_marks.new.reader (option_to_list o ++ signs_from fold marks (place + c.len_utf8.result) (chars c.in-Some.beyond.now))) (sym c.sign.ensures) read.1))

pub chars-preserved : goal.chars-preserved
chars-preserved c =
    let fold = folded c.args.charset.now in
    let marks = c.args.marks.now in
    let place = c.chars.place in
    let all = signs_from fold marks 0 (chars c.args.text.now) in
    let signs = signs_of_char fold marks place (place + c.len_utf8.result) c.in-Some.c c.chars.rest.now c.in-Some.beyond.now c.chars.invariant.utf8 c.in-Some.ensures.next (ap (λ n. place + n) c.len_utf8.ensures.value) in
    let read = tags_read fold marks all c.chars.reader c.pass_marks.new.reader c.chars.passed c.in_ok-passed-in-Some.passed place (place + c.len_utf8.result) c.in-Some.c c.in-Some.beyond.now c.chars.invariant.passed c.in_ok-passed-in-Some.ensures (omega arith) (subst (Wants all c.chars.reader) signs c.chars.invariant.wants) in
    record {
      utf8 = c.in-Some.ensures.utf8;
      size = omega (arith, c.chars.invariant.size, ap length c.in-Some.ensures.next, length-append (encode_utf8 c.in-Some.c) c.in-Some.beyond.now, c.len_utf8.ensures.len);
      passed = read.0;
      wants = c.in_ok-read_some-in-Some.ensures all (signs_from fold marks (place + c.len_utf8.result) (chars c.in-Some.beyond.now))
          (subst (λ (o : Option TextSign). Wants all c.pass_marks.new.reader (option_to_list o ++ signs_from fold marks (place + c.len_utf8.result) (chars c.in-Some.beyond.now))) (sym c.sign.ensures) read.1);
    }
