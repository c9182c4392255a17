use Rattle.std.proofs.Common.{length, ◌∙◌, ap, subst, arith, length-append}
use Rattle.std.specs.Char.{encode_utf8}
use Rattle.std.specs.Str.{chars}
use Rattle.std.proofs.lemmas.Result.{err_from_is_err_and}
use Rattle.std.proofs.lemmas.Str.{chars-nil, length-encode, len_utf8_bounds}
use Rattle.std.specs.Prelude.{false}
use Rattle.charset_map.specs.Spans.{folded}
use Rattle.doc_tokens.specs.TextSigns.{run_sign}
use Rattle.doc_tokens.specs.steps.TokenReader.{Wants, plain_signs}
use Rattle.doc_tokens.proofs.PlainSigns.{plain_next, plain_above}
use Rattle.doc_tokens.proofs.plain.read_plain.Goals as goal

pub returns-in-None : goal.returns-in-None
returns-in-None c =
    let fold = folded c.args.charset.now in
    let all = plain_signs fold (chars c.args.text.now) in
    let wants = c.in_ok-letters.ensures all (plain_signs fold (chars c.own_run.result.1.now)) (subst (Wants all c.chars.reader) c.own_run.ensures.signs c.chars.invariant.wants) in
    c.finish.ensures all (subst (λ cs. Wants all c.letters.new.self (plain_signs fold cs)) (ap chars c.in-None.ensures.next ∙ chars-nil) wants)

pub returns-in_err-read-in-Some : goal.returns-in_err-read-in-Some
returns-in_err-read-in-Some c =
    let fold = folded c.args.charset.now in
    let all = plain_signs fold (chars c.args.text.now) in
    let wants = c.in_ok-letters.ensures all (plain_signs fold (chars c.own_run.result.1.now)) (subst (Wants all c.chars.reader) c.own_run.ensures.signs c.chars.invariant.wants) in
    let end = c.from_residual-in_err-read-in-Some in
    let p = err_from_is_err_and end.result end.ensures.1 in
    rw (p.1, p.2)
    (plain_above fold all c.own_run.result.1.now c.in-Some.beyond.now c.in-Some.c c.in_run.result c.letters.new.self c.read.new.self c.in_err-read-in-Some.field-0.0 c.own_run.ensures.utf8 c.in-Some.ensures.next (c.in_run.ensures ∙ ap (λ o. run_sign o false) c.fold.ensures) c.in_err-read-in-Some.ensures wants)

pub chars-smaller : goal.chars-smaller
chars-smaller c =
    omega (arith, ap length c.own_run.ensures.parts, length-append c.own_run.result.0.now c.own_run.result.1.now, ap length c.in-Some.ensures.next, length-append (encode_utf8 c.in-Some.c) c.in-Some.beyond.now, length-encode c.in-Some.c, len_utf8_bounds c.in-Some.c)

pub chars-preserved : goal.chars-preserved
chars-preserved c =
    let fold = folded c.args.charset.now in
    let all = plain_signs fold (chars c.args.text.now) in
    let wants = c.in_ok-letters.ensures all (plain_signs fold (chars c.own_run.result.1.now)) (subst (Wants all c.chars.reader) c.own_run.ensures.signs c.chars.invariant.wants) in
    record {
      utf8 = c.in-Some.ensures.utf8;
      wants = c.in_ok-read-in-Some.ensures all (plain_signs fold (chars c.in-Some.beyond.now))
          (plain_next fold all c.own_run.result.1.now c.in-Some.beyond.now c.in-Some.c c.in_run.result c.letters.new.self c.own_run.ensures.utf8 c.in-Some.ensures.next (c.in_run.ensures ∙ ap (λ o. run_sign o false) c.fold.ensures) wants);
    }
