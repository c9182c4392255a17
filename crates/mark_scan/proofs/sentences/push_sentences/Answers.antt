use Rattle.std.proofs.Common.{◌≡◌, ℕ, ◌+◌, List, [], length, ap, ◌∙◌, subst, arith, length-append}
use Rattle.std.specs.Char.{encode_utf8}
use Rattle.std.specs.Str.{chars}
use Rattle.std.proofs.lemmas.Str.{chars-nil}
use Rattle.charset_map.specs.Spans.{folded}
use Rattle.mark_scan.specs.Marks.{run_of}
use Rattle.mark_scan.proofs.SentenceSteps.{Reached, reached_end, reached_step}
use Rattle.mark_scan.proofs.sentences.push_sentences.Goals as goal

pub returns-in-None : goal.returns-in-None
returns-in-None c = λ parts are seen is.
    let fold = folded c.args.charset.now in
    let after = chars (run_of c.args.rules.now.zones parts) in
    let none : chars c.chars.rest.now ≡ [] = ap chars c.in-None.ensures.next ∙ chars-nil in
    reached_end fold after c.args.from (chars c.args.text.now) seen c.args.list.now.items c.chars.before c.chars.place c.chars.list.items
    (subst (λ (l : List ℕ). Reached fold after c.args.from (chars c.args.text.now) seen c.args.list.now.items c.chars.before c.chars.place l c.chars.list.items) none (c.chars.invariant.reached parts are seen is))

pub push_end-requires : goal.push_end-requires
push_end-requires c = omega (arith, c.requires.size, c.chars.invariant.size, ap length c.in-Some.ensures.next, length-append (encode_utf8 c.in-Some.c) c.in-Some.beyond.now, c.len_utf8-width.ensures.len, c.len_utf8-width.ensures.lower_bound)

pub chars-preserved : goal.chars-preserved
chars-preserved c = record {
  utf8 = c.in-Some.ensures.utf8;
  size = omega (arith, c.chars.invariant.size, ap length c.in-Some.ensures.next, length-append (encode_utf8 c.in-Some.c) c.in-Some.beyond.now, c.len_utf8-width.ensures.len);
  reached = λ parts are seen is.
      reached_step (folded c.args.charset.now) (run_of c.args.rules.now.zones parts) c.args.from (chars c.args.text.now) seen c.args.list.now.items c.chars.before c.then-before.result c.chars.place _ c.in-Some.c c.chars.rest.now c.in-Some.beyond.now c.chars.list.items c.push_end.new.list.items c.ends.result
      c.chars.invariant.utf8 c.in-Some.ensures.next c.in-Some.ensures.utf8 (c.chars.invariant.reached parts are seen is) (c.then-before.ensures (folded c.args.charset.now)) (c.ends.ensures parts are) (ap (λ (n : ℕ). c.chars.place + n) c.len_utf8-width.ensures.value) c.in_ok-push_end-in-Some.ensures;
}
