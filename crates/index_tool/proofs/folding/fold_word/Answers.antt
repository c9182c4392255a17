use Rattle.std.proofs.Common.{◌≡◌, ◌∙◌, sym, ap, arith, length, get_or}
use Rattle.std.specs.Prelude.{string_bytes}
use Rattle.std.specs.Str.{chars}
use Rattle.std.proofs.lemmas.Iterator.{YieldsList-from_chars}
use Rattle.std.proofs.lemmas.Iterator.Consumers.{YieldsList-end, YieldsList-turn}
use Rattle.std.proofs.lemmas.List.{length_push}
use Rattle.charset_map.specs.Spans.{folded}
use Rattle.index_tool.proofs.Folded.{folded_all, folded_long, folded_more, folded_none}
use Rattle.index_tool.proofs.folding.fold_word.Goals as goal

pub returns-then-letters-ge-MAX_WORD_CHARS : goal.returns-then-letters-ge-MAX_WORD_CHARS
returns-then-letters-ge-MAX_WORD_CHARS c =
    let t = YieldsList-turn (YieldsList-from_chars c.args.text.now c.utf8.text cc) c.characters.yielded _ c.characters.yielded_by _ _ c.in-Some.c c.in-Some.is c.next.ensures.steps in
    sym (folded_long (folded c.args.charset.now) c.args.text.now (omega (arith, t.0, c.characters.invariant.count, c.if-letters-ge-MAX_WORD_CHARS.true)))

pub returns-in-None-fold : goal.returns-in-None-fold
returns-in-None-fold c =
    let t = YieldsList-turn (YieldsList-from_chars c.args.text.now c.utf8.text cc) c.characters.yielded _ c.characters.yielded_by _ _ c.in-Some.c c.in-Some.is c.next.ensures.steps in
    sym (folded_none (folded c.args.charset.now) c.args.text.now (length c.characters.yielded) c.in-Some.c t.0 t.1 (sym c.in-None-fold.ensures))

pub characters-preserved : goal.characters-preserved
characters-preserved c =
    let cs = chars c.args.text.now in
    let n = c.characters.letters in
    let count : n ≡ length c.characters.yielded = c.characters.invariant.count in
    let t = YieldsList-turn (YieldsList-from_chars c.args.text.now c.utf8.text cc) c.characters.yielded _ c.characters.yielded_by _ _ c.in-Some.c c.in-Some.is c.next.ensures.steps in
    record {
      count = omega (arith, count, length_push c.characters.yielded c.in-Some.c);
      few = omega (arith, c.if-letters-ge-MAX_WORD_CHARS.false);
      folds = folded_more (folded c.args.charset.now) cs n c.in-Some.c c.in-Some-fold.letter (string_bytes c.characters.word) (string_bytes c.push.new.self) (omega (arith, count, t.0)) (t.1 ∙ ap (λ i. get_or cs i c.in-Some.c) (sym count))
          (sym c.in-Some-fold.ensures) c.in_ok-push-in-Some-fold.ensures.bytes c.characters.invariant.folds;
    }

pub returns : goal.returns
returns c =
    let t = YieldsList-end (YieldsList-from_chars c.args.text.now c.utf8.text cc) c.characters.yielded _ c.characters.yielded_by _ _ c.in-None.is c.next.ensures.steps in
    sym (folded_all (folded c.args.charset.now) c.args.text.now c.characters.letters (string_bytes c.characters.word) (omega (arith, t.1, c.characters.invariant.count)) c.characters.invariant.few c.characters.invariant.folds)
