use Rattle.std.proofs.Common.{◌≡◌, ◌==◌, List, ◌++◌, ◌∷◌, [], Bool, true, arith, ap, sym, ◌∙◌}
use Rattle.std.specs.List.{list_any}
use Rattle.occ_lists.specs.declared.wanted.Wanted.{Wanted}
use Rattle.occ_lists.specs.Terms.{listed_in}
use Rattle.occ_lists.proofs.WordLists.{known_more, new_more}
use Rattle.occ_lists.proofs.wanted.listed_words.Goals as goal
use Rattle.occ_lists.proofs.wanted.listed_words.Goals.{then-not-known+in_ok-more+in_ok-push, else-not-known}

pub loop-term-preserved : goal.loop-term-preserved
loop-term-preserved c = elim c.if-not-known.branch [
  | then-not-known+in_ok-more+in_ok-push w ↦
      let after = c.if-not-known.words.items in
      let grown : after ≡ c.loop-term.words.items ++ w.in_ok-more.more ∷ [] = ap (λ v. v.items) w.words-is ∙ w.in_ok-push.ensures.items in
      new_more c.args.spans.now c.args.terms.now c.loop-term.term-index c.term-item.result (omega arith) c.term-item.is (listed_in c.args.spans.now c.args.terms.now) c.loop-term.words.items after w.in_ok-more.more w.in_ok-more.ensures grown c.loop-term.invariant
  | else-not-known w ↦
      let has : List Wanted → Bool = list_any (λ (wanted : Wanted). wanted.word == c.term-item.result.word) in
      let known : has c.loop-term.words.items ≡ true = ap has (sym c.deref.ensures.value) ∙ sym c.has_word-known.ensures ∙ w.if-not-known.false in
      rw w.words-is (known_more c.args.spans.now c.args.terms.now c.loop-term.term-index c.term-item.result (omega arith) c.term-item.is (listed_in c.args.spans.now c.args.terms.now) c.loop-term.words.items known c.loop-term.invariant)
]
