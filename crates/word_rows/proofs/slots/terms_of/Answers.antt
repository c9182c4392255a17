use Rattle.std.proofs.Common.{Bor, arith, map, subst, sym, ap, ◌∙◌, false, ◌≡◌, All}
use Rattle.std.proofs.lemmas.List.Elements.{All-push}
use Rattle.occ_lists.specs.declared.term.Term.{Term}
use Rattle.query_tree.specs.declared.key.Key.{Key}
use Rattle.word_rows.specs.steps.Cursors.{IsMadeFor}
use Rattle.word_rows.specs.Slots.{number_among}
use Rattle.word_rows.proofs.FirstUses.{number_is}
use Rattle.word_rows.proofs.Zipped.{zip_more}
use Rattle.word_rows.proofs.slots.terms_of.Goals as goal

pub loop-key-preserved : goal.loop-key-preserved
loop-key-preserved c =
    let keys = map (λ (key : Bor Key). key.now) c.args.keys.now in
    record {
      made = zip_more (IsMadeFor (number_among keys) c.args.fields) (λ (key : Bor Key). key.now) c.args.keys.now c.loop-key.key-index c.key-item.result c.loop-key.terms.items c.push.new.self.items c.term_of.result
          (omega arith) c.key-item.is c.in_ok-push.ensures.items c.loop-key.invariant.made
          (record {
            query = c.term_of.ensures.query;
            word = c.term_of.ensures.word ∙ number_is keys c.deref.result.now c.key-item.result.now.word (ap (map (λ word. word.now)) c.deref.ensures.value ∙ c.in_ok-words.ensures);
            free = c.term_of.ensures.free;
          });
      absent = subst (λ terms. All (λ (term : Term). term.present ≡ false) terms) (sym c.in_ok-push.ensures.items)
          (All-push (λ (term : Term). term.present ≡ false) c.loop-key.terms.items c.term_of.result c.loop-key.invariant.absent c.term_of.ensures.absent);
    }
