use Rattle.doc_search.proofs.ByWords.{gathers_up_to}
use Rattle.doc_search.proofs.by_words.offer_at_most.Goals as goal

pub returns-clause-offered : goal.returns-clause-offered
returns-clause-offered g c = λ first before doc here so told.
    gathers_up_to g.S.Sink.Took c.args.asked.now first before doc c.args.most c.new-row.result c.args.sink.now c.pass.new.self (c.new-row.ensures doc here) (c.requires.passes doc here) (c.requires.weighs doc here)
    (λ rows its lighter took. c.in_ok-pass.ensures first rows its lighter took) so
