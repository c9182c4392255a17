use Rattle.std.proofs.Common.{◌≡◌, ◌∙◌, false, true, sym, rules}
use Rattle.doc_search.proofs.Gathering.{gathers_past}
use Rattle.doc_search.proofs.searching.collect_row.Goals as goal

pub returns-then-not-passes-clause-gathers : goal.returns-then-not-passes-clause-gathers
returns-then-not-passes-clause-gathers g c = λ first before doc here so.
    let fails : c.passes.result ≡ false = search rules in
    gathers_past g.S.Sink.Took c.args.asked.now first before doc c.args.sink.now (sym (c.passes.ensures doc here) ∙ fails) so

pub offer_or_stop-requires-clause-passes : goal.offer_or_stop-requires-clause-passes
offer_or_stop-requires-clause-passes g c = λ doc here.
    let holding : c.passes.result ≡ true = search rules in
    sym (c.passes.ensures doc here) ∙ holding
