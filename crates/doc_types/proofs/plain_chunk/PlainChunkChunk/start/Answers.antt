use Rattle.std.proofs.Common.{◌∙◌, sym, refl, rules}
use Rattle.doc_types.proofs.PlainPlaces.{starts_at, none_there}
use Rattle.doc_types.proofs.plain_chunk.PlainChunkChunk.start.Goals as goal

pub returns-in_err-found-clause-found : goal.returns-in_err-found-clause-found
returns-in_err-found-clause-found c =
    let none = none_there _ _ _ _ c.args.self.now.indexed c.as_slice-index.ensures (sym c.entry_of.ensures ∙ c.in_err-found.was) in
    rw (c.from_residual.ensures, none) (search rules)

pub returns-in_err-found-clause-none : goal.returns-in_err-found-clause-none
returns-in_err-found-clause-none c =
    rw c.from_residual.ensures (none_there _ _ _ _ c.args.self.now.indexed c.as_slice-index.ensures (sym c.entry_of.ensures ∙ c.in_err-found.was))

pub returns-clause-found : goal.returns-clause-found
returns-clause-found c = (λ _. (starts_at _ _ _ _ _ c.index-index-found.result c.args.self.now.indexed c.as_slice-index.ensures (sym c.entry_of.ensures ∙ c.in_ok-found.was) c.index-index-found.is).some, λ _. refl)

pub returns-clause-first : goal.returns-clause-first
returns-clause-first c =
    let its = starts_at _ _ _ _ _ c.index-index-found.result c.args.self.now.indexed c.as_slice-index.ensures (sym c.entry_of.ensures ∙ c.in_ok-found.was) c.index-index-found.is in
    (its.stands c.row_at.result (search rules), its.place c.row_at.result)
