use Rattle.std.proofs.Common.{List, ℕ, sym, ap, ◌∙◌}
use Rattle.std.specs.List.{list_any}
use Rattle.doc_types.specs.Chunks.{CursorPlace}
use Rattle.prefix_terms.specs.steps.Parts.{is_alive}
use Rattle.prefix_terms.proofs.parts.is_living.Goals as goal

pub returns-in-Some : goal.returns-in-Some
returns-in-Some g c = c.is_ahead.ensures ∙ ap (λ (place : CursorPlace). list_any (is_alive c.args.dead.now) place.ahead) c.in-Some.ensures.first.1

pub returns-in-None : goal.returns-in-None
returns-in-None g c = sym (ap (λ (rows : List ℕ). list_any (is_alive c.args.dead.now) rows) c.in-None.ensures.none)
