use Rattle.std.proofs.Common.{List, ℕ, IfNone, subst}
use Rattle.mark_scan.specs.Markup.{BeginsMarkup}
use Rattle.mark_scan.proofs.markup.markup_from.Goals as goal

-- the bytes after the cut are the text from the place on
pub returns-clause-none : goal.returns-clause-none
returns-clause-none c = subst (λ (s : List ℕ). IfNone c.markup_at.result (BeginsMarkup s → ⊥)) c.split_at.ensures.back c.markup_at.ensures.none
