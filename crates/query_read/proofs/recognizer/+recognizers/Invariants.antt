use Rattle.std.proofs.Common.{◌+◌, ◌*◌, length}
use Rattle.token_grammar.specs.Language.{one}
use Rattle.query_grammar.specs.declared.class.Class.TheVariants as classes
use Rattle.query_grammar.specs.steps.QueryGrammar.{others, join_of, and_of}
use Rattle.query_read.specs.steps.Parts.{alternatives_go_on, expr_goes_on}
use Rattle.query_read.proofs.RecognizedRows.{RowRead, PartsRead, either_then}
use Rattle.query_read.proofs.RecognizedParts.{SectionRead, SectionsRead}
use Rattle.query_read.proofs.recognizer.+recognizers.Given as goal

-- Of two recognizers at one depth the one that calls the other has the greater measure.
abbrev pub decreases-group : goal.decreases-group
decreases-group l = 8 * l.depth

abbrev pub decreases-join : goal.decreases-join
decreases-join l = 8 * l.depth + 1

abbrev pub decreases-alternatives : goal.decreases-alternatives
decreases-alternatives l = 8 * l.depth + 2

abbrev pub decreases-item : goal.decreases-item
decreases-item l = 8 * l.depth + 3

abbrev pub decreases-section : goal.decreases-section
decreases-section l = 8 * l.depth + 4

abbrev pub decreases-and : goal.decreases-and
decreases-and l = 8 * l.depth + 5

abbrev pub decreases-expr : goal.decreases-expr
decreases-expr l = 8 * l.depth + 6

abbrev pub invariant-alternatives-choices : goal.invariant-alternatives-choices
invariant-alternatives-choices l = PartsRead (join_of (others l.depth)) (either_then classes.Or classes.Maybe (join_of (others l.depth))) alternatives_go_on l.fn.input l.input

abbrev pub decreases-alternatives-choices : goal.decreases-alternatives-choices
decreases-alternatives-choices l = length l.input

abbrev pub invariant-section-limits : goal.invariant-section-limits
invariant-section-limits l = RowRead classes.Limit (one classes.Limit) l.fn.input l.input

abbrev pub decreases-section-limits : goal.decreases-section-limits
decreases-section-limits l = length l.input

abbrev pub invariant-section-items : goal.invariant-section-items
invariant-section-items l = SectionRead l.depth l.fn.input l.input

abbrev pub decreases-section-items : goal.decreases-section-items
decreases-section-items l = length l.input

abbrev pub invariant-and-sections : goal.invariant-and-sections
invariant-and-sections l = SectionsRead l.depth l.fn.input l.input

abbrev pub decreases-and-sections : goal.decreases-and-sections
decreases-and-sections l = length l.input

abbrev pub invariant-expr-orders : goal.invariant-expr-orders
invariant-expr-orders l = PartsRead (and_of (others l.depth)) (either_then classes.Before classes.Near (and_of (others l.depth))) expr_goes_on l.fn.input l.input

abbrev pub decreases-expr-orders : goal.decreases-expr-orders
decreases-expr-orders l = length l.input
