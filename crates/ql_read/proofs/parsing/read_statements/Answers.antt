use Rattle.std.proofs.Common.{arith, ◌≡◌, ◌≤◌, ◌<◌, List, [], ◌∷◌, ◌++◌, length, refl, sym, ap, ◌∙◌, subst}
use Rattle.ql_tree.specs.declared.statement.TheConstants.{MAX_STATEMENTS}
use Rattle.ql_tree.specs.declared.statement.Statement.{Statement}
use Rattle.ql_read.specs.steps.PacketReading.{StatementsRead}
use Rattle.ql_read.proofs.PacketSteps.{statements_one, statements_more, packet_ends, packet_ends_behind, first_fails, later_fails, full_fails, end_fails, too_long, packet_fails_with}
use Rattle.ql_read.proofs.parsing.read_statements.Goals as goal

pub returns-in_err-statement : goal.returns-in_err-statement
returns-in_err-statement c = packet_fails_with _ _ c.from_residual.result c.from_residual.ensures.1 (first_fails c.in_err-statement.ensures)

pub statements-init : goal.statements-init
statements-init c =
    let is = c.in_ok-push.ensures.items ∙ ap (λ xs. xs ++ c.in_ok-statement.field-0 ∷ []) c.requires in
    subst (λ (xs : List Statement). StatementsRead c.args.input.now xs c.statement.new.input) (sym is) (statements_one c.in_ok-statement.ensures)

pub returns-then-is_end : goal.returns-then-is_end
returns-then-is_end c = (packet_ends_behind c.statements.invariant c.statements-test.ensures.0 c.if-is_end.ensures.end (c.if-is_end.ensures.last refl), c.statements.invariant.few)

pub returns-then-begins_statement : goal.returns-then-begins_statement
returns-then-begins_statement c =
    let full : length c.statements.list.items ≡ MAX_STATEMENTS = omega arith in
    too_long c.statements.invariant c.statements-test.ensures.0 c.if-is_end.ensures.end full c.if-begins_statement.ensures

pub returns-then-len-eq-MAX_STATEMENTS : goal.returns-then-len-eq-MAX_STATEMENTS
returns-then-len-eq-MAX_STATEMENTS c =
    let full : length c.statements.list.items ≡ MAX_STATEMENTS = omega arith in
    full_fails c.place.result c.statements.invariant c.statements-test.ensures.0 c.if-is_end.ensures.end full c.if-begins_statement.ensures c.place.ensures

pub returns-in_err-statement-2 : goal.returns-in_err-statement-2
returns-in_err-statement-2 c =
    let few : length c.statements.list.items ≤ MAX_STATEMENTS = c.statements.invariant.few in
    let room : length c.statements.list.items < MAX_STATEMENTS = omega arith in
    packet_fails_with _ _ c.from_residual-in_err-statement-2.result c.from_residual-in_err-statement-2.ensures.1 (later_fails c.statements.invariant c.statements-test.ensures.0 c.if-is_end.ensures.end room c.in_err-statement-2.ensures)

pub statements-preserved : goal.statements-preserved
statements-preserved c =
    let few : length c.statements.list.items ≤ MAX_STATEMENTS = c.statements.invariant.few in
    let room : length c.statements.list.items < MAX_STATEMENTS = omega arith in
    subst (λ (xs : List Statement). StatementsRead c.args.input.now xs c.statement-in-statements.new.input) (sym c.in_ok-push-2.ensures.items) (statements_more c.in_ok-statement-2.field-0 c.statements.invariant c.statements-test.ensures.0 c.if-is_end.ensures.end room c.in_ok-statement-2.ensures)

pub returns-then-is_end-2 : goal.returns-then-is_end-2
returns-then-is_end-2 c = (packet_ends c.statements.invariant c.statements-test.ensures.0 c.if-is_end-2.ensures.end (c.if-is_end-2.ensures.last refl), c.statements.invariant.few)

pub returns : goal.returns
returns c = end_fails c.place-2.result c.statements.invariant c.statements-test.ensures.0 c.statements-test.ensures.1 c.if-is_end-2.ensures.end c.place-2.ensures
