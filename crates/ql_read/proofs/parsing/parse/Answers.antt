use Rattle.std.proofs.Common.{Global, ◌≤◌, List, length, sym, subst}
use Rattle.std.specs.Prelude.{Err}
use Rattle.ql_grammar.specs.Tokens.{lexemes}
use Rattle.ql_grammar.specs.declared.fault.ParseKind.TheVariants.{TooMany}
use Rattle.ql_tree.specs.declared.statement.TheConstants.{MAX_STATEMENTS}
use Rattle.ql_tree.specs.declared.statement.Statement.{Statement}
use Rattle.ql_grammar.specs.Packets.{IsFault, IsPacket, Parses}
use Rattle.ql_read.specs.steps.PacketReading.{ReadsPacket}
use Rattle.ql_read.proofs.Faults.{too_many_fault}
use Rattle.ql_read.proofs.ParseAnswers.{syntax_parses}
use Rattle.ql_read.proofs.parsing.parse.Goals as goal

pub returns-in-Ok-Some : goal.returns-in-Ok-Some
returns-in-Ok-Some c =
    let read = rw c.in-Ok-Some.field-0-is at c.in-Ok-Some.ensures in
    let one : IsPacket c.into_vec-statements.result.items c.new-input.result = subst (λ (xs : List Statement). IsPacket xs c.new-input.result) (sym c.into_vec-statements.ensures) read.0 in
    let few : length c.into_vec-statements.result.items ≤ MAX_STATEMENTS = subst (λ (xs : List Statement). length xs ≤ MAX_STATEMENTS) (sym c.into_vec-statements.ensures) read.1 in
    (subst (λ u. IsPacket c.into_vec-statements.result.items u) c.new-input.ensures one, few)

pub returns-in-Ok-None : goal.returns-in-Ok-None
returns-in-Ok-None c =
    let long = rw c.in-Ok-None.field-0-is at c.in-Ok-None.ensures in
    subst (λ u. IsFault u (record { place = c.place-place.result; kind = TooMany })) c.new-input.ensures (too_many_fault long c.place-place.ensures)

pub returns-in-Err : goal.returns-in-Err
returns-in-Err c =
    let fails = subst (λ u. ReadsPacket u (Err c.in-Err.error) c.packet.new.input) c.new-input.ensures c.in-Err.ensures in
    subst (λ e. Parses {M = Global} (lexemes c.args.tokens.now) (Err e)) (sym c.syntax.ensures) (syntax_parses Global c.in-Err.error fails)
