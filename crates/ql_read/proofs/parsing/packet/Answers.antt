use Rattle.std.proofs.Common.{Bool, List, Ok, sym, subst}
use Rattle.std.specs.Prelude.{Some}
use Rattle.ql_tree.specs.declared.statement.Statement.{Statement}
use Rattle.ql_read.specs.steps.PacketReading.{ReadsPacket, listed_in}
use Rattle.ql_read.proofs.parsing.packet.Goals as goal

pub returns-then-all : goal.returns-then-all
returns-then-all c =
    let read = subst (λ (all : Bool). ReadsPacket c.args.input.now (listed_in c.read_statements.new.list.items (Ok all)) c.read_statements.new.input) c.if-all.true c.in-Ok.ensures in
    subst (λ (xs : List Statement). ReadsPacket c.args.input.now (Ok (Some xs)) c.read_statements.new.input) (sym c.new.ensures) read

pub returns-else-all : goal.returns-else-all
returns-else-all c = subst (λ (all : Bool). ReadsPacket c.args.input.now (listed_in c.read_statements.new.list.items (Ok all)) c.read_statements.new.input) c.if-all.false c.in-Ok.ensures

pub returns-in-Err : goal.returns-in-Err
returns-in-Err c = c.in-Err.ensures
