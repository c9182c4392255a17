use Rattle.std.proofs.Common.{rules}
use Rattle.ql_select.proofs.GoneOver.{options_noted}
use Rattle.ql_select.proofs.faults.note_options.Goals as goal

pub returns : goal.returns
returns c =
    options_noted c.args.schema.now c.args.options.now c.args.faults.now.fault c.note_any.new.self.fault c.note_any-2.new.self.fault c.note_any-3.new.self.fault
    (record { is = search rules }) (record { is = search rules }) (record { is = search rules })
