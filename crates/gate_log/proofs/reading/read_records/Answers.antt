use Rattle.std.proofs.Common.{◌≡◌, ◌∷◌, [], ◌++◌, rules}
use Rattle.gate_log.specs.declared.reading.RecordAt.{RecordAt}
use Rattle.gate_log.proofs.Fronts.{front-push}
use Rattle.gate_log.proofs.reading.read_records.Goals as goal

pub records-preserved : goal.records-preserved
records-preserved c =
    let r : RecordAt = record { place = c.place_of.result; number = c.in-Record.number; payload = c.in-Record.payload } in
    let items : c.push.new.self.items ≡ c.records.records.items ++ r ∷ [] = search rules in
    rw items (front-push c.args.before c.args.bytes.now c.records.records.items c.records.last c.records.rest.now c.in-Record.after.now r c.records.invariant c.place_of.ensures c.in-Record.ensures)
