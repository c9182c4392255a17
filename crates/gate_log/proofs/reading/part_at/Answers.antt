use Rattle.std.proofs.Common.{◌≡◌, ◌∷◌, ℕ, List, length, take, drop, ◌-◌, sym, ◌∙◌, ap, rules}
use Rattle.gate_log.specs.declared.records.LogRecord.{LogRecord}
use Rattle.gate_log.proofs.Fronts.{whole_tail}
use Rattle.gate_log.proofs.reading.part_at.Goals as goal

pub returns-else-may_come : goal.returns-else-may_come
returns-else-may_come c =
    let rest = c.args.bytes.now in
    let first : rest ≡ 1 ∷ drop 1 rest = search rules in
    let more = take (length rest - 1) (drop 1 rest) in
    let begins : rest ≡ 1 ∷ more = first ∙ ap (λ (l : List ℕ). 1 ∷ l) (sym (whole_tail rest)) in
    let r : LogRecord = record { number = c.in-Some.number; payload = c.in-Some.payload.now } in
    record {
      record_is = r;
      after = c.in-Some.after.now;
      short = c.in-Some.ensures.small;
      number = c.in-Some.ensures.number;
      gate = c.in-Some.ensures.gate;
      is = begins ∙ ap (λ (l : List ℕ). 1 ∷ l) c.in-Some.ensures.found;
      wrong = c.if-may_come.ensures;
    }
