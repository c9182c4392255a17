use Rattle.std.proofs.Common.{rules}
use Rattle.ql_select.proofs.GoneOver.{all_noted, same_names}
use Rattle.ql_select.proofs.naming.go_over_with.Goals as goal

pub returns-clause-names : goal.returns-clause-names
returns-clause-names c =
    same_names c.args.schema.now c.args.select.now _ (search rules) (search rules) (search rules) (search rules) (search rules) (search rules) (search rules) (search rules)

pub returns-clause-faults : goal.returns-clause-faults
returns-clause-faults c =
    all_noted c.args.schema.now c.args.select.now c.args.faults.now.fault c.sources_of.new.faults.fault c.filters_of.new.faults.fault c.group_of-group.new.faults.fault c.within_of.new.faults.fault c.having_of-having.new.faults.fault c.order_of.new.faults.fault c.note_options.new.faults.fault c.facets_of.new.faults.fault c.note_any.new.self.fault
    (record { is = search rules }) (record { is = search rules }) (record { is = search rules }) (record { is = search rules }) (record { is = search rules }) (record { is = search rules }) (record { is = search rules }) (record { is = search rules }) (record { is = search rules })
