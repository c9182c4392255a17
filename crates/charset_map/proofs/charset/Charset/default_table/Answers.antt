use Rattle.std.proofs.Common.{Err, subst}
use Rattle.srch_base.specs.declared.faults.Or.{Or}
use Rattle.charset_map.specs.declared.fault.CharsetFault.{CharsetFault}
use Rattle.charset_map.specs.TableText.{ReadsTable, default_text}
use Rattle.charset_map.proofs.Unique.{table_or_fault}
use Rattle.charset_map.proofs.DefaultText.{default_is_table}
use Rattle.charset_map.proofs.charset.Charset.default_table.Goals as goal

pub unreachable-requires : goal.unreachable-requires
unreachable-requires c =
    let wrong = subst (λ (cause : Or CharsetFault). ReadsTable default_text (Err cause)) c.in-Err-Fault.field-0-is c.in-Err-Fault.ensures in
    table_or_fault default_text _ c.in-Err-Fault.field-0-0 default_is_table wrong
