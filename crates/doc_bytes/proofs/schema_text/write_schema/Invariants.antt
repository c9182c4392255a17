use Rattle.std.proofs.Common.{◌≡◌, ◌++◌, take}
use Rattle.std.specs.List.{flat_map}
use Rattle.doc_bytes.specs.SchemaText.{field_line}
use Rattle.doc_bytes.proofs.schema_text.write_schema.Given as goal

abbrev pub invariant-loop-name : goal.invariant-loop-name
invariant-loop-name l = l.out.items ≡ l.fn.out.items ++ flat_map field_line (take l.name-index l.name-items)
