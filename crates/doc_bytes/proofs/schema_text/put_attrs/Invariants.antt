use Rattle.std.proofs.Common.{◌≡◌, ◌++◌, take}
use Rattle.std.specs.List.{flat_map}
use Rattle.doc_bytes.specs.SchemaText.{attr_line}
use Rattle.doc_bytes.proofs.schema_text.put_attrs.Given as goal

abbrev pub invariant-loop-name : goal.invariant-loop-name
invariant-loop-name l = l.out.items ≡ l.fn.out.items ++ flat_map attr_line (take l.name-index l.attrs)
