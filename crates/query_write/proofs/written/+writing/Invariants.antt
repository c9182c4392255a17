use Rattle.std.proofs.Common.{drop}
use Rattle.std.specs.List.{flat_map}
use Rattle.query_write.specs.Written.{item_tokens, tokens_text}
use Rattle.query_write.specs.steps.Writes.{IsPart}
use Rattle.query_write.proofs.written.+writing.Given as goal

abbrev pub invariant-put_items-loop-item : goal.invariant-put_items-loop-item
invariant-put_items-loop-item l =
    IsPart l.initial.out.items l.out.items (tokens_text l.schema (flat_map (item_tokens l.schema.fields) l.items)) (tokens_text l.schema (flat_map (item_tokens l.schema.fields) (drop l.item-index l.items)))
