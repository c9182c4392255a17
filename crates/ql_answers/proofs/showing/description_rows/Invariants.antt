use Rattle.std.proofs.Common.{◌≡◌, ◌∷◌, ◌++◌, take, map, codes}
use Rattle.ql_columns.specs.Columns.{id_name}
use Rattle.ql_answers.specs.Replies.{pair}
use Rattle.ql_answers.specs.Showing.{kind_text}
use Rattle.ql_answers.proofs.showing.description_rows.Given as goal

abbrev pub invariant-fields : goal.invariant-fields
invariant-fields l = l.rows.items ≡ pair id_name (codes "bigint") ∷ map (λ field. pair field (codes "field")) (take l.field-index l.schema.fields)

abbrev pub invariant-attrs : goal.invariant-attrs
invariant-attrs l = l.rows.items ≡ pair id_name (codes "bigint") ∷ map (λ field. pair field (codes "field")) l.schema.fields
    ++ map (λ attr. pair attr.0 (kind_text attr.1)) (take l.attr-index l.schema.attrs)
