use Rattle.std.proofs.Common.{◌++◌, ℕ, List, ap, ◌∙◌}
use Rattle.std.specs.Prelude.{decimal}
use Rattle.searchd_top.specs.steps.Openings.{holdings_of}
use Rattle.searchd_top.proofs.Putting.{line_put}
use Rattle.searchd_top.proofs.checking.put_line.Goals as goal

pub returns : goal.returns
returns g c =
    line_put c.args.index.now.schema.name (holdings_of c.args.store.now) c.args.lines.now.items
    c.extend_from_slice.new.self.items c.extend_from_slice-2.new.self.items c.put_number.new.lines.items c.extend_from_slice-3.new.self.items c.put_number-2.new.lines.items c.extend_from_slice-4.new.self.items
    c.put_number-3.new.lines.items c.extend_from_slice-5.new.self.items
    (c.in_ok-extend_from_slice.ensures.items ∙ ap (λ (list : List ℕ). c.args.lines.now.items ++ list) c.as_bytes.ensures)
    c.in_ok-extend_from_slice-2.ensures.items
    (c.in_ok-put_number.ensures ∙ ap (λ (n : ℕ). c.extend_from_slice-2.new.self.items ++ decimal n) (c.from.ensures ∙ c.documents.ensures))
    c.in_ok-extend_from_slice-3.ensures.items
    (c.in_ok-put_number-2.ensures ∙ ap (λ (n : ℕ). c.extend_from_slice-3.new.self.items ++ decimal n) (c.from-2.ensures ∙ c.disk_chunks.ensures))
    c.in_ok-extend_from_slice-4.ensures.items
    (c.in_ok-put_number-3.ensures ∙ ap (λ (n : ℕ). c.extend_from_slice-4.new.self.items ++ decimal n) c.records.ensures)
    c.in_ok-extend_from_slice-5.ensures.items
