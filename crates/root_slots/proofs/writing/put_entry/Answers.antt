use Rattle.std.proofs.Common.{◌≡◌, ◌++◌, List, ℕ, length, ◌∙◌, ap, subst}
use Rattle.std.specs.Prelude.{OnOk}
use Rattle.std.specs.List.{flat_map}
use Rattle.std.specs.Int.{w32, to_le_bytes}
use Rattle.root_slots.proofs.Joining.{four}
use Rattle.root_slots.proofs.writing.put_entry.Goals as goal

pub returns : goal.returns
returns c =
    let third = c.in_ok-put_u32-3.ensures.ok ∙ ap (λ (n : ℕ). c.put_u32-2.new.out.items ++ to_le_bytes w32 n) c.len.ensures in
    let last = subst (λ (l : List ℕ). OnOk c.put_rows.result (c.put_rows.new.out.items ≡ c.put_u32-3.new.out.items ++ flat_map (to_le_bytes w32) l)) c.as_slice.ensures c.put_rows.ensures in
    four c.put_rows.result c.args.out.now.items c.put_u32.new.out.items c.put_u32-2.new.out.items c.put_u32-3.new.out.items c.put_rows.new.out.items
    (to_le_bytes w32 c.args.chunk.now.file) (to_le_bytes w32 c.args.chunk.now.length) (to_le_bytes w32 (length c.args.chunk.now.dead)) (flat_map (to_le_bytes w32) c.args.chunk.now.dead)
    c.in_ok-put_u32.ensures.ok c.in_ok-put_u32-2.ensures.ok third last
