use Rattle.std.proofs.Common.{◌≡◌, ◌+◌, ◌∙◌, ℕ, IfOk, IfSome, length, rules, ap, subst}
use Rattle.op_eval.specs.steps.Wanted.{is_wanted, numbers_from}
use Rattle.row_flags.proofs.counting.count_window.Goals as goal

pub returns : goal.returns
returns g c =
    let rows = g.C.Chunk.content c.args.chunk.now in
    let passes = is_wanted c.args.root.now c.args.dead.now in
    let first : c.deref_mut.result.now ≡ c.in_ok-flags.flags.items = search rules in
    let size : length c.deref_mut.result.now ≡ c.args.size = ap length first ∙ c.in_ok-flags.ensures in
    subst (λ (n : ℕ). IfOk c.count_flagged.result (λ told. IfSome told (λ count. count + length (numbers_from passes (c.args.from + n) rows) ≡ length (numbers_from passes c.args.from rows)))) size c.count_flagged.ensures
