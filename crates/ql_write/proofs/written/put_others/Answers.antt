use Rattle.std.proofs.Common.{◌∷◌, take}
use Rattle.std.specs.List.{flat_map}
use Rattle.ql_write.specs.steps.Writing.{piece_of, with_spaces, Keeps}
use Rattle.ql_write.proofs.Writings.{failed, kept, kept_all}
use Rattle.ql_write.proofs.written.put_others.Goals as goal

pub returns-in_err-put_next : goal.returns-in_err-put_next
returns-in_err-put_next g c =
    let k : Keeps c.args.out.now.items c.loop-part.out.items = kept_all _ (with_spaces (flat_map (λ x. piece_of c.args.between ∷ g.T.Written.pieces x) (take c.loop-part.part-index c.args.parts.now))) _ c.loop-part.invariant in
    failed (with_spaces (flat_map (λ x. piece_of c.args.between ∷ g.T.Written.pieces x) c.args.parts.now)) c.args.out.now.items c.put_next.new.out.items c.from_residual.result c.from_residual.ensures.0 (kept _ c.loop-part.out.items _ k c.in_err-put_next.ensures)
