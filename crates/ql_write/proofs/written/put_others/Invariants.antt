use Rattle.std.proofs.Common.{◌≡◌, ◌++◌, ◌∷◌, take}
use Rattle.std.specs.List.{flat_map}
use Rattle.ql_write.specs.steps.Writing.{piece_of, with_spaces}
use Rattle.ql_write.proofs.written.put_others.Given as goal

abbrev pub invariant-loop-part : goal.invariant-loop-part
invariant-loop-part g l = l.out.items ≡ l.initial.out.items ++ with_spaces (flat_map (λ x. piece_of l.between ∷ g.T.Written.pieces x) (take l.part-index l.parts))
