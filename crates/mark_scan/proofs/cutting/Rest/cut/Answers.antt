use Rattle.std.proofs.Common.{◌<◌, length, arith}
use Rattle.mark_scan.specs.declared.cutting.Rest.{Rest}
use Rattle.mark_scan.proofs.FirstPieces.{first_cut}
use Rattle.mark_scan.proofs.cutting.Rest.cut.Goals as goal

pub returns : goal.returns
returns c =
    let beyond : Rest = record { text = c.first_piece.result.1; strip = c.args.self.strip; ends = c.first_piece.new.ends } in
    let some : 0 < length c.args.self.text.now = omega (arith, c.first_piece.ensures.shorter) in
    first_cut c.args.self c.first_piece.result.0 beyond c.if-not-self.false c.if-not-self.false some c.first_piece.ensures.cut c.first_piece.ensures.ends
