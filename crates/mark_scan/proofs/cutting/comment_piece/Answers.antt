use Rattle.std.proofs.Common.{ℕ, ◌+◌, ◌≤◌, ◌∙◌, length, ap, arith, take}
use Rattle.mark_scan.proofs.Cuts.{after_front}
use Rattle.mark_scan.proofs.Fronts.{byte_within}
use Rattle.mark_scan.proofs.cutting.comment_piece.Goals as goal

pub returns : goal.returns
returns c =
    let within : c.args.end + 2 + 1 ≤ length c.args.text.now = omega (arith, byte_within c.args.text.now (c.args.end + 2) (omega (arith, c.requires.ends.third))) in
    record {
      begins = record {
        end = c.args.end;
        begins = c.requires;
        is = c.cut_after.ensures.front ∙ ap (λ (n : ℕ). take n c.args.text.now) (omega arith);
      };
      rest = after_front c.args.text.now c.cut_after.result.0.now c.cut_after.result.1.now (c.args.end + 2 + 1) within c.cut_after.ensures.front c.cut_after.ensures.back;
      piece_utf8 = c.cut_after.ensures.front_utf8;
      rest_utf8 = c.cut_after.ensures.back_utf8;
    }
