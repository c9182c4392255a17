use Rattle.std.proofs.Common.{ℕ, ◌+◌, ◌-◌, List, ◌≤◌, length, ap, refl, arith, get_or, nat_eq}
use Rattle.std.specs.Prelude.{slice_range}
use Rattle.mark_scan.proofs.Cuts.{after_front}
use Rattle.mark_scan.proofs.Fronts.{byte_within}
use Rattle.mark_scan.proofs.cutting.tag_piece.Goals as goal

pub returns : goal.returns
returns c =
    let at = c.args.places in
    let within : at.last + 1 ≤ length c.args.text.now = omega (arith, byte_within c.args.text.now at.last (omega (arith, c.requires.closes))) in
    record {
      begins = record {
        from = at.from;
        to = at.to;
        last = at.last;
        begins = c.requires;
        is = c.cut_after.ensures.front;
        name = ap (λ (s : List ℕ). slice_range s at.from at.to) c.as_bytes-bytes.ensures.value;
        closing = refl;
        empty = ap (λ (s : List ℕ). nat_eq (get_or s (at.last - 1) 0) 47) c.as_bytes-bytes.ensures.value;
      };
      rest = after_front c.args.text.now c.cut_after.result.0.now c.cut_after.result.1.now (at.last + 1) within c.cut_after.ensures.front c.cut_after.ensures.back;
      piece_utf8 = c.cut_after.ensures.front_utf8;
      rest_utf8 = c.cut_after.ensures.back_utf8;
    }
