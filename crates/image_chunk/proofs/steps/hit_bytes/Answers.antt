use Rattle.std.proofs.Common.{◌≡◌, ◌∙◌, ◌+◌, ◌≤◌, ◌<◌, ◌^◌, ◌∷◌, List, ℕ, length, drop, take, sym, ap, arith}
use Rattle.std.proofs.lemmas.List.{take_at}
use Rattle.posting_codec.specs.HitLists.{hit_list}
use Rattle.posting_codec.specs.Numbers.{IsNumberAt, number}
use Rattle.image_chunk.specs.Places.{Entry, Here}
use Rattle.image_chunk.proofs.Stepping.{Passed, passed}
use Rattle.image_chunk.proofs.steps.hit_bytes.Goals as goal

-- the number before a hit list tells where it begins and ends
module _ (list : List ℕ) (at index long start : ℕ) (small : length list < 2 ^ 31)
    (read : (n : ℕ) (rest : List ℕ) → IsNumberAt list at n rest → (long ≡ n) × (start ≡ at + length (number n)))
    (entry : Entry) (entries : List Entry) (here : Here list at index (entry ∷ entries)) where
  ends : Passed list at entry entries
  ends = passed list at index entry entries small here

  pub within : start + long ≤ length list
  within = let its = read (length (hit_list entry.1)) _ ends.sized in omega (arith, its.0, its.1, ends.within)

  pub bytes : (size : ℕ) → size ≡ long → take size (drop start list) ≡ hit_list entry.1
  bytes size same =
      let its = read (length (hit_list entry.1)) _ ends.sized in
      ap (take size) (ends.hits start its.1) ∙ take_at (hit_list entry.1) _ size (sym its.0 ∙ sym same)

pub number_at-long-requires : goal.number_at-long-requires
number_at-long-requires c =
    let h = c.requires.here in
    (_, _, (passed c.args.list.now c.args.at c.args.index h.0 h.1 c.requires.small h.2).sized)

pub overflow_add-result : goal.overflow_add-result
overflow_add-result c =
    let h = c.requires.here in
    omega (arith, c.requires.small, within c.args.list.now c.args.at c.args.index c.number_at-long.result.0 c.number_at-long.result.1 c.requires.small c.number_at-long.ensures h.0 h.1 h.2)

pub slice_bounds-result-end : goal.slice_bounds-result-end
slice_bounds-result-end c =
    let h = c.requires.here in
    omega (arith, within c.args.list.now c.args.at c.args.index c.number_at-long.result.0 c.number_at-long.result.1 c.requires.small c.number_at-long.ensures h.0 h.1 h.2)

pub returns : goal.returns
returns c = λ entry entries here.
    bytes c.args.list.now c.args.at c.args.index c.number_at-long.result.0 c.number_at-long.result.1 c.requires.small c.number_at-long.ensures entry entries here _ (omega arith)
