use Rattle.std.proofs.Common.{arith, ◌≡◌, ◌^◌, ◌-◌, ℕ, List, length, min, take, sym, ◌∙◌, ap}
use Rattle.std.specs.List.{flat_map, sum_by}
use Rattle.std.proofs.Math.Seq.{take-length}
use Rattle.std.proofs.lemmas.List.Concat.{length-flat_map}
use Rattle.query_marks.specs.declared.mark.Mark.{Mark}
use Rattle.query_grammar.specs.Queries.{keys_of}
use Rattle.query_read.proofs.reading.count_keywords.Goals as goal

counted : (count i : ℕ) (marks : List Mark) → i ≡ length marks → count ≡ min (sum_by (λ m. length (keys_of m.sign)) (take i marks)) (2 ^ 64 - 1) → min count 65535 ≡ min (length (flat_map (λ m. keys_of m.sign) marks)) 65535
counted count i marks whole is =
    let all : take i marks ≡ marks = ap (λ n. take n marks) whole ∙ take-length marks in
    let sum : sum_by (λ m. length (keys_of m.sign)) (take i marks) ≡ length (flat_map (λ m. keys_of m.sign) marks) = ap (λ u. sum_by (λ m. length (keys_of m.sign)) u) all ∙ sym (length-flat_map (λ m. keys_of m.sign) marks) in
    omega (arith, is, sum)

pub returns-then-count-lt65535 : goal.returns-then-count-lt65535
returns-then-count-lt65535 c =
    let whole : c.loop-mark.mark-index ≡ length c.args.marks.now = omega arith in
    let same = counted c.loop-mark.count c.loop-mark.mark-index c.args.marks.now whole c.loop-mark.invariant in
    omega (arith, same)

pub returns-else-count-lt65535 : goal.returns-else-count-lt65535
returns-else-count-lt65535 c =
    let whole : c.loop-mark.mark-index ≡ length c.args.marks.now = omega arith in
    let same = counted c.loop-mark.count c.loop-mark.mark-index c.args.marks.now whole c.loop-mark.invariant in
    omega (arith, same)
