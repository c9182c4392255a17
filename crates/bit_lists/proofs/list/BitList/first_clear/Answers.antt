use Rattle.std.proofs.Common.{arith, rules, ℕ, ◌≡◌, ◌≤◌, ◌/◌, ◌==◌, ◌∙◌, List, false, sym, ap}
use Rattle.bit_lists.specs.Bits.{bit_in}
use Rattle.bit_lists.proofs.BitsOf.{all_set, at, long, not_one}
use Rattle.bit_lists.proofs.list.BitList.first_clear.Goals as goal

pub bits-init : goal.bits-init
bits-init c =
    let list = c.args.self.now in
    let val : c.as_slice-bytes.result.now ≡ list.bytes.items = search rules in
    let most : c.min-at.result ≤ c.full_bytes.result = search rules in
    let few : c.min-at.result ≤ list.count / 8 = search rules in
    ((λ k h. all_set c.as_slice-bytes.result.now c.full_bytes.result k c.full_bytes.ensures.full (omega (arith, h, most))), omega (arith, few))

pub returns-else-is_bit_set-clause-before : goal.returns-else-is_bit_set-clause-before
returns-else-is_bit_set-clause-before c = λ k h low.
    let list = c.args.self.now in
    let val : c.as_slice-bytes.result.now ≡ list.bytes.items = search rules in
    at list.bytes.items list.count k (omega (arith, low, long list.bytes.items list.count)) ∙ ap (λ (l : List ℕ). bit_in l k) (sym val) ∙ c.bits.invariant.0 k h

pub returns-else-is_bit_set-clause-clear : goal.returns-else-is_bit_set-clause-clear
returns-else-is_bit_set-clause-clear c = λ low.
    let list = c.args.self.now in
    let val : c.as_slice-bytes.result.now ≡ list.bytes.items = search rules in
    let not : (bit_in c.as_slice-bytes.result.now c.bits.at == 1) ≡ false = search rules in
    at list.bytes.items list.count c.bits.at (omega (arith, low, long list.bytes.items list.count)) ∙ ap (λ (l : List ℕ). bit_in l c.bits.at) (sym val) ∙ not_one c.as_slice-bytes.result.now c.bits.at not

pub returns-else-is_bit_set-clause-within : goal.returns-else-is_bit_set-clause-within
returns-else-is_bit_set-clause-within c = omega (arith, c.bits.invariant.1, long c.args.self.now.bytes.items c.args.self.now.count)

pub returns-after-bits-clause-before : goal.returns-after-bits-clause-before
returns-after-bits-clause-before c = λ k h low.
    let list = c.args.self.now in
    let val : c.as_slice-bytes.result.now ≡ list.bytes.items = search rules in
    at list.bytes.items list.count k (omega (arith, low, long list.bytes.items list.count)) ∙ ap (λ (l : List ℕ). bit_in l k) (sym val) ∙ c.bits.invariant.0 k h

pub returns-after-bits-clause-clear : goal.returns-after-bits-clause-clear
returns-after-bits-clause-clear c = λ low. absurd (omega (arith, low, long c.args.self.now.bytes.items c.args.self.now.count, c.bits-test.false))

pub returns-after-bits-clause-within : goal.returns-after-bits-clause-within
returns-after-bits-clause-within c = omega (arith, c.bits.invariant.1, long c.args.self.now.bytes.items c.args.self.now.count)
