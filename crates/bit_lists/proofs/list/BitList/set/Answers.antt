use Rattle.std.proofs.Common.{arith, rules, ℕ, List, ap, ◌∙◌, ◌≡◌, ◌<◌, ◌++◌, length, take, drop}
use Rattle.bit_lists.specs.Bits.{bit_in}
use Rattle.bit_lists.proofs.BitsOf.{long, rebuilt, with_one}
use Rattle.bit_lists.proofs.list.BitList.set.Goals as goal

pub set_bit-requires : goal.set_bit-requires
set_bit-requires c = omega (arith, c.requires, long c.args.self.now.bytes.items c.args.self.now.count, c.args.self.now.room, c.as_mut_slice.ensures.len)

pub invariant_of-self : goal.invariant_of-self
invariant_of-self c =
    let old = c.args.self.now.bytes in
    let same : take old.len (c.set_bit.new.bytes ++ drop (length c.set_bit.new.bytes) old.items) ≡ c.set_bit.new.bytes = rebuilt old.items c.set_bit.new.bytes old.len (search rules) (search rules) in
    let val : c.as_mut_slice.result.now ≡ old.items = search rules in
    record {
      room = c.args.self.now.room;
      clear = λ k h. ap (λ (l : List ℕ). bit_in l k) same ∙ c.set_bit.ensures.others k (λ e. omega (arith, e, h, c.requires, long old.items c.args.self.now.count)) ∙ ap (λ (l : List ℕ). bit_in l k) val ∙ c.args.self.now.clear k h;
    }

pub returns : goal.returns
returns c =
    let old = c.args.self.now.bytes in
    let same : take old.len (c.set_bit.new.bytes ++ drop (length c.set_bit.new.bytes) old.items) ≡ c.set_bit.new.bytes = rebuilt old.items c.set_bit.new.bytes old.len (search rules) (search rules) in
    let val : c.as_mut_slice.result.now ≡ old.items = search rules in
    let low : c.args.at < c.args.self.now.count = omega (arith, c.requires, long old.items c.args.self.now.count) in
    with_one old.items (take old.len (c.set_bit.new.bytes ++ drop (length c.set_bit.new.bytes) old.items)) c.args.self.now.count c.args.at low
    (ap (λ (l : List ℕ). bit_in l c.args.at) same ∙ c.set_bit.ensures.own)
    (λ j other. ap (λ (l : List ℕ). bit_in l j) same ∙ c.set_bit.ensures.others j other ∙ ap (λ (l : List ℕ). bit_in l j) val)
