use Rattle.std.proofs.Common.{◌≡◌, ◌++◌, List, ℕ, length, rules, ◌∙◌, ap}
use Rattle.std.specs.Int.{w32, to_le_bytes}
use Rattle.root_slots.specs.States.{state_bytes}
use Rattle.root_slots.proofs.Spelling.{is_spelled, sized_by, state_of_sized}
use Rattle.root_slots.proofs.writing.RootBytes.new.Goals as goal

pub invariant_of-result : goal.invariant_of-result
invariant_of-result c =
    let s = c.args.state.now in
    let state = c.put_state.new.out.items in
    let written : state ≡ state_bytes s = c.in_ok-put_state.ensures ∙ ap (λ (l : List ℕ). l ++ state_bytes s) c.new-written.ensures.items in
    let size : c.len.result ≡ length state = search rules in
    let front : c.put_u32.new.out.items ≡ to_le_bytes w32 (length state) =
    c.in_ok-put_u32.ensures.ok ∙ ap (λ (l : List ℕ). l ++ to_le_bytes w32 c.len.result) c.new-bytes.ensures.items ∙ ap (λ (n : ℕ). to_le_bytes w32 n) size in
    let parts : c.extend_from_slice.new.self.items ≡ to_le_bytes w32 (length state) ++ state =
    c.in_ok-extend_from_slice.ensures.items ∙ ap (λ (l : List ℕ). c.put_u32.new.out.items ++ l) c.deref.ensures.value ∙ ap (λ (l : List ℕ). l ++ state) front in
    is_spelled s c.extend_from_slice.new.self.items c.requires (sized_by s state c.extend_from_slice.new.self.items written parts)

pub returns : goal.returns
returns c =
    let s = c.args.state.now in
    let state = c.put_state.new.out.items in
    let written : state ≡ state_bytes s = c.in_ok-put_state.ensures ∙ ap (λ (l : List ℕ). l ++ state_bytes s) c.new-written.ensures.items in
    let size : c.len.result ≡ length state = search rules in
    let front : c.put_u32.new.out.items ≡ to_le_bytes w32 (length state) =
    c.in_ok-put_u32.ensures.ok ∙ ap (λ (l : List ℕ). l ++ to_le_bytes w32 c.len.result) c.new-bytes.ensures.items ∙ ap (λ (n : ℕ). to_le_bytes w32 n) size in
    let parts : c.extend_from_slice.new.self.items ≡ to_le_bytes w32 (length state) ++ state =
    c.in_ok-extend_from_slice.ensures.items ∙ ap (λ (l : List ℕ). c.put_u32.new.out.items ++ l) c.deref.ensures.value ∙ ap (λ (l : List ℕ). l ++ state) front in
    state_of_sized s c.extend_from_slice.new.self.items c.requires (sized_by s state c.extend_from_slice.new.self.items written parts)
