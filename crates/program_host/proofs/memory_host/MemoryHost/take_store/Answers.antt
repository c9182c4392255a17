use Rattle.std.proofs.Common.{rules, ◌≡◌, ◌∙◌, ◌<◌, ℕ, List, All, ap, arith, get_or, length, sym, subst}
use Rattle.std.specs.Prelude.{Some}
use Rattle.chunk_store.specs.declared.memory_disk.MemoryDisk.{MemoryDisk}
use Rattle.program_host.specs.HostMemory.{HostMemory}
use Rattle.chunk_store.specs.contracts.memory_disk.MemoryDiskDisk.TheImpl as memory_words
use Rattle.store_keep.specs.Opens.{HidesNothing}
use Rattle.program_host.proofs.StorePlaces.{left_have, taken_at, taken_none}
use Rattle.program_host.proofs.memory_host.MemoryHost.take_store.Goals as goal

pub returns-in-Some-clause-taken : goal.returns-in-Some-clause-taken
returns-in-Some-clause-taken c =
    let stores : c.self.inside.stores.items ≡ c.args.self.now.stores = ap (λ (h : HostMemory). h.stores) c.self.view_is in
    ap (λ (store : List ℕ × MemoryDisk). Some store.1) (c.remove-path.ensures.value ∙ ap (λ (list : List (List ℕ × MemoryDisk)). get_or list c.in-Some.place c.remove-path.result) stores)
    ∙ sym (taken_at c.args.self.now.stores c.args.path.now c.in-Some.place c.remove-path.result (sym c.in-Some.ensures.place))

pub returns-in-None-clause-taken : goal.returns-in-None-clause-taken
returns-in-None-clause-taken c = sym (taken_none c.args.self.now.stores c.args.path.now (sym c.in-None.ensures.place))

abbrev Hides : List ℕ × MemoryDisk → Type 0
Hides store = HidesNothing memory_words.ghosts store.1

pub invariant_of-self : goal.invariant_of-self
invariant_of-self c =
    let all : All Hides c.remove-path.new.self.items = subst (All Hides) (sym c.remove-path.ensures.items) (left_have Hides c.self.inside.stores.items c.in-Some.place c.self.invariant.4) in
    (c.self.invariant.0, c.self.invariant.1, omega (arith, c.self.invariant.2, c.remove-path.ensures.len, ap length c.push_reserved.ensures.items), search rules, all)

pub returns-in-Some-clause-hides : goal.returns-in-Some-clause-hides
returns-in-Some-clause-hides c =
    let within : c.in-Some.place < length c.self.inside.stores.items = search rules in
    subst Hides (sym c.remove-path.ensures.value) (c.self.invariant.4 c.in-Some.place c.remove-path.result within)
