use Rattle.std.proofs.Common.{◌≡◌, ℕ, List, take, drop, ◌∙◌, ap}
use Rattle.std.proofs.Math.Seq.{take-add}
use Rattle.srch_base.specs.Memory.{Lines}
use Rattle.program_host.specs.HostMemory.{HostMemory}
use Rattle.program_host.proofs.memory_host.MemoryHostHost.doors.Goals as goal

pub returns-clause-gives_doors : goal.returns-clause-gives_doors
returns-clause-gives_doors c =
    let front : HostMemory → List Lines = λ h. take c.args.n (drop h.at h.doors) in
    let same_at : c.self-2.inside.at ≡ c.args.self.now.at = ap (λ (h : HostMemory). h.at) (c.self-2.view_is ∙ c.next_fails.ensures.count) ∙ ap (λ (h : HostMemory). h.at) c.keep_door_request.ensures.rest in
    let same_doors : c.self-2.inside.doors.items ≡ c.args.self.now.doors = ap (λ (h : HostMemory). h.doors) (c.self-2.view_is ∙ c.next_fails.ensures.count) ∙ ap (λ (h : HostMemory). h.doors) c.keep_door_request.ensures.rest in
    let items : c.in_ok-given.given.items ≡ front c.args.self.now = c.in_ok-given.ensures.copies ∙ ap front c.next_fails.ensures.count ∙ ap front c.keep_door_request.ensures.rest in
    rw (same_at, same_doors, items) (take-add c.args.self.now.at c.args.n c.args.self.now.doors)
