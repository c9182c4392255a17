use Rattle.std.proofs.Common.{◌≡◌, List, ℕ, Ok, subst}
use Rattle.std.proofs.lemmas.Result.{err_from_is_err_and}
use Rattle.byte_fields.specs.Fields.{Fails}
use Rattle.root_slots.specs.Reading.{entries_at, entry_at}
use Rattle.root_slots.proofs.ReadingChunks.{goes_on, ends, is_done}
use Rattle.root_slots.proofs.reading.entries_of.Goals as goal

pub returns-in_err-entry : goal.returns-in_err-entry
returns-in_err-entry c =
    let p = err_from_is_err_and c.from_residual-in_err-entry.result c.from_residual-in_err-entry.ensures.1 in
    let fails : Fails c.in_err-entry.field-0.0 (entry_at c.args.next_file c.loop.before.items c.loop.rest.now) =
    subst (λ (l : List ℕ). Fails c.in_err-entry.field-0.0 (entry_at c.args.next_file l c.loop.rest.now)) c.deref.ensures.value c.in_err-entry.ensures in
    rw (p.1, p.2) (ends c.args.next_file c.in_err-entry.field-0.0 c.loop.chunks.items c.args.count c.loop.counter c.loop.before.items c.loop.rest.now (entries_at c.args.next_file c.args.count c.args.named.now c.args.bytes.now) c.loop-test.true fails c.loop.invariant)

pub loop-preserved : goal.loop-preserved
loop-preserved c =
    let read : entry_at c.args.next_file c.loop.before.items c.loop.rest.now ≡ Ok (c.in_ok-entry.entry, c.in_ok-entry.after.now) =
    subst (λ (l : List ℕ). entry_at c.args.next_file l c.loop.rest.now ≡ Ok (c.in_ok-entry.entry, c.in_ok-entry.after.now)) c.deref.ensures.value c.in_ok-entry.ensures in
    rw (c.in_ok-push.ensures.items, c.in_ok-push-2.ensures.items) (goes_on c.args.next_file c.loop.chunks.items c.args.count c.loop.counter c.loop.before.items c.loop.rest.now c.in_ok-entry.entry c.in_ok-entry.after.now (entries_at c.args.next_file c.args.count c.args.named.now c.args.bytes.now) c.loop-test.true read c.loop.invariant)

pub returns : goal.returns
returns c = is_done c.args.next_file c.loop.chunks.items c.args.count c.loop.counter c.loop.before.items c.loop.rest.now (entries_at c.args.next_file c.args.count c.args.named.now c.args.bytes.now) c.loop-test.false c.loop.invariant
