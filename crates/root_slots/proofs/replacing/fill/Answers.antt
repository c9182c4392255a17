use Rattle.std.proofs.Common.{◌≤◌, List, ℕ, ap, length, subst, arith}
use Rattle.chunk_store.specs.Images.{Image, Changes, Writes, Both}
use Rattle.chunk_store.specs.CrashModel.{Tears}
use Rattle.chunk_store.proofs.Weaker.{crashes_by, crashes_of, both_by, changes_by, changes_then, goes_on, left_by}
use Rattle.chunk_store.proofs.Told.{both_then, told_by}
use Rattle.root_slots.specs.Slots.{Slot, IsSlot}
use Rattle.root_slots.specs.steps.Gates.{IsFilled, KeepsShut, ToFilled}
use Rattle.root_slots.proofs.Gates.{shut_torn, shut_written, nine, to_filled, filled_left}
use Rattle.root_slots.proofs.replacing.fill.Goals as goal

torn_keeps : (slot at n : ℕ) (d x : Image) → 1 ≤ at → Changes slot (Tears at n) d x → Changes slot KeepsShut d x
torn_keeps slot at n d x low changes = changes_by slot d x (λ tears shut. shut_torn at n (d slot) (x slot) low tears shut) changes

both_keep : (slot : ℕ) (d e x : Image) → Changes slot KeepsShut d e → Changes slot KeepsShut e x → Changes slot KeepsShut d x
both_keep slot d e x first second = changes_then slot d e x (λ a b c f h s. h (f s)) first second

pub returns-in-Ok-put-clause-crash : goal.returns-in-Ok-put-clause-crash
returns-in-Ok-put-clause-crash g c =
    let slot = c.args.slot in
    let first = crashes_by g.D.Disk _ _ {S = Changes slot KeepsShut} (λ d x may changes. torn_keeps slot 1 _ d x (omega arith) changes) (crashes_of g.D.Disk _ _ c.write.ensures.crash) in
    goes_on g.D.Disk _ _ _ {Q = Changes slot KeepsShut} {S = Changes slot KeepsShut} first first.now (crashes_by g.D.Disk _ _ (λ d x may changes. torn_keeps slot 9 _ d x (omega arith) changes) c.put.ensures.crash) (λ d e x md me f s. both_keep slot d e x f s)

pub returns-in-Ok-put-clause-stands : goal.returns-in-Ok-put-clause-stands
returns-in-Ok-put-clause-stands g c =
    let slot = c.args.slot in
    let s : Slot = record { number = c.args.number; state = c.args.bytes.now } in
    let fits : IsSlot s = record { number = omega arith; state = c.as_bytes.ensures.state } in
    let told : Both (Changes slot (ToFilled s)) (g.D.Disk.told c.args.disk.now) (g.D.Disk.told c.put.new.disk) =
    both_then _ _ _ (λ d e x first second. changes_then slot d e x (λ a b z f h. to_filled s fits c.as_bytes.result.now c.as_bytes.ensures.bytes a b z (subst (λ (l : List ℕ). Writes 1 l a b) c.to_le_bytes.ensures f) h) first second) c.in-Ok.ensures.written c.in-Ok-put.ensures.written in
    let now = told_by {Q = λ (i : Image). IsFilled s (i slot)} _ _ told c.requires.shut (λ x y shut changes. changes.here shut) in
    record {
      told = told;
      left = left_by slot {Q = ToFilled s} (g.D.Disk.told c.args.disk.now) (g.D.Disk.told c.put.new.disk) _ _ (g.met.D.Disk.tells c.put.new.disk) c.in-Ok-put.ensures.durable (returns-in-Ok-put-clause-crash g c).now
          (λ d i x may told keeps same. filled_left s (d slot) (i slot) (x slot) (now i told) same);
    }

pub returns-in-Err-put-clause-told_err : goal.returns-in-Err-put-clause-told_err
returns-in-Err-put-clause-told_err g c =
    let slot = c.args.slot in
    both_then _ _ _ (λ d e x w t. both_keep slot d e x (changes_by slot d e (λ writes shut. shut_written _ (d slot) (e slot) writes shut) w) (torn_keeps slot 9 _ e x (omega arith) t)) c.in-Ok.ensures.written c.in-Err-put.ensures.written

pub returns-in-Err-put-clause-crash : goal.returns-in-Err-put-clause-crash
returns-in-Err-put-clause-crash g c =
    let slot = c.args.slot in
    let first = crashes_by g.D.Disk _ _ {S = Changes slot KeepsShut} (λ d x may changes. torn_keeps slot 1 _ d x (omega arith) changes) (crashes_of g.D.Disk _ _ c.write.ensures.crash) in
    goes_on g.D.Disk _ _ _ {Q = Changes slot KeepsShut} {S = Changes slot KeepsShut} first first.now (crashes_by g.D.Disk _ _ (λ d x may changes. torn_keeps slot 9 _ d x (omega arith) changes) c.put.ensures.crash) (λ d e x md me f s. both_keep slot d e x f s)

pub returns-in-Err-clause-told_err : goal.returns-in-Err-clause-told_err
returns-in-Err-clause-told_err g c = both_by _ _ (λ d x told changes. torn_keeps c.args.slot 1 _ d x (omega arith) changes) c.in-Err.ensures.written

pub returns-in-Err-clause-crash : goal.returns-in-Err-clause-crash
returns-in-Err-clause-crash g c =
    crashes_by _ _ _ (λ d x may changes. torn_keeps c.args.slot 1 _ d x (omega arith) changes) (crashes_of g.D.Disk _ _ c.write.ensures.crash)

pub write-requires : goal.write-requires
write-requires g c = record { inside = λ image told. let s = c.requires.shut image told in omega (arith, ap length s.is) }

pub put-requires : goal.put-requires
put-requires g c =
    let slot = c.args.slot in
    record { inside = told_by _ _ c.in-Ok.ensures.written c.requires.shut (λ x y shut changes. nine c.args.number (x slot) (y slot) (subst (λ (l : List ℕ). Writes 1 l (x slot) (y slot)) c.to_le_bytes.ensures changes.here) shut) }
