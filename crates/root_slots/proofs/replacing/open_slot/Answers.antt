use Rattle.std.proofs.Common.{◌≡◌, ◌∷◌, [], List, ℕ}
use Rattle.chunk_store.specs.Images.{Image, Changes, Writes, contents}
use Rattle.chunk_store.proofs.Told.{told_after}
use Rattle.chunk_store.proofs.Weaker.{crashes_by, both_by, changes_by, left_by}
use Rattle.root_slots.specs.steps.Gates.{ToOpened}
use Rattle.root_slots.proofs.Gates.{to_held, to_opened, opened_left, begins_open}
use Rattle.root_slots.proofs.replacing.open_slot.Goals as goal

pub returns-in-Ok-clause-stands : goal.returns-in-Ok-clause-stands
returns-in-Ok-clause-stands g c =
    let slot = c.args.slot in
    let now = told_after {Q = λ (i : Image). (rest : List ℕ) × (contents (i slot) ≡ 1 ∷ rest)} _ _ c.in-Ok.ensures.written (λ (x y : Image) (changes : Changes slot (Writes 0 (1 ∷ [])) x y). begins_open (x slot) (y slot) changes.here) in
    record {
      told = both_by _ _ (λ d x told changes. changes_by slot d x (λ writes. to_opened (d slot) (x slot) writes) changes) c.in-Ok.ensures.written;
      left = left_by slot {Q = ToOpened} (g.D.Disk.told c.args.disk.now) (g.D.Disk.told c.put.new.disk) _ _ (g.met.D.Disk.tells c.put.new.disk) c.in-Ok.ensures.durable c.put.ensures.crash.now
          (λ d i x may told tears same. opened_left (d slot) (i slot) (x slot) (now i told).0 tears (now i told).1 same);
    }

pub returns-in-Ok-clause-crash : goal.returns-in-Ok-clause-crash
returns-in-Ok-clause-crash g c = crashes_by _ _ _ (λ d x may changes. changes_by c.args.slot d x (λ tears. to_held (d c.args.slot) (x c.args.slot) tears) changes) c.put.ensures.crash

pub returns-in-Err-clause-told_err : goal.returns-in-Err-clause-told_err
returns-in-Err-clause-told_err g c = both_by _ _ (λ d x told changes. changes_by c.args.slot d x (λ tears. to_held (d c.args.slot) (x c.args.slot) tears) changes) c.in-Err.ensures.written

pub returns-in-Err-clause-crash : goal.returns-in-Err-clause-crash
returns-in-Err-clause-crash g c = crashes_by _ _ _ (λ d x may changes. changes_by c.args.slot d x (λ tears. to_held (d c.args.slot) (x c.args.slot) tears) changes) c.put.ensures.crash
