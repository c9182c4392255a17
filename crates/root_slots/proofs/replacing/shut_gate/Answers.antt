use Rattle.std.proofs.Common.{◌∷◌, []}
use Rattle.chunk_store.specs.Images.{Image, Changes, Writes}
use Rattle.chunk_store.proofs.Told.{told_after}
use Rattle.chunk_store.proofs.Weaker.{crashes_by, both_by, both_same, changes_by, changes_same, crashes_same, left_by}
use Rattle.root_slots.specs.Slots.{IsShut}
use Rattle.root_slots.specs.steps.Gates.{ToShut, ToSame}
use Rattle.root_slots.proofs.Gates.{same_shut, shuts, sames, shut_left, written_shut}
use Rattle.root_slots.proofs.replacing.shut_gate.Goals as goal

pub returns-then-shut-clause-stands : goal.returns-then-shut-clause-stands
returns-then-shut-clause-stands g c = record {
  told = both_same (Changes c.args.slot (ToShut c.args.shut)) (g.D.Disk.told c.args.disk.now) (λ x. changes_same c.args.slot (ToShut c.args.shut) x (same_shut c.args.shut (x c.args.slot) c.if-shut.true));
  left = λ x may. (x, may, changes_same c.args.slot (ToShut c.args.shut) x (same_shut c.args.shut (x c.args.slot) c.if-shut.true));
}

pub returns-then-shut-clause-crash : goal.returns-then-shut-clause-crash
returns-then-shut-clause-crash g c = crashes_same g.D.Disk c.args.disk.now (Changes c.args.slot (ToSame c.args.shut)) (λ x. changes_same c.args.slot (ToSame c.args.shut) x (λ bound doubt stays. stays))

pub returns-in-Ok-clause-stands : goal.returns-in-Ok-clause-stands
returns-in-Ok-clause-stands g c =
    let slot = c.args.slot in
    let now = told_after {Q = λ (i : Image). IsShut (i slot)} _ _ c.in-Ok.ensures.written (λ (x y : Image) (changes : Changes slot (Writes 0 (0 ∷ [])) x y). written_shut (x slot) (y slot) changes.here) in
    record {
      told = both_by _ _ (λ d x told changes. changes_by slot d x (λ writes. shuts c.args.shut (d slot) (x slot) c.if-shut.false writes) changes) c.in-Ok.ensures.written;
      left = left_by slot {Q = ToShut c.args.shut} (g.D.Disk.told c.args.disk.now) (g.D.Disk.told c.put.new.disk) _ _ (g.met.D.Disk.tells c.put.new.disk) c.in-Ok.ensures.durable c.put.ensures.crash.now
          (λ d i x may told tears same. shut_left c.args.shut (d slot) (i slot) (x slot) (now i told) same);
    }

pub returns-in-Ok-clause-crash : goal.returns-in-Ok-clause-crash
returns-in-Ok-clause-crash g c = crashes_by _ _ _ (λ d x may changes. changes_by c.args.slot d x (λ tears. sames c.args.shut (d c.args.slot) (x c.args.slot) c.if-shut.false tears) changes) c.put.ensures.crash

pub returns-in-Err-clause-told_err : goal.returns-in-Err-clause-told_err
returns-in-Err-clause-told_err g c = both_by _ _ (λ d x told changes. changes_by c.args.slot d x (λ tears. sames c.args.shut (d c.args.slot) (x c.args.slot) c.if-shut.false tears) changes) c.in-Err.ensures.written

pub returns-in-Err-clause-crash : goal.returns-in-Err-clause-crash
returns-in-Err-clause-crash g c = crashes_by _ _ _ (λ d x may changes. changes_by c.args.slot d x (λ tears. sames c.args.shut (d c.args.slot) (x c.args.slot) c.if-shut.false tears) changes) c.put.ensures.crash
