use Rattle.std.proofs.Common.{inl, inr, List, ℕ, Option, Some, refl}
use Rattle.chunk_store.specs.Images.{Image, Changes}
use Rattle.chunk_store.specs.CrashModel.{Follows}
use Rattle.chunk_store.proofs.Weaker.{crashes_by, both_by, changes_by, changes_then, goes_on}
use Rattle.chunk_store.proofs.Told.{both_then, told_by}
use Rattle.root_slots.specs.Slots.{Slot}
use Rattle.root_slots.specs.steps.Gates.{ToShut, KeepsShut, ToHeld, SlotReplacing, ToDoubt}
use Rattle.root_slots.proofs.Gates.{replaces_same, replaces_shut, replaces_held, was_replaced, whole, ToWhole, doubts_same, doubts_shut, doubts_new}
use Rattle.root_slots.proofs.replacing.replace_slot.Goals as goal

-- two steps of what may be left now
follows_then : (slot : ℕ) (R S T : Option (List ℕ) → Option (List ℕ) → Type 0) (a b c : Image → Type 0) → ((d e x : Option (List ℕ)) → R d e → S e x → T d x) → Follows (Changes slot R) a b → Follows (Changes slot S) b c → Follows (Changes slot T) a c
follows_then slot R S T a b c step first second x may =
    let e = second x may in
    let d = first e.0 e.1 in
    (d.0, d.1, changes_then slot d.0 e.0 x step d.2 e.2)

pub fill-requires : goal.fill-requires
fill-requires g c = record { shut = told_by _ _ c.in-Ok.ensures.stands.told c.requires.stands (λ x y stands changes. changes.here stands.0 stands.1 stands.2) }

pub returns-in-Err-clause-crash : goal.returns-in-Err-clause-crash
returns-in-Err-clause-crash g c =
    let s : Slot = record { number = c.args.number; state = c.args.bytes.now } in
    crashes_by _ _ _ (λ d x may changes. changes_by c.args.slot d x (λ same. replaces_same c.args.shut.now s (d c.args.slot) (x c.args.slot) same) changes) c.shut_gate.ensures.crash

pub returns-in-Err-fill-clause-crash : goal.returns-in-Err-fill-clause-crash
returns-in-Err-fill-clause-crash g c =
    let slot = c.args.slot in
    let shut = c.args.shut.now in
    let s : Slot = record { number = c.args.number; state = c.args.bytes.now } in
    goes_on g.D.Disk _ _ _ {Q = Changes slot (ToShut shut)} {S = Changes slot KeepsShut} {T = Changes slot (SlotReplacing shut s)}
    (crashes_by g.D.Disk _ _ (λ d x may changes. changes_by slot d x (λ same. replaces_same shut s (d slot) (x slot) same) changes) c.shut_gate.ensures.crash)
    c.in-Ok.ensures.stands.left c.fill.ensures.crash
    (λ d e x md me f h. changes_then slot d e x (replaces_shut shut s) f h)

pub returns-in-Err-open_slot-clause-crash : goal.returns-in-Err-open_slot-clause-crash
returns-in-Err-open_slot-clause-crash g c =
    let slot = c.args.slot in
    let shut = c.args.shut.now in
    let s : Slot = record { number = c.args.number; state = c.args.bytes.now } in
    let first = goes_on g.D.Disk _ _ _ {Q = Changes slot (ToShut shut)} {S = Changes slot KeepsShut} {T = Changes slot (SlotReplacing shut s)}
    (crashes_by g.D.Disk _ _ (λ d x may changes. changes_by slot d x (λ same. replaces_same shut s (d slot) (x slot) same) changes) c.shut_gate.ensures.crash)
    c.in-Ok.ensures.stands.left c.fill.ensures.crash
    (λ d e x md me f h. changes_then slot d e x (replaces_shut shut s) f h) in
    goes_on g.D.Disk _ _ _ {Q = Changes slot (ToWhole shut s)} {S = Changes slot ToHeld} first
    (follows_then slot _ _ _ _ _ _ (whole shut s) c.in-Ok.ensures.stands.left c.in-Ok-fill.ensures.stands.left) c.open_slot.ensures.crash
    (λ d e x md me f h. changes_then slot d e x (replaces_held shut s) f h)

pub returns-in-Ok-open_slot-clause-crash : goal.returns-in-Ok-open_slot-clause-crash
returns-in-Ok-open_slot-clause-crash g c =
    let slot = c.args.slot in
    let shut = c.args.shut.now in
    let s : Slot = record { number = c.args.number; state = c.args.bytes.now } in
    let first = goes_on g.D.Disk _ _ _ {Q = Changes slot (ToShut shut)} {S = Changes slot KeepsShut} {T = Changes slot (SlotReplacing shut s)}
    (crashes_by g.D.Disk _ _ (λ d x may changes. changes_by slot d x (λ same. replaces_same shut s (d slot) (x slot) same) changes) c.shut_gate.ensures.crash)
    c.in-Ok.ensures.stands.left c.fill.ensures.crash
    (λ d e x md me f h. changes_then slot d e x (replaces_shut shut s) f h) in
    goes_on g.D.Disk _ _ _ {Q = Changes slot (ToWhole shut s)} {S = Changes slot ToHeld} first
    (follows_then slot _ _ _ _ _ _ (whole shut s) c.in-Ok.ensures.stands.left c.in-Ok-fill.ensures.stands.left) c.open_slot.ensures.crash
    (λ d e x md me f h. changes_then slot d e x (replaces_held shut s) f h)

pub returns-in-Ok-open_slot-clause-stands : goal.returns-in-Ok-open_slot-clause-stands
returns-in-Ok-open_slot-clause-stands g c =
    let slot = c.args.slot in
    let shut = c.args.shut.now in
    let s : Slot = record { number = c.args.number; state = c.args.bytes.now } in
    record {
      told = both_then {R = Changes slot (ToWhole shut s)} _ _ _ (λ d e x f h. changes_then slot d e x (was_replaced shut s) f h)
          (both_then _ _ _ (λ d e x f h. changes_then slot d e x (whole shut s) f h) c.in-Ok.ensures.stands.told c.in-Ok-fill.ensures.stands.told) c.in-Ok-open_slot.ensures.stands.told;
      left = follows_then slot _ _ _ _ _ _ (was_replaced shut s)
          (follows_then slot _ _ _ _ _ _ (whole shut s) c.in-Ok.ensures.stands.left c.in-Ok-fill.ensures.stands.left) c.in-Ok-open_slot.ensures.stands.left;
    }

pub returns-in-Err-clause-doubt : goal.returns-in-Err-clause-doubt
returns-in-Err-clause-doubt g c = λ doubt.
    let slot = c.args.slot in
    let shut = c.args.shut.now in
    record {
      later = doubt;
      which = inl refl;
      stands = record {
        told = both_by _ _ (λ d x told changes. changes_by slot d x (λ same. doubts_same shut doubt (d slot) (x slot) same) changes) c.in-Err.ensures.told_err;
        left = (crashes_by g.D.Disk _ _ {S = Changes slot (ToDoubt shut shut doubt doubt)} (λ d x may changes. changes_by slot d x (λ same. doubts_same shut doubt (d slot) (x slot) same) changes) c.shut_gate.ensures.crash).now;
      };
    }

pub returns-in-Err-fill-clause-doubt : goal.returns-in-Err-fill-clause-doubt
returns-in-Err-fill-clause-doubt g c = λ doubt.
    let slot = c.args.slot in
    let shut = c.args.shut.now in
    record {
      later = doubt;
      which = inl refl;
      stands = record {
        told = both_then _ _ _ (λ d e x f h. changes_then slot d e x (doubts_shut shut doubt) f h) c.in-Ok.ensures.stands.told c.in-Err-fill.ensures.told_err;
        left = follows_then slot _ _ _ _ _ _ (doubts_shut shut doubt) c.in-Ok.ensures.stands.left c.fill.ensures.crash.now;
      };
    }

pub returns-in-Err-open_slot-clause-doubt : goal.returns-in-Err-open_slot-clause-doubt
returns-in-Err-open_slot-clause-doubt g c = λ doubt.
    let slot = c.args.slot in
    let shut = c.args.shut.now in
    let s : Slot = record { number = c.args.number; state = c.args.bytes.now } in
    record {
      later = Some s;
      which = inr refl;
      stands = record {
        told = both_then {R = Changes slot (ToWhole shut s)} _ _ _ (λ d e x f h. changes_then slot d e x (doubts_new shut s doubt) f h)
            (both_then _ _ _ (λ d e x f h. changes_then slot d e x (whole shut s) f h) c.in-Ok.ensures.stands.told c.in-Ok-fill.ensures.stands.told) c.in-Err-open_slot.ensures.told_err;
        left = follows_then slot _ _ _ _ _ _ (doubts_new shut s doubt)
            (follows_then slot _ _ _ _ _ _ (whole shut s) c.in-Ok.ensures.stands.left c.in-Ok-fill.ensures.stands.left) c.open_slot.ensures.crash.now;
      };
    }
