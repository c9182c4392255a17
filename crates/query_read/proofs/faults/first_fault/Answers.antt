use Rattle.std.proofs.Common.{ℕ, Option, subst}
use Rattle.query_read.specs.steps.Choice.{IsReadUpTo, IsFirstWithin}
use Rattle.query_read.proofs.FirstFaults.{are_read, found_within, found_stop, found_none, stop_after, stop_within}
use Rattle.query_read.proofs.faults.first_fault.Goals as goal

pub first_within-requires : goal.first_within-requires
first_within-requires c = are_read c.args.marks.now c.read_part-read.result.now c.args.stop c.requires.orderly c.read_part-read.ensures

pub returns-in-Some : goal.returns-in-Some
returns-in-Some c =
    found_within c.args.marks.now c.read_part-read.result.now c.args.stop c.in-Some.fault c.requires.orderly c.read_part-read.ensures (subst (IsFirstWithin c.read_part-read.result.now) c.in-Some.is c.in_ok-within.ensures)

pub bounds-marks-read : goal.bounds-marks-read
bounds-marks-read c = stop_within c.args.marks.now c.read_part-read.result.now c.args.stop c.in-Some-stop.place c.in-Some-stop.is c.read_part-read.ensures

pub stop_kind-kind-requires : goal.stop_kind-kind-requires
stop_kind-kind-requires c =
    let (stops, at) = stop_after c.args.marks.now c.read_part-read.result.now c.args.stop c.in-Some-stop.place c.index-marks-read.result c.in-Some-stop.is c.read_part-read.ensures c.index-marks-read.is in
    (c.args.marks.now, stops, c.requires.orderly.ended)

pub returns-in-Some-stop : goal.returns-in-Some-stop
returns-in-Some-stop c =
    let (stops, at) = stop_after c.args.marks.now c.read_part-read.result.now c.args.stop c.in-Some-stop.place c.index-marks-read.result c.in-Some-stop.is c.read_part-read.ensures c.index-marks-read.is in
    found_stop c.args.marks.now c.read_part-read.result.now c.in-Some-stop.place c.index-marks-read.result c.stop_kind-kind.result c.nameless.result stops at c.stop_kind-kind.ensures (subst (IsFirstWithin c.read_part-read.result.now) c.in-None.is c.in_ok-within.ensures) c.nameless.ensures

pub returns-in-None-stop : goal.returns-in-None-stop
returns-in-None-stop c =
    found_none c.args.marks.now c.read_part-read.result.now (subst (λ (o : Option ℕ). IsReadUpTo c.args.marks.now o c.read_part-read.result.now) c.in-None-stop.is c.read_part-read.ensures) (subst (IsFirstWithin c.read_part-read.result.now) c.in-None.is c.in_ok-within.ensures)
