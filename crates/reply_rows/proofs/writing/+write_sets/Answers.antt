use Rattle.std.proofs.Common.{◌≡◌, ◌<◌, ℕ, List, ◌∷◌, Ok, ap, arith, map, subst, sym}
use Rattle.reply_rows.specs.ResultSets.{set_payloads, sets_payloads, status_before}
use Rattle.reply_rows.specs.steps.Appending.{Appends}
use Rattle.reply_rows.proofs.Following.{own_is}
use Rattle.reply_rows.proofs.Numbering.{Appends-then}
use Rattle.reply_rows.proofs.writing.+write_sets.Goals as goal

pub returns-in_ok-next-in-Some-clause-appends : goal.returns-in_ok-next-in-Some-clause-appends
returns-in_ok-next-in-Some-clause-appends g t c =
    let set = g.T.Table.set in
    let rest = c.in-Some.rest.now in
    let one = set c.in-Some.table.now in
    let seq : ℕ = c.args.seq in
    let small : seq < 256 = omega (arith, c.ranges.seq.fits) in
    let own : c.own_status-own.result ≡ status_before (map set rest) c.args.status = own_is set rest c.args.status c.own_status-own.result c.is_empty.result c.is_empty.ensures c.own_status-own.ensures in
    let first : Appends {E = Unit {0}} (Ok c.in_ok-next-in-Some.next) seq (set_payloads (status_before (map set rest) c.args.status) one) c.args.out.now.items c.write_set.new.out.items =
    subst (λ (status : ℕ). Appends {E = Unit {0}} (Ok c.in_ok-next-in-Some.next) seq (set_payloads status one) c.args.out.now.items c.write_set.new.out.items) own c.in_ok-next-in-Some.ensures.appends in
    subst (λ tables. Appends c.write_sets.result seq (sets_payloads c.args.status (map set tables)) c.args.out.now.items c.write_sets.new.out.items) (sym c.in-Some.ensures.cases.0)
    (Appends-then c.write_sets.result seq c.in_ok-next-in-Some.next (set_payloads (status_before (map set rest) c.args.status) one) (sets_payloads c.args.status (map set rest)) c.args.out.now.items c.write_set.new.out.items c.write_sets.new.out.items
    small first.0 first.1 c.write_sets.ensures.appends)
