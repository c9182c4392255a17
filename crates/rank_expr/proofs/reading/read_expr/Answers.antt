use Rattle.std.proofs.Common.{◌∙◌, ℕ, List, arith, inr, sym, subst}
use Rattle.std.specs.Prelude.{Err}
use Rattle.srch_base.specs.declared.faults.Or.{Or}
use Rattle.token_grammar.specs.Values.{IsStop}
use Rattle.rank_expr.specs.declared.mark.Mark.{Mark}
use Rattle.rank_expr.specs.Grammar.{IsText}
use Rattle.rank_expr.specs.steps.Joining.{ReadsWhole}
use Rattle.rank_expr.proofs.MarkPlaces.{place_within}
use Rattle.rank_expr.proofs.reading.read_expr.Goals as goal

pub fault_at-requires-clause-place : goal.fault_at-requires-clause-place
fault_at-requires-clause-place c =
    let (stop, stops, at) = subst (λ (e : Or ℕ). ReadsWhole c.new-input.result (Err e)) c.in-Err-Fault.field-0-is c.in-Err-Fault.ensures in
    omega (arith, at, place_within c.args.schema.now c.args.text.now stops.front stop stops.rest (sym c.new-input.ensures ∙ stops.is))

pub returns-in_ok-fault_at-in-Err-Fault : goal.returns-in_ok-fault_at-in-Err-Fault
returns-in_ok-fault_at-in-Err-Fault c =
    let (stop, stops, at) = subst (λ (e : Or ℕ). ReadsWhole c.new-input.result (Err e)) c.in-Err-Fault.field-0-is c.in-Err-Fault.ensures in
    let stopped : IsStop IsText _ stop = subst (λ (u : List Mark). IsStop IsText u stop) c.new-input.ensures stops in
    inr (omega arith, stop, stopped, c.in_ok-fault_at-in-Err-Fault.ensures stops.front stops.rest stop (sym c.new-input.ensures ∙ stops.is) (sym at))
