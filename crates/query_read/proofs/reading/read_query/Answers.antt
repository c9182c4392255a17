use Rattle.std.proofs.Common.{◌≡◌, ℕ, length, min, Err, true, false, Option, Some, None, sym, ◌∙◌, ap, subst}
use Rattle.std.specs.List.{flat_map}
use Rattle.srch_base.specs.declared.faults.Or.{Or}
use Rattle.charset_map.specs.Spans.{folded}
use Rattle.query_marks.specs.declared.mark.Mark.{Mark}
use Rattle.query_marks.specs.Marks.{setting_of}
use Rattle.token_grammar.specs.Reading.{IsNextOf}
use Rattle.query_grammar.specs.declared.class.Class.TheVariants as classes
use Rattle.query_grammar.specs.declared.fault.QueryFault.{QueryFault}
use Rattle.query_grammar.specs.Grammar.{IsQuery}
use Rattle.query_grammar.specs.QueryFaults.{Any}
use Rattle.query_grammar.specs.Queries.{keys_of}
use Rattle.query_grammar.specs.steps.Answers.{StopsAt, ReadsWhole, IsFound}
use Rattle.query_grammar.specs.steps.Classes.{is_ended}
use Rattle.query_grammar.specs.steps.MarkAlphabet.{query_marks}
use Rattle.query_grammar.specs.steps.MarkFacts.{AreOrderly}
use Rattle.query_read.proofs.AnswerSteps.{named, none_found, given_orderly, empty_answer, refused_answer, query_answer}
use Rattle.query_read.proofs.reading.read_query.Goals as goal

pub new-input-requires : goal.new-input-requires
new-input-requires c = subst (λ l. is_ended l ≡ true) (sym c.as_slice.ensures.value) (given_orderly (setting_of (folded c.args.charset.now) c.args.schema.now) c.args.text.now c.in_ok-marks.marks.items c.utf8.text c.in_ok-marks.ensures).ended

pub returns-then-is_next : goal.returns-then-is_next
returns-then-is_next c =
    let next : IsNextOf query_marks classes.End c.in_ok-marks.marks.items true = subst (λ l. IsNextOf query_marks classes.End l true) (c.new-input.ensures ∙ c.as_slice.ensures.value) c.if-is_next.ensures in
    empty_answer (setting_of (folded c.args.charset.now) c.args.schema.now) c.args.text.now c.in_ok-marks.marks.items c.in_ok-marks.ensures (given_orderly (setting_of (folded c.args.charset.now) c.args.schema.now) c.args.text.now c.in_ok-marks.marks.items c.utf8.text c.in_ok-marks.ensures).ended next

pub first_fault-requires-clause-orderly : goal.first_fault-requires-clause-orderly
first_fault-requires-clause-orderly c = subst (λ l. AreOrderly l) (sym c.as_slice-2.ensures.value) (given_orderly (setting_of (folded c.args.charset.now) c.args.schema.now) c.args.text.now c.in_ok-marks.marks.items c.utf8.text c.in_ok-marks.ensures)

pub first_fault-requires-clause-stops : goal.first_fault-requires-clause-stops
first_fault-requires-clause-stops c = subst (λ l. StopsAt l c.recognize-stop.result) (c.new-input.ensures ∙ c.as_slice.ensures.value ∙ sym c.as_slice-2.ensures.value) c.recognize-stop.ensures

pub returns-in-Some : goal.returns-in-Some
returns-in-Some c =
    let other : IsNextOf query_marks classes.End c.in_ok-marks.marks.items false = subst (λ l. IsNextOf query_marks classes.End l false) (c.new-input.ensures ∙ c.as_slice.ensures.value) c.if-is_next.ensures in
    let found : IsFound c.in_ok-marks.marks.items (Some c.in-Some.fault) = subst (λ l. IsFound l (Some c.in-Some.fault)) c.as_slice-2.ensures.value (subst (λ (o : Option QueryFault). IsFound c.as_slice-2.result.now o) c.in-Some.is c.in_ok-fault.ensures) in
    refused_answer (setting_of (folded c.args.charset.now) c.args.schema.now) c.args.text.now c.in_ok-marks.marks.items c.in-Some.fault c.utf8.text c.in_ok-marks.ensures other found

pub returns-in-Ok : goal.returns-in-Ok
returns-in-Ok c =
    let query : IsQuery Any 32 c.in-Ok.root c.in_ok-marks.marks.items = subst (λ l. IsQuery Any 32 c.in-Ok.root l) (c.new.ensures ∙ c.as_slice-3.ensures.value) c.in-Ok.ensures in
    let none : IsFound c.in_ok-marks.marks.items None = subst (λ l. IsFound l None) c.as_slice-2.ensures.value (none_found c.in_ok-fault.field-0 (λ fault is. c.in_default.not-Some fault is) c.in_ok-fault.ensures) in
    let counted = c.count_keywords-keywords.ensures ∙ ap (λ l. min (length (flat_map (λ (m : Mark). keys_of m.sign) l)) 65535) c.as_slice-in-Ok.ensures.value in
    query_answer (setting_of (folded c.args.charset.now) c.args.schema.now) c.args.text.now c.in_ok-marks.marks.items c.in-Ok.root c.count_keywords-keywords.result c.utf8.text c.in_ok-marks.ensures query none counted

pub unreachable-requires : goal.unreachable-requires
unreachable-requires c =
    let reads : StopsAt c.new.result (Some c.in-Err-Fault.field-0-0) = subst (λ (e : Or ℕ). ReadsWhole c.new.result (Err e)) c.in-Err-Fault.field-0-is c.in-Err-Fault.ensures in
    let stops : StopsAt c.in_ok-marks.marks.items (Some c.in-Err-Fault.field-0-0) = subst (λ l. StopsAt l (Some c.in-Err-Fault.field-0-0)) (c.new.ensures ∙ c.as_slice-3.ensures.value) reads in
    let none : IsFound c.in_ok-marks.marks.items None = subst (λ l. IsFound l None) c.as_slice-2.ensures.value (none_found c.in_ok-fault.field-0 (λ fault is. c.in_default.not-Some fault is) c.in_ok-fault.ensures) in
    let (told, is) = named stops.2 (given_orderly (setting_of (folded c.args.charset.now) c.args.schema.now) c.args.text.now c.in_ok-marks.marks.items c.utf8.text c.in_ok-marks.ensures).ended in
    none told is
