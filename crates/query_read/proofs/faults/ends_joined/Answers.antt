use Rattle.std.proofs.Common.{inl, inr, sym, ap, ◌∙◌}
use Rattle.query_read.proofs.StopNames.{joins, joined_last, joins_no}
use Rattle.query_read.proofs.faults.ends_joined.Goals as goal

pub returns-in-Sentence : goal.returns-in-Sentence
returns-in-Sentence c =
    elim c.in-Sentence.is [ inl is ↦ sym (ap joins is) | inr is ↦ sym (ap joins is) ] ∙ joined_last c.args.marks.now c.in-Some.mark.now c.in-Some.ensures.value

pub returns-in_default : goal.returns-in_default
returns-in_default c = sym (joins_no c.in-Some.mark.now.sign c.in_default.not-Sentence c.in_default.not-Paragraph) ∙ joined_last c.args.marks.now c.in-Some.mark.now c.in-Some.ensures.value
