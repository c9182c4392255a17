use Rattle.std.proofs.Common.{◌≡◌, ◌∷◌, List, sym, ◌∙◌, ap}
use Rattle.std.specs.Str.{chars}
use Rattle.mark_scan.specs.Markup.{TextPart}
use Rattle.mark_scan.specs.steps.Scanning.{run_from, PartsOf, next_of, then_of}
use Rattle.mark_scan.proofs.Runs.{run_utf8, next_chars, next_of_none, then_of_none}
use Rattle.mark_scan.proofs.sentences.two_next.Goals as goal
use Rattle.mark_scan.proofs.sentences.two_next.Goals.{In-Some}

-- the characters of the run from the next one on
from_next : (c : In-Some) (parts : List TextPart) → (are : PartsOf c.args.after parts) → chars (run_from c.args.rules.now.zones c.args.text.now parts) ≡ c.in-Some.next ∷ chars (run_from c.args.rules.now.zones c.in-Some.beyond.now (c.in-Some.ensures.next parts are).parts)
from_next c parts are =
    let next = c.in-Some.ensures.next parts are in
    next_chars c.args.rules.now.zones _ c.in-Some.next c.in-Some.beyond.now next.parts (run_utf8 c.args.rules.now.zones c.args.text.now c.args.after parts c.utf8.text c.requires.utf8 are) next.run_is

pub returns-in-None-clause-next : goal.returns-in-None-clause-next
returns-in-None-clause-next c = λ parts are. next_of_none _ (c.in-None.ensures.next parts are)

pub returns-in-None-clause-then : goal.returns-in-None-clause-then
returns-in-None-clause-then c = λ parts are. then_of_none _ (c.in-None.ensures.next parts are)

pub returns-in-None-next_char-clause-next : goal.returns-in-None-next_char-clause-next
returns-in-None-next_char-clause-next c = λ parts are. sym (ap next_of (from_next (goal.at.returns-in-None-next_char-clause-next c).In-Some parts are))

pub returns-in-None-next_char-clause-then : goal.returns-in-None-next_char-clause-then
returns-in-None-next_char-clause-then c = λ parts are.
    let next = c.in-Some.ensures.next parts are in
    next_of_none _ (c.in-None-next_char.ensures.next next.parts next.are) ∙ sym (ap then_of (from_next (goal.at.returns-in-None-next_char-clause-then c).In-Some parts are))

pub returns-in-Some-next_char-clause-next : goal.returns-in-Some-next_char-clause-next
returns-in-Some-next_char-clause-next c = λ parts are. sym (ap next_of (from_next (goal.at.returns-in-Some-next_char-clause-next c).In-Some parts are))

pub returns-in-Some-next_char-clause-then : goal.returns-in-Some-next_char-clause-then
returns-in-Some-next_char-clause-then c = λ parts are.
    let zones = c.args.rules.now.zones in
    let first = c.in-Some.ensures.next parts are in
    let then = c.in-Some-next_char.ensures.next first.parts first.are in
    let second = next_chars zones (run_from zones c.in-Some.beyond.now first.parts) c.in-Some-next_char.then _ then.parts (run_utf8 zones c.in-Some.beyond.now c.in-Some.rest first.parts c.in-Some.ensures.utf8 c.in-Some.ensures.readable.utf8 first.are) then.run_is in
    sym (ap then_of (from_next (goal.at.returns-in-Some-next_char-clause-then c).In-Some parts are) ∙ ap next_of second)
