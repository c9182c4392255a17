use Rattle.std.proofs.Common.{◌≡◌, ◌∙◌, Err, Some, false, ap, subst}
use Rattle.std.specs.Prelude.{IfOk, OnOk}
use Rattle.srch_base.specs.declared.faults.Or.{Or}
use Rattle.doc_types.specs.Snapshots.{all_living}
use Rattle.reply_rows.specs.ResultSets.{sets_payloads}
use Rattle.reply_rows.specs.Written.{then_reply}
use Rattle.table_search.specs.Tables.{TablesOr}
use Rattle.table_search.specs.declared.asked.Asked.{Asked}
use Rattle.table_search.specs.declared.found.Unfound.{Unfound}
use Rattle.ql_answers.specs.Metas.{meta_of}
use Rattle.ql_answers.specs.Reading.{found_sets}
use Rattle.ql_answers.specs.steps.Answering.{refusal_of}
use Rattle.ql_answers.proofs.SaidBy.{says_found, says_unfound}
use Rattle.ql_answers.proofs.saying.say_search.Goals as goal

pub returns-in-Ok-clause-says : goal.returns-in-Ok-clause-says
returns-in-Ok-clause-says g c =
    let selection = c.args.selection.now in
    let front = c.args.snapshot.now in
    let docs = all_living front.layers in
    let at = c.in-Ok in
    let before = c.args.replies.now in
    let after = c.say_found.new.replies in
    let status = c.args.status in
    let told = subst (λ (asked : Asked). IfOk c.say_found.result (λ told. told ≡ Some (meta_of asked at.found docs))) at.ensures.stays c.say_found.ensures.told in
    let ok = subst (λ (asked : Asked). OnOk c.say_found.result (after ≡ then_reply before (sets_payloads status (found_sets (record selection { asked = asked }) at.found)) false)) at.ensures.stays c.say_found.ensures.ok in
    λ index. says_found index selection front at.found status before after c.say_found.result at.ensures.found told ok c.say_found.ensures.err

pub returns-in-Err-Fault-clause-says : goal.returns-in-Err-Fault-clause-says
returns-in-Err-Fault-clause-says g c =
    let at = c.in-Err-Fault in
    let selection = c.args.selection.now in
    let front = c.args.snapshot.now in
    λ index. says_unfound index selection front at.unfound c.unfound_refusal.result c.args.status c.args.replies.now c.put_refusal.new.replies
    (subst (λ (end : Or Unfound). TablesOr selection.asked (all_living front.layers) (Err end)) at.field-0-is at.ensures.found)
    (c.unfound_refusal.ensures ∙ ap refusal_of at.unfound-is) c.put_refusal.ensures
