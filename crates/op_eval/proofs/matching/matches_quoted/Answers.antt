use Rattle.std.proofs.Common.{◌++◌, length, map, sym, ◌∙◌, ap, inl, inr}
use Rattle.query_tree.specs.declared.key.How.{How}
use Rattle.occ_lists.specs.Runs.{runs}
use Rattle.occ_lists.specs.Windows.{windows}
use Rattle.occ_lists.specs.Terms.{listed_in}
use Rattle.word_rows.specs.Keywords.{Spans}
use Rattle.op_eval.specs.Finding.{is_some, is_enough}
use Rattle.op_eval.specs.steps.Worded.{how_many, quoted_by, term_places}
use Rattle.op_eval.proofs.Appending.{cover_alike, is_some_any, not_empty}
use Rattle.op_eval.proofs.TermPlaces.{quorum_told}
use Rattle.op_eval.proofs.matching.matches_quoted.Goals as goal

pub returns-in_ok-put_runs-in-Phrase-clause-told : goal.returns-in_ok-put_runs-in-Phrase-clause-told
returns-in_ok-put_runs-in-Phrase-clause-told c =
    let spans = c.args.work.now.spans.items in
    let terms = c.args.terms.now in
    not_empty c.is_empty-some.result _ c.put_runs.new.out.items c.put_runs.new.out.ok.0 c.is_empty-some.ensures
    ∙ ap is_some (c.in_ok-put_runs-in-Phrase.ensures
    ∙ ap (λ list. list ++ runs (map (term_places c.deref.result.now) terms)) c.take_occs-found.ensures
    ∙ ap (λ (s : Spans). runs (map (term_places s) terms)) c.deref.ensures.value)
    ∙ sym (ap (λ (h : How). (quoted_by spans terms h).matches) c.in-Phrase.is)

pub returns-in_ok-put_widest-in-Within-clause-told : goal.returns-in_ok-put_widest-in-Within-clause-told
returns-in_ok-put_widest-in-Within-clause-told c =
    let spans = c.args.work.now.spans.items in
    let terms = c.args.terms.now in
    let found = λ (s : Spans). windows c.in-Within.n (listed_in s terms) in
    let cover = c.put_widest.new.out.items in
    not_empty c.is_empty-some-in-Within.result _ cover c.put_widest.new.out.ok.0 c.is_empty-some-in-Within.ensures
    ∙ is_some_any cover
    ∙ (cover_alike c.take_occs-found-in-Within.result.items cover (found c.deref-in-Within.result.now) c.take_occs-found-in-Within.ensures c.in_ok-put_widest-in-Within.ensures).1
    ∙ sym (is_some_any (found c.deref-in-Within.result.now))
    ∙ ap (λ (s : Spans). is_some (found s)) c.deref-in-Within.ensures.value
    ∙ sym (ap (λ (h : How). (quoted_by spans terms h).matches) c.in-Within.is)

pub returns-in-AtLeast-clause-told : goal.returns-in-AtLeast-clause-told
returns-in-AtLeast-clause-told c =
    c.is_enough.ensures
    ∙ ap (is_enough c.args.how (length c.args.terms.now)) (c.standing.ensures ∙ ap (λ (s : Spans). how_many s c.args.terms.now) c.deref-in-AtLeast.ensures.value)
    ∙ sym (quorum_told c.args.work.now.spans.items c.args.terms.now c.args.how (inl (_, c.in-AtLeast.is)))

pub returns-in-Share-clause-told : goal.returns-in-Share-clause-told
returns-in-Share-clause-told c =
    c.is_enough-in-Share.ensures
    ∙ ap (is_enough c.args.how (length c.args.terms.now)) (c.standing-in-Share.ensures ∙ ap (λ (s : Spans). how_many s c.args.terms.now) c.deref-in-Share.ensures.value)
    ∙ sym (quorum_told c.args.work.now.spans.items c.args.terms.now c.args.how (inr (_, _, c.in-Share.is)))
