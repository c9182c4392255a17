use Rattle.std.proofs.Common.{◌≡◌, ◌++◌, ◌∙◌, ap, subst, sym}
use Rattle.std.specs.List.{filter, flat_map}
use Rattle.occ_lists.specs.OccLists.{SameMembers}
use Rattle.occ_lists.specs.Windows.{windows}
use Rattle.occ_lists.specs.Terms.{listed_in, CoverAlike}
use Rattle.occ_lists.proofs.Members.{same_is, same_trans}
use Rattle.word_rows.specs.Keywords.{Spans}
use Rattle.op_eval.specs.Finding.{is_inside}
use Rattle.word_rows.specs.Terms.{AreShort}
use Rattle.op_eval.specs.steps.Worded.{term_hits}
use Rattle.op_eval.proofs.Appending.{cover_alike, empty_same, made_found, made_none}
use Rattle.op_eval.proofs.quoting.find_proximity.Goals as goal

pub returns-then-is_empty-clause-found : goal.returns-then-is_empty-clause-found
returns-then-is_empty-clause-found c =
    let terms = c.args.terms.now in
    let found = λ (spans : Spans). windows c.args.n (listed_in spans terms) in
    let spans = c.args.work.now.spans.items in
    let added = c.put_windows.new.out.items in
    let same : SameMembers added (found spans) =
    same_trans added (c.take_occs-windows.result.items ++ found c.deref.result.now) (found spans) c.in_ok-put_windows.ensures.windows
    (same_is (c.take_occs-windows.result.items ++ found c.deref.result.now) (found spans) (ap (λ list. list ++ found c.deref.result.now) c.take_occs-windows.ensures ∙ ap found c.deref.ensures.value)) in
    made_none (found spans) (flat_map (term_hits spans) terms) c.args.out.now (empty_same _ added (found spans) c.put_windows.new.out.ok.0 (sym c.is_empty.ensures ∙ c.if-is_empty.true) same)

pub returns-clause-found : goal.returns-clause-found
returns-clause-found c =
    let terms = c.args.terms.now in
    let found = λ (spans : Spans). windows c.args.n (listed_in spans terms) in
    let spans = c.args.work.now.spans.items in
    let added = c.put_windows.new.out.items in
    let cover = c.put_windows.new.longest.items in
    let hits : AreShort terms → c.put_hits.new.hits.items ≡ flat_map (term_hits spans) terms = λ short.
    c.in_ok-put_hits.ensures short ∙ ap (λ list. list ++ flat_map (term_hits c.deref-3.result.now) terms) c.take_hits-hits.ensures ∙ ap (λ (s : Spans). flat_map (term_hits s) terms) c.deref-3.ensures.value in
    let same : SameMembers added (found spans) =
    same_trans added (c.take_occs-windows.result.items ++ found c.deref.result.now) (found spans) c.in_ok-put_windows.ensures.windows
    (same_is (c.take_occs-windows.result.items ++ found c.deref.result.now) (found spans) (ap (λ list. list ++ found c.deref.result.now) c.take_occs-windows.ensures ∙ ap found c.deref.ensures.value)) in
    let alike = cover_alike c.take_occs-widest.result.items cover (found spans) c.take_occs-widest.ensures
    (subst (λ (s : Spans). CoverAlike c.take_occs-widest.result.items cover (found s)) c.deref.ensures.value c.in_ok-put_windows.ensures.widest) in
    made_found (found spans) added cover (flat_map (term_hits spans) terms) c.args.out.now c.put_inside.new.out c.in_ok-some.some same alike.0 alike.1 c.in_ok-some.ensures.some
    (c.in_ok-some.ensures.occs ∙ c.in_ok-extend_from_slice.ensures.items ∙ ap (λ list. c.args.out.now.occs.items ++ list) c.deref-2.ensures.value)
    (λ short. c.in_ok-some.ensures.hits ∙ ap (λ list. c.args.out.now.hits.items ++ filter (is_inside cover) list) (hits short))
