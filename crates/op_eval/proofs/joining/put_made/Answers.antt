use Rattle.std.proofs.Common.{true, List, ◌++◌, ◌∙◌, ap, subst, sym}
use Rattle.std.specs.List.{filter}
use Rattle.doc_types.specs.declared.hits.Hit.{Hit}
use Rattle.occ_lists.specs.declared.occ.Occ.{Occ}
use Rattle.occ_lists.specs.Places.{holds}
use Rattle.occ_lists.specs.OccLists.{SameMembers}
use Rattle.op_eval.specs.Finding.{is_inside, made}
use Rattle.op_eval.specs.steps.Evaluating.{Finds, join_by}
use Rattle.op_eval.proofs.Appending.{empty_same, made_found, made_none}
use Rattle.op_eval.proofs.Forward.{finds_forward, forward_joined}
use Rattle.op_eval.proofs.joining.put_made.Goals as goal
use Rattle.op_eval.proofs.joining.put_made.Goals.{In_ok-some}

found : (c : In_ok-some) → Finds (Unit {0}) (made (join_by c.args.marks.now c.args.join c.args.first.occs.items c.args.second.occs.items) (c.args.first.hits.items ++ c.args.second.hits.items)) c.args.out.now c.put_inside.new.out c.in_ok-some.some
found c =
    let join = join_by c.args.marks.now c.args.join in
    let list = c.put_joined.new.out.items in
    let joined = join c.args.first.occs.items c.args.second.occs.items in
    let same : SameMembers list joined =
    subst (λ (ys : List Occ). SameMembers list (join c.args.first.occs.items ys)) c.deref-2.ensures.value
    (subst (λ (xs : List Occ). SameMembers list (join xs c.deref-2.result.now)) c.deref.ensures.value c.in_ok-put_joined.ensures) in
    made_found joined list list (c.args.first.hits.items ++ c.args.second.hits.items) c.args.out.now c.put_inside.new.out c.in_ok-some.some
    same (λ place. same (λ (o : Occ). holds o place)) (same (λ (o : Occ). true)) c.in_ok-some.ensures.some
    (c.in_ok-some.ensures.occs ∙ c.in_ok-extend_from_slice.ensures.items ∙ ap (λ (xs : List Occ). c.args.out.now.occs.items ++ xs) c.deref-3.ensures.value)
    (λ is. c.in_ok-some.ensures.hits
    ∙ ap (λ (hits : List Hit). c.args.out.now.hits.items ++ filter (is_inside list) hits)
    (c.in_ok-extend_from_slice-2.ensures.items ∙ ap (λ (hits : List Hit). c.args.first.hits.items ++ hits) c.deref-4.ensures.value))

pub returns-clause-found : goal.returns-clause-found
returns-clause-found c = found c

pub returns-clause-forward : goal.returns-clause-forward
returns-clause-forward c =
    finds_forward (made (join_by c.args.marks.now c.args.join c.args.first.occs.items c.args.second.occs.items) (c.args.first.hits.items ++ c.args.second.hits.items)) c.args.out.now c.put_inside.new.out c.in_ok-some.some
    c.requires.forward (forward_joined c.args.marks.now c.args.join c.args.first.occs.items c.args.second.occs.items c.requires.xs c.requires.ys) (found c)

pub returns-then-is_empty-clause-found : goal.returns-then-is_empty-clause-found
returns-then-is_empty-clause-found c =
    let join = join_by c.args.marks.now c.args.join in
    let list = c.put_joined.new.out.items in
    let joined = join c.args.first.occs.items c.args.second.occs.items in
    let same : SameMembers list joined =
    subst (λ (ys : List Occ). SameMembers list (join c.args.first.occs.items ys)) c.deref-2.ensures.value
    (subst (λ (xs : List Occ). SameMembers list (join xs c.deref-2.result.now)) c.deref.ensures.value c.in_ok-put_joined.ensures) in
    made_none joined (c.args.first.hits.items ++ c.args.second.hits.items) c.args.out.now (empty_same _ list joined c.put_joined.new.out.ok.0 (sym c.is_empty.ensures ∙ c.if-is_empty.true) same)
