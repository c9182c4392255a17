use Rattle.std.proofs.Common.{◌≡◌, ℕ, true, List, [], ◌∷◌, ◌++◌, get_or, map, take, IfOk, refl, ap, ◌∙◌, subst}
use Rattle.std.specs.List.{flat_map}
use Rattle.std.proofs.lemmas.List.{take_all}
use Rattle.query_tree.specs.declared.query.Item.{Item}
use Rattle.query_tree.specs.TreeKeys.{node_keys}
use Rattle.op_eval.specs.declared.joining.Join.TheVariants as joins
use Rattle.word_rows.specs.Keywords.{Spans}
use Rattle.op_eval.specs.Finding.{Found, all_of, any_of, node_finds}
use Rattle.op_eval.specs.steps.Evaluating.{Finds, Holds, founds_in, join_by, part_finds, part_in}
use Rattle.word_rows.specs.Terms.{IsShort, IsTermOf}
use Rattle.op_eval.specs.steps.Worded.{quoted_by, term_places, worded}
use Rattle.op_eval.proofs.Appending.{finds_either, finds_hardly, finds_perhaps, made_none, passed_all}
use Rattle.op_eval.proofs.Forward.{forward_places, forward_quoted, forward_same}
use Rattle.op_eval.proofs.NodeParts.{either_found, items_found, joined_found, perhaps_found, span_found, told_forward, told_joined, told_when}
use Rattle.op_eval.proofs.SoundFindings.{sound}
use Rattle.op_eval.proofs.TermParts.{zip_last}
use Rattle.op_eval.proofs.TermPlaces.{node_quoted, node_worded, terms_short}
use Rattle.op_eval.proofs.Turns.{turn_fails, turn_found, turn_passes}
use Rattle.op_eval.proofs.finding.+finding.Goals as goal

-- ---- the kinds of nodes

pub find-returns-in-Word-clause-forward : goal.find-returns-in-Word-clause-forward
find-returns-in-Word-clause-forward t c =
    told_forward _ (worded c.deref.result.now c.args.terms.now) c.args.out.now c.find_words.new.out c.find_words.result c.requires.forward (forward_places (flat_map (term_places c.deref.result.now) c.args.terms.now)) c.find_words.ensures

pub find-returns-in-Word-clause-found : goal.find-returns-in-Word-clause-found
find-returns-in-Word-clause-found t c = λ row number z knows.
    subst (λ (f : Found). IfOk c.find_words.result (λ told. Finds (IsShort number) f c.args.out.now c.find_words.new.out told))
    (ap (λ (s : Spans). worded s c.args.terms.now) c.deref.ensures.value ∙ node_worded row number c.args.work.now.spans.items c.args.node.now c.in-Word.field-0 c.args.terms.now c.in-Word.is z)
    (told_when (worded c.deref.result.now c.args.terms.now) c.args.out.now c.find_words.new.out c.find_words.result (terms_short row number (node_keys c.args.node.now) c.args.terms.now z) c.find_words.ensures)

pub find-returns-in-Quoted-clause-forward : goal.find-returns-in-Quoted-clause-forward
find-returns-in-Quoted-clause-forward t c =
    told_forward _ (quoted_by c.args.work.now.spans.items c.args.terms.now c.in-Quoted.how) c.args.out.now c.find_quoted.new.out c.find_quoted.result c.requires.forward (forward_quoted c.args.work.now.spans.items c.args.terms.now c.in-Quoted.how) c.find_quoted.ensures.found

pub find-returns-in-Quoted-clause-found : goal.find-returns-in-Quoted-clause-found
find-returns-in-Quoted-clause-found t c = λ row number z knows.
    subst (λ (f : Found). IfOk c.find_quoted.result (λ told. Finds (IsShort number) f c.args.out.now c.find_quoted.new.out told))
    (node_quoted row number c.args.work.now.spans.items c.args.node.now c.in-Quoted.keys c.in-Quoted.how c.args.terms.now c.in-Quoted.is z)
    (told_when (quoted_by c.args.work.now.spans.items c.args.terms.now c.in-Quoted.how) c.args.out.now c.find_quoted.new.out c.find_quoted.result (terms_short row number (node_keys c.args.node.now) c.args.terms.now z) c.find_quoted.ensures.found)

pub find-returns-in-And-clause-found : goal.find-returns-in-And-clause-found
find-returns-in-And-clause-found t c = λ row number z knows.
    items_found row number c.args.marks.now c.args.work.now.spans.items c.args.terms.now (λ (f : Found). IfOk c.find_all.result (λ told. Finds (IsShort number) f c.args.out.now c.find_all.new.out told))
    c.args.node.now c.in-And.items c.as_slice.result.now c.in-And.is c.as_slice.ensures z knows (c.find_all.ensures.found row number)

pub find-returns-in-Or-clause-found : goal.find-returns-in-Or-clause-found
find-returns-in-Or-clause-found t c = λ row number z knows.
    either_found row number c.args.marks.now c.args.work.now.spans.items c.args.terms.now (λ (f : Found). IfOk c.find_either.result (λ told. Finds (IsShort number) f c.args.out.now c.find_either.new.out told))
    c.args.node.now c.in-Or.a c.in-Or.b c.get.result.now c.get-in-Or.result.now c.in-Or.is c.get.ensures c.get-in-Or.ensures z knows (c.find_either.ensures.found row number)

pub find-returns-in-Maybe-clause-found : goal.find-returns-in-Maybe-clause-found
find-returns-in-Maybe-clause-found t c = λ row number z knows.
    perhaps_found row number c.args.marks.now c.args.work.now.spans.items c.args.terms.now (λ (f : Found). IfOk c.find_perhaps.result (λ told. Finds (IsShort number) f c.args.out.now c.find_perhaps.new.out told))
    c.args.node.now c.in-Maybe.a c.in-Maybe.b c.get-in-Maybe.result.now c.get-in-Maybe-2.result.now c.in-Maybe.is c.get-in-Maybe.ensures c.get-in-Maybe-2.ensures z knows (c.find_perhaps.ensures.found row number)

pub find-returns-in-Before-clause-found : goal.find-returns-in-Before-clause-found
find-returns-in-Before-clause-found t c = λ row number z knows.
    joined_found row number c.args.marks.now c.args.work.now.spans.items c.args.terms.now (λ (f : Found). IfOk c.find_joined.result (λ told. Finds (IsShort number) f c.args.out.now c.find_joined.new.out told)) joins.Before
    c.args.node.now c.in-Before.a c.in-Before.b c.get-in-Before.result.now c.get-in-Before-2.result.now c.in-Before.is c.get-in-Before.ensures c.get-in-Before-2.ensures z knows (c.find_joined.ensures.found row number)

pub find-returns-in-Near-clause-found : goal.find-returns-in-Near-clause-found
find-returns-in-Near-clause-found t c = λ row number z knows.
    joined_found row number c.args.marks.now c.args.work.now.spans.items c.args.terms.now (λ (f : Found). IfOk c.find_joined-in-Near.result (λ told. Finds (IsShort number) f c.args.out.now c.find_joined-in-Near.new.out told)) (joins.Near c.in-Near.n)
    c.args.node.now c.in-Near.a c.in-Near.b c.get-in-Near.result.now c.get-in-Near-2.result.now c.in-Near.is c.get-in-Near.ensures c.get-in-Near-2.ensures z knows (c.find_joined-in-Near.ensures.found row number)

pub find-returns-in-Sentence-clause-found : goal.find-returns-in-Sentence-clause-found
find-returns-in-Sentence-clause-found t c = λ row number z knows.
    joined_found row number c.args.marks.now c.args.work.now.spans.items c.args.terms.now (λ (f : Found). IfOk c.find_joined-in-Sentence.result (λ told. Finds (IsShort number) f c.args.out.now c.find_joined-in-Sentence.new.out told)) joins.Sentence
    c.args.node.now c.in-Sentence.a c.in-Sentence.b c.get-in-Sentence.result.now c.get-in-Sentence-2.result.now c.in-Sentence.is c.get-in-Sentence.ensures c.get-in-Sentence-2.ensures z knows (c.find_joined-in-Sentence.ensures.found row number)

pub find-returns-in-Paragraph-clause-found : goal.find-returns-in-Paragraph-clause-found
find-returns-in-Paragraph-clause-found t c = λ row number z knows.
    joined_found row number c.args.marks.now c.args.work.now.spans.items c.args.terms.now (λ (f : Found). IfOk c.find_joined-in-Paragraph.result (λ told. Finds (IsShort number) f c.args.out.now c.find_joined-in-Paragraph.new.out told)) joins.Paragraph
    c.args.node.now c.in-Paragraph.a c.in-Paragraph.b c.get-in-Paragraph.result.now c.get-in-Paragraph-2.result.now c.in-Paragraph.is c.get-in-Paragraph.ensures c.get-in-Paragraph-2.ensures z knows (c.find_joined-in-Paragraph.ensures.found row number)

pub find-returns-in-ZoneSpan-clause-found : goal.find-returns-in-ZoneSpan-clause-found
find-returns-in-ZoneSpan-clause-found t c = λ row number z knows.
    span_found row number c.args.marks.now c.args.work.now.spans.items c.args.terms.now (λ (f : Found). IfOk c.find_span.result (λ told. Finds (IsShort number) f c.args.out.now c.find_span.new.out told))
    c.args.node.now c.in-ZoneSpan.zones c.as_slice-in-ZoneSpan.result.now c.in-ZoneSpan.a c.get-in-ZoneSpan.result.now c.in-ZoneSpan.is c.as_slice-in-ZoneSpan.ensures c.get-in-ZoneSpan.ensures z knows (c.find_span.ensures.found row number)

-- ---- two nodes

pub find_either-returns-clause-found : goal.find_either-returns-clause-found
find_either-returns-clause-found t c = λ row number z left right.
    let parts = zip_last (IsTermOf row number) (node_keys c.args.a.now) (node_keys c.args.b.now) c.args.terms.now c.terms_last.result.0.now c.terms_last.result.1.now z c.terms_last.ensures.whole c.terms_last.ensures.own in
    let spans = c.args.work.now.spans.items in
    finds_either (node_finds row number c.args.a.now spans) (node_finds row number c.args.b.now spans) c.args.out.now c.find.new.out c.find_simply.new.out c.in_ok-first.first c.in_ok-second.second
    (c.in_ok-first.ensures.found row number parts.0 left)
    (subst (λ (s : Spans). Finds (IsShort number) (node_finds row number c.args.b.now s) c.find.new.out c.find_simply.new.out c.in_ok-second.second) c.in_ok-first.ensures.spans (c.in_ok-second.ensures.found row number parts.1 right))

pub find_simply-returns-then-is_word-clause-forward : goal.find_simply-returns-then-is_word-clause-forward
find_simply-returns-then-is_word-clause-forward t c =
    told_forward _ (worded c.deref.result.now c.args.terms.now) c.args.out.now c.find_words.new.out c.find_words.result c.requires.forward (forward_places (flat_map (term_places c.deref.result.now) c.args.terms.now)) c.find_words.ensures

pub find_simply-returns-then-is_word-clause-found : goal.find_simply-returns-then-is_word-clause-found
find_simply-returns-then-is_word-clause-found t c = λ row number z knows.
    let word = c.is_word.ensures c.if-is_word.true in
    subst (λ (f : Found). IfOk c.find_words.result (λ told. Finds (IsShort number) f c.args.out.now c.find_words.new.out told))
    (ap (λ (s : Spans). worded s c.args.terms.now) c.deref.ensures.value ∙ node_worded row number c.args.work.now.spans.items c.args.node.now word.0 c.args.terms.now word.1 z)
    (told_when (worded c.deref.result.now c.args.terms.now) c.args.out.now c.find_words.new.out c.find_words.result (terms_short row number (node_keys c.args.node.now) c.args.terms.now z) c.find_words.ensures)

pub find_perhaps-returns-in_ok-find-clause-found : goal.find_perhaps-returns-in_ok-find-clause-found
find_perhaps-returns-in_ok-find-clause-found t c = λ row number z left right.
    let parts = zip_last (IsTermOf row number) (node_keys c.args.a.now) (node_keys c.args.b.now) c.args.terms.now c.terms_last.result.0.now c.terms_last.result.1.now z c.terms_last.ensures.whole c.terms_last.ensures.own in
    let spans = c.args.work.now.spans.items in
    finds_perhaps (node_finds row number c.args.a.now spans) (node_finds row number c.args.b.now spans) c.args.out.now c.find.new.out c.find-then-first.new.out c.in_ok-first.first c.in_ok-find.field-0
    (c.in_ok-first.ensures.found row number parts.0 left) c.if-first.true
    (subst (λ (s : Spans). Finds (IsShort number) (node_finds row number c.args.b.now s) c.find.new.out c.find-then-first.new.out c.in_ok-find.field-0) c.in_ok-first.ensures.spans (c.in_ok-find.ensures.found row number parts.1 right))

pub find_perhaps-returns-else-first-clause-found : goal.find_perhaps-returns-else-first-clause-found
find_perhaps-returns-else-first-clause-found t c = λ row number z left right.
    let parts = zip_last (IsTermOf row number) (node_keys c.args.a.now) (node_keys c.args.b.now) c.args.terms.now c.terms_last.result.0.now c.terms_last.result.1.now z c.terms_last.ensures.whole c.terms_last.ensures.own in
    let spans = c.args.work.now.spans.items in
    finds_hardly (node_finds row number c.args.a.now spans) (node_finds row number c.args.b.now spans) c.args.out.now c.find.new.out c.in_ok-first.first (sound row number c.args.a.now spans)
    (c.in_ok-first.ensures.found row number parts.0 left) c.if-first.false

-- ---- operators on occurrences

pub find_joined-returns-clause-found : goal.find_joined-returns-clause-found
find_joined-returns-clause-found t c = λ row number z left right.
    let parts = zip_last (IsTermOf row number) (node_keys c.args.a.now) (node_keys c.args.b.now) c.args.terms.now c.terms_last.result.0.now c.terms_last.result.1.now z c.terms_last.ensures.whole c.terms_last.ensures.own in
    let spans = c.args.work.now.spans.items in
    told_joined c.args.marks.now c.args.join c.in_ok-first.first c.in_ok-second.second (node_finds row number c.args.a.now spans) (node_finds row number c.args.b.now spans) c.args.out.now c.put_made.new.out c.put_made.result c.put_made.ensures.found
    (c.in_ok-first.ensures.found row number parts.0 left)
    (subst (λ (s : Spans). Holds (IsShort number) (node_finds row number c.args.b.now s) c.in_ok-second.second) c.in_ok-first.ensures.spans (c.in_ok-second.ensures.found row number parts.1 right))

pub find_joined-returns-then-are_apart-clause-found : goal.find_joined-returns-then-are_apart-clause-found
find_joined-returns-then-are_apart-clause-found t c = λ row number z left right.
    let parts = zip_last (IsTermOf row number) (node_keys c.args.a.now) (node_keys c.args.b.now) c.args.terms.now c.terms_last.result.0.now c.terms_last.result.1.now z c.terms_last.ensures.whole c.terms_last.ensures.own in
    let spans = c.args.work.now.spans.items in
    let occs = λ (s : Spans). join_by c.args.marks.now c.args.join (node_finds row number c.args.a.now s).occurrences (node_finds row number c.args.b.now s).occurrences in
    made_none (occs spans) ((node_finds row number c.args.a.now spans).hits ++ (node_finds row number c.args.b.now spans).hits) c.args.out.now
    (subst (λ (s : Spans). occs s ≡ []) c.deref.ensures.value (c.are_apart.ensures c.if-are_apart.true row number c.args.marks.now parts.0 parts.1))

pub find_apart-returns-clause-forward : goal.find_apart-returns-clause-forward
find_apart-returns-clause-forward t c = forward_same c.sort_distinct.new.list.items c.find.new.out.occs.items c.sort_distinct.ensures.same c.in_ok-find.ensures.forward

-- ---- items of an AND

pub find_all-returns-then-not-passes-clause-found : goal.find_all-returns-then-not-passes-clause-found
find_all-returns-then-not-passes-clause-found t c = λ row number z knows.
    turn_fails row number c.args.marks.now c.args.work.now.spans.items c.args.items.now c.loop-item.item-index c.item-item.result c.loop-item-test.true c.item-item.is
    c.loop-item.rest.now c.terms_first.result.0.now c.terms_first.result.1.now c.terms_first.ensures.whole c.terms_first.ensures.own
    c.args.out.now c.loop-item.out c.find_item.new.out (record { occs = c.truncate.new.self; hits = c.truncate-then-not-passes.new.self }) c.in_ok-passes.passes knows (c.loop-item.invariant.found row number z knows)
    (λ own known. subst (λ (s : Spans). Finds (IsShort number) (part_finds (part_in row number s c.item-item.result)) c.loop-item.out c.find_item.new.out c.in_ok-passes.passes) c.loop-item.invariant.spans (c.in_ok-passes.ensures.found row number own known))
    c.if-not-passes.true
    (c.truncate.ensures.items ∙ ap (λ (n : ℕ). take n c.find_item.new.out.occs.items) (c.len-occs.ensures ∙ c.args.out.now.occs.ok.0))
    (c.truncate-then-not-passes.ensures.items ∙ ap (λ (n : ℕ). take n c.find_item.new.out.hits.items) (c.len-hits.ensures ∙ c.args.out.now.hits.ok.0))

pub find_all-loop-item-preserved : goal.find_all-loop-item-preserved
find_all-loop-item-preserved t c = record {
  placed = c.terms_first.ensures.last;
  spans = c.in_ok-passes.ensures.spans ∙ c.loop-item.invariant.spans;
  forward = c.in_ok-passes.ensures.forward;
  found = λ row number z knows.
      turn_passes row number c.args.marks.now c.args.work.now.spans.items c.args.items.now c.loop-item.item-index c.item-item.result c.loop-item-test.true c.item-item.is
      c.loop-item.rest.now c.terms_first.result.0.now c.terms_first.result.1.now c.terms_first.ensures.whole c.terms_first.ensures.own
      c.args.out.now c.loop-item.out c.find_item.new.out c.in_ok-passes.passes knows (c.loop-item.invariant.found row number z knows)
      (λ own known. subst (λ (s : Spans). Finds (IsShort number) (part_finds (part_in row number s c.item-item.result)) c.loop-item.out c.find_item.new.out c.in_ok-passes.passes) c.loop-item.invariant.spans (c.in_ok-passes.ensures.found row number own known))
      c.if-not-passes.false;
}

pub find_all-returns-clause-found : goal.find_all-returns-clause-found
find_all-returns-clause-found t c = λ row number z knows.
    let parts = λ (list : List Item). map (part_in row number c.args.work.now.spans.items) list in
    subst (λ (list : List Item). Finds (IsShort number) (all_of (parts list)) c.args.out.now c.loop-item.out true) (take_all c.loop-item.item-index c.args.items.now c.loop-item-test.false)
    (passed_all (parts (take c.loop-item.item-index c.args.items.now)) c.args.out.now c.loop-item.out (c.loop-item.invariant.found row number z knows).1)

-- ---- spans of zones

pub find_span-loop-span-preserved : goal.find_span-loop-span-preserved
find_span-loop-span-preserved t c = record {
  spans = c.in_ok-found.ensures.spans ∙ c.loop-span.invariant.spans;
  forward = c.in_ok-found.ensures.forward;
  found = λ row number z knows.
      turn_found row number c.args.node.now c.args.work.now.spans.items c.args.zones.now c.deref-span-items.result.now c.loop-span.span-index _ (0, record { zone = 0; first = 0; last = 0 }) c.loop-span-test.true refl
      c.args.out.now c.loop-span.out c.find_within.new.out c.loop-span.some c.in_ok-found.found (c.loop-span.invariant.found row number z knows)
      (subst (λ (s : Spans). Finds (IsShort number) (any_of (founds_in row number c.args.node.now s c.args.zones.now (get_or c.deref-span-items.result.now c.loop-span.span-index (0, record { zone = 0; first = 0; last = 0 }) ∷ []))) c.loop-span.out c.find_within.new.out c.in_ok-found.found) c.loop-span.invariant.spans (c.in_ok-found.ensures.found row number z knows));
}

pub find_span-returns-clause-found : goal.find_span-returns-clause-found
find_span-returns-clause-found t c = λ row number z knows.
    subst (λ (all : Spans). Finds (IsShort number) (any_of (founds_in row number c.args.node.now c.args.work.now.spans.items c.args.zones.now all)) c.args.out.now c.loop-span.out c.loop-span.some)
    (take_all c.loop-span.span-index c.deref-span-items.result.now c.loop-span-test.false ∙ c.deref-span-items.ensures.value)
    (c.loop-span.invariant.found row number z knows)
