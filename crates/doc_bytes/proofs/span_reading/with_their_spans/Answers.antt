use Rattle.std.proofs.Common.{rules, ◌≡◌, ◌∙◌, ap, subst, ℕ, List, ◌∷◌, ◌++◌, length, map, take, drop}
use Rattle.doc_types.specs.declared.tokens.TokenWord.{TokenWord}
use Rattle.doc_bytes.specs.Reading.{FieldSpan, later_spans, own_count, own_spans, with_spans}
use Rattle.doc_bytes.proofs.SpanForms.{one_field_more}
use Rattle.doc_bytes.proofs.span_reading.with_their_spans.Goals as goal

pub fields-preserved : goal.fields-preserved
fields-preserved c =
    let made = c.fields.made.items in
    let xs = c.fields.rest.now in
    let size : c.len.result ≡ length c.fields.made.items = search rules in
    let ahead : c.fields.words-iterator.rest.items ≡ c.in-Some.words ∷ c.next.new.self.rest.items = search rules in
    let count : c.count_own.result ≡ own_count (length c.fields.made.items) c.fields.rest.now = c.count_own.ensures ∙ ap (λ (n : ℕ). own_count n c.fields.rest.now) size in
    let own : c.in_ok-spans.spans ≡ map (λ (span : FieldSpan). span.1) (own_spans (length c.fields.made.items) c.fields.rest.now) =
    c.in_ok-spans.ensures ∙ ap (map (λ (span : FieldSpan). span.1)) (c.split_at.ensures.front ∙ ap (λ (n : ℕ). take n c.fields.rest.now) count) in
    let later : c.split_at.result.1.now ≡ later_spans (length c.fields.made.items) c.fields.rest.now = c.split_at.ensures.back ∙ ap (λ (n : ℕ). drop n c.fields.rest.now) count in
    let so_far = subst (λ (l : List (List TokenWord)). c.fields.made.items ++ with_spans (length c.fields.made.items) l c.fields.rest.now ≡ with_spans 0 c.args.fields.items c.args.spans.now) ahead c.fields.invariant in
    rw c.in_ok-push.ensures.items (one_field_more made c.in-Some.words c.next.new.self.rest.items xs c.in_ok-spans.spans c.split_at.result.1.now (with_spans 0 c.args.fields.items c.args.spans.now) own later so_far)
