use Rattle.std.proofs.Common.{rules, vec_len, ◌≡◌, ℕ, List, ◌++◌, length, take, ◌∙◌, sym, ap, arith, append_assoc, length-take}
use Rattle.std.specs.List.{flat_map}
use Rattle.std.specs.Int.{w32, to_le_bytes}
use Rattle.doc_bytes.specs.Payload.{span_bytes, span_count, spans_bytes}
use Rattle.doc_bytes.proofs.Joining.{front_stays, spans_more}
use Rattle.doc_bytes.proofs.writing.put_all_spans.Goals as goal

pub loop-number-preserved : goal.loop-number-preserved
loop-number-preserved c =
    let fields = c.args.fields.now in
    let i = c.loop-number.number in
    let field = c.index-fields-number.result in
    let count = to_le_bytes w32 (span_count fields) in
    let before = spans_bytes 0 (take i fields) in
    let more = flat_map (span_bytes i) field.spans in
    let size : length (take i fields) ≡ i = omega (arith, length-take i fields, c.loop-number-test.true) in
    let put : c.put_spans.new.out.items ≡ c.loop-number.out.items ++ more = search rules in
    put ∙ ap (λ (l : List ℕ). l ++ more) c.loop-number.invariant
    ∙ append_assoc c.args.out.now.items (count ++ before) more
    ∙ ap (λ (l : List ℕ). c.args.out.now.items ++ l) (append_assoc count before more ∙ ap (λ (l : List ℕ). count ++ l) (sym (spans_more fields i field c.loop-number-test.true c.index-fields-number.is size)))

pub returns-in_err-put_spans-clause-front : goal.returns-in_err-put_spans-clause-front
returns-in_err-put_spans-clause-front c =
    front_stays c.args.out.now.items (to_le_bytes w32 (span_count c.args.fields.now) ++ spans_bytes 0 (take c.loop-number.number c.args.fields.now)) c.loop-number.out.items c.put_spans.new.out.items (vec_len c.args.out.now) (vec_len c.loop-number.out) (search rules) c.loop-number.invariant c.put_spans.ensures.front
