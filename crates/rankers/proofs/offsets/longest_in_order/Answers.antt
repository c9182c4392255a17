use Rattle.std.proofs.Common.{◌≡◌, ℕ, ◌+◌, ◌-◌, ◌%◌, ◌≤◌, List, get_or, set, take, max, sym, ap, ◌∙◌, subst, arith}
use Rattle.std.proofs.lemmas.List.{get_or-replicate, length-replicate, take_all, take_more}
use Rattle.doc_types.specs.declared.hits.Hit.{Hit}
use Rattle.rankers.specs.steps.Offsets.{count_in}
use Rattle.rankers.proofs.OffsetRing.{IsRing, ord_max_is, byte_suffices, ring_none, ring_next, ring_other, ring_same, ring_all}
use Rattle.rankers.proofs.offsets.longest_in_order.Goals as goal
use Rattle.rankers.proofs.offsets.longest_in_order.Goals.{then-hit-field+else-hit-reached, else-hit-field}

pub loop-hit-init : goal.loop-hit-init
loop-hit-init c = ring_none c.args.field _ _ (length-replicate {A = ℕ} 256 0) (length-replicate {A = ℕ} 256 0) (λ k d h. get_or-replicate 256 k 0 d h)

pub count_one-count-requires-clause-few : goal.count_one-count-requires-clause-few
count_one-count-requires-clause-few c =
    let d : Hit = record { query = 0; word = 0; field = 0; position = 0 } in
    let hit : Hit = get_or c.args.hits.now c.loop-hit.hit-index d in
    let at : ℕ = hit.position + 255 - c.from.result in
    let here : at ≡ hit.position + 255 - hit.query = omega arith in
    let later : c.loop-hit.reached ≤ hit.position = omega arith in
    byte_suffices c.args.field c.loop-hit.reached c.loop-hit.offsets c.loop-hit.counts c.loop-hit.most c.args.hits.now c.loop-hit.hit-index at d c.requires c.loop-hit-test.true
    c.if-hit-field.true later here c.loop-hit.invariant

pub loop-hit-preserved : goal.loop-hit-preserved
loop-hit-preserved c =
    let d : Hit = record { query = 0; word = 0; field = 0; position = 0 } in
    let i = c.loop-hit.hit-index in
    let hit : Hit = get_or c.args.hits.now i d in
    let next : List Hit = take (i + 1) c.args.hits.now in
    let offsets = c.loop-hit.offsets in
    let counts = c.loop-hit.counts in
    elim c.if-hit-field.branch [
      | then-hit-field+else-hit-reached w ↦
          (let at : ℕ = hit.position + 255 - w.from.result in
          let here : at ≡ hit.position + 255 - hit.query = omega arith in
          let later : c.loop-hit.reached ≤ hit.position = omega arith in
          let count : w.count_one-count.result ≡ count_in offsets counts at + 1 = w.count_one-count.ensures.count in
          let ring =
          ring_next c.args.field c.loop-hit.reached offsets counts c.loop-hit.most c.args.hits.now i at d c.requires c.loop-hit-test.true
          w.if-hit-field.true later here c.loop-hit.invariant in
          let most : c.if-hit-field.most ≡ max c.loop-hit.most (count_in offsets counts at + 1) =
          w.most-is ∙ (w.max-most.ensures ∙ ord_max_is _ _) ∙ ap (λ n. max c.loop-hit.most n) count in
          ring_same c.args.field hit.position c.if-hit-field.reached (set offsets (at % 256) at) c.if-hit-field.offsets
          (set counts (at % 256) (count_in offsets counts at + 1)) c.if-hit-field.counts (max c.loop-hit.most (count_in offsets counts at + 1)) c.if-hit-field.most next
          w.reached-is (w.offsets-is ∙ w.count_one-count.ensures.offsets) (w.counts-is ∙ w.count_one-count.ensures.counts ∙ ap (λ n. set counts (at % 256) n) count) most ring)
      | else-hit-field w ↦
          (let ring =
          subst
          (IsRing c.args.field c.loop-hit.reached offsets counts c.loop-hit.most)
          (sym (take_more c.args.hits.now i d c.loop-hit-test.true))
          (ring_other c.args.field c.loop-hit.reached offsets counts c.loop-hit.most (take i c.args.hits.now) hit w.if-hit-field.false c.loop-hit.invariant) in
          ring_same c.args.field c.loop-hit.reached c.if-hit-field.reached offsets c.if-hit-field.offsets counts c.if-hit-field.counts c.loop-hit.most c.if-hit-field.most next
          w.reached-is w.offsets-is w.counts-is w.most-is ring)
    ]

pub returns : goal.returns
returns c =
    let all = take_all c.loop-hit.hit-index c.args.hits.now c.loop-hit-test.false in
    let ring = subst (IsRing c.args.field c.loop-hit.reached c.loop-hit.offsets c.loop-hit.counts c.loop-hit.most) all c.loop-hit.invariant in
    let is = ring_all c.args.field c.loop-hit.reached c.loop-hit.offsets c.loop-hit.counts c.loop-hit.most c.args.hits.now c.requires ring in
    omega arith
