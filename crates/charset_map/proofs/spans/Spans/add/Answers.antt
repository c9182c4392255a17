use Rattle.std.proofs.Common.{◌≡◌, ◌∙◌, List, ap, arith, sym, subst}
use Rattle.std.specs.List.{insert}
use Rattle.charset_map.specs.declared.span.Span.{Span}
use Rattle.charset_map.specs.Spans.{number_of}
use Rattle.charset_map.specs.steps.SpanLists.{AreApart, with_span}
use Rattle.charset_map.specs.steps.Placing.{IsPlaceFor}
use Rattle.charset_map.proofs.Inserting.{with_span_apart, with_span_values, same_where_both, put_in}
use Rattle.charset_map.proofs.spans.Spans.add.Goals as goal

pub invariant_of-self-in-Some : goal.invariant_of-self-in-Some
invariant_of-self-in-Some c =
    let old = c.self.inside.list.items in
    let put = c.in-Some.place in
    let place : IsPlaceFor c.args.span old put = subst (λ (spans : List Span). IsPlaceFor c.args.span spans put) c.as_slice.ensures.value c.in-Some.ensures in
    let items : c.insert.new.self.items ≡ with_span c.args.span old =
    c.in_ok-insert-in-Some.ensures.items
    ∙ ap (λ (spans : List Span). insert spans put.from put.whole) (c.drop-drain.ensures.items ∙ c.drain.ensures.kept)
    ∙ put_in old put.from put.to put.whole (omega (arith, place.order, place.within))
    ∙ place.new
    in
    subst (AreApart 0) (sym items) (with_span_apart 0 c.args.span old (omega arith) c.requires c.self.invariant place.agrees)

pub returns-in_ok-insert-in-Some : goal.returns-in_ok-insert-in-Some
returns-in_ok-insert-in-Some c =
    let old = c.self.inside.list.items in
    let put = c.in-Some.place in
    let place : IsPlaceFor c.args.span old put = subst (λ (spans : List Span). IsPlaceFor c.args.span spans put) c.as_slice.ensures.value c.in-Some.ensures in
    let items : c.insert.new.self.items ≡ with_span c.args.span old =
    c.in_ok-insert-in-Some.ensures.items
    ∙ ap (λ (spans : List Span). insert spans put.from put.whole) (c.drop-drain.ensures.items ∙ c.drain.ensures.kept)
    ∙ put_in old put.from put.to put.whole (omega (arith, place.order, place.within))
    ∙ place.new
    in
    rw (← c.self.view_is) (
      same_where_both 0 c.args.span old c.self.invariant place.agrees,
      λ n. ap (λ (spans : List Span). number_of spans n) items ∙ with_span_values 0 c.args.span old n c.requires c.self.invariant place.agrees,
    )
