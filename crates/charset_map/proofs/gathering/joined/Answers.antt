use Rattle.std.proofs.Common.{◌≡◌, ◌<◌, Bool, true, List, ◌++◌, Ok, length, get_or, sym, ◌∙◌, ap, subst, arith}
use Rattle.std.specs.Prelude.{All, IsPermutation}
use Rattle.std.proofs.lemmas.List.Sorted.{All-permutation}
use Rattle.charset_map.specs.declared.gathering.Written.{Written}
use Rattle.charset_map.specs.Spans.{number_in, number_of}
use Rattle.charset_map.specs.steps.Adding.{AddsSpan}
use Rattle.charset_map.specs.steps.SpanLists.{Differ, IsSound}
use Rattle.charset_map.proofs.Joining.{has_joined_more, joined_all, joined_differ}
use Rattle.charset_map.proofs.gathering.joined.Goals as goal

pub add-requires : goal.add-requires
add-requires c =
    let sorted = c.sort_unstable_by_key.new.self.items in
    let written = c.index.result.now in
    let at = c.loop-at.at in
    let is : written ≡ get_or sorted at written = c.index.ensures in
    let given : c.extend_from_slice.new.self.items ≡ c.args.list.now = c.in_ok-extend_from_slice.ensures.items ∙ ap (λ (l : List Written). l ++ c.args.list.now) c.new-sorted.ensures.items in
    let order : IsPermutation c.args.list.now sorted = subst (λ (l : List Written). IsPermutation l sorted) given c.sort_unstable_by_key.ensures.permutation in
    let sound : All (λ (w : Written). IsSound w.span) sorted = All-permutation (λ (w : Written). IsSound w.span) c.args.list.now sorted order c.requires in
    subst (λ (w : Written). IsSound w.span) (sym is) (sound at written (omega (arith, c.loop-at-test.true, c.len-at-end.ensures)))

pub returns-then-not-branch : goal.returns-then-not-branch
returns-then-not-branch c =
    let sorted = c.sort_unstable_by_key.new.self.items in
    let written = c.index.result.now in
    let at = c.loop-at.at in
    let is : written ≡ get_or sorted at written = c.index.ensures in
    let given : c.extend_from_slice.new.self.items ≡ c.args.list.now = c.in_ok-extend_from_slice.ensures.items ∙ ap (λ (l : List Written). l ++ c.args.list.now) c.new-sorted.ensures.items in
    let order : IsPermutation c.args.list.now sorted = subst (λ (l : List Written). IsPermutation l sorted) given c.sort_unstable_by_key.ensures.permutation in
    let within : at < length sorted = omega (arith, c.loop-at-test.true, c.len-at-end.ensures) in
    let adds = subst (λ (b : Bool). AddsSpan (number_of c.loop-at.spans) (number_of c.add.new.self) written.span (Ok b)) c.if-not-branch.true c.in_ok-add.ensures in
    joined_differ c.args.list.now sorted at written c.loop-at.spans order within c.loop-at.invariant (subst (λ (w : Written). Differ (number_of c.loop-at.spans) (number_in w.span)) is adds)

pub loop-at-preserved : goal.loop-at-preserved
loop-at-preserved c =
    let sorted = c.sort_unstable_by_key.new.self.items in
    let written = c.index.result.now in
    let at = c.loop-at.at in
    let is : written ≡ get_or sorted at written = c.index.ensures in
    let within : at < length sorted = omega (arith, c.loop-at-test.true, c.len-at-end.ensures) in
    let adds = subst (λ (b : Bool). AddsSpan (number_of c.loop-at.spans) (number_of c.add.new.self) written.span (Ok b)) c.if-not-branch.false c.in_ok-add.ensures in
    let here = subst (λ (w : Written). AddsSpan (number_of c.loop-at.spans) (number_of c.add.new.self) w.span (Ok true)) is adds in
    has_joined_more sorted at written c.loop-at.spans c.add.new.self within c.loop-at.invariant here.0 here.1

pub returns : goal.returns
returns c =
    let sorted = c.sort_unstable_by_key.new.self.items in
    let given : c.extend_from_slice.new.self.items ≡ c.args.list.now = c.in_ok-extend_from_slice.ensures.items ∙ ap (λ (l : List Written). l ++ c.args.list.now) c.new-sorted.ensures.items in
    let order : IsPermutation c.args.list.now sorted = subst (λ (l : List Written). IsPermutation l sorted) given c.sort_unstable_by_key.ensures.permutation in
    joined_all c.args.list.now sorted c.loop-at.at c.loop-at.spans order (omega (arith, c.loop-at-test.false, c.len-at-end.ensures)) c.loop-at.invariant
