use Rattle.std.proofs.Common.{◌≡◌, ◌+◌, ◌-◌, ◌<◌, ◌∙◌, ℕ, List, [], ◌∷◌, ◌++◌, length, take, drop, ap, arith, sym, subst}
use Rattle.std.specs.Prelude.{All}
use Rattle.std.specs.List.{prefix_len}
use Rattle.std.proofs.lemmas.List.Elements.{All-push}
use Rattle.charset_map.specs.declared.gathering.Written.{Written}
use Rattle.charset_map.specs.Characters.{is_blank}
use Rattle.charset_map.specs.TableText.{IsFaulty, without_front, without_back}
use Rattle.charset_map.specs.steps.Gathering.{IsEntrySpan, IsGathered}
use Rattle.charset_map.specs.steps.SpanLists.{IsSound}
use Rattle.charset_map.proofs.Cutting.{place, place_within}
use Rattle.charset_map.proofs.Gatherings.{HasGathered, gathered_all, gathered_fault, has_gathered_more, has_gathered_none, next_place, next_text, place_small}
use Rattle.charset_map.proofs.gathering.gather.Goals as goal

pub parts-init : goal.parts-init
parts-init c = subst (λ (list : List Written). HasGathered c.args.text.now c.args.text.now list) (sym c.new-list.ensures.items) (has_gathered_none c.args.text.now)

pub split_at-requires : goal.split_at-requires
split_at-requires c = omega (arith, c.place_of-end.ensures, place_within 44 c.parts.rest.now)

pub overflow_sub-place : goal.overflow_sub-place
overflow_sub-place c = omega (arith, c.parts.invariant.within)

pub overflow_add-place : goal.overflow_add-place
overflow_add-place c =
    let rest = c.parts.rest.now in
    let part : c.split_at.result.0.now ≡ take (place 44 rest) rest = c.split_at.ensures.front ∙ ap (λ (n : ℕ). take n rest) c.place_of-end.ensures in
    let blanks : c.blanks_before.result ≡ prefix_len is_blank (take (place 44 rest) rest) = c.blanks_before.ensures ∙ ap (prefix_len is_blank) part in
    omega (arith, blanks, place_small c.args.text.now rest c.parts.invariant.within, c.requires)

pub overflow_cast-place : goal.overflow_cast-place
overflow_cast-place c =
    let rest = c.parts.rest.now in
    let part : c.split_at.result.0.now ≡ take (place 44 rest) rest = c.split_at.ensures.front ∙ ap (λ (n : ℕ). take n rest) c.place_of-end.ensures in
    let blanks : c.blanks_before.result ≡ prefix_len is_blank (take (place 44 rest) rest) = c.blanks_before.ensures ∙ ap (prefix_len is_blank) part in
    omega (arith, blanks, place_small c.args.text.now rest c.parts.invariant.within, c.requires)

pub returns-in-Err-clause-entries : goal.returns-in-Err-clause-entries
returns-in-Err-clause-entries c =
    let rest = c.parts.rest.now in
    let part : c.split_at.result.0.now ≡ take (place 44 rest) rest = c.split_at.ensures.front ∙ ap (λ (n : ℕ). take n rest) c.place_of-end.ensures in
    let blanks : c.blanks_before.result ≡ prefix_len is_blank (take (place 44 rest) rest) = c.blanks_before.ensures ∙ ap (prefix_len is_blank) part in
    let text : c.trimmed.result.now ≡ next_text rest = c.trimmed.ensures ∙ ap (λ (p : List ℕ). without_back (without_front p)) part in
    let at : length c.args.text.now - length rest + c.blanks_before.result ≡ next_place c.args.text.now rest = ap (λ (n : ℕ). length c.args.text.now - length rest + n) blanks in
    gathered_fault c.args.text.now rest c.parts.list.items _ c.parts.invariant at
    (λ entries. subst (λ (t : List ℕ). IsFaulty entries t c.in-Err.kind) text (c.in-Err.ensures entries))

pub returns-in-Err-clause-sound : goal.returns-in-Err-clause-sound
returns-in-Err-clause-sound c = c.parts.invariant.sound

pub returns-then-end-rest-clause-entries : goal.returns-then-end-rest-clause-entries
returns-then-end-rest-clause-entries c =
    let rest = c.parts.rest.now in
    let part : c.split_at.result.0.now ≡ take (place 44 rest) rest = c.split_at.ensures.front ∙ ap (λ (n : ℕ). take n rest) c.place_of-end.ensures in
    let blanks : c.blanks_before.result ≡ prefix_len is_blank (take (place 44 rest) rest) = c.blanks_before.ensures ∙ ap (prefix_len is_blank) part in
    let text : c.trimmed.result.now ≡ next_text rest = c.trimmed.ensures ∙ ap (λ (p : List ℕ). without_back (without_front p)) part in
    let at : length c.args.text.now - length rest + c.blanks_before.result ≡ next_place c.args.text.now rest = ap (λ (n : ℕ). length c.args.text.now - length rest + n) blanks in
    let written : Written = record { span = c.in-Ok.span; place = length c.args.text.now - length rest + c.blanks_before.result } in
    let is : IsEntrySpan (next_text rest) c.in-Ok.span = subst (λ (t : List ℕ). IsEntrySpan t c.in-Ok.span) text c.in-Ok.ensures in
    let items : c.push.new.self.items ≡ c.parts.list.items ++ written ∷ [] = c.in_ok-push-in-Ok.ensures.items in
    subst (λ (list : List Written). IsGathered c.args.text.now list []) (sym items)
    (gathered_all c.args.text.now rest c.parts.list.items written c.parts.invariant (sym c.place_of-end.ensures ∙ c.if-end-rest.true) at is)

pub returns-then-end-rest-clause-sound : goal.returns-then-end-rest-clause-sound
returns-then-end-rest-clause-sound c =
    let rest = c.parts.rest.now in
    let part : c.split_at.result.0.now ≡ take (place 44 rest) rest = c.split_at.ensures.front ∙ ap (λ (n : ℕ). take n rest) c.place_of-end.ensures in
    let blanks : c.blanks_before.result ≡ prefix_len is_blank (take (place 44 rest) rest) = c.blanks_before.ensures ∙ ap (prefix_len is_blank) part in
    let written : Written = record { span = c.in-Ok.span; place = length c.args.text.now - length rest + c.blanks_before.result } in
    let items : c.push.new.self.items ≡ c.parts.list.items ++ written ∷ [] = c.in_ok-push-in-Ok.ensures.items in
    subst (λ (list : List Written). All (λ (w : Written). IsSound w.span) list) (sym items)
    (All-push (λ (w : Written). IsSound w.span) c.parts.list.items written c.parts.invariant.sound c.in-Ok.ensures.sound)

pub parts-preserved : goal.parts-preserved
parts-preserved c =
    let rest = c.parts.rest.now in
    let part : c.split_at.result.0.now ≡ take (place 44 rest) rest = c.split_at.ensures.front ∙ ap (λ (n : ℕ). take n rest) c.place_of-end.ensures in
    let blanks : c.blanks_before.result ≡ prefix_len is_blank (take (place 44 rest) rest) = c.blanks_before.ensures ∙ ap (prefix_len is_blank) part in
    let text : c.trimmed.result.now ≡ next_text rest = c.trimmed.ensures ∙ ap (λ (p : List ℕ). without_back (without_front p)) part in
    let at : length c.args.text.now - length rest + c.blanks_before.result ≡ next_place c.args.text.now rest = ap (λ (n : ℕ). length c.args.text.now - length rest + n) blanks in
    let written : Written = record { span = c.in-Ok.span; place = length c.args.text.now - length rest + c.blanks_before.result } in
    let is : IsEntrySpan (next_text rest) c.in-Ok.span = subst (λ (t : List ℕ). IsEntrySpan t c.in-Ok.span) text c.in-Ok.ensures in
    let items : c.push.new.self.items ≡ c.parts.list.items ++ written ∷ [] = c.in_ok-push-in-Ok.ensures.items in
    let left : c.split_at-in-parts.result.1.now ≡ drop (place 44 rest + 1) rest = c.split_at-in-parts.ensures.back ∙ ap (λ (n : ℕ). drop (n + 1) rest) c.place_of-end.ensures in
    let within : place 44 rest < length rest = omega (arith, c.if-end-rest.false, c.place_of-end.ensures, place_within 44 rest) in
    subst (λ (l : List ℕ). HasGathered c.args.text.now l c.push.new.self.items) (sym left)
    (subst (λ (list : List Written). HasGathered c.args.text.now (drop (place 44 rest + 1) rest) list) (sym items)
    (has_gathered_more c.args.text.now rest c.parts.list.items written c.parts.invariant within at is))
