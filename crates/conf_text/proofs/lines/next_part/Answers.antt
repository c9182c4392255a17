use Rattle.std.proofs.Common.{◌≡◌, ◌+◌, ◌<◌, ◌∙◌, ◌∷◌, ℕ, List, take, take_all, drop, length, sym, ap, arith, []}
use Rattle.std.proofs.lemmas.List.{drop_all, drop-drop}
use Rattle.std.specs.Str.Lines.{lines, strip_carriage_return}
use Rattle.conf_text.proofs.Parts.{place, place_within, first_line, last_line}
use Rattle.conf_text.proofs.lines.next_part.Goals as goal

pub split_at-requires-2 : goal.split_at-requires-2
split_at-requires-2 c = omega (arith, c.place_of-end.ensures, place_within 10 c.args.text.now)

pub returns-then-end-text-clause-parts : goal.returns-then-end-text-clause-parts
returns-then-end-text-clause-parts c =
    let text = c.args.text.now in
    let whole : c.split_at.result.0.now ≡ text = c.split_at.ensures.front ∙ take_all c.place_of-end.result text (omega arith) in
    let none : c.split_at.result.1.now ≡ [] = c.split_at.ensures.back ∙ drop_all c.place_of-end.result text (omega arith) in
    last_line text c.requires (sym c.place_of-end.ensures ∙ c.if-end-text.true)
    ∙ ap (λ (part : List ℕ). part ∷ []) (sym whole)
    ∙ ap (λ (rest : List ℕ). c.split_at.result.0.now ∷ lines rest) (sym none)

pub returns-clause-parts : goal.returns-clause-parts
returns-clause-parts c =
    let text = c.args.text.now in
    let within : place 10 text < length text = omega (arith, c.place_of-end.ensures, place_within 10 text, c.if-end-text.false) in
    let part : c.without_return.result.now ≡ strip_carriage_return (take (place 10 text) text) =
    c.without_return.ensures.part ∙ ap strip_carriage_return (c.split_at-2.ensures.front ∙ ap (λ n. take n text) c.place_of-end.ensures) in
    let rest : c.split_at-3.result.1.now ≡ drop (place 10 text + 1) text =
    c.split_at-3.ensures.back ∙ ap (drop 1) c.split_at-2.ensures.back ∙ drop-drop 1 c.place_of-end.result text ∙ ap (λ n. drop (n + 1) text) c.place_of-end.ensures in
    first_line text within ∙ ap (λ (p : List ℕ). p ∷ lines (drop (place 10 text + 1) text)) (sym part)
    ∙ ap (λ (r : List ℕ). c.without_return.result.now ∷ lines r) (sym rest)
