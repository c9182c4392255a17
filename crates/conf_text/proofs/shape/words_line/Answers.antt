use Rattle.std.proofs.Common.{◌≡◌, ◌+◌, ◌<◌, ◌∙◌, ℕ, List, true, cond, length, take, drop, arith, ap, sym}
use Rattle.std.proofs.lemmas.List.{drop-drop}
use Rattle.std.proofs.lemmas.Bool.{lt-ltb}
use Rattle.conf_text.specs.Lines.{trimmed}
use Rattle.conf_text.specs.Shapes.{before_equals, after_equals, entry_shape, has_equals, head_shape}
use Rattle.conf_text.proofs.Parts.{place, place_within}
use Rattle.conf_text.proofs.shape.words_line.Goals as goal

pub split_at-requires : goal.split_at-requires
split_at-requires c = omega (arith, c.place_of-end.ensures, place_within 61 c.args.text.now)

pub returns : goal.returns
returns c =
    let text = c.args.text.now in
    let within : place 61 text < length text = omega (arith, c.place_of-end.ensures, place_within 61 text, c.if-end-text.false) in
    let has : has_equals text ≡ true = lt-ltb _ _ within in
    let key : c.trim.result.now ≡ before_equals text = c.trim.ensures ∙ ap trimmed (c.split_at.ensures.front ∙ ap (λ n. take n text) c.place_of-end.ensures) in
    let value : c.trim-2.result.now ≡ after_equals text =
    c.trim-2.ensures ∙ ap trimmed (c.split_at-2.ensures.back ∙ ap (drop 1) c.split_at.ensures.back ∙ drop-drop 1 c.place_of-end.result text ∙ ap (λ n. drop (n + 1) text) c.place_of-end.ensures) in
    c.entry_line.ensures
    ∙ ap (λ (k : List ℕ). entry_shape k c.trim-2.result.now) key
    ∙ ap (λ (v : List ℕ). entry_shape (before_equals text) v) value
    ∙ ap (λ t. cond t (entry_shape (before_equals text) (after_equals text)) (head_shape text)) (sym has)
