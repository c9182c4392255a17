use Rattle.std.proofs.Common.{Bor, List, ℕ, ap, ◌∙◌, rules, tests, unwrap_or}
use Rattle.std.specs.Str.{bytes_eq}
use Rattle.std.proofs.lemmas.Iterator.{YieldsList-from_slice}
use Rattle.std.proofs.lemmas.Iterator.Search.{position_from_yields_List}
use Rattle.word_rows.proofs.slots.number.Goals as goal

pub returns : goal.returns
returns c =
    c.unwrap_or.ensures
    ∙ ap (λ found. unwrap_or found 0)
    (position_from_yields_List (λ (seen : Bor (List ℕ)). bytes_eq c.args.word.now seen.now) _ _ _ c.position.ensures.ran (YieldsList-from_slice c.args.words.now cc) (λ x b q k. search (rules, tests)))
