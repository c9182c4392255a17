use Rattle.std.proofs.Common.{rules, refl, ◌≡◌}
use Rattle.std.specs.Ordering.{nat_cmp}
use Rattle.std.specs.Char.{to_ascii_lowercase}
use Rattle.std.proofs.lemmas.Iterator.{YieldsList-from_slice, YieldsList-from_map}
use Rattle.std.proofs.lemmas.Iterator.Adapters.{YieldsList-from_bytes}
use Rattle.std.proofs.lemmas.Iterator.Consumers.{YieldsList-at}
use Rattle.std.proofs.lemmas.Iterator.Search.{cmp_from_yields_List}
use Rattle.name_table.proofs.table.order.Goals as goal

pub returns : goal.returns
returns c =
    cmp_from_yields_List (λ x y. y ≡ x) _ nat_cmp _ c.cmp.ensures.ran (YieldsList-from_bytes c.args.entry.now cc)
    (λ it e. YieldsList-at e (YieldsList-from_map _ to_ascii_lowercase (YieldsList-at c.map.ensures.source (YieldsList-from_slice c.args.word.now cc)) c.map.ensures.closure (λ x r q k. search rules)))
    (λ x y. refl)
