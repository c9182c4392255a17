use Rattle.std.proofs.Common.{rules, nat_lt, ◌<◌}
use Rattle.std.proofs.lemmas.Bool.Decides.{nat_tests}
use Rattle.std.proofs.lemmas.Fn.{All-from_retain}
use Rattle.std.proofs.lemmas.List.Elements.{filter_from_retain}
use Rattle.srch_base.proofs.pieces.Pieces.new.Goals as goal

pub invariant_of-result : goal.invariant_of-result
invariant_of-result c = All-from_retain _ (λ piece. 0 < piece) _ (λ x b f h. (λ e. search (rules, nat_tests), search rules)) _ _ c.retain.ensures.filtered

pub returns : goal.returns
returns c = filter_from_retain _ (nat_lt 0) (λ p x b q h. search (rules, nat_tests)) _ _ _ c.retain.ensures.filtered
