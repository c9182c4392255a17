use Rattle.std.proofs.Common.{rules, Ok, ap, ◌∙◌}
use Rattle.std.specs.Prelude.{◌==◌}
use Rattle.std.specs.declared.alloc.AllocError.{AllocError}
use Rattle.std.specs.Slice.Iter.{split_rest, split_done, split_callee}
use Rattle.std.proofs.lemmas.Iterator.{YieldsList-from_map, items_from_collect}
use Rattle.std.proofs.lemmas.Iterator.Splits.{YieldsList-from_slice_split}
use borrow.Author.Tests.{tests}
use Rattle.query_marks.specs.LimitNames.{place_of}
use Rattle.query_marks.proofs.names.numbers_of.Goals as goal

pub returns : goal.returns
returns c = c.from_vec.ensures ∙ items_from_collect {E = AllocError} (Ok c.in_ok-numbers.numbers) c.in_ok-numbers.ensures.ran
    (YieldsList-from_map _ (place_of c.args.list.now)
    (YieldsList-from_slice_split _ (λ b. b == 44) c.args.names.now
    (ap split_rest c.map.ensures.source ∙ c.split.ensures.rest) (ap split_done c.map.ensures.source ∙ c.split.ensures.done) (ap split_callee c.map.ensures.source ∙ c.split.ensures.closure)
    (λ x b q k. search (rules, tests)))
    c.map.ensures.closure (λ x r q k. search rules))
