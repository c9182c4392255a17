use Rattle.std.proofs.Common.{rules, Ok, ap, ◌∙◌}
use Rattle.std.specs.declared.alloc.AllocError.{AllocError}
use borrow.Author.Tests.{tests}
use Rattle.std.specs.Iterator.Adapters.{take_source, take_count}
use Rattle.std.specs.Slice.Iter.{iter_rest}
use Rattle.std.specs.Vec.{vec_items}
use Rattle.std.proofs.lemmas.Iterator.{YieldsList-from_slice, YieldsList-from_take, text_from_collect}
use Rattle.std.proofs.lemmas.Iterator.Consumers.{YieldsList-from_filter_map}
use Rattle.query_marks.proofs.words.word.Goals as goal

pub returns : goal.returns
returns c = c.new.ensures ∙ ap vec_items c.into_bytes.ensures.value ∙ text_from_collect {E = AllocError} (Ok c.in_ok-text.text) c.in_ok-text.ensures.ran
    (YieldsList-from_filter_map _ (λ letter. letter)
    (YieldsList-from_take 42
    (YieldsList-from_slice c.args.run.now (ap (λ s. iter_rest (take_source s)) c.filter_map.ensures.source ∙ ap iter_rest c.take.ensures.source ∙ c.iter.ensures.rest))
    (ap take_count c.filter_map.ensures.source ∙ c.take.ensures.count))
    c.filter_map.ensures.closure (λ x r q k. search (rules, tests)))
