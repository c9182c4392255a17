use Rattle.std.proofs.Common.{◌∙◌, ap}
use Rattle.conf_text.specs.declared.reading.LinePlace.TheVariants.{Inside}
use Rattle.conf_text.proofs.TakenLines.{enters_index}
use Rattle.conf_text.proofs.reading.take_entry.Goals as goal

pub returns-in-Inside-Index : goal.returns-in-Inside-Index
returns-in-Inside-Index c = λ texts entries are has.
    enters_index texts entries c.args.place.now c.in-Inside-Index.draft c.take_index_entry.new.draft c.args.key c.args.value.now c.take_index_entry.result (c.in-Inside-Index.is ∙ ap Inside c.in-Inside-Index.field-0-is) (λ is. c.take_index_entry.ensures texts entries are is) has
