use Rattle.std.proofs.Common.{◌∙◌, ap, sym}
use Rattle.conf_text.specs.declared.reading.LinePlace.TheVariants.{Inside}
use Rattle.conf_text.proofs.TakenLines.{closes_index}
use Rattle.conf_text.proofs.reading.close_section.Goals as goal

pub returns-in-Inside-Index : goal.returns-in-Inside-Index
returns-in-Inside-Index c = λ texts entries are has.
    closes_index texts entries c.args.place.now c.replace-ended.new.dest c.in-Inside-Index.draft c.args.indexes.now.items c.push.new.self.items c.in_ok-end-in-Inside-Index.field-0 (sym c.replace-ended.ensures.value ∙ c.in-Inside-Index.is ∙ ap Inside c.in-Inside-Index.field-0-is) c.replace-ended.ensures.after c.in_ok-end-in-Inside-Index.ensures c.in_ok-push-in-Inside-Index.ensures.items are has
