use Rattle.std.proofs.Common.{◌≡◌, ◌∙◌, ap, sym, subst, false, Bool, Ok, List}
use Rattle.index_conf.specs.declared.conf.IndexConf.{IndexConf}
use Rattle.conf_text.specs.steps.Drafts.{AreIndexes}
use Rattle.conf_text.specs.Faults.{is_syntax}
use Rattle.conf_text.specs.Sections.{LinePlace, spot_at}
use Rattle.conf_text.specs.Shapes.{Shape, closing, entry, index_head, opening, other_head, small}
use Rattle.conf_text.specs.steps.SeenShapes.{seen}
use Rattle.conf_text.specs.steps.Taking.{TakesLine, place_of, reached}
use Rattle.conf_text.proofs.TakenLines.{begun, begun_other, closed, entered, opened}
use Rattle.conf_text.proofs.reading.take_line.Goals as goal

-- what the test of a line says of its shape
fine_at : (place : LinePlace) (line shape : Shape) (last test : Bool) → line ≡ shape → test ≡ is_syntax place line last → test ≡ false → is_syntax place shape last ≡ false
fine_at place line shape last test same is holds = ap (λ (l : Shape). is_syntax place l last) (sym same) ∙ sym is ∙ holds

pub returns-in-IndexHead : goal.returns-in-IndexHead
returns-in-IndexHead c = λ texts entries are has.
    let place : LinePlace = place_of c.args.place.now in
    let line : Shape = index_head (small c.in-IndexHead.name.now) c.in-IndexHead.opens in
    let same : seen c.args.line ≡ line = ap seen c.in-IndexHead.is in
    let fine : is_syntax place line c.args.last ≡ false = fine_at place (seen c.args.line) line c.args.last c.misplaced.result same c.misplaced.ensures c.if-misplaced.false in
    let seen_are : AreIndexes texts c.as_slice.result.now = subst (λ (l : List IndexConf). AreIndexes texts l) (sym c.as_slice.ensures.value) are in
    subst (λ (l : Shape). TakesLine (spot_at texts entries place) l c.args.last c.args.indexes.now.items (reached c.start_index.new.place c.start_index.result)) (sym same)
    (begun texts entries place (small c.in-IndexHead.name.now) c.in-IndexHead.opens c.args.last c.args.indexes.now.items (reached c.start_index.new.place c.start_index.result) fine are (c.start_index.ensures texts seen_are))

pub returns-in-OtherHead : goal.returns-in-OtherHead
returns-in-OtherHead c = λ texts entries are has.
    let place : LinePlace = place_of c.args.place.now in
    let line : Shape = other_head c.in-OtherHead.opens in
    let same : seen c.args.line ≡ line = ap seen c.in-OtherHead.is in
    let fine : is_syntax place line c.args.last ≡ false = fine_at place (seen c.args.line) line c.args.last c.misplaced.result same c.misplaced.ensures c.if-misplaced.false in
    subst (λ (l : Shape). TakesLine (spot_at texts entries place) l c.args.last c.args.indexes.now.items (Ok c.go_to.new.place)) (sym same)
    (begun_other texts entries place c.in-OtherHead.opens c.args.last c.args.indexes.now.items c.go_to.new.place fine are (c.go_to.ensures ∙ c.after_head.ensures))

pub returns-in-Opening : goal.returns-in-Opening
returns-in-Opening c = λ texts entries are has.
    let place : LinePlace = place_of c.args.place.now in
    let same : seen c.args.line ≡ opening = ap seen c.in-Opening.is in
    let fine : is_syntax place opening c.args.last ≡ false = fine_at place (seen c.args.line) opening c.args.last c.misplaced.result same c.misplaced.ensures c.if-misplaced.false in
    subst (λ (l : Shape). TakesLine (spot_at texts entries place) l c.args.last c.args.indexes.now.items (Ok c.enter.new.place)) (sym same)
    (opened texts entries place c.args.last c.args.indexes.now.items c.enter.new.place fine are (c.enter.ensures entries has))

pub returns-in-Closing : goal.returns-in-Closing
returns-in-Closing c = λ texts entries are has.
    let place : LinePlace = place_of c.args.place.now in
    let same : seen c.args.line ≡ closing = ap seen c.in-Closing.is in
    let fine : is_syntax place closing c.args.last ≡ false = fine_at place (seen c.args.line) closing c.args.last c.misplaced.result same c.misplaced.ensures c.if-misplaced.false in
    subst (λ (l : Shape). TakesLine (spot_at texts entries place) l c.args.last c.close_section.new.indexes.items (reached c.close_section.new.place c.close_section.result)) (sym same)
    (closed texts entries place c.args.last c.close_section.new.indexes.items (reached c.close_section.new.place c.close_section.result) fine (c.close_section.ensures texts entries are has))

pub returns-in-Entry : goal.returns-in-Entry
returns-in-Entry c = λ texts entries are has.
    let place : LinePlace = place_of c.args.place.now in
    let line : Shape = entry c.in-Entry.key c.in-Entry.value.now in
    let same : seen c.args.line ≡ line = ap seen c.in-Entry.is in
    let fine : is_syntax place line c.args.last ≡ false = fine_at place (seen c.args.line) line c.args.last c.misplaced.result same c.misplaced.ensures c.if-misplaced.false in
    let seen_are : AreIndexes texts c.as_slice-in-Entry.result.now = subst (λ (l : List IndexConf). AreIndexes texts l) (sym c.as_slice-in-Entry.ensures.value) are in
    subst (λ (l : Shape). TakesLine (spot_at texts entries place) l c.args.last c.args.indexes.now.items (reached c.take_entry.new.place c.take_entry.result)) (sym same)
    (entered texts entries place c.in-Entry.key c.in-Entry.value.now c.args.last c.args.indexes.now.items (reached c.take_entry.new.place c.take_entry.result) fine are (c.take_entry.ensures texts entries seen_are has))
