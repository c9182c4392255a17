use Rattle.std.proofs.Common.{◌+◌, List, [], ◌∷◌, ◌++◌, Bool, true, length, sym, ◌∙◌, ap, append_assoc}
use Rattle.std.specs.Str.{chars}
use Rattle.charset_map.specs.Spans.{folded}
use Rattle.mark_scan.specs.declared.mark.Mark.{Mark}
use Rattle.mark_scan.specs.declared.mark.MarkKind.TheVariants.{Text}
use Rattle.mark_scan.specs.Marks.{run_of, sentences_of}
use Rattle.mark_scan.specs.Tags.{span}
use Rattle.mark_scan.proofs.marking.push_plain.Goals as goal

-- the mark of the piece, and then those of the ends of sentences in it
pub returns : goal.returns
returns c = λ parts are seen keeps.
    let old = c.args.list.now.items in
    let mark = span c.args.from (c.args.from + length c.args.text.now) Text in
    let ends = λ (sp : Bool). sentences_of sp (folded c.args.charset.now) c.args.from seen (chars c.args.text.now) (chars (run_of c.args.rules.now.zones parts)) in
    let found = c.in_ok-state.ensures parts are seen (keeps c.if-not-rules.false) in (
      found.0
          ∙ ap (λ (l : List Mark). l ++ ends true) c.in_ok-push.ensures.items
          ∙ append_assoc old (mark ∷ []) (ends true)
          ∙ ap (λ (sp : Bool). old ++ mark ∷ ends sp) (sym c.if-not-rules.false),
      λ sp. found.1,
    )
