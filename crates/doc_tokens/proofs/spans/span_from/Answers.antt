use Rattle.doc_tokens.proofs.SpanLists.{span_found}
use Rattle.doc_tokens.proofs.spans.span_from.Goals as goal

pub returns-then-tag-end : goal.returns-then-tag-end
returns-then-tag-end c = span_found c.args.words.now c.args.tag c.args.end c.index-words-tag.result c.index-words-end.result c.if-tag.true c.if-tag-end.true c.requires
