use Rattle.std.proofs.Common.{◌∙◌, ap}
use Rattle.std.specs.List.{prefix_len}
use Rattle.charset_map.specs.Spans.{folded}
use Rattle.doc_tokens.specs.steps.TokenReader.{is_own}
use Rattle.doc_tokens.proofs.OwnRuns.{cut_run, cut_parts}
use Rattle.doc_tokens.proofs.plain.own_run.Goals as goal

pub split_at-requires : goal.split_at-requires
split_at-requires c =
    let fold = folded c.args.charset.now in
    cut_run fold c.args.text.now c.own_letters.result c.utf8.text (c.own_letters.ensures ∙ ap (prefix_len (is_own fold)) c.as_bytes.ensures.value)

pub returns : goal.returns
returns c =
    let fold = folded c.args.charset.now in
    cut_parts fold c.args.text.now c.split_at.result.0.now c.split_at.result.1.now c.own_letters.result c.utf8.text
    (c.own_letters.ensures ∙ ap (prefix_len (is_own fold)) c.as_bytes.ensures.value) c.split_at.ensures.front c.split_at.ensures.back
