use Rattle.std.proofs.Common.{sym, ◌∙◌}
use Rattle.conf_text.proofs.DraftLemmas.{strip_lacks, key_lacks, finished}
use Rattle.conf_text.proofs.draft.Draft.end.Goals as goal

pub returns-then-lacks_strip : goal.returns-then-lacks_strip
returns-then-lacks_strip c = λ name entries is. sym (strip_lacks name entries c.args.self is) ∙ sym c.lacks_strip.ensures ∙ c.if-lacks_strip.true

pub returns-then-lacks_key : goal.returns-then-lacks_key
returns-then-lacks_key c = λ name entries is. (
  sym (strip_lacks name entries c.args.self is) ∙ sym c.lacks_strip.ensures ∙ c.if-lacks_strip.false,
  sym (key_lacks name entries c.args.self is) ∙ sym c.lacks_key.ensures ∙ c.if-lacks_key.true,
)

pub returns : goal.returns
returns c = λ name entries is. (
  record {
    stripped = sym (strip_lacks name entries c.args.self is) ∙ sym c.lacks_strip.ensures ∙ c.if-lacks_strip.false;
    whole = sym (key_lacks name entries c.args.self is) ∙ sym c.lacks_key.ensures ∙ c.if-lacks_key.false;
  },
  finished name entries c.args.self c.in_ok-index.index is c.in_ok-index.ensures,
)
