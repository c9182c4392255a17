use Rattle.std.proofs.Common.{◌∙◌}
use Rattle.ql_lex.proofs.BadBytes.{slash_bad}
use Rattle.ql_lex.proofs.comments.comment_at.Goals as goal

pub returns-then-byte_at-ne42 : goal.returns-then-byte_at-ne42
returns-then-byte_at-ne42 c = slash_bad c.args.text.now c.args.at c.requires.within c.requires.slash (λ star. c.if-byte_at-ne42.true (c.byte_at.ensures ∙ star))
