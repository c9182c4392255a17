use Rattle.ql_lex.proofs.NameTokens.{name_token, name_long}
use Rattle.ql_lex.proofs.names.name_at.Goals as goal

pub returns-then-len-le-MAX_NAME_BYTES : goal.returns-then-len-le-MAX_NAME_BYTES
returns-then-len-le-MAX_NAME_BYTES c = name_token c.args.text.now c.args.at c.name_len-len.result c.requires.within c.requires.letter c.name_len-len.ensures c.if-len-le-MAX_NAME_BYTES.true

pub returns-else-len-le-MAX_NAME_BYTES : goal.returns-else-len-le-MAX_NAME_BYTES
returns-else-len-le-MAX_NAME_BYTES c = name_long c.args.text.now c.args.at c.name_len-len.result c.requires.within c.requires.letter c.name_len-len.ensures c.if-len-le-MAX_NAME_BYTES.false
