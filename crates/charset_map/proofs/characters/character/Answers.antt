use Rattle.std.proofs.Common.{arith}
use Rattle.charset_map.proofs.CharacterLemmas.{character_from_code}
use Rattle.charset_map.proofs.characters.character.Goals as goal

pub returns-in-85 : goal.returns-in-85
returns-in-85 c = character_from_code c.args.text.now c.code_point.result c.in-85.len_at_least (omega arith) (omega arith) c.code_point.ensures
