use Rattle.std.proofs.Common.{rules}
use Rattle.std.proofs.lemmas.Bool.{not-true, not-false}
use Rattle.table_search.proofs.OnceKeys.{key_added, key_there}
use Rattle.table_search.proofs.keywords.put_first.Goals as goal

pub returns-in_ok-push : goal.returns-in_ok-push
returns-in_ok-push c =
    key_added c.args.keys.now.items c.deref.result.now c.push.new.self.items c.args.key c.is_among.result c.deref.ensures.value c.is_among.ensures (search (rules, not-true)) c.in_ok-push.ensures.items

pub returns-else-not-is_among : goal.returns-else-not-is_among
returns-else-not-is_among c =
    key_there c.args.keys.now.items c.deref.result.now c.args.key c.is_among.result c.deref.ensures.value c.is_among.ensures (search (rules, not-false))
