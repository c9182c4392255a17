use Rattle.std.proofs.Common.{◌≡◌, true, false, rules}
use Rattle.std.specs.List.{list_any}
use Rattle.doc_types.specs.Commits.{change_of}
use Rattle.store_steps.specs.Refusals.{is_put}
use Rattle.store_keep.proofs.Accepting.{most_is}
use Rattle.store_keep.proofs.preparing.most_log.Goals as goal

pub returns-then-puts_any : goal.returns-then-puts_any
returns-then-puts_any c = let is : list_any (λ op. is_put (change_of op)) c.args.txn.now.ops ≡ true = search rules in most_is c.args.txn.now.ops true is

pub returns-else-puts_any : goal.returns-else-puts_any
returns-else-puts_any c = let is : list_any (λ op. is_put (change_of op)) c.args.txn.now.ops ≡ false = search rules in most_is c.args.txn.now.ops false is
