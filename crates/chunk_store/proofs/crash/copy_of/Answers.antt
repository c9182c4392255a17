use Rattle.std.specs.BTreeMap.{is_at}
use Rattle.std.specs.Ordering.{nat_cmp}
use Rattle.chunk_store.proofs.Outcomes.{copied}
use Rattle.chunk_store.proofs.crash.copy_of.Goals as goal

pub returns : goal.returns
returns c = λ f. copied (is_at (nat_cmp f)) c.args.files.now.entries c.in_ok-clone.field-0.entries c.in_ok-clone.ensures.cases
