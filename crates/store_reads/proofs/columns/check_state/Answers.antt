use Rattle.std.proofs.Common.{◌∙◌, sym}
use Rattle.store_reads.proofs.RootFound.{bad_columns}
use Rattle.store_reads.proofs.columns.check_state.Goals as goal

pub returns-clause-checks : goal.returns-clause-checks
returns-clause-checks c = λ schema text x own same stands.
    bad_columns schema c.args.root.now c.args.state.now own x _ (c.from-file.ensures ∙ c.slot.ensures.holder) (λ e. c.if-same_bytes.ensures (c.as_bytes.ensures ∙ e ∙ sym text)) same stands
