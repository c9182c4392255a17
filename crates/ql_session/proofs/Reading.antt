-- A text is read by its tokens.
use Rattle.std.proofs.Common.{ℕ, List, Ok, Err, inr}
use Rattle.std.specs.Prelude.{Result, Vec}
use Rattle.srch_base.specs.declared.faults.Or.{Or}
use Rattle.srch_base.specs.declared.faults.Or.TheVariants as causes
use Rattle.ql_tree.specs.declared.statement.Statement.{Statement}
use Rattle.ql_lex.specs.Tokens.{AreTokens, Lexeme}
use Rattle.ql_refusals.specs.Refusals.{Refused}
use Rattle.ql_session.specs.steps.Running.{ReadsText, ReadsTokens}

pub reads_by : {M : Type 0} (text : List ℕ) (tokens : List Lexeme) (result : Result (Vec Statement M) (Or Refused)) → AreTokens text tokens → ReadsTokens tokens result → ReadsText text result
reads_by text tokens (Ok statements) are reads = (tokens, are, reads.0, reads.1)
reads_by text tokens (Err causes.NoMemory) are reads = tt
reads_by text tokens (Err (causes.Fault refusal)) are reads = inr (tokens, are, reads)
