-- What the reader of a packet answers is what the parser answers.
use Rattle.std.proofs.Common.{◌≡◌, ℕ, List, refl}
use Rattle.std.specs.Prelude.{Err}
use Rattle.srch_base.specs.declared.faults.Or.{Or}
use Rattle.srch_base.specs.declared.faults.Or.TheVariants.{NoMemory, Fault}
use Rattle.ql_lex.specs.Tokens.{Lexeme}
use Rattle.ql_grammar.specs.Packets.{Parses}
use Rattle.ql_read.specs.steps.PacketReading.{LeavesPackets, syntax_error}
use Rattle.ql_read.proofs.Faults.{syntax_fault}

pub syntax_parses : (M : Type 0) {tokens : List Lexeme} (e : Or ℕ) → ((place : ℕ) → e ≡ Fault place → LeavesPackets tokens place) → Parses {M = M} tokens (Err (syntax_error e))
syntax_parses M NoMemory h = tt
syntax_parses M (Fault place) h = syntax_fault (h place refl)
