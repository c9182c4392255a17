-- Replies and their packets: OK, ERR, or a result set. "COM_QUERY Response" of the protocol.
use Rattle.std.specs.Prelude.{ℕ, List, [], ◌∷◌, map, Bool, true, false}
use Rattle.mysql_wire.specs.Replies.{ok_payload, err_payload}
use Rattle.mysql_wire.specs.declared.rows.Column.{Column}
use Rattle.mysql_wire.specs.declared.rows.ColumnKind.TheVariants as kinds
use Rattle.mysql_wire.specs.declared.rows.Cell.{Cell}
use Rattle.mysql_wire.specs.declared.rows.Cell.TheVariants as cells
use Rattle.reply_rows.specs.ResultSets.{sets_payloads}
use Rattle.reply_rows.specs.Written.{Written, then_reply}
use Rattle.reply_rows.specs.declared.result_set.ResultSet.{ResultSet}
use Rattle.ql_refusals.specs.Refusals.{Refused, state_of}
use Rattle.ql_answers.specs.declared.meta.Meta.{Meta}

-- a reply: rows affected, rows shown, what a SELECT found with what SHOW META tells of it, or a refusal
pub data Reply : Type 0 where
  Done : (affected : ℕ) → Reply
  Shows : (set : ResultSet) → Reply
  Finds : (sets : List ResultSet) (meta : Meta) → Reply
  Fails : (refusal : Refused) → Reply

-- the payloads of a reply, with this status
abbrev pub payloads : ℕ → Reply → List (List ℕ)
payloads status (Done affected) = ok_payload affected status ∷ []
payloads status (Shows set) = sets_payloads status (set ∷ [])
payloads status (Finds sets meta) = sets_payloads status sets
payloads status (Fails refusal) = err_payload refusal.code (state_of refusal.code) refusal.text ∷ []

-- a reply is a refusal
abbrev pub is_refusal : Reply → Bool
is_refusal (Done affected) = false
is_refusal (Shows set) = false
is_refusal (Finds sets meta) = false
is_refusal (Fails refusal) = true

-- what is written once this reply follows, with this status
abbrev pub replied : Written → ℕ → Reply → Written
replied written status reply = then_reply written (payloads status reply) (is_refusal reply)

-- a column of texts
abbrev pub text_column : List ℕ → Column
text_column name = record { name = name; kind = kinds.Text }

-- rows of one text, and of two
abbrev pub single : List ℕ → List Cell
single text = cells.Text text ∷ []

abbrev pub pair : List ℕ → List ℕ → List Cell
pair first second = cells.Text first ∷ cells.Text second ∷ []

-- a result set whose columns are texts
abbrev pub texts : List (List ℕ) → List (List Cell) → ResultSet
texts columns rows = record { columns = map text_column columns; rows = rows }
