-- Which refusal a reply's bytes are.
use Rattle.std.proofs.Common.{◌≡◌, ℕ, ◌+◌, List, [], ◌∷◌, ◌++◌, Bool, true, false, ◌||◌, length, map, refl, ap, ◌∙◌}
use Rattle.std.proofs.lemmas.Bool.{eqb-true}
use Rattle.mysql_wire.specs.LengthEncoded.{lenenc}
use Rattle.mysql_wire.specs.Packets.{packet, packets_from}
use Rattle.mysql_wire.specs.Replies.{eof_payload, err_payload, ok_packet, ok_payload}
use Rattle.mysql_wire.specs.Rows.{column_payload, row_payload}
use Rattle.reply_rows.specs.ResultSets.{sets_payloads}
use Rattle.reply_rows.specs.declared.result_set.ResultSet.{ResultSet}
use Rattle.ql_refusals.specs.Refusals.{Refused, no_memory, state_of}
use Rattle.ql_answers.specs.Replies.{Done, Fails, Finds, Reply, Shows, payloads}
use Rattle.ql_answers.specs.States.{status_of}
use Rattle.ql_answers.specs.declared.state.State.{State}
use Rattle.self_test.specs.Asking.{bytes_of, has_code, is_stop}
use Rattle.self_test.specs.steps.Replies.{is_err, is_err_of, stops}

-- An ERR of these codes says so by its bytes.

memory_err : (state text more : List ℕ) → is_err_of 1037 (packet 1 (err_payload 1037 state text) ++ more) ≡ true
unfolding packet err_payload
memory_err state text more = refl

disk_err : (state text more : List ℕ) → is_err_of 1105 (packet 1 (err_payload 1105 state text) ++ more) ≡ true
unfolding packet err_payload
disk_err state text more = refl

some_err : (code : ℕ) (state text more : List ℕ) → is_err (packet 1 (err_payload code state text) ++ more) ≡ true
unfolding packet err_payload
some_err code state text more = refl

-- an OK is none
no_err : (affected status : ℕ) → is_err (ok_packet 1 affected status) ≡ false
unfolding packet ok_payload
no_err affected status = refl

by_code : (code : ℕ) (reply : Reply) → has_code code reply ≡ true → (refusal : Refused) × (reply ≡ Fails refusal) × (refusal.code ≡ code)
by_code code (Done affected) is = absurd (cc is)
by_code code (Shows set) is = absurd (cc is)
by_code code (Finds sets meta) is = absurd (cc is)
by_code code (Fails refusal) is = (refusal, refl, eqb-true refusal.code code is)

memory_errs : (state : State) (reply : Reply) → has_code 1037 reply ≡ true → is_err_of 1037 (bytes_of state reply) ≡ true
memory_errs state reply is =
    let (refusal, fails, code) = by_code 1037 reply is in
    ap (λ (r : Reply). is_err_of 1037 (bytes_of state r)) fails
    ∙ ap (λ (n : ℕ). is_err_of 1037 (packet 1 (err_payload n (state_of n) refusal.text) ++ [])) code
    ∙ memory_err (state_of 1037) refusal.text []

disk_errs : (state : State) (reply : Reply) → has_code 1105 reply ≡ true → is_err_of 1105 (bytes_of state reply) ≡ true
disk_errs state reply is =
    let (refusal, fails, code) = by_code 1105 reply is in
    ap (λ (r : Reply). is_err_of 1105 (bytes_of state r)) fails
    ∙ ap (λ (n : ℕ). is_err_of 1105 (packet 1 (err_payload n (state_of n) refusal.text) ++ [])) code
    ∙ disk_err (state_of 1105) refusal.text []

-- want of memory to read a text is one
pub unread_errs : is_err_of 1037 (packets_from 1 (payloads 0 (Fails no_memory))) ≡ true
unread_errs = memory_err (state_of 1037) no_memory.text []

both_not : (p : Bool) → p ≡ true → p ≡ false → ⊥
both_not p true_is false_is = cc (true_is, false_is)

-- an OK isn't the refusal for want of memory to read a text
pub ok_is_read : (bytes : List ℕ) (affected status : ℕ) → bytes ≡ ok_packet 1 affected status → bytes ≡ packets_from 1 (payloads 0 (Fails no_memory)) → ⊥
ok_is_read bytes affected status ok unread =
    both_not (is_err bytes) (ap is_err unread ∙ some_err 1037 (state_of 1037) no_memory.text []) (ap is_err ok ∙ no_err affected status)

-- Bytes that say of no stop are no such refusal, nor is their reply.

not_either : (p q : Bool) → (p || q) ≡ false → (p ≡ false) × (q ≡ false)
not_either true q neither = absurd (cc neither)
not_either false q neither = (refl, neither)

either_not : (p q : Bool) → (p ≡ true → ⊥) → (q ≡ true → ⊥) → (p || q) ≡ false
either_not true q first second = absurd (first refl)
either_not false true first second = absurd (second refl)
either_not false false first second = refl

not_unread : (bytes : List ℕ) → is_err_of 1037 bytes ≡ false → bytes ≡ packets_from 1 (payloads 0 (Fails no_memory)) → ⊥
not_unread bytes other unread = both_not (is_err_of 1037 bytes) (ap (is_err_of 1037) unread ∙ unread_errs) other

pub not_stop : (state : State) (reply : Reply) (bytes : List ℕ) → bytes ≡ bytes_of state reply → stops bytes ≡ false → is_stop reply ≡ false
not_stop state reply bytes is other =
    let neither = not_either (is_err_of 1037 bytes) (is_err_of 1105 bytes) other in
    either_not (has_code 1037 reply) (has_code 1105 reply)
    (λ (has : has_code 1037 reply ≡ true). both_not (is_err_of 1037 bytes) (ap (is_err_of 1037) is ∙ memory_errs state reply has) neither.0)
    (λ (has : has_code 1105 reply ≡ true). both_not (is_err_of 1105 bytes) (ap (is_err_of 1105) is ∙ disk_errs state reply has) neither.1)

pub stop_unread : (bytes : List ℕ) → stops bytes ≡ false → bytes ≡ packets_from 1 (payloads 0 (Fails no_memory)) → ⊥
stop_unread bytes other unread = not_unread bytes (not_either (is_err_of 1037 bytes) (is_err_of 1105 bytes) other).0 unread

-- a refusal is an ERR
pub refusal_errs : (state : State) (reply : Reply) (bytes : List ℕ) (refusal : Refused) → bytes ≡ bytes_of state reply → reply ≡ Fails refusal → is_err bytes ≡ true
refusal_errs state reply bytes refusal is fails =
    ap is_err is ∙ ap (λ (r : Reply). is_err (bytes_of state r)) fails ∙ some_err refusal.code (state_of refusal.code) refusal.text []

-- a result set of one column is none
one_column : packet 1 (lenenc 1) ≡ 1 ∷ 0 ∷ 0 ∷ 1 ∷ 1 ∷ []
unfolding packet lenenc
one_column = refl

set_begins : (status : ℕ) (set : ResultSet) → length set.columns ≡ 1 → (more : List ℕ) × (packets_from 1 (sets_payloads status (set ∷ [])) ≡ packet 1 (lenenc 1) ++ more)
set_begins status set one =
    let rest : List (List ℕ) = map column_payload set.columns ++ eof_payload status ∷ map row_payload set.rows ++ eof_payload status ∷ [] in
    (packets_from 2 (rest ++ []), ap (λ (n : ℕ). packet 1 (lenenc n) ++ packets_from 2 (rest ++ [])) one)

pub set_is_no_err : (state : State) (reply : Reply) (bytes : List ℕ) (set : ResultSet) → bytes ≡ bytes_of state reply → payloads (status_of state false) reply ≡ sets_payloads (status_of state false) (set ∷ [])
    → length set.columns ≡ 1 → is_err bytes ≡ true → ⊥
set_is_no_err state reply bytes set is sets one errs =
    let (more, begins) = set_begins (status_of state false) set one in
    let same : bytes ≡ packet 1 (lenenc 1) ++ more = is ∙ ap (packets_from 1) sets ∙ begins in
    let other : is_err bytes ≡ false = ap is_err same ∙ ap (λ (first : List ℕ). is_err (first ++ more)) one_column in
    both_not (is_err bytes) errs other
