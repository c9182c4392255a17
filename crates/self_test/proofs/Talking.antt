-- A query's answer, and packets one by one.
use Rattle.std.proofs.Common.{◌≡◌, ℕ, suc, ◌+◌, ◌*◌, ◌%◌, ◌<◌, List, [], ◌∷◌, ◌++◌, length, drop, arith, refl, sym, ap, ◌∙◌, subst, append_assoc, length-append}
use Rattle.std.specs.Prelude.{◌≤◌, Some, slice_index}
use Rattle.std.proofs.Math.Seq.{drop-append_seam}
use Rattle.std.proofs.lemmas.Option.{some_pair_parts}
use Rattle.mysql_wire.specs.Commands.{Query, Quit as asks_quit}
use Rattle.mysql_wire.specs.Packets.{header_of, max_payload, packet, packets_from}
use Rattle.mysql_wire.proofs.FrontLaws.{packet_header}
use Rattle.index_conf.specs.declared.conf.IndexConf.{IndexConf}
use Rattle.ql_answers.specs.declared.state.State.{State}
use Rattle.ql_session.specs.Events.{StoreWords}
use Rattle.ql_session.specs.Session.{TakesStep}
use Rattle.ql_session.specs.declared.session.StepEnd.{StepEnd}
use Rattle.ql_session.specs.declared.session.StepEnd.TheVariants.{Reply, Quit}
use Rattle.self_test.specs.Asking.{Asks}

module _ {D F : Type 0} (confs : D → List IndexConf) (words : StoreWords D F) where
  -- a query is no COM_QUIT
  pub query_answered : (end : StepEnd) (text reply : List ℕ) (old new : State) (before left : D) → TakesStep confs words end old (Query text) before left reply new
      → Asks confs words text reply old before new left
  unfolding Asks
  query_answered Reply text reply old new before left (differs, answered) = answered
  query_answered Quit text reply old new before left (is, stays, none, still) = let clash : Query text ≡ asks_quit = is in cc

packet_long : (seq : ℕ) (payload : List ℕ) → length (packet seq payload) ≡ 4 + length payload
unfolding packet
packet_long seq payload = omega arith

-- the first three bytes of a packet are the length of its payload
header_is : (bytes : List ℕ) → 4 ≤ length bytes → header_of bytes ≡ Some (slice_index bytes 0 + 256 * slice_index bytes 1 + 65536 * slice_index bytes 2, slice_index bytes 3)
header_is [] long = absurd (omega (arith, long))
header_is (a ∷ []) long = absurd (omega (arith, long))
header_is (a ∷ b ∷ []) long = absurd (omega (arith, long))
header_is (a ∷ b ∷ c ∷ []) long = absurd (omega (arith, long))
header_is (a ∷ b ∷ c ∷ d ∷ rest) long = refl

header_tells : (seq : ℕ) (bytes payload rest : List ℕ) → length payload ≤ max_payload → bytes ≡ packet seq payload ++ rest
    → slice_index bytes 0 + 256 * slice_index bytes 1 + 65536 * slice_index bytes 2 ≡ length payload
header_tells seq bytes payload rest short is =
    let long : 4 ≤ length bytes = omega (arith, ap length is, length-append (packet seq payload) rest, packet_long seq payload) in
    let same : Some (slice_index bytes 0 + 256 * slice_index bytes 1 + 65536 * slice_index bytes 2, slice_index bytes 3) ≡ Some (length payload, seq) =
    sym (header_is bytes long) ∙ ap header_of is ∙ packet_header seq payload rest short in
    (some_pair_parts (slice_index bytes 0 + 256 * slice_index bytes 1 + 65536 * slice_index bytes 2) (length payload) (slice_index bytes 3) seq same).0

-- what is cut off behind them and it is the rest
pub rest_behind : (seq size : ℕ) (bytes payload rest : List ℕ) → length payload ≤ max_payload → bytes ≡ packet seq payload ++ rest
    → size ≡ slice_index bytes 0 + 256 * slice_index bytes 1 + 65536 * slice_index bytes 2 → drop (4 + size) bytes ≡ rest
rest_behind seq size bytes payload rest short is sized =
    let long : 4 + size ≡ length (packet seq payload) = omega (arith, sized, header_tells seq bytes payload rest short is, packet_long seq payload) in
    ap (λ (n : ℕ). drop n bytes) long ∙ ap (λ (b : List ℕ). drop (length (packet seq payload)) b) is ∙ drop-append_seam (packet seq payload) rest

-- less than a header is no packet
pub no_packet : (seq : ℕ) (bytes payload rest : List ℕ) → length bytes < 4 → bytes ≡ packet seq payload ++ rest → ⊥
no_packet seq bytes payload rest small is = omega (arith, ap length is, length-append (packet seq payload) rest, packet_long seq payload, small)

-- Of the packets that some bytes are, so many are left.
abbrev pub Left : List ℕ → ℕ → List ℕ → Type 0
Left reply count rest = (payloads : List (List ℕ)) → reply ≡ packets_from 1 payloads → (seq : ℕ) × (more : List (List ℕ)) × (rest ≡ packets_from seq more) × (length payloads ≡ count + length more)

-- all are
pub all_left : (reply : List ℕ) → Left reply 0 reply
all_left reply = λ payloads is. (1, payloads, is, omega arith)

-- one less is, where the bytes were cut behind the first packet
one_less_of : (seq count : ℕ) (rest next : List ℕ) (more payloads : List (List ℕ)) → rest ≡ packets_from seq more → length payloads ≡ count + length more → 1 ≤ length rest → length rest ≤ max_payload
    → ((seq : ℕ) (payload tail : List ℕ) → length payload ≤ max_payload → rest ≡ packet seq payload ++ tail → next ≡ tail)
    → (after : ℕ) × (fewer : List (List ℕ)) × (next ≡ packets_from after fewer) × (length payloads ≡ (count + 1) + length fewer)
one_less_of seq count rest next [] payloads is many some short cut = absurd (omega (arith, ap length is, some))
one_less_of seq count rest next (payload ∷ fewer) payloads is many some short cut =
    let after : ℕ = (seq + 1) % 256 in
    let long : length payload ≤ max_payload = omega (arith, ap length is, length-append (packet seq payload) (packets_from after fewer), packet_long seq payload, short) in
    (after, fewer, cut seq payload (packets_from after fewer) long is, omega (arith, many))

pub one_less : (reply rest next : List ℕ) (count : ℕ) → Left reply count rest → 1 ≤ length rest → length rest ≤ max_payload
    → ((seq : ℕ) (payload tail : List ℕ) → length payload ≤ max_payload → rest ≡ packet seq payload ++ tail → next ≡ tail) → Left reply (count + 1) next
one_less reply rest next count left some short cut = λ payloads is.
    let (seq, more, are, many) = left payloads is in
    one_less_of seq count rest next more payloads are many some short cut

-- none is
none_of : (seq count : ℕ) (rest : List ℕ) (more payloads : List (List ℕ)) → rest ≡ packets_from seq more → length payloads ≡ count + length more → length rest ≡ 0 → count ≡ length payloads
none_of seq count rest [] payloads is many none = omega (arith, many)
none_of seq count rest (payload ∷ more) payloads is many none =
    absurd (omega (arith, ap length is, length-append (packet seq payload) (packets_from ((seq + 1) % 256) more), packet_long seq payload, none))

pub none_left : (reply rest : List ℕ) (count : ℕ) → Left reply count rest → length rest ≡ 0 → (payloads : List (List ℕ)) → reply ≡ packets_from 1 payloads → count ≡ length payloads
none_left reply rest count left none payloads is =
    let (seq, more, are, many) = left payloads is in
    none_of seq count rest more payloads are many none
