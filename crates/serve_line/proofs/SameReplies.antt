-- Two connections over the same bytes write the same, where each command is answered in one way and neither connection met a fault.
use Rattle.std.proofs.Common.{◌≡◌, ◌≢◌, ◌⊎◌, ℕ, suc, ◌<◌, List, [], ◌∷◌, ◌++◌, refl, sym, ap, subst, ◌∙◌, inl, inr, arith, append_assoc}
use Rattle.std.specs.List.{flat_map}
use Rattle.srch_base.specs.Moves.{Meters}
use Rattle.mysql_wire.specs.Packets.{BeginsWith}
use Rattle.mysql_wire.specs.Fronts.{Front, Part, Packet, TooLarge as TooLargeFront, OutOfOrder as OutOfOrderFront, HasFront}
use Rattle.mysql_wire.specs.Handshake.{Response, IsResponse, IsBadResponse}
use Rattle.mysql_wire.specs.Commands.{ClientCommand, Quit as asks_quit, command_of}
use Rattle.mysql_wire.specs.Replies.{greeting, ok_packet}
use Rattle.serve_line.specs.Machines.{Machine, FollowAll}
use Rattle.serve_line.specs.Line.{Phase, Opened, Greeted, Talking, Turn, Step, Run, Finish, Stops, Ends, Listens, TakesPacket, expected, most_commands, bad_handshake_packet, too_large_packet, out_of_order_packet, EndsByClient}
use Rattle.serve_line.specs.declared.line.LinkEnd.{LinkEnd}
use Rattle.serve_line.specs.declared.line.LinkEnd.TheVariants.{Quit, End, Truncated, BadHandshake, TooLarge, OutOfOrder, ReadFault, WriteFault, Worn, NoMemory}

-- events of two lists one after another
pub follow_parts : {D E : Type 0} (follows : D → E → D → Type 0) (old : D) (first then : List E) (new : D) → FollowAll follows old (first ++ then) new
    → (mid : D) × FollowAll follows old first mid × FollowAll follows mid then new
follow_parts follows old [] then new all = (old, refl, all)
follow_parts follows old (event ∷ first) then new (next, here, later) =
    let rest = follow_parts follows next first then new later in
    (rest.0, (next, here, rest.1), rest.2)

-- What is written where a connection ends at this phase, by how the bytes that are left begin.
Last : {S : Type 0} → Phase S → Front → List ℕ → Type 0
Last phase Part last = last ≡ []
Last {S} phase (Packet payload rest) last =
    ((command_of payload ≡ asks_quit) × (expected phase ≡ 0) × (last ≡ []))
    ⊎ ((start : S) × (place : ℕ) × (phase ≡ Greeted start) × IsBadResponse payload place × (last ≡ bad_handshake_packet place))
Last phase (TooLargeFront size seq) last = last ≡ too_large_packet seq
Last phase (OutOfOrderFront seq) last = last ≡ out_of_order_packet seq

-- The connection listened and ends by the bytes that are left, or it has answered all commands that it may.
Ended : {S : Type 0} → Phase S → List ℕ → List ℕ → Type 0
Ended {S} phase rest last =
    ((front : Front) × Listens phase × HasFront (expected phase) rest front × Last phase front last)
    ⊎ ((state : S) × (phase ≡ Talking state most_commands) × (last ≡ []))

stopped : {S E : Type 0} (machine : Machine S E) (before now : Meters) (end : LinkEnd) (at : Finish S E) → EndsByClient end → Stops machine before now end at
    → Ended at.phase at.rest at.last × (at.events ≡ [])
unfolding Last Ended
stopped machine before now Quit at calm (payload, after, listens, zero, begins, quits, (last, none)) =
    (inl (Packet payload after, listens, subst (λ (n : ℕ). BeginsWith n at.rest payload after) (sym zero) begins, inl (quits, zero, last)), none)
stopped machine before now End at calm (listens, ended, empty, (last, none)) =
    (inl (Part, listens, subst (λ (bytes : List ℕ). HasFront (expected at.phase) bytes Part) (sym empty) (inl refl), last), none)
stopped machine before now Truncated at calm (listens, ended, some, part, (last, none)) = (inl (Part, listens, part, last), none)
stopped {S} machine before now (BadHandshake place) at calm ((payload, after, start, greeted, begins, bad, is), none) =
    let listens : Listens at.phase = subst (λ (phase : Phase S). Listens phase) (sym greeted) tt in
    let front : BeginsWith (expected at.phase) at.rest payload after =
    subst (λ (phase : Phase S). BeginsWith (expected phase) at.rest payload after) (sym greeted) begins in
    (inl (Packet payload after, listens, front, inr (start, place, greeted, bad, is)), none)
stopped machine before now (TooLarge size) at calm ((seq, large, listens, is), none) = (inl (TooLargeFront size seq, listens, large, is), none)
stopped machine before now (OutOfOrder seq) at calm ((out, listens, is), none) = (inl (OutOfOrderFront seq, listens, out, is), none)
stopped machine before now ReadFault at calm stops = absurd calm
stopped machine before now WriteFault at calm stops = absurd calm
stopped machine before now Worn at calm (state, is, (last, none)) = (inr (state, is, last), none)
stopped machine before now NoMemory at calm stops = absurd calm

-- the steps from each phase
opened_step : {S E : Type 0} (machine : Machine S E) (connection : ℕ) (start : S) (turn : Turn E) (next : Phase S) → Step machine (Opened connection start) turn next
    → (turn.read ≡ []) × (turn.written ≡ greeting connection) × (turn.events ≡ []) × (next ≡ Greeted start)
opened_step machine connection start turn (Greeted start') (read, written, none, same) = (read, written, none, ap Greeted same)
opened_step machine connection start turn (Opened connection' start') step = absurd step
opened_step machine connection start turn (Talking state answered) step = absurd step

greeted_step : {S E : Type 0} (machine : Machine S E) (start : S) (turn : Turn E) (next : Phase S) → Step machine (Greeted start) turn next
    → (payload : List ℕ) × (response : Response) × TakesPacket 1 payload turn × IsResponse payload response
    × (turn.written ≡ ok_packet 2 0 (machine.status start)) × (turn.events ≡ []) × (next ≡ Talking start 0)
greeted_step machine start turn (Talking new answered) (payload, response, takes, is, written, none, same, zero) =
    (payload, response, takes, is, written, none, cc)
greeted_step machine start turn (Opened connection start') step = absurd step
greeted_step machine start turn (Greeted start') step = absurd step

talking_step : {S E : Type 0} (machine : Machine S E) (old : S) (answered : ℕ) (turn : Turn E) (next : Phase S) → Step machine (Talking old answered) turn next
    → (payload : List ℕ) × (new : S) × (answered < most_commands) × TakesPacket 0 payload turn × (command_of payload ≢ asks_quit)
    × machine.answers old (command_of payload) turn.events turn.written new × (next ≡ Talking new (suc answered))
talking_step machine old answered turn (Talking new answered') (payload, few, takes, stays, answers, same) =
    (payload, new, few, takes, stays, answers, ap (Talking new) same)
talking_step machine old answered turn (Opened connection start) step = absurd step
talking_step machine old answered turn (Greeted start) step = absurd step

-- a turn's packet is what the bytes begin with
begins_with : {E : Type 0} (seq : ℕ) (payload : List ℕ) (turn : Turn E) (bytes rest : List ℕ) → TakesPacket seq payload turn → bytes ≡ turn.read ++ rest → BeginsWith seq bytes payload rest
begins_with seq payload turn bytes rest takes is = (takes.0, is ∙ ap (λ (read : List ℕ). read ++ rest) takes.1)

module _ {S E D : Type 0} (machine : Machine S E) (follows : D → E → D → Type 0) (alike : D → D → Type 0) (calm : List E → Type 0)
    (only : (expect : ℕ) (bytes : List ℕ) (a b : Front) → HasFront expect bytes a → HasFront expect bytes b → a ≡ b)
    (never_both : (payload : List ℕ) (response : Response) (place : ℕ) → IsResponse payload response → IsBadResponse payload place → ⊥)
    (one_place : (payload : List ℕ) (m n : ℕ) → IsBadResponse payload m → IsBadResponse payload n → m ≡ n)
    (calm_parts : (first then : List E) → calm (first ++ then) → calm first × calm then)
    (one_answer : (state : S) (asked : ClientCommand) (events events' : List E) (bytes bytes' : List ℕ) (new new' : S) (old old' left left' : D)
    → alike old old' → calm events → calm events' → machine.answers state asked events bytes new → machine.answers state asked events' bytes' new'
    → FollowAll follows old events left → FollowAll follows old' events' left' → (bytes ≡ bytes') × (new ≡ new') × alike left left') where
  one_packet : (expect : ℕ) (bytes payload payload' rest rest' : List ℕ) → BeginsWith expect bytes payload rest → BeginsWith expect bytes payload' rest' → (payload ≡ payload') × (rest ≡ rest')
  one_packet expect bytes payload payload' rest rest' first second =
      let same : Packet payload rest ≡ Packet payload' rest' = only expect bytes (Packet payload rest) (Packet payload' rest') first second in
      (cc, cc)

  same_last : (phase : Phase S) (front : Front) (last last' : List ℕ) → Last phase front last → Last phase front last' → last ≡ last'
  unfolding Last
  same_last phase Part last last' one two = one ∙ sym two
  same_last phase (Packet payload rest) last last' (inl (quits, zero, none)) (inl (quits', zero', none')) = none ∙ sym none'
  same_last phase (Packet payload rest) last last' (inl (quits, zero, none)) (inr (start, place, greeted, bad, is)) =
      let first : expected phase ≡ 1 = ap (λ (p : Phase S). expected p) greeted in absurd (omega (arith, zero, first))
  same_last phase (Packet payload rest) last last' (inr (start, place, greeted, bad, is)) (inl (quits, zero, none)) =
      let first : expected phase ≡ 1 = ap (λ (p : Phase S). expected p) greeted in absurd (omega (arith, zero, first))
  same_last phase (Packet payload rest) last last' (inr (start, place, greeted, bad, is)) (inr (start', place', greeted', bad', is')) =
      is ∙ ap bad_handshake_packet (one_place payload place place' bad bad') ∙ sym is'
  same_last phase (TooLargeFront size seq) last last' one two = one ∙ sym two
  same_last phase (OutOfOrderFront seq) last last' one two = one ∙ sym two

  -- the last command was answered, so no more is listened to
  worn_out : (phase : Phase S) (state : S) → phase ≡ Talking state most_commands → Listens phase → ⊥
  worn_out phase state is listens =
      let more : most_commands < most_commands = subst (λ (p : Phase S). Listens p) is listens in omega (arith, more)

  one_end : (phase : Phase S) (rest last last' : List ℕ) → Ended phase rest last → Ended phase rest last' → last ≡ last'
  unfolding Ended
  one_end phase rest last last' (inl (front, listens, has, says)) (inl (front', listens', has', says')) =
      let same : front' ≡ front = only (expected phase) rest front' front has' has in
      same_last phase front last last' says (subst (λ (f : Front). Last phase f last') same says')
  one_end phase rest last last' (inl (front, listens, has, says)) (inr (state, is, none)) = absurd (worn_out phase state is listens)
  one_end phase rest last last' (inr (state, is, none)) (inl (front, listens, has, says)) = absurd (worn_out phase state is listens)
  one_end phase rest last last' (inr (state, is, none)) (inr (state', is', none')) = none ∙ sym none'

  -- where a connection ends no turn is possible
  greeted_ends : (start : S) (turn : Turn E) (next : Phase S) (rest after last : List ℕ) → Ended (Greeted start) rest last → Step machine (Greeted start) turn next → rest ≡ turn.read ++ after → ⊥
  unfolding Ended Last
  greeted_ends start turn next rest after last (inr (state, is, none)) step read = cc
  greeted_ends start turn next rest after last (inl (front, listens, has, says)) step read =
      let (payload, response, takes, accepts, written, none, leads) = greeted_step machine start turn next step in
      let begins : HasFront 1 rest (Packet payload after) = begins_with 1 payload turn rest after takes read in
      let ends : Last (Greeted start) (Packet payload after) last = subst (λ (f : Front). Last (Greeted start) f last) (only 1 rest front (Packet payload after) has begins) says in
      elim ends [
        | inl quits ↦ absurd (omega (arith, quits.1))
        | inr refused ↦ absurd (never_both payload response refused.1 accepts refused.3)
      ]

  talking_ends : (old : S) (answered : ℕ) (turn : Turn E) (next : Phase S) (rest after last : List ℕ) → Ended (Talking old answered) rest last → Step machine (Talking old answered) turn next
      → rest ≡ turn.read ++ after → ⊥
  unfolding Ended Last
  talking_ends old answered turn next rest after last (inr (state, is, none)) step read =
      let (payload, new, few, takes, stays, answers, leads) = talking_step machine old answered turn next step in
      let all : answered ≡ most_commands = cc in
      omega (arith, few, all)
  talking_ends old answered turn next rest after last (inl (front, listens, has, says)) step read =
      let (payload, new, few, takes, stays, answers, leads) = talking_step machine old answered turn next step in
      let begins : HasFront 0 rest (Packet payload after) = begins_with 0 payload turn rest after takes read in
      let ends : Last (Talking old answered) (Packet payload after) last = subst (λ (f : Front). Last (Talking old answered) f last) (only 0 rest front (Packet payload after) has begins) says in
      elim ends [
        | inl quits ↦ stays quits.0
        | inr refused ↦ (let clash : Talking old answered ≡ Greeted refused.0 = refused.2 in cc)
      ]

  no_turn : (phase : Phase S) (turn : Turn E) (next : Phase S) (rest after last : List ℕ) → Ended phase rest last → Step machine phase turn next → rest ≡ turn.read ++ after → ⊥
  unfolding Ended
  no_turn (Opened connection start) turn next rest after last (inl (front, listens, has, says)) step read = listens
  no_turn (Opened connection start) turn next rest after last (inr (state, is, none)) step read = cc
  no_turn (Greeted start) turn next rest after last ends step read = greeted_ends start turn next rest after last ends step read
  no_turn (Talking old answered) turn next rest after last ends step read = talking_ends old answered turn next rest after last ends step read

  -- Two turns from one phase over the same bytes write the same and lead to one phase.
  record Alike (turn turn' : Turn E) (next next' : Phase S) (rest rest' : List ℕ) (left left' : D) : Type 0 where
    pub written : turn.written ≡ turn'.written
    pub phase : next ≡ next'
    pub bytes : rest ≡ rest'
    pub tables : alike left left'

  -- a turn without events leaves the store
  left_as : (events : List E) (old left : D) → events ≡ [] → FollowAll follows old events left → left ≡ old
  left_as events old left none follow = subst (λ (list : List E). FollowAll follows old list left) none follow

  quiet : (turn turn' : Turn E) (old old' left left' : D) → turn.events ≡ [] → turn'.events ≡ [] → alike old old'
      → FollowAll follows old turn.events left → FollowAll follows old' turn'.events left' → alike left left'
  quiet turn turn' old old' left left' none none' same follow follow' =
      subst (λ (d : D). alike d left') (sym (left_as turn.events old left none follow))
      (subst (λ (d : D). alike old d) (sym (left_as turn'.events old' left' none' follow')) same)

  one_turn : (phase : Phase S) (turn turn' : Turn E) (next next' : Phase S) (rest rest' : List ℕ) (old old' left left' : D)
      → Step machine phase turn next → Step machine phase turn' next' → turn.read ++ rest ≡ turn'.read ++ rest'
      → alike old old' → calm turn.events → calm turn'.events
      → FollowAll follows old turn.events left → FollowAll follows old' turn'.events left' → Alike turn turn' next next' rest rest' left left'
  one_turn (Opened connection start) turn turn' next next' rest rest' old old' left left' step step' read same still still' follow follow' =
      let (reads, writes, none, leads) = opened_step machine connection start turn next step in
      let (reads', writes', none', leads') = opened_step machine connection start turn' next' step' in
      record {
        written = writes ∙ sym writes';
        phase = leads ∙ sym leads';
        bytes = ap (λ (r : List ℕ). r ++ rest) (sym reads) ∙ read ∙ ap (λ (r : List ℕ). r ++ rest') reads';
        tables = quiet turn turn' old old' left left' none none' same follow follow';
      }
  one_turn (Greeted start) turn turn' next next' rest rest' old old' left left' step step' read same still still' follow follow' =
      let (payload, response, takes, accepts, writes, none, leads) = greeted_step machine start turn next step in
      let (payload', response', takes', accepts', writes', none', leads') = greeted_step machine start turn' next' step' in
      let packets = one_packet 1 (turn.read ++ rest) payload payload' rest rest' (begins_with 1 payload turn (turn.read ++ rest) rest takes refl)
      (begins_with 1 payload' turn' (turn.read ++ rest) rest' takes' read) in
      record {
        written = writes ∙ sym writes';
        phase = leads ∙ sym leads';
        bytes = packets.1;
        tables = quiet turn turn' old old' left left' none none' same follow follow';
      }
  one_turn (Talking state answered) turn turn' next next' rest rest' old old' left left' step step' read same still still' follow follow' =
      let (payload, new, few, takes, stays, answers, leads) = talking_step machine state answered turn next step in
      let (payload', new', few', takes', stays', answers', leads') = talking_step machine state answered turn' next' step' in
      let packets = one_packet 0 (turn.read ++ rest) payload payload' rest rest' (begins_with 0 payload turn (turn.read ++ rest) rest takes refl)
      (begins_with 0 payload' turn' (turn.read ++ rest) rest' takes' read) in
      let by_payload : machine.answers state (command_of payload) turn'.events turn'.written new' =
      subst (λ (p : List ℕ). machine.answers state (command_of p) turn'.events turn'.written new') (sym packets.0) answers' in
      let one = one_answer state (command_of payload) turn.events turn'.events turn.written turn'.written new new' old old' left left' same still still' answers by_payload follow follow' in
      record {
        written = one.0;
        phase = leads ∙ ap (λ (s : S). Talking s (suc answered)) one.1 ∙ sym leads';
        bytes = packets.1;
        tables = one.2;
      }

  abbrev reads : List (Turn E) → List ℕ
  reads turns = flat_map (λ turn. turn.read) turns

  abbrev writes : List (Turn E) → List ℕ
  writes turns = flat_map (λ turn. turn.written) turns

  abbrev events_of : List (Turn E) → List E
  events_of turns = flat_map (λ turn. turn.events) turns

  -- two runs from one phase, to the ends of their connections
  same_runs : (turns more : List (Turn E)) (phase to to' : Phase S) (rest rest' last last' : List ℕ) (old old' left left' : D)
      → Run machine phase turns to → Run machine phase more to' → Ended to rest last → Ended to' rest' last'
      → reads turns ++ rest ≡ reads more ++ rest' → alike old old' → calm (events_of turns) → calm (events_of more)
      → FollowAll follows old (events_of turns) left → FollowAll follows old' (events_of more) left'
      → (writes turns ++ last ≡ writes more ++ last') × alike left left'
  same_runs [] [] phase to to' rest rest' last last' old old' left left' here here' ends ends' read same still still' follow follow' =
      let first : Ended phase rest last = subst (λ (p : Phase S). Ended p rest last) here ends in
      let second : Ended phase rest last' = subst (λ (bytes : List ℕ). Ended phase bytes last') (sym read) (subst (λ (p : Phase S). Ended p rest' last') here' ends') in (
        one_end phase rest last last' first second,
        subst (λ (d : D). alike d left') (sym follow) (subst (λ (d : D). alike old d) (sym follow') same),
      )
  same_runs [] (turn ∷ more) phase to to' rest rest' last last' old old' left left' here (next, step, run) ends ends' read same still still' follow follow' =
      let first : Ended phase rest last = subst (λ (p : Phase S). Ended p rest last) here ends in
      absurd (no_turn phase turn next rest (reads more ++ rest') last first step (read ∙ append_assoc turn.read (reads more) rest'))
  same_runs (turn ∷ turns) [] phase to to' rest rest' last last' old old' left left' (next, step, run) here ends ends' read same still still' follow follow' =
      let first : Ended phase rest' last' = subst (λ (p : Phase S). Ended p rest' last') here ends' in
      absurd (no_turn phase turn next rest' (reads turns ++ rest) last' first step (sym read ∙ append_assoc turn.read (reads turns) rest))
  same_runs (turn ∷ turns) (turn' ∷ more) phase to to' rest rest' last last' old old' left left' (next, step, run) (next', step', run') ends ends' read same still still' follow follow' =
      let calms = calm_parts turn.events (events_of turns) still in
      let calms' = calm_parts turn'.events (events_of more) still' in
      let (mid, here, later) = follow_parts follows old turn.events (events_of turns) left follow in
      let (mid', here', later') = follow_parts follows old' turn'.events (events_of more) left' follow' in
      let one = one_turn phase turn turn' next next' (reads turns ++ rest) (reads more ++ rest') old old' mid mid' step step'
      (sym (append_assoc turn.read (reads turns) rest) ∙ read ∙ append_assoc turn'.read (reads more) rest') same calms.0 calms'.0 here here' in
      let run_on : Run machine next more to' = subst (λ (p : Phase S). Run machine p more to') (sym one.phase) run' in
      let rest_on = same_runs turns more next to to' rest rest' last last' mid mid' left left' run run_on ends ends' one.bytes one.tables calms.1 calms'.1 later later' in (
        append_assoc turn.written (writes turns) last ∙ ap (λ (tail : List ℕ). turn.written ++ tail) rest_on.0
            ∙ ap (λ (front : List ℕ). front ++ (writes more ++ last')) one.written ∙ sym (append_assoc turn'.written (writes more) last'),
        rest_on.1,
      )

  -- two whole connections
  pub same_lines : (phase : Phase S) (before now before' now' : Meters) (end end' : LinkEnd) (read written written' : List ℕ) (events events' : List E) (old old' left left' : D)
      → Ends machine before now end phase [] read written events → Ends machine before' now' end' phase [] read written' events'
      → EndsByClient end → EndsByClient end' → calm events → calm events' → alike old old'
      → FollowAll follows old events left → FollowAll follows old' events' left' → (written ≡ written') × alike left left'
  same_lines phase before now before' now' end end' read written written' events events' old old' left left' line line' good good' still still' same follow follow' =
      let stop = stopped machine before now end line.at good line.stops in
      let stop' = stopped machine before' now' end' line'.at good' line'.stops in
      let all : events ≡ events_of line.turns ++ [] = line.happened ∙ ap (λ (list : List E). events_of line.turns ++ list) stop.1 in
      let all' : events' ≡ events_of line'.turns ++ [] = line'.happened ∙ ap (λ (list : List E). events_of line'.turns ++ list) stop'.1 in
      let (mid, here, none) = follow_parts follows old (events_of line.turns) [] left (subst (λ (list : List E). FollowAll follows old list left) all follow) in
      let (mid', here', none') = follow_parts follows old' (events_of line'.turns) [] left' (subst (λ (list : List E). FollowAll follows old' list left') all' follow') in
      let both = same_runs line.turns line'.turns phase line.at.phase line'.at.phase line.at.rest line'.at.rest line.at.last line'.at.last old old' mid mid'
      line.run line'.run stop.0 stop'.0 (sym line.is_read ∙ line'.is_read) same
      (calm_parts (events_of line.turns) [] (subst calm all still)).0 (calm_parts (events_of line'.turns) [] (subst calm all' still')).0 here here' in (
        line.is_written ∙ both.0 ∙ sym line'.is_written,
        subst (λ (d : D). alike d left') (sym none) (subst (λ (d : D). alike mid d) (sym none') both.1),
      )
