-- How turns join into a connection.
use Rattle.std.proofs.Common.{◌≡◌, ◌≢◌, ℕ, suc, ◌<◌, ◌≤◌, List, [], ◌∷◌, ◌++◌, Result, Ok, Err, length, refl, sym, ◌∙◌, ap, subst, arith, append_assoc, inl, inr, ⊎_elim}
use Rattle.std.proofs.lemmas.List.{append-nil}
use Rattle.std.proofs.lemmas.List.Concat.{flat_map-append}
use Rattle.std.specs.List.{flat_map}
use Rattle.srch_base.specs.Counts.{Rose}
use Rattle.srch_base.specs.steps.Counting.{Rose-earlier}
use Rattle.srch_base.specs.Moves.{Meters, IsCut}
use Rattle.srch_base.specs.steps.Moving.{Later}
use Rattle.mysql_wire.specs.Packets.{packet, max_payload, BeginsWith}
use Rattle.mysql_wire.specs.Commands.{command_of, Quit as asks_quit}
use Rattle.mysql_wire.specs.Handshake.{Response, IsResponse}
use Rattle.mysql_wire.specs.Replies.{ok_packet, greeting}
use Rattle.serve_line.specs.Machines.{Machine, FollowAll}
use Rattle.serve_line.specs.Line.{Phase, Opened, Greeted, Talking, most_commands, Turn, Step, Run, Refuses, Finish, Stops, Ends}
use Rattle.serve_line.specs.steps.Serving.{Goes, GoesOn, RefusesWith, Sends}
use Rattle.serve_line.specs.declared.line.LinkEnd.{LinkEnd}
use Rattle.serve_line.specs.declared.line.LinkEnd.TheVariants.{Quit, End, Truncated, BadHandshake, TooLarge, OutOfOrder, ReadFault, WriteFault, Worn, NoMemory}

-- what two lists of turns read, with what is held back between them
joined : (A : Type 0) (part : A → List ℕ) (turns more : List A) (held read read' kept rest : List ℕ)
    → held ++ read ≡ flat_map part turns ++ kept → kept ++ read' ≡ flat_map part more ++ rest
    → held ++ (read ++ read') ≡ flat_map part (turns ++ more) ++ rest
joined A part turns more held read read' kept rest first then =
    sym (append_assoc held read read') ∙ ap (λ (xs : List ℕ). xs ++ read') first ∙ append_assoc (flat_map part turns) kept read'
    ∙ ap (λ (xs : List ℕ). flat_map part turns ++ xs) then ∙ sym (append_assoc (flat_map part turns) (flat_map part more) rest)
    ∙ ap (λ (xs : List ℕ). xs ++ rest) (sym (flat_map-append part turns more))

-- what was written in two lists of turns
written_in : {A B : Type 0} (part : A → List B) (turns more : List A) (first then last : List B)
    → first ≡ flat_map part turns → then ≡ flat_map part more ++ last → first ++ then ≡ flat_map part (turns ++ more) ++ last
written_in part turns more first then last one two =
    ap (λ xs. xs ++ then) one ∙ ap (λ xs. flat_map part turns ++ xs) two ∙ sym (append_assoc (flat_map part turns) (flat_map part more) last)
    ∙ ap (λ xs. xs ++ last) (sym (flat_map-append part turns more))

-- events, and then more
pub FollowAll-append : {D E : Type 0} (follows : D → E → D → Type 0) (events more : List E) (old mid new : D) → FollowAll follows old events mid → FollowAll follows mid more new → FollowAll follows old (events ++ more) new
FollowAll-append {D} follows [] more old mid new first then = subst (λ (d : D). FollowAll follows d more new) first then
FollowAll-append follows (event ∷ events) more old mid new first then = (first.0, first.1, FollowAll-append follows events more first.0 mid new first.2 then)

module _ {S E : Type 0} (machine : Machine S E) where
  -- turns, and then more
  Run-append : (turns more : List (Turn E)) (old mid new : Phase S) → Run machine old turns mid → Run machine mid more new → Run machine old (turns ++ more) new
  Run-append [] more old mid new first then = subst (λ (p : Phase S). Run machine p more new) first then
  Run-append (turn ∷ turns) more old mid new first then = (first.0, first.1, Run-append turns more first.0 mid new first.2 then)

  -- a connection that ends so since a moment ends so since an earlier one
  Stops-earlier : (first before now : Meters) (end : LinkEnd) (at : Finish S E) → Later first before → Stops machine before now end at → Stops machine first now end at
  Stops-earlier first before now Quit at later stops = stops
  Stops-earlier first before now End at later stops = stops
  Stops-earlier first before now Truncated at later stops = stops
  Stops-earlier first before now (BadHandshake place) at later stops = stops
  Stops-earlier first before now (TooLarge size) at later stops = stops
  Stops-earlier first before now (OutOfOrder seq) at later stops = stops
  Stops-earlier first before now ReadFault at later stops = (stops.0, Rose-earlier _ _ _ later.reads stops.1, stops.2, stops.3)
  Stops-earlier first before now WriteFault at later stops = (Rose-earlier _ _ _ later.writes stops.0, stops.1)
  Stops-earlier first before now Worn at later stops = stops
  Stops-earlier first before now NoMemory at later stops =
      (stops.0, stops.1, (⊎_elim (λ whole. inl whole) (λ cut. inr (Rose-earlier _ _ _ later.writes cut.0, cut.1)) stops.2.0, stops.2.1))

  -- the connection went on, and then it went on or ended
  pub goes_then : (first before now : Meters) (result : Result (Unit {0}) LinkEnd) (old mid new : Phase S) (held read written kept read' written' left : List ℕ) (events events' : List E)
      → Later first before
      → GoesOn machine old held read written events mid kept
      → Goes machine before now result mid kept read' written' events' new left
      → Goes machine first now result old held (read ++ read') (written ++ written') (events ++ events') new left
  goes_then first before now (Ok x) old mid new held read written kept read' written' left events events' later one two = record {
    turns = one.turns ++ two.turns;
    run = Run-append one.turns two.turns old mid new one.run two.run;
    is_read = joined (Turn E) (λ t. t.read) one.turns two.turns held read read' kept left one.is_read two.is_read;
    is_written = written_in (λ t. t.written) one.turns two.turns written written' [] one.is_written (two.is_written ∙ sym (append-nil _)) ∙ append-nil _;
    happened = written_in (λ t. t.events) one.turns two.turns events events' [] one.happened (two.happened ∙ sym (append-nil _)) ∙ append-nil _;
  }
  goes_then first before now (Err end) old mid new held read written kept read' written' left events events' later one two = record {
    turns = one.turns ++ two.turns;
    at = two.at;
    run = Run-append one.turns two.turns old mid two.at.phase one.run two.run;
    stops = Stops-earlier first before now end two.at later two.stops;
    is_read = joined (Turn E) (λ t. t.read) one.turns two.turns held read read' kept two.at.rest one.is_read two.is_read;
    is_written = written_in (λ t. t.written) one.turns two.turns written written' two.at.last one.is_written two.is_written;
    happened = written_in (λ t. t.events) one.turns two.turns events events' two.at.events one.happened two.happened;
  }

  -- one turn over the bytes that were held
  one_turn : (old new : Phase S) (turn : Turn E) (held kept : List ℕ) → Step machine old turn new → held ≡ turn.read ++ kept
      → GoesOn machine old held [] turn.written turn.events new kept
  one_turn old new turn held kept step whole = record {
    turns = turn ∷ [];
    run = (new, step, refl);
    is_read = append-nil held ∙ whole ∙ ap (λ (xs : List ℕ). xs ++ kept) (sym (append-nil turn.read));
    is_written = sym (append-nil turn.written);
    happened = sym (append-nil turn.events);
  }

  -- the connection ends with nothing more read
  ends_at : (before now : Meters) (end : LinkEnd) (at : Finish S E) → Stops machine before now end at → Ends machine before now end at.phase at.rest [] at.last at.events
  ends_at before now end at stops = record {
    turns = [];
    at = at;
    run = refl;
    stops = stops;
    is_read = append-nil at.rest;
    is_written = refl;
    happened = refl;
  }

  -- what a refusal's end is
  refusal_stops : (before now : Meters) (end : LinkEnd) (phase : Phase S) (held refusal : List ℕ) → Refuses phase held refusal end
      → Stops machine before now end (record { phase = phase; rest = held; last = refusal; events = [] })
  refusal_stops before now (BadHandshake place) phase held refusal refuses = (refuses, refl)
  refusal_stops before now (TooLarge size) phase held refusal refuses = (refuses, refl)
  refusal_stops before now (OutOfOrder seq) phase held refusal refuses = (refuses, refl)
  refusal_stops before now Quit phase held refusal refuses = absurd refuses
  refusal_stops before now End phase held refusal refuses = absurd refuses
  refusal_stops before now Truncated phase held refusal refuses = absurd refuses
  refusal_stops before now ReadFault phase held refusal refuses = absurd refuses
  refusal_stops before now WriteFault phase held refusal refuses = absurd refuses
  refusal_stops before now Worn phase held refusal refuses = absurd refuses
  refusal_stops before now NoMemory phase held refusal refuses = absurd refuses

  -- a refusal was written, or a prefix of it
  refused : (before now : Meters) (result end : LinkEnd) (phase : Phase S) (held refusal read written : List ℕ)
      → Refuses phase held refusal end → RefusesWith result refusal end before now read written
      → Ends machine before now result phase held read written []
  refused before now result end phase held refusal read written refuses with =
      rw with.0 (⊎_elim
      (λ whole. rw (whole.0, whole.1) (ends_at before now end (record { phase = phase; rest = held; last = refusal; events = [] }) (refusal_stops before now end phase held refusal refuses)))
      (λ cut. rw cut.0 (ends_at before now WriteFault (record { phase = phase; rest = held; last = written; events = [] }) (cut.2, inr (refusal, end, refuses, cut.1, refl))))
      with.1)

  -- a turn's answer was written in part
  cut_short : (before now : Meters) (old new : Phase S) (turn : Turn E) (held kept written : List ℕ)
      → Step machine old turn new → held ≡ turn.read ++ kept → IsCut written turn.written → Rose before.write_faults now.write_faults
      → Ends machine before now WriteFault old held [] written turn.events
  cut_short before now old new turn held kept written step whole cut rose =
      ends_at before now WriteFault (record { phase = old; rest = held; last = written; events = turn.events }) (rose, inl (turn, new, kept, step, whole, cut, refl))

  -- A turn was written, or a prefix of it.
  pub turned : (first before now : Meters) (result : Result (Unit {0}) LinkEnd) (old new : Phase S) (turn : Turn E) (held read written mid kept read' written' bytes : List ℕ) → Later first before
      → GoesOn machine old held read written [] old mid → Step machine old turn new → mid ≡ turn.read ++ kept → bytes ≡ turn.written
      → Sends result bytes before now read' written'
      → Goes machine first now result old held (read ++ read') (written ++ written') turn.events new kept
  turned first before now (Ok x) old new turn held read written mid kept read' written' bytes later goes step whole is wrote =
      rw (wrote.0, wrote.1, is) (goes_then first before now (Ok x) old old new held read written mid [] turn.written kept [] turn.events later goes (one_turn old new turn mid kept step whole))
  turned first before now (Err e) old new turn held read written mid kept read' written' bytes later goes step whole is wrote =
      rw (wrote.0, wrote.1) (goes_then first before now (Err WriteFault) old old new held read written mid [] written' kept [] turn.events later goes
      (cut_short before now old new turn mid kept written' step whole (subst (λ (b : List ℕ). IsCut written' b) is wrote.2) wrote.3))

  -- After reading, the bytes were refused.
  pub refused_then : (first before now : Meters) (result end : LinkEnd) (phase : Phase S) (held read written mid refusal read' written' : List ℕ) → Later first before
      → GoesOn machine phase held read written [] phase mid → Refuses phase mid refusal end → RefusesWith result refusal end before now read' written'
      → Ends machine first now result phase held (read ++ read') (written ++ written') []
  refused_then first before now result end phase held read written mid refusal read' written' later goes refuses with =
      goes_then first before now (Err result) phase phase phase held read written mid read' written' mid [] [] later goes
      (refused before now result end phase mid refusal read' written' refuses with)

  -- COM_QUIT was read.
  pub quit_then : (first now : Meters) (state : S) (answered : ℕ) (held read written mid kept payload : List ℕ) → answered < most_commands
      → GoesOn machine (Talking state answered) held read written [] (Talking state answered) mid → BeginsWith 0 mid payload kept → command_of payload ≡ asks_quit
      → Ends machine first now Quit (Talking state answered) held read written []
  quit_then first now state answered held read written mid kept payload few goes begins is =
      subst (λ (r : List ℕ). Ends machine first now Quit (Talking state answered) held r written []) (append-nil read)
      (subst (λ (w : List ℕ). Ends machine first now Quit (Talking state answered) held (read ++ []) w []) (append-nil written)
      (goes_then first first now (Err Quit) (Talking state answered) (Talking state answered) (Talking state answered) held read written mid [] [] kept [] []
      (record { reads = omega arith; writes = omega arith }) goes
      (ends_at first now Quit (record { phase = Talking state answered; rest = mid; last = []; events = [] }) (payload, kept, few, refl, begins, is, (refl, refl)))))

  -- As many commands were answered as a connection may send.
  pub worn : (first now : Meters) (state : S) (old : Phase S) (count : ℕ) (held read written kept : List ℕ) (events : List E) → count ≡ most_commands
      → GoesOn machine old held read written events (Talking state count) kept → Ends machine first now Worn old held read written events
  worn first now state old count held read written kept events all goes = record {
    turns = goes.turns;
    at = record { phase = Talking state count; rest = kept; last = []; events = [] };
    run = goes.run;
    stops = (state, ap (λ (n : ℕ). Talking state n) all, (refl, refl));
    is_read = goes.is_read;
    is_written = goes.is_written ∙ sym (append-nil (flat_map (λ t. t.written) goes.turns));
    happened = goes.happened ∙ sym (append-nil (flat_map (λ t. t.events) goes.turns));
  }

  -- The greeting was written, or a prefix of it.
  pub greeted : (connection : ℕ) (start : S) (before now : Meters) (result : Result (Unit {0}) LinkEnd) (read written bytes : List ℕ) → bytes ≡ greeting connection
      → Sends result bytes before now read written
      → Goes machine before now result (Opened connection start) [] read written [] (Greeted start) []
  greeted connection start before now (Ok x) read written bytes is wrote = rw (wrote.0, wrote.1, is)
      (one_turn (Opened connection start) (Greeted start) (record { read = []; written = greeting connection; events = [] }) [] [] (refl, refl, refl, refl) refl)
  greeted connection start before now (Err e) read written bytes is wrote =
      rw (wrote.0, wrote.1) (cut_short before now (Opened connection start) (Greeted start) (record { read = []; written = greeting connection; events = [] }) [] [] written (refl, refl, refl, refl) refl
      (subst (λ (b : List ℕ). IsCut written b) is wrote.2) wrote.3)

-- what an accepted response's turn is
abbrev pub response_turn : (E : Type 0) → ℕ → List ℕ → Turn E
response_turn E status payload = record { read = packet 1 payload; written = ok_packet 2 0 status; events = [] }

pub responds : {S E : Type 0} (machine : Machine S E) (start : S) (payload : List ℕ) (response : Response) → length payload ≤ max_payload → IsResponse payload response
    → Step machine (Greeted start) (response_turn E (machine.status start) payload) (Talking start 0)
responds machine start payload response short is = (payload, response, (short, refl), is, refl, refl, refl, refl)

-- what an answered command's turn is
abbrev pub command_turn : (E : Type 0) → List ℕ → List ℕ → List E → Turn E
command_turn E payload reply events = record { read = packet 0 payload; written = reply; events = events }

pub commands : {S E : Type 0} (machine : Machine S E) (old new : S) (answered : ℕ) → answered < most_commands → (payload reply : List ℕ) (events : List E) → length payload ≤ max_payload
    → command_of payload ≢ asks_quit → machine.answers old (command_of payload) events reply new
    → Step machine (Talking old answered) (command_turn E payload reply events) (Talking new (suc answered))
commands machine old new answered few payload reply events short other answers = (payload, few, (short, refl), other, answers, refl)
