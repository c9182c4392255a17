-- How a line that serves a client which keeps to the protocol goes, and where it ends.
use Rattle.std.proofs.Common.{◌≡◌, ◌≢◌, ⊎_elim, ℕ, List, [], ◌∷◌, ◌++◌, true, refl, sym, ◌∙◌, ap, subst, arith, append_assoc}
use Rattle.std.specs.List.{flat_map}
use Rattle.std.proofs.lemmas.List.{append-nil}
use Rattle.srch_base.specs.Moves.{Meters}
use Rattle.mysql_wire.specs.Commands.{Quit as asks_quit, command_of}
use Rattle.mysql_wire.specs.Fronts.{Part, Packet, TooLarge as TooLargeFront, OutOfOrder as OutOfOrderFront}
use Rattle.mysql_wire.specs.Handshake.{Response, IsResponse, IsBadResponse}
use Rattle.mysql_wire.specs.Packets.{packet, BeginsWith, IsPartial, IsTooLarge, IsOutOfOrder}
use Rattle.serve_line.specs.Line.{Finish, Greeted, IsLine, Opened, Phase, Run, Step, Stops, TakesPacket, Talking, Turn, expected}
use Rattle.serve_line.specs.Machines.{Machine}
use Rattle.serve_line.specs.declared.line.LinkEnd.{LinkEnd}
use Rattle.serve_line.specs.declared.line.LinkEnd.TheVariants.{Quit, End, Truncated, BadHandshake, TooLarge, OutOfOrder, ReadFault, WriteFault, Worn, NoMemory}
use Rattle.line_laws.specs.Clients.{AnswersGreeting, AreShort, KeepsToProtocol, bytes_of}
use Rattle.line_laws.specs.Complete.{EndsAt, IsComplete, IsSteady, last_words}
use Rattle.line_laws.proofs.Packets.{OneFront, large_stays, none_large, none_out, order_stays, some_packet}

-- the bytes of what a client sends from a phase on
abbrev ahead : {S : Type 0} → Phase S → List (List ℕ) → List ℕ
ahead (Talking state answered) payloads = flat_map (packet 0) payloads
ahead (Greeted start) payloads = bytes_of payloads
ahead (Opened connection start) payloads = bytes_of payloads

-- The client keeps to the protocol from a phase on.
abbrev Keeps : {S : Type 0} → Phase S → List (List ℕ) → Type 0
Keeps (Talking state answered) payloads = AreShort payloads
Keeps (Greeted start) payloads = AnswersGreeting payloads × AreShort payloads
Keeps (Opened connection start) payloads = AnswersGreeting payloads × AreShort payloads

none_ahead : {S : Type 0} (phase : Phase S) → ahead phase [] ≡ []
none_ahead (Talking state answered) = refl
none_ahead (Greeted start) = refl
none_ahead (Opened connection start) = refl

-- what is ahead begins with the first payload's packet
front_ahead : {S : Type 0} (phase : Phase S) (payload : List ℕ) (payloads : List (List ℕ)) → Keeps phase (payload ∷ payloads) → BeginsWith (expected phase) (ahead phase (payload ∷ payloads)) payload (flat_map (packet 0) payloads)
front_ahead (Talking state answered) payload payloads keeps = (keeps.0, refl)
front_ahead (Greeted start) payload payloads keeps = (keeps.1.0, refl)
front_ahead (Opened connection start) payload payloads keeps = (keeps.1.0, refl)

-- Between two phases a client was answered: so many of its payloads went by, and these come next.
record Passes {S : Type 0} (old new : Phase S) (read rest : List ℕ) (payloads : List (List ℕ)) : Type 0 where
  answered : List (List ℕ)
  next : List (List ℕ)
  are : payloads ≡ answered ++ next
  reads : (more : List (List ℕ)) → read ++ ahead new more ≡ ahead old (answered ++ more)
  keeps : Keeps new next
  left : rest ≡ ahead new next

module _ (only : OneFront) where
  one_packet : (expect : ℕ) (bytes payload payload' rest rest' : List ℕ) → BeginsWith expect bytes payload rest → BeginsWith expect bytes payload' rest' → (payload ≡ payload') × (rest ≡ rest')
  one_packet expect bytes payload payload' rest rest' first second =
      let same : Packet payload rest ≡ Packet payload' rest' = only expect bytes (Packet payload rest) (Packet payload' rest') first second in
      (cc, cc)

  -- The first payload ahead is the packet that was read.
  takes_first : {S : Type 0} (phase : Phase S) (payload rest bytes : List ℕ) (payloads : List (List ℕ)) → Keeps phase payloads → bytes ≡ ahead phase payloads → BeginsWith (expected phase) bytes payload rest
      → (more : List (List ℕ)) × (payloads ≡ payload ∷ more) × (rest ≡ flat_map (packet 0) more)
  takes_first phase payload rest bytes [] keeps is begins = absurd (some_packet (expected phase) payload rest (sym begins.1 ∙ is ∙ none_ahead phase))
  takes_first phase payload rest bytes (first ∷ more) keeps is begins =
      let both = one_packet (expected phase) (ahead phase (first ∷ more)) first payload (flat_map (packet 0) more) rest (front_ahead phase first more keeps)
      (subst (λ (b : List ℕ). BeginsWith (expected phase) b payload rest) is begins) in
      (more, ap (λ (p : List ℕ). p ∷ more) both.0, sym both.1)

  module _ {S E : Type 0} (machine : Machine S E) where
    step_passes : (old new : Phase S) (turn : Turn E) (rest : List ℕ) (payloads : List (List ℕ)) → Step machine old turn new → Keeps old payloads → turn.read ++ rest ≡ ahead old payloads → Passes old new turn.read rest payloads
    step_passes (Opened connection start) (Greeted start') turn rest payloads step keeps is = record {
      answered = [];
      next = payloads;
      are = refl;
      reads = λ more. ap (λ (r : List ℕ). r ++ bytes_of more) step.0;
      keeps = keeps;
      left = ap (λ (r : List ℕ). r ++ rest) (sym step.0) ∙ is;
    }
    step_passes (Greeted start) (Talking new answered) turn rest payloads step keeps is =
        let takes : TakesPacket 1 step.0 turn = step.2 in
        let first = takes_first (Greeted start) step.0 rest (turn.read ++ rest) payloads keeps is (takes.0, ap (λ (r : List ℕ). r ++ rest) takes.1) in
        let kept : AreShort (step.0 ∷ first.0) = subst AreShort first.1 keeps.1 in
        record {
          answered = step.0 ∷ [];
          next = first.0;
          are = first.1;
          reads = λ more. ap (λ (r : List ℕ). r ++ flat_map (packet 0) more) takes.1;
          keeps = kept.1;
          left = first.2;
        }
    step_passes (Talking old answered') (Talking new answered) turn rest payloads step keeps is =
        let takes : TakesPacket 0 step.0 turn = step.2 in
        let first = takes_first (Talking old answered') step.0 rest (turn.read ++ rest) payloads keeps is (takes.0, ap (λ (r : List ℕ). r ++ rest) takes.1) in
        let kept : AreShort (step.0 ∷ first.0) = subst AreShort first.1 keeps in
        record {
          answered = step.0 ∷ [];
          next = first.0;
          are = first.1;
          reads = λ more. ap (λ (r : List ℕ). r ++ flat_map (packet 0) more) takes.1;
          keeps = kept.1;
          left = first.2;
        }
    step_passes (Opened connection start) (Opened connection' start') turn rest payloads step keeps is = absurd step
    step_passes (Opened connection start) (Talking new answered) turn rest payloads step keeps is = absurd step
    step_passes (Greeted start) (Opened connection' start') turn rest payloads step keeps is = absurd step
    step_passes (Greeted start) (Greeted start') turn rest payloads step keeps is = absurd step
    step_passes (Talking old answered') (Opened connection' start') turn rest payloads step keeps is = absurd step
    step_passes (Talking old answered') (Greeted start') turn rest payloads step keeps is = absurd step

    run_passes : (turns : List (Turn E)) (old new : Phase S) (rest : List ℕ) (payloads : List (List ℕ)) → Run machine old turns new → Keeps old payloads
        → flat_map (λ t. t.read) turns ++ rest ≡ ahead old payloads → Passes old new (flat_map (λ t. t.read) turns) rest payloads
    run_passes [] old new rest payloads run keeps is = subst (λ (p : Phase S). Passes old p [] rest payloads) (sym run)
        (record { answered = []; next = payloads; are = refl; reads = λ more. refl; keeps = keeps; left = is })
    run_passes (turn ∷ turns) old new rest payloads (mid, step, run) keeps is =
        let here = step_passes old mid turn (flat_map (λ t. t.read) turns ++ rest) payloads step keeps (sym (append_assoc turn.read (flat_map (λ t. t.read) turns) rest) ∙ is) in
        let on = run_passes turns mid new rest here.next run here.keeps here.left in
        record {
          answered = here.answered ++ on.answered;
          next = on.next;
          are = here.are ∙ ap (λ (ps : List (List ℕ)). here.answered ++ ps) on.are ∙ sym (append_assoc here.answered on.answered on.next);
          reads = λ more. append_assoc turn.read (flat_map (λ t. t.read) turns) (ahead new more) ∙ ap (λ (b : List ℕ). turn.read ++ b) (on.reads more) ∙ here.reads (on.answered ++ more)
              ∙ ap (ahead old) (sym (append_assoc here.answered on.answered more));
          keeps = on.keeps;
          left = on.left;
        }

    -- the bytes of what was answered
    answered_bytes : (old new : Phase S) (read rest : List ℕ) (payloads : List (List ℕ)) (passes : Passes old new read rest payloads) → read ≡ ahead old passes.answered
    answered_bytes old new read rest payloads passes =
        sym (append-nil read) ∙ ap (λ (b : List ℕ). read ++ b) (sym (none_ahead new)) ∙ passes.reads [] ∙ ap (ahead old) (append-nil passes.answered)

    module _ (never_both : (payload : List ℕ) (response : Response) (place : ℕ) → IsResponse payload response → IsBadResponse payload place → ⊥) (before now : Meters) (steady : IsSteady before now) where
      -- no header to refuse is ahead
      no_large : (phase : Phase S) (bytes : List ℕ) (next : List (List ℕ)) (size seq : ℕ) → Keeps phase next → bytes ≡ ahead phase next → IsTooLarge bytes size seq → ⊥
      no_large phase bytes [] size seq keeps is large = none_large bytes size seq (is ∙ none_ahead phase) large
      no_large phase bytes (payload ∷ next) size seq keeps is large =
          let same : Packet payload (flat_map (packet 0) next) ≡ TooLargeFront size seq = only (expected phase) bytes (Packet payload (flat_map (packet 0) next)) (TooLargeFront size seq)
          (subst (λ (b : List ℕ). BeginsWith (expected phase) b payload (flat_map (packet 0) next)) (sym is) (front_ahead phase payload next keeps)) large in
          absurd (cc same)

      no_disorder : (phase : Phase S) (bytes : List ℕ) (next : List (List ℕ)) (seq : ℕ) → Keeps phase next → bytes ≡ ahead phase next → IsOutOfOrder (expected phase) bytes seq → ⊥
      no_disorder phase bytes [] seq keeps is out = none_out (expected phase) bytes seq (is ∙ none_ahead phase) out
      no_disorder phase bytes (payload ∷ next) seq keeps is out =
          let same : Packet payload (flat_map (packet 0) next) ≡ OutOfOrderFront seq = only (expected phase) bytes (Packet payload (flat_map (packet 0) next)) (OutOfOrderFront seq)
          (subst (λ (b : List ℕ). BeginsWith (expected phase) b payload (flat_map (packet 0) next)) (sym is) (front_ahead phase payload next keeps)) out in
          absurd (cc same)

      no_part : (phase : Phase S) (bytes : List ℕ) (next : List (List ℕ)) → Keeps phase next → bytes ≡ ahead phase next → bytes ≢ [] → IsPartial (expected phase) bytes → ⊥
      no_part phase bytes [] keeps is some part = some (is ∙ none_ahead phase)
      no_part phase bytes (payload ∷ next) keeps is some part =
          let same : Packet payload (flat_map (packet 0) next) ≡ Part = only (expected phase) bytes (Packet payload (flat_map (packet 0) next)) Part
          (subst (λ (b : List ℕ). BeginsWith (expected phase) b payload (flat_map (packet 0) next)) (sym is) (front_ahead phase payload next keeps)) part in
          absurd (cc same)

      -- nothing is ahead of a client that sends no more
      no_more : (phase : Phase S) (next : List (List ℕ)) → Keeps phase next → ahead phase next ≡ [] → next ≡ []
      no_more phase [] keeps none = refl
      no_more phase (payload ∷ next) keeps none = absurd (some_packet (expected phase) payload (flat_map (packet 0) next) (sym (front_ahead phase payload next keeps).1 ∙ none))

      quits : (phase : Phase S) (rest unread payload after : List ℕ) (next : List (List ℕ)) → Keeps phase next → rest ++ unread ≡ ahead phase next → expected phase ≡ 0 → BeginsWith 0 rest payload after → command_of payload ≡ asks_quit → EndsAt Quit phase next
      quits (Opened connection start) rest unread payload after next keeps is zero begins quit = absurd (omega (arith, zero))
      quits (Greeted start) rest unread payload after next keeps is zero begins quit = absurd (omega (arith, zero))
      quits (Talking state answered) rest unread payload after next keeps is zero begins quit =
          let first = takes_first (Talking state answered) payload (after ++ unread) (rest ++ unread) next keeps is
          (begins.0, ap (λ (b : List ℕ). b ++ unread) begins.1 ∙ append_assoc (packet 0 payload) after unread) in
          (payload, first.0, first.1, quit, state, answered, refl)

      bad : (phase : Phase S) (start : S) (rest unread payload after : List ℕ) (place : ℕ) (next : List (List ℕ)) → Keeps phase next → rest ++ unread ≡ ahead phase next → phase ≡ Greeted start → BeginsWith 1 rest payload after → IsBadResponse payload place → ⊥
      bad phase start rest unread payload after place next keeps is greeted begins wrong =
          let keeps' : Keeps (Greeted start) next = subst (λ (p : Phase S). Keeps p next) greeted keeps in
          let is' : rest ++ unread ≡ ahead (Greeted start) next = is ∙ ap (λ (p : Phase S). ahead p next) greeted in
          let first = takes_first (Greeted start) payload (after ++ unread) (rest ++ unread) next keeps' is'
          (begins.0, ap (λ (b : List ℕ). b ++ unread) begins.1 ∙ append_assoc (packet 1 payload) after unread) in
          let says : AnswersGreeting (payload ∷ first.0) = subst AnswersGreeting first.1 keeps'.0 in
          never_both payload says.0 place says.1 wrong

      -- How the line ends, and what was written behind the replies.
      stops_at : (end : LinkEnd) (at : Finish S E) (unread : List ℕ) (next : List (List ℕ)) → Stops machine before now end at → Keeps at.phase next → at.rest ++ unread ≡ ahead at.phase next → (now.input_ended ≡ true → unread ≡ [])
          → EndsAt end at.phase next × (at.last ≡ last_words end at.phase) × (at.events ≡ [])
      stops_at Quit at unread next (payload, after, listens, zero, begins, quit, silent) keeps is whole =
          (quits at.phase at.rest unread payload after next keeps is zero begins quit, silent.0, silent.1)
      stops_at End at unread next (listens, ended, none, silent) keeps is whole =
          (no_more at.phase next keeps (sym is ∙ ap (λ (b : List ℕ). at.rest ++ b) (whole ended) ∙ append-nil at.rest ∙ none), silent.0, silent.1)
      stops_at Truncated at unread next (listens, ended, some, part, silent) keeps is whole =
          absurd (no_part at.phase at.rest next keeps (sym (append-nil at.rest) ∙ ap (λ (b : List ℕ). at.rest ++ b) (sym (whole ended)) ∙ is) some part)
      stops_at (BadHandshake place) at unread next ((payload, after, start, greeted, begins, wrong, says), none) keeps is whole =
          absurd (bad at.phase start at.rest unread payload after place next keeps is greeted begins wrong)
      stops_at (TooLarge size) at unread next ((seq, large, listens, says), none) keeps is whole =
          absurd (no_large at.phase (at.rest ++ unread) next size seq keeps is (large_stays at.rest unread size seq large))
      stops_at (OutOfOrder seq) at unread next ((out, listens, says), none) keeps is whole =
          absurd (no_disorder at.phase (at.rest ++ unread) next seq keeps is (order_stays (expected at.phase) at.rest unread seq out))
      stops_at ReadFault at unread next (listens, rose, part, silent) keeps is whole = absurd (steady.reads rose)
      stops_at WriteFault at unread next (rose, cuts) keeps is whole = absurd (steady.writes rose)
      stops_at Worn at unread next (state, worn, silent) keeps is whole = ((state, worn), silent.0, silent.1)
      stops_at NoMemory at unread next (listens, part, (said, none)) keeps is whole =
          (tt, ⊎_elim (λ all. all) (λ cut. absurd (steady.writes cut.0)) said, none)

      pub complete : (connection : ℕ) (start : S) (read written : List ℕ) (end : LinkEnd) (events : List E) (payloads : List (List ℕ)) → IsLine machine connection start before now read written end events
          → KeepsToProtocol now read payloads → IsComplete machine connection start payloads written end events
      complete connection start read written end events payloads line keeps =
          let passes = run_passes line.turns (Opened connection start) line.at.phase (line.at.rest ++ keeps.unread) payloads line.run (keeps.answers, keeps.short)
          (sym (append_assoc (flat_map (λ t. t.read) line.turns) line.at.rest keeps.unread) ∙ ap (λ (b : List ℕ). b ++ keeps.unread) (sym line.is_read) ∙ keeps.sent) in
          let stops = stops_at end line.at keeps.unread passes.next line.stops passes.keeps passes.left keeps.whole in
          record {
            answered = passes.answered;
            next = passes.next;
            are = passes.are;
            turns = line.turns;
            phase = line.at.phase;
            run = line.run;
            reads = answered_bytes (Opened connection start) line.at.phase (flat_map (λ t. t.read) line.turns) (line.at.rest ++ keeps.unread) payloads passes;
            writes = line.is_written ∙ ap (λ (b : List ℕ). flat_map (λ t. t.written) line.turns ++ b) stops.1;
            happened = line.happened ∙ ap (λ (es : List E). flat_map (λ t. t.events) line.turns ++ es) stops.2 ∙ append-nil (flat_map (λ t. t.events) line.turns);
            ends = stops.0;
          }
