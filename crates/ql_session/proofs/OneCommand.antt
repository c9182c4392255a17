-- What came of a command has one reply, and leaves the session in one state.
use Rattle.std.proofs.Common.{◌≡◌, ℕ, List, sym, ◌∙◌}
use Rattle.mysql_wire.specs.Commands.{ClientCommand, Quit as asks_quit, InitDb, Query, Ping, SetOption, Unknown}
use Rattle.doc_types.specs.Snapshots.{SnapshotValue}
use Rattle.ql_answers.specs.declared.state.State.{State}
use Rattle.ql_session.specs.Events.{Event}
use Rattle.ql_session.specs.Session.{Answers}
use Rattle.ql_session.specs.Statements.{AnswersText, HaveLayers}

pub one_command : {F : Type 0} (documents : F → SnapshotValue)
    → ((old : State) (text : List ℕ) (events : List (Event F)) (a b : List ℕ) (x y : State) → HaveLayers documents events → AnswersText documents old text events a x → AnswersText documents old text events b y → (a ≡ b) × (x ≡ y))
    → (old : State) (asked : ClientCommand) (events : List (Event F)) (a b : List ℕ) (x y : State) → HaveLayers documents events → Answers documents old asked events a x → Answers documents old asked events b y → (a ≡ b) × (x ≡ y)
one_command documents one_answer old asks_quit events a b x y layers one two = absurd one
one_command documents one_answer old (Query text) events a b x y layers one two = one_answer old text events a b x y layers one two
one_command documents one_answer old Ping events a b x y layers one two = (one.1 ∙ sym two.1, one.2 ∙ sym two.2)
one_command documents one_answer old (InitDb name) events a b x y layers one two = (one.1 ∙ sym two.1, one.2 ∙ sym two.2)
one_command documents one_answer old (SetOption option) events a b x y layers one two = (one.1 ∙ sym two.1, one.2 ∙ sym two.2)
one_command documents one_answer old (Unknown code) events a b x y layers one two = (one.1 ∙ sym two.1, one.2 ∙ sym two.2)
