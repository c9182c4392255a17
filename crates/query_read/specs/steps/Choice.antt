-- What the parts of the choice of the first fault answer.
use Rattle.std.specs.Prelude.{◌≡◌, ◌≤◌, ◌⊎◌, ℕ, List, [], ◌∷◌, ◌++◌, true, Option, Some, None, Contains}
use Rattle.query_marks.specs.declared.fault.QueryKind.{QueryKind}
use Rattle.query_marks.specs.declared.fault.QueryKind.TheVariants as kinds
use Rattle.query_marks.specs.declared.fault.Wrong.{Wrong}
use Rattle.query_marks.specs.declared.mark.Mark.{Mark}
use Rattle.query_marks.specs.declared.mark.Sign.TheVariants as signs
use Rattle.token_grammar.specs.Values.{Begins}
use Rattle.query_tree.specs.declared.query.Node.{Node}
use Rattle.query_grammar.specs.declared.fault.QueryFault.{QueryFault}
use Rattle.query_grammar.specs.Grammar.{IsQuery}
use Rattle.query_grammar.specs.QueryFaults.{Any, Told, Stops, IsNamed, order, EndedAnd, EndedSpan, IsUpTo}
use Rattle.query_grammar.specs.Queries.{told_of}
use Rattle.query_grammar.specs.steps.Classes.{is_ended}
use Rattle.query_grammar.specs.steps.MarkFacts.{Ascend}

abbrev pub nameless : ℕ → QueryKind → Told
nameless place kind = record { place = place; kind = kind; name = [] }

-- the marks that are read where reading stops at the place, or not at all
abbrev pub IsReadUpTo : List Mark → Option ℕ → List Mark → Type 0
IsReadUpTo marks None read = ((node : Node) × IsQuery Any 32 node marks) × (read ≡ marks)
IsReadUpTo marks (Some place) read = (stop : Mark) × Stops marks read stop × (place ≡ stop.at)

-- Marks that are read: a query goes on from them, they ascend, and nothing is wrong with NOT by itself.
pub record AreRead (read : List Mark) : Type 0 where
  pub begins : Begins (IsQuery Any 32) read
  pub ascend : Ascend read
  pub clean : (m : Mark) → Contains read m → m.sign ≡ signs.Not → m.wrong ≡ None

-- what is wrong with a mark
abbrev pub wrong_at : Mark → Wrong → Told
wrong_at m wrong = record { place = m.at; kind = wrong.kind; name = wrong.name }

-- the first mark with which something is wrong
abbrev pub IsFirstWrong : List Mark → Option QueryFault → Type 0
IsFirstWrong marks None = (m : Mark) → Contains marks m → m.wrong ≡ None
IsFirstWrong marks (Some fault) =
    (before : List Mark) × (m : Mark) × (after : List Mark) × (wrong : Wrong) × (marks ≡ before ++ m ∷ after) × (m.wrong ≡ Some wrong) × (told_of fault ≡ wrong_at m wrong) × ((n : Mark) → Contains before n → n.wrong ≡ None)

-- what a text may be refused for within the marks that are read
pub data IsWithin (read : List Mark) (told : Told) : Type 0 where
  by_mark : (m : Mark) (wrong : Wrong) → Contains read m → m.wrong ≡ Some wrong → told ≡ wrong_at m wrong → IsWithin read told
  by_end : EndedAnd read told.place ⊎ EndedSpan read told.place → told ≡ nameless told.place kinds.OnlyNot → IsWithin read told

-- the first of them, where there is one
abbrev pub IsFirstWithin : List Mark → Option QueryFault → Type 0
IsFirstWithin read None = (told : Told) → IsWithin read told → ⊥
IsFirstWithin read (Some fault) = IsWithin read (told_of fault) × ((other : Told) → IsWithin read other → IsUpTo (told_of fault) other)

-- the marks before a stop, and the stop
abbrev pub IsStopOfText : List Mark → Mark → Type 0
IsStopOfText front stop = (marks : List Mark) × Stops marks front stop × (is_ended marks ≡ true)

-- What a stop is called: the first of its names, by the order of the kinds.
pub record IsCalled (front : List Mark) (stop : Mark) (kind : QueryKind) : Type 0 where
  pub named : IsNamed front stop kind
  pub first : (other : QueryKind) → IsNamed front stop other → order kind ≤ order other
