-- The first fault of a text, by place, and at one place by the order of the kinds.
use Rattle.std.specs.Prelude.{◌≡◌, ◌≢◌, ◌⊎◌, ◌<◌, ◌≤◌, ℕ, List, [], ◌∷◌, ◌++◌, true, false, Some, None, Contains}
use Rattle.token_grammar.specs.Values.{Begins}
use Rattle.query_tree.specs.declared.query.Node.{Node}
use Rattle.query_tree.specs.declared.query.Item.{Item}
use Rattle.query_marks.specs.declared.fault.QueryKind.{QueryKind}
use Rattle.query_marks.specs.declared.fault.QueryKind.TheVariants as kinds
use Rattle.query_marks.specs.declared.mark.Mark.{Mark}
use Rattle.query_marks.specs.declared.mark.Sign.{Sign}
use Rattle.query_marks.specs.declared.mark.Sign.TheVariants as signs
use Rattle.query_marks.specs.declared.fault.Wrong.{Wrong}
use Rattle.query_grammar.specs.Grammar.{Section, IsGroup, IsAnd, IsSection, IsQuery, all_items, has_item}

-- the order of the kinds at one place
abbrev pub order : QueryKind → ℕ
order kinds.UnclosedQuote = 0
order kinds.Syntax = 1
order kinds.OnlyNot = 2
order kinds.UnknownField = 3
order kinds.UnknownZone = 4
order kinds.NameTooLong = 5
order kinds.NumberOutOfRange = 6
order kinds.Nesting = 7
order kinds.TooManyKeywords = 8
order kinds.ZoneSpanBeforeOperator = 9
order kinds.PrefixTooShort = 10

-- an AND may have negated items alone
abbrev pub Any : List Section → Type 0
Any sections = Unit {0}

-- a fault, as it is told
pub record Told : Type 0 where
  pub place : ℕ
  pub kind : QueryKind
  pub name : List ℕ

-- The pieces up to here, and the piece with which reading stops: no query within the limit of nesting goes on with it.
pub record Stops (marks front : List Mark) (stop : Mark) : Type 0 where
  pub rest : List Mark
  pub is : marks ≡ front ++ stop ∷ rest
  pub begins : Begins (IsQuery Any 32) front
  pub stops : Begins (IsQuery Any 32) (front ++ stop ∷ []) → ⊥

-- what a stop is called: an unclosed quote, nesting where a deeper query goes on, else a syntax error
abbrev pub IsNamed : List Mark → Mark → QueryKind → Type 0
IsNamed front stop kinds.UnclosedQuote = stop.sign ≡ signs.Unclosed
IsNamed front stop kinds.Nesting = (depth : ℕ) × Begins (IsQuery Any depth) (front ++ stop ∷ [])
IsNamed front stop kinds.Syntax = (stop.sign ≢ signs.Unclosed) × ((depth : ℕ) → Begins (IsQuery Any depth) (front ++ stop ∷ []) → ⊥)
IsNamed front stop _ = ⊥

-- an AND begins after it
abbrev pub BeginsAnd : Sign → Type 0
BeginsAnd sign = (sign ≡ signs.Relaxed) ⊎ (sign ≡ signs.Open) ⊎ (sign ≡ signs.Before) ⊎ ((n : ℕ) × (sign ≡ signs.Near n))

-- an AND ends before it
abbrev pub EndsAnd : Sign → Type 0
EndsAnd sign = (sign ≡ signs.Close) ⊎ (sign ≡ signs.Before) ⊎ (sign ≡ signs.End) ⊎ ((n : ℕ) × (sign ≡ signs.Near n))

-- a limit
abbrev pub IsAnyLimit : Sign → Type 0
IsAnyLimit sign = (sign ≡ signs.Limits) ⊎ ((zones : List ℕ) × (sign ≡ signs.Spans zones))

-- nothing stands before, or the last mark has the property
abbrev pub LastIs : (Sign → Type 0) → List Mark → Type 0
LastIs P marks = (marks ≡ []) ⊎ ((a : List Mark) × (m : Mark) × (marks ≡ a ++ m ∷ []) × P m.sign)

-- the place of the first mark that is no limit: the first item's
pub record FirstItem (marks : List Mark) (place : ℕ) : Type 0 where
  pub limiting : List Mark
  pub item : Mark
  pub rest : List Mark
  pub is : marks ≡ limiting ++ item ∷ rest
  pub are : (m : Mark) → Contains limiting m → IsAnyLimit m.sign
  pub no_limit : IsAnyLimit item.sign → ⊥
  pub at : place ≡ item.at

-- Among the pieces that were read an AND ended that has negated items alone.
pub record EndedAnd (marks : List Mark) (place : ℕ) : Type 0 where
  pub a : List Mark
  pub b : List Mark
  pub next : Mark
  pub c : List Mark
  pub is : marks ≡ a ++ (b ++ next ∷ c)
  pub begins : LastIs BeginsAnd a
  pub ends : EndsAnd next.sign
  pub sections : List Section
  pub and : IsAnd (IsGroup Any 32) sections b
  pub none : has_item (all_items sections) ≡ false
  pub at : FirstItem b place

-- Among them a ZONESPAN ended, by a limit or with its AND, that stands over negated items alone.
pub record EndedSpan (marks : List Mark) (place : ℕ) : Type 0 where
  pub a : List Mark
  pub zones : List ℕ
  pub limit : Mark
  pub b : List Mark
  pub next : Mark
  pub c : List Mark
  pub is : marks ≡ a ++ limit ∷ (b ++ next ∷ c)
  pub spanning : limit.sign ≡ signs.Spans zones
  pub ends : EndsAnd next.sign ⊎ IsAnyLimit next.sign
  pub items : List Item
  pub section : IsSection (IsGroup Any 32) true (record { span = None; items = items }) b
  pub begun : (m : Mark) (rest : List Mark) → b ≡ m ∷ rest → IsAnyLimit m.sign → ⊥
  pub none : has_item items ≡ false
  pub at : FirstItem b place

-- the pieces that are read: all, or those before the stop
abbrev pub IsRead : List Mark → List Mark → Type 0
IsRead marks read =
    ((node : Node) × IsQuery Any 32 node marks × (read ≡ marks))
    ⊎ ((stop : Mark) × Stops marks read stop)

-- what a text may be refused for
pub data IsCandidate (marks : List Mark) : Told → Type 0 where
  by_stop : (front : List Mark) (stop : Mark) (kind : QueryKind) → Stops marks front stop → IsNamed front stop kind → IsCandidate marks (record { place = stop.at; kind = kind; name = [] })
  by_itself : (read : List Mark) (m : Mark) (wrong : Wrong) → IsRead marks read → Contains read m → m.wrong ≡ Some wrong → IsCandidate marks (record { place = m.at; kind = wrong.kind; name = wrong.name })
  by_and : (read : List Mark) (place : ℕ) → IsRead marks read → EndedAnd read place → IsCandidate marks (record { place = place; kind = kinds.OnlyNot; name = [] })
  by_span : (read : List Mark) (place : ℕ) → IsRead marks read → EndedSpan read place → IsCandidate marks (record { place = place; kind = kinds.OnlyNot; name = [] })

-- a fault isn't after another one
abbrev pub IsUpTo : Told → Told → Type 0
IsUpTo a b = (a.place < b.place) ⊎ ((a.place ≡ b.place) × (order a.kind ≤ order b.kind))

-- The first fault of a text, by its marks.
pub record IsFirstFault (marks : List Mark) (told : Told) : Type 0 where
  pub is : IsCandidate marks told
  pub first : (other : Told) → IsCandidate marks other → IsUpTo told other
