-- What the reader of a text answers, by what its parts found in the marks that are given.
use Rattle.std.proofs.Common.{◌≡◌, ◌≢◌, ℕ, ◌≤◌, List, [], ◌++◌, true, false, Bool, length, min, Some, None, inl, refl, sym, ◌∙◌, ap, subst, arith, IsUtf8}
use Rattle.std.specs.Prelude.{Option, Contains}
use Rattle.std.specs.List.{flat_map}
use Rattle.token_grammar.specs.Reading.{IsNextOf}
use Rattle.query_pieces.specs.declared.piece.Piece.{Piece}
use Rattle.query_pieces.specs.Pieces.{ArePieces}
use Rattle.query_pieces.proofs.EachPiece.{has_pieces}
use Rattle.query_marks.specs.declared.fault.QueryKind.TheVariants as kinds
use Rattle.query_marks.specs.declared.fault.Wrong.{Wrong}
use Rattle.query_marks.specs.declared.mark.Mark.{Mark}
use Rattle.query_marks.specs.declared.mark.Sign.{Sign}
use Rattle.query_marks.specs.declared.mark.Sign.TheVariants as signs
use Rattle.query_marks.specs.Marks.{Setting, alphabet_in, marks_of}
use Rattle.query_marks.specs.Enough.{AreEnough}
use Rattle.query_grammar.specs.declared.class.Class.TheVariants as classes
use Rattle.query_grammar.specs.declared.fault.QueryFault.{QueryFault}
use Rattle.query_tree.specs.declared.query.Node.{Node}
use Rattle.query_grammar.specs.Grammar.{Is, IsQuery}
use Rattle.query_grammar.specs.QueryFaults.{Any, Told, Stops, IsNamed, IsCandidate, by_stop, by_itself, IsFirstFault}
use Rattle.query_grammar.specs.Queries.{keys_of, told_of, IsRefused, IsValue}
use Rattle.query_grammar.specs.steps.Answers.{IsFound}
use Rattle.query_grammar.specs.steps.Classes.{is_ended}
use Rattle.query_grammar.specs.steps.MarkAlphabet.{query_marks}
use Rattle.query_grammar.specs.steps.Joined.{ends_joined}
use Rattle.query_grammar.specs.steps.MarkFacts.{AreOrderly}
use Rattle.query_grammar.proofs.Nesting.{goes_deeper, no_deeper}
use Rattle.query_grammar.proofs.KeyCount.{few_keywords}
use Rattle.query_grammar.proofs.EnoughMarks.{first_of_all, all_given}
use Rattle.query_grammar.proofs.MarkOrder.{orderly_given}
use Rattle.query_read.proofs.OnlyEnd.{end_alone, more_than_end, end_of_all, end_of_given}

-- the marks of a text, or enough of them
abbrev pub Given : Setting → List ℕ → List Mark → Type 0
Given setting text given = (pieces : List Piece) → ArePieces (alphabet_in setting) text pieces → AreEnough (length text) (marks_of setting text pieces) given

-- each stop has a name, so that a text that stops has a fault
pub named : {marks front : List Mark} {stop : Mark} → Stops marks front stop → is_ended marks ≡ true → (told : Told) × IsCandidate marks told
named {marks} {front} {stop} stops ended = by stop.sign refl
  where
    told : (kind : _) → IsNamed front stop kind → (told : Told) × IsCandidate marks told
    told kind is = (record { place = stop.at; kind = kind; name = [] }, by_stop front stop kind stops is)

    group : stop.sign ≡ signs.Open → (joined : Bool) → ends_joined front ≡ joined → (told : Told) × IsCandidate marks told
    group is true joined = told kinds.Syntax ((λ e. cc), no_deeper stops (λ _. joined))
    group is false apart = told kinds.Nesting (goes_deeper stops ended is apart)

    other : (stop.sign ≢ signs.Unclosed) → (stop.sign ≢ signs.Open) → (told : Told) × IsCandidate marks told
    other closed flat = told kinds.Syntax (closed, no_deeper stops (λ is. absurd (flat is)))

    by : (sign : Sign) → stop.sign ≡ sign → (told : Told) × IsCandidate marks told
    by signs.Unclosed is = told kinds.UnclosedQuote is
    by signs.Open is = group is (ends_joined front) refl
    by (signs.Bare key) is = other (λ e. cc) (λ e. cc)
    by (signs.Phrase keys) is = other (λ e. cc) (λ e. cc)
    by (signs.Loose keys how) is = other (λ e. cc) (λ e. cc)
    by signs.Close is = other (λ e. cc) (λ e. cc)
    by signs.Or is = other (λ e. cc) (λ e. cc)
    by signs.Before is = other (λ e. cc) (λ e. cc)
    by signs.Not is = other (λ e. cc) (λ e. cc)
    by signs.Maybe is = other (λ e. cc) (λ e. cc)
    by signs.Sentence is = other (λ e. cc) (λ e. cc)
    by signs.Paragraph is = other (λ e. cc) (λ e. cc)
    by (signs.Near n) is = other (λ e. cc) (λ e. cc)
    by signs.Limits is = other (λ e. cc) (λ e. cc)
    by (signs.Spans zones) is = other (λ e. cc) (λ e. cc)
    by signs.Relaxed is = other (λ e. cc) (λ e. cc)
    by signs.End is = other (λ e. cc) (λ e. cc)

-- no fault was found
pub none_found : {marks : List Mark} (found : Option QueryFault) → ((fault : QueryFault) → found ≡ Some fault → ⊥) → IsFound marks found → IsFound marks None
none_found None other is = is
none_found (Some fault) other is = absurd (other fault refl)

-- nothing is left but the end
pub empty_answer : (setting : Setting) (text : List ℕ) (given : List Mark) → Given setting text given → is_ended given ≡ true → IsNextOf query_marks classes.End given true → (pieces : List Piece) → ArePieces (alphabet_in setting) text pieces → IsValue (record { root = None; keywords = 0 }) (marks_of setting text pieces)
empty_answer setting text given enough ended next pieces are =
    let end = end_of_all (length text) (marks_of setting text pieces) given (enough pieces are) (end_alone ended next) in
    (end, counted end)
  where
    counted : {marks : List Mark} → Is signs.End marks → 0 ≡ length (flat_map (λ (m : Mark). keys_of m.sign) marks)
    counted {marks} (m, is, end) = sym (ap (λ l. length (flat_map (λ (x : Mark). keys_of x.sign) l)) is ∙ ap (λ sign. length (keys_of sign ++ [])) end)

-- a fault of the marks that are given
pub refused_answer : (setting : Setting) (text : List ℕ) (given : List Mark) (fault : QueryFault) → IsUtf8 text → Given setting text given → IsNextOf query_marks classes.End given false → IsFirstFault given (told_of fault) → (pieces : List Piece) → ArePieces (alphabet_in setting) text pieces → IsRefused fault (marks_of setting text pieces)
refused_answer setting text given fault utf8 enough next first pieces are = (
  first_of_all setting text pieces given (told_of fault) utf8 are (enough pieces are) first,
  λ end. more_than_end next (end_of_given (length text) (marks_of setting text pieces) given (enough pieces are) end),
)

-- the marks that are given are in order
pub given_orderly : (setting : Setting) (text : List ℕ) (given : List Mark) → IsUtf8 text → Given setting text given → AreOrderly given
given_orderly setting text given utf8 enough =
    let (pieces, are) = has_pieces (alphabet_in setting) text utf8 in
    orderly_given setting text pieces given utf8 are (enough pieces are)

-- a query without a fault
pub query_answer : (setting : Setting) (text : List ℕ) (given : List Mark) (root : Node) (keywords : ℕ) → IsUtf8 text → Given setting text given → IsQuery Any 32 root given → ((told : Told) → IsCandidate given told → ⊥) → keywords ≡ min (length (flat_map (λ m. keys_of m.sign) given)) 65535 → (pieces : List Piece) → ArePieces (alphabet_in setting) text pieces → IsValue (record { root = Some root; keywords = keywords }) (marks_of setting text pieces)
query_answer setting text given root keywords utf8 enough query none counted pieces are = whole (marks_of setting text pieces) (all_given (length text) (marks_of setting text pieces) given (enough pieces are) none (root, query)) (few_keywords setting text pieces utf8 are)
  where
    whole : (all : List Mark) → given ≡ all → (((m : Mark) → Contains all m → m.wrong ≡ None) → length (flat_map (λ m. keys_of m.sign) all) ≤ 255) → IsValue (record { root = Some root; keywords = keywords }) all
    whole all same few =
        let here : IsQuery Any 32 root all = subst (λ l. IsQuery Any 32 root l) same query in
        let none_here : (told : Told) → IsCandidate all told → ⊥ = subst (λ l. (told : Told) → IsCandidate l told → ⊥) same none in
        let count : keywords ≡ min (length (flat_map (λ m. keys_of m.sign) all)) 65535 = counted ∙ ap (λ l. min (length (flat_map (λ m. keys_of m.sign) l)) 65535) same in
        let bound : length (flat_map (λ m. keys_of m.sign) all) ≤ 255 = few (λ m has. right all here none_here m has m.wrong refl) in
        ((here, none_here), omega (arith, count, bound))
      where
        right : (all : List Mark) → IsQuery Any 32 root all → ((told : Told) → IsCandidate all told → ⊥) → (m : Mark) → Contains all m → (o : Option Wrong) → m.wrong ≡ o → m.wrong ≡ None
        right all query none m has None is = is
        right all query none m has (Some wrong) is = absurd (none (record { place = m.at; kind = wrong.kind; name = wrong.name }) (by_itself all m wrong (inl (root, query, refl)) has is))
