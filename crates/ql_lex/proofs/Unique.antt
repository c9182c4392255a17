-- A text is read in one way.
use Rattle.std.proofs.Common.{◌≡◌, ℕ, ◌-◌, ◌^◌, ◌<◌, ◌≤◌, false, eqb, List, [], ◌∷◌, ◌++◌, get_or, slice_range, length, refl, sym, ap, ◌∙◌, subst, arith, ⊎_elim, inl, inr}
use Rattle.std.specs.Prelude.{◌⊎◌}
use Rattle.std.specs.Char.{is_ascii_digit}
use Rattle.std.proofs.lemmas.Bool.{eqb-false}
use Rattle.ql_lex.specs.declared.fault.LexKind.{LexKind}
use Rattle.ql_lex.specs.declared.fault.LexKind.TheVariants.{NotUtf8, UnclosedQuote, UnclosedComment, BadCharacter, NumberTooLarge, NumberWithPoint, NameTooLong}
use Rattle.ql_lex.specs.declared.part.Part.{Part}
use Rattle.ql_lex.specs.declared.part.Part.TheVariants as parts
use Rattle.ql_lex.specs.declared.token.TokenKind.{TokenKind}
use Rattle.ql_lex.specs.declared.token.TokenKind.TheVariants as tokens
use Rattle.std.specs.Str.{IsUtf8}
use Rattle.std.specs.Str.Parse.{digits_value}
use Rattle.ql_lex.specs.Shapes.{IsNamed, bare_name, inside}
use Rattle.ql_lex.specs.Tokens.{IsToken, Stands, end_of, IsNotUtf8, IsUnclosed, open_text, open_name, IsOpenComment, IsTooLarge, IsPointed, IsTooLong, IsFaulty, IsBad, Fails, Splits, Lexeme, tokens_among, end_token, AreTokens, FaultAt}
use Rattle.ql_lex.proofs.Heads.{head, head_quote, quote_some}
use Rattle.ql_lex.proofs.PartHeads.{kind_head, part_head, same_kind, stands_head, text_head, digits_head, named_head, unclosed_head}
use Rattle.ql_lex.proofs.Slices.{byte_within}
use Rattle.ql_lex.proofs.Enclosed.{quotes_from}
use Rattle.ql_lex.proofs.TextTokens.{ends_from}
use Rattle.ql_lex.proofs.Readings.{part_within}
use Rattle.ql_lex.proofs.Ends.{token_end, named_end, named_some, digits_end, digits_some, text_end, comment_end}

-- a byte has one head
differ : (h a b : ℕ) → eqb a b ≡ false → h ≡ a → h ≡ b → ⊥
differ h a b apart first second = eqb-false a b apart (sym first ∙ second)

-- two parts at a place
pub one_part : (text : List ℕ) (at : ℕ) (p q : Part) → Stands text at p → Stands text at q → p ≡ q
one_part text at p q first second = same p q (sym (stands_head text at p first) ∙ stands_head text at q second) first second
  where
    no_token : (kind : TokenKind) (h : ℕ) → (h ≡ 1) ⊎ (h ≡ 7) → kind_head kind ≡ h → ⊥
    no_token tokens.Name h is e = ⊎_elim (λ i. omega arith) (λ i. omega arith) is
    no_token tokens.Quoted h is e = ⊎_elim (λ i. omega arith) (λ i. omega arith) is
    no_token tokens.Number h is e = ⊎_elim (λ i. omega arith) (λ i. omega arith) is
    no_token tokens.Text h is e = ⊎_elim (λ i. omega arith) (λ i. omega arith) is
    no_token tokens.SysVar h is e = ⊎_elim (λ i. omega arith) (λ i. omega arith) is
    no_token tokens.Sign h is e = ⊎_elim (λ i. omega arith) (λ i. omega arith) is
    no_token tokens.End h is e = ⊎_elim (λ i. omega arith) (λ i. omega arith) is

    same : (p q : Part) → part_head p ≡ part_head q → Stands text at p → Stands text at q → p ≡ q
    same parts.Blank parts.Blank e first second = refl
    same parts.Blank (parts.Comment b) e first second = absurd (omega arith)
    same parts.Blank (parts.Token kind b) e first second = absurd (no_token kind 1 (inl refl) (sym e))
    same (parts.Comment a) parts.Blank e first second = absurd (omega arith)
    same (parts.Comment a) (parts.Comment b) e first second = ap parts.Comment (comment_end text at a b first second)
    same (parts.Comment a) (parts.Token kind b) e first second = absurd (no_token kind 7 (inr refl) (sym e))
    same (parts.Token kind a) parts.Blank e first second = absurd (no_token kind 1 (inl refl) e)
    same (parts.Token kind a) (parts.Comment b) e first second = absurd (no_token kind 7 (inr refl) e)
    same (parts.Token j a) (parts.Token k b) e first second =
        let kinds : j ≡ k = same_kind j k e in
        let other : IsToken k text at a = subst (λ i. IsToken i text at a) kinds first in
        ap (λ (i : TokenKind). parts.Token i a) kinds ∙ ap (parts.Token k) (token_end k text at a b other second)

-- the token at a place, by the head of its byte
token_of : (text : List ℕ) (at : ℕ) (part : Part) (kind : TokenKind) (h : ℕ) → kind_head kind ≡ h → (h ≡ 1 → ⊥) → (h ≡ 7 → ⊥) → Stands text at part → head (get_or text at 0) ≡ h → (to : ℕ) × IsToken kind text at to
token_of text at parts.Blank kind h is no_blank no_slash stands here = absurd (no_blank (sym here ∙ stands_head text at parts.Blank stands))
token_of text at (parts.Comment to) kind h is no_blank no_slash stands here = absurd (no_slash (sym here ∙ stands_head text at (parts.Comment to) stands))
token_of text at (parts.Token j to) kind h is no_blank no_slash stands here =
    (to, subst (λ i. IsToken i text at to) (same_kind j kind (sym (stands_head text at (parts.Token j to) stands) ∙ here ∙ sym is)) stands)

-- the head of a name isn't that of a blank or a comment
named_no : (kind : TokenKind) (bytes : List ℕ) → IsNamed kind bytes → (kind_head kind ≡ 1 → ⊥) × (kind_head kind ≡ 7 → ⊥)
named_no tokens.Name bytes named = (λ e. omega arith, λ e. omega arith)
named_no tokens.Quoted bytes named = (λ e. omega arith, λ e. omega arith)
named_no tokens.SysVar bytes named = (λ e. omega arith, λ e. omega arith)
named_no tokens.Number bytes named = absurd named
named_no tokens.Text bytes named = absurd named
named_no tokens.Sign bytes named = absurd named
named_no tokens.End bytes named = absurd named

-- a token with a name that isn't too long
short_token : (kind : TokenKind) (text : List ℕ) (at to : ℕ) → IsToken kind text at to → (bytes : List ℕ) → IsNamed kind bytes → IsNamed kind (slice_range text at to) × (length (bare_name kind (slice_range text at to)) ≤ 64)
short_token tokens.Name text at to is bytes named = is.lexeme
short_token tokens.Quoted text at to is bytes named = is.lexeme
short_token tokens.SysVar text at to is bytes named = is.lexeme
short_token tokens.Number text at to is bytes named = absurd named
short_token tokens.Text text at to is bytes named = absurd named
short_token tokens.Sign text at to is bytes named = absurd named
short_token tokens.End text at to is bytes named = absurd named

-- what a part and a fault of each kind at one place come to
no_utf8 : (text : List ℕ) (at : ℕ) (part : Part) → Stands text at part → IsNotUtf8 text at → ⊥
no_utf8 text at part stands fault =
    let token = token_of text at part tokens.Text 4 refl (λ e. omega arith) (λ e. omega arith) stands (text_head text at fault.to fault.quoted) in
    let same : token.0 ≡ fault.to = text_end text at token.0 fault.to token.1.within fault.within token.1.lexeme.0 fault.quoted in
    fault.other (subst (λ n. IsUtf8 (inside (slice_range text at n))) same token.1.lexeme.1)

no_unclosed : (text : List ℕ) (at : ℕ) (part : Part) → Stands text at part → IsUnclosed text at → ⊥
no_unclosed text at part stands (open_text quote none) =
    let token = token_of text at part tokens.Text 4 refl (λ e. omega arith) (λ e. omega arith) stands (head_quote (get_or text at 0) quote) in
    none token.0 token.1.within token.1.lexeme.0
no_unclosed text at part stands (open_name quote none) =
    let token = token_of text at part tokens.Quoted 5 refl (λ e. omega arith) (λ e. omega arith) stands (ap head quote) in
    let quotes = quotes_from 96 text at token.0 token.1.within token.1.lexeme.0.0 in
    none (token.0 - 1) quotes.1.before quotes.1.closes

no_open_comment : (text : List ℕ) (at : ℕ) (part : Part) → Stands text at part → IsOpenComment text at → ⊥
no_open_comment text at parts.Blank stands fault = differ (head (get_or text at 0)) 1 7 refl (stands_head text at parts.Blank stands) (ap head fault.opens.slash)
no_open_comment text at (parts.Comment to) stands fault = fault.open_for_good stands.last stands.behind stands.closes
no_open_comment text at (parts.Token kind to) stands fault = no_kind kind (sym (stands_head text at (parts.Token kind to) stands) ∙ ap head fault.opens.slash)
  where
    no_kind : (kind : TokenKind) → kind_head kind ≡ 7 → ⊥
    no_kind tokens.Name e = omega arith
    no_kind tokens.Quoted e = omega arith
    no_kind tokens.Number e = omega arith
    no_kind tokens.Text e = omega arith
    no_kind tokens.SysVar e = omega arith
    no_kind tokens.Sign e = omega arith
    no_kind tokens.End e = omega arith

no_large : (text : List ℕ) (at : ℕ) (part : Part) → Stands text at part → IsTooLarge text at → ⊥
no_large text at part stands fault =
    let token = token_of text at part tokens.Number 3 refl (λ e. omega arith) (λ e. omega arith) stands (digits_head text at fault.to fault.digits) in
    let same : token.0 ≡ fault.to = digits_end text at token.0 fault.to token.1.within fault.within token.1.lexeme.0 fault.digits token.1.whole.0 fault.all in
    let below : digits_value 10 (slice_range text at fault.to) < 2 ^ 64 = subst (λ n. digits_value 10 (slice_range text at n) < 2 ^ 64) same token.1.lexeme.1 in
    omega (arith, below, fault.above)

-- a dot is no digit
point_stops : (text : List ℕ) (at : ℕ) (fault : IsPointed text at) → (is_ascii_digit (get_or text fault.to 0) ≡ false) × (fault.to ≤ length text)
point_stops text at fault = (ap is_ascii_digit fault.point, omega (arith, byte_within text fault.to (omega (arith, fault.point))))

no_pointed : (text : List ℕ) (at : ℕ) (part : Part) → Stands text at part → IsPointed text at → ⊥
no_pointed text at part stands fault =
    let token = token_of text at part tokens.Number 3 refl (λ e. omega arith) (λ e. omega arith) stands (digits_head text at fault.to fault.digits) in
    let stops = point_stops text at fault in
    let same : token.0 ≡ fault.to = digits_end text at token.0 fault.to token.1.within stops.1 token.1.lexeme.0 fault.digits token.1.whole.0 stops.0 in
    token.1.whole.1 (ap (λ n. get_or text n 0) same ∙ fault.point)

no_long : (text : List ℕ) (at : ℕ) (part : Part) → Stands text at part → IsTooLong text at → ⊥
no_long text at part stands fault =
    let no = named_no fault.kind (slice_range text at fault.to) fault.named in
    let token = token_of text at part fault.kind (kind_head fault.kind) refl no.0 no.1 stands (named_head fault.kind text at fault.to fault.named) in
    let short = short_token fault.kind text at token.0 token.1 (slice_range text at fault.to) fault.named in
    let same : token.0 ≡ fault.to = named_end fault.kind text at token.0 fault.to token.1.within fault.within short.0 fault.named token.1.whole fault.whole in
    let less : length (bare_name fault.kind (slice_range text at fault.to)) ≤ 64 = subst (λ n. length (bare_name fault.kind (slice_range text at n)) ≤ 64) same short.1 in
    omega (arith, less, fault.above)

-- a part and a fault don't stand at one place
pub part_or_fault : (text : List ℕ) (at : ℕ) (part : Part) (kind : LexKind) → Stands text at part → Fails text at kind → ⊥
part_or_fault text at part NotUtf8 stands fault = no_utf8 text at part stands fault
part_or_fault text at part UnclosedQuote stands fault = no_unclosed text at part stands fault
part_or_fault text at part UnclosedComment stands fault = no_open_comment text at part stands fault
part_or_fault text at part BadCharacter stands fault = fault.no_part part stands
part_or_fault text at part NumberTooLarge stands fault = no_large text at part stands fault
part_or_fault text at part NumberWithPoint stands fault = no_pointed text at part stands fault
part_or_fault text at part NameTooLong stands fault = no_long text at part stands fault

-- two faults of different kinds
text_or_unclosed : (text : List ℕ) (at : ℕ) → IsNotUtf8 text at → IsUnclosed text at → ⊥
text_or_unclosed text at text_fault (open_text quote none) = none text_fault.to text_fault.within text_fault.quoted
text_or_unclosed text at text_fault (open_name quote none) = differ (head (get_or text at 0)) 4 5 refl (text_head text at text_fault.to text_fault.quoted) (ap head quote)

large_or_pointed : (text : List ℕ) (at : ℕ) → IsTooLarge text at → IsPointed text at → ⊥
large_or_pointed text at large fault =
    let stops = point_stops text at fault in
    let same : large.to ≡ fault.to = digits_end text at large.to fault.to large.within stops.1 large.digits fault.digits large.all stops.0 in
    let below : digits_value 10 (slice_range text at large.to) < 2 ^ 64 = subst (λ n. digits_value 10 (slice_range text at n) < 2 ^ 64) (sym same) fault.fits in
    omega (arith, below, large.above)

-- a name that is too long begins no other way
long_head : (text : List ℕ) (at h : ℕ) → IsTooLong text at → ((kind : TokenKind) (bytes : List ℕ) → IsNamed kind bytes → kind_head kind ≡ h → ⊥) → head (get_or text at 0) ≡ h → ⊥
long_head text at h long none is = none long.kind (slice_range text at long.to) long.named (sym (named_head long.kind text at long.to long.named) ∙ is)

no_named : (h : ℕ) → eqb h 2 ≡ false → eqb h 5 ≡ false → eqb h 6 ≡ false → (kind : TokenKind) (bytes : List ℕ) → IsNamed kind bytes → kind_head kind ≡ h → ⊥
no_named h two five six tokens.Name bytes named e = eqb-false h 2 two (sym e)
no_named h two five six tokens.Quoted bytes named e = eqb-false h 5 five (sym e)
no_named h two five six tokens.SysVar bytes named e = eqb-false h 6 six (sym e)
no_named h two five six tokens.Number bytes named e = named
no_named h two five six tokens.Text bytes named e = named
no_named h two five six tokens.Sign bytes named e = named
no_named h two five six tokens.End bytes named e = named

long_or_unclosed : (text : List ℕ) (at : ℕ) → IsTooLong text at → IsUnclosed text at → ⊥
long_or_unclosed text at long (open_text quote none) = long_head text at 4 long (no_named 4 refl refl refl) (head_quote (get_or text at 0) quote)
long_or_unclosed text at long (open_name quote none) =
    let kind : long.kind ≡ tokens.Quoted = same_kind long.kind tokens.Quoted (sym (named_head long.kind text at long.to long.named) ∙ ap head quote) in
    let named : IsNamed tokens.Quoted (slice_range text at long.to) = subst (λ k. IsNamed k (slice_range text at long.to)) kind long.named in
    let quotes = quotes_from 96 text at long.to long.within named.0 in
    none (long.to - 1) quotes.1.before quotes.1.closes

unclosed_or_head : (text : List ℕ) (at h : ℕ) → eqb 4 h ≡ false → eqb 5 h ≡ false → IsUnclosed text at → head (get_or text at 0) ≡ h → ⊥
unclosed_or_head text at h four five fault is = ⊎_elim (λ e. differ (head (get_or text at 0)) 4 h four e is) (λ e. differ (head (get_or text at 0)) 5 h five e is) (unclosed_head text at fault)

-- faults at one place, but for a bad character
one_other : (text : List ℕ) (at : ℕ) (j k : LexKind) → IsFaulty text at j → IsFaulty text at k → j ≡ k
one_other text at BadCharacter k first second = absurd first
one_other text at NotUtf8 BadCharacter first second = absurd second
one_other text at NotUtf8 NotUtf8 first second = refl
one_other text at NotUtf8 UnclosedQuote first second = absurd (text_or_unclosed text at first second)
one_other text at NotUtf8 UnclosedComment first second = absurd (differ (head (get_or text at 0)) 4 7 refl (text_head text at first.to first.quoted) (ap head second.opens.slash))
one_other text at NotUtf8 NumberTooLarge first second = absurd (differ (head (get_or text at 0)) 4 3 refl (text_head text at first.to first.quoted) (digits_head text at second.to second.digits))
one_other text at NotUtf8 NumberWithPoint first second = absurd (differ (head (get_or text at 0)) 4 3 refl (text_head text at first.to first.quoted) (digits_head text at second.to second.digits))
one_other text at NotUtf8 NameTooLong first second = absurd (long_head text at 4 second (no_named 4 refl refl refl) (text_head text at first.to first.quoted))
one_other text at UnclosedQuote BadCharacter first second = absurd second
one_other text at UnclosedQuote NotUtf8 first second = absurd (text_or_unclosed text at second first)
one_other text at UnclosedQuote UnclosedQuote first second = refl
one_other text at UnclosedQuote UnclosedComment first second = absurd (unclosed_or_head text at 7 refl refl first (ap head second.opens.slash))
one_other text at UnclosedQuote NumberTooLarge first second = absurd (unclosed_or_head text at 3 refl refl first (digits_head text at second.to second.digits))
one_other text at UnclosedQuote NumberWithPoint first second = absurd (unclosed_or_head text at 3 refl refl first (digits_head text at second.to second.digits))
one_other text at UnclosedQuote NameTooLong first second = absurd (long_or_unclosed text at second first)
one_other text at UnclosedComment BadCharacter first second = absurd second
one_other text at UnclosedComment NotUtf8 first second = absurd (differ (head (get_or text at 0)) 7 4 refl (ap head first.opens.slash) (text_head text at second.to second.quoted))
one_other text at UnclosedComment UnclosedQuote first second = absurd (unclosed_or_head text at 7 refl refl second (ap head first.opens.slash))
one_other text at UnclosedComment UnclosedComment first second = refl
one_other text at UnclosedComment NumberTooLarge first second = absurd (differ (head (get_or text at 0)) 7 3 refl (ap head first.opens.slash) (digits_head text at second.to second.digits))
one_other text at UnclosedComment NumberWithPoint first second = absurd (differ (head (get_or text at 0)) 7 3 refl (ap head first.opens.slash) (digits_head text at second.to second.digits))
one_other text at UnclosedComment NameTooLong first second = absurd (long_head text at 7 second (no_named 7 refl refl refl) (ap head first.opens.slash))
one_other text at NumberTooLarge BadCharacter first second = absurd second
one_other text at NumberTooLarge NotUtf8 first second = absurd (differ (head (get_or text at 0)) 3 4 refl (digits_head text at first.to first.digits) (text_head text at second.to second.quoted))
one_other text at NumberTooLarge UnclosedQuote first second = absurd (unclosed_or_head text at 3 refl refl second (digits_head text at first.to first.digits))
one_other text at NumberTooLarge UnclosedComment first second = absurd (differ (head (get_or text at 0)) 3 7 refl (digits_head text at first.to first.digits) (ap head second.opens.slash))
one_other text at NumberTooLarge NumberTooLarge first second = refl
one_other text at NumberTooLarge NumberWithPoint first second = absurd (large_or_pointed text at first second)
one_other text at NumberTooLarge NameTooLong first second = absurd (long_head text at 3 second (no_named 3 refl refl refl) (digits_head text at first.to first.digits))
one_other text at NumberWithPoint BadCharacter first second = absurd second
one_other text at NumberWithPoint NotUtf8 first second = absurd (differ (head (get_or text at 0)) 3 4 refl (digits_head text at first.to first.digits) (text_head text at second.to second.quoted))
one_other text at NumberWithPoint UnclosedQuote first second = absurd (unclosed_or_head text at 3 refl refl second (digits_head text at first.to first.digits))
one_other text at NumberWithPoint UnclosedComment first second = absurd (differ (head (get_or text at 0)) 3 7 refl (digits_head text at first.to first.digits) (ap head second.opens.slash))
one_other text at NumberWithPoint NumberTooLarge first second = absurd (large_or_pointed text at second first)
one_other text at NumberWithPoint NumberWithPoint first second = refl
one_other text at NumberWithPoint NameTooLong first second = absurd (long_head text at 3 second (no_named 3 refl refl refl) (digits_head text at first.to first.digits))
one_other text at NameTooLong BadCharacter first second = absurd second
one_other text at NameTooLong NotUtf8 first second = absurd (long_head text at 4 first (no_named 4 refl refl refl) (text_head text at second.to second.quoted))
one_other text at NameTooLong UnclosedQuote first second = absurd (long_or_unclosed text at first second)
one_other text at NameTooLong UnclosedComment first second = absurd (long_head text at 7 first (no_named 7 refl refl refl) (ap head second.opens.slash))
one_other text at NameTooLong NumberTooLarge first second = absurd (long_head text at 3 first (no_named 3 refl refl refl) (digits_head text at second.to second.digits))
one_other text at NameTooLong NumberWithPoint first second = absurd (long_head text at 3 first (no_named 3 refl refl refl) (digits_head text at second.to second.digits))
one_other text at NameTooLong NameTooLong first second = refl

-- a fault that is no bad character, or one
other_or_bad : (text : List ℕ) (at : ℕ) (kind : LexKind) → Fails text at kind → IsFaulty text at kind ⊎ ((kind ≡ BadCharacter) × IsBad text at)
other_or_bad text at NotUtf8 fault = inl fault
other_or_bad text at UnclosedQuote fault = inl fault
other_or_bad text at UnclosedComment fault = inl fault
other_or_bad text at NumberTooLarge fault = inl fault
other_or_bad text at NumberWithPoint fault = inl fault
other_or_bad text at NameTooLong fault = inl fault
other_or_bad text at BadCharacter fault = inr (refl, fault)

-- two faults at a place
pub one_fault : (text : List ℕ) (at : ℕ) (j k : LexKind) → Fails text at j → Fails text at k → j ≡ k
one_fault text at j k first second =
    ⊎_elim (λ other. ⊎_elim (λ another. one_other text at j k other another) (λ bad. absurd (bad.1.no_other j other)) (other_or_bad text at k second))
    (λ bad. ⊎_elim (λ another. absurd (bad.1.no_other k another)) (λ worse. bad.0 ∙ sym worse.0) (other_or_bad text at k second))
    (other_or_bad text at j first)

-- a fault stands in the text
pub fault_within : (text : List ℕ) (at : ℕ) (kind : LexKind) → Fails text at kind → at < length text
fault_within text at NotUtf8 fault = let ends = ends_from text at fault.to fault.within fault.quoted in omega (arith, ends.1.quotes.before, ends.1.quotes.within)
fault_within text at UnclosedQuote fault = unclosed_within fault
  where
    unclosed_within : IsUnclosed text at → at < length text
    unclosed_within (open_text quote none) = byte_within text at (quote_some (get_or text at 0) quote)
    unclosed_within (open_name quote none) = byte_within text at (omega (arith, quote))
fault_within text at UnclosedComment fault = byte_within text at (omega (arith, fault.opens.slash))
fault_within text at BadCharacter fault = fault.within
fault_within text at NumberTooLarge fault = omega (arith, digits_some text at fault.to fault.digits, fault.within)
fault_within text at NumberWithPoint fault = omega (arith, digits_some text at fault.to fault.digits, byte_within text fault.to (omega (arith, fault.point)))
fault_within text at NameTooLong fault = omega (arith, named_some fault.kind text at fault.to fault.named, fault.within)

-- the parts of a whole text
parts_same : (text : List ℕ) (from : ℕ) (ps qs : List Part) → Splits text from ps (length text) → Splits text from qs (length text) → ps ≡ qs
parts_same text from [] [] first second = refl
parts_same text from [] (q ∷ qs) first second = let within = part_within text from q second.0 in absurd (omega (arith, first, within.0, within.1))
parts_same text from (p ∷ ps) [] first second = let within = part_within text from p first.0 in absurd (omega (arith, second, within.0, within.1))
parts_same text from (p ∷ ps) (q ∷ qs) first second =
    let same : p ≡ q = one_part text from p q first.0 second.0 in
    let rest : Splits text (end_of from q) ps (length text) = subst (λ r. Splits text (end_of from r) ps (length text)) same first.1 in
    ap (λ (r : Part). r ∷ ps) same ∙ ap (λ (l : List Part). q ∷ l) (parts_same text (end_of from q) ps qs rest second.1)

-- a text with tokens has no fault
tokens_or_fault : (text : List ℕ) (from place : ℕ) (kind : LexKind) (ps qs : List Part) → Splits text from ps (length text) → Splits text from qs place → Fails text place kind → ⊥
tokens_or_fault text from place kind [] [] first second fault = omega (arith, first, second, fault_within text place kind fault)
tokens_or_fault text from place kind [] (q ∷ qs) first second fault = let within = part_within text from q second.0 in omega (arith, first, within.0, within.1)
tokens_or_fault text from place kind (p ∷ ps) [] first second fault = part_or_fault text from p kind first.0 (subst (λ n. Fails text n kind) (sym second) fault)
tokens_or_fault text from place kind (p ∷ ps) (q ∷ qs) first second fault =
    let same : p ≡ q = one_part text from p q first.0 second.0 in
    let rest : Splits text (end_of from q) ps (length text) = subst (λ r. Splits text (end_of from r) ps (length text)) same first.1 in
    tokens_or_fault text (end_of from q) place kind ps qs rest second.1 fault

-- a text has one fault
faults_same : (text : List ℕ) (from a b : ℕ) (j k : LexKind) (ps qs : List Part) → Splits text from ps a → Splits text from qs b → Fails text a j → Fails text b k → (a ≡ b) × (j ≡ k)
faults_same text from a b j k [] [] first second one other =
    (sym first ∙ second, one_fault text from j k (subst (λ n. Fails text n j) (sym first) one) (subst (λ n. Fails text n k) (sym second) other))
faults_same text from a b j k [] (q ∷ qs) first second one other = absurd (part_or_fault text from q j second.0 (subst (λ n. Fails text n j) (sym first) one))
faults_same text from a b j k (p ∷ ps) [] first second one other = absurd (part_or_fault text from p k first.0 (subst (λ n. Fails text n k) (sym second) other))
faults_same text from a b j k (p ∷ ps) (q ∷ qs) first second one other =
    let same : p ≡ q = one_part text from p q first.0 second.0 in
    let rest : Splits text (end_of from q) ps a = subst (λ r. Splits text (end_of from r) ps a) same first.1 in
    faults_same text (end_of from q) a b j k ps qs rest second.1 one other

pub tokens_unique : (text : List ℕ) (a b : List Lexeme) → AreTokens text a → AreTokens text b → a ≡ b
tokens_unique text a b first second =
    first.are ∙ ap (λ (l : List Part). tokens_among text 0 l ++ end_token text ∷ []) (parts_same text 0 first.parts second.parts first.splits second.splits) ∙ sym second.are

pub not_both : (text : List ℕ) (list : List Lexeme) (place : ℕ) (kind : LexKind) → AreTokens text list → FaultAt text place kind → ⊥
not_both text list place kind are fault = tokens_or_fault text 0 place kind are.parts fault.parts are.splits fault.splits fault.fails

pub fault_unique : (text : List ℕ) (p q : ℕ) (j k : LexKind) → FaultAt text p j → FaultAt text q k → (p ≡ q) × (j ≡ k)
fault_unique text p q j k first second = faults_same text 0 p q j k first.parts second.parts first.splits second.splits first.fails second.fails
