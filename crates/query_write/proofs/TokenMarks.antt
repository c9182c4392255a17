-- The marks of the pieces of written tokens: their signs are those that the tokens have by themselves, and nothing is wrong
-- with them.
use Rattle.std.proofs.Common.{◌≡◌, ◌⊎◌, inl, inr, ℕ, ◌+◌, ◌<◌, ◌≤◌, Bool, true, false, List, [], ◌∷◌, ◌++◌, length, map, refl, sym, ap, ap₂, ◌∙◌, subst, arith}
use Rattle.std.specs.Prelude.{Option, Some, None, Contains, if◌then◌else◌, nat_le, ◌==◌}
use Rattle.std.specs.Option.{option_map}
use Rattle.std.proofs.lemmas.Bool.{le-leb}
use Rattle.std.proofs.lemmas.Bool.Decides.{nat_tests}
use Rattle.std.proofs.lemmas.List.{length-map}
use Rattle.std.proofs.lemmas.List.Elements.{All-head}
use Rattle.doc_types.specs.declared.schema.Schema.{Schema}
use Rattle.doc_types.specs.Schemas.{IsSchema}
use Rattle.query_pieces.specs.declared.piece.ZoneLimit.{ZoneLimit}
use Rattle.query_pieces.specs.declared.piece.Form.{Form}
use Rattle.query_pieces.specs.declared.piece.Form.TheVariants as forms
use Rattle.query_pieces.specs.declared.piece.Piece.{Piece}
use Rattle.query_tree.specs.declared.key.Key.{Key}
use Rattle.query_tree.specs.declared.key.Limit.{Limit}
use Rattle.query_tree.specs.declared.key.How.{How}
use Rattle.query_marks.specs.declared.fault.QueryKind.TheVariants as kinds
use Rattle.query_marks.specs.declared.fault.Wrong.{Wrong}
use Rattle.query_marks.specs.declared.limits.Limits.{Limits}
use Rattle.query_marks.specs.declared.mark.Mark.{Mark}
use Rattle.query_marks.specs.declared.mark.Sign.{Sign}
use Rattle.query_marks.specs.declared.mark.Sign.TheVariants as signs
use Rattle.query_marks.specs.LimitNames.{bytes_of, number_of, numbers_of}
use Rattle.query_marks.specs.Hows.{how_of, is_out}
use Rattle.query_marks.specs.Limits.{zone_limits}
use Rattle.query_marks.specs.Marks.{setting_of, nameless, zone_numbers, keys_after, nobodies, keys_of, passes_limit, counted, word_sign, quoted_sign, zone_sign, wrong_span, wrong_count, wrong_quoted, last_of, but_last, sign_of, wrong_of, mark_at, after, before_marks, marks_from, marks_of, at_start, is_short, wrong_word}
use Rattle.query_write.specs.Written.{WrittenToken}
use Rattle.query_write.specs.steps.Signs.{IsPieceOf, ArePiecesOf}
use Rattle.query_write.specs.steps.TokenRun.{Ambient, Standing, standing, start, key_after, words_of, token_sign, token_after, spanless, zoned, shut, IsRightZone, AreRightZones, IsRight, before_signs, signs_of, AreRight}
use Rattle.query_grammar.proofs.MarkPlaces.{none_contained, contained_cases}
use Rattle.query_write.proofs.SpellLetters.{if_true, if_false}
use Rattle.query_write.proofs.TokenFields.{fields_back, fields_right, zones_back, zones_right}
use Rattle.query_write.proofs.TokenNumbers.{number_decimal, not_zero, how_back, how_right, positions_back, positions_right}
use Rattle.query_write.proofs.TokenSplits.{before_append}

-- ---- the state of marks as that of tokens
-- limits, with the zones by their numbers
abbrev ambient_of : List (List ℕ) → List ℕ → Limits → Ambient
ambient_of zones text here = record { fields = here.fields; positions = here.positions; zones = zone_numbers zones text here.zones; span = here.span }

-- the limits of groups, the innermost first, before those of others
abbrev turned : List (List ℕ) → List ℕ → List Limits → List Ambient → List Ambient
turned zones text [] outer = outer
turned zones text (limits ∷ around) outer = turned zones text around (ambient_of zones text limits ∷ outer)

abbrev standing_at : List (List ℕ) → List ℕ → ℕ → Limits → List Limits → Standing
standing_at zones text keywords here around = standing keywords (ambient_of zones text here) (turned zones text around [])

turned_more : (zones : List (List ℕ)) (text : List ℕ) (around : List Limits) (inner : Limits) (outer : List Ambient) → turned zones text (around ++ inner ∷ []) outer ≡ ambient_of zones text inner ∷ turned zones text around outer
turned_more zones text [] inner outer = refl
turned_more zones text (limits ∷ around) inner outer = turned_more zones text around inner (ambient_of zones text limits ∷ outer)

turned_last : (zones : List (List ℕ)) (text : List ℕ) (first : Limits) (around : List Limits) (outer : List Ambient) → turned zones text (first ∷ around) outer ≡ ambient_of zones text (last_of first around) ∷ turned zones text (but_last (first ∷ around)) outer
turned_last zones text first [] outer = refl
turned_last zones text first (next ∷ around) outer = turned_last zones text next around (ambient_of zones text first ∷ outer)

shuts : (zones : List (List ℕ)) (text : List ℕ) (keywords : ℕ) (here : Limits) (around : List Limits) → standing_at zones text keywords (last_of here around) (but_last around) ≡ shut keywords (ambient_of zones text here) (turned zones text around [])
shuts zones text keywords here [] = refl
shuts zones text keywords here (first ∷ around) = sym (ap (shut keywords (ambient_of zones text here)) (turned_last zones text first around []))

-- ---- keywords
within_count : (n more : ℕ) → n + more ≤ 255 → passes_limit n more ≡ false
within_count n more few = grind (arith, nat_tests)

counted_is : (n more : ℕ) → n + more ≤ 255 → counted n more ≡ n + more
counted_is n more few = grind (arith, nat_tests)

count_right : (n more : ℕ) → n + more ≤ 255 → wrong_count n more ≡ None
count_right n more few = if_false (passes_limit n more) (nameless kinds.TooManyKeywords) None None (within_count n more few) refl

keys_are : (n : ℕ) (limit : Limit) (begins ends : Bool) (words : List (List ℕ)) → n + length words ≤ 255 → keys_of n limit begins ends words ≡ keys_after n limit begins ends words
keys_are n limit begins ends words few =
    if_true (nat_le (n + length words) 255) (keys_after n limit begins ends words) (nobodies (length words)) (keys_after n limit begins ends words) (le-leb (n + length words) 255 few) refl

word_sign_is : (n : ℕ) (limit : Limit) (key : Key) (begins ends prefix : Bool) (words : List (List ℕ)) → n + 1 ≤ 255 → words ≡ key.word ∷ [] → begins ≡ key.start → ends ≡ key.end → prefix ≡ key.prefix
    → word_sign prefix (keys_of n limit begins ends words) ≡ Some (signs.Bare (key_after n limit key))
word_sign_is n limit key begins ends prefix words few words_are begins_is ends_is prefix_is =
    ap (λ (l : List (List ℕ)). word_sign prefix (keys_of n limit begins ends l)) words_are
    ∙ ap (word_sign prefix) (keys_are n limit begins ends (key.word ∷ []) few)
    ∙ ap₂ (λ (b e : Bool). Some (signs.Bare (record { query = n + 1; word = key.word; limit = limit; start = b; end = e; prefix = prefix }))) begins_is ends_is
    ∙ ap (λ (p : Bool). Some (signs.Bare (record { query = n + 1; word = key.word; limit = limit; start = key.start; end = key.end; prefix = p }))) prefix_is

-- nothing is wrong with a word that isn't the 256th, and a prefix long enough
word_right : (n : ℕ) (short : Bool) → n + 1 ≤ 255 → short ≡ false → wrong_word n short ≡ None
word_right n short few long =
    if_false (passes_limit n 1) (nameless kinds.TooManyKeywords) _ None (within_count n 1 few) (if_false short (nameless kinds.PrefixTooShort) None None long refl)

-- a prefix of these letters is long enough
long_enough : (shortest letters : ℕ) (prefix : Bool) → (prefix ≡ true → shortest ≤ letters) → is_short shortest prefix letters ≡ false
long_enough shortest letters false enough = refl
long_enough shortest letters true enough = let few : shortest ≤ letters = enough refl in grind (arith, nat_tests)

quoted_sign_is : (n : ℕ) (limit : Limit) (keys : List Key) (words : List (List ℕ)) (found how : How) → n + length keys ≤ 255 → words ≡ words_of keys → found ≡ how → quoted_sign (keys_of n limit false false words) found ≡ quoted_sign (keys_after n limit false false (words_of keys)) how
quoted_sign_is n limit keys words found how few words_are how_is =
    ap₂ quoted_sign (ap (keys_of n limit false false) words_are ∙ keys_are n limit false false (words_of keys) (omega (arith, few, length-map keys (λ key. key.word)))) how_is

quoted_right : (n : ℕ) (out : Bool) (more : ℕ) → out ≡ false → n + more ≤ 255 → wrong_quoted n out more ≡ None
quoted_right n out more fine few = if_false out (nameless kinds.NumberOutOfRange) (wrong_count n more) None fine (count_right n more few)

-- ---- zones
zone_sign_is : (known : List (List ℕ)) (text : List ℕ) (limit : ZoneLimit) → limit.span ≡ false → zone_sign known text limit ≡ signs.Limits
zone_sign_is [] text limit is = refl
zone_sign_is (zone ∷ known) text limit is = ap (λ (b : Bool). if b then signs.Spans (numbers_of (zone ∷ known) (bytes_of text limit.names)) else signs.Limits) is

span_sign_is : (known : List (List ℕ)) (text : List ℕ) (limit : ZoneLimit) (list : List ℕ) → 0 < length known → limit.span ≡ true → numbers_of known (bytes_of text limit.names) ≡ list → zone_sign known text limit ≡ signs.Spans list
span_sign_is [] text limit list some is numbers = absurd (omega (arith, some))
span_sign_is (zone ∷ known) text limit list some is numbers =
    ap (λ (b : Bool). if b then signs.Spans (numbers_of (zone ∷ known) (bytes_of text limit.names)) else signs.Limits) is ∙ ap (λ (l : List ℕ). signs.Spans l) numbers

zones_left : (known : List (List ℕ)) (text : List ℕ) (limit : ZoneLimit) (here : Limits) (list : List ℕ) → 0 < length known → limit.span ≡ false → numbers_of known (bytes_of text limit.names) ≡ list → ambient_of known text (zone_limits known limit here) ≡ zoned (ambient_of known text here) list false
zones_left [] text limit here list some is numbers = absurd (omega (arith, some))
zones_left (zone ∷ known) text limit here list some is numbers =
    ap (λ (b : Bool). zoned (ambient_of (zone ∷ known) text here) (zone_numbers (zone ∷ known) text (if b then None else Some limit.names)) b) is
    ∙ ap (λ (l : List ℕ). zoned (ambient_of (zone ∷ known) text here) l false) numbers

span_left : (known : List (List ℕ)) (text : List ℕ) (limit : ZoneLimit) (here : Limits) → 0 < length known → limit.span ≡ true → ambient_of known text (zone_limits known limit here) ≡ zoned (ambient_of known text here) [] true
span_left [] text limit here some is = absurd (omega (arith, some))
span_left (zone ∷ known) text limit here some is =
    ap (λ (b : Bool). zoned (ambient_of (zone ∷ known) text here) (zone_numbers (zone ∷ known) text (if b then None else Some limit.names)) b) is

-- the schema has zones where one of its zones is written
some_zones : (schema : Schema) (list : List ℕ) → AreRightZones schema list → 0 < length schema.zones
some_zones schema [] right = absurd (right.0 refl)
some_zones schema (zone ∷ list) right = omega (arith, (All-head (IsRightZone schema) zone list right.1).0)

-- ---- one token
-- The piece of a token has the token's sign, nothing is wrong with it, and it leaves what the token leaves.
record IsStep (found : Option Sign) (wrong : Option Wrong) (left before : Standing) (token : WrittenToken) : Type 0 where
  sign : found ≡ token_sign before token
  right : wrong ≡ None
  next : left ≡ token_after before token

-- the step of a piece is that of its form
of_form : (fold : ℕ → Option ℕ) (schema : Schema) (text : List ℕ) (state : _) (token : WrittenToken) (form other : Form) → form ≡ other
    → IsStep (sign_of (setting_of fold schema) state text other) (wrong_of (setting_of fold schema) state text other) (standing_at schema.zones text (after (setting_of fold schema) state text other).keywords (after (setting_of fold schema) state text other).here (after (setting_of fold schema) state text other).around) (standing_at schema.zones text state.keywords state.here state.around) token
    → IsStep (sign_of (setting_of fold schema) state text form) (wrong_of (setting_of fold schema) state text form) (standing_at schema.zones text (after (setting_of fold schema) state text form).keywords (after (setting_of fold schema) state text form).here (after (setting_of fold schema) state text form).around) (standing_at schema.zones text state.keywords state.here state.around) token
of_form fold schema text state token form other is step =
    subst (λ (f : Form). IsStep (sign_of (setting_of fold schema) state text f) (wrong_of (setting_of fold schema) state text f) (standing_at schema.zones text (after (setting_of fold schema) state text f).keywords (after (setting_of fold schema) state text f).here (after (setting_of fold schema) state text f).around) (standing_at schema.zones text state.keywords state.here state.around) token) (sym is) step

-- a right token is such a step
abbrev Steps : Schema → Option Sign → Option Wrong → Standing → Standing → WrittenToken → Type 0
Steps schema found wrong left before token = IsRight schema before token → IsStep found wrong left before token

span_right : (span : Bool) → span ≡ false → (if span then nameless kinds.ZoneSpanBeforeOperator else None) ≡ None
span_right span is = ap (λ (b : Bool). if b then nameless kinds.ZoneSpanBeforeOperator else None) is

step : (fold : ℕ → Option ℕ) (schema : Schema) (text : List ℕ) (state : _) (token : WrittenToken) (form : Form) → IsSchema schema → IsPieceOf fold schema text token form
    → Steps schema (sign_of (setting_of fold schema) state text form) (wrong_of (setting_of fold schema) state text form) (standing_at schema.zones text (after (setting_of fold schema) state text form).keywords (after (setting_of fold schema) state text form).here (after (setting_of fold schema) state text form).around) (standing_at schema.zones text state.keywords state.here state.around) token
step fold schema text state WrittenToken.Space form is piece = λ right. of_form fold schema text state WrittenToken.Space form forms.Separator piece (record { sign = refl; right = refl; next = refl })
step fold schema text state WrittenToken.Open form is piece = λ right.
    of_form fold schema text state WrittenToken.Open form forms.Open piece (record { sign = refl; right = refl; next = ap (standing state.keywords (spanless (ambient_of schema.zones text state.here))) (turned_more schema.zones text state.around state.here []) })
step fold schema text state WrittenToken.Close form is piece = λ right.
    of_form fold schema text state WrittenToken.Close form forms.Close piece (record { sign = refl; right = refl; next = shuts schema.zones text state.keywords state.here state.around })
step fold schema text state WrittenToken.Or form is piece = λ right. of_form fold schema text state WrittenToken.Or form forms.Or piece (record { sign = refl; right = refl; next = refl })
step fold schema text state WrittenToken.Maybe form is piece = λ right. of_form fold schema text state WrittenToken.Maybe form forms.Maybe piece (record { sign = refl; right = refl; next = refl })
step fold schema text state WrittenToken.Before form is piece = λ right. of_form fold schema text state WrittenToken.Before form forms.Before piece (record { sign = refl; right = span_right state.here.span right; next = refl })
step fold schema text state (WrittenToken.Near n) form is (s, form_is, bytes) = λ right.
    let number : number_of (bytes_of text s) ≡ n = ap number_of bytes ∙ number_decimal n right.0.1 in
    of_form fold schema text state (WrittenToken.Near n) form (forms.Near s) form_is
    (record {
      sign = ap (λ (k : ℕ). Some (signs.Near k)) number;
      right = if_false (number_of (bytes_of text s) == 0) (nameless kinds.NumberOutOfRange) (wrong_span state) None (not_zero (number_of (bytes_of text s)) n number right.0.0) (span_right state.here.span right.1);
      next = refl;
    })
step fold schema text state WrittenToken.Sentence form is piece = λ right. of_form fold schema text state WrittenToken.Sentence form forms.Sentence piece (record { sign = refl; right = refl; next = refl })
step fold schema text state WrittenToken.Paragraph form is piece = λ right. of_form fold schema text state WrittenToken.Paragraph form forms.Paragraph piece (record { sign = refl; right = refl; next = refl })
step fold schema text state WrittenToken.Not form is piece = λ right. of_form fold schema text state WrittenToken.Not form forms.Not piece (record { sign = refl; right = refl; next = refl })
step fold schema text state (WrittenToken.Word key) form is (w, form_is, words, begins, ends, prefix, letters) = λ right.
    of_form fold schema text state (WrittenToken.Word key) form (forms.Word w) form_is
    (record {
      sign = word_sign_is state.keywords _ key w.start w.end w.prefix _ right.0 words begins ends prefix;
      right = word_right state.keywords _ right.0 (long_enough schema.min_prefix _ w.prefix (λ e. omega (arith, letters, (right.1 (sym prefix ∙ e)).enough)));
      next = ap (λ (k : ℕ). standing k (ambient_of schema.zones text state.here) (turned schema.zones text state.around [])) (counted_is state.keywords 1 right.0);
    })
step fold schema text state (WrittenToken.Quoted keys how) form is (q, form_is, words, how_is) = λ right.
    let found : how_of text q.number ≡ how = how_back text q.number how how_is right.2 in
    let size : length (words_of keys) ≡ length keys = length-map keys (λ key. key.word) in
    let count = ap length words ∙ size in
    of_form fold schema text state (WrittenToken.Quoted keys how) form (forms.Quoted q) form_is
    (record {
      sign = quoted_sign_is state.keywords _ keys _ (how_of text q.number) how right.1 words found;
      right = quoted_right state.keywords (is_out (how_of text q.number)) _ (ap is_out found ∙ how_right how right.2) (omega (arith, right.1, count));
      next = ap (λ (k : ℕ). standing k (ambient_of schema.zones text state.here) (turned schema.zones text state.around [])) (counted_is state.keywords _ (omega (arith, right.1, count)) ∙ ap (λ (k : ℕ). state.keywords + k) count);
    })
step fold schema text state (WrittenToken.Fields n positions) form is (limit, form_is, fields, places) = λ right.
    of_form fold schema text state (WrittenToken.Fields n positions) form (forms.Fields limit) form_is
    (record {
      sign = refl;
      right = fields_right schema state.relaxed text limit.negated limit.names limit.positions n is right.0 fields (positions_right text limit.positions positions places right.1);
      next = ap₂ (λ (f p : ℕ). standing state.keywords (record { fields = f; positions = p; zones = []; span = false }) (turned schema.zones text state.around [])) (fields_back schema text limit.negated limit.names n is right.0 fields) (positions_back text limit.positions positions places right.1);
    })
step fold schema text state (WrittenToken.Zones zones) form is (limit, form_is, span, bytes) = λ right.
    let some : 0 < length schema.zones = some_zones schema zones right in
    of_form fold schema text state (WrittenToken.Zones zones) form (forms.Zones limit) form_is
    (record {
      sign = ap (λ (s : Sign). Some s) (zone_sign_is schema.zones text limit span);
      right = zones_right schema (bytes_of text limit.names) zones is right bytes;
      next = ap (λ (a : Ambient). standing state.keywords a (turned schema.zones text state.around [])) (zones_left schema.zones text limit state.here zones some span (zones_back schema (bytes_of text limit.names) zones is right bytes));
    })
step fold schema text state (WrittenToken.Spans zones) form is (limit, form_is, span, bytes) = λ right.
    let some : 0 < length schema.zones = some_zones schema zones right in
    of_form fold schema text state (WrittenToken.Spans zones) form (forms.Zones limit) form_is
    (record {
      sign = ap (λ (s : Sign). Some s) (span_sign_is schema.zones text limit zones some span (zones_back schema (bytes_of text limit.names) zones is right bytes));
      right = zones_right schema (bytes_of text limit.names) zones is right bytes;
      next = ap (λ (a : Ambient). standing state.keywords a (turned schema.zones text state.around [])) (span_left schema.zones text limit state.here some span);
    })

-- ---- all tokens
mark_joins : (at : ℕ) (wrong : Option Wrong) (o : Option Sign) (marks : List Mark) → map (λ m. m.sign) (before_marks (option_map (mark_at at wrong) o) marks) ≡ before_signs o (map (λ m. m.sign) marks)
mark_joins at wrong None marks = refl
mark_joins at wrong (Some sign) marks = refl

mark_right : (at : ℕ) (wrong : Option Wrong) (o : Option Sign) (marks : List Mark) → wrong ≡ None → ((m : Mark) → Contains marks m → m.wrong ≡ None) → (m : Mark) → Contains (before_marks (option_map (mark_at at wrong) o) marks) m → m.wrong ≡ None
mark_right at wrong None marks right each m has = each m has
mark_right at wrong (Some sign) marks right each m has = by (contained_cases (mark_at at wrong sign) marks m has)
  where
    by : (mark_at at wrong sign ≡ m) ⊎ Contains marks m → m.wrong ≡ None
    by (inl same) = ap (λ (n : Mark). n.wrong) (sym same) ∙ right
    by (inr later) = each m later

-- the marks of right tokens
abbrev AreMarksOf : Schema → List Mark → Standing → List WrittenToken → Type 0
AreMarksOf schema marks before tokens =
    AreRight schema before tokens → (map (λ m. m.sign) marks ≡ signs_of before tokens ++ signs.End ∷ []) × ((m : Mark) → Contains marks m → m.wrong ≡ None)

rows : (fold : ℕ → Option ℕ) (schema : Schema) (text : List ℕ) (state : _) (place : ℕ) (tokens : List WrittenToken) (pieces : List Piece) → IsSchema schema → ArePiecesOf fold schema text tokens pieces
    → AreMarksOf schema (marks_from (setting_of fold schema) text state place pieces) (standing_at schema.zones text state.keywords state.here state.around) tokens
rows fold schema text state place [] [] is are = λ right. (refl, λ m has. mark_right (length text) None (Some signs.End) [] refl (λ n none. absurd (none_contained n none)) m has)
rows fold schema text state place [] (p ∷ pieces) is are = absurd are
rows fold schema text state place (token ∷ tokens) [] is are = absurd are
rows fold schema text state place (token ∷ tokens) (p ∷ pieces) is are = λ right.
    let here = step fold schema text state token p.form is are.0 right.0 in
    let rest = rows fold schema text (after (setting_of fold schema) state text p.form) p.to tokens pieces is are.1 (subst (λ (s : Standing). AreRight schema s tokens) (sym here.next) right.1) in
    let later = rest.0 ∙ ap (λ (s : Standing). signs_of s tokens ++ signs.End ∷ []) here.next in
    let before = standing_at schema.zones text state.keywords state.here state.around in
    let marks = marks_from (setting_of fold schema) text (after (setting_of fold schema) state text p.form) p.to pieces in (
      mark_joins place (wrong_of (setting_of fold schema) state text p.form) (sign_of (setting_of fold schema) state text p.form) marks ∙ ap₂ before_signs here.sign later ∙ before_append (token_sign before token) (signs_of (token_after before token) tokens) (signs.End ∷ []),
      mark_right place (wrong_of (setting_of fold schema) state text p.form) (sign_of (setting_of fold schema) state text p.form) marks here.right rest.1,
    )

pub marks_are : (fold : ℕ → Option ℕ) (schema : Schema) (text : List ℕ) (tokens : List WrittenToken) (pieces : List Piece) → IsSchema schema → ArePiecesOf fold schema text tokens pieces → AreRight schema (start schema.fields) tokens
    → (map (λ m. m.sign) (marks_of (setting_of fold schema) text pieces) ≡ signs_of (start schema.fields) tokens ++ signs.End ∷ [])
    × ((m : Mark) → Contains (marks_of (setting_of fold schema) text pieces) m → m.wrong ≡ None)
marks_are fold schema text tokens pieces is are right = rows fold schema text (at_start (setting_of fold schema)) 0 tokens pieces is are right
