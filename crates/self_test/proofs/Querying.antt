-- The texts of a selftest's queries are queries.
use Rattle.std.proofs.Common.{◌≡◌, ◌≢◌, ◌≤◌, ◌<◌, ℕ, ◌+◌, List, [], ◌∷◌, ◌++◌, true, false, Option, Some, None, length, refl, sym, ap, ◌∙◌, subst, arith, append-nil, append_assoc, length-append, Ok, Err, ◌⊎◌, inl, inr, eqb}
use Rattle.std.specs.Prelude.{All, Contains, codes, decimal, encode_utf8_all}
use Rattle.std.specs.Int.{IsInRange}
use Rattle.std.specs.Str.Parse.{AllDigits}
use Rattle.std.proofs.Math.Utf8.{scalar}
use Rattle.std.proofs.lemmas.Bool.Decides.{nat_tests}
use Rattle.std.proofs.lemmas.Fmt.{decimal_is_IsNumeral, length-decimal-le}
use Rattle.std.proofs.lemmas.List.Elements.{All-cons, All-contains, All-nil}
use Rattle.std.proofs.lemmas.Str.{encode_ascii}
use Rattle.std.proofs.lemmas.Str.Parse.{digit_from_value}
use Rattle.query_pieces.specs.QueryBytes.{is_bound}
use Rattle.query_write.specs.Spelling.{is_plain, spelled, spelled_from}
use Rattle.query_write.specs.steps.Signs.{IsPlainWord, alphabet_by}
use Rattle.query_write.specs.steps.TokenRun.{signs_of, start}
use Rattle.query_write.specs.steps.Writable.{IsRightLimit, IsWritable, of_leaf, of_phrase, of_word}
use Rattle.query_write.specs.Written.{Quoted, WrittenToken, Word, key_text, node_tokens, tokens_text, whole}
use Rattle.query_write.proofs.WrittenParts.{part_quoted, part_word}
use Rattle.query_write.proofs.SpellLetters.{HasNone}
use Rattle.query_write.proofs.SpellRows.{text_pieces}
use Rattle.query_write.proofs.TokenMarks.{marks_are}
use Rattle.query_write.proofs.TreeParts.{signs_in}
use Rattle.query_write.proofs.TreeQuery.{ReadsTree, tree_query}
use Rattle.query_write.proofs.TreeSpaced.{TokensStand, tree_tokens}
use Rattle.query_pieces.proofs.OneReading.{pieces_same}
use Rattle.query_pieces.specs.declared.piece.Piece.{Piece}
use Rattle.query_pieces.specs.Pieces.{ArePieces}
use Rattle.query_marks.specs.Enough.{depth_after, depth_by}
use Rattle.query_pieces.specs.Letters.{Alphabet}
use Rattle.query_grammar.specs.declared.fault.QueryFault.{QueryFault}
use Rattle.query_grammar.specs.Queries.{IsRefused, ReadsQuery}
use Rattle.srch_base.specs.declared.faults.Or.TheVariants.{Fault}
use Rattle.std.specs.Char.{IsScalar}
use Rattle.std.specs.Str.{IsUtf8}
use Rattle.std.proofs.lemmas.Bool.Decides.{eqb_tells}
use Rattle.charset_map.specs.TableText.{IsTableOf, default_text}
use Rattle.charset_map.proofs.DefaultText.{default_is_table}
use Rattle.query_write.specs.steps.Signs.{ArePiecesOf}
use Rattle.query_marks.specs.Marks.{Setting, marks_of, setting_of}
use Rattle.query_marks.specs.declared.mark.Mark.{Mark}
use Rattle.query_marks.specs.declared.mark.Sign.{Sign}
use Rattle.query_marks.specs.declared.mark.Sign.TheVariants as signs
use Rattle.query_grammar.specs.DeepValues.{IsDeepValue, IsShallow}
use Rattle.query_grammar.specs.Queries.{IsValue, keys_of}
use Rattle.query_tree.specs.declared.key.How.TheVariants as hows
use Rattle.query_tree.specs.declared.key.Key.{Key}
use Rattle.query_tree.specs.declared.key.Limit.{Limit}
use Rattle.query_tree.specs.declared.query.Node.{Node}
use Rattle.query_tree.specs.declared.query.Node.TheVariants as nodes
use Rattle.query_tree.specs.declared.query.Query.{Query}
use Rattle.std.specs.List.{flat_map}
use Rattle.ext_query.proofs.WrittenBack.{shallow_value}
use Rattle.self_test.specs.Texts.{word_of}
use Rattle.self_test.specs.Own.{own_schema}
use Rattle.self_test.proofs.Own.{own_is_schema}

-- Digits, and a word of a letter and digits.

plain_digit : (d : ℕ) → IsInRange 48 57 d → is_plain d ≡ true
plain_digit d is = grind (arith, nat_tests)

unbound_digit : (d : ℕ) → IsInRange 48 57 d → is_bound d ≡ false
unbound_digit d is = grind (arith, nat_tests)

spelled_digits : (ds : List ℕ) → AllDigits 10 ds → spelled_from false ds ≡ ds
spelled_digits [] digits = refl
spelled_digits (d ∷ ds) (first, rest) =
    let is : IsInRange 48 57 d = digit_from_value d first in
    rw (plain_digit d is, unbound_digit d is) (ap (λ (v : List ℕ). d ∷ v) (spelled_digits ds rest))

digits_of : (n : ℕ) → n < 50 → AllDigits 10 (decimal n)
digits_of n below = (decimal_is_IsNumeral n (omega (arith, below))).0.1

pub spelled_word : (n : ℕ) → n < 50 → spelled (word_of n) ≡ word_of n
spelled_word n below = ap (λ (v : List ℕ). 119 ∷ v) (spelled_digits (decimal n) (digits_of n below))

all_digits : (P : ℕ → Type 0) → ((d : ℕ) → IsInRange 48 57 d → P d) → (ds : List ℕ) → AllDigits 10 ds → All P ds
all_digits P digit [] digits = All-nil P
all_digits P digit (d ∷ ds) (first, rest) = All-cons P d ds (digit d (digit_from_value d first)) (all_digits P digit ds rest)

all_word : (P : ℕ → Type 0) → P 119 → ((d : ℕ) → IsInRange 48 57 d → P d) → (n : ℕ) → n < 50 → All P (word_of n)
all_word P letter digit n below = All-cons P 119 (decimal n) letter (all_digits P digit (decimal n) (digits_of n below))

encoded_digits : (ds : List ℕ) → AllDigits 10 ds → encode_utf8_all ds ≡ ds
encoded_digits [] digits = refl
encoded_digits (d ∷ ds) (first, rest) =
    let is : IsInRange 48 57 d = digit_from_value d first in
    ap (λ (v : List ℕ). v ++ encode_utf8_all ds) (encode_ascii d (omega (arith, is))) ∙ ap (λ (v : List ℕ). d ∷ v) (encoded_digits ds rest)

scalar_digit : (d : ℕ) → IsInRange 48 57 d → scalar d ≡ true
scalar_digit d is = grind (arith, nat_tests)

-- What a table keeps of the words.
pub record Keeps (fold : ℕ → Option ℕ) : Type 0 where
  pub letter : fold 119 ≡ Some 119
  pub digit : (d : ℕ) → IsInRange 48 57 d → fold d ≡ Some d

pub plain_word : (fold : ℕ → Option ℕ) → Keeps fold → (n : ℕ) → n < 50 → IsPlainWord fold (word_of n)
plain_word fold keeps n below = record {
  chars = word_of n;
  is = sym (ap (λ (v : List ℕ). v ++ encode_utf8_all (decimal n)) (encode_ascii 119 (omega arith)) ∙ ap (λ (v : List ℕ). 119 ∷ v) (encoded_digits (decimal n) (digits_of n below)));
  some = λ (none : word_of n ≡ []). cc none;
  short = omega (arith, length-decimal-le 2 n (omega arith) (omega (arith, below)) (omega (arith, below)));
  are_chars = λ c has. All-contains (λ (b : ℕ). scalar b ≡ true) (word_of n) c (all_word (λ (b : ℕ). scalar b ≡ true) refl scalar_digit n below) has;
  folded = λ c has. All-contains (λ (b : ℕ). fold b ≡ Some b) (word_of n) c (all_word (λ (b : ℕ). fold b ≡ Some b) keeps.letter keeps.digit n below) has;
}

-- The trees of the queries.

abbrev any_limit : Limit
any_limit = record { fields = 1; positions = 65535; zones = [] }

-- the keyword that a word is, by its place in the query
abbrev pub key_of : ℕ → ℕ → Key
key_of query number = record { query = query; word = word_of number; limit = any_limit; start = false; end = false; prefix = false }

abbrev pub word_node : ℕ → Node
word_node number = nodes.Word (key_of 1 number)

abbrev pub pair_node : ℕ → ℕ → Node
pair_node number after = nodes.Quoted (key_of 1 number ∷ key_of 2 after ∷ []) hows.Phrase

right_limit : IsRightLimit own_schema any_limit
right_limit = record { fields = omega arith; positions = (omega arith, omega arith); zones = All-nil _ }

-- the texts are those that the trees are written as

key_is : (query number : ℕ) → number < 50 → key_text (key_of query number) ≡ word_of number
key_is query number below = append-nil (spelled (word_of number)) ∙ spelled_word number below

word_tokens : (number : ℕ) → node_tokens own_schema.fields (word_node number) ≡ Word (key_of 1 number) ∷ []
word_tokens number = ap (whole own_schema.fields) (part_word own_schema.fields (key_of 1 number))

pair_tokens : (number after : ℕ) → node_tokens own_schema.fields (pair_node number after) ≡ Quoted (key_of 1 number ∷ key_of 2 after ∷ []) hows.Phrase ∷ []
pair_tokens number after = ap (whole own_schema.fields) (part_quoted own_schema.fields (key_of 1 number ∷ key_of 2 after ∷ []) hows.Phrase)

pub word_text : (number : ℕ) → number < 50 → tokens_text own_schema (node_tokens own_schema.fields (word_node number)) ≡ word_of number
word_text number below = ap (tokens_text own_schema) (word_tokens number) ∙ append-nil (key_text (key_of 1 number)) ∙ key_is 1 number below

abbrev pub pair_of : ℕ → ℕ → List ℕ
pair_of number after = codes "\"" ++ word_of number ++ codes " " ++ word_of after ++ codes "\""

pub pair_text : (number after : ℕ) → number < 50 → after < 50 → tokens_text own_schema (node_tokens own_schema.fields (pair_node number after)) ≡ pair_of number after
pair_text number after first second =
    ap (tokens_text own_schema) (pair_tokens number after)
    ∙ append-nil (34 ∷ ((key_text (key_of 1 number) ++ ((32 ∷ key_text (key_of 2 after)) ++ [])) ++ 34 ∷ []))
    ∙ ap (λ (v : List ℕ). 34 ∷ ((v ++ ((32 ∷ key_text (key_of 2 after)) ++ [])) ++ 34 ∷ [])) (key_is 1 number first)
    ∙ ap (λ (v : List ℕ). 34 ∷ ((word_of number ++ ((32 ∷ v) ++ [])) ++ 34 ∷ [])) (key_is 2 after second)
    ∙ ap (λ (v : List ℕ). 34 ∷ ((word_of number ++ v) ++ 34 ∷ [])) (append-nil (32 ∷ word_of after))
    ∙ ap (λ (v : List ℕ). 34 ∷ (v ++ 34 ∷ [])) (sym (append_assoc (word_of number) (32 ∷ []) (word_of after)))

two_marks : (u : List Mark) (a b : Sign) → signs_in u ≡ a ∷ b ∷ [] → (m n : Mark) × (u ≡ m ∷ n ∷ []) × (m.sign ≡ a) × (n.sign ≡ b)
two_marks [] a b is = absurd (cc is)
two_marks (m ∷ []) a b is = absurd (cc is)
two_marks (m ∷ n ∷ []) a b is = (m, n, refl, cc is, cc is)
two_marks (m ∷ n ∷ o ∷ u) a b is = absurd (cc is)

depth_by_le : (n : ℕ) (sign : Sign) → depth_by n sign ≤ n + 1
depth_by_le n signs.Open = omega arith
depth_by_le n signs.Close = omega arith
depth_by_le n (signs.Bare key) = omega arith
depth_by_le n (signs.Phrase keys) = omega arith
depth_by_le n (signs.Loose keys how) = omega arith
depth_by_le n signs.Unclosed = omega arith
depth_by_le n signs.Or = omega arith
depth_by_le n signs.Maybe = omega arith
depth_by_le n signs.Before = omega arith
depth_by_le n (signs.Near distance) = omega arith
depth_by_le n signs.Sentence = omega arith
depth_by_le n signs.Paragraph = omega arith
depth_by_le n signs.Not = omega arith
depth_by_le n signs.Limits = omega arith
depth_by_le n (signs.Spans zones) = omega arith
depth_by_le n signs.Relaxed = omega arith
depth_by_le n signs.End = omega arith

-- so many marks open no more groups
deeper : (front : List Mark) (n : ℕ) → depth_after n front ≤ n + length front
deeper [] n = omega arith
deeper (m ∷ front) n = omega (arith, deeper front (depth_by n m.sign), depth_by_le n m.sign)

shallow_two : (marks : List Mark) (m n : Mark) → marks ≡ m ∷ n ∷ [] → IsShallow marks
shallow_two marks m n two = λ front rest is. omega (arith, deeper front 0, length-append front rest, ap length is, ap length two)

-- what each text has, and what no query is
abbrev pub EachHas : Type 0
EachHas = (alphabet : Alphabet) (text : List ℕ) → IsUtf8 text → (pieces : List Piece) × ArePieces alphabet text pieces

abbrev pub NoFault : Type 0
NoFault = (setting : Setting) (text : List ℕ) (pieces : List Piece) (query : Query) (fault : QueryFault) → IsValue query (marks_of setting text pieces) → IsRefused fault (marks_of setting text pieces) → ⊥

-- a text is one query at most
abbrev pub OneQuery : Type 0
OneQuery = (setting : Setting) (text : List ℕ) (pieces : List Piece) (a b : Query) → IsValue a (marks_of setting text pieces) → IsValue b (marks_of setting text pieces) → a ≡ b

module _ (fold : ℕ → Option ℕ) (none : HasNone fold) (keeps : Keeps fold) where
  abbrev setting : Setting
  setting = setting_of fold own_schema

  word_writable : (number : ℕ) → number < 50 → IsWritable fold own_schema 0 (word_node number) 1
  word_writable number below = of_leaf 0 (word_node number) 1 any_limit right_limit (of_word 0 (key_of 1 number) refl (plain_word fold keeps number below) (λ e. absurd (cc e)))

  pair_writable : (number after : ℕ) → number < 50 → after < 50 → IsWritable fold own_schema 0 (pair_node number after) 2
  pair_writable number after first second =
      of_leaf 0 (pair_node number after) 2 any_limit right_limit
      (of_phrase 0 (key_of 1 number ∷ key_of 2 after ∷ []) (omega arith)
      (record {
        are = refl;
        plain = All-cons (λ (key : Key). IsPlainWord fold key.word) (key_of 1 number) (key_of 2 after ∷ []) (plain_word fold keeps number first)
            (All-cons (λ (key : Key). IsPlainWord fold key.word) (key_of 2 after) [] (plain_word fold keeps after second) (All-nil (λ (key : Key). IsPlainWord fold key.word)));
      }))

  -- A tree of one sign is the value of its text.
  module _ (node : Node) (count : ℕ) (few : count ≤ 255) (can : IsWritable fold own_schema 0 node count) (sign : Sign)
      (one : signs_of (start own_schema.fields) (node_tokens own_schema.fields node) ≡ sign ∷ []) (keys : length (keys_of sign) ≡ count) where
    of_marks : (marks : List Mark) → signs_in marks ≡ signs_of (start own_schema.fields) (node_tokens own_schema.fields node) ++ signs.End ∷ [] → ((m : Mark) → Contains marks m → m.wrong ≡ None)
        → IsDeepValue (record { root = Some node; keywords = count }) marks
    of_marks marks are right =
        let tree : ReadsTree own_schema node count = tree_query node count can few in
        let (m, n, is, first, second) = two_marks marks sign signs.End (are ∙ ap (λ (list : List Sign). list ++ signs.End ∷ []) one) in
        record {
          root = (tree.depth, tree.query marks are);
          right = right;
          keywords = sym (ap (λ (list : List Mark). length (flat_map (λ (x : Mark). keys_of x.sign) list)) is
              ∙ ap (λ (s : Sign). length (keys_of s ++ (keys_of n.sign ++ []))) first ∙ ap (λ (s : Sign). length (keys_of sign ++ (keys_of s ++ []))) second ∙ ap length (append-nil (keys_of sign)) ∙ keys);
        }

    abbrev query : Query
    query = record { root = Some node; keywords = count }

    at_text : (pieces : List Piece) → ArePieces (alphabet_by fold own_schema) (tokens_text own_schema (node_tokens own_schema.fields node)) pieces
        → IsValue query (marks_of setting (tokens_text own_schema (node_tokens own_schema.fields node)) pieces)
    at_text pieces are =
        let tokens : List WrittenToken = node_tokens own_schema.fields node in
        let text : List ℕ = tokens_text own_schema tokens in
        let stand : TokensStand fold own_schema tokens = tree_tokens 0 node count own_is_schema can in
        let found = text_pieces fold own_schema tokens none stand.spaced stand.begins stand.ends stand.read in
        let same : found.0 ≡ pieces = pieces_same (alphabet_by fold own_schema) text found.0 pieces found.1 are in
        let tree : ReadsTree own_schema node count = tree_query node count can few in
        let marks : List Mark = marks_of setting text pieces in
        let both = marks_are fold own_schema text tokens pieces own_is_schema (subst (ArePiecesOf fold own_schema text tokens) same found.2) tree.right in
        let (m, n, is, first, second) = two_marks marks sign signs.End (both.0 ∙ ap (λ (list : List Sign). list ++ signs.End ∷ []) one) in
        shallow_value query marks (of_marks marks both.0 both.1) (shallow_two marks m n is)

    pub not_refused : EachHas → NoFault → (text : List ℕ) → tokens_text own_schema (node_tokens own_schema.fields node) ≡ text → IsUtf8 text → (fault : QueryFault) → ReadsQuery setting text (Err (Fault fault)) → ⊥
    not_refused each_has no_fault text written utf8 fault reads =
        let (pieces, are) = each_has (alphabet_by fold own_schema) text utf8 in
        let value : IsValue query (marks_of setting text pieces) =
        subst (λ (t : List ℕ). (pieces : List Piece) → ArePieces (alphabet_by fold own_schema) t pieces → IsValue query (marks_of setting t pieces)) written at_text pieces are in
        no_fault setting text pieces query fault value (reads pieces are)

    pub is_query : EachHas → OneQuery → (text : List ℕ) → tokens_text own_schema (node_tokens own_schema.fields node) ≡ text → IsUtf8 text → (other : Query) → ReadsQuery setting text (Ok other) → other ≡ query
    is_query each_has one_query text written utf8 other reads =
        let (pieces, are) = each_has (alphabet_by fold own_schema) text utf8 in
        let value : IsValue query (marks_of setting text pieces) =
        subst (λ (t : List ℕ). (pieces : List Piece) → ArePieces (alphabet_by fold own_schema) t pieces → IsValue query (marks_of setting t pieces)) written at_text pieces are in
        one_query setting text pieces other query (reads pieces are) value

  -- neither a word nor a phrase of two words is refused

  pub word_never : EachHas → NoFault → (number : ℕ) → number < 50 → IsUtf8 (word_of number) → (fault : QueryFault) → ReadsQuery setting (word_of number) (Err (Fault fault)) → ⊥
  word_never each_has no_fault number below utf8 fault reads =
      not_refused (word_node number) 1 (omega arith) (word_writable number below) (signs.Bare (key_of 1 number)) (ap (signs_of (start own_schema.fields)) (word_tokens number)) refl each_has no_fault (word_of number) (word_text number below) utf8 fault reads

  pub pair_never : EachHas → NoFault → (number after : ℕ) → number < 50 → after < 50 → IsUtf8 (pair_of number after) → (fault : QueryFault) → ReadsQuery setting (pair_of number after) (Err (Fault fault)) → ⊥
  pair_never each_has no_fault number after first second utf8 fault reads =
      not_refused (pair_node number after) 2 (omega arith) (pair_writable number after first second) (signs.Phrase (key_of 1 number ∷ key_of 2 after ∷ [])) (ap (signs_of (start own_schema.fields)) (pair_tokens number after)) refl each_has no_fault
      (pair_of number after) (pair_text number after first second) utf8 fault reads

  -- each is read as its tree

  pub word_query : EachHas → OneQuery → (number : ℕ) → number < 50 → IsUtf8 (word_of number) → (query : Query) → ReadsQuery setting (word_of number) (Ok query) → query ≡ record { root = Some (word_node number); keywords = 1 }
  word_query each_has one_query number below utf8 query reads =
      is_query (word_node number) 1 (omega arith) (word_writable number below) (signs.Bare (key_of 1 number)) (ap (signs_of (start own_schema.fields)) (word_tokens number)) refl each_has one_query (word_of number) (word_text number below) utf8 query reads

  pub pair_query : EachHas → OneQuery → (number after : ℕ) → number < 50 → after < 50 → IsUtf8 (pair_of number after) → (query : Query) → ReadsQuery setting (pair_of number after) (Ok query)
      → query ≡ record { root = Some (pair_node number after); keywords = 2 }
  pair_query each_has one_query number after first second utf8 query reads =
      is_query (pair_node number after) 2 (omega arith) (pair_writable number after first second) (signs.Phrase (key_of 1 number ∷ key_of 2 after ∷ [])) (ap (signs_of (start own_schema.fields)) (pair_tokens number after)) refl each_has one_query
      (pair_of number after) (pair_text number after first second) utf8 query reads

-- The default table keeps the words, and has none of `"`, `\` and the space.

more_than : (d n : ℕ) → n ≤ d → d ≢ n → n + 1 ≤ d
more_than d n low differ = omega (arith, low, differ)

step_up : (P : ℕ → Type 0) (d n : ℕ) → n ≤ d → P n → (n + 1 ≤ d → P d) → P d
step_up P d n low here next = by_test (eqb_tells d n)
  where
    by_test : ((eqb d n ≡ true) × (d ≡ n)) ⊎ ((eqb d n ≡ false) × (d ≢ n)) → P d
    by_test (inl (test, same)) = subst P (sym same) here
    by_test (inr (test, differ)) = next (more_than d n low differ)

-- what one table is
abbrev pub OneTable : Type 0
OneTable = (text : List ℕ) (f g : ℕ → Option ℕ) (c : ℕ) → IsScalar c → IsTableOf text f → IsTableOf text g → f c ≡ g c

module _ (one_table : OneTable) (fold : ℕ → Option ℕ) (is : IsTableOf default_text fold) where
  pub has_none : HasNone fold
  has_none = record {
    quote = one_table default_text fold _ 34 refl is default_is_table;
    escape = one_table default_text fold _ 92 refl is default_is_table;
    blank = one_table default_text fold _ 32 refl is default_is_table;
  }

  kept_digit : (d : ℕ) → IsInRange 48 57 d → fold d ≡ Some d
  kept_digit d (low, high) =
      let P : ℕ → Type 0 = λ c. fold c ≡ Some c in
      step_up P d 48 low (one_table default_text fold _ 48 refl is default_is_table)
      (λ a. step_up P d 49 a (one_table default_text fold _ 49 refl is default_is_table)
      (λ b. step_up P d 50 b (one_table default_text fold _ 50 refl is default_is_table)
      (λ c. step_up P d 51 c (one_table default_text fold _ 51 refl is default_is_table)
      (λ e. step_up P d 52 e (one_table default_text fold _ 52 refl is default_is_table)
      (λ f. step_up P d 53 f (one_table default_text fold _ 53 refl is default_is_table)
      (λ g. step_up P d 54 g (one_table default_text fold _ 54 refl is default_is_table)
      (λ h. step_up P d 55 h (one_table default_text fold _ 55 refl is default_is_table)
      (λ i. step_up P d 56 i (one_table default_text fold _ 56 refl is default_is_table)
      (λ j. step_up P d 57 j (one_table default_text fold _ 57 refl is default_is_table) (λ k. absurd (omega (arith, high, k))))))))))))

  pub keeps_words : Keeps fold
  keeps_words = record { letter = one_table default_text fold _ 119 refl is default_is_table; digit = kept_digit }
