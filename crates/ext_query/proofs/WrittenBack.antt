-- A written query is read back: its text has it as its value.
use Rattle.std.proofs.Common.{arith, ◌≡◌, ◌≤◌, ℕ, List, [], ◌∷◌, ◌++◌, Option, Some, None, length, refl, sym, ◌∙◌, ap, subst, chars, IsUtf8}
use Rattle.std.specs.Prelude.{◌≢◌, Contains}
use Rattle.std.specs.Option.{option_map}
use Rattle.std.proofs.lemmas.List.Elements.{All-nil}
use Rattle.doc_types.specs.declared.schema.Schema.{Schema}
use Rattle.doc_types.specs.Schemas.{IsSchema}
use Rattle.query_pieces.specs.declared.piece.Piece.{Piece}
use Rattle.query_pieces.specs.Pieces.{ArePieces}
use Rattle.query_pieces.proofs.OneReading.{pieces_same}
use Rattle.query_tree.specs.declared.key.Key.{Key}
use Rattle.query_marks.specs.declared.mark.Mark.{Mark}
use Rattle.query_marks.specs.declared.mark.Sign.{Sign}
use Rattle.query_marks.specs.declared.mark.Sign.TheVariants as signs
use Rattle.query_marks.specs.Marks.{Setting, setting_of, limit_of, sign_of, wrong_of, mark_at, after, before_marks, marks_from, marks_of, at_start}
use Rattle.query_tree.specs.declared.query.Node.{Node}
use Rattle.query_tree.specs.declared.query.Query.{Query}
use Rattle.query_grammar.specs.Grammar.{Is, IsOpenAnd, IsQuery}
use Rattle.query_grammar.specs.Queries.{keys_of, IsRoot, IsValue}
use Rattle.query_grammar.specs.DeepValues.{IsDeepRoot, IsDeepValue, IsShallow, GivesChars, ReadsBack}
use Rattle.query_tree.specs.TreeKeys.{node_keys, query_keys}
use Rattle.query_write.specs.Written.{node_tokens, query_tokens, tokens_text, written}
use Rattle.query_write.specs.steps.Signs.{ArePiecesOf, alphabet_by}
use Rattle.query_write.specs.steps.TokenRun.{start, signs_of}
use Rattle.query_write.specs.steps.Writable.{IsRightLimit, IsWritable}
use Rattle.query_write.specs.steps.Carried.{every}
use Rattle.query_write.proofs.SpellLetters.{HasNone}
use Rattle.query_write.proofs.SpellRows.{text_pieces}
use Rattle.query_write.proofs.TokenMarks.{marks_are}
use Rattle.query_write.proofs.TreeSpaced.{TokensStand, tree_tokens}
use Rattle.query_write.proofs.TreeQuery.{ReadsTree, tree_query}
use Rattle.query_write.proofs.CarriedMarks.{carried}
use Rattle.query_write.proofs.CarriedQueries.{query_makes}
use Rattle.query_write.proofs.TableChanges.{Kept, each_from, writable_kept}
use Rattle.query_write.proofs.KeyCounts.{marks_count, signs_count, carries_count, carries_few, tokens_count, ended_count, marks_signs}
use Rattle.query_grammar.proofs.MarkOrder.{only_one}
use Rattle.query_read.proofs.AtDepth.{root_within}
use Rattle.query_read.proofs.OpenQueries.{text_of_root}
use Rattle.query_write.proofs.RightPieces.{right_pieces}
use Rattle.query_pieces.specs.Letters.{Alphabet}

-- ---- a tree that a text has can be written
module _ (schema : Schema) (is : IsSchema schema) (node : Node) where
  start_right : (source : ℕ → Option ℕ) (text : List ℕ) → IsRightLimit schema (limit_of schema.zones text (at_start (setting_of source schema)).here)
  start_right source text = record { fields = omega arith; positions = (omega arith, omega arith); zones = All-nil _ }

  -- with so many keywords, as many as the marks have
  record CanBeWritten (fold : ℕ → Option ℕ) (count : ℕ) : Type 0 where
    can : IsWritable fold schema 0 node count
    few : count ≤ 255

  writable : (source fold : ℕ → Option ℕ) (text : List ℕ) (read : List Piece) → GivesChars source → IsUtf8 text → ArePieces (alphabet_by source schema) text read
      → (depth : ℕ) → IsQuery IsOpenAnd depth node (marks_of (setting_of source schema) text read) → ((m : Mark) → Contains (marks_of (setting_of source schema) text read) m → m.wrong ≡ None)
      → ((key : Key) → Contains (node_keys node) key → (c : ℕ) → Contains (chars key.word) c → fold c ≡ Some c)
      → CanBeWritten fold (marks_count (marks_of (setting_of source schema) text read))
  writable source fold text read gives utf8 are depth query right keeps =
      let marks = marks_of (setting_of source schema) text read in
      let here = limit_of schema.zones text (at_start (setting_of source schema)).here in
      let clean = each_from (λ (m : Mark). m.wrong ≡ None) marks right in
      let c = carried source gives schema text read (right_pieces source schema text read is utf8 are) clean in
      let made = query_makes every schema depth 0 here node marks c.0 c.1 (start_right source text) query c.2 in
      let kept = writable_kept fold schema 0 node c.0 made (each_from (Kept fold) (node_keys node) keeps) in
      let count : c.0 ≡ marks_count marks = omega (arith, carries_count every schema 0 here marks c.0 c.1 c.2) in
      record { can = subst (IsWritable fold schema 0 node) count kept; few = subst (λ k. k ≤ 255) count (carries_few every schema 0 here marks c.0 c.1 (omega arith) c.2) }

  -- ---- and its tokens are read as it
  record ReadAgain (fold : ℕ → Option ℕ) (text : List ℕ) (pieces : List Piece) (count : ℕ) : Type 0 where
    depth : ℕ
    query : IsQuery IsOpenAnd depth node (marks_of (setting_of fold schema) text pieces)
    right : (m : Mark) → Contains (marks_of (setting_of fold schema) text pieces) m → m.wrong ≡ None
    keywords : marks_count (marks_of (setting_of fold schema) text pieces) ≡ count

  read_again : (fold : ℕ → Option ℕ) (count : ℕ) (pieces : List Piece) → HasNone fold → CanBeWritten fold count → ArePieces (alphabet_by fold schema) (tokens_text schema (node_tokens schema.fields node)) pieces → ReadAgain fold (tokens_text schema (node_tokens schema.fields node)) pieces count
  read_again fold count pieces none w are =
      let tokens = node_tokens schema.fields node in
      let text = tokens_text schema tokens in
      let stand : TokensStand fold schema tokens = tree_tokens 0 node count is w.can in
      let found = text_pieces fold schema tokens none stand.spaced stand.begins stand.ends stand.read in
      let same : found.0 ≡ pieces = pieces_same (alphabet_by fold schema) text found.0 pieces found.1 are in
      let tree : ReadsTree schema node count = tree_query node count w.can w.few in
      let marks = marks_of (setting_of fold schema) text pieces in
      let both = marks_are fold schema text tokens pieces is (subst (ArePiecesOf fold schema text tokens) same found.2) tree.right in
      let counted : count ≡ signs_count (signs_of (start schema.fields) tokens) = omega (arith, ap (λ s. s.keywords) tree.after, tokens_count (start schema.fields) tokens) in
      record {
        depth = tree.depth;
        query = tree.query marks both.0;
        right = both.1;
        keywords = marks_signs marks ∙ ap signs_count both.0 ∙ ended_count (signs_of (start schema.fields) tokens) ∙ sym counted;
      }

-- ---- queries
-- the empty text has no piece
no_pieces : (alphabet : Alphabet) (pieces : List Piece) → ArePieces alphabet [] pieces → pieces ≡ []
no_pieces alphabet [] are = refl
no_pieces alphabet (p ∷ pieces) are = absurd (omega (arith, are.0))

-- the end of a text alone
end_right : (m : Mark) → Contains (mark_at 0 None signs.End ∷ []) m → m.wrong ≡ None
end_right m has = ap (λ (y : Mark). y.wrong) (sym (only_one (mark_at 0 None signs.End) m has))

end_count : (marks : List Mark) → Is signs.End marks → marks_count marks ≡ 0
end_count marks (m, e, sign) = ap marks_count e ∙ ap (λ s. length (keys_of s ++ [])) sign

module _ (schema : Schema) (is : IsSchema schema) (query : Query) (source fold : ℕ → Option ℕ) (text : List ℕ) (read pieces : List Piece) where
  pub read_back : GivesChars source → IsUtf8 text → ArePieces (alphabet_by source schema) text read → IsDeepValue query (marks_of (setting_of source schema) text read) → ReadsBack fold query → ArePieces (alphabet_by fold schema) (written schema query) pieces
      → IsDeepValue query (marks_of (setting_of fold schema) (written schema query) pieces)
  read_back gives utf8 are value back again = by query.root refl
    where
      old : List Mark
      old = marks_of (setting_of source schema) text read

      none : HasNone fold
      none = record { quote = back.quote; escape = back.escape; blank = back.space }

      by : (root : Option Node) → query.root ≡ root → IsDeepValue query (marks_of (setting_of fold schema) (written schema query) pieces)
      by None e =
          let empty : query_tokens schema.fields query ≡ [] = ap (λ r. elim r [ None ↦ [] | Some node ↦ node_tokens schema.fields node ]) e in
          let text_is : written schema query ≡ [] = ap (tokens_text schema) empty in
          let nothing : pieces ≡ [] = no_pieces (alphabet_by fold schema) pieces (subst (λ t. ArePieces (alphabet_by fold schema) t pieces) text_is again) in
          let marks_is : marks_of (setting_of fold schema) (written schema query) pieces ≡ mark_at 0 None signs.End ∷ [] = ap (λ t. marks_of (setting_of fold schema) t pieces) text_is ∙ ap (marks_of (setting_of fold schema) []) nothing in
          subst (IsDeepValue query) (sym marks_is) (record {
            root = subst (λ r. IsDeepRoot r (mark_at 0 None signs.End ∷ [])) (sym e) (mark_at 0 None signs.End, refl, refl);
            right = end_right;
            keywords = value.keywords ∙ end_count old (subst (λ r. IsDeepRoot r old) e value.root);
          })
      by (Some node) e =
          let tokens_are : query_tokens schema.fields query ≡ node_tokens schema.fields node = ap (λ r. elim r [ None ↦ [] | Some n ↦ node_tokens schema.fields n ]) e in
          let text_is : written schema query ≡ tokens_text schema (node_tokens schema.fields node) = ap (tokens_text schema) tokens_are in
          let root : IsDeepRoot (Some node) old = subst (λ r. IsDeepRoot r old) e value.root in
          let keys_are : query_keys query ≡ node_keys node = ap (λ r. elim r [ None ↦ [] | Some n ↦ node_keys n ]) e in
          let w = writable schema is node source fold text read gives utf8 are root.0 root.1 value.right (λ key has. back.keeps key (subst (λ l. Contains l key) (sym keys_are) has)) in
          let r = read_again schema is node fold (marks_count old) pieces none w (subst (λ t. ArePieces (alphabet_by fold schema) t pieces) text_is again) in
          subst (λ t. IsDeepValue query (marks_of (setting_of fold schema) t pieces)) (sym text_is) (record {
            root = subst (λ x. IsDeepRoot x (marks_of (setting_of fold schema) (tokens_text schema (node_tokens schema.fields node)) pieces)) (sym e) (r.depth, r.query);
            right = r.right;
            keywords = value.keywords ∙ sym r.keywords;
          })

-- a value whose groups are within the limit on nesting
pub shallow_value : (query : Query) (marks : List Mark) → IsDeepValue query marks → IsShallow marks → IsValue query marks
shallow_value query marks value shallow = (by query.root value.root, value.keywords)
  where
    by : (root : Option Node) → IsDeepRoot root marks → IsRoot root marks
    by None end = end
    by (Some node) (depth, is) = root_within depth node marks is value.right shallow

-- ---- values within the limit
some_marks : (setting : Setting) (text : List ℕ) (pieces : List Piece) (state : _) (place : ℕ) → marks_from setting text state place pieces ≢ []
some_marks setting text [] state place = λ e. cc
some_marks setting text (p ∷ pieces) state place = by (sign_of setting state text p.form) (some_marks setting text pieces (after setting state text p.form) p.to)
  where
    by : (o : Option Sign) → marks_from setting text (after setting state text p.form) p.to pieces ≢ [] → before_marks (option_map (mark_at place (wrong_of setting state text p.form)) o) (marks_from setting text (after setting state text p.form) p.to pieces) ≢ []
    by None some = some
    by (Some sign) some = λ e. cc

-- a mark that is alone is the end
alone_right : (setting : Setting) (text : List ℕ) (pieces : List Piece) (state : _) (place : ℕ) (m : Mark) → marks_from setting text state place pieces ≡ m ∷ [] → m.wrong ≡ None
alone_right setting text [] state place m e =
    let same : mark_at (length text) None signs.End ≡ m = cc in
    ap (λ (y : Mark). y.wrong) (sym same)
alone_right setting text (p ∷ pieces) state place m e =
    by (sign_of setting state text p.form) (some_marks setting text pieces (after setting state text p.form) p.to) (alone_right setting text pieces (after setting state text p.form) p.to m) e
  where
    by : (o : Option Sign) → marks_from setting text (after setting state text p.form) p.to pieces ≢ [] → (marks_from setting text (after setting state text p.form) p.to pieces ≡ m ∷ [] → m.wrong ≡ None)
        → before_marks (option_map (mark_at place (wrong_of setting state text p.form)) o) (marks_from setting text (after setting state text p.form) p.to pieces) ≡ m ∷ [] → m.wrong ≡ None
    by None some rest e = rest e
    by (Some sign) some rest e =
        let none : marks_from setting text (after setting state text p.form) p.to pieces ≡ [] = cc in
        absurd (some none)

-- a value within the limit on nesting is one without it
pub value_deep : (setting : Setting) (text : List ℕ) (pieces : List Piece) (query : Query) → IsValue query (marks_of setting text pieces) → IsDeepValue query (marks_of setting text pieces)
value_deep setting text pieces query (root, keywords) = by query.root refl root
  where
    marks : List Mark
    marks = marks_of setting text pieces

    ended : Is signs.End marks → (m : Mark) → Contains marks m → m.wrong ≡ None
    ended (x, e, sign) m has =
        let same : x ≡ m = only_one x m (subst (λ l. Contains l m) e has) in
        subst (λ (y : Mark). y.wrong ≡ None) same (alone_right setting text pieces (at_start setting) 0 x e)

    by : (found : Option Node) → query.root ≡ found → IsRoot found marks → IsDeepValue query marks
    by None e end = record { root = subst (λ r. IsDeepRoot r marks) (sym e) end; right = ended end; keywords = keywords }
    by (Some node) e is =
        let found = text_of_root node marks is in
        record { root = subst (λ r. IsDeepRoot r marks) (sym e) (32, found.0); right = found.1; keywords = keywords }
