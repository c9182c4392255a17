-- A text is one query or has one first fault, and not both.
use Rattle.std.proofs.Common.{◌≡◌, ℕ, List, [], ◌∷◌, ◌++◌, Bool, true, false, Option, Some, None, refl, sym, ◌∙◌, ap, IsUtf8}
use Rattle.token_grammar.specs.Language.{nullable}
use Rattle.token_grammar.proofs.Laws.{has_nullable}
use Rattle.query_pieces.specs.declared.piece.Piece.{Piece}
use Rattle.query_pieces.specs.Pieces.{ArePieces}
use Rattle.query_marks.specs.declared.fault.QueryKind.{QueryKind}
use Rattle.query_marks.specs.declared.mark.Mark.{Mark}
use Rattle.query_marks.specs.declared.mark.Sign.TheVariants as signs
use Rattle.query_marks.specs.Marks.{Setting, alphabet_in, marks_of}
use Rattle.query_grammar.specs.declared.fault.QueryFault.{QueryFault}
use Rattle.query_tree.specs.declared.query.Node.{Node}
use Rattle.query_tree.specs.declared.query.Query.{Query}
use Rattle.query_grammar.specs.Grammar.{Is, IsGroup, IsExpr, IsQuery}
use Rattle.query_grammar.specs.QueryFaults.{Any, Told}
use Rattle.query_grammar.specs.Queries.{told_of, IsRoot, IsValue, IsRefused}
use Rattle.query_grammar.specs.steps.MarkAlphabet.{query_marks}
use Rattle.query_grammar.specs.steps.QueryGrammar.{others, expr_of}
use Rattle.query_grammar.proofs.MarkOrder.{orderly}
use Rattle.query_grammar.proofs.OneFault.{one_fault}
use Rattle.query_grammar.proofs.QueryAgreement.{agree_expr, agree_others}
use Rattle.query_grammar.proofs.QueryOnce.{one_query}

-- an expression has a mark
filled : nullable (expr_of (others 32)) ≡ false
unfolding others
filled = refl

some_expr : (node : Node) → IsExpr Any (IsGroup Any 32) node [] → ⊥
some_expr node is =
    let empty : nullable (expr_of (others 32)) ≡ true = has_nullable query_marks (expr_of (others 32)) ((agree_expr (IsGroup Any 32) (others 32) (agree_others 32)).text node [] is) in
    clash (nullable (expr_of (others 32))) empty filled
  where
    clash : (b : Bool) → b ≡ true → b ≡ false → ⊥
    clash b e f = cc

-- the end alone is no query with a root
pub no_root : (marks : List Mark) (node : Node) → Is signs.End marks → IsQuery Any 32 node marks → ⊥
no_root marks node (m, is, end) (a, b, e, relaxed, (x, y, f, expr, (n, g, last))) = by a x (sym is ∙ e ∙ ap (λ l. a ++ l) (f ∙ ap (λ l. x ++ l) g)) expr
  where
    by : (a x : List Mark) → m ∷ [] ≡ a ++ (x ++ n ∷ []) → IsExpr Any (IsGroup Any 32) node x → ⊥
    by [] [] e expr = some_expr node expr
    by [] (k ∷ []) e expr = cc
    by [] (k ∷ l ∷ x) e expr = cc
    by (k ∷ []) [] e expr = cc
    by (k ∷ []) (l ∷ x) e expr = cc
    by (k ∷ l ∷ a) x e expr = cc

one_root : (marks : List Mark) (a b : Option Node) → IsRoot a marks → IsRoot b marks → a ≡ b
one_root marks None None x y = refl
one_root marks None (Some node) x y = absurd (no_root marks node x y.0)
one_root marks (Some node) None x y = absurd (no_root marks node y x.0)
one_root marks (Some node) (Some other) x y = ap Some (one_query 32 node other marks x.0 y.0)

pub one_value : (setting : Setting) (text : List ℕ) (pieces : List Piece) (a b : Query) → IsValue a (marks_of setting text pieces) → IsValue b (marks_of setting text pieces) → a ≡ b
one_value setting text pieces a b x y = whole a b (one_root (marks_of setting text pieces) a.root b.root x.0 y.0) (x.1 ∙ sym y.1)
  where
    whole : (a b : Query) → a.root ≡ b.root → a.keywords ≡ b.keywords → a ≡ b
    whole a b roots counts = ap (λ (root : Option Node). record { root = root; keywords = a.keywords }) roots ∙ ap (λ (n : ℕ). record { root = b.root; keywords = n }) counts

pub value_no_fault : (setting : Setting) (text : List ℕ) (pieces : List Piece) (query : Query) (fault : QueryFault) → IsValue query (marks_of setting text pieces) → IsRefused fault (marks_of setting text pieces) → ⊥
value_no_fault setting text pieces query fault value refused = by query.root value.0
  where
    by : (root : Option Node) → IsRoot root (marks_of setting text pieces) → ⊥
    by None end = refused.1 end
    by (Some node) is = is.1 (told_of fault) refused.0.is

pub one_refusal : (setting : Setting) (text : List ℕ) (pieces : List Piece) (a b : QueryFault) → IsUtf8 text → ArePieces (alphabet_in setting) text pieces → IsRefused a (marks_of setting text pieces) → IsRefused b (marks_of setting text pieces) → a ≡ b
one_refusal setting text pieces a b utf8 are x y =
    let told : told_of a ≡ told_of b = one_fault (orderly setting text pieces utf8 are) x.0 y.0 in
    whole (ap (λ (t : Told). t.place) told) (ap (λ (t : Told). t.kind) told) (ap (λ (t : Told). t.name) told)
  where
    whole : a.place ≡ b.place → a.kind ≡ b.kind → a.name ≡ b.name → a ≡ b
    whole places kinds names =
        ap (λ (n : ℕ). record { place = n; kind = a.kind; name = a.name }) places
        ∙ ap (λ (k : QueryKind). record { place = b.place; kind = k; name = a.name }) kinds
        ∙ ap (λ (n : List ℕ). record { place = b.place; kind = b.kind; name = n }) names
