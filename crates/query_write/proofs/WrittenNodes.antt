-- What is appended of a node, by the calls that append its parts.
use Rattle.std.proofs.Common.{◌≡◌, ℕ, List, [], ◌∷◌, ◌++◌, Bool, true, false, Result, refl, sym, ◌∙◌, ap, subst, append_assoc, append-nil}
use Rattle.std.specs.Prelude.{Option, Some, None, if◌then◌else◌}
use Rattle.srch_base.specs.declared.faults.NoMemory.{NoMemory}
use Rattle.doc_types.specs.declared.schema.Schema.{Schema}
use Rattle.query_tree.specs.declared.key.Limit.{Limit}
use Rattle.query_tree.specs.declared.query.Node.{Node}
use Rattle.query_write.specs.Written.{WrittenToken, Line, token_text, tokens_text, part_of, node_tokens, left, joined, under, limits, zone_tokens}
use Rattle.query_write.specs.steps.Writes.{Appended, Appends, limit_over, limit_tokens}
use Rattle.query_write.proofs.Writings.{then_appended, joined_text}

pub as_tokens : (schema : Schema) (tokens other : List WrittenToken) (before after : List ℕ) (r : Result (Unit {0}) NoMemory) → tokens ≡ other → Appends schema other before r after → Appends schema tokens before r after
as_tokens schema tokens other before after r e a = subst (λ t. Appends schema t before r after) (sym e) a

pub one_token : (schema : Schema) (token : WrittenToken) (before after : List ℕ) (r : Result (Unit {0}) NoMemory) → Appended (token_text schema token) before r after → Appends schema (token ∷ []) before r after
one_token schema token before after r a = subst (λ bytes. Appended bytes before r after) (sym (append-nil (token_text schema token))) a

pub then_tokens : (schema : Schema) (first second : List WrittenToken) (before mid after : List ℕ) (r : Result (Unit {0}) NoMemory) → mid ≡ before ++ tokens_text schema first → Appends schema second mid r after → Appends schema (first ++ second) before r after
then_tokens schema first second before mid after r e a =
    subst (λ bytes. Appended bytes before r after) (sym (joined_text schema first second)) (then_appended (tokens_text schema first) (tokens_text schema second) before mid after r e a)

-- a token before others
pub then_rest : (schema : Schema) (token : WrittenToken) (rest : List WrittenToken) (before mid after : List ℕ) (r : Result (Unit {0}) NoMemory) → mid ≡ before ++ token_text schema token → Appends schema rest mid r after → Appends schema (token ∷ rest) before r after
then_rest schema token rest before mid after r e a = then_appended (token_text schema token) (tokens_text schema rest) before mid after r e a

module _ (schema : Schema) (before mid after : List ℕ) (r : Result (Unit {0}) NoMemory) where
  -- two nodes with an operator between them
  pub line_joined : (same : Line → Bool) (a b x y z : Node) (bare : Bool) (operator : WrittenToken) → x ≡ a → y ≡ a → z ≡ b → bare ≡ same (part_of schema.fields y).line
      → mid ≡ before ++ tokens_text schema (if bare then (part_of schema.fields x).tokens else node_tokens schema.fields x)
      → Appends schema (WrittenToken.Space ∷ operator ∷ WrittenToken.Space ∷ node_tokens schema.fields z) mid r after
      → Appends schema (joined (left schema.fields same (part_of schema.fields a)) operator (node_tokens schema.fields b)) before r after
  line_joined same a b x y z bare operator ex ey ez eb e second =
      let bare_is : bare ≡ same (part_of schema.fields a).line = eb ∙ ap (λ n. same (part_of schema.fields n).line) ey in
      let first : mid ≡ before ++ tokens_text schema (left schema.fields same (part_of schema.fields a)) =
      e ∙ ap (λ n. before ++ tokens_text schema (if bare then (part_of schema.fields n).tokens else node_tokens schema.fields n)) ex
      ∙ ap (λ t. before ++ tokens_text schema (if t then (part_of schema.fields a).tokens else node_tokens schema.fields a)) bare_is in
      then_tokens schema (left schema.fields same (part_of schema.fields a)) (WrittenToken.Space ∷ operator ∷ WrittenToken.Space ∷ node_tokens schema.fields b) before mid after r first
      (subst (λ n. Appends schema (WrittenToken.Space ∷ operator ∷ WrittenToken.Space ∷ node_tokens schema.fields n) mid r after) ez second)

  pub leaves_joined : (a b x z : Node) (operator : WrittenToken) → x ≡ a → z ≡ b
      → mid ≡ before ++ tokens_text schema (part_of schema.fields x).tokens
      → Appends schema (WrittenToken.Space ∷ operator ∷ WrittenToken.Space ∷ (part_of schema.fields z).tokens) mid r after
      → Appends schema (joined (part_of schema.fields a).tokens operator (part_of schema.fields b).tokens) before r after
  leaves_joined a b x z operator ex ez e second =
      then_tokens schema (part_of schema.fields a).tokens (WrittenToken.Space ∷ operator ∷ WrittenToken.Space ∷ (part_of schema.fields b).tokens) before mid after r
      (e ∙ ap (λ n. before ++ tokens_text schema (part_of schema.fields n).tokens) ex)
      (subst (λ n. Appends schema (WrittenToken.Space ∷ operator ∷ WrittenToken.Space ∷ (part_of schema.fields n).tokens) mid r after) ez second)

-- tokens under a limit that limits
pub under_some : (names : List (List ℕ)) (found : Option Limit) (limit : Limit) (tokens : List WrittenToken) → limit_over names found ≡ Some limit
    → under names found tokens ≡ WrittenToken.Open ∷ (limit_tokens limit ++ (tokens ++ WrittenToken.Close ∷ []))
under_some names None limit tokens e = cc
under_some names (Some found) limit tokens e = by (limits names found) refl
  where
    by : (b : Bool) → limits names found ≡ b → under names (Some found) tokens ≡ WrittenToken.Open ∷ (limit_tokens limit ++ (tokens ++ WrittenToken.Close ∷ []))
    by true f =
        let over : Some found ≡ Some limit = ap (λ t. if t then Some found else None) (sym f) ∙ e in
        let same : found ≡ limit = cc in
        let rest = tokens ++ WrittenToken.Close ∷ [] in
        ap (λ t. if t then WrittenToken.Open ∷ WrittenToken.Fields found.fields found.positions ∷ (zone_tokens found.zones ++ WrittenToken.Space ∷ rest) else tokens) f
        ∙ ap (λ l. WrittenToken.Open ∷ WrittenToken.Fields found.fields found.positions ∷ l) (sym (append_assoc (zone_tokens found.zones) (WrittenToken.Space ∷ []) rest))
        ∙ ap (λ l. WrittenToken.Open ∷ (limit_tokens l ++ rest)) same
    by false f =
        let none : None ≡ Some limit = ap (λ t. if t then Some found else None) (sym f) ∙ e in
        cc

-- a node between parentheses, after what stands at their beginning
pub closed_text : (schema : Schema) (head inner : List WrittenToken) (before opened mid done after : List ℕ) (r : Result (Unit {0}) NoMemory)
    → opened ≡ before ++ token_text schema WrittenToken.Open → mid ≡ opened ++ tokens_text schema head → done ≡ mid ++ tokens_text schema inner
    → Appended (token_text schema WrittenToken.Close) done r after
    → Appends schema (WrittenToken.Open ∷ (head ++ (inner ++ WrittenToken.Close ∷ []))) before r after
closed_text schema head inner before opened mid done after r e f g last =
    then_rest schema WrittenToken.Open (head ++ (inner ++ WrittenToken.Close ∷ [])) before opened after r e
    (then_tokens schema head (inner ++ WrittenToken.Close ∷ []) opened mid after r f
    (then_tokens schema inner (WrittenToken.Close ∷ []) mid done after r g
    (one_token schema WrittenToken.Close done after r last)))
