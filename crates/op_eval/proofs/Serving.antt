-- Plans that serve a node, by the plans of its parts.
use Rattle.std.proofs.Common.{arith, ◌≡◌, ◌<◌, ◌+◌, refl, sym, ap, ◌∙◌, subst, ℕ, Bool, true, false, List, [], ◌∷◌, ◌++◌, length, length-append, get_or, map, min, take, Result, Ok, Err, inl, inr}
use Rattle.std.specs.Prelude.{◌&&◌, ◌||◌, not, nat_le, count_by, if◌then◌else◌}
use Rattle.std.specs.List.{list_all, range_with_len}
use Rattle.std.specs.Result.{OnOk}
use Rattle.std.proofs.lemmas.Bool.{and_cases, or_parts, or_from, and_left, and_right, lt-leb, leb-false}
use Rattle.std.proofs.lemmas.List.Folds.{list_all-map, list_all_more}
use Rattle.doc_types.specs.declared.documents.DocRow.{DocRow}
use Rattle.query_tree.specs.declared.key.Key.{Key}
use Rattle.query_tree.specs.declared.key.How.{How}
use Rattle.query_tree.specs.declared.query.Item.{Item}
use Rattle.query_tree.specs.declared.query.Node.{Node}
use Rattle.query_tree.specs.declared.query.Node.TheVariants as nodes
use Rattle.query_tree.specs.TreeKeys.{node_keys}
use Rattle.query_tree.proofs.NodeKeys.{keys_word, keys_quoted, keys_and, keys_span}
use Rattle.word_rows.specs.Keywords.{Spans}
use Rattle.query_tree.proofs.JoinedKeys.{IsJoint, IsOrdered, keys_joint}
use Rattle.op_eval.specs.Finding.{Found, is_some, is_enough, passes, spans_in, node_finds}
use Rattle.op_eval.specs.steps.Verdicts.{AreApart, stands_in, quoted_matches, item_passes}
use Rattle.op_eval.proofs.Nodes.{part_within, finds_word, finds_quoted, finds_and, finds_or, finds_maybe, finds_span}
use Rattle.op_eval.proofs.NodeVerdicts.{any_none, apart_item, apart_left, apart_right, kept_matches, matches_of, ordered_fails}
use Rattle.op_eval.proofs.QuotedVerdicts.{IsClose, IsLoose, close_none, guard_matches, loose_is}
use Rattle.op_eval.proofs.Standing.{places_absent}
use Rattle.row_plans.specs.declared.plan.Plan.{Plan}
use Rattle.row_plans.specs.declared.plan.Plan.TheVariants as plans
use Rattle.row_plans.specs.Plans.{holds}
use Rattle.row_plans.proofs.HowFar.{holds_word, holds_all, holds_enough}
use Rattle.op_eval.specs.steps.Planned.{AreKnown, Serves, ServesFrom, ServesItems, ServesQuoted, has_key}
use Rattle.op_eval.specs.steps.Evaluating.{items_keys}
use Rattle.op_eval.proofs.Known.{known_left, known_right, known_item, known_own, absent_from, count_known}

-- ---- kinds of nodes

module _ (node : Node) (plan : Plan) (first : ℕ) where
  pub serves_word : (key : Key) → node ≡ nodes.Word key → plan ≡ plans.Word first → ServesFrom plan first node
  serves_word key is made row number has apart known e spans =
      let mine : AreKnown has row first (key ∷ []) = subst (AreKnown has row first) (ap node_keys is ∙ keys_word key) known in
      let denied : has first ≡ false = sym (ap (holds has) made ∙ holds_word has first) ∙ e in
      ap (λ (n : Node). matches_of row number n spans) is ∙ ap (λ (found : Found). found.matches) (finds_word row number key spans) ∙ ap is_some (places_absent row key spans (mine.0 denied))

  pub serves_quoted : (keys given : List Key) (how : How) → node ≡ nodes.Quoted keys how → given ≡ keys → ServesQuoted plan first given how → ServesFrom plan first node
  serves_quoted keys given how is same serves row number has apart known e spans =
      let own : node_keys node ≡ given = ap node_keys is ∙ keys_quoted keys how ∙ sym same in
      ap (λ (n : Node). matches_of row number n spans) is ∙ ap (λ (found : Found). found.matches) (finds_quoted row number keys how spans)
      ∙ ap (λ (ks : List Key). quoted_matches row number ks how spans) (sym same)
      ∙ serves row number has (subst (AreApart number) own apart) (subst (AreKnown has row first) own known) e spans

  pub serves_and : (items given : List Item) → node ≡ nodes.And items → given ≡ items → ServesItems plan first given → ServesFrom plan first node
  serves_and items given is same serves row number has apart known e spans =
      let own : node_keys node ≡ items_keys given = ap node_keys is ∙ keys_and items ∙ ap items_keys (sym same) in
      ap (λ (n : Node). matches_of row number n spans) is ∙ ap (λ (found : Found). found.matches) (finds_and row number items spans)
      ∙ guard_matches (list_all passes (map (part_within row number spans) items)) _ refl ∙ list_all-map passes (part_within row number spans) items
      ∙ ap (list_all (item_passes row number spans)) (sym same)
      ∙ serves row number has (subst (AreApart number) own apart) (subst (AreKnown has row first) own known) e spans

  pub serves_span : (zones : List ℕ) (a inner : Node) → node ≡ nodes.ZoneSpan zones a → inner ≡ a → ServesFrom plan first inner → ServesFrom plan first node
  serves_span zones a inner is same serves row number has apart known e spans =
      let own : node_keys node ≡ node_keys inner = ap node_keys is ∙ keys_span zones a ∙ ap node_keys (sym same) in
      let none : (spans : Spans) → matches_of row number a spans ≡ false = λ spans. subst (λ (n : Node). matches_of row number n spans ≡ false) same (serves row number has (subst (AreApart number) own apart) (subst (AreKnown has row first) own known) e spans) in
      ap (λ (n : Node). matches_of row number n spans) is ∙ ap (λ (found : Found). found.matches) (finds_span row number zones a spans)
      ∙ any_none (λ span. node_finds row number a (spans ++ span ∷ [])) (λ span. none (spans ++ span ∷ [])) (spans_in row zones)

  -- a node that joins two, which are read behind references
  module _ (a b one other : Node) (is_one : one ≡ a) (is_other : other ≡ b) where
    -- what is known of the two
    module _ (joint : IsJoint node a b) (row : DocRow) (number : List ℕ → ℕ) (has : ℕ → Bool) (apart : AreApart number (node_keys node)) (known : AreKnown has row first (node_keys node)) where
      own_keys : node_keys node ≡ node_keys one ++ node_keys other
      own_keys = keys_joint node a b joint ∙ ap (λ (n : Node). node_keys n ++ node_keys b) (sym is_one) ∙ ap (λ (n : Node). node_keys one ++ node_keys n) (sym is_other)

      one_fails : (p : Plan) → ServesFrom p first one → holds has p ≡ false → (spans : Spans) → matches_of row number a spans ≡ false
      one_fails p serves e spans =
          subst (λ (n : Node). matches_of row number n spans ≡ false) is_one
          (serves row number has (apart_left number (node_keys one) (node_keys other) (subst (AreApart number) own_keys apart)) (known_left has row first (node_keys one) (node_keys other) (subst (AreKnown has row first) own_keys known)) e spans)

      other_fails : (next : ℕ) (p : Plan) → next ≡ first + length (node_keys one) → ServesFrom p next other → holds has p ≡ false → (spans : Spans) → matches_of row number b spans ≡ false
      other_fails next p later serves e spans =
          subst (λ (n : Node). matches_of row number n spans ≡ false) is_other
          (serves row number has (apart_right number (node_keys one) (node_keys other) (subst (AreApart number) own_keys apart)) (known_right has row first next (node_keys one) (node_keys other) later (subst (AreKnown has row first) own_keys known)) e spans)

    pub serves_or : (p q : Plan) (next : ℕ) → node ≡ nodes.Or a b → ((has : ℕ → Bool) → holds has plan ≡ (holds has p || holds has q)) → next ≡ first + length (node_keys one) → ServesFrom p first one → ServesFrom q next other → ServesFrom plan first node
    serves_or p q next is made later left right row number has apart known e spans =
        let none = or_parts (holds has p) (holds has q) (sym (made has) ∙ e) in
        ap (λ (n : Node). matches_of row number n spans) is ∙ ap (λ (found : Found). found.matches) (finds_or row number a b spans)
        ∙ or_from (matches_of row number a spans) (matches_of row number b spans) (one_fails (inl is) row number has apart known p left none.0 spans) (other_fails (inl is) row number has apart known next q later right none.1 spans)

    pub serves_maybe : node ≡ nodes.Maybe a b → ServesFrom plan first one → ServesFrom plan first node
    serves_maybe is left row number has apart known e spans =
        ap (λ (n : Node). matches_of row number n spans) is ∙ ap (λ (found : Found). found.matches) (finds_maybe row number a b spans)
        ∙ kept_matches (matches_of row number a spans) (node_finds row number a spans) (node_finds row number b spans) refl
        ∙ one_fails (inr (inl is)) row number has apart known plan left e spans

    pub serves_ordered : (p q : Plan) (next : ℕ) (parts : List Plan) → IsOrdered node a b → plan ≡ plans.All parts → ((h : Plan → Bool) → list_all h parts ≡ (h q && (h p && true)))
        → next ≡ first + length (node_keys one) → ServesFrom p first one → ServesFrom q next other → ServesFrom plan first node
    serves_ordered p q next parts is made both later left right row number has apart known e spans =
        ordered_fails row number node a b spans is (elim (and_cases (holds has q) (holds has p && true) (sym (ap (holds has) made ∙ holds_all has parts ∙ both (holds has)) ∙ e)) [
          | inl none ↦ and_right (matches_of row number a spans) (matches_of row number b spans) (other_fails (inr (inr is)) row number has apart known next q later right none spans)
          | inr none ↦ and_left (matches_of row number a spans) (matches_of row number b spans) (one_fails (inr (inr is)) row number has apart known p left (first_false (holds has p) none) spans)
        ])
      where
        first_false : (t : Bool) → (t && true) ≡ false → t ≡ false
        first_false true e = e
        first_false false e = refl

-- ---- quoted keywords

module _ (plan : Plan) (first : ℕ) (keys : List Key) (how : How) where
  pub serves_close : IsClose how → ((has : ℕ → Bool) → holds has plan ≡ list_all has (range_with_len first (length keys))) → ServesQuoted plan first keys how
  serves_close close made row number has apart known e spans = close_none row number keys how spans close apart (inr (absent_from has row first keys known (sym (made has) ∙ e)))

  -- fewer than so many aren't enough
  pub serves_loose : (least : ℕ) → IsLoose how → ((m : ℕ) → m < least → is_enough how (length keys) m ≡ false) → plan ≡ plans.Enough least (range_with_len first (length keys)) → ServesQuoted plan first keys how
  serves_loose least loose few made row number has apart known e spans =
      let short = leb-false least (count_by has (range_with_len first (length keys))) (sym (ap (holds has) made ∙ holds_enough has least (range_with_len first (length keys))) ∙ e) in
      loose_is row number keys how spans loose ∙ few (count_by (stands_in row spans) keys) (omega (arith, short, count_known has row spans first keys known))

pub few_of : (k n least m : ℕ) → least ≡ min k n → m < least → nat_le (min k n) m ≡ false
few_of k n least m is l = lt-leb (min k n) m (omega (arith, is, l))

-- ---- items

-- the items so far are served by these parts
abbrev pub ServesSoFar : ℕ → List Item → ℕ → List Plan → Type 0
ServesSoFar first items at parts =
    (row : DocRow) (number : List ℕ → ℕ) (has : ℕ → Bool) → AreApart number (items_keys items) → AreKnown has row first (items_keys items) → list_all (holds has) parts ≡ false → (spans : Spans) → list_all (item_passes row number spans) (take at items) ≡ false

module _ (first : ℕ) (items : List Item) (at : ℕ) (item : Item) (within : at < length items) (is : item ≡ get_or items at item) where
  more_is : (row : DocRow) (number : List ℕ → ℕ) (spans : Spans) → list_all (item_passes row number spans) (take (at + 1) items) ≡ (list_all (item_passes row number spans) (take at items) && item_passes row number spans item)
  more_is row number spans = list_all_more (item_passes row number spans) items at item within ∙ ap (λ (i : Item). list_all (item_passes row number spans) (take at items) && item_passes row number spans i) (sym is)

  pub left_out : (parts : List Plan) → ServesSoFar first items at parts → ServesSoFar first items (at + 1) parts
  left_out parts so row number has apart known e spans = more_is row number spans ∙ and_left _ (item_passes row number spans item) (so row number has apart known e spans)

  pub put_in : (plan : Plan) (next : ℕ) (parts more : List Plan) → item.negated ≡ false → next ≡ first + length (items_keys (take at items)) → ServesFrom plan next item.node
      → ((h : Plan → Bool) → list_all h more ≡ (h plan && list_all h parts)) → ServesSoFar first items at parts → ServesSoFar first items (at + 1) more
  put_in plan next parts more kept later serves made so row number has apart known e spans =
      more_is row number spans ∙ elim (and_cases (holds has plan) (list_all (holds has) parts) (sym (made (holds has)) ∙ e)) [
        | inl none ↦ and_right (list_all (item_passes row number spans) (take at items)) (item_passes row number spans item) (
            ap (λ t. if t then not (matches_of row number item.node spans) else matches_of row number item.node spans) kept
            ∙ serves row number has (subst (λ (i : Item). AreApart number (node_keys i.node)) (sym is) (apart_item number items at item within apart))
            (subst (λ (i : Item). AreKnown has row next (node_keys i.node)) (sym is) (known_item has row first next items at item within later known)) none spans)
        | inr none ↦ and_left _ (item_passes row number spans item) (so row number has apart known none spans)
      ]

-- ---- the tree

pub serves_root : (plan : Plan) (root : Node) → ServesFrom plan 0 root → Serves plan root
serves_root plan root serves row number apart e = serves row number (has_key row (node_keys root)) apart (known_own row (node_keys root)) e

-- ---- how many keywords a node has

pub count_joint : (node a b one other : Node) → IsJoint node a b → one ≡ a → other ≡ b → length (node_keys node) ≡ length (node_keys one) + length (node_keys other)
count_joint node a b one other joint is_one is_other =
    ap length (keys_joint node a b joint ∙ ap (λ (n : Node). node_keys n ++ node_keys b) (sym is_one) ∙ ap (λ (n : Node). node_keys one ++ node_keys n) (sym is_other)) ∙ length-append (node_keys one) (node_keys other)

-- the number that comes next
pub on_ok : {T E : Type 0} (Q : Type 0) (r : Result T E) → Q → OnOk r Q
on_ok Q (Ok x) q = q
on_ok Q (Err e) q = tt

pub next_is : {T E : Type 0} (r : Result T E) (new first a b : ℕ) → b ≡ a → OnOk r (new ≡ first + a) → OnOk r (new ≡ first + b)
next_is (Ok x) new first a b e made = omega (arith, e, made)
next_is (Err x) new first a b e made = tt
