-- What is found of a node that is made of others, by what is found of these.
use Rattle.std.proofs.Common.{◌≡◌, ℕ, Bool, true, cond, List, ◌++◌, length, get_or, map, Result, Ok, Err, refl, sym, ◌∙◌, ap, subst, inl, inr, arith, ◌+◌, length-append}
use Rattle.std.specs.Prelude.{◌||◌, All, IfOk, OnOk}
use Rattle.std.specs.List.{list_all, list_any}
use Rattle.std.proofs.lemmas.Bool.{cases_Bool, or_left, or_right}
use Rattle.std.proofs.lemmas.List.{get_or_append_left, get_or-append-add}
use Rattle.std.proofs.lemmas.List.Folds.{list_any_at}
use Rattle.srch_base.specs.declared.faults.NoMemory.{NoMemory}
use Rattle.doc_types.specs.declared.documents.DocRow.{DocRow}
use Rattle.doc_types.specs.Chunks.{spans_of}
use Rattle.query_tree.specs.declared.key.Key.{Key}
use Rattle.query_tree.specs.declared.query.Item.{Item}
use Rattle.query_tree.specs.declared.query.Node.{Node}
use Rattle.query_tree.specs.declared.query.Node.TheVariants as nodes
use Rattle.query_tree.specs.TreeKeys.{node_keys}
use Rattle.query_tree.proofs.NodeKeys.{keys_and, keys_span}
use Rattle.occ_lists.specs.declared.term.Term.{Term}
use Rattle.occ_lists.specs.Joined.{before, near, together}
use Rattle.occ_lists.specs.Sound.{IsForward}
use Rattle.occ_lists.specs.Terms.{IsPlaced}
use Rattle.op_eval.specs.declared.finding.Finding.{Finding}
use Rattle.op_eval.specs.declared.joining.Join.{Join}
use Rattle.op_eval.specs.declared.joining.Join.TheVariants as joins
use Rattle.word_rows.specs.declared.marks.RowMarks.{RowMarks}
use Rattle.word_rows.specs.Keywords.{Spans}
use Rattle.op_eval.specs.Finding.{Found, Part, either, made, nothing, passes, perhaps, joined, all_of, any_of, node_finds}
use Rattle.word_rows.specs.RowMarks.{Knows, asks_boundaries, asks_spans}
use Rattle.op_eval.specs.steps.Evaluating.{Finds, Holds, founds_in, join_by, items_keys, part_in}
use Rattle.word_rows.specs.Terms.{AreTermsOf}
use Rattle.op_eval.proofs.Appending.{chosen, finds_joined, finds_when}
use Rattle.op_eval.proofs.Forward.{finds_forward}
use Rattle.query_tree.proofs.JoinedKeys.{IsBounded, IsJoint, keys_joint}
use Rattle.word_rows.proofs.JoinedNodes.{IsPlain, bounds_plain, bounds_bounded, zones_plain, zones_bounded}
use Rattle.word_rows.proofs.MarkedNodes.{bounds_and, bounds_span, zones_and, zones_span}
use Rattle.op_eval.proofs.Nodes.{finds_and, finds_or, finds_maybe, finds_before, finds_near, finds_sentence, finds_paragraph, finds_span}

-- ---- terms

placed_cut : {X : Type 0} (P : X → Type 0) (xs ys : List X) → All P (xs ++ ys) → All P xs × All P ys
placed_cut P xs ys all = (
  λ k d h. subst P (get_or_append_left xs ys d k h) (all k d (omega (arith, length-append xs ys))),
  λ k d h. subst P (get_or-append-add xs ys k d) (all (length xs + k) d (omega (arith, length-append xs ys))),
)

pub placed_parts : (terms left right : List Term) → terms ≡ left ++ right → All IsPlaced terms → All IsPlaced left × All IsPlaced right
placed_parts terms left right whole all = placed_cut IsPlaced left right (subst (λ (list : List Term). All IsPlaced list) whole all)

-- ---- what is known of a row's marks

module _ (row : DocRow) (marks : RowMarks) where
  -- what asks for less
  knows_less : (node part : Node) → (asks_boundaries part ≡ true → asks_boundaries node ≡ true) → (asks_spans part ≡ true → asks_spans node ≡ true) → Knows row node marks → Knows row part marks
  knows_less node part bounds zones knows = record {
    sentences = λ asks. knows.sentences (bounds asks);
    paragraphs = λ asks. knows.paragraphs (bounds asks);
    spans = λ asks. knows.spans (zones asks);
  }

  knows_plain : (node a b : Node) → IsPlain node a b → Knows row node marks → Knows row a marks × Knows row b marks
  knows_plain node a b plain knows = (
    knows_less node a (λ asks. bounds_plain node a b plain ∙ or_left _ _ asks) (λ asks. zones_plain node a b plain ∙ or_left _ _ asks) knows,
    knows_less node b (λ asks. bounds_plain node a b plain ∙ or_right _ _ asks) (λ asks. zones_plain node a b plain ∙ or_right _ _ asks) knows,
  )

  knows_bounded : (node a b : Node) → IsBounded node a b → Knows row node marks → Knows row a marks × Knows row b marks
  knows_bounded node a b bounded knows = (
    knows_less node a (λ asks. bounds_bounded node a b bounded) (λ asks. zones_bounded node a b bounded ∙ or_left _ _ asks) knows,
    knows_less node b (λ asks. bounds_bounded node a b bounded) (λ asks. zones_bounded node a b bounded ∙ or_right _ _ asks) knows,
  )

  pub knows_joint : (node a b : Node) → IsJoint node a b → Knows row node marks → Knows row a marks × Knows row b marks
  knows_joint node a b (inl is) knows = knows_plain node a b (inl is) knows
  knows_joint node a b (inr (inl is)) knows = knows_plain node a b (inr (inl is)) knows
  knows_joint node a b (inr (inr (inl is))) knows = knows_plain node a b (inr (inr (inl is))) knows
  knows_joint node a b (inr (inr (inr (inl near)))) knows = knows_plain node a b (inr (inr (inr near))) knows
  knows_joint node a b (inr (inr (inr (inr bounded)))) knows = knows_bounded node a b bounded knows

  -- each item of an AND
  pub knows_items : (node : Node) (items list : List Item) → node ≡ nodes.And items → list ≡ items → Knows row node marks → All (λ (item : Item). Knows row item.node marks) list
  knows_items node items list is same knows k d within =
      knows_less node (get_or list k d).node
      (λ asks. ap asks_boundaries is ∙ bounds_and items ∙ sym (ap (list_any (λ (item : Item). asks_boundaries item.node)) same) ∙ list_any_at (λ (item : Item). asks_boundaries item.node) list k d within asks)
      (λ asks. ap asks_spans is ∙ zones_and items ∙ sym (ap (list_any (λ (item : Item). asks_spans item.node)) same) ∙ list_any_at (λ (item : Item). asks_spans item.node) list k d within asks)
      knows

  -- the node under a ZONESPAN
  pub knows_span : (node : Node) (zones : List ℕ) (a inner : Node) → node ≡ nodes.ZoneSpan zones a → inner ≡ a → Knows row node marks → Knows row inner marks × (marks.spans.items ≡ spans_of row)
  knows_span node zones a inner is same knows = (
    knows_less node inner (λ asks. ap asks_boundaries is ∙ bounds_span zones a ∙ ap asks_boundaries (sym same) ∙ asks) (λ asks. ap asks_spans is ∙ zones_span zones a) knows,
    knows.spans (ap asks_spans is ∙ zones_span zones a),
  )

-- ---- what is found

module _ (row : DocRow) (number : List ℕ → ℕ) (marks : RowMarks) (spans : Spans) (terms : List Term) where
  -- two nodes that are joined, which are read behind references
  pub pair_found : (P : Found → Type 0) (join : Found → Found → Found) (node a b first second : Node) → IsJoint node a b → first ≡ a → second ≡ b
      → node_finds row number node spans ≡ join (node_finds row number a spans) (node_finds row number b spans)
      → AreTermsOf row number (node_keys node) terms → Knows row node marks
      → (AreTermsOf row number (node_keys first ++ node_keys second) terms → Knows row first marks → Knows row second marks → P (join (node_finds row number first spans) (node_finds row number second spans)))
      → P (node_finds row number node spans)
  pair_found P join node a b first second joint is_a is_b is z knows told =
      let both = knows_joint row marks node a b joint knows in
      subst P
      (ap (λ (n : Node). join (node_finds row number n spans) (node_finds row number second spans)) is_a ∙ ap (λ (n : Node). join (node_finds row number a spans) (node_finds row number n spans)) is_b ∙ sym is)
      (told
      (subst (λ (keys : List Key). AreTermsOf row number keys terms) (keys_joint node a b joint ∙ ap (λ (n : Node). node_keys n ++ node_keys b) (sym is_a) ∙ ap (λ (n : Node). node_keys first ++ node_keys n) (sym is_b)) z)
      (subst (λ (n : Node). Knows row n marks) (sym is_a) both.0)
      (subst (λ (n : Node). Knows row n marks) (sym is_b) both.1))

  pub either_found : (P : Found → Type 0) (node a b first second : Node) → node ≡ nodes.Or a b → first ≡ a → second ≡ b → AreTermsOf row number (node_keys node) terms → Knows row node marks
      → (AreTermsOf row number (node_keys first ++ node_keys second) terms → Knows row first marks → Knows row second marks → P (either (node_finds row number first spans) (node_finds row number second spans)))
      → P (node_finds row number node spans)
  either_found P node a b first second is is_a is_b = pair_found P either node a b first second (inl is) is_a is_b (ap (λ (n : Node). node_finds row number n spans) is ∙ finds_or row number a b spans)

  pub perhaps_found : (P : Found → Type 0) (node a b first second : Node) → node ≡ nodes.Maybe a b → first ≡ a → second ≡ b → AreTermsOf row number (node_keys node) terms → Knows row node marks
      → (AreTermsOf row number (node_keys first ++ node_keys second) terms → Knows row first marks → Knows row second marks → P (perhaps (node_finds row number first spans) (node_finds row number second spans)))
      → P (node_finds row number node spans)
  perhaps_found P node a b first second is is_a is_b = pair_found P perhaps node a b first second (inr (inl is)) is_a is_b (ap (λ (n : Node). node_finds row number n spans) is ∙ finds_maybe row number a b spans)

  -- by an operator on occurrences
  abbrev pub Joins : Join → Node → Node → Node → Type 0
  Joins joins.Before node a b = node ≡ nodes.Before a b
  Joins (joins.Near n) node a b = node ≡ nodes.Near n a b
  Joins joins.Sentence node a b = node ≡ nodes.Sentence a b
  Joins joins.Paragraph node a b = node ≡ nodes.Paragraph a b

  joins_joint : (join : Join) (node a b : Node) → Joins join node a b → IsJoint node a b
  joins_joint joins.Before node a b is = inr (inr (inl is))
  joins_joint (joins.Near n) node a b is = inr (inr (inr (inl (n, is))))
  joins_joint joins.Sentence node a b is = inr (inr (inr (inr (inl is))))
  joins_joint joins.Paragraph node a b is = inr (inr (inr (inr (inr is))))

  joins_found : (join : Join) (node a b : Node) → Joins join node a b → Knows row node marks → node_finds row number node spans ≡ joined (join_by marks join) (node_finds row number a spans) (node_finds row number b spans)
  joins_found joins.Before node a b is knows = ap (λ (n : Node). node_finds row number n spans) is ∙ finds_before row number a b spans
  joins_found (joins.Near n) node a b is knows = ap (λ (m : Node). node_finds row number m spans) is ∙ finds_near row number n a b spans
  joins_found joins.Sentence node a b is knows =
      ap (λ (n : Node). node_finds row number n spans) is ∙ finds_sentence row number a b spans
      ∙ ap (λ (ends : List (ℕ × ℕ)). joined (together ends) (node_finds row number a spans) (node_finds row number b spans)) (sym (knows.sentences (bounds_bounded node a b (inl is))))
  joins_found joins.Paragraph node a b is knows =
      ap (λ (n : Node). node_finds row number n spans) is ∙ finds_paragraph row number a b spans
      ∙ ap (λ (ends : List (ℕ × ℕ)). joined (together ends) (node_finds row number a spans) (node_finds row number b spans)) (sym (knows.paragraphs (bounds_bounded node a b (inr is))))

  pub joined_found : (P : Found → Type 0) (join : Join) (node a b first second : Node) → Joins join node a b → first ≡ a → second ≡ b → AreTermsOf row number (node_keys node) terms → Knows row node marks
      → (AreTermsOf row number (node_keys first ++ node_keys second) terms → Knows row first marks → Knows row second marks → P (joined (join_by marks join) (node_finds row number first spans) (node_finds row number second spans)))
      → P (node_finds row number node spans)
  joined_found P join node a b first second is is_a is_b z knows told =
      pair_found P (joined (join_by marks join)) node a b first second (joins_joint join node a b is) is_a is_b (joins_found join node a b is knows) z knows told

  -- the items of an AND
  pub items_found : (P : Found → Type 0) (node : Node) (items list : List Item) → node ≡ nodes.And items → list ≡ items → AreTermsOf row number (node_keys node) terms → Knows row node marks
      → (AreTermsOf row number (items_keys list) terms → All (λ (item : Item). Knows row item.node marks) list → P (all_of (map (part_in row number spans) list)))
      → P (node_finds row number node spans)
  items_found P node items list is same z knows told =
      subst P
      (ap (λ (i : List Item). all_of (map (part_in row number spans) i)) same ∙ sym (ap (λ (n : Node). node_finds row number n spans) is ∙ finds_and row number items spans))
      (told
      (subst (λ (keys : List Key). AreTermsOf row number keys terms) (ap node_keys is ∙ keys_and items ∙ ap items_keys (sym same)) z)
      (knows_items row marks node items list is same knows))

  -- the node under a ZONESPAN
  pub span_found : (P : Found → Type 0) (node : Node) (zones list : List ℕ) (a inner : Node) → node ≡ nodes.ZoneSpan zones a → list ≡ zones → inner ≡ a → AreTermsOf row number (node_keys node) terms → Knows row node marks
      → (AreTermsOf row number (node_keys inner) terms → Knows row inner marks
      → P (any_of (founds_in row number inner spans list marks.spans.items)))
      → P (node_finds row number node spans)
  span_found P node zones list a inner is same is_a z knows told =
      let known = knows_span row marks node zones a inner is is_a knows in
      let within = λ (n : Node) (z : List ℕ) (all : Spans). any_of (founds_in row number n spans z all) in
      subst P
      (ap (within inner list) known.1 ∙ ap (λ (n : Node). within n list (spans_of row)) is_a ∙ ap (λ (z : List ℕ). within a z (spans_of row)) same
      ∙ sym (ap (λ (n : Node). node_finds row number n spans) is ∙ finds_span row number zones a spans))
      (told (subst (λ (keys : List Key). AreTermsOf row number keys terms) (ap node_keys is ∙ keys_span zones a ∙ ap node_keys (sym is_a)) z) known.0)

-- ---- what a call told

pub told_forward : (short : Type 0) (found : Found) (old new : Finding) (r : Result Bool NoMemory) → All IsForward old.occs.items → All IsForward found.occurrences → IfOk r (λ told. Finds short found old new told) → OnOk r (All IsForward new.occs.items)
told_forward short found old new (Ok told) before all f = finds_forward found old new told before all f
told_forward short found old new (Err e) before all f = tt

pub told_when : {short other : Type 0} (found : Found) (old new : Finding) (r : Result Bool NoMemory) → (other → short) → IfOk r (λ told. Finds short found old new told) → IfOk r (λ told. Finds other found old new told)
told_when found old new (Ok told) so f = finds_when found old new told so f
told_when found old new (Err e) so f = tt

pub told_joined : {short : Type 0} (marks : RowMarks) (join : Join) (first second : Finding) (a b : Found) (old new : Finding) (r : Result Bool NoMemory)
    → IfOk r (λ told. Finds (Unit {0}) (made (join_by marks join first.occs.items second.occs.items) (first.hits.items ++ second.hits.items)) old new told) → Holds short a first → Holds short b second
    → IfOk r (λ told. Finds short (joined (join_by marks join) a b) old new told)
told_joined marks join first second a b old new (Ok told) f left right = finds_joined marks join first second a b old new told f left right
told_joined marks join first second a b old new (Err e) f left right = tt

-- ---- whether a node matches

pub all_matches : (parts : List Part) → (all_of parts).matches ≡ list_all passes parts
all_matches parts = chosen (list_all passes parts) _ refl

pub perhaps_matches : (a b : Found) → (perhaps a b).matches ≡ a.matches
perhaps_matches a b = elim (cases_Bool a.matches) [
  | inl is ↦ ap (λ t. (cond t (either a b) nothing).matches) is ∙ ap (λ t. t || b.matches) is ∙ sym is
  | inr is_not ↦ ap (λ t. (cond t (either a b) nothing).matches) is_not ∙ sym is_not
]

pub told_is : (r : Result Bool NoMemory) (b other : Bool) → b ≡ other → IfOk r (λ told. told ≡ b) → IfOk r (λ told. told ≡ other)
told_is (Ok told) b other is t = t ∙ is
told_is (Err e) b other is t = tt
