-- The items of an AND, and what stands under a ZONESPAN.
use Rattle.std.proofs.Common.{arith, ◌≡◌, ◌≤◌, ◌+◌, ℕ, zero, suc, List, [], ◌∷◌, ◌++◌, Bool, true, false, Some, length, inl, inr, refl, sym, ◌∙◌, ap, subst, if◌then◌else◌}
use Rattle.std.specs.Prelude.{◌≢◌}
use Rattle.std.specs.List.{flat_map}
use Rattle.std.proofs.lemmas.List.{append-nil}
use Rattle.token_grammar.specs.Values.{◌then◌, IsAbsent, AreInRow}
use Rattle.doc_types.specs.declared.schema.Schema.{Schema}
use Rattle.query_marks.specs.declared.mark.Mark.{Mark}
use Rattle.query_marks.specs.declared.mark.Sign.TheVariants as signs
use Rattle.query_tree.specs.declared.query.Item.{Item}
use Rattle.query_tree.specs.declared.query.Node.{Node}
use Rattle.query_tree.specs.declared.query.Node.TheVariants as nodes
use Rattle.query_grammar.specs.Grammar.{IsJoin, IsItem, IsLimit, node_of, has_item, IsOpenAnd, IsExpr}
use Rattle.query_write.specs.Written.{WrittenToken, Space, Open, Close, Part, Single, part, part_of, item_tokens, whole}
use Rattle.query_write.specs.steps.TokenRun.{Ambient, Standing, standing, spanless, zoned, AreRightZones}
use Rattle.query_write.proofs.WrittenParts.{part_and, part_span}
use Rattle.query_write.proofs.TreeParts.{Makes, makes_then, makes_none, makes_first, makes_space, makes_as}
use Rattle.query_grammar.proofs.TreeGrammar.{alt_one, expr_limited, expr_items}
use Rattle.query_write.proofs.TreeGroups.{Groups, IsPlain, ReadsPart, Reads, Joins, close, group, reads_single}

and_is : (items : List Item) → 2 ≤ length items → node_of items ≡ nodes.And items
and_is [] several = absurd (omega (arith, several))
and_is (item ∷ []) several = absurd (omega (arith, several))
and_is (item ∷ other ∷ items) several = refl

some_items : (items : List Item) → 2 ≤ length items → items ≢ []
some_items [] several e = omega (arith, several)
some_items (item ∷ items) several e = cc

-- The tokens of items are read as the items, in groups of some depth and all greater ones.
pub record ReadsItems (schema : Schema) (n : ℕ) (items : List Item) (m : ℕ) : Type 0 where
  pub least : ℕ
  pub row : (depth : ℕ) → least ≤ depth → (here : Ambient) → IsPlain schema.fields here → (around : List Ambient)
      → Makes schema (AreInRow (IsItem (Groups depth)) items) (standing n here around) (flat_map (item_tokens schema.fields) items) (standing m here around)

module _ {schema : Schema} where
  spaced_after : {P : List Mark → Type 0} {s : Standing} {tokens : List WrittenToken} (t : Standing) → Makes schema P s tokens t → Makes schema P s (tokens ++ Space ∷ []) t
  spaced_after {P} t h =
      makes_as (λ u (a, b, e, first, none). subst P (sym (e ∙ ap (λ w. a ++ w) none ∙ append-nil a)) first)
      (makes_then {Q = IsAbsent} t h (makes_space makes_none))

  item_reads : (depth : ℕ) (item : Item) (s t : Standing) (tokens : List WrittenToken) (negated : Bool) → item.negated ≡ negated → Makes schema (IsJoin (Groups depth) item.node) s tokens t
      → Makes schema (IsItem (Groups depth) item) s ((if negated then WrittenToken.Not ∷ [] else []) ++ tokens) t
  item_reads depth item s t tokens true e h = makes_as (λ u x. inl (e, x)) (makes_first s WrittenToken.Not signs.Not tokens tt refl h)
  item_reads depth item s t tokens false e h = makes_as (λ u x. inr (e, alt_one (Groups depth) item.node u x)) h

  pub none_read : (n : ℕ) → ReadsItems schema n [] n
  none_read n = record { least = 0; row = λ depth deep here plain around. makes_none }

  pub more_read : (n : ℕ) (item : Item) (k : ℕ) (items : List Item) (m : ℕ) → Reads schema n item.node k → ReadsItems schema k items m → ReadsItems schema n (item ∷ items) m
  more_read n item k items m first rest = record {
    least = first.least + rest.least;
    row = λ depth deep here plain around.
        makes_then (standing k here around)
        (item_reads depth item (standing n here around) (standing k here around) (whole schema.fields (part_of schema.fields item.node) ++ Space ∷ []) item.negated refl
        (spaced_after (standing k here around) (first.join depth (omega (arith, deep)) here plain around)))
        (rest.row depth (omega (arith, deep)) here plain around);
  }

  and_joins : (n : ℕ) (items : List Item) (m : ℕ) → 2 ≤ length items → has_item items ≡ true → (h : ReadsItems schema n items m) → Joins schema n (nodes.And items) (part Single (Open ∷ Space ∷ (flat_map (item_tokens schema.fields) items ++ Close ∷ []))) m (suc h.least)
  and_joins n items m several has h zero deep here plain around = absurd (omega (arith, deep))
  and_joins n items m several has h (suc depth) deep here plain around =
      group depth (nodes.And items) n m here (spanless here) around (Space ∷ flat_map (item_tokens schema.fields) items) (Close ∷ [])
      (makes_space (makes_as (λ u x. subst (λ (node : Node). IsExpr IsOpenAnd (Groups depth) node u) (and_is items several) (expr_items (Groups depth) items (some_items items several) has u x))
      (h.row depth (omega (arith, deep)) (spanless here) plain (here ∷ around))))
      (close m (spanless here) here around)

  pub and_reads : (n : ℕ) (items : List Item) (m : ℕ) → 2 ≤ length items → has_item items ≡ true → ReadsItems schema n items m → Reads schema n (nodes.And items) m
  and_reads n items m several has h =
      let p : Part = part Single (Open ∷ Space ∷ (flat_map (item_tokens schema.fields) items ++ Close ∷ [])) in
      subst (λ (x : Part). ReadsPart schema n (nodes.And items) x m) (sym (part_and schema.fields items))
      (reads_single (nodes.And items) p (suc h.least) refl refl (and_joins n items m several has h))

  span_joins : (n : ℕ) (zones : List ℕ) (a : Node) (m : ℕ) → AreRightZones schema zones → (h : Reads schema n a m)
      → Joins schema n (nodes.ZoneSpan zones a) (part Single (Open ∷ WrittenToken.Spans zones ∷ Space ∷ (whole schema.fields (part_of schema.fields a) ++ Close ∷ []))) m (suc h.least)
  span_joins n zones a m right h zero deep here plain around = absurd (omega (arith, deep))
  span_joins n zones a m right h (suc depth) deep here plain around =
      let there : Ambient = zoned (spanless here) [] true in
      let limit : Makes schema (AreInRow IsLimit (Some zones ∷ [])) (standing n (spanless here) (here ∷ around)) (WrittenToken.Spans zones ∷ []) (standing n there (here ∷ around)) =
      makes_first (standing n (spanless here) (here ∷ around)) (WrittenToken.Spans zones) (signs.Spans zones) [] right refl makes_none in
      group depth (nodes.ZoneSpan zones a) n m here there around (WrittenToken.Spans zones ∷ Space ∷ whole schema.fields (part_of schema.fields a)) (Close ∷ [])
      (makes_as (expr_limited (Groups depth) (Some zones ∷ []) a)
      (makes_then (standing n there (here ∷ around)) limit (makes_space (h.join depth (omega (arith, deep)) there (plain.0, plain.1, refl) (here ∷ around)))))
      (close m there here around)

  pub span_reads : (n : ℕ) (zones : List ℕ) (a : Node) (m : ℕ) → AreRightZones schema zones → Reads schema n a m → Reads schema n (nodes.ZoneSpan zones a) m
  span_reads n zones a m right h =
      let p : Part = part Single (Open ∷ WrittenToken.Spans zones ∷ Space ∷ (whole schema.fields (part_of schema.fields a) ++ Close ∷ [])) in
      subst (λ (x : Part). ReadsPart schema n (nodes.ZoneSpan zones a) x m) (sym (part_span schema.fields zones a))
      (reads_single (nodes.ZoneSpan zones a) p (suc h.least) refl refl (span_joins n zones a m right h))
