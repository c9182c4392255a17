-- What is told of a node, by what is told of its parts.
use Rattle.std.proofs.Common.{arith, ◌≡◌, ◌≤◌, ◌<◌, ◌+◌, refl, sym, ap, ◌∙◌, subst, ℕ, zero, suc, Bool, true, false, cond, List, [], ◌∷◌, ◌++◌, length, get_or, take, drop, map, inl, inr}
use Rattle.std.specs.Prelude.{◌&&◌, ◌||◌, if◌then◌else◌}
use Rattle.std.specs.List.{flat_map, list_all}
use Rattle.std.proofs.lemmas.Bool.{and_cases, or_from, true≢false}
use Rattle.std.proofs.lemmas.List.{take_all}
use Rattle.std.proofs.lemmas.List.Elements.{Contains-append_left, Contains-append_right}
use Rattle.std.proofs.lemmas.List.Folds.{list_all-map, list_all_more}
use Rattle.doc_types.specs.declared.documents.DocRow.{DocRow}
use Rattle.query_tree.specs.declared.key.Key.{Key}
use Rattle.query_tree.specs.declared.key.How.{How}
use Rattle.query_tree.specs.declared.query.Item.{Item}
use Rattle.query_tree.specs.declared.query.Node.{Node}
use Rattle.query_tree.specs.declared.query.Node.TheVariants as nodes
use Rattle.query_tree.specs.TreeKeys.{node_keys}
use Rattle.query_tree.proofs.NodeKeys.{keys_word, keys_quoted, keys_and, keys_span}
use Rattle.occ_lists.specs.declared.occ.Occ.{Occ}
use Rattle.occ_lists.specs.declared.term.Term.{Term}
use Rattle.occ_lists.specs.Joined.{before, near, together}
use Rattle.word_rows.specs.Keywords.{sentence_ends, paragraph_ends, Spans}
use Rattle.op_eval.specs.Finding.{Found, is_some, either, perhaps, joined, any_of, nothing, passes, spans_in, node_finds}
use Rattle.op_eval.specs.declared.verdict.Verdict.{Verdict}
use Rattle.op_eval.specs.declared.verdict.Verdict.TheVariants as verdicts
use Rattle.word_rows.specs.Terms.{AreSeenIn, IsSeenIn}
use Rattle.op_eval.specs.steps.Verdicts.{AreApart, Tells, negation, conjunction, doubt, stands_in, quoted_matches, item_passes}
use Rattle.query_tree.proofs.JoinedKeys.{IsJoint, IsOrdered, keys_joint}
use Rattle.op_eval.proofs.Nodes.{part_within, finds_word, finds_quoted, finds_and, finds_or, finds_maybe, finds_before, finds_near, finds_sentence, finds_paragraph, finds_span}
use Rattle.op_eval.proofs.QuotedVerdicts.{guard_matches}
use Rattle.op_eval.proofs.SoundFindings.{sound}
use Rattle.op_eval.proofs.Telling.{tells_as, tells_both, tells_either, tells_doubt, tells_item}
use Rattle.op_eval.proofs.TermParts.{items_keys, joint_parts, and_parts, span_parts, item_parts}

-- ---- keywords that are told apart

module _ (number : List ℕ → ℕ) where
  pub apart_left : (ks ls : List Key) → AreApart number (ks ++ ls) → AreApart number ks
  apart_left ks ls apart = λ a b in_a in_b. apart a b (Contains-append_left ks ls a in_a) (Contains-append_left ks ls b in_b)

  pub apart_right : (ks ls : List Key) → AreApart number (ks ++ ls) → AreApart number ls
  apart_right ks ls apart = λ a b in_a in_b. apart a b (Contains-append_right ks ls a in_a) (Contains-append_right ks ls b in_b)

  pub apart_item : (items : List Item) (at : ℕ) (d : Item) → at < length items → AreApart number (items_keys items) → AreApart number (node_keys (get_or items at d).node)
  apart_item [] at d within apart = absurd (omega arith)
  apart_item (item ∷ items) zero d within apart = apart_left (node_keys item.node) (items_keys items) apart
  apart_item (item ∷ items) (suc at) d within apart = apart_item items at d (omega arith) (apart_right (node_keys item.node) (items_keys items) apart)

-- ---- joins

-- a join of nothing is nothing
pub record IsJoin (join : List Occ → List Occ → List Occ) : Type 0 where
  pub left : (ys : List Occ) → join [] ys ≡ []
  pub right : (xs : List Occ) → join xs [] ≡ []

flat_none : (xs : List Occ) → flat_map (λ (x : Occ). let none : List Occ = [] in none) xs ≡ []
flat_none [] = refl
flat_none (x ∷ xs) = flat_none xs

before_is : IsJoin before
before_is = record { left = λ ys. refl; right = flat_none }

near_is : (n : ℕ) → IsJoin (near n)
near_is n = record { left = λ ys. refl; right = flat_none }

together_is : (ends : List (ℕ × ℕ)) → IsJoin (together ends)
together_is ends = record { left = λ ys. refl; right = flat_none }

pub any_none : {X : Type 0} (find : X → Found) → ((x : X) → (find x).matches ≡ false) → (xs : List X) → (any_of (map find xs)).matches ≡ false
any_none find none [] = refl
any_none find none (x ∷ xs) = or_from (find x).matches (any_of (map find xs)).matches (none x) (any_none find none xs)

pub kept_matches : (t : Bool) (a b : Found) → a.matches ≡ t → (cond t (either a b) nothing).matches ≡ t
kept_matches true a b e = ap (λ m. m || b.matches) e
kept_matches false a b e = refl

perhaps_matches : (a b : Found) → (perhaps a b).matches ≡ a.matches
perhaps_matches a b = kept_matches a.matches a b refl

-- ---- nodes

module _ (row : DocRow) (number : List ℕ → ℕ) where
  -- the node matches
  abbrev pub matches_of : Node → Spans → Bool
  matches_of node spans = (node_finds row number node spans).matches

  -- the node is judged so by these terms
  abbrev pub IsJudged : Bool → Node → List Term → Verdict → Type 0
  IsJudged spanned node terms v = AreApart number (node_keys node) → AreSeenIn row (node_keys node) terms → Tells spanned (matches_of node) v

  join_fails : (join : List Occ → List Occ → List Occ) → IsJoin join → (a b : Node) (spans : Spans) → (matches_of a spans && matches_of b spans) ≡ false
      → (joined join (node_finds row number a spans) (node_finds row number b spans)).matches ≡ false
  join_fails join is a b spans e = elim (and_cases (matches_of a spans) (matches_of b spans) e) [
    | inl none ↦ ap (λ (found : Found). is_some (join found.occurrences (node_finds row number b spans).occurrences)) (sound row number a spans none) ∙ ap is_some (is.left _)
    | inr none ↦ ap (λ (found : Found). is_some (join (node_finds row number a spans).occurrences found.occurrences)) (sound row number b spans none) ∙ ap is_some (is.right _)
  ]

  -- a node that finds what others find, joined
  order_fails : (node a b : Node) (join : List Occ → List Occ → List Occ) (spans : Spans) → IsJoin join
      → node_finds row number node spans ≡ joined join (node_finds row number a spans) (node_finds row number b spans) → (matches_of a spans && matches_of b spans) ≡ false → matches_of node spans ≡ false
  order_fails node a b join spans is finds e = ap (λ (found : Found). found.matches) finds ∙ join_fails join is a b spans e

  pub ordered_fails : (node a b : Node) (spans : Spans) → IsOrdered node a b → (matches_of a spans && matches_of b spans) ≡ false → matches_of node spans ≡ false
  ordered_fails node a b spans (inl is) e = order_fails node a b before spans before_is (ap (λ (n : Node). node_finds row number n spans) is ∙ finds_before row number a b spans) e
  ordered_fails node a b spans (inr (inl (n, is))) e = order_fails node a b (near n) spans (near_is n) (ap (λ (n : Node). node_finds row number n spans) is ∙ finds_near row number n a b spans) e
  ordered_fails node a b spans (inr (inr (inl is))) e =
      order_fails node a b (together (sentence_ends row)) spans (together_is (sentence_ends row)) (ap (λ (n : Node). node_finds row number n spans) is ∙ finds_sentence row number a b spans) e
  ordered_fails node a b spans (inr (inr (inr is))) e =
      order_fails node a b (together (paragraph_ends row)) spans (together_is (paragraph_ends row)) (ap (λ (n : Node). node_finds row number n spans) is ∙ finds_paragraph row number a b spans) e

  module _ (spanned : Bool) (node : Node) where
    -- a node that matches where something else is so
    as_told : (p : Spans → Bool) (v : Verdict) → ((spans : Spans) → matches_of node spans ≡ p spans) → Tells spanned p v → Tells spanned (matches_of node) v
    as_told p v is told = tells_as spanned p (matches_of node) v (λ spans concerns. is spans) told

    pub word_told : (key : Key) (terms : List Term) (v : Verdict) → node ≡ nodes.Word key → (AreSeenIn row (key ∷ []) terms → Tells spanned (λ spans. stands_in row spans key) v) → IsJudged spanned node terms v
    word_told key terms v e told apart seen =
        as_told (λ spans. stands_in row spans key) v (λ spans. ap (λ (n : Node). matches_of n spans) e ∙ ap (λ (found : Found). found.matches) (finds_word row number key spans))
        (told (subst (λ (keys : List Key). AreSeenIn row keys terms) (ap node_keys e ∙ keys_word key) seen))

    pub quoted_told : (keys : List Key) (how : How) (terms : List Term) (v : Verdict) → node ≡ nodes.Quoted keys how
        → (AreApart number keys → AreSeenIn row keys terms → Tells spanned (quoted_matches row number keys how) v) → IsJudged spanned node terms v
    quoted_told keys how terms v e told apart seen =
        let is : node_keys node ≡ keys = ap node_keys e ∙ keys_quoted keys how in
        as_told (quoted_matches row number keys how) v (λ spans. ap (λ (n : Node). matches_of n spans) e ∙ ap (λ (found : Found). found.matches) (finds_quoted row number keys how spans))
        (told (subst (AreApart number) is apart) (subst (λ (keys : List Key). AreSeenIn row keys terms) is seen))

    pub and_told : (items : List Item) (terms : List Term) (v : Verdict) → node ≡ nodes.And items
        → (AreApart number (items_keys items) → AreSeenIn row (items_keys items) terms → Tells spanned (λ spans. list_all (item_passes row number spans) items) v) → IsJudged spanned node terms v
    and_told items terms v e told apart seen =
        as_told (λ spans. list_all (item_passes row number spans) items) v
        (λ spans. ap (λ (n : Node). matches_of n spans) e ∙ ap (λ (found : Found). found.matches) (finds_and row number items spans)
        ∙ guard_matches (list_all passes (map (part_within row number spans) items)) _ refl ∙ list_all-map passes (part_within row number spans) items)
        (told (subst (AreApart number) (ap node_keys e ∙ keys_and items) apart) (and_parts (IsSeenIn row) node items terms e seen))

    or_told : (a b : Node) (v w r : Verdict) → node ≡ nodes.Or a b → Tells spanned (matches_of a) v → Tells spanned (matches_of b) w → r ≡ negation (conjunction (negation v) (negation w)) → Tells spanned (matches_of node) r
    or_told a b v w r e told other is =
        subst (Tells spanned (matches_of node)) (sym is)
        (as_told (λ spans. matches_of a spans || matches_of b spans) _ (λ spans. ap (λ (n : Node). matches_of n spans) e ∙ ap (λ (found : Found). found.matches) (finds_or row number a b spans))
        (tells_either spanned (matches_of a) (matches_of b) v w told other))

    maybe_told : (a b : Node) (v : Verdict) → node ≡ nodes.Maybe a b → Tells spanned (matches_of a) v → Tells spanned (matches_of node) v
    maybe_told a b v e told =
        as_told (matches_of a) v (λ spans. ap (λ (n : Node). matches_of n spans) e ∙ ap (λ (found : Found). found.matches) (finds_maybe row number a b spans)
        ∙ perhaps_matches (node_finds row number a spans) (node_finds row number b spans)) told

    ordered_told : (a b : Node) (v w both r : Verdict) → IsOrdered node a b → Tells spanned (matches_of a) v → Tells spanned (matches_of b) w → both ≡ conjunction v w → r ≡ doubt both → Tells spanned (matches_of node) r
    ordered_told a b v w both r ordered told other is_both is =
        subst (Tells spanned (matches_of node)) (sym (is ∙ ap doubt is_both))
        (tells_doubt spanned (λ spans. matches_of a spans && matches_of b spans) (matches_of node) (conjunction v w) (λ spans concerns. ordered_fails node a b spans ordered)
        (tells_both spanned (matches_of a) (matches_of b) v w told other))

  -- a node that joins two, which are read behind references; the second is counted, and then judged
  module _ (spanned : Bool) (node a b first counted second : Node) (terms left right : List Term) (is_first : first ≡ a) (is_counted : counted ≡ b) (is_second : second ≡ b)
      (whole : terms ≡ left ++ right) (own : length (node_keys counted) ≤ length terms → length right ≡ length (node_keys counted)) where
    joint_apart : IsJoint node a b → AreApart number (node_keys node) → AreApart number (node_keys first ++ node_keys second)
    joint_apart joint apart =
        subst (AreApart number) (keys_joint node a b joint ∙ ap (λ (n : Node). node_keys n ++ node_keys b) (sym is_first) ∙ ap (λ (n : Node). node_keys first ++ node_keys n) (sym is_second)) apart

    joint_seen : IsJoint node a b → AreSeenIn row (node_keys node) terms → AreSeenIn row (node_keys first) left × AreSeenIn row (node_keys second) right
    joint_seen joint seen =
        joint_parts (IsSeenIn row) node a b first second terms left right joint is_first is_second seen whole
        (subst (λ (n : Node). length (node_keys n) ≤ length terms → length right ≡ length (node_keys n)) (is_counted ∙ sym is_second) own)

    -- what is told of the first, and of the second
    first_told : (v : Verdict) → IsJoint node a b → IsJudged spanned first left v → AreApart number (node_keys node) → AreSeenIn row (node_keys node) terms → Tells spanned (matches_of a) v
    first_told v joint judged apart seen =
        subst (λ (n : Node). Tells spanned (matches_of n) v) is_first (judged (apart_left number (node_keys first) (node_keys second) (joint_apart joint apart)) (joint_seen joint seen).0)

    second_told : (v : Verdict) → IsJoint node a b → IsJudged spanned second right v → AreApart number (node_keys node) → AreSeenIn row (node_keys node) terms → Tells spanned (matches_of b) v
    second_told v joint judged apart seen =
        subst (λ (n : Node). Tells spanned (matches_of n) v) is_second (judged (apart_right number (node_keys first) (node_keys second) (joint_apart joint apart)) (joint_seen joint seen).1)

    pub or_judged : (v w r : Verdict) → node ≡ nodes.Or a b → IsJudged spanned first left v → IsJudged spanned second right w → r ≡ negation (conjunction (negation v) (negation w)) → IsJudged spanned node terms r
    or_judged v w r e judged other is apart seen = or_told spanned node a b v w r e (first_told v (inl e) judged apart seen) (second_told w (inl e) other apart seen) is

    pub maybe_judged : (v : Verdict) → node ≡ nodes.Maybe a b → IsJudged spanned first left v → IsJudged spanned node terms v
    maybe_judged v e judged apart seen = maybe_told spanned node a b v e (first_told v (inr (inl e)) judged apart seen)

    pub ordered_judged : (v w both r : Verdict) → IsOrdered node a b → IsJudged spanned first left v → IsJudged spanned second right w → both ≡ conjunction v w → r ≡ doubt both → IsJudged spanned node terms r
    ordered_judged v w both r ordered judged other is_both is apart seen =
        ordered_told spanned node a b v w both r ordered (first_told v (inr (inr ordered)) judged apart seen) (second_told w (inr (inr ordered)) other apart seen) is_both is

  span_fails : (a : Node) (zones : List ℕ) (spans : Spans) → ((spans : Spans) → matches_of a spans ≡ false) → matches_of (nodes.ZoneSpan zones a) spans ≡ false
  span_fails a zones spans none =
      ap (λ (found : Found). found.matches) (finds_span row number zones a spans) ∙ any_none (λ span. node_finds row number a (spans ++ span ∷ [])) (λ span. none (spans ++ span ∷ [])) (spans_in row zones)

  span_doubt : (spanned : Bool) (a : Node) (zones : List ℕ) (v : Verdict) → Tells true (matches_of a) v → Tells spanned (matches_of (nodes.ZoneSpan zones a)) (doubt v)
  span_doubt spanned a zones verdicts.No told = λ spans concerns. span_fails a zones spans (λ any. told any (λ e. absurd (true≢false e)))
  span_doubt spanned a zones verdicts.Open told = tt
  span_doubt spanned a zones verdicts.Yes told = tt

  -- a ZONESPAN, by what is told of its node wherever some spans are in force
  pub span_told : (spanned : Bool) (node : Node) (zones : List ℕ) (a inner : Node) (terms : List Term) (v r : Verdict) → node ≡ nodes.ZoneSpan zones a → inner ≡ a
      → IsJudged true inner terms v → r ≡ doubt v → IsJudged spanned node terms r
  span_told spanned node zones a inner terms v r e is judged made apart seen =
      let told : Tells true (matches_of a) v =
      subst (λ (n : Node). Tells true (matches_of n) v) is
      (judged (subst (AreApart number) (ap node_keys e ∙ keys_span zones a ∙ ap node_keys (sym is)) apart) (span_parts (IsSeenIn row) node zones a inner terms e is seen)) in
      subst (λ (n : Node). Tells spanned (matches_of n) r) (sym e) (subst (Tells spanned (matches_of (nodes.ZoneSpan zones a))) (sym made) (span_doubt spanned a zones v told))

  -- ---- the items of an AND

  -- what is told of the items so far, and the terms of the others
  abbrev pub ToldSo : Bool → List Item → ℕ → List Term → Verdict → Type 0
  ToldSo spanned items at rest all = AreSeenIn row (items_keys (drop at items)) rest × Tells spanned (λ spans. list_all (item_passes row number spans) (take at items)) all

  -- one more item
  pub item_told : (spanned : Bool) (items : List Item) (at : ℕ) (item : Item) (rest own later : List Term) (all told asked r : Verdict) → at < length items → item ≡ get_or items at item
      → AreApart number (items_keys items) → rest ≡ own ++ later → (length (node_keys item.node) ≤ length rest → length own ≡ length (node_keys item.node))
      → IsJudged spanned item.node own told → asked ≡ (if item.negated then negation told else told) → r ≡ conjunction all asked → ToldSo spanned items at rest all → ToldSo spanned items (at + 1) later r
  item_told spanned items at item rest own later all told asked r within is apart whole long judged is_asked made so =
      let parts = item_parts (IsSeenIn row) items at item rest own later within so.0 whole (subst (λ (i : Item). length (node_keys i.node) ≤ length rest → length own ≡ length (node_keys i.node)) is long) in
      let here : Tells spanned (matches_of item.node) told =
      judged (subst (λ (i : Item). AreApart number (node_keys i.node)) (sym is) (apart_item number items at item within apart)) (subst (λ (i : Item). AreSeenIn row (node_keys i.node) own) (sym is) parts.0) in
      let passed : Tells spanned (λ spans. item_passes row number spans item) asked =
      subst (Tells spanned (λ spans. item_passes row number spans item)) (sym is_asked) (tells_item spanned item.negated (matches_of item.node) told here) in (
        parts.1,
        subst (Tells spanned (λ spans. list_all (item_passes row number spans) (take (at + 1) items))) (sym made)
            (tells_as spanned (λ spans. list_all (item_passes row number spans) (take at items) && item_passes row number spans item) (λ spans. list_all (item_passes row number spans) (take (at + 1) items)) (conjunction all asked)
            (λ spans concerns. list_all_more (item_passes row number spans) items at item within ∙ ap (λ (i : Item). list_all (item_passes row number spans) (take at items) && item_passes row number spans i) (sym is))
            (tells_both spanned (λ spans. list_all (item_passes row number spans) (take at items)) (λ spans. item_passes row number spans item) all asked so.1 passed)),
      )

  -- the items are all told of
  pub items_told : (spanned : Bool) (items : List Item) (at : ℕ) (rest : List Term) (all : Verdict) → length items ≤ at → ToldSo spanned items at rest all → Tells spanned (λ spans. list_all (item_passes row number spans) items) all
  items_told spanned items at rest all end so = subst (λ (some : List Item). Tells spanned (λ spans. list_all (item_passes row number spans) some) all) (take_all at items end) so.1
