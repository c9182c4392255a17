-- A query of some depth is one of each depth that its groups keep to: where nowhere more groups are open.
use Rattle.std.proofs.Common.{arith, ◌≡◌, ◌≤◌, ◌+◌, ◌-◌, ℕ, zero, suc, List, [], ◌∷◌, ◌++◌, Bool, true, false, Option, Some, None, inl, inr, refl, ◌∙◌, ap, subst}
use Rattle.std.specs.Prelude.{Contains}
use Rattle.token_grammar.specs.Values.{◌then◌, IsAbsent, IsPerhaps, AreInRow}
use Rattle.query_marks.specs.declared.mark.Mark.{Mark}
use Rattle.query_marks.specs.declared.mark.Sign.{Sign}
use Rattle.query_marks.specs.declared.mark.Sign.TheVariants as signs
use Rattle.query_marks.specs.Enough.{depth_by, depth_after}
use Rattle.query_tree.specs.declared.query.Item.{Item}
use Rattle.query_tree.specs.declared.query.Node.{Node}
use Rattle.query_tree.specs.declared.query.Node.TheVariants as nodes
use Rattle.query_grammar.specs.Grammar.{Is, IsLeaf, IsLoose, AreJoined, IsJoin, IsChoice, IsAlt, IsItem, Section, IsLimit, IsSection, IsAnd, IsOpenAnd, IsOrder, IsAndNode, IsExpr, IsGroup, IsQuery}
use Rattle.query_grammar.specs.Queries.{IsRoot}
use Rattle.query_read.proofs.OpenQueries.{root_of_text}

-- ---- groups that are open

-- from so many open groups on nowhere more than the most are open
abbrev pub Within : ℕ → ℕ → List Mark → Type 0
Within most opens [] = opens ≤ most
Within most opens (m ∷ marks) = (opens ≤ most) × Within most (depth_by opens m.sign) marks

within_open : (most n : ℕ) (u : List Mark) → Within most n u → n ≤ most
within_open most n [] h = h
within_open most n (m ∷ u) h = h.0

within_cut : (most n : ℕ) (a b : List Mark) → Within most n (a ++ b) → Within most n a × Within most (depth_after n a) b
within_cut most n [] b h = (within_open most n b h, h)
within_cut most n (m ∷ a) b h =
    let rest = within_cut most (depth_by n m.sign) a b h.1 in
    ((h.0, rest.0), rest.1)

-- so it is where each front keeps to it
pub within_fronts : (most n : ℕ) (u : List Mark) → ((front rest : List Mark) → u ≡ front ++ rest → depth_after n front ≤ most) → Within most n u
within_fronts most n [] h = h [] [] refl
within_fronts most n (m ∷ u) h = (h [] (m ∷ u) refl, within_fronts most (depth_by n m.sign) u (λ front rest e. h (m ∷ front) rest (ap (λ x. m ∷ x) e)))

open_after : (n : ℕ) (a b : List Mark) → depth_after n (a ++ b) ≡ depth_after (depth_after n a) b
open_after n [] b = refl
open_after n (m ∷ a) b = open_after (depth_by n m.sign) a b

-- ---- parts that leave as many groups open as they found

-- a part of the grammar that stands with so many groups open, as it is where these keep to the most
record Kept (most n : ℕ) (Q : List Mark → Type 0) (u : List Mark) : Type 0 where
  even : (k : ℕ) → depth_after k u ≡ k
  has : Within most n u → Q u

record Keeps (most n : ℕ) (P Q : List Mark → Type 0) : Type 0 where
  at : (u : List Mark) → P u → Kept most n Q u

kept_as : {most n : ℕ} {Q R : List Mark → Type 0} {u : List Mark} → (Q u → R u) → Kept most n Q u → Kept most n R u
kept_as f h = record { even = h.even; has = λ within. f (h.has within) }

module _ {most n : ℕ} where
  keeps_then : {P Q R S : List Mark → Type 0} → Keeps most n P R → Keeps most n Q S → Keeps most n (P then Q) (R then S)
  keeps_then {P} {Q} {R} {S} first second = record { at = at }
    where
      at : (u : List Mark) → (P then Q) u → Kept most n (R then S) u
      at u (a, b, e, p, q) =
          let left : Kept most n R a = first.at a p in
          let right : Kept most n S b = second.at b q in
          record {
            even = λ k. ap (depth_after k) e ∙ open_after k a b ∙ ap (λ x. depth_after x b) (left.even k) ∙ right.even k;
            has = λ within.
                let cut = within_cut most n a b (subst (Within most n) e within) in
                (a, b, e, left.has cut.0, right.has (subst (λ k. Within most k b) (left.even n) cut.1));
          }

  keeps_none : Keeps most n IsAbsent IsAbsent
  keeps_none = record { at = λ u e. record { even = λ k. ap (depth_after k) e; has = λ within. e } }

  keeps_row : {A : Type 0} {P Q : A → List Mark → Type 0} → ((x : A) → Keeps most n (P x) (Q x)) → (xs : List A) → Keeps most n (AreInRow P xs) (AreInRow Q xs)
  keeps_row each [] = keeps_none
  keeps_row each (x ∷ xs) = record { at = (keeps_then (each x) (keeps_row each xs)).at }

  -- a mark that opens and closes nothing
  keeps_sign : (sign : Sign) → ((k : ℕ) → depth_by k sign ≡ k) → Keeps most n (Is sign) (Is sign)
  keeps_sign sign same = record { at = λ u (t, e, is). record { even = λ k. ap (depth_after k) e ∙ ap (depth_by k) is ∙ same k; has = λ within. (t, e, is) } }

  -- ---- parts without groups

  leaf_keeps : (node : Node) → Keeps most n (IsLeaf node) (IsLeaf node)
  leaf_keeps node = record { at = at }
    where
      at : (u : List Mark) → IsLeaf node u → Kept most n (IsLeaf node) u
      at u (inl (key, is, h)) = kept_as (λ x. inl (key, is, x)) ((keeps_sign (signs.Bare key) (λ k. refl)).at u h)
      at u (inr (keys, is, h)) = kept_as (λ x. inr (keys, is, x)) ((keeps_sign (signs.Phrase keys) (λ k. refl)).at u h)

  loose_keeps : (node : Node) → Keeps most n (IsLoose node) (IsLoose node)
  loose_keeps node = record { at = λ u (keys, how, is, h). kept_as (λ x. (keys, how, is, x)) ((keeps_sign (signs.Loose keys how) (λ k. refl)).at u h) }

  joined_keeps : (sign : Sign) (join : Node → Node → Node) → ((k : ℕ) → depth_by k sign ≡ k) → (node : Node) → Keeps most n (AreJoined sign join node) (AreJoined sign join node)
  joined_keeps sign join same node = record {
    at = λ u (first, rest, some, is, h).
        kept_as (λ x. (first, rest, some, is, x)) ((keeps_then (leaf_keeps first) (keeps_row (λ leaf. keeps_then (keeps_sign sign same) (leaf_keeps leaf)) rest)).at u h);
  }

  limit_keeps : (limit : Option (List ℕ)) → Keeps most n (IsLimit limit) (IsLimit limit)
  limit_keeps None = keeps_sign signs.Limits (λ k. refl)
  limit_keeps (Some zones) = keeps_sign (signs.Spans zones) (λ k. refl)

  order_keeps : (order : Option ℕ) → Keeps most n (IsOrder order) (IsOrder order)
  order_keeps None = keeps_sign signs.Before (λ k. refl)
  order_keeps (Some distance) = keeps_sign (signs.Near distance) (λ k. refl)

  -- ---- parts with groups

  module _ (G H : Node → List Mark → Type 0) (groups : (node : Node) → Keeps most n (G node) (H node)) where
    join_keeps : (node : Node) → Keeps most n (IsJoin G node) (IsJoin H node)
    join_keeps node = record { at = at }
      where
        at : (u : List Mark) → IsJoin G node u → Kept most n (IsJoin H node) u
        at u (inl h) = kept_as (λ x. inl x) ((leaf_keeps node).at u h)
        at u (inr (inl h)) = kept_as (λ x. inr (inl x)) ((loose_keeps node).at u h)
        at u (inr (inr (inl h))) = kept_as (λ x. inr (inr (inl x))) ((joined_keeps signs.Sentence nodes.Sentence (λ k. refl) node).at u h)
        at u (inr (inr (inr (inl h)))) = kept_as (λ x. inr (inr (inr (inl x)))) ((joined_keeps signs.Paragraph nodes.Paragraph (λ k. refl) node).at u h)
        at u (inr (inr (inr (inr h)))) = kept_as (λ x. inr (inr (inr (inr x)))) ((groups node).at u h)

    choice_keeps : (next : Bool × Node) → Keeps most n (IsChoice G next) (IsChoice H next)
    choice_keeps (true, node) = keeps_then (keeps_sign signs.Or (λ k. refl)) (join_keeps node)
    choice_keeps (false, node) = keeps_then (keeps_sign signs.Maybe (λ k. refl)) (join_keeps node)

    alt_keeps : (node : Node) → Keeps most n (IsAlt G node) (IsAlt H node)
    alt_keeps node = record { at = λ u (first, rest, is, h). kept_as (λ x. (first, rest, is, x)) ((keeps_then (join_keeps first) (keeps_row choice_keeps rest)).at u h) }

    item_keeps : (item : Item) → Keeps most n (IsItem G item) (IsItem H item)
    item_keeps item = record { at = at }
      where
        at : (u : List Mark) → IsItem G item u → Kept most n (IsItem H item) u
        at u (inl (negated, h)) = kept_as (λ x. inl (negated, x)) ((keeps_then (keeps_sign signs.Not (λ k. refl)) (join_keeps item.node)).at u h)
        at u (inr (plain, h)) = kept_as (λ x. inr (plain, x)) ((alt_keeps item.node).at u h)

    section_keeps : (isfirst : Bool) (section : Section) → Keeps most n (IsSection G isfirst section) (IsSection H isfirst section)
    section_keeps isfirst section = record {
      at = λ u (limits, begins, span, some, h).
          kept_as (λ x. (limits, begins, span, some, x)) ((keeps_then (keeps_row limit_keeps limits) (keeps_row item_keeps section.items)).at u h);
    }

    and_keeps : (sections : List Section) → Keeps most n (IsAnd G sections) (IsAnd H sections)
    and_keeps [] = record { at = λ u h. absurd h }
    and_keeps (section ∷ sections) = record { at = (keeps_then (section_keeps true section) (keeps_row (section_keeps false) sections)).at }

    module _ (Passes : List Section → Type 0) where
      node_keeps : (node : Node) → Keeps most n (IsAndNode Passes G node) (IsAndNode Passes H node)
      node_keeps node = record { at = λ u (sections, passes, is, h). kept_as (λ x. (sections, passes, is, x)) ((and_keeps sections).at u h) }

      next_keeps : (next : Option ℕ × Node) → Keeps most n (IsOrder next.0 then IsAndNode Passes G next.1) (IsOrder next.0 then IsAndNode Passes H next.1)
      next_keeps next = keeps_then (order_keeps next.0) (node_keeps next.1)

      expr_keeps : (node : Node) → Keeps most n (IsExpr Passes G node) (IsExpr Passes H node)
      expr_keeps node = record { at = λ u (first, rest, is, h). kept_as (λ x. (first, rest, is, x)) ((keeps_then (node_keeps first) (keeps_row next_keeps rest)).at u h) }

-- ---- groups

module _ (Passes : List Section → Type 0) where
  opened : (k : ℕ) (u : List Mark) → Is signs.Open u → depth_after k u ≡ k + 1
  opened k u (t, e, is) = ap (depth_after k) e ∙ ap (depth_by k) is

  closed : (k : ℕ) (u : List Mark) → Is signs.Close u → depth_after (k + 1) u ≡ k
  closed k u (t, e, is) = ap (depth_after (k + 1)) e ∙ ap (depth_by (k + 1)) is ∙ back
    where
      back : k + 1 - 1 ≡ k
      back = omega arith

  abbrev Groups : ℕ → Type 0
  Groups d = (k most n : ℕ) → most ≤ n + k → (node : Node) → Keeps most n (IsGroup Passes d node) (IsGroup Passes k node)

  deeper : (d : ℕ) → Groups d → Groups (suc d)
  unfolding IsGroup
  deeper d smaller k most n enough node = record { at = at }
    where
      inner : (k' : ℕ) → most ≤ n + 1 + k' → (x : List Mark) → IsExpr Passes (IsGroup Passes d) node x → Kept most (n + 1) (IsExpr Passes (IsGroup Passes k') node) x
      inner k' more x h = (expr_keeps (IsGroup Passes d) (IsGroup Passes k') (smaller k' most (n + 1) more) Passes node).at x h

      whole : (k : ℕ) → most ≤ n + k → (u a x y : List Mark) → u ≡ a ++ (x ++ y) → Is signs.Open a → IsExpr Passes (IsGroup Passes d) node x → Is signs.Close y → depth_after n a ≡ n + 1 → Within most n u → IsGroup Passes k node u
      whole zero enough u a x y e begin h end opens within =
          let cut = within_cut most n a (x ++ y) (subst (Within most n) e within) in
          absurd (omega (arith, enough, within_open most (depth_after n a) (x ++ y) cut.1, opens))
      whole (suc k') enough u a x y e begin h end opens within =
          let cut = within_cut most n a (x ++ y) (subst (Within most n) e within) in
          let here : Within most (n + 1) (x ++ y) = subst (λ j. Within most j (x ++ y)) opens cut.1 in
          (a, x ++ y, e, begin, (x, y, refl, (inner k' (omega (arith, enough)) x h).has (within_cut most (n + 1) x y here).0, end))

      at : (u : List Mark) → IsGroup Passes (suc d) node u → Kept most n (IsGroup Passes k node) u
      at u (a, b, e, begin, (x, y, f, h, end)) =
          let is : u ≡ a ++ (x ++ y) = e ∙ ap (λ z. a ++ z) f in
          record {
            even = λ j. ap (depth_after j) is ∙ open_after j a (x ++ y) ∙ ap (λ z. depth_after z (x ++ y)) (opened j a begin) ∙ open_after (j + 1) x y
                ∙ ap (λ z. depth_after z y) ((inner most (omega arith) x h).even (j + 1)) ∙ closed j y end;
            has = λ within. whole k enough u a x y is begin h end (opened n a begin) within;
          }

  group_keeps : (d : ℕ) → Groups d
  unfolding IsGroup
  group_keeps zero k most n enough node = record { at = λ u h. absurd h }
  group_keeps (suc d) k most n enough node = deeper d (group_keeps d) k most n enough node

  perhaps_keeps : {most n : ℕ} → Keeps most n (IsPerhaps (Is signs.Relaxed)) (IsPerhaps (Is signs.Relaxed))
  perhaps_keeps {most} {n} = record { at = at }
    where
      at : (u : List Mark) → IsPerhaps (Is signs.Relaxed) u → Kept most n (IsPerhaps (Is signs.Relaxed)) u
      at u (inl h) = kept_as (λ x. inl x) ((keeps_sign signs.Relaxed (λ k. refl)).at u h)
      at u (inr none) = kept_as (λ x. inr x) (keeps_none.at u none)

  pub query_within : (d k : ℕ) (node : Node) (u : List Mark) → Within k 0 u → IsQuery Passes d node u → IsQuery Passes k node u
  query_within d k node u within h =
      let groups : (next : Node) → Keeps k 0 (IsGroup Passes d next) (IsGroup Passes k next) = group_keeps d k k 0 (omega arith) in
      let keeps : Keeps k 0 (IsQuery Passes d node) (IsQuery Passes k node) =
      keeps_then perhaps_keeps (keeps_then (expr_keeps (IsGroup Passes d) (IsGroup Passes k) groups Passes node) (keeps_sign signs.End (λ j. refl))) in
      (keeps.at u h).has within

-- A query with which nothing is wrong is a root where nowhere more than 32 groups are open.
pub root_within : (d : ℕ) (node : Node) (u : List Mark) → IsQuery IsOpenAnd d node u → ((m : Mark) → Contains u m → m.wrong ≡ None) → ((front rest : List Mark) → u ≡ front ++ rest → depth_after 0 front ≤ 32) → IsRoot (Some node) u
root_within d node u query clean few = root_of_text node u (query_within IsOpenAnd d 32 node u (within_fronts 32 0 u few) query, clean)
