-- What a scan makes of the parts of the grammar: a part is an item that begins at its first mark, or goes on with one.
use Rattle.std.proofs.Common.{◌≡◌, ℕ, Bool, true, false, List, [], ◌∷◌, ◌++◌, Option, Some, None, inl, inr, refl, sym, ◌∙◌, ap, subst, append-nil}
use Rattle.std.specs.Prelude.{not, ◌||◌, ◌&&◌, ◌≢◌}
use Rattle.query_marks.specs.declared.mark.Mark.{Mark}
use Rattle.query_marks.specs.declared.mark.Sign.{Sign}
use Rattle.query_marks.specs.declared.mark.Sign.TheVariants as signs
use Rattle.token_grammar.specs.Values.{◌then◌, AreInRow}
use Rattle.query_tree.specs.declared.query.Node.{Node}
use Rattle.query_tree.specs.declared.query.Item.{Item}
use Rattle.query_read.specs.declared.levels.Row.{Row}
use Rattle.query_read.specs.declared.levels.Level.{Level}
use Rattle.query_read.specs.declared.levels.Scan.{Scan}
use Rattle.query_grammar.specs.Grammar.{Is, IsLeaf, IsJoin, IsChoice, IsAlt, IsItem, has_item}
use Rattle.query_grammar.specs.QueryFaults.{IsAnyLimit}
use Rattle.query_read.specs.steps.Levels.{first_or, with_item, with_one, goes_on, next_level, next_around, step, scanned}
use Rattle.query_read.proofs.ScanSteps.{scanned_append}

-- ---- single marks
-- between items, and where the next mark goes on with one
abbrev pub resting : Level → List Level → Scan
resting level around = record { level = level; around = around; goes = false }

abbrev pub going : Level → List Level → Scan
going level around = record { level = level; around = around; goes = true }

-- after a mark with this sign
abbrev pub stepped : Scan → ℕ → Sign → Scan
stepped scan at sign = record { level = next_level scan at sign; around = next_around scan at sign; goes = goes_on sign }

pub sign_step : (scan : Scan) (m : Mark) (sign : Sign) → m.sign ≡ sign → step scan m ≡ stepped scan m.at sign
sign_step scan m sign is = ap (λ (s : Sign). stepped scan m.at s) is

pub one_scanned : (scan : Scan) (u : List Mark) (m : Mark) (sign : Sign) → u ≡ m ∷ [] → m.sign ≡ sign → scanned scan u ≡ stepped scan m.at sign
one_scanned scan u m sign is sign_is = ap (scanned scan) is ∙ sign_step scan m sign sign_is

-- a limit
abbrev pub limits : Sign → Bool
limits signs.Limits = true
limits (signs.Spans zones) = true
limits _ = false

pub limits_true : (sign : Sign) → IsAnyLimit sign → limits sign ≡ true
limits_true sign (inl is) = ap limits is
limits_true sign (inr (zones, is)) = ap limits is

pub clash : {P : Type 0} (b : Bool) → b ≡ true → b ≡ false → P
clash b yes_it_is not_so = cc

pub no_limit : (sign : Sign) → limits sign ≡ false → IsAnyLimit sign → ⊥
no_limit sign none is = clash (limits sign) (limits_true sign is) none

-- ---- parts
-- one after the other
pub scanned_both : (scan mid last : Scan) (u a b : List Mark) → u ≡ a ++ b → scanned scan a ≡ mid → scanned mid b ≡ last → scanned scan u ≡ last
scanned_both scan mid last u a b is first second = ap (scanned scan) is ∙ scanned_append scan a b ∙ ap (λ (s : Scan). scanned s b) first ∙ second

-- what goes on with an item that has begun
abbrev pub Keeps : List Mark → Type 0
Keeps u = (level : Level) (around : List Level) → scanned (resting level around) u ≡ resting level around

-- what begins an item or goes on with one
pub record IsPart (u : List Mark) : Type 0 where
  pub first : Mark
  pub rest : List Mark
  pub is : u ≡ first ∷ rest
  pub no_limit : IsAnyLimit first.sign → ⊥
  pub goes : (level : Level) (around : List Level) → scanned (going level around) u ≡ resting level around
  pub begins : (level : Level) (around : List Level) → scanned (resting level around) u ≡ resting (with_one first.at false level) around

-- what is an item
pub record IsBegun (negated : Bool) (u : List Mark) : Type 0 where
  pub first : Mark
  pub rest : List Mark
  pub is : u ≡ first ∷ rest
  pub no_limit : IsAnyLimit first.sign → ⊥
  pub begins : (level : Level) (around : List Level) → scanned (resting level around) u ≡ resting (with_one first.at negated level) around

pub sign_no_limit : (m : Mark) (sign : Sign) → m.sign ≡ sign → limits sign ≡ false → IsAnyLimit m.sign → ⊥
sign_no_limit m sign is none = no_limit m.sign (ap limits is ∙ none)

one_part : (u : List Mark) (m : Mark) (sign : Sign) → u ≡ m ∷ [] → m.sign ≡ sign → limits sign ≡ false → ((level : Level) (around : List Level) → stepped (going level around) m.at sign ≡ resting level around) → ((level : Level) (around : List Level) → stepped (resting level around) m.at sign ≡ resting (with_one m.at false level) around) → IsPart u
one_part u m sign is sign_is none goes begins = record {
  first = m;
  rest = [];
  is = is;
  no_limit = sign_no_limit m sign sign_is none;
  goes = λ level around. one_scanned (going level around) u m sign is sign_is ∙ goes level around;
  begins = λ level around. one_scanned (resting level around) u m sign is sign_is ∙ begins level around;
}

part_then : (u a b : List Mark) → u ≡ a ++ b → IsPart a → Keeps b → IsPart u
part_then u a b is part keeps = record {
  first = part.first;
  rest = part.rest ++ b;
  is = is ∙ ap (λ (l : List Mark). l ++ b) part.is;
  no_limit = part.no_limit;
  goes = λ level around. scanned_both (going level around) (resting level around) (resting level around) u a b is (part.goes level around) (keeps level around);
  begins = λ level around. scanned_both (resting level around) (resting (with_one part.first.at false level) around) (resting (with_one part.first.at false level) around) u a b is (part.begins level around) (keeps (with_one part.first.at false level) around);
}

row_keeps : {X : Type 0} (P : X → List Mark → Type 0) → ((x : X) (u : List Mark) → P x u → Keeps u) → (xs : List X) (u : List Mark) → AreInRow P xs u → Keeps u
row_keeps P each [] u is level around = ap (scanned (resting level around)) is
row_keeps P each (x ∷ xs) u (a, b, is, first, later) level around =
    scanned_both (resting level around) (resting level around) (resting level around) u a b is (each x a first level around) (row_keeps P each xs b later level around)

-- an operator, and what it goes on with
operator_keeps : (sign : Sign) (P : List Mark → Type 0) → ((level : Level) (around : List Level) (at : ℕ) → stepped (resting level around) at sign ≡ going level around) → ((v : List Mark) → P v → IsPart v) → (u : List Mark) → (Is sign then P) u → Keeps u
operator_keeps sign P goes part u (a, b, is, (m, is', sign_is), p) level around =
    scanned_both (resting level around) (going level around) (resting level around) u a b is (one_scanned (resting level around) a m sign is' sign_is ∙ goes level around m.at) ((part b p).goes level around)

leaf_part : (node : Node) (u : List Mark) → IsLeaf node u → IsPart u
leaf_part node u (inl (key, node_is, (m, is, sign))) = one_part u m (signs.Bare key) is sign refl (λ level around. refl) (λ level around. refl)
leaf_part node u (inr (keys, node_is, (m, is, sign))) = one_part u m (signs.Phrase keys) is sign refl (λ level around. refl) (λ level around. refl)

joined_part : (sign : Sign) → ((level : Level) (around : List Level) (at : ℕ) → stepped (resting level around) at sign ≡ going level around) → (nodes : List Node) (first : Node) (u : List Mark) → (IsLeaf first then AreInRow (λ leaf. Is sign then IsLeaf leaf) nodes) u → IsPart u
joined_part sign goes nodes first u (a, b, is, leaf, row) =
    part_then u a b is (leaf_part first a leaf) (row_keeps (λ leaf. Is sign then IsLeaf leaf) (λ node v p. operator_keeps sign (IsLeaf node) goes (leaf_part node) v p) nodes b row)

-- ---- items side by side
one_negated : (n : Bool) → n ≡ not (not n || false)
one_negated true = refl
one_negated false = refl

all_negated : (n h : Bool) → (n && not h) ≡ not (not n || h)
all_negated true true = refl
all_negated true false = refl
all_negated false h = refl

first_twice : (o : Option ℕ) (p q : ℕ) → first_or (first_or o p) q ≡ first_or o p
first_twice (Some first) p q = refl
first_twice None p q = refl

wanted_twice : (w n n' : Bool) → ((w || not n) || not n') ≡ (w || not (n && n'))
wanted_twice true n n' = refl
wanted_twice false true n' = refl
wanted_twice false false n' = refl

row : Option ℕ → Bool → Row
row first wanted = record { first = first; wanted = wanted }

with_twice : (p q : ℕ) (n n' : Bool) (r : Row) → with_item q n' (with_item p n r) ≡ with_item p (n && n') r
unfolding row
with_twice p q n n' r =
    let both : row (first_or (first_or r.first p) q) ((r.wanted || not n) || not n') ≡ row (first_or r.first p) (r.wanted || not (n && n')) =
    ap (λ (o : Option ℕ). row o ((r.wanted || not n) || not n')) (first_twice r.first p q) ∙ ap (λ (w : Bool). row (first_or r.first p) w) (wanted_twice r.wanted n n') in
    both

level_of : Row → Option Row → Level
level_of and span = record { and = and; span = span }

one_twice : (p q : ℕ) (n n' : Bool) (span : Option Row) (and : Row) → with_one q n' (with_one p n (level_of and span)) ≡ with_one p (n && n') (level_of and span)
unfolding level_of
one_twice p q n n' None and =
    let both : level_of (with_item q n' (with_item p n and)) None ≡ level_of (with_item p (n && n') and) None = ap (λ (r : Row). level_of r None) (with_twice p q n n' and) in
    both
one_twice p q n n' (Some r) and =
    let both : level_of (with_item q false (with_item p false and)) (Some (with_item q n' (with_item p n r))) ≡ level_of (with_item p false and) (Some (with_item p (n && n') r)) =
    ap (λ (x : Row). level_of x (Some (with_item q n' (with_item p n r)))) (with_twice p q false false and) ∙ ap (λ (x : Row). level_of (with_item p false and) (Some x)) (with_twice p q n n' r) in
    both

begun_both : (u a b : List Mark) (n n' : Bool) → u ≡ a ++ b → IsBegun n a → IsBegun n' b → IsBegun (n && n') u
unfolding level_of
begun_both u a b n n' is first second = record {
  first = first.first;
  rest = first.rest ++ b;
  is = is ∙ ap (λ (l : List Mark). l ++ b) first.is;
  no_limit = first.no_limit;
  begins = λ level around.
      scanned_both (resting level around) (resting (with_one first.first.at n level) around) (resting (with_one first.first.at (n && n') level) around) u a b is (first.begins level around)
      (second.begins (with_one first.first.at n level) around ∙ ap (λ (l : Level). resting l around) (one_twice first.first.at second.first.at n n' level.span level.and));
}

-- ---- by the parts of groups
module _ (IsGroup : Node → List Mark → Type 0) (group_part : (node : Node) (u : List Mark) → IsGroup node u → IsPart u) where
  pub join_part : (node : Node) (u : List Mark) → IsJoin IsGroup node u → IsPart u
  join_part node u (inl leaf) = leaf_part node u leaf
  join_part node u (inr (inl (keys, how, node_is, (m, is, sign)))) = one_part u m (signs.Loose keys how) is sign refl (λ level around. refl) (λ level around. refl)
  join_part node u (inr (inr (inl (first, rest, some, node_is, p)))) = joined_part signs.Sentence (λ level around at. refl) rest first u p
  join_part node u (inr (inr (inr (inl (first, rest, some, node_is, p))))) = joined_part signs.Paragraph (λ level around at. refl) rest first u p
  join_part node u (inr (inr (inr (inr group)))) = group_part node u group

  choice_keeps : (choice : Bool × Node) (u : List Mark) → IsChoice IsGroup choice u → Keeps u
  choice_keeps (true, node) u p = operator_keeps signs.Or (IsJoin IsGroup node) (λ level around at. refl) (join_part node) u p
  choice_keeps (false, node) u p = operator_keeps signs.Maybe (IsJoin IsGroup node) (λ level around at. refl) (join_part node) u p

  alt_part : (node : Node) (u : List Mark) → IsAlt IsGroup node u → IsPart u
  alt_part node u (first, rest, node_is, (a, b, is, join, row)) = part_then u a b is (join_part first a join) (row_keeps (IsChoice IsGroup) choice_keeps rest b row)

  pub item_begun : (item : Item) (u : List Mark) → IsItem IsGroup item u → IsBegun item.negated u
  item_begun item u (inl (negated, (a, b, is, (m, is', sign), join))) =
      let part : IsPart b = join_part item.node b join in
      subst (λ (n : Bool). IsBegun n u) (sym negated) (record {
        first = m;
        rest = b;
        is = is ∙ ap (λ (l : List Mark). l ++ b) is';
        no_limit = sign_no_limit m signs.Not sign refl;
        begins = λ level around.
            scanned_both (resting level around) (going (with_one m.at true level) around) (resting (with_one m.at true level) around) u a b is (one_scanned (resting level around) a m signs.Not is' sign) (part.goes (with_one m.at true level) around);
      })
  item_begun item u (inr (kept, alt)) =
      let part : IsPart u = alt_part item.node u alt in
      subst (λ (n : Bool). IsBegun n u) (sym kept) (record { first = part.first; rest = part.rest; is = part.is; no_limit = part.no_limit; begins = part.begins })

  pub items_begun : (items : List Item) (u : List Mark) → items ≢ [] → AreInRow (IsItem IsGroup) items u → IsBegun (not (has_item items)) u
  items_begun [] u some row = absurd (some refl)
  items_begun (item ∷ []) u some (a, b, is, first, none) =
      let one : u ≡ a = is ∙ ap (λ (l : List Mark). a ++ l) none ∙ append-nil a in
      subst (λ (l : List Mark). IsBegun (not (has_item (item ∷ []))) l) (sym one) (subst (λ (n : Bool). IsBegun n a) (one_negated item.negated) (item_begun item a first))
  items_begun (item ∷ other ∷ items) u some (a, b, is, first, later) =
      subst (λ (n : Bool). IsBegun n u) (all_negated item.negated (has_item (other ∷ items))) (begun_both u a b item.negated (not (has_item (other ∷ items))) is (item_begun item a first) (items_begun (other ∷ items) b (λ none. cc) later))
