-- Each place that a scan refuses over the marks of a query is one where an AND or a ZONESPAN ends with negated items alone.
use Rattle.std.proofs.Common.{◌≡◌, ℕ, Bool, true, false, List, [], ◌∷◌, ◌++◌, Some, None, ◌⊎◌, inl, inr, refl, sym, ◌∙◌, ap, subst, append_assoc, append-nil}
use Rattle.query_marks.specs.declared.mark.Mark.{Mark}
use Rattle.query_marks.specs.declared.mark.Sign.{Sign}
use Rattle.query_marks.specs.declared.mark.Sign.TheVariants as signs
use Rattle.token_grammar.specs.Values.{◌then◌, AreInRow}
use Rattle.query_tree.specs.declared.query.Node.{Node}
use Rattle.query_tree.specs.declared.query.Item.{Item}
use Rattle.query_read.specs.declared.levels.Level.{Level}
use Rattle.query_grammar.specs.Grammar.{Is, IsLeaf, IsJoin, IsChoice, IsItem, Section, IsSection, all_items, IsAnd, has_item, IsGroup}
use Rattle.query_grammar.specs.QueryFaults.{Any, BeginsAnd, EndsAnd, IsAnyLimit, LastIs, FirstItem}
use Rattle.query_read.specs.steps.Levels.{scanned, at_start, refused_by, refused_at, Refuses}
use Rattle.query_read.proofs.ScanSteps.{none_some, scanned_append}

-- ---- what may end before a mark
-- a section of an AND that passes
pub record Among (Passes : List Section → Type 0) (section : Section) : Type 0 where
  pub sections : List Section
  pub passes : Passes sections
  pub before : List Section
  pub after : List Section
  pub is : sections ≡ before ++ section ∷ after

-- an AND that ends here would have negated items alone
pub record AndAt (Passes : List Section → Type 0) (v : List Mark) (place : ℕ) : Type 0 where
  pub a : List Mark
  pub b : List Mark
  pub is : v ≡ a ++ b
  pub begins : LastIs BeginsAnd a
  pub sections : List Section
  pub passes : Passes sections
  pub and : IsAnd (IsGroup Any 32) sections b
  pub none : has_item (all_items sections) ≡ false
  pub at : FirstItem b place

-- a ZONESPAN that ends here would stand over negated items alone
pub record SpanAt (Passes : List Section → Type 0) (v : List Mark) (place : ℕ) : Type 0 where
  pub a : List Mark
  pub zones : List ℕ
  pub limit : Mark
  pub b : List Mark
  pub is : v ≡ a ++ limit ∷ b
  pub spanning : limit.sign ≡ signs.Spans zones
  pub section : Section
  pub among : Among Passes section
  pub under : section.span ≡ Some zones
  pub stands : IsSection (IsGroup Any 32) true (record { span = None; items = section.items }) b
  pub begun : (m : Mark) (rest : List Mark) → b ≡ m ∷ rest → IsAnyLimit m.sign → ⊥
  pub none : has_item section.items ≡ false
  pub at : FirstItem b place

-- the mark ends the one or the other
abbrev pub Ends : (Passes : List Section → Type 0) → List Mark → Mark → ℕ → Type 0
Ends Passes v m place = (EndsAnd m.sign × AndAt Passes v place) ⊎ ((EndsAnd m.sign ⊎ IsAnyLimit m.sign) × SpanAt Passes v place)

-- what is refused before the mark ends there
unfoldable pub Fine : (Passes : List Section → Type 0) → List Mark → Mark → Type 0
Fine Passes v m = (place : ℕ) → refused_at (scanned at_start v) m ≡ Some place → Ends Passes v m place

-- so it is at each of some marks, after those before
pub Sound : (Passes : List Section → Type 0) → List Mark → List Mark → Type 0
Sound Passes v [] = Unit {0}
Sound Passes v (m ∷ u) = Fine Passes v m × Sound Passes (v ++ m ∷ []) u

-- so it is after whatever marks
abbrev pub Always : (Passes : List Section → Type 0) → List Mark → Type 0
Always Passes u = (v : List Mark) → Sound Passes v u

-- where a place is refused
pub record Found (Passes : List Section → Type 0) (v u : List Mark) (place : ℕ) : Type 0 where
  pub x : List Mark
  pub m : Mark
  pub y : List Mark
  pub is : u ≡ x ++ m ∷ y
  pub ends : Ends Passes (v ++ x) m place

module _ (Passes : List Section → Type 0) where
  pub sound_append : (v a b : List Mark) → Sound Passes v a → Sound Passes (v ++ a) b → Sound Passes v (a ++ b)
  unfolding Sound
  sound_append v [] b first second = subst (λ (w : List Mark). Sound Passes w b) (append-nil v) second
  sound_append v (m ∷ a) b (here, later) second = (here, sound_append (v ++ m ∷ []) a b later (subst (λ (w : List Mark). Sound Passes w b) (sym (append_assoc v (m ∷ []) a)) second))

  pub sound_front : (v a b : List Mark) → Sound Passes v (a ++ b) → Sound Passes v a
  unfolding Sound
  sound_front v [] b all = tt
  sound_front v (m ∷ a) b (here, later) = (here, sound_front (v ++ m ∷ []) a b later)

  pub sound_both : (v u a b : List Mark) → u ≡ a ++ b → Sound Passes v a → Sound Passes (v ++ a) b → Sound Passes v u
  sound_both v u a b is first second = subst (Sound Passes v) (sym is) (sound_append v a b first second)

  pub sound_none : (v u : List Mark) → u ≡ [] → Sound Passes v u
  unfolding Sound
  sound_none v u is = let none : Sound Passes v [] = tt in subst (Sound Passes v) (sym is) none

  pub sound_one : (v u : List Mark) (m : Mark) → u ≡ m ∷ [] → Fine Passes v m → Sound Passes v u
  unfolding Sound
  sound_one v u m is fine = let one : Sound Passes v (m ∷ []) = (fine, tt) in subst (Sound Passes v) (sym is) one

  pub found_in : (v u : List Mark) (place : ℕ) → Sound Passes v u → Refuses (scanned at_start v) u place → Found Passes v u place
  unfolding Sound Fine
  found_in v [] place sound refused = absurd refused
  found_in v (m ∷ u) place (here, later) (inl refused) =
      record { x = []; m = m; y = u; is = refl; ends = subst (λ (w : List Mark). Ends Passes w m place) (sym (append-nil v)) (here place refused) }
  found_in v (m ∷ u) place (here, later) (inr refused) =
      let f : Found Passes (v ++ m ∷ []) u place = found_in (v ++ m ∷ []) u place later (subst (λ s. Refuses s u place) (sym (scanned_append at_start v (m ∷ []))) refused) in
      record { x = m ∷ f.x; m = f.m; y = f.y; is = ap (λ (w : List Mark). m ∷ w) f.is; ends = subst (λ (w : List Mark). Ends Passes w f.m place) (append_assoc v (m ∷ []) f.x) f.ends }

  -- ---- what ends nothing
  -- a mark before which nothing is refused
  pub quiet : (v : List Mark) (m : Mark) (sign : Sign) → m.sign ≡ sign → ((level : Level) → refused_by level sign ≡ None) → Fine Passes v m
  unfolding Fine
  quiet v m sign is none place refused =
      none_some place (sym (ap (refused_by (scanned at_start v).level) is ∙ none (scanned at_start v).level) ∙ refused)

  quiet_one : (u : List Mark) (m : Mark) (sign : Sign) → u ≡ m ∷ [] → m.sign ≡ sign → ((level : Level) → refused_by level sign ≡ None) → Always Passes u
  quiet_one u m sign is sign_is none v = sound_one v u m is (quiet v m sign sign_is none)

  always_both : (u a b : List Mark) → u ≡ a ++ b → Always Passes a → Always Passes b → Always Passes u
  always_both u a b is first second v = sound_both v u a b is (first v) (second (v ++ a))

  always_row : {X : Type 0} (P : X → List Mark → Type 0) → ((x : X) (u : List Mark) → P x u → Always Passes u) → (xs : List X) (u : List Mark) → AreInRow P xs u → Always Passes u
  always_row P each [] u is v = sound_none v u is
  always_row P each (x ∷ xs) u (a, b, is, first, later) v = always_both u a b is (each x a first) (always_row P each xs b later) v

  always_operator : (sign : Sign) (P : List Mark → Type 0) → ((level : Level) → refused_by level sign ≡ None) → ((u : List Mark) → P u → Always Passes u) → (u : List Mark) → (Is sign then P) u → Always Passes u
  always_operator sign P none each u (a, b, is, (m, a_is, sign_is), p) = always_both u a b is (quiet_one a m sign a_is sign_is none) (each b p)

  always_leaf : (node : Node) (u : List Mark) → IsLeaf node u → Always Passes u
  always_leaf node u (inl (key, node_is, (m, is, sign))) = quiet_one u m (signs.Bare key) is sign (λ level. refl)
  always_leaf node u (inr (keys, node_is, (m, is, sign))) = quiet_one u m (signs.Phrase keys) is sign (λ level. refl)

  always_joined : (sign : Sign) → ((level : Level) → refused_by level sign ≡ None) → (nodes : List Node) (first : Node) (u : List Mark) → (IsLeaf first then AreInRow (λ leaf. Is sign then IsLeaf leaf) nodes) u → Always Passes u
  always_joined sign none nodes first u (a, b, is, leaf, row) =
      always_both u a b is (always_leaf first a leaf) (always_row (λ leaf. Is sign then IsLeaf leaf) (λ node w p. always_operator sign (IsLeaf node) none (always_leaf node) w p) nodes b row)

module _ (Passes : List Section → Type 0) (Group : Node → List Mark → Type 0) (always_group : (node : Node) (u : List Mark) → Group node u → Always Passes u) where
  always_join : (node : Node) (u : List Mark) → IsJoin Group node u → Always Passes u
  always_join node u (inl leaf) = always_leaf Passes node u leaf
  always_join node u (inr (inl (keys, how, node_is, (m, is, sign)))) = quiet_one Passes u m (signs.Loose keys how) is sign (λ level. refl)
  always_join node u (inr (inr (inl (first, rest, some, node_is, p)))) = always_joined Passes signs.Sentence (λ level. refl) rest first u p
  always_join node u (inr (inr (inr (inl (first, rest, some, node_is, p))))) = always_joined Passes signs.Paragraph (λ level. refl) rest first u p
  always_join node u (inr (inr (inr (inr group)))) = always_group node u group

  always_choice : (choice : Bool × Node) (u : List Mark) → IsChoice Group choice u → Always Passes u
  always_choice (true, node) u p = always_operator Passes signs.Or (IsJoin Group node) (λ level. refl) (always_join node) u p
  always_choice (false, node) u p = always_operator Passes signs.Maybe (IsJoin Group node) (λ level. refl) (always_join node) u p

  always_item : (item : Item) (u : List Mark) → IsItem Group item u → Always Passes u
  always_item item u (inl (negated, p)) = always_operator Passes signs.Not (IsJoin Group item.node) (λ level. refl) (always_join item.node) u p
  always_item item u (inr (kept, (first, rest, node_is, (a, b, is, join, row)))) = always_both Passes u a b is (always_join first a join) (always_row Passes (IsChoice Group) always_choice rest b row)

  pub always_items : (items : List Item) (u : List Mark) → AreInRow (IsItem Group) items u → Always Passes u
  always_items items u row = always_row Passes (IsItem Group) always_item items u row
