-- What a scan refuses within an AND, and at its end.
use Rattle.std.proofs.Common.{◌≡◌, ℕ, zero, suc, ◌≤◌, min, Bool, true, false, List, [], ◌∷◌, ◌++◌, Option, Some, None, ◌⊎◌, inl, inr, refl, sym, ◌∙◌, ap, subst, append_assoc, append-nil, arith}
use Rattle.std.specs.Prelude.{not, ◌≢◌}
use Rattle.std.proofs.lemmas.Bool.{cases_Bool, cases_lt, cond-true, cond-false}
use Rattle.query_marks.specs.declared.mark.Mark.{Mark}
use Rattle.query_marks.specs.declared.mark.Sign.TheVariants as signs
use Rattle.token_grammar.specs.Values.{◌then◌, AreInRow}
use Rattle.query_tree.specs.declared.query.Node.{Node}
use Rattle.query_read.specs.declared.levels.Row.{Row}
use Rattle.query_read.specs.declared.levels.Level.{Level}
use Rattle.query_grammar.specs.Grammar.{IsItem, Section, IsLimit, last_of, IsSection, IsAnd, has_item, IsOrder, IsAndNode, IsExpr, IsGroup}
use Rattle.query_grammar.specs.QueryFaults.{Any, BeginsAnd, EndsAnd, IsAnyLimit, LastIs, FirstItem}
use Rattle.query_read.specs.steps.Levels.{no_items, no_level, with_item, with_one, limited, scanned, at_start, earlier, refused_row, refused_span, refused_and, refused_by}
use Rattle.query_read.proofs.ScanSteps.{some_same, none_some, scanned_append}
use Rattle.query_read.proofs.PartScans.{resting, IsPart}
use Rattle.query_read.proofs.AndScans.{fresh_span, SectionScan, after_items, section_scanned, section_scan, section_some, section_row, has_limit, AndScan, and_scanned, group_part}
use Rattle.query_grammar.proofs.GroupDepths.{items_to, and_to, group_to}
use Rattle.query_read.proofs.EndedRefused.{fresh, last_step, first_of_items, and_refused, span_refused}
use Rattle.query_grammar.proofs.OpenAnds.{group_any}
use Rattle.query_read.proofs.SoundScans.{Among, SpanAt, Fine, Sound, sound_both, sound_none, sound_one, quiet, Always, always_items}

-- ---- ZONESPANs
-- what is refused of the ZONESPAN after some marks would end there
pub SpanFact : (Passes : List Section → Type 0) → List Mark → Type 0
SpanFact Passes v = (place : ℕ) → refused_span (scanned at_start v).level ≡ Some place → SpanAt Passes v place

module _ (Passes : List Section → Type 0) where
  -- no ZONESPAN is in force, or it stands over nothing yet
  quiet_span : (v : List Mark) (scan : Level) → (scanned at_start v).level ≡ scan → refused_span scan ≡ None → SpanFact Passes v
  unfolding SpanFact
  quiet_span v level is none place refused = none_some place (sym (ap refused_span is ∙ none) ∙ refused)

  limit_fine : (v : List Mark) (m : Mark) → SpanFact Passes v → IsAnyLimit m.sign → Fine Passes v m
  unfolding SpanFact Fine
  limit_fine v m fact limit place refused = inr (inr limit, fact place (sym (span_refused (scanned at_start v).level m.sign limit) ∙ refused))

  -- limits
  limits_sound : (list : List (Option (List ℕ))) (u v : List Mark) → SpanFact Passes v → AreInRow IsLimit list u → Sound Passes v u
  limits_sound [] u v fact is = sound_none Passes v u is
  limits_sound (None ∷ list) u v fact (a, b, is, (m, a_is, sign), later) =
      let none : SpanFact Passes (v ++ a) = subst (λ (w : List Mark). SpanFact Passes (v ++ w)) (sym a_is) (quiet_span (v ++ m ∷ []) (limited None (scanned at_start v).level) (ap (λ s. s.level) (last_step at_start v m signs.Limits sign)) refl) in
      sound_both Passes v u a b is (sound_one Passes v a m a_is (limit_fine v m fact (inl sign))) (limits_sound list b (v ++ a) none later)
  limits_sound (Some zones ∷ list) u v fact (a, b, is, (m, a_is, sign), later) =
      let none : SpanFact Passes (v ++ a) = subst (λ (w : List Mark). SpanFact Passes (v ++ w)) (sym a_is) (quiet_span (v ++ m ∷ []) (limited (Some no_items) (scanned at_start v).level) (ap (λ s. s.level) (last_step at_start v m (signs.Spans zones) sign)) refl) in
      sound_both Passes v u a b is (sound_one Passes v a m a_is (limit_fine v m fact (inr (zones, sign)))) (limits_sound list b (v ++ a) none later)

-- the limit that counts, where it makes a node
record LastLimit (u : List Mark) (zones : List ℕ) : Type 0 where
  pub before : List Mark
  pub limit : Mark
  pub is : u ≡ before ++ limit ∷ []
  pub spanning : limit.sign ≡ signs.Spans zones

last_limit : (list : List (Option (List ℕ))) (u : List Mark) (zones : List ℕ) → AreInRow IsLimit list u → last_of None list ≡ Some zones → LastLimit u zones
last_limit [] u zones is last = cc
last_limit (o ∷ []) u zones (a, b, is, limit, none) last =
    let (m, a_is, sign) = subst (λ (p : Option (List ℕ)). IsLimit p a) last limit in
    record { before = []; limit = m; is = is ∙ ap (λ (w : List Mark). a ++ w) none ∙ append-nil a ∙ a_is; spanning = sign }
last_limit (o ∷ p ∷ list) u zones (a, b, is, limit, later) last =
    let l : LastLimit b zones = last_limit (p ∷ list) b zones later last in
    record { before = a ++ l.before; limit = l.limit; is = is ∙ ap (λ (w : List Mark). a ++ w) l.is ∙ sym (append_assoc a l.before (l.limit ∷ [])); spanning = l.spanning }

-- a row of items that were all negated
new_row : (p place : ℕ) (h : Bool) → refused_row (with_item p (not h) no_items) ≡ Some place → (h ≡ false) × (p ≡ place)
new_row p place true refused = none_some place refused
new_row p place false refused = (refl, some_same p place refused)

cons_same : (m n : Mark) (u v : List Mark) → m ∷ u ≡ n ∷ v → m ≡ n
cons_same m n u v is = cc

earlier_cases : (a b : Option ℕ) (place : ℕ) → earlier a b ≡ Some place → (a ≡ Some place) ⊎ (b ≡ Some place)
earlier_cases None b place is = inr is
earlier_cases (Some a) None place is = inl is
earlier_cases (Some a) (Some b) place is =
    let least : min a b ≡ place = some_same (min a b) place is in
    elim (cases_lt a b) [
      | inl below ↦ (let same : a ≡ place = omega (arith, below, least) in inl (ap (λ (n : ℕ). Some n) same))
      | inr above ↦ (let same : b ≡ place = omega (arith, above, least) in inr (ap (λ (n : ℕ). Some n) same))
    ]

row_is : (row : Row) (place : ℕ) → refused_row row ≡ Some place → (row.wanted ≡ false) × (row.first ≡ Some place)
row_is row place refused = elim (cases_Bool row.wanted) [
  | inl wanted ↦ none_some place (sym (cond-true row.wanted None row.first wanted) ∙ refused)
  | inr unwanted ↦ (unwanted, sym (cond-false row.wanted None row.first unwanted) ∙ refused)
]

joined_lists : (v u a b : List Mark) → u ≡ a ++ b → (v ++ a) ++ b ≡ v ++ u
joined_lists v u a b is = append_assoc v a b ∙ ap (λ (w : List Mark). v ++ w) (sym is)

-- ---- sections
-- the scan is between items
pub record Rests (v : List Mark) : Type 0 where
  pub level : Level
  pub around : List Level
  pub is : scanned at_start v ≡ resting level around

rests_after : (v u : List Mark) (level last : Level) (around : List Level) → scanned at_start v ≡ resting level around → scanned (resting level around) u ≡ resting last around → scanned at_start (v ++ u) ≡ resting last around
rests_after v u level last around before after = scanned_append at_start v u ∙ ap (λ s. scanned s u) before ∙ after

-- what is known after a section
record AfterSection (Passes : List Section → Type 0) (v u : List Mark) : Type 0 where
  pub sound : Sound Passes v u
  pub fact : SpanFact Passes (v ++ u)
  pub rests : Rests (v ++ u)

-- What is known after an AND: what is refused at a mark that ends it ends there.
pub record AfterAnd (Passes : List Section → Type 0) (v u : List Mark) : Type 0 where
  pub sound : Sound Passes v u
  pub ends : (m : Mark) → EndsAnd m.sign → Fine Passes (v ++ u) m

after_both : (Passes : List Section → Type 0) (v u a b : List Mark) → u ≡ a ++ b → Sound Passes v a → AfterAnd Passes (v ++ a) b → AfterAnd Passes v u
after_both Passes v u a b is first second = record {
  sound = sound_both Passes v u a b is first second.sound;
  ends = λ m ends. subst (λ (w : List Mark). Fine Passes w m) (joined_lists v u a b is) (second.ends m ends);
}

-- the mark between two ANDs
pub record IsBetween (u : List Mark) : Type 0 where
  pub mark : Mark
  pub is : u ≡ mark ∷ []
  pub ends : EndsAnd mark.sign
  pub begins : BeginsAnd mark.sign

pub order_between : (o : Option ℕ) (u : List Mark) → IsOrder o u → IsBetween u
order_between None u (m, is, sign) = record { mark = m; is = is; ends = inr (inl sign); begins = inr (inr (inl sign)) }
order_between (Some n) u (m, is, sign) = record { mark = m; is = is; ends = inr (inr (inr (n, sign))); begins = inr (inr (inr (n, sign))) }

module _ (Passes : List Section → Type 0) (Group : Node → List Mark → Type 0) (group_part : (node : Node) (u : List Mark) → Group node u → IsPart u) (always_group : (node : Node) (u : List Mark) → Group node u → Always Passes u) (to_all : (node : Node) (u : List Mark) → Group node u → IsGroup Any 32 node u) where
  -- what ZONESPAN stands over, where all of it is negated
  pub span_at : (section : Section) → Among Passes section → (u v : List Mark) (s : SectionScan section u) (zones : List ℕ) (place : ℕ) → section.items ≢ [] → AreInRow (IsItem Group) section.items s.items → section.span ≡ Some zones → has_item section.items ≡ false → s.begun.first.at ≡ place → SpanAt Passes (v ++ u) place
  span_at section among u v s zones place some row span none at =
      let l : LastLimit s.limiting zones = last_limit s.list s.limiting zones s.limits (sym s.span_is ∙ span) in
      record {
        a = v ++ l.before;
        zones = zones;
        limit = l.limit;
        b = s.items;
        is = ap (λ (w : List Mark). v ++ w) (s.is ∙ ap (λ (w : List Mark). w ++ s.items) l.is ∙ append_assoc l.before (l.limit ∷ []) s.items) ∙ sym (append_assoc v l.before (l.limit ∷ s.items));
        spanning = l.spanning;
        section = section;
        among = among;
        under = span;
        stands = ([], inl refl, refl, some, ([], s.items, refl, refl, items_to Group (IsGroup Any 32) to_all section.items s.items row));
        begun = λ m rest is. let same : s.begun.first ≡ m = cons_same s.begun.first m s.begun.rest rest (sym s.begun.is ∙ is) in subst (λ (k : Mark). IsAnyLimit k.sign → ⊥) same s.begun.no_limit;
        none = none;
        at = subst (λ (p : ℕ). FirstItem s.items p) at (first_of_items s.items s.begun);
      }

  section_fact : (section : Section) → Among Passes section → (u v : List Mark) (s : SectionScan section u) (level : Level) (around : List Level) → section.items ≢ [] → AreInRow (IsItem Group) section.items s.items → scanned at_start (v ++ u) ≡ resting (after_items section s.begun.first.at level) around → SpanFact Passes (v ++ u)
  unfolding SpanFact
  section_fact section among u v s level around some row scan place refused = spanned section.span refl (sym (ap (λ k. refused_span k.level) scan) ∙ refused)
    where
      spanned : (span : Option (List ℕ)) → section.span ≡ span → refused_span (with_one s.begun.first.at (not (has_item section.items)) (limited (fresh_span span) level)) ≡ Some place → SpanAt Passes (v ++ u) place
      spanned None is none = none_some place none
      spanned (Some zones) is new =
          let (negated, at) = new_row s.begun.first.at place (has_item section.items) new in
          span_at section among u v s zones place some row is negated at

  section_sound : (isfirst : Bool) (section : Section) → Among Passes section → (u v : List Mark) (r : Rests v) → SpanFact Passes v → (p : IsSection Group isfirst section u) → (r.level.span ≡ None) ⊎ ((section_scan Group group_part isfirst section u p).list ≢ []) → AfterSection Passes v u
  section_sound isfirst section among u v r fact p clear =
      let s : SectionScan section u = section_scan Group group_part isfirst section u p in
      let row : AreInRow (IsItem Group) section.items s.items = section_row Group group_part isfirst section u p in
      let last : Level = after_items section s.begun.first.at r.level in
      let scan : scanned at_start (v ++ u) ≡ resting last r.around = rests_after v u r.level last r.around r.is (section_scanned s r.level r.around clear) in
      record {
        sound = sound_both Passes v u s.limiting s.items s.is (limits_sound Passes s.list s.limiting v fact s.limits) (always_items Passes Group always_group section.items s.items row (v ++ s.limiting));
        fact = section_fact section among u v s r.level r.around (section_some Group group_part isfirst section u p) row scan;
        rests = record { level = last; around = r.around; is = scan };
      }

  -- further sections of an AND, of which all pass
  sections_sound : (all before sections : List Section) → Passes all → all ≡ before ++ sections → (u v : List Mark) → Rests v → SpanFact Passes v → AreInRow (IsSection Group false) sections u → AfterSection Passes v u
  sections_sound all before [] passes all_is u v r fact is =
      let same : v ≡ v ++ u = sym (ap (λ (w : List Mark). v ++ w) is ∙ append-nil v) in
      record { sound = sound_none Passes v u is; fact = subst (SpanFact Passes) same fact; rests = subst Rests same r }
  sections_sound all before (section ∷ sections) passes all_is u v r fact (a, b, is, here, later) =
      let among : Among Passes section = record { sections = all; passes = passes; before = before; after = sections; is = all_is } in
      let first : AfterSection Passes v a = section_sound false section among a v r fact here (inr (has_limit Group group_part section a here)) in
      let rest : AfterSection Passes (v ++ a) b = sections_sound all (before ++ section ∷ []) sections passes (all_is ∙ sym (append_assoc before (section ∷ []) sections)) b (v ++ a) first.rests first.fact later in
      record { sound = sound_both Passes v u a b is first.sound rest.sound; fact = subst (SpanFact Passes) (joined_lists v u a b is) rest.fact; rests = subst Rests (joined_lists v u a b is) rest.rests }

  -- ---- ANDs
  ender_fine : (sections : List Section) → Passes sections → (u v : List Mark) (around : List Level) → LastIs BeginsAnd v → scanned at_start v ≡ resting no_level around → IsAnd Group sections u → SpanFact Passes (v ++ u) → (m : Mark) → EndsAnd m.sign → Fine Passes (v ++ u) m
  unfolding SpanFact Fine
  ender_fine sections passes u v around begins at and fact m ends place refused =
      let whole : AndScan sections u = and_scanned Group group_part sections u and in
      let (last, scan, row) = whole.scans around in
      let scan' : scanned at_start (v ++ u) ≡ resting last around = rests_after v u no_level last around at scan in
      let here : refused_and last ≡ Some place = sym (and_refused last m.sign ends) ∙ sym (ap (λ s. refused_by s.level m.sign) scan') ∙ refused in
      elim (earlier_cases (refused_row last.and) (refused_span last) place here) [
        | inl by_row ↦ (
            let (unwanted, first) = row_is last.and place by_row in
            inl (
              ends,
              record {
                a = v;
                b = u;
                is = refl;
                begins = begins;
                sections = sections;
                passes = passes;
                and = and_to Group (IsGroup Any 32) to_all sections u and;
                none = sym row.wanted_is ∙ unwanted;
                at = subst (λ (p : ℕ). FirstItem u p) (some_same whole.item.at place (sym row.first_is ∙ first)) whole.first;
              },
            ))
        | inr by_span ↦ inr (inl ends, fact place (ap (λ s. refused_span s.level) scan' ∙ by_span))
      ]

  and_sound : (sections : List Section) → Passes sections → (u v : List Mark) → LastIs BeginsAnd v → IsAnd Group sections u → AfterAnd Passes v u
  and_sound [] passes u v begins never = absurd never
  and_sound (section ∷ sections) passes u v begins (a, b, is, here, later) =
      let (around, at) = fresh v begins in
      let first : AfterSection Passes v a = section_sound true section (record { sections = section ∷ sections; passes = passes; before = []; after = sections; is = refl }) a v (record { level = no_level; around = around; is = at }) (quiet_span Passes v no_level (ap (λ s. s.level) at) refl) here (inl refl) in
      let rest : AfterSection Passes (v ++ a) b = sections_sound (section ∷ sections) (section ∷ []) sections passes refl b (v ++ a) first.rests first.fact later in
      record {
        sound = sound_both Passes v u a b is first.sound rest.sound;
        ends = ender_fine (section ∷ sections) passes u v around begins at (a, b, is, here, later) (subst (SpanFact Passes) (joined_lists v u a b is) rest.fact);
      }

  orders_sound : (rest : List (Option ℕ × Node)) (u v : List Mark) → ((m : Mark) → EndsAnd m.sign → Fine Passes v m) → AreInRow (λ next. IsOrder next.0 then IsAndNode Passes Group next.1) rest u → AfterAnd Passes v u
  orders_sound [] u v ends is =
      let same : v ≡ v ++ u = sym (ap (λ (w : List Mark). v ++ w) is ∙ append-nil v) in
      record { sound = sound_none Passes v u is; ends = λ m end. subst (λ (w : List Mark). Fine Passes w m) same (ends m end) }
  orders_sound (next ∷ rest) u v ends (a, b, is, (o, w, a_is, order, (sections, passes, node_is, and)), later) =
      let between : IsBetween o = order_between next.0 o order in
      let begins : LastIs BeginsAnd (v ++ o) = inr (v, between.mark, ap (λ (k : List Mark). v ++ k) between.is, between.begins) in
      let here : AfterAnd Passes v a = after_both Passes v a o w a_is (sound_one Passes v o between.mark between.is (ends between.mark between.ends)) (and_sound sections passes w (v ++ o) begins and) in
      after_both Passes v u a b is here.sound (orders_sound rest b (v ++ a) here.ends later)

  pub expr_sound : (node : Node) (u v : List Mark) → LastIs BeginsAnd v → IsExpr Passes Group node u → AfterAnd Passes v u
  expr_sound node u v begins (first, rest, node_is, (a, b, is, (sections, passes, node_is', and), later)) =
      let here : AfterAnd Passes v a = and_sound sections passes a v begins and in
      after_both Passes v u a b is here.sound (orders_sound rest b (v ++ a) here.ends later)

-- ---- groups
pub any_part : (Passes : List Section → Type 0) (depth : ℕ) (node : Node) (u : List Mark) → IsGroup Passes depth node u → IsPart u
any_part Passes depth node u group = group_part depth node u (group_any Passes depth node u group)

pub any_to : (Passes : List Section → Type 0) (depth : ℕ) → depth ≤ 32 → (node : Node) (u : List Mark) → IsGroup Passes depth node u → IsGroup Any 32 node u
any_to Passes depth up node u group = group_to depth 32 up node u (group_any Passes depth node u group)

pub group_sound : (Passes : List Section → Type 0) (depth : ℕ) → depth ≤ 32 → (node : Node) (u : List Mark) → IsGroup Passes depth node u → Always Passes u
unfolding IsGroup
group_sound Passes zero up node u never v = absurd never
group_sound Passes (suc depth) up node u (a, bc, is, (m, first, open_sign), (b, c, later, expr, (n, last, close_sign))) v =
    let begins : LastIs BeginsAnd (v ++ a) = inr (v, m, ap (λ (w : List Mark). v ++ w) first, inr (inl open_sign)) in
    let inside : AfterAnd Passes (v ++ a) b = expr_sound Passes (IsGroup Passes depth) (any_part Passes depth) (group_sound Passes depth (omega (arith, up))) (any_to Passes depth (omega (arith, up))) node b (v ++ a) begins expr in
    sound_both Passes v u a bc is (sound_one Passes v a m first (quiet Passes v m signs.Open open_sign (λ level. refl)))
    (sound_both Passes (v ++ a) bc b c later inside.sound (sound_one Passes ((v ++ a) ++ b) c n last (inside.ends n (inl close_sign))))
