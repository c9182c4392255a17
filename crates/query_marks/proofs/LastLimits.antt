-- The limits over a keyword are those of the last limit before it in its group: the limits of a group and of the groups around
-- it are those that the pieces before leave, where groups that have ended are passed over.
use Rattle.std.proofs.Common.{◌≡◌, ◌+◌, ◌<◌, ℕ, suc, Bool, true, false, List, [], ◌∷◌, ◌++◌, Option, Some, None, refl, sym, ap, subst, ◌∙◌, append_assoc, length, reverse, arith}
use Rattle.std.specs.Prelude.{◌==◌, nat_le, All, MatchOption, if◌then◌else◌}
use Rattle.std.specs.Option.{option_map}
use Rattle.std.proofs.lemmas.List.{reverse-append}
use Rattle.std.proofs.lemmas.List.Elements.{All-nil, All-cons, All-head}
use Rattle.query_pieces.specs.declared.piece.Form.{Form}
use Rattle.query_pieces.specs.declared.piece.Form.TheVariants as forms
use Rattle.query_pieces.specs.declared.piece.Piece.{Piece}
use Rattle.query_pieces.specs.declared.piece.ZoneLimit.{ZoneLimit}
use Rattle.query_tree.specs.declared.key.Key.{Key}
use Rattle.query_tree.specs.declared.key.Limit.{Limit}
use Rattle.query_tree.specs.declared.key.How.{How}
use Rattle.query_tree.specs.declared.key.How.TheVariants as hows
use Rattle.query_marks.specs.declared.fault.Wrong.{Wrong}
use Rattle.query_marks.specs.declared.limits.Limits.{Limits}
use Rattle.query_marks.specs.declared.mark.Mark.{Mark}
use Rattle.query_marks.specs.declared.mark.Sign.{Sign}
use Rattle.query_marks.specs.declared.mark.Sign.TheVariants as signs
use Rattle.query_marks.specs.declared.state.State.{State}
use Rattle.query_marks.specs.Limits.{zone_limits}
use Rattle.query_marks.specs.Hows.{how_of}
use Rattle.query_marks.specs.LimitNames.{bytes_of, numbers_of}
use Rattle.query_marks.specs.Marks.{Setting, after, as_prefix, at_start, but_last, keys_after, keys_of, last_of, limit_of, loose_sign, mark_at, nobodies, nobody, phrase_sign, quoted_sign, sign_of, slice_words, word_sign, wrong_of, zone_sign}
use Rattle.query_marks.specs.LimitsOver.{CloseGroups, forms_of, keys_of_sign, limits_after, limits_over, IsMarkAfter, IsUnder}
use Rattle.query_marks.proofs.GroupLimits.{but_last_is, last_is}
use Rattle.query_marks.proofs.PieceMarks.{mark_made, place_after, state_after}

-- ---- limits that say the same of a word: ZONESPAN stands over words together, and says nothing of one
record AreAlike (a b : Limits) : Type 0 where
  fields : a.fields ≡ b.fields
  positions : a.positions ≡ b.positions
  zones : a.zones ≡ b.zones

alike : (a : Limits) → AreAlike a a
alike a = record { fields = refl; positions = refl; zones = refl }

one_limit : (zones : List (List ℕ)) (text : List ℕ) (a b : Limits) → AreAlike a b → limit_of zones text a ≡ limit_of zones text b
one_limit zones text a b same = cc (same.fields, same.positions, same.zones)

zones_alike : (zones : List (List ℕ)) (limit : ZoneLimit) (a b : Limits) → AreAlike a b → AreAlike (zone_limits zones limit a) (zone_limits zones limit b)
zones_alike [] limit a b same = same
zones_alike (zone ∷ zones) limit a b same = record { fields = same.fields; positions = same.positions; zones = refl }

-- the limits of the groups around, the innermost first, turned round
abbrev turned : List Limits → List Limits
turned [] = []
turned (outer ∷ around) = turned around ++ outer ∷ []

module _ (setting : Setting) (text : List ℕ) where
  -- ---- the limits of a group and of those around it, the innermost first, after so many groups that have ended
  abbrev Leave : List Form → ℕ → List Limits → Type 0
  Leave before ended [] = Unit {0}
  Leave before ended (here ∷ around) = AreAlike (limits_after setting text before ended) here × Leave before (suc ended) around

  -- a piece that changes nothing
  same_limits : (form : Form) (before : List Form) (ended : ℕ) (limits : List Limits)
      → ((n : ℕ) → limits_after setting text (form ∷ before) n ≡ limits_after setting text before n) → Leave before ended limits → Leave (form ∷ before) ended limits
  same_limits form before ended [] same leave = tt
  same_limits form before ended (here ∷ around) same leave =
      (subst (λ (l : Limits). AreAlike l here) (sym (same ended)) leave.0, same_limits form before (suc ended) around same leave.1)

  under_open : (before : List Form) (ended : ℕ) (limits : List Limits) → Leave before ended limits → Leave (forms.Open ∷ before) (suc ended) limits
  under_open before ended [] leave = tt
  under_open before ended (here ∷ around) leave = (leave.0, under_open before (suc ended) around leave.1)

  under_close : (before : List Form) (ended : ℕ) (limits : List Limits) → Leave before (suc ended) limits → Leave (forms.Close ∷ before) ended limits
  under_close before ended [] leave = tt
  under_close before ended (here ∷ around) leave = (leave.0, under_close before (suc ended) around leave.1)

  under_limit : (form : Form) (before : List Form) (ended : ℕ) (limits : List Limits)
      → ((n : ℕ) → limits_after setting text (form ∷ before) (suc n) ≡ limits_after setting text before (suc n)) → Leave before (suc ended) limits → Leave (form ∷ before) (suc ended) limits
  under_limit form before ended [] same leave = tt
  under_limit form before ended (here ∷ around) same leave =
      (subst (λ (l : Limits). AreAlike l here) (sym (same ended)) leave.0, under_limit form before (suc ended) around same leave.1)

  -- ---- what pieces leave
  record Keeps (before : List Form) (state : State) (outer : List Limits) : Type 0 where
    around : state.around ≡ turned outer
    leave : Leave before 0 (state.here ∷ outer)

  record Goes (form : Form) (before rest : List Form) (state : State) : Type 0 where
    outer : List Limits
    keeps : Keeps (form ∷ before) (after setting state text form) outer
    closes : CloseGroups rest (length outer)

  unchanged : (form : Form) (before rest : List Form) (state : State) (outer : List Limits)
      → ((n : ℕ) → limits_after setting text (form ∷ before) n ≡ limits_after setting text before n)
      → (after setting state text form).here ≡ state.here → (after setting state text form).around ≡ state.around
      → Keeps before state outer → CloseGroups rest (length outer) → Goes form before rest state
  unchanged form before rest state outer same here around keeps closes = record {
    outer = outer;
    keeps = record {
      around = around ∙ keeps.around;
      leave = subst (λ (l : Limits). Leave (form ∷ before) 0 (l ∷ outer)) (sym here) (same_limits form before 0 (state.here ∷ outer) same keeps.leave);
    };
    closes = closes;
  }

  opens : (before rest : List Form) (state : State) (outer : List Limits) → Keeps before state outer → CloseGroups rest (suc (length outer)) → Goes forms.Open before rest state
  opens before rest state outer keeps closes = record {
    outer = state.here ∷ outer;
    keeps = record {
      around = ap (λ (l : List Limits). l ++ state.here ∷ []) keeps.around;
      leave = (
        record { fields = keeps.leave.0.fields; positions = keeps.leave.0.positions; zones = keeps.leave.0.zones },
        under_open before 0 (state.here ∷ outer) keeps.leave,
      );
    };
    closes = closes;
  }

  shuts : (before rest : List Form) (state : State) (outer : List Limits) → Keeps before state outer → CloseGroups (forms.Close ∷ rest) (length outer) → Goes forms.Close before rest state
  shuts before rest state [] keeps closes = absurd closes
  shuts before rest state (group ∷ outer) keeps closes =
      let here : last_of state.here state.around ≡ group = ap (last_of state.here) keeps.around ∙ last_is state.here group (turned outer) in
      record {
        outer = outer;
        keeps = record {
          around = ap but_last keeps.around ∙ but_last_is group (turned outer);
          leave = subst (λ (l : Limits). Leave (forms.Close ∷ before) 0 (l ∷ outer)) (sym here) (under_close before 0 (group ∷ outer) keeps.leave.1);
        };
        closes = closes;
      }

  goes : (form : Form) (before rest : List Form) (state : State) (outer : List Limits) → Keeps before state outer → CloseGroups (form ∷ rest) (length outer) → Goes form before rest state
  goes (forms.Word w) before rest state outer keeps closes = unchanged (forms.Word w) before rest state outer (λ n. refl) refl refl keeps closes
  goes (forms.Quoted q) before rest state outer keeps closes = unchanged (forms.Quoted q) before rest state outer (λ n. refl) refl refl keeps closes
  goes forms.Unclosed before rest state outer keeps closes = unchanged forms.Unclosed before rest state outer (λ n. refl) refl refl keeps closes
  goes forms.Open before rest state outer keeps closes = opens before rest state outer keeps closes
  goes forms.Close before rest state outer keeps closes = shuts before rest state outer keeps closes
  goes forms.Or before rest state outer keeps closes = unchanged forms.Or before rest state outer (λ n. refl) refl refl keeps closes
  goes forms.Before before rest state outer keeps closes = unchanged forms.Before before rest state outer (λ n. refl) refl refl keeps closes
  goes forms.Not before rest state outer keeps closes = unchanged forms.Not before rest state outer (λ n. refl) refl refl keeps closes
  goes forms.Maybe before rest state outer keeps closes = unchanged forms.Maybe before rest state outer (λ n. refl) refl refl keeps closes
  goes forms.Sentence before rest state outer keeps closes = unchanged forms.Sentence before rest state outer (λ n. refl) refl refl keeps closes
  goes forms.Paragraph before rest state outer keeps closes = unchanged forms.Paragraph before rest state outer (λ n. refl) refl refl keeps closes
  goes (forms.Near s) before rest state outer keeps closes = unchanged (forms.Near s) before rest state outer (λ n. refl) refl refl keeps closes
  goes (forms.Fields limit) before rest state outer keeps closes = record {
    outer = outer;
    keeps = record { around = keeps.around; leave = (alike _, under_limit (forms.Fields limit) before 0 outer (λ n. refl) keeps.leave.1) };
    closes = closes;
  }
  goes (forms.Zones limit) before rest state outer keeps closes = record {
    outer = outer;
    keeps = record {
      around = keeps.around;
      leave = (
        zones_alike setting.zones limit (limits_after setting text before 0) state.here keeps.leave.0,
        under_limit (forms.Zones limit) before 0 outer (λ n. refl) keeps.leave.1,
      );
    };
    closes = closes;
  }
  goes forms.Relaxed before rest state outer keeps closes = unchanged forms.Relaxed before rest state outer (λ n. refl) refl refl keeps closes
  goes forms.Separator before rest state outer keeps closes = unchanged forms.Separator before rest state outer (λ n. refl) refl refl keeps closes

  turns : (form : Form) (rest before : List Form) → reverse rest ++ form ∷ before ≡ reverse (form ∷ rest) ++ before
  turns form rest before = sym (ap (λ (l : List Form). l ++ before) (reverse-append (form ∷ []) rest) ∙ append_assoc (reverse rest) (form ∷ []) before)

  -- the limits in force after pieces, as the pieces leave them
  in_force : (pieces : List Piece) (before : List Form) (state : State) (outer : List Limits) → Keeps before state outer → CloseGroups (forms_of pieces) (length outer)
      → AreAlike (limits_after setting text (reverse (forms_of pieces) ++ before) 0) (state_after setting text state pieces).here
  in_force [] before state outer keeps closes = keeps.leave.0
  in_force (p ∷ pieces) before state outer keeps closes =
      let next = goes p.form before (forms_of pieces) state outer keeps closes in
      subst (λ (l : List Form). AreAlike (limits_after setting text l 0) (state_after setting text (after setting state text p.form) pieces).here) (turns p.form (forms_of pieces) before)
      (in_force pieces (p.form ∷ before) (after setting state text p.form) next.outer next.keeps next.closes)

  at_first : Keeps [] (at_start setting) []
  at_first = record { around = refl; leave = (alike _, tt) }

  no_more : (xs : List Form) → xs ++ [] ≡ xs
  no_more [] = refl
  no_more (x ∷ xs) = ap (λ l. x ∷ l) (no_more xs)

  pub limits_are : (before : List Piece) → CloseGroups (forms_of before) 0
      → limit_of setting.zones text (state_after setting text (at_start setting) before).here ≡ limit_of setting.zones text (limits_over setting text before)
  limits_are before closes =
      let here = (state_after setting text (at_start setting) before).here in
      let same = subst (λ (l : List Form). AreAlike (limits_after setting text l 0) here) (no_more (reverse (forms_of before))) (in_force before [] (at_start setting) [] at_first closes) in
      sym (one_limit setting.zones text (limits_over setting text before) here same)

-- ---- the keywords of a mark have the limit by which the mark was made
module _ (limit : Limit) where
  abbrev Has : Key → Type 0
  Has key = 0 < key.query → key.limit ≡ limit

  all_after : (n : ℕ) (start end : Bool) (words : List (List ℕ)) → All Has (keys_after n limit start end words)
  all_after n start end [] = All-nil Has
  all_after n start end (word ∷ words) =
      All-cons Has (record { query = n + 1; word = word; limit = limit; start = start; end = end; prefix = false }) (keys_after (n + 1) limit start end words) (λ h. refl) (all_after (n + 1) start end words)

  no_position : Has nobody
  no_position h = absurd (omega (arith, h))

  choice : (b : Bool) (x y : List Key) → All Has x → All Has y → All Has (if b then x else y)
  choice true x y one two = one
  choice false x y one two = two

  all_nobodies : (n : ℕ) → All Has (nobodies n)
  all_nobodies n =
      let one : All Has (nobody ∷ []) = All-cons Has nobody [] no_position (All-nil Has) in
      choice (n == 0) [] (if n == 1 then nobody ∷ [] else nobody ∷ nobody ∷ []) (All-nil Has)
      (choice (n == 1) (nobody ∷ []) (nobody ∷ nobody ∷ []) one (All-cons Has nobody (nobody ∷ []) no_position one))

  all_keys : (n : ℕ) (start end : Bool) (words : List (List ℕ)) → All Has (keys_of n limit start end words)
  all_keys n start end words = choice (nat_le (n + length words) 255) (keys_after n limit start end words) (nobodies (length words)) (all_after n start end words) (all_nobodies (length words))

  -- whatever sign there is has such keywords
  abbrev IsGood : Option Sign → Type 0
  IsGood sign = MatchOption sign (Unit {0}) (λ s. All Has (keys_of_sign s))

  word_good : (prefix : Bool) (keys : List Key) → All Has keys → IsGood (word_sign prefix keys)
  word_good prefix [] all = tt
  word_good prefix (key ∷ keys) all = All-cons Has (as_prefix prefix key) [] (All-head Has key keys all) (All-nil Has)

  phrase_good : (keys : List Key) → All Has keys → IsGood (phrase_sign keys)
  phrase_good [] all = tt
  phrase_good (key ∷ []) all = all
  phrase_good (key ∷ other ∷ keys) all = all

  loose_good : (keys : List Key) (how : How) → All Has keys → IsGood (loose_sign keys how)
  loose_good [] how all = tt
  loose_good (key ∷ keys) how all = all

  quoted_good : (keys : List Key) (how : How) → All Has keys → IsGood (quoted_sign keys how)
  quoted_good keys hows.Phrase all = phrase_good keys all
  quoted_good keys (hows.Within n) all = loose_good keys (hows.Within n) all
  quoted_good keys (hows.AtLeast n) all = loose_good keys (hows.AtLeast n) all
  quoted_good keys (hows.Share digits places) all = loose_good keys (hows.Share digits places) all

  span_good : (span : Bool) (numbers : List ℕ) → All Has (keys_of_sign (if span then signs.Spans numbers else signs.Limits))
  span_good true numbers = All-nil Has
  span_good false numbers = All-nil Has

  zone_good : (zones : List (List ℕ)) (text : List ℕ) (zone : ZoneLimit) → All Has (keys_of_sign (zone_sign zones text zone))
  zone_good [] text zone = All-nil Has
  zone_good (first ∷ zones) text zone = span_good zone.span (numbers_of (first ∷ zones) (bytes_of text zone.names))

sign_good : (setting : Setting) (text : List ℕ) (state : State) (form : Form) → IsGood (limit_of setting.zones text state.here) (sign_of setting state text form)
sign_good setting text state (forms.Word w) =
    let limit = limit_of setting.zones text state.here in
    word_good limit w.prefix (keys_of state.keywords limit w.start w.end (slice_words setting text w.letters)) (all_keys limit state.keywords w.start w.end (slice_words setting text w.letters))
sign_good setting text state (forms.Quoted q) =
    let limit = limit_of setting.zones text state.here in
    quoted_good limit (keys_of state.keywords limit false false (slice_words setting text q.inside)) (how_of text q.number) (all_keys limit state.keywords false false (slice_words setting text q.inside))
sign_good setting text state forms.Unclosed = All-nil (Has (limit_of setting.zones text state.here))
sign_good setting text state forms.Open = All-nil (Has (limit_of setting.zones text state.here))
sign_good setting text state forms.Close = All-nil (Has (limit_of setting.zones text state.here))
sign_good setting text state forms.Or = All-nil (Has (limit_of setting.zones text state.here))
sign_good setting text state forms.Before = All-nil (Has (limit_of setting.zones text state.here))
sign_good setting text state forms.Not = All-nil (Has (limit_of setting.zones text state.here))
sign_good setting text state forms.Maybe = All-nil (Has (limit_of setting.zones text state.here))
sign_good setting text state forms.Sentence = All-nil (Has (limit_of setting.zones text state.here))
sign_good setting text state forms.Paragraph = All-nil (Has (limit_of setting.zones text state.here))
sign_good setting text state (forms.Near s) = All-nil (Has (limit_of setting.zones text state.here))
sign_good setting text state (forms.Fields limit) = All-nil (Has (limit_of setting.zones text state.here))
sign_good setting text state (forms.Zones limit) = zone_good (limit_of setting.zones text state.here) setting.zones text limit
sign_good setting text state forms.Relaxed = All-nil (Has (limit_of setting.zones text state.here))
sign_good setting text state forms.Separator = tt

marked : (limit : Limit) (at : ℕ) (wrong : Option Wrong) (sign : Option Sign) (mark : Mark) → IsGood limit sign → option_map (mark_at at wrong) sign ≡ Some mark → All (Has limit) (keys_of_sign mark.sign)
marked limit at wrong None mark good is = absurd (cc)
marked limit at wrong (Some sign) mark good is =
    let same : mark_at at wrong sign ≡ mark = cc in
    subst (λ (m : Mark). All (Has limit) (keys_of_sign m.sign)) same good

pub under_last_limit : (setting : Setting) (text : List ℕ) (before : List Piece) (p : Piece) (mark : Mark) → CloseGroups (forms_of before) 0 → IsMarkAfter setting text before p mark
    → All (IsUnder setting text (limits_over setting text before)) (keys_of_sign mark.sign)
under_last_limit setting text before p mark closes is =
    let state = state_after setting text (at_start setting) before in
    let keys = marked (limit_of setting.zones text state.here) (place_after setting text 0 before) (wrong_of setting state text p.form) (sign_of setting state text p.form) mark
    (sign_good setting text state p.form) (mark_made setting text before p mark is) in
    subst (λ (l : Limit). All (Has l) (keys_of_sign mark.sign)) (limits_are setting text before closes) keys
