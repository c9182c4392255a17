-- The marks of a text with which nothing is wrong carry their keywords one after the other.
use Rattle.std.proofs.Common.{arith, ◌≡◌, ◌≢◌, ◌≤◌, ◌+◌, ◌*◌, ℕ, Bool, true, false, List, [], ◌∷◌, ◌++◌, refl, sym, ◌∙◌, subst, length, chars}
use Rattle.std.specs.Prelude.{Option, Some, None, All, if◌then◌else◌, ◌==◌, nat_lt}
use Rattle.std.specs.Option.{option_map}
use Rattle.std.proofs.lemmas.List.Elements.{All-nil, All-head}
use Rattle.doc_types.specs.declared.schema.Schema.{Schema}
use Rattle.query_pieces.specs.declared.piece.Form.{Form}
use Rattle.query_pieces.specs.declared.piece.Form.TheVariants as forms
use Rattle.query_pieces.specs.declared.piece.Names.{Names}
use Rattle.query_pieces.specs.declared.piece.Names.TheVariants as names
use Rattle.query_pieces.specs.declared.piece.Slice.{Slice}
use Rattle.query_pieces.specs.declared.piece.FieldLimit.{FieldLimit}
use Rattle.query_pieces.specs.declared.piece.ZoneLimit.{ZoneLimit}
use Rattle.query_pieces.specs.declared.piece.Piece.{Piece}
use Rattle.query_marks.specs.declared.fault.QueryKind.{QueryKind}
use Rattle.query_marks.specs.declared.fault.QueryKind.TheVariants as kinds
use Rattle.query_marks.specs.declared.fault.Wrong.{Wrong}
use Rattle.query_tree.specs.declared.key.Limit.{Limit}
use Rattle.query_marks.specs.declared.limits.Limits.{Limits}
use Rattle.query_marks.specs.declared.mark.Mark.{Mark}
use Rattle.query_marks.specs.declared.mark.Sign.{Sign}
use Rattle.query_marks.specs.declared.mark.Sign.TheVariants as signs
use Rattle.query_marks.specs.QueryWords.{words_in, letters_in}
use Rattle.query_marks.specs.LimitNames.{bytes_of, first_unknown, has_long, numbers_of, number_of}
use Rattle.query_marks.specs.Hows.{how_of}
use Rattle.query_marks.specs.Limits.{mask, keeps, field_limits, zone_limits}
use Rattle.query_marks.specs.Marks.{Setting, setting_of, nameless, limit_of, sign_of, wrong_of, wrong_near, wrong_span, wrong_positions, unknown_or, wrong_fields, wrong_zones, zone_sign, mark_at, last_of, but_last, after, before_marks, marks_from, marks_of, at_start}
use Rattle.query_write.specs.Written.{all_fields}
use Rattle.query_grammar.specs.DeepValues.{GivesChars}
use Rattle.query_write.specs.steps.Signs.{IsPlainWord}
use Rattle.query_write.specs.steps.TokenRun.{AreRightZones}
use Rattle.query_write.specs.steps.Writable.{IsRightLimit}
use Rattle.query_write.specs.steps.Carried.{every, Carries}
use Rattle.query_write.proofs.ReadWords.{words_plain}
use Rattle.query_write.proofs.ReadNumbers.{number_in_range, right_how, right_positions}
use Rattle.query_write.proofs.CarriedKeys.{IsStepOf, IsClean, word_step, quoted_step}

abbrev pub Each : {X : Type 0} → (X → Type 0) → List X → Type 0
Each P [] = Unit {0}
Each P (x ∷ xs) = P x × Each P xs

each_last : {X : Type 0} (P : X → Type 0) (xs : List X) (x : X) → Each P xs → P x → Each P (xs ++ x ∷ [])
each_last P [] x h last = (last, tt)
each_last P (y ∷ xs) x (first, rest) last = (first, each_last P xs x rest last)

-- What is known of a piece besides its form: a word is one, and the zones of a limit can be written.
abbrev pub IsRightPiece : (ℕ → Option ℕ) → Schema → List ℕ → Form → Type 0
IsRightPiece fold schema text (forms.Word w) =
    (word : List ℕ) × (words_in fold (bytes_of text w.letters) ≡ word ∷ [])
    × (w.prefix ≡ true → (nat_lt 0 schema.min_prefix ≡ true) × (w.end ≡ false))
    × (GivesChars fold → schema.min_prefix ≤ length (letters_in fold (chars (bytes_of text w.letters))) → schema.min_prefix ≤ length (chars word))
IsRightPiece fold schema text (forms.Zones limit) = schema.zones ≢ [] → wrong_zones schema.zones (bytes_of text limit.names) ≡ None → AreRightZones schema (numbers_of schema.zones (bytes_of text limit.names))
IsRightPiece fold schema text _ = Unit {0}

-- ---- limits
mask_all : (test : List ℕ → Bool) (fields : List (List ℕ)) → mask test fields ≤ all_fields fields
mask_all test [] = omega arith
mask_all test (field ∷ fields) = by (test field) (mask_all test fields)
  where
    by : (b : Bool) → mask test fields ≤ all_fields fields → (if b then 1 else 0) + 2 * mask test fields ≤ 1 + 2 * all_fields fields
    by true rest = omega (arith, rest)
    by false rest = omega (arith, rest)

none_unknown : (kind : QueryKind) (found : Option (List ℕ)) (other : Option Wrong) → unknown_or kind found other ≡ None → other ≡ None
none_unknown kind None other e = e
none_unknown kind (Some name) other e = cc

listed_right : (b : Bool) (other : Option Wrong) → (if b then nameless kinds.NameTooLong else other) ≡ None → other ≡ None
listed_right true other e = cc
listed_right false other e = e

fields_positions : (fields : List (List ℕ)) (relaxed : Bool) (text : List ℕ) (list : Names) (at : Option Slice) → wrong_fields fields relaxed text list at ≡ None → wrong_positions text at ≡ None
fields_positions fields relaxed text names.All at e = e
fields_positions fields relaxed text (names.Listed s) at e =
    listed_right (has_long (bytes_of text s)) (wrong_positions text at) (none_unknown kinds.UnknownField (if relaxed then None else first_unknown fields (bytes_of text s)) (if has_long (bytes_of text s) then nameless kinds.NameTooLong else wrong_positions text at) e)

module _ (fold : ℕ → Option ℕ) (gives : GivesChars fold) (schema : Schema) (text : List ℕ) where
  abbrev setting : Setting
  setting = setting_of fold schema

  -- the limit of a keyword
  abbrev limit : Limits → Limit
  limit here = limit_of schema.zones text here

  abbrev IsRightHere : Limits → Type 0
  IsRightHere here = IsRightLimit schema (limit here)

  record Fits (keywords : ℕ) (here : Limits) (around : List Limits) : Type 0 where
    few : keywords ≤ 255
    right : IsRightHere here
    outer : Each IsRightHere around

  -- what a piece leaves
  record Goes (n : ℕ) (here : Limits) (sign : Option Sign) (k : ℕ) (next : Limits) (around : List Limits) : Type 0 where
    step : IsStepOf schema n (limit here) sign k (limit next)
    fits : Fits k next around

  last_right : (here : Limits) (around : List Limits) → IsRightHere here → Each IsRightHere around → IsRightHere (last_of here around)
  last_right here [] right each = right
  last_right here (outer ∷ around) right (first, rest) = last_right outer around first rest

  but_last_right : (around : List Limits) → Each IsRightHere around → Each IsRightHere (but_last around)
  but_last_right [] each = tt
  but_last_right (outer ∷ []) each = tt
  but_last_right (outer ∷ next ∷ around) (first, rest) = (first, but_last_right (next ∷ around) rest)

  -- ---- limits
  fields_right : (relaxed : Bool) (l : FieldLimit) → wrong_fields schema.fields relaxed text l.names l.positions ≡ None → IsRightHere (field_limits schema.fields text l)
  fields_right relaxed l e = record {
    fields = mask_all (keeps text l.negated l.names) schema.fields;
    positions = right_positions text l.positions (fields_positions schema.fields relaxed text l.names l.positions e);
    zones = All-nil _;
  }

  zones_go : (n : ℕ) (here : Limits) (l : ZoneLimit) (zones : List (List ℕ)) → schema.zones ≡ zones → IsRightHere here
      → (schema.zones ≢ [] → wrong_zones schema.zones (bytes_of text l.names) ≡ None → AreRightZones schema (numbers_of schema.zones (bytes_of text l.names)))
      → wrong_zones zones (bytes_of text l.names) ≡ None
      → IsStepOf schema n (limit here) (Some (zone_sign zones text l)) n (limit (zone_limits zones l here)) × IsRightHere (zone_limits zones l here)
  zones_go n here l [] e right named clean = ((refl, right), right)
  zones_go n here l (zone ∷ zones) e right named clean = by l.span
    where
      some : schema.zones ≢ []
      some none = absurd (clash (sym e ∙ none))
        where
          clash : zone ∷ zones ≡ [] → ⊥
          clash f = cc

      are : AreRightZones schema (numbers_of schema.zones (bytes_of text l.names))
      are = named some (subst (λ list. wrong_zones list (bytes_of text l.names) ≡ None) (sym e) clean)

      unzoned : IsRightLimit schema (record { fields = here.fields; positions = here.positions; zones = [] })
      unzoned = record { fields = right.fields; positions = right.positions; zones = All-nil _ }

      zoned : IsRightLimit schema (record { fields = here.fields; positions = here.positions; zones = numbers_of schema.zones (bytes_of text l.names) })
      zoned = record { fields = right.fields; positions = right.positions; zones = are.1 }

      by : (b : Bool) → IsStepOf schema n (limit here) (Some (if b then signs.Spans (numbers_of (zone ∷ zones) (bytes_of text l.names)) else signs.Limits)) n (limit (record { fields = here.fields; positions = here.positions; zones = if b then None else Some l.names; span = b }))
          × IsRightHere (record { fields = here.fields; positions = here.positions; zones = if b then None else Some l.names; span = b })
      by true = ((refl, unzoned, subst (λ list. AreRightZones schema (numbers_of list (bytes_of text l.names))) e are), unzoned)
      by false = ((refl, zoned), zoned)

  near_right : (state : _) (number : ℕ) → wrong_near state number ≡ None → (number == 0) ≡ false
  near_right state number e = by (number == 0) e
    where
      by : (b : Bool) → (if b then nameless kinds.NumberOutOfRange else wrong_span state) ≡ None → b ≡ false
      by true e = cc
      by false e = refl

  -- ---- pieces
  goes : (state : _) (form : Form) → IsClean (sign_of setting state text form) (wrong_of setting state text form) → Fits state.keywords state.here state.around → IsRightPiece fold schema text form
      → Goes state.keywords state.here (sign_of setting state text form) (after setting state text form).keywords (after setting state text form).here (after setting state text form).around
  goes state (forms.Word w) clean fits (word, e, marks, long) =
      let plain = All-head (IsPlainWord every) word [] (subst (All (IsPlainWord every)) e (words_plain fold gives (bytes_of text w.letters))) in
      let s = word_step schema state.keywords (limit state.here) w.start w.end w.prefix (length (letters_in fold (chars (bytes_of text w.letters)))) (words_in fold (bytes_of text w.letters)) word fits.few e plain marks (long gives) clean in
      record { step = s.0; fits = record { few = s.1; right = fits.right; outer = fits.outer } }
  goes state (forms.Quoted q) clean fits known =
      let s = quoted_step schema state.keywords (limit state.here) (words_in fold (bytes_of text q.inside)) (how_of text q.number) fits.few (words_plain fold gives (bytes_of text q.inside)) (right_how text q.number) clean in
      record { step = s.0; fits = record { few = s.1; right = fits.right; outer = fits.outer } }
  goes state forms.Unclosed clean fits known = record { step = (refl, fits.right); fits = fits }
  goes state forms.Open clean fits known = record { step = (refl, fits.right); fits = record { few = fits.few; right = fits.right; outer = each_last IsRightHere state.around state.here fits.outer fits.right } }
  goes state forms.Close clean fits known =
      let right = last_right state.here state.around fits.right fits.outer in
      record { step = (refl, right); fits = record { few = fits.few; right = right; outer = but_last_right state.around fits.outer } }
  goes state forms.Or clean fits known = record { step = (refl, fits.right); fits = fits }
  goes state forms.Before clean fits known = record { step = (refl, fits.right); fits = fits }
  goes state forms.Not clean fits known = record { step = (refl, fits.right); fits = fits }
  goes state forms.Maybe clean fits known = record { step = (refl, fits.right); fits = fits }
  goes state forms.Sentence clean fits known = record { step = (refl, refl); fits = fits }
  goes state forms.Paragraph clean fits known = record { step = (refl, refl); fits = fits }
  goes state (forms.Near s) clean fits known = record { step = (refl, fits.right, number_in_range (bytes_of text s) (near_right state (number_of (bytes_of text s)) clean)); fits = fits }
  goes state (forms.Fields l) clean fits known =
      let right = fields_right state.relaxed l clean in
      record { step = (refl, right); fits = record { few = fits.few; right = right; outer = fits.outer } }
  goes state (forms.Zones l) clean fits known =
      let s = zones_go state.keywords state.here l schema.zones refl fits.right known clean in
      record { step = s.0; fits = record { few = fits.few; right = s.1; outer = fits.outer } }
  goes state forms.Relaxed clean fits known = record { step = (refl, fits.right); fits = fits }
  goes state forms.Separator clean fits known = record { step = (refl, refl); fits = fits }

  -- ---- marks
  abbrev AreClean : List Mark → Type 0
  AreClean marks = Each (λ (mark : Mark). mark.wrong ≡ None) marks

  clean_first : (place : ℕ) (wrong : Option Wrong) (o : Option Sign) (rest : List Mark) → AreClean (before_marks (option_map (mark_at place wrong) o) rest) → IsClean o wrong × AreClean rest
  clean_first place wrong None rest h = (tt, h)
  clean_first place wrong (Some sign) rest (first, h) = (first, h)

  carry_first : (place : ℕ) (wrong : Option Wrong) (n : ℕ) (here : Limit) (o : Option Sign) (k : ℕ) (mid : Limit) (rest : List Mark) (m : ℕ) (there : Limit) → IsStepOf schema n here o k mid → Carries every schema k mid rest m there
      → Carries every schema n here (before_marks (option_map (mark_at place wrong) o) rest) m there
  carry_first place wrong n here None k mid rest m there (ek, et) c = subst (λ j. Carries every schema j here rest m there) ek (subst (λ t. Carries every schema k t rest m there) et c)
  carry_first place wrong n here (Some sign) k mid rest m there step c = (k, mid, step, c)

  marks_carry : (pieces : List Piece) (state : _) (place : ℕ) → AreClean (marks_from setting text state place pieces) → Fits state.keywords state.here state.around → Each (λ (p : Piece). IsRightPiece fold schema text p.form) pieces
      → (m : ℕ) × (there : Limit) × Carries every schema state.keywords (limit state.here) (marks_from setting text state place pieces) m there
  marks_carry [] state place clean fits known = (state.keywords, limit state.here, (state.keywords, limit state.here, (refl, fits.right), (refl, refl)))
  marks_carry (p ∷ pieces) state place clean fits (first, known) =
      let next = after setting state text p.form in
      let rest = marks_from setting text next p.to pieces in
      let parts = clean_first place (wrong_of setting state text p.form) (sign_of setting state text p.form) rest clean in
      let went = goes state p.form parts.0 fits first in
      let later = marks_carry pieces next p.to parts.1 went.fits known in
      (later.0, later.1, carry_first place (wrong_of setting state text p.form) state.keywords (limit state.here) (sign_of setting state text p.form) next.keywords (limit next.here) rest later.0 later.1 went.step later.2)

  pub carried : (pieces : List Piece) → Each (λ (p : Piece). IsRightPiece fold schema text p.form) pieces → Each (λ (mark : Mark). mark.wrong ≡ None) (marks_of setting text pieces)
      → (m : ℕ) × (there : Limit) × Carries every schema 0 (limit_of schema.zones text (at_start setting).here) (marks_of setting text pieces) m there
  carried pieces known clean = marks_carry pieces (at_start setting) 0 clean (record { few = omega arith; right = start_right; outer = tt }) known
    where
      start_right : IsRightHere (at_start setting).here
      start_right = record { fields = omega arith; positions = (omega arith, omega arith); zones = All-nil _ }
