-- The marks of a text are in order: the end is the last, they ascend, and nothing is wrong with NOT by itself.
use Rattle.std.proofs.Common.{◌≡◌, ◌≢◌, inl, inr, ℕ, ◌<◌, ◌≤◌, Bool, true, false, List, [], ◌∷◌, ◌++◌, length, refl, sym, ap, ◌∙◌, subst, arith, IsUtf8}
use Rattle.std.specs.Prelude.{Option, Some, None, MatchOption, Contains, if◌then◌else◌, ◌&&◌, not}
use Rattle.std.specs.Option.{option_map}
use Rattle.std.specs.Str.{IsCharBoundary}
use Rattle.std.proofs.lemmas.Str.{IsCharBoundary-start}
use Rattle.std.proofs.lemmas.List.Elements.{Contains-append_left, Contains-append_right, Contains-append_cases}
use Rattle.token_grammar.proofs.Bools.{and_first, and_second, not_true}
use Rattle.query_pieces.specs.declared.piece.Form.{Form}
use Rattle.query_pieces.specs.declared.piece.Form.TheVariants as forms
use Rattle.query_pieces.specs.declared.piece.Piece.{Piece}
use Rattle.query_pieces.specs.Pieces.{Splits, ArePieces, ends_in_letter}
use Rattle.query_pieces.specs.steps.Ends.{Follows}
use Rattle.query_pieces.proofs.EachPiece.{piece_follows}
use Rattle.query_marks.specs.declared.fault.Wrong.{Wrong}
use Rattle.query_tree.specs.declared.key.Key.{Key}
use Rattle.query_tree.specs.declared.key.How.{How}
use Rattle.query_tree.specs.declared.key.How.TheVariants as hows
use Rattle.query_marks.specs.declared.mark.Mark.{Mark}
use Rattle.query_marks.specs.declared.mark.Sign.{Sign}
use Rattle.query_marks.specs.declared.mark.Sign.TheVariants as signs
use Rattle.query_marks.specs.Marks.{Setting, alphabet_in, mark_at, sign_of, wrong_of, after, marks_from, marks_of, at_start, before_marks, as_prefix, word_sign, phrase_sign, loose_sign, quoted_sign, zone_sign}
use Rattle.query_marks.specs.Enough.{IsCutShort, AreEnough}
use Rattle.query_grammar.specs.declared.class.Class.TheVariants as classes
use Rattle.query_grammar.specs.steps.Classes.{class_of, same_class, fits, is_ended}
use Rattle.query_grammar.specs.steps.MarkFacts.{Ascend, AreOrderly}
use Rattle.query_grammar.proofs.MarkPlaces.{none_contained, first_contained, contained_later, contained_cases, ascend_apart}

-- ---- lists
-- a list of one has nothing else
pub only_one : (x y : Mark) → Contains (x ∷ []) y → x ≡ y
only_one x y has = elim (contained_cases x [] y has) [ inl is ↦ is | inr none ↦ absurd (none_contained y none) ]

-- ---- a mark before others
-- a mark is no end, and if it is NOT nothing is wrong with it
record IsInner (place : ℕ) (m : Mark) : Type 0 where
  at : m.at ≡ place
  inner : fits classes.End m ≡ false
  clean : m.sign ≡ signs.Not → m.wrong ≡ None

-- so it is of the sign of a piece
record IsInnerSign (wrong : Option Wrong) (o : Option Sign) : Type 0 where
  is : MatchOption o (Unit {0}) (λ sign. (same_class classes.End (class_of sign) ≡ false) × (sign ≡ signs.Not → wrong ≡ None))

nothing : (wrong : Option Wrong) → IsInnerSign wrong None
nothing wrong = record { is = tt }

inner : (wrong : Option Wrong) (sign : Sign) → same_class classes.End (class_of sign) ≡ false → (sign ≡ signs.Not → wrong ≡ None) → IsInnerSign wrong (Some sign)
inner wrong sign e clean = record { is = (e, clean) }

word_inner : (wrong : Option Wrong) (prefix : Bool) (keys : List Key) → IsInnerSign wrong (word_sign prefix keys)
word_inner wrong prefix [] = nothing wrong
word_inner wrong prefix (key ∷ keys) = inner wrong (signs.Bare (as_prefix prefix key)) refl (λ e. cc)

phrase_inner : (wrong : Option Wrong) (keys : List Key) → IsInnerSign wrong (phrase_sign keys)
phrase_inner wrong [] = nothing wrong
phrase_inner wrong (key ∷ []) = inner wrong (signs.Bare key) refl (λ e. cc)
phrase_inner wrong (key ∷ other ∷ keys) = inner wrong (signs.Phrase (key ∷ other ∷ keys)) refl (λ e. cc)

loose_inner : (wrong : Option Wrong) (keys : List Key) (how : How) → IsInnerSign wrong (loose_sign keys how)
loose_inner wrong [] how = nothing wrong
loose_inner wrong (key ∷ keys) how = inner wrong (signs.Loose (key ∷ keys) how) refl (λ e. cc)

quoted_inner : (wrong : Option Wrong) (keys : List Key) (how : How) → IsInnerSign wrong (quoted_sign keys how)
quoted_inner wrong keys hows.Phrase = phrase_inner wrong keys
quoted_inner wrong keys (hows.Within n) = loose_inner wrong keys (hows.Within n)
quoted_inner wrong keys (hows.AtLeast n) = loose_inner wrong keys (hows.AtLeast n)
quoted_inner wrong keys (hows.Share digits places) = loose_inner wrong keys (hows.Share digits places)

span_inner : (wrong : Option Wrong) (b : Bool) (zones : List ℕ) → IsInnerSign wrong (Some (if b then signs.Spans zones else signs.Limits))
span_inner wrong true zones = inner wrong (signs.Spans zones) refl (λ e. cc)
span_inner wrong false zones = inner wrong signs.Limits refl (λ e. cc)

form_inner : (setting : Setting) (state : _) (text : List ℕ) (form : Form) → IsInnerSign (wrong_of setting state text form) (sign_of setting state text form)
form_inner setting state text (forms.Word w) = word_inner _ _ _
form_inner setting state text (forms.Quoted q) = quoted_inner _ _ _
form_inner setting state text forms.Unclosed = inner _ signs.Unclosed refl (λ e. cc)
form_inner setting state text forms.Open = inner _ signs.Open refl (λ e. cc)
form_inner setting state text forms.Close = inner _ signs.Close refl (λ e. cc)
form_inner setting state text forms.Or = inner _ signs.Or refl (λ e. cc)
form_inner setting state text forms.Before = inner _ signs.Before refl (λ e. cc)
form_inner setting state text forms.Not = inner _ signs.Not refl (λ e. refl)
form_inner setting state text forms.Maybe = inner _ signs.Maybe refl (λ e. cc)
form_inner setting state text forms.Sentence = inner _ signs.Sentence refl (λ e. cc)
form_inner setting state text forms.Paragraph = inner _ signs.Paragraph refl (λ e. cc)
form_inner setting state text (forms.Near s) = inner _ (signs.Near _) refl (λ e. cc)
form_inner setting state text (forms.Fields limit) = inner _ signs.Limits refl (λ e. cc)
form_inner setting state text (forms.Zones limit) = zones (wrong_of setting state text (forms.Zones limit)) setting.zones
  where
    zones : (wrong : Option Wrong) (list : List (List ℕ)) → IsInnerSign wrong (Some (zone_sign list text limit))
    zones wrong [] = inner wrong signs.Limits refl (λ e. cc)
    zones wrong (zone ∷ list) = span_inner wrong limit.span _
form_inner setting state text forms.Relaxed = inner _ signs.Relaxed refl (λ e. cc)
form_inner setting state text forms.Separator = nothing _

-- marks in order, which stand from one place to another
record InPlaces (size place : ℕ) (marks : List Mark) : Type 0 where
  orderly : AreOrderly marks
  from : (m : Mark) → Contains marks m → place ≤ m.at
  upto : (m : Mark) → Contains marks m → m.at ≤ size

-- an inner mark before some that end with the end
ended_before : (m : Mark) (marks : List Mark) → fits classes.End m ≡ false → is_ended marks ≡ true → is_ended (m ∷ marks) ≡ true
ended_before m [] inner ended = absurd (clash ended)
  where
    clash : false ≡ true → ⊥
    clash e = cc
ended_before m (n ∷ marks) inner ended = ap (λ b. not b && is_ended (n ∷ marks)) inner ∙ ended

mark_before : (size place next : ℕ) (m : Mark) (marks : List Mark) → place < size → place < next → IsInner place m → InPlaces size next marks → InPlaces size place (m ∷ marks)
mark_before size place next m marks within ahead inner rest = record {
  orderly = record {
    ended = ended_before m marks inner.inner rest.orderly.ended;
    ascend = (λ n has. omega (arith, inner.at, ahead, rest.from n has), rest.orderly.ascend);
    clean = λ n has is. elim (contained_cases m marks n has) [
      | inl same ↦ sym (ap (λ (x : Mark). x.wrong) same) ∙ inner.clean (ap (λ (x : Mark). x.sign) same ∙ is)
      | inr later ↦ rest.orderly.clean n later is
    ];
  };
  from = λ n has. elim (contained_cases m marks n has) [
    | inl same ↦ omega (arith, inner.at, ap (λ (x : Mark). x.at) same)
    | inr later ↦ omega (arith, ahead, rest.from n later)
  ];
  upto = λ n has. elim (contained_cases m marks n has) [
    | inl same ↦ omega (arith, within, inner.at, ap (λ (x : Mark). x.at) same)
    | inr later ↦ rest.upto n later
  ];
}

none_before : (size place next : ℕ) (marks : List Mark) → place ≤ next → InPlaces size next marks → InPlaces size place marks
none_before size place next marks ahead rest = record { orderly = rest.orderly; from = λ n has. omega (arith, ahead, rest.from n has); upto = rest.upto }

end_no_not : signs.End ≡ signs.Not → ⊥
end_no_not e = cc

the_end : (size : ℕ) → InPlaces size size (mark_at size None signs.End ∷ [])
the_end size = record {
  orderly = record {
    ended = refl;
    ascend = (λ n has. absurd (none_contained n has), tt);
    clean = λ n has is. absurd (end_no_not (ap (λ (x : Mark). x.sign) (only_one (mark_at size None signs.End) n has) ∙ is));
  };
  from = λ n has. omega (arith, ap (λ (x : Mark). x.at) (only_one (mark_at size None signs.End) n has));
  upto = λ n has. omega (arith, ap (λ (x : Mark). x.at) (only_one (mark_at size None signs.End) n has));
}

piece_before : (size place next : ℕ) (wrong : Option Wrong) (o : Option Sign) (marks : List Mark) → place < size → place < next → IsInnerSign wrong o → InPlaces size next marks → InPlaces size place (before_marks (option_map (mark_at place wrong) o) marks)
piece_before size place next wrong None marks within ahead inner rest = none_before size place next marks (omega (arith, ahead)) rest
piece_before size place next wrong (Some sign) marks within ahead inner rest = mark_before size place next (mark_at place wrong sign) marks within ahead (record { at = refl; inner = inner.is.0; clean = inner.is.1 }) rest

in_places : (setting : Setting) (text : List ℕ) (state : _) (inside : Bool) (place : ℕ) (pieces : List Piece) → IsUtf8 text → IsCharBoundary text place → Splits (alphabet_in setting) text inside place pieces (length text) → InPlaces (length text) place (marks_from setting text state place pieces)
in_places setting text state inside place [] utf8 seam splits = subst (λ (n : ℕ). InPlaces (length text) n (mark_at (length text) None signs.End ∷ [])) (sym splits) (the_end (length text))
in_places setting text state inside place (p ∷ pieces) utf8 seam splits =
    let follows : Follows text place p.to = piece_follows (alphabet_in setting) text inside place p utf8 seam splits.0 splits.1 in
    piece_before (length text) place p.to (wrong_of setting state text p.form) (sign_of setting state text p.form) (marks_from setting text (after setting state text p.form) p.to pieces) splits.0 follows.after (form_inner setting state text p.form)
    (in_places setting text (after setting state text p.form) (ends_in_letter p.form) p.to pieces utf8 follows.seam splits.2)

in_text : (setting : Setting) (text : List ℕ) (pieces : List Piece) → IsUtf8 text → ArePieces (alphabet_in setting) text pieces → InPlaces (length text) 0 (marks_of setting text pieces)
in_text setting text pieces utf8 are = in_places setting text (at_start setting) false 0 pieces utf8 (IsCharBoundary-start text utf8) are

-- the marks of a text are in order
pub orderly : (setting : Setting) (text : List ℕ) (pieces : List Piece) → IsUtf8 text → ArePieces (alphabet_in setting) text pieces → AreOrderly (marks_of setting text pieces)
orderly setting text pieces utf8 are = (in_text setting text pieces utf8 are).orderly

-- ---- the marks that are given
-- a mark after some that stand before it
ascend_push : (front rest : List Mark) (end : Mark) → Ascend (front ++ rest) → ((m : Mark) → Contains front m → m.at < end.at) → Ascend (front ++ end ∷ [])
ascend_push [] rest end ascend before = (λ n has. absurd (none_contained n has), tt)
ascend_push (n ∷ front) rest end ascend before = (
  λ m has. elim (Contains-append_cases front (end ∷ []) m has) [
    | inl inside ↦ ascend.0 m (Contains-append_left front rest m inside)
    | inr last ↦ subst (λ (x : Mark). n.at < x.at) (only_one end m last) (before n (first_contained n front))
  ],
  ascend_push front rest end ascend.1 (λ m has. before m (contained_later n front m has)),
)

some_after : (a b : List Mark) → b ≢ [] → a ++ b ≢ []
some_after [] b some = some
some_after (x ∷ a) b some = λ e. cc

-- a mark before others of a list that ends is not the end
ended_split : (m : Mark) (marks : List Mark) → marks ≢ [] → is_ended (m ∷ marks) ≡ true → (fits classes.End m ≡ false) × (is_ended marks ≡ true)
ended_split m [] some e = absurd (some refl)
ended_split m (n ∷ marks) some e = (not_true (fits classes.End m) (and_first (not (fits classes.End m)) (is_ended (n ∷ marks)) e), and_second (not (fits classes.End m)) (is_ended (n ∷ marks)) e)

-- before what is left there is no end
pub inner_front : (front rest : List Mark) → rest ≢ [] → is_ended (front ++ rest) ≡ true → (m : Mark) → Contains front m → fits classes.End m ≡ false
inner_front [] rest some ended m has = absurd (none_contained m has)
inner_front (n ∷ front) rest some ended m has =
    let parts = ended_split n (front ++ rest) (some_after front rest some) ended in
    elim (contained_cases n front m has) [
      | inl same ↦ sym (ap (fits classes.End) same) ∙ parts.0
      | inr later ↦ inner_front front rest some parts.1 m later
    ]

-- a front with the end after it ends
pub ended_push : (front : List Mark) (end : Mark) → fits classes.End end ≡ true → ((m : Mark) → Contains front m → fits classes.End m ≡ false) → is_ended (front ++ end ∷ []) ≡ true
ended_push [] end is inner = is
ended_push (n ∷ front) end is inner = ended_before n (front ++ end ∷ []) (inner n (first_contained n front)) (ended_push front end is (λ m has. inner m (contained_later n front m has)))

some_first : (marks : List Mark) → marks ≢ [] → (m : Mark) × Contains marks m
some_first [] some = absurd (some refl)
some_first (m ∷ marks) some = (m, first_contained m marks)

-- what is cut short is in order
orderly_cut : (size place : ℕ) (all given : List Mark) → InPlaces size place all → IsCutShort size all given → AreOrderly given
orderly_cut size place all given places cut =
    let end : Mark = mark_at size None signs.End in
    let orderly : AreOrderly (cut.read ++ cut.rest) = subst AreOrderly cut.is places.orderly in
    let next = some_first cut.rest cut.left in
    let upto : next.0.at ≤ size = places.upto next.0 (subst (λ l. Contains l next.0) (sym cut.is) (Contains-append_right cut.read cut.rest next.0 next.1)) in
    let made : AreOrderly (cut.read ++ mark_at size None signs.End ∷ []) = record {
      ended = ended_push cut.read end refl (inner_front cut.read cut.rest cut.left orderly.ended);
      ascend = ascend_push cut.read cut.rest end orderly.ascend (λ m has. omega (arith, upto, ascend_apart cut.read cut.rest m next.0 orderly.ascend has next.1));
      clean = λ m has is. elim (Contains-append_cases cut.read (mark_at size None signs.End ∷ []) m has) [
        | inl inside ↦ orderly.clean m (Contains-append_left cut.read cut.rest m inside) is
        | inr last ↦ absurd (end_no_not (ap (λ (x : Mark). x.sign) (only_one (mark_at size None signs.End) m last) ∙ is))
      ];
    } in
    subst AreOrderly (sym cut.given_is) made

-- and so are those that are given
pub orderly_given : (setting : Setting) (text : List ℕ) (pieces : List Piece) (given : List Mark) → IsUtf8 text → ArePieces (alphabet_in setting) text pieces → AreEnough (length text) (marks_of setting text pieces) given → AreOrderly given
orderly_given setting text pieces given utf8 are enough =
    let places : InPlaces (length text) 0 (marks_of setting text pieces) = in_text setting text pieces utf8 are in
    elim enough [
      | inl same ↦ subst AreOrderly (sym same) places.orderly
      | inr cut ↦ orderly_cut (length text) 0 (marks_of setting text pieces) given places cut
    ]
