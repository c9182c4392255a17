-- No operator begins in a word as it is written.
use Rattle.std.proofs.Common.{◌≡◌, ℕ, suc, ◌+◌, Bool, true, false, eqb, List, [], ◌∷◌, ◌++◌, ◌&&◌, ◌||◌, not, length, get_or, codes, refl, sym, ap, ap₂, ◌∙◌, subst, ⊎_elim}
use Rattle.std.specs.Prelude.{Option, None, if◌then◌else◌, ◌==◌, option_map}
use Rattle.std.specs.List.{list_all}
use Rattle.std.proofs.lemmas.Bool.{both_ways, and_parts, and_from, and_left, and_right, or_from, or_cases, not-true, false_from_ne_true, ne_eqb, eqb-true}
use Rattle.query_pieces.specs.declared.piece.Piece.{Piece}
use Rattle.query_pieces.specs.declared.piece.Form.{Form}
use Rattle.query_pieces.specs.declared.piece.Form.TheVariants as forms
use Rattle.query_pieces.specs.QueryBytes.{byte, byte_before, is_bound, begins_zone, is_zone_byte, spells, digits_end}
use Rattle.query_pieces.specs.Operators.{piece, slice, where_holds, lettered_at, near_at, zones_at, zones_of, names_at, operator_at, operator_by}
use Rattle.query_write.specs.Spelling.{is_plain, is_lettered, stays, escape, spelled_from}
use Rattle.query_write.proofs.SpellPlaces.{IsRest, begins, begins_apart, begins_first, spells_is, byte_first, byte_on}

-- what may stand directly after the letters of a word
abbrev pub ends_word : ℕ → Bool
ends_word b = (b == 32) || (b == 41) || (b == 34) || (b == 36) || (b == 42)

pub record IsEnd (rest : List ℕ) : Type 0 where
  pub is : ends_word (get_or rest 0 32) ≡ true

pub end_cases : (P : ℕ → Type 0) (b : ℕ) → ends_word b ≡ true → P 32 → P 41 → P 34 → P 36 → P 42 → P b
end_cases P b is blank close quote dollar star =
    let at : (k : ℕ) → (b == k) ≡ true → P k → P b = λ k e p. subst P (sym (eqb-true b k e)) p in
    ⊎_elim (λ four. ⊎_elim (λ three. ⊎_elim (λ two. ⊎_elim (λ e. at 32 e blank) (λ e. at 41 e close) (or_cases (b == 32) (b == 41) two)) (λ e. at 34 e quote) (or_cases ((b == 32) || (b == 41)) (b == 34) three)) (λ e. at 36 e dollar) (or_cases ((b == 32) || (b == 41) || (b == 34)) (b == 36) four))
    (λ e. at 42 e star) (or_cases ((b == 32) || (b == 41) || (b == 34) || (b == 36)) (b == 42) is)

-- two bytes of which one alone passes a test
pub apart : (test : ℕ → Bool) (a b : ℕ) → test a ≡ true → test b ≡ false → eqb a b ≡ false
apart test a b yes' no' = ne_eqb a b (λ e. both_ways (test b) no' (subst (λ (c : ℕ). test c ≡ true) e yes'))

pub apart_from : (test : ℕ → Bool) (a b : ℕ) → test a ≡ false → test b ≡ true → eqb a b ≡ false
apart_from test a b no' yes' = ne_eqb a b (λ e. both_ways (test b) (subst (λ (c : ℕ). test c ≡ false) e no') yes')

pub end_not_plain : (b : ℕ) → ends_word b ≡ true → is_plain b ≡ false
end_not_plain b is = end_cases (λ (c : ℕ). is_plain c ≡ false) b is refl refl refl refl refl

pub plain_no_bound : (b : ℕ) → is_plain b ≡ true → is_bound b ≡ false
plain_no_bound b plain = or_from _ (b == 34) (or_from _ (b == 41) (or_from _ (b == 40) (or_from _ (b == 10) (or_from _ (b == 13) (or_from (b == 32) (b == 9) (at 32 refl) (at 9 refl)) (at 13 refl)) (at 10 refl)) (at 40 refl)) (at 41 refl)) (at 34 refl)
  where
    at : (k : ℕ) → is_plain k ≡ false → eqb b k ≡ false
    at k other = apart is_plain b k plain other

-- ---- what a word begins with
-- a sign after plain bytes
pub no_sign : (front : List ℕ) (sign : ℕ) (bounded : Bool) (bytes rest : List ℕ) → list_all is_plain front ≡ true → is_plain sign ≡ false → ends_word sign ≡ false → eqb 92 sign ≡ false → IsEnd rest → begins (front ++ sign ∷ []) (spelled_from bounded bytes ++ rest) ≡ false
no_sign [] sign bounded [] rest plain other no_end no_escape end = begins_apart sign [] rest (apart ends_word (get_or rest 0 32) sign end.is no_end)
no_sign [] sign bounded (b ∷ bytes) rest plain other no_end no_escape end = by (stays bounded b bytes) refl
  where
    by : (s : Bool) → stays bounded b bytes ≡ s → begins (sign ∷ []) (escape s ++ b ∷ spelled_from (is_bound b) bytes ++ rest) ≡ false
    by true e = begins_apart sign [] (b ∷ spelled_from (is_bound b) bytes ++ rest) (apart is_plain b sign (and_parts (is_plain b) (not (bounded && is_lettered (b ∷ bytes))) e).0 other)
    by false e = begins_apart sign [] (92 ∷ b ∷ spelled_from (is_bound b) bytes ++ rest) no_escape
no_sign (l ∷ front) sign bounded [] rest plain other no_end no_escape end =
    begins_apart l (front ++ sign ∷ []) rest (apart_from is_plain (get_or rest 0 32) l (end_not_plain (get_or rest 0 32) end.is) (and_parts (is_plain l) (list_all is_plain front) plain).0)
no_sign (l ∷ front) sign bounded (b ∷ bytes) rest plain other no_end no_escape end =
    by (stays bounded b bytes) (no_sign front sign (is_bound b) bytes rest (and_parts (is_plain l) (list_all is_plain front) plain).1 other no_end no_escape end)
  where
    by : (s : Bool) → begins (front ++ sign ∷ []) (spelled_from (is_bound b) bytes ++ rest) ≡ false → begins (l ∷ (front ++ sign ∷ [])) (escape s ++ b ∷ spelled_from (is_bound b) bytes ++ rest) ≡ false
    by true next = and_right (eqb b l) (begins (front ++ sign ∷ []) (spelled_from (is_bound b) bytes ++ rest)) next
    by false next = begins_apart l (front ++ sign ∷ []) (92 ∷ b ∷ spelled_from (is_bound b) bytes ++ rest) (apart_from is_plain 92 l refl (and_parts (is_plain l) (list_all is_plain front) plain).0)

-- plain bytes and a bound after them are the whole word
pub whole_word : (front : List ℕ) (bounded : Bool) (bytes rest : List ℕ) → list_all is_plain front ≡ true → IsEnd rest → begins front (spelled_from bounded bytes ++ rest) ≡ true → is_bound (get_or (spelled_from bounded bytes ++ rest) (length front) 32) ≡ true → bytes ≡ front
whole_word [] bounded [] rest plain end front_is bound = refl
whole_word [] bounded (b ∷ bytes) rest plain end front_is bound = by (stays bounded b bytes) refl bound
  where
    by : (s : Bool) → stays bounded b bytes ≡ s → is_bound (get_or (escape s ++ b ∷ spelled_from (is_bound b) bytes ++ rest) 0 32) ≡ true → b ∷ bytes ≡ []
    by true e bound = absurd (both_ways (is_bound b) (plain_no_bound b (and_parts (is_plain b) (not (bounded && is_lettered (b ∷ bytes))) e).0) bound)
    by false e bound = absurd (both_ways false refl bound)
whole_word (l ∷ front) bounded [] rest plain end front_is bound =
    absurd (both_ways (is_plain l) (subst (λ (c : ℕ). is_plain c ≡ false) (begins_first l front rest front_is) (end_not_plain (get_or rest 0 32) end.is)) (and_parts (is_plain l) (list_all is_plain front) plain).0)
whole_word (l ∷ front) bounded (b ∷ bytes) rest plain end front_is bound =
    by (stays bounded b bytes) (whole_word front (is_bound b) bytes rest (and_parts (is_plain l) (list_all is_plain front) plain).1 end) front_is bound
  where
    by : (s : Bool) → (begins front (spelled_from (is_bound b) bytes ++ rest) ≡ true → is_bound (get_or (spelled_from (is_bound b) bytes ++ rest) (length front) 32) ≡ true → bytes ≡ front) → begins (l ∷ front) (escape s ++ b ∷ spelled_from (is_bound b) bytes ++ rest) ≡ true → is_bound (get_or (escape s ++ b ∷ spelled_from (is_bound b) bytes ++ rest) (suc (length front)) 32) ≡ true → b ∷ bytes ≡ l ∷ front
    by true next front_is bound =
        let both = and_parts (eqb b l) (begins front (spelled_from (is_bound b) bytes ++ rest)) front_is in
        ap₂ (λ (x : ℕ) (xs : List ℕ). x ∷ xs) (eqb-true b l both.0) (next both.1 bound)
    by false next front_is bound = absurd (both_ways (is_plain l) (subst (λ (c : ℕ). is_plain c ≡ false) (begins_first l front (92 ∷ b ∷ spelled_from (is_bound b) bytes ++ rest) front_is) refl) (and_parts (is_plain l) (list_all is_plain front) plain).0)

-- ---- no operator begins at a plain byte
-- A plain byte of a word stands at the place, and where the flag is false no bound stands before it.
pub record IsPlainByte (text : List ℕ) (place : ℕ) (bounded : Bool) (b : ℕ) (bytes rest : List ℕ) : Type 0 where
  pub at : IsRest text place (spelled_from bounded (b ∷ bytes) ++ rest)
  pub stays : stays bounded b bytes ≡ true
  pub before : is_bound (byte_before text place) ≡ true → bounded ≡ true
  pub end : IsEnd rest

plain_is : {text : List ℕ} {place : ℕ} {bounded : Bool} {b : ℕ} {bytes rest : List ℕ} → IsPlainByte text place bounded b bytes rest → is_plain b ≡ true
plain_is {text} {place} {bounded} {b} {bytes} p = (and_parts (is_plain b) (not (bounded && is_lettered (b ∷ bytes))) p.stays).0

pub plain_byte : (text : List ℕ) (place : ℕ) (bounded : Bool) (b : ℕ) (bytes rest : List ℕ) → IsPlainByte text place bounded b bytes rest → byte text place ≡ b
plain_byte text place bounded b bytes rest p =
    byte_first text place (spelled_from bounded (b ∷ bytes) ++ rest) p.at ∙ ap (λ s. get_or (escape s ++ b ∷ spelled_from (is_bound b) bytes ++ rest) 0 32) p.stays

no_option : (test : Bool) (x y : Option Piece) → (test ≡ true → x ≡ None) → y ≡ None → (if test then x else y) ≡ None
no_option true x y left right = left refl
no_option false x y left right = right

no_zones : (text : List ℕ) (inside : Bool) (place : ℕ) (bounded : Bool) (b : ℕ) (bytes rest : List ℕ) → IsPlainByte text place bounded b bytes rest → zones_at text inside place ≡ None
no_zones text inside place bounded b bytes rest p =
    no_option (inside || (byte_before text place == 94)) None _ (λ e. refl)
    (no_option (spells text place (codes "ZONE:")) (option_map (zones_of false) (names_at begins_zone is_zone_byte text (place + 5))) _ (λ e. absurd (both_ways (spells text place (codes "ZONE:")) (none (codes "ZONE") refl) e))
    (no_option (spells text place (codes "ZONESPAN:")) (option_map (zones_of true) (names_at begins_zone is_zone_byte text (place + 9))) None (λ e. absurd (both_ways (spells text place (codes "ZONESPAN:")) (none (codes "ZONESPAN") refl) e)) refl))
  where
    none : (front : List ℕ) → list_all is_plain front ≡ true → spells text place (front ++ 58 ∷ []) ≡ false
    none front plain = spells_is text place (front ++ 58 ∷ []) (spelled_from bounded (b ∷ bytes) ++ rest) p.at ∙ no_sign front 58 bounded (b ∷ bytes) rest plain refl refl refl p.end

no_piece : (test : Bool) (p : Piece) → test ≡ false → where_holds test p ≡ None
no_piece test p e = ap (λ (t : Bool). where_holds t p) e

no_near : (text : List ℕ) (place : ℕ) (bounded : Bool) (b : ℕ) (bytes rest : List ℕ) → IsPlainByte text place bounded b bytes rest → near_at text place ≡ None
no_near text place bounded b bytes rest p =
    no_piece _ (piece (forms.Near (slice (place + 5) (digits_end text (place + 5)))) (digits_end text (place + 5)))
    (and_left _ _ (and_left _ _ (and_right (is_bound (byte_before text place)) (spells text place (codes "NEAR/"))
    (spells_is text place (codes "NEAR/") (spelled_from bounded (b ∷ bytes) ++ rest) p.at ∙ no_sign (codes "NEAR") 47 bounded (b ∷ bytes) rest refl refl refl refl p.end))))

no_lettered : (word : List ℕ) (form : Form) → list_all is_plain word ≡ true → is_lettered word ≡ true → (text : List ℕ) (place : ℕ) (bounded : Bool) (b : ℕ) (bytes rest : List ℕ) → IsPlainByte text place bounded b bytes rest → lettered_at text place word form ≡ None
no_lettered word form plain lettered text place bounded b bytes rest p =
    no_piece (is_bound (byte_before text place) && spells text place word && is_bound (byte text (place + length word))) (piece form (place + length word)) (false_from_ne_true _ none)
  where
    none : (is_bound (byte_before text place) && spells text place word && is_bound (byte text (place + length word))) ≡ true → ⊥
    none e =
        let both = and_parts (is_bound (byte_before text place) && spells text place word) (is_bound (byte text (place + length word))) e in
        let front = and_parts (is_bound (byte_before text place)) (spells text place word) both.0 in
        let front_is : begins word (spelled_from bounded (b ∷ bytes) ++ rest) ≡ true = sym (spells_is text place word (spelled_from bounded (b ∷ bytes) ++ rest) p.at) ∙ front.1 in
        let bound : is_bound (get_or (spelled_from bounded (b ∷ bytes) ++ rest) (length word) 32) ≡ true = ap is_bound (sym (byte_on text place (length word) (spelled_from bounded (b ∷ bytes) ++ rest) p.at)) ∙ both.1 in
        let whole : b ∷ bytes ≡ word = whole_word word bounded (b ∷ bytes) rest plain p.end front_is bound in
        let escaped : (bounded && is_lettered (b ∷ bytes)) ≡ true = and_from bounded (is_lettered (b ∷ bytes)) (p.before front.0) (ap is_lettered whole ∙ lettered) in
        both_ways (bounded && is_lettered (b ∷ bytes)) (not-true (bounded && is_lettered (b ∷ bytes)) (and_parts (is_plain b) (not (bounded && is_lettered (b ∷ bytes))) p.stays).1) escaped

pub no_operator : (text : List ℕ) (inside : Bool) (place : ℕ) (bounded : Bool) (b : ℕ) (bytes rest : List ℕ) → IsPlainByte text place bounded b bytes rest → operator_at text inside place ≡ None
unfolding operator_at
no_operator text inside place bounded b bytes rest p =
    ap (operator_by text inside place) (plain_byte text place bounded b bytes rest p) ∙
    (no_option (b == 34) _ _ (at 34 refl)
    (no_option (b == 40) _ _ (at 40 refl)
    (no_option (b == 41) _ _ (at 41 refl)
    (no_option (b == 124) _ _ (at 124 refl)
    (no_option (b == 60) _ _ (at 60 refl)
    (no_option ((b == 45) || (b == 33)) _ _ (λ e. absurd (both_ways ((b == 45) || (b == 33)) (or_from (b == 45) (b == 33) (other 45 refl) (other 33 refl)) e))
    (no_option (b == 64) _ _ (at 64 refl)
    (no_option (b == 90) (zones_at text inside place) _ (λ e. no_zones text inside place bounded b bytes rest p)
    (no_option (b == 77) (lettered_at text place (codes "MAYBE") forms.Maybe) _ (λ e. no_lettered (codes "MAYBE") forms.Maybe refl refl text place bounded b bytes rest p)
    (no_option (b == 83) (lettered_at text place (codes "SENTENCE") forms.Sentence) _ (λ e. no_lettered (codes "SENTENCE") forms.Sentence refl refl text place bounded b bytes rest p)
    (no_option (b == 80) (lettered_at text place (codes "PARAGRAPH") forms.Paragraph) _ (λ e. no_lettered (codes "PARAGRAPH") forms.Paragraph refl refl text place bounded b bytes rest p)
    (no_option (b == 78) (near_at text place) None (λ e. no_near text place bounded b bytes rest p) refl))))))))))))
  where
    other : (k : ℕ) → is_plain k ≡ false → eqb b k ≡ false
    other k no' = apart is_plain b k (plain_is p) no'

    at : {x : Option Piece} (k : ℕ) → is_plain k ≡ false → (b == k) ≡ true → x ≡ None
    at k no' e = absurd (both_ways (eqb b k) (other k no') e)
