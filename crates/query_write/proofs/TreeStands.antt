-- The tokens of a tree that can be written stand side by side as they may, and each can be read.
use Rattle.std.proofs.Common.{arith, ◌≡◌, ◌≤◌, ◌<◌, ◌^◌, ◌+◌, ℕ, zero, suc, List, [], ◌∷◌, ◌++◌, Bool, true, false, Option, Some, None, refl, sym, ap, subst, append_assoc, if◌then◌else◌}
use Rattle.std.specs.Prelude.{All}
use Rattle.std.proofs.lemmas.List.Elements.{All-nil, All-cons, All-head, All-tail}
use Rattle.doc_types.specs.declared.schema.Schema.{Schema}
use Rattle.doc_types.specs.Schemas.{IsSchema}
use Rattle.query_tree.specs.declared.key.Key.{Key}
use Rattle.query_tree.specs.declared.key.Limit.{Limit}
use Rattle.query_tree.specs.declared.key.How.{How}
use Rattle.query_tree.specs.declared.key.How.TheVariants as hows
use Rattle.query_marks.specs.Marks.{keys_after}
use Rattle.query_write.specs.Written.{WrittenToken, Space, Open, Close, Line, Part, is_single, limits, zone_tokens, under, enclosed, whole, left}
use Rattle.query_write.specs.steps.Signs.{IsKeyOf, IsPlainWord, IsPlainKey, HasSmall, CanBeRead, AreSpaced}
use Rattle.query_write.specs.steps.TokenRun.{words_of, IsInRange, IsRightHow, IsRightZone, AreRightZones}
use Rattle.query_write.specs.steps.Writable.{IsRightLimit, AreKeys}
use Rattle.query_write.proofs.TreeNames.{field_names, zone_names}
use Rattle.query_write.proofs.TreeSpaces.{Stands, stands_after, is_ended, one_stands, closed_spaced, closed_read, group_stands, read_cons, read_append, read_none}

-- ---- keywords and numbers

starts : List Key → Bool
starts [] = false
starts (key ∷ keys) = key.start

ends : List Key → Bool
ends [] = false
ends (key ∷ keys) = key.end

prefixes : List Key → Bool
prefixes [] = false
prefixes (key ∷ keys) = key.prefix

later : List Key → List Key
later [] = []
later (key ∷ keys) = keys

pub keys_plain : (fold : ℕ → Option ℕ) (limit : Limit) (n : ℕ) (keys : List Key) → keys ≡ keys_after n limit false false (words_of keys) → All (λ (key : Key). IsPlainWord fold key.word) keys → All (IsPlainKey fold) keys
unfolding starts ends prefixes later
keys_plain fold limit n [] is plain = All-nil (IsPlainKey fold)
keys_plain fold limit n (key ∷ keys) is plain =
    All-cons (IsPlainKey fold) key keys (All-head (λ (k : Key). IsPlainWord fold k.word) key keys plain, ap starts is, ap ends is, ap prefixes is)
    (keys_plain fold limit (n + 1) keys (ap later is) (All-tail (λ (k : Key). IsPlainWord fold k.word) key keys plain))

pub small_range : (n : ℕ) → IsInRange n → n < 2 ^ 64
small_range n in_range = omega (arith, in_range.1)

small_share : (digits places : ℕ) → places ≤ 4 → digits < 10 ^ places → digits < 2 ^ 64
small_share digits zero few below = omega (arith, below)
small_share digits (suc zero) few below = omega (arith, below)
small_share digits (suc (suc zero)) few below = omega (arith, below)
small_share digits (suc (suc (suc zero))) few below = omega (arith, below)
small_share digits (suc (suc (suc (suc zero)))) few below = omega (arith, below)
small_share digits (suc (suc (suc (suc (suc places))))) few below = absurd (omega (arith, few))

pub small_how : (how : How) → IsRightHow how → HasSmall how
small_how hows.Phrase right = tt
small_how (hows.Within n) right = small_range n right
small_how (hows.AtLeast n) right = small_range n right
small_how (hows.Share digits places) right = small_share digits places right.2 right.3

-- ---- limits

after_word : (key : Key) (rest : List WrittenToken) → is_ended rest ≡ true → stands_after (WrittenToken.Word key) rest ≡ true
after_word key [] e = refl
after_word key (token ∷ rest) e = e

after_quoted : (keys : List Key) (how : How) (rest : List WrittenToken) → is_ended rest ≡ true → stands_after (WrittenToken.Quoted keys how) rest ≡ true
after_quoted keys how [] e = refl
after_quoted keys how (token ∷ rest) e = e

-- A part's tokens stand as a node does, and its limit can be written.
pub record PartStands (fold : ℕ → Option ℕ) (schema : Schema) (p : Part) : Type 0 where
  pub inner : Stands fold schema p.tokens
  pub limit : (limit : Limit) → p.limit ≡ Some limit → IsRightLimit schema limit

module _ (fold : ℕ → Option ℕ) (schema : Schema) (is_schema : IsSchema schema) where
  pub word_stands : (key : Key) → IsPlainWord fold key.word → IsKeyOf schema key → Stands fold schema (WrittenToken.Word key ∷ [])
  word_stands key plain takes = one_stands (WrittenToken.Word key) refl (after_word key) (plain, takes)

  pub quoted_stands : (limit : Limit) (n : ℕ) (keys : List Key) (how : How) → AreKeys fold limit n keys → IsRightHow how → Stands fold schema (WrittenToken.Quoted keys how ∷ [])
  quoted_stands limit n keys how are right = one_stands (WrittenToken.Quoted keys how) refl (after_quoted keys how) (keys_plain fold limit n keys are.are are.plain, small_how how right)

  fields_read : (limit : Limit) → IsRightLimit schema limit → CanBeRead fold schema (WrittenToken.Fields limit.fields limit.positions)
  fields_read limit right = (λ not_all some. field_names schema limit.fields is_schema right.fields some, small_range limit.positions right.positions)

  zones_read : (zone : ℕ) (zones : List ℕ) → All (IsRightZone schema) (zone ∷ zones) → CanBeRead fold schema (WrittenToken.Zones (zone ∷ zones))
  zones_read zone zones right = zone_names schema (zone ∷ zones) (λ e. cc) right

  limit_spaced : (fields positions : ℕ) (zones : List ℕ) (rest : List WrittenToken) → AreSpaced (Space ∷ rest) → AreSpaced (WrittenToken.Fields fields positions ∷ (zone_tokens zones ++ Space ∷ rest))
  limit_spaced fields positions [] rest spaced = (refl, spaced)
  limit_spaced fields positions (zone ∷ zones) rest spaced = (refl, (refl, (refl, spaced)))

  limit_read : (limit : Limit) → IsRightLimit schema limit → (zones : List ℕ) → All (IsRightZone schema) zones → All (CanBeRead fold schema) (WrittenToken.Fields limit.fields limit.positions ∷ zone_tokens zones)
  limit_read limit right [] zones_right = read_cons fold schema (WrittenToken.Fields limit.fields limit.positions) [] (fields_read limit right) (read_none fold schema)
  limit_read limit right (zone ∷ zones) zones_right =
      read_cons fold schema (WrittenToken.Fields limit.fields limit.positions) (Space ∷ WrittenToken.Zones (zone ∷ zones) ∷ []) (fields_read limit right)
      (read_cons fold schema Space (WrittenToken.Zones (zone ∷ zones) ∷ []) tt (read_cons fold schema (WrittenToken.Zones (zone ∷ zones)) [] (zones_read zone zones zones_right) (read_none fold schema)))

  limited_stands : (limit : Limit) (tokens : List WrittenToken) → IsRightLimit schema limit → Stands fold schema tokens → Stands fold schema (Open ∷ WrittenToken.Fields limit.fields limit.positions ∷ (zone_tokens limit.zones ++ Space ∷ (tokens ++ Close ∷ [])))
  limited_stands limit tokens right h =
      let begins : List WrittenToken = WrittenToken.Fields limit.fields limit.positions ∷ zone_tokens limit.zones in
      record {
        begins = refl;
        spaced = λ rest ended spaced. (
          refl,
          subst AreSpaced (sym (append_assoc begins (Space ∷ (tokens ++ Close ∷ [])) rest))
              (limit_spaced limit.fields limit.positions limit.zones ((tokens ++ Close ∷ []) ++ rest) (closed_spaced tokens rest h ended spaced)),
        );
        read = read_cons fold schema Open (begins ++ Space ∷ (tokens ++ Close ∷ [])) tt (read_append fold schema begins (Space ∷ (tokens ++ Close ∷ [])) (limit_read limit right limit.zones right.zones) (closed_read tokens h));
      }

  pub span_stands : (zones : List ℕ) (tokens : List WrittenToken) → AreRightZones schema zones → Stands fold schema tokens → Stands fold schema (Open ∷ WrittenToken.Spans zones ∷ Space ∷ (tokens ++ Close ∷ []))
  span_stands zones tokens right h = record {
    begins = refl;
    spaced = λ rest ended spaced. (refl, (refl, closed_spaced tokens rest h ended spaced));
    read = read_cons fold schema Open (WrittenToken.Spans zones ∷ Space ∷ (tokens ++ Close ∷ [])) tt
        (read_cons fold schema (WrittenToken.Spans zones) (Space ∷ (tokens ++ Close ∷ [])) (zone_names schema zones right.0 right.1) (closed_read tokens h));
  }

  -- ---- a part as it is written beside others

  either_stands : (b : Bool) (first second : List WrittenToken) → Stands fold schema first → Stands fold schema second → Stands fold schema (if b then first else second)
  either_stands true first second a b = a
  either_stands false first second a b = b

  under_stands : (limit : Option Limit) (tokens : List WrittenToken) → ((l : Limit) → limit ≡ Some l → IsRightLimit schema l) → Stands fold schema tokens → Stands fold schema (under schema.fields limit tokens)
  under_stands None tokens right h = h
  under_stands (Some limit) tokens right h =
      either_stands (limits schema.fields limit) (Open ∷ WrittenToken.Fields limit.fields limit.positions ∷ (zone_tokens limit.zones ++ Space ∷ (tokens ++ Close ∷ []))) tokens
      (limited_stands limit tokens (right limit refl) h) h

  pub whole_stands : (p : Part) → PartStands fold schema p → Stands fold schema (whole schema.fields p)
  whole_stands p h =
      under_stands p.limit (enclosed p.line p.tokens) h.limit
      (either_stands (is_single p.line) p.tokens (Open ∷ Space ∷ (p.tokens ++ Space ∷ Close ∷ [])) h.inner (group_stands p.tokens h.inner))

  pub left_stands : (same : Line → Bool) (p : Part) → PartStands fold schema p → Stands fold schema (left schema.fields same p)
  left_stands same p h = either_stands (same p.line) p.tokens (whole schema.fields p) h.inner (whole_stands p h)
