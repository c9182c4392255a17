-- How many keywords marks and tokens have.
use Rattle.std.proofs.Common.{arith, ◌≡◌, ◌≤◌, ◌+◌, ℕ, suc, false, List, [], ◌∷◌, ◌++◌, length, map, refl, sym, ◌∙◌, ap, length-append}
use Rattle.std.specs.Prelude.{Option, Some, None}
use Rattle.std.specs.List.{flat_map}
use Rattle.doc_types.specs.declared.schema.Schema.{Schema}
use Rattle.query_tree.specs.declared.key.Key.{Key}
use Rattle.query_tree.specs.declared.key.Limit.{Limit}
use Rattle.query_tree.specs.declared.key.How.{How}
use Rattle.query_tree.specs.declared.key.How.TheVariants as hows
use Rattle.query_marks.specs.declared.mark.Mark.{Mark}
use Rattle.query_marks.specs.declared.mark.Sign.{Sign}
use Rattle.query_marks.specs.declared.mark.Sign.TheVariants as signs
use Rattle.query_marks.specs.Marks.{keys_after, quoted_sign}
use Rattle.query_grammar.specs.Queries.{keys_of}
use Rattle.query_write.specs.Written.{WrittenToken}
use Rattle.query_write.specs.steps.TokenRun.{Ambient, Standing, shut, ambient_limit, words_of, token_sign, token_after, before_signs, signs_of, after_tokens}
use Rattle.query_write.specs.steps.Carried.{IsStep, Carries}

-- how many keywords marks have
abbrev pub marks_count : List Mark → ℕ
marks_count marks = length (flat_map (λ (m : Mark). keys_of m.sign) marks)

abbrev pub signs_count : List Sign → ℕ
signs_count list = length (flat_map keys_of list)

-- ---- marks
module _ (fold : ℕ → Option ℕ) (schema : Schema) where
  step_count : (n : ℕ) (here : Limit) (sign : Sign) (m : ℕ) (there : Limit) → IsStep fold schema n here sign m there → m ≡ n + length (keys_of sign)
  step_count n here (signs.Bare key) m there s = s.0
  step_count n here (signs.Phrase keys) m there s = s.0
  step_count n here (signs.Loose keys how) m there s = s.0
  step_count n here signs.Sentence m there s = omega (arith, s.0)
  step_count n here signs.Paragraph m there s = omega (arith, s.0)
  step_count n here (signs.Near distance) m there s = omega (arith, s.0)
  step_count n here (signs.Spans zones) m there s = omega (arith, s.0)
  step_count n here signs.Open m there s = omega (arith, s.0)
  step_count n here signs.Close m there s = omega (arith, s.0)
  step_count n here signs.Or m there s = omega (arith, s.0)
  step_count n here signs.Before m there s = omega (arith, s.0)
  step_count n here signs.Not m there s = omega (arith, s.0)
  step_count n here signs.Maybe m there s = omega (arith, s.0)
  step_count n here signs.Limits m there s = omega (arith, s.0)
  step_count n here signs.Relaxed m there s = omega (arith, s.0)
  step_count n here signs.Unclosed m there s = omega (arith, s.0)
  step_count n here signs.End m there s = omega (arith, s.0)

  pub carries_count : (n : ℕ) (here : Limit) (marks : List Mark) (m : ℕ) (there : Limit) → Carries fold schema n here marks m there → m ≡ n + marks_count marks
  carries_count n here [] m there c = omega (arith, c.0)
  carries_count n here (x ∷ marks) m there (k, mid, step, rest) =
      omega (arith, step_count n here x.sign k mid step, carries_count k mid marks m there rest, length-append (keys_of x.sign) (flat_map (λ (y : Mark). keys_of y.sign) marks))

  -- a sign has no more keywords than are allowed
  step_few : (n : ℕ) (here : Limit) (sign : Sign) (m : ℕ) (there : Limit) → n ≤ 255 → IsStep fold schema n here sign m there → m ≤ 255
  step_few n here (signs.Bare key) m there few s = s.1
  step_few n here (signs.Phrase keys) m there few s = s.1
  step_few n here (signs.Loose keys how) m there few s = s.1
  step_few n here signs.Sentence m there few s = omega (arith, few, s.0)
  step_few n here signs.Paragraph m there few s = omega (arith, few, s.0)
  step_few n here (signs.Near distance) m there few s = omega (arith, few, s.0)
  step_few n here (signs.Spans zones) m there few s = omega (arith, few, s.0)
  step_few n here signs.Open m there few s = omega (arith, few, s.0)
  step_few n here signs.Close m there few s = omega (arith, few, s.0)
  step_few n here signs.Or m there few s = omega (arith, few, s.0)
  step_few n here signs.Before m there few s = omega (arith, few, s.0)
  step_few n here signs.Not m there few s = omega (arith, few, s.0)
  step_few n here signs.Maybe m there few s = omega (arith, few, s.0)
  step_few n here signs.Limits m there few s = omega (arith, few, s.0)
  step_few n here signs.Relaxed m there few s = omega (arith, few, s.0)
  step_few n here signs.Unclosed m there few s = omega (arith, few, s.0)
  step_few n here signs.End m there few s = omega (arith, few, s.0)

  pub carries_few : (n : ℕ) (here : Limit) (marks : List Mark) (m : ℕ) (there : Limit) → n ≤ 255 → Carries fold schema n here marks m there → m ≤ 255
  carries_few n here [] m there few c = omega (arith, few, c.0)
  carries_few n here (x ∷ marks) m there few (k, mid, step, rest) = carries_few k mid marks m there (step_few n here x.sign k mid few step) rest

-- ---- tokens
abbrev sign_count : Option Sign → ℕ
sign_count None = 0
sign_count (Some sign) = length (keys_of sign)

quoted_count : (keys : List Key) (how : How) → sign_count (quoted_sign keys how) ≡ length keys
quoted_count [] hows.Phrase = refl
quoted_count (key ∷ []) hows.Phrase = refl
quoted_count (key ∷ other ∷ keys) hows.Phrase = refl
quoted_count [] (hows.Within n) = refl
quoted_count (key ∷ keys) (hows.Within n) = refl
quoted_count [] (hows.AtLeast n) = refl
quoted_count (key ∷ keys) (hows.AtLeast n) = refl
quoted_count [] (hows.Share digits places) = refl
quoted_count (key ∷ keys) (hows.Share digits places) = refl

keys_count : (n : ℕ) (limit : Limit) (keys : List Key) → length (keys_after n limit false false (words_of keys)) ≡ length keys
keys_count n limit [] = refl
keys_count n limit (key ∷ keys) = ap suc (keys_count (n + 1) limit keys)

shut_count : (n : ℕ) (here : Ambient) (around : List Ambient) → (shut n here around).keywords ≡ n
shut_count n here [] = refl
shut_count n here (outer ∷ around) = refl

token_count : (s : Standing) (token : WrittenToken) → (token_after s token).keywords ≡ s.keywords + sign_count (token_sign s token)
token_count s WrittenToken.Space = omega arith
token_count s WrittenToken.Open = omega arith
token_count s WrittenToken.Close = omega (arith, shut_count s.keywords s.here s.around)
token_count s WrittenToken.Or = omega arith
token_count s WrittenToken.Maybe = omega arith
token_count s WrittenToken.Before = omega arith
token_count s (WrittenToken.Near n) = omega arith
token_count s WrittenToken.Sentence = omega arith
token_count s WrittenToken.Paragraph = omega arith
token_count s WrittenToken.Not = omega arith
token_count s (WrittenToken.Word key) = refl
token_count s (WrittenToken.Quoted keys how) =
    ap (λ k. s.keywords + k) (sym (quoted_count (keys_after s.keywords (ambient_limit s.here) false false (words_of keys)) how ∙ keys_count s.keywords (ambient_limit s.here) keys))
token_count s (WrittenToken.Fields n positions) = omega arith
token_count s (WrittenToken.Zones zones) = omega arith
token_count s (WrittenToken.Spans zones) = omega arith

before_count : (o : Option Sign) (rest : List Sign) → signs_count (before_signs o rest) ≡ sign_count o + signs_count rest
before_count None rest = omega arith
before_count (Some sign) rest = length-append (keys_of sign) (flat_map keys_of rest)

pub tokens_count : (s : Standing) (tokens : List WrittenToken) → (after_tokens s tokens).keywords ≡ s.keywords + signs_count (signs_of s tokens)
tokens_count s [] = omega arith
tokens_count s (token ∷ tokens) =
    omega (arith, token_count s token, tokens_count (token_after s token) tokens, before_count (token_sign s token) (signs_of (token_after s token) tokens))

-- the end has no keyword
pub ended_count : (list : List Sign) → signs_count (list ++ signs.End ∷ []) ≡ signs_count list
ended_count [] = refl
ended_count (sign ∷ list) =
    length-append (keys_of sign) (flat_map keys_of (list ++ signs.End ∷ [])) ∙ ap (λ k. length (keys_of sign) + k) (ended_count list) ∙ sym (length-append (keys_of sign) (flat_map keys_of list))

pub marks_signs : (marks : List Mark) → marks_count marks ≡ signs_count (map (λ (m : Mark). m.sign) marks)
marks_signs [] = refl
marks_signs (x ∷ marks) =
    length-append (keys_of x.sign) (flat_map (λ (m : Mark). keys_of m.sign) marks) ∙ ap (λ k. length (keys_of x.sign) + k) (marks_signs marks)
    ∙ sym (length-append (keys_of x.sign) (flat_map keys_of (map (λ (m : Mark). m.sign) marks)))
