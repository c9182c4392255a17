-- Regular expressions over classes of tokens: their texts, and where a list of tokens can't go on to one of them. A grammar
-- with nesting is a family of them, one for each depth.
use Rattle.std.specs.Prelude.{◌≡◌, List, [], ◌∷◌, ◌++◌, Bool, true, false, ◌&&◌, ◌||◌, IsTrue, Option, Some, None, ◌⊎◌, if◌then◌else◌}
use Rattle.token_grammar.specs.Alphabets.{Alphabet}

-- A grammar over the classes C. Each has some text.
pub data Re (C : Type 0) : Type 0 where
  empty : Re C
  one : C → Re C
  seq : Re C → Re C → Re C
  alt : Re C → Re C → Re C
  many : Re C → Re C

-- one part after the other
infixr 30 ◌⨾◌
abbrev pub ◌⨾◌ : {C : Type 0} → Re C → Re C → Re C
r ⨾ s = seq r s

-- the one part or the other
infixr 25 ◌∣◌
abbrev pub ◌∣◌ : {C : Type 0} → Re C → Re C → Re C
r ∣ s = alt r s

-- a part that may be left out
abbrev pub optional : {C : Type 0} → Re C → Re C
optional r = r ∣ empty

-- any number of parts, each after a separator
abbrev pub repeated : {C : Type 0} → C → Re C → Re C
repeated c r = many (one c ⨾ r)

-- one part or more, with a separator between them
abbrev pub listed : {C : Type 0} → C → Re C → Re C
listed c r = r ⨾ repeated c r

-- any number of lists of tokens with a property, one after the other
pub data Repeats {T : Type 0} (P : List T → Type 0) : List T → Type 0 where
  none : {u : List T} → u ≡ [] → Repeats P u
  more : {u : List T} (a b : List T) → u ≡ a ++ b → P a → Repeats P b → Repeats P u

-- these tokens are a text of the grammar
unfoldable pub In : {C T : Type 0} → Alphabet C T → Re C → List T → Type 0
In Σ empty u = u ≡ []
In {T = T} Σ (one c) u = (t : T) × (u ≡ t ∷ []) × IsTrue (Σ.fits c t)
In {T = T} Σ (seq r s) u = (a : List T) × (b : List T) × (u ≡ a ++ b) × In Σ r a × In Σ s b
In Σ (alt r s) u = In Σ r u ⊎ In Σ s u
In Σ (many r) u = Repeats (In Σ r) u

-- the empty list of tokens is a text
abbrev pub nullable : {C : Type 0} → Re C → Bool
nullable empty = true
nullable (one c) = false
nullable (seq r s) = nullable r && nullable s
nullable (alt r s) = nullable r || nullable s
nullable (many r) = true

-- one part after the other, and an empty first one left out
abbrev pub joined : {C : Type 0} → Re C → Re C → Re C
joined empty s = s
joined (one c) s = seq (one c) s
joined (seq a b) s = seq (seq a b) s
joined (alt a b) s = seq (alt a b) s
joined (many a) s = seq (many a) s

abbrev pub chain : {C : Type 0} → Option (Re C) → Re C → Option (Re C)
chain None s = None
chain (Some r) s = Some (joined r s)

abbrev pub either : {C : Type 0} → Option (Re C) → Option (Re C) → Option (Re C)
either None o = o
either (Some r) None = Some r
either (Some r) (Some s) = Some (alt r s)

-- Brzozowski's derivative: what follows a token in the texts that begin with it, where there is such a text. The test says
-- of which classes the token is.
abbrev pub derivative : {C : Type 0} → (C → Bool) → Re C → Option (Re C)
derivative f empty = None
derivative f (one c) = if f c then Some empty else None
derivative f (seq r s) = either (chain (derivative f r) s) (if nullable r then derivative f s else None)
derivative f (alt r s) = either (derivative f r) (derivative f s)
derivative f (many r) = chain (derivative f r) (many r)

abbrev pub after : {C T : Type 0} → Alphabet C T → T → Re C → Option (Re C)
after Σ t r = derivative (λ c. Σ.fits c t) r

abbrev pub next : {C T : Type 0} → List T → Option (Re C) → (Re C → Option (List T)) → Option (List T)
next rest None go = Some rest
next rest (Some r) go = go r

-- The rest of the tokens from the first one on with which no text goes on, where there is one.
unfoldable pub verdict : {C T : Type 0} → Alphabet C T → Re C → List T → Option (List T)
verdict Σ r [] = None
verdict Σ r (t ∷ ts) = next (t ∷ ts) (after Σ t r) (λ s. verdict Σ s ts)
