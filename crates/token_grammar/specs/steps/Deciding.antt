-- Which part of a choice the next tokens decide for.
use Rattle.std.specs.Prelude.{List, [], ◌∷◌, Bool, true, false, not, ◌&&◌, ◌||◌, Option, Some, None}
use Rattle.token_grammar.specs.Alphabets.{Alphabet}
use Rattle.token_grammar.specs.Language.{Re, empty, one, seq, alt, many, nullable, derivative}
use Rattle.token_grammar.specs.Firsts.{is_in, apart}

-- some text begins with a token of which the test says of which classes it is
abbrev pub begins : {C : Type 0} → (C → Bool) → Re C → Bool
begins f empty = false
begins f (one c) = f c
begins f (seq r s) = begins f r || (nullable r && begins f s)
begins f (alt r s) = begins f r || begins f s
begins f (many r) = begins f r

-- every text begins with a token of this class
abbrev pub begun : {C T : Type 0} → Alphabet C T → C → Re C → Bool
begun Σ c empty = false
begun Σ c (one d) = Σ.within d c
begun Σ c (seq r s) = begun Σ c r
begun Σ c (alt r s) = begun Σ c r && begun Σ c s
begun Σ c (many r) = false

-- no text is empty or begins with a token of this class
abbrev pub excludes : {C T : Type 0} → Alphabet C T → C → Re C → Bool
excludes Σ c r = not (nullable r) && apart Σ (c ∷ []) r

-- no text of what follows the first token begins with one of the class d, nor is it empty, unless d is among the classes
-- with which the part may go on
abbrev pub clear : {C T : Type 0} → Alphabet C T → C → List C → Option (Re C) → Bool
clear Σ d cs None = true
clear Σ d cs (Some r) = apart Σ (d ∷ []) r && (not (nullable r) || is_in Σ d cs)

-- every text of what follows the first token begins with one of the class
abbrev pub begun_after : {C T : Type 0} → Alphabet C T → C → Option (Re C) → Bool
begun_after Σ d None = true
begun_after Σ d (Some r) = begun Σ d r

-- The part s is dropped for the part r by two tokens of the classes c and d: r begins with each token of c, and s doesn't go
-- on with both ..
abbrev pub drops_by_two : {C T : Type 0} → Alphabet C T → C → C → List C → Re C → Re C → Bool
drops_by_two Σ c d cs s r = not (nullable s) && clear Σ d cs (derivative (Σ.meets c) s) && begins (Σ.within c) r

-- .. or by a token of the class c and one that isn't of d, when after c only d goes on with s.
abbrev pub drops_by_other : {C T : Type 0} → Alphabet C T → C → C → Re C → Re C → Bool
drops_by_other Σ c d s r = not (nullable s) && begun_after Σ d (derivative (Σ.meets c) s) && begins (Σ.within c) r
