-- With which tokens the texts of a grammar begin, and which may follow it. All of it is computed from the classes alone.
use Rattle.std.specs.Prelude.{◌≡◌, List, [], ◌∷◌, Bool, true, false, not, ◌&&◌, ◌||◌}
use Rattle.token_grammar.specs.Alphabets.{Alphabet}
use Rattle.token_grammar.specs.Language.{Re, empty, one, seq, alt, many, In, nullable}

-- the token is of one of the classes
abbrev pub fits_some : {C T : Type 0} → Alphabet C T → List C → T → Bool
fits_some Σ [] t = false
fits_some Σ (c ∷ cs) t = Σ.fits c t || fits_some Σ cs t

-- some token may be of the class and of one of the others
abbrev pub meets_some : {C T : Type 0} → Alphabet C T → List C → C → Bool
meets_some Σ [] d = false
meets_some Σ (c ∷ cs) d = Σ.meets c d || meets_some Σ cs d

-- the class is within one of the others
abbrev pub is_in : {C T : Type 0} → Alphabet C T → C → List C → Bool
is_in Σ c [] = false
is_in Σ c (d ∷ ds) = Σ.within c d || is_in Σ c ds

-- each of the classes is within one of the others
abbrev pub all_in : {C T : Type 0} → Alphabet C T → List C → List C → Bool
all_in Σ [] ds = true
all_in Σ (c ∷ cs) ds = is_in Σ c ds && all_in Σ cs ds

-- No text of the grammar begins with a token of these classes ..
abbrev pub IsFree : {C T : Type 0} → Alphabet C T → List C → Re C → Type 0
IsFree {T = T} Σ cs r = (t : T) (u : List T) → fits_some Σ cs t ≡ true → In Σ r (t ∷ u) → ⊥

-- .. as a test
abbrev pub apart : {C T : Type 0} → Alphabet C T → List C → Re C → Bool
apart Σ cs empty = true
apart Σ cs (one d) = not (meets_some Σ cs d)
apart Σ cs (seq r s) = apart Σ cs r && (not (nullable r) || apart Σ cs s)
apart Σ cs (alt r s) = apart Σ cs r && apart Σ cs s
apart Σ cs (many r) = apart Σ cs r

-- What goes on with the one part isn't taken for what follows it: the part s, and then what begins with none of the others.
abbrev pub may_follow : {C T : Type 0} → Alphabet C T → List C → Re C → List C → Bool
may_follow Σ cs s ds = apart Σ cs s && (not (nullable s) || all_in Σ cs ds)
