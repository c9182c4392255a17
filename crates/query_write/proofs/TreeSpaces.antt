-- Rows of tokens that may stand where a node stands: they begin as a node does, a blank or `)` may follow, and each can be read.
use Rattle.std.proofs.Common.{◌≡◌, ℕ, List, [], ◌∷◌, ◌++◌, Bool, true, false, Option, refl, sym, subst, append_assoc}
use Rattle.std.specs.Prelude.{All}
use Rattle.std.proofs.lemmas.List.Elements.{All-nil, All-cons, All-append}
use Rattle.doc_types.specs.declared.schema.Schema.{Schema}
use Rattle.query_write.specs.Written.{WrittenToken, Space, Open, Close, joined}
use Rattle.query_write.specs.steps.Signs.{CanBeRead, AreSpaced, follows, is_atom, is_closed, is_spaced}

-- the first token is that of a node
abbrev pub begins_atom : List WrittenToken → Bool
begins_atom [] = false
begins_atom (token ∷ tokens) = is_atom token

-- the tokens stand after this one
abbrev pub stands_after : WrittenToken → List WrittenToken → Bool
stands_after token [] = true
stands_after token (next ∷ tokens) = follows token next

-- the tokens stand after a node
abbrev pub is_ended : List WrittenToken → Bool
is_ended [] = true
is_ended (token ∷ tokens) = is_closed token

pub spaced_first : (token : WrittenToken) (tokens : List WrittenToken) → stands_after token tokens ≡ true → AreSpaced tokens → AreSpaced (token ∷ tokens)
spaced_first token [] h spaced = tt
spaced_first token (next ∷ tokens) h spaced = (h, spaced)

atom_spaced : (token : WrittenToken) → is_atom token ≡ true → is_spaced token ≡ true
atom_spaced WrittenToken.Space e = e
atom_spaced WrittenToken.Open e = refl
atom_spaced WrittenToken.Close e = refl
atom_spaced WrittenToken.Or e = refl
atom_spaced WrittenToken.Maybe e = refl
atom_spaced WrittenToken.Before e = refl
atom_spaced (WrittenToken.Near n) e = refl
atom_spaced WrittenToken.Sentence e = refl
atom_spaced WrittenToken.Paragraph e = refl
atom_spaced WrittenToken.Not e = refl
atom_spaced (WrittenToken.Word key) e = refl
atom_spaced (WrittenToken.Quoted keys how) e = refl
atom_spaced (WrittenToken.Fields n positions) e = e
atom_spaced (WrittenToken.Zones zones) e = refl
atom_spaced (WrittenToken.Spans zones) e = e

pub after_space : (tokens : List WrittenToken) → begins_atom tokens ≡ true → stands_after Space tokens ≡ true
after_space [] e = refl
after_space (token ∷ tokens) e = atom_spaced token e

pub after_not : (tokens : List WrittenToken) → begins_atom tokens ≡ true → stands_after WrittenToken.Not tokens ≡ true
after_not [] e = refl
after_not (token ∷ tokens) e = e

pub after_close : (tokens : List WrittenToken) → is_ended tokens ≡ true → stands_after Close tokens ≡ true
after_close [] e = refl
after_close (token ∷ tokens) e = e

pub atom_longer : (tokens rest : List WrittenToken) → begins_atom tokens ≡ true → begins_atom (tokens ++ rest) ≡ true
atom_longer [] rest e = cc
atom_longer (token ∷ tokens) rest e = e

-- tokens that stand as a node does
pub record Stands (fold : ℕ → Option ℕ) (schema : Schema) (tokens : List WrittenToken) : Type 0 where
  pub begins : begins_atom tokens ≡ true
  pub spaced : (rest : List WrittenToken) → is_ended rest ≡ true → AreSpaced rest → AreSpaced (tokens ++ rest)
  pub read : All (CanBeRead fold schema) tokens

module _ (fold : ℕ → Option ℕ) (schema : Schema) where
  pub read_cons : (token : WrittenToken) (tokens : List WrittenToken) → CanBeRead fold schema token → All (CanBeRead fold schema) tokens → All (CanBeRead fold schema) (token ∷ tokens)
  read_cons token tokens first rest = All-cons (CanBeRead fold schema) token tokens first rest

  pub read_append : (a b : List WrittenToken) → All (CanBeRead fold schema) a → All (CanBeRead fold schema) b → All (CanBeRead fold schema) (a ++ b)
  read_append a b first second = All-append (CanBeRead fold schema) a b first second

  pub read_none : All (CanBeRead fold schema) []
  read_none = All-nil (CanBeRead fold schema)

module _ {fold : ℕ → Option ℕ} {schema : Schema} where
  -- a node after a blank
  pub spaced_node : (tokens rest : List WrittenToken) → Stands fold schema tokens → is_ended rest ≡ true → AreSpaced rest → AreSpaced (Space ∷ (tokens ++ rest))
  spaced_node tokens rest h ended spaced = spaced_first Space (tokens ++ rest) (after_space (tokens ++ rest) (atom_longer tokens rest h.begins)) (h.spaced rest ended spaced)

  -- one token
  pub one_stands : (token : WrittenToken) → is_atom token ≡ true → ((rest : List WrittenToken) → is_ended rest ≡ true → stands_after token rest ≡ true) → CanBeRead fold schema token → Stands fold schema (token ∷ [])
  one_stands token atom after read = record {
    begins = atom;
    spaced = λ rest ended spaced. spaced_first token rest (after rest ended) spaced;
    read = read_cons fold schema token [] read (read_none fold schema);
  }

  -- two nodes with an operator between them
  pub joined_stands : (a b : List WrittenToken) (operator : WrittenToken) → is_spaced operator ≡ true → follows operator Space ≡ true → CanBeRead fold schema operator → Stands fold schema a → Stands fold schema b → Stands fold schema (joined a operator b)
  joined_stands a b operator before after read first second = record {
    begins = atom_longer a (Space ∷ operator ∷ Space ∷ b) first.begins;
    spaced = λ rest ended spaced.
        subst AreSpaced (sym (append_assoc a (Space ∷ operator ∷ Space ∷ b) rest))
        (first.spaced (Space ∷ operator ∷ Space ∷ (b ++ rest)) refl (before, (after, spaced_node b rest second ended spaced)));
    read = read_append fold schema a (Space ∷ operator ∷ Space ∷ b) first.read (read_cons fold schema Space (operator ∷ Space ∷ b) tt (read_cons fold schema operator (Space ∷ b) read (read_cons fold schema Space b tt second.read)));
  }

  -- a node between tokens that open and `)`
  pub closed_spaced : (tokens rest : List WrittenToken) → Stands fold schema tokens → is_ended rest ≡ true → AreSpaced rest → AreSpaced (Space ∷ ((tokens ++ Close ∷ []) ++ rest))
  closed_spaced tokens rest h ended spaced =
      subst (λ x. AreSpaced (Space ∷ x)) (sym (append_assoc tokens (Close ∷ []) rest))
      (spaced_node tokens (Close ∷ rest) h refl (spaced_first Close rest (after_close rest ended) spaced))

  pub closed_read : (tokens : List WrittenToken) → Stands fold schema tokens → All (CanBeRead fold schema) (Space ∷ (tokens ++ Close ∷ []))
  closed_read tokens h = read_cons fold schema Space (tokens ++ Close ∷ []) tt (read_append fold schema tokens (Close ∷ []) h.read (read_cons fold schema Close [] tt (read_none fold schema)))

  -- a node between parentheses with blanks inside of them
  pub group_stands : (tokens : List WrittenToken) → Stands fold schema tokens → Stands fold schema (Open ∷ Space ∷ (tokens ++ Space ∷ Close ∷ []))
  group_stands tokens h = record {
    begins = refl;
    spaced = λ rest ended spaced. (
      refl,
      subst (λ x. AreSpaced (Space ∷ x)) (sym (append_assoc tokens (Space ∷ Close ∷ []) rest))
          (spaced_node tokens (Space ∷ Close ∷ rest) h refl (refl, spaced_first Close rest (after_close rest ended) spaced)),
    );
    read = read_cons fold schema Open (Space ∷ (tokens ++ Space ∷ Close ∷ [])) tt (read_cons fold schema Space (tokens ++ Space ∷ Close ∷ []) tt
        (read_append fold schema tokens (Space ∷ Close ∷ []) h.read (read_cons fold schema Space (Close ∷ []) tt (read_cons fold schema Close [] tt (read_none fold schema)))));
  }
