-- What tokens stand for.
use Rattle.std.specs.Prelude.{ℕ, List, [], ◌∷◌, ◌==◌, if◌then◌else◌}
use Rattle.std.specs.Str.{str_to_ascii_lowercase}
use Rattle.ql_lex.specs.declared.token.TokenKind.{TokenKind}
use Rattle.ql_lex.specs.Shapes.{inside, bare_name}

-- the name in a token, with its ASCII capitals made small
abbrev pub name_of : TokenKind → List ℕ → List ℕ
name_of kind bytes = str_to_ascii_lowercase (bare_name kind bytes)

-- what `\` and this byte stand for: `n`, `r`, `t` and `0` for a line feed, a carriage return, a tab and a NUL, and any other
-- byte for itself
abbrev pub escaped : ℕ → ℕ
escaped b = if b == 110 then 10 else if b == 114 then 13 else if b == 116 then 9 else if b == 48 then 0 else b

-- what stands between quotes, with its escapes resolved
abbrev pub unescaped : List ℕ → List ℕ
unescaped [] = []
unescaped (b ∷ []) = b ∷ []
unescaped (b ∷ c ∷ bytes) = if b == 92 then (escaped c ∷ unescaped bytes) else (b ∷ unescaped (c ∷ bytes))

-- the value of a text
abbrev pub text_of : List ℕ → List ℕ
text_of bytes = unescaped (inside bytes)
