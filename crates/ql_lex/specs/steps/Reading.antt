-- What the readers of a text answer.
use Rattle.std.specs.Prelude.{◌≡◌, ◌≢◌, ℕ, false, List, Result, Ok, Err}
use Rattle.std.specs.Char.{is_ascii_digit}
use Rattle.ql_lex.specs.declared.fault.LexKind.{LexKind}
use Rattle.ql_lex.specs.declared.part.Part.{Part}
use Rattle.ql_lex.specs.Shapes.{is_blank, is_letter, is_quote}
use Rattle.ql_lex.specs.Tokens.{Stands, Fails}

-- What was read at a place: the part that stands there, or what is wrong there.
abbrev pub Reads : List ℕ → ℕ → Result Part LexKind → Type 0
Reads text place (Ok part) = Stands text place part
Reads text place (Err kind) = Fails text place kind

-- No blank, no comment and no token but a sign begins with this byte.
pub record IsOther (b : ℕ) : Type 0 where
  pub blank : is_blank b ≡ false
  pub letter : is_letter b ≡ false
  pub digit : is_ascii_digit b ≡ false
  pub quote : is_quote b ≡ false
  pub backquote : b ≢ 96
  pub at : b ≢ 64
  pub slash : b ≢ 47
