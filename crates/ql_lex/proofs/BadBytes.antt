-- Places at which nothing begins.
use Rattle.std.proofs.Common.{◌≡◌, ℕ, ◌+◌, ◌-◌, ◌<◌, ◌≤◌, true, false, List, get_or, slice_range, length, drop, refl, sym, ap, ◌∙◌, subst, arith, ⊎_elim, get_or-drop}
use Rattle.std.specs.List.{list_all}
use Rattle.std.proofs.lemmas.Bool.{and_parts, cases_order, false≢true, both_ways}
use Rattle.ql_lex.specs.declared.fault.LexKind.{LexKind}
use Rattle.ql_lex.specs.declared.fault.LexKind.TheVariants as kinds
use Rattle.ql_lex.specs.declared.part.Part.{Part}
use Rattle.ql_lex.specs.declared.part.Part.TheVariants as parts
use Rattle.ql_lex.specs.declared.token.TokenKind.{TokenKind}
use Rattle.ql_lex.specs.declared.token.TokenKind.TheVariants.{Name, Quoted, Number, Text, SysVar, Sign, End}
use Rattle.ql_lex.specs.Shapes.{is_letter, is_name_byte, is_variable_byte, is_word, IsNamed}
use Rattle.ql_lex.specs.Tokens.{IsToken, IsComment, Stands, IsUnclosed, IsOpenComment, open_text, open_name, IsFaulty, IsBad}
use Rattle.ql_lex.proofs.Heads.{head, head_quote, letter_some}
use Rattle.ql_lex.proofs.PartHeads.{kind_head, same_kind, stands_head, text_head, digits_head, named_head, unclosed_head}
use Rattle.ql_lex.proofs.Slices.{slice_at}
use Rattle.ql_lex.proofs.Runs.{passes_at}
use Rattle.ql_lex.proofs.Enclosed.{QuotesAt, quotes_from, inside_from}

-- what is wrong at a place, by the head of its byte
pub no_fault : (text : List ℕ) (at h : ℕ) → head (get_or text at 0) ≡ h
    → (h ≡ 4 → ⊥) → (h ≡ 3 → ⊥) → (h ≡ 7 → IsOpenComment text at → ⊥) → (h ≡ 5 → IsUnclosed text at → ⊥)
    → ((kind : TokenKind) (to : ℕ) → to ≤ length text → kind_head kind ≡ h → IsNamed kind (slice_range text at to) → ⊥)
    → (kind : LexKind) → IsFaulty text at kind → ⊥
no_fault text at h is quote digit slash back long kinds.NotUtf8 fault = quote (sym is ∙ text_head text at fault.to fault.quoted)
no_fault text at h is quote digit slash back long kinds.UnclosedQuote fault =
    ⊎_elim (λ four. quote (sym is ∙ four)) (λ five. back (sym is ∙ five) fault) (unclosed_head text at fault)
no_fault text at h is quote digit slash back long kinds.UnclosedComment fault = slash (sym is ∙ ap head fault.opens.slash) fault
no_fault text at h is quote digit slash back long kinds.BadCharacter fault = fault
no_fault text at h is quote digit slash back long kinds.NumberTooLarge fault = digit (sym is ∙ digits_head text at fault.to fault.digits)
no_fault text at h is quote digit slash back long kinds.NumberWithPoint fault = digit (sym is ∙ digits_head text at fault.to fault.digits)
no_fault text at h is quote digit slash back long kinds.NameTooLong fault =
    long fault.kind fault.to fault.within (sym (named_head fault.kind text at fault.to fault.named) ∙ is) fault.named

-- what stands at a place, by the head of its byte
pub no_part : (text : List ℕ) (at h : ℕ) → head (get_or text at 0) ≡ h
    → (h ≡ 1 → ⊥) → (h ≡ 7 → (to : ℕ) → IsComment text at to → ⊥)
    → ((kind : TokenKind) (to : ℕ) → kind_head kind ≡ h → IsToken kind text at to → ⊥)
    → (part : Part) → Stands text at part → ⊥
no_part text at h is blank comment token parts.Blank stands = blank (sym is ∙ stands_head text at parts.Blank stands)
no_part text at h is blank comment token (parts.Comment to) stands = comment (sym is ∙ stands_head text at (parts.Comment to) stands) to stands
no_part text at h is blank comment token (parts.Token kind to) stands = token kind to (sym (stands_head text at (parts.Token kind to) stands) ∙ is) stands

-- `/` without `*`
pub slash_bad : (text : List ℕ) (at : ℕ) → at < length text → get_or text at 0 ≡ 47 → (get_or text (at + 1) 0 ≡ 42 → ⊥) → IsBad text at
slash_bad text at within slash no_star = record {
  within = within;
  no_part = no_part text at 7 (ap head slash) (λ e. omega arith) (λ e to is. no_star is.opens.star) (λ kind to e is. no_kind kind e);
  no_other = no_fault text at 7 (ap head slash) (λ e. omega arith) (λ e. omega arith) (λ e is. no_star is.opens.star) (λ e is. omega arith) (λ kind to w e is. no_kind kind e);
}
  where
    no_kind : (kind : TokenKind) → kind_head kind ≡ 7 → ⊥
    no_kind Name e = omega arith
    no_kind Quoted e = omega arith
    no_kind Number e = omega arith
    no_kind Text e = omega arith
    no_kind SysVar e = omega arith
    no_kind Sign e = omega arith
    no_kind End e = omega arith

-- the first byte of the name of a system variable
pub variable_letter : (text : List ℕ) (at to : ℕ) → IsNamed SysVar (slice_range text at to) → is_letter (get_or (slice_range text at to) 2 0) ≡ true
variable_letter text at to named =
    subst (λ b. is_letter b ≡ true) (get_or-drop 2 (slice_range text at to) 0 0) (and_parts (is_letter (get_or (drop 2 (slice_range text at to)) 0 0)) (list_all is_variable_byte (drop 2 (slice_range text at to))) named.2).0

-- what begins a system variable
pub named_variable : (text : List ℕ) (at to : ℕ) → IsNamed SysVar (slice_range text at to) → (get_or text (at + 1) 0 ≡ 64) × (is_letter (get_or text (at + 2) 0) ≡ true)
named_variable text at to named =
    let second = slice_at text at to 1 (omega (arith, named.1)) in
    let letter : is_letter (get_or (slice_range text at to) 2 0) ≡ true = variable_letter text at to named in
    let third = slice_at text at to 2 (letter_some (get_or (slice_range text at to) 2 0) letter) in
    (sym second.1 ∙ named.1, subst (λ b. is_letter b ≡ true) third.1 letter)

-- `@` that begins no system variable
pub at_bad : (text : List ℕ) (at : ℕ) → at < length text → get_or text at 0 ≡ 64 → (get_or text (at + 1) 0 ≡ 64 → is_letter (get_or text (at + 2) 0) ≡ true → ⊥) → IsBad text at
at_bad text at within is_at no_name =
    let no_named : (kind : TokenKind) (to : ℕ) → kind_head kind ≡ 6 → IsNamed kind (slice_range text at to) → ⊥ =
    λ kind to e named. let both = named_variable text at to (subst (λ k. IsNamed k (slice_range text at to)) (same_kind kind SysVar e) named) in no_name both.0 both.1 in
    record {
      within = within;
      no_part = no_part text at 6 (ap head is_at) (λ e. omega arith) (λ e to is. omega arith) (λ kind to e is.
          let variable : IsToken SysVar text at to = subst (λ k. IsToken k text at to) (same_kind kind SysVar e) is in
          no_named SysVar to refl variable.lexeme.0);
      no_other = no_fault text at 6 (ap head is_at) (λ e. omega arith) (λ e. omega arith) (λ e is. omega arith) (λ e is. omega arith) (λ kind to w e is. no_named kind to e is);
    }

not_both : (h : ℕ) → h ≡ 4 → h ≡ 5 → ⊥
not_both h four five = omega arith

-- where no name stands between a backquote and the next one, none stands in backquotes there
no_quoted : (text : List ℕ) (at last : ℕ) → QuotesAt 96 text at last → ((k : ℕ) → at + 1 ≤ k → k < last → get_or text k 0 ≡ 96 → ⊥) → is_word is_name_byte (slice_range text (at + 1) last) ≡ false → (to : ℕ) → to ≤ length text → IsNamed Quoted (slice_range text at to) → ⊥
no_quoted text at last quotes next no_word to within named =
    let others : QuotesAt 96 text at (to - 1) = (quotes_from 96 text at to within named.0).1 in
    let word : is_word is_name_byte (slice_range text (at + 1) (to - 1)) ≡ true = subst (λ (l : List ℕ). is_word is_name_byte l ≡ true) (inside_from 96 text at to within named.0) named.1 in
    ⊎_elim (λ (same : to - 1 ≡ last). both_ways (is_word is_name_byte (slice_range text (at + 1) last)) no_word (subst (λ n. is_word is_name_byte (slice_range text (at + 1) n) ≡ true) same word))
    (⊎_elim (λ (below : to - 1 < last). next (to - 1) (omega (arith, others.before)) below others.closes)
    (λ (above : last < to - 1).
    let each : list_all is_name_byte (slice_range text (at + 1) (to - 1)) ≡ true = (and_parts (is_letter (get_or (slice_range text (at + 1) (to - 1)) 0 0)) (list_all is_name_byte (slice_range text (at + 1) (to - 1))) word).1 in
    let passes : is_name_byte (get_or text last 0) ≡ true = passes_at is_name_byte text (at + 1) (to - 1) last (omega (arith, others.within)) (omega (arith, quotes.before)) above each in
    false≢true (subst (λ b. is_name_byte b ≡ true) quotes.closes passes)))
    (cases_order (to - 1) last)

-- a backquote, and the next one after it, with no name between them
pub quoted_bad : (text : List ℕ) (at last : ℕ) → QuotesAt 96 text at last → ((k : ℕ) → at + 1 ≤ k → k < last → get_or text k 0 ≡ 96 → ⊥) → is_word is_name_byte (slice_range text (at + 1) last) ≡ false → IsBad text at
quoted_bad text at last quotes next no_word =
    record {
      within = omega (arith, quotes.before, quotes.within);
      no_part = no_part text at 5 (ap head quotes.opens) (λ e. omega arith) (λ e to is. omega arith) (λ kind to e is.
          let token : IsToken Quoted text at to = subst (λ k. IsToken k text at to) (same_kind kind Quoted e) is in
          no_quoted text at last quotes next no_word to token.within token.lexeme.0);
      no_other = no_fault text at 5 (ap head quotes.opens) (λ e. omega arith) (λ e. omega arith) (λ e is. omega arith)
          (λ e is. no_open is)
          (λ kind to w e is. no_quoted text at last quotes next no_word to w (subst (λ k. IsNamed k (slice_range text at to)) (same_kind kind Quoted e) is));
    }
  where
    no_open : IsUnclosed text at → ⊥
    no_open (open_text quote none) = not_both (head (get_or text at 0)) (head_quote (get_or text at 0) quote) (ap head quotes.opens)
    no_open (open_name quote none) = none last quotes.before quotes.closes
