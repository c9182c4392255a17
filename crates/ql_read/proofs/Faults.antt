-- Where the reader of a packet stops, the tokens have their fault.
use Rattle.std.proofs.Common.{arith, ◌≡◌, ◌≤◌, ◌+◌, ℕ, suc, length, List, [], ◌∷◌, ◌++◌, inr, refl, sym, ◌∙◌, ap, subst, append_assoc}
use Rattle.std.proofs.lemmas.List.{append_cancel_right}
use Rattle.ql_lex.specs.declared.token.Sign.TheVariants as signs
use Rattle.ql_lex.specs.Tokens.{Lexeme}
use Rattle.ql_grammar.specs.declared.fault.ParseKind.TheVariants.{Syntax, TooMany}
use Rattle.ql_tree.specs.declared.statement.TheConstants.{MAX_STATEMENTS}
use Rattle.token_grammar.specs.Reading.{first_place}
use Rattle.ql_grammar.specs.Classes.{the_end}
use Rattle.token_grammar.specs.Language.{one, In}
use Rattle.ql_grammar.specs.steps.Grammar.{packet, statement}
use Rattle.ql_grammar.specs.Parts.{IsSign}
use Rattle.ql_grammar.specs.Packets.{IsPacket, BeginsLong, BeginsPacket, IsFault}
use Rattle.ql_read.specs.steps.PacketReading.{LeavesPackets, IsTooLong}
use Rattle.ql_grammar.specs.Statements.{IsStatement}
use Rattle.ql_grammar.proofs.PacketAgreement.{agree_end, packet_text, packet_value}
use Rattle.ql_read.proofs.PacketSteps.{start_begins}
use Rattle.token_grammar.proofs.Laws.{some_text}
use Rattle.ql_grammar.proofs.StatementAgreement.{statement_agrees}
use Rattle.token_grammar.proofs.Lists.{listed_last}
use Rattle.token_grammar.proofs.Verdicts.{Leaving, verdict_some}
use Rattle.ql_grammar.specs.Alphabet.{sphinxql}

-- one token, and then others
behind_one : (front : List Lexeme) (next : Lexeme) (b : List Lexeme) → (front ++ next ∷ []) ++ b ≡ front ++ next ∷ b
behind_one front next b = append_assoc front (next ∷ []) b

-- The tokens before the rest begin a packet, and with the next one none does.
goes_so_far : {tokens rest : List Lexeme} (l : Leaving sphinxql (packet 31) tokens rest) → BeginsPacket l.before
goes_so_far l =
    let (w, i) = l.goes in
    let (list, is, few) = packet_value 31 (l.before ++ w) i in
    record { behind = w; list = list; few = few; is = is }

stops_there : {tokens rest : List Lexeme} (l : Leaving sphinxql (packet 31) tokens rest) → BeginsPacket (l.before ++ l.next ∷ []) → ⊥
stops_there l b =
    l.stops b.behind (packet_text 31 b.list (l.before ++ l.next ∷ b.behind) (subst (λ u. IsPacket b.list u) (behind_one l.before l.next b.behind) b.is) b.few)

-- The place is that of the next token.
place_of : {place : ℕ} {rest behind : List Lexeme} {next : Lexeme} → place ≡ first_place sphinxql rest → rest ≡ next ∷ behind → place ≡ next.at
place_of at is = at ∙ ap (first_place sphinxql) is

-- No packet of any length goes on either.
stops_long : {tokens : List Lexeme} {place : ℕ} (h : LeavesPackets tokens place) (l : Leaving sphinxql (packet 31) tokens h.rest) → BeginsLong (l.before ++ l.next ∷ []) → ⊥
stops_long {tokens} {place} h l b =
    let more : ℕ = 31 + length b.list in
    let room : MAX_STATEMENTS ≤ more + 1 = omega arith in
    let few : length b.list ≤ suc more = omega arith in
    let m = verdict_some sphinxql tokens (packet more) h.rest (h.leaves more room) in
    let heads : m.next ≡ l.next = cc (m.rest_is, l.rest_is) in
    let behinds : m.later ≡ l.later = cc (m.rest_is, l.rest_is) in
    let fronts : m.before ≡ l.before = append_cancel_right m.before l.before h.rest (ap (λ u. m.before ++ u) m.rest_is ∙ sym m.is ∙ l.is ∙ sym (ap (λ u. l.before ++ u) l.rest_is)) in
    let text = packet_text more b.list (l.before ++ l.next ∷ b.behind) (subst (λ u. IsPacket b.list u) (behind_one l.before l.next b.behind) b.is) few in
    m.stops b.behind (subst (λ (x : Lexeme). In sphinxql (packet more) (m.before ++ x ∷ b.behind)) (sym heads) (subst (λ u. In sphinxql (packet more) (u ++ l.next ∷ b.behind)) (sym fronts) text))

pub syntax_fault : {tokens : List Lexeme} {place : ℕ} → LeavesPackets tokens place → IsFault tokens (record { place = place; kind = Syntax })
syntax_fault {tokens} {place} h =
    let room : MAX_STATEMENTS ≤ 31 + 1 = omega arith in
    let l = verdict_some sphinxql tokens (packet 31) h.rest (h.leaves 31 room) in
    record {
      front = l.before;
      next = l.next;
      behind = l.later;
      is = l.is;
      place = place_of h.place_is l.rest_is;
      begins = goes_so_far l;
      stops = stops_there l;
      kind = stops_long h l;
    }

-- A packet that is too long goes on with the next token.
begins_long : {tokens now : List Lexeme} (h : IsTooLong tokens now) (t : Lexeme) (w : List Lexeme) → In sphinxql statement (t ∷ w) → BeginsLong ((h.used ++ h.semicolon) ++ t ∷ [])
begins_long h t w i =
    let (x, p) = statement_agrees.value (t ∷ w) i in
    let (end, j) = some_text sphinxql (one the_end) in
    let list = listed_last (IsSign signs.Semicolon) IsStatement h.list x h.used h.semicolon (t ∷ w) h.has h.behind p in
    let front = h.used ++ h.semicolon in
    let same = append_assoc front (t ∷ []) (w ++ end) ∙ sym (ap (λ v. v ++ end) (sym (append_assoc h.used h.semicolon (t ∷ w))) ∙ append_assoc front (t ∷ w) end) in
    record {
      behind = w ++ end;
      list = h.list ++ x ∷ [];
      is = (h.used ++ (h.semicolon ++ t ∷ w), end, same, list, ([], end, refl, inr refl, (agree_end.value end j).1));
    }

pub too_many_fault : {tokens now : List Lexeme} {place : ℕ} → IsTooLong tokens now → place ≡ first_place sphinxql now → IsFault tokens (record { place = place; kind = TooMany })
too_many_fault {tokens} {now} {place} h at =
    let room : 31 + 1 ≡ MAX_STATEMENTS = refl in
    let l = verdict_some sphinxql tokens (packet 31) now (h.leaves 31 room) in
    let fronts : h.used ++ h.semicolon ≡ l.before = append_cancel_right (h.used ++ h.semicolon) l.before now (sym h.is ∙ l.is ∙ sym (ap (λ u. l.before ++ u) l.rest_is)) in
    let (t, v, is, (w, i)) = start_begins h.starts in
    let heads : t ≡ l.next = cc (is, l.rest_is) in
    let long = begins_long h l.next w (subst (λ (x : Lexeme). In sphinxql statement (x ∷ w)) heads i) in
    record {
      front = l.before;
      next = l.next;
      behind = l.later;
      is = l.is;
      place = place_of at l.rest_is;
      begins = goes_so_far l;
      stops = stops_there l;
      kind = subst (λ u. BeginsLong (u ++ l.next ∷ [])) fronts long;
    }
