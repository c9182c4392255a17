-- Statements in a row, and how a packet ends.
use Rattle.std.proofs.Common.{arith, ◌≡◌, ◌<◌, ◌+◌, ◌-◌, ℕ, zero, suc, length, length-append, List, [], ◌∷◌, ◌++◌, Bool, true, false, Option, Some, None, inl, inr, refl, sym, ◌∙◌, ap, subst, append_assoc}
use Rattle.std.specs.Prelude.{Result, Err}
use Rattle.std.specs.Result.{IsErrAnd}
use Rattle.std.proofs.lemmas.Result.{err_from_is_err_and}
use Rattle.srch_base.specs.declared.faults.Or.{Or}
use Rattle.srch_base.specs.declared.faults.Or.TheVariants.{Fault}
use Rattle.ql_lex.specs.declared.token.Sign.TheVariants as signs
use Rattle.ql_lex.specs.Tokens.{Lexeme}
use Rattle.ql_grammar.specs.declared.keyword.Keyword.{Keyword}
use Rattle.ql_grammar.specs.declared.keyword.Keyword.TheVariants as keywords
use Rattle.ql_grammar.specs.declared.kind.Kind.{Kind}
use Rattle.ql_grammar.specs.declared.kind.Kind.TheVariants as kinds
use Rattle.ql_tree.specs.declared.statement.TheConstants.{MAX_STATEMENTS}
use Rattle.ql_tree.specs.declared.statement.Statement.{Statement}
use Rattle.ql_grammar.specs.Keywords.{begins_statement}
use Rattle.ql_grammar.specs.Tokens.{kind}
use Rattle.token_grammar.specs.Reading.{first_place}
use Rattle.token_grammar.specs.Language.{derivative}
use Rattle.token_grammar.specs.Firsts.{IsFree}
use Rattle.token_grammar.proofs.Beginnings.{apart_free, begins_some, begins_no}
use Rattle.token_grammar.proofs.Laws.{has_nullable}
use Rattle.ql_grammar.specs.Classes.{the_sign, the_end, fits}
use Rattle.token_grammar.specs.Language.{Re, one, seq, alt, In, after, next, verdict}
use Rattle.ql_grammar.specs.steps.Grammar.{more_statements, statement}
use Rattle.ql_grammar.specs.Parts.{IsSign}
use Rattle.ql_grammar.specs.Packets.{IsPacket}
use Rattle.ql_read.specs.steps.PacketReading.{LeavesPackets, IsTooLong, ReadsPacket, StatementsRead, listed_in}
use Rattle.token_grammar.specs.Firsts.{apart}
use Rattle.token_grammar.specs.steps.Deciding.{begins}
use Rattle.ql_read.specs.steps.Progress.{is_start, IsStart}
use Rattle.token_grammar.specs.Reading.{TakesPart, FailsPart, IsNextOf}
use Rattle.ql_grammar.specs.steps.GoingOn.{select_goes_on}
use Rattle.ql_grammar.specs.Statements.{IsStatement}
use Rattle.token_grammar.proofs.Laws.{InAny, after_to}
use Rattle.token_grammar.proofs.Laws.{some_text}
use Rattle.token_grammar.proofs.Lists.{listed_last}
use Rattle.token_grammar.proofs.Rows.{fits_next}
use Rattle.ql_grammar.proofs.ClassKinds.{end_is}
use Rattle.token_grammar.proofs.Bools.{clash}
use Rattle.token_grammar.proofs.Verdicts.{verdict_begun}
use Rattle.ql_grammar.specs.Alphabet.{sphinxql}
use Rattle.ql_grammar.specs.Classes.{Class}

-- what follows a statement isn't taken for a part of it
apart_more : (n : ℕ) → apart sphinxql select_goes_on (more_statements n) ≡ true
apart_more zero = refl
apart_more (suc n) = refl

free_more : (n : ℕ) → IsFree sphinxql select_goes_on (more_statements n)
free_more n = apart_free sphinxql select_goes_on (more_statements n) (apart_more n)

-- a token with which no text begins is left
refused : (r : Re Class) (t : Lexeme) (u : List Lexeme) → ((v : List Lexeme) → In sphinxql r (t ∷ v) → ⊥) → verdict sphinxql r (t ∷ u) ≡ Some (t ∷ u)
unfolding verdict
refused r t u never = go (after sphinxql t r) (after_to sphinxql r t)
  where
    go : (o : Option (Re Class)) → ((v : List Lexeme) → InAny sphinxql o v → In sphinxql r (t ∷ v)) → next (t ∷ u) o (λ s. verdict sphinxql s u) ≡ Some (t ∷ u)
    go None back = refl
    go (Some s) back = let (w, h) = some_text sphinxql s in absurd (never w (back w h))

refused_at : (r : Re Class) (before : List Lexeme) (t : Lexeme) (u : List Lexeme) → before ≡ t ∷ u → ((v : List Lexeme) → In sphinxql r (t ∷ v) → ⊥) → verdict sphinxql r before ≡ Some before
refused_at r before t u is never = subst (λ v. verdict sphinxql r v ≡ Some v) (sym is) (refused r t u never)

-- no text of one token begins with one of another class
other_class : (c : Class) (t : Lexeme) → fits c (kind t) ≡ false → (v : List Lexeme) → In sphinxql (one c) (t ∷ v) → ⊥
unfolding In
other_class c t e v (x, is, f) =
    let same : x ≡ t = cc in
    clash (fits c (kind t)) (subst (λ (y : Lexeme). fits c (kind y) ≡ true) same f) e

-- after a `;`
semicolon_taken : (n : ℕ) (t : Lexeme) (u : List Lexeme) → kind t ≡ kinds.Sign signs.Semicolon → verdict sphinxql (more_statements (suc n)) (t ∷ u) ≡ verdict sphinxql (alt (seq statement (more_statements n)) (one the_end)) u
unfolding verdict
semicolon_taken n t u e = ap (λ k. next (t ∷ u) (derivative (λ c. fits c k) (more_statements (suc n))) (λ s. verdict sphinxql s u)) e

last_semicolon_taken : (t : Lexeme) (u : List Lexeme) → kind t ≡ kinds.Sign signs.Semicolon → verdict sphinxql (more_statements zero) (t ∷ u) ≡ verdict sphinxql (one the_end) u
unfolding verdict
last_semicolon_taken t u e = ap (λ k. next (t ∷ u) (derivative (λ c. fits c k) (more_statements zero)) (λ s. verdict sphinxql s u)) e

-- where the end isn't next, a statement is
not_end : (r : Re Class) (before : List Lexeme) → IsNextOf sphinxql the_end before false → verdict sphinxql (alt r (one the_end)) before ≡ verdict sphinxql r before
unfolding In
not_end r before n =
    subst (λ v. verdict sphinxql (alt r (one the_end)) v ≡ verdict sphinxql r v) (sym n.is) (verdict_begun sphinxql n.next n.rest (alt r (one the_end)) r there (λ v h. inl h))
  where
    there : (v : List Lexeme) → In sphinxql (alt r (one the_end)) (n.next ∷ v) → In sphinxql r (n.next ∷ v)
    there v (inl h) = h
    there v (inr h) = absurd (other_class the_end n.next n.fits v h)

-- the token that was taken
semicolon_at : {mid there : List Lexeme} → TakesPart sphinxql (one (the_sign signs.Semicolon)) [] (IsSign signs.Semicolon) mid there → (t : Lexeme) × (mid ≡ t ∷ there) × (kind t ≡ kinds.Sign signs.Semicolon)
semicolon_at {mid} {there} h = let (t, e, k) = h.has in (t, h.is ∙ ap (λ u. u ++ there) e, k)

pub statements_one : {x : Statement} {before now : List Lexeme} → TakesPart sphinxql statement select_goes_on (IsStatement x) before now → StatementsRead before (x ∷ []) now
statements_one {x} {before} {now} h = record {
  others = 0;
  count = refl;
  few = omega arith;
  takes = λ m n e. let same : m ≡ n = omega arith in h.takes (more_statements m) (free_more m) ∙ ap (λ k. verdict sphinxql (more_statements k) now) same;
  used = h.used;
  is = h.is;
  has = h.has;
}

pub statements_more : {list : List Statement} (x : Statement) {before mid there now : List Lexeme} → StatementsRead before list mid → TakesPart sphinxql (one (the_sign signs.Semicolon)) [] (IsSign signs.Semicolon) mid there → IsNextOf sphinxql the_end there false → length list < MAX_STATEMENTS → TakesPart sphinxql statement select_goes_on (IsStatement x) there now → StatementsRead before (list ++ x ∷ []) now
statements_more {list} x {before} {mid} {there} {now} read semi other room h =
    let (t, is, k) = semicolon_at semi in
    record {
      others = suc read.others;
      count = omega (arith, length-append list (x ∷ []), read.count);
      few = omega (arith, length-append list (x ∷ []));
      takes = λ m n e.
          let more : m ≡ suc n + read.others = omega arith in
          read.takes m (suc n) more ∙ ap (verdict sphinxql (more_statements (suc n))) is ∙ semicolon_taken n t there k ∙ not_end (seq statement (more_statements n)) there other ∙ h.takes (more_statements n) (free_more n);
      used = read.used ++ (semi.used ++ h.used);
      is = read.is ∙ ap (λ u. read.used ++ u) (semi.is ∙ ap (λ u. semi.used ++ u) h.is ∙ sym (append_assoc semi.used h.used now)) ∙ sym (append_assoc read.used (semi.used ++ h.used) now);
      has = listed_last (IsSign signs.Semicolon) IsStatement list x read.used semi.used h.used read.has semi.has h.has;
    }

-- the end, alone
alone : (u : List Lexeme) → IsNextOf sphinxql the_end u true → length u ≡ 1 → (t : Lexeme) × (u ≡ t ∷ []) × (kind t ≡ kinds.End)
alone [] n e = absurd (omega arith)
alone (t ∷ []) n e = (t, refl, end_is (kind t) (fits_next n refl))
alone (t ∷ v ∷ u) n e = absurd (omega arith)

pub packet_ends : {list : List Statement} {before now there : List Lexeme} → StatementsRead before list now → there ≡ now → IsNextOf sphinxql the_end there true → length there ≡ 1 → IsPacket list before
packet_ends {list} {before} {now} {there} read same n only =
    let (t, is, k) = alone there n only in
    (read.used, t ∷ [], read.is ∙ ap (λ u. read.used ++ u) (sym same ∙ is), read.has, ([], t ∷ [], refl, inr refl, (t, refl, k)))

pub packet_ends_behind : {list : List Statement} {before mid there : List Lexeme} → StatementsRead before list mid → TakesPart sphinxql (one (the_sign signs.Semicolon)) [] (IsSign signs.Semicolon) mid there → IsNextOf sphinxql the_end there true → length there ≡ 1 → IsPacket list before
packet_ends_behind {list} {before} {mid} {there} read semi n only =
    let (t, is, k) = alone there n only in
    (read.used, semi.used ++ t ∷ [], read.is ∙ ap (λ u. read.used ++ u) (semi.is ∙ ap (λ u. semi.used ++ u) is), read.has, (semi.used, t ∷ [], refl, inl semi.has, (t, refl, k)))

-- The first statement can't be read, ..
pub first_fails : {before : List Lexeme} {e : Or ℕ} → FailsPart sphinxql statement select_goes_on before e → (place : ℕ) → e ≡ Fault place → LeavesPackets before place
first_fails {before} {e} h place is =
    let f = h.fails place is in
    record { rest = f.rest; place_is = f.place_is; leaves = λ more few. f.leaves (more_statements more) (free_more more) }

-- .. or a later one.
pub later_fails : {list : List Statement} {before mid there : List Lexeme} {e : Or ℕ} → StatementsRead before list mid → TakesPart sphinxql (one (the_sign signs.Semicolon)) [] (IsSign signs.Semicolon) mid there → IsNextOf sphinxql the_end there false → length list < MAX_STATEMENTS → FailsPart sphinxql statement select_goes_on there e → (place : ℕ) → e ≡ Fault place → LeavesPackets before place
later_fails {list} {before} {mid} {there} {e} read semi other room h place is =
    let (t, at, k) = semicolon_at semi in
    let f = h.fails place is in
    record {
      rest = f.rest;
      place_is = f.place_is;
      leaves = λ more few.
          let n : ℕ = more - suc read.others in
          let enough : more ≡ suc n + read.others = omega (arith, read.count) in
          read.takes more (suc n) enough ∙ ap (verdict sphinxql (more_statements (suc n))) at ∙ semicolon_taken n t there k ∙ not_end (seq statement (more_statements n)) there other ∙ f.leaves (more_statements n) (free_more n);
    }

-- the classes of a token of a kind
abbrev by_kind : Kind → Class → Bool
by_kind k c = fits c k

-- the kinds with which a statement begins
starts : (w : Keyword) → begins (by_kind (kinds.Keyword w)) statement ≡ begins_statement w
starts keywords.And = refl
starts keywords.As = refl
starts keywords.Asc = refl
starts keywords.Autocommit = refl
starts keywords.Begin = refl
starts keywords.Between = refl
starts keywords.By = refl
starts keywords.Commit = refl
starts keywords.Count = refl
starts keywords.Database = refl
starts keywords.Databases = refl
starts keywords.Delete = refl
starts keywords.Desc = refl
starts keywords.Describe = refl
starts keywords.Distinct = refl
starts keywords.Facet = refl
starts keywords.Flush = refl
starts keywords.From = refl
starts keywords.Global = refl
starts keywords.Group = refl
starts keywords.GroupBy = refl
starts keywords.Having = refl
starts keywords.Id = refl
starts keywords.In = refl
starts keywords.Index = refl
starts keywords.Insert = refl
starts keywords.Into = refl
starts keywords.Limit = refl
starts keywords.Match = refl
starts keywords.Max = refl
starts keywords.Meta = refl
starts keywords.Min = refl
starts keywords.Names = refl
starts keywords.Not = refl
starts keywords.Null = refl
starts keywords.Optimize = refl
starts keywords.Option = refl
starts keywords.Order = refl
starts keywords.RamChunk = refl
starts keywords.Replace = refl
starts keywords.Rollback = refl
starts keywords.RtIndex = refl
starts keywords.Select = refl
starts keywords.Session = refl
starts keywords.Set = refl
starts keywords.Show = refl
starts keywords.Start = refl
starts keywords.Status = refl
starts keywords.Sum = refl
starts keywords.Tables = refl
starts keywords.Transaction = refl
starts keywords.Truncate = refl
starts keywords.Values = refl
starts keywords.Variables = refl
starts keywords.Warnings = refl
starts keywords.Weight = refl
starts keywords.Where = refl
starts keywords.Within = refl

start_kind : (k : Kind) → begins (by_kind k) statement ≡ is_start k
start_kind (kinds.Keyword w) = starts w
start_kind kinds.Name = refl
start_kind kinds.Number = refl
start_kind kinds.Text = refl
start_kind kinds.SysVar = refl
start_kind (kinds.Sign s) = refl
start_kind kinds.End = refl

pub start_begins : {u : List Lexeme} → IsStart u true → (t : Lexeme) × (v : List Lexeme) × (u ≡ t ∷ v) × ((w : List Lexeme) × In sphinxql statement (t ∷ w))
start_begins {u} s = (s.next, s.rest, s.is, begins_some sphinxql (by_kind (kind s.next)) s.next (λ c e. e) statement (start_kind (kind s.next) ∙ s.starts))

-- a token with which no statement begins
start_no : (t : Lexeme) (m : ℕ) → is_start (kind t) ≡ false → (v : List Lexeme) → In sphinxql (seq statement (more_statements m)) (t ∷ v) → ⊥
unfolding In
start_no t m e v ([], b, is, first, second) = cc (has_nullable sphinxql statement first)
start_no t m e v (x ∷ a, b, is, first, second) =
    let same : x ≡ t = cc in
    begins_no sphinxql (by_kind (kind t)) t (λ c f. f) statement (start_kind (kind t) ∙ e) a (subst (λ (y : Lexeme). In sphinxql statement (y ∷ a)) same first)

-- No statement begins after the last `;`, though none is allowed there.
pub full_fails : {list : List Statement} {before mid there : List Lexeme} (place : ℕ) → StatementsRead before list mid → TakesPart sphinxql (one (the_sign signs.Semicolon)) [] (IsSign signs.Semicolon) mid there → IsNextOf sphinxql the_end there false → length list ≡ MAX_STATEMENTS → IsStart there false → place ≡ first_place sphinxql there → (other : ℕ) → Fault place ≡ Fault other → LeavesPackets before other
full_fails {list} {before} {mid} {there} place read semi n full s at other same =
    let (t, is, k) = semicolon_at semi in
    let equal : place ≡ other = cc in
    record {
      rest = there;
      place_is = sym equal ∙ at;
      leaves = λ more few.
          let left : ℕ = more - read.others in
          let enough : more ≡ left + read.others = omega (arith, read.count) in
          read.takes more left enough ∙ ap (verdict sphinxql (more_statements left)) is ∙ go left t k;
    }
  where
    go : (m : ℕ) (t : Lexeme) → kind t ≡ kinds.Sign signs.Semicolon → verdict sphinxql (more_statements m) (t ∷ there) ≡ Some there
    go zero t k = last_semicolon_taken t there k ∙ refused_at (one the_end) there n.next n.rest n.is (other_class the_end n.next n.fits)
    go (suc m) t k =
        semicolon_taken m t there k ∙ not_end (seq statement (more_statements m)) there n
        ∙ refused_at (seq statement (more_statements m)) there s.next s.rest s.is (start_no s.next m s.starts)

-- One statement more begins than are allowed.
pub too_long : {list : List Statement} {before mid there : List Lexeme} → StatementsRead before list mid → TakesPart sphinxql (one (the_sign signs.Semicolon)) [] (IsSign signs.Semicolon) mid there → IsNextOf sphinxql the_end there false → length list ≡ MAX_STATEMENTS → IsStart there true → IsTooLong before there
too_long {list} {before} {mid} {there} read semi n full s =
    let (t, is, k) = semicolon_at semi in
    record {
      list = list;
      count = full;
      used = read.used;
      semicolon = semi.used;
      is = read.is ∙ ap (λ u. read.used ++ u) semi.is ∙ sym (append_assoc read.used semi.used there);
      has = read.has;
      behind = semi.has;
      starts = s;
      leaves = λ more few.
          let none : more ≡ 0 + read.others = omega (arith, read.count) in
          read.takes more 0 none ∙ ap (verdict sphinxql (more_statements 0)) is ∙ last_semicolon_taken t there k ∙ refused_at (one the_end) there n.next n.rest n.is (other_class the_end n.next n.fits);
    }

-- Neither a `;` nor the end follows a statement.
semicolon_no : (r : Re Class) (t : Lexeme) → fits (the_sign signs.Semicolon) (kind t) ≡ false → (v : List Lexeme) → In sphinxql (seq (one (the_sign signs.Semicolon)) r) (t ∷ v) → ⊥
unfolding In
semicolon_no r t e v (a, b, is, (x, is', f), second) =
    let same : x ≡ t = cc in
    clash (fits (the_sign signs.Semicolon) (kind t)) (subst (λ (y : Lexeme). fits (the_sign signs.Semicolon) (kind y) ≡ true) same f) e

nothing_begins : (n : ℕ) (t : Lexeme) → fits (the_sign signs.Semicolon) (kind t) ≡ false → fits the_end (kind t) ≡ false → (v : List Lexeme) → In sphinxql (more_statements n) (t ∷ v) → ⊥
unfolding In
nothing_begins zero t e f v (inl h) = semicolon_no (one the_end) t e v h
nothing_begins zero t e f v (inr h) = other_class the_end t f v h
nothing_begins (suc n) t e f v (inl h) = semicolon_no (alt (seq statement (more_statements n)) (one the_end)) t e v h
nothing_begins (suc n) t e f v (inr h) = other_class the_end t f v h

pub end_fails : {list : List Statement} {before now there : List Lexeme} (place : ℕ) → StatementsRead before list now → there ≡ now → IsNextOf sphinxql (the_sign signs.Semicolon) now false → IsNextOf sphinxql the_end there false → place ≡ first_place sphinxql there → (other : ℕ) → Fault place ≡ Fault other → LeavesPackets before other
end_fails {list} {before} {now} {there} place read same semi n at other equal =
    let is : place ≡ other = cc in
    let token : n.next ≡ semi.next = cc (n.is, semi.is, same) in
    let no_end : fits the_end (kind semi.next) ≡ false = subst (λ (t : Lexeme). fits the_end (kind t) ≡ false) token n.fits in
    record {
      rest = now;
      place_is = sym is ∙ at ∙ ap (first_place sphinxql) same;
      leaves = λ more few.
          let left : ℕ = more - read.others in
          let enough : more ≡ left + read.others = omega (arith, read.count, read.few) in
          read.takes more left enough ∙ refused_at (more_statements left) now semi.next semi.rest semi.is (nothing_begins left semi.next semi.fits no_end);
    }

-- the exit of a `?`
pub packet_fails_with : {before : List Lexeme} (list : List Statement) (now : List Lexeme) {e : Or ℕ} (result : Result Bool (Or ℕ)) → IsErrAnd result (λ y. y ≡ e) → ((place : ℕ) → e ≡ Fault place → LeavesPackets before place) → ReadsPacket before (listed_in list result) now
packet_fails_with {before} list now {e} result err h =
    let (y, is, same) = err_from_is_err_and result err in
    subst (λ (x : Result Bool (Or ℕ)). ReadsPacket before (listed_in list x) now) (sym (is ∙ ap Err same)) h
