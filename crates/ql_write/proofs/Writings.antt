-- What is appended piece by piece.
use Rattle.std.proofs.Common.{◌≡◌, ℕ, List, [], ◌∷◌, ◌++◌, Result, Ok, Err, refl, sym, ◌∙◌, ap, subst, true, false, append_assoc, append-nil, arith, length, take, length-append, ◌-◌}
use Rattle.std.proofs.Math.Seq.{take-append_seam}
use Rattle.std.specs.Result.{IsErr}
use Rattle.srch_base.specs.declared.faults.NoMemory.{NoMemory}
use Rattle.std.proofs.lemmas.Grind.{flat_map-append}
use Rattle.ql_grammar.specs.declared.keyword.Keyword.TheVariants as keywords
use Rattle.ql_tree.specs.declared.select.Select.{Select}
use Rattle.ql_tree.specs.declared.statement.Statement.{Statement}
use Rattle.ql_tree.specs.declared.statement.Statement.TheVariants as statements
use Rattle.ql_write.specs.Pieces.{Piece, keyword, name, spelling, written, with_commas, given, given_all, in_row}
use Rattle.ql_write.specs.Canonical.{pieces, canonical_text, item, where_pieces, group_pieces, within_pieces, having_pieces, ordered, limit_pieces, option_pieces, facet, select_pieces}
use Rattle.ql_write.specs.steps.Writing.{Keeps, Appended, Appends, with_spaces, with_space, head_pieces, groups_pieces, tail_pieces}

pub kept_all : (before bytes after : List ℕ) → after ≡ before ++ bytes → Keeps before after
kept_all before bytes after e = record { more = bytes; is = e }

-- what was kept from there is kept from before
pub kept : (before mid after : List ℕ) → Keeps before mid → Keeps mid after → Keeps before after
kept before mid after k l = record { more = k.more ++ l.more; is = l.is ∙ ap (λ v. v ++ l.more) k.is ∙ append_assoc before k.more l.more }

-- an error that comes where nothing was lost
pub failed : (bytes before after : List ℕ) (r : Result (Unit {0}) NoMemory) → IsErr r → Keeps before after → Appended bytes before r after
failed bytes before after (Ok x) e k = cc
failed bytes before after (Err x) e k = k

-- some pieces, and then some others
pub then_appends : (ps qs : List Piece) (before mid after : List ℕ) (r : Result (Unit {0}) NoMemory) → mid ≡ before ++ with_spaces ps → Appends qs mid r after → Appends (ps ++ qs) before r after
then_appends ps qs before mid after (Ok done) e f =
    f ∙ ap (λ v. v ++ with_spaces qs) e ∙ append_assoc before (with_spaces ps) (with_spaces qs) ∙ ap (λ v. before ++ v) (sym (flat_map-append with_space ps qs))
then_appends ps qs before mid after (Err x) e f = kept before mid after (kept_all before (with_spaces ps) mid e) f

-- a SELECT in its three parts
regrouped : (i c g w h o l p t : List Piece) → i ++ c ++ g ++ w ++ h ++ o ++ l ++ p ++ t ≡ (i ++ c) ++ ((g ++ w ++ h) ++ (o ++ l ++ p ++ t))
regrouped i c g w h o l p t = simp append_assoc

pub select_parts : (s : Select) → select_pieces s ≡ head_pieces s ++ (groups_pieces s ++ tail_pieces s)
select_parts s = regrouped (keyword keywords.Select ∷ with_commas item s.items) (keyword keywords.From ∷ name s.index ∷ given_all where_pieces s.conds) (given group_pieces s.group) (given_all within_pieces s.within) (given having_pieces s.having) (given_all ordered s.order) (given limit_pieces s.limit) (given_all option_pieces s.options) (in_row facet s.facets)

-- a space after each piece is one between two of them, and one at the end
pub spaced_written : (p : Piece) (ps : List Piece) → with_spaces (p ∷ ps) ≡ written (p ∷ ps) ++ 32 ∷ []
spaced_written p [] = append-nil (spelling p ++ 32 ∷ [])
spaced_written p (q ∷ ps) =
    append_assoc (spelling p) (32 ∷ []) (with_spaces (q ∷ ps)) ∙ ap (λ v. spelling p ++ 32 ∷ v) (spaced_written q ps) ∙ sym (append_assoc (spelling p) (32 ∷ written (q ∷ ps)) (32 ∷ []))

-- a statement has a first piece
pub record Begins (ps : List Piece) : Type 0 where
  pub first : Piece
  pub others : List Piece
  pub is : ps ≡ first ∷ others

begins_with : (p : Piece) (ps : List Piece) → Begins (p ∷ ps)
begins_with p ps = record { first = p; others = ps; is = refl }

pub begins : (s : Statement) → Begins (pieces s)
begins (statements.Select select) = begins_with _ _
begins (statements.SelectVar bytes limit) = begins_with _ _
begins statements.SelectDatabase = begins_with _ _
begins (statements.Insert true index columns rows) = begins_with _ _
begins (statements.Insert false index columns rows) = begins_with _ _
begins (statements.Delete index which) = begins_with _ _
begins statements.Begin = begins_with _ _
begins statements.StartTransaction = begins_with _ _
begins statements.Commit = begins_with _ _
begins statements.Rollback = begins_with _ _
begins (statements.SetAutocommit n) = begins_with _ _
begins (statements.SetNames what) = begins_with _ _
begins (statements.SetOther for_whom what setting_value) = begins_with _ _
begins (statements.FlushRamchunk index) = begins_with _ _
begins (statements.FlushRtindex index) = begins_with _ _
begins (statements.OptimizeIndex index) = begins_with _ _
begins (statements.TruncateRtindex index) = begins_with _ _
begins (statements.Describe index) = begins_with _ _
begins (statements.ShowIndexStatus index) = begins_with _ _
begins statements.ShowMeta = begins_with _ _
begins statements.ShowTables = begins_with _ _
begins statements.ShowWarnings = begins_with _ _
begins statements.ShowVariables = begins_with _ _
begins statements.ShowDatabases = begins_with _ _

pub spaced_text : (s : Statement) → with_spaces (pieces s) ≡ canonical_text s ++ 32 ∷ []
unfolding canonical_text
spaced_text s =
    let b : Begins (pieces s) = begins s in
    subst (λ ps. with_spaces ps ≡ written ps ++ 32 ∷ []) (sym b.is) (spaced_written b.first b.others)

-- the last space taken off
pub popped : (text now after : List ℕ) (n : ℕ) → now ≡ text ++ 32 ∷ [] → n ≡ length now → after ≡ take (n - 1) now → after ≡ text
popped text now after n e m r =
    let k : n - 1 ≡ length text = omega (arith, length-append text (32 ∷ []), ap length e) in
    r ∙ ap (λ i. take i now) k ∙ ap (λ v. take (length text) v) e ∙ take-append_seam text (32 ∷ [])
