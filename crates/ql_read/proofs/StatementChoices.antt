-- The choice of a statement by its first keyword: what is left of it after each keyword that isn't next. A reader that answers for what
-- is left answers for the whole choice.
use Rattle.std.proofs.Common.{ℕ, List, false, refl}
use Rattle.std.specs.Prelude.{Result}
use Rattle.srch_base.specs.declared.faults.Or.{Or}
use Rattle.ql_lex.specs.Tokens.{Lexeme}
use Rattle.ql_tree.specs.declared.statement.Statement.{Statement}
use Rattle.ql_grammar.specs.declared.keyword.Keyword.TheVariants as keywords
use Rattle.ql_grammar.specs.Alphabet.{sphinxql}
use Rattle.ql_grammar.specs.Classes.{Class, the_keyword}
use Rattle.ql_grammar.specs.Terminals.{keyword, name, two_keywords}
use Rattle.ql_grammar.specs.Statements.{IsStatement}
use Rattle.ql_grammar.specs.steps.GoingOn.{select_goes_on}
use Rattle.ql_grammar.specs.steps.Grammar.{delete, flush, insert, selects, set, show, statement}
use Rattle.token_grammar.specs.Language.{Re, ◌⨾◌, ◌∣◌}
use Rattle.token_grammar.specs.Reading.{IsNextOf, ReadsPart}
use Rattle.token_grammar.proofs.Choices.{reads_else}

abbrev pub from_describe : Re Class
from_describe = keyword keywords.Describe ⨾ name ∣ insert

abbrev pub from_truncate : Re Class
from_truncate = two_keywords keywords.Truncate keywords.RtIndex ⨾ name ∣ from_describe

abbrev pub from_optimize : Re Class
from_optimize = two_keywords keywords.Optimize keywords.Index ⨾ name ∣ from_truncate

abbrev pub from_rollback : Re Class
from_rollback = keyword keywords.Rollback ∣ from_optimize

abbrev pub from_commit : Re Class
from_commit = keyword keywords.Commit ∣ from_rollback

abbrev pub from_start : Re Class
from_start = two_keywords keywords.Start keywords.Transaction ∣ from_commit

abbrev pub from_begin : Re Class
from_begin = keyword keywords.Begin ∣ from_start

abbrev pub from_flush : Re Class
from_flush = flush ∣ from_begin

abbrev pub from_show : Re Class
from_show = show ∣ from_flush

abbrev pub from_set : Re Class
from_set = set ∣ from_show

abbrev pub from_delete : Re Class
from_delete = delete ∣ from_set

-- the next token isn't this keyword
abbrev pub IsNo : List Lexeme → Class → Type 0
IsNo before class = IsNextOf sphinxql class before false

-- a reader answered so for this part
abbrev pub Reads : Re Class → List Lexeme → List Lexeme → Result Statement (Or ℕ) → Type 0
Reads part before now result = ReadsPart sphinxql part select_goes_on IsStatement before result now

pub past_select : (before now : List Lexeme) (result : Result Statement (Or ℕ)) → IsNo before (the_keyword keywords.Select) → Reads from_delete before now result → Reads statement before now result
past_select before now result n1 h = reads_else selects from_delete select_goes_on IsStatement now result n1 refl h

pub past_delete : (before now : List Lexeme) (result : Result Statement (Or ℕ)) → IsNo before (the_keyword keywords.Select) → IsNo before (the_keyword keywords.Delete) → Reads from_set before now result → Reads statement before now result
past_delete before now result n1 n2 h = past_select before now result n1 (reads_else delete from_set select_goes_on IsStatement now result n2 refl h)

pub past_set : (before now : List Lexeme) (result : Result Statement (Or ℕ)) → IsNo before (the_keyword keywords.Select) → IsNo before (the_keyword keywords.Delete) → IsNo before (the_keyword keywords.Set) → Reads from_show before now result → Reads statement before now result
past_set before now result n1 n2 n3 h = past_delete before now result n1 n2 (reads_else set from_show select_goes_on IsStatement now result n3 refl h)

pub past_show : (before now : List Lexeme) (result : Result Statement (Or ℕ)) → IsNo before (the_keyword keywords.Select) → IsNo before (the_keyword keywords.Delete) → IsNo before (the_keyword keywords.Set) → IsNo before (the_keyword keywords.Show) → Reads from_flush before now result → Reads statement before now result
past_show before now result n1 n2 n3 n4 h = past_set before now result n1 n2 n3 (reads_else show from_flush select_goes_on IsStatement now result n4 refl h)

pub past_flush : (before now : List Lexeme) (result : Result Statement (Or ℕ)) → IsNo before (the_keyword keywords.Select) → IsNo before (the_keyword keywords.Delete) → IsNo before (the_keyword keywords.Set) → IsNo before (the_keyword keywords.Show) → IsNo before (the_keyword keywords.Flush) → Reads from_begin before now result → Reads statement before now result
past_flush before now result n1 n2 n3 n4 n5 h = past_show before now result n1 n2 n3 n4 (reads_else flush from_begin select_goes_on IsStatement now result n5 refl h)

pub past_begin : (before now : List Lexeme) (result : Result Statement (Or ℕ)) → IsNo before (the_keyword keywords.Select) → IsNo before (the_keyword keywords.Delete) → IsNo before (the_keyword keywords.Set) → IsNo before (the_keyword keywords.Show) → IsNo before (the_keyword keywords.Flush) → IsNo before (the_keyword keywords.Begin) → Reads from_start before now result → Reads statement before now result
past_begin before now result n1 n2 n3 n4 n5 n6 h = past_flush before now result n1 n2 n3 n4 n5 (reads_else (keyword keywords.Begin) from_start select_goes_on IsStatement now result n6 refl h)

pub past_start : (before now : List Lexeme) (result : Result Statement (Or ℕ)) → IsNo before (the_keyword keywords.Select) → IsNo before (the_keyword keywords.Delete) → IsNo before (the_keyword keywords.Set) → IsNo before (the_keyword keywords.Show) → IsNo before (the_keyword keywords.Flush) → IsNo before (the_keyword keywords.Begin) → IsNo before (the_keyword keywords.Start) → Reads from_commit before now result → Reads statement before now result
past_start before now result n1 n2 n3 n4 n5 n6 n7 h = past_begin before now result n1 n2 n3 n4 n5 n6 (reads_else (two_keywords keywords.Start keywords.Transaction) from_commit select_goes_on IsStatement now result n7 refl h)

pub past_commit : (before now : List Lexeme) (result : Result Statement (Or ℕ)) → IsNo before (the_keyword keywords.Select) → IsNo before (the_keyword keywords.Delete) → IsNo before (the_keyword keywords.Set) → IsNo before (the_keyword keywords.Show) → IsNo before (the_keyword keywords.Flush) → IsNo before (the_keyword keywords.Begin) → IsNo before (the_keyword keywords.Start) → IsNo before (the_keyword keywords.Commit) → Reads from_rollback before now result → Reads statement before now result
past_commit before now result n1 n2 n3 n4 n5 n6 n7 n8 h = past_start before now result n1 n2 n3 n4 n5 n6 n7 (reads_else (keyword keywords.Commit) from_rollback select_goes_on IsStatement now result n8 refl h)

pub past_rollback : (before now : List Lexeme) (result : Result Statement (Or ℕ)) → IsNo before (the_keyword keywords.Select) → IsNo before (the_keyword keywords.Delete) → IsNo before (the_keyword keywords.Set) → IsNo before (the_keyword keywords.Show) → IsNo before (the_keyword keywords.Flush) → IsNo before (the_keyword keywords.Begin) → IsNo before (the_keyword keywords.Start) → IsNo before (the_keyword keywords.Commit) → IsNo before (the_keyword keywords.Rollback) → Reads from_optimize before now result → Reads statement before now result
past_rollback before now result n1 n2 n3 n4 n5 n6 n7 n8 n9 h = past_commit before now result n1 n2 n3 n4 n5 n6 n7 n8 (reads_else (keyword keywords.Rollback) from_optimize select_goes_on IsStatement now result n9 refl h)

pub past_optimize : (before now : List Lexeme) (result : Result Statement (Or ℕ)) → IsNo before (the_keyword keywords.Select) → IsNo before (the_keyword keywords.Delete) → IsNo before (the_keyword keywords.Set) → IsNo before (the_keyword keywords.Show) → IsNo before (the_keyword keywords.Flush) → IsNo before (the_keyword keywords.Begin) → IsNo before (the_keyword keywords.Start) → IsNo before (the_keyword keywords.Commit) → IsNo before (the_keyword keywords.Rollback) → IsNo before (the_keyword keywords.Optimize) → Reads from_truncate before now result → Reads statement before now result
past_optimize before now result n1 n2 n3 n4 n5 n6 n7 n8 n9 n10 h = past_rollback before now result n1 n2 n3 n4 n5 n6 n7 n8 n9 (reads_else (two_keywords keywords.Optimize keywords.Index ⨾ name) from_truncate select_goes_on IsStatement now result n10 refl h)

pub past_truncate : (before now : List Lexeme) (result : Result Statement (Or ℕ)) → IsNo before (the_keyword keywords.Select) → IsNo before (the_keyword keywords.Delete) → IsNo before (the_keyword keywords.Set) → IsNo before (the_keyword keywords.Show) → IsNo before (the_keyword keywords.Flush) → IsNo before (the_keyword keywords.Begin) → IsNo before (the_keyword keywords.Start) → IsNo before (the_keyword keywords.Commit) → IsNo before (the_keyword keywords.Rollback) → IsNo before (the_keyword keywords.Optimize) → IsNo before (the_keyword keywords.Truncate) → Reads from_describe before now result → Reads statement before now result
past_truncate before now result n1 n2 n3 n4 n5 n6 n7 n8 n9 n10 n11 h = past_optimize before now result n1 n2 n3 n4 n5 n6 n7 n8 n9 n10 (reads_else (two_keywords keywords.Truncate keywords.RtIndex ⨾ name) from_describe select_goes_on IsStatement now result n11 refl h)

pub past_describe : (before now : List Lexeme) (result : Result Statement (Or ℕ)) → IsNo before (the_keyword keywords.Select) → IsNo before (the_keyword keywords.Delete) → IsNo before (the_keyword keywords.Set) → IsNo before (the_keyword keywords.Show) → IsNo before (the_keyword keywords.Flush) → IsNo before (the_keyword keywords.Begin) → IsNo before (the_keyword keywords.Start) → IsNo before (the_keyword keywords.Commit) → IsNo before (the_keyword keywords.Rollback) → IsNo before (the_keyword keywords.Optimize) → IsNo before (the_keyword keywords.Truncate) → IsNo before (the_keyword keywords.Describe) → Reads insert before now result → Reads statement before now result
past_describe before now result n1 n2 n3 n4 n5 n6 n7 n8 n9 n10 n11 n12 h = past_truncate before now result n1 n2 n3 n4 n5 n6 n7 n8 n9 n10 n11 (reads_else (keyword keywords.Describe ⨾ name) insert select_goes_on IsStatement now result n12 refl h)
