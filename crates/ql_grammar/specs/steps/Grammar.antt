-- The grammar, line by line.
use Rattle.std.specs.Prelude.{ℕ, zero, suc}
use Rattle.ql_lex.specs.declared.token.Sign.TheVariants as signs
use Rattle.ql_grammar.specs.declared.keyword.Keyword.TheVariants as keywords
use Rattle.ql_grammar.specs.Classes.{Class, the_keyword, a_comparison, the_end}
use Rattle.token_grammar.specs.Language.{Re, one, many, ◌⨾◌, ◌∣◌, optional, listed}
use Rattle.ql_grammar.specs.Terminals.{keyword, two_keywords, sign, name, number, text, sysvar, comma, enclosed, whole, target_name}

-- nothing in parentheses
abbrev pub parens : Re Class
parens = sign signs.OpenParen ⨾ sign signs.CloseParen

-- num | text
abbrev pub val : Re Class
val = text ∣ whole

-- * | DISTINCT name
abbrev pub counted : Re Class
counted = sign signs.Star ∣ keyword keywords.Distinct ⨾ name

-- WEIGHT()
abbrev pub weight : Re Class
weight = keyword keywords.Weight ⨾ parens

-- COUNT(*)
abbrev pub count : Re Class
count = keyword keywords.Count ⨾ enclosed (sign signs.Star)

-- COUNT(*) | COUNT(DISTINCT name) | MIN(name) | MAX(name) | SUM(name) | WEIGHT() | GROUPBY() | name
abbrev pub expr : Re Class
expr =
    keyword keywords.Count ⨾ enclosed counted
    ∣ keyword keywords.Min ⨾ enclosed name
    ∣ keyword keywords.Max ⨾ enclosed name
    ∣ keyword keywords.Sum ⨾ enclosed name
    ∣ weight
    ∣ keyword keywords.GroupBy ⨾ parens
    ∣ name

-- [AS] name
abbrev pub alias : Re Class
alias = optional (keyword keywords.As) ⨾ name

-- * | expr [[AS] name]
abbrev pub item : Re Class
item = sign signs.Star ∣ expr ⨾ optional alias

-- = != <> < > <= >=
abbrev pub comparison : Re Class
comparison = one a_comparison

-- (num, ..)
abbrev pub wholes : Re Class
wholes = enclosed (listed comma whole)

-- op num | [NOT] IN (num, ..) | BETWEEN num AND num
abbrev pub test : Re Class
test =
    keyword keywords.Between ⨾ whole ⨾ keyword keywords.And ⨾ whole
    ∣ keyword keywords.Not ⨾ keyword keywords.In ⨾ wholes
    ∣ keyword keywords.In ⨾ wholes
    ∣ comparison ⨾ whole

-- MATCH(text) | name test
abbrev pub cond : Re Class
cond = keyword keywords.Match ⨾ enclosed text ∣ name ⨾ test

-- [ASC | DESC]
abbrev pub direction : Re Class
direction = optional (keyword keywords.Asc ∣ keyword keywords.Desc)

-- (name | WEIGHT() | COUNT(*)) [ASC | DESC]
abbrev pub key : Re Class
key = (weight ∣ count ∣ name) ⨾ direction

-- (name | WEIGHT()) [ASC | DESC]
abbrev pub inner_key : Re Class
inner_key = (weight ∣ name) ⨾ direction

-- (name | COUNT(*)) [ASC | DESC]
abbrev pub group_key : Re Class
group_key = (count ∣ name) ⨾ direction

-- (name | COUNT(*)) op num
abbrev pub having : Re Class
having = (count ∣ name) ⨾ comparison ⨾ whole

-- LIMIT n [, n]
abbrev pub limit : Re Class
limit = keyword keywords.Limit ⨾ number ⨾ optional (one comma ⨾ number)

-- name = n
abbrev pub field_weight : Re Class
field_weight = name ⨾ sign signs.Equal ⨾ number

-- [( text )]
abbrev pub argument : Re Class
argument = optional (enclosed text)

-- name [( text )] | n | text | ( name = n (, name = n)* )
abbrev pub option_value : Re Class
option_value = name ⨾ argument ∣ number ∣ text ∣ enclosed (listed comma field_weight)

-- name = value
abbrev pub option : Re Class
option = name ⨾ sign signs.Equal ⨾ option_value

-- name [ORDER BY group_key] [LIMIT n [, n]]
abbrev pub facet_parts : Re Class
facet_parts = name ⨾ optional (two_keywords keywords.Order keywords.By ⨾ group_key) ⨾ optional limit

-- FACET ..
abbrev pub facet : Re Class
facet = keyword keywords.Facet ⨾ facet_parts

-- [WHERE ..]
abbrev pub conds : Re Class
conds = optional (keyword keywords.Where ⨾ listed (the_keyword keywords.And) cond)

-- [GROUP BY ..]
abbrev pub group : Re Class
group = optional (two_keywords keywords.Group keywords.By ⨾ name)

-- [WITHIN GROUP ORDER BY ..]
abbrev pub within : Re Class
within = optional (two_keywords keywords.Within keywords.Group ⨾ two_keywords keywords.Order keywords.By ⨾ listed comma inner_key)

-- [HAVING ..]
abbrev pub having_part : Re Class
having_part = optional (keyword keywords.Having ⨾ having)

-- [ORDER BY ..]
abbrev pub order : Re Class
order = optional (two_keywords keywords.Order keywords.By ⨾ listed comma key)

-- [OPTION ..]
abbrev pub options : Re Class
options = optional (keyword keywords.Option ⨾ listed comma option)

-- what may follow the index of a SELECT
abbrev pub select_parts : Re Class
select_parts = conds ⨾ group ⨾ within ⨾ having_part ⨾ order ⨾ optional limit ⨾ options ⨾ many facet

-- item (, item)* FROM name ..
abbrev pub select : Re Class
select = listed comma item ⨾ keyword keywords.From ⨾ name ⨾ select_parts

-- sysvar [LIMIT n]
abbrev pub select_variable : Re Class
select_variable = sysvar ⨾ optional (keyword keywords.Limit ⨾ number)

-- DATABASE ( )
abbrev pub select_database : Re Class
select_database = keyword keywords.Database ⨾ parens

abbrev pub selects : Re Class
selects = keyword keywords.Select ⨾ (select_variable ∣ select_database ∣ select)

-- ( val, .. )
abbrev pub row : Re Class
row = enclosed (listed comma val)

-- (INSERT | REPLACE) INTO name [( name, .. )] VALUES ( val, .. ) (, ( val, .. ))*
abbrev pub insert : Re Class
insert =
    (keyword keywords.Replace ∣ keyword keywords.Insert) ⨾ keyword keywords.Into ⨾ name
    ⨾ optional (enclosed (listed comma name)) ⨾ keyword keywords.Values ⨾ listed comma row

-- = n | IN (n, ..)
abbrev pub ids : Re Class
ids = sign signs.Equal ⨾ number ∣ keyword keywords.In ⨾ enclosed (listed comma number)

-- DELETE FROM name WHERE ID = n | DELETE FROM name WHERE ID IN (n, ..)
abbrev pub delete : Re Class
delete = two_keywords keywords.Delete keywords.From ⨾ name ⨾ two_keywords keywords.Where keywords.Id ⨾ ids

-- name | text
abbrev pub plain : Re Class
plain = text ∣ name

-- name | num | text | NULL
abbrev pub setting : Re Class
setting = keyword keywords.Null ∣ text ∣ name ∣ whole

-- AUTOCOMMIT and NAMES aside: (name | sysvar) = (name | num | text | NULL)
abbrev pub assignment : Re Class
assignment = (sysvar ∣ target_name) ⨾ sign signs.Equal ⨾ setting

-- [GLOBAL | SESSION] assignment
abbrev pub scoped : Re Class
scoped = keyword keywords.Global ⨾ assignment ∣ keyword keywords.Session ⨾ assignment ∣ assignment

-- AUTOCOMMIT = n | NAMES (name | text) | scoped
abbrev pub set_rest : Re Class
set_rest = keyword keywords.Autocommit ⨾ sign signs.Equal ⨾ number ∣ keyword keywords.Names ⨾ plain ∣ scoped

abbrev pub set : Re Class
set = keyword keywords.Set ⨾ set_rest

abbrev pub flush : Re Class
flush = keyword keywords.Flush ⨾ (keyword keywords.RamChunk ⨾ name ∣ keyword keywords.RtIndex ⨾ name)

-- INDEX name STATUS | META | TABLES | WARNINGS | VARIABLES | DATABASES
abbrev pub shown : Re Class
shown =
    keyword keywords.Index ⨾ name ⨾ keyword keywords.Status
    ∣ keyword keywords.Meta
    ∣ keyword keywords.Tables
    ∣ keyword keywords.Warnings
    ∣ keyword keywords.Variables
    ∣ keyword keywords.Databases

abbrev pub show : Re Class
show = keyword keywords.Show ⨾ shown

abbrev pub statement : Re Class
statement =
    selects
    ∣ delete
    ∣ set
    ∣ show
    ∣ flush
    ∣ keyword keywords.Begin
    ∣ two_keywords keywords.Start keywords.Transaction
    ∣ keyword keywords.Commit
    ∣ keyword keywords.Rollback
    ∣ two_keywords keywords.Optimize keywords.Index ⨾ name
    ∣ two_keywords keywords.Truncate keywords.RtIndex ⨾ name
    ∣ keyword keywords.Describe ⨾ name
    ∣ insert

-- what may follow a statement, where so many more are allowed
abbrev pub more_statements : ℕ → Re Class
more_statements zero = sign signs.Semicolon ⨾ one the_end ∣ one the_end
more_statements (suc n) = sign signs.Semicolon ⨾ (statement ⨾ more_statements n ∣ one the_end) ∣ one the_end

-- a packet of a statement and at most so many more
abbrev pub packet : ℕ → Re Class
packet n = statement ⨾ more_statements n
