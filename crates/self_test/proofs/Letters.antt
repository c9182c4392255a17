-- The letters of a selftest's texts are the canonical texts of its statements.
use Rattle.std.proofs.Common.{◌≡◌, ◌≢◌, ℕ, ◌+◌, ◌*◌, ◌/◌, ◌%◌, ◌^◌, ◌<◌, Bool, true, false, eqb, ◌||◌, List, [], ◌∷◌, ◌++◌, refl, sym, ap, ◌∙◌, subst, arith, append_assoc, append-nil}
use Rattle.std.proofs.lemmas.Bool.{cond-false, ne_eqb}
use Rattle.std.proofs.lemmas.Fmt.{decimal_digit, decimal_is_IsNumeral, decimal_step}
use Rattle.std.proofs.lemmas.Grind.{flat_map-append}
use Rattle.std.proofs.lemmas.Str.Parse.{digit_from_value}
use Rattle.std.specs.Prelude.{codes, decimal, slice_index}
use Rattle.std.specs.Str.Parse.{AllDigits}
use Rattle.ql_tree.specs.declared.statement.Statement.TheVariants as statements
use Rattle.ql_write.specs.Canonical.{canonical_text}
use Rattle.ql_write.specs.Pieces.{escaped_byte, escaped_text}
use Rattle.self_test.specs.Texts.{count_statement, insert_statement, matching, query_of, title_of, word_of}
use Rattle.self_test.specs.declared.generator.Document.{Document}
use Rattle.self_test.specs.declared.summary.Count.{Count}
use Rattle.self_test.specs.declared.summary.Count.TheVariants.{Words, Pairs, Groups}
use Rattle.self_test.specs.steps.Letters.{IsSmall, count_letters, insert_letters}

neither : (p q : Bool) → p ≡ false → q ≡ false → (p || q) ≡ false
neither p q e f = cc

-- a byte that is neither `'` nor `\` stands for itself
plain_byte : (b : ℕ) → b ≢ 39 → b ≢ 92 → escaped_byte b ≡ b ∷ []
plain_byte b quote backslash = cond-false (eqb b 39 || eqb b 92) (92 ∷ b ∷ []) (b ∷ []) (neither (eqb b 39) (eqb b 92) (ne_eqb b 39 quote) (ne_eqb b 92 backslash))

-- digits stand for themselves
plain_digits : (ds : List ℕ) → AllDigits 10 ds → escaped_text ds ≡ ds
plain_digits [] digits = refl
plain_digits (d ∷ ds) (first, rest) =
    let is = digit_from_value d first in
    let one : escaped_byte d ≡ d ∷ [] = plain_byte d (λ (e : d ≡ 39). omega (arith, is)) (λ (e : d ≡ 92). omega (arith, is)) in
    ap (λ (v : List ℕ). v ++ escaped_text ds) one ∙ ap (λ (v : List ℕ). d ∷ v) (plain_digits ds rest)

plain_decimal : (n : ℕ) → n < 2 ^ 64 → escaped_text (decimal n) ≡ decimal n
plain_decimal n below = plain_digits (decimal n) (decimal_is_IsNumeral n below).0.1

-- texts that stand for themselves, one after the other
plain_then : (xs ys : List ℕ) → escaped_text xs ≡ xs → escaped_text ys ≡ ys → escaped_text (xs ++ ys) ≡ xs ++ ys
plain_then xs ys first second = flat_map-append escaped_byte xs ys ∙ ap (λ (v : List ℕ). v ++ escaped_text ys) first ∙ ap (λ (v : List ℕ). xs ++ v) second

plain_word : (n : ℕ) → n < 2 ^ 64 → escaped_text (word_of n) ≡ word_of n
plain_word n below = plain_then (codes "w") (decimal n) refl (plain_decimal n below)

-- the title of a document
pub plain_title : (document : Document) → IsSmall document → escaped_text (title_of document) ≡ title_of document
plain_title document small =
    let space : List ℕ = codes " " in
    let a = word_of (slice_index document.title 0) in
    let b = word_of (slice_index document.title 1) in
    let c = word_of (slice_index document.title 2) in
    let d = word_of (slice_index document.title 3) in
    plain_then (a ++ space ++ b ++ space ++ c ++ space) d
    (plain_then (a ++ space ++ b ++ space ++ c) space
    (plain_then (a ++ space ++ b ++ space) c
    (plain_then (a ++ space ++ b) space (plain_then (a ++ space) b (plain_then a space (plain_word _ small.first) refl) (plain_word _ small.second)) refl)
    (plain_word _ small.third))
    refl)
    (plain_word _ small.fourth)

-- parts one after the other, from the left and from the right
lefts : List ℕ → List (List ℕ) → List ℕ
lefts front [] = front
lefts front (part ∷ parts) = lefts (front ++ part) parts

abbrev rights : List ℕ → List (List ℕ) → List ℕ
rights part [] = part
rights part (next ∷ parts) = part ++ rights next parts

from_left : (front part : List ℕ) (parts : List (List ℕ)) → lefts front (part ∷ parts) ≡ front ++ rights part parts
unfolding lefts
from_left front part [] = refl
from_left front part (next ∷ parts) = from_left (front ++ part) next parts ∙ append_assoc front part (rights next parts)

pub insert_is : (id : ℕ) (document : Document) → IsSmall document → insert_letters id document ≡ canonical_text (insert_statement id document)
unfolding insert_letters canonical_text lefts
insert_is id document small =
    let a : ℕ = slice_index document.title 0 in
    let b : ℕ = slice_index document.title 1 in
    let c : ℕ = slice_index document.title 2 in
    let d : ℕ = slice_index document.title 3 in
    let front : List ℕ = codes "INSERT INTO `t` ( `id` , `title` , `gid` ) VALUES ( " in
    let back : List ℕ = codes " , " ++ (decimal document.gid ++ codes " )") in
    let told : canonical_text (insert_statement id document) ≡ front ++ (decimal id ++ (codes " , '" ++ (escaped_text (title_of document) ++ (codes "'" ++ back)))) =
    ap (λ (v : List ℕ). front ++ (decimal id ++ (codes " , '" ++ v))) (append_assoc (escaped_text (title_of document)) (codes "'") back) in
    let plain : front ++ (decimal id ++ (codes " , '" ++ (escaped_text (title_of document) ++ (codes "'" ++ back)))) ≡ front ++ (decimal id ++ (codes " , '" ++ (title_of document ++ (codes "'" ++ back)))) =
    ap (λ (v : List ℕ). front ++ (decimal id ++ (codes " , '" ++ (v ++ (codes "'" ++ back))))) (plain_title document small) in
    let spread : front ++ (decimal id ++ (codes " , '" ++ (title_of document ++ (codes "'" ++ back)))) ≡ front ++ (decimal id ++ (codes " , '" ++ (word_of a ++ rights (codes " ") (word_of b ∷ codes " " ∷ word_of c ∷ codes " " ∷ word_of d ∷ (codes "'" ++ back) ∷ [])))) =
    ap (λ (v : List ℕ). front ++ (decimal id ++ (codes " , '" ++ v))) (from_left (word_of a) (codes " ") (word_of b ∷ codes " " ∷ word_of c ∷ codes " " ∷ word_of d ∷ (codes "'" ++ back) ∷ [])) in
    let letters : insert_letters id document ≡ front ++ rights (decimal id) (codes " , 'w" ∷ decimal a ∷ codes " w" ∷ decimal b ∷ codes " w" ∷ decimal c ∷ codes " w" ∷ decimal d ∷ codes "' , " ∷ decimal document.gid ∷ codes " )" ∷ []) =
    from_left front (decimal id) (codes " , 'w" ∷ decimal a ∷ codes " w" ∷ decimal b ∷ codes " w" ∷ decimal c ∷ codes " w" ∷ decimal d ∷ codes "' , " ∷ decimal document.gid ∷ codes " )" ∷ []) in
    letters ∙ sym (told ∙ plain ∙ spread)

-- the numbers of a SELECT

zero_is : decimal 0 ≡ codes "0"
zero_is = decimal_digit 0 (omega arith)

one_is : decimal 1 ≡ codes "1"
one_is = decimal_digit 1 (omega arith)

-- one more digit 0
tenfold : (n : ℕ) (ds : List ℕ) → 0 < n → n < 2 ^ 60 → decimal n ≡ ds → decimal (n * 10) ≡ ds ++ codes "0"
tenfold n ds some small is =
    let step = decimal_step (n * 10) (omega arith) (omega arith) in
    let front : n * 10 / 10 ≡ n = omega arith in
    let end : n * 10 % 10 ≡ 0 = omega arith in
    step ∙ ap (λ (m : ℕ). decimal (n * 10 / 10) ++ ((48 + m) ∷ [])) end ∙ ap (λ (m : ℕ). decimal m ++ codes "0") front ∙ ap (λ (v : List ℕ). v ++ codes "0") is

most_is : decimal 100000 ≡ codes "100000"
most_is =
    tenfold 10000 (codes "10000") (omega arith) (omega arith) (tenfold 1000 (codes "1000") (omega arith) (omega arith)
    (tenfold 100 (codes "100") (omega arith) (omega arith) (tenfold 10 (codes "10") (omega arith) (omega arith) (tenfold 1 (codes "1") (omega arith) (omega arith) one_is))))

-- the canonical text of a SELECT by a query that stands for itself
match_is : (query : List ℕ) → escaped_text query ≡ query → canonical_text (statements.Select (matching query)) ≡ codes "SELECT `id` FROM `t` WHERE MATCH ( '" ++ (query ++ codes "' ) LIMIT 0 , 100000 OPTION `max_matches` = 100000")
unfolding canonical_text
match_is query plain =
    let front : List ℕ = codes "SELECT `id` FROM `t` WHERE MATCH ( '" in
    let back : List ℕ → List ℕ → List ℕ = λ zero most. codes " ) LIMIT " ++ (zero ++ (codes " , " ++ (most ++ (codes " OPTION `max_matches` = " ++ most)))) in
    let told : canonical_text (statements.Select (matching query)) ≡ front ++ (escaped_text query ++ (codes "'" ++ back (decimal 0) (decimal 100000))) =
    ap (λ (v : List ℕ). front ++ v) (append_assoc (escaped_text query) (codes "'") (back (decimal 0) (decimal 100000))) in
    told
    ∙ ap (λ (v : List ℕ). front ++ (v ++ (codes "'" ++ back (decimal 0) (decimal 100000)))) plain
    ∙ ap (λ (v : List ℕ). front ++ (query ++ (codes "'" ++ back v (decimal 100000)))) zero_is
    ∙ ap (λ (v : List ℕ). front ++ (query ++ (codes "'" ++ back (codes "0") v))) most_is

-- the canonical text of a SELECT of a group
group_is : (number : ℕ) → canonical_text (count_statement Groups number) ≡ codes "SELECT `id` FROM `t` WHERE `gid` = " ++ (decimal number ++ codes " LIMIT 0 , 1")
unfolding canonical_text
group_is number =
    let front : List ℕ = codes "SELECT `id` FROM `t` WHERE `gid` = " in
    ap (λ (v : List ℕ). front ++ (decimal number ++ (codes " LIMIT " ++ (v ++ (codes " , " ++ decimal 1))))) zero_is
    ∙ ap (λ (v : List ℕ). front ++ (decimal number ++ (codes " LIMIT 0 , " ++ v))) one_is

plain_pair : (m n : ℕ) → m < 2 ^ 64 → n < 2 ^ 64 → escaped_text (codes "\"" ++ word_of m ++ codes " " ++ word_of n ++ codes "\"") ≡ codes "\"" ++ word_of m ++ codes " " ++ word_of n ++ codes "\""
plain_pair m n first second =
    plain_then (codes "\"" ++ word_of m ++ codes " " ++ word_of n) (codes "\"")
    (plain_then (codes "\"" ++ word_of m ++ codes " ") (word_of n) (plain_then (codes "\"" ++ word_of m) (codes " ") (plain_then (codes "\"") (word_of m) refl (plain_word m first)) refl) (plain_word n second))
    refl

pub count_is : (count : Count) (number : ℕ) → number < 50 → count_letters count number ≡ canonical_text (count_statement count number)
unfolding count_letters canonical_text lefts
count_is Words number below =
    from_left (codes "SELECT `id` FROM `t` WHERE MATCH ( 'w") (decimal number) (codes "' ) LIMIT 0 , 100000 OPTION `max_matches` = 100000" ∷ [])
    ∙ sym (match_is (word_of number) (plain_word number (omega arith)))
count_is Pairs number below =
    let after : ℕ = (number + 1) % 50 in
    let end : List ℕ = codes "' ) LIMIT 0 , 100000 OPTION `max_matches` = 100000" in
    let front : List ℕ = codes "SELECT `id` FROM `t` WHERE MATCH ( '" in
    let letters = from_left (codes "SELECT `id` FROM `t` WHERE MATCH ( '\"w") (decimal number) (codes " w" ∷ decimal after ∷ codes "\"' ) LIMIT 0 , 100000 OPTION `max_matches` = 100000" ∷ []) in
    let spread = ap (λ (v : List ℕ). front ++ v) (from_left (codes "\"") (word_of number) (codes " " ∷ word_of after ∷ codes "\"" ∷ end ∷ [])) in
    letters ∙ sym (match_is (query_of Pairs number) (plain_pair number after (omega arith) (omega arith)) ∙ spread)
count_is Groups number below = from_left (codes "SELECT `id` FROM `t` WHERE `gid` = ") (decimal number) (codes " LIMIT 0 , 1" ∷ []) ∙ sym (group_is number)

-- the texts without numbers
pub begin_is : codes "BEGIN" ≡ canonical_text statements.Begin
unfolding canonical_text
begin_is = refl

pub commit_is : codes "COMMIT" ≡ canonical_text statements.Commit
unfolding canonical_text
commit_is = refl

pub flush_is : codes "FLUSH RAMCHUNK `t`" ≡ canonical_text (statements.FlushRamchunk (codes "t"))
unfolding canonical_text
flush_is = refl

pub optimize_is : codes "OPTIMIZE INDEX `t`" ≡ canonical_text (statements.OptimizeIndex (codes "t"))
unfolding canonical_text
optimize_is = refl
