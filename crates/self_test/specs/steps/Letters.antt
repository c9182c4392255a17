-- The canonical texts of a selftest's statements, letter by letter.
use Rattle.std.specs.Prelude.{ℕ, ◌+◌, ◌%◌, ◌^◌, ◌<◌, List, ◌++◌, codes, decimal, slice_index}
use Rattle.self_test.specs.declared.generator.Document.{Document}
use Rattle.self_test.specs.declared.summary.Count.{Count}
use Rattle.self_test.specs.declared.summary.Count.TheVariants.{Words, Pairs, Groups}

-- the INSERT of a document with this id
unfoldable pub insert_letters : ℕ → Document → List ℕ
insert_letters id document =
    codes "INSERT INTO `t` ( `id` , `title` , `gid` ) VALUES ( " ++ decimal id ++ codes " , 'w" ++ decimal (slice_index document.title 0)
    ++ codes " w" ++ decimal (slice_index document.title 1) ++ codes " w" ++ decimal (slice_index document.title 2)
    ++ codes " w" ++ decimal (slice_index document.title 3) ++ codes "' , " ++ decimal document.gid ++ codes " )"

-- the SELECT whose rows are what is counted of the word, the phrase or the group with this number
unfoldable pub count_letters : Count → ℕ → List ℕ
count_letters Words number = codes "SELECT `id` FROM `t` WHERE MATCH ( 'w" ++ decimal number ++ codes "' ) LIMIT 0 , 100000 OPTION `max_matches` = 100000"
count_letters Pairs number =
    codes "SELECT `id` FROM `t` WHERE MATCH ( '\"w" ++ decimal number ++ codes " w" ++ decimal ((number + 1) % 50)
    ++ codes "\"' ) LIMIT 0 , 100000 OPTION `max_matches` = 100000"
count_letters Groups number = codes "SELECT `id` FROM `t` WHERE `gid` = " ++ decimal number ++ codes " LIMIT 0 , 1"

-- The numbers of the words of a title, and of the group, can be written.
pub record IsSmall (document : Document) : Type 0 where
  pub first : slice_index document.title 0 < 2 ^ 64
  pub second : slice_index document.title 1 < 2 ^ 64
  pub third : slice_index document.title 2 < 2 ^ 64
  pub fourth : slice_index document.title 3 < 2 ^ 64
  pub group : document.gid < 2 ^ 64
