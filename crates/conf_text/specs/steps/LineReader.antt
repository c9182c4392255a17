-- What the reader of lines answers.
use Rattle.std.specs.Prelude.{All, Result, Ok, Err, ◌≡◌, ℕ, ◌+◌, ◌<◌, ◌≤◌, List, [], ◌∷◌, ◌++◌, true, false, not, ◌&&◌, ◌==◌, Option, Some, None, length}
use Rattle.std.specs.Str.{IsUtf8}
use Rattle.std.specs.Str.Lines.{lines}
use Rattle.conf_text.specs.declared.lines.LineHead.{LineHead}
use Rattle.conf_text.specs.declared.lines.Lines.{Lines}
use Rattle.conf_text.specs.declared.lines.PartHead.{PartHead}
use Rattle.srch_base.specs.declared.faults.Or.{Or}
use Rattle.srch_base.specs.declared.faults.Or.TheVariants as causes
use Rattle.index_conf.specs.declared.conf.IndexConf.{IndexConf}
use Rattle.conf_text.specs.declared.fault.ConfFault.{ConfFault}
use Rattle.conf_text.specs.Confs.{AreFaultless, IsFirstBadLine, IsFirstFault, IsUtf8Line, shapes_back}
use Rattle.conf_text.specs.steps.Drafts.{AreIndexes}
use Rattle.conf_text.specs.Sections.{indexes_in}
use Rattle.conf_text.specs.Lines.{Line, is_joined, joined_parts, lines_from, unjoined}

-- the lines that aren't read yet
abbrev pub left : Lines → List Line
left reader = lines_from reader.number (lines reader.rest.now)

-- the bound of the numbers of the lines that aren't read yet
abbrev pub bound : Lines → ℕ
bound reader = reader.number + length reader.rest.now

-- a part was read, and added to what stood in the buffer
pub record IsPartRead (old : Lines) (before : List ℕ) (new : Lines) (after : List ℕ) (head : PartHead) : Type 0 where
  pub part : List ℕ
  pub parts : lines old.rest.now ≡ part ∷ lines new.rest.now
  pub number : new.number ≡ old.number + 1
  pub shorter : length new.rest.now < length old.rest.now
  pub buffer : after ≡ before ++ unjoined part
  pub size : length after + length new.rest.now ≤ length before + length old.rest.now
  pub goes_on : head.goes_on ≡ is_joined part && not (length new.rest.now == 0)
  pub text : head.utf8 ≡ true → IsUtf8 part
  pub no_text : head.utf8 ≡ false → ¬ (IsUtf8 part)

-- a line was read, and the buffer has its parts
pub record IsLineRead (old new : Lines) (buffer : List ℕ) (head : LineHead) : Type 0 where
  pub line : Line
  pub are : left old ≡ line ∷ left new
  pub number : head.number ≡ line.number
  pub buffer_is : buffer ≡ joined_parts line.parts
  pub size : length buffer ≤ length old.rest.now
  pub text : head.utf8 ≡ true → IsUtf8Line line
  pub no_text : head.utf8 ≡ false → ¬ (IsUtf8Line line)
  pub shorter : length new.rest.now < length old.rest.now
  pub bounded : bound new < bound old + 1

-- the next line was read, or there is none
abbrev pub ReadsLine : Lines → Lines → List ℕ → Option LineHead → Type 0
ReadsLine old new buffer None = left old ≡ []
ReadsLine old new buffer (Some head) = IsLineRead old new buffer head

-- the first line that isn't UTF-8, or none
abbrev pub FindsBadLine : List Line → Option ℕ → Type 0
FindsBadLine lines None = All IsUtf8Line lines
FindsBadLine lines (Some number) = IsFirstBadLine lines number

-- the indexes of lines, or their first fault
abbrev pub ReadsIndexes : List Line → Result (List IndexConf) (Or ConfFault) → Type 0
ReadsIndexes lines (Ok indexes) = AreFaultless lines × AreIndexes (indexes_in (shapes_back lines)) indexes
ReadsIndexes lines (Err causes.NoMemory) = Unit {0}
ReadsIndexes lines (Err (causes.Fault fault)) = IsFirstFault lines fault
