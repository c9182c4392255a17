-- What a configuration's text is: the indexes that it describes, or its first fault.
use Rattle.std.specs.Prelude.{◌≡◌, ◌≢◌, ℕ, ◌<◌, ◌≤◌, List, [], ◌∷◌, ◌++◌, Bool, true, false, Option, Some, None, Result, Ok, Err, All, length, map, reverse}
use Rattle.std.specs.Char.{IsScalar}
use Rattle.std.specs.List.{AllZip}
use Rattle.std.specs.Str.{IsUtf8}
use Rattle.charset_map.specs.declared.span.Span.{Span}
use Rattle.charset_map.specs.TableText.{IsTableOf, default_text}
use Rattle.charset_map.specs.Spans.{folded}
use Rattle.srch_base.specs.declared.faults.Or.{Or}
use Rattle.srch_base.specs.declared.faults.Or.TheVariants as causes
use Rattle.index_conf.specs.declared.conf.Conf.{Conf}
use Rattle.index_conf.specs.declared.conf.IndexConf.{IndexConf}
use Rattle.conf_text.specs.declared.size.TheConstants.{MAX_CONF_BYTES}
use Rattle.conf_text.specs.declared.fault.ConfFault.{ConfFault}
use Rattle.conf_text.specs.declared.fault.ConfKind.TheVariants as kinds
use Rattle.conf_text.specs.declared.keys.Key.TheVariants as keys
use Rattle.conf_text.specs.Faults.{is_outside, is_on, IsFaultAt, AreGood}
use Rattle.conf_text.specs.Lines.{Line, lines_of, content}
use Rattle.conf_text.specs.Sections.{place_in, IndexText, indexes_in, spot_in, given, fields_in, attrs_in}
use Rattle.conf_text.specs.Shapes.{Shape, shape_of}
use Rattle.conf_text.specs.Values.{prefix_len_in, zones_in}

-- a line is UTF-8: each of its parts is
abbrev pub IsUtf8Line : Line → Type 0
IsUtf8Line line = All IsUtf8 line.parts

-- the shape of a line, and the shapes of lines, from the last one on
abbrev pub shape : Line → Shape
shape line = shape_of (content line)

abbrev pub shapes_back : List Line → List Shape
shapes_back lines = reverse (map shape lines)

-- the first line that isn't UTF-8 has this number
pub record IsFirstBadLine (lines : List Line) (number : ℕ) : Type 0 where
  pub before : List Line
  pub line : Line
  pub after : List Line
  pub are : lines ≡ before ++ line ∷ after
  pub good : All IsUtf8Line before
  pub bad : ¬ (IsUtf8Line line)
  pub at : number ≡ line.number

-- no line follows
abbrev pub is_last : List Line → Bool
is_last [] = true
is_last (line ∷ after) = false

-- this fault comes first: none stands at the lines before
pub record IsFirstFault (lines : List Line) (fault : ConfFault) : Type 0 where
  pub before : List Line
  pub line : Line
  pub after : List Line
  pub are : lines ≡ before ++ line ∷ after
  pub good : AreGood (shapes_back before)
  pub at : fault.line ≡ line.number
  pub kind : IsFaultAt fault.kind (spot_in (shapes_back before)) (shape line) (is_last after)

-- the lines of a text that may be a configuration: it isn't too long, and each is UTF-8
pub record AreLinesOf (text : List ℕ) (lines : List Line) : Type 0 where
  pub are : lines ≡ lines_of text
  pub short : length text ≤ MAX_CONF_BYTES
  pub texts : All IsUtf8Line lines

-- no fault stands at a line, and each section is ended
pub record AreFaultless (lines : List Line) : Type 0 where
  pub good : AreGood (shapes_back lines)
  pub ended : is_outside (place_in (shapes_back lines)) ≡ true

-- the first fault of a text
pub data IsFaultOf (text : List ℕ) (fault : ConfFault) : Type 0 where
  -- it is too long
  too_long : MAX_CONF_BYTES < length text → fault ≡ record { line = 1; kind = kinds.Limit } → IsFaultOf text fault
  -- a line isn't UTF-8
  not_text : length text ≤ MAX_CONF_BYTES → IsFirstBadLine (lines_of text) fault.line → fault.kind ≡ kinds.NotText → IsFaultOf text fault
  -- a fault stands at a line
  at_line : (lines : List Line) → AreLinesOf text lines → IsFirstFault lines fault → IsFaultOf text fault
  -- it has no index
  no_index : (lines : List Line) → AreLinesOf text lines → AreFaultless lines → indexes_in (shapes_back lines) ≡ [] → fault ≡ record { line = 1; kind = kinds.Missing } → IsFaultOf text fault

-- the zones of an index, by the value of its key
abbrev pub zones_by : Option (List ℕ) → List (List ℕ)
zones_by None = []
zones_by (Some value) = zones_in value

-- the fewest characters of a prefix, by the value of its key
abbrev pub prefix_len_by : Option (List ℕ) → ℕ
prefix_len_by None = 0
prefix_len_by (Some value) = elim (prefix_len_in value) [ None ↦ 0 | Some n ↦ n ]

-- the character table of an index, by the value of its key
abbrev pub IsCharsetBy : Option (List ℕ) → List Span → Type 0
IsCharsetBy None charset = IsTableOf default_text (folded charset)
IsCharsetBy (Some value) charset = IsTableOf value (folded charset)

-- an index is as the text has it
pub record IsIndexOf (text : IndexText) (conf : IndexConf) : Type 0 where
  pub name : conf.schema.name ≡ text.name
  pub fields : conf.schema.fields ≡ fields_in text.entries
  pub attrs : conf.schema.attrs ≡ attrs_in text.entries
  pub zones : conf.schema.zones ≡ zones_by (given keys.IndexZones text.entries)
  pub sp : conf.schema.sp ≡ is_on (given keys.IndexSp text.entries)
  pub prefix : conf.schema.min_prefix ≡ prefix_len_by (given keys.MinPrefixLen text.entries)
  pub charset : IsCharsetBy (given keys.CharsetTable text.entries) conf.charset
  pub strip : conf.rules.strip ≡ is_on (given keys.HtmlStrip text.entries)
  pub rules_zones : conf.rules.zones ≡ conf.schema.zones
  pub rules_sp : conf.rules.sp ≡ conf.schema.sp
  pub path : given keys.Path text.entries ≡ Some conf.path

-- two indexes are the same: only how they keep the values of their tables may differ
pub record AreSameIndex (a b : IndexConf) : Type 0 where
  pub schema : a.schema ≡ b.schema
  pub rules : a.rules ≡ b.rules
  pub path : a.path ≡ b.path
  pub charset : (c : ℕ) → IsScalar c → folded a.charset c ≡ folded b.charset c

-- the text is this configuration
pub record IsConfOf (text : List ℕ) (conf : Conf) : Type 0 where
  pub lines : List Line
  pub are : AreLinesOf text lines
  pub faultless : AreFaultless lines
  pub some : indexes_in (shapes_back lines) ≢ []
  pub indexes : AllZip IsIndexOf (indexes_in (shapes_back lines)) conf.indexes

-- what reading a text gives: its configuration, or its first fault, or nothing for want of memory
abbrev pub ReadsConf : List ℕ → Result Conf (Or ConfFault) → Type 0
ReadsConf text (Ok conf) = IsConfOf text conf
ReadsConf text (Err causes.NoMemory) = Unit {0}
ReadsConf text (Err (causes.Fault fault)) = IsFaultOf text fault
