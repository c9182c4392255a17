-- The index of a selftest as it is configured and as it begins, and what the numbers of generated documents are below.
use Rattle.std.specs.Prelude.{◌≡◌, ◌<◌, ◌≤◌, [], ◌∷◌, false, codes, slice_index}
use Rattle.std.specs.FinMap as finite
use Rattle.doc_types.specs.Snapshots.{live}
use Rattle.doc_types.specs.declared.schema.AttrKind.TheVariants.{Uint}
use Rattle.doc_types.specs.declared.schema.Schema.{Schema}
use Rattle.charset_map.specs.Spans.{folded}
use Rattle.charset_map.specs.TableText.{IsTableOf, default_text}
use Rattle.index_conf.specs.declared.conf.IndexConf.{IndexConf}
use Rattle.step_history.specs.History.{Base}
use Rattle.self_test.specs.declared.generator.Document.{Document}

-- The index `t` has the field `title` and the attribute `gid`, and its texts have no markup and no sentences.
pub record IsOwn (conf : IndexConf) : Type 0 where
  pub name : conf.schema.name ≡ codes "t"
  pub fields : conf.schema.fields ≡ codes "title" ∷ []
  pub attrs : conf.schema.attrs ≡ (codes "gid", Uint) ∷ []
  pub strip : conf.rules.strip ≡ false
  pub sp : conf.rules.sp ≡ false

-- the columns of the index that the documents are written to
abbrev pub own_schema : Schema
own_schema = record { name = codes "t"; fields = codes "title" ∷ []; attrs = (codes "gid", Uint) ∷ []; zones = []; sp = false; min_prefix = 0 }

-- It has these columns and the default table of characters.
pub record IsOurs (index : IndexConf) : Type 0 where
  pub own : IsOwn index
  pub columns : index.schema ≡ own_schema
  pub table : IsTableOf default_text (folded index.charset)

-- The words of a title are four of fifty, and the group is one of five.
pub record IsDrawn (document : Document) : Type 0 where
  pub first : slice_index document.title 0 < 50
  pub second : slice_index document.title 1 < 50
  pub third : slice_index document.title 2 < 50
  pub fourth : slice_index document.title 3 < 50
  pub group : document.gid < 5

-- A history that begins without documents, early in its log.
pub record IsEmpty (base : Base) : Type 0 where
  pub none : live base.opening ≡ finite.empty
  pub number : base.opening.number ≡ 0
  pub log : base.log ≤ 1000000
