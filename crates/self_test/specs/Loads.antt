-- What is stored of generated documents.
use Rattle.std.specs.Prelude.{◌≡◌, ℕ, ◌+◌, pos, List, [], ◌∷◌}
use Rattle.doc_tokens.specs.Tokens.{TokensOf}
use Rattle.doc_types.specs.declared.documents.Doc.{Doc}
use Rattle.doc_types.specs.declared.schema.Value.TheVariants.{Whole}
use Rattle.doc_types.specs.declared.tokens.FieldTokens.{FieldTokens}
use Rattle.index_conf.specs.declared.conf.IndexConf.{IndexConf}
use Rattle.ql_insert.specs.Insertions.{fold_of}
use Rattle.self_test.specs.Texts.{title_of}
use Rattle.self_test.specs.declared.generator.Document.{Document}

-- What is stored of a document under an id: the tokens of its title, and its group.
pub record IsStored (conf : IndexConf) (id : ℕ) (document : Document) (doc : Doc) : Type 0 where
  pub tokens : FieldTokens
  pub of : TokensOf (fold_of conf) conf.rules (title_of document) tokens
  pub is : doc ≡ record { id = id; fields = tokens ∷ []; values = Whole (pos document.gid) ∷ [] }

-- These are stored of documents, under the ids behind this one.
abbrev pub AreStored : IndexConf → ℕ → List Document → List Doc → Type 0
AreStored conf before [] [] = Unit {0}
AreStored conf before [] (doc ∷ docs) = ⊥
AreStored conf before (document ∷ documents) [] = ⊥
AreStored conf before (document ∷ documents) (doc ∷ docs) = IsStored conf (before + 1) document doc × AreStored conf (before + 1) documents docs
