-- The configuration of a run: what is read of its file, and what that says.
use Rattle.std.specs.Prelude.{◌≡◌, ℕ, List, [], Option, Some, None}
use Rattle.conf_text.specs.Confs.{IsConfOf, IsFaultOf}
use Rattle.index_conf.specs.declared.conf.Conf.{Conf}
use Rattle.index_conf.specs.declared.conf.IndexConf.{IndexConf}
use Rattle.conf_text.specs.declared.size.TheConstants.{MAX_CONF_BYTES}
use Rattle.conf_text.specs.declared.fault.ConfFault.{ConfFault}
use Rattle.program_host.specs.Texts.{AreReadOf, Texts}

-- What was read of the file is a configuration of these indexes.
pub record IsConfigured (texts : Texts) (file : List ℕ) (indexes : List IndexConf) : Type 0 where
  pub bytes : List ℕ
  pub read : AreReadOf (texts file) MAX_CONF_BYTES bytes
  pub conf : Conf
  pub is : IsConfOf bytes conf
  pub has : conf.indexes ≡ indexes

-- What was read of the file is no configuration: this fault comes first.
pub record IsMisconfigured (texts : Texts) (file : List ℕ) (fault : ConfFault) : Type 0 where
  pub bytes : List ℕ
  pub read : AreReadOf (texts file) MAX_CONF_BYTES bytes
  pub is : IsFaultOf bytes fault

-- The indexes of a run: those of the configuration in its file, and none where it has no file.
abbrev pub AreIndexes : Texts → Option (List ℕ) → List IndexConf → Type 0
AreIndexes texts None indexes = indexes ≡ []
AreIndexes texts (Some file) indexes = IsConfigured texts file indexes
