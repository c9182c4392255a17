use Rattle.std.proofs.Common.{◌≡◌, ◌≤◌, ◌∙◌, ℕ, List, [], ◌∷◌, Err, arith, length, refl, subst, sym}
use Rattle.std.specs.Prelude.{Option, None}
use Rattle.std.proofs.lemmas.Bool.{true≢false}
use Rattle.srch_base.specs.declared.faults.Or.{Or}
use Rattle.index_conf.specs.declared.conf.IndexConf.{IndexConf}
use Rattle.conf_text.specs.declared.size.TheConstants.{MAX_CONF_BYTES}
use Rattle.conf_text.specs.declared.fault.ConfFault.{ConfFault}
use Rattle.conf_text.specs.Confs.{AreLinesOf, IsFirstFault, ReadsConf, at_line, no_index}
use Rattle.conf_text.specs.steps.Drafts.{AreIndexes}
use Rattle.conf_text.specs.Lines.{lines_of}
use Rattle.conf_text.specs.steps.LineReader.{FindsBadLine, ReadsIndexes}
use Rattle.conf_text.specs.Sections.{IndexText}
use Rattle.conf_text.proofs.SoundLines.{sound_conf}
use Rattle.conf_text.proofs.reading.read_conf.Goals as goal

-- the lines of a text in which no bad line was found
lines_are : (text : List ℕ) (found : Option ℕ) → length text ≤ MAX_CONF_BYTES → found ≡ None → FindsBadLine (lines_of text) found → AreLinesOf text (lines_of text)
lines_are text found short is finds = record { are = refl; short = short; texts = subst (FindsBadLine (lines_of text)) is finds }

-- without indexes there are no texts of indexes
no_texts : (texts : List IndexText) (indexes : List IndexConf) → AreIndexes texts indexes → indexes ≡ [] → texts ≡ []
no_texts [] indexes are empty = refl
no_texts (t ∷ texts) [] are empty = absurd are
no_texts (t ∷ texts) (i ∷ indexes) are empty = cc

pub returns-then-is_empty-clause-reads : goal.returns-then-is_empty-clause-reads
returns-then-is_empty-clause-reads c =
    let text = c.args.text.now in
    let are : AreLinesOf text (lines_of text) = lines_are text c.in_ok-line.field-0 (omega arith) c.in-None.is c.in_ok-line.ensures in
    subst (λ (e : Or ConfFault). ReadsConf text (Err e)) (sym c.fault_at-then-is_empty.ensures)
    (no_index (lines_of text) are c.in-Ok.ensures.0 (no_texts _ c.in-Ok.indexes c.in-Ok.ensures.1 (c.is_empty.ensures.0 c.if-is_empty.true)) refl)

pub returns-in-Err-Fault-clause-reads : goal.returns-in-Err-Fault-clause-reads
returns-in-Err-Fault-clause-reads c =
    let text = c.args.text.now in
    let are : AreLinesOf text (lines_of text) = lines_are text c.in_ok-line.field-0 (omega arith) c.in-None.is c.in_ok-line.ensures in
    let first : IsFirstFault (lines_of text) c.in-Err-Fault.fault = subst (λ (e : Or ConfFault). ReadsIndexes (lines_of text) (Err e)) c.in-Err-Fault.field-0-is c.in-Err-Fault.ensures in
    at_line (lines_of text) are first

pub returns-else-is_empty-clause-sound : goal.returns-else-is_empty-clause-sound
returns-else-is_empty-clause-sound c =
    sound_conf (lines_of c.args.text.now) (record { indexes = c.in-Ok.indexes }) c.in-Ok.ensures.0.good c.in-Ok.ensures.1
    (λ none. true≢false (sym (c.is_empty.ensures.1 none) ∙ c.if-is_empty.false))
