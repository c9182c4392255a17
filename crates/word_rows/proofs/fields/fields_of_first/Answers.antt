use Rattle.std.proofs.Common.{Bor, length, subst}
use Rattle.query_tree.specs.declared.key.Key.{Key}
use Rattle.word_rows.specs.Fields.{AreFieldsOf, LooksAtFields}
use Rattle.word_rows.specs.Keywords.{key_places}
use Rattle.word_rows.specs.Terms.{IsSeenIn}
use Rattle.word_rows.proofs.FieldBits.{first_counts, only_key, some_there}
use Rattle.word_rows.proofs.Zipped.{zip_read}
use Rattle.word_rows.proofs.fields.fields_of_first.Goals as goal

pub fields_of-requires-clause-seen : goal.fields_of-requires-clause-seen
fields_of-requires-clause-seen g c = λ found here.
    (zip_read (IsSeenIn found) (λ (key : Bor Key). key.now) c.args.keys.now c.args.terms.now 0 c.index-keys-0.result c.index-terms-0.result (c.requires.seen found here) (some_there (length c.args.keys.now) c.is_empty.result c.is_empty.ensures c.if-is_empty.false) c.index-keys-0.is).present

pub returns-clause-count : goal.returns-clause-count
returns-clause-count g c = λ found here.
    first_counts found c.args.keys.now c.index-keys-0.result _ c.args.steps.now c.fields_of.new.steps (some_there (length c.args.keys.now) c.is_empty.result c.is_empty.ensures c.if-is_empty.false) c.index-keys-0.is
    (zip_read (IsSeenIn found) (λ (key : Bor Key). key.now) c.args.keys.now c.args.terms.now 0 c.index-keys-0.result c.index-terms-0.result (c.requires.seen found here) (some_there (length c.args.keys.now) c.is_empty.result c.is_empty.ensures c.if-is_empty.false) c.index-keys-0.is).present
    c.fields_of.ensures.count

pub returns-clause-fields : goal.returns-clause-fields
returns-clause-fields g c = λ found key here only.
    subst (λ (k : Key). LooksAtFields k → AreFieldsOf c.fields_of.result (key_places found k)) (only_key c.args.keys.now c.index-keys-0.result key (some_there (length c.args.keys.now) c.is_empty.result c.is_empty.ensures c.if-is_empty.false) c.index-keys-0.is only) (c.fields_of.ensures.fields found here)
