use Rattle.std.proofs.Common.{◌++◌, refl, subst, sym, ℕ, map}
use Rattle.gate_log.specs.Reading.{record_of}
use Rattle.store_reads.specs.steps.Pieces.{IsLaidOf}
use Rattle.store_reads.proofs.LogBytes.{all_short, end_well, end_wrong, records_wrong}
use Rattle.store_reads.proofs.loading.Loaded.take_log.Goals as goal

pub lay_records-requires-clause-short : goal.lay_records-requires-clause-short
lay_records-requires-clause-short g c = all_short _ _ _ _ c.in_ok-read.ensures c.deref.ensures.value

pub lay_records-requires-clause-laid : goal.lay_records-requires-clause-laid
lay_records-requires-clause-laid g c =
    let loaded = c.requires.loaded.3 in
    (c.requires.loaded.0, c.requires.loaded.2, subst (λ (t : ℕ). IsLaidOf c.args.schema.now c.requires.loaded.0 t c.requires.loaded.2 c.args.self.now.laid) (sym loaded.through_is) loaded.of)

pub returns-in-Err-clause-takes : goal.returns-in-Err-clause-takes
returns-in-Err-clause-takes g c = λ chunks through front loaded.
    records_wrong c.args.schema.now chunks through front c.before-2.result c.args.bytes.now c.in_ok-read.read c.deref.result.now c.args.file c.in-Err.fault _
    (c.before-2.ensures c.args.schema.now chunks through front loaded) c.in_ok-read.ensures c.deref.ensures.value
    (c.in-Err.ensures chunks front (subst (λ (t : ℕ). IsLaidOf c.args.schema.now chunks t front c.args.self.now.laid) (sym loaded.through_is) loaded.of))

pub returns-in-Some-clause-takes : goal.returns-in-Some-clause-takes
returns-in-Some-clause-takes g c = λ chunks through front loaded.
    let before = subst (λ (t : ℕ). IsLaidOf c.args.schema.now chunks t front c.args.self.now.laid) (sym loaded.through_is) loaded.of in
    let laid = subst (λ (t : ℕ). IsLaidOf c.args.schema.now chunks t (front ++ map record_of c.deref.result.now) c.lay_records.new.laid) loaded.through_is (c.in-Ok.ensures chunks front before) in
    end_wrong c.args.schema.now chunks through front c.before-2.result c.args.bytes.now c.in_ok-read.read c.deref.result.now c.in-Some.kind c.args.file c.damage_of.result c.lay_records.new.laid
    (c.before-2.ensures c.args.schema.now chunks through front loaded) c.in_ok-read.ensures c.deref.ensures.value c.in-Some.is laid c.damage_of.ensures

pub returns-clause-takes : goal.returns-clause-takes
returns-clause-takes g c = λ chunks through front loaded.
    let before = subst (λ (t : ℕ). IsLaidOf c.args.schema.now chunks t front c.args.self.now.laid) (sym loaded.through_is) loaded.of in
    let laid = subst (λ (t : ℕ). IsLaidOf c.args.schema.now chunks t (front ++ map record_of c.deref.result.now) c.lay_records.new.laid) loaded.through_is (c.in-Ok.ensures chunks front before) in
    end_well c.args.schema.now chunks through c.args.file front c.before-2.result c.args.bytes.now c.in_ok-read.read c.deref.result.now c.args.self.now _
    (c.before-2.ensures c.args.schema.now chunks through front loaded) c.in_ok-read.ensures c.deref.ensures.value c.in-None.is loaded laid c.or-self.ensures refl
