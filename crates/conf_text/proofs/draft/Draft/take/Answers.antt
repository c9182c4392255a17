use Rattle.std.proofs.Common.{sym, ◌∙◌}
use Rattle.conf_text.proofs.DraftLemmas.{repeats_is, exceeds_is}
use Rattle.conf_text.proofs.draft.Draft.take.Goals as goal

pub returns-then-repeats : goal.returns-then-repeats
returns-then-repeats c = λ texts name entries are is.
    (c.in_ok-setting.ensures.0, sym (repeats_is texts c.args.indexes.now name entries c.args.self.now c.args.key c.args.value.now c.in_ok-setting.setting are is c.in_ok-setting.ensures.1) ∙ sym c.repeats.ensures ∙ c.if-repeats.true)

pub returns-then-exceeds : goal.returns-then-exceeds
returns-then-exceeds c = λ texts name entries are is. (
  c.in_ok-setting.ensures.0,
  sym (repeats_is texts c.args.indexes.now name entries c.args.self.now c.args.key c.args.value.now c.in_ok-setting.setting are is c.in_ok-setting.ensures.1) ∙ sym c.repeats.ensures ∙ c.if-repeats.false,
  sym (exceeds_is name entries c.args.self.now c.args.key c.args.value.now c.in_ok-setting.setting is c.in_ok-setting.ensures.1) ∙ sym c.exceeds.ensures ∙ c.if-exceeds.true,
)

pub returns : goal.returns
returns c = λ texts name entries are is.
    let new = sym (repeats_is texts c.args.indexes.now name entries c.args.self.now c.args.key c.args.value.now c.in_ok-setting.setting are is c.in_ok-setting.ensures.1) ∙ sym c.repeats.ensures ∙ c.if-repeats.false in
    let within = sym (exceeds_is name entries c.args.self.now c.args.key c.args.value.now c.in_ok-setting.setting is c.in_ok-setting.ensures.1) ∙ sym c.exceeds.ensures ∙ c.if-exceeds.false in
    (record { value_is = c.in_ok-setting.ensures.0; new = new; within = within }, c.in_ok-keep.ensures texts name entries c.args.value.now is c.in_ok-setting.ensures.1 new)
