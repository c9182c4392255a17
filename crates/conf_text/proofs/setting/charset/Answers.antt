use Rattle.std.proofs.Common.{◌≡◌, ℕ, List, refl, Err, subst, inl, inr, Bool}
use Rattle.std.specs.Bool.{MatchBool}
use Rattle.std.specs.List.{list_all}
use Rattle.std.proofs.lemmas.Bool.{cases_Bool}
use Rattle.srch_base.specs.declared.faults.Or.{Or}
use Rattle.srch_base.specs.declared.faults.Or.TheVariants.{Fault}
use Rattle.charset_map.specs.declared.fault.CharsetKind.TheVariants.{Empty}
use Rattle.charset_map.specs.Characters.{is_blank}
use Rattle.charset_map.specs.TableText.{IsFirstFault, ReadsTable}
use Rattle.charset_map.specs.declared.fault.CharsetFault.{CharsetFault}
use Rattle.conf_text.proofs.setting.charset.Goals as goal

pub returns-in-Err-Fault : goal.returns-in-Err-Fault
returns-in-Err-Fault c = (
  refl,
  λ text. elim (cases_Bool (list_all is_blank c.args.value.now)) [
    | inl blank ↦ c.a_text_is_read_in_one_way.ensures.blank c.args.value.now text.table blank text.is
    | inr some ↦
        (let value = c.args.value.now in
        let fault : CharsetFault = c.in-Err-Fault.field-0-0 in
        let there = subst (λ (e : Or CharsetFault). ReadsTable c.in-Ok.text.now (Err e)) c.in-Err-Fault.field-0-is c.in-Err-Fault.ensures in
        let here : ReadsTable value (Err (Fault fault)) = subst (λ (t : List ℕ). ReadsTable t (Err (Fault fault))) c.in-Ok.ensures.cases.0 there in
        let first : IsFirstFault value fault = subst (λ (b : Bool). MatchBool b (fault ≡ record { place = 0; kind = Empty }) (IsFirstFault value fault)) some here in
        c.a_text_is_read_in_one_way.ensures.either value text.table fault text.is first)
  ],
)
