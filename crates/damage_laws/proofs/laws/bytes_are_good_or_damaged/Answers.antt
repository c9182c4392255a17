use Rattle.damage_laws.proofs.OneDamage.{not_damaged}
use Rattle.damage_laws.proofs.SomeDamage.{some_damage}
use Rattle.damage_laws.proofs.laws.bytes_are_good_or_damaged.Goals as goal

pub returns : goal.returns
returns c = λ schema bytes. record {
  some = λ not_good not_damaged. some_damage schema bytes not_good (λ bad is. not_damaged (bad, is));
  one = λ good damaged. not_damaged schema bytes damaged.0 good damaged.1;
}
