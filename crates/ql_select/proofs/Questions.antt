-- The question of a SELECT with no fault is one of its index: as many weights as fields, each in its range.
use Rattle.std.proofs.Common.{◌≡◌, ℕ, ◌≤◌, List, Option, Some, None, unwrap_or, refl, arith}
use Rattle.std.specs.Prelude.{All}
use Rattle.std.specs.List.{find}
use Rattle.std.specs.Option.{option_map}
use Rattle.std.specs.Str.{bytes_eq}
use Rattle.std.proofs.lemmas.List.{length-map}
use Rattle.std.proofs.lemmas.List.Elements.{All-map}
use Rattle.index_conf.specs.declared.conf.IndexConf.{IndexConf}
use Rattle.doc_search.specs.declared.ranking.Ranking.{Ranking}
use Rattle.doc_types.specs.Schemas.{IsSchema}
use Rattle.op_eval.specs.Numbered.{IsNumbered}
use Rattle.op_eval.proofs.NumberedHits.{have_positions}
use Rattle.prefix_search.specs.Searches.{IsReadOf}
use Rattle.op_eval.specs.Sentences.{query_for}
use Rattle.ql_tree.specs.declared.select.Select.{Select}
use Rattle.query_tree.specs.declared.query.Query.{Query}
use Rattle.ql_select.specs.declared.names.Names.{Names}
use Rattle.ql_select.specs.Faults.{select_fault}
use Rattle.ql_select.specs.Options.{field_weights_option, last_value, weight_for, weights_in}
use Rattle.ql_select.specs.Selections.{question_of}
use Rattle.ql_select.proofs.NoFault.{IsWeight, are_weights, found_has}

-- a weight of 1 to 65,535
abbrev IsRanged : ℕ → Type 0
IsRanged weight = (1 ≤ weight) × (weight ≤ 65535)

ranged_one : (list : List (List ℕ × ℕ)) (field : List ℕ) → All IsWeight list → (found : Option (List ℕ × ℕ)) → find (λ given. bytes_eq given.0 field) list ≡ found → IsRanged (unwrap_or (option_map (λ given. given.1) found) 1)
ranged_one list field all None e = (omega arith, omega arith)
ranged_one list field all (Some given) e = (found_has IsWeight (λ one. bytes_eq one.0 field) list given all e).0

weight_ranged : (list : List (List ℕ × ℕ)) (field : List ℕ) → All IsWeight list → IsRanged (weight_for list field)
weight_ranged list field all = ranged_one list field all (find (λ given. bytes_eq given.0 field) list) refl

-- the question of a SELECT with no fault is asked of its index, if the keywords of the query are numbered
pub is_asked : (conf : IndexConf) (select : Select) (names : Names) (query : Query) (ranking : Ranking) → IsSchema conf.schema → select_fault conf.schema select ≡ None → IsNumbered (query_for conf.schema query) → IsReadOf conf.schema (question_of conf select names query ranking)
is_asked conf select names query ranking schema good numbered =
    let given : List (List ℕ × ℕ) = weights_in (last_value select.options field_weights_option) in
    let all = are_weights conf.schema select good in
    record {
      asked = record {
        positions = have_positions (query_for conf.schema query) numbered;
        few_fields = schema.few_fields;
        weights = length-map conf.schema.fields (weight_for given);
        each_weight = All-map IsRanged (weight_for given) conf.schema.fields (λ k d below. weight_ranged given _ all);
        attrs = refl;
      };
      numbered = numbered;
    }
