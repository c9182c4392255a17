use Rattle.std.proofs.Common.{◌≡◌, ◌+◌, ◌<◌, ◌≤◌, ◌^◌, ℕ, List, None, Some, length, subst, sym, ap, ◌∙◌, arith}
use Rattle.std.specs.Vec.{with_items}
use Rattle.std.proofs.lemmas.List.{with_items_is}
use Rattle.prefix_terms.specs.steps.Merging.{ArePassed, IsLeastWord}
use Rattle.prefix_terms.specs.steps.Parts.{PartValue}
use Rattle.prefix_terms.proofs.Left.{left, left_most, one_fewer}
use Rattle.prefix_terms.proofs.Merged.{IsAmid, amid_all, amid_more, amid_none}
use Rattle.prefix_terms.proofs.words.merged.Goals as goal

pub words-init : goal.words-init
words-init g c =
    let parts : List PartValue = c.args.parts.now in
    let most = left_most parts c.in_ok-numbers.numbers.items c.requires.short in
    record {
      amid = amid_none parts c.in_ok-numbers.numbers.items c.args.room c.none_found-found.result.kept.items c.none_found-found.result.count c.in_ok-numbers.ensures c.none_found-found.ensures.kept c.none_found-found.ensures.count;
      few = omega (arith, most, c.requires.few, c.none_found-found.ensures.count);
    }

pub words-preserved : goal.words-preserved
words-preserved g c =
    let parts : List PartValue = c.args.parts.now in
    let numbers : List ℕ = c.words.numbers.items in
    let after : List ℕ = c.pass.new.numbers in
    let word = c.in-Some.word.now in
    let least : IsLeastWord parts numbers (length parts) (Some word) = subst (λ (ns : List ℕ). IsLeastWord parts ns (length parts) (Some word)) c.deref.ensures.value c.in-Some.ensures in
    let passed : ArePassed word parts numbers after (length parts) = subst (λ (ns : List ℕ). ArePassed word parts ns after (length parts)) c.deref_mut.ensures.value c.pass.ensures.passed in
    let long : length after ≡ length numbers = c.pass.ensures.long ∙ ap length c.deref_mut.ensures.value in
    let its : (with_items c.words.numbers after).items ≡ after = with_items_is c.words.numbers after (long ∙ sym c.words.numbers.ok.0) in
    let fewer : left parts after < left parts numbers = one_fewer parts numbers after word c.words.invariant.amid.stand.long long least passed in
    record {
      amid = subst (λ (ns : List ℕ). IsAmid parts ns c.args.room c.take.new.found.kept.items c.take.new.found.count) (sym its)
          (amid_more parts numbers after c.args.room c.words.found.kept.items c.take.new.found.kept.items c.words.found.count c.take.new.found.count word c.is_living-lives.result c.words.invariant.amid c.requires.ascend least long passed c.is_living-lives.ensures c.in_ok-take.ensures.words);
      few = subst (λ (ns : List ℕ). c.take.new.found.count + left parts ns ≤ 2 ^ 48) (sym its) (omega (arith, fewer, c.in_ok-take.ensures.count, c.words.invariant.few));
    }

pub words-smaller : goal.words-smaller
words-smaller g c =
    let parts : List PartValue = c.args.parts.now in
    let numbers : List ℕ = c.words.numbers.items in
    let after : List ℕ = c.pass.new.numbers in
    let word = c.in-Some.word.now in
    let least : IsLeastWord parts numbers (length parts) (Some word) = subst (λ (ns : List ℕ). IsLeastWord parts ns (length parts) (Some word)) c.deref.ensures.value c.in-Some.ensures in
    let passed : ArePassed word parts numbers after (length parts) = subst (λ (ns : List ℕ). ArePassed word parts ns after (length parts)) c.deref_mut.ensures.value c.pass.ensures.passed in
    let long : length after ≡ length numbers = c.pass.ensures.long ∙ ap length c.deref_mut.ensures.value in
    let its : (with_items c.words.numbers after).items ≡ after = with_items_is c.words.numbers after (long ∙ sym c.words.numbers.ok.0) in
    subst (λ (ns : List ℕ). left parts ns < left parts numbers) (sym its) (one_fewer parts numbers after word c.words.invariant.amid.stand.long long least passed)

pub least_word-requires : goal.least_word-requires
least_word-requires g c = ap length c.deref.ensures.value ∙ c.words.invariant.amid.stand.long

pub pass-requires : goal.pass-requires
pass-requires g c = ap length c.deref_mut.ensures.value ∙ c.words.invariant.amid.stand.long

pub returns-clause-words : goal.returns-clause-words
returns-clause-words g c =
    let parts : List PartValue = c.args.parts.now in
    let none : IsLeastWord parts c.words.numbers.items (length parts) None = subst (λ (ns : List ℕ). IsLeastWord parts ns (length parts) None) c.deref.ensures.value c.in_default.ensures in
    amid_all parts c.words.numbers.items c.args.room c.words.found.kept.items c.words.found.count c.words.invariant.amid none
