use Rattle.std.proofs.Common.{◌≡◌, ◌∙◌, sym, ap, Some, length, rules, take, drop, ◌++◌}
use Rattle.chunk_store.proofs.WholeFiles.{found_by, written_back}
use Rattle.chunk_store.proofs.whole.read_whole.Goals as goal

pub returns-in_ok-read-in-Some-clause-found : goal.returns-in_ok-read-in-Some-clause-found
returns-in_ok-read-in-Some-clause-found g c = λ image is.
    let told = sym c.read.ensures.looks.same ∙ is in
    let first = sym c.len.ensures.looks.same ∙ told in
    let into = c.read.new.into in
    let items : length c.resize.new.self.items ≡ c.in-Some.len = search rules in
    let size : length into ≡ c.in-Some.len = search rules in
    let len : c.resize.new.self.len ≡ c.in-Some.len = search rules in
    found_by into (image c.args.file) c.in-Some.len (sym c.in-Some.is ∙ c.in_ok-len.ensures.value image first) size (c.in_ok-read-in-Some.ensures.value image told)
    ∙ ap Some (sym (ap (λ n. take n (into ++ drop (length into) c.resize.new.self.items)) len ∙ written_back into c.resize.new.self.items c.in-Some.len size items))
