use Rattle.std.proofs.Common.{◌≡◌, ◌∙◌, sym, ap, length, min, rules, take, drop, ◌++◌}
use Rattle.chunk_store.proofs.WholeFiles.{written_back}
use Rattle.gate_log.proofs.FileFronts.{front_by}
use Rattle.gate_log.proofs.front.read_front.Goals as goal

pub returns-in_ok-read-in-Some-clause-found : goal.returns-in_ok-read-in-Some-clause-found
returns-in_ok-read-in-Some-clause-found g c = λ image is.
    let told = sym c.read.ensures.looks.same ∙ is in
    let first = sym c.len.ensures.looks.same ∙ told in
    let into = c.read.new.into in
    let items : length c.resize.new.self.items ≡ c.min.result = search rules in
    let size : length into ≡ c.min.result = search rules in
    let len : c.resize.new.self.len ≡ c.min.result = search rules in
    let least : c.min.result ≡ min c.in-Some.len c.args.most = search rules in
    let found = front_by into (image c.args.file) c.in-Some.len c.args.most (sym c.in-Some.is ∙ c.in_ok-len.ensures.value image first) (size ∙ least) (c.in_ok-read-in-Some.ensures.value image told) in
    (found.0, found.1, ap (λ n. take n (into ++ drop (length into) c.resize.new.self.items)) len ∙ written_back into c.resize.new.self.items c.min.result size items ∙ found.2)
