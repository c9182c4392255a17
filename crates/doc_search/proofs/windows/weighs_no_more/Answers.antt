use Rattle.std.proofs.Common.{◌≤◌, arith}
use Rattle.std.proofs.lemmas.Bool.Decides.{nat_tests}
use Rattle.doc_search.proofs.ManyRows.{weighs_more}
use Rattle.doc_search.proofs.windows.weighs_no_more.Goals as goal

pub returns-in-Some : goal.returns-in-Some
returns-in-Some c = λ low docs dead number doc asked here told found.
    let least : c.in-Some.own ≤ c.args.most = grind (arith, nat_tests) in
    weighs_more c.args.asked.now doc c.in-Some.own c.args.most least (c.in-Some.ensures docs dead number doc asked here told found)
