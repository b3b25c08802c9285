use Rattle.std.proofs.Common.{rules, tests, ◌≡◌, true, false}
use Rattle.std.proofs.lemmas.Iterator.{first_from_Range}
use Rattle.permits.specs.Permits.{lowest_of}
use Rattle.plain.proofs.Laws.Plain.{found_lowest}
use Rattle.plain.proofs.first_lowest.Goals as goal

pub returns : goal.returns
returns c =
    let g = c.args in
    let p = lowest_of g.masks.now g.tallies.now in
    found_lowest g.masks.now g.tallies.now c.find.result
    (first_from_Range _ _ _ c.find.result (λ k. p k ≡ true) (λ k. p k ≡ false) c.find.ensures.ran (λ x q k. search (rules, tests)) (λ x q k. search (rules, tests)))
