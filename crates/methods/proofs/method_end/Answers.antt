use Rattle.std.proofs.Common.{rules, ◌≡◌, ◌≢◌}
use borrow.Author.Tests.{tests}
use mathlib.Core.Path.{◌∙◌}
use native.Mathlib.Omega.{arith}
use Rattle.std.proofs.lemmas.Iterator.{first_from_Range}
use Rattle.session.proofs.Laws.Parts.{key_at}
use Rattle.methods.proofs.Laws.Scripts.{end_found}
use Rattle.methods.proofs.method_end.Goals as goal

pub returns : goal.returns
returns c =
    let s = c.args.session.now in
    let found = first_from_Range _ _ _ c.find.result (λ i. key_at s i ≢ key_at s c.args.r) (λ i. key_at s i ≡ key_at s c.args.r) c.find.ensures.ran (λ x q k. search (rules, tests, arith)) (λ x q k. search (rules, tests, arith)) in
    c.unwrap_or.ensures ∙ end_found s c.args.r c.args.end c.requires.0 c.find.result found
