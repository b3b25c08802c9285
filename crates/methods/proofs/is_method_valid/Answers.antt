use Rattle.std.proofs.Common.{rules, refl}
use borrow.Author.Tests.{tests}
use mathlib.Core.Path.{sym, ◌∙◌}
use native.Mathlib.Omega.{arith}
use Rattle.std.proofs.Common.{◌+◌}
use Rattle.session.specs.Record.{record_at}
use Rattle.session_records.proofs.Laws.Chains.{all_ran}
use Rattle.methods.specs.Methods.{is_fit}
use Rattle.methods.proofs.Laws.Steps.{method_named, method_unnamed}
use Rattle.methods.proofs.is_method_valid.Goals as goal

pub returns-then-is_named : goal.returns-then-is_named
returns-then-is_named c =
    let s = c.args.session.now in
    let n = c.args.count in
    all_ran _ _ _ n (λ i. is_fit c.args.numbers.levels c.args.numbers.objects n (record_at s (c.args.first + i))) refl c.all.ensures.ran (λ x b q k. search (rules, tests, arith))
    ∙ method_named s c.args.first n c.args.numbers.levels c.args.numbers.objects (λ i. omega (arith, c.type_inv.session i)) c.requires.one_method (sym c.is_named.ensures ∙ c.if-is_named.true)

pub returns-else-is_named : goal.returns-else-is_named
returns-else-is_named c =
    sym (method_unnamed c.args.session.now c.args.first c.args.count c.args.numbers.levels c.args.numbers.objects
    (λ i. omega (arith, c.type_inv.session i)) c.requires.one_method
    (sym c.is_named.ensures ∙ c.if-is_named.false) ∙ sym c.if-is_named.false)
