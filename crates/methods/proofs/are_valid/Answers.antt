use Prim.Native.Nat.{◌+◌}
use mathlib.Core.Path.{sym, ◌∙◌}
use native.Mathlib.Omega.{arith}
use Rattle.methods.proofs.Laws.Scripts.{methods_all, methods_long, methods_wrong, methods_falls, methods_more, end_after, end_within, end_same}
use Rattle.methods.proofs.are_valid.Goals as goal

pub overflow_sub-count : goal.overflow_sub-count
overflow_sub-count c =
    omega (arith, c.method_end-next.ensures, end_after c.args.session.now c.loop-at.at c.args.end c.loop-at-test.true)

pub returns-then-count-gt-MAX_METHOD : goal.returns-then-count-gt-MAX_METHOD
returns-then-count-gt-MAX_METHOD c =
    let at = c.loop-at in
    sym (methods_long c.args.session.now c.args.levels c.args.objects c.args.first c.args.end at.at at.invariant
    c.loop-at-test.true
    (rw c.method_end-next.ensures at c.if-count-gt-MAX_METHOD.true))

pub is_method_valid-requires : goal.is_method_valid-requires
is_method_valid-requires c =
    let at = c.loop-at in
    let after = end_after c.args.session.now at.at c.args.end c.loop-at-test.true in
    let within = end_within c.args.session.now at.at c.args.end c.loop-at-test.true in
    let e = c.method_end-next.ensures in record {
      count_bound = omega (arith, e);
      one_method = record {
        some = omega (arith, e);
        same = λ i h. end_same c.args.session.now at.at c.args.end c.loop-at-test.true (at.at + i) (omega arith) (omega (arith, e, h));
      };
    }

pub returns-then-not-is_method_valid : goal.returns-then-not-is_method_valid
returns-then-not-is_method_valid c =
    let at = c.loop-at in
    let e = c.method_end-next.ensures in
    sym (methods_wrong c.args.session.now c.args.levels c.args.objects c.args.first c.args.end at.at at.invariant
    c.loop-at-test.true
    (rw e at (sym c.is_method_valid.ensures ∙ c.if-not-is_method_valid.true)))

pub falls-requires : goal.falls-requires
falls-requires c =
    let after = end_after c.args.session.now c.loop-at.at c.args.end c.loop-at-test.true in
    (omega (arith, c.method_end-next.ensures), c.requires.1)

pub returns-then-falls : goal.returns-then-falls
returns-then-falls c =
    let at = c.loop-at in
    sym (methods_falls c.args.session.now c.args.levels c.args.objects c.args.first c.args.end at.at at.invariant
    c.loop-at-test.true
    (rw c.method_end-next.ensures at (sym c.falls.ensures ∙ c.if-falls.true)))

pub loop-at-smaller : goal.loop-at-smaller
loop-at-smaller c =
    omega (arith, c.method_end-next.ensures, end_after c.args.session.now c.loop-at.at c.args.end c.loop-at-test.true)

pub loop-at-preserved : goal.loop-at-preserved
loop-at-preserved c =
    let at = c.loop-at in
    let e = c.method_end-next.ensures in
    rw e (methods_more c.args.session.now c.args.levels c.args.objects c.args.first c.args.end at.at at.invariant
    c.loop-at-test.true
    (rw e at c.if-count-gt-MAX_METHOD.false)
    (rw e at (sym c.is_method_valid.ensures ∙ c.if-not-is_method_valid.false))
    (rw e at (sym c.falls.ensures ∙ c.if-falls.false)))

pub returns : goal.returns
returns c =
    sym (methods_all c.args.session.now c.args.levels c.args.objects c.args.first c.args.end c.loop-at.at c.loop-at.invariant c.loop-at-test.false)
