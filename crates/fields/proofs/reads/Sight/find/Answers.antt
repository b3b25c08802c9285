use mathlib.Core.Path.{refl, sym, ◌∙◌, ap}
use borrow.Author.Tests.{eq-eqb, ne_eqb}
use Rattle.std.specs.Prelude.{Ok}
use Rattle.std.proofs.lemmas.Result.{err_from_is_err_and}
use Rattle.fields.specs.Reads.{found_of}
use Rattle.fields.proofs.Laws.Reads.{told_script, told_missing}
use Rattle.fields.proofs.reads.Sight.find.Goals as goal

pub returns-in_err-script_of : goal.returns-in_err-script_of
unfolding found_of
returns-in_err-script_of c =
    let t = told_missing _ _ (sym c.script_of.ensures ∙ c.in_err-script_of.was) in
    let p = err_from_is_err_and c.from_residual.result c.from_residual.ensures.1 in
    rw (t.0, p.1, p.2, t.1) refl

pub returns-then-branch-eq0 : goal.returns-then-branch-eq0
unfolding found_of
returns-then-branch-eq0 c =
    let t = told_script _ _ (sym c.script_of.ensures ∙ c.in_ok-script_of.was) in
    rw (t.0, eq-eqb _ 0 (sym t.1 ∙ c.if-branch-eq0.true)) refl

pub returns-then-own : goal.returns-then-own
unfolding found_of
returns-then-own c =
    let t = told_script _ _ (sym c.script_of.ensures ∙ c.in_ok-script_of.was) in
    rw (t.0, ne_eqb _ 0 (λ e. c.if-branch-eq0.false (t.1 ∙ e)), c.if-own.true) (ap Ok c.get.ensures)

pub returns-then-not-is_known : goal.returns-then-not-is_known
unfolding found_of
returns-then-not-is_known c =
    let t = told_script _ _ (sym c.script_of.ensures ∙ c.in_ok-script_of.was) in
    let k = sym c.is_known.ensures ∙ c.if-not-is_known.true in
    rw (t.0, ne_eqb _ 0 (λ e. c.if-branch-eq0.false (t.1 ∙ e)), c.if-own.false, k) refl

pub returns : goal.returns
unfolding found_of
returns c =
    let t = told_script _ _ (sym c.script_of.ensures ∙ c.in_ok-script_of.was) in
    let k = sym c.is_known.ensures ∙ c.if-not-is_known.false in
    rw (t.0, ne_eqb _ 0 (λ e. c.if-branch-eq0.false (t.1 ∙ e)), c.if-own.false, k) (ap Ok c.get-2.ensures)
