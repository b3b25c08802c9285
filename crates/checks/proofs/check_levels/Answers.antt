-- The level table, questions 4, 5 and 17, then those of the contents.
use Prim.Native.Nat.{◌≤◌}
use mathlib.Core.Path.{sym, ◌∙◌}
use native.Mathlib.Omega.{arith}
use lib.ListN.{length}
use lib.Seq.{length-take-le}
use Rattle.session.proofs.Laws.Parts.{kinds_rise_lem, below_5}
use Rattle.session.proofs.Laws.Numbering.{few_levels}
use Rattle.checks.proofs.Laws.Checked.{table_passed, table_refused, told_yes, told_no}
use Rattle.std.proofs.lemmas.Result.{err_from_is_err_and}
use Rattle.checks.proofs.check_levels.Goals as goal

pub fill_masks-requires : goal.fill_masks-requires
fill_masks-requires c =
    let t = c.args.session.now in
    omega (arith, below_5 t (kinds_rise_lem t c.requires.session_value.0), few_levels t c.requires.session_value.1, c.requires.counted.levels_are, c.requires.max_levels_in_bounds)

pub slice_bounds-check-end : goal.slice_bounds-check-end
slice_bounds-check-end c =
    let t = c.args.session.now in
    omega (arith, few_levels t c.requires.session_value.1, c.requires.counted.levels_are, c.requires.max_levels_in_bounds, c.fill_masks.auto.masks)

pub slice_bounds-check-end-2 : goal.slice_bounds-check-end-2
slice_bounds-check-end-2 c =
    let t = c.args.session.now in
    let masks = c.fill_masks.new.masks in
    let l : c.args.layout.levels ≤ length masks = omega (arith, few_levels t c.requires.session_value.1, c.requires.counted.levels_are, c.requires.max_levels_in_bounds, c.fill_masks.auto.masks) in
    sym (length-take-le c.args.layout.levels masks l)

pub returns-in_err-map_err : goal.returns-in_err-map_err
returns-in_err-map_err c =
    let t = c.args.session.now in
    let p = err_from_is_err_and c.from_residual.result c.from_residual.ensures.1 in
    let (f, e, q) = told_no _ _ _ c.map_err.ensures.cases c.in_err-map_err.was in
    rw (p.1, p.2, q) (table_refused t c.args.masks.now _ c.args.layout.levels (kinds_rise_lem t c.requires.session_value.0) c.requires.counted.levels_are c.fill_masks.ensures f (sym c.check.ensures ∙ e))

pub returns : goal.returns
returns c =
    let t = c.args.session.now in
    table_passed t c.args.masks.now _ c.args.layout.levels (kinds_rise_lem t c.requires.session_value.0) c.requires.counted.levels_are c.fill_masks.ensures
    (sym c.check.ensures ∙ told_yes _ _ c.map_err.ensures.cases c.in_ok-map_err.was) _ c.check_contents.ensures
