use mathlib.Core.Path.{sym, ◌∙◌}
use borrow.Author.Tests.{ne_eqb}
use lib.Seq.{length-take-le}
use Rattle.text.specs.Lines.{text_of}
use Rattle.opening.proofs.Laws.Opening.{number_some}
use Rattle.lupinpause.proofs.Answered.{answered_fits}
use Rattle.lupinpause.proofs.answer.Goals as goal

pub slice_bounds-put_records-end : goal.slice_bounds-put_records-end
slice_bounds-put_records-end c =
    let a = rw c.in-Ok.is at c.run_for_root.ensures in
    answered_fits _ _ _ c.in-Ok.count _ c.run_for_root.new.res a

pub slice_bounds-put_records-end-in-Ok : goal.slice_bounds-put_records-end-in-Ok
slice_bounds-put_records-end-in-Ok c =
    let a = rw c.in-Ok.is at c.run_for_root.ensures in
    sym (length-take-le c.in-Ok.count c.run_for_root.new.res (answered_fits _ _ _ c.in-Ok.count _ c.run_for_root.new.res a))

pub returns-in-Ok : goal.returns-in-Ok
unfolding text_of
returns-in-Ok c =
    record {
      number = 0;
      place = 0;
      count = c.in-Ok.count;
      answers = rw c.in-Ok.is at c.run_for_root.ensures;
      text = c.put_records.ensures;
    }

pub returns-in-Err : goal.returns-in-Err
unfolding text_of
returns-in-Err c =
    let a = rw c.in-Err.is at c.run_for_root.ensures in
    record {
      number = c.number_of-number.result;
      place = c.place_of-place.result;
      count = 0;
      answers = rw (c.number_of-number.ensures, c.place_of-place.ensures) a;
      text = rw (ne_eqb c.number_of-number.result 0 (λ e. number_some c.in-Err.refusal (sym c.number_of-number.ensures ∙ e))) c.put_refusal.ensures;
    }
