use Rattle.std.proofs.Common.{◌≡◌, ◌+◌, ◌-◌, le_trans, arith}
use Rattle.rows.proofs.Laws.Rows.{rising_keys}
use Rattle.rows.proofs.place.Goals as goal

pub returns-then-words-base : goal.returns-then-words-base
returns-then-words-base c =
    let g = c.args in
    let at = c.loop-i in
    record {
      within = omega arith;
      before = λ j h.
          le_trans (rising_keys g.words.now g.base g.width c.requires.0 g.count c.requires.2 j (at.i - 1) (omega arith) (omega arith))
          c.if-words-base.true;
      after = λ h. let z : at.i - 1 + 1 ≡ at.i = omega arith in rw z (at.invariant (omega arith));
    }
