use Rattle.std.proofs.Common.{rules, Bool, true, ◌≡◌, ◌&&◌}
use lib.Dec.{leb}
use mathlib.Core.Path.{sym, ◌∙◌}
use native.Mathlib.Omega.{arith}
use borrow.Author.Tests.{tests}
use Rattle.std.proofs.lemmas.Iterator.{YieldsList-from_slice}
use Rattle.std.proofs.lemmas.Fn.{always_returns_same}
use Rattle.lists.specs.Lists.{every, rising_from}
use Rattle.session.specs.Record.{Record, kind_of}
use Rattle.session.specs.Questions.{kinds_rise}
use Rattle.session_records.proofs.Laws.Chains.{every_ran}
use Rattle.session_records.proofs.Laws.Kinds.{rises_said}
use Rattle.session_records.proofs.kinds.kinds_rise.Goals as goal

named : Record → Bool
named rec = leb 1 (kind_of rec) && leb (kind_of rec) 4

pub returns-then-all : goal.returns-then-all
unfolding kinds_rise named
returns-then-all c =
    let xs = c.records-records.result.now in
    let all-named : true ≡ every named xs =
    sym c.if-all.true ∙ every_ran _ _ _ named c.all.ensures.ran (YieldsList-from_slice xs cc) (λ x b q k. search (rules, tests, arith)) in
    let rising : c.is_sorted_by_key.result ≡ rising_from kind_of 0 xs = rises_said xs _ (c.is_sorted_by_key.ensures.cases kind_of (always_returns_same _ _ _ (λ a r f k. search rules))) in
    rw (← c.records-records.ensures, ← all-named) rising

pub returns-else-all : goal.returns-else-all
unfolding kinds_rise named
returns-else-all c =
    let xs = c.records-records.result.now in
    let some : c.all.result ≡ every named xs =
    every_ran _ _ _ named c.all.ensures.ran (YieldsList-from_slice xs cc) (λ x b q k. search (rules, tests, arith)) in
    rw (← c.records-records.ensures, ← some, c.if-all.false)
