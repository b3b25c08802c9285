-- A level table: a mask for each level, and the questions of documents 01 and 02 that are put of it. Assumes nothing.
-- Laws (`proofs/Laws/Table`): a table that passes question 4 is a partial order (`partial_order`), in which only levels of the table
-- dominate or are dominated (`upper_present`, `lower_present`); one that passes 4, 5 and 17 is a join semilattice (`passed`), and a lattice
-- (`passed_lattice`).
use Rattle.std.specs.Prelude.{ℕ, ◌/◌, ◌%◌, ◌^◌, Bool, cond, ◌&&◌, List, Result, Ok, Err, eqb, ltb, length, get_or}
use Rattle.lists.specs.Range.{all}
use Rattle.dominance.specs.Order.{Dominance, is_order}
use Rattle.dominance.specs.Join.{join, has_joins}
use Rattle.dominance.specs.Meet.{has_meets}
use Rattle.dominance.specs.declared.Fault.{Fault}
use Rattle.dominance.specs.declared.Fault.TheVariants.{NotOrdered, NoJoin, NoMeet}

-- bit k, worth 2^k, is set
abbrev pub bit : ℕ → ℕ → Bool
bit mask k = eqb (mask / 2 ^ k % 2) 1

-- "bit k (worth 2^k) is set when this level dominates level k"
unfoldable pub dominates : List ℕ → Dominance
dominates masks i k = bit (get_or masks i 0) k

-- question 4: does each mask name only present levels
unfoldable pub names_present : List ℕ → Bool
names_present masks = all (length masks) (λ i. ltb (get_or masks i 0) (2 ^ length masks))

-- question 4
unfoldable pub is_ordered : List ℕ → Bool
is_ordered masks = names_present masks && is_order (length masks) (dominates masks)

-- the join of two levels of the table
abbrev pub join_of : List ℕ → ℕ → ℕ → ℕ
join_of masks = join (length masks) (dominates masks)

-- question 5
abbrev pub is_joined : List ℕ → Bool
is_joined masks = has_joins (length masks) (dominates masks)

-- question 17
abbrev pub is_met : List ℕ → Bool
is_met masks = has_meets (length masks) (dominates masks)

-- what the questions say of a table: that all say yes, or the first that says no
abbrev pub Verdict : Type 0
Verdict = Result Unit Fault

abbrev pub Passed : Verdict
Passed = Ok tt

-- the first of questions 4, 5 and 17, in this order, that says no, or that all say yes: 17 is "put straight after question 5"
unfoldable pub verdict_of : List ℕ → Verdict
verdict_of masks =
    cond (is_ordered masks) (cond (is_joined masks) (cond (is_met masks) Passed (Err NoMeet)) (Err NoJoin)) (Err NotOrdered)

-- the documents' number of what refuses
abbrev pub number_of_fault : Fault → ℕ
number_of_fault NotOrdered = 4
number_of_fault NoJoin = 5
number_of_fault NoMeet = 17

-- and of a verdict. Its place is 0, as for every question put of a whole input
abbrev pub number_of_verdict : Verdict → ℕ
number_of_verdict (Ok u) = 0
number_of_verdict (Err f) = number_of_fault f
