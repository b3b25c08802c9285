-- What is counted of each level, and where it stands. No meaning rests on these. Assumes nothing.
-- Laws: what is counted before a run (`proofs/Laws/First`), once a manager has ended (`Closed`), and once existence was written (`Changed`).
use Rattle.std.specs.Prelude.{ℕ, ◌+◌, ◌-◌, ◌*◌, ◌≡◌, Bool, cond, ◌||◌, List, [], ◌∷◌, ◌++◌, eqb, ltb, get_or, set, map, replicate}
use Rattle.session.specs.Limits.{max_levels}
use Rattle.scripts.specs.declared.Ended.{Ended}
use Rattle.histories.specs.Histories.{Added}
use Rattle.tallies.specs.declared.Tally.{Tally}

-- of level l: how many managers have ended stands at l itself; then the write stamp of the next one; the forks that wait; the versions; 1 where
-- a manager runs; 0 as long as no existence was written at the level
abbrev pub next_place : ℕ → ℕ
next_place l = max_levels + l

abbrev pub waiting_place : ℕ → ℕ
waiting_place l = 2 * max_levels + l

abbrev pub versions_place : ℕ → ℕ
versions_place l = 3 * max_levels + l

abbrev pub busy_place : ℕ → ℕ
busy_place l = 4 * max_levels + l

abbrev pub changes_place : ℕ → ℕ
changes_place l = 5 * max_levels + l

-- of all levels: 0 as long as no existence was written at any
abbrev pub all_changes_place : ℕ
all_changes_place = 6 * max_levels

abbrev pub tally_numbers : ℕ
tally_numbers = all_changes_place + 1

abbrev pub number_of : Bool → ℕ
number_of b = cond b 1 0

-- the numbers, part by part, of what is counted of each level and of whether existence was written at any
abbrev pub numbers_of : List Tally → Bool → List ℕ
numbers_of ts c =
    map (λ (t : Tally). t.ended) ts
    ++ (map (λ (t : Tally). t.next) ts
    ++ (map (λ (t : Tally). t.waiting) ts
    ++ (map (λ (t : Tally). t.versions) ts
    ++ (map (λ (t : Tally). number_of t.runs) ts
    ++ (map (λ (t : Tally). number_of t.changed) ts
    ++ number_of c ∷ [])))))

-- the counts once a fork that waited at level l has started
abbrev pub begun_tallies : List ℕ → ℕ → List ℕ
begun_tallies t l = set (set t (waiting_place l) (get_or t (waiting_place l) 0 - 1)) (busy_place l) 1

-- what is counted before any manager started: "A level's write stamp starts at 1"
abbrev pub start_tallies : List ℕ
start_tallies = replicate max_levels 0 ++ replicate max_levels 1 ++ replicate (4 * max_levels + 1) 0

-- the counts once a manager of level l has ended: so many have, and the next write stamp is this one
abbrev pub tallied : ℕ → ℕ → ℕ → List ℕ → List ℕ
tallied l count next t = set (set t l count) (next_place l) next

-- the counts once existence was written at level l
abbrev pub changed : ℕ → List ℕ → List ℕ
changed l t = set (set t (changes_place l) 1) all_changes_place 1

-- no existence was written at level l, and none at any level
abbrev pub unchanged_at : List ℕ → ℕ → Bool
unchanged_at t l = eqb (get_or t (changes_place l) 0) 0

abbrev pub unchanged : List ℕ → Bool
unchanged t = eqb (get_or t all_changes_place 0) 0

-- the history of a manager that has ended is kept at its level, and the manager is counted there: "A level's next manager starts one above the
-- last one's end stamp"
pub record Closed (l : ℕ) (h : Ended) (ended ended' tallies tallies' : List ℕ) : Type 0 where
  pub added : Added ended ended' l (get_or tallies l 0) h
  pub counted : tallies' ≡ tallied l (get_or tallies l 0 + 1) (h.last + 1) tallies

-- a manager of level l runs
abbrev pub busy_in : List ℕ → ℕ → Bool
busy_in tallies l = ltb 0 (get_or tallies (busy_place l) 0)

-- one runs or waits
abbrev pub managed : List ℕ → ℕ → Bool
managed tallies l = busy_in tallies l || ltb 0 (get_or tallies (waiting_place l) 0)
