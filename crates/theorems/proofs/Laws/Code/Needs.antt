-- What the code of a run asks of a state, for every state that a run of an accepted session reaches: room for forks and versions, numbers
-- that fit, managers that may start and step. Assumes nothing.
use Prim.Native.Nat.{ℕ, ◌+◌, ◌-◌, ◌*◌, ◌≤◌, ◌<◌, ◌^◌}
use mathlib.Core.Path.{◌≡◌, sym, ◌∙◌, ap, subst}
use mathlib.Core.Bool.{true, cond}
use mathlib.Core.List.{List, [], ◌∷◌, map}
use native.Mathlib.Omega.{arith}
use lib.ListN.{length}
use Rattle.session.specs.Parts.{level_count}
use Rattle.session.specs.Questions.{verdict_of, Accepted}
use Rattle.session.specs.Meaning.{Numbered}
use Rattle.session.specs.Program.{program_of}
use Rattle.session.specs.Value.{Value}
use Rattle.session.specs.declared.Message.{Message}
use Rattle.scripts.specs.Limits.{max_writes, max_forks}
use Rattle.scripts.specs.Existence.{existence}
use Rattle.scripts.specs.Ending.{is_running}
use Rattle.scripts.specs.Manager.{stepped}
use Rattle.scripts.specs.Valid.{Valid, Startable}
use Rattle.scripts.specs.Valid as valid
use Rattle.scripts.specs.State.{Manager}
use Rattle.scripts.specs.Effect.{Written}
use Rattle.scripts.specs.Effect as effect
use Rattle.scripts.proofs.Laws.Accepted.{EffectPresent}
use Rattle.scripts.proofs.Laws.Effects.{Fits, stepped_fits}
use Rattle.scripts.proofs.Laws.Valid.{stepped_present}
use Rattle.model.specs.Limits.{max_managers, stamp_digits}
use Rattle.model.specs.Fork.{Fork}
use Rattle.model.specs.History.{end_before}
use Rattle.model.specs.Level.{Activity, idle, busy, Level, is_busy, forks_of, started_count}
use Rattle.model.specs.Step.{State, level_at}
use Rattle.lists.specs.Each.{Each}
use Rattle.lists.proofs.Laws.Each.{each_map}
use Rattle.theorems.proofs.Laws.Invariant.Rank.{rank, rank_positive}
use Rattle.theorems.proofs.Laws.Invariant.Tree.{Entry}
use Rattle.theorems.proofs.Laws.Invariant.Entries.{waiting_entry, running_entry, entries_by}
use Rattle.theorems.proofs.Laws.Invariant.Forks.{entries_in}
use Rattle.theorems.proofs.Laws.Invariant.Preserved.{first_of, other_level}
use Rattle.theorems.proofs.Laws.Invariant.Measure.{Bounded}
use Rattle.theorems.proofs.Laws.Invariant.WriteStamps.{stamp_by, write_stamp}
use Rattle.theorems.proofs.Laws.Invariant.Versions.{Falling}
use Rattle.theorems.proofs.Laws.Safe.Reads.{last_below}
use Rattle.theorems.proofs.Laws.Safe.Asked.{first_entry}
use Rattle.theorems.proofs.Laws.Order.Accepted.{sound}
use Rattle.theorems.proofs.Laws.Code.Bounds.{Fits32, PacedBy, Paced, paced_versions}
use Rattle.theorems.proofs.Laws.Code.Reached.{Sendable, Runs, ReachedState, present, next_startable}

-- the write stamp of a level that keeps its limits
stamp_low : (b : Activity) (next ended versions : ℕ) → ended + cond (is_busy b) 1 0 ≤ max_managers → PacedBy b next ended versions → stamp_by b next < 2 ^ 16
stamp_low idle next ended versions t g = omega (arith, g.0)
stamp_low (busy x m) next ended versions t g = omega (arith, g.0, g.1.0, g.1.1.0)

-- so many more versions, where the running manager may still write them
more-versions : (v : Level) (x : Fork) (m : Manager) (n : ℕ) → v.activity ≡ busy x m → Bounded v → Paced v → m.writes + n ≤ max_writes → length v.versions + n ≤ max_managers * max_writes
more-versions v x m n q t b w =
    let count : started_count v ≡ length v.ended + 1 = ap (λ a. length v.ended + cond (is_busy a) 1 0) q in
    let now : PacedBy (busy x m) v.next (length v.ended) (length v.versions) = rw q at b in
    omega (arith, count, t.room, now.1.1.1.1)

-- what is written, at the manager's level and with numbers
written_both : (s : List ℕ) {k l : ℕ} → k ≡ l → (ws : List Written) → valid.Each (λ w. (program_of s).level w.object ≡ k) ws → valid.Each (λ w. Numbered s w.object × (w.field ≤ existence)) ws → valid.Each (λ w. ((program_of s).level w.object ≡ l) × (Numbered s w.object × (w.field ≤ existence))) ws
written_both s q [] f g = tt
written_both s q (w ∷ ws) f g = ((f.0 ∙ q, g.0), written_both s q ws f.1 g.1)

module _ (s : List ℕ) (a : verdict_of s ≡ Accepted) (st : State) (i : ReachedState s st) (l : ℕ) (h : l < level_count s) where
  -- a level has at most 32 managers, ended, running and waiting
  pub live-room : started_count (level_at st l) + length (level_at st l).waiting ≤ max_managers
  live-room = (i.reachable.steady.bounded l).room

  paced : Paced (level_at st l)
  paced = i.reachable.paced l (present s l h)

  -- it has room for its versions, 16 of each manager
  pub live-versions : length (level_at st l).versions ≤ max_managers * max_writes
  live-versions =
      omega (arith, live-room, paced_versions (level_at st l).activity (level_at st l).next (length (level_at st l).ended) (length (level_at st l).versions) paced)

  -- newest first, their write stamps never rise
  pub live-falling : Falling (level_at st l).versions
  live-falling = (i.reachable.dated l (present s l h)).falling

  -- the end stamps of its managers fit 16 bits
  pub live-ends : (y : ℕ) → end_before y (level_at st l).ended < 2 ^ 16
  unfolding end_before
  live-ends y =
      last_below (2 ^ 16) 0 y (level_at st l).ended (omega arith)
      (each_map (λ g. g.last < write_stamp (level_at st l)) (λ g. g.last < 2 ^ 16) (λ g e. omega (arith, e, low)) (level_at st l).ended (i.reachable.steady.stamped.ended l (present s l h)))
    where
      low : write_stamp (level_at st l) < 2 ^ 16
      low =
          stamp_low (level_at st l).activity (level_at st l).next (length (level_at st l).ended) (length (level_at st l).versions) (omega (arith, live-room)) paced

  -- the fork of its first manager that has not ended is not too deep to have stamps
  pub live-shallow : (x : Fork) (xs : List Fork) → forks_of (level_at st l) ≡ x ∷ xs → x.depth ≤ stamp_digits + 1
  live-shallow x xs e =
      let p = program_of s in
      let a = first_entry (λ e. e.depth + rank p.levels p.dom l ≤ stamp_digits + 1) l (level_at st l) x xs e (i.reachable.steady.fork_invariant.grown.shallow l (present s l h)) in
      omega (arith, a.depth, a.holds)

  -- the first fork that waits may start
  pub live-startable : (x : Fork) (xs : List Fork) → (level_at st l).waiting ≡ x ∷ xs → Startable s l (level_at st l).next x.message
  live-startable x xs e =
      next_startable s l (level_at st l) x h (i.reachable.steady.bounded l) paced (first_of (Sendable s) x xs (level_at st l).waiting e (i.waiting l h))

  module _ (x : Fork) (m : Manager) (q : (level_at st l).activity ≡ busy x m) where
    -- the manager that runs is valid, is one of the level and has not ended
    pub live-runs : Valid s m × ((m.level ≡ l) × (is_running m.ending ≡ true))
    live-runs = subst (Runs s l) q (i.activity l h)

    fits : (read : ℕ → ℕ → Value) → Fits (program_of s) m (stepped (program_of s) read m).effect
    fits read = stepped_fits (program_of s) read m (sound s a) (present s m.level live-runs.0.placed)

    -- what it writes are fields, or the existence, of objects of the level that have numbers, and there is room for the versions
    pub live-write : (read : ℕ → ℕ → Value) (ws : List Written) → (stepped (program_of s) read m).effect ≡ effect.Write ws → (length (level_at st l).versions + length ws ≤ max_managers * max_writes) × valid.Each (λ w. ((program_of s).level w.object ≡ l) × (Numbered s w.object × (w.field ≤ existence))) ws
    live-write read ws e =
        let f = subst (Fits (program_of s) m) e (fits read) in
        let g = subst (EffectPresent s) e (stepped_present s a read m live-runs.0 live-runs.1.1) in
        (more-versions (level_at st l) x m (length ws) q (i.reachable.steady.bounded l) paced f.1, written_both s live-runs.1.0 ws f.0 g)

    entries : entries_in st l ≡ running_entry l x m.forks ∷ map (waiting_entry l) (level_at st l).waiting
    entries = ap (λ b. entries_by l b (level_at st l).waiting) q

    running-entry : (P : Entry → Type 0) → Each P (entries_in st l) → P (running_entry l x m.forks)
    running-entry P e = first_of P (running_entry l x m.forks) (map (waiting_entry l) (level_at st l).waiting) (entries_in st l) entries e

    shallow : x.depth ≤ stamp_digits
    shallow =
        let p = program_of s in
        omega (arith, running-entry (λ e. e.depth + rank p.levels p.dom l ≤ stamp_digits + 1) (i.reachable.steady.fork_invariant.grown.shallow l (present s l h)), rank_positive p.levels p.dom (sound s a).lattice.order l (present s l h))

    -- what it forks goes to another present level, and the child's stamp fits 32 bits
    pub live-fork : (read : ℕ → ℕ → Value) (u : ℕ) (message : Message) → (stepped (program_of s) read m).effect ≡ effect.Fork u message → (u < level_count s) × ((u ≡ l → ⊥) × ((x.depth ≤ stamp_digits) × ((m.forks < max_forks) × (x.stamp + 16 ^ (stamp_digits + 1 - x.depth) ≤ 2 ^ 32))))
    unfolding program_of
    live-fork read u message e =
        let f = subst (Fits (program_of s) m) e (fits read) in
        (f.0, (λ t. other_level (program_of s) u m.level f.1.0 (live-runs.1.0 ∙ sym t), (shallow, (f.1.1, running-entry Fits32 (i.reachable.fits l (present s l h))))))
