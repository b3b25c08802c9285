-- What a manager reads at another level stays, whatever it writes and forks. Assumes nothing.
use Prim.Native.Nat.{ℕ, ◌≤◌, ◌<◌}
use mathlib.Core.Path.{◌≡◌, refl, ◌∙◌, ap}
use mathlib.Core.Bool.{cond}
use mathlib.Core.List.{List}
use native.Mathlib.Omega.{arith}
use lib.Dec.{eqb}
use lib.ListN.{get_or}
use lib.Seq.{get_or-set_other}
use Rattle.session.specs.Limits.{max_levels}
use Rattle.session.specs.Parts.{level_count}
use Rattle.session.specs.Meaning.{level_of}
use Rattle.session.specs.Program.{program_of}
use Rattle.session.specs.Value.{Value}
use Rattle.session.specs.declared.Message.{Message}
use Rattle.model.specs.Limits.{max_managers}
use Rattle.model.specs.Fork.{Fork}
use Rattle.model.specs.History.{end_before}
use Rattle.model.specs.Level.{Version, newest_to}
use Rattle.histories.specs.Histories.{histories_at}
use Rattle.queues.specs.Queue.{fork_at}
use Rattle.queues.proofs.Laws.Queue.{fork_apart}
use Rattle.versions.specs.Log.{max_versions, log_start, log_of}
use Rattle.tallies.specs.Places.{waiting_place, versions_place}
use Rattle.level_state.specs.Representation.{Words}
use Rattle.level_state.specs.Steps.{found_in, Wrote, Forked}
use Rattle.scripts.specs.Existence.{initially}

-- field k of object o is read at level j, another than that of the manager, l
module _ (s : List ℕ) (w : Words) (l : ℕ) (low : l < max_levels) (o k : ℕ) (placed : level_of s o < max_levels) (apart : level_of s o ≡ l → ⊥) where
  abbrev j : ℕ
  j = level_of s o

  -- it depends on the manager's fork, the histories and the versions of level j
  abbrev read_by : Fork → ℕ → List Version → Value
  read_by x ended vs =
      newest_to (cond (eqb (get_or x.carried j 0) 0) (end_before x.stamp (histories_at w.ended j ended)) (get_or x.carried j 0)) (initially (program_of s) o k) o k vs

  -- where these are the same, so is what is read
  same : (x x' : Fork) (n n' : ℕ) (vs vs' : List Version) → x' ≡ x → n' ≡ n → vs' ≡ vs → read_by x' n' vs' ≡ read_by x n vs
  same x x' n n' vs vs' e1 e2 e3 = rw (e1, e2, e3) refl

  -- a note changes none of these
  pub counts_known_read : (tallies' : List ℕ) → get_or tallies' l 0 ≡ get_or w.tallies l 0 → get_or tallies' j 0 ≡ get_or w.tallies j 0 → get_or tallies' (versions_place j) 0 ≡ get_or w.tallies (versions_place j) 0 → found_in s (record { current = w.current; ended = w.ended; tallies = tallies'; queue = w.queue; work = w.work }) l o k ≡ found_in s w l o k
  counts_known_read tallies' own ended versions =
      same _ _ _ _ _ _ (ap (fork_at (level_count s) w.queue l) own) ended (ap (log_of w.work (log_start j)) versions)

  pub write_known_read : (current' tallies' work' : List ℕ) (stamp object i : ℕ) (v : Value) → Wrote w.current current' w.tallies tallies' w.work work' l stamp object i v → get_or w.tallies (versions_place j) 0 ≤ max_versions → found_in s (record { current = current'; ended = w.ended; tallies = tallies'; queue = w.queue; work = work' }) l o k ≡ found_in s w l o k
  write_known_read current' tallies' work' stamp object i v d few =
      let other : (at : ℕ) → (at ≡ versions_place l → ⊥) → get_or tallies' at 0 ≡ get_or w.tallies at 0 = λ at z. ap (λ t. get_or t at 0) d.count ∙ get_or-set_other w.tallies (versions_place l) at _ 0 z in
      let count = other (versions_place j) (λ e. apart (omega (arith, e))) in
      same _ _ _ _ _ _
      (ap (fork_at (level_count s) w.queue l) (other l (λ e. omega (arith, e, low))))
      (other j (λ e. omega (arith, e, low, placed)))
      (ap (log_of work' (log_start j)) count ∙ d.version.others j (get_or w.tallies (versions_place j) 0) apart few)

  pub fork_known_read : (tallies' queue' : List ℕ) (stamp forks u : ℕ) (message : Message) → Forked w.tallies tallies' w.queue queue' l stamp forks u message → u < max_levels → (l ≡ u → ⊥) → get_or w.tallies l 0 < max_managers → found_in s (record { current = w.current; ended = w.ended; tallies = tallies'; queue = queue'; work = w.work }) l o k ≡ found_in s w l o k
  fork_known_read tallies' queue' stamp forks u message d above upward few =
      let other : (at : ℕ) → (at ≡ waiting_place u → ⊥) → get_or tallies' at 0 ≡ get_or w.tallies at 0 = λ at z. ap (λ t. get_or t at 0) d.tallies_are ∙ get_or-set_other w.tallies (waiting_place u) at _ 0 z in
      same _ _ _ _ _ _
      (ap (fork_at (level_count s) queue' l) (other l (λ e. omega (arith, e, low)))
      ∙ fork_apart w.queue queue' u _ _ d.row d.count d.arrived (level_count s) l (get_or w.tallies l 0) upward few)
      (other j (λ e. omega (arith, e, placed)))
      (ap (log_of w.work (log_start j)) (other (versions_place j) (λ e. omega (arith, e, above))))
