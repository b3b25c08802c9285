-- How large the numbers of a run grow: fork stamps fit 32 bits, and write stamps and versions are counted by the managers that started.
-- Every step keeps this. Assumes nothing.
use Prim.Native.Nat.{ℕ, ◌+◌, ◌*◌, ◌^◌, ◌≤◌, ◌<◌}
use mathlib.Core.Path.{◌≡◌, refl, sym, ◌∙◌, ap}
use mathlib.Core.Bool.{cond}
use mathlib.Core.List.{List, [], ◌∷◌, map}
use native.Mathlib.Omega.{arith}
use lib.ListN.{length, length-append, length-map}
use Rattle.session.specs.Program.{Program, seen_by}
use Rattle.lists.proofs.Laws.Lists.{holds, fails, truth}
use Rattle.scripts.specs.Limits.{max_forks, max_writes}
use Rattle.scripts.specs.Ending.{is_running}
use Rattle.scripts.specs.Manager.{started, stepped}
use Rattle.scripts.specs.State.{Manager}
use Rattle.scripts.specs.Effect.{Written, Effect}
use Rattle.scripts.specs.Effect as effect
use Rattle.scripts.proofs.Laws.Counts.{counts, grown, one_more, started_counts, stepped_counts}
use Rattle.scripts.proofs.Laws.Effects.{Sound, Fits, stepped_fits}
use Rattle.model.specs.Fork.{Fork, child_of}
use Rattle.model.specs.History.{history_of}
use Rattle.model.specs.Level.{Version, version_of, Activity, idle, busy, Level, is_busy, arrived, after}
use Rattle.model.specs.Step.{State, level_at, view_of, read_at, at, versions_after, begun, advanced, moved, move_at, step_at}
use Rattle.model.specs.Limits.{stamp_digits}
use Rattle.lists.specs.Each.{Each}
use Rattle.theorems.proofs.Laws.Steps.Moves.{AtLevel, move_is, seen_sound}
use Rattle.theorems.proofs.Laws.Invariant.Tree.{Entry, up_to, child_in, Fertile}
use Rattle.theorems.proofs.Laws.Invariant.Entries.{running_entry, waiting_entry, entries_of, child_entry}
use Rattle.theorems.proofs.Laws.Invariant.Change.{Change, internal, forks}
use Rattle.theorems.proofs.Laws.Invariant.Forks.{entries_in, step_change, ForkInvariant}
use Rattle.theorems.proofs.Laws.Invariant.Preserved.{fertile, first_of}
use Rattle.theorems.proofs.Laws.Invariant.Measure.{inserted-length}
use Rattle.theorems.proofs.Laws.Invariant.Became.{Became, own, got, stayed, became, step_each}
use Rattle.theorems.proofs.Laws.Safe.Safe.{at_fork, at_none}

-- a manager's interval of stamps lies within 32 bits
abbrev pub Fits32 : Entry → Type 0
Fits32 a = up_to a ≤ 16 ^ (stamp_digits + 1)

module _ (p : Program) (so : Sound p) (st : State) (o : ForkInvariant p st) (i : (l : ℕ) → l < p.levels → Each Fits32 (entries_in st l)) (l : ℕ) (h : l < p.levels) where
  change : Change p l (entries_in st l) (entries_of l (move_at p l st).own) (move_at p l st).arrival
  change = step_change p l st so h (o.placed l h) (o.positive l h)

  child_fits : (u : ℕ) (c : Fork) → (move_at p l st).arrival ≡ at u c → Fits32 (waiting_entry u c)
  child_fits u c q = by change
    where
      within : (e : Entry) (w : ℕ) → Fertile e → Fits32 e → waiting_entry u c ≡ child_in u w e → Fits32 (waiting_entry u c)
      within e w f b g = rw (ap up_to g) (omega (arith, f.room, b))

      by : {G : List Entry} → Change p l (entries_in st l) G (move_at p l st).arrival → Fits32 (waiting_entry u c)
      by (internal e r) = absurd (at_none (move_at p l st).arrival u c q e)
      by (forks w y m message W e g r hu s f z) =
          let same : c ≡ child_of l y m message = at_fork u w c (child_of l y m message) (sym q ∙ e) in
          let a = running_entry l y m.forks in
          within a m.stamp (fertile p so st o l h y m.forks W g f) (first_of Fits32 a W (entries_in st l) g (i l h)) (ap (waiting_entry u) same ∙ child_entry l u y m message)

  -- every step keeps fork stamps within 32 bits
  pub step_fits : (k : ℕ) → k < p.levels → Each Fits32 (entries_in (step_at p l st) k)
  step_fits = step_each p so st o l h Fits32 (λ e f. f) i child_fits

-- the write stamp of a level's next manager, and its versions, by how many managers have ended; and what the running one adds
abbrev pub PacedBy : Activity → ℕ → ℕ → ℕ → Type 0
PacedBy idle next ended versions = (next ≤ 1 + 16 * ended) × (versions ≤ 16 * ended)
PacedBy (busy x m) next ended versions =
    (next ≤ 1 + 16 * ended) × ((m.stamp ≤ next + m.forks) × ((m.forks ≤ max_forks) × ((m.writes ≤ max_writes) × (versions ≤ 16 * ended + m.writes))))

abbrev pub Paced : Level → Type 0
Paced v = PacedBy v.activity v.next (length v.ended) (length v.versions)

-- so each manager that started adds 16 versions at most
pub paced_versions : (b : Activity) (next ended versions : ℕ) → PacedBy b next ended versions → versions ≤ max_writes * (ended + cond (is_busy b) 1 0)
paced_versions idle next ended versions q = omega (arith, q.1)
paced_versions (busy x m) next ended versions q = omega (arith, q.1.1.1.0, q.1.1.1.1)

after_paced : (v : Level) (ws : List Fork) (vs : List Version) (x : Fork) (m : Manager) → PacedBy (busy x m) v.next (length v.ended) (length vs) → Paced (after v ws vs x m)
unfolding after
after_paced v ws vs x m q = elim (truth (is_running m.ending)) [
  | holds e ↦ rw e q
  | fails e ↦
      let more = inserted-length (λ h. h.stamp) (history_of x m) v.ended in
      rw e (omega (arith, more, q.0, q.1.0, q.1.1.0), omega (arith, more, q.1.1.1.0, q.1.1.1.1))
]

begun_paced : (p : Program) (st : State) (l : ℕ) (v : Level) (ws : List Fork) → v.activity ≡ idle → Paced v → Paced (begun p st l v ws).own
unfolding begun
begun_paced p st l v [] q b = b
begun_paced p st l v (x ∷ xs) q b =
    let c = started_counts p (read_at p st l x) l v.next x.message in
    let idly : PacedBy idle v.next (length v.ended) (length v.versions) = rw q at b in
    let stamp : (started p (read_at p st l x) l v.next x.message).stamp ≡ v.next = ap (λ c. c.stamp) c in
    let forks : (started p (read_at p st l x) l v.next x.message).forks ≡ 0 = ap (λ c. c.forks) c in
    let writes : (started p (read_at p st l x) l v.next x.message).writes ≡ 0 = ap (λ c. c.writes) c in
    after_paced v xs v.versions x _ (idly.0, (omega (arith, stamp), (omega (arith, forks), (omega (arith, writes), omega (arith, idly.1)))))

-- the versions that a step adds are as many as it writes
written-length : (m : Manager) (ws : List Written) (vs : List Version) → length (versions_after m (effect.Write ws) vs) ≡ length ws + length vs
written-length m ws vs =
    length-append (map (version_of m.stamp) ws) vs ∙ ap (λ n. n + length vs) (length-map ws (version_of m.stamp))

effect_paced : (p : Program) (m m' : Manager) (x : Fork) (e : Effect) (next ended : ℕ) (vs : List Version) → counts m' ≡ one_more (grown (counts m) e) → Fits p m e → PacedBy (busy x m) next ended (length vs) → PacedBy (busy x m') next ended (length (versions_after m e vs))
effect_paced p m m' x effect.Nothing next ended vs c f b =
    let stamp : m'.stamp ≡ m.stamp = ap (λ c. c.stamp) c in
    let forks : m'.forks ≡ m.forks = ap (λ c. c.forks) c in
    let writes : m'.writes ≡ m.writes = ap (λ c. c.writes) c in
    (b.0, (omega (arith, stamp, forks, b.1.0), (omega (arith, forks, b.1.1.0), (omega (arith, writes, b.1.1.1.0), omega (arith, writes, b.1.1.1.1)))))
effect_paced p m m' x (effect.Write ws) next ended vs c f b =
    let stamp : m'.stamp ≡ m.stamp = ap (λ c. c.stamp) c in
    let forks : m'.forks ≡ m.forks = ap (λ c. c.forks) c in
    let writes : m'.writes ≡ m.writes + length ws = ap (λ c. c.writes) c in
    let more = written-length m ws vs in
    (b.0, (omega (arith, stamp, forks, b.1.0), (omega (arith, forks, b.1.1.0), (omega (arith, writes, f.1), omega (arith, more, writes, b.1.1.1.1)))))
effect_paced p m m' x (effect.Fork u message) next ended vs c f b =
    let stamp : m'.stamp ≡ m.stamp + 1 = ap (λ c. c.stamp) c in
    let forks : m'.forks ≡ m.forks + 1 = ap (λ c. c.forks) c in
    let writes : m'.writes ≡ m.writes = ap (λ c. c.writes) c in
    (b.0, (omega (arith, stamp, forks, b.1.0), (omega (arith, forks, f.1.1), (omega (arith, writes, b.1.1.1.0), omega (arith, writes, b.1.1.1.1)))))

moved_paced : (p : Program) → Sound p → (st : State) (l : ℕ) → l < p.levels → (v : Level) (a : Activity) → v.activity ≡ a → AtLevel l a → Paced v → Paced (moved p st l v a).own
unfolding moved advanced
moved_paced p so st l h v idle q t b = begun_paced p st l v v.waiting q b
moved_paced p so st l h v (busy x m) q t b =
    let s = stepped p (read_at p st l x) m in
    let before : PacedBy (busy x m) v.next (length v.ended) (length v.versions) = rw q at b in
    after_paced v v.waiting (versions_after m s.effect v.versions) x s.manager
    (effect_paced p m s.manager x s.effect v.next (length v.ended) v.versions (stepped_counts p (read_at p st l x) m) (stepped_fits p (read_at p st l x) m so (rw t h)) before)

-- every step keeps the pace
pub step_paced : (p : Program) → Sound p → (st : State) → ForkInvariant p st → ((l : ℕ) → l < p.levels → Paced (level_at st l)) → (l : ℕ) → l < p.levels → (k : ℕ) → k < p.levels → Paced (level_at (step_at p l st) k)
step_paced p so st o i l h k hk = by (level_at (step_at p l st) k) (became p so st o l h k)
  where
    here : (l : ℕ) (p : Program) → l < p.levels → l < (seen_by l p).levels
    here l p h = unfold seen_by in h

    paced : (v : Level) {w : Level} → v ≡ w → Paced w → Paced v
    paced v q b = rw q b

    by : (v : Level) → Became p l st k v → Paced v
    by v (own e q) =
        paced v (q ∙ ap (λ m. m.own) (move_is p l st so h)) (moved_paced (seen_by l p) (seen_sound l p so) (view_of p l st) l (here l p h) (level_at st l) (level_at st l).activity refl (o.placed l h) (i l h))
    by v (got c e s q) = rw q (unfold arrived in i k hk)
    by v (stayed n q) = rw q (i k hk)
