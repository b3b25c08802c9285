-- The managers of a level run one after the other, each from its start to its end. Assumes nothing.
use Prim.Native.Nat.{ℕ, ◌+◌, ◌-◌, ◌^◌, ◌≤◌, ◌<◌}
use mathlib.Core.Path.{◌≡◌, refl, sym, ◌∙◌, ap, subst}
use mathlib.Core.Bool.{Bool, true, false, cond}
use mathlib.Core.List.{List, []}
use native.Mathlib.Decide.{ℕ_discrete}
use native.Mathlib.Omega.{arith}
use borrow.Author.Tests.{lt-ltb, le-ltb}
use lib.ListN.{length, get_or, set, replicate, length-set, length-replicate}
use lib.Seq.{get_or-set_same, get_or-set_other}
use Rattle.lists.proofs.Laws.Range.{not_both}
use Rattle.session.specs.Limits.{max_levels, fields}
use Rattle.session.specs.Parts.{level_count}
use Rattle.session.specs.Program.{program_of}
use Rattle.session.specs.Value.{Value}
use Rattle.std.specs.Prelude.{Some}
use Rattle.session.specs.Questions.{verdict_of, Accepted}
use Rattle.session.proofs.Laws.Contents.{level_limit, object_limit}
use Rattle.lists.proofs.Laws.Lists.{holds, fails, truth}
use Rattle.scripts.specs.Existence.{existence}
use Rattle.scripts.specs.Limits.{max_script_steps}
use Rattle.scripts.specs.Ending.{is_running}
use Rattle.scripts.specs.State.{Manager}
use Rattle.scripts.specs.declared.Ending.{Ending}
use Rattle.scripts.proofs.Laws.Counts.{started_counts}
use Rattle.fields.specs.Limits.{field_words}
use Rattle.cores.specs.Core.{effect_of, is_asking}
use Rattle.cores.specs.declared.Effect.TheVariants as outside
use Rattle.managers.specs.Manager.{manager_of}
use Rattle.managers.specs.Steps.{WellFormed, Advanceable, Advanced}
use Rattle.managers.specs.declared.Manager as code
use Rattle.model.specs.Limits.{max_managers}
use Rattle.model.specs.Level.{idle, has_manager}
use Rattle.model.specs.Step.{State, level_at}
use Rattle.model.specs.Rules.{conservative}
use Rattle.theorems.proofs.Laws.Code.Progress.{allowed}
use Rattle.tallies.specs.Places.{begun_tallies, next_place, waiting_place, busy_place, tally_numbers, unchanged, managed}
use Rattle.level_state.specs.Representation.{Words, Roomy, Runs, placed}
use Rattle.level_state.specs.Steps.{Tables, Readable, ReadReady, Answered, Parts, parts_of, Changing, ChangedBy, PerformReady, Performed, SettleReady, Closed, Settled, CoreSettled, StartReady, Started}
use Rattle.level_state.specs.Ends.{SameRest}
use Rattle.fork_runs.specs.Levels.{LevelReady, LevelDone}
use Rattle.fork_runs.specs.Running.{Draining, KnownIsRead, NextReady, NextDone}
use Rattle.level_state.proofs.Laws.Ready.{represents_quiescent, waits_some, start_ready}
use Rattle.level_state.proofs.Laws.Step.{invariant_start}
use Rattle.level_state.proofs.Laws.Made.{core_on, settled_of_lem, held_fits}
use Rattle.level_state.proofs.Laws.Seen.{blank_zeros}
use Rattle.fork_runs.proofs.Laws.Level.{any_manager, LevelLoop, drain_represents, drain_has, drain_live, drain_allowed, drain_on, level_start, level_done}
use Rattle.fork_runs.proofs.Laws.Left.{steps_left}
use Rattle.fork_runs.proofs.Laws.Running.{RunningManager, Turn, turn_known, able_now, able_more, turn_reads, turn_performs, turn_performed, turn_asked, turn_remembers, turn_told, turn_made, turn_changing, turn_changed, turn_counted}

-- a manager has ended: none runs at its level then, and one more has ended there
closed_counts : (ended ended' tallies tallies' queue : List ℕ) (l : ℕ) (m : Manager) → l < max_levels → tally_numbers ≤ length tallies → Closed ended ended' tallies tallies' queue l m → (get_or tallies' (busy_place l) 0 ≡ 0) × (get_or tallies' l 0 ≡ get_or tallies l 0 + 1)
closed_counts ended ended' tallies tallies' queue l m small room d =
    let n = get_or tallies l 0 + 1 in
    let x = m.stamp + 1 in
    let one = set tallies l n in
    let two = set one (next_place l) x in
    let long : length two ≡ length tallies = length-set one (next_place l) x ∙ length-set tallies l n in (
      ap (λ t. get_or t (busy_place l) 0) d.tallies_are ∙ get_or-set_same two (busy_place l) 0 0 (rw long (omega (arith, small, room))),
      ap (λ t. get_or t l 0) d.tallies_are
          ∙ get_or-set_other two (busy_place l) l 0 0 (λ q. omega (arith, q, small))
          ∙ get_or-set_other one (next_place l) l x 0 (λ q. omega (arith, q, small))
          ∙ get_or-set_same tallies l n 0 (omega (arith, small, room)),
    )

-- the words once a manager has started
abbrev pub started_words : Words → List ℕ → List ℕ → Words
started_words w₀ ended' tallies' =
    record { current = w₀.current; ended = ended'; tallies = tallies'; queue = w₀.queue; work = w₀.work }

-- 1 while it runs
abbrev bit : code.Manager → ℕ
bit m = cond (is_running m.core.ending) 1 0

-- what holds each time round while the manager of level l runs, and after, from its start on
pub record NextLoop (s : List ℕ) (w₁ w : Words) (l : ℕ) (m₁ m : code.Manager) (cache : List ℕ) : Type 0 where
  pub drains : (from : State) → Draining s from w₁ l (manager_of m₁) → Draining s from w l (manager_of m)
  pub runs_on : is_running m.core.ending ≡ true → RunningManager s w l m cache
  pub busy : get_or w.tallies (busy_place l) 0 ≡ bit m
  pub count : get_or w.tallies l 0 + bit m ≡ get_or w₁.tallies l 0 + bit m₁
  pub rest : SameRest w₁.work w.work
  pub cache_long : length cache ≡ field_words

-- what is counted once a manager that ran has made its steps, and its history is kept where it has ended
settled_counts : {ended ended' tallies tallies' queue : List ℕ} {l : ℕ} (m : code.Manager) → l < max_levels → tally_numbers ≤ length tallies → get_or tallies (busy_place l) 0 ≡ 1 → Settled ended ended' tallies tallies' queue l (manager_of m) → (get_or tallies' (busy_place l) 0 ≡ bit m) × (get_or tallies' l 0 + bit m ≡ get_or tallies l 0 + 1)
unfolding manager_of
settled_counts {ended} {ended'} {tallies} {tallies'} {queue} {l} m small room busy d = elim (truth (is_running m.core.ending)) [
  | holds run ↦
      let same = (d.0 run).1 in
      rw (run, same) (busy, refl)
  | fails over ↦
      let c = closed_counts ended ended' tallies tallies' queue l (manager_of m) small room (d.1 over) in
      rw over (c.0, omega (arith, c.1))
]

module _ {s masks index : List ℕ} (rd : Tables s masks index) {w₀ : Words} {l : ℕ} (z : NextReady s w₀ l) where
  abbrev a : verdict_of s ≡ Accepted
  a = rd.indexed.accepted

  abbrev few : level_count s ≤ max_levels
  few = level_limit s rd.indexed.accepted

  pub small : l < max_levels
  small = omega (arith, z.placed_there, few)

  waits : managed w₀.tallies l ≡ true
  waits = rw (z.quiescent, lt-ltb 0 (get_or w₀.tallies (waiting_place l) 0) z.waits) refl

  pub roomy : Roomy w₀
  roomy = (z.drains.invariant (λ _. z.held)).represents.roomy

  -- in any state that the words say a fork waits there, and no manager runs
  module _ {from : State} {held : Manager} (g : Draining s from w₀ l held) where
    quiescent : (level_at g.state l).activity ≡ idle
    quiescent =
        represents_quiescent (level_count s) w₀ l held (level_at g.state l) (drain_represents s a l z.placed_there from w₀ held g) z.quiescent

    has : has_manager (level_at g.state l) ≡ true
    has = sym (drain_has s a l z.placed_there from w₀ held g) ∙ waits

    -- it starts
    began : (ended' tallies' : List ℕ) (m : Manager) → Started s w₀ ended' tallies' l m → Draining s from (record { current = w₀.current; ended = ended'; tallies = tallies'; queue = w₀.queue; work = w₀.work }) l m
    began ended' tallies' m d =
        let (x, (xs, e)) = waits_some (level_at g.state l) has quiescent in
        drain_on s a l z.placed_there from w₀ held g waits (record { current = w₀.current; ended = ended'; tallies = tallies'; queue = w₀.queue; work = w₀.work }) m
        (λ ms. invariant_start s a few w₀ (placed l held ms) g.state (g.invariant ms) l z.placed_there (drain_allowed s a l z.placed_there from w₀ held g waits) x xs quiescent e ended' tallies' m d)

  pub starts : StartReady s masks index w₀ l
  starts =
      let g = z.drains in
      let y = g.invariant (λ _. z.held) in
      start_ready s a few (object_limit s a) w₀ (placed l z.held (λ _. z.held)) g.state y.represents (drain_live s a l z.placed_there z.from w₀ z.held g) l z.placed_there masks index rd y (quiescent g) (has g)

  -- what is counted once it has started
  begun_busy : get_or (begun_tallies w₀.tallies l) (busy_place l) 0 ≡ 1
  begun_busy =
      let t = w₀.tallies in
      let less = get_or t (waiting_place l) 0 - 1 in
      get_or-set_same (set t (waiting_place l) less) (busy_place l) 1 0 (rw (length-set t (waiting_place l) less) (omega (arith, small, roomy.tallies)))

  begun_count : get_or (begun_tallies w₀.tallies l) l 0 ≡ get_or w₀.tallies l 0
  begun_count =
      let t = w₀.tallies in
      let less = get_or t (waiting_place l) 0 - 1 in
      get_or-set_other (set t (waiting_place l) less) (busy_place l) l 1 0 (λ q. omega (arith, q, small))
      ∙ get_or-set_other t (waiting_place l) l less 0 (λ q. omega (arith, q, small))

  begun_long : length (begun_tallies w₀.tallies l) ≡ length w₀.tallies
  begun_long =
      let t = w₀.tallies in
      let less = get_or t (waiting_place l) 0 - 1 in
      length-set (set t (waiting_place l) less) (busy_place l) 1 ∙ length-set t (waiting_place l) less

  module _ {ended' tallies' : List ℕ} {m : code.Manager} (d : Started s w₀ ended' tallies' l (manager_of m)) (held : WellFormed s m) where
    abbrev begun_words : Words
    begun_words = started_words w₀ ended' tallies'

    level_is : m.core.level ≡ l
    unfolding manager_of
    level_is =
        let read : ℕ → ℕ → Value = λ o k. Some d.script in
        ap (λ n. n.level) (d.manager read refl) ∙ ap (λ c. c.level) (started_counts (program_of s) read l _ _)

    nothing_known : KnownIsRead s begun_words l (replicate field_words 0)
    nothing_known o k ho hk known = absurd (not_both _ known (blank_zeros field_words o k hk))

    begun_counts : (get_or tallies' (busy_place l) 0 ≡ bit m) × (get_or tallies' l 0 + bit m ≡ get_or (begun_tallies w₀.tallies l) l 0 + 1)
    begun_counts = settled_counts m small (rw begun_long roomy.tallies) begun_busy d.settled

    pub next_start : NextLoop s begun_words begun_words l m m (replicate field_words 0)
    next_start =
        record {
          drains = λ from g. g;
          runs_on = λ run. record {
            held = held;
            running = run;
            level = level_is;
            busy_there = begun_counts.0 ∙ rw run refl;
            known_read = nothing_known;
            cache_there = rw (length-replicate {A = ℕ} field_words 0) (omega arith);
          };
          busy = begun_counts.0;
          count = refl;
          rest = refl;
          cache_long = length-replicate {A = ℕ} field_words 0;
        }

    module _ {w : Words} {m' : code.Manager} {cache : List ℕ} (i : NextLoop s begun_words w l m m' cache) where
      -- at the end
      pub next_done : is_running m'.core.ending ≡ false → NextDone s w₀ w l
      next_done over =
          let busy : get_or w.tallies (busy_place l) 0 ≡ 0 = i.busy ∙ rw over refl in
          let count : get_or w.tallies l 0 + 0 ≡ get_or tallies' l 0 + bit m = rw over at i.count in
          record {
            last = manager_of m';
            drains = λ from held g. i.drains from (began g ended' tallies' (manager_of m) d);
            quiescent = busy;
            count = omega (arith, count, begun_counts.1, begun_count);
            rest = i.rest;
          }

      pub next_drains : Draining s z.from w l (manager_of m')
      next_drains = i.drains z.from (began z.drains ended' tallies' (manager_of m) d)

-- the manager that started at level l runs, and is m' by then
pub record Going (s masks index : List ℕ) (w₀ w : Words) (l : ℕ) (ended' tallies' : List ℕ) (m m' : code.Manager) (cache : List ℕ) : Type 0 where
  pub read : Tables s masks index
  pub ready : NextReady s w₀ l
  pub started : Started s w₀ ended' tallies' l (manager_of m)
  pub held : WellFormed s m
  pub loop : NextLoop s (started_words w₀ ended' tallies') w l m m' cache
  pub runs : is_running m'.core.ending ≡ true

-- so it is where the ending that is kept of it runs
pub goes : {s masks index : List ℕ} {w₀ w : Words} {l : ℕ} {ended' tallies' : List ℕ} {m m' : code.Manager} {cache : List ℕ} {ending : Ending} {running : Bool} → Tables s masks index → NextReady s w₀ l → Started s w₀ ended' tallies' l (manager_of m) × WellFormed s m → NextLoop s (started_words w₀ ended' tallies') w l m m' cache × (ending ≡ m'.core.ending) → running ≡ is_running ending → running ≡ true → Going s masks index w₀ w l ended' tallies' m m' cache
goes a z d i e q =
    record { read = a; ready = z; started = d.0; held = d.1; loop = i.0; runs = ap is_running (sym i.1) ∙ sym e ∙ q }

module _ {s masks index : List ℕ} {w₀ w : Words} {l : ℕ} {ended' tallies' : List ℕ} {m m' : code.Manager} {cache : List ℕ} (g : Going s masks index w₀ w l ended' tallies' m m' cache) where
  go : RunningManager s w l m' cache
  go = g.loop.runs_on g.runs

  drains_now : Draining s g.ready.from w l (manager_of m')
  drains_now = next_drains g.read g.ready g.started g.held g.loop

  pub next_able : Advanceable s masks index w.current cache m' × ((m'.core.steps < max_script_steps) × (max_script_steps ≤ max_script_steps))
  next_able = (able_now g.read go drains_now, able_more g.read go)

  pub next_flags : tally_numbers ≤ length w.tallies
  next_flags = (drains_now.invariant (λ _. manager_of m')).represents.roomy.tallies

  -- a turn of it leads to r, and its history is kept where it has ended
  module _ {r : code.Manager} (held' : WellFormed s r) (level' : r.core.level ≡ m'.core.level) {q : Parts} (t : Turn s w q l (manager_of m') (manager_of r)) (cache' : List ℕ) (known : KnownIsRead s w l cache') {ended'' tallies'' : List ℕ} (e : CoreSettled w.ended ended'' q.tallies tallies'' q.queue l r.core) where
    abbrev then : Words
    then =
        record { current = q.current; ended = ended''; tallies = tallies''; queue = q.queue; work = q.work }

    counts_then : (get_or tallies'' (busy_place l) 0 ≡ bit r) × (get_or tallies'' l 0 + bit r ≡ get_or q.tallies l 0 + 1)
    counts_then = settled_counts r (small g.read g.ready) t.settles.counted t.busy (settled_of_lem r e)

    known_then : is_running r.core.ending ≡ true → KnownIsRead s then l cache'
    known_then on =
        let same = (e []).0 on in
        rw (same.0, same.1) (turn_known cache' t known)

    next_again : length cache' ≡ length cache → NextLoop s (started_words w₀ ended' tallies') then l m r cache'
    next_again c0 =
        let before : get_or w.tallies l 0 + 1 ≡ get_or tallies' l 0 + bit m = rw g.runs at g.loop.count in
        record {
          drains = λ from drain. t.unsettled from (g.loop.drains from drain) ended'' tallies'' (settled_of_lem r e);
          runs_on = λ on. record {
            held = held';
            running = on;
            level = level' ∙ go.level;
            busy_there = counts_then.0 ∙ rw on refl;
            known_read = known_then on;
            cache_there = rw c0 go.cache_there;
          };
          busy = counts_then.0;
          count = counts_then.1 ∙ ap (λ n. n + 1) t.count ∙ before;
          rest = t.rest ∙ g.loop.rest;
          cache_long = c0 ∙ g.loop.cache_long;
        }

-- it has made its steps, and is r by then, with the flag of existence that is counted
pub record Gone (s masks index : List ℕ) (w₀ w : Words) (l : ℕ) (ended' tallies' : List ℕ) (m m' : code.Manager) (cache : List ℕ) (u : Bool) (r : code.Manager) : Type 0 where
  pub going : Going s masks index w₀ w l ended' tallies' m m' cache
  pub flag : u ≡ unchanged w.tallies
  pub steps : Advanced s w.current cache false u max_script_steps m' r

module _ {s masks index : List ℕ} {w₀ w : Words} {l : ℕ} {ended' tallies' : List ℕ} {m m' : code.Manager} {cache : List ℕ} {u : Bool} {r : code.Manager} (b : Gone s masks index w₀ w l ended' tallies' m m' cache u r) where
  abbrev read : Tables s masks index
  read = b.going.read

  abbrev now : RunningManager s w l m' cache
  now = go b.going

  abbrev draining : Draining s b.going.ready.from w l (manager_of m')
  draining = drains_now b.going

  ad : Advanced s w.current cache false (unchanged w.tallies) max_script_steps m' r
  ad = subst (λ y. Advanced s w.current cache false y max_script_steps m' r) b.flag b.steps

  pub next_reads : {o k : ℕ} → r.core.effect ≡ outside.Read o k → Readable s w l × ReadReady s cache o k
  next_reads is = turn_reads read now ad draining is

  -- existence is asked for, or a field
  pub asks-existence : {o k : ℕ} → r.core.effect ≡ outside.Read o k → k ≡ existence → r.core.effect ≡ outside.Read o existence
  asks-existence {o} is e = is ∙ ap (outside.Read o) e

  pub asks_field : {o k : ℕ} → r.core.effect ≡ outside.Read o k → (k ≡ existence → ⊥) → k < fields
  asks_field {o} {k} is no' = below k (next_reads is).1.named.field no'
    where
      below : (k : ℕ) → k ≤ existence → (k ≡ existence → ⊥) → k < fields
      below k h d = elim (ℕ_discrete k existence) [
        | yes e ↦ absurd (d e)
        | no z ↦ omega (arith, h, z)
      ]

  pub next_performs : PerformReady w.current w.tallies w.queue w.work l r.core.first r.core.forks (effect_of r.core.effect)
  next_performs = turn_performs read now ad draining

  -- what its next step asks for was read: the manager stands before that step, and runs
  module _ {o k : ℕ} (is : r.core.effect ≡ outside.Read o k) {cache' : List ℕ} (q : Answered s w cache cache' l o k) where
    pub told_less : steps_left s w cache' r < steps_left s w cache m'
    told_less = turn_told read now ad draining is q

    pub told_again : length cache' ≡ length cache → NextLoop s (started_words w₀ ended' tallies') w l m r cache'
    told_again c0 =
        next_again b.going ad.held ad.level_is (turn_asked read now ad draining is) cache' (turn_remembers read now ad draining is q)
        (core_on w.ended w.tallies w.queue l r.core (ad.asks (ap is_asking is)).0)
        c0

  -- what its last step did outside it is done
  module _ (not_asks : is_asking r.core.effect ≡ false) (q : Parts) (x : Performed (parts_of w) q l r.core.first r.core.forks (effect_of r.core.effect)) where
    abbrev turn : Turn s w q l (manager_of m') (manager_of r)
    turn = turn_performed read now ad draining x

    pub done_settles : SettleReady w.ended q.tallies q.queue l × (r.core.first + r.core.forks < 2 ^ 16)
    done_settles = (turn.settles, held_fits ad.held)

    pub done_less : (w' : Words) → steps_left s w' cache r < steps_left s w cache m'
    done_less w' = turn_made read now ad not_asks w' cache

    -- and its history is kept where it has ended
    pub done_again : {ended'' tallies'' : List ℕ} → CoreSettled w.ended ended'' q.tallies tallies'' q.queue l r.core → NextLoop s (started_words w₀ ended' tallies') (record { current = q.current; ended = ended''; tallies = tallies''; queue = q.queue; work = q.work }) l m r cache
    done_again e = next_again b.going ad.held ad.level_is turn cache now.known_read e refl

  -- its next step is a CREATE or WITHDRAW
  module _ (is : r.core.effect ≡ outside.Change) where
    pub next_changing : Changing s masks index w.current w.tallies w.work l r
    next_changing = turn_changing read now ad draining is

    -- which is made
    module _ {current' tallies₁ work' : List ℕ} {r' : code.Manager} (made : ChangedBy s w.current current' w.tallies tallies₁ w.work work' l r r') where
      abbrev changed_turn : Turn s w (record { current = current'; tallies = tallies₁; queue = w.queue; work = work' }) l (manager_of m') (manager_of r')
      changed_turn = turn_changed read now ad draining is made

      pub changed_settles : SettleReady w.ended tallies₁ w.queue l × (r'.core.first + r'.core.forks < 2 ^ 16)
      changed_settles = (changed_turn.settles, held_fits made.held)

      pub changed_less : (w' : Words) → steps_left s w' cache r' < steps_left s w cache m'
      changed_less w' = turn_counted read now ad draining is made w' cache

      pub changed_again : {ended'' tallies'' : List ℕ} → CoreSettled w.ended ended'' tallies₁ tallies'' w.queue l r'.core → NextLoop s (started_words w₀ ended' tallies') (record { current = current'; ended = ended''; tallies = tallies''; queue = w.queue; work = work' }) l m r' cache
      changed_again e =
          next_again b.going made.held (made.level_is ∙ ad.level_is) changed_turn cache now.known_read e refl

-- the managers in turn
pub record Turns (s : List ℕ) (w₀ w : Words) (l : ℕ) : Type 0 where
  pub held : Manager
  pub loop : LevelLoop s w₀ w l held
  pub quiescent : get_or w.tallies (busy_place l) 0 ≡ 0

module _ (s : List ℕ) (a : verdict_of s ≡ Accepted) (w₀ : Words) (l : ℕ) (q : LevelReady s w₀ l) where
  there : l < level_count s
  unfolding program_of
  there = (allowed conservative (program_of s) q.0 l q.1.1).0

  pub turns_small : l < max_levels
  turns_small = omega (arith, there, level_limit s a)

  resting : get_or w₀.tallies (busy_place l) 0 ≡ 0
  resting =
      subst (Runs (level_count s) w₀ l any_manager (length (level_at q.0 l).ended)) (q.1.0.idle_all l there) ((q.1.0.invariant (λ _. any_manager)).represents.level l there).activity

  pub turns_start : Turns s w₀ w₀ l
  turns_start = record { held = any_manager; loop = level_start s a w₀ l q any_manager; quiescent = resting }

  module _ (w : Words) (i : Turns s w₀ w l) where
    drains : Draining s q.0 w l i.held
    drains = i.loop.drains q.0 q.1.0 q.1.1

    pub turns_next : 0 < get_or w.tallies (waiting_place l) 0 → NextReady s w l
    turns_next waits =
        record { from = q.0; held = i.held; drains = drains; placed_there = there; waits = waits; quiescent = i.quiescent }

    module _ (w' : Words) (d : NextDone s w w' l) where
      pub turns_less : max_managers - get_or w'.tallies l 0 < max_managers - get_or w.tallies l 0
      turns_less =
          let few = ((d.drains q.0 i.held drains).invariant (λ _. any_manager)).represents.counts_few l turns_small in
          omega (arith, d.count, few)

      pub turns_again : Turns s w₀ w' l
      turns_again =
          record {
            held = d.last;
            loop = record {
              drains = λ st x ok. d.drains st i.held (i.loop.drains st x ok);
              rest = d.rest ∙ i.loop.rest;
            };
            quiescent = d.quiescent;
          }

    pub turns_done : get_or w.tallies (waiting_place l) 0 ≤ 0 → LevelDone s w₀ w l
    turns_done no_manager_lem =
        level_done s a w₀ l q w i.held i.loop (rw (i.quiescent, le-ltb 0 (get_or w.tallies (waiting_place l) 0) no_manager_lem) refl)
