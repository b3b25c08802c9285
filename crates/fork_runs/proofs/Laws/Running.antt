-- A manager makes script steps in a row, and what the last one did outside it is done. Assumes nothing.
use Prim.Native.Nat.{ℕ, ◌+◌, ◌≤◌, ◌<◌}
use mathlib.Core.Path.{◌≡◌, refl, sym, ◌∙◌, ap, subst}
use mathlib.Core.Bool.{Bool, true, false}
use mathlib.Core.List.{List}
use native.Mathlib.Decide.{ℕ_discrete}
use native.Mathlib.Omega.{arith}
use borrow.Author.Tests.{eqb-true}
use lib.ListN.{length, get_or}
use Rattle.lists.proofs.Laws.Range.{not_both}
use Rattle.session.specs.Limits.{max_levels, max_numbers}
use Rattle.session.specs.Parts.{level_count}
use Rattle.session.specs.Meaning.{level_of}
use Rattle.session.specs.Program.{Program, program_of}
use Rattle.session.specs.Questions.{verdict_of, Accepted}
use Rattle.session.specs.Value.{Value}
use Rattle.session.proofs.Laws.Contents.{level_limit, object_limit}
use Rattle.session.proofs.Laws.Numbers.{number_few}
use Rattle.lists.proofs.Laws.Lists.{holds, fails, truth}
use Rattle.scripts.specs.Limits.{max_script_steps}
use Rattle.scripts.specs.Ending.{is_running}
use Rattle.scripts.specs.Effect.{Effect}
use Rattle.scripts.specs.Effect as effect
use Rattle.scripts.specs.State.{Manager}
use Rattle.scripts.specs.Manager.{next_step, stepped}
use Rattle.fields.specs.Limits.{field_words}
use Rattle.fields.specs.Fields.{field_at}
use Rattle.frames.specs.Frames.{frame_of}
use Rattle.cores.specs.Core.{effect_of, is_asking, is_nothing, is_done, Present}
use Rattle.operations.specs.Operations.{on, pause_of, asking}
use Rattle.cores.specs.declared.Effect.{Effect as Outside}
use Rattle.cores.specs.declared.Effect.TheVariants as outside
use Rattle.managers.specs.Manager.{manager_of, stepped_of}
use Rattle.managers.specs.Steps.{Leads, internal, last, WellFormed, Advanceable, Advanced}
use Rattle.managers.proofs.Laws.Leads.{Steps, none, some, leads_steps, step_counted}
use Rattle.managers.proofs.Laws.Advance.{saying_of, saying_agrees}
use Rattle.managers.specs.declared.Manager as code
use Rattle.model.specs.Fork.{Fork}
use Rattle.model.specs.Step.{State, read_at}
use Rattle.theorems.proofs.Laws.Code.Needs.{live-runs, live-fork}
use Rattle.tallies.specs.Places.{busy_place, unchanged}
use Rattle.level_state.specs.Representation.{Words, placed}
use Rattle.level_state.specs.Steps.{Tables, found_in, Readable, ReadReady, Answered, Parts, parts_of, EffectReady, EffectDone, Changing, ChangedBy, PerformReady, Performed, SettleReady}
use Rattle.level_state.specs.Script.{RunsAt}
use Rattle.level_state.specs.Ends.{SameRest}
use Rattle.fork_runs.specs.Running.{Draining, KnownIsRead}
use Rattle.level_state.proofs.Laws.Reads.{found_in_lem, read_few}
use Rattle.level_state.proofs.Laws.Seen.{Kept, Seeing, kept_answered}
use Rattle.level_state.proofs.Laws.Script.{able, readable, sees, small_current, small_cache}
use Rattle.level_state.proofs.Laws.Changes.{change_ready, changed_done, changed_is}
use Rattle.level_state.proofs.Laws.Ready.{busy_settles, settle_after}
use Rattle.level_state.proofs.Laws.Step.{invariant_live, rest_effect}
use Rattle.level_state.proofs.Laws.Made.{performs, performed, fielded_of, held_fits}
use Rattle.fork_runs.proofs.Laws.Unsettled.{Unsettled, Running, running_busy, running_effect, running_step, running_internal, running_leads, runs_at, unsettled_internal, unsettled_none, running_start}
use Rattle.fork_runs.proofs.Laws.Outside.{with_parts, effect_count, effect_busy, effect_found}
use Rattle.fork_runs.proofs.Laws.Left.{questions_of, pause_apart, told_less, pause_same, steps_left, ended_less, later_less, asked_less}

-- a manager of the code's runs at level l, in the words; what is kept of its reads is what it reads
pub record RunningManager (s : List ℕ) (w : Words) (l : ℕ) (m : code.Manager) (cache : List ℕ) : Type 0 where
  pub held : WellFormed s m
  pub running : is_running m.core.ending ≡ true
  pub level : m.core.level ≡ l
  pub busy_there : get_or w.tallies (busy_place l) 0 ≡ 1
  pub known_read : KnownIsRead s w l cache
  pub cache_there : field_words ≤ length cache

-- steps led to m, the last with this effect: that can be done, and leads on; what is read elsewhere stays
record Came (s : List ℕ) (from : State) (w : Words) (l : ℕ) (m : Manager) (e : Effect) : Type 0 where
  pub stamp : ℕ
  pub made : ℕ
  pub ready : EffectReady w.current w.tallies w.queue w.work l made e
  pub unsettled : (q : Parts) → EffectDone (parts_of w) q l stamp made e → Unsettled s from (with_parts w q) l m
  pub found : (q : Parts) → EffectDone (parts_of w) q l stamp made e → (o k : ℕ) → (level_of s o ≡ l → ⊥) → found_in s (with_parts w q) l o k ≡ found_in s w l o k

-- it is done
abbrev CameDone : List ℕ → State → Words → ℕ → Manager → Parts → Effect → Type 0
CameDone s from w l m q e = (c : Came s from w l m e) × EffectDone (parts_of w) q l c.stamp c.made e

-- the same of what the code's manager did
record CamePerforms (s : List ℕ) (from : State) (w : Words) (l : ℕ) (r : code.Manager) : Type 0 where
  pub came : Came s from w l (manager_of r) (effect_of r.core.effect)
  pub performs : PerformReady w.current w.tallies w.queue w.work l r.core.first r.core.forks (effect_of r.core.effect)
  pub done : (q : Parts) → Performed (parts_of w) q l r.core.first r.core.forks (effect_of r.core.effect) → EffectDone (parts_of w) q l came.stamp came.made (effect_of r.core.effect)

-- the steps of m led to m', and what the last one did outside is done; the history of m', if it has ended, is not kept yet
pub record Turn (s : List ℕ) (w : Words) (q : Parts) (l : ℕ) (m m' : Manager) : Type 0 where
  pub unsettled : (from : State) → Draining s from w l m → Unsettled s from (with_parts w q) l m'
  pub settles : SettleReady w.ended q.tallies q.queue l
  pub count : get_or q.tallies l 0 ≡ get_or w.tallies l 0
  pub busy : get_or q.tallies (busy_place l) 0 ≡ 1
  pub rest : SameRest w.work q.work
  pub found : (o k : ℕ) → (level_of s o ≡ l → ⊥) → found_in s (with_parts w q) l o k ≡ found_in s w l o k

-- what is kept of reads is what is read then
pub turn_known : {s : List ℕ} {w : Words} {q : Parts} {l : ℕ} {m m' : Manager} (cache : List ℕ) → Turn s w q l m m' → KnownIsRead s w l cache → KnownIsRead s (with_parts w q) l cache
turn_known cache t f o k ho hk known =
    let z = f o k ho hk known in
    (z.0, z.1 ∙ sym (t.found o k z.0))

module _ {s masks index : List ℕ} (rd : Tables s masks index) {w : Words} {l : ℕ} {m : code.Manager} {cache : List ℕ} (go : RunningManager s w l m cache) where
  abbrev acc : verdict_of s ≡ Accepted
  acc = rd.indexed.accepted

  abbrev p : Program
  p = program_of s

  abbrev u : Bool
  u = unchanged w.tallies

  h : l < level_count s
  h = rw go.level at go.held.level

  small : l < max_levels
  small = omega (arith, h, level_limit s acc)

  runs : is_running (manager_of m).ending ≡ true
  unfolding manager_of
  runs = go.running

  pub able_more : (m.core.steps < max_script_steps) × (max_script_steps ≤ max_script_steps)
  able_more = (go.held.few go.running, omega arith)

  -- what it sees
  seeing : Seeing s w l cache u
  seeing = record { kept = kept; there = go.cache_there; flag = λ e. eqb-true _ 0 e }
    where
      kept : Kept s w l cache
      kept o k ho hk known ms st y =
          let q = go.known_read o k ho hk known in
          found_in_lem rd.leveled y o l k q.0 ∙ sym q.1

  -- the state that the words say
  module _ {from : State} (g : Draining s from w l (manager_of m)) where
    begins : (x : Fork) × Running s acc l h from w (manager_of m) x (read_at p g.state l x)
    begins = running_start s acc l h from w (manager_of m) g go.busy_there

    abbrev fork : Fork
    fork = begins.0

    abbrev read : ℕ → ℕ → Value
    read = read_at p begins.1.drain.state l begins.0

    abbrev begun : Running s acc l h from w (manager_of m) fork read
    begun = record { drain = begins.1.drain; runs = begins.1.runs; reads = λ o k. refl }

    abbrev here : RunsAt s w l m
    here = runs_at s acc l h from m begun

    pub able_now : Advanceable s masks index w.current cache m
    able_now = able rd here seeing go.held

    room : SettleReady w.ended w.tallies w.queue l
    room =
        let b = here in
        busy_settles s acc (level_limit s acc) (object_limit s acc) w b.running b.state b.busy.invariant.represents (invariant_live s acc w b.running b.state b.busy.invariant) l h b.fork (manager_of m) b.busy.runs

    -- its fork, and what it reads
    module _ {x : Fork} {read : ℕ → ℕ → Value} where
      -- one more step
      came_step : (n m' : Manager) (e : Effect) → Running s acc l h from w n x read → stepped p read n ≡ record { manager = m'; effect = e } → Came s from w l m' e
      came_step n m' e there is =
          let ready = running_effect s acc l h from w n x read there e (ap (λ d. d.effect) is) in
          let busy = running_busy s acc l h from w n x read there (λ _. n) in
          let st = there.drain.state in
          let live = invariant_live s acc w (placed l n (λ _. n)) st busy.invariant in
          record {
            stamp = n.stamp;
            made = n.forks;
            ready = ready;
            unsettled = λ q d. running_step s acc l h from w n x read there (record { manager = m'; effect = e }) is q d;
            found = λ q d o k apart.
                effect_found s acc w l small o k apart (parts_of w) q n.stamp n.forks e (read_few rd.leveled busy.invariant o) ready
                (λ i message fork up. (live-fork s acc st live l h x n there.runs read i message (ap (λ d. d.effect) is ∙ fork)).1.0 (sym up))
                d;
          }

      comes : {r : code.Manager} → Running s acc l h from w (manager_of m) x read → WellFormed s r → Present s r.core.effect → Leads p read (manager_of m) (stepped_of r) → CamePerforms s from w l r
      unfolding came_step
      comes {r} begun held present (internal k q e) =
          record {
            came = record {
              stamp = r.core.first + r.core.forks;
              made = r.core.forks;
              ready = rw e tt;
              unsettled = λ parts z.
                  let same : parts ≡ parts_of w = rw e at z in
                  subst (λ y. Unsettled s from (with_parts w y) l (manager_of r)) (sym same)
                  (unsettled_internal s acc l h from w x read k (manager_of m) (manager_of r) (unsettled_none s acc l h from w (manager_of m) g runs) (λ _. begun) q);
              found = λ parts z o k apart.
                  let same : parts ≡ parts_of w = rw e at z in
                  ap (λ y. found_in s (with_parts w y) l o k) same;
            };
            performs = record { made = r.core.forks; forks_are = rw e refl; ready = rw e tt; fielded = rw e tt; fits = held_fits held };
            done = λ parts z. z r.core.forks (rw e refl);
          }
      comes {r} begun held present (last k n q run is) =
          let there = running_internal s acc l h from w x read k (manager_of m) n begun q run in
          let c = came_step n (manager_of r) (effect_of r.core.effect) there is in
          let busy = running_busy s acc l h from w n x read there (λ _. n) in
          let st = there.drain.state in
          let live = invariant_live s acc w (placed l n (λ _. n)) st busy.invariant in
          let stamped = (live-runs s acc st live l h x n there.runs).0.stamped in
          record {
            came = c;
            performs = performs p read n r is w.current w.tallies w.queue w.work l c.ready (fielded_of s r.core.effect present) (held_fits held);
            done = λ parts z. performed p read n r is (parts_of w) parts l stamped z;
          }

    -- what the last step did is done
    turn_of : {m' : Manager} {q : Parts} {e : Effect} → ((from' : State) → Draining s from' w l (manager_of m) → CameDone s from' w l m' q e) → Turn s w q l (manager_of m) m'
    turn_of {m'} {q} {e} out =
        let (c, d) = out from g in
        record {
          unsettled = λ from' g'. let z = out from' g' in z.0.unsettled q z.1;
          settles = settle_after (parts_of w) q w.ended l c.stamp c.made e d room;
          count = effect_count (parts_of w) q l c.stamp c.made small e d;
          busy = effect_busy (parts_of w) q l c.stamp c.made small e c.ready d ∙ go.busy_there;
          rest = rest_effect (parts_of w) q l c.stamp c.made e d;
          found = c.found q d;
        }

  -- it has made its steps
  module _ {r : code.Manager} (ad : Advanced s w.current cache false u max_script_steps m r) where
    module _ {from : State} (g : Draining s from w l (manager_of m)) where
      reads_so : Leads p (read g) (manager_of m) (stepped_of r)
      reads_so = ad.leads (read g) (sees rd (here g) seeing (here g).busy)

      came : CamePerforms s from w l r
      came = comes g (begun g) ad.held ad.present reads_so

      pub turn_performs : PerformReady w.current w.tallies w.queue w.work l r.core.first r.core.forks (effect_of r.core.effect)
      turn_performs = came.performs

      -- it stands before a step that waits
      module _ (ask : is_asking r.core.effect ≡ true) where
        nothing_yet : (e : Outside) → is_asking e ≡ true → effect_of e ≡ effect.Nothing
        nothing_yet outside.Nothing q = absurd (not_both false q refl)
        nothing_yet outside.End q = absurd (not_both false q refl)
        nothing_yet (outside.Write o k v) q = absurd (not_both false q refl)
        nothing_yet (outside.Read o k) q = refl
        nothing_yet outside.Change q = refl
        nothing_yet (outside.Fork i o b v) q = absurd (not_both false q refl)
        nothing_yet (outside.Call o way v) q = absurd (not_both false q refl)
        nothing_yet (outside.Pop v) q = absurd (not_both false q refl)

        stands : Running s acc l h from w (manager_of r) (fork g) (read g)
        unfolding manager_of
        stands =
            running_leads s acc l h from w (fork g) (read g) (manager_of m) (manager_of r) (begun g)
            (subst (λ e. Leads p (read g) (manager_of m) (record { manager = manager_of r; effect = e })) (nothing_yet r.core.effect ask) reads_so)
            (ad.asks ask).0

        abbrev stands_at : RunsAt s w l r
        stands_at = runs_at s acc l h from r stands

    -- what it did outside is done
    pub turn_performed : {from : State} → Draining s from w l (manager_of m) → {q : Parts} → Performed (parts_of w) q l r.core.first r.core.forks (effect_of r.core.effect) → Turn s w q l (manager_of m) (manager_of r)
    turn_performed g {q} x = turn_of g (λ from' g'. ((came g').came, (came g').done q x))

    -- it asks for value k of object o
    module _ {from : State} (g : Draining s from w l (manager_of m)) {o k : ℕ} (is : r.core.effect ≡ outside.Read o k) where
      ask : is_asking r.core.effect ≡ true
      ask = ap is_asking is

      present : Present s (outside.Read o k)
      present = subst (Present s) is ad.present

      few : o < max_numbers
      few = number_few s acc o present.0

      waits : pause_of s w.current cache false u r.core ≡ on o k
      waits = (ad.asks ask).1 ∙ ap asking is

      pub turn_reads : Readable s w l × ReadReady s cache o k
      turn_reads =
          (readable rd (here g), record { named = record { number = present.0; field = present.1 }; there = go.cache_there })

      pub turn_asked : Turn s w (parts_of w) l (manager_of m) (manager_of r)
      turn_asked = turn_performed g (rw is (λ made counted. refl))

      apart : level_of s o ≡ l → ⊥
      apart e = pause_apart s w.current cache u r.core.level r.core.top.object (next_step p (frame_of r.core.top)) o k (small_current rd (here g) seeing) few waits (e ∙ sym (ad.level_is ∙ go.level))

      module _ {cache' : List ℕ} (q : Answered s w cache cache' l o k) where
        -- what was read is kept, beside what was kept before
        pub turn_remembers : KnownIsRead s w l cache'
        turn_remembers o' k' ho hk known = by (ℕ_discrete o' o) (ℕ_discrete k' k)
          where
            other : (o' ≡ o → k' ≡ k → ⊥) → (level_of s o' ≡ l → ⊥) × (field_at cache' o' k' ≡ found_in s w l o' k')
            other d =
                let z = go.known_read o' k' ho hk (sym (q.kept.others o' k' (omega (arith, hk)) d) ∙ known) in
                (z.0, q.kept.field.others o' k' (omega (arith, hk)) d ∙ z.1)

            by : Dec (o' ≡ o) → Dec (k' ≡ k) → (level_of s o' ≡ l → ⊥) × (field_at cache' o' k' ≡ found_in s w l o' k')
            by (yes x) (yes y) =
                let b = here g in
                let read = q.is b.running b.state b.busy.invariant in
                rw (x, y) (apart, q.kept.field.set ∙ sym read ∙ found_in_lem rd.leveled b.busy.invariant o l k apart)
            by (no x) d = other (λ z _. x z)
            by (yes x) (no y) = other (λ _ z. y z)

        pub turn_told : steps_left s w cache' r < steps_left s w cache m
        unfolding manager_of
        turn_told =
            by (leads_steps p (saying_of s w.current cache false u m.core.level) (manager_of m) (stepped_of r) (ad.leads (saying_of s w.current cache false u m.core.level) (saying_agrees s w.current cache false u m.core.level)))
          where
            told : Seeing s w l cache' u
            told = record { kept = kept_answered seeing.kept q; there = rw q.kept.field.outside.length_same go.cache_there; flag = seeing.flag }

            less : questions_of (pause_of s w.current cache' false u r.core) < questions_of (on o k)
            less = told_less s w.current cache u r.core.level r.core.top.object (next_step p (frame_of r.core.top)) o k (small_current rd (here g) seeing) few waits cache' (small_cache rd (here g) told) q.kept

            by : Steps (manager_of m) (stepped_of r) → steps_left s w cache' r < steps_left s w cache m
            by (none e) =
                let same : r.core.steps ≡ m.core.steps = ap (λ d. d.manager.steps) e in
                let alike = pause_same s w.current cache u m r (ap (λ d. d.manager) e) ad.level_is (go.held.live go.running) (ad.held.live (ad.asks ask).0) in
                asked_less s w cache m go.running w cache' r (ad.asks ask).0 same (rw (sym alike, waits) less)
            by (some more) = later_less s w cache m go.running w cache' r ad.held more

    -- it asks for none
    module _ (not_asks : is_asking r.core.effect ≡ false) where
      -- where no step is made it asks
      stays : (e : Outside) → r.core.effect ≡ e → is_running r.core.ending ≡ true → r.core.steps ≡ m.core.steps → is_done e ≡ true → effect_of e ≡ effect.Nothing → is_asking e ≡ false → ⊥
      stays outside.Nothing is run same done internal-then ask =
          let all = ad.at_limit (ap is_nothing is) run in
          omega (arith, all, same, go.held.few go.running)
      stays outside.End is run same done internal-then ask = not_both (is_running r.core.ending) run (ad.over is)
      stays (outside.Write o k v) is run same done internal-then ask = let z : ◌≡◌ {A = ℕ} 0 1 = cc in omega arith
      stays (outside.Read o k) is run same done internal-then ask = not_both true refl ask
      stays outside.Change is run same done internal-then ask = not_both true refl ask
      stays (outside.Fork i o b v) is run same done internal-then ask = let z : ◌≡◌ {A = ℕ} 0 1 = cc in omega arith
      stays (outside.Call o way v) is run same done internal-then ask = not_both false done refl
      stays (outside.Pop v) is run same done internal-then ask = not_both false done refl

      pub turn_made : (w' : Words) (cache' : List ℕ) → steps_left s w' cache' r < steps_left s w cache m
      unfolding manager_of
      turn_made w' cache' = elim (truth (is_running r.core.ending)) [
        | fails over ↦ ended_less s w cache m go.running w' cache' r over
        | holds run ↦ by run (leads_steps p (saying_of s w.current cache false u m.core.level) (manager_of m) (stepped_of r) (ad.leads (saying_of s w.current cache false u m.core.level) (saying_agrees s w.current cache false u m.core.level)))
      ]
        where
          by : is_running r.core.ending ≡ true → Steps (manager_of m) (stepped_of r) → steps_left s w' cache' r < steps_left s w cache m
          by run (none e) =
              absurd (stays r.core.effect refl run (ap (λ d. d.manager.steps) e) ad.done (ap (λ d. d.effect) e) not_asks)
          by run (some more) = later_less s w cache m go.running w' cache' r ad.held more

    -- it stands before a CREATE or WITHDRAW
    module _ {from : State} (g : Draining s from w l (manager_of m)) (is : r.core.effect ≡ outside.Change) where
      pub turn_changing : Changing s masks index w.current w.tallies w.work l r
      turn_changing = change_ready rd (stands_at g (ap is_asking is)) cache u ad.held ((ad.asks (ap is_asking is)).1 ∙ ap asking is)

      module _ {current' tallies' work' : List ℕ} {r' : code.Manager} (made : ChangedBy s w.current current' w.tallies tallies' w.work work' l r r') where
        abbrev parts : Parts
        parts = record { current = current'; tallies = tallies'; queue = w.queue; work = work' }

        step_is : {from' : State} (g' : Draining s from' w l (manager_of m)) → stepped p (read_at p (stands_at g' (ap is_asking is)).state l (fork g')) (manager_of r) ≡ record { manager = manager_of r'; effect = made.effect }
        step_is g' =
            let b = stands_at g' (ap is_asking is) in
            changed_is rd b made b.running b.state b.fork b.busy

        pub turn_changed : Turn s w parts l (manager_of m) (manager_of r')
        unfolding came_step
        turn_changed =
            turn_of g
            (λ from' g'.
            let there = stands g' (ap is_asking is) in
            (came_step g' (manager_of r) (manager_of r') made.effect (record { drain = there.drain; runs = there.runs; reads = λ o k. refl }) (step_is g'), changed_done rd (stands_at g' (ap is_asking is)) made))

        pub turn_counted : (w' : Words) (cache' : List ℕ) → steps_left s w' cache' r' < steps_left s w cache m
        unfolding manager_of
        turn_counted w' cache' =
            let b = stands_at g (ap is_asking is) in
            let one : r'.core.steps ≡ r.core.steps + 1 = sym (ap (λ d. d.manager.steps) (step_is g)) ∙ step_counted p (read_at p b.state l b.fork) (manager_of r) in
            later_less s w cache m go.running w' cache' r' made.held (omega (arith, one, grown))
          where
            by : Steps (manager_of m) (stepped_of r) → m.core.steps ≤ r.core.steps
            by (none e) = let same : r.core.steps ≡ m.core.steps = ap (λ d. d.manager.steps) e in omega (arith, same)
            by (some more) = omega (arith, more)

            grown : m.core.steps ≤ r.core.steps
            grown = by (leads_steps p (saying_of s w.current cache false u m.core.level) (manager_of m) (stepped_of r) (ad.leads (saying_of s w.current cache false u m.core.level) (saying_agrees s w.current cache false u m.core.level)))
