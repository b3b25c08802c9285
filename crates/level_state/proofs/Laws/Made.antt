-- What each function of a scheduler step asks of the ones that it calls, and what it promises of what they did. Assumes nothing.
use Prim.Native.Nat.{ℕ, suc, ◌+◌, ◌-◌, ◌^◌, ◌≤◌, ◌<◌}
use mathlib.Core.Path.{◌≡◌, refl, sym, ◌∙◌, ap}
use mathlib.Core.Bool.{Bool, true, false}
use mathlib.Core.List.{List, [], ◌∷◌}
use native.Mathlib.Omega.{arith}
use borrow.Author.Tests.{lt-ltb}
use lib.ListN.{length, get_or, set, drop, length-set}
use lib.Seq.{get_or-set_same, get_or-set_other, set-get_or}
use Rattle.lists.proofs.Laws.Range.{not_both}
use Rattle.session.specs.Limits.{max_levels, max_numbers, fields}
use Rattle.session.specs.Parts.{level_count, object_count}
use Rattle.session.specs.Program.{Program, program_of}
use Rattle.session.specs.Questions.{verdict_of, Accepted}
use Rattle.session.specs.Value.{Value}
use Rattle.std.specs.Prelude.{Some}
use Rattle.session.specs.declared.Message.{Message}
use Rattle.session.proofs.Laws.Contents.{level_limit, object_limit}
use Rattle.session.proofs.Laws.Numbers.{number_few}
use Rattle.scripts.specs.Existence.{existence, script_seen, making, withdrawn}
use Rattle.scripts.specs.Value.{number_in}
use Rattle.scripts.specs.Ending.{is_running}
use Rattle.scripts.specs.Effect.{Written, Effect}
use Rattle.scripts.specs.Effect as effect
use Rattle.scripts.specs.State.{Frame, Manager, Stepped}
use Rattle.scripts.specs.Manager.{started, stepped}
use Rattle.scripts.specs.Valid.{Leveled, Startable}
use Rattle.scripts.specs.declared.Ended.{Ended}
use Rattle.scripts.proofs.Laws.Counts.{counts, grown, one_more, stepped_counts}
use Rattle.fields.specs.Limits.{field_words}
use Rattle.fields.specs.Reads.{own_script_of}
use Rattle.versions.specs.Log.{max_versions}
use Rattle.cores.specs.Core.{bare, effect_of, kept_of, Present}
use Rattle.changes.specs.Changes.{change_of}
use Rattle.std.specs.Prelude.{Option, Some, None}
use Rattle.changes.specs.declared.Change.{Change}
use Rattle.changes.specs.declared.Change.TheVariants as change
use Rattle.cores.specs.declared.Effect as core
use Rattle.cores.specs.declared.Effect.TheVariants as act
use Rattle.cores.specs.declared.Core.{Core}
use Rattle.managers.specs.Manager.{manager_of, stepped_of}
use Rattle.managers.specs.Steps.{WellFormed}
use Rattle.managers.specs.declared.Manager as code
use Rattle.model.specs.Fork.{Fork, child_stamp}
use Rattle.model.specs.Level.{idle, busy, has_manager}
use Rattle.model.specs.Limits.{work_numbers}
use Rattle.model.specs.Step.{State, level_at, read_at, step_at}
use Rattle.model.specs.Schedule.{question14, step_refusal}
use Rattle.theorems.proofs.Laws.Code.Reached.{ReachedState}
use Rattle.theorems.proofs.Laws.Code.Progress.{allowed}
use Rattle.histories.specs.Histories.{HistoryIs, HistoryRoom}
use Rattle.queues.specs.Queue.{forks_at, is_dropped, ChildRow, Arrived}
use Rattle.queues.proofs.Laws.Queue.{dropped_arrives}
use Rattle.queues.proofs.Laws.Row.{Fits, row_there}
use Rattle.tallies.specs.Places.{begun_tallies, next_place, waiting_place, versions_place, busy_place, all_changes_place, tally_numbers, changed}
use Rattle.tallies.proofs.Laws.Changed.{changed-length, changed_other}
use Rattle.tallies.specs.Places as counted
use Rattle.level_state.specs.Representation.{Words, RunInvariant, placed}
use Rattle.level_state.specs.Steps.{Tables, Busy, running_fork, ReadIs, ScriptIs, Readable, Named, WriteReady, Wrote, touches, WritesReady, withdrawing, ChangeReady, ChangeDone, Fielded, started_of, ForkReady, Forked, EffectReady, Parts, parts_of, EffectDone, forks_after, PerformReady, Performed, SettleReady, Settled, CoreSettled, StepDone, StartReady, Started}
use Rattle.level_state.specs.Script.{Blank, RunsAt, ScriptStep}
use Rattle.level_state.proofs.Laws.Ready.{represents_quiescent, represents_runs, waits_some, start_ready, busy_settles, effect_ready, settle_after}
use Rattle.level_state.proofs.Laws.Seen.{read_low, script_first}
use Rattle.level_state.proofs.Laws.Step.{invariant_live, invariant_start, invariant_advance, rest_effect}

-- a fork that is made, with the stamp and the depth that were read of its maker's
module _ (tallies queue : List ℕ) (l forks u depth stamp : ℕ) (deep : (n : ℕ) → (running_fork n tallies queue l).depth ≡ depth) (stamped : (n : ℕ) → (running_fork n tallies queue l).stamp ≡ stamp) where
  pub child_fits : ForkReady tallies queue l forks u → (depth ≤ 7) × (forks < 15) × (stamp + 16 ^ (8 - depth) ≤ 2 ^ 32)
  child_fits f = (rw (deep 0) at f.shallow, f.few, rw (deep 0, stamped 0) at f.fits)

  pub forked : (queue' : List ℕ) (carried child : ℕ) (message : Message) (row : List ℕ) (count : ℕ) → child ≡ child_stamp stamp depth (forks + 1) → ChildRow queue l (get_or tallies l 0) child (depth + 1) carried message row → Arrived queue queue' u (started_of tallies u) (get_or tallies (waiting_place u) 0) row count → Forked tallies (set tallies (waiting_place u) count) queue queue' l carried forks u message
  forked queue' carried child message row count is made arrived =
      record {
        row = row;
        child = λ n h k. rw (deep n, stamped n, sym is) (made n h k);
        count = count;
        arrived = arrived;
        tallies_are = refl;
      }

  -- one that is dropped: its row is not made, and nothing changes
  pub forked_dropped : (carried child : ℕ) (message : Message) → child ≡ child_stamp stamp depth (forks + 1) → Fits (depth + 1) message → carried < 65536 → ForkReady tallies queue l forks u → (dropped : Bool) → ((n : ℕ) → is_dropped (started_of tallies u) (forks_at n queue u (started_of tallies u) (get_or tallies (waiting_place u) 0)) child ≡ dropped) → dropped ≡ true → Forked tallies tallies queue queue l carried forks u message
  forked_dropped carried child message is fits small f dropped asked represented =
      let r = row_there queue l (get_or tallies l 0) child (depth + 1) carried message f.there.level fits small in
      record {
        row = r.row;
        child = λ n h k. rw (deep n, stamped n, sym is) (r.holds n h k);
        count = get_or tallies (waiting_place u) 0;
        arrived = dropped_arrives 0 queue u (started_of tallies u) (get_or tallies (waiting_place u) 0) r.row f.room r.wide (rw r.key (asked 0 ∙ represented));
        tallies_are = sym (set-get_or tallies (waiting_place u) 0);
      }

-- there is room for one write, the last of some
pub one_ready : {current tallies work : List ℕ} {l : ℕ} (w : Written) (ws : List Written) → WritesReady current tallies work l (w ∷ ws) → WriteReady current tallies work l w.object w.field
one_ready w ws z =
    record {
      there = record { room = z.1.0; object = z.0.0.0; field = omega (arith, z.0.0.1) };
      within = record { level_present = z.1.1.1.1.0; fits = omega (arith, z.1.1.0); field_fits = z.0.0.1; long = z.1.1.1.0 };
      counted = z.1.1.1.1.1;
    }

-- there is room for n writes at level l, after the note that existence is written, and after one of them for the others
pub record RoomFor (current tallies work : List ℕ) (l n : ℕ) : Type 0 where
  pub current_there : field_words ≤ length current
  pub fits : get_or tallies (versions_place l) 0 + n ≤ max_versions
  pub work_there : work_numbers ≤ length work
  pub level : l < max_levels
  pub counted : tally_numbers ≤ length tallies

pub room_noted : {current : List ℕ} (tallies : List ℕ) {tallies' work : List ℕ} {l : ℕ} (ws : List Written) → WritesReady current tallies work l ws → tallies' ≡ changed l tallies → RoomFor current tallies' work l (length ws)
room_noted tallies {l = l} ws z e =
    let h = z.1.1.1.1.0 in
    rw e (record {
      current_there = z.1.0;
      fits = rw (changed_other l tallies (versions_place l) (λ e. omega (arith, e, h)) (λ e. omega (arith, e, h))) z.1.1.0;
      work_there = z.1.1.1.0;
      level = h;
      counted = rw (changed-length l tallies) z.1.1.1.1.1;
    })

module _ {current tallies work : List ℕ} {l n : ℕ} (r : RoomFor current tallies work l (suc n)) where
  pub room_write : {o k : ℕ} → o < max_numbers → k ≤ existence → WriteReady current tallies work l o k
  room_write ho hk =
      record {
        there = record { room = r.current_there; object = ho; field = omega (arith, hk) };
        within = record { level_present = r.level; fits = omega (arith, r.fits); field_fits = hk; long = r.work_there };
        counted = r.counted;
      }

  pub room_wrote : {current' tallies' work' : List ℕ} {stamp o k : ℕ} {v : Value} → Wrote current current' tallies tallies' work work' l stamp o k v → RoomFor current' tallies' work' l n
  room_wrote w =
      let count = ap (λ t. get_or t (versions_place l) 0) w.count ∙ get_or-set_same tallies (versions_place l) (get_or tallies (versions_place l) 0 + 1) 0 (omega (arith, r.level, r.counted)) in
      record {
        current_there = rw w.field.outside.length_same r.current_there;
        fits = omega (arith, count, r.fits);
        work_there = rw w.version.outside.length_same r.work_there;
        level = r.level;
        counted = rw (w.count, length-set tallies (versions_place l) (get_or tallies (versions_place l) 0 + 1)) r.counted;
      }

-- what a change needs depends on no fork
pub change_any : (current tallies queue work : List ℕ) (l forks : ℕ) (f : Frame) (x : Option Change) → EffectReady current tallies queue work l forks (change_of f x) → ChangeReady current tallies work l (change_of f x)
change_any current tallies queue work l forks f None r = tt
change_any current tallies queue work l forks f (Some (change.Create o script)) r = r
change_any current tallies queue work l forks f (Some (change.Withdraw o)) r = r

-- the writes of a CREATE, and that of a WITHDRAW, one after the other
module _ {c0 c1 : List ℕ} (t0 : List ℕ) {t1 t2 w0 w1 : List ℕ} {l stamp o : ℕ} (note : t1 ≡ changed l t0) where
  pub withdrawn_done : Wrote c0 c1 t1 t2 w0 w1 l stamp o existence withdrawn → ChangeDone c0 c1 t0 t2 w0 w1 l stamp (effect.Write (withdrawing o))
  withdrawn_done d queue forks =
      (record { current = c0; tallies = t1; queue = queue; work = w0 }, (ap (λ t. record { current = c0; tallies = t; queue = queue; work = w0 }) note, (d, refl)))

  module _ {c2 c3 c4 t3 t4 t5 w2 w3 w4 : List ℕ} {v0 v1 v2 : Value} {script : ℕ} where
    pub made_done : Wrote c0 c1 t1 t2 w0 w1 l stamp o 0 v0 → Wrote c1 c2 t2 t3 w1 w2 l stamp o 1 v1 → Wrote c2 c3 t3 t4 w2 w3 l stamp o 2 v2 → Wrote c3 c4 t4 t5 w3 w4 l stamp o existence (Some script) → ChangeDone c0 c4 t0 t5 w0 w4 l stamp (effect.Write (making o v0 v1 v2 script))
    made_done d0 d1 d2 d3 queue forks =
        let p0 : Parts = record { current = c0; tallies = t1; queue = queue; work = w0 } in
        let p1 : Parts = record { current = c1; tallies = t2; queue = queue; work = w1 } in
        let p2 : Parts = record { current = c2; tallies = t3; queue = queue; work = w2 } in
        let p3 : Parts = record { current = c3; tallies = t4; queue = queue; work = w3 } in
        let first = ap {B = Parts} (λ t. record { current = c0; tallies = t; queue = queue; work = w0 }) note in
        (p3, ((p2, ((p1, ((p0, (first, (d0, refl))), (d1, refl))), (d2, refl))), (d3, refl)))

-- what a step did outside its manager asks for what its kind asks for, and is done where that is
module _ (a : Parts) (l first forks : ℕ) (e : Effect) where
  pub performed_nothing : e ≡ effect.Nothing → Performed a a l first forks e
  performed_nothing is made counted = rw is refl

  module _ (object k : ℕ) (v : Value) (is : e ≡ effect.Write (record { object = object; field = k; value = v } ∷ [])) (ready : PerformReady a.current a.tallies a.queue a.work l first forks e) where
    pub write_ready : WriteReady a.current a.tallies a.work l object k
    write_ready =
        let z : WritesReady a.current a.tallies a.work l (record { object = object; field = k; value = v } ∷ []) = rw is at ready.ready in
        one_ready (record { object = object; field = k; value = v }) [] z

    -- no fork is made: the write stamp is that of now
    pub performed_write : (current' tallies' work' : List ℕ) → Wrote a.current current' a.tallies tallies' a.work work' l (first + forks) object k v → Performed a (record { current = current'; tallies = tallies'; queue = a.queue; work = work' }) l first forks e
    performed_write current' tallies' work' w made counted =
        let same : forks ≡ made = rw is at counted in
        let plain : touches (record { object = object; field = k; value = v } ∷ []) ≡ false = rw is at ready.fielded in
        rw (is, sym same, plain) (a, (refl, (w, refl)))

  module _ (u : ℕ) (message : Message) (is : e ≡ effect.Fork u message) where
    before : (made : ℕ) → forks ≡ forks_after e made → forks - 1 ≡ made
    before made counted = let one : forks ≡ made + 1 = rw is at counted in omega (arith, one)

    pub forks_some : PerformReady a.current a.tallies a.queue a.work l first forks e → 0 < forks
    forks_some ready = let one : forks ≡ ready.made + 1 = rw is at ready.forks_are in omega (arith, one)

    pub fork_ready : PerformReady a.current a.tallies a.queue a.work l first forks e → ForkReady a.tallies a.queue l (forks - 1) u
    fork_ready ready =
        let z : EffectReady a.current a.tallies a.queue a.work l ready.made (effect.Fork u message) = rw is at ready.ready in
        rw (before ready.made ready.forks_are) z

    -- the fork is the last of those made: it carries the write stamp before it
    pub performed_fork : (tallies' queue' : List ℕ) → Forked a.tallies tallies' a.queue queue' l (first + (forks - 1)) (forks - 1) u message → Performed a (record { current = a.current; tallies = tallies'; queue = queue'; work = a.work }) l first forks e
    performed_fork tallies' queue' f made counted =
        let q : Forked a.tallies tallies' a.queue queue' l (first + made) made u message = rw (before made counted) at f in
        rw is (q, (refl, refl))

-- the step of manager n that gave r: its forks are counted
module _ (p : Program) (read : ℕ → ℕ → Value) (n : Manager) (r : code.Manager) (made : stepped p read n ≡ stepped_of r) where
  abbrev e : Effect
  e = effect_of r.core.effect

  grew : counts (manager_of r) ≡ one_more (grown (counts n) e)
  grew =
      ap (λ d. counts d.manager) (sym made)
      ∙ stepped_counts p read n
      ∙ ap (λ d. one_more (grown (counts n) d.effect)) made

  forks_are : r.core.forks ≡ forks_after e n.forks
  unfolding manager_of
  forks_are = ap (λ c. c.forks) grew ∙ by e
    where
      by : (e : Effect) → (one_more (grown (counts n) e)).forks ≡ forks_after e n.forks
      by effect.Nothing = refl
      by (effect.Write ws) = refl
      by (effect.Fork u message) = refl

  pub first_is : r.core.first ≡ n.first
  unfolding manager_of
  first_is = ap (λ c. c.first) grew ∙ by e
    where
      by : (e : Effect) → (one_more (grown (counts n) e)).first ≡ n.first
      by effect.Nothing = refl
      by (effect.Write ws) = refl
      by (effect.Fork u message) = refl

  -- what it did outside can be done where the definition's effect can, and then is what that does
  pub performs : (current tallies queue work : List ℕ) (l : ℕ) → EffectReady current tallies queue work l n.forks e → Fielded e → r.core.first + r.core.forks < 2 ^ 16 → PerformReady current tallies queue work l r.core.first r.core.forks e
  performs current tallies queue work l ready fielded fits =
      record { made = n.forks; forks_are = forks_are; ready = ready; fielded = fielded; fits = fits }

  pub performed : (a b : Parts) (l : ℕ) → n.stamp ≡ n.first + n.forks → Performed a b l r.core.first r.core.forks e → EffectDone a b l n.stamp n.forks e
  performed a b l stamped done = rw (stamped, sym first_is) (done n.forks forks_are)

-- a manager that runs on leaves all as it was
pub settled_on : (ended tallies queue : List ℕ) (l : ℕ) (m : Manager) → is_running m.ending ≡ true → Settled ended ended tallies tallies queue l m
settled_on ended tallies queue l m e = (λ _. (refl, refl), λ q. absurd (not_both (is_running m.ending) e q))

-- so does one of the code's; of one that has ended the history is kept
module _ (ended tallies queue : List ℕ) (l : ℕ) (c : Core) where
  pub core_on : is_running c.ending ≡ true → CoreSettled ended ended tallies tallies queue l c
  core_on e fs = settled_on ended tallies queue l (bare c fs) e

  module _ (stamp : ℕ) (h : Ended) (over : is_running c.ending ≡ false) (stamped : (n : ℕ) → (running_fork n tallies queue l).stamp ≡ stamp) (is : h ≡ kept_of c stamp) where
    kept_is : (fs : List Frame) → HistoryIs stamp (bare c fs) h
    kept_is fs x e = rw (is, sym e) refl

    pub core_room : SettleReady ended tallies queue l → HistoryRoom ended l (get_or tallies l 0) h
    core_room r =
        record {
          room = r.histories;
          level = r.there.level;
          more = r.there.placed;
          rises = r.rises;
          ended = ap (λ h. is_running h.ending) is ∙ over;
        }

    pub core_off : (ended' tallies' : List ℕ) → counted.Closed l h ended ended' tallies tallies' → CoreSettled ended ended' tallies (set tallies' (busy_place l) 0) queue l c
    core_off ended' tallies' z fs =
        let last : h.last ≡ c.first + c.forks = ap (λ h. h.last) is in (
          λ e. absurd (not_both (is_running c.ending) e over),
          λ _. record { history = h; history_is = rw (stamped 0) (kept_is fs); added = z.added; tallies_are = rw (z.counted, last) refl },
        )

pub settled_of_lem : {ended ended' tallies tallies' queue : List ℕ} {l : ℕ} (m : code.Manager) → CoreSettled ended ended' tallies tallies' queue l m.core → Settled ended ended' tallies tallies' queue l (manager_of m)
unfolding manager_of
settled_of_lem m z = z _

-- a WRITE is of a field
pub fielded_of : (s : List ℕ) (e : core.Effect) → Present s e → Fielded (effect_of e)
fielded_of s act.Nothing p = tt
fielded_of s act.End p = tt
fielded_of s (act.Write o k v) p = rw (lt-ltb k fields p.1) refl
fielded_of s (act.Read o k) p = tt
fielded_of s act.Change p = tt
fielded_of s (act.Fork u o n v) p = tt
fielded_of s (act.Call o way v) p = tt
fielded_of s (act.Pop v) p = tt

-- a manager's write stamp fits 16 bits
pub held_fits : {s : List ℕ} {m : code.Manager} → WellFormed s m → m.core.first + m.core.forks < 2 ^ 16
held_fits h = omega (arith, h.forked, h.fits)

-- what a step did outside is done, and leaves room for its history
pub settles_after : (a b : Parts) {ended : List ℕ} {l first forks : ℕ} {e : Effect} → PerformReady a.current a.tallies a.queue a.work l first forks e → SettleReady ended a.tallies a.queue l → Performed a b l first forks e → SettleReady ended b.tallies b.queue l
settles_after a b {ended} {l} {first} {forks} {e} ready room d =
    settle_after a b ended l (first + ready.made) ready.made e (d ready.made ready.forks_are) room

-- the script of the fork that starts is its object's own as long as no existence was written, else the one that is read
module _ {s masks : List ℕ} (a : Leveled s masks) {w : Words} {l : ℕ} (r : Readable s w l) {o : ℕ} (named : Named s o existence) where
  abbrev low : ℕ → Type 0
  low script = ScriptIs s w l o script × (script ≤ object_count s)

  script_low : (script : ℕ) → ScriptIs s w l o script → low script
  script_low script q =
      (q, rw (sym (q r.managers r.state r.invariant)) (read_low a r.invariant l (running_fork (level_count s) w.tallies w.queue l) o))

  pub script_few : o < max_numbers
  script_few = number_few s a.accepted o named.number

  pub script_own : {n : ℕ} → get_or w.tallies all_changes_place 0 ≡ 0 → n ≡ own_script_of o → low n
  script_own z is =
      rw is (script_low (own_script_of o) (λ ms st y. script_first a y l (running_fork (level_count s) w.tallies w.queue l) o named.number z))

  pub script_read : {v : Value} → ReadIs s w l o existence v → low (number_in v)
  script_read {v} read = script_low (number_in v) (λ ms st y. ap number_in (read ms st y))

-- the fork that starts, with the message that was read of it. That it starts leaves room for its history
module _ {s masks index : List ℕ} {w : Words} {l : ℕ} (message : Message) (r : StartReady s masks index w l) (is : (n : ℕ) → (running_fork n w.tallies w.queue l).message ≡ message) where
  pub start_there : Startable s l (get_or w.tallies (next_place l) 0) message
  start_there = rw (is 0) at r.startable

  pub start_named : Named s message.object existence
  start_named = record { number = start_there.present; field = omega arith }

  pub begun_settles : SettleReady w.ended (begun_tallies w.tallies l) w.queue l
  begun_settles =
      let tallies = w.tallies in
      let h = r.settles.there.level in
      let c = get_or tallies (waiting_place l) 0 - 1 in
      let same : get_or (begun_tallies tallies l) l 0 ≡ get_or tallies l 0 = get_or-set_other (set tallies (waiting_place l) c) (busy_place l) l 1 0 (λ q. omega (arith, q, h)) ∙ get_or-set_other tallies (waiting_place l) l c 0 (λ q. omega (arith, q, h)) in
      let long : length (begun_tallies tallies l) ≡ length tallies = length-set (set tallies (waiting_place l) c) (busy_place l) 1 ∙ length-set tallies (waiting_place l) c in
      record {
        histories = r.settles.histories;
        there = record { room = r.settles.there.room; level = h; placed = rw same r.settles.there.placed };
        rises = rw same r.settles.rises;
        counted = rw long r.settles.counted;
      }

  pub begun : (script : ℕ) (ended' tallies' : List ℕ) (m : Manager) → ScriptIs s w l message.object script → ((read : ℕ → ℕ → Value) → script_seen read message.object ≡ script → m ≡ started (program_of s) read l (get_or w.tallies (next_place l) 0) message) → Settled w.ended ended' (begun_tallies w.tallies l) tallies' w.queue l m → Started s w ended' tallies' l m
  begun script ended' tallies' m seen made settled =
      record { script = script; seen = rw (is 0) seen; manager = λ read there. rw (is 0) (made read (rw (is 0) at there)); settled = settled }

abbrev accepted : {s masks index : List ℕ} → Tables s masks index → verdict_of s ≡ Accepted
accepted a = a.indexed.accepted

-- the words represent a state that a run reaches, in which level l may step; m is the manager that runs there, if one does
pub record Stepping (s : List ℕ) (w : Words) (l : ℕ) (m : code.Manager) (ms : ℕ → Manager) (st : State) : Type 0 where
  pub invariant : RunInvariant s w ms st
  pub allowed : step_refusal (program_of s) st l ≡ 0
  pub held : ms l ≡ manager_of m

abbrev pub MayStep : List ℕ → Words → ℕ → code.Manager → Type 0
MayStep s w l m = (ms : ℕ → Manager) × ((st : State) × Stepping s w l m ms st)

-- the words then represent the state after a scheduler step at level l, with r for the manager that runs there; nothing is kept of what it has
-- read, and the work slice is as it was beyond the versions
pub record StepRepresented (s : List ℕ) (l : ℕ) (m : code.Manager) (w w' : Words) (cache' : List ℕ) (r : code.Manager) : Type 0 where
  pub invariant : (ms : ℕ → Manager) (st : State) → Stepping s w l m ms st → RunInvariant s w' (placed l (manager_of r) ms) (step_at (program_of s) l st)
  pub held : WellFormed s r
  pub blank : Blank cache'
  pub rest : drop work_numbers w'.work ≡ drop work_numbers w.work

-- a step at level l, which may make one; m is the manager that runs there, if one does
module _ (s masks index : List ℕ) (w : Words) (l : ℕ) (m : code.Manager) (a : Tables s masks index) where
  abbrev few : level_count s ≤ max_levels
  few = level_limit s (accepted a)

  placed_here : (ms : ℕ → Manager) (st : State) → Stepping s w l m ms st → l < level_count s
  placed_here ms st q = unfold program_of in (allowed question14 (program_of s) st l q.allowed).0

  -- where no manager runs, one starts
  module _ (z : get_or w.tallies (busy_place l) 0 ≡ 0) where
    quiescent_here : (ms : ℕ → Manager) (st : State) → Stepping s w l m ms st → (level_at st l).activity ≡ idle
    quiescent_here ms st q =
        represents_quiescent (level_count s) w l (ms l) (level_at st l) (q.invariant.represents.level l (placed_here ms st q)) z

    has_here : (ms : ℕ → Manager) (st : State) → Stepping s w l m ms st → has_manager (level_at st l) ≡ true
    has_here ms st q = (allowed question14 (program_of s) st l q.allowed).1.0

    pub start_here : MayStep s w l m → StartReady s masks index w l
    start_here (ms, (st, q)) =
        start_ready s (accepted a) few (object_limit s (accepted a)) w ms st q.invariant.represents (invariant_live s (accepted a) w ms st q.invariant) l (placed_here ms st q) masks index a q.invariant (quiescent_here ms st q) (has_here ms st q)

    pub start_done : (cache ended' tallies' : List ℕ) (r : code.Manager) → Blank cache → Started s w ended' tallies' l (manager_of r) × WellFormed s r → StepRepresented s l m w (record { current = w.current; ended = ended'; tallies = tallies'; queue = w.queue; work = w.work }) cache r
    start_done cache ended' tallies' r blank (d, held) =
        record {
          invariant = λ ms st q. let (x, (xs, e)) = waits_some (level_at st l) (has_here ms st q) (quiescent_here ms st q) in invariant_start s (accepted a) few w ms st q.invariant l (placed_here ms st q) q.allowed x xs (quiescent_here ms st q) e ended' tallies' (manager_of r) d;
          held = held;
          blank = blank;
          rest = refl;
        }

-- m runs at level l, and makes a script step
pub record Advancing (s masks index : List ℕ) (w : Words) (l : ℕ) (m : code.Manager) : Type 0 where
  pub read : Tables s masks index
  pub may : MayStep s w l m
  pub runs : get_or w.tallies (busy_place l) 0 ≡ 0 → ⊥

module _ {s masks index : List ℕ} {w : Words} {l : ℕ} {m : code.Manager} (a : Advancing s masks index w l m) where
  abbrev ms₀ : ℕ → Manager
  ms₀ = a.may.0

  abbrev st₀ : State
  st₀ = a.may.1.0

  -- in any state that the words say it is m that runs there
  pub runs_here : (ms : ℕ → Manager) (st : State) → Stepping s w l m ms st → (x : Fork) × Busy s w l ms st x (manager_of m)
  runs_here ms st q =
      let h = placed_here s masks index w l m a.read ms st q in
      let r = represents_runs (level_count s) w l (ms l) (level_at st l) (q.invariant.represents.level l h) a.runs in
      (r.0, record { invariant = q.invariant; present = h; runs = r.1 ∙ ap (busy r.0) q.held })

  x₀ : Fork
  x₀ = (runs_here ms₀ st₀ a.may.1.1).0

  busy₀ : Busy s w l ms₀ st₀ x₀ (manager_of m)
  unfolding x₀
  busy₀ = (runs_here ms₀ st₀ a.may.1.1).1

  pub busy_here : RunsAt s w l m
  busy_here = record { running = ms₀; state = st₀; fork = x₀; busy = busy₀ }

  live₀ : ReachedState s st₀
  live₀ = invariant_live s (accepted a.read) w ms₀ st₀ busy₀.invariant

  -- its write stamp is counted by its forks
  stamped₀ : (manager_of m).stamp ≡ (manager_of m).first + (manager_of m).forks
  unfolding manager_of
  stamped₀ = refl

  pub done_room : SettleReady w.ended w.tallies w.queue l
  done_room =
      busy_settles s (accepted a.read) (level_limit s (accepted a.read)) (object_limit s (accepted a.read)) w ms₀ st₀ busy₀.invariant.represents live₀ l busy₀.present x₀ (manager_of m) busy₀.runs

-- the script step gave r: so its effect can be made, then its history kept; the words then represent the state after the step
module _ {s masks index : List ℕ} {w : Words} {l : ℕ} {cache' : List ℕ} {m r : code.Manager} (v : Advancing s masks index w l m) (made : ScriptStep s w l cache' m r) where
  abbrev n : Stepped
  n = stepped_of r

  step₀ : stepped (program_of s) (read_at (program_of s) (st₀ v) l (x₀ v)) (manager_of m) ≡ n
  step₀ = made.is (ms₀ v) (st₀ v) (x₀ v) (busy₀ v)

  pub done_performs : PerformReady w.current w.tallies w.queue w.work l r.core.first r.core.forks (effect_of r.core.effect)
  done_performs =
      let yes = accepted v.read in
      performs (program_of s) (read_at (program_of s) (st₀ v) l (x₀ v)) (manager_of m) r step₀ w.current w.tallies w.queue w.work l
      (effect_ready s yes (level_limit s yes) (object_limit s yes) w (ms₀ v) (st₀ v) (busy₀ v).invariant.represents (live₀ v) l (busy₀ v).present (x₀ v) (manager_of m) (busy₀ v).runs (read_at (program_of s) (st₀ v) l (x₀ v)) n.effect (ap (λ n. n.effect) step₀))
      (fielded_of s r.core.effect made.present)
      (held_fits made.held)

  pub done_settles : SettleReady w.ended w.tallies w.queue l
  done_settles = done_room v

  pub step_represented : {w' : Words} → StepDone w w' l r.core → StepRepresented s l m w w' cache' r
  step_represented {w'} d =
      let yes = accepted v.read in
      record {
        invariant = λ ms st q. let (x, b) = runs_here v ms st q in invariant_advance s yes (level_limit s yes) w ms st q.invariant l b.present q.allowed x (manager_of m) b.runs n (made.is ms st x b) p w'.ended w'.tallies done (settled_of_lem r d.settled);
        held = made.held;
        blank = made.blank;
        rest = rest_effect (parts_of w) p l (manager_of m).stamp (manager_of m).forks n.effect done;
      }
    where
      p : Parts
      p = record { current = w'.current; tallies = d.tallies; queue = w'.queue; work = w'.work }

      done : EffectDone (parts_of w) p l (manager_of m).stamp (manager_of m).forks n.effect
      done =
          performed (program_of s) (read_at (program_of s) (st₀ v) l (x₀ v)) (manager_of m) r step₀ (parts_of w) p l (stamped₀ v) d.performed
