-- What a scheduler step does to the words of a run, stage by stage. No meaning rests on these. Assumes nothing.
-- Laws: what a write, a fork that arrives, the end of a step and a start do to the words (`proofs/Laws/Write`, `Arrive`, `Settle`,
-- `Begin`); the parts together are the definition's step (`Advance`, `Step`, `Made`: `step_represented`); what is read is what the definition
-- reads (`Reads`, `Script`), and stays, whatever the manager writes and forks (`Recall`).
use Rattle.std.specs.Prelude.{ℕ, ◌+◌, ◌-◌, ◌^◌, ◌≤◌, ◌<◌, ◌≡◌, Bool, true, false, not, cond, ◌||◌, List, [], ◌∷◌, eqb, ltb, length, get_or, set}
use Rattle.session.specs.Limits.{max_levels, max_numbers, fields}
use Rattle.session.specs.Parts.{level_count}
use Rattle.session.specs.Meaning.{Numbered, level_of}
use Rattle.session.specs.Program.{program_of}
use Rattle.session.specs.Value.{Value}
use Rattle.session.specs.declared.Message.{Message}
use Rattle.scripts.specs.Existence.{existence, script_seen, initially, withdrawn}
use Rattle.scripts.specs.Limits.{max_forks, write_stamps}
use Rattle.scripts.specs.Ending.{is_running}
use Rattle.scripts.specs.Effect.{Written, Effect}
use Rattle.scripts.specs.Effect as effect
use Rattle.scripts.specs.State.{Frame, Manager}
use Rattle.scripts.specs.Manager.{started, stepped}
use Rattle.scripts.specs.Valid.{Each, Leveled, Startable}
use Rattle.contents.specs.Reading.{Indexed}
use Rattle.scripts.specs.declared.Ended.{Ended}
use Rattle.fields.specs.Limits.{field_words}
use Rattle.fields.specs.Fields.{FieldThere, FieldSet, Remembered}
use Rattle.cores.specs.Core.{bare, effect_of}
use Rattle.cores.specs.declared.Core.{Core}
use Rattle.changes.specs.Changes.{OwnExistence}
use Rattle.managers.specs.Manager.{manager_of}
use Rattle.managers.specs.Steps.{WellFormed, Changeable}
use Rattle.managers.specs.declared.Manager as code
use Rattle.model.specs.Limits.{work_numbers, stamp_digits}
use Rattle.model.specs.Fork.{Fork, child_stamp}
use Rattle.model.specs.History.{end_before}
use Rattle.model.specs.Level.{busy, newest_to}
use Rattle.model.specs.Step.{State, level_at, read_at}
use Rattle.histories.specs.Limits.{history_words}
use Rattle.histories.specs.Histories.{histories_at, InOrder, HistoryIs, HistoriesThere, Added}
use Rattle.queues.specs.Queue.{fork_of_row, fork_at, There, Room, Arrived}
use Rattle.versions.specs.Log.{max_versions, log_start, log_of, Within}
use Rattle.versions.specs.Changes.{Appended}
use Rattle.tallies.specs.Places.{begun_tallies, next_place, waiting_place, versions_place, busy_place, tally_numbers, tallied, changed}
use Rattle.level_state.specs.Representation.{Words, RunInvariant}

-- an accepted session, its level table and its method index
pub record Tables (s masks index : List ℕ) : Type 0 where
  pub indexed : Indexed s index
  pub leveled : Leveled s masks

-- the words represent a state that a run reaches, in which m, the manager of fork x, runs at level l
pub record Busy (s : List ℕ) (w : Words) (l : ℕ) (ms : ℕ → Manager) (st : State) (x : Fork) (m : Manager) : Type 0 where
  pub invariant : RunInvariant s w ms st
  pub present : l < level_count s
  pub runs : (level_at st l).activity ≡ busy x m

-- they represent such a state
abbrev pub IsBusy : List ℕ → Words → ℕ → Type 0
IsBusy s w l = (ms : ℕ → Manager) × ((st : State) × ((x : Fork) × ((m : Manager) × Busy s w l ms st x m)))

-- the fork of the manager that runs at level l: the one behind those that have ended. Its stamp and depth are the same for any number of levels
abbrev pub running_fork : ℕ → List ℕ → List ℕ → ℕ → Fork
running_fork n tallies queue l = fork_at n queue l (get_or tallies l 0)

-- the words that say up to which write stamp it reads at level j are there
pub record BoundReady (ended tallies queue : List ℕ) (l j : ℕ) : Type 0 where
  pub there : There queue l (get_or tallies l 0)
  pub level : j < max_levels
  pub histories : HistoriesThere ended j (get_or tallies j 0)
  pub counted : tally_numbers ≤ length tallies
  pub fits : end_before (running_fork 0 tallies queue l).stamp (histories_at ended j (get_or tallies j 0)) < write_stamps

-- that write stamp, among n levels
abbrev pub bound_in : ℕ → List ℕ → List ℕ → List ℕ → ℕ → ℕ → ℕ
bound_in n ended tallies queue l j =
    let carried = get_or (running_fork n tallies queue l).carried j 0 in
    cond (eqb carried 0) (end_before (running_fork n tallies queue l).stamp (histories_at ended j (get_or tallies j 0))) carried

-- what the words say of a field of an object of another level, up to its bound there
abbrev pub found_in : List ℕ → Words → ℕ → ℕ → ℕ → Value
found_in s w l object k =
    newest_to (bound_in (level_count s) w.ended w.tallies w.queue l (level_of s object)) (initially (program_of s) object k) object k (log_of w.work (log_start (level_of s object)) (get_or w.tallies (versions_place (level_of s object)) 0))

-- a value is what the manager of that fork, which runs or is about to start, reads of a field or of existence
abbrev pub ReadIs : List ℕ → Words → ℕ → ℕ → ℕ → Value → Type 0
ReadIs s w l object k r =
    (ms : ℕ → Manager) (st : State) → RunInvariant s w ms st → read_at (program_of s) st l (running_fork (level_count s) w.tallies w.queue l) object k ≡ r

-- a script is what that manager reads of an object's existence
abbrev pub ScriptIs : List ℕ → Words → ℕ → ℕ → ℕ → Type 0
ScriptIs s w l object script =
    (ms : ℕ → Manager) (st : State) → RunInvariant s w ms st → script_seen (read_at (program_of s) st l (running_fork (level_count s) w.tallies w.queue l)) object ≡ script

-- what reading asks for: the words represent a state that a run reaches, and that fork is there
pub record Readable (s : List ℕ) (w : Words) (l : ℕ) : Type 0 where
  pub managers : ℕ → Manager
  pub state : State
  pub invariant : RunInvariant s w managers state
  pub present : l < level_count s
  pub there : There w.queue l (get_or w.tallies l 0)

-- a field, or the existence, of an object that a session may name
pub record Named (s : List ℕ) (object k : ℕ) : Type 0 where
  pub number : Numbered s object
  pub field : k ≤ existence

-- there is room for what was read of it
pub record ReadReady (s cache : List ℕ) (object k : ℕ) : Type 0 where
  pub named : Named s object k
  pub there : field_words ≤ length cache

-- what the manager that runs at level l reads of a field is kept
pub record Answered (s : List ℕ) (w : Words) (cache cache' : List ℕ) (l object k : ℕ) : Type 0 where
  pub value : Value
  pub is : ReadIs s w l object k value
  pub kept : Remembered cache cache' object k value

-- there is room for a write of field k of an object at level l
pub record WriteReady (current tallies work : List ℕ) (l object k : ℕ) : Type 0 where
  pub there : FieldThere current object k
  pub within : Within work l (get_or tallies (versions_place l) 0 + 1) k
  pub counted : tally_numbers ≤ length tallies

-- the write is made: the field holds the value, and level l has one more version
pub record Wrote (current current' tallies tallies' work work' : List ℕ) (l stamp object k : ℕ) (v : Value) : Type 0 where
  pub field : FieldSet current current' object k v
  pub version : Appended work work' l (get_or tallies (versions_place l) 0) (record { stamp = stamp; object = object; field = k; value = v })
  pub count : tallies' ≡ set tallies (versions_place l) (get_or tallies (versions_place l) 0 + 1)

-- the forks that started at level u
abbrev pub started_of : List ℕ → ℕ → ℕ
started_of tallies u = get_or tallies u 0 + get_or tallies (busy_place u) 0

-- there is room for a fork at level u of the manager that runs at level l, which has made `forks`; its stamp fits 32 bits
pub record ForkReady (tallies queue : List ℕ) (l forks u : ℕ) : Type 0 where
  pub there : There queue l (get_or tallies l 0)
  pub room : Room queue u (started_of tallies u) (get_or tallies (waiting_place u) 0)
  pub counted : tally_numbers ≤ length tallies
  pub shallow : (running_fork 0 tallies queue l).depth ≤ stamp_digits
  pub few : forks < max_forks
  pub fits : (running_fork 0 tallies queue l).stamp + 16 ^ (stamp_digits + 1 - (running_fork 0 tallies queue l).depth) ≤ 2 ^ 32

-- the fork has arrived there
pub record Forked (tallies tallies' queue queue' : List ℕ) (l stamp forks u : ℕ) (message : Message) : Type 0 where
  pub row : List ℕ
  pub child : (n : ℕ) → l < n → n ≤ max_levels → fork_of_row n row ≡ record { stamp = child_stamp (running_fork n tallies queue l).stamp (running_fork n tallies queue l).depth (forks + 1); depth = (running_fork n tallies queue l).depth + 1; carried = set (running_fork n tallies queue l).carried l stamp; message = message }
  pub count : ℕ
  pub arrived : Arrived queue queue' u (started_of tallies u) (get_or tallies (waiting_place u) 0) row count
  pub tallies_are : tallies' ≡ set tallies (waiting_place u) count

-- does some of it write existence
abbrev pub touches : List Written → Bool
touches [] = false
touches (w ∷ ws) = not (ltb w.field fields) || touches ws

-- there is room for all of it, the last one first
abbrev pub WritesReady : List ℕ → List ℕ → List ℕ → ℕ → List Written → Type 0
WritesReady current tallies work l ws =
    Each (λ w. (w.object < max_numbers) × (w.field ≤ existence)) ws
    × ((field_words ≤ length current) × ((get_or tallies (versions_place l) 0 + length ws ≤ max_versions) × ((work_numbers ≤ length work) × ((l < max_levels) × (tally_numbers ≤ length tallies)))))

-- the same, of any effect of a script step
abbrev pub EffectReady : List ℕ → List ℕ → List ℕ → List ℕ → ℕ → ℕ → Effect → Type 0
EffectReady current tallies queue work l forks effect.Nothing = Unit
EffectReady current tallies queue work l forks (effect.Write ws) = WritesReady current tallies work l ws
EffectReady current tallies queue work l forks (effect.Fork u message) = ForkReady tallies queue l forks u

-- the words that an effect may change
pub record Parts : Type 0 where
  pub current : List ℕ
  pub tallies : List ℕ
  pub queue : List ℕ
  pub work : List ℕ

-- those of a run's words
abbrev pub parts_of : Words → Parts
parts_of w = record { current = w.current; tallies = w.tallies; queue = w.queue; work = w.work }

-- it is written, the last one first
abbrev pub WroteAll : Parts → Parts → ℕ → ℕ → List Written → Type 0
WroteAll a b l stamp [] = b ≡ a
WroteAll a b l stamp (w ∷ ws) =
    (m : Parts) × (WroteAll a m l stamp ws × (Wrote m.current b.current m.tallies b.tallies m.work b.work l stamp w.object w.field w.value × (b.queue ≡ m.queue)))

-- where existence is written, that is noted first
abbrev pub noted : Parts → ℕ → List Written → Parts
noted a l ws =
    record { current = a.current; tallies = cond (touches ws) (changed l a.tallies) a.tallies; queue = a.queue; work = a.work }

abbrev pub EffectDone : Parts → Parts → ℕ → ℕ → ℕ → Effect → Type 0
EffectDone a b l stamp forks effect.Nothing = b ≡ a
EffectDone a b l stamp forks (effect.Write ws) = WroteAll (noted a l ws) b l stamp ws
EffectDone a b l stamp forks (effect.Fork u message) =
    Forked a.tallies b.tallies a.queue b.queue l stamp forks u message × ((b.current ≡ a.current) × (b.work ≡ a.work))

-- what a WITHDRAW writes
abbrev pub withdrawing : ℕ → List Written
withdrawing object = record { object = object; field = existence; value = withdrawn } ∷ []

-- what a CREATE or WITHDRAW writes can be written, and is
abbrev pub ChangeReady : List ℕ → List ℕ → List ℕ → ℕ → Effect → Type 0
ChangeReady current tallies work l e = EffectReady current tallies [] work l 0 e

abbrev pub ChangeDone : List ℕ → List ℕ → List ℕ → List ℕ → List ℕ → List ℕ → ℕ → ℕ → Effect → Type 0
ChangeDone current current' tallies tallies' work work' l stamp e =
    (queue : List ℕ) (forks : ℕ) → EffectDone (record { current = current; tallies = tallies; queue = queue; work = work }) (record { current = current'; tallies = tallies'; queue = queue; work = work' }) l stamp forks e

-- the manager that runs at level l stands before a CREATE or WITHDRAW, and there is room for what it writes
pub record Changing (s masks index current tallies work : List ℕ) (l : ℕ) (m : code.Manager) : Type 0 where
  pub changeable : Changeable s masks index current m
  pub read : ℕ → ℕ → Value
  pub own : OwnExistence s current m.core.level read
  pub queue : List ℕ
  pub forks : ℕ
  pub ready : EffectReady current tallies queue work l forks (stepped (program_of s) read (manager_of m)).effect

-- it is made
pub record ChangedBy (s current current' tallies tallies' work work' : List ℕ) (l : ℕ) (m r : code.Manager) : Type 0 where
  pub effect : Effect
  pub is : (read : ℕ → ℕ → Value) → OwnExistence s current m.core.level read → record { manager = manager_of r; effect = effect } ≡ stepped (program_of s) read (manager_of m)
  pub done : ChangeDone current current' tallies tallies' work work' l (m.core.first + m.core.forks) effect
  pub held : WellFormed s r
  pub level_is : r.core.level ≡ m.core.level
  pub first_is : r.core.first ≡ m.core.first

-- the forks that a manager has made with a step of this effect, where it had made so many before it
abbrev pub forks_after : Effect → ℕ → ℕ
forks_after effect.Nothing made = made
forks_after (effect.Write ws) made = made
forks_after (effect.Fork u message) made = made + 1

-- nothing that it writes is existence
abbrev pub Fielded : Effect → Type 0
Fielded effect.Nothing = Unit
Fielded (effect.Write ws) = touches ws ≡ false
Fielded (effect.Fork u message) = Unit

-- the step of a manager that started with write stamp `first`, and has made `forks` with that step, can be done outside it
pub record PerformReady (current tallies queue work : List ℕ) (l first forks : ℕ) (e : Effect) : Type 0 where
  pub made : ℕ
  pub forks_are : forks ≡ forks_after e made
  pub ready : EffectReady current tallies queue work l made e
  pub fielded : Fielded e
  pub fits : first + forks < write_stamps

-- it is done: with the write stamp that the manager had before it
abbrev pub Performed : Parts → Parts → ℕ → ℕ → ℕ → Effect → Type 0
Performed a b l first forks e = (made : ℕ) → forks ≡ forks_after e made → EffectDone a b l (first + made) made e

-- there is room for one more history of level l
pub record SettleReady (ended tallies queue : List ℕ) (l : ℕ) : Type 0 where
  pub histories : history_words ≤ length ended
  pub there : There queue l (get_or tallies l 0)
  pub rises : InOrder (histories_at ended l (get_or tallies l 0))
  pub counted : tally_numbers ≤ length tallies

-- the manager that ran at level l has ended as m: its history is kept, the next one's write stamp is known, and none runs
pub record Closed (ended ended' tallies tallies' queue : List ℕ) (l : ℕ) (m : Manager) : Type 0 where
  pub history : Ended
  pub history_is : HistoryIs (running_fork 0 tallies queue l).stamp m history
  pub added : Added ended ended' l (get_or tallies l 0) history
  pub tallies_are : tallies' ≡ set (tallied l (get_or tallies l 0 + 1) (m.stamp + 1) tallies) (busy_place l) 0

-- a manager that runs on leaves all as it was
abbrev pub Settled : List ℕ → List ℕ → List ℕ → List ℕ → List ℕ → ℕ → Manager → Type 0
Settled ended ended' tallies tallies' queue l m =
    (is_running m.ending ≡ true → (ended' ≡ ended) × (tallies' ≡ tallies))
    × (is_running m.ending ≡ false → Closed ended ended' tallies tallies' queue l m)

-- so of a manager of the code's, whatever its frames
abbrev pub CoreSettled : List ℕ → List ℕ → List ℕ → List ℕ → List ℕ → ℕ → Core → Type 0
CoreSettled ended ended' tallies tallies' queue l c =
    (fs : List Frame) → Settled ended ended' tallies tallies' queue l (bare c fs)

-- what a step of the manager that runs at level l did outside it is done, then its history kept, if it has ended
pub record StepDone (w w' : Words) (l : ℕ) (c : Core) : Type 0 where
  pub tallies : List ℕ
  pub performed : Performed (record { current = w.current; tallies = w.tallies; queue = w.queue; work = w.work }) (record { current = w'.current; tallies = tallies; queue = w'.queue; work = w'.work }) l c.first c.forks (effect_of c.effect)
  pub settled : CoreSettled w.ended w'.ended tallies w'.tallies w'.queue l c

-- a fork waits at level l, and can start there
pub record StartReady (s masks index : List ℕ) (w : Words) (l : ℕ) : Type 0 where
  pub tables : Tables s masks index
  pub readable : Readable s w l
  pub startable : Startable s l (get_or w.tallies (next_place l) 0) (running_fork 0 w.tallies w.queue l).message
  pub waits : 0 < get_or w.tallies (waiting_place l) 0
  pub settles : SettleReady w.ended w.tallies w.queue l

-- the message that starts there
abbrev pub first_message : Words → ℕ → Message
first_message w l = (running_fork 0 w.tallies w.queue l).message

-- it has started with the script that its object has for it, and has ended at once where its method is empty
pub record Started (s : List ℕ) (w : Words) (ended' tallies' : List ℕ) (l : ℕ) (m : Manager) : Type 0 where
  pub script : ℕ
  pub seen : ScriptIs s w l (first_message w l).object script
  pub manager : (read : ℕ → ℕ → Value) → script_seen read (first_message w l).object ≡ script → m ≡ started (program_of s) read l (get_or w.tallies (next_place l) 0) (first_message w l)
  pub settled : Settled w.ended ended' (begun_tallies w.tallies l) tallies' w.queue l m
