-- The run of a manager, as a loop over the script steps that concern others: what holds at its start, after each, and at its end. Assumes
-- nothing.
use Prim.Native.Nat.{ℕ, zero, suc, ◌+◌, ◌-◌, ◌^◌, ◌≤◌, ◌<◌}
use mathlib.Core.Path.{◌≡◌, refl, sym, ◌∙◌, ap}
use mathlib.Core.Bool.{Bool, true, false, cond}
use mathlib.Core.List.{List, []}
use native.Mathlib.Omega.{arith}
use lib.Dec.{ltb}
use lib.ListN.{length, get_or}
use Rattle.lists.proofs.Laws.Range.{not_both}
use Rattle.session.specs.Limits.{max_levels}
use Rattle.session.specs.Parts.{level_count}
use Rattle.session.specs.Program.{Program, program_of}
use Rattle.session.specs.declared.Message.{Message}
use Rattle.lists.proofs.Laws.Lists.{holds, fails, truth}
use Rattle.session.proofs.Laws.Numbering.{few_objects}
use Rattle.session.proofs.Laws.Verdict.{accepted}
use Rattle.scripts.specs.Effect as effect
use Rattle.scripts.specs.Limits.{max_script_steps, max_forks}
use Rattle.scripts.specs.Ending.{is_running}
use Rattle.scripts.specs.State as defined
use Rattle.scripts.specs.Manager.{next_step, started}
use Rattle.scripts.specs.declared.Ended.{Ended}
use Rattle.scripts.proofs.Laws.Accepted.{next_aimed}
use Rattle.scripts.proofs.Laws.Counts.{started_counts}
use Rattle.fields.proofs.Laws.Reads.{scripted_small}
use Rattle.frames.specs.Frames.{frame_of}
use Rattle.cores.specs.Core.{effect_of, is_asking, is_nothing, is_done, kept_of}
use Rattle.operations.specs.Operations.{change, pause_of, asking}
use Rattle.cores.specs.declared.Effect.{Effect}
use Rattle.cores.specs.declared.Effect.TheVariants.{Nothing, End, Write, Read, Change, Fork, Call, Pop}
use Rattle.managers.specs.Manager.{manager_of, stepped_of}
use Rattle.managers.specs.Steps.{Leads, WellFormed, Advanceable, Advanced, Changeable}
use Rattle.managers.specs.declared.Manager.{Manager}
use Rattle.managers.proofs.Laws.Leads.{step_counted, Steps, none, some, leads_steps}
use Rattle.model.specs.Limits.{max_managers}
use Rattle.lists.specs.Changed.{inserted}
use Rattle.model.specs.Fork as model
use Rattle.model.specs.History as history
use Rattle.model.specs.DepthFirst.{Progress, tally_at, field_now, close, finish, run_fork}
use Rattle.theorems.proofs.Laws.Code.DepthFirst.{finish_over}
use Rattle.histories.specs.Histories.{history_of, HistoryRoom}
use Rattle.tallies.specs.Places.{next_place, tally_numbers, tallied, unchanged, Closed}
use Rattle.progress.specs.Representation.{Tables, RepresentedBy, RepresentsSome, Words, Represents, Spared}
use Rattle.descent.specs.Forks.{Runnable, Same, Performable, Performed, ForkDone, RunDone}
use Rattle.progress.specs.Starts.{StartReady, StartDone}
use Rattle.progress.specs.Changes.{ChangeDone}
use Rattle.progress.specs.declared.Fork as fork
use Rattle.progress.proofs.Laws.Starts.{few}
use Rattle.progress.proofs.Laws.Reads.{script_seen_lem, agrees, pause_change, all_shown}
use Rattle.progress.proofs.Laws.Representation.{ended_own, kept-close}
use Rattle.progress.proofs.Laws.Spared.{spared_none, spared_then, spared_close}
use Rattle.descent.proofs.Laws.Step.{led_forking, led_ends, change_ends}
use Rattle.descent.proofs.Laws.Perform.{perform_nothing}

-- the fork with no write stamps carried
abbrev bare : fork.Fork → model.Fork
bare f = record { stamp = f.stamp; depth = f.depth; carried = []; message = f.message }

bare_same : (f : fork.Fork) → Same f (bare f)
bare_same f = record { stamp = refl; depth = refl; message = refl }

-- a present level is one of eight
pub level_small : {s masks index : List ℕ} → Tables s masks index → (l : ℕ) → l < level_count s → l < max_levels
level_small {s} a l h = omega (arith, few s a.accepted, h)

-- a manager that a fork starts: its level's next write stamp fits 16 bits
pub fork_starts : {s masks index : List ℕ} → Tables s masks index → {left : ℕ} {f : fork.Fork} → Runnable s left f → {w : Words} → RepresentsSome s w → StartReady s index w.current w.tallies f
fork_starts a {left} {f} r q =
    let k = q.1.counted f.level r.placed in
    record {
      indexed = record { accepted = a.accepted; index_is = a.index_is };
      startable = record { placed = r.placed; present = r.present; named = r.named; fits = omega (arith, k.next, k.pace, k.few) };
      fields_there = q.1.fields_there;
      tallies_there = q.1.tallies_there;
      scripted = q.1.scripted;
    }

-- a fork that is made: one whose level is full does nothing, any other runs
module _ {s : List ℕ} {left : ℕ} {f : fork.Fork} (r : Runnable s left f) (w : Words) where
  room_is : (b : Bool) → ltb (get_or w.tallies f.level 0) max_managers ≡ b → (g : Progress) → Represents s g w → ltb (length (tally_at g f.level).ended) max_managers ≡ b
  room_is b e g q = ap (λ n. ltb n max_managers) (sym (q.counted f.level r.placed).count) ∙ e

  pub fork_kept : (w' : Words) (h : Ended) → ltb (get_or w.tallies f.level 0) max_managers ≡ true → RunDone s left f w w' h → ForkDone s left f w w'
  fork_kept w' h room d = (d.0, λ g x q k. rw (room_is true room g q) (d.1 g x q k).0)

  pub fork_dropped : ltb (get_or w.tallies f.level 0) max_managers ≡ false → ForkDone s left f w w
  fork_dropped full = (spared_none s w, λ g x q k. rw (room_is false full g q) q)

-- with no level left there is no run
pub run_none : (s : List ℕ) (left : ℕ) (f : fork.Fork) (w : Words) (h : Ended) → left ≡ 0 → RunDone s left f w w h
unfolding run_fork
run_none s left f w h e = (spared_none s w, λ g x q k. rw e (q, λ z. absurd (omega (arith, z))))

-- the last write stamp of a manager, and the next one's, fit 16 bits
pub last_fits : {s : List ℕ} {m : Manager} → WellFormed s m → m.core.first + m.core.forks + 1 < 2 ^ 16
last_fits h = omega (arith, h.fits, h.forked)

-- what is left of the run, with so many levels left from its fork's own upward: from the words w, with the manager m, it ends as the whole
-- run does
pub record Ahead (s : List ℕ) (left : ℕ) (f : fork.Fork) (m : defined.Manager) (w : Words) (g₀ : Progress) (x : model.Fork) : Type 0 where
  pub now : Progress
  pub represents : Represents s now w
  pub ends : finish (run_fork (left - 1) (program_of s)) (max_script_steps - m.steps) (program_of s) f.level x m now ≡ run_fork left (program_of s) f.level x g₀
  pub own : tally_at now f.level ≡ tally_at g₀ f.level

-- what holds each time round
pub record Looped (s : List ℕ) (left : ℕ) (f : fork.Fork) (w₀ w : Words) (m : Manager) : Type 0 where
  pub held : WellFormed s m
  pub level : m.core.level ≡ f.level
  pub first : m.core.first ≡ get_or w₀.tallies (next_place f.level) 0
  pub spared : Spared s w₀ w
  pub ahead : (g₀ : Progress) (x : model.Fork) → Represents s g₀ w₀ → Same f x → Ahead s left f (manager_of m) w g₀ x

-- each time round but the last makes this less
abbrev pub steps_left : Manager → ℕ
steps_left m = cond (is_running m.core.ending) (max_script_steps + 1 - m.core.steps) 0

steps_less : {s : List ℕ} {m n : Manager} → WellFormed s m → WellFormed s n → is_running m.core.ending ≡ true → m.core.steps < n.core.steps → steps_left n < steps_left m
steps_less {s} {m} {n} h i run more = elim (truth (is_running n.core.ending)) [
  | holds e ↦ rw (run, e) (omega (arith, more, i.made))
  | fails e ↦ rw (run, e) (omega (arith, h.made))
]

-- a step that writes or forks does something
write_something : (ws : List effect.Written) → effect.Write ws ≡ effect.Nothing → ⊥
write_something ws q = let z : ◌≡◌ {A = ℕ} 0 1 = cc in omega (arith, z)

fork_something : (u : ℕ) (x : Message) → effect.Fork u x ≡ effect.Nothing → ⊥
fork_something u x q = let z : ◌≡◌ {A = ℕ} 0 1 = cc in omega (arith, z)

-- the run of a fork that has a level left starts its manager
starts : (p : Program) (left l : ℕ) (x : model.Fork) (g : Progress) → (left ≡ 0 → ⊥) → finish (run_fork (left - 1) p) max_script_steps p l x (started p (field_now p g) l (tally_at g l).next x.message) g ≡ run_fork left p l x g
unfolding run_fork
starts p zero l x g above = absurd (above refl)
starts p (suc left) l x g above =
    let one : suc left - 1 ≡ left = omega arith in
    rw one refl

module _ {s masks index : List ℕ} (a : Tables s masks index) {left : ℕ} {f : fork.Fork} (r : Runnable s left f) (above : left ≡ 0 → ⊥) where
  abbrev p : Program
  p = program_of s

  -- it starts with the methods that the words say
  seen : (g : Progress) {c e t : List ℕ} → RepresentedBy s g c e t → (m : Manager) → StartDone s c t f m → manager_of m ≡ started p (field_now p g) f.level (get_or t (next_place f.level) 0) f.message
  seen g represents m start =
      start.0 (field_now p g) (script_seen_lem a.accepted g represents f.message.object r.present)

  pub run_starts : (w : Words) (m : Manager) → RepresentsSome s w → StartDone s w.current w.tallies f m → Looped s left f w w m
  unfolding manager_of
  run_starts w m q start =
      let next = get_or w.tallies (next_place f.level) 0 in
      let e = seen q.0 q.1 m start in
      let counts = started_counts p (field_now p q.0) f.level next f.message in
      record {
        held = start.1;
        level = ap (λ m. m.level) e ∙ ap (λ c. c.level) counts;
        first = ap (λ m. m.first) e ∙ ap (λ c. c.first) counts;
        spared = spared_none s w;
        ahead = λ g x represents same. record {
          now = g;
          represents = represents;
          ends = ap (λ m. finish (run_fork (left - 1) p) (max_script_steps - m.steps) p f.level x m g) (seen g represents m start)
              ∙ ap (λ n. finish (run_fork (left - 1) p) (max_script_steps - n) p f.level x (started p (field_now p g) f.level next f.message) g) (ap (λ c. c.steps) (started_counts p (field_now p g) f.level next f.message))
              ∙ rw ((represents.counted f.level r.placed).next, sym same.message) (starts p left f.level x g above);
          own = refl;
        };
      }

  module _ {w₀ w : Words} {m : Manager} (l : Looped s left f w₀ w m) (q : RepresentsSome s w₀) where
    -- the words of the manager on its way, and its level's counts, which are those at its start
    here : Ahead s left f (manager_of m) w q.0 (bare f)
    here = l.ahead q.0 (bare f) q.1 (bare_same f)

    pub run_preserves : RepresentsSome s w
    run_preserves = (here.now, here.represents)

    pub run_able : is_running m.core.ending ≡ true → Advanceable s masks index w.current w.current m × ((m.core.steps < max_script_steps) × (max_script_steps ≤ max_script_steps))
    run_able run = (
      record {
        indexed = record { accepted = a.accepted; index_is = a.index_is };
        leveled = record { accepted = a.accepted; masks_are = a.masks_are };
        fields_there = here.represents.fields_there;
        cache_there = here.represents.fields_there;
        current_scripted = here.represents.scripted;
        cache_scripted = here.represents.scripted;
        held = l.held;
        running = run;
      },
      (l.held.few run, omega arith),
    )

    -- script steps up to one that concerns others, or is a CREATE or WITHDRAW
    module _ {n : Manager} (ad : Advanced s w.current w.current true (unchanged w.tallies) max_script_steps m n) where
      leads : (g : Progress) → Represents s g w → Leads p (field_now p g) (manager_of m) (stepped_of n)
      leads g represents = ad.leads (field_now p g) (agrees a.accepted g represents w.current m.core.level)

      pub run_performable : Performable s (left - 1) f n.core.forks n.core.effect
      run_performable =
          let levels : left - 1 + 1 ≡ left = omega (arith, above) in
          record {
            fork = rw levels r;
            present = ad.present;
            forked = ad.held.forked;
            forking = led_forking s a.accepted (field_now p here.now) (manager_of m) n (leads here.now here.represents);
          }

      pub run_again : (w' : Words) → Performed s (left - 1) f n.core.forks n.core.effect w w' → Looped s left f w₀ w' n
      run_again w' done =
          record {
            held = ad.held;
            level = ad.level_is ∙ l.level;
            first = ad.first_is ∙ l.first;
            spared = spared_then s w₀ w w' l.spared done.0;
            ahead = λ g x represents same.
                let b = l.ahead g x represents same in
                let at : (manager_of m).level ≡ f.level = unfold manager_of in l.level in
                let t = led_ends s a.accepted (left - 1) f w w' (manager_of m) n ad.held.made r.placed at done b.now x b.represents same (leads b.now b.represents) in
                record {
                  now = t.0;
                  represents = t.1.0;
                  ends = sym t.1.1.0 ∙ b.ends;
                  own = t.1.1.1 ∙ b.own;
                };
          }

      -- there is at least one, but before a CREATE or WITHDRAW: nothing else is waited for
      asked : (o k : ℕ) → n.core.effect ≡ Read o k → ⊥
      asked o k is =
          let object = ad.held.top.called.0 in
          let small = scripted_small s w.current (few_objects s (accepted s a.accepted).three) here.represents.scripted in
          all_shown s a.accepted w.current w.current (unchanged w.tallies) n.core.level small o k n.core.top.object (next_step p (frame_of n.core.top)) object (next_aimed s a.accepted (frame_of n.core.top))
          ((ad.asks (ap is_asking is)).1 ∙ ap asking is)

      idle : (n.core.effect ≡ Change → ⊥) → n.core.steps < max_script_steps → is_running n.core.ending ≡ true → effect_of n.core.effect ≡ effect.Nothing → (x : Effect) → n.core.effect ≡ x → ⊥
      idle other few run nothing Nothing is = omega (arith, few, ad.at_limit (ap is_nothing is) run)
      idle other few run nothing End is = not_both (is_running n.core.ending) run (ad.over is)
      idle other few run nothing (Write o k v) is = write_something _ (sym (ap effect_of is) ∙ nothing)
      idle other few run nothing (Read o k) is = asked o k is
      idle other few run nothing Change is = other is
      idle other few run nothing (Fork v o b x) is = fork_something v _ (sym (ap effect_of is) ∙ nothing)
      idle other few run nothing (Call o b x) is = not_both (is_done n.core.effect) ad.done (ap is_done is)
      idle other few run nothing (Pop x) is = not_both (is_done n.core.effect) ad.done (ap is_done is)

      made : Steps (manager_of m) (stepped_of n)
      made = leads_steps p (field_now p here.now) (manager_of m) (stepped_of n) (leads here.now here.represents)

      more : is_running m.core.ending ≡ true → (n.core.effect ≡ Change → ⊥) → m.core.steps < n.core.steps
      unfolding manager_of
      more run other = elim made [
        | none e ↦
            let steps : n.core.steps ≡ m.core.steps = ap (λ d. d.manager.steps) e in
            let ending : n.core.ending ≡ m.core.ending = ap (λ d. d.manager.ending) e in
            absurd (idle other (omega (arith, steps, l.held.few run)) (ap is_running ending ∙ run) (ap (λ d. d.effect) e) n.core.effect refl)
        | some less ↦ less
      ]

      pub run_less : is_running m.core.ending ≡ true → (n.core.effect ≡ Change → ⊥) → steps_left n < steps_left m
      run_less run other = steps_less l.held ad.held run (more run other)

      -- a CREATE or WITHDRAW is next
      module _ (is : n.core.effect ≡ Change) where
        asks : (is_running n.core.ending ≡ true) × (pause_of s w.current w.current true (unchanged w.tallies) n.core ≡ change)
        asks = ((ad.asks (ap is_asking is)).0, (ad.asks (ap is_asking is)).1 ∙ ap asking is)

        pub run_changeable : Changeable s masks index w.current n
        run_changeable =
            record {
              indexed = record { accepted = a.accepted; index_is = a.index_is };
              leveled = record { accepted = a.accepted; masks_are = a.masks_are };
              fields_there = here.represents.fields_there;
              scripted = here.represents.scripted;
              held = ad.held;
              running = asks.0;
              next = pause_change s w.current w.current true (unchanged w.tallies) n.core.level n.core.top.object (next_step p (frame_of n.core.top)) asks.1;
            }

        pub run_counted : tally_numbers ≤ length w.tallies
        run_counted = here.represents.tallies_there

        -- so far nothing was done outside
        before : Looped s left f w₀ w n
        before = run_again w (perform_nothing a run_performable w (ap effect_of is))

        module _ {k : Manager} {c' t' : List ℕ} (done : ChangeDone s n k w.current w.tallies c' t') where
          abbrev w' : Words
          w' = record { current = c'; ended = w.ended; tallies = t' }

          pub run_changed : Looped s left f w₀ w' k
          run_changed =
              record {
                held = done.held;
                level = done.level_is ∙ before.level;
                first = done.first_is ∙ before.first;
                spared = spared_then s w₀ w w' before.spared (done.spared w.ended);
                ahead = λ g x represents same.
                    let b = before.ahead g x represents same in
                    let t = change_ends s a.accepted (left - 1) f n k w.ended w.current w.tallies c' t' (ad.held.few asks.0) asks.0 r.placed before.level done b.now x b.represents in
                    record {
                      now = t.0;
                      represents = t.1.0;
                      ends = sym t.1.1.0 ∙ b.ends;
                      own = t.1.1.1 ∙ b.own;
                    };
              }

          one : k.core.steps ≡ n.core.steps + 1
          unfolding manager_of
          one =
              ap (λ m. m.steps) (done.is w.ended here.now here.represents) ∙ step_counted p (field_now p here.now) (manager_of n)

          not_fewer : m.core.steps ≤ n.core.steps
          unfolding manager_of
          not_fewer = elim made [
            | none e ↦ let steps : n.core.steps ≡ m.core.steps = ap (λ d. d.manager.steps) e in omega (arith, steps)
            | some less ↦ omega (arith, less)
          ]

          pub run_changed_less : is_running m.core.ending ≡ true → steps_left k < steps_left m
          run_changed_less run = steps_less l.held done.held run (omega (arith, one, not_fewer))

    -- the end: the history is kept, and the counts grow
    module _ (room : get_or w₀.tallies f.level 0 < max_managers) (over : is_running m.core.ending ≡ false) {h : Ended} (is : h ≡ kept_of m.core f.stamp) where
      -- as many managers of its level have ended as at its start
      few_ended : {g₀ : Progress} {x : model.Fork} → Represents s g₀ w₀ → (b : Ahead s left f (manager_of m) w g₀ x) → length (tally_at b.now f.level).ended < max_managers
      few_ended represents b =
          rw (ap (λ t. t.ended) b.own) (omega (arith, (represents.counted f.level r.placed).count, room))

      pub run_room : HistoryRoom w.ended f.level (get_or w.tallies f.level 0) h × (tally_numbers ≤ length w.tallies)
      run_room =
          let t = here.represents.counted f.level r.placed in (
            record {
              room = here.represents.histories_there;
              level = level_small a f.level r.placed;
              more = omega (arith, t.count, few_ended q.1 here);
              rises = rw (t.count, t.histories) t.rises;
              ended = ap (λ h. is_running h.ending) is ∙ over;
            },
            here.represents.tallies_there,
          )

      pub run_ends : (e' t' : List ℕ) → Closed f.level h w.ended e' w.tallies t' → RunDone s left f w₀ (record { current = w.current; ended = e'; tallies = t' }) h
      unfolding manager_of
      run_ends e' t' done = (
        spared_then s w₀ w _ l.spared (spared_close s w e' t' f.level h r.placed (level_small a f.level r.placed) run_room.0.more done),
        λ g x represents same.
            let n = manager_of m in
            let b = l.ahead g x represents same in
            let at = represents.counted f.level r.placed in
            let run : run_fork left p f.level x g ≡ close f.level x n b.now =
            sym b.ends ∙ finish_over (run_fork (left - 1) p) (max_script_steps - n.steps) p f.level x n b.now over in
            let history_is : history_of h ≡ history.history_of x n = ap history_of is ∙ rw same.stamp refl in
            let more = few_ended represents b in
            let pace : n.stamp ≤ (tally_at b.now f.level).next + max_forks =
            rw (ap (λ t. t.next) b.own) (omega (arith, l.held.forked, l.first, at.next)) in
            let counted : t' ≡ tallied f.level (get_or w.tallies f.level 0 + 1) (n.stamp + 1) w.tallies =
            done.counted ∙ ap (λ h. tallied f.level (get_or w.tallies f.level 0 + 1) (h.last + 1) w.tallies) is in
            rw (run, counted) (
              kept-close s b.now w.current w.ended e' w.tallies b.represents (few s a.accepted) f.level r.placed x n h history_is more done.added pace,
              λ _. ended_own s b.now w.current w.ended e' w.tallies b.represents (few s a.accepted) f.level r.placed x n h history_is more done.added pace
                  ∙ ap (λ t. inserted (λ h. h.stamp) (history_of h) t.ended) b.own,
            ),
      )
