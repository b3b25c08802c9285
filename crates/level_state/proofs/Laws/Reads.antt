-- What the manager that runs at a level reads, from the words: the current field at its level, and below the newest version up to its
-- bound there. Assumes nothing.
use Prim.Native.Nat.{ℕ, ◌^◌, ◌≤◌, ◌<◌}
use mathlib.Core.Path.{◌≡◌, refl, sym, ◌∙◌, ap, ap₂, subst}
use mathlib.Core.Bool.{cond, and-false}
use mathlib.Core.List.{List, [], ◌∷◌}
use native.Mathlib.Decide.{ℕ_discrete}
use native.Mathlib.Omega.{arith}
use borrow.Author.Tests.{eq-eqb, ne_eqb, ltb-true, ltb-false}
use lib.Dec.{eqb, ltb}
use lib.ListN.{get_or}
use Rattle.session.specs.Limits.{max_levels, max_objects, max_numbers}
use Rattle.session.specs.Parts.{level_count}
use Rattle.session.specs.Meaning.{Numbered, level_of}
use Rattle.session.specs.Program.{program_of}
use Rattle.session.specs.Value.{Value}
use Rattle.scripts.specs.Existence.{existence, initially}
use Rattle.scripts.proofs.Laws.Existence.{first_there, first_none}
use Rattle.session.specs.Questions.{verdict_of, Accepted}
use Rattle.session.proofs.Laws.Accepted.{level_present}
use Rattle.lists.proofs.Laws.Lists.{holds, fails, truth}
use Rattle.session.proofs.Laws.Contents.{level_limit, object_limit}
use Rattle.session.proofs.Laws.Numbers.{number_low, number_few}
use Rattle.scripts.specs.Valid.{Each, Leveled}
use Rattle.scripts.specs.State.{Manager}
use Rattle.fields.specs.Fields.{field_at, existence_at_first, FieldThere}
use Rattle.model.specs.Fork.{Fork}
use Rattle.model.specs.History.{History, end_before}
use Rattle.model.specs.Level.{Version, newest, newest_to}
use Rattle.model.specs.Step.{State, level_at, read_bound, read_at}
use Rattle.theorems.proofs.Laws.Steps.Reads.{read_own, read_below}
use Rattle.theorems.proofs.Laws.Code.Reached.{ReachedState}
use Rattle.theorems.proofs.Laws.Code.Needs.{live-ends, live-versions, live-falling}
use Rattle.histories.specs.Histories.{histories_at}
use Rattle.queues.specs.Queue.{There}
use Rattle.versions.specs.Log.{max_versions, log_start, log_of, Within}
use Rattle.versions.specs.Order.{StampsRise}
use Rattle.versions.proofs.Laws.Order.{stamps_rise}
use Rattle.tallies.specs.Places.{versions_place, changes_place}
use Rattle.level_state.specs.Representation.{Words, OfField, LevelRepresents, RunInvariant}
use Rattle.level_state.specs.Steps.{running_fork, BoundReady, bound_in, found_in, ReadIs, Readable, Named}
use Rattle.level_state.proofs.Laws.Step.{invariant_live}

-- the bound at level j of the manager that runs at level l: what its fork carries for j, or an end stamp there
module _ {ended tallies queue : List ℕ} {l j : ℕ} (q : BoundReady ended tallies queue l j) where
  -- a write stamp that it carries is the bound
  pub bound_carried : {c : ℕ} → ((n : ℕ) → j < n → get_or (running_fork n tallies queue l).carried j 0 ≡ c) → (c ≡ 0 → ⊥) → (n : ℕ) → j < n → bound_in n ended tallies queue l j ≡ c
  bound_carried {c = c} carries z n h = rw (carries n h, ne_eqb c 0 z) refl

  -- where it carries none, the end stamp is, and fits 16 bits
  module _ {stamp r : ℕ} (stamped : (n : ℕ) → (running_fork n tallies queue l).stamp ≡ stamp) (is : r ≡ end_before stamp (histories_at ended j (get_or tallies j 0))) where
    pub bound_fits : r < 2 ^ 16
    bound_fits = rw (is, sym (stamped 0)) q.fits

    pub bound_ended : {c : ℕ} → ((n : ℕ) → j < n → get_or (running_fork n tallies queue l).carried j 0 ≡ c) → c ≡ 0 → (n : ℕ) → j < n → bound_in n ended tallies queue l j ≡ r
    bound_ended {c = c} carries z n h = rw (carries n h, eq-eqb c 0 z, stamped n) (sym is)

-- the words represent a state that a run reaches; j is any level
module _ {s masks : List ℕ} (a : Leveled s masks) {w : Words} {ms : ℕ → Manager} {st : State} (y : RunInvariant s w ms st) {j : ℕ} (h : j < level_count s) where
  abbrev level_represents : LevelRepresents (level_count s) w j (ms j) (level_at st j)
  level_represents = y.represents.level j h

  live : ReachedState s st
  live = invariant_live s a.accepted w ms st y

  ended_are : histories_at w.ended j (get_or w.tallies j 0) ≡ (level_at st j).ended
  ended_are = ap (histories_at w.ended j) level_represents.ended_count ∙ level_represents.ended

  versions_are : log_of w.work (log_start j) (get_or w.tallies (versions_place j) 0) ≡ (level_at st j).versions
  versions_are = ap (log_of w.work (log_start j)) level_represents.version_count ∙ level_represents.versions

  -- so the bound is the definition's
  bound_is : (l : ℕ) → bound_in (level_count s) w.ended w.tallies w.queue l j ≡ read_bound (running_fork (level_count s) w.tallies w.queue l) st j
  bound_is l =
      let x = running_fork (level_count s) w.tallies w.queue l in
      ap (λ (hs : List History). cond (eqb (get_or x.carried j 0) 0) (end_before x.stamp hs) (get_or x.carried j 0)) ended_are

  bound_there : {l : ℕ} → There w.queue l (get_or w.tallies l 0) → BoundReady w.ended w.tallies w.queue l j
  bound_there {l} there =
      let small : j < max_levels = omega (arith, h, level_limit s a.accepted) in
      record {
        there = there;
        level = small;
        histories = record { room = y.represents.roomy.ended; level = small; count = y.represents.counts_few j small; rises = rw ended_are level_represents.ended_rises };
        counted = y.represents.roomy.tallies;
        fits = rw ended_are (live-ends s a.accepted st live j h (running_fork 0 w.tallies w.queue l).stamp);
      }

  versions_there : (k : ℕ) → k ≤ existence → Within w.work j (get_or w.tallies (versions_place j) 0) k
  versions_there k hk =
      record {
        level_present = omega (arith, h, level_limit s a.accepted);
        fits = omega (arith, level_represents.version_count, live-versions s a.accepted st live j h);
        field_fits = hk;
        long = y.represents.roomy.work;
      }

  versions_rise : StampsRise w.work (log_start j) (get_or w.tallies (versions_place j) 0)
  versions_rise =
      stamps_rise w.work (log_start j) (get_or w.tallies (versions_place j) 0) (rw versions_are (live-falling s a.accepted st live j h))

-- what is read at another level is what the words say
module _ {s masks : List ℕ} (a : Leveled s masks) {w : Words} {ms : ℕ → Manager} {st : State} (y : RunInvariant s w ms st) (o : ℕ) where
  pub found_in_lem : (l k : ℕ) → (level_of s o ≡ l → ⊥) → read_at (program_of s) st l (running_fork (level_count s) w.tallies w.queue l) o k ≡ found_in s w l o k
  unfolding program_of
  found_in_lem l k apart =
      let h = level_present s a.accepted o in
      read_below (program_of s) st l (running_fork (level_count s) w.tallies w.queue l) o k apart
      ∙ ap₂ (λ (v : ℕ) (vs : List Version). newest_to v (initially (program_of s) o k) o k vs) (sym (bound_is a y h l)) (sym (versions_are a y h))

  -- a level has no more versions than its log has room for
  pub read_few : get_or w.tallies (versions_place (level_of s o)) 0 ≤ max_versions
  read_few =
      let h = level_present s a.accepted o in
      (versions_there a y h 0 (omega arith)).fits

-- at its level a manager reads what is current
pub read_here : {s : List ℕ} {w : Words} {l : ℕ} {ms : ℕ → Manager} {st : State} → RunInvariant s w ms st → (x : Fork) (o k : ℕ) → o < max_numbers → k ≤ existence → level_of s o ≡ l → read_at (program_of s) st l x o k ≡ field_at w.current o k
unfolding program_of
read_here {s} {w} {l} {ms} {st} y x o k ho hk e = read_own (program_of s) st l x o k e ∙ sym (y.represents.field o k ho hk)

-- where every version is of a field, existence is what it was at first
none_newest : (i : Value) (o : ℕ) (vs : List Version) → Each OfField vs → newest i o existence vs ≡ i
unfolding newest
none_newest i o [] e = refl
none_newest i o (w ∷ ws) e =
    rw (ne_eqb w.field existence (λ z. omega (arith, z, e.0)), and-false (eqb w.object o)) (none_newest i o ws e.1)

none_newest_to : (v : ℕ) (i : Value) (o : ℕ) (vs : List Version) → Each OfField vs → newest_to v i o existence vs ≡ i
unfolding newest_to
none_newest_to v i o [] e = refl
none_newest_to v i o (w ∷ ws) e =
    rw (ne_eqb w.field existence (λ z. omega (arith, z, e.0)), and-false (eqb w.object o)) (none_newest_to v i o ws e.1)

pub read_first : (s : List ℕ) (st : State) (l : ℕ) (x : Fork) (o : ℕ) → Each OfField (level_at st (level_of s o)).versions → read_at (program_of s) st l x o existence ≡ initially (program_of s) o existence
unfolding program_of
read_first s st l x o none = elim (ℕ_discrete (level_of s o) l) [
  | yes e ↦ read_own (program_of s) st l x o existence e ∙ none_newest (initially (program_of s) o existence) o _ none
  | no n ↦ read_below (program_of s) st l x o existence n ∙ none_newest_to _ (initially (program_of s) o existence) o _ none
]

-- existence at first
pub first-existence : (s : List ℕ) → verdict_of s ≡ Accepted → (o : ℕ) → Numbered s o → existence_at_first o ≡ initially (program_of s) o existence
first-existence s a o h = elim (truth (ltb o max_objects)) [
  | holds e ↦ rw e (sym (first_there s o (number_low s a o h (ltb-true o max_objects e))))
  | fails e ↦ rw e (sym (first_none s o existence (omega (arith, ltb-false o max_objects e, object_limit s a))))
]

-- a read of field k of object o, which lies at level j
module _ {s masks : List ℕ} (a : Leveled s masks) {w : Words} {l : ℕ} (q : Readable s w l) {o k : ℕ} (here : Named s o k) {j : ℕ} (lies : j ≡ level_of s o) where
  placed : j < level_count s
  placed = rw lies (level_present s a.accepted o)

  small : o < max_numbers
  small = number_few s a.accepted o here.number

  -- the words that are read are there
  pub read_there : FieldThere w.current o k
  read_there = record { room = q.invariant.represents.roomy.current; object = small; field = omega (arith, here.field) }

  pub bound_ready : BoundReady w.ended w.tallies w.queue l j
  bound_ready = bound_there a q.invariant placed q.there

  -- and the versions are in order of write stamp
  pub versions_ready : Within w.work j (get_or w.tallies (versions_place j) 0) k × StampsRise w.work (log_start j) (get_or w.tallies (versions_place j) 0)
  versions_ready = (versions_there a q.invariant placed k here.field, versions_rise a q.invariant placed)

  -- at the manager's level it is what is current
  pub read_current : {r : Value} → j ≡ l → r ≡ field_at w.current o k → ReadIs s w l o k r
  read_current e is ms st y =
      read_here y (running_fork (level_count s) w.tallies w.queue l) o k small here.field (sym lies ∙ e) ∙ sym is

  -- below, the newest version up to the bound
  pub read_version : {bound : ℕ} {initial r : Value} → (j ≡ l → ⊥) → ((n : ℕ) → j < n → bound_in n w.ended w.tallies w.queue l j ≡ bound) → initial ≡ initially (program_of s) o k → r ≡ newest_to bound initial o k (log_of w.work (log_start j) (get_or w.tallies (versions_place j) 0)) → ReadIs s w l o k r
  unfolding program_of
  read_version {bound = bound} n e first is ms st y =
      let x = running_fork (level_count s) w.tallies w.queue l in
      read_below (program_of s) st l x o k (λ z. n (lies ∙ z))
      ∙ ap (λ i. newest_to (read_bound x st i) (initially (program_of s) o k) o k (level_at st i).versions) (sym lies)
      ∙ ap₂ (λ (v : ℕ) (vs : List Version). newest_to v (initially (program_of s) o k) o k vs) (sym (bound_is a y placed l) ∙ e (level_count s) placed) (sym (versions_are a y placed))
      ∙ ap (λ i. newest_to bound i o k (log_of w.work (log_start j) (get_or w.tallies (versions_place j) 0))) (sym first)
      ∙ sym is

-- existence is current where none was written at the object's level
module _ {s masks : List ℕ} (a : Leveled s masks) {w : Words} {l : ℕ} (q : Readable s w l) {o : ℕ} {j : ℕ} (here : Named s o existence) (lies : j ≡ level_of s o) where
  pub existence-current : {r : Value} → get_or w.tallies (changes_place j) 0 ≡ 0 → r ≡ field_at w.current o existence → ReadIs s w l o existence r
  unfolding program_of
  existence-current z is ms st y =
      let none = subst (λ j. Each OfField (level_at st j).versions) lies ((y.represents.level j (rw lies (level_present s a.accepted o))).unchanged_own z) in
      read_first s st l (running_fork (level_count s) w.tallies w.queue l) o none
      ∙ sym (none_newest (initially (program_of s) o existence) o _ none)
      ∙ sym (y.represents.field o existence (number_few s a.accepted o here.number) (omega arith))
      ∙ sym is
