-- The order of the depth-first run is an allowed list of steps that finishes. Where each step is made by the manager of largest stamp, those that
-- have not ended stand in a line of ancestors: no two own disjoint intervals, so none holds another back. Assumes nothing.
use Prim.Native.Nat.{ℕ, zero, suc, ◌+◌, ◌≤◌, ◌<◌}
use mathlib.Core.Path.{◌≡◌, refl, sym, ◌∙◌, ap, subst}
use mathlib.Core.Bool.{true, false, not, ◌||◌}
use mathlib.Core.List.{List, [], ◌∷◌, map}
use native.Mathlib.Decide.{ℕ_discrete, dec_lt}
use native.Mathlib.Omega.{arith}
use borrow.Author.Tests.{leb-true, le-leb}
use lib.Dec.{leb}
use Rattle.lists.proofs.Laws.Range.{not_both, all_each, all-every, first_found, first_passes}
use Rattle.lists.specs.Range.{first}
use Rattle.session.specs.Limits.{max_levels}
use Rattle.session.specs.Program.{Program}
use Rattle.session.specs.declared.Message.{Message}
use Rattle.scripts.proofs.Laws.Effects.{Sound}
use Rattle.model.specs.Limits.{max_schedule}
use Rattle.model.specs.Fork.{Fork, root_fork, child_of}
use Rattle.model.specs.Level.{Activity, idle, busy, Level, is_busy, is_empty, has_manager, forks_by, forks_of}
use Rattle.model.specs.Step.{State, level_at, Arrival, none, at, move_at, step_at}
use Rattle.model.specs.Schedule.{read_in, question15, finished, run_of}
use Rattle.model.specs.Rules.{is_largest, latest, depth_first_order}
use Rattle.lists.specs.Each.{Each, Pairwise}
use Rattle.lists.proofs.Laws.Each.{each_map, each_both, every_is, is_every}
use Rattle.model.proofs.Laws.Stamps.{span_positive}
use Rattle.theorems.proofs.Laws.Invariant.Tree.{Entry, up_to, Related, left, right, over, under, related_sym, forked_from}
use Rattle.theorems.proofs.Laws.Invariant.Forest.{Forest}
use Rattle.theorems.proofs.Laws.Invariant.Entries.{waiting_entry, running_entry, entries_by, entries_of, child_entry}
use Rattle.theorems.proofs.Laws.Invariant.Change.{Change, internal, forks}
use Rattle.theorems.proofs.Laws.Invariant.Forks.{entries_in, step_change}
use Rattle.theorems.proofs.Laws.Invariant.Preserved.{fertile, other_level, first_of}
use Rattle.theorems.proofs.Laws.Invariant.Became.{step_each}
use Rattle.theorems.proofs.Laws.Invariant.State.{StateInvariant}
use Rattle.theorems.proofs.Laws.Steps.May.{MayStep, forks_entries}
use Rattle.theorems.proofs.Laws.Safe.Safe.{head_same, at_fork, at_none}
use Rattle.theorems.proofs.Laws.Safe.Asked.{first_entry}
use Rattle.theorems.proofs.Laws.Order.Orderly.{tail_same}
use Rattle.theorems.proofs.Laws.Order.Chosen.{chosen_finishes}
use Rattle.theorems.proofs.Laws.Order.ReadIn.{read_in_steady, read_in_alone}
use Rattle.theorems.proofs.Laws.Order.PlainRun.{read_in_total}

-- P holds of each manager that has not ended
abbrev AllEntries : Program → State → (Entry → Type 0) → Type 0
AllEntries p st P = (j : ℕ) → j < p.levels → Each P (entries_in st j)

-- the managers that have not ended stand in a line: none's stamp lies behind another's interval
abbrev pub InLine : Program → State → Type 0
InLine p st = AllEntries p st (λ a. AllEntries p st (λ b. b.stamp < up_to a))

-- two managers of one level do not stand in a line
apart : (p : Program) (n : ℕ) (a b : Entry) → a.level ≡ n → b.level ≡ n → b.stamp < up_to a → a.stamp < up_to b → Related p.dom a b → ⊥
apart p n a b al bl f g (left h) = omega (arith, f, h)
apart p n a b al bl f g (right h) = omega (arith, g, h)
apart p n a b al bl f g (over h) = other_level p b.level a.level h.below (al ∙ sym bl)
apart p n a b al bl f g (under h) = other_level p a.level b.level h.below (bl ∙ sym al)

cons_nil : (x : Fork) (xs : List Fork) → x ∷ xs ≡ [] → ⊥
cons_nil x xs q = not_both (is_empty (x ∷ xs)) (ap is_empty q) refl

-- the stamp of a level's first entry is that of its first fork
abbrev head_stamp : List Entry → ℕ
head_stamp [] = 0
head_stamp (e ∷ es) = e.stamp

head_stamp_lem : (j : ℕ) (v : Level) (x : Fork) (xs : List Fork) → forks_of v ≡ x ∷ xs → head_stamp (entries_of j v) ≡ x.stamp
head_stamp_lem j v x xs q = by v.activity v.waiting q
  where
    by : (a : Activity) (ws : List Fork) → forks_by a ws ≡ x ∷ xs → head_stamp (entries_by j a ws) ≡ x.stamp
    by idle ws q = rw q refl
    by (busy y m) ws q = ap (λ z. z.stamp) (head_same y x ws xs q)

-- the manager about to step at level l may, and has the largest stamp of all that have not ended
record MayLatest (p : Program) (st : State) (l : ℕ) : Type 0 where
  may : MayStep p st l
  largest : AllEntries p st (λ b. b.stamp ≤ may.fork.stamp)
  ahead : AllEntries p st (λ e. may.fork.stamp < up_to e)

-- the level of a manager with the largest stamp, among the first n levels
data Largest (st : State) (n : ℕ) : Type 0 where
  nobody : ((j : ℕ) → j < n → forks_of (level_at st j) ≡ []) → Largest st n
  some : (l : ℕ) → l < n → (x : Fork) (xs : List Fork) → forks_of (level_at st l) ≡ x ∷ xs → ((j : ℕ) → j < n → Each (λ y. y.stamp ≤ x.stamp) (forks_of (level_at st j))) → Largest st n

module _ (p : Program) (so : Sound p) (st : State) (i : StateInvariant p st) (line : InLine p st) where
  -- a level has one manager at most
  alone : (n : ℕ) → n < p.levels → (y : Fork) (ys : List Fork) → forks_of (level_at st n) ≡ y ∷ ys → ys ≡ []
  unfolding Each Pairwise
  alone n h y [] q = refl
  alone n h y (z ∷ zs) q =
      absurd (by (level_at st n) q (i.fork_invariant.grown.forest.home n h) (i.fork_invariant.grown.forest.same n h)
      (each_map (λ a. AllEntries p st (λ b. b.stamp < up_to a)) (λ a. Each (λ b. b.stamp < up_to a) (entries_in st n)) (λ a f. f n h) (entries_in st n) (line n h)))
    where
      two : (a b : Entry) (es : List Entry) → Each (λ a. a.level ≡ n) (a ∷ b ∷ es) → Pairwise (Related p.dom) (a ∷ b ∷ es) → Each (λ c. Each (λ d. d.stamp < up_to c) (a ∷ b ∷ es)) (a ∷ b ∷ es) → ⊥
      two a b es f r g = apart p n a b f.0 f.1.0 g.0.1.0 g.1.0.0 r.0.0

      by : (v : Level) → forks_of v ≡ y ∷ z ∷ zs → Each (λ a. a.level ≡ n) (entries_of n v) → Pairwise (Related p.dom) (entries_of n v) → Each (λ a. Each (λ b. b.stamp < up_to a) (entries_of n v)) (entries_of n v) → ⊥
      by v = act v.activity v.waiting
        where
          act : (b : Activity) (ws : List Fork) → forks_by b ws ≡ y ∷ z ∷ zs → Each (λ a. a.level ≡ n) (entries_by n b ws) → Pairwise (Related p.dom) (entries_by n b ws) → Each (λ c. Each (λ d. d.stamp < up_to c) (entries_by n b ws)) (entries_by n b ws) → ⊥
          act idle ws q f r g =
              two (waiting_entry n y) (waiting_entry n z) (map (waiting_entry n) zs) (rw q at f) (rw q at r) (rw q at g)
          act (busy x m) ws q f r g =
              let rest : ws ≡ z ∷ zs = tail_same x y ws (z ∷ zs) q in
              two (running_entry n x m.forks) (waiting_entry n z) (map (waiting_entry n) zs) (rw rest at f) (rw rest at r)
              (subst (λ us. Each (λ c. Each (λ d. d.stamp < up_to c) (entries_by n (busy x m) us)) (entries_by n (busy x m) us)) rest g)

  -- there is a largest stamp
  largest_below : (n : ℕ) → n ≤ p.levels → Largest st n
  unfolding Each
  largest_below zero h = nobody (λ j g. absurd (omega (arith, g)))
  largest_below (suc n) h = by (forks_of (level_at st n)) refl (largest_below n (omega (arith, h)))
    where
      -- a fact of the levels before n and of n
      more : (P : List Fork → Type 0) → ((j : ℕ) → j < n → P (forks_of (level_at st j))) → P (forks_of (level_at st n)) → (j : ℕ) → j < suc n → P (forks_of (level_at st j))
      more P f g j hj = elim (dec_lt j n) [
        | yes k ↦ f j k
        | no k ↦
            let same : j ≡ n = omega (arith, k, hj) in
            rw same g
      ]

      by : (ys : List Fork) → forks_of (level_at st n) ≡ ys → Largest st n → Largest st (suc n)
      by [] q (nobody f) = nobody (more (λ ys. ys ≡ []) f q)
      by [] q (some l hl x xs e f) =
          some l (omega (arith, hl)) x xs e (more (λ ys. Each (λ y. y.stamp ≤ x.stamp) ys) f (rw q tt))
      by (y ∷ ys) q (nobody f) =
          some n (omega arith) y ys q (more (λ zs. Each (λ z. z.stamp ≤ y.stamp) zs) (λ j hj. rw (f j hj) tt) (rw (q, alone n (omega (arith, h)) y ys q) (omega arith, tt)))
      by (y ∷ ys) q (some l hl x xs e f) = elim (dec_lt x.stamp y.stamp) [
        | yes k ↦
            some n (omega arith) y ys q (more (λ zs. Each (λ z. z.stamp ≤ y.stamp) zs)
            (λ j hj. each_map (λ z. z.stamp ≤ x.stamp) (λ z. z.stamp ≤ y.stamp) (λ z g. omega (arith, g, k)) (forks_of (level_at st j)) (f j hj))
            (rw (q, alone n (omega (arith, h)) y ys q) (omega arith, tt)))
        | no k ↦
            some l (omega (arith, hl)) x xs e (more (λ zs. Each (λ z. z.stamp ≤ x.stamp) zs) f (rw (q, alone n (omega (arith, h)) y ys q) (omega (arith, k), tt)))
      ]

  -- while a manager has not ended the one of largest stamp is found
  latest_found : question15 p st ≡ false → latest p st < p.levels
  unfolding latest question15
  latest_found e = by (largest_below p.levels (omega arith))
    where
      unmanaged : (v : Level) → forks_of v ≡ [] → has_manager v ≡ false
      unmanaged v q = no_manager_lem v.activity v.waiting q
        where
          no_manager_lem : (a : Activity) (ws : List Fork) → forks_by a ws ≡ [] → (is_busy a || not (is_empty ws)) ≡ false
          no_manager_lem idle ws q = rw q refl
          no_manager_lem (busy x m) ws q = absurd (cons_nil x ws q)

      by : Largest st p.levels → first p.levels (λ l. is_largest p st (forks_of (level_at st l))) < p.levels
      by (nobody f) =
          absurd (not_both _ (all-every p.levels _ λ j hj. ap not (unmanaged (level_at st j) (f j hj))) e)
      by (some l hl x xs q f) =
          first_found p.levels (λ l. is_largest p st (forks_of (level_at st l))) l hl
          (rw q (all-every p.levels _ λ j hj. is_every (λ y. leb y.stamp x.stamp) (λ y. y.stamp ≤ x.stamp) (λ y g. le-leb y.stamp x.stamp g) (forks_of (level_at st j)) (f j hj)))

  -- and may step, since none holds it back
  latest_may : latest p st < p.levels → MayLatest p st (latest p st)
  unfolding latest
  latest_may h =
      by (forks_of (level_at st (latest p st))) refl (unfold latest in first_passes p.levels (λ l. is_largest p st (forks_of (level_at st l))) (unfold latest in h))
    where
      by : (fs : List Fork) → forks_of (level_at st (latest p st)) ≡ fs → is_largest p st fs ≡ true → MayLatest p st (latest p st)
      by [] q e = absurd (not_both false e refl)
      by (x ∷ xs) q e =
          record {
            may = record {
              present = h;
              fork = x;
              others = xs;
              first = q;
              free = λ j hj d. ahead x xs q j hj;
            };
            largest = λ j hj. forks_entries (λ stamp depth. stamp ≤ x.stamp) j (level_at st j)
                (every_is (λ y. leb y.stamp x.stamp) (λ y. y.stamp ≤ x.stamp) (λ y g. leb-true y.stamp x.stamp g) (forks_of (level_at st j)) (all_each p.levels _ e j hj));
            ahead = ahead x xs q;
          }
        where
          ahead : (x : Fork) (xs : List Fork) → forks_of (level_at st (latest p st)) ≡ x ∷ xs → AllEntries p st (λ e. x.stamp < up_to e)
          ahead x xs q j hj =
              each_map (λ a. AllEntries p st (λ b. b.stamp < up_to a)) (λ a. x.stamp < up_to a)
              (λ a f. let b = first_entry (λ b. b.stamp < up_to a) (latest p st) (level_at st (latest p st)) x xs q (f (latest p st) h) in rw b.stamp at b.holds)
              (entries_in st j) (line j hj)

  -- the step of the manager of largest stamp keeps the line
  module _ (l : ℕ) (m : MayLatest p st l) where
    abbrev h : l < p.levels
    h = m.may.present

    -- an entry whose stamp is not larger, of a manager that is not related by disjoint intervals, has all of a's interval in its own
    inside : (a e : Entry) (s : ℕ) → s < up_to a → e.stamp ≤ a.stamp → a.stamp < up_to e → Related p.dom e a → s < up_to e
    inside a e s g k f (left r) = absurd (omega (arith, f, r))
    inside a e s g k f (right r) = absurd (omega (arith, k, r, span_positive a.depth))
    inside a e s g k f (over r) = omega (arith, g, r.inside)
    inside a e s g k f (under r) = absurd (omega (arith, k, r.before))

    -- the first entry of the level
    record Sender (c : Fork) : Type 0 where
      entry : Entry
      rest : List Entry
      is : entries_in st l ≡ entry ∷ rest
      stamp : entry.stamp ≡ m.may.fork.stamp
      before : entry.stamp < c.stamp
      within : c.stamp < up_to entry

    sender : (u : ℕ) (c : Fork) → (move_at p l st).arrival ≡ at u c → Sender c
    sender u c q = by (step_change p l st so h (i.fork_invariant.placed l h) (i.fork_invariant.positive l h))
      where
        by : {G : List Entry} → Change p l (entries_in st l) G (move_at p l st).arrival → Sender c
        by (internal e r) = absurd (at_none (move_at p l st).arrival u c q e)
        by (forks w y n message W e g r hu s f z) =
            let a = running_entry l y n.forks in
            let fer = fertile p so st i.fork_invariant l h y n.forks W g f in
            let same : c ≡ child_of l y n message = at_fork u w c (child_of l y n message) (sym q ∙ e) in
            let born : c.stamp ≡ a.next = ap (λ e. e.stamp) (ap (waiting_entry u) same ∙ child_entry l u y n message) in
            record {
              entry = a;
              rest = W;
              is = g;
              stamp = ap head_stamp (sym g) ∙ head_stamp_lem l (level_at st l) m.may.fork m.may.others m.may.first;
              before = omega (arith, born, fer.after);
              within = omega (arith, born, fer.room, span_positive (a.depth + 1));
            }

    -- a fork that is made lies in the interval of each manager
    child_inside : (c : Fork) → Sender c → AllEntries p st (λ e. c.stamp < up_to e)
    unfolding Each Pairwise
    child_inside c a j hj = elim (ℕ_discrete j l) [
      | yes q ↦
          rw (q, a.is) (
            a.within,
            held a.rest (rw a.is at (m.largest l h)).1 (rw a.is at (m.ahead l h)).1
                (each_map (Related p.dom a.entry) (λ e. Related p.dom e a.entry) (λ e. related_sym) a.rest (rw a.is at (forest.same l h)).0),
          )
      | no n ↦
          held (entries_in st j) (m.largest j hj) (m.ahead j hj)
          (each_map (λ e. Each (Related p.dom e) (entries_in st l)) (λ e. Related p.dom e a.entry) (λ e r. first_of (Related p.dom e) a.entry a.rest (entries_in st l) a.is r) (entries_in st j) (forest.across j l hj h n))
    ]
      where
        forest : Forest p.levels p.dom (entries_in st)
        forest = i.fork_invariant.grown.forest

        held : (es : List Entry) → Each (λ e. e.stamp ≤ m.may.fork.stamp) es → Each (λ e. m.may.fork.stamp < up_to e) es → Each (λ e. Related p.dom e a.entry) es → Each (λ e. c.stamp < up_to e) es
        held es f g r =
            each_both (λ e. (e.stamp ≤ m.may.fork.stamp) × (m.may.fork.stamp < up_to e)) (λ e. Related p.dom e a.entry) (λ e. c.stamp < up_to e)
            (λ e k r. inside a.entry e c.stamp a.within (rw a.stamp k.0) (rw a.stamp k.1) r) es
            (each_both (λ e. e.stamp ≤ m.may.fork.stamp) (λ e. m.may.fork.stamp < up_to e) _ (λ e x y. (x, y)) es f g) r

    line_kept : InLine p (step_at p l st)
    line_kept = by (move_at p l st).arrival refl
      where
        next : State
        next = step_at p l st

        -- what holds of all before holds of all after, where it holds of the fork that is made
        after : (P : Entry → Type 0) → ((e : Entry) → P e → P (forked_from e)) → AllEntries p st P → ((u : ℕ) (c : Fork) → (move_at p l st).arrival ≡ at u c → P (waiting_entry u c)) → AllEntries p next P
        after P still f made = step_each p so st i.fork_invariant l h P still f made

        by : (b : Arrival) → (move_at p l st).arrival ≡ b → InLine p next
        by none q =
            after (λ a. AllEntries p next (λ b. b.stamp < up_to a)) (λ e f. f)
            (λ j hj. each_map (λ a. AllEntries p st (λ b. b.stamp < up_to a)) (λ a. AllEntries p next (λ b. b.stamp < up_to a))
            (λ a f. after (λ b. b.stamp < up_to a) (λ e g. g) f (λ u c e. absurd (at_none (move_at p l st).arrival u c e q))) (entries_in st j) (line j hj))
            (λ u c e. absurd (at_none (move_at p l st).arrival u c e q))
        by (at u c) q =
            let a = sender u c q in
            after (λ a. AllEntries p next (λ b. b.stamp < up_to a)) (λ e f. f)
            (λ j hj. each_both (λ a. AllEntries p st (λ b. b.stamp < up_to a)) (λ a. c.stamp < up_to a) (λ a. AllEntries p next (λ b. b.stamp < up_to a))
            (λ e f g. after (λ b. b.stamp < up_to e) (λ e g. g) f (λ w d t. same c d (at_fork u w c d (sym q ∙ t)) (up_to e) g)) (entries_in st j) (line j hj) (child_inside c a j hj))
            (λ w d t. after (λ b. b.stamp < up_to (waiting_entry w d)) (λ e g. g)
            (λ j hj. each_map (λ b. b.stamp ≤ m.may.fork.stamp) (λ b. b.stamp < up_to (waiting_entry w d)) (λ b g. omega (arith, g, a.stamp, a.before, ap (λ c. c.stamp) (at_fork u w c d (sym q ∙ t)))) (entries_in st j) (m.largest j hj))
            (λ v f z. omega (arith, ap (λ c. c.stamp) (at_fork w v d f (sym t ∙ z)), span_positive d.depth)))
          where
            same : (c d : Fork) → c ≡ d → (n : ℕ) → c.stamp < n → d.stamp < n
            same c d e n g = rw (sym e) g

-- the session as read in: the root waits alone
module _ (p : Program) (so : Sound p) (few : p.levels ≤ max_levels) (root : Message) where
  read_in_line : InLine p (read_in p root)
  unfolding Each
  read_in_line j hj =
      read_in_alone p so few root (λ es. Each (λ a. AllEntries p (read_in p root) (λ b. b.stamp < up_to a)) es) tt
      (λ l. ((λ k hk. read_in_alone p so few root (λ es. Each (λ b. b.stamp < up_to (waiting_entry l (root_fork p.levels root))) es) tt (λ l. (omega (arith, span_positive 0), tt)) k), tt)) j

  -- the order of the depth-first run is a list that finishes
  pub depth_first_run : (t : State) × (run_of p root (depth_first_order p root) ≡ finished t)
  unfolding run_of depth_first_order
  depth_first_run =
      chosen_finishes p so latest (InLine p) (latest_found p so) (λ st i line h. (latest_may p so st i line h).may) (λ st i line h. line_kept p so st i line (latest p st) (latest_may p so st i line h)) max_schedule 0 (read_in p root) (read_in_steady p so few root) read_in_line (read_in_total p so few root)
