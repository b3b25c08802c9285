-- Ancestors in the tree of forks: the statements of specs/Ancestors.antt, proved, and computed cases. Assumes nothing.
use Prim.Native.Nat.{ℕ, ◌+◌, ◌<◌}
use mathlib.Core.Path.{◌≡◌, refl, sym}
use mathlib.Core.Bool.{true, false}
use mathlib.Core.List.{List, [], ◌∷◌}
use native.Mathlib.Omega.{arith}
use lib.ListN.{length}
use Rattle.session.specs.Questions.{verdict_of, Accepted}
use Rattle.session.specs.Meaning.{root_of}
use Rattle.session.specs.Program.{program_of}
use Rattle.session.proofs.Laws.Numbering.{few_levels}
use Rattle.session.proofs.Laws.Verdict.{accepted}
use Rattle.model.specs.Fork.{Fork}
use Rattle.model.specs.Level.{forks_of}
use Rattle.model.specs.Step.{State, level_at, step_at}
use Rattle.model.specs.Schedule.{read_in, question14, Leads}
use Rattle.theorems.specs.Ancestors.{stamp_along, is_child, goes_on, EachWay, WaysGrow, WaysFromRoot, AncestorsOnTheWay}
use Rattle.lists.specs.Each.{Each}
use Rattle.theorems.proofs.Laws.Invariant.Ways.{ancestor_along, HasWay, root_way, child_way, step_ways}
use Rattle.theorems.proofs.Laws.Order.Accepted.{sound}
use Rattle.theorems.proofs.Laws.Deep.Root.{each_level}
use Rattle.theorems.proofs.Laws.Code.Reached.{ReachedState, present, live_start, live_step}
use Rattle.theorems.proofs.Laws.Code.Progress.{allowed}

module _ (s : List ℕ) (a : verdict_of s ≡ Accepted) where
  -- each manager of the state has a way
  abbrev Led : State → Type 0
  Led st = (l : ℕ) → l < (program_of s).levels → Each HasWay (forks_of (level_at st l))

  led_start : Led (read_in (program_of s) (root_of s))
  led_start l h =
      each_level (program_of s) (sound s a) (unfold program_of in few_levels s (accepted s a).three) (root_of s) (λ v. Each HasWay (forks_of v))
      (unfold Each in (([], root_way (program_of s).levels (root_of s)), tt)) (unfold Each in tt) l

  leads_led : (st : State) (ls : List ℕ) (t : State) → ReachedState s st → Led st → Leads (program_of s) st ls t → Led t
  unfolding Leads
  leads_led st [] t i w b = rw (sym b) w
  leads_led st (l ∷ ls) t i w b =
      let h = (allowed question14 (program_of s) st l b.0).0 in
      leads_led (step_at (program_of s) l st) ls t (live_step s a st i l (unfold program_of in h) b.0)
      (step_ways (program_of s) (sound s a) st i.reachable.steady.fork_invariant w l h) b.1

each_way : (xs : List Fork) → Each HasWay xs → EachWay xs
unfolding Each
each_way [] e = tt
each_way (x ∷ xs) e = (e.0, each_way xs e.1)

pub ways_grow : WaysGrow
ways_grow = record { root = root_way; child = child_way }

pub ways_from_root : WaysFromRoot
ways_from_root s a ls st b l h =
    each_way (forks_of (level_at st l)) (leads_led s a (read_in (program_of s) (root_of s)) ls st (live_start s a) (led_start s a) b l (present s l h))

pub ancestors_on_the_way : AncestorsOnTheWay
ancestors_on_the_way y x ks hs v w =
    let deep : y.depth ≡ 0 + length ks = omega (arith, v.depth) in
    rw (v.stamp, deep, w.stamp) (ancestor_along 0 0 ks hs (omega (arith, v.short)) (omega (arith, w.short)) v.children w.children)

pub record Ways : Type 0 where
  -- a child's number
  none_0 : is_child 0 ≡ false
  first : is_child 1 ≡ true
  last : is_child 15 ≡ true
  none_16 : is_child 16 ≡ false
  -- the root; its child 2, and that one's child 1 (document 01: M12); eight forks deep
  root_stamp : stamp_along 0 0 [] ≡ 0x00000000
  child_stamp_lem : stamp_along 0 0 (2 ∷ []) ≡ 0x20000000
  grandchild_stamp : stamp_along 0 0 (2 ∷ 1 ∷ []) ≡ 0x21000000
  deepest_stamp : stamp_along 0 0 (1 ∷ 2 ∷ 3 ∷ 4 ∷ 5 ∷ 6 ∷ 7 ∷ 15 ∷ []) ≡ 0x1234567F
  -- the root, the parent and the grandparent are ancestors
  root : goes_on [] (2 ∷ []) ≡ true
  parent : goes_on (2 ∷ []) (2 ∷ 1 ∷ []) ≡ true
  grandparent : goes_on (2 ∷ []) (2 ∷ 1 ∷ 3 ∷ []) ≡ true
  -- nobody is its own, nor a child its parent's
  root_itself : goes_on [] [] ≡ false
  itself : goes_on (2 ∷ 1 ∷ []) (2 ∷ 1 ∷ []) ≡ false
  child : goes_on (2 ∷ 1 ∷ []) (2 ∷ []) ≡ false
  -- nor is one whose way leaves at its last child, or at its first
  last_apart : goes_on (2 ∷ 1 ∷ []) (2 ∷ 2 ∷ 1 ∷ []) ≡ false
  first_apart : goes_on (1 ∷ 1 ∷ []) (2 ∷ 1 ∷ 1 ∷ []) ≡ false

pub ways : Ways
unfolding stamp_along goes_on
ways =
    record {
      none_0 = refl;
      first = refl;
      last = refl;
      none_16 = refl;
      root_stamp = refl;
      child_stamp_lem = refl;
      grandchild_stamp = refl;
      deepest_stamp = refl;
      root = refl;
      parent = refl;
      grandparent = refl;
      root_itself = refl;
      itself = refl;
      child = refl;
      last_apart = refl;
      first_apart = refl;
    }
