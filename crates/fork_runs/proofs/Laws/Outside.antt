-- What the effect of a script step leaves as it was: how many managers have ended at its level, that one runs there, and what is read at other
-- levels. Assumes nothing.
use Prim.Native.Nat.{ℕ, ◌≤◌, ◌<◌}
use mathlib.Core.Path.{◌≡◌, refl, ◌∙◌, ap}
use mathlib.Core.Bool.{Bool, true, false, cond}
use mathlib.Core.List.{List, [], ◌∷◌}
use native.Mathlib.Omega.{arith}
use lib.ListN.{get_or}
use lib.Seq.{get_or-set_other}
use Rattle.session.specs.Limits.{max_levels}
use Rattle.session.specs.Meaning.{level_of}
use Rattle.session.specs.Questions.{verdict_of, Accepted}
use Rattle.session.specs.declared.Message.{Message}
use Rattle.session.proofs.Laws.Accepted.{level_present}
use Rattle.session.proofs.Laws.Contents.{level_limit}
use Rattle.scripts.specs.Effect.{Written, Effect}
use Rattle.scripts.specs.Effect as effect
use Rattle.versions.specs.Log.{max_versions}
use Rattle.tallies.specs.Places.{waiting_place, versions_place, busy_place, changes_place, all_changes_place, changed}
use Rattle.tallies.proofs.Laws.Changed.{changed_other}
use Rattle.level_state.specs.Representation.{Words}
use Rattle.level_state.specs.Steps.{found_in, touches, Parts, WroteAll, noted, EffectReady, EffectDone}
use Rattle.level_state.proofs.Laws.Recall.{write_known_read, fork_known_read, counts_known_read}

-- the words after what was done outside a manager
abbrev pub with_parts : Words → Parts → Words
with_parts w q =
    record { current = q.current; ended = w.ended; tallies = q.tallies; queue = q.queue; work = q.work }

-- writes count versions of their level, and nothing else
writes_count : (a b : Parts) (l stamp : ℕ) (ws : List Written) → WroteAll a b l stamp ws → (i : ℕ) → (i ≡ versions_place l → ⊥) → get_or b.tallies i 0 ≡ get_or a.tallies i 0
writes_count a b l stamp [] d i z = ap (λ q. get_or q.tallies i 0) d
writes_count a b l stamp (w ∷ ws) (m, (all, (d, e))) i z =
    ap (λ t. get_or t i 0) d.count
    ∙ get_or-set_other m.tallies (versions_place l) i _ 0 z
    ∙ writes_count a m l stamp ws all i z

-- a note that existence is written changes no count
noted_count : (a : Parts) (l : ℕ) (ws : List Written) (i : ℕ) → (i ≡ changes_place l → ⊥) → (i ≡ all_changes_place → ⊥) → get_or (noted a l ws).tallies i 0 ≡ get_or a.tallies i 0
noted_count a l ws i y z = by (touches ws)
  where
    by : (x : Bool) → get_or (cond x (changed l a.tallies) a.tallies) i 0 ≡ get_or a.tallies i 0
    by true = changed_other l a.tallies i y z
    by false = refl

module _ (a b : Parts) (l stamp forks : ℕ) (h : l < max_levels) where
  -- how many managers have ended
  pub effect_count : (e : Effect) → EffectDone a b l stamp forks e → get_or b.tallies l 0 ≡ get_or a.tallies l 0
  effect_count effect.Nothing d = ap (λ q. get_or q.tallies l 0) d
  effect_count (effect.Write ws) d =
      writes_count (noted a l ws) b l stamp ws d l (λ e. omega (arith, e, h))
      ∙ noted_count a l ws l (λ e. omega (arith, e, h)) (λ e. omega (arith, e, h))
  effect_count (effect.Fork u message) (d, _) =
      ap (λ t. get_or t l 0) d.tallies_are ∙ get_or-set_other a.tallies (waiting_place u) l _ 0 (λ e. omega (arith, e, h))

  -- that one runs
  pub effect_busy : (e : Effect) → EffectReady a.current a.tallies a.queue a.work l forks e → EffectDone a b l stamp forks e → get_or b.tallies (busy_place l) 0 ≡ get_or a.tallies (busy_place l) 0
  effect_busy effect.Nothing ready d = ap (λ q. get_or q.tallies (busy_place l) 0) d
  effect_busy (effect.Write ws) ready d =
      writes_count (noted a l ws) b l stamp ws d (busy_place l) (λ e. omega (arith, e, h))
      ∙ noted_count a l ws (busy_place l) (λ e. omega (arith, e, h)) (λ e. omega (arith, e, h))
  effect_busy (effect.Fork u message) ready (d, _) =
      let low = ready.room.level in
      ap (λ t. get_or t (busy_place l) 0) d.tallies_are ∙ get_or-set_other a.tallies (waiting_place u) (busy_place l) _ 0 (λ e. omega (arith, e, h, low))

-- value k of object o is read at another level than that of the manager, l
module _ (s : List ℕ) (acc : verdict_of s ≡ Accepted) (w : Words) (l : ℕ) (h : l < max_levels) (o k : ℕ) (apart : level_of s o ≡ l → ⊥) where
  low : level_of s o < max_levels
  low = omega (arith, level_present s acc o, level_limit s acc)

  -- what it writes is of its own level
  writes_found : (a b : Parts) (stamp : ℕ) (ws : List Written) → get_or a.tallies (versions_place (level_of s o)) 0 ≤ max_versions → WroteAll a b l stamp ws → found_in s (with_parts w b) l o k ≡ found_in s (with_parts w a) l o k
  writes_found a b stamp [] few d = ap (λ q. found_in s (with_parts w q) l o k) d
  writes_found a b stamp (x ∷ ws) few (m, (all, (d, e))) =
      let same = writes_count a m l stamp ws all (versions_place (level_of s o)) (λ z. apart (omega (arith, z))) in
      ap (λ q. found_in s (record { current = b.current; ended = w.ended; tallies = b.tallies; queue = q; work = b.work }) l o k) e
      ∙ write_known_read s (with_parts w m) l h o k low apart b.current b.tallies b.work stamp x.object x.field x.value d (rw same few)
      ∙ writes_found a m stamp ws few all

  noted_found : (a : Parts) (ws : List Written) → found_in s (with_parts w (noted a l ws)) l o k ≡ found_in s (with_parts w a) l o k
  noted_found a ws =
      counts_known_read s (with_parts w a) l h o k low apart (noted a l ws).tallies
      (noted_count a l ws l (λ e. omega (arith, e, h)) (λ e. omega (arith, e, h)))
      (noted_count a l ws (level_of s o) (λ e. omega (arith, e, h, low)) (λ e. omega (arith, e, low)))
      (noted_count a l ws (versions_place (level_of s o)) (λ e. omega (arith, e, h, low)) (λ e. omega (arith, e, low)))

  -- and it forks at others, upward: what it reads elsewhere stays
  pub effect_found : (a b : Parts) (stamp forks : ℕ) (e : Effect) → get_or a.tallies (versions_place (level_of s o)) 0 ≤ max_versions → EffectReady a.current a.tallies a.queue a.work l forks e → ((u : ℕ) (message : Message) → e ≡ effect.Fork u message → l ≡ u → ⊥) → EffectDone a b l stamp forks e → found_in s (with_parts w b) l o k ≡ found_in s (with_parts w a) l o k
  effect_found a b stamp forks effect.Nothing few ready up d = ap (λ q. found_in s (with_parts w q) l o k) d
  effect_found a b stamp forks (effect.Write ws) few ready up d =
      let same = noted_count a l ws (versions_place (level_of s o)) (λ e. omega (arith, e, h, low)) (λ e. omega (arith, e, low)) in
      writes_found (noted a l ws) b stamp ws (rw same few) d ∙ noted_found a ws
  effect_found a b stamp forks (effect.Fork u message) few ready up (d, (e, e')) =
      ap (λ c. found_in s (record { current = c; ended = w.ended; tallies = b.tallies; queue = b.queue; work = b.work }) l o k) e
      ∙ ap (λ v. found_in s (record { current = a.current; ended = w.ended; tallies = b.tallies; queue = b.queue; work = v }) l o k) e'
      ∙ fork_known_read s (with_parts w a) l h o k low apart b.tallies b.queue stamp forks u message d ready.room.level (up u message refl) ready.there.placed
