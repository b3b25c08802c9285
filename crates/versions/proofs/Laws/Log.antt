-- Laws of logs: an empty one, one with a version more, and one that no change reaches. Assumes nothing.
use Rattle.std.proofs.Common.{◌≡◌, ℕ, zero, suc, ◌+◌, ◌*◌, ◌^◌, ◌<◌, ◌≤◌, List, [], ◌∷◌, length, get_or, set, refl, ap, ◌∙◌, ap₂, add-one, arith, length-set, get_or-set_other, get_or-set_same}
use native.Mathlib.Decide.{dec_lt}
use Rattle.lists.specs.Outside.{Outside}
use Rattle.lists.proofs.Laws.Outside.{outside_none, outside_set, outside_rest}
use Rattle.model.specs.Limits.{work_numbers}
use Rattle.model.specs.Level.{Version}
use Rattle.versions.specs.Log.{max_versions, log_start, first_of, second_of, version_of, version_at, log_of, Within}
use Rattle.versions.specs.Changes.{stored, Appended}
use Rattle.versions.proofs.Laws.Packing.{version_back}

pub log_none : (w : List ℕ) (start : ℕ) → log_of w start 0 ≡ []
unfolding log_of
log_none w start = refl

pub log_more : (w : List ℕ) (start n : ℕ) → log_of w start (n + 1) ≡ version_at w (start + 2 * n) ∷ log_of w start n
unfolding log_of
log_more w start n = ap (log_of w start) (add-one n)

-- a log whose numbers are the same
pub log_same : (v w : List ℕ) (start n : ℕ) → ((i : ℕ) → start ≤ i → i < start + 2 * n → get_or w i 0 ≡ get_or v i 0) → log_of w start n ≡ log_of v start n
unfolding log_of
log_same v w start zero f = refl
log_same v w start (suc n) f =
    ap₂ ◌∷◌
    (ap₂ version_of (f (start + 2 * n) (omega arith) (omega arith)) (f (start + 2 * n + 1) (omega arith) (omega arith)))
    (log_same v w start n (λ i h l. f i h (omega arith)))

-- a change behind a log, and one before it
pub log_before : {v w : List ℕ} {a e : ℕ} (start n : ℕ) → start + 2 * n ≤ a → Outside v w a e → log_of w start n ≡ log_of v start n
log_before {v} {w} start n h p = log_same v w start n (λ i g l. p.below i (omega arith))

pub log_after : {v w : List ℕ} {a e : ℕ} (start n : ℕ) → e ≤ start → Outside v w a e → log_of w start n ≡ log_of v start n
log_after {v} {w} start n h p = log_same v w start n (λ i g l. p.above i (omega arith))

-- a change within the log of one level, for the others
pub log_others : {v w : List ℕ} {a e : ℕ} (level k m : ℕ) → log_start level ≤ a → e ≤ log_start (level + 1) → (k ≡ level → ⊥) → m ≤ max_versions
    → Outside v w a e → log_of w (log_start k) m ≡ log_of v (log_start k) m
log_others level k m h l n g p = elim (dec_lt k level) [
  | yes d ↦ log_before (log_start k) m (omega arith) p
  | no d ↦ log_after (log_start k) m (omega arith) p
]

-- the numbers of a version, stored behind a log
pub appended : (w : List ℕ) (level n : ℕ) (v : Version) (p q : ℕ) → Within w level (n + 1) v.field → v.stamp < 2 ^ 16
    → p ≡ first_of v → q ≡ second_of v → Appended w (stored w (log_start level + 2 * n) p q) level n v
appended w level n v p q h s f g =
    let at = log_start level + 2 * n in
    let one = set w at p in
    let two = set one (at + 1) q in
    let there : at < length w = omega arith in
    let next : at + 1 < length one = rw length-set (omega arith) in
    let out : Outside w two at (at + 2) =
    outside_set w one at (at + 2) (at + 1) q (omega arith) (omega arith)
    (outside_set w w at (at + 2) at p (omega arith) (omega arith) (outside_none w at (at + 2))) in
    let first : get_or two at 0 ≡ p = get_or-set_other one (at + 1) at q 0 (λ z. omega arith) ∙ get_or-set_same w at p 0 there in
    let second : get_or two (at + 1) 0 ≡ q = get_or-set_same one (at + 1) q 0 next in
    let back : version_of p q ≡ v = ap₂ version_of f g ∙ version_back v s (omega arith) in
    record {
      numbers = ap₂ (stored w at) f g;
      log = log_more two (log_start level) n ∙ ap₂ ◌∷◌ (ap₂ version_of first second ∙ back) (log_before (log_start level) n (omega arith) out);
      others = λ k m z l. log_others level k m (omega arith) (omega arith) z l out;
      rest = outside_rest work_numbers (omega arith) out;
      outside = out;
    }
