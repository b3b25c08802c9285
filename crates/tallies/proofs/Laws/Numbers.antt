-- What is counted of each level, in numbers: where each count stands, and what changes where one does. Assumes nothing.
use Rattle.std.proofs.Common.{ℕ, ◌+◌, ◌<◌, ◌≡◌, refl, sym, ◌∙◌, ap, subst, Bool, true, false, not, ltb, eqb, List, ◌++◌, length, get_or, set, map, arith}
use Rattle.std.proofs.Math.Seq.{map-set_same}
use Rattle.std.proofs.Math.ListN.{get_or-append}
use Rattle.std.proofs.lemmas.List.{get_or-append-add, get_or-map, length-map, map-set, set-append_left, set-append_right}
use Rattle.session.specs.Limits.{max_levels}
use Rattle.tallies.specs.Places.{next_place, waiting_place, versions_place, busy_place, changes_place, all_changes_place, number_of, numbers_of}
use Rattle.tallies.specs.declared.Tally.{Tally}

module _ (ts : List Tally) (c : Bool) (eight : length ts ≡ max_levels) where
  over : (f : Tally → ℕ) (ys : List ℕ) (j : ℕ) → get_or (map f ts ++ ys) (max_levels + j) 0 ≡ get_or ys j 0
  over f ys j =
      subst (λ n. get_or (map f ts ++ ys) (n + j) 0 ≡ get_or ys j 0) (length-map ts f ∙ eight) (get_or-append-add (map f ts) ys j 0)

  -- a number set in a part, and behind one
  past : (f : Tally → ℕ) (ys : List ℕ) (j y : ℕ) → set (map f ts ++ ys) (max_levels + j) y ≡ map f ts ++ set ys j y
  past f ys j y =
      set-append_right (map f ts) ys max_levels (max_levels + j) y (length-map ts f ∙ eight) (omega arith)
      ∙ ap (λ k. map f ts ++ set ys k y) (omega arith)

  pub all_at : number_of c ≡ get_or (numbers_of ts c) all_changes_place 0
  all_at = sym (over (λ (t : Tally). t.ended) _ 40 ∙ over (λ (t : Tally). t.next) _ 32 ∙ over (λ (t : Tally). t.waiting) _ 24 ∙ over (λ (t : Tally). t.versions) _ 16 ∙ over (λ (t : Tally). number_of t.runs) _ 8 ∙ over (λ (t : Tally). number_of t.changed) _ 0)

  pub all_set : numbers_of ts true ≡ set (numbers_of ts c) all_changes_place 1
  all_set = sym (past (λ (t : Tally). t.ended) _ 40 1 ∙ ap (λ r. map (λ (t : Tally). t.ended) ts ++ r) (past (λ (t : Tally). t.next) _ 32 1 ∙ ap (λ r. map (λ (t : Tally). t.next) ts ++ r) (past (λ (t : Tally). t.waiting) _ 24 1 ∙ ap (λ r. map (λ (t : Tally). t.waiting) ts ++ r) (past (λ (t : Tally). t.versions) _ 16 1 ∙ ap (λ r. map (λ (t : Tally). t.versions) ts ++ r) (past (λ (t : Tally). number_of t.runs) _ 8 1 ∙ ap (λ r. map (λ (t : Tally). number_of t.runs) ts ++ r) (past (λ (t : Tally). number_of t.changed) _ 0 1))))))

  module _ (l : ℕ) (small : l < max_levels) (d : Tally) where
    here : (f : Tally → ℕ) (ys : List ℕ) → get_or (map f ts ++ ys) l 0 ≡ f (get_or ts l d)
    here f ys =
        get_or-append (map f ts) ys 0 l (rw (length-map ts f, eight) small) ∙ get_or-map f ts l d 0 (rw eight small)

    there : (i j : ℕ) → i ≡ j → get_or (numbers_of ts c) i 0 ≡ get_or (numbers_of ts c) j 0
    there i j e = ap (λ k. get_or (numbers_of ts c) k 0) e

    pub ended_at : (get_or ts l d).ended ≡ get_or (numbers_of ts c) l 0
    ended_at = sym (here (λ (t : Tally). t.ended) _)

    pub next_at : (get_or ts l d).next ≡ get_or (numbers_of ts c) (next_place l) 0
    next_at = sym (over (λ (t : Tally). t.ended) _ l ∙ here (λ (t : Tally). t.next) _)

    pub waiting_at : (get_or ts l d).waiting ≡ get_or (numbers_of ts c) (waiting_place l) 0
    waiting_at =
        sym (there (waiting_place l) (max_levels + (max_levels + l)) (omega arith)
        ∙ over (λ (t : Tally). t.ended) _ _ ∙ over (λ (t : Tally). t.next) _ l ∙ here (λ (t : Tally). t.waiting) _)

    pub versions_at : (get_or ts l d).versions ≡ get_or (numbers_of ts c) (versions_place l) 0
    versions_at =
        sym (there (versions_place l) (max_levels + (max_levels + (max_levels + l))) (omega arith)
        ∙ over (λ (t : Tally). t.ended) _ _ ∙ over (λ (t : Tally). t.next) _ _ ∙ over (λ (t : Tally). t.waiting) _ l
        ∙ here (λ (t : Tally). t.versions) _)

    pub busy_at : number_of (get_or ts l d).runs ≡ get_or (numbers_of ts c) (busy_place l) 0
    busy_at =
        sym (there (busy_place l) (max_levels + (max_levels + (max_levels + (max_levels + l)))) (omega arith)
        ∙ over (λ (t : Tally). t.ended) _ _ ∙ over (λ (t : Tally). t.next) _ _ ∙ over (λ (t : Tally). t.waiting) _ _
        ∙ over (λ (t : Tally). t.versions) _ l ∙ here (λ (t : Tally). number_of t.runs) _)

    pub changed_at : number_of (get_or ts l d).changed ≡ get_or (numbers_of ts c) (changes_place l) 0
    changed_at =
        sym (there (changes_place l) (max_levels + (max_levels + (max_levels + (max_levels + (max_levels + l))))) (omega arith)
        ∙ over (λ (t : Tally). t.ended) _ _ ∙ over (λ (t : Tally). t.next) _ _ ∙ over (λ (t : Tally). t.waiting) _ _
        ∙ over (λ (t : Tally). t.versions) _ _ ∙ over (λ (t : Tally). number_of t.runs) _ l
        ∙ here (λ (t : Tally). number_of t.changed) _)

    within : (f : Tally → ℕ) (ys : List ℕ) (y : ℕ) → set (map f ts ++ ys) l y ≡ set (map f ts) l y ++ ys
    within f ys y = set-append_left (map f ts) ys l y (rw (length-map ts f, eight) small)

    moved : (i j y : ℕ) → i ≡ j → set (numbers_of ts c) i y ≡ set (numbers_of ts c) j y
    moved i j y e = ap (λ k. set (numbers_of ts c) k y) e

    same : (f : Tally → ℕ) (y : Tally) → f y ≡ f (get_or ts l d) → map f (set ts l y) ≡ map f ts
    same f y e = map-set_same f ts l y d e

    pub ended_set : (v : ℕ) → numbers_of (set ts l (record (get_or ts l d) { ended = v })) c ≡ set (numbers_of ts c) l v
    ended_set v =
        let y : Tally = record (get_or ts l d) { ended = v } in
        rw (map-set (λ (t : Tally). t.ended) ts l y, same (λ (t : Tally). t.next) y refl, same (λ (t : Tally). t.waiting) y refl, same (λ (t : Tally). t.versions) y refl, same (λ (t : Tally). number_of t.runs) y refl, same (λ (t : Tally). number_of t.changed) y refl)
        (sym (within (λ (t : Tally). t.ended) _ v))

    pub next_set : (v : ℕ) → numbers_of (set ts l (record (get_or ts l d) { next = v })) c ≡ set (numbers_of ts c) (next_place l) v
    next_set v =
        let y : Tally = record (get_or ts l d) { next = v } in
        rw (same (λ (t : Tally). t.ended) y refl, map-set (λ (t : Tally). t.next) ts l y, same (λ (t : Tally). t.waiting) y refl, same (λ (t : Tally). t.versions) y refl, same (λ (t : Tally). number_of t.runs) y refl, same (λ (t : Tally). number_of t.changed) y refl)
        (sym (past (λ (t : Tally). t.ended) _ l v ∙ ap (λ r. map (λ (t : Tally). t.ended) ts ++ r) (within (λ (t : Tally). t.next) _ v)))

    pub waiting_set : (v : ℕ) → numbers_of (set ts l (record (get_or ts l d) { waiting = v })) c ≡ set (numbers_of ts c) (waiting_place l) v
    waiting_set v =
        let y : Tally = record (get_or ts l d) { waiting = v } in
        rw (same (λ (t : Tally). t.ended) y refl, same (λ (t : Tally). t.next) y refl, map-set (λ (t : Tally). t.waiting) ts l y, same (λ (t : Tally). t.versions) y refl, same (λ (t : Tally). number_of t.runs) y refl, same (λ (t : Tally). number_of t.changed) y refl)
        (sym (moved (waiting_place l) (max_levels + (max_levels + l)) v (omega arith) ∙ past (λ (t : Tally). t.ended) _ (max_levels + l) v ∙ ap (λ r. map (λ (t : Tally). t.ended) ts ++ r) (past (λ (t : Tally). t.next) _ l v ∙ ap (λ r. map (λ (t : Tally). t.next) ts ++ r) (within (λ (t : Tally). t.waiting) _ v))))

    pub versions_set : (v : ℕ) → numbers_of (set ts l (record (get_or ts l d) { versions = v })) c ≡ set (numbers_of ts c) (versions_place l) v
    versions_set v =
        let y : Tally = record (get_or ts l d) { versions = v } in
        rw (same (λ (t : Tally). t.ended) y refl, same (λ (t : Tally). t.next) y refl, same (λ (t : Tally). t.waiting) y refl, map-set (λ (t : Tally). t.versions) ts l y, same (λ (t : Tally). number_of t.runs) y refl, same (λ (t : Tally). number_of t.changed) y refl)
        (sym (moved (versions_place l) (max_levels + (max_levels + (max_levels + l))) v (omega arith) ∙ past (λ (t : Tally). t.ended) _ (max_levels + (max_levels + l)) v ∙ ap (λ r. map (λ (t : Tally). t.ended) ts ++ r) (past (λ (t : Tally). t.next) _ (max_levels + l) v ∙ ap (λ r. map (λ (t : Tally). t.next) ts ++ r) (past (λ (t : Tally). t.waiting) _ l v ∙ ap (λ r. map (λ (t : Tally). t.waiting) ts ++ r) (within (λ (t : Tally). t.versions) _ v)))))

    pub busy_set : (v : Bool) → numbers_of (set ts l (record (get_or ts l d) { runs = v })) c ≡ set (numbers_of ts c) (busy_place l) (number_of v)
    busy_set v =
        let y : Tally = record (get_or ts l d) { runs = v } in
        rw (same (λ (t : Tally). t.ended) y refl, same (λ (t : Tally). t.next) y refl, same (λ (t : Tally). t.waiting) y refl, same (λ (t : Tally). t.versions) y refl, map-set (λ (t : Tally). number_of t.runs) ts l y, same (λ (t : Tally). number_of t.changed) y refl)
        (sym (moved (busy_place l) (max_levels + (max_levels + (max_levels + (max_levels + l)))) (number_of v) (omega arith) ∙ past (λ (t : Tally). t.ended) _ (max_levels + (max_levels + (max_levels + l))) (number_of v) ∙ ap (λ r. map (λ (t : Tally). t.ended) ts ++ r) (past (λ (t : Tally). t.next) _ (max_levels + (max_levels + l)) (number_of v) ∙ ap (λ r. map (λ (t : Tally). t.next) ts ++ r) (past (λ (t : Tally). t.waiting) _ (max_levels + l) (number_of v) ∙ ap (λ r. map (λ (t : Tally). t.waiting) ts ++ r) (past (λ (t : Tally). t.versions) _ l (number_of v) ∙ ap (λ r. map (λ (t : Tally). t.versions) ts ++ r) (within (λ (t : Tally). number_of t.runs) _ (number_of v)))))))

    pub changed_set : (v : Bool) → numbers_of (set ts l (record (get_or ts l d) { changed = v })) c ≡ set (numbers_of ts c) (changes_place l) (number_of v)
    changed_set v =
        let y : Tally = record (get_or ts l d) { changed = v } in
        rw (same (λ (t : Tally). t.ended) y refl, same (λ (t : Tally). t.next) y refl, same (λ (t : Tally). t.waiting) y refl, same (λ (t : Tally). t.versions) y refl, same (λ (t : Tally). number_of t.runs) y refl, map-set (λ (t : Tally). number_of t.changed) ts l y)
        (sym (moved (changes_place l) (max_levels + (max_levels + (max_levels + (max_levels + (max_levels + l))))) (number_of v) (omega arith) ∙ past (λ (t : Tally). t.ended) _ (max_levels + (max_levels + (max_levels + (max_levels + l)))) (number_of v) ∙ ap (λ r. map (λ (t : Tally). t.ended) ts ++ r) (past (λ (t : Tally). t.next) _ (max_levels + (max_levels + (max_levels + l))) (number_of v) ∙ ap (λ r. map (λ (t : Tally). t.next) ts ++ r) (past (λ (t : Tally). t.waiting) _ (max_levels + (max_levels + l)) (number_of v) ∙ ap (λ r. map (λ (t : Tally). t.waiting) ts ++ r) (past (λ (t : Tally). t.versions) _ (max_levels + l) (number_of v) ∙ ap (λ r. map (λ (t : Tally). t.versions) ts ++ r) (past (λ (t : Tally). number_of t.runs) _ l (number_of v) ∙ ap (λ r. map (λ (t : Tally). number_of t.runs) ts ++ r) (within (λ (t : Tally). number_of t.changed) _ (number_of v))))))))

-- a flag in a number
pub busy_flag : (b : Bool) → b ≡ ltb 0 (number_of b)
busy_flag true = refl
busy_flag false = refl

pub clear_flag : (b : Bool) → not b ≡ eqb (number_of b) 0
clear_flag true = refl
clear_flag false = refl
