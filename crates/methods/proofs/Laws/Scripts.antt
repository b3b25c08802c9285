-- Laws of scripts: the steps of a method stand together, and how many they are. Assumes nothing.
use Prim.Native.Nat.{ℕ, suc, ◌+◌, ◌-◌, ◌≤◌, ◌<◌}
use mathlib.Core.Path.{◌≡◌, sym, ◌∙◌, ap}
use mathlib.Core.Bool.{Bool, true, false, not, ◌&&◌}
use mathlib.Core.List.{List, []}
use native.Mathlib.Nat.{le_trans, le_of_lt, le_of_eq}
use native.Mathlib.Decide.{dec_lt}
use native.Mathlib.Omega.{arith}
use borrow.Author.Tests.{leb-true, le-leb, ltb-true, lt-ltb, eqb-true, eqb-false, eq-eqb, ne_eqb, not-true, not-false}
use lib.Arith.{lt_of_le-ne}
use lib.Dec.{eqb, leb, ltb}
use lib.ListN.{length, get_or}
use Rattle.std.proofs.Common.{Option, Some, None}
use Rattle.std.specs.Option.{MatchOption, unwrap_or}
use Rattle.lists.specs.Range.{all, first}
use Rattle.lists.proofs.Laws.Range.{and_left, and_right, and_both, refuted, not_both, all_each, all-every, first_le, first_passes, first_before, first_at_lem, first_none}
use Rattle.session.specs.Limits.{max_method}
use Rattle.lists.specs.Lists.{rising_from}
use Rattle.session.specs.Record.{Record, record_at, records_from}
use Rattle.session.specs.Parts.{key_of, of_method}
use Rattle.session.specs.Questions.{step_valid, script_valid, methods_valid, scripts_valid}
use Rattle.session.proofs.Laws.Parts.{key_at}
use Rattle.methods.specs.Methods.{method_end}
use Rattle.session.proofs.Laws.Record.{from-length, from_at, from_is}
use Rattle.lists.proofs.Laws.Lists.{every_each, every-all}
use Rattle.lists.proofs.Laws.Rising.{less, same, more, order, rising_le, rising_all, run_length}

-- `method_end`: made by a search from the next record on
module _ (s : List ℕ) (r e : ℕ) (h : r < e) where
  abbrev other : ℕ → Bool
  other i = not (eqb (key_at s (suc r + i)) (key_at s r))

  is_other : (i : ℕ) → (key_at s (suc r + i) ≡ key_at s r → ⊥) → other i ≡ true
  is_other i n = ap not (ne_eqb (key_at s (suc r + i)) (key_at s r) n)

  not_other : (i : ℕ) → key_at s (suc r + i) ≡ key_at s r → other i ≡ false
  not_other i q = ap not (eq-eqb (key_at s (suc r + i)) (key_at s r) q)

  end_at : (i : ℕ) → suc r ≤ i → i < e → (key_at s i ≡ key_at s r → ⊥) → ((j : ℕ) → suc r ≤ j → j < i → key_at s j ≡ key_at s r) → i ≡ method_end s r e
  unfolding method_end
  end_at i l m n f =
      let z : suc r + (i - suc r) ≡ i = omega arith in
      let found : first (e - suc r) other ≡ i - suc r =
      first_at_lem (e - suc r) other (i - suc r) (omega arith) (is_other (i - suc r) (rw z n))
      (λ k g. not_other k (f (suc r + k) (omega arith) (omega arith))) in
      omega arith

  end_none : ((j : ℕ) → suc r ≤ j → j < e → key_at s j ≡ key_at s r) → e ≡ method_end s r e
  unfolding method_end
  end_none f =
      let found : first (e - suc r) other ≡ e - suc r =
      first_none (e - suc r) other (λ k g. not_other k (f (suc r + k) (omega arith) (omega arith))) in
      omega arith

  -- so what the search finds is the end, or e where it finds none
  pub end_found : (found : Option ℕ)
      → MatchOption found ((k : ℕ) → r + 1 ≤ k → k < e → key_at s k ≡ key_at s r) (λ i. (r + 1 ≤ i) × (i < e) × (key_at s i ≡ key_at s r → ⊥) × ((k : ℕ) → r + 1 ≤ k → k < i → key_at s k ≡ key_at s r))
      → unwrap_or found e ≡ method_end s r e
  end_found None f = end_none (λ j l m. f j (omega arith) m)
  end_found (Some i) f = end_at i (omega (arith, f.0)) f.1 f.2 (λ j l m. f.3 j (omega arith) m)

  pub end_after : r < method_end s r e
  unfolding method_end
  end_after = omega arith

  pub end_within : method_end s r e ≤ e
  unfolding method_end
  end_within = omega (arith, first_le (e - suc r) other)

  pub end_same : (j : ℕ) → r ≤ j → j < method_end s r e → key_at s j ≡ key_at s r
  unfolding method_end
  end_same j l m = elim (dec_lt r j) [
    | yes g ↦
        let z : suc r + (j - suc r) ≡ j = omega arith in
        rw z at (eqb-true (key_at s (suc r + (j - suc r))) (key_at s r) (not-false _ (first_before (e - suc r) other (j - suc r) (omega arith))))
    | no g ↦ let z : j ≡ r = omega arith in rw z
  ]

  pub end_other : method_end s r e < e → key_at s (method_end s r e) ≡ key_at s r → ⊥
  unfolding method_end
  end_other l q =
      eqb-false (key_at s (suc r + first (e - suc r) other)) (key_at s r)
      (not-true _ (first_passes (e - suc r) other (omega arith))) q

-- the places p up to q of the steps hold one whole method
pub record Run (steps : List Record) (p q : ℕ) : Type 0 where
  pub some : p < q
  pub within : q ≤ length steps
  pub below : (i : ℕ) → i < p → key_of (get_or steps i []) < key_of (get_or steps p [])
  pub same : (i : ℕ) → p ≤ i → i < q → key_of (get_or steps i []) ≡ key_of (get_or steps p [])
  pub above : q < length steps → key_of (get_or steps p []) < key_of (get_or steps q [])

-- then the method has q − p steps, and each is valid as one of so many
module _ (steps : List Record) (rising : rising_from key_of 0 steps ≡ true) (p q : ℕ) (run : Run steps p q) where
  pub run_count : (i : ℕ) → p ≤ i → i < q → length (of_method (key_of (get_or steps i [])) steps) ≡ q - p
  run_count i h l =
      ap (λ k. length (of_method k steps)) (run.same i h l)
      ∙ run_length key_of [] 0 steps rising (key_of (get_or steps p [])) p q run.some run.within run.below run.same run.above

  pub run_valid : (levels objects i : ℕ) → p ≤ i → i < q → script_valid levels objects steps (get_or steps i []) ≡ (leb (q - p) max_method && step_valid levels objects (q - p) (get_or steps i []))
  unfolding script_valid
  run_valid levels objects i h l = rw (run_count i h l)

  -- the next method starts at q
  pub run_next : q < length steps → (i : ℕ) → i < q → key_of (get_or steps i []) < key_of (get_or steps q [])
  run_next h i l = elim (dec_lt i p) [
    | yes g ↦ le_trans (run.below i g) (le_of_lt (run.above h))
    | no g ↦ rw (run.same i (omega arith) l) (run.above h)
  ]

-- the records from `at` to the end of its method are such a run, where the method starts at `at`
pub method_run : (s : List ℕ) (a e at : ℕ) → a ≤ at → at < e
    → rising_from key_of 0 (records_from s a (e - a)) ≡ true
    → ((i : ℕ) → i < at - a → key_of (get_or (records_from s a (e - a)) i []) < key_of (get_or (records_from s a (e - a)) (at - a) []))
    → Run (records_from s a (e - a)) (at - a) (method_end s at e - a)
method_run s a e at h l rising lo =
    let steps = records_from s a (e - a) in
    let next = method_end s at e in
    let after : at < next = end_after s at e l in
    let within : next ≤ e = end_within s at e l in
    let here : get_or steps (at - a) [] ≡ record_at s at = from_is s a e at h l in
    record {
      some = omega arith;
      within = omega (arith, from-length s a (e - a));
      below = lo;
      same = λ i g m.
          let z : a ≤ a + i = omega arith in
          ap key_of (from_at s a (e - a) i (omega arith)) ∙ end_same s at e l (a + i) (omega arith) (omega arith) ∙ ap key_of (sym here);
      above = λ g.
          let in_range : next < e = omega (arith, from-length s a (e - a)) in
          let there : get_or steps (next - a) [] ≡ record_at s next = from_is s a e next (omega arith) in_range in
          let le : key_of (get_or steps (at - a) []) ≤ key_of (get_or steps (next - a) []) = rising_le key_of [] 0 steps rising (at - a) (next - a) (omega arith) g in
          lt_of_le-ne le (λ q. end_other s at e l in_range (ap key_of (sym there) ∙ sym q ∙ ap key_of here));
    }

-- a walk from record a to e, method by method: keys never fall up to `at`, and where they never fall at all the steps before `at`
-- are whole methods, and valid
pub record Methods (s : List ℕ) (levels objects a e at : ℕ) : Type 0 where
  pub low : a ≤ at
  pub high : at ≤ e
  pub next : (r : ℕ) → a ≤ r → r < at → suc r < e → key_at s r ≤ key_at s (suc r)
  pub valid : rising_from key_of 0 (records_from s a (e - a)) ≡ true
      → (i : ℕ) → i < at - a → script_valid levels objects (records_from s a (e - a)) (get_or (records_from s a (e - a)) i []) ≡ true
  pub start : rising_from key_of 0 (records_from s a (e - a)) ≡ true
      → at < e → (i : ℕ) → i < at - a → key_of (get_or (records_from s a (e - a)) i []) < key_of (get_or (records_from s a (e - a)) (at - a) [])

-- the halves of the test
module _ (levels objects : ℕ) (steps : List Record) (t : scripts_valid levels objects steps ≡ true) where
  scripts_rise : rising_from key_of 0 steps ≡ true
  unfolding scripts_valid
  scripts_rise = and_left (rising_from key_of 0 steps) (methods_valid levels objects steps) t

  scripts_pass : methods_valid levels objects steps ≡ true
  unfolding scripts_valid
  scripts_pass = and_right (rising_from key_of 0 steps) (methods_valid levels objects steps) t

module _ (s : List ℕ) (levels objects a e : ℕ) where
  pub methods_none : a ≤ e → Methods s levels objects a e a
  methods_none h =
      record {
        low = omega arith;
        high = h;
        next = λ r g l. absurd (omega arith);
        valid = λ t i g. absurd (omega arith);
        start = λ t l i g. absurd (omega arith);
      }

  pub methods_all : (at : ℕ) → Methods s levels objects a e at → e ≤ at → scripts_valid levels objects (records_from s a (e - a)) ≡ true
  unfolding scripts_valid
  methods_all at m h =
      let n = e - a in
      let rising : rising_from key_of 0 (records_from s a n) ≡ true =
      rising_all key_of [] 0 (records_from s a n) (λ g. omega arith) λ i g.
      let l : suc i < n = rw (from-length s a n) at g in
      let z : a + suc i ≡ suc (a + i) = omega arith in
      rw (from_at s a n i (omega arith), from_at s a n (suc i) l, z) (m.next (a + i) (omega arith) (omega arith) (omega arith)) in
      and_both (rising_from key_of 0 (records_from s a n)) _ rising
      (every-all (script_valid levels objects (records_from s a n)) [] (records_from s a n)
      (λ i g. m.valid rising i (omega (arith, m.high, from-length s a n))))

  module _ (at : ℕ) (m : Methods s levels objects a e at) (h : at < e) where
    after : at < method_end s at e
    after = end_after s at e h

    within : method_end s at e ≤ e
    within = end_within s at e h

    run : rising_from key_of 0 (records_from s a (e - a)) ≡ true → Run (records_from s a (e - a)) (at - a) (method_end s at e - a)
    run rising = method_run s a e at m.low h rising (m.start rising h)

    -- what the test of a step of this method comes to
    test : rising_from key_of 0 (records_from s a (e - a)) ≡ true → (j : ℕ) → j < method_end s at e - at →
        script_valid levels objects (records_from s a (e - a)) (record_at s (at + j))
        ≡ (leb (method_end s at e - at) max_method && step_valid levels objects (method_end s at e - at) (record_at s (at + j)))
    test rising j g =
        let z : (method_end s at e - a) - (at - a) ≡ method_end s at e - at = omega (arith, m.low, after) in
        let there : get_or (records_from s a (e - a)) (at + j - a) [] ≡ record_at s (at + j) = from_is s a e (at + j) (omega (arith, m.low)) (omega (arith, within)) in
        rw (there, z) at (run_valid (records_from s a (e - a)) rising (at - a) (method_end s at e - a) (run rising) levels objects (at + j - a) (omega (arith, m.low)) (omega (arith, m.low, after)))

    passes : scripts_valid levels objects (records_from s a (e - a)) ≡ true → (j : ℕ) → j < method_end s at e - at
        → (leb (method_end s at e - at) max_method && step_valid levels objects (method_end s at e - at) (record_at s (at + j))) ≡ true
    passes t j g =
        let there : get_or (records_from s a (e - a)) (at + j - a) [] ≡ record_at s (at + j) = from_is s a e (at + j) (omega (arith, m.low)) (omega (arith, within)) in
        let in_range : at + j - a < length (records_from s a (e - a)) = omega (arith, from-length s a (e - a), m.low, within) in
        rw (there, test (scripts_rise levels objects _ t) j g) at (every_each (script_valid levels objects (records_from s a (e - a))) [] (records_from s a (e - a)) (scripts_pass levels objects _ t) (at + j - a) in_range)

    -- a method of more than 16 steps, one with a step that is not valid, and one before a fall fail the test
    pub methods_long : max_method < method_end s at e - at → scripts_valid levels objects (records_from s a (e - a)) ≡ false
    methods_long g =
        refuted (scripts_valid levels objects (records_from s a (e - a))) λ t.
        let few : method_end s at e - at ≤ max_method =
        leb-true (method_end s at e - at) max_method (and_left _ _ (passes t 0 (omega (arith, after)))) in
        omega arith

    pub methods_wrong : all (method_end s at e - at) (λ j. step_valid levels objects (method_end s at e - at) (record_at s (at + j))) ≡ false
        → scripts_valid levels objects (records_from s a (e - a)) ≡ false
    methods_wrong g =
        let n = method_end s at e - at in
        refuted (scripts_valid levels objects (records_from s a (e - a))) λ t.
        not_both (all n (λ j. step_valid levels objects n (record_at s (at + j))))
        (all-every n _ λ j l. and_right (leb n max_method) (step_valid levels objects n (record_at s (at + j))) (passes t j l))
        g

    pub methods_falls : (ltb (method_end s at e) e && ltb (key_at s (method_end s at e)) (key_at s at)) ≡ true
        → scripts_valid levels objects (records_from s a (e - a)) ≡ false
    methods_falls g =
        let next = method_end s at e in
        let in_range : next < e = ltb-true next e (and_left (ltb next e) _ g) in
        let here : get_or (records_from s a (e - a)) (at - a) [] ≡ record_at s at = from_is s a e at m.low h in
        let there : get_or (records_from s a (e - a)) (next - a) [] ≡ record_at s next = from_is s a e next (omega (arith, m.low, after)) in_range in
        refuted (scripts_valid levels objects (records_from s a (e - a))) λ t.
        let above : key_at s at < key_at s next =
        rw (here, there) at ((run (scripts_rise levels objects _ t)).above (omega (arith, from-length s a (e - a), m.low, after))) in
        omega (arith, ltb-true (key_at s next) (key_at s at) (and_right (ltb next e) _ g))

    -- where the next method is no fall there is none in this one
    rises : (ltb (method_end s at e) e && ltb (key_at s (method_end s at e)) (key_at s at)) ≡ false
        → (r : ℕ) → at ≤ r → r < method_end s at e → suc r < e → key_at s r ≤ key_at s (suc r)
    rises f r l g k = elim (order (suc r) (method_end s at e)) [
      | less d ↦ le_of_eq (end_same s at e h r l g ∙ sym (end_same s at e h (suc r) (omega arith) d))
      | same d ↦ rw (end_same s at e h r l g, d) (elim (dec_lt (key_at s (method_end s at e)) (key_at s at)) [
        | yes b ↦ absurd (not_both (ltb (method_end s at e) e && ltb (key_at s (method_end s at e)) (key_at s at)) (and_both _ _ (lt-ltb _ _ (rw d at k)) (lt-ltb _ _ b)) f)
        | no b ↦ omega arith
      ])
      | more d ↦ absurd (omega arith)
    ]

    -- otherwise the walk goes on behind the method
    pub methods_more : method_end s at e - at ≤ max_method → all (method_end s at e - at) (λ j. step_valid levels objects (method_end s at e - at) (record_at s (at + j))) ≡ true
        → (ltb (method_end s at e) e && ltb (key_at s (method_end s at e)) (key_at s at)) ≡ false
        → Methods s levels objects a e (method_end s at e)
    methods_more g t f =
        let n = method_end s at e - at in
        record {
          low = omega (arith, m.low, after);
          high = within;
          next = λ r l k d. elim (dec_lt r at) [
            | yes b ↦ m.next r l b d
            | no b ↦ rises f r (omega arith) k d
          ];
          valid = λ rising i l. elim (dec_lt i (at - a)) [
            | yes k ↦ m.valid rising i k
            | no k ↦
                let j : a + i ≡ at + (a + i - at) = omega (arith, m.low) in
                let lt : a + i - at < n = omega (arith, m.low) in
                let there : get_or (records_from s a (e - a)) i [] ≡ record_at s (at + (a + i - at)) =
                from_at s a (e - a) i (omega (arith, within, m.low)) ∙ ap (record_at s) j in
                rw there (test rising (a + i - at) lt
                ∙ and_both (leb n max_method) _ (le-leb n max_method g)
                (all_each n (λ j. step_valid levels objects n (record_at s (at + j))) t (a + i - at) lt))
          ];
          start = λ rising l i k. run_next (records_from s a (e - a)) rising (at - a) (method_end s at e - a) (run rising) (omega (arith, from-length s a (e - a), m.low, after)) i k;
        }
