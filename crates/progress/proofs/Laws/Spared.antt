-- What the run of a fork leaves of its words as it was. Assumes nothing.
use Prim.Native.Nat.{ℕ, ◌+◌, ◌*◌, ◌<◌}
use mathlib.Core.Path.{◌≡◌, refl, ◌∙◌}
use mathlib.Core.List.{List}
use native.Mathlib.Decide.{dec_lt}
use native.Mathlib.Omega.{arith}
use lib.ListN.{get_or, set}
use Rattle.session.specs.Limits.{max_levels, max_objects, made_objects}
use Rattle.session.specs.Parts.{level_count}
use Rattle.session.specs.Meaning.{Numbered}
use Rattle.session.specs.Questions.{verdict_of, Accepted}
use Rattle.session.specs.Value.{Value}
use Rattle.session.proofs.Laws.Numbers.{number_low, number_high}
use Rattle.scripts.specs.declared.Ended.{Ended}
use Rattle.fields.specs.Limits.{object_values}
use Rattle.fields.specs.Fields.{field_place, FieldSet}
use Rattle.lists.proofs.Laws.Outside.{outside_none, outside_wider, outside_then, outside_set}
use Rattle.model.specs.Limits.{max_managers}
use Rattle.histories.specs.Limits.{row_words}
use Rattle.histories.specs.Histories.{level_place}
use Rattle.tallies.specs.Places.{next_place, changes_place, all_changes_place, tally_numbers, changed, Closed}
use Rattle.tallies.proofs.Laws.Changed.{changed_other}
use Rattle.tallies.proofs.Laws.Closed.{tallied_other}
use Rattle.progress.specs.Representation.{Words, Spared}

module _ (s : List ℕ) where
  pub spared_none : (w : Words) → Spared s w w
  spared_none w =
      record {
        current = outside_none w.current 0 _;
        unnumbered = λ k _ _. refl;
        ended = outside_none w.ended 0 _;
        tallies = outside_none w.tallies 0 _;
        uncounted = λ k _ _. refl;
      }

  pub spared_then : (w w' w'' : Words) → Spared s w w' → Spared s w' w'' → Spared s w w''
  spared_then w w' w'' p q =
      record {
        current = outside_then w.current w'.current w''.current 0 _ p.current q.current;
        unnumbered = λ k h l. q.unnumbered k h l ∙ p.unnumbered k h l;
        ended = outside_then w.ended w'.ended w''.ended 0 _ p.ended q.ended;
        tallies = outside_then w.tallies w'.tallies w''.tallies 0 _ p.tallies q.tallies;
        uncounted = λ k h l. q.uncounted k h l ∙ p.uncounted k h l;
      }

  -- a write of a field, or of existence
  pub spared_write : verdict_of s ≡ Accepted → (w : Words) (c' : List ℕ) (o k : ℕ) (v : Value) → Numbered s o → k < object_values → FieldSet w.current c' o k v → Spared s w (record { current = c'; ended = w.ended; tallies = w.tallies })
  spared_write a w c' o k v ho hk f =
      record {
        current = outside_wider w.current c' (field_place o k) (field_place o k + 2) 0 (field_place (max_objects + made_objects * level_count s) 0) (omega arith) (omega (arith, number_high s a o ho, hk)) f.outside;
        unnumbered = λ j h l. elim (dec_lt o max_objects) [
          | yes low ↦ f.outside.above j (omega (arith, number_low s a o ho low, hk, h))
          | no high ↦ f.outside.below j (omega (arith, high, l))
        ];
        ended = outside_none w.ended 0 _;
        tallies = outside_none w.tallies 0 _;
        uncounted = λ j _ _. refl;
      }

  -- that existence was written
  pub spared_change : (w : Words) (l : ℕ) → l < max_levels → Spared s w (record { current = w.current; ended = w.ended; tallies = changed l w.tallies })
  spared_change w l small =
      let t = w.tallies in
      record {
        current = outside_none w.current 0 _;
        unnumbered = λ j _ _. refl;
        ended = outside_none w.ended 0 _;
        tallies = outside_set t (set t (changes_place l) 1) 0 tally_numbers all_changes_place 1 (omega arith) (omega arith)
            (outside_set t t 0 tally_numbers (changes_place l) 1 (omega arith) (omega (arith, small)) (outside_none t 0 _));
        uncounted = λ j h g. changed_other l t j (λ z. omega (arith, z, g)) (λ z. omega (arith, z, g));
      }

  -- the end of a manager
  pub spared_close : (w : Words) (e' t' : List ℕ) (l : ℕ) (h : Ended) → l < level_count s → l < max_levels → get_or w.tallies l 0 < max_managers → Closed l h w.ended e' w.tallies t' → Spared s w (record { current = w.current; ended = e'; tallies = t' })
  spared_close w e' t' l h placed small more z =
      let count = get_or w.tallies l 0 in
      record {
        current = outside_none w.current 0 _;
        unnumbered = λ j _ _. refl;
        ended = outside_wider w.ended e' (level_place l) (level_place l + row_words * (count + 1)) 0 (level_place (level_count s)) (omega arith) (omega (arith, placed, more)) z.added.outside;
        tallies = rw z.counted (
            outside_set w.tallies (set w.tallies l (count + 1)) 0 tally_numbers (next_place l) (h.last + 1) (omega arith) (omega (arith, small))
            (outside_set w.tallies w.tallies 0 tally_numbers l (count + 1) (omega arith) (omega (arith, small)) (outside_none w.tallies 0 _))
            );
        uncounted = λ j q g. rw z.counted (tallied_other l (count + 1) (h.last + 1) w.tallies j (λ y. omega (arith, y, q, small)) (λ y. omega (arith, y, q, small)));
      }
