-- What the words of a run say at its start. Assumes nothing.
use Prim.Native.Nat.{ℕ, ◌+◌, ◌^◌, ◌≤◌, ◌<◌}
use mathlib.Core.Path.{◌≡◌, refl, sym, ◌∙◌, ap, ap₂}
use mathlib.Core.List.{List, []}
use native.Mathlib.Decide.{dec_lt}
use native.Mathlib.Omega.{arith}
use lib.ListN.{length, get_or, replicate, length-replicate, get_or-replicate}
use Rattle.session.specs.Limits.{max_levels, max_numbers}
use Rattle.lists.specs.Lists.{rising_from}
use Rattle.session.specs.Parts.{level_count, object_count}
use Rattle.session.specs.Meaning.{level_of, root_object, root_of}
use Rattle.session.specs.Questions.{verdict_of, Accepted}
use Rattle.session.specs.Program.{program_of}
use Rattle.session.specs.declared.Message.{Message}
use Rattle.session.proofs.Laws.Accepted.{level_present}
use Rattle.session.proofs.Laws.Contents.{level_limit}
use Rattle.scripts.specs.Existence.{existence, initially}
use Rattle.scripts.specs.Value.{number_in}
use Rattle.scripts.proofs.Laws.Existence.{first_there, first_none}
use Rattle.fields.specs.Limits.{object_values, field_words}
use Rattle.fields.specs.Fields.{value_of, field_place, field_at, Filled}
use Rattle.model.specs.DepthFirst.{new_tally, tally_at, current, field_now}
use Rattle.histories.specs.Limits.{history_words}
use Rattle.histories.specs.Histories.{histories_at, InOrder}
use Rattle.histories.proofs.Laws.Histories.{histories_none}
use Rattle.tallies.specs.Places.{start_tallies}
use Rattle.tallies.proofs.Laws.First.{first_ended, first_next}
use Rattle.progress.specs.Representation.{Counted, RepresentedBy}
use Rattle.depth_first.specs.Runs.{initial_progress}

none_rises : InOrder []
unfolding rising_from
none_rises = refl

-- so many zeros are zeros
pub zeros : (n i : ℕ) → i < n → get_or {A = ℕ} (replicate n 0) i 0 ≡ 0
zeros n i h = get_or-replicate n i 0 0 h

-- and so long
pub long : (n : ℕ) → n ≤ length {A = ℕ} (replicate n 0)
long n = rw (length-replicate {A = ℕ} n 0) (omega arith)

module _ (s : List ℕ) (a : verdict_of s ≡ Accepted) where
  -- the level of the root's object is a byte
  pub level_byte_lem : (m : Message) (level : ℕ) → m ≡ root_of s → level ≡ level_of s m.object → level < 2 ^ 8
  level_byte_lem m level e i =
      omega (arith, i, ap (λ m. level_of s m.object) e, level_present s a (root_object s), level_limit s a)

  pub start_tally : (l : ℕ) → l < level_count s → tally_at (initial_progress s) l ≡ new_tally
  start_tally l h = get_or-replicate (level_count s) l new_tally new_tally h

  start_now : (o k : ℕ) → field_now (program_of s) (initial_progress s) o k ≡ initially (program_of s) o k
  unfolding current
  start_now o k = refl

  -- of words that were all 0 those behind the objects of the session say NIL, as no other object has a value at first
  filled : (before c : List ℕ) → Filled s before c → ((i : ℕ) → i < field_words → get_or before i 0 ≡ 0) → (o k : ℕ) → o < max_numbers → k < object_values → field_at c o k ≡ initially (program_of s) o k
  unfolding field_at
  filled before c f zeros o k h j = elim (dec_lt o (object_count s)) [
    | yes own ↦ unfold field_at in f.fields_are o k own j
    | no other ↦
        let zero : (i : ℕ) → field_place (object_count s) 0 ≤ i → i < field_words → get_or c i 0 ≡ 0 = λ i b l. f.outside.above i b ∙ zeros i l in
        ap₂ value_of (zero (field_place o k) (omega (arith, other)) (omega (arith, h, j))) (zero (field_place o k + 1) (omega (arith, other)) (omega (arith, h, j)))
        ∙ sym (first_none s o k (omega (arith, other)))
  ]

  -- the scripts are those of objects of the session, or none
  script_first : (o : ℕ) → number_in (initially (program_of s) o existence) ≤ object_count s
  script_first o = elim (dec_lt o (object_count s)) [
    | yes own ↦ rw (first_there s o own) (omega (arith, own))
    | no other ↦ rw (first_none s o existence (omega (arith, other))) (omega arith)
  ]

  counted_start : (ended : List ℕ) (l : ℕ) → l < level_count s → Counted (initial_progress s) ended start_tallies l
  counted_start ended l h =
      let e = start_tally l h in
      let small : l < max_levels = omega (arith, h, level_limit s a) in
      record {
        few = rw e (omega arith);
        count = first_ended l small ∙ ap (λ t. length t.ended) (sym e);
        histories = ap (λ t. histories_at ended l (length t.ended)) e ∙ histories_none ended l ∙ ap (λ t. t.ended) (sym e);
        rises = rw e none_rises;
        next = first_next l small ∙ ap (λ t. t.next) (sym e);
        pace = rw e (omega arith);
      }

  pub kept_start : (before c ended tallies : List ℕ) → Filled s before c → field_words ≤ length before → ((i : ℕ) → i < field_words → get_or before i 0 ≡ 0) → history_words ≤ length ended → tallies ≡ start_tallies → RepresentedBy s (initial_progress s) c ended tallies
  kept_start before c ended tallies f there zeros room first =
      rw first (record {
        fields_there = rw f.outside.length_same there;
        histories_there = room;
        tallies_there = omega arith;
        counts_few = λ l h. rw (first_ended l h) (omega arith);
        levels = length-replicate (level_count s) new_tally;
        field = λ o k h j. filled before c f zeros o k h j ∙ sym (start_now o k);
        scripted = λ o h. rw (filled before c f zeros o existence h (omega arith)) (script_first o);
        existing = λ _ o. start_now o existence;
        counted = λ l h. counted_start ended l h;
      })
