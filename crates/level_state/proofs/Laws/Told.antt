-- A script step that waits is made once it is told what it waits for. Assumes nothing.
use Prim.Native.Nat.{ℕ, ◌≤◌, ◌<◌}
use mathlib.Core.Path.{◌≡◌, refl, sym, ◌∙◌, ap}
use mathlib.Core.Bool.{Bool, true, false}
use mathlib.Core.List.{List}
use native.Mathlib.Decide.{ℕ_discrete}
use native.Mathlib.Omega.{arith}
use lib.ListN.{length, get_or}
use Rattle.lists.proofs.Laws.Range.{not_both}
use Rattle.session.specs.Limits.{fields}
use Rattle.session.specs.Program.{program_of}
use Rattle.session.proofs.Laws.Numbers.{number_few}
use Rattle.scripts.specs.Existence.{existence}
use Rattle.scripts.specs.Manager.{next_step}
use Rattle.fields.specs.Limits.{field_words}
use Rattle.fields.specs.Fields.{known_at, FieldThere, Forgotten}
use Rattle.fields.specs.Reads.{is_own}
use Rattle.frames.specs.Frames.{frame_of}
use Rattle.cores.specs.Core.{is_asking, Present}
use Rattle.operations.specs.Operations.{on, change, pause_of, asking}
use Rattle.cores.specs.declared.Effect.TheVariants as act
use Rattle.managers.specs.Manager.{manager_of}
use Rattle.managers.specs.Steps.{Advanceable}
use Rattle.managers.specs.Steps as managers
use Rattle.managers.specs.declared.Manager as code
use Rattle.tallies.specs.Places.{all_changes_place}
use Rattle.level_state.specs.Representation.{Words}
use Rattle.level_state.specs.Steps.{Tables, ReadReady, Answered}
use Rattle.level_state.specs.Script.{Blank, RunsAt, ScriptStep, Waits, Unseen}
use Rattle.level_state.proofs.Laws.Seen.{Kept, kept-blank, kept_answered, Seeing, forgotten_others}
use Rattle.level_state.proofs.Laws.Pauses.{pause_values, same_target, field_told, existence_told, both_told, script_same}
use Rattle.level_state.proofs.Laws.Script.{field_there, asks_none, able, step_is, small_current, small_cache}

-- a step that was not made: the manager stands where it did
module _ {s : List ℕ} {w : Words} {l : ℕ} {cache : List ℕ} {u : Bool} {m n : code.Manager} (b : RunsAt s w l m) (d : managers.Stepped s w.current cache false u m n) {o k : ℕ} (is : n.core.effect ≡ act.Read o k) where
  asked_for : is_asking n.core.effect ≡ true
  asked_for = rw is refl

  stands : manager_of n ≡ manager_of m
  stands = (d.asks asked_for).0

  pub waits_of : Waits s w l cache u n o k
  waits_of =
      let here : Present s (act.Read o k) = rw is at d.present in
      record {
        runs = record { running = b.running; state = b.state; fork = b.fork; busy = rw stands b.busy };
        held = d.held;
        named = record { number = here.0; field = here.1 };
        pause = (d.still asked_for).1 ∙ ap asking is;
      }

  -- what it becomes then m becomes
  pub stepped_same : {cache' : List ℕ} {r : code.Manager} → ScriptStep s w l cache' n r → ScriptStep s w l cache' m r
  stepped_same q = record { is = λ ms st x y. rw (sym stands) (q.is ms st x (rw stands y)); held = q.held; present = q.present; blank = q.blank }

-- n waits for value k of object o, and is told it
module _ {s masks index : List ℕ} {w : Words} {l : ℕ} {cache : List ℕ} {u : Bool} {n : code.Manager} {o k : ℕ} (a : Tables s masks index) (t : Waits s w l cache u n o k) (there : field_words ≤ length cache) where
  pub tells : ReadReady s cache o k
  tells = record { named = t.named; there = there }

  module _ {cache' : List ℕ} (q : Answered s w cache cache' l o k) where
    pub told_there : field_words ≤ length cache'
    told_there = rw q.kept.field.outside.length_same there

    pub told_sees : (u' : Bool) → Kept s w l cache → (u' ≡ true → get_or w.tallies all_changes_place 0 ≡ 0) → Seeing s w l cache' u'
    told_sees u' kept flag = record { kept = kept_answered kept q; there = told_there; flag = flag }

    pub told_forgets : FieldThere cache' o k
    told_forgets = field_there a.indexed.accepted (record { named = t.named; there = told_there })

    -- nothing but that is kept
    pub told_others : Blank cache → (o' k' : ℕ) → k' ≤ existence → (o' ≡ o → k' ≡ k → ⊥) → known_at cache' o' k' ≡ false
    told_others blank o' k' hk apart = q.kept.others o' k' (omega (arith, hk)) apart ∙ blank o' k' hk

    -- it does not become a CREATE or WITHDRAW
    module _ {u' : Bool} {r : code.Manager} (d : managers.Stepped s w.current cache' false u' n r) where
      pub still_reads : r.core.effect ≡ act.Change → ⊥
      still_reads is =
          let then : pause_of s w.current cache' false u' n.core ≡ change = (d.asks (rw is refl)).1 ∙ ap asking is in
          pause_values s w.current cache cache' u u' n.core.level n.core.top.object (next_step (program_of s) (frame_of n.core.top)) o k t.pause then

      asks_again : {o' k' : ℕ} → r.core.effect ≡ act.Read o' k' → pause_of s w.current cache' false u' n.core ≡ on o' k'
      asks_again is = (d.asks (rw is refl)).1 ∙ ap asking is

      -- told existence it asks for a field of that object at most
      pub asks_field : Seeing s w l cache' u' → k ≡ existence → {o' k' : ℕ} → r.core.effect ≡ act.Read o' k' → (o' ≡ o) × (k' < fields)
      asks_field see e {o'} {k'} is =
          let here : Present s (act.Read o' k') = rw is at d.present in
          let then = asks_again is in
          let i = next_step (program_of s) (frame_of n.core.top) in
          let seen : known_at cache' o existence ≡ true = rw (sym e) q.kept.known in
          let apart = existence_told s w.current cache cache' u u' n.core.level n.core.top.object i o k o' k' t.pause then (small_current a t.runs see) (small_cache a t.runs see) (number_few s a.indexed.accepted o' here.0) seen in
          (same_target s w.current cache cache' u u' n.core.level n.core.top.object i o k o' k' t.pause then, below k' here.1 apart)
        where
          below : (k' : ℕ) → k' ≤ existence → (k' ≡ existence → ⊥) → k' < fields
          below k' h d = elim (ℕ_discrete k' existence) [
            | yes e ↦ absurd (d e)
            | no z ↦ omega (arith, h, z)
          ]

      -- told a field it makes its step
      pub makes : u' ≡ u → (k ≡ existence → ⊥) → is_asking r.core.effect ≡ false
      makes same field = asks_none r.core.effect (λ o' k' is. again o' k' (asks_again is)) still_reads
        where
          again : (o' k' : ℕ) → pause_of s w.current cache' false u' n.core ≡ on o' k' → ⊥
          again o' k' then =
              let i = next_step (program_of s) (frame_of n.core.top) in
              let apart : o ≡ o → existence ≡ k → ⊥ = λ _ z. field (sym z) in
              let script = script_same w.current cache cache' (is_own s false n.core.level o) u o (q.kept.others o existence (omega arith) apart) (q.kept.field.others o existence (omega arith) apart) in
              field_told s w.current cache cache' u u' n.core.level n.core.top.object i o k o' k' t.pause then field (rw same script) q.kept.known

      -- told a field after existence too
      pub makes_both : Seeing s w l cache' u' → known_at cache o existence ≡ true → (k ≡ existence → ⊥) → is_asking r.core.effect ≡ false
      makes_both see known field = asks_none r.core.effect again still_reads
        where
          again : (o' k' : ℕ) → r.core.effect ≡ act.Read o' k' → ⊥
          again o' k' is =
              let here : Present s (act.Read o' k') = rw is at d.present in
              let i = next_step (program_of s) (frame_of n.core.top) in
              let seen : known_at cache' o existence ≡ true = q.kept.others o existence (omega arith) (λ _ z. field (sym z)) ∙ known in
              both_told s w.current cache cache' u u' n.core.level n.core.top.object i o k o' k' t.pause (asks_again is) (small_current a t.runs see) (small_cache a t.runs see) (number_few s a.indexed.accepted o' here.0) seen field q.kept.known

      -- the step is the definition's
      pub told_made : {cache'' : List ℕ} → Seeing s w l cache' u' → is_asking r.core.effect ≡ false → Blank cache'' → ScriptStep s w l cache'' n r
      told_made see internal blank = record { is = step_is a t.runs see d internal; held = d.held; present = d.present; blank = blank }

-- a step that waits for existence, and may wait for a field then
module _ {s masks index : List ℕ} {w : Words} {l : ℕ} {cache : List ℕ} {n : code.Manager} {o : ℕ} (a : Tables s masks index) (q : Unseen s w l cache n o) {cache₁ : List ℕ} (first : Answered s w cache cache₁ l o existence) where
  sees₁ : Seeing s w l cache₁ false
  sees₁ = told_sees a q.waits q.there first false (kept-blank s w l cache q.blank) (λ e. absurd (not_both false e refl))

  there₁ : field_words ≤ length cache₁
  there₁ = told_there a q.waits q.there first

  pub unseen_able : Advanceable s masks index w.current cache₁ n
  unseen_able = able a q.waits.runs sees₁ q.waits.held

  pub unseen_forgets : FieldThere cache₁ o existence
  unseen_forgets = told_forgets a q.waits q.there first

  module _ {r : code.Manager} (d : managers.Stepped s w.current cache₁ false false n r) where
    -- the step is made
    pub unseen_made : {cache₂ : List ℕ} → ((x k : ℕ) → r.core.effect ≡ act.Read x k → ⊥) → Forgotten cache₁ cache₂ o existence → ScriptStep s w l cache₂ n r
    unseen_made reads f =
        told_made a q.waits q.there first d sees₁ (asks_none r.core.effect reads (still_reads a q.waits q.there first d))
        (forgotten_others f (told_others a q.waits q.there first q.blank))

    -- or it waits for a field
    module _ {x k : ℕ} (is : r.core.effect ≡ act.Read x k) where
      waits₂ : Waits s w l cache₁ false r x k
      waits₂ = waits_of q.waits.runs d is

      pub seen_field : (x ≡ o) × (k < fields)
      seen_field = asks_field a q.waits q.there first d sees₁ refl is

      pub seen_tells : ReadReady s cache₁ x k
      seen_tells = tells a waits₂ there₁

      module _ {cache₂ : List ℕ} (second : Answered s w cache₁ cache₂ l x k) where
        sees₂ : Seeing s w l cache₂ false
        sees₂ = told_sees a waits₂ there₁ second false sees₁.kept (λ e. absurd (not_both false e refl))

        pub seen_able : Advanceable s masks index w.current cache₂ r
        seen_able = able a waits₂.runs sees₂ waits₂.held

        pub seen_forgets : FieldThere cache₂ x k
        seen_forgets = told_forgets a waits₂ there₁ second

        field : k ≡ existence → ⊥
        field e = omega (arith, e, seen_field.1)

        pub seen_made : {cache₃ cache₄ : List ℕ} {r' : code.Manager} → managers.Stepped s w.current cache₂ false false r r' → Forgotten cache₂ cache₃ x k → Forgotten cache₃ cache₄ o existence → ScriptStep s w l cache₄ n r'
        seen_made {cache₃} {cache₄} d' f₃ f₄ =
            stepped_same q.waits.runs d is
            (told_made a waits₂ there₁ second d' sees₂ (makes_both a waits₂ there₁ second d' sees₂ known field) (forgotten_others f₄ others))
          where
            known : known_at cache₁ x existence ≡ true
            known = rw seen_field.0 first.kept.known

            others : (o' k' : ℕ) → k' ≤ existence → (o' ≡ o → k' ≡ existence → ⊥) → known_at cache₃ o' k' ≡ false
            others o' k' hk apart = by (ℕ_discrete o' x) (ℕ_discrete k' k)
              where
                other : (o' ≡ x → k' ≡ k → ⊥) → known_at cache₃ o' k' ≡ false
                other z =
                    (f₃.others o' k' (omega (arith, hk)) z).0
                    ∙ second.kept.others o' k' (omega (arith, hk)) z
                    ∙ told_others a q.waits q.there first q.blank o' k' hk apart

                by : Dec (o' ≡ x) → Dec (k' ≡ k) → known_at cache₃ o' k' ≡ false
                by (yes y) (yes z) = rw (y, z) f₃.known
                by (no y) z = other (λ e _. y e)
                by (yes y) (no z) = other (λ _ e. z e)
