-- CREATE and WITHDRAW (document 02, job 7) over small programs, computed by the definitions. Assumes nothing.
use Prim.Native.Nat.{ℕ, zero, suc, ◌-◌, ◌%◌}
use mathlib.Core.Path.{◌≡◌, refl}
use mathlib.Core.Bool.{cond}
use mathlib.Core.List.{List, [], ◌∷◌, ◌++◌}
use lib.Dec.{eqb, ltb}
use lib.ListN.{replicate}
use Rattle.lists.specs.Range.{all, first}
use Rattle.dominance.specs.Join.{is_least, join}
use Rattle.dominance.specs.Table.{dominates}
use Rattle.session.specs.Program.{Program}
use Rattle.session.specs.Value.{Value}
use Rattle.std.specs.Prelude.{None, Some}
use Rattle.session.specs.declared.Step.{Step}
use Rattle.session.specs.declared.Step.TheVariants.{Set, Read, Write, Send, Quit, Create, Withdraw}
use Rattle.fates.specs.Filter.{fate_of}
use Rattle.scripts.specs.Existence.{existence, used_of, making}
use Rattle.scripts.specs.Value.{sum, is_nil_or0}
use Rattle.scripts.specs.Frame.{with_register}
use Rattle.scripts.specs.Manager.{popped, settled, concluded, started, charged, written, created, called, forked, sent, operated, stepped}
use Rattle.scripts.specs.State.{Manager, Stepped}
use Rattle.scripts.specs.Effect.{Effect}
use Rattle.scripts.specs.Effect as effect
use Rattle.scripts.proofs.Examples.{program_with, standing, registers, filling}

-- object 0's method, and one of object 2, whose methods script 3 has
abbrev made : ℕ → List Step → Program
made level method = program_with (level ∷ []) (method ∷ [] ∷ method ∷ [])

-- what a READ sees: object 0 has this existence, so many numbers of each level are used, and other fields are 5
abbrev seen : ℕ → Value → ℕ → ℕ → Value
seen used v o k = cond (eqb k existence) (cond (eqb o 0) v (cond (ltb ((o - 32) % 4) used) (Some 0) None)) (Some 5)

-- the manager of a message to object 0 of a level, at a level, after so many script steps
unfoldable pub after_at : ℕ → ℕ → Value → ℕ → List Step → ℕ → Manager
after_at own used v level method zero =
    started (made own method) (seen used v) level 1 (record { object = 0; name = 0; parameter = Some 4 })
after_at own used v level method (suc k) = (stepped (made own method) (seen used v) (after_at own used v level method k)).manager

-- what the script step after them does outside
abbrev effect_at : ℕ → ℕ → Value → ℕ → List Step → ℕ → Effect
effect_at own used v level method k = (stepped (made own method) (seen used v) (after_at own used v level method k)).effect

-- object 0 at level 0
abbrev after : ℕ → Value → ℕ → List Step → ℕ → Manager
after = after_at 0

abbrev effect_of : ℕ → Value → ℕ → List Step → ℕ → Effect
effect_of = effect_at 0

-- fills its registers, and makes an object for register 2
abbrev creating : List Step
creating = filling ++ Create 2 ∷ Quit 0 ∷ []

-- what a READ sees of the existence of object 0, and of the others
abbrev seen_there : Value → Value → ℕ → ℕ → Value
seen_there own v o k = cond (eqb o 0) own v

-- the first step of a manager at a level: object 0, at level 0, which has an existence then, sends name 0 to object 1, at level 1, which has
-- another
abbrev sends_up : ℕ → Value → Value → Stepped
sends_up level own v =
    let p = program_with (0 ∷ 1 ∷ []) ((Send 0 0 1 ∷ Quit 0 ∷ []) ∷ (Set 0 8 ∷ Quit 0 ∷ []) ∷ []) in
    stepped p (seen_there own v) (started p (seen_there (Some 1) v) level 1 (record { object = 0; name = 0; parameter = Some 4 }))

-- the numbers from 36 on are used, those of level 0 are not
abbrev used_above : ℕ → ℕ → Value
used_above o k = cond (ltb o 36) None (Some 0)

-- a first step that sees the frame's object withdrawn, which was there when the frame was made
record Gone : Type 0 where
  reading : List Value
  standing : List ℕ
  doing : Effect
  replying : Value

abbrev gone : List Step → Gone
gone method =
    let s = stepped (made 0 method) (seen 0 (Some 0)) (after 0 (Some 1) 0 method 0) in
    record { reading = registers s.manager; standing = standing s.manager; doing = s.effect; replying = s.manager.reply }

pub record Making : Type 0 where
  -- "makes an object at the manager's level with registers 1, 2 and 3 as its fields and the methods of the frame's own object"
  create : effect_of 0 (Some 1) 0 creating 3 ≡ effect.Write (making 32 (Some 5) (Some 6) (Some 7) 1)
  create_versions : making 32 (Some 5) None (Some 7) 9 ≡ record { object = 32; field = 3; value = Some 9 } ∷ record { object = 32; field = 2; value = Some 7 } ∷ record { object = 32; field = 1; value = None } ∷ record { object = 32; field = 0; value = Some 5 } ∷ []
  create_methods : effect_of 0 (Some 3) 0 creating 3 ≡ effect.Write (making 32 (Some 5) (Some 6) (Some 7) 3)
  create_above : effect_at 1 0 (Some 1) 1 creating 3 ≡ effect.Write (making 36 (Some 5) (Some 6) (Some 7) 1)
  -- "a gets its number", after the fields are taken; it counts as four writes, and changes no stamp
  create_number : registers (after 0 (Some 1) 0 creating 4) ≡ Some 4 ∷ Some 5 ∷ Some 32 ∷ Some 7 ∷ []
  create_first : effect_of 0 (Some 1) 0 (filling ++ Create 1 ∷ Quit 0 ∷ []) 3 ≡ effect.Write (making 32 (Some 5) (Some 6) (Some 7) 1)
  create_first_number : registers (after 0 (Some 1) 0 (filling ++ Create 1 ∷ Quit 0 ∷ []) 4) ≡ Some 4 ∷ Some 32 ∷ Some 6 ∷ Some 7 ∷ []
  create_stands : standing (after 0 (Some 1) 0 creating 4) ≡ 1 ∷ 4 ∷ 4 ∷ 0 ∷ []
  -- "handed out upward; a CREATE once all four are used gives NIL", and is no ending 2
  second : registers (after 1 (Some 1) 0 creating 4) ≡ Some 4 ∷ Some 5 ∷ Some 33 ∷ Some 7 ∷ []
  fourth : registers (after 3 (Some 1) 0 creating 4) ≡ Some 4 ∷ Some 5 ∷ Some 35 ∷ Some 7 ∷ []
  fifth : registers (after 4 (Some 1) 0 creating 4) ≡ Some 4 ∷ Some 5 ∷ None ∷ Some 7 ∷ []
  fifth_nothing : effect_of 4 (Some 1) 0 creating 3 ≡ effect.Nothing
  fifth_stands : standing (after 4 (Some 1) 0 (replicate 16 (Write 0 0) ++ creating) 20) ≡ 1 ∷ 20 ∷ 16 ∷ 0 ∷ []
  -- a number is used once it was made, withdrawn or not
  gap : used_of (λ o k. cond (eqb o 33) None (Some 0)) 0 ≡ 1
  all-withdrawn : used_of (λ o k. Some 0) 0 ≡ 4
  none_used : used_of (λ o k. None) 3 ≡ 0
  -- each level counts its own
  used_above_lem : used_of used_above 1 ≡ 4
  unused_below : used_of used_above 0 ≡ 0
  -- "Passing 16 is ending 2, and nothing is made, removed or added to the count": at 12 writes there is room, at 13 there is none
  at_12 : standing (after 0 (Some 1) 0 (replicate 12 (Write 0 0) ++ creating) 16) ≡ 1 ∷ 16 ∷ 16 ∷ 0 ∷ []
  at_13 : standing (after 0 (Some 1) 0 (replicate 13 (Write 0 0) ++ creating) 17) ≡ 1 ∷ 17 ∷ 13 ∷ 2 ∷ []
  at_13_nothing : effect_of 0 (Some 1) 0 (replicate 13 (Write 0 0) ++ creating) 16 ≡ effect.Nothing
  at_13_leaves : registers (after 0 (Some 1) 0 (replicate 13 (Write 0 0) ++ creating) 17) ≡ Some 4 ∷ Some 5 ∷ Some 6 ∷ Some 7 ∷ []
  withdraw_at_15 : standing (after 0 (Some 1) 0 (replicate 15 (Write 0 0) ++ Withdraw ∷ Quit 0 ∷ []) 16) ≡ 1 ∷ 16 ∷ 16 ∷ 0 ∷ []
  withdraw_at_16 : standing (after 0 (Some 1) 0 (replicate 16 (Write 0 0) ++ Withdraw ∷ Quit 0 ∷ []) 17) ≡ 1 ∷ 17 ∷ 16 ∷ 2 ∷ []
  -- "WITHDRAW .. removes the frame's own object", and counts as one write
  withdraw : effect_of 0 (Some 1) 0 (Withdraw ∷ Quit 0 ∷ []) 0 ≡ effect.Write (record { object = 0; field = existence; value = Some 0 } ∷ [])
  withdraw_stands : standing (after 0 (Some 1) 0 (Withdraw ∷ Quit 0 ∷ []) 1) ≡ 1 ∷ 1 ∷ 1 ∷ 0 ∷ []
  -- "Both work only if that object's level is the manager's; otherwise CREATE gives NIL and WITHDRAW does nothing"
  create_below : registers (after_at 0 0 (Some 1) 1 creating 4) ≡ Some 4 ∷ Some 5 ∷ None ∷ Some 7 ∷ []
  create_below_nothing : effect_at 0 0 (Some 1) 1 creating 3 ≡ effect.Nothing
  withdraw_below : effect_at 0 0 (Some 1) 1 (Withdraw ∷ Quit 0 ∷ []) 0 ≡ effect.Nothing
  withdraw_below_stands : standing (after_at 0 0 (Some 1) 1 (Withdraw ∷ Quit 0 ∷ []) 1) ≡ 1 ∷ 1 ∷ 0 ∷ 0 ∷ []
  -- "A message to an object that isn't there .. finds an empty method; the filter goes by the number's level": upward it is forked all the same,
  -- and where it runs within the manager its frame is popped in the same step
  fork_there : (sends_up 0 (Some 1) (Some 2)).effect ≡ effect.Fork 1 (record { object = 1; name = 0; parameter = Some 4 })
  fork_unmade : (sends_up 0 (Some 1) None).effect ≡ effect.Fork 1 (record { object = 1; name = 0; parameter = Some 4 })
  fork_withdrawn : (sends_up 0 (Some 1) (Some 0)).effect ≡ effect.Fork 1 (record { object = 1; name = 0; parameter = Some 4 })
  discard_there : standing (sends_up 1 (Some 1) (Some 2)).manager ≡ 2 ∷ 1 ∷ 0 ∷ 0 ∷ []
  discard_unmade : standing (sends_up 1 (Some 1) None).manager ≡ 1 ∷ 1 ∷ 0 ∷ 0 ∷ []
  discard_withdrawn : standing (sends_up 1 (Some 1) (Some 0)).manager ≡ 1 ∷ 1 ∷ 0 ∷ 0 ∷ []
  -- "In a frame whose reads see its object withdrawn, READ gives NIL, WRITE and a second WITHDRAW do nothing. CREATE there gives NIL": none
  -- counts; SET, SEND and QUIT work on
  gone_read : (gone (Read 0 1 ∷ Quit 1 ∷ [])).reading ≡ None ∷ None ∷ None ∷ None ∷ []
  gone_write : (gone (Write 0 1 ∷ Quit 1 ∷ [])).doing ≡ effect.Nothing
  gone_write_stands : (gone (Write 0 1 ∷ Quit 1 ∷ [])).standing ≡ 1 ∷ 1 ∷ 0 ∷ 0 ∷ []
  gone_withdraw : (gone (Withdraw ∷ Quit 1 ∷ [])).doing ≡ effect.Nothing
  gone_withdraw_stands : (gone (Withdraw ∷ Quit 1 ∷ [])).standing ≡ 1 ∷ 1 ∷ 0 ∷ 0 ∷ []
  gone_create : (gone (Create 0 ∷ Quit 1 ∷ [])).reading ≡ None ∷ None ∷ None ∷ None ∷ []
  gone_create_nothing : (gone (Create 0 ∷ Quit 1 ∷ [])).doing ≡ effect.Nothing
  gone_create_stands : (gone (Create 0 ∷ Quit 1 ∷ [])).standing ≡ 1 ∷ 1 ∷ 0 ∷ 0 ∷ []
  gone_quit : (gone (Quit 0 ∷ [])).replying ≡ Some 4
  gone_send : (sends_up 0 (Some 0) (Some 2)).effect ≡ effect.Fork 1 (record { object = 1; name = 0; parameter = Some 4 })
  gone_call : standing (sends_up 1 (Some 0) (Some 2)).manager ≡ 2 ∷ 1 ∷ 0 ∷ 0 ∷ []
  gone_set : (gone (Set 0 9 ∷ Quit 1 ∷ [])).reading ≡ Some 9 ∷ None ∷ None ∷ None ∷ []

pub making_cases : Making
unfolding all first is_least join dominates fate_of sum is_nil_or0 used_of with_register popped settled concluded started charged written created called forked sent operated stepped after_at
making_cases =
    record {
      create = refl;
      create_versions = refl;
      create_methods = refl;
      create_above = refl;
      create_number = refl;
      create_first = refl;
      create_first_number = refl;
      create_stands = refl;
      second = refl;
      fourth = refl;
      fifth = refl;
      fifth_nothing = refl;
      fifth_stands = refl;
      gap = refl;
      all-withdrawn = refl;
      none_used = refl;
      used_above_lem = refl;
      unused_below = refl;
      at_12 = refl;
      at_13 = refl;
      at_13_nothing = refl;
      at_13_leaves = refl;
      withdraw_at_15 = refl;
      withdraw_at_16 = refl;
      withdraw = refl;
      withdraw_stands = refl;
      create_below = refl;
      create_below_nothing = refl;
      withdraw_below = refl;
      withdraw_below_stands = refl;
      fork_there = refl;
      fork_unmade = refl;
      fork_withdrawn = refl;
      discard_there = refl;
      discard_unmade = refl;
      discard_withdrawn = refl;
      gone_read = refl;
      gone_write = refl;
      gone_write_stands = refl;
      gone_withdraw = refl;
      gone_withdraw_stands = refl;
      gone_create = refl;
      gone_create_nothing = refl;
      gone_create_stands = refl;
      gone_quit = refl;
      gone_send = refl;
      gone_call = refl;
      gone_set = refl;
    }
