-- Whether a manager's last call asks. Assumes nothing.
use Prim.Native.Nat.{ℕ}
use mathlib.Core.Path.{◌≡◌, refl}
use mathlib.Core.Bool.{false}
use Rattle.cores.specs.Core.{is_asking}
use Rattle.cores.specs.declared.Effect.{Effect}
use Rattle.cores.specs.declared.Effect.TheVariants.{Nothing, End, Write, Read, Change, Fork, Call, Pop}

-- is a value asked for, or a CREATE or WITHDRAW to be made
pub data Asking (e : Effect) : Type 0 where
  asks : (o k : ℕ) → e ≡ Read o k → Asking e
  changes : e ≡ Change → Asking e
  not_asks : is_asking e ≡ false → Asking e

pub asked : (e : Effect) → Asking e
asked Nothing = not_asks refl
asked End = not_asks refl
asked (Write o k v) = not_asks refl
asked (Read o k) = asks o k refl
asked Change = changes refl
asked (Fork u o b v) = not_asks refl
asked (Call o way parameter) = not_asks refl
asked (Pop v) = not_asks refl

-- none is where the code has met another tag than a question's, and another than a change's
pub asks_nothing : (e : Effect) → ((o k : ℕ) → e ≡ Read o k → ⊥) → (e ≡ Change → ⊥) → is_asking e ≡ false
asks_nothing e h k = by (asked e)
  where
    by : Asking e → is_asking e ≡ false
    by (asks o i is) = absurd (h o i is)
    by (changes is) = absurd (k is)
    by (not_asks q) = q
