-- Laws of a record: where its bytes stand, which step it is. Assumes nothing.
use Prim.Native.Nat.{ℕ, zero, suc, ◌+◌, ◌-◌, ◌*◌, ◌≤◌, ◌<◌}
use mathlib.Core.Path.{◌≡◌, refl, sym, ◌∙◌, ap}
use mathlib.Core.Bool.{true, false}
use mathlib.Core.List.{List, []}
use mathlib.Core.Logic.{◌⊎◌, inl, inr}
use native.Mathlib.Omega.{arith}
use borrow.Author.Tests.{ne_eqb}
use lib.ListN.{length, get_or, get_or-eq_default}
use lib.Seq.{get_or-take, get_or-drop}
use Rattle.session.specs.Limits.{record_bytes}
use Rattle.session.specs.Record.{Record, record_at, record_count, records_of, byte_of, word_of, operations, step_of, holds as has, field_in, parameter_of, records_from}
use Rattle.std.specs.Prelude.{None, Some}
use Rattle.lists.proofs.Laws.Lists.{length-tab, get_d_tab}
use Rattle.session.specs.declared.Step.TheVariants.{End, Set, Add, Jump, Read, Write, Send, Quit, Create, Withdraw}

-- byte k of record r stands at 16 r + k
pub byte_is : (s : List ℕ) (r k : ℕ) → k < record_bytes → byte_of (record_at s r) k ≡ get_or s (16 * r + k) 0
unfolding record_at
byte_is s r k h = rw (get_or-take, get_or-drop)

-- the records, by number
pub records_length : (s : List ℕ) → length (records_of s) ≡ record_count s
unfolding records_of
records_length s = length-tab (record_count s) (record_at s)

pub record_is : (s : List ℕ) (r : ℕ) → r < record_count s → get_or (records_of s) r [] ≡ record_at s r
unfolding records_of
record_is s r h = get_d_tab [] (record_count s) (record_at s) r h

-- some records from one on, by number
pub from-length : (s : List ℕ) (a n : ℕ) → length (records_from s a n) ≡ n
unfolding records_from
from-length s a n = length-tab n (λ i. record_at s (a + i))

pub from_at : (s : List ℕ) (a n i : ℕ) → i < n → get_or (records_from s a n) i [] ≡ record_at s (a + i)
unfolding records_from
from_at s a n i h = get_d_tab [] n (λ i. record_at s (a + i)) i h

pub from_is : (s : List ℕ) (a e r : ℕ) → a ≤ r → r < e → get_or (records_from s a (e - a)) (r - a) [] ≡ record_at s r
from_is s a e r h l =
    let m : r - a < e - a = omega arith in
    let z : a + (r - a) ≡ r = omega arith in
    from_at s a (e - a) (r - a) m ∙ ap (record_at s) z

-- the values that are read off a record: a field's and the parameter's
module _ (rec : Record) where
  pub field_number : (k w : ℕ) → has rec k ≡ true → w ≡ word_of rec (4 + 4 * k) → Some w ≡ field_in rec k
  field_number k w h e = rw (h, e)

  pub field_nil : (k : ℕ) → has rec k ≡ false → None ≡ field_in rec k
  field_nil k h = rw h

  pub parameter_number : (w : ℕ) → byte_of rec 3 ≡ 1 → w ≡ word_of rec 4 → Some w ≡ parameter_of rec
  parameter_number w h e = rw (h, e)

  pub parameter_nil : (byte_of rec 3 ≡ 1 → ⊥) → None ≡ parameter_of rec
  parameter_nil h = rw (ne_eqb (byte_of rec 3) 1 h)

-- a number that is none of 1 to 9
pub no_operation : (x : ℕ)
    → (x ≡ 1 → ⊥) → (x ≡ 2 → ⊥) → (x ≡ 3 → ⊥) → (x ≡ 4 → ⊥) → (x ≡ 5 → ⊥) → (x ≡ 6 → ⊥) → (x ≡ 7 → ⊥) → (x ≡ 8 → ⊥) → (x ≡ 9 → ⊥)
    → (x ≡ 0) ⊎ (9 < x)
no_operation zero n1 n2 n3 n4 n5 n6 n7 n8 n9 = inl refl
no_operation (suc zero) n1 n2 n3 n4 n5 n6 n7 n8 n9 = absurd (n1 refl)
no_operation (suc (suc zero)) n1 n2 n3 n4 n5 n6 n7 n8 n9 = absurd (n2 refl)
no_operation (suc (suc (suc zero))) n1 n2 n3 n4 n5 n6 n7 n8 n9 = absurd (n3 refl)
no_operation (suc (suc (suc (suc zero)))) n1 n2 n3 n4 n5 n6 n7 n8 n9 = absurd (n4 refl)
no_operation (suc (suc (suc (suc (suc zero))))) n1 n2 n3 n4 n5 n6 n7 n8 n9 = absurd (n5 refl)
no_operation (suc (suc (suc (suc (suc (suc zero)))))) n1 n2 n3 n4 n5 n6 n7 n8 n9 = absurd (n6 refl)
no_operation (suc (suc (suc (suc (suc (suc (suc zero))))))) n1 n2 n3 n4 n5 n6 n7 n8 n9 = absurd (n7 refl)
no_operation (suc (suc (suc (suc (suc (suc (suc (suc zero)))))))) n1 n2 n3 n4 n5 n6 n7 n8 n9 = absurd (n8 refl)
no_operation (suc (suc (suc (suc (suc (suc (suc (suc (suc zero))))))))) n1 n2 n3 n4 n5 n6 n7 n8 n9 = absurd (n9 refl)
no_operation (suc (suc (suc (suc (suc (suc (suc (suc (suc (suc x)))))))))) n1 n2 n3 n4 n5 n6 n7 n8 n9 = inr (omega arith)

-- the step that is made of an operation byte and the operands read
module _ (rec : Record) where
  pub step_set : (a n : ℕ) → byte_of rec 3 ≡ 1 → a ≡ byte_of rec 4 → n ≡ word_of rec 8 → Set a n ≡ step_of rec
  unfolding step_of
  step_set a n o e0 e1 = rw (o, e0, e1)

  pub step_add : (a b : ℕ) → byte_of rec 3 ≡ 2 → a ≡ byte_of rec 4 → b ≡ byte_of rec 5 → Add a b ≡ step_of rec
  unfolding step_of
  step_add a b o e0 e1 = rw (o, e0, e1)

  pub step_jump : (a b : ℕ) → byte_of rec 3 ≡ 3 → a ≡ byte_of rec 4 → b ≡ byte_of rec 5 → Jump a b ≡ step_of rec
  unfolding step_of
  step_jump a b o e0 e1 = rw (o, e0, e1)

  pub step_read : (a b : ℕ) → byte_of rec 3 ≡ 4 → a ≡ byte_of rec 4 → b ≡ byte_of rec 5 → Read a b ≡ step_of rec
  unfolding step_of
  step_read a b o e0 e1 = rw (o, e0, e1)

  pub step_write : (a b : ℕ) → byte_of rec 3 ≡ 5 → a ≡ byte_of rec 4 → b ≡ byte_of rec 5 → Write a b ≡ step_of rec
  unfolding step_of
  step_write a b o e0 e1 = rw (o, e0, e1)

  pub step_send : (a b c : ℕ) → byte_of rec 3 ≡ 6 → a ≡ byte_of rec 4 → b ≡ byte_of rec 5 → c ≡ byte_of rec 6 → Send a b c ≡ step_of rec
  unfolding step_of
  step_send a b c o e0 e1 e2 = rw (o, e0, e1, e2)

  pub step_quit : (a : ℕ) → byte_of rec 3 ≡ 7 → a ≡ byte_of rec 4 → Quit a ≡ step_of rec
  unfolding step_of
  step_quit a o e0 = rw (o, e0)

  pub step_create : (a : ℕ) → byte_of rec 3 ≡ 8 → a ≡ byte_of rec 4 → Create a ≡ step_of rec
  unfolding step_of
  step_create a o e0 = rw (o, e0)

  pub step_withdraw : byte_of rec 3 ≡ 9 → Withdraw ≡ step_of rec
  unfolding step_of
  step_withdraw o = rw o

  pub step_end : (byte_of rec 3 ≡ 0) ⊎ (9 < byte_of rec 3) → End ≡ step_of rec
  unfolding step_of
  step_end (inl e) = rw e
  step_end (inr h) = sym (get_or-eq_default (operations rec) End h)
