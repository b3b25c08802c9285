-- What holds at first. Assumes nothing.
use Prim.Native.Nat.{ℕ, ◌≤◌, ◌<◌}
use mathlib.Core.Path.{◌≡◌, refl, ap}
use mathlib.Core.Bool.{not}
use mathlib.Core.List.{List, []}
use native.Mathlib.Omega.{arith}
use borrow.Author.Tests.{lt-ltb, le-ltb}
use lib.Dec.{eqb, ltb}
use lib.ListN.{get_or, get_or-eq_default}
use Rattle.lists.specs.Range.{first}
use Rattle.session.specs.Limits.{fields, made_objects}
use Rattle.session.specs.Meaning.{made_number, field_of}
use Rattle.session.specs.Record.{byte_of}
use Rattle.session.specs.Parts.{object_records, object_count}
use Rattle.session.specs.Program.{Program, program_of}
use Rattle.session.specs.Value.{Value}
use Rattle.std.specs.Prelude.{None, Some}
use Rattle.lists.proofs.Laws.Lists.{holds, fails, truth}
use Rattle.session.proofs.Laws.Emptied.{nil_field}
use Rattle.scripts.specs.Value.{number_in}
use Rattle.scripts.specs.Existence.{existence, own_script, initially, is_there, used_of}

-- a field is at first what the session says
pub first_field : (p : Program) (o k : ℕ) → k < fields → initially p o k ≡ p.field o k
unfolding initially
first_field p o k h = rw (lt-ltb k fields h) refl

-- each object of the session is there, with its own methods
pub first_there : (s : List ℕ) (o : ℕ) → o < object_count s → initially (program_of s) o existence ≡ Some (own_script o)
unfolding initially program_of
first_there s o h = rw (lt-ltb o (object_count s) h) refl

-- no other object has a value
pub first_none : (s : List ℕ) (o k : ℕ) → object_count s ≤ o → initially (program_of s) o k ≡ None
unfolding initially program_of
first_none s o k h =
    let none : field_of s o k ≡ None =
    nil_field (get_or (object_records s) o []) k (ap (λ rec. byte_of rec 3) (get_or-eq_default (object_records s) [] h)) in
    rw (none, le-ltb o (object_count s) h) (elim (truth (ltb k fields)) [
      | holds e ↦ rw e refl
      | fails e ↦ rw e refl
    ])

-- how many numbers of a level are used depends on what is read of their existence
pub used_reads : (read read' : ℕ → ℕ → Value) (l : ℕ) → ((i : ℕ) → i < made_objects → read (made_number l i) existence ≡ read' (made_number l i) existence) → used_of read l ≡ used_of read' l
unfolding used_of first
used_reads read read' l e = rw (e 0 (omega arith), e 1 (omega arith), e 2 (omega arith), e 3 (omega arith)) refl

-- an object is there where its script is not 0
pub there_script : (v : Value) → not (eqb (number_in v) 0) ≡ is_there v
there_script None = refl
there_script (Some n) = refl
