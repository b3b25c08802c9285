-- The answer of the depth-first entry, where every question that it puts says yes. Assumes nothing.
use Prim.Native.Nat.{ℕ, ◌≤◌}
use mathlib.Core.Path.{◌≡◌, sym}
use mathlib.Core.Bool.{true}
use mathlib.Core.List.{List, []}
use borrow.Author.Tests.{leb-true}
use lib.ListN.{length}
use Rattle.model.specs.Limits.{result_bytes}
use Rattle.calls.specs.Entries.{Request, entry_refusal, deep, Answers}
use Rattle.theorems.proofs.Laws.Reader.Answers.{passes, deep_is}
use Rattle.depth_first.specs.Runs.{Shown}

abbrev pub request : List ℕ → ℕ → List ℕ → Request
request s c b = record { session = s; clearance = c; work = []; buffer = b }

module _ (s : List ℕ) (c : ℕ) (b : List ℕ) (yes : entry_refusal true (request s c b) ≡ 0) where
  pub roomy : result_bytes ≤ length b
  roomy = leb-true result_bytes (length b) (passes true (request s c b) yes).room

  pub answered : (count : ℕ) (b' : List ℕ) → Shown s c b b' count → Answers (deep (request s c b)) 0 0 count [] b'
  answered count b' t =
      rw (t.written.number, t.written.buffer) (sym (deep_is (request s c b) yes))
