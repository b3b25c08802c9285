-- The page of an accepted session fits question 16's buffer. Assumes nothing.
use Prim.Native.Nat.{ℕ, ◌≤◌}
use mathlib.Core.Path.{◌≡◌, ap}
use mathlib.Core.List.{List}
use native.Mathlib.Omega.{arith}
use lib.ListN.{length}
use Rattle.session.specs.Meaning.{level_of, root_object, root_of}
use Rattle.session.specs.Program.{program_of}
use Rattle.session.specs.Questions.{verdict_of, Accepted}
use Rattle.model.specs.Limits.{page_bytes}
use Rattle.model.specs.DepthFirst.{depth_first}
use Rattle.model.specs.Result.{result_of_depth_first, histories_shown}
use Rattle.theorems.proofs.Laws.Reader.Bytes.{histories_found}
use Rattle.depth_first.specs.Runs.{bytes_shown}
use Rattle.text.specs.Text.{histories_in, page_of}
use Rattle.text.proofs.Laws.Lengths.{page_length, levels_few}
use Rattle.page_theorems.proofs.Laws.Few.{histories_few, few, ended_few}

module _ (s : List ℕ) (a : verdict_of s ≡ Accepted) where
  -- question 16's buffer has room
  pub page_fits : (c : ℕ) → length (page_of (bytes_shown s c)) ≤ page_bytes
  page_fits c =
      let p = program_of s in
      let r = result_of_depth_first p (depth_first p (root_of s)) in
      let found : length (histories_in (bytes_shown s c)) ≡ length (histories_shown p r c) = ap length (histories_found p (level_of s (root_object s)) r c) in
      omega (arith, page_length (bytes_shown s c), found, histories_few p r c (few s a) (ended_few s a), levels_few (bytes_shown s c))
