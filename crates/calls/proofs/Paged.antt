-- What the page entry answers of session W, and of requests that a question ends, computed from the definitions. Assumes nothing.
use Prim.Native.Nat.{ℕ}
use mathlib.Core.Path.{◌≡◌, refl}
use mathlib.Core.List.{List, [], ◌∷◌}
use lib.ListN.{length, get_or, take, replicate}
use Rattle.session.specs.SessionW.{session_w}
use Rattle.model.specs.Limits.{result_bytes, page_bytes}
use Rattle.model.proofs.Computing.{computing}
use Rattle.text.specs.Text.{hex_in, aligned_in, front_of, line_of, total_line, average_line, sum_of, levels_in, page_of}
use Rattle.calls.specs.Page.{page_refusal, Paged, paged}
use Rattle.text.proofs.Examples.{codes}
use Rattle.calls.proofs.Answering.{answering}

-- what the buffers hold at first
abbrev old : ℕ
old = 7

-- a session and a clearance, with a result buffer and a page buffer of so many bytes
abbrev asked : List ℕ → ℕ → ℕ → ℕ → Paged
asked s clearance bytes pages =
    paged (record { session = s; clearance = clearance; work = []; buffer = replicate bytes old }) (replicate pages old)

-- number, place, both counts, both buffers' lengths, and what stands behind what was written in them
abbrev summary : Paged → List ℕ
summary a =
    a.number
    ∷ a.place
    ∷ a.count
    ∷ a.page_count
    ∷ length a.buffer
    ∷ length a.page
    ∷ get_or a.buffer a.count 0
    ∷ get_or a.page a.page_count 0
    ∷ []

pub record Answered : Type 0 where
  run : summary (asked session_w 1 result_bytes page_bytes) ≡ 0 ∷ 0 ∷ 80 ∷ 140 ∷ 5136 ∷ 7420 ∷ old ∷ old ∷ []
  page : take 140 (asked session_w 1 result_bytes page_bytes).page
      ≡ codes "00000000 0 0  1   1   2   5\n10000000 1 0  2   1   1   5\nTOTAL                    10\nLEVEL 0           5       0\nLEVEL 1           5       0\n"
  lower_page : take 84 (asked session_w 0 result_bytes page_bytes).page
      ≡ codes "00000000 0 0  1   1   2   5\nTOTAL                     5\nLEVEL 0           5       0\n"
  short_page : summary (asked session_w 1 result_bytes 7419) ≡ 16 ∷ 0 ∷ 0 ∷ 0 ∷ 5136 ∷ 7419 ∷ old ∷ old ∷ []
  both_short : summary (asked session_w 1 5135 7419) ≡ 11 ∷ 0 ∷ 0 ∷ 0 ∷ 5135 ∷ 7419 ∷ old ∷ old ∷ []
  no_level : summary (asked session_w 2 5135 7419) ≡ 9 ∷ 0 ∷ 0 ∷ 0 ∷ 5135 ∷ 7419 ∷ old ∷ old ∷ []
  no_session : summary (asked [] 2 5135 7419) ≡ 1 ∷ 0 ∷ 0 ∷ 0 ∷ 5135 ∷ 7419 ∷ old ∷ old ∷ []

pub answered : Answered
unfolding computing answering codes hex_in aligned_in front_of line_of total_line average_line sum_of levels_in page_of page_refusal paged
answered =
    record {
      run = refl;
      page = refl;
      lower_page = refl;
      short_page = refl;
      both_short = refl;
      no_level = refl;
      no_session = refl;
    }
