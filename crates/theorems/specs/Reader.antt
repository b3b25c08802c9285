-- The comparison of results record by record and that byte by byte come to the same. The proof is in proofs/Demands.antt. Assumes nothing.
use Rattle.std.specs.Prelude.{ℕ, ◌≡◌}
use Rattle.session.specs.Program.{Program}
use Rattle.model.specs.Result.{Result, bytes_of}
use Rattle.calls.specs.Reader.{SameRecords}

-- Of results it comes to the same: the bytes of any two, of any programs and for any clearances, are equal exactly where their records are
abbrev pub ComparedByRecords : Type 0
ComparedByRecords =
    (p p' : Program) (rootLevel rootLevel' : ℕ) (r r' : Result) (c c' : ℕ)
    → (bytes_of p rootLevel r c ≡ bytes_of p' rootLevel' r' c' → SameRecords (bytes_of p rootLevel r c) (bytes_of p' rootLevel' r' c'))
    × (SameRecords (bytes_of p rootLevel r c) (bytes_of p' rootLevel' r' c') → bytes_of p rootLevel r c ≡ bytes_of p' rootLevel' r' c')
