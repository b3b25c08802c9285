-- Examples, computed from the definitions. Assumes nothing.
use Rattle.std.proofs.Common.{◌≡◌, ℕ, List, [], ◌∷◌, refl}
use Rattle.std.specs.Prelude.{None, Some}
use Rattle.scripts.specs.Existence.{existence, withdrawn}
use Rattle.model.specs.Level.{newest_to}
use Rattle.versions.specs.Log.{version_of, log_of}

-- the work slice with the log of level 0 after: object 0 field 0 = 9 at write stamp 1, object 1 field 1 = 5 at 2, object 0 field 0 = NIL at 3
abbrev numbers : List ℕ
numbers = 3 ∷ 9 ∷ 655365 ∷ 5 ∷ 6 ∷ 0 ∷ []

log_is : log_of numbers 0 3 ≡
    record { stamp = 3; object = 0; field = 0; value = None }
    ∷ record { stamp = 2; object = 1; field = 1; value = Some 5 }
    ∷ record { stamp = 1; object = 0; field = 0; value = Some 9 }
    ∷ []
unfolding log_of version_of
log_is = refl

-- a read up to write stamp 2 does not see the third version
below_third : newest_to 2 (Some 7) 0 0 (log_of numbers 0 3) ≡ Some 9
unfolding log_of version_of newest_to
below_third = refl

-- no version of that field: the initial value
none_there : newest_to 3 (Some 7) 1 0 (log_of numbers 0 3) ≡ Some 7
unfolding log_of version_of newest_to
none_there = refl

-- the work slice with the log of level 0 after: object 32 is made at write stamp 1, with the methods of object 0, and withdrawn at 2
abbrev changes : List ℕ
changes = 17170435 ∷ 1 ∷ 17170437 ∷ 0 ∷ []

-- a read up to write stamp 1 sees the object there, one up to 2 sees it withdrawn
still_there : newest_to 1 None 32 existence (log_of changes 0 2) ≡ Some 1
unfolding log_of version_of newest_to
still_there = refl

no_longer_there : newest_to 2 None 32 existence (log_of changes 0 2) ≡ withdrawn
unfolding log_of version_of newest_to
no_longer_there = refl
