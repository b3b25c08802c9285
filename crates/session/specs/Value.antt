-- "A field, register, parameter or reply is NIL or a number": `None` is NIL. Assumes nothing.
use Rattle.std.specs.Prelude.{ℕ, Option}

abbrev pub Value : Type 0
Value = Option ℕ
