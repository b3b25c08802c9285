use Prim.Native.Nat.{◌<◌}
use mathlib.Core.Path.{◌≡◌, sym, ◌∙◌}
use native.Mathlib.Omega.{arith}
use borrow.Author.Tests.{lt-ltb}
use Rattle.session.specs.Limits.{max_objects}
use Rattle.session.specs.Program.{program_of}
use Rattle.session.proofs.Laws.Verdict.{accepted}
use Rattle.session.proofs.Laws.Numbering.{few_objects}
use Rattle.scripts.specs.Existence.{existence}
use Rattle.scripts.proofs.Laws.Existence.{first_field, first_there}
use Rattle.fields.proofs.first_of.Goals as goal

pub first_existence-requires : goal.first_existence-requires
first_existence-requires c =
    omega (arith, c.requires.0, few_objects c.args.session.now.bytes.now (accepted c.args.session.now.bytes.now c.args.session.now.accepted).three)

pub returns-then-k-lt-FIELDS : goal.returns-then-k-lt-FIELDS
returns-then-k-lt-FIELDS c =
    c.field_of.ensures ∙ sym (unfold program_of in first_field (program_of c.args.session.now.bytes.now) c.args.object c.args.k c.if-k-lt-FIELDS.true)

pub returns-else-k-lt-FIELDS : goal.returns-else-k-lt-FIELDS
returns-else-k-lt-FIELDS c =
    let t = c.args.session.now.bytes.now in
    let k : c.args.k ≡ existence = omega (arith, c.requires.1, c.if-k-lt-FIELDS.false) in
    let low : c.args.object < max_objects = omega (arith, c.requires.0, few_objects t (accepted t c.args.session.now.accepted).three) in
    rw (k, first_there t c.args.object c.requires.0) (rw (lt-ltb c.args.object max_objects low) at c.first_existence.ensures)
