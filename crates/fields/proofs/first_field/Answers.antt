use mathlib.Core.Path.{sym, ◌∙◌}
use native.Mathlib.Omega.{arith}
use Rattle.session.specs.Program.{program_of}
use Rattle.session.proofs.Laws.Verdict.{accepted}
use Rattle.session.proofs.Laws.Numbering.{few_objects}
use Rattle.session.proofs.Laws.Numbers.{number_low}
use Rattle.scripts.proofs.Laws.Existence.{first_field, first_none}
use Rattle.fields.proofs.first_field.Goals as goal

pub field_of-requires : goal.field_of-requires
field_of-requires c =
    (c.requires.0.accepted, c.requires.0.masks_are, number_low c.args.session.now c.requires.0.accepted c.args.object c.requires.1 c.if-object-lt-FIRST_MADE.true, c.requires.2)

pub returns-then-object-lt-FIRST_MADE : goal.returns-then-object-lt-FIRST_MADE
returns-then-object-lt-FIRST_MADE c =
    c.field_of.ensures ∙ sym (unfold program_of in first_field (program_of c.args.session.now) c.args.object c.args.k c.requires.2)

pub returns-else-object-lt-FIRST_MADE : goal.returns-else-object-lt-FIRST_MADE
returns-else-object-lt-FIRST_MADE c =
    sym (first_none c.args.session.now c.args.object c.args.k (omega (arith, few_objects c.args.session.now (accepted c.args.session.now c.requires.0.accepted).three, c.if-object-lt-FIRST_MADE.false)))
