use Rattle.fields.specs.Reads.{script_found}
use Rattle.fields.proofs.reads.Sight.script_here.Goals as goal

pub returns-then-self : goal.returns-then-self
unfolding script_found
returns-then-self c = rw c.if-self.true c.own_script.ensures

pub returns-else-self : goal.returns-else-self
unfolding script_found
returns-else-self c = rw c.if-self.false c.script_in.ensures
