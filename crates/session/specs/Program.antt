-- What a run takes from an accepted session, as one value; and what of it a level may see. Assumes nothing.
-- Law (`proofs/Laws/Program`): the program of a session emptied for a level is what that level sees of the session's program
-- (`emptied_program`).
use Rattle.std.specs.Prelude.{ℕ, cond, List}
use Rattle.dominance.specs.Order.{Dominance}
use Rattle.dominance.specs.Table.{dominates}
use Rattle.session.specs.Parts.{level_count, object_count, masks_of}
use Rattle.session.specs.Meaning.{level_of, field_of, step_at}
use Rattle.session.specs.Value.{Value}
use Rattle.std.specs.Prelude.{None}
use Rattle.session.specs.declared.Step.{Step}
use Rattle.session.specs.declared.Step.TheVariants.{End}

-- levels and their dominance, objects with their levels, first fields and methods
pub record Program : Type 0 where
  pub levels : ℕ
  pub dom : Dominance
  pub objects : ℕ
  pub level : ℕ → ℕ
  pub field : ℕ → ℕ → Value
  pub step : ℕ → ℕ → ℕ → Step

unfoldable pub program_of : List ℕ → Program
program_of s =
    record {
      levels = level_count s;
      dom = dominates (masks_of s);
      objects = object_count s;
      level = level_of s;
      field = field_of s;
      step = step_at s;
    }

-- what level c sees: all levels and the levels of all objects, but fields and methods only of the objects that it dominates
unfoldable pub seen_by : ℕ → Program → Program
seen_by c p =
    record {
      levels = p.levels;
      dom = p.dom;
      objects = p.objects;
      level = p.level;
      field = λ o k. cond (p.dom c (p.level o)) (p.field o k) None;
      step = λ o m j. cond (p.dom c (p.level o)) (p.step o m j) End;
    }
