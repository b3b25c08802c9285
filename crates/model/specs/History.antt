-- What is kept of a manager that has ended. Assumes nothing.
use Rattle.std.specs.Prelude.{ℕ, ◌+◌, ◌*◌, ◌^◌, ◌≤◌, ◌<◌, List, [], ◌∷◌, map, ltb}
use Rattle.session.specs.Value.{Value}
use Rattle.lists.specs.Lists.{select}
use Rattle.scripts.specs.declared.Ending.{Ending}
use Rattle.scripts.specs.Limits.{max_writes, max_forks, max_script_steps}
use Rattle.scripts.specs.State.{Manager}
use Rattle.model.specs.Limits.{max_managers}
use Rattle.lists.specs.Changed.{last_or}
use Rattle.model.specs.Fork.{Fork}

-- what kind 6 shows of it, "ending, .. writes, .. fork stamp, .. first write stamp (the manager's at its start), .. last (at its end), ..
-- script steps", and its reply
pub record History : Type 0 where
  pub ending : Ending
  pub writes : ℕ
  pub stamp : ℕ
  pub first : ℕ
  pub last : ℕ
  pub steps : ℕ
  pub reply : Value

-- its numbers are within the limits of a run: a fork stamp of 32 bits, "at most 16 writes", "256 script steps", and 32 managers of a level that
-- each grow its write stamp by 15 at most
pub record Limited (h : History) : Type 0 where
  pub stamp : h.stamp < 2 ^ 32
  pub writes : h.writes ≤ max_writes
  pub first : h.first ≤ h.last
  pub last : h.last ≤ max_managers * (max_forks + 1)
  pub steps : h.steps ≤ max_script_steps

abbrev pub AllLimited : List History → Type 0
AllLimited [] = Unit
AllLimited (h ∷ hs) = Limited h × AllLimited hs

-- the history of the manager of a fork
abbrev pub history_of : Fork → Manager → History
history_of x m =
    record {
      ending = m.ending;
      writes = m.writes;
      stamp = x.stamp;
      first = m.first;
      last = m.stamp;
      steps = m.steps;
      reply = m.reply;
    }

-- "the end stamp of the largest smaller fork stamp there, or 0", of histories in stamp order
unfoldable pub end_before : ℕ → List History → ℕ
end_before x ended = last_or 0 (map (λ h. h.last) (select (λ h. ltb h.stamp x) ended))
