use Prim.Native.Nat.{ℕ}
use mathlib.Core.Path.{◌≡◌, refl, sym, ◌∙◌}
use mathlib.Core.Bool.{Bool, true}
use mathlib.Core.List.{List}
use Rattle.fields.specs.Reads.{script_found}
use Rattle.fields.proofs.Laws.Reads.{own_found, told_small}
use Rattle.fields.proofs.reads.Sight.script_of.Goals as goal
use Rattle.fields.proofs.reads.Sight.script_of.Goals.{then-self-via-then-self, then-self-via-else-self+then-own}

-- where no existence was written
same_unchanged : (current cache : List ℕ) (own u : Bool) (o : ℕ) → u ≡ true → script_found current cache own u o ≡ script_found current cache true u o
unfolding script_found
same_unchanged current cache own u o e = rw e refl

pub returns-then-self : goal.returns-then-self
returns-then-self c =
    let g = c.args in
    let x = g.self.now in
    let same : script_found x.current.now x.cache.now g.own x.unchanged g.object ≡ script_found x.current.now x.cache.now true x.unchanged g.object = elim c.then-self.branch [
      | then-self-via-then-self w ↦ same_unchanged _ _ _ _ _ w.if-self.true
      | then-self-via-else-self+then-own w ↦ rw w.if-own.true refl
    ] in
    rw (same, c.script_here.ensures) (sym (told_small _ (own_found _ _ _ _ c.requires.current_small c.requires.object)))

pub returns-then-not-is_known : goal.returns-then-not-is_known
unfolding script_found
returns-then-not-is_known c = let k = sym c.is_known.ensures ∙ c.if-not-is_known.true in rw (c.if-self.false, c.if-own.false, k) refl

pub returns : goal.returns
unfolding script_found
returns c =
    let k = sym c.is_known.ensures ∙ c.if-not-is_known.false in
    rw (c.if-self.false, c.if-own.false, k, c.script_in.ensures) (sym (told_small _ (c.requires.cache_small _ c.requires.object)))
