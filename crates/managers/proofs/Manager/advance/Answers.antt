use Prim.Native.Nat.{ℕ, ◌<◌}
use mathlib.Core.Path.{◌≡◌, refl, sym, ◌∙◌, ap, subst}
use mathlib.Core.Bool.{Bool, true, ◌&&◌}
use mathlib.Core.List.{List}
use lib.Dec.{ltb}
use native.Mathlib.Omega.{arith}
use Rattle.session.specs.Value.{Value}
use Rattle.frames.proofs.Laws.Frames.{object_fits, place_fits}
use Rattle.cores.specs.Core.{is_done, is_nothing}
use Rattle.cores.specs.Moves.{causing}
use Rattle.operations.specs.Operations.{Operated}
use Rattle.cores.specs.declared.Core.{Core}
use Rattle.cores.specs.declared.Effect.{Effect}
use Rattle.cores.specs.declared.Effect.TheVariants.{Nothing, End, Write, Read, Change, Fork, Call, Pop}
use Rattle.managers.proofs.Laws.Advance.{unfinished_internal, turning_start, turning_made, turning_pushed, turning_popped}
use Rattle.managers.proofs.Laws.Closing.{lowering_start}
use Rattle.managers.proofs.Laws.Done.{advance_done, advanced_self, self_able}
use Rattle.managers.proofs.Manager.advance.Goals as goal

-- a core with nothing left to do is as it was where that is said once more
calm : (c : Core) → c.effect ≡ Nothing → causing c Nothing ≡ c
calm c q = ap (causing c) (sym q)

-- an effect of another tag than a call's and a pop's
other : (e : Effect) → ((o w : ℕ) (v : Value) → e ≡ Call o w v → ⊥) → ((v : Value) → e ≡ Pop v → ⊥) → is_done e ≡ true
other Nothing h k = refl
other End h k = refl
other (Write object field value) h k = refl
other (Read object field) h k = refl
other Change h k = refl
other (Fork level object name parameter) h k = refl
other (Call object way parameter) h k = absurd (h object way parameter refl)
other (Pop reply) h k = absurd (k reply refl)

-- the next step, made of a core of which it was said once more that nothing is left to do
module _ (s current cache : List ℕ) (all unchanged : Bool) (limit : ℕ) (c q r : Core) (b : Bool) (may : b ≡ (is_nothing c.effect && ltb c.steps limit)) (yes : b ≡ true) (is : q ≡ causing c Nothing) (o : Operated s current cache all unchanged q r) where
  made : (c.effect ≡ Nothing) × (c.steps < limit) × Operated s current cache all unchanged c r
  made =
      let go = unfinished_internal c limit b may yes in
      (go.0, go.1, subst (λ z. Operated s current cache all unchanged z r) (is ∙ calm c go.0) o)

pub loop-f-init : goal.loop-f-init
loop-f-init c =
    let is = c.causing-core.ensures in
    (turning_start _ _ _ _ _ _ _ _ _ _ (self_able _ _ _ _ _ _ _ is c.requires.advanceable) (omega (arith, c.requires.steps_lt_limit.0, ap (λ z. z.steps) is), c.requires.steps_lt_limit.1) (ap (λ z. z.effect) is), ap (λ z. is_done z.effect) is)

pub set_aside-requires : goal.set_aside-requires
set_aside-requires c =
    let s = c.args.session.now in
    let top = c.operate-core.ensures.sits.top in
    (object_fits s.bytes.now _ s.accepted top, place_fits s.bytes.now _ s.accepted top)

pub loop-f-preserved-in-Call : goal.loop-f-preserved-in-Call
loop-f-preserved-in-Call c =
    let o = made _ _ _ _ _ _ _ _ _ _ c.may_advance.ensures c.loop-f-test.true c.causing-quiet.ensures c.operate-core.ensures in
    (turning_pushed _ _ _ _ _ _ _ _ _ _ _ _ c.loop-f.invariant.0 o.0 o.1 _ o.2 _ _ _ c.in-Call.is _ (c.set_aside.ensures.is, c.set_aside.ensures.waits _ c.args.session.now.accepted c.operate-core.ensures.sits.top) _ c.pushed-core.ensures, ap (λ z. is_done z.effect) c.pushed-core.ensures.core_is)

pub loop-f-preserved-in-Pop : goal.loop-f-preserved-in-Pop
loop-f-preserved-in-Pop c =
    let o = made _ _ _ _ _ _ _ _ _ _ c.may_advance.ensures c.loop-f-test.true c.causing-quiet.ensures c.operate-core.ensures in
    (turning_popped _ _ _ _ _ _ _ _ _ _ _ _ c.loop-f.invariant.0 o.0 o.1 _ o.2 _ c.in-Pop.is _ c.popped-core.ensures, ap (λ z. is_done z.effect) c.popped-core.ensures.core_is)

pub loop-f-preserved : goal.loop-f-preserved
loop-f-preserved c =
    let o = made _ _ _ _ _ _ _ _ _ _ c.may_advance.ensures c.loop-f-test.true c.causing-quiet.ensures c.operate-core.ensures in
    (turning_made _ _ _ _ _ _ _ _ _ _ _ _ c.loop-f.invariant.0 o.0 o.1 _ o.2, other c.operate-core.result.effect c.in_default.not-Call c.in_default.not-Pop)

pub settled-core-requires : goal.settled-core-requires
settled-core-requires c = lowering_start _ _ _ _ _ _ _ _ _ _ _ _ c.loop-f.invariant.0 c.loop-f.invariant.1

pub returns : goal.returns
returns c =
    let x = c.settled-core.ensures in
    advanced_self _ _ _ _ _ _ _ _ _ c.causing-core.ensures
    (advance_done _ _ _ _ _ _ _ _ _ _ _ _ c.loop-f.invariant.0 (sym c.may_advance.ensures ∙ c.loop-f-test.false) _ x.lowering x.still _ x.closed)
