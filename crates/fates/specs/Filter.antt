-- The message filter: what becomes of a message. Assumes nothing.
-- Laws (`proofs/Laws/Fate`): the cases one by one (`fate_called`, `fate_blocked`, `fate_discarded`, `fate_forked`); a fork goes to a
-- present level strictly above the manager's (`fate_rises`); a message upward from an object at the manager's level is forked at the
-- receiver's (`fate_own`); the receiver lies under the sender, the manager or the level of the fork (`fate_covers`).
use Rattle.std.specs.Prelude.{ℕ, cond, eqb}
use Rattle.dominance.specs.Order.{Dominance}
use Rattle.dominance.specs.Join.{join}
use Rattle.fates.specs.declared.Fate.{Fate}
use Rattle.fates.specs.declared.Fate.TheVariants.{Call, Discard, Block, Fork}

-- "o1 strictly below o2: reply NIL always. Let u be the least upper bound of m and o2's level. If u is m, the method runs as a frame and
-- its reply is thrown away. .. Otherwise a manager is forked at u."
abbrev pub upward : ℕ → ℕ → Fate
upward m u = cond (eqb u m) Discard (Fork u)

-- a message from an object at level l1 to one at level l2, sent by a manager at level m:
-- "Equal levels, or o1 strictly above o2: o2's method runs as a new frame; its reply returns." "Incomparable: reply NIL, nothing runs."
unfoldable pub fate_of : ℕ → Dominance → ℕ → ℕ → ℕ → Fate
fate_of n dom m l1 l2 = cond (dom l1 l2) Call (cond (dom l2 l1) (upward m (join n dom m l2)) Block)
