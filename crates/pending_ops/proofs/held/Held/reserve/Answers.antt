-- The goals of `reserve` that are answered by hand.
use Rattle.std.proofs.Common.{◌≡◌, ◌∙◌, List, sym, subst}
use Rattle.bg_types.specs.Identifier.{Identifier}
use Rattle.pending_ops.specs.declared.chains.Slot.{Slot}
use Rattle.pending_ops.specs.Chains.{AreLinked}
use Rattle.pending_ops.proofs.held.Held.reserve.Goals as goal

AreLinked-same : (slots new_slots : List (Identifier × Slot)) (firsts new_firsts : List (Identifier × Identifier)) (released new_released : List Identifier)
    → new_slots ≡ slots → new_firsts ≡ firsts → new_released ≡ released → AreLinked slots firsts released → AreLinked new_slots new_firsts new_released
AreLinked-same slots new_slots firsts new_firsts released new_released s f r h =
    subst (λ (xs : List (Identifier × Slot)). AreLinked xs new_firsts new_released) (sym s)
    (subst (λ (xs : List (Identifier × Identifier)). AreLinked slots xs new_released) (sym f) (subst (λ (xs : List Identifier). AreLinked slots firsts xs) (sym r) h))

pub invariant_of-self : goal.invariant_of-self
invariant_of-self c =
    let e = c.make_room.ensures in
    (AreLinked-same _ _ _ _ _ _ e.slots e.firsts e.released c.self.invariant.0, (e.queue ∙ c.self.invariant.1.0, e.kept c.self.inside.room c.self.invariant.1.1))

pub invariant_of-self-2 : goal.invariant_of-self-2
invariant_of-self-2 c =
    let e = c.make_room.ensures in
    (AreLinked-same _ _ _ _ _ _ e.slots e.firsts e.released c.self.invariant.0, (e.queue ∙ c.self.invariant.1.0, c.in_ok-make_room.ensures.ok))
