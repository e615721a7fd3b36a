-- What a pointer owns: nothing where it is null, and else a value, at a pointer that may be compared with null. Assumes `Logic`.
use Rattle.std.proofs.Common.{◌≡◌, ℕ, List, ◌∷◌, refl}
use seplogic.Ra.Ura.{Ura}
use mir.Raw.{raw as bare}
use base.Fml.{Fml}
use base.Fraction.{full_share}
use base.Logic.{via, fst∗, snd∗, never, guard_i}
use types.Logic.{Logic, sem}
use types.Kit.{Item, Goal, Seq, ‵, given, use1, learn, feq_l, ◌$◌}
use contract.Monad.{fact_use}
use denote.Memory.{lone}
use denote.RattleType.{RattleType}
use denote.RawPtr.{Ptr, block_ptr, null_ptr, lies_at, Testable, in_a_block}
use Rattle.std.proofs.GlobalToken.{dealloc_token-Testable}
use Rattle.std.specs.declared.option.Option.{Option}
use Rattle.std.specs.declared.option.Option.TheVariants.{None, Some}
use Rattle.std.specs.contracts.impls.GlobalAllocator.TheImpl.{ghosts}
use Rattle.std_alloc.specs.Box.Ownership.{box_owns}
use Rattle.c_handles.specs.Owned.{heap, owned_at}

module _ (R : RattleType) where
  abbrev pub boxed_at : ℕ → ℕ → R.Denot → Fml
  boxed_at b o = box_owns (ghosts.dealloc_token heap) R (block_ptr b o)

  abbrev freed_at : Ptr → Fml
  freed_at = ghosts.dealloc_token heap (bare (lone R.mir))

  module _ {M : Type 1} {𝓤 : Ura M} {𝓛 : Logic 𝓤} {K : Type 0} {Γ : List (Item 𝓤)} {G : Goal 𝓤 𝓛.H} where
    pub null_or_boxed : K → (p : Ptr) (held : Option R.Denot) → (p ≡ null_ptr → held ≡ None → Seq K 𝓛 Γ G)
        → ((b o : ℕ) (x : R.Denot) → p ≡ block_ptr b o → held ≡ Some x → Testable (block_ptr b o) → Seq K 𝓛 (‵ (boxed_at b o x) ∷ Γ) G)
        → Seq K 𝓛 (‵ (owned_at R p held) ∷ Γ) G
    null_or_boxed t p None none one = feq_l t (λ at. none at refl)
    null_or_boxed t p (Some x) none one =
        in_a_block t p (λ q. box_owns (ghosts.dealloc_token heap) R q x) (fst∗ 𝓤 (never 𝓤) (sem 𝓛 (freed_at null_ptr))) (λ b o at.
        let q = block_ptr b o in let first = snd∗ 𝓤 (sem 𝓛 (lies_at R full_share q x)) (sem 𝓛 (freed_at q)) in
        use1 𝓛 (given (Testable q) (‵ (boxed_at b o x))) (fact_use 𝓤 (Testable q) (via 𝓤 _ first (dealloc_token-Testable 𝓛 heap (bare (lone R.mir)) q)) (guard_i 𝓤 (Testable q) (sem 𝓛 (boxed_at b o x)))) $
        learn t (λ test. one b o x at refl test))
