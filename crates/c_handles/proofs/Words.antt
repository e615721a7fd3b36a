-- A struct whose one field is a pointer, and which owns more beside it: its machine value, and how it is taken apart and made.
-- Assumes `Logic`.
use Rattle.std.proofs.Common.{◌≡◌, List, [], ◌∷◌, ◌++◌, refl, subst, lit<}
use mathlib.Core.Bool.{true, ◌&&◌}
use lib.Dec.{T}
use seplogic.Ra.Ura.{Ura}
use mir.Syntax.{ty_ptr}
use mir.Val.{Val, vstruct, vcons, vnil, of_list, has_ty, WT}
use base.Fml.{Fml, fsep}
use types.Logic.{Logic}
use types.Kit.{Item, Goal, Seq, Step, step, ‵, ◌$◌, drop, fsplit, fjoin, fpick, fpack, feq_i, feq_l}
use denote.RattleType.{Valss}
use denote.RawPtr.{Ptr, RawPtr, block_ptr, null_ptr, ptr_val}
use denote.Steps.{nothing}
use denote.Struct.Struct.{Shape, Struct, within}

abbrev pub word : Ptr → Val
word p = vstruct (vcons (ptr_val p) vnil)

pub word_fits : (p : Ptr) → T (has_ty ty_ptr (ptr_val p) && true) × WT (word p)
word_fits (block_ptr b o) = (tt, (tt, tt))
word_fits null_ptr = (tt, (record { fits = lit< tt }, tt))

module _ (S : Shape) where
  abbrev pub one_field : Shape
  one_field = record S { fields = RawPtr ∷ [] }

  module _ {M : Type 1} {𝓤 : Ura M} {𝓛 : Logic 𝓤} {K : Type 0} {Γ : List (Item 𝓤)} {G : Goal 𝓤 𝓛.H} where
    pub taken_apart : K → (p : Ptr) (vs : List Val) (F : Fml) → (vs ≡ word p ∷ [] → Seq K 𝓛 (‵ F ∷ Γ) G)
        → Seq K 𝓛 (‵ (fsep ((Struct one_field).own_val (p, tt) vs) F) ∷ Γ) G
    taken_apart t p vs F k =
        fsplit t $ fpick t (λ vss. fsplit t $ feq_l t (λ whole. fsplit t $ feq_l t (λ field. drop t $
        k (subst (λ (ps : List Val). vs ≡ vstruct (of_list (ps ++ [])) ∷ []) field whole))))

    pub put_together : K → (p : Ptr) (F : Fml) → Step K 𝓛 (‵ (fsep ((Struct one_field).own_val (p, tt) (word p ∷ [])) F) ∷ Γ) G (‵ F ∷ Γ) G
    put_together t p F = step (λ s.
        nothing t $ feq_i t (List Val) (ptr_val p ∷ []) (ptr_val p ∷ []) refl $ fjoin t $ feq_i t (List Val) (word p ∷ []) (word p ∷ []) refl $ fjoin t $
        fpack t (Valss (RawPtr ∷ [])) (within one_field (p, tt) (word p ∷ [])) (ptr_val p ∷ [], tt) $ fjoin t $ s)
