-- `into_owned` keeps the pointer with what it owns, and knows the type behind it again.
use Rattle.std.proofs.Common.{◌≡◌, List, [], ◌∷◌, ◌++◌, refl, sym, subst}
use mir.Val.{Val}
use base.Logic.{ent, emp, id⊢}
use base.Fml.{ftrue}
use prog.Wp.{WpFn}
use types.Kit.{‵, raw, ◌⊛◌, ◌$◌, ◌∵◌, !, qed, by, move, keep, split, fsplit, fjoin, use0, suffices}
use types.Run.{stop, fld, of_opd, no_more, and_then, returns, enter}
use types.ByLocal.{alloc_all, pass_all, free_all, look_at, get, get_in, sets}
use types.Part.{agg, sub, whole}
use contract.Monad.{fact, fact_i}
use contract.Running.{tables}
use denote.Exit.{yes}
use denote.RattleType.{owns}
use denote.Signature.{types_at, plain}
use denote.Steps.{nothing}
use denote.Struct.Owning.{shape}
use denote.Triple.Walked.{Stays, stay_dropped, walk_of, Goes-dropped}
use Rattle.core.proofs.atomic.Steps.{Ptr-Good}
use Rattle.std.proofs.raw_atomic.Walks.{proved_at, leaves}
use Rattle.c_handles.specs.Owned.{owned_at}
use Rattle.c_handles.specs.contracts.nullable_box.NullableBox as nullable
use Rattle.c_handles.proofs.Words.{word, word_fits, taken_apart, put_together}
use Rattle.c_pictures.specs.Rows.{picture_row}
use Rattle.c_pictures.specs.contracts.picture_handle.PictureHandle as handle
use Rattle.c_pictures.specs.contracts.picture_handle.PictureHandle.into_owned as f
use Rattle.c_pictures.proofs.picture_handle.PictureHandle.into_owned.Statement.{statement}
use Rattle.c_pictures.proofs.picture_handle.PictureHandle.into_owned.Code as code

pub into_owned_spec : {M : Type 1} → statement M
into_owned_spec 𝓤 𝓛 𝓜 𝓡 wired =
    let H = 𝓛.H in let 𝓣 = tables 𝓤 H 𝓜 𝓡 𝓡.env in let c = f.clauses 𝓛 𝓜.mem 𝓡.returns in let fn = code.function in
    let hs : Stays f.ended.signature.params f.ended.kept = (stay_dropped (plain (λ _. handle.the_row)) yes, tt) in
    proved_at 𝓛 f.ended hs c 𝓜 𝓡 (Goes-dropped 𝓛 0 (plain (λ _. handle.the_row)) yes (λ κs x w. refl), tt) f.Key.name fn (code.unfolded 𝓤 H 𝓜 𝓡 wired) (λ z are.
    let Post = (walk_of 𝓛 f.ended hs c).post z in let Run = λ (ws : List Val). WpFn 𝓤 H 𝓣.C 𝓣.Λ fn ws Post in let p = z.0.3.0.at in let held = z.0.3.0.held in
    qed 𝓛 ((‵ ftrue ⊛ ‵ (owns (types_at f.ended.signature.params z.0.0) z.0.3 z.0.4)) ∷ ‵ ftrue ∷ []) ∵ split ! $ move ! (1 ∷ []) $ fsplit ! $
    taken_apart (shape handle.the_type) ! p z.0.4.0 (owned_at picture_row p held) (λ is.
    suffices ! (Run (word p ∷ [])) (subst (λ (us : List Val). ent 𝓤 (Run (word p ∷ [])) (Run us)) (sym (λ i. is i ++ [])) (id⊢ 𝓤 (Run (word p ∷ [])))) $
    enter ! 𝓣.C 𝓣.Λ fn (word p ∷ []) Post $ alloc_all ! (λ l. pass_all ! refl (word_fits p, tt) $
    sets ! (of_opd ! (get_in ! (fld ! refl (stop !)) (sub ! 0 refl (whole !)))) refl (Ptr-Good p) $ sets ! (of_opd ! (get ! refl)) refl (Ptr-Good p) $
    sets ! (agg ! (and_then ! (get ! refl) (no_more !))) refl (word_fits p) $
    put_together (shape (nullable.the_type picture_row)) ! p (owned_at picture_row p held) $ returns ! (look_at ! 0 refl) $ free_all ! refl $
    -- [the tokens; what is left of the parameter; the result; what is ensured]
    use0 𝓛 (raw (fact 𝓤 (held ≡ held))) (fact_i 𝓤 (held ≡ held) (emp 𝓤) refl) $ nothing ! $ nothing ! $ fjoin ! $ nothing ! $ keep ! (0 ∷ 1 ∷ 3 ∷ 2 ∷ []) $
    by ! (leaves 𝓛 f.ended hs c z (word p) (record { at = p; held = held }) (tt, tt) (tt, tt)))))
