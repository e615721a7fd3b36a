-- `of` takes the box apart: its pointer owns what it owned.
use Rattle.std.proofs.Common.{◌≡◌, List, [], ◌∷◌, ◌++◌, refl, sym, ap, subst}
use mir.Syntax.{a_type, dcons, dnil}
use mir.Val.{Val}
use mir.MapTy.{inst_fn}
use base.Logic.{ent, emp, id⊢}
use base.Fml.{ftrue, flft}
use base.Fraction.{full_share}
use prog.Wp.{WpFn}
use types.Kit.{‵, raw, ◌⊛◌, some, later, ◌$◌, ◌∵◌, !, qed, by, move, keep, drop, split, join, fsplit, fjoin, pick, suffices, use0, use1, await, feq_l}
use types.Run.{of_opd, no_more, and_then, returns, enter}
use types.ByLocal.{alloc_all, pass_all, free_all, look_at, get, sets, lands_as}
use types.Part.{agg}
use types.Tokens.{lft_new, lft_end}
use contract.Monad.{fact, fact_i}
use contract.BorrowLft.{◌⊑◌, ⊑_static}
use contract.Running.{tables}
use denote.Builtin.{RawPtr}
use denote.Exit.{no}
use denote.RattleType.{RattleType, owns}
use denote.RawPtr.{Ptr}
use denote.Param.{param, bounded}
use denote.Param.NoDrop.{glues}
use denote.Signature.{types_at, plain}
use denote.Steps.{nothing, only}
use denote.Struct.Owning.{shape}
use denote.Triple.Clauses.{Lasts, lasts}
use denote.Triple.Spec.{triple_of}
use denote.Triple.Call.{calls_at}
use denote.Triple.Walked.{Stays, stay_dropped, walk_of, Goes-dropped}
use Rattle.core.proofs.atomic.Steps.{fm, Ptr-Good}
use Rattle.std.specs.contracts.alloc.Global as global
use Rattle.std.specs.contracts.impls.GlobalAllocator.TheImpl.{ghosts, dict}
use Rattle.std.specs.declared.option.Option.TheVariants.{Some}
use Rattle.std.proofs.impls.GlobalAllocator.TheImpl.Met.{passed}
use Rattle.std.proofs.raw_atomic.Walks.{proved_at, leaves}
use Rattle.std_alloc.specs.Box.Ownership.{box_owns}
use Rattle.std_alloc.specs.contracts.boxed.Box as boxed
use Rattle.std_alloc.proofs.BoxSteps.Form as box
use Rattle.std_alloc.proofs.BoxSteps.Steps.{box_out, box_in}
use Rattle.std_alloc.specs.contracts.boxed.Box.into_raw as callee
use Rattle.std_alloc.proofs.boxed.Box.into_raw.Met.{met}
use Rattle.c_handles.specs.Owned.{owned_at}
use Rattle.c_handles.specs.contracts.nullable_box.NullableBox as nullable
use Rattle.c_handles.proofs.Heap as heap
use Rattle.c_handles.proofs.Words.{word, word_fits, put_together}
use Rattle.c_handles.specs.contracts.nullable_box.NullableBox.of.{ended, clauses}
use Rattle.c_handles.specs.contracts.nullable_box.NullableBox.of.Key.{name as #self}
use Rattle.c_handles.proofs.nullable_box.NullableBox.of.Statement.{statement}
use Rattle.c_handles.proofs.nullable_box.NullableBox.of.Code as code
use Rattle.c_handles.proofs.Destruct++none.drop.Code.{code as no_drop}

pub of_spec : {M : Type 1} → statement M
unfolding no_drop
of_spec {M = M} 𝓤 𝓛 𝓜 𝓡 wired T L d glue =
    let H = 𝓛.H in let 𝓣 = tables 𝓤 H 𝓜 𝓡 𝓡.env in let R : RattleType = param 0 T in let En = ended T d in let c = clauses T d 𝓛 𝓜.mem 𝓡.returns in
    let Z : RattleType = global.the_row in let B : RattleType = boxed.the_row R Z ghosts in
    let E : box.Bx = record { row = T; laws = L; al = record { row = heap.row; laws = heap.laws; g = ghosts; d = dict; drops = heap.drops } } in
    let args = bounded (a_type ∷ []) (T, tt) (dcons d dnil) in let fn = inst_fn args code.function in let hs : Stays En.signature.params En.kept = (stay_dropped (plain (λ _. B)) no, tt) in
    proved_at 𝓛 En hs c 𝓜 𝓡 (Goes-dropped 𝓛 1 (plain (λ _. B)) no (λ κs x w. refl), tt) (#self args) fn (code.unfolded 𝓤 H 𝓜 𝓡 wired (T, tt) d) (λ z are.
    let κs = z.0.0 in let qs = z.0.1 in let v = z.0.3.0 in let Post = (walk_of 𝓛 En hs c).post z in let Run = λ (ws : List Val). WpFn 𝓤 H 𝓣.C 𝓣.Λ fn ws Post in
    let k = triple_of 𝓛 (callee.signature T heap.row ghosts dict heap.drops d) (callee.spec T heap.row ghosts dict heap.drops d 𝓛 𝓜.mem 𝓡.returns) in
    qed 𝓛 (((‵ (flft κs.0 qs.0) ⊛ ‵ ftrue) ⊛ ‵ (owns (types_at En.signature.params κs) z.0.3 z.0.4)) ∷ raw ((c κs z.0.3).requires z.1) ∷ []) ∵ split ! $ move ! (1 ∷ []) $ fsplit ! $
    box_out E ! v z.0.4.0 (λ b o h at is fits. box_in E ! v b o v.value at refl $ let w : Val = box.word E h b o in let typed = box.box_typed E h b o fits in
    suffices ! (Run (w ∷ [])) (subst (λ (us : List Val). ent 𝓤 (Run (w ∷ [])) (Run us)) (sym (λ i. is i ++ [])) (id⊢ 𝓤 (Run (w ∷ [])))) $
    enter ! 𝓣.C 𝓣.Λ fn (w ∷ []) Post $ alloc_all ! (λ l. pass_all ! refl (typed, tt) $ sets ! (of_opd ! (get ! refl)) refl typed $ lft_new ! tt (λ α.
    -- [the token of a lifetime for the allocator; the box; nothing; the tokens; what is asked]
    let y : k.Ghost = (((κs.0, (α ∷ [], tt)), (qs.0, (full_share, tt)), tt, (v, tt), (w ∷ [], tt)), tt) in
    let allocates = passed 𝓡.env (code.calls-std_heap::GlobalAllocator::allocate 𝓡.env wired) (code.calls-std_heap::GlobalAllocator::deallocate 𝓡.env wired)
    (code.calls-std_heap::GlobalAllocator::grow 𝓡.env wired) (code.calls-std_heap::GlobalAllocator::shrink 𝓡.env wired) M 𝓤 𝓛 𝓜 𝓡 in
    let drops = glues "c_handles::Destruct++none::drop" 𝓡.env (code.calls-c_handles::Destruct++none::drop 𝓡.env wired) heap.row heap.laws M 𝓤 𝓛 𝓜 𝓡 in
    let given = met 𝓤 𝓛 𝓜 𝓡 (code.calls-std_alloc::boxed::Box::into_raw 𝓡.env wired) T heap.row L heap.laws ghosts dict heap.drops d allocates drops glue in
    move ! (3 ∷ []) $ split ! $ move ! (2 ∷ 1 ∷ []) $ join ! $ move ! (1 ∷ 0 ∷ []) $ join ! $ move ! (1 ∷ 2 ∷ []) $ fjoin ! $ move ! (1 ∷ 0 ∷ []) $ join ! $
    move ! (1 ∷ []) $ use1 𝓛 (raw (fact 𝓤 (κs.0 ⊑ T.lives)) ⊛ ‵ ftrue) (id⊢ 𝓤 _) $ split ! $ use0 𝓛 (raw (fact 𝓤 ((α ∷ []) ⊑ heap.row.lives))) (fact_i 𝓤 ((α ∷ []) ⊑ heap.row.lives) (emp 𝓤) (⊑_static (α ∷ []))) $
    move ! (0 ∷ 2 ∷ []) $ join ! $ move ! (1 ∷ 0 ∷ []) $ join ! $ move ! (1 ∷ 0 ∷ []) $ join ! $ use1 𝓛 (raw (k.pre y)) (id⊢ 𝓤 _) $
    calls_at ! (fm 𝓛 𝓜 𝓡) k given y (and_then ! (get ! refl) (no_more !)) (λ u.
    let toks = ‵ (flft κs.0 qs.0) ⊛ ‵ (flft (α ∷ []) full_share) ⊛ ‵ ftrue in let Kept = callee.ended T heap.row ghosts dict heap.drops d in
    use1 𝓛 (later (some (λ (p : Ptr). (toks ⊛ ‵ (RawPtr.own_val p (u ∷ []))) ⊛ some (λ (ls : Lasts Kept (κs.0, (α ∷ [], tt)) (v, tt)). ‵ (lasts Kept (κs.0, (α ∷ [], tt)) (v, tt) ls) ⊛ ‵ (box_owns (ghosts.dealloc_token v.alloc) R p v.value))))) (id⊢ 𝓤 (k.post y u)) $
    await ! tt $ pick ! (λ p. split ! $ split ! $ split ! $ move ! (1 ∷ []) $ split ! $ lft_end ! tt $ drop ! $ move ! (1 ∷ 0 ∷ []) $ join ! $
    -- [the tokens; the pointer; what it owns]
    move ! (2 ∷ []) $ pick ! (λ ls. split ! $ drop ! $ move ! (2 ∷ []) $ feq_l ! (λ is_at. lands_as ! (ap only is_at) refl (Ptr-Good p) $
    sets ! (agg ! (and_then ! (get ! refl) (no_more !))) refl (word_fits p) $ put_together (shape (nullable.the_type R)) ! p (owned_at R p (Some v.value)) $
    returns ! (look_at ! 0 refl) $ free_all ! refl $ use0 𝓛 (raw (fact 𝓤 (Some v.value ≡ Some v.value))) (fact_i 𝓤 (Some v.value ≡ Some v.value) (emp 𝓤) refl) $
    -- [the tokens; what is left of the parameter; the result; what is ensured]
    nothing ! $ nothing ! $ fjoin ! $ keep ! (3 ∷ 0 ∷ 2 ∷ 1 ∷ []) $
    by ! (leaves 𝓛 En hs c z (word p) (record { at = p; held = Some v.value }) (tt, tt) (tt, tt))))))))))
