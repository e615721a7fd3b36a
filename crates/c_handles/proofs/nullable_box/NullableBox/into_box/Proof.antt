-- `into_box` tells by the pointer whether there is a box, and makes it again.
use Rattle.std.proofs.Common.{◌≡◌, List, [], ◌∷◌, ◌++◌, refl, sym, ap, ◌∙◌, subst, lit<}
use mir.Syntax.{a_type, dcons, dnil}
use mir.Val.{Val, vptr, vcons, vnil}
use mir.MapTy.{inst_fn}
use base.Logic.{ent, emp, id⊢}
use base.Fml.{ftrue, flft}
use base.Fraction.{full_share}
use prog.Wp.{WpFn}
use types.Kit.{‵, raw, ◌⊛◌, some, later, at_ret, ◌$◌, ◌∵◌, !, qed, by, move, keep, drop, split, join, fsplit, fjoin, pick, suffices, use0, use1, await, rewrite, feq_i}
use types.Run.{stop, fld, lit, of_opd, bin, no_more, and_then, first, branches, blocks, skips, exec, returns, returns_within, enter}
use types.ByLocal.{alloc_all, pass_all, free_all, look_at, get, get_in, sets, lands_last, env}
use types.Part.{agg, sub, whole}
use types.Match.{live}
use types.Tokens.{lft_new, lft_end}
use contract.Monad.{fact, fact_i}
use contract.BorrowLft.{◌⊑◌, ⊑_static}
use contract.Running.{tables}
use denote.Exit.{yes, no}
use denote.RattleType.{RattleType, owns}
use denote.RawPtr.{Ptr, block_ptr, null_ptr, tests_null}
use denote.Param.{param, layout, bounded}
use denote.Param.NoDrop.{glues}
use denote.Signature.{types_at, type_at, plain}
use denote.Steps.{nothing, only, heard}
use denote.Struct.Owning.{shape}
use denote.Triple.Clauses.{Lasts, lasts}
use denote.Triple.Spec.{triple_of}
use denote.Triple.Call.{calls_at_last}
use denote.Triple.Walked.{Stays, stay_dropped, walk_of, Goes-dropped}
use Rattle.core.proofs.alloc.Calls.{handle_tells}
use Rattle.core.proofs.alloc.Shapes.{after}
use Rattle.core.proofs.atomic.Steps.{fm, Ptr-Good}
use Rattle.core.proofs.cell.Inside.{Good}
use Rattle.core.proofs.option.Made.{Some-of, none_of}
use Rattle.std.specs.contracts.alloc.Global as global
use Rattle.std.specs.contracts.impls.GlobalAllocator.TheImpl.{ghosts, dict}
use Rattle.std.specs.declared.option.Option.TheVariants.{None, Some}
use Rattle.std.proofs.impls.GlobalAllocator.TheImpl.Met.{passed}
use Rattle.std.proofs.raw_atomic.Walks.{proved_at, leaves}
use Rattle.std_alloc.proofs.BoxSteps.Form as box
use Rattle.std_alloc.proofs.BoxSteps.Steps.{box_out, box_in}
use Rattle.std_alloc.proofs.ResultValues.{and_tt}
use Rattle.std_alloc.specs.contracts.boxed.Box.from_raw as callee
use Rattle.std_alloc.proofs.boxed.Box.from_raw.Met.{met}
use Rattle.c_handles.specs.Owned.{owned_at}
use Rattle.c_handles.specs.contracts.nullable_box.NullableBox as nullable
use Rattle.c_handles.proofs.Heap as heap
use Rattle.c_handles.proofs.Owned.{null_or_boxed}
use Rattle.c_handles.proofs.Words.{word, word_fits, taken_apart}
use Rattle.c_handles.specs.contracts.nullable_box.NullableBox.into_box.{ended, clauses}
use Rattle.c_handles.specs.contracts.nullable_box.NullableBox.into_box.Key.{name as #self}
use Rattle.c_handles.proofs.nullable_box.NullableBox.into_box.Statement.{statement}
use Rattle.c_handles.proofs.nullable_box.NullableBox.into_box.Code as code
use Rattle.c_handles.proofs.Destruct++none.drop.Code.{code as no_drop}

pub into_box_spec : {M : Type 1} → statement M
unfolding no_drop
into_box_spec {M = M} 𝓤 𝓛 𝓜 𝓡 wired T L d glue =
    let H = 𝓛.H in let 𝓣 = tables 𝓤 H 𝓜 𝓡 𝓡.env in let R : RattleType = param 0 T in let En = ended T d in let c = clauses T d 𝓛 𝓜.mem 𝓡.returns in
    let Z : RattleType = global.the_row in let N : RattleType = nullable.the_row R in
    let E : box.Bx = record { row = T; laws = L; al = record { row = heap.row; laws = heap.laws; g = ghosts; d = dict; drops = heap.drops } } in let B : RattleType = box.B E in
    let args = bounded (a_type ∷ []) (T, tt) (dcons d dnil) in let fn = inst_fn args code.function in
    let hs : Stays En.signature.params En.kept = (stay_dropped (plain (λ _. N)) no, (stay_dropped (plain (λ _. Z)) yes, tt)) in
    proved_at 𝓛 En hs c 𝓜 𝓡 (Goes-dropped 𝓛 1 (plain (λ _. N)) no (λ κs x w. refl), (Goes-dropped 𝓛 1 (plain (λ _. Z)) yes (λ κs x w. refl), tt)) (#self args) fn (code.unfolded 𝓤 H 𝓜 𝓡 wired (T, tt) d) (λ z are.
    let κs = z.0.0 in let qs = z.0.1 in let p = z.0.3.0.at in let held = z.0.3.0.held in let a = z.0.3.1.0 in
    let Post = (walk_of 𝓛 En hs c).post z in let Run = λ (ws : List Val). WpFn 𝓤 H 𝓣.C 𝓣.Λ fn ws Post in let Out : RattleType = type_at En.signature.result κs in
    let alive = ‵ (flft κs.0 qs.0) ⊛ ‵ ftrue in
    qed 𝓛 ((alive ⊛ ‵ (owns (types_at En.signature.params κs) z.0.3 z.0.4)) ∷ raw ((c κs z.0.3).requires z.1) ∷ []) ∵ split ! $ move ! (1 ∷ []) $ fsplit ! $
    taken_apart (shape (nullable.the_type R)) ! p z.0.4.0 (owned_at R p held) (λ is. move ! (1 ∷ []) $ fsplit ! $ handle_tells E.al ! a z.0.4.1.0 (λ h is_h fits.
    let at_word = λ (q : Ptr) (at : p ≡ q). subst (λ (ws : List Val). ent 𝓤 (Run (word q ∷ h ∷ [])) (Run ws)) (sym (λ i. (is ∙ ap (λ (r : Ptr). word r ∷ []) at) i ++ (is_h i ++ []))) (id⊢ 𝓤 (Run (word q ∷ h ∷ []))) in
    -- [what the pointer owns; the allocator's handle; nothing; the tokens; what is asked]
    move ! (2 ∷ []) $ null_or_boxed R ! p held
    (λ at is_none. suffices ! (Run (word null_ptr ∷ h ∷ [])) (at_word null_ptr at) $
    enter ! 𝓣.C 𝓣.Λ fn (word null_ptr ∷ h ∷ []) Post $ alloc_all ! (λ l. pass_all ! refl (word_fits null_ptr, (fits, tt)) $
    sets ! (of_opd ! (get_in ! (fld ! refl (stop !)) (sub ! 0 refl (whole !)))) refl (Ptr-Good null_ptr) $ sets ! (bin ! (get ! refl) (lit ! tt) tt) refl (tt, tt) $ first ! $ branches ! (get ! refl)
    (λ _. sets ! (agg ! (and_then ! (lit ! tt) (no_more !))) refl (tt, (record { fits = lit< tt }, tt)) $ returns_within ! Post refl (look_at ! 0 refl) $ free_all ! refl $
    use0 𝓛 (raw (fact 𝓤 (held ≡ None))) (fact_i 𝓤 (held ≡ None) (emp 𝓤) is_none) $ use0 𝓛 (‵ (Out.own_val None (live 0 vnil ∷ []))) (none_of 𝓛 B) $ nothing ! $ nothing ! $ fjoin ! $ nothing ! $ fjoin ! $
    -- [what is left of the parameters; the result; what is ensured; the handle; nothing; the tokens; what is asked]
    keep ! (5 ∷ 0 ∷ 1 ∷ 2 ∷ []) $ by ! (leaves 𝓛 En hs c z (live 0 vnil) None (tt, (tt, tt)) (tt, (tt, tt)))) (λ wrong. absurd wrong)))
    (λ b o x at is_some test. let q : Ptr = block_ptr b o in suffices ! (Run (word q ∷ h ∷ [])) (at_word q at) $
    enter ! 𝓣.C 𝓣.Λ fn (word q ∷ h ∷ []) Post $ alloc_all ! (λ l. pass_all ! refl (word_fits q, (fits, tt)) $ let Ev = env fn.locals l in
    sets ! (of_opd ! (get_in ! (fld ! refl (stop !)) (sub ! 0 refl (whole !)))) refl (tt, tt) $ sets ! (bin ! (get ! refl) (lit ! tt) (tests_null q test)) refl (tt, tt) $ first ! $ branches ! (get ! refl) (λ wrong. absurd wrong) (λ _.
    skips ! $ exec ! 𝓣.C 𝓣.Λ Ev (after 3 fn.body) (at_ret Ev Post) $ first ! $ blocks ! $ lft_new ! tt (λ α.
    -- [the token of a lifetime for the allocator; the box; the handle; nothing; the tokens; what is asked]
    let k = triple_of 𝓛 (callee.signature T heap.row ghosts dict heap.drops) (callee.spec T heap.row ghosts dict heap.drops 𝓛 𝓜.mem 𝓡.returns) in let Kept = callee.ended T heap.row ghosts dict heap.drops in
    let y : k.Ghost = (((κs.0, (α ∷ [], tt)), (qs.0, (full_share, tt)), tt, (a, (q, tt)), (h ∷ [], (vptr b o ∷ [], tt))), x) in
    let allocates = passed 𝓡.env (code.calls-std_heap::GlobalAllocator::allocate 𝓡.env wired) (code.calls-std_heap::GlobalAllocator::deallocate 𝓡.env wired)
    (code.calls-std_heap::GlobalAllocator::grow 𝓡.env wired) (code.calls-std_heap::GlobalAllocator::shrink 𝓡.env wired) M 𝓤 𝓛 𝓜 𝓡 in
    let drops = glues "c_handles::Destruct++none::drop" 𝓡.env (code.calls-c_handles::Destruct++none::drop 𝓡.env wired) heap.row heap.laws M 𝓤 𝓛 𝓜 𝓡 in
    let given = met 𝓤 𝓛 𝓜 𝓡 (code.calls-std_alloc::boxed::Box::from_raw 𝓡.env wired) T heap.row L heap.laws ghosts dict heap.drops allocates drops in
    move ! (5 ∷ []) $ use1 𝓛 (raw (fact 𝓤 (κs.0 ⊑ T.lives)) ⊛ ‵ ftrue) (id⊢ 𝓤 _) $ split ! $ move ! (1 ∷ []) $ drop ! $
    move ! (2 ∷ []) $ use0 𝓛 (raw (fact 𝓤 ((α ∷ []) ⊑ heap.row.lives))) (fact_i 𝓤 ((α ∷ []) ⊑ heap.row.lives) (emp 𝓤) (⊑_static (α ∷ []))) $ join ! $ move ! (1 ∷ 0 ∷ []) $ join ! $
    -- [what is required; the lifetime's token; the handle; nothing; the tokens]
    move ! (4 ∷ []) $ split ! $ move ! (3 ∷ 1 ∷ []) $ join ! $ move ! (1 ∷ 0 ∷ []) $ join ! $
    move ! (3 ∷ []) $ feq_i ! (List Val) (vptr b o ∷ []) (vptr b o ∷ []) refl $ fjoin ! $ move ! (3 ∷ 0 ∷ []) $ fjoin ! $ move ! (1 ∷ 0 ∷ []) $ join ! $ join ! $ use1 𝓛 (raw (k.pre y)) (id⊢ 𝓤 _) $
    calls_at_last ! (fm 𝓛 𝓜 𝓡) k given y (and_then ! (get ! refl) (and_then ! (get ! refl) (no_more !))) (λ u.
    let tokens = ‵ (flft κs.0 qs.0) ⊛ ‵ (flft (α ∷ []) full_share) ⊛ ‵ ftrue in
    use1 𝓛 (later (some (λ (r : B.Denot). (tokens ⊛ ‵ (B.own_val r (u ∷ []))) ⊛ some (λ (ls : Lasts Kept y.0.0 y.0.3). ‵ (lasts Kept y.0.0 y.0.3 ls) ⊛ (raw (fact 𝓤 (r.value ≡ x)) ⊛ raw (fact 𝓤 (r.alloc ≡ a))))))) (id⊢ 𝓤 (k.post y u)) $
    await ! tt $ pick ! (λ r. split ! $ split ! $ split ! $ move ! (1 ∷ []) $ split ! $ lft_end ! tt $ drop ! $ move ! (1 ∷ 0 ∷ []) $ join ! $
    -- [the tokens; the box; what is told of it]
    move ! (2 ∷ []) $ pick ! (λ ls. split ! $ drop ! $ split ! $ heard ! (r.value ≡ x) (λ same. drop ! $ move ! (1 ∷ []) $
    box_out E ! r (u ∷ []) (λ b' o' h' at' is' fits'. box_in E ! r b' o' r.value at' refl $ rewrite ! 0 (λ (us : List Val). ‵ (B.own_val r us)) (sym is') refl $
    let good : Good (layout B) u = subst (Good (layout B)) (sym (ap only is')) (box.box_typed E h' b' o' fits') in let out : Val = live 1 (vcons u vnil) in
    lands_last ! refl good $ exec ! 𝓣.C 𝓣.Λ Ev (after 4 fn.body) (at_ret Ev Post) $ sets ! (of_opd ! (get ! refl)) refl good $ sets ! (of_opd ! (get ! refl)) refl good $ sets ! (agg ! (and_then ! (lit ! tt) (and_then ! (get ! refl) (no_more !)))) refl (and_tt _ good.0, (record { fits = lit< tt }, (good.1, tt))) $
    use1 𝓛 (‵ (Out.own_val (Some r) (out ∷ []))) (Some-of 𝓛 B r u) $ use0 𝓛 (raw (fact 𝓤 (held ≡ Some r.value))) (fact_i 𝓤 (held ≡ Some r.value) (emp 𝓤) (is_some ∙ ap Some (sym same))) $
    nothing ! $ nothing ! $ fjoin ! $ nothing ! $ fjoin ! $ returns ! (look_at ! 0 refl) $ free_all ! refl $
    -- [what is left of the parameters; what is ensured; the result; the tokens]
    keep ! (3 ∷ 0 ∷ 2 ∷ 1 ∷ []) $ by ! (leaves 𝓛 En hs c z out (Some r) (tt, (tt, tt)) (tt, (tt, tt)))))))))))))))
