-- The goals of `begun_by` that are answered by hand.
use Rattle.std.proofs.Common.{◌≡◌, ◌<◌, ◌∙◌, ℕ, List, Option, Some, None, length, take, get_or, sym, ap, subst, get_or-take, arith}
use Rattle.std.specs.Prelude.{All, IfSome, IfNone}
use Rattle.std.proofs.lemmas.List.{get_or-drop}
use Rattle.std.proofs.lemmas.List.Elements.{All-append}
use Rattle.bg_types.specs.Identifier.{Identifier}
use Rattle.rga_runs.specs.declared.stretch.Stretch.{Stretch}
use Rattle.rga_runs.specs.Stretches.{BeginsElsewhere}
use Rattle.rga_runs.proofs.search.begun_by.Goals as goal

-- one that was found in front
in_front : (o : Option ℕ) (front ss : List Stretch) (n : ℕ) (q : Identifier) → front ≡ take n ss → length front ≡ n → IfSome o (λ j. j < length front)
    → IfSome o (λ j. (d : Stretch) → (get_or front j d).first ≡ q) → IfSome o (λ j. (d : Stretch) → (get_or ss j d).first ≡ q)
in_front None front ss n q is long there begun = tt
in_front (Some j) front ss n q is long there begun =
    λ d. ap (λ (s : Stretch). s.first) (sym (get_or-take n ss j d (omega (arith, there, long))) ∙ ap (λ (l : List Stretch). get_or l j d) (sym is)) ∙ begun d

none_anywhere : (o : Option ℕ) (P Q : Type 0) → (P → Q) → IfNone o P → IfNone o Q
none_anywhere None P Q all none = all none
none_anywhere (Some j) P Q all none = tt

pub returns-in-Some-clause-first : goal.returns-in-Some-clause-first
returns-in-Some-clause-first c = λ d.
    let ss = c.args.stretches.now in
    let j = c.in-Some.j in
    let n = c.min-from.result in
    let begun = subst (λ o. IfSome o (λ i. (d : Stretch) → (get_or c.split_at.result.1.now i d).first ≡ c.args.first)) c.in-Some.is c.first_begun_by.ensures.first in
    ap (λ (s : Stretch). s.first) (sym (get_or-drop n ss j d) ∙ ap (λ (l : List Stretch). get_or l j d) (sym c.split_at.ensures.back)) ∙ begun d

pub returns-in-None-clause-first : goal.returns-in-None-clause-first
returns-in-None-clause-first c =
    in_front c.first_begun_by-in-None.result c.split_at.result.0.now c.args.stretches.now c.min-from.result c.args.first c.split_at.ensures.front c.split_at.ensures.front_len c.first_begun_by-in-None.ensures.there c.first_begun_by-in-None.ensures.first

pub returns-in-None-clause-absent : goal.returns-in-None-clause-absent
returns-in-None-clause-absent c =
    let P = BeginsElsewhere c.args.first in
    let front = c.split_at.result.0.now in
    let behind = c.split_at.result.1.now in
    let rest : All P behind = subst (λ o. IfNone o (All P behind)) c.in-None.is c.first_begun_by.ensures.absent in
    none_anywhere c.first_begun_by-in-None.result (All P front) (All P c.args.stretches.now) (λ all. subst (All P) (sym c.split_at.ensures.by_index.0) (All-append P front behind all rest)) c.first_begun_by-in-None.ensures.absent
