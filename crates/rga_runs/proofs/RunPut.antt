-- A row of elements in which the front of a run was put.
use Rattle.std.proofs.Common.{◌≡◌, ◌<◌, ◌≤◌, ◌+◌, ◌^◌, ℕ, suc, true, false, List, ◌∷◌, length, refl, sym, ap, subst, ◌∙◌, arith}
use Rattle.std.specs.Prelude.{All, insert}
use Rattle.std.specs.Char.{IsScalar}
use Rattle.std.specs.FinMap as map
use Rattle.std.proofs.Math.Utf8.{scalar, scalars}
use Rattle.std.proofs.lemmas.Bool.{and_from}
use Rattle.bg_types.specs.Identifier.{Identifier, IsIdentifier}
use Rattle.bg_types.specs.WellFormed.{MayFollow}
use Rattle.bg_types.specs.OperationSet.{OperationSet, with_operation}
use Rattle.bg_types.specs.declared.op.Place.{Place}
use Rattle.bg_types.specs.declared.op.Place.TheVariants.{After}
use Rattle.bg_types.specs.declared.op.OpView.TheVariants.{Insert}
use Rattle.rga_tree.specs.declared.element.Element.{Element}
use Rattle.rga_tree.specs.Tree.{stands_in}
use Rattle.rga_tree.specs.Row.{operations_of, start_of, place_of, has}
use Rattle.rga_tree.specs.KeepsWalk.{KeepsWalk}
use Rattle.rga_tree.specs.Run.{insertions, with_operations, AreNew}
use Rattle.rga_tree.proofs.Interface.{has_row, placing, start_within, new_behind, next_new, run_of, put_in, put_in-cons, start_behind, formed_run, placing_run, place_in_row as place_within}
use Rattle.rga_runs.specs.declared.stretch.Stretch.{Stretch}
use Rattle.rga_runs.specs.Typed.{later, typed}
use Rattle.rga_runs.specs.Stretches.{elements_in, are_stored, IsOutside, AreApart}
use Rattle.rga_runs.proofs.Typed.{later-more, typed-run}
use Rattle.rga_runs.proofs.Whole.{all_outside}

-- a row that keeps its walk, and an identifier with which characters may be put in
module _ (row row1 : List Element) (id : Identifier) (parent : Place) (ch : ℕ) (keeps : KeepsWalk row) (stands : stands_in (operations_of row) parent ≡ true) (is : IsIdentifier id) (follows : MayFollow parent id) (scalar_is : IsScalar ch) where
  abbrev n : Element
  n = record { id = id; parent = parent; ch = ch; hidden = false }

  abbrev at : ℕ
  at = place_of parent id row

  abbrev s : OperationSet
  s = operations_of row

  module _ (new : AreNew s id 1) (row1_is : row1 ≡ insert row at n) where
    fresh : map.contains_key s.ins id ≡ false
    fresh = next_new s id 1 (omega arith) new

    within : at ≤ length row
    within = place_within parent id row (start_within row parent stands)

    -- with the first of them
    pub one_put : KeepsWalk row1 × (operations_of row1 ≡ with_operation s (Insert id parent ch))
    one_put = placing row row1 n at keeps stands (is, follows, scalar_is) fresh (start_within row parent stands) refl row1_is

    -- the others are new there
    pub others_new : (m : ℕ) → AreNew s id (suc m) → AreNew (operations_of row1) (later id 1) m
    others_new m more = subst (λ (t : OperationSet). AreNew t (later id 1) m) (sym one_put.1) (new_behind s id parent ch m more)

    pub others_outside : (m : ℕ) (chars : List ℕ) (ss : List Stretch) → AreNew s id (suc m) → are_stored (length chars) ss ≡ true → AreApart ss → row1 ≡ elements_in chars ss → (k : ℕ) → k < m → All (IsOutside (later id (k + 1))) ss
    others_outside m chars ss more stored apart is_row k less =
        let q : later (later id 1) k ≡ later id (k + 1) = later-more id 1 k (k + 1) (omega arith) in
        let none : has (later (later id 1) k) row1 ≡ false = sym (has_row row1 (later (later id 1) k)) ∙ others_new m more k less in
        all_outside (later id (k + 1)) chars ss stored apart (ap (λ es. has (later id (k + 1)) es) (sym is_row) ∙ ap (λ z. has z row1) (sym q) ∙ none)

    -- with the others behind it
    module _ (row2 : List Element) (cs : List ℕ) (row2_is : row2 ≡ put_in row1 (start_of (After id) row1) (typed (later id 1) (After id) 0 cs)) where
      pub all_put : row2 ≡ put_in row at (run_of id parent (ch ∷ cs))
      all_put =
          row2_is ∙ ap (put_in row1 (start_of (After id) row1)) (typed-run (later id 1) (After id) cs)
          ∙ ap (λ r. put_in r (start_of (After id) r) (run_of (later id 1) (After id) cs)) row1_is
          ∙ ap (λ k. put_in (insert row at n) k (run_of (later id 1) (After id) cs)) (start_behind row n at fresh within)
          ∙ put_in-cons row at n (run_of (later id 1) (After id) cs) within

      pub run_put : AreNew s id (suc (length cs)) → id.counter + length cs < 2 ^ 32 → scalars cs ≡ true → KeepsWalk row2 × (operations_of row2 ≡ with_operations s (insertions id parent (ch ∷ cs)))
      run_put more counters all =
          let formed = formed_run (ch ∷ cs) id parent is.counter_positive is.site_positive is.site_fits follows (omega (arith, counters)) (and_from (scalar ch) (scalars cs) scalar_is all) in
          let step = placing_run (ch ∷ cs) row id parent at keeps stands formed more refl in
          (subst KeepsWalk (sym all_put) step.0, ap operations_of all_put ∙ step.1)
