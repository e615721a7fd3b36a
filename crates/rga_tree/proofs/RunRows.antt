-- A row of elements in which a run is put.
use Rattle.std.proofs.Common.{◌≡◌, ◌≤◌, ◌<◌, ◌+◌, ◌^◌, ℕ, zero, suc, Bool, true, false, cond, not, List, [], ◌∷◌, ◌++◌, length, take, drop, refl, sym, ap, subst, ◌∙◌, append_assoc, arith}
use Rattle.std.specs.Prelude.{insert, map as each}
use Rattle.std.specs.List.{AllByRecursion, prefix_len}
use Rattle.std.specs.Ordering.{is_lt}
use Rattle.std.specs.FinMap as map
use Rattle.std.proofs.Math.Utf8.{scalar, scalars}
use Rattle.std.proofs.lemmas.Bool.{and_parts}
use Rattle.std.proofs.lemmas.List.{take-append-drop, drop-drop, length-take-le, length-drop}
use Rattle.std.proofs.lemmas.List.Sums.{prefix_len-le-length}
use Rattle.bg_types.specs.Identifier.{Identifier, IsIdentifier, id_cmp, same_id}
use Rattle.bg_types.specs.WellFormed.{IsWellFormed, MayFollow}
use Rattle.bg_types.specs.OperationSet.{OperationSet}
use Rattle.bg_types.specs.declared.op.Place.{Place}
use Rattle.bg_types.specs.declared.op.Place.TheVariants.{After}
use Rattle.bg_types.proofs.Interface.{id_cmp-total, same_id-itself}
use Rattle.rga_tree.specs.declared.element.Element.{Element}
use Rattle.rga_tree.specs.Tree.{stands_in}
use Rattle.rga_tree.specs.Row.{entry_of, operations_of, start_of, place_of}
use Rattle.rga_tree.specs.KeepsWalk.{KeepsWalk}
use Rattle.rga_tree.specs.Run.{later, insertions, with_operations, AreNew}
use Rattle.rga_tree.proofs.Entries.{IsAbsent}
use Rattle.rga_tree.proofs.RowSets.{absent_row, absent_parts}
use Rattle.rga_tree.proofs.Greater.{is_greater}
use Rattle.rga_tree.proofs.Placing.{placing, start_within}
use Rattle.rga_tree.proofs.Siblings.{less_of}
use Rattle.rga_tree.proofs.RunSteps.{later-less, new_behind, next_new, stands_behind}

-- the elements of a run
abbrev pub run_of : Identifier → Place → List ℕ → List Element
run_of id parent [] = []
run_of id parent (ch ∷ chs) = record { id = id; parent = parent; ch = ch; hidden = false } ∷ run_of (later id 1) (After id) chs

-- elements put in at a place
abbrev pub put_in : {X : Type 0} → List X → ℕ → List X → List X
put_in xs i ys = take i xs ++ (ys ++ drop i xs)

-- ---- one of them, and then the others behind it

pub take-insert : {X : Type 0} (xs : List X) (i : ℕ) (x : X) → i ≤ length xs → take (suc i) (insert xs i x) ≡ take i xs ++ x ∷ []
take-insert [] zero x within = refl
take-insert [] (suc i) x within = absurd (omega arith)
take-insert (y ∷ xs) zero x within = refl
take-insert (y ∷ xs) (suc i) x within = ap (λ l. y ∷ l) (take-insert xs i x (omega arith))

pub drop-insert : {X : Type 0} (xs : List X) (i : ℕ) (x : X) → i ≤ length xs → drop (suc i) (insert xs i x) ≡ drop i xs
drop-insert [] zero x within = refl
drop-insert [] (suc i) x within = absurd (omega arith)
drop-insert (y ∷ xs) zero x within = refl
drop-insert (y ∷ xs) (suc i) x within = drop-insert xs i x (omega arith)

pub put_in-cons : {X : Type 0} (xs : List X) (i : ℕ) (x : X) (ys : List X) → i ≤ length xs → put_in (insert xs i x) (i + 1) ys ≡ put_in xs i (x ∷ ys)
put_in-cons xs i x ys within =
    let e : i + 1 ≡ suc i = omega arith in
    ap (λ k. put_in (insert xs i x) k ys) e ∙ (λ j. take-insert xs i x within j ++ (ys ++ drop-insert xs i x within j)) ∙ append_assoc (take i xs) (x ∷ []) (ys ++ drop i xs)

-- ---- where the next one of a run goes

found_at : (l r : List Element) (e : Element) → IsAbsent e.id (each entry_of l) → prefix_len (λ x. not (same_id e.id x.id)) (l ++ e ∷ r) ≡ length l
found_at [] r e absent = ap (λ b. cond (not b) (1 + prefix_len (λ x. not (same_id e.id x.id)) r) 0) (same_id-itself e.id)
found_at (x ∷ l) r e absent =
    let rest = found_at l r e absent.1 in
    ap (λ b. cond (not b) (1 + prefix_len (λ x. not (same_id e.id x.id)) (l ++ e ∷ r)) 0) absent.0 ∙ omega (arith, rest)

-- the one behind it begins there
pub start_behind : (row : List Element) (e : Element) (at : ℕ) → map.contains_key (operations_of row).ins e.id ≡ false → at ≤ length row → start_of (After e.id) (insert row at e) ≡ at + 1
start_behind row e at new within =
    let here = found_at (take at row) (drop at row) e (absent_parts row at e.id (absent_row row e.id new)).0 in
    ap (λ k. k + 1) (here ∙ length-take-le at row within)

-- what isn't greater than an identifier isn't greater than a later one
not_later : (id q : Identifier) → is_lt (id_cmp id q) ≡ false → is_lt (id_cmp (later id 1) q) ≡ false
not_later id q lower = by_test (is_lt (id_cmp (later id 1) q)) refl where
  by_test : (b : Bool) → is_lt (id_cmp (later id 1) q) ≡ b → is_lt (id_cmp (later id 1) q) ≡ false
  by_test true is = let both : is_lt (id_cmp id q) ≡ true = ap is_lt (id_cmp-total.trans id (later id 1) q (later-less id) (less_of (id_cmp (later id 1) q) is)) in absurd cc
  by_test false is = is

-- behind those that are greater than it none is that is greater than the later one
none_later : (id : Identifier) (es : List Element) → prefix_len (is_greater (later id 1)) (drop (prefix_len (is_greater id) es) es) ≡ 0
none_later id [] = refl
none_later id (e ∷ es) = by_test (none_later id es) (is_greater id e) refl where
  by_test : prefix_len (is_greater (later id 1)) (drop (prefix_len (is_greater id) es) es) ≡ 0 → (b : Bool) → is_greater id e ≡ b
      → prefix_len (is_greater (later id 1)) (drop (cond (is_greater id e) (1 + prefix_len (is_greater id) es) 0) (e ∷ es)) ≡ 0
  by_test rest true is =
      let one_more : 1 + prefix_len (is_greater id) es ≡ suc (prefix_len (is_greater id) es) = omega arith in
      ap (λ b. prefix_len (is_greater (later id 1)) (drop (cond b (1 + prefix_len (is_greater id) es) 0) (e ∷ es))) is
      ∙ ap (λ k. prefix_len (is_greater (later id 1)) (drop k (e ∷ es))) one_more ∙ rest
  by_test rest false is =
      ap (λ b. prefix_len (is_greater (later id 1)) (drop (cond b (1 + prefix_len (is_greater id) es) 0) (e ∷ es))) is
      ∙ ap (λ b. cond b (1 + prefix_len (is_greater (later id 1)) es) 0) (not_later id e.id is)

pub place_behind : (row : List Element) (e : Element) (at : ℕ) → map.contains_key (operations_of row).ins e.id ≡ false → at ≡ place_of e.parent e.id row → at ≤ length row
    → place_of (After e.id) (later e.id 1) (insert row at e) ≡ at + 1
place_behind row e at fresh at_is within =
    let new = insert row at e in
    let one_more : start_of (After e.id) new ≡ suc at = omega (arith, start_behind row e at fresh within) in
    let rest : drop at row ≡ drop (prefix_len (is_greater e.id) (drop (start_of e.parent row) row)) (drop (start_of e.parent row) row) =
    ap (λ k. drop k row) at_is ∙ sym (drop-drop (prefix_len (is_greater e.id) (drop (start_of e.parent row) row)) (start_of e.parent row) row) in
    let none : prefix_len (is_greater (later e.id 1)) (drop at row) ≡ 0 = ap (prefix_len (is_greater (later e.id 1))) rest ∙ none_later e.id (drop (start_of e.parent row) row) in
    ap (λ k. k + prefix_len (is_greater (later e.id 1)) (drop k new)) one_more ∙ ap (λ es. suc at + prefix_len (is_greater (later e.id 1)) es) (drop-insert row at e within) ∙ omega (arith, none)

-- ---- the whole run

pub formed_run : (chs : List ℕ) (id : Identifier) (parent : Place) → 0 < id.counter → 0 < id.site → id.site < 2 ^ 16 → MayFollow parent id → id.counter + length chs ≤ 2 ^ 32 → scalars chs ≡ true
    → AllByRecursion IsWellFormed (insertions id parent chs)
formed_run [] id parent counter site fits follows counters all = tt
formed_run (ch ∷ chs) id parent counter site fits follows counters all =
    let both = and_parts (scalar ch) (scalars chs) all in
    let identifier : IsIdentifier id = record { counter_positive = counter; counter_fits = omega (arith, counters); site_positive = site; site_fits = fits } in
    ((identifier, follows, both.0), formed_run chs (later id 1) (After id) (omega (arith, counter)) site fits (identifier, omega arith) (omega (arith, counters)) both.1)

pub place_in_row : (parent : Place) (id : Identifier) (row : List Element) → start_of parent row ≤ length row → place_of parent id row ≤ length row
place_in_row parent id row within =
    let start = start_of parent row in
    omega (arith, within, prefix_len-le-length (is_greater id) (drop start row), length-drop start row)

pub placing_run : (chs : List ℕ) (row : List Element) (id : Identifier) (parent : Place) (at : ℕ) → KeepsWalk row → stands_in (operations_of row) parent ≡ true → AllByRecursion IsWellFormed (insertions id parent chs)
    → AreNew (operations_of row) id (length chs) → at ≡ place_of parent id row
    → KeepsWalk (put_in row at (run_of id parent chs)) × (operations_of (put_in row at (run_of id parent chs)) ≡ with_operations (operations_of row) (insertions id parent chs))
placing_run [] row id parent at keeps stands formed new at_is =
    let same : put_in row at [] ≡ row = take-append-drop at row in
    (subst KeepsWalk (sym same) keeps, ap operations_of same)
placing_run (ch ∷ chs) row id parent at keeps stands formed new at_is =
    let e : Element = record { id = id; parent = parent; ch = ch; hidden = false } in
    let more = insert row at e in
    let start = start_within row parent stands in
    let within : at ≤ length row = omega (arith, at_is, place_in_row parent id row start) in
    let fresh = next_new (operations_of row) id (suc (length chs)) (omega arith) new in
    let step = placing row more e at keeps stands formed.0 fresh start at_is refl in
    let rest = placing_run chs more (later id 1) (After id) (at + 1) step.0 (ap (λ (s : OperationSet). stands_in s (After id)) step.1 ∙ stands_behind (operations_of row) id parent ch) formed.1
    (subst (λ (s : OperationSet). AreNew s (later id 1) (length chs)) (sym step.1) (new_behind (operations_of row) id parent ch (length chs) new))
    (sym (place_behind row e at fresh at_is within)) in
    let same : put_in more (at + 1) (run_of (later id 1) (After id) chs) ≡ put_in row at (run_of id parent (ch ∷ chs)) = put_in-cons row at e (run_of (later id 1) (After id) chs) within in
    (subst KeepsWalk same rest.0, ap operations_of (sym same) ∙ rest.1 ∙ ap (λ s. with_operations s (insertions (later id 1) (After id) chs)) step.1)
