-- A stretch is erased, and others are typed in its place.
use Rattle.std.proofs.Common.{◌≡◌, ◌≤◌, ◌<◌, ◌+◌, ℕ, zero, suc, true, List, [], ◌∷◌, ◌++◌, length, take, drop, refl, sym, ap, subst, ◌∙◌, is_some, length-append, arith}
use Rattle.std.specs.Prelude.{◌||◌, All, Result, Ok, Err, OnOk, IfErr, slice_get, map as each}
use Rattle.std.specs.Option.{option_map_or}
use Rattle.std.specs.FinMap as map
use Rattle.std.specs.FinSet as set
use Rattle.std.specs.List.{AllByRecursion}
use Rattle.std.proofs.lemmas.List.Elements.{All-append, All-from_recursion, recursion_from_All}
use Rattle.std.proofs.lemmas.List.{take_at, drop_at, length-take-le, map-append, take-map, drop-map, length-map}
use Rattle.bg_types.specs.Identifier.{Identifier}
use Rattle.bg_types.specs.WellFormed.{IsWellFormed, MayFollow}
use Rattle.bg_types.specs.OperationSet.{OperationSet, Holds, AllWellFormed, union, next, size}
use Rattle.bg_types.specs.declared.op.Place.{Place}
use Rattle.bg_types.specs.declared.op.Place.TheVariants.{Root, After}
use Rattle.bg_types.specs.declared.op.OpView.{OpView}
use Rattle.bg_types.specs.declared.op.OpView.TheVariants.{Insert, Erase}
use Rattle.bg_types.proofs.Interface.{next-above, next-least, get-union}
use Rattle.rga_tree.specs.Tree.{stands_in}
use Rattle.rga_tree.specs.TextOf.{text, visible, visible_ids}
use Rattle.rga_tree.proofs.Interface.{Entry}
use Rattle.pending_ops.specs.Waiting.{Waiting}
use Rattle.pending_ops.proofs.Interface.{slice_get-left}
use Rattle.desk_replica.specs.Desk.{Desk}
use Rattle.desk_replica.specs.Placement.{IsSettled, IsCounted, whole}
use Rattle.desk_replica.specs.Typing.{parent_at}
use Rattle.desk_replica.specs.declared.answer.TypeFault.{TypeFault}
use Rattle.desk_replica.specs.declared.answer.TypeFault.TheVariants.{CounterSpent, Full, Memory}
use Rattle.desk_replica.specs.Replacement.{IsRangeRefused, IsReplaceRefused, next_id, insertions, typed_text, deletions, replacement}
use Rattle.desk_replica.specs.Merging.{with_operations}
use Rattle.desk_replica.proofs.Admitting.{IsContent}
use Rattle.desk_replica.proofs.Desks.{desk_of}
use Rattle.desk_replica.proofs.Erasing.{visible_kept}
use Rattle.desk_replica.proofs.Lists.{slice_get-within, slice_get-take}
use Rattle.desk_replica.proofs.Ranges.{IsErased, erased, all_deletions, target_formed, hidden_whole_all, hidden_settled_all, stands_still, text_cut}
use Rattle.desk_replica.proofs.Settled.{visible-whole, AllWellFormed-union}
use Rattle.desk_replica.proofs.Stretches.{IsPlacedAll, text_stretch, typed_whole, typed_size, typed_next}
use Rattle.desk_replica.proofs.Typing.{parent_before}
use Rattle.desk_replica.proofs.Whole.{contains-union, first_some}

pub with_operations-append : (xs ys : List OpView) (s : OperationSet) → with_operations s (xs ++ ys) ≡ with_operations (with_operations s xs) ys
with_operations-append [] ys s = refl
with_operations-append (x ∷ xs) ys s = with_operations-append xs ys _

-- what a character typed at a place follows stands in the tree
pub parent_stands : (t : OperationSet) (k : ℕ) → k ≤ length (visible t) → stands_in t (parent_at (visible_ids t) k) ≡ true
parent_stands t zero within = refl
parent_stands t (suc j) within =
    let x = slice_get-within (visible_ids t) j (omega (arith, within, length-map (visible t) (λ (e : Entry). e.0))) in
    ap (λ o. stands_in t (option_map_or After o Root)) x.1 ∙ ap is_some (visible_kept t j x.0 x.1).1

all_right : (P : OpView → Type 0) (xs ys : List OpView) → AllByRecursion P (xs ++ ys) → AllByRecursion P ys
all_right P [] ys h = h
all_right P (x ∷ xs) ys h = all_right P xs ys h.1

-- s without n visible characters from place k on
abbrev pub without : OperationSet → ℕ → ℕ → OperationSet
without s k n = with_operations s (deletions s k n)

pub typed_part : (s : OperationSet) (site k n : ℕ) (chs : List ℕ) → All IsWellFormed (replacement s site k n chs) → AllByRecursion IsWellFormed (typed_text (without s k n) site k chs)
typed_part s site k n chs formed = all_right IsWellFormed (deletions s k n) (typed_text (without s k n) site k chs) (recursion_from_All IsWellFormed (replacement s site k n chs) formed)

module _ (s : OperationSet) (k n : ℕ) (well : AllWellFormed s) (within : k + n ≤ length (visible s)) where
  abbrev rest : OperationSet
  rest = without s k n

  cut : IsErased s rest k n
  cut = erased n s k well within

  -- it is the same one where the characters behind the place are erased
  pub parent_still : parent_at (visible_ids rest) k ≡ parent_at (visible_ids s) k
  parent_still = by k (omega arith)
    where
      front : (j : ℕ) → j < k → slice_get (visible_ids rest) j ≡ slice_get (visible_ids s) j
      front j lt =
          let f = λ (e : Entry). e.0 in
          let ids : visible_ids rest ≡ take k (visible_ids s) ++ drop (k + n) (visible_ids s) =
          ap (each f) cut.visible_is ∙ map-append f (take k (visible s)) (drop (k + n) (visible s)) ∙ (λ i. sym (take-map f k (visible s)) i ++ sym (drop-map f (k + n) (visible s)) i) in
          let x = slice_get-within (visible_ids s) j (omega (arith, lt, within, length-map (visible s) f)) in
          let here = slice_get-take (visible_ids s) k j lt ∙ x.1 in
          ap (λ l. slice_get l j) ids ∙ slice_get-left (take k (visible_ids s)) (drop (k + n) (visible_ids s)) j x.0 here ∙ sym x.1

      by : (m : ℕ) → m ≤ k → parent_at (visible_ids rest) m ≡ parent_at (visible_ids s) m
      by zero le = refl
      by (suc j) le = ap (λ o. option_map_or After o Root) (front j (omega arith))

  pub within_rest : k ≤ length (visible rest)
  within_rest =
      let v = visible s in
      omega (arith, ap length cut.visible_is, length-append (take k v) (drop (k + n) v), length-take-le k v (omega (arith, within)))

  pub text_replaced : (site : ℕ) (chs : List ℕ) → AllByRecursion IsWellFormed (typed_text rest site k chs)
      → text (with_operations s (replacement s site k n chs)) ≡ take k (text s) ++ (chs ++ drop (k + n) (text s))
  text_replaced site chs formed =
      let front = take k (text s) in
      let back = drop (k + n) (text s) in
      let read : text rest ≡ front ++ back = text_cut s rest k (k + n) cut.visible_is in
      let long : length front ≡ k = length-take-le k (text s) (omega (arith, within, length-map (visible s) (λ (e : Entry). e.1.ch))) in
      ap text (with_operations-append (deletions s k n) (typed_text rest site k chs) s)
      ∙ text_stretch site chs rest k cut.well within_rest formed
      ∙ (λ i. take k (read i) ++ (chs ++ drop k (read i)))
      ∙ (λ i. take_at front back k long i ++ (chs ++ drop_at front back k long i))

  pub next_rest : next rest ≡ next s
  next_rest = cut.next_is

  -- so the same is typed there
  pub typed_still : (site : ℕ) (chs : List ℕ) → typed_text rest site k chs ≡ typed_text s site k chs
  typed_still site chs = (λ i. insertions (record { counter = next_rest i; site = site }) (parent_still i) chs)

  pub size_replaced : (site : ℕ) (chs : List ℕ) → AllByRecursion IsWellFormed (typed_text rest site k chs) → size (with_operations s (replacement s site k n chs)) ≡ size s + (n + length chs)
  size_replaced site chs formed = omega (
    arith,
    ap size (with_operations-append (deletions s k n) (typed_text rest site k chs) s),
    typed_size chs rest (next_id rest site) (parent_at (visible_ids rest) k) refl formed,
    cut.size_is,
  )

  pub next_replaced : (site : ℕ) (chs : List ℕ) → AllByRecursion IsWellFormed (typed_text rest site k chs) → next (with_operations s (replacement s site k n chs)) ≡ next s + length chs
  next_replaced site chs formed = omega (
    arith,
    ap next (with_operations-append (deletions s k n) (typed_text rest site k chs) s),
    typed_next chs rest (next_id rest site) (parent_at (visible_ids rest) k) refl formed,
    cut.next_is,
  )

-- ---- in a desk

pub next-part : (t h : OperationSet) → next t ≤ next (union t h)
next-part t h = next-least t (next (union t h)) (omega arith) (λ op kept. next-above (union t h) op (in_both op kept))
  where
    in_both : (op : OpView) → Holds t op → Holds (union t h) op
    in_both (Insert id parent ch) kept = get-union t h id ∙ first_some (map.get t.ins id) (map.get h.ins id) (record { parent = parent; ch = ch }) kept
    in_both (Erase target) kept = contains-union t h target ∙ ap (λ b. b || set.contains h.del target) kept

-- a desk, with its tree and what waits, is to replace n characters from place k on by others, typed behind the parent
pub record IsReplacing (t : OperationSet) (w : Waiting) (greatest k n : ℕ) (parent : Place) : Type 0 where
  pub content : IsContent t
  pub settled : IsSettled t w
  pub counted : next (whole t w) ≡ greatest + 1
  pub within : k + n ≤ length (visible (whole t w))
  pub parent_is : parent ≡ parent_at (visible_ids (whole t w)) k

pub replacing : (t : OperationSet) (w : Waiting) (site spare kept greatest k n : ℕ) (parent : Place) (d : Desk) → IsContent t → IsSettled t w → IsCounted (whole t w) kept greatest → desk_of t w site spare ≡ d
    → k + n ≤ length (visible d.set) → parent ≡ parent_at (visible_ids d.set) k → IsReplacing t w greatest k n parent
replacing t w site spare kept greatest k n parent d content settled counted view within parent_is = record {
  content = content;
  settled = settled;
  counted = counted.next_is;
  within = subst (λ (x : Desk). k + n ≤ length (visible x.set)) (sym view) within;
  parent_is = parent_is ∙ ap (λ (x : Desk). parent_at (visible_ids x.set) k) (sym view);
}

module _ (t : OperationSet) (w : Waiting) (site greatest k n : ℕ) (parent : Place) (now : IsReplacing t w greatest k n parent) where
  abbrev s : OperationSet
  s = whole t w

  abbrev u : OperationSet
  u = with_operations t (deletions t k n)

  abbrev id : Identifier
  id = record { counter = greatest + 1; site = site }

  well : AllWellFormed s
  well = AllWellFormed-union t w.held now.content.well now.settled.well_formed

  seen : visible s ≡ visible t
  seen = visible-whole t w.held now.content.well now.settled.well_formed now.content.tree now.content.only now.settled.parted

  pub within_tree : k + n ≤ length (visible t)
  within_tree = omega (arith, ap length seen, now.within)

  gone : deletions t k n ≡ deletions s k n
  gone = ap (λ (v : List Entry). each Erase (take n (drop k (each (λ e. e.0) v)))) (sym seen)

  whole_u : whole u w ≡ without s k n
  whole_u = hidden_whole_all (take n (drop k (visible_ids t))) t w ∙ ap (with_operations s) gone

  settled_u : IsSettled u w
  settled_u = hidden_settled_all (take n (drop k (visible_ids t))) t w now.settled

  counted_u : next (whole u w) ≡ greatest + 1
  counted_u = ap next whole_u ∙ next_rest s k n well now.within ∙ now.counted

  pub above : next u ≤ greatest + 1
  above = omega (arith, next-part u w.held, counted_u)

  pub stands : stands_in u parent ≡ true
  stands =
      let here : parent ≡ parent_at (visible_ids t) k = now.parent_is ∙ ap (λ (v : List Entry). parent_at (each (λ e. e.0) v) k) seen in
      stands_still (take n (drop k (visible_ids t))) t parent ∙ ap (stands_in t) here ∙ parent_stands t k (omega (arith, within_tree))

  pub follows : MayFollow parent id
  follows = subst (λ p. MayFollow p id) (sym now.parent_is) (parent_before s k id well (omega (arith, now.within)) (sym now.counted))

  module _ (chs : List ℕ) where
    typed_is : insertions id parent chs ≡ typed_text (without s k n) site k chs
    typed_is =
        let counter : greatest + 1 ≡ next (without s k n) = sym now.counted ∙ sym (next_rest s k n well now.within) in
        let behind = now.parent_is ∙ sym (parent_still s k n well now.within) in
        (λ i. insertions (record { counter = counter i; site = site }) (behind i) chs)

    pub made_is : deletions t k n ++ insertions id parent chs ≡ replacement s site k n chs
    made_is = (λ i. gone i ++ typed_is i)

    module _ (cu : IsContent u) (formed : AllByRecursion IsWellFormed (insertions id parent chs)) where
      all_placed : IsPlacedAll u w (insertions id parent chs)
      all_placed = typed_whole chs u w id parent cu settled_u (sym counted_u) stands formed

      pub typed_formed : AllByRecursion IsWellFormed (typed_text (without s k n) site k chs)
      typed_formed = subst (AllByRecursion IsWellFormed) typed_is formed

      pub settled_now : IsSettled (with_operations u (insertions id parent chs)) w
      settled_now = all_placed.settled

      pub whole_now : whole (with_operations u (insertions id parent chs)) w ≡ with_operations s (replacement s site k n chs)
      whole_now = all_placed.whole_is ∙ (λ i. with_operations (whole_u i) (typed_is i)) ∙ sym (with_operations-append (deletions s k n) (typed_text (without s k n) site k chs) s)

      pub counted_now : (kept : ℕ) → IsCounted s kept greatest → size s + (n + length chs) ≤ 1_000_000 → IsCounted (with_operations s (replacement s site k n chs)) (kept + (n + length chs)) (greatest + length chs)
      counted_now kept before few =
          let many = size_replaced s k n well now.within site chs typed_formed in
          let last = next_replaced s k n well now.within site chs typed_formed in
          record { kept_is = omega (arith, many, before.kept_is); limited = omega (arith, before.kept_is, few); next_is = omega (arith, last, before.next_is) }

      -- and each of them is well formed
      pub all_formed : All IsWellFormed (replacement s site k n chs)
      all_formed =
          let gone_formed = all_deletions s k n IsWellFormed now.within (λ j x at. target_formed s j x well at) in
          All-append IsWellFormed (deletions s k n) (typed_text (without s k n) site k chs) gone_formed (All-from_recursion IsWellFormed _ typed_formed)

-- ---- what is said of one outcome

pub on_ok : {A E : Type 0} (r : Result A E) (P Q : Type 0) → (P → Q) → OnOk r P → OnOk r Q
on_ok (Ok x) P Q f p = f p
on_ok (Err e) P Q f p = tt

pub if_err : {A E : Type 0} (r : Result A E) (P Q : E → Type 0) → ((e : E) → P e → Q e) → IfErr r P → IfErr r Q
if_err (Ok x) P Q f p = tt
if_err (Err e) P Q f p = f e p

pub if_err_both : {A E : Type 0} (r : Result A E) (P Q R : E → Type 0) → ((e : E) → P e → Q e → R e) → IfErr r P → IfErr r Q → IfErr r R
if_err_both (Ok x) P Q R f p q = tt
if_err_both (Err e) P Q R f p q = f e p q

-- where nothing is typed, a replacement is refused as an erasure is
pub range_refused : (s : OperationSet) (m n : ℕ) → n ≡ 0 → (fault : TypeFault) → IsReplaceRefused s m n fault → IsRangeRefused s m fault
range_refused s m n none CounterSpent r = absurd (omega (arith, none, r))
range_refused s m n none Full r = omega (arith, none, r.1)
range_refused s m n none Memory r = omega (arith, none, r.1)

-- and where its list has room too, the desk is full
pub range_full : (s : OperationSet) (m n spare : ℕ) → n ≡ 0 → (fault : TypeFault) → IsReplaceRefused s m n fault → (fault ≡ Memory → spare < n) → fault ≡ Full
range_full s m n spare none CounterSpent r paid = absurd (omega (arith, none, r))
range_full s m n spare none Full r paid = refl
range_full s m n spare none Memory r paid = absurd (omega (arith, none, paid refl))
