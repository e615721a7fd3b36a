-- The files and the file of the change read together.
use Rattle.std.proofs.Common.{◌≡◌, ◌≤◌, ◌+◌, inl, inr, ℕ, suc, List, [], ◌∷◌, ◌++◌, length, take, drop, refl, sym, ap, subst, ◌∙◌, length-append, arith}
use Rattle.std.specs.Prelude.{Contains, map as each}
use Rattle.std.specs.List.{AllByRecursion, AllZip}
use Rattle.std.specs.Str.{chars}
use Rattle.std.proofs.lemmas.List.{length-map, map-append, length-take, take-map, drop-map}
use Rattle.std.proofs.lemmas.List.Elements.{All-contains, All-from_recursion, Contains-append_left, Contains-append_right, Contains-append_cases}
use Rattle.bg_types.specs.WellFormed.{IsWellFormed}
use Rattle.bg_types.specs.OperationSet.{OperationSet, AllWellFormed, next, size}
use Rattle.bg_types.specs.declared.op.Place.{Place}
use Rattle.bg_types.specs.declared.op.Place.TheVariants.{After}
use Rattle.bg_types.specs.declared.op.OpView.{OpView}
use Rattle.bg_types.specs.declared.op.OpView.TheVariants.{Erase}
use Rattle.op_codec.specs.declared.position.Version.{Version}
use Rattle.op_codec.specs.Spelling.{Spells, SpellsIn}
use Rattle.rga_tree.specs.TextOf.{text, visible, visible_ids}
use Rattle.rga_tree.proofs.Interface.{Entry}
use Rattle.desk_replica.specs.Typing.{parent_at}
use Rattle.desk_replica.specs.Merging.{with_operations}
use Rattle.desk_replica.specs.Replacement.{id_after, deletions, insertions}
use Rattle.desk_replica.specs.SetOf.{IsSetOf}
use Rattle.desk_files.specs.Reading.{limit, IsReadAs}
use Rattle.desk_files.specs.Files.{joined}
use Rattle.desk_runs.specs.declared.change.Change.{Change}
use Rattle.desk_runs.specs.Changing.{replaced, place_in, operations_of, Fits}
use Rattle.desk_runs.specs.TypedOutcome.{IsTypedFile}
use Rattle.desk_runs.specs.SameFiles.{HaveSameFiles, ReadAs}
use Rattle.desk_runs.proofs.Lists.{take-front, drop-front, parent_cut, place_cut}
use Rattle.desk_runs.proofs.Sets.{AllJoin, AllJoin-append, with_operations-append, Holds-with_operations, size-with_operations, contains_first, contains_one}
use Rattle.desk_runs.proofs.Erased.{EditLaws, IsErased, erased_all}
use Rattle.desk_runs.proofs.TypedRun.{IsTyped, typed_all}
use Rattle.desk_runs.proofs.FileSize.{file_size}
use Rattle.desk_runs.proofs.Held.{joined-of, joined-has, ops_of, file_of, lists_for}

append_inner : (xs ys : List OpView) → AllByRecursion IsWellFormed (xs ++ ys) → AllByRecursion IsWellFormed xs × AllByRecursion IsWellFormed ys
append_inner [] ys h = (tt, h)
append_inner (x ∷ xs) ys h = let rest = append_inner xs ys h.1 in ((h.0, rest.0), rest.1)

-- ---- the operations of a change, one after the other

module _ (laws : EditLaws) (s : OperationSet) (change : Change) (typed : List ℕ) (well : AllWellFormed s) (fits : Fits s change typed) (formed : AllByRecursion IsWellFormed (operations_of s change typed)) where
  abbrev out : List OpView
  out = deletions s (place_in s change) change.erased

  abbrev t : OperationSet
  t = with_operations s (deletions s (place_in s change) change.erased)

  abbrev new : List OpView
  new = insertions (record { counter = next s; site = change.site }) (parent_at (visible_ids s) (place_in s change)) typed

  parts : AllByRecursion IsWellFormed out × AllByRecursion IsWellFormed new
  parts = append_inner out new formed

  erased : IsErased s t (place_in s change) change.erased × AllJoin s out
  erased = erased_all laws (place_in s change) change.erased s well fits.within parts.0

  text_cut : text t ≡ take (place_in s change) (text s) ++ drop (place_in s change + change.erased) (text s)
  text_cut = ap (each (λ (e : Entry). e.1.ch)) erased.0.visible_is ∙ map-append (λ (e : Entry). e.1.ch) (take (place_in s change) (visible s)) (drop (place_in s change + change.erased) (visible s))
      ∙ (λ i. sym (take-map (λ (e : Entry). e.1.ch) (place_in s change) (visible s)) i ++ sym (drop-map (λ (e : Entry). e.1.ch) (place_in s change + change.erased) (visible s)) i)

  many_text : length (text s) ≡ length (visible s)
  many_text = length-map (visible s) (λ (e : Entry). e.1.ch)

  same_parent : parent_at (visible_ids t) (place_in s change) ≡ parent_at (visible_ids s) (place_in s change)
  same_parent = parent_cut s t (place_in s change) (place_in s change + change.erased) (omega (arith, fits.within)) erased.0.visible_is

  same_new : new ≡ insertions (record { counter = next t; site = change.site }) (parent_at (visible_ids t) (place_in s change)) typed
  same_new = λ i. insertions (record { counter = sym erased.0.next_is i; site = change.site }) (sym same_parent i) typed

  within_t : place_in s change ≤ length (visible t)
  within_t = place_cut s t (place_in s change) (place_in s change + change.erased) (omega (arith, fits.within)) erased.0.visible_is

  typed_there : IsTyped t new (place_in s change) typed
  typed_there = subst (λ ops. IsTyped t ops (place_in s change) typed) (sym same_new)
      (typed_all laws change.site typed t (place_in s change) erased.0.well within_t (subst (AllByRecursion IsWellFormed) same_new parts.1))

  pub joins : AllJoin s (operations_of s change typed)
  joins = AllJoin-append s out new erased.1 typed_there.joins

  pub text_is : text (with_operations s (operations_of s change typed)) ≡ replaced (text s) (place_in s change) change.erased typed
  text_is =
      let le : place_in s change ≤ length (text s) = omega (arith, many_text, fits.within) in
      let rest = drop (place_in s change + change.erased) (text s) in
      ap text (with_operations-append s out new) ∙ typed_there.text_is
      ∙ (λ i. take (place_in s change) (text_cut i) ++ (typed ++ drop (place_in s change) (text_cut i)))
      ∙ (λ i. take-front (text s) rest (place_in s change) le i ++ (typed ++ drop-front (text s) rest (place_in s change) le i))

  count_is : length (operations_of s change typed) ≤ change.erased + length typed
  count_is =
      let both = length-append out new in
      omega (arith, both, few, runs typed (record { counter = next s; site = change.site }) (parent_at (visible_ids s) (place_in s change)))
    where
      runs : (xs : List ℕ) (id : _) (p : Place) → length (insertions id p xs) ≡ length xs
      runs [] id p = refl
      runs (x ∷ xs) id p = ap (λ m. suc m) (runs xs (id_after id) (After id))

      few : length out ≤ change.erased
      few = let each_one = length-map (take change.erased (drop (place_in s change) (visible_ids s))) Erase in let most = length-take change.erased (drop (place_in s change) (visible_ids s)) in omega (arith, each_one, most)

  pub size_is : size (with_operations s (operations_of s change typed)) ≤ 1_000_000
  size_is = let most = size-with_operations s (operations_of s change typed) joins in omega (arith, most, count_is, fits.room)

  pub file_within : (version : Version) (file : List ℕ) → SpellsIn version file (operations_of s change typed) → length file ≤ limit
  file_within version file spelled =
      let same = ap length spelled.bytes in
      let most = file_size version (operations_of s change typed) in
      omega (arith, same, most, count_is, fits.room)

-- ---- files

module _ (one_list : (file : List ℕ) (a b : List OpView) → Spells file a → Spells file b → a ≡ b) (laws : EditLaws)
    (version : Version) (files more : List (List ℕ)) (change : Change) (words file : List ℕ) (is_typed : IsTypedFile version files change words file) (same : HaveSameFiles more (files ++ file ∷ [])) where
  abbrev s : OperationSet
  s = is_typed.set

  abbrev ops : List OpView
  ops = operations_of is_typed.set change (chars words)

  well_formed : AllWellFormed is_typed.set
  well_formed op held =
      let in_lists = joined-of is_typed.of_files.lists op ((is_typed.of_files.of_all op).0 held) in
      let from = file_of files is_typed.of_files.lists in_lists.0 is_typed.of_files.spelled in_lists.1 in
      All-contains IsWellFormed in_lists.0 op (All-from_recursion IsWellFormed in_lists.0 from.1.read.spelled.spelled.well_formed) in_lists.2

  read_new : IsReadAs file ops
  read_new = record {
    spelled = record { version = version; spelled = is_typed.spelled };
    within = file_within laws is_typed.set change (chars words) well_formed is_typed.fits is_typed.spelled.well_formed version file is_typed.spelled;
  }

  -- each of the files is read as its operations
  read_more : (f : List ℕ) → Contains more f → (xs : List OpView) × IsReadAs f xs
  read_more f listed = elim (Contains-append_cases files (file ∷ []) f ((same f).0 listed)) [
    | inl old ↦ let one = ops_of files is_typed.of_files.lists f is_typed.of_files.spelled old in (one.0, one.2)
    | inr here ↦ (ops, subst (λ b. IsReadAs b ops) (sym (contains_one file f here)) read_new)
  ]

  lists_more : (lists : List (List OpView)) × AllZip IsReadAs more lists
  lists_more = lists_for more read_more

  -- what a file of them holds, all of them hold
  held_more : (f : List ℕ) (xs : List OpView) (op : OpView) → Contains (files ++ file ∷ []) f → IsReadAs f xs → Contains xs op → Contains (joined lists_more.0) op
  held_more f xs op listed read there =
      let one = ops_of more lists_more.0 f lists_more.1 ((same f).1 listed) in
      joined-has lists_more.0 one.0 op one.1 (subst (λ l. Contains l op) (one_list f xs one.0 read.spelled one.2.spelled) there)

  of_more : IsSetOf (joined lists_more.0) (with_operations is_typed.set ops)
  of_more op = (
    λ held. elim ((Holds-with_operations is_typed.set ops all_join op).0 held) [
      | inl made ↦ held_more file ops op (Contains-append_right files (file ∷ []) file (contains_first file [])) read_new made
      | inr old ↦
          let in_lists = joined-of is_typed.of_files.lists op ((is_typed.of_files.of_all op).0 old) in
          let from = file_of files is_typed.of_files.lists in_lists.0 is_typed.of_files.spelled in_lists.1 in
          held_more from.0 in_lists.0 op (Contains-append_left files (file ∷ []) from.0 from.1.listed) from.1.read in_lists.2
    ],
    λ listed.
        let in_lists = joined-of lists_more.0 op listed in
        let from = file_of more lists_more.0 in_lists.0 lists_more.1 in_lists.1 in
        (Holds-with_operations is_typed.set ops all_join op).1 (elim (Contains-append_cases files (file ∷ []) from.0 ((same from.0).0 from.1.listed)) [
          | inl old ↦
              let one = ops_of files is_typed.of_files.lists from.0 is_typed.of_files.spelled old in
              inr ((is_typed.of_files.of_all op).1 (joined-has is_typed.of_files.lists one.0 op one.1
              (subst (λ l. Contains l op) (one_list from.0 in_lists.0 one.0 from.1.read.spelled one.2.spelled) in_lists.2)))
          | inr here ↦ inl (subst (λ l. Contains l op) (one_list file in_lists.0 ops (subst (λ b. Spells b in_lists.0) (contains_one file from.0 here) from.1.read.spelled) read_new.spelled) in_lists.2)
        ]),
  )
    where
      all_join : AllJoin is_typed.set ops
      all_join = joins laws is_typed.set change (chars words) well_formed is_typed.fits is_typed.spelled.well_formed

  pub read_together : ReadAs more (replaced (text is_typed.set) (place_in is_typed.set change) change.erased (chars words))
  read_together = record {
    set = with_operations is_typed.set ops;
    of_files = record { lists = lists_more.0; spelled = lists_more.1; of_all = of_more };
    limited = size_is laws is_typed.set change (chars words) well_formed is_typed.fits is_typed.spelled.well_formed;
    text_is = text_is laws is_typed.set change (chars words) well_formed is_typed.fits is_typed.spelled.well_formed;
  }
