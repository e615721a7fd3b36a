-- Operation files that readers tell, read one after the other.
use Rattle.std.proofs.Common.{◌≡◌, ◌<◌, ◌≤◌, get_or, ℕ, zero, suc, ◌+◌, Bool, true, false, List, [], ◌∷◌, ◌++◌, Option, Some, None, Result, Ok, Err, ◌⊎◌, inl, inr, take, drop, length, refl, sym, ap, subst, ◌∙◌, arith}
use Rattle.std.specs.Prelude.{map as each, slice_set as set, IfOk, IfErr}
use Rattle.std.specs.List.{AllZip}
use Rattle.std.proofs.lemmas.List.{take_all, take_more, drop_more, drop-map, map-set, length-map, length-set, length-take, drop-set-lt, set_split, take-append-drop, get_or-map}
use Rattle.bg_types.specs.declared.op.OpView.{OpView}
use Rattle.desk_files.specs.declared.run_fault.RunFault.{RunFault}
use Rattle.desk_files.specs.declared.run_fault.RunFault.TheVariants.{ReadFailed, Memory}
use Rattle.desk_files.specs.Reading.{IsReadAs, Flaw, malformed, too_long, flaw_fault}
use Rattle.desk_files.specs.Readers.{Tells, IsAsked, IsToldFile, IsUnreadFile, is_flawed, is_broken, lacks_memory, AreWorking, HasFailedAlone, AreAsked, AreGiven, EndsOver, IsRunOver}
use Rattle.desk_files.specs.Files.{IsFaultyFile}
use Rattle.desk_files.specs.Cause.{IsReadCaused}
use Rattle.desk_files.proofs.Feeding.{none_asked}

-- ---- lists that are related place by place

module _ {A B : Type 0} (R : A → B → Type 0) where
  pub AllZip-append : (xs xs' : List A) (ys ys' : List B) → AllZip R xs ys → AllZip R xs' ys' → AllZip R (xs ++ xs') (ys ++ ys')
  AllZip-append [] xs' [] ys' h more = more
  AllZip-append [] xs' (y ∷ ys) ys' h more = absurd h
  AllZip-append (x ∷ xs) xs' [] ys' h more = absurd h
  AllZip-append (x ∷ xs) xs' (y ∷ ys) ys' h more = (h.0, AllZip-append xs xs' ys ys' h.1 more)

  pub AllZip-length : (xs : List A) (ys : List B) → AllZip R xs ys → length xs ≡ length ys
  AllZip-length [] [] h = refl
  AllZip-length [] (y ∷ ys) h = absurd h
  AllZip-length (x ∷ xs) [] h = absurd h
  AllZip-length (x ∷ xs) (y ∷ ys) h = ap suc (AllZip-length xs ys h.1)

  AllZip-set : (xs : List A) (ys : List B) (k : ℕ) (x : A) (y : B) → AllZip R xs ys → k < length xs → R (get_or xs k x) y → AllZip R xs (set ys k y)
  AllZip-set [] ys k x y h lt r = absurd (omega (arith, lt))
  AllZip-set (a ∷ xs) [] k x y h lt r = absurd h
  AllZip-set (a ∷ xs) (b ∷ ys) zero x y h lt r = (r, h.1)
  AllZip-set (a ∷ xs) (b ∷ ys) (suc k) x y h lt r = (h.0, AllZip-set xs ys k x y h.1 (omega (arith, lt)) r)

-- ---- readers that were not asked

pub none_were_asked : (readers : List (Option (List ℕ))) → AreAsked readers readers
none_were_asked [] = tt
none_were_asked (r ∷ readers) = (none_asked r, none_were_asked readers)

-- ---- readers that work

working-append : (xs ys : List Bool) → AreWorking (xs ++ ys) → AreWorking xs × AreWorking ys
working-append [] ys h = (tt, h)
working-append (x ∷ xs) ys h = let rest = working-append xs ys h.1 in ((h.0, rest.0), rest.1)

working-joined : (xs ys : List Bool) → AreWorking xs → AreWorking ys → AreWorking (xs ++ ys)
working-joined [] ys a b = b
working-joined (x ∷ xs) ys a b = (a.0, working-joined xs ys a.1 b)

-- one reader of the list was asked
module _ (fs : List Bool) (k : ℕ) (lt : k < length fs) (working : AreWorking fs) where
  parts : AreWorking (take k fs) × AreWorking (drop k fs)
  parts = working-append (take k fs) (drop k fs) (subst AreWorking (sym (take-append-drop k fs)) working)

  after : (d : Bool) → AreWorking (drop (suc k) fs)
  after d = let on : k + 1 ≡ suc k = omega arith in subst (λ n. AreWorking (drop n fs)) on ((subst AreWorking (drop_more fs k d lt) parts.1).1)

  pub working-set : (f : Bool) → f ≡ false → AreWorking (set fs k f)
  working-set f is = subst AreWorking (sym (set_split fs k f lt)) (working-joined (take k fs) (f ∷ drop (suc k) fs) parts.0 (is, after f))

  pub failed-set : (f : Bool) → f ≡ true → HasFailedAlone (set fs k f) (k + 1)
  failed-set f is =
      let size = length-take k fs in
      record {
        before = take k fs;
        after = drop (suc k) fs;
        in_order = set_split fs k f lt ∙ ap (λ g. take k fs ++ g ∷ drop (suc k) fs) is;
        number = omega (arith, size, lt);
        working_before = parts.0;
        working_after = after f;
      }

-- ---- what readers may tell

pub some_files : (readers : List (Option (List ℕ))) → (files : List (List ℕ)) × AllZip Tells readers files
some_files [] = ([], tt)
some_files (None ∷ readers) = let rest = some_files readers in ([] ∷ rest.0, (tt, rest.1))
some_files (Some bytes ∷ readers) = let rest = some_files readers in (bytes ∷ rest.0, (refl, rest.1))

-- ---- readers, asked one after the other

-- the files of the first k readers are read as these lists, and the other readers are as they were
pub record ReadTo {X : Type 0} (rem : X → Option (List ℕ)) (failed : X → Bool) (old now : List X) (k : ℕ) (lists : List (List OpView)) : Type 0 where
  pub files : List (List ℕ)
  pub told : AllZip Tells (take k (each rem old)) files
  pub spelled : AllZip IsReadAs files lists
  pub working : AreWorking (each failed now)
  pub unread : drop k now ≡ drop k old
  pub many : length now ≡ length old
  pub asked : AreAsked (each rem old) (each rem now)

pub none_read : {X : Type 0} (rem : X → Option (List ℕ)) (failed : X → Bool) (old : List X) → AreWorking (each failed old) → ReadTo rem failed old old 0 []
none_read rem failed old working = record { files = []; told = tt; spelled = tt; working = working; unread = refl; many = refl; asked = none_were_asked (each rem old) }

module _ {X : Type 0} (rem : X → Option (List ℕ)) (failed : X → Bool) (old now : List X) (k : ℕ) (lists : List (List OpView)) (h : ReadTo rem failed old now k lists) where
  abbrev pub readers : List (Option (List ℕ))
  readers = each rem old

  -- all are read
  pub all_read : length old ≤ k → AreGiven readers (each failed now) (λ files. AllZip IsReadAs files lists)
  all_read all =
      let size : length readers ≤ k = let long = length-map old rem in omega (arith, all, long) in
      record { files = h.files; told = subst (λ rs. AllZip Tells rs h.files) (take_all k readers size) h.told; working = h.working; so = h.spelled }

  -- memory was refused
  pub no_memory : (caused : List (List ℕ) → RunFault → Type 0) → ((files : List (List ℕ)) → caused files Memory) → EndsOver readers (each rem now) (each failed now) caused Memory
  no_memory caused lacks = let some = some_files readers in inr (record { files = some.0; told = some.1; working = h.working; so = lacks some.0 })

  module _ (within : k < length old) (x y : X) (is : x ≡ get_or now k x) where
    lt : k < length now
    lt = let many = h.many in omega (arith, within, many)

    heads : get_or now k x ∷ drop (k + 1) now ≡ get_or old k x ∷ drop (k + 1) old
    heads = sym (drop_more now k x lt) ∙ h.unread ∙ drop_more old k x within

    here : x ≡ get_or old k x
    here = let one : get_or now k x ≡ get_or old k x = (let e = heads in cc) in is ∙ one

    rest : drop (k + 1) now ≡ drop (k + 1) old
    rest = let e = heads in cc

    small : k < length readers
    small = let long = length-map old rem in omega (arith, within, long)

    reader_is : get_or readers k (rem x) ≡ rem x
    reader_is = get_or-map rem old k x (rem x) within ∙ ap rem (sym here)

    one_more : take (k + 1) readers ≡ take k readers ++ rem x ∷ []
    one_more = take_more readers k (rem x) small ∙ ap (λ r. take k readers ++ r ∷ []) reader_is

    in_parts : readers ≡ take k readers ++ rem x ∷ drop (k + 1) readers
    in_parts = sym (take-append-drop k readers) ∙ ap (λ l. take k readers ++ l) (drop_more readers k (rem x) small ∙ ap (λ r. r ∷ drop (k + 1) readers) reader_is)

    flags : each failed (set now k y) ≡ set (each failed now) k (failed y)
    flags = map-set failed now k y

    long_flags : k < length (each failed now)
    long_flags = let long = length-map now failed in let lt' = lt in omega (arith, lt', long)

    counted : k + 1 ≡ length (take k readers) + 1
    counted = let size = length-take k readers in let lt' = small in omega (arith, size, lt')

    -- the reader that is asked works
    pub asked_works : failed (get_or now k x) ≡ false
    asked_works =
        let from = subst AreWorking (drop_more (each failed now) k true long_flags) (working-append (take k (each failed now)) (drop k (each failed now)) (subst AreWorking (sym (take-append-drop k (each failed now))) h.working)).1 in
        sym (get_or-map failed now k x true lt) ∙ from.0

    pub still_working : failed y ≡ false → AreWorking (each failed (set now k y))
    still_working works = subst AreWorking (sym flags) (working-set (each failed now) k long_flags h.working (failed y) works)

    are_asked : IsAsked (rem x) (rem y) → AreAsked readers (each rem (set now k y))
    are_asked a = subst (AreAsked readers) (sym (map-set rem now k y)) (AllZip-set IsAsked readers (each rem now) k (rem x) (rem y) h.asked small (subst (λ r. IsAsked r (rem y)) (sym reader_is) a))

    -- one more is asked
    pub next_asked : IsAsked (rem (get_or now k x)) (rem y) → AreAsked readers (each rem (set now k y))
    next_asked a = are_asked (subst (λ (z : X). IsAsked (rem z) (rem y)) (sym is) a)

    -- one more is read
    read_next : (ops : List OpView) → IsToldFile (rem x) ops → IsAsked (rem x) (rem y) → failed y ≡ false → ReadTo rem failed old (set now k y) (k + 1) (lists ++ ops ∷ [])
    read_next ops t a works = record {
      files = h.files ++ t.file ∷ [];
      told = subst (λ rs. AllZip Tells rs (h.files ++ t.file ∷ [])) (sym one_more) (AllZip-append Tells (take k readers) (rem x ∷ []) h.files (t.file ∷ []) h.told (t.told, tt));
      spelled = AllZip-append IsReadAs h.files (t.file ∷ []) lists (ops ∷ []) h.spelled (t.read, tt);
      working = still_working works;
      unread = drop-set-lt (k + 1) now k y (omega arith) ∙ rest;
      many = length-set now k y ∙ h.many;
      asked = are_asked a;
    }

    pub next_read : (ops : List OpView) → IsToldFile (rem (get_or now k x)) ops → IsAsked (rem (get_or now k x)) (rem y) → failed y ≡ false → ReadTo rem failed old (set now k y) (k + 1) (lists ++ ops ∷ [])
    next_read ops t a works = read_next ops (subst (λ (z : X). IsToldFile (rem z) ops) (sym is) t) (subst (λ (z : X). IsAsked (rem z) (rem y)) (sym is) a) works

    -- the readers after it are as they were
    left_after : drop (suc k) (each rem now) ≡ drop (k + 1) readers
    left_after = let on : suc k ≡ k + 1 = omega arith in ap (λ n. drop n (each rem now)) on ∙ drop-map rem (k + 1) now ∙ ap (each rem) rest ∙ sym (drop-map rem (k + 1) old)

    long_left : k < length (each rem now)
    long_left = let long = length-map now rem in let lt' = lt in omega (arith, lt', long)

    left_parts : each rem (set now k y) ≡ take k (each rem now) ++ rem y ∷ drop (k + 1) readers
    left_parts = map-set rem now k y ∙ set_split (each rem now) k (rem y) long_left ∙ ap (λ rs. take k (each rem now) ++ rem y ∷ rs) left_after

    left_many : length (take k (each rem now)) ≡ length (take k readers)
    left_many = let a = length-take k (each rem now) in let b = length-take k readers in let c = long_left in let d = small in omega (arith, a, b, c, d)

    flawed_caused : (files : List (List ℕ)) (flaw : Flaw) → IsFaultyFile files (k + 1) flaw → IsReadCaused files (flaw_fault (k + 1) flaw)
    flawed_caused files (malformed frame cause) f = f
    flawed_caused files too_long f = f

    unread_so : (fault : RunFault) → IsUnreadFile (k + 1) (rem x) (rem y) (failed y) fault → EndsOver readers (each rem (set now k y)) (each failed (set now k y)) IsReadCaused fault
    unread_so fault (is_flawed flaw e works f) =
        let later = some_files (drop (k + 1) readers) in
        let files = h.files ++ f.file ∷ later.0 in
        inr (record {
          files = files;
          told = subst (λ rs. AllZip Tells rs files) (sym in_parts) (AllZip-append Tells (take k readers) (rem x ∷ drop (k + 1) readers) h.files (f.file ∷ later.0) h.told (f.told, later.1));
          working = still_working works;
          so = subst (IsReadCaused files) (sym e) (flawed_caused files flaw (record {
            before = h.files;
            file = f.file;
            after = later.0;
            lists = lists;
            in_order = refl;
            number = counted ∙ ap (λ n. n + 1) (AllZip-length Tells (take k readers) h.files h.told);
            spelled = h.spelled;
            shown = f.flawed;
          }));
        })
    unread_so fault (is_broken e broke b) =
        inl (
          k + 1,
          e,
          record {
            before = take k readers;
            reader = rem x;
            after = drop (k + 1) readers;
            in_order = in_parts;
            number = counted;
            files = h.files;
            lists = lists;
            told = h.told;
            spelled = h.spelled;
            read = take k (each rem now);
            rest = rem y;
            left_so = left_parts;
            as_many = left_many;
            broken = b;
            alone = subst (λ fs. HasFailedAlone fs (k + 1)) (sym flags) (failed-set (each failed now) k long_flags h.working (failed y) broke);
          },
        )
    unread_so fault (lacks_memory e works) =
        let some = some_files readers in
        inr (record { files = some.0; told = some.1; working = still_working works; so = subst (IsReadCaused some.0) (sym e) tt })

    -- one is not read
    pub not_read : (fault : RunFault) → IsUnreadFile (k + 1) (rem (get_or now k x)) (rem y) (failed y) fault → EndsOver readers (each rem (set now k y)) (each failed (set now k y)) IsReadCaused fault
    not_read fault u = unread_so fault (subst (λ (z : X). IsUnreadFile (k + 1) (rem z) (rem y) (failed y) fault) (sym is) u)

-- ---- what follows from what readers told

module _ (readers : List (Option (List ℕ))) (failed : List Bool) where
  pub told_so : (P Q : List (List ℕ) → Type 0) → ((files : List (List ℕ)) → P files → Q files) → AreGiven readers failed P → AreGiven readers failed Q
  told_so P Q then h = record { files = h.files; told = h.told; working = h.working; so = then h.files h.so }

  -- it holds of any files
  told_any : (P : List (List ℕ) → Type 0) → AreWorking failed → ((files : List (List ℕ)) → P files) → AreGiven readers failed P
  told_any P working so = let some = some_files readers in record { files = some.0; told = some.1; working = working; so = so some.0 }

  pub ok_over : {A : Type 0} (Q : List (List ℕ) → Type 0) (P : List (List ℕ) → A → Type 0) (r : Result A RunFault) → AreGiven readers failed Q → ((files : List (List ℕ)) → Q files → IfOk r (P files)) → IfOk r (λ x. AreGiven readers failed (λ files. P files x))
  ok_over Q P (Ok x) told then = told_so Q (λ files. P files x) then told
  ok_over Q P (Err fault) told then = tt

module _ (readers left : List (Option (List ℕ))) (failed : List Bool) where
  pub ends_so : (P Q : List (List ℕ) → RunFault → Type 0) (fault : RunFault) → ((files : List (List ℕ)) → P files fault → Q files fault) → EndsOver readers left failed P fault → EndsOver readers left failed Q fault
  ends_so P Q fault then (inl lost) = inl lost
  ends_so P Q fault then (inr h) = inr (told_so readers failed (λ files. P files fault) (λ files. Q files fault) then h)

  -- the fault is of no file
  pub ends_unread : (P : List (List ℕ) → RunFault → Type 0) (fault : RunFault) → AreWorking failed → ((files : List (List ℕ)) → P files fault) → EndsOver readers left failed P fault
  ends_unread P fault working so = inr (told_any readers failed (λ files. P files fault) working so)

  pub err_over : {A : Type 0} (Q : List (List ℕ) → Type 0) (P : List (List ℕ) → RunFault → Type 0) (r : Result A RunFault) → AreGiven readers failed Q → ((files : List (List ℕ)) → Q files → IfErr r (P files)) → IfErr r (EndsOver readers left failed P)
  err_over Q P (Ok done) told then = tt
  err_over Q P (Err fault) told then = inr (told_so readers failed Q (λ files. P files fault) then told)

  -- ---- the outcome of a run

  pub run_ended : {T : Type 0} (cut : Type 0) (outcome : List (List ℕ) → Result T RunFault → Type 0) (P : List (List ℕ) → RunFault → Type 0) (fault : RunFault) → ((n : ℕ) → fault ≡ ReadFailed n → cut)
      → ((files : List (List ℕ)) → P files fault → outcome files (Err fault)) → EndsOver readers left failed P fault → IsRunOver readers left failed cut outcome (Err fault)
  run_ended cut outcome P fault so_far then (inl lost) = inl (lost.0, ap (λ (f : RunFault). Err f) lost.1, lost.2, so_far lost.0 lost.1)
  run_ended cut outcome P fault so_far then (inr h) = inr (told_so readers failed (λ files. P files fault) (λ files. outcome files (Err fault)) then h)

  -- no reader was asked
  pub run_unread : {T : Type 0} (cut : Type 0) (outcome : List (List ℕ) → Result T RunFault → Type 0) (r : Result T RunFault) → AreWorking failed
      → ((files : List (List ℕ)) → outcome files r) → IsRunOver readers left failed cut outcome r
  run_unread cut outcome r working so = inr (told_any readers failed (λ files. outcome files r) working so)

  pub run_told : {T : Type 0} (cut : Type 0) (outcome : List (List ℕ) → Result T RunFault → Type 0) (P : List (List ℕ) → Type 0) (r : Result T RunFault)
      → ((files : List (List ℕ)) → P files → outcome files r) → AreGiven readers failed P → IsRunOver readers left failed cut outcome r
  run_told cut outcome P r then h = inr (told_so readers failed P (λ files. outcome files r) then h)

-- ---- readers over files in memory

pub never_failed : {X : Type 0} (xs : List X) → AreWorking (each (λ x. false) xs)
never_failed [] = tt
never_failed (x ∷ xs) = (refl, never_failed xs)

told_files : (files told : List (List ℕ)) → AllZip Tells (each (λ (f : List ℕ). Some f) files) told → told ≡ files
told_files [] [] h = refl
told_files [] (t ∷ told) h = absurd h
told_files (f ∷ files) [] h = absurd h
told_files (f ∷ files) (t ∷ told) h = λ i. h.0 i ∷ told_files files told h.1 i

not_alone : (failed : List Bool) (n : ℕ) → AreWorking failed → HasFailedAlone failed n → ⊥
not_alone failed n working h =
    let parts = working-append h.before (true ∷ h.after) (subst AreWorking h.in_order working) in
    let broke = parts.1.0 in absurd cc

-- a run over readers that tell their bytes: a reader failed, or it is a run over files of these bytes
pub over_told : {T : Type 0} (files : List (List ℕ)) (left : List (Option (List ℕ))) (failed : List Bool) (cut : Type 0) (outcome : List (List ℕ) → Result T RunFault → Type 0) (r : Result T RunFault)
    → IsRunOver (each (λ (f : List ℕ). Some f) files) left failed cut outcome r → ((n : ℕ) × (r ≡ Err (ReadFailed n)) × HasFailedAlone failed n × cut) ⊎ outcome files r
over_told files left failed cut outcome r (inl lost) = inl (lost.0, lost.1, lost.2.alone, lost.3)
over_told files left failed cut outcome r (inr h) = inr (subst (λ fs. outcome fs r) (told_files files h.files h.told) h.so)

-- files in memory are read without a failure
module _ {X : Type 0} (readers : List (Option (List ℕ))) (files : List (List ℕ)) (xs : List X) (is : readers ≡ each (λ (f : List ℕ). Some f) files) where
  pub over_memory : {T : Type 0} (left : List (Option (List ℕ))) (cut : Type 0) (outcome : List (List ℕ) → Result T RunFault → Type 0) (r : Result T RunFault) → IsRunOver readers left (each (λ x. false) xs) cut outcome r → outcome files r
  over_memory left cut outcome r h =
      elim (over_told files left (each (λ x. false) xs) cut outcome r (subst (λ rs. IsRunOver rs left (each (λ x. false) xs) cut outcome r) is h)) [
        | inl lost ↦ absurd (not_alone (each (λ x. false) xs) lost.0 (never_failed xs) lost.2)
        | inr so ↦ so
      ]

  pub as_many : (rem : X → Option (List ℕ)) → readers ≡ each rem xs → length xs ≡ length files
  as_many rem same = sym (length-map xs rem) ∙ ap (λ (rs : List (Option (List ℕ))). length rs) (sym same ∙ is) ∙ length-map files (λ (f : List ℕ). Some f)
