-- What keys tell of identifiers.
use Rattle.std.proofs.Common.{◌≡◌, ℕ, zero, suc, ◌<◌, ◌≤◌, ◌+◌, ◌-◌, Bool, true, false, cond, not, ◌&&◌, List, [], ◌∷◌, ◌++◌, length, take, drop, get_or, Option, Some, None, refl, sym, ap, subst, ◌∙◌, arith}
use Rattle.std.specs.Prelude.{nat_lt, nat_eq, set}
use Rattle.std.proofs.lemmas.Bool.{ltb-true, ltb-false, lt-ltb, eqb-true, eq-eqb}
use Rattle.std.proofs.lemmas.List.{get_or-take, get_or-drop, length-drop, length-take-le}
use Rattle.bg_types.specs.Identifier.{Identifier}
use Rattle.rga_runs.specs.declared.key.Key.{Key}
use Rattle.rga_runs.specs.Typed.{later}
use Rattle.rga_runs.specs.Keyed.{rank, or_last, last_key, of_site, look_in, reaches}

abbrev own : ℕ → Key → Option Key
own r k = cond (nat_lt r (rank k.first)) None (Some k)

or_last-assoc : (a b c : Option Key) → or_last (or_last a b) c ≡ or_last a (or_last b c)
or_last-assoc (Some k) b c = refl
or_last-assoc None b c = refl

pub last-append : (r : ℕ) (xs ys : List Key) → last_key r (xs ++ ys) ≡ or_last (last_key r ys) (last_key r xs)
last-append r [] ys = none (last_key r ys) where
  none : (o : Option Key) → o ≡ or_last o None
  none (Some k) = refl
  none None = refl
last-append r (x ∷ xs) ys = ap (λ o. or_last o (own r x)) (last-append r xs ys) ∙ or_last-assoc (last_key r ys) (last_key r xs) (own r x)

-- each of the keys is above
abbrev pub AreAbove : ℕ → List Key → Type 0
AreAbove r ks = (i : ℕ) (d : Key) → i < length ks → r < rank (get_or ks i d).first

abbrev pub AreNotAbove : ℕ → List Key → Type 0
AreNotAbove r ks = (i : ℕ) (d : Key) → i < length ks → rank (get_or ks i d).first ≤ r

own_above : (r : ℕ) (k : Key) → r < rank k.first → own r k ≡ None
own_above r k above = ap (λ b. cond b None (Some k)) (lt-ltb r (rank k.first) above)

own_below : (r : ℕ) (k : Key) → rank k.first ≤ r → own r k ≡ Some k
own_below r k below = by_test (nat_lt r (rank k.first)) refl where
  by_test : (b : Bool) → nat_lt r (rank k.first) ≡ b → cond (nat_lt r (rank k.first)) None (Some k) ≡ Some k
  by_test true is = let more = ltb-true r (rank k.first) is in absurd (omega (arith, more, below))
  by_test false is = ap (λ b. cond b None (Some k)) is

pub last_none : (r : ℕ) (ks : List Key) → AreAbove r ks → last_key r ks ≡ None
last_none r [] above = refl
last_none r (k ∷ ks) above =
    let first : r < rank k.first = above 0 k (omega arith) in
    (λ i. or_last (last_none r ks (λ j d less. above (suc j) d (omega (arith, less))) i) (own_above r k first i))

-- what is found is one of the keys, and not above
pub last_of : (P : Key → Type 0) (r : ℕ) (ks : List Key) (k : Key) → ((i : ℕ) (d : Key) → i < length ks → P (get_or ks i d)) → last_key r ks ≡ Some k → P k × (rank k.first ≤ r)
last_of P r [] k all is = absurd cc
last_of P r (x ∷ ks) k all is = by_rest (λ z. last_of P r ks k (λ i d less. all (suc i) d (omega (arith, less))) z) (last_key r ks) refl is where
  here : (b : Bool) → nat_lt r (rank x.first) ≡ b → cond b None (Some x) ≡ Some k → P k × (rank k.first ≤ r)
  here true t is = absurd cc
  here false t is = let same : x ≡ k = cc in let low : rank x.first ≤ r = ltb-false r (rank x.first) t in (subst P same (all 0 x (omega arith)), subst (λ (z : Key). rank z.first ≤ r) same low)

  by_rest : (last_key r ks ≡ Some k → P k × (rank k.first ≤ r)) → (o : Option Key) → last_key r ks ≡ o → or_last o (own r x) ≡ Some k → P k × (rank k.first ≤ r)
  by_rest more (Some z) was is = let same : z ≡ k = cc in more (was ∙ ap Some same)
  by_rest more None was is = here (nat_lt r (rank x.first)) refl is

-- the last one in a row of keys of which the first are not above
pub last_at : (r : ℕ) (ks : List Key) (n : ℕ) (d : Key) → n < length ks → rank (get_or ks n d).first ≤ r → AreAbove r (drop (suc n) ks) → last_key r ks ≡ Some (get_or ks n d)
last_at r [] n d there low above = absurd (omega arith)
last_at r (k ∷ ks) zero d there low above = (λ i. or_last (last_none r ks above i) (own_below r k low i))
last_at r (k ∷ ks) (suc n) d there low above = ap (λ o. or_last o (own r k)) (last_at r ks n d (omega arith) low above)

pub site_eq : (a b : ℕ) → nat_eq a b ≡ true → a ≡ b
site_eq a b h = eqb-true a b h

-- ---- one key more

-- of two identifiers and a key between them, in the order of their numbers, all are of one site if the two are
between : (a b c : Identifier) → a.counter < 4294967296 → b.counter < 4294967296 → c.counter < 4294967296 → rank a ≤ rank b → rank b ≤ rank c → a.site ≡ c.site → b.site ≡ a.site
between a b c fa fb fc ab bc same = omega (arith, fa, fb, fc, ab, bc, same)

abbrev answer : Bool → Identifier → ℕ → Option (Identifier × ℕ) → Option (Identifier × ℕ)
answer b id n o = cond b (Some (id, n)) o

no_reach : (f q : Identifier) (o : Option (Identifier × ℕ)) → nat_eq f.site q.site ≡ false → reaches f q o ≡ false
no_reach f q None h = ap (λ b. b && not (nat_lt q.counter f.counter)) h
no_reach f q (Some e) h = ap (λ b. b && (not (nat_lt q.counter f.counter) && not (nat_lt f.counter e.0.counter))) h

no_reach-low : (f q : Identifier) (o : Option (Identifier × ℕ)) → nat_lt q.counter f.counter ≡ true → reaches f q o ≡ false
no_reach-low f q None h = by_site (nat_eq f.site q.site) where
  by_site : (b : Bool) → (b && not (nat_lt q.counter f.counter)) ≡ false
  by_site true = ap not h
  by_site false = refl
no_reach-low f q (Some e) h = by_site (nat_eq f.site q.site) where
  by_site : (b : Bool) → (b && (not (nat_lt q.counter f.counter) && not (nat_lt f.counter e.0.counter))) ≡ false
  by_site true = ap (λ t. not t && not (nat_lt f.counter e.0.counter)) h
  by_site false = refl

no_reach-far : (f q : Identifier) (e : Identifier × ℕ) → nat_lt f.counter e.0.counter ≡ true → reaches f q (Some e) ≡ false
no_reach-far f q e h = by_site (nat_eq f.site q.site) (nat_lt q.counter f.counter) where
  by_site : (b c : Bool) → (b && (not c && not (nat_lt f.counter e.0.counter))) ≡ false
  by_site true true = refl
  by_site true false = ap not h
  by_site false c = refl

pub ltb_ge : (a b : ℕ) → b ≤ a → nat_lt a b ≡ false
ltb_ge a b h = by_test (nat_lt a b) refl where
  by_test : (t : Bool) → nat_lt a b ≡ t → nat_lt a b ≡ false
  by_test true is = let less = ltb-true a b is in absurd (omega (arith, less, h))
  by_test false is = is

pub eq_false : (a b : ℕ) → (a ≡ b → ⊥) → nat_eq a b ≡ false
eq_false a b never = by_test (nat_eq a b) refl where
  by_test : (t : Bool) → nat_eq a b ≡ t → nat_eq a b ≡ false
  by_test true is = absurd (never (eqb-true a b is))
  by_test false is = is

pub eq_true : (a b : ℕ) → a ≡ b → nat_eq a b ≡ true
eq_true a b is = eq-eqb a b is

same_answer : (b : Bool) (id : Identifier) (n : ℕ) (o p : Option (Identifier × ℕ)) → b ≡ false → p ≡ o → p ≡ answer b id n o
same_answer b id n o p out is = is ∙ ap (λ t. answer t id n o) (sym out)

new_answer : (b : Bool) (id : Identifier) (n : ℕ) (o p : Option (Identifier × ℕ)) → b ≡ true → p ≡ Some (id, n) → p ≡ answer b id n o
new_answer b id n o p inside is = is ∙ ap (λ t. answer t id n o) (sym inside)

-- what the keys around it and the new one tell together
pub put_look : (xs ys : List Key) (key : Key) (q : Identifier) → q.counter < 4294967296 → AreNotAbove (rank key.first) xs → AreAbove (rank key.first) ys
    → look_in (xs ++ key ∷ ys) q ≡ answer (reaches key.first q (look_in (xs ++ ys) q)) key.first key.number (look_in (xs ++ ys) q)
put_look xs ys key q fits low high = by_place (nat_lt (rank q) (rank key.first)) refl where
  f : Identifier
  f = key.first

  r : ℕ
  r = rank q

  around : last_key r (xs ++ ys) ≡ or_last (last_key r ys) (last_key r xs)
  around = last-append r xs ys

  all : last_key r (xs ++ key ∷ ys) ≡ or_last (or_last (last_key r ys) (own r key)) (last_key r xs)
  all = last-append r xs (key ∷ ys)

  goal : Type 0
  goal = look_in (xs ++ key ∷ ys) q ≡ answer (reaches f q (look_in (xs ++ ys) q)) f key.number (look_in (xs ++ ys) q)

  -- it is above
  above : nat_lt r (rank f) ≡ true → goal
  above is =
      let same : look_in (xs ++ key ∷ ys) q ≡ look_in (xs ++ ys) q =
      ap (of_site q.site) (all ∙ ap (λ o. or_last (or_last (last_key r ys) o) (last_key r xs)) (ap (λ b. cond b None (Some key)) is)
      ∙ ap (λ o. or_last o (last_key r xs)) (drop_none (last_key r ys)) ∙ sym around) in
      let less : r < rank f = ltb-true r (rank f) is in
      same_answer (reaches f q (look_in (xs ++ ys) q)) f key.number (look_in (xs ++ ys) q) (look_in (xs ++ key ∷ ys) q) (by_site (nat_eq f.site q.site) refl less) same where
        drop_none : (o : Option Key) → or_last o None ≡ o
        drop_none (Some k) = refl
        drop_none None = refl

        by_site : (b : Bool) → nat_eq f.site q.site ≡ b → r < rank f → reaches f q (look_in (xs ++ ys) q) ≡ false
        by_site true is less =
            let same = site_eq f.site q.site is in
            no_reach-low f q (look_in (xs ++ ys) q) (lt-ltb q.counter f.counter (omega (arith, less, same)))
        by_site false is less = no_reach f q (look_in (xs ++ ys) q) is

  -- one behind it is the last
  behind : (k : Key) → last_key r ys ≡ Some k → rank f ≤ r → goal
  behind k is within =
      let old : last_key r (xs ++ ys) ≡ Some k = around ∙ ap (λ o. or_last o (last_key r xs)) is in
      let new : last_key r (xs ++ key ∷ ys) ≡ Some k = all ∙ ap (λ o. or_last (or_last o (own r key)) (last_key r xs)) is in
      let found = last_of (λ (z : Key). rank f < rank z.first) r ys k high is in
      let counter = k.counter in
      same_answer (reaches f q (look_in (xs ++ ys) q)) f key.number (look_in (xs ++ ys) q) (look_in (xs ++ key ∷ ys) q)
      (ap (λ o. reaches f q (of_site q.site o)) old ∙ by_key (nat_eq k.first.site q.site) refl (nat_eq f.site q.site) refl found.0 found.1) (ap (of_site q.site) (new ∙ sym old)) where
        by_key : (b : Bool) → nat_eq k.first.site q.site ≡ b → (c : Bool) → nat_eq f.site q.site ≡ c → rank f < rank k.first → rank k.first ≤ r → reaches f q (cond b (Some (k.first, k.number)) None) ≡ false
        by_key b is false other far near = no_reach f q (cond b (Some (k.first, k.number)) None) other
        by_key true is true mine far near =
            let ks = site_eq k.first.site q.site is in
            let fs = site_eq f.site q.site mine in
            no_reach-far f q (k.first, k.number) (lt-ltb f.counter k.first.counter (omega (arith, ks, fs, far)))
        by_key false is true mine far near =
            let fs = site_eq f.site q.site mine in
            let fc = key.counter in
            let kc = k.counter in
            let ks : k.first.site ≡ f.site = between f k.first q (omega (arith, fc)) (omega (arith, kc)) fits (omega (arith, far)) near fs in
            let together : nat_eq k.first.site q.site ≡ true = eq_true k.first.site q.site (ks ∙ fs) in
            absurd cc

  -- it is the last
  last : last_key r ys ≡ None → rank f ≤ r → goal
  last none within =
      let old : last_key r (xs ++ ys) ≡ last_key r xs = around ∙ ap (λ o. or_last o (last_key r xs)) none in
      let new : last_key r (xs ++ key ∷ ys) ≡ Some key = all ∙ ap (λ o. or_last (or_last o (own r key)) (last_key r xs)) none ∙ ap (λ o. or_last o (last_key r xs)) (own_below r key within) in
      ap (of_site q.site) new ∙ by_site (nat_eq f.site q.site) refl (last_key r xs) refl ∙ ap (λ o. answer (reaches f q (of_site q.site o)) f key.number (of_site q.site o)) (sym old) where
        reached : (o : Option Key) → last_key r xs ≡ o → f.site ≡ q.site → reaches f q (of_site q.site o) ≡ true
        reached None was same =
            let low : nat_lt q.counter f.counter ≡ false = ltb_ge q.counter f.counter (omega (arith, within, same)) in
            (λ i. eq_true f.site q.site same i && not (low i))
        reached (Some k) was same =
            let found = last_of (λ (z : Key). rank z.first ≤ rank f) r xs k low was in
            let low : nat_lt q.counter f.counter ≡ false = ltb_ge q.counter f.counter (omega (arith, within, same)) in
            by_key (nat_eq k.first.site q.site) refl found.0 low where
              by_key : (b : Bool) → nat_eq k.first.site q.site ≡ b → rank k.first ≤ rank f → nat_lt q.counter f.counter ≡ false → reaches f q (cond b (Some (k.first, k.number)) None) ≡ true
              by_key true is near low =
                  let ks = site_eq k.first.site q.site is in
                  let close : nat_lt f.counter k.first.counter ≡ false = ltb_ge f.counter k.first.counter (omega (arith, near, ks, same)) in
                  (λ i. eq_true f.site q.site same i && (not (low i) && not (close i)))
              by_key false is near low = (λ i. eq_true f.site q.site same i && not (low i))

        by_site : (b : Bool) → nat_eq f.site q.site ≡ b → (o : Option Key) → last_key r xs ≡ o
            → cond b (Some (f, key.number)) None ≡ answer (reaches f q (of_site q.site o)) f key.number (of_site q.site o)
        by_site true is o was =
            new_answer (reaches f q (of_site q.site o)) f key.number (of_site q.site o) (Some (f, key.number)) (reached o was (site_eq f.site q.site is)) refl
        by_site false is None was = same_answer (reaches f q None) f key.number None None (no_reach f q None is) refl
        by_site false is (Some k) was =
            let found = last_of (λ (z : Key). rank z.first ≤ rank f) r xs k low was in
            by_key (nat_eq k.first.site q.site) refl found.0 where
              by_key : (b : Bool) → nat_eq k.first.site q.site ≡ b → rank k.first ≤ rank f → None ≡ answer (reaches f q (cond b (Some (k.first, k.number)) None)) f key.number (cond b (Some (k.first, k.number)) None)
              by_key true eq near =
                  let ks = site_eq k.first.site q.site eq in
                  let fc = key.counter in
                  let kc = k.counter in
                  let fs : f.site ≡ k.first.site = between k.first f q (omega (arith, kc)) (omega (arith, fc)) fits near within ks in
                  let together : nat_eq f.site q.site ≡ true = eq_true f.site q.site (fs ∙ ks) in
                  absurd cc
              by_key false eq near = same_answer (reaches f q None) f key.number None None (no_reach f q None is) refl

  by_place : (b : Bool) → nat_lt r (rank f) ≡ b → goal
  by_place true is = above is
  by_place false is = by_last (last_key r ys) refl where
    by_last : (o : Option Key) → last_key r ys ≡ o → goal
    by_last (Some k) was = behind k was (ltb-false r (rank f) is)
    by_last None was = last was (ltb-false r (rank f) is)

-- ---- another number for a key

pub renew_look : (xs ys : List Key) (was key : Key) (q : Identifier) → was.first ≡ key.first → q.counter < 4294967296 → AreNotAbove (rank key.first) xs → AreAbove (rank key.first) ys
    → look_in (xs ++ key ∷ ys) q ≡ answer (reaches key.first q (look_in (xs ++ was ∷ ys) q)) key.first key.number (look_in (xs ++ was ∷ ys) q)
renew_look xs ys was key q same fits low high =
    let old : look_in (xs ++ was ∷ ys) q ≡ answer (reaches key.first q (look_in (xs ++ ys) q)) key.first was.number (look_in (xs ++ ys) q) =
    put_look xs ys was q fits (subst (λ f. AreNotAbove (rank f) xs) (sym same) low) (subst (λ f. AreAbove (rank f) ys) (sym same) high)
    ∙ ap (λ f. answer (reaches f q (look_in (xs ++ ys) q)) f was.number (look_in (xs ++ ys) q)) same in
    put_look xs ys key q fits low high ∙ by_reach (reaches key.first q (look_in (xs ++ ys) q)) refl old where
      again : (o : Option (Identifier × ℕ)) → reaches key.first q o ≡ true → reaches key.first q (Some (key.first, was.number)) ≡ true
      again None inside = both (nat_eq key.first.site q.site) (nat_lt q.counter key.first.counter) inside where
        both : (b c : Bool) → (b && not c) ≡ true → (b && (not c && not (nat_lt key.first.counter key.first.counter))) ≡ true
        both true false inside = ap not (ltb_ge key.first.counter key.first.counter (omega arith))
        both true true inside = absurd cc
        both false c inside = absurd cc
      again (Some e) inside = both (nat_eq key.first.site q.site) (nat_lt q.counter key.first.counter) (nat_lt key.first.counter e.0.counter) inside where
        both : (b c t : Bool) → (b && (not c && not t)) ≡ true → (b && (not c && not (nat_lt key.first.counter key.first.counter))) ≡ true
        both true false t inside = ap not (ltb_ge key.first.counter key.first.counter (omega arith))
        both true true t inside = absurd cc
        both false c t inside = absurd cc

      by_reach : (b : Bool) → reaches key.first q (look_in (xs ++ ys) q) ≡ b → look_in (xs ++ was ∷ ys) q ≡ answer (reaches key.first q (look_in (xs ++ ys) q)) key.first was.number (look_in (xs ++ ys) q)
          → answer (reaches key.first q (look_in (xs ++ ys) q)) key.first key.number (look_in (xs ++ ys) q) ≡ answer (reaches key.first q (look_in (xs ++ was ∷ ys) q)) key.first key.number (look_in (xs ++ was ∷ ys) q)
      by_reach true is old =
          let here : look_in (xs ++ was ∷ ys) q ≡ Some (key.first, was.number) = old ∙ ap (λ b. answer b key.first was.number (look_in (xs ++ ys) q)) is in
          ap (λ b. answer b key.first key.number (look_in (xs ++ ys) q)) is
          ∙ new_answer (reaches key.first q (look_in (xs ++ was ∷ ys) q)) key.first key.number (look_in (xs ++ was ∷ ys) q) (Some (key.first, key.number))
          (ap (reaches key.first q) here ∙ again (look_in (xs ++ ys) q) is) refl
      by_reach false is old =
          let here : look_in (xs ++ was ∷ ys) q ≡ look_in (xs ++ ys) q = old ∙ ap (λ b. answer b key.first was.number (look_in (xs ++ ys) q)) is in
          ap (λ o. answer (reaches key.first q o) key.first key.number o) (sym here)

-- ---- the next identifier

-- what is found for the next number is the same, or that number's own
data Next (r : ℕ) (ks : List Key) : Type 0 where
  same : last_key (r + 1) ks ≡ last_key r ks → Next r ks
  its_own : (k : Key) → last_key (r + 1) ks ≡ Some k → rank k.first ≡ r + 1 → Next r ks

last_next : (r : ℕ) (ks : List Key) → Next r ks
last_next r [] = same refl
last_next r (k ∷ ks) = by_rest (last_next r ks) where
  by_found : (o : Option Key) → last_key (r + 1) ks ≡ o → last_key (r + 1) ks ≡ last_key r ks → Next r (k ∷ ks)
  by_found (Some z) is eq = same ((λ i. or_last (is i) (own (r + 1) k)) ∙ (λ i. or_last (sym (sym eq ∙ is) i) (own r k)))
  by_found None is eq = by_key (nat_lt r (rank k.first)) refl (nat_lt (r + 1) (rank k.first)) refl where
    by_key : (b : Bool) → nat_lt r (rank k.first) ≡ b → (c : Bool) → nat_lt (r + 1) (rank k.first) ≡ c → Next r (k ∷ ks)
    by_key true low true high = same (λ i. or_last (eq i) (cond ((high ∙ sym low) i) None (Some k)))
    by_key true low false high =
        let more = ltb-true r (rank k.first) low in
        let less = ltb-false (r + 1) (rank k.first) high in
        its_own k (λ i. or_last (is i) (cond (high i) None (Some k))) (omega (arith, more, less))
    by_key false low true high =
        let more = ltb-true (r + 1) (rank k.first) high in
        let less = ltb-false r (rank k.first) low in
        absurd (omega (arith, more, less))
    by_key false low false high = same (λ i. or_last (eq i) (cond ((high ∙ sym low) i) None (Some k)))

  by_rest : Next r ks → Next r (k ∷ ks)
  by_rest (same eq) = by_found (last_key (r + 1) ks) refl eq
  by_rest (its_own z is at) = its_own z (ap (λ o. or_last o (own (r + 1) k)) is) at

-- an identifier without a key of its own is found where the one before it is
pub look_next : (ks : List Key) (q g : Identifier) (n : ℕ) → q.counter + 1 < 4294967296 → look_in ks q ≡ Some (g, n) → ((f : Identifier) (m : ℕ) → look_in ks (later q 1) ≡ Some (f, m) → f ≡ later q 1 → ⊥)
    → look_in ks (later q 1) ≡ Some (g, n)
look_next ks q g n fits found none = by_next (last_next (rank q) ks) where
  up : rank (later q 1) ≡ rank q + 1
  up = omega arith

  by_next : Next (rank q) ks → look_in ks (later q 1) ≡ Some (g, n)
  by_next (same eq) = ap (of_site q.site) (ap (λ r. last_key r ks) up ∙ eq) ∙ found
  by_next (its_own k is at) =
      let kc = k.counter in
      let site : k.first.site ≡ q.site = omega (arith, at, fits, kc) in
      let counter : k.first.counter ≡ q.counter + 1 = omega (arith, at, fits, kc) in
      let it : k.first ≡ later q 1 = λ i. record { counter = counter i; site = site i } in
      let here : look_in ks (later q 1) ≡ Some (k.first, k.number) =
      ap (of_site q.site) (ap (λ r. last_key r ks) up ∙ is) ∙ ap (λ b. cond b (Some (k.first, k.number)) None) (eq_true k.first.site q.site site) in
      absurd (none k.first k.number here it)

-- ---- keys around a place

pub above_rest : (r : ℕ) (ks : List Key) (n : ℕ) → ((i : ℕ) (d : Key) → n ≤ i → i < length ks → r < rank (get_or ks i d).first) → AreAbove r (drop n ks)
above_rest r ks n above i d less =
    let there = get_or-drop n ks i d in
    let long = length-drop n ks in
    subst (λ (k : Key). r < rank k.first) (sym there) (above (n + i) d (omega arith) (omega (arith, less, long)))

pub below_front : (r : ℕ) (ks : List Key) (n : ℕ) → n ≤ length ks → ((i : ℕ) (d : Key) → i < n → rank (get_or ks i d).first ≤ r) → AreNotAbove r (take n ks)
below_front r ks n within below i d less =
    let few : i < n = omega (arith, less, length-take-le n ks within) in
    subst (λ (k : Key). rank k.first ≤ r) (sym (get_or-take n ks i d few)) (below i d few)

pub found_none : (ks : List Key) (q : Identifier) → ((i : ℕ) (d : Key) → 0 ≤ i → i < length ks → rank q < rank (get_or ks i d).first) → look_in ks q ≡ None
found_none ks q above = ap (of_site q.site) (last_none (rank q) ks (λ i d less. above i d (omega arith) less))

pub found_last : (ks : List Key) (q : Identifier) (n : ℕ) (d : Key) → 0 < n → n ≤ length ks → ((i : ℕ) (d : Key) → i < n → rank (get_or ks i d).first ≤ rank q)
    → ((i : ℕ) (d : Key) → n ≤ i → i < length ks → rank q < rank (get_or ks i d).first) → look_in ks q ≡ of_site q.site (Some (get_or ks (n - 1) d))
found_last ks q n d some within below above =
    let next : suc (n - 1) ≡ n = omega (arith, some) in
    ap (of_site q.site) (last_at (rank q) ks (n - 1) d (omega (arith, some, within)) (below (n - 1) d (omega (arith, some)))
    (subst (λ m. AreAbove (rank q) (drop m ks)) (sym next) (above_rest (rank q) ks n above)))

pub set_parts : (ks : List Key) (n : ℕ) (key : Key) → n < length ks → set ks n key ≡ take n ks ++ key ∷ drop (suc n) ks
set_parts [] n key there = absurd (omega arith)
set_parts (k ∷ ks) zero key there = refl
set_parts (k ∷ ks) (suc n) key there = ap (λ l. k ∷ l) (set_parts ks n key (omega arith))

pub own_parts : (ks : List Key) (n : ℕ) (d : Key) → n < length ks → ks ≡ take n ks ++ get_or ks n d ∷ drop (suc n) ks
own_parts [] n d there = absurd (omega arith)
own_parts (k ∷ ks) zero d there = refl
own_parts (k ∷ ks) (suc n) d there = ap (λ l. k ∷ l) (own_parts ks n d (omega arith))

abbrev first_of : Identifier → Option (Identifier × ℕ) → Identifier
first_of q None = q
first_of q (Some e) = e.0

pub its_first : (q : Identifier) (k : Key) (n : ℕ) → of_site q.site (Some k) ≡ Some (q, n) → k.first ≡ q
its_first q k n is = by_site (nat_eq k.first.site q.site) is where
  told : Option (Identifier × ℕ)
  told = Some (k.first, k.number)

  by_site : (b : Bool) → cond b told None ≡ Some (q, n) → k.first ≡ q
  by_site true is = ap (first_of q) is
  by_site false is = let same : ◌≡◌ {A = Option (Identifier × ℕ)} None (Some (q, n)) = is in absurd cc
