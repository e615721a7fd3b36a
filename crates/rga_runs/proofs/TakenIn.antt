-- A stretch that takes in what is typed behind its last character.
use Rattle.std.proofs.Common.{◌≡◌, ℕ, zero, suc, ◌<◌, ◌≤◌, ◌+◌, ◌-◌, true, false, cond, not, List, [], ◌∷◌, ◌++◌, length, take, drop, get_or, refl, sym, ap, subst, ◌∙◌, length-append, arith}
use Rattle.std.specs.Prelude.{filter, nat_lt, set}
use Rattle.std.proofs.Math.Utf8.{scalar, scalars}
use Rattle.std.proofs.lemmas.Bool.{and_parts, and_from}
use Rattle.std.proofs.lemmas.List.{take-append-drop, get_or_default}
use Rattle.std.proofs.lemmas.List.Folds.{list_all-append}
use Rattle.bg_types.specs.Identifier.{Identifier}
use Rattle.bg_types.specs.declared.op.Place.{Place}
use Rattle.bg_types.specs.declared.op.Place.TheVariants.{After}
use Rattle.rga_tree.specs.declared.element.Element.{Element}
use Rattle.rga_tree.specs.Row.{start_of}
use Rattle.rga_tree.specs.Spot.{seen, joined, offset}
use Rattle.rga_tree.proofs.Interface.{run_of, put_in, until}
use Rattle.rga_runs.specs.declared.stretch.Stretch.{Stretch}
use Rattle.rga_runs.specs.Changed.{IsGrown}
use Rattle.rga_runs.specs.Counters.{are_up_to}
use Rattle.rga_runs.specs.Typed.{later, typed, bits_from}
use Rattle.rga_runs.specs.Stretches.{elements_of, parts_in, elements_in, are_stored, AreApart}
use Rattle.rga_runs.proofs.Counters.{fits}
use Rattle.rga_runs.proofs.Places.{put_last}
use Rattle.rga_runs.proofs.Rows.{length-parts, part_there, part_long, parts_set, parts_kept, grown_part}
use Rattle.rga_runs.proofs.Spots.{StandsAt, place_is}
use Rattle.rga_runs.proofs.Typed.{later-more}

pub taken_in : (chars more : List ℕ) (ss : List Stretch) (p : ℕ) (s new : Stretch) (last : Identifier) (m : ℕ) → are_stored (length chars) ss ≡ true → AreApart ss → p < length ss → s ≡ get_or ss p s → IsGrown s new m
    → bits_from s.count s.hidden ≡ 0 → length chars ≡ s.start + s.count → length more ≡ m → last ≡ later s.first (s.count - 1)
    → elements_in (chars ++ more) (set ss p new) ≡ put_in (elements_in chars ss) (start_of (After last) (elements_in chars ss)) (typed (later last 1) (After last) 0 more)
taken_in chars more ss p s new last m stored apart there item is bits end many last_is =
    let some = s.some in
    let xs = parts_in chars ss in
    let run = typed (later last 1) (After last) 0 more in
    let part : get_or xs p [] ≡ elements_of chars s = part_there chars ss p s there ∙ ap (elements_of chars) (sym item) in
    let next : later s.first s.count ≡ later last 1 = sym (ap (λ q. later q 1) last_is ∙ later-more s.first (s.count - 1) 1 s.count (omega (arith, some))) in
    let grown : elements_of (chars ++ more) new ≡ get_or xs p [] ++ run =
    grown_part chars more s new m is bits end many ∙ (λ i. sym part i ++ typed (next i) (After (sym last_is i)) 0 more) in
    let here = λ (d : Stretch). item ∙ get_or_default ss p s d there in
    let at : StandsAt ss p (s.count - 1) last = record {
      there = there;
      inside = λ d. subst (λ (z : Stretch). s.count - 1 < z.count) (here d) (omega (arith, some));
      is = λ d. last_is ∙ ap (λ (z : Stretch). later z.first (s.count - 1)) (here d);
    } in
    let place = place_is last chars ss p (s.count - 1) stored apart at in
    let long : length (get_or xs p []) ≡ s.count = part_long chars ss p s stored there ∙ ap (λ (z : Stretch). z.count) (sym item) in
    let end_is : until last (elements_in chars ss) + 1 ≡ offset xs p (length (get_or xs p [])) = omega (arith, place, long, some) in
    ap joined (parts_set (chars ++ more) ss p new ∙ (λ i. set (parts_kept chars more ss stored i) p (grown i)))
    ∙ put_last xs p (start_of (After last) (elements_in chars ss)) run (omega (arith, length-parts chars ss, there)) end_is

-- ---- the row with a run

length_run : (id : Identifier) (p : Place) (cs : List ℕ) → length (run_of id p cs) ≡ length cs
length_run id p [] = refl
length_run id p (c ∷ cs) = ap suc (length_run (later id 1) (After id) cs)

pub length-put_in : (row : List Element) (i : ℕ) (id : Identifier) (p : Place) (cs : List ℕ) → length (put_in row i (run_of id p cs)) ≡ length row + length cs
length-put_in row i id p cs =
    let whole = ap length (take-append-drop i row) in
    omega (arith, length-append (take i row) (run_of id p cs ++ drop i row), length-append (run_of id p cs) (drop i row), length_run id p cs, whole, length-append (take i row) (drop i row))

-- all of it is visible
seen_run : (id : Identifier) (p : Place) (cs : List ℕ) (r : List Element) → seen (run_of id p cs ++ r) ≡ seen r + length cs
seen_run id p [] r = omega arith
seen_run id p (c ∷ cs) r = let rest = seen_run (later id 1) (After id) cs r in omega (arith, rest)

seen_parts : (l r : List Element) → seen (l ++ r) ≡ seen l + seen r
seen_parts [] r = omega arith
seen_parts (e ∷ l) r =
    let f = filter (λ (x : Element). not x.hidden) (l ++ r) in
    let h = filter (λ (x : Element). not x.hidden) l in
    let rest = seen_parts l r in
    elim e.hidden as (λ b. length (cond (not b) (e ∷ f) f) ≡ length (cond (not b) (e ∷ h) h) + seen r) [ true ↦ rest | false ↦ omega (arith, rest) ]

pub seen-put_in : (row : List Element) (i : ℕ) (id : Identifier) (p : Place) (cs : List ℕ) → seen (put_in row i (run_of id p cs)) ≡ seen row + length cs
seen-put_in row i id p cs =
    let whole = ap seen (take-append-drop i row) in
    omega (arith, seen_parts (take i row) (run_of id p cs ++ drop i row), seen_run id p cs (drop i row), whole, seen_parts (take i row) (drop i row))

-- its greatest counter is that of its last one
up_run : (n : ℕ) (id : Identifier) (p : Place) (cs : List ℕ) → id.counter + length cs ≤ n + 1 → are_up_to n (run_of id p cs) ≡ true
up_run n id p [] le = refl
up_run n id p (c ∷ cs) le = and_from (not (nat_lt n id.counter)) (are_up_to n (run_of (later id 1) (After id) cs)) (fits n id.counter (omega (arith, le))) (up_run n (later id 1) (After id) cs (omega (arith, le)))

pub up-put_in : (n : ℕ) (row : List Element) (i : ℕ) (id : Identifier) (p : Place) (cs : List ℕ) → are_up_to n row ≡ true → id.counter + length cs ≤ n + 1 → are_up_to n (put_in row i (run_of id p cs)) ≡ true
up-put_in n row i id p cs h le =
    let up = λ (e : Element). not (nat_lt n e.id.counter) in
    let both = and_parts (are_up_to n (take i row)) (are_up_to n (drop i row)) (sym (list_all-append up (take i row) (drop i row)) ∙ ap (are_up_to n) (take-append-drop i row) ∙ h) in
    list_all-append up (take i row) (run_of id p cs ++ drop i row)
    ∙ and_from (are_up_to n (take i row)) (are_up_to n (run_of id p cs ++ drop i row)) both.0
    (list_all-append up (run_of id p cs) (drop i row) ∙ and_from (are_up_to n (run_of id p cs)) (are_up_to n (drop i row)) (up_run n id p cs le) both.1)

-- ---- characters

pub scalars-take : (k : ℕ) (cs : List ℕ) → scalars cs ≡ true → scalars (take k cs) ≡ true
scalars-take zero [] h = refl
scalars-take (suc k) [] h = refl
scalars-take zero (c ∷ cs) h = refl
scalars-take (suc k) (c ∷ cs) h = let both = and_parts (scalar c) (scalars cs) h in and_from (scalar c) (scalars (take k cs)) both.0 (scalars-take k cs both.1)

-- what is behind the first k is the next one and its rest
pub record IsNext (all : List ℕ) (k c : ℕ) (rest : List ℕ) : Type 0 where
  pub there : k < length all
  pub taken : take (k + 1) all ≡ take k all ++ c ∷ []
  pub left : drop (k + 1) all ≡ rest

pub next_is : (all : List ℕ) (k c : ℕ) (rest : List ℕ) → drop k all ≡ c ∷ rest → IsNext all k c rest
next_is [] zero c rest h = absurd cc
next_is [] (suc k) c rest h = absurd cc
next_is (x ∷ all) zero c rest h = let first : x ≡ c = cc in let behind : all ≡ rest = cc in record { there = omega arith; taken = ap (λ y. y ∷ []) first; left = behind }
next_is (x ∷ all) (suc k) c rest h =
    let e : suc k + 1 ≡ suc (k + 1) = omega arith in
    let more = next_is all k c rest h in
    record {
      there = let less = more.there in omega (arith, less);
      taken = ap (λ n. take n (x ∷ all)) e ∙ ap (λ l. x ∷ l) more.taken;
      left = ap (λ n. drop n (x ∷ all)) e ∙ more.left;
    }
