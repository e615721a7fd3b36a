-- The place after all greater elements, with whole blocks passed.
use Rattle.std.proofs.Common.{◌≡◌, ℕ, suc, ◌<◌, ◌≤◌, ◌+◌, ◌||◌, Bool, true, false, cond, not, List, [], ◌∷◌, ◌++◌, length, take, drop, get_or, refl, sym, ap, subst, ◌∙◌, zero-add, length-append, length-drop, ◌-◌, arith}
use Rattle.std.proofs.lemmas.List.{length-map, drop-map, drop_all, get_or-drop, get_or-map, map-append, take-map}
use Rattle.std.proofs.lemmas.Bool.{ltb-true, ltb-false, and_parts}
use Rattle.std.specs.Prelude.{nat_lt, insert}
use Rattle.std.specs.declared.cmp.Ordering.{Ordering}
use Rattle.std.specs.declared.cmp.Ordering.TheVariants.{Less, Equal, Greater}
use Rattle.std.specs.Ordering.{is_lt}
use Rattle.std.specs.List.{list_all, list_any, prefix_len}
use Rattle.bg_types.specs.Identifier.{Identifier, id_cmp, same_id}
use Rattle.rga_tree.specs.declared.element.Element.{Element}
use Rattle.bg_types.proofs.Interface.{id_cmp-total, id_cmp-exact, same_id-is}
use Rattle.rga_sequence.specs.declared.block.Block.{Block}
use Rattle.rga_sequence.specs.BlockRows.{items_of}
use Rattle.rga_sequence.specs.Blocks.{joined, offset, sought}
use Rattle.rga_tree.proofs.Interface.{less_of, turned, joined-suc, joined-add, drop_joined, is_greater, pre_all, pre_stop}

abbrev pub is_passed : Identifier → Block → Bool
is_passed id b = is_lt (id_cmp id b.least)

-- what isn't below the least of greater ones is greater
pub above_least : (id m e : Identifier) → is_lt (id_cmp id m) ≡ true → not (is_lt (id_cmp e m)) ≡ true → is_lt (id_cmp id e) ≡ true
above_least id m e lt h = by_order (id_cmp e m) refl h where
  by_order : (o : Ordering) → id_cmp e m ≡ o → not (is_lt o) ≡ true → is_lt (id_cmp id e) ≡ true
  by_order Less is h = absurd cc
  by_order Equal is h = subst (λ x. is_lt (id_cmp id x) ≡ true) (sym (id_cmp-exact e m is)) lt
  by_order Greater is h = ap is_lt (id_cmp-total.trans id m e (less_of (id_cmp id m) lt) (turned e m is))

all_pass : (id m : Identifier) (es : List Element) → is_lt (id_cmp id m) ≡ true → list_all (λ e. not (is_lt (id_cmp e.id m))) es ≡ true → prefix_len (is_greater id) es ≡ length es
all_pass id m [] lt h = refl
all_pass id m (e ∷ es) lt h =
    let p = and_parts (not (is_lt (id_cmp e.id m))) (list_all (λ e. not (is_lt (id_cmp e.id m))) es) h in
    ap (λ b. cond b (1 + prefix_len (is_greater id) es) 0) (above_least id m e.id lt p.0) ∙ omega (arith, all_pass id m es lt p.1)

-- it ends within a block whose least isn't greater
stops : (id m : Identifier) (es r : List Element) → is_lt (id_cmp id m) ≡ false → list_any (λ e. same_id m e.id) es ≡ true
    → (prefix_len (is_greater id) (es ++ r) ≡ prefix_len (is_greater id) es) × (prefix_len (is_greater id) es < length es)
stops id m [] r ge h = absurd cc
stops id m (e ∷ es) r ge h = by_least (λ any. stops id m es r ge any) (same_id m e.id) refl h where
  here : (b : Bool) → is_greater id e ≡ b → b ≡ false → (cond b (1 + prefix_len (is_greater id) (es ++ r)) 0 ≡ cond b (1 + prefix_len (is_greater id) es) 0) × (cond b (1 + prefix_len (is_greater id) es) 0 < length (e ∷ es))
  here true is f = absurd cc
  here false is f = (refl, omega arith)

  there : (list_any (λ e. same_id m e.id) es ≡ true → (prefix_len (is_greater id) (es ++ r) ≡ prefix_len (is_greater id) es) × (prefix_len (is_greater id) es < length es)) → (b : Bool) → list_any (λ e. same_id m e.id) es ≡ true → (cond b (1 + prefix_len (is_greater id) (es ++ r)) 0 ≡ cond b (1 + prefix_len (is_greater id) es) 0) × (cond b (1 + prefix_len (is_greater id) es) 0 < length (e ∷ es))
  there rest true any = let q = rest any in (ap (λ n. 1 + n) q.0, omega (arith, q.1))
  there rest false any = (refl, omega arith)

  by_least : (list_any (λ e. same_id m e.id) es ≡ true → (prefix_len (is_greater id) (es ++ r) ≡ prefix_len (is_greater id) es) × (prefix_len (is_greater id) es < length es)) → (b : Bool) → same_id m e.id ≡ b → (b || list_any (λ e. same_id m e.id) es) ≡ true
      → (prefix_len (is_greater id) (e ∷ (es ++ r)) ≡ prefix_len (is_greater id) (e ∷ es)) × (prefix_len (is_greater id) (e ∷ es) < length (e ∷ es))
  by_least rest true is h = here (is_greater id e) refl (ap (λ x. is_lt (id_cmp id x)) (sym (same_id-is m e.id is)) ∙ ge)
  by_least rest false is h = there rest (is_greater id e) h

-- whole blocks are passed
passing : (id : Identifier) (bs : List Block) → let k = prefix_len (is_passed id) bs in
    prefix_len (is_greater id) (joined (items_of bs)) ≡ length (joined (take k (items_of bs))) + prefix_len (is_greater id) (joined (items_of (drop k bs)))
passing id [] = refl
passing id (b ∷ bs) = by_test (passing id bs) (is_passed id b) refl where
  by_test : (prefix_len (is_greater id) (joined (items_of bs)) ≡ length (joined (take (prefix_len (is_passed id) bs) (items_of bs))) + prefix_len (is_greater id) (joined (items_of (drop (prefix_len (is_passed id) bs) bs)))) → (t : Bool) → is_passed id b ≡ t
      → prefix_len (is_greater id) (b.elements.items ++ joined (items_of bs)) ≡ length (joined (take (cond t (1 + prefix_len (is_passed id) bs) 0) (items_of (b ∷ bs)))) + prefix_len (is_greater id) (joined (items_of (drop (cond t (1 + prefix_len (is_passed id) bs) 0) (b ∷ bs))))
  by_test rest false is = sym (zero-add (prefix_len (is_greater id) (b.elements.items ++ joined (items_of bs))))
  by_test rest true is =
      let j = prefix_len (is_passed id) bs in
      let e : 1 + j ≡ suc j = omega arith in
      let low = (and_parts (list_all (λ e. not (is_lt (id_cmp e.id b.least))) b.elements.items) (list_any (λ e. same_id b.least e.id) b.elements.items) b.least_is).0 in
      let all = all_pass id b.least b.elements.items is low in
      rw e (pre_all (is_greater id) b.elements.items (joined (items_of bs)) all
      ∙ omega (arith, rest, length-append b.elements.items (joined (take j (items_of bs)))))

-- and the next one isn't
stopping : (id : Identifier) (bs : List Block) → let k = prefix_len (is_passed id) bs in let here = get_or (items_of bs) k [] in
    k < length bs → (prefix_len (is_greater id) (joined (items_of (drop k bs))) ≡ prefix_len (is_greater id) here) × (prefix_len (is_greater id) here < length here)
stopping id [] h = absurd (omega arith)
stopping id (b ∷ bs) h = by_test (λ few. stopping id bs few) (is_passed id b) refl h where
  by_test : (let k = prefix_len (is_passed id) bs in let here = get_or (items_of bs) k [] in
      k < length bs → (prefix_len (is_greater id) (joined (items_of (drop k bs))) ≡ prefix_len (is_greater id) here) × (prefix_len (is_greater id) here < length here)) → (t : Bool) → is_passed id b ≡ t → let k = cond t (1 + prefix_len (is_passed id) bs) 0 in let here = get_or (items_of (b ∷ bs)) k [] in
      k < length (b ∷ bs) → (prefix_len (is_greater id) (joined (items_of (drop k (b ∷ bs)))) ≡ prefix_len (is_greater id) here) × (prefix_len (is_greater id) here < length here)
  by_test rest false is h =
      stops id b.least b.elements.items (joined (items_of bs)) is
      (and_parts (list_all (λ e. not (is_lt (id_cmp e.id b.least))) b.elements.items) (list_any (λ e. same_id b.least e.id) b.elements.items) b.least_is).1
  by_test rest true is h =
      let j = prefix_len (is_passed id) bs in
      let e : 1 + j ≡ suc j = omega arith in
      let few : j < length bs = omega arith in
      rw e (rest few)

-- it ends in the block
pub lands_here : (id : Identifier) (xs : List (List Element)) (p j : ℕ) → p < length xs → j ≤ length (get_or xs p [])
    → prefix_len (is_greater id) (drop j (get_or xs p [])) < length (drop j (get_or xs p [])) → sought id xs p j ≡ offset xs p (j + prefix_len (is_greater id) (drop j (get_or xs p [])))
lands_here id xs p j there within few =
    let here = drop j (get_or xs p []) in
    ap (λ r. offset xs p j + prefix_len (is_greater id) r) (drop_joined xs p j there within)
    ∙ ap (λ n. offset xs p j + n) (pre_stop (is_greater id) here (joined (drop (suc p) xs)) few) ∙ omega arith

-- it ends after it
past_here : (id : Identifier) (xs : List (List Element)) (p j : ℕ) → p < length xs → j ≤ length (get_or xs p [])
    → prefix_len (is_greater id) (drop j (get_or xs p [])) ≡ length (get_or xs p []) - j
    → sought id xs p j ≡ length (joined (take (suc p) xs)) + prefix_len (is_greater id) (joined (drop (suc p) xs))
past_here id xs p j there within all =
    let here = drop j (get_or xs p []) in
    let len : length here ≡ length (get_or xs p []) - j = length-drop j (get_or xs p []) in
    let whole : prefix_len (is_greater id) here ≡ length here = omega (arith, all, len) in
    ap (λ r. offset xs p j + prefix_len (is_greater id) r) (drop_joined xs p j there within)
    ∙ omega (arith, pre_all (is_greater id) here (joined (drop (suc p) xs)) whole, len, joined-suc xs p)

-- it ends in the first block that isn't passed, if there is one
pub lands_behind : (id : Identifier) (bs : List Block) (p j : ℕ) → p < length bs → j ≤ length (get_or (items_of bs) p [])
    → prefix_len (is_greater id) (drop j (get_or (items_of bs) p [])) ≡ length (get_or (items_of bs) p []) - j
    → let q = suc p + prefix_len (is_passed id) (drop (suc p) bs) in
    (q < length bs → sought id (items_of bs) p j ≡ offset (items_of bs) q (prefix_len (is_greater id) (get_or (items_of bs) q [])))
    × (length bs ≤ q → sought id (items_of bs) p j ≡ length (joined (take q (items_of bs))))
lands_behind id bs p j there within all =
    let xs = items_of bs in
    let rest = drop (suc p) bs in
    let k = prefix_len (is_passed id) rest in
    let n = λ (r : List Element). prefix_len (is_greater id) r in
    let len : length xs ≡ length bs = length-map bs (λ (b : Block). b.elements.items) in
    let to : drop (suc p) xs ≡ items_of rest = drop-map (λ (b : Block). b.elements.items) (suc p) bs in
    let front : sought id xs p j ≡ length (joined (take (suc p) xs)) + n (joined (items_of rest)) =
    past_here id xs p j (omega arith) within all ∙ ap (λ r. length (joined (take (suc p) xs)) + n (joined r)) to in
    let split : length (joined (take (suc p + k) xs)) ≡ length (joined (take (suc p) xs)) + length (joined (take k (items_of rest))) =
    joined-add xs (suc p) k ∙ ap (λ r. length (joined (take (suc p) xs)) + length (joined (take k r))) to in
    let passed = passing id rest in
    let count : length rest ≡ length bs - suc p = length-drop (suc p) bs in
    let at : get_or (items_of rest) k [] ≡ get_or xs (suc p + k) [] = ap (λ r. get_or r k []) (sym to) ∙ get_or-drop (suc p) xs k [] in (
      (λ more. omega (arith, front, split, passed, (stopping id rest (omega (arith, count))).0, ap n at)),
      (λ none. omega (arith, front, split, passed, ap (λ r. n (joined (items_of r))) (drop_all k rest (omega (arith, count))))),
    )

pub items_at : (bs : List Block) (p : ℕ) (b : Block) → p < length bs → b ≡ get_or bs p b → get_or (items_of bs) p [] ≡ b.elements.items
items_at bs p b there is = get_or-map (λ (b : Block). b.elements.items) bs p b [] there ∙ ap (λ (b : Block). b.elements.items) (sym is)

pub land_in : (id : Identifier) (bs : List Block) (p j k at : ℕ) → p < length bs → j ≤ length (get_or (items_of bs) p [])
    → prefix_len (is_greater id) (drop j (get_or (items_of bs) p [])) ≡ length (get_or (items_of bs) p []) - j
    → k ≡ prefix_len (is_passed id) (drop (p + 1) bs) → p + 1 + k < length bs → at ≡ prefix_len (is_greater id) (get_or (items_of bs) (p + 1 + k) [])
    → offset (items_of bs) (p + 1 + k) at ≡ sought id (items_of bs) p j
land_in id bs p j k at there within all count more at_is =
    let s : p + 1 ≡ suc p = omega arith in
    let k_is : k ≡ prefix_len (is_passed id) (drop (suc p) bs) = count ∙ ap (λ n. prefix_len (is_passed id) (drop n bs)) s in
    let q : p + 1 + k ≡ suc p + prefix_len (is_passed id) (drop (suc p) bs) = omega (arith, k_is) in
    sym ((lands_behind id bs p j there within all).0 (omega (arith, q, more)) ∙ ap (λ n. offset (items_of bs) n (prefix_len (is_greater id) (get_or (items_of bs) n []))) (sym q) ∙ ap (offset (items_of bs) (p + 1 + k)) (sym at_is))

pub land_before : (id : Identifier) (bs : List Block) (p j k m : ℕ) → p < length bs → j ≤ length (get_or (items_of bs) p [])
    → prefix_len (is_greater id) (drop j (get_or (items_of bs) p [])) ≡ length (get_or (items_of bs) p []) - j
    → k ≡ prefix_len (is_passed id) (drop (p + 1) bs) → (p + 1 + k < length bs → prefix_len (is_greater id) (get_or (items_of bs) (p + 1 + k) []) ≡ 0)
    → m ≡ length (get_or (items_of bs) (p + 1 + k - 1) [])
    → offset (items_of bs) (p + 1 + k - 1) m ≡ sought id (items_of bs) p j
land_before id bs p j k m there within all count none m_is = by_test (nat_lt (p + 1 + k) (length bs)) refl where
  by_test : (b : Bool) → nat_lt (p + 1 + k) (length bs) ≡ b → offset (items_of bs) (p + 1 + k - 1) m ≡ sought id (items_of bs) p j
  by_test true is =
      let more : p + 1 + k < length bs = ltb-true _ _ is in
      let at = land_in id bs p j k 0 there within all count more (sym (none more)) in
      let e : suc (p + 1 + k - 1) ≡ p + 1 + k = omega arith in
      omega (arith, at, joined-suc (items_of bs) (p + 1 + k - 1), ap (λ n. length (joined (take n (items_of bs)))) e, m_is)
  by_test false is =
      let last : length bs ≤ p + 1 + k = ltb-false _ _ is in
      let s : p + 1 ≡ suc p = omega arith in
      let k_is : k ≡ prefix_len (is_passed id) (drop (suc p) bs) = count ∙ ap (λ n. prefix_len (is_passed id) (drop n bs)) s in
      let q : p + 1 + k ≡ suc p + prefix_len (is_passed id) (drop (suc p) bs) = omega (arith, k_is) in
      let at = (lands_behind id bs p j there within all).1 (omega (arith, q, last)) in
      let e : suc (p + 1 + k - 1) ≡ suc p + prefix_len (is_passed id) (drop (suc p) bs) = omega (arith, q) in
      omega (arith, at, joined-suc (items_of bs) (p + 1 + k - 1), ap (λ n. length (joined (take n (items_of bs)))) e, m_is)

pub items_there : (bs : List Block) (p : ℕ) (b : Block) → p < length bs → get_or (items_of bs) p [] ≡ (get_or bs p b).elements.items
items_there bs p b there = get_or-map (λ (b : Block). b.elements.items) bs p b [] there

pub items-insert : (bs : List Block) (i : ℕ) (b : Block) → items_of (insert bs i b) ≡ insert (items_of bs) i b.elements.items
items-insert bs i b =
    map-append (λ (b : Block). b.elements.items) (take i bs) (b ∷ drop i bs)
    ∙ (λ j. sym (take-map (λ (b : Block). b.elements.items) i bs) j ++ b.elements.items ∷ sym (drop-map (λ (b : Block). b.elements.items) i bs) j)
