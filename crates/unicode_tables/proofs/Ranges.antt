-- Which code points stand in a block, or in some blocks.
use Rattle.std.proofs.Common.{◌≡◌, ◌≢◌, ℕ, ◌+◌, ◌*◌, ◌/◌, ◌%◌, ◌<◌, ◌≤◌, Bool, true, false, cond, leb, ltb, refl, ap, ◌∙◌, sym, arith}
use Rattle.std.specs.Prelude.{◌&&◌, ◌||◌}
use Rattle.std.proofs.lemmas.Bool.Decides.{nat_tests}
use Rattle.std.proofs.lemmas.Nat.{div-add-mod', mod_below}

place-in : (block place from to : ℕ) → (leb from place && ltb place to) ≡ (leb (block * 256 + from) (block * 256 + place) && ltb (block * 256 + place) (block * 256 + to))
place-in block place from to = grind (arith, nat_tests)

place-out : (block other place from to : ℕ) → other ≢ block → place < 256 → to ≤ 256
    → (leb (block * 256 + from) (other * 256 + place) && ltb (other * 256 + place) (block * 256 + to)) ≡ false
place-out block other place from to ne h k = grind (arith, nat_tests)

-- a code point of the block
pub part-in : (c block from to : ℕ) → c / 256 ≡ block → (leb from (c % 256) && ltb (c % 256) to) ≡ (leb (block * 256 + from) c && ltb c (block * 256 + to))
part-in c block from to at =
    place-in block (c % 256) from to
    ∙ ap (λ n. leb (block * 256 + from) n && ltb n (block * 256 + to)) (ap (λ n. n * 256 + c % 256) (sym at) ∙ div-add-mod' c 256)

-- a code point of another block
pub part-out : (c block from to : ℕ) → c / 256 ≢ block → to ≤ 256 → (leb (block * 256 + from) c && ltb c (block * 256 + to)) ≡ false
part-out c block from to ne h =
    ap (λ n. leb (block * 256 + from) n && ltb n (block * 256 + to)) (sym (div-add-mod' c 256))
    ∙ place-out block (c / 256) (c % 256) from to ne (mod_below c 256 (omega arith)) h

places-in : (from to block place : ℕ) → place < 256
    → (leb from block && ltb block to) ≡ (leb (from * 256) (block * 256 + place) && ltb (block * 256 + place) (to * 256))
places-in from to block place h = grind (arith, nat_tests)

-- the code points of some blocks
pub blocks-in : (c from to : ℕ) → (leb from (c / 256) && ltb (c / 256) to) ≡ (leb (from * 256) c && ltb c (to * 256))
blocks-in c from to =
    places-in from to (c / 256) (c % 256) (mod_below c 256 (omega arith))
    ∙ ap (λ n. leb (from * 256) n && ltb n (to * 256)) (div-add-mod' c 256)

cond-or : {V : Type 0} (a b : Bool) (v w : V) → cond a v (cond b v w) ≡ cond (a || b) v w
cond-or true b v w = refl
cond-or false b v w = refl

within-more : (front first back last c : ℕ) → front < back → first < 256 → last < 256
    → (leb ((front + 1) * 256) c && ltb c (back * 256) || (leb (back * 256 + 0) c && ltb c (back * 256 + (last + 1)) || (leb (front * 256 + first) c && ltb c (front * 256 + 256))))
    ≡ (leb (front * 256 + first) c && leb c (back * 256 + last))
within-more front first back last c h f l = grind (arith, nat_tests)

-- a range over two blocks, and those between them
pub range-more : {V : Type 0} (first last c : ℕ) (v w : V) → first / 256 < last / 256
    → cond (leb ((first / 256 + 1) * 256) c && ltb c (last / 256 * 256)) v
    (cond (leb (last / 256 * 256 + 0) c && ltb c (last / 256 * 256 + (last % 256 + 1))) v
    (cond (leb (first / 256 * 256 + first % 256) c && ltb c (first / 256 * 256 + 256)) v w))
    ≡ cond (leb first c && leb c last) v w
range-more first last c v w h =
    let a = leb ((first / 256 + 1) * 256) c && ltb c (last / 256 * 256) in
    let b = leb (last / 256 * 256 + 0) c && ltb c (last / 256 * 256 + (last % 256 + 1)) in
    let e = leb (first / 256 * 256 + first % 256) c && ltb c (first / 256 * 256 + 256) in
    ap (cond a v) (cond-or b e v w) ∙ cond-or a (b || e) v w
    ∙ ap (λ b. cond b v w) (within-more (first / 256) (first % 256) (last / 256) (last % 256) c h (mod_below first 256 (omega arith)) (mod_below last 256 (omega arith))
    ∙ ap (λ n. leb n c && leb c (last / 256 * 256 + last % 256)) (div-add-mod' first 256)
    ∙ ap (λ n. leb first c && leb c n) (div-add-mod' last 256))
