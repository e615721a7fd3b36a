-- The value at a code point, where blocks change.
use Rattle.std.proofs.Common.{◌≡◌, ◌≢◌, ℕ, ◌+◌, ◌*◌, ◌/◌, ◌%◌, ◌<◌, ◌≤◌, Bool, true, false, cond, leb, ltb, List, [], ◌++◌, length, take, drop, get_or, set, ap, ap₂, ◌∙◌, sym, inl, inr, arith}
use Rattle.std.specs.Prelude.{◌&&◌}
use Rattle.std.proofs.lemmas.Bool.{cases_Bool, cases_eq, cases_lt}
use Rattle.std.proofs.lemmas.List.{get_or_default, get_or_past, get_or-set_same, get_or-set_other, take_at}
use Rattle.std.proofs.lemmas.Nat.{div-mul-add, mod-mul-add, mod_below}
use Rattle.unicode_tables.specs.Blocks.{value_at, value_of}
use Rattle.unicode_tables.proofs.Ranges.{part-in, part-out, blocks-in}

pub value-paged : {V : Type 0} (paged : List Bool) (pages : List (List V)) (values : List V) (c : ℕ) (d : V) → get_or paged (c / 256) false ≡ true
    → value_of paged pages values c d ≡ get_or (get_or pages (c / 256) []) (c % 256) d
value-paged paged pages values c d h = ap (λ b. cond b (get_or (get_or pages (c / 256) []) (c % 256) d) (get_or values (c / 256) d)) h

pub value-even : {V : Type 0} (paged : List Bool) (pages : List (List V)) (values : List V) (c : ℕ) (d : V) → get_or paged (c / 256) false ≡ false
    → value_of paged pages values c d ≡ get_or values (c / 256) d
value-even paged pages values c d h = ap (λ b. cond b (get_or (get_or pages (c / 256) []) (c % 256) d) (get_or values (c / 256) d)) h

-- the value at a place of a block is that at its code point
pub value-in_block : {V : Type 0} (paged : List Bool) (pages : List (List V)) (values : List V) (block place : ℕ) (d : V) → place < 256
    → value_at paged pages values block place d ≡ value_of paged pages values (block * 256 + place) d
value-in_block paged pages values block place d h =
    ap₂ (λ b p. value_at paged pages values b p d) (sym (div-mul-add block 256 place h)) (sym (mod-mul-add block 256 place h))

-- the page of another block
other-page : {V : Type 0} (paged : List Bool) (pages : List (List V)) (values : List V) (block : ℕ) (page : List V) (c : ℕ) (d : V) → c / 256 ≢ block
    → value_of paged (set pages block page) values c d ≡ value_of paged pages values c d
other-page paged pages values block page c d ne =
    ap (λ p. cond (get_or paged (c / 256) false) (get_or p (c % 256) d) (get_or values (c / 256) d)) (get_or-set_other pages block (c / 256) page [] ne)

-- a page of the block's value
pub give_page-value : {V : Type 0} (paged : List Bool) (pages : List (List V)) (values : List V) (block : ℕ) (v : V) (page : List V) (c : ℕ) (d : V)
    → block < length paged → block < length pages → block < length values → get_or paged block false ≡ false → v ≡ get_or values block v
    → ((k : ℕ) (e : V) → k < 256 → get_or page k e ≡ v)
    → value_of (set paged block true) (set pages block page) values c d ≡ value_of paged pages values c d
give_page-value paged pages values block v page c d h k l even is each =
    elim (cases_eq (c / 256) block) [
      | inl at ↦
          value-paged (set paged block true) (set pages block page) values c d (ap (λ n. get_or (set paged block true) n false) at ∙ get_or-set_same paged block true false h)
          ∙ ap (λ n. get_or (get_or (set pages block page) n []) (c % 256) d) at
          ∙ ap (λ p. get_or p (c % 256) d) (get_or-set_same pages block page [] k)
          ∙ each (c % 256) d (mod_below c 256 (omega arith))
          ∙ is ∙ get_or_default values block v d l ∙ ap (λ n. get_or values n d) (sym at)
          ∙ sym (value-even paged pages values c d (ap (λ n. get_or paged n false) at ∙ even))
      | inr ne ↦
          ap (λ b. cond b (get_or (get_or (set pages block page) (c / 256) []) (c % 256) d) (get_or values (c / 256) d)) (get_or-set_other paged block (c / 256) true false ne)
          ∙ other-page paged pages values block page c d ne
    ]

-- a part of a paged block
pub set_part-value : {V : Type 0} (paged : List Bool) (pages : List (List V)) (values : List V) (block from to : ℕ) (value : V) (page : List V) (c : ℕ) (d : V)
    → block < length pages → to ≤ 256 → get_or paged block false ≡ true
    → ((k : ℕ) (e : V) → get_or page k e ≡ cond (leb from k && ltb k to) value (get_or (get_or pages block []) k e))
    → value_of paged (set pages block page) values c d ≡ cond (leb (block * 256 + from) c && ltb c (block * 256 + to)) value (value_of paged pages values c d)
set_part-value paged pages values block from to value page c d h k on written =
    elim (cases_eq (c / 256) block) [
      | inl at ↦
          let here = ap (λ n. get_or paged n false) at ∙ on in
          let inside = part-in c block from to at in
          value-paged paged (set pages block page) values c d here
          ∙ ap (λ n. get_or (get_or (set pages block page) n []) (c % 256) d) at
          ∙ ap (λ p. get_or p (c % 256) d) (get_or-set_same pages block page [] h)
          ∙ written (c % 256) d
          ∙ ap (λ b. cond b value (get_or (get_or pages block []) (c % 256) d)) inside
          ∙ ap (cond (leb (block * 256 + from) c && ltb c (block * 256 + to)) value)
          (ap (λ n. get_or (get_or pages n []) (c % 256) d) (sym at) ∙ sym (value-paged paged pages values c d here))
      | inr ne ↦
          other-page paged pages values block page c d ne
          ∙ sym (ap (λ b. cond b value (value_of paged pages values c d)) (part-out c block from to ne k))
    ]

-- whole blocks
pub set_whole-value : {V : Type 0} (paged paged' : List Bool) (pages : List (List V)) (values values' : List V) (from to : ℕ) (value : V) (c : ℕ) (d : V)
    → ((k : ℕ) (e : V) → get_or values' k e ≡ cond (leb from k && ltb k to) value (get_or values k e))
    → ((k : ℕ) (e : Bool) → get_or paged' k e ≡ cond (leb from k && ltb k to) false (get_or paged k e))
    → value_of paged' pages values' c d ≡ cond (leb (from * 256) c && ltb c (to * 256)) value (value_of paged pages values c d)
set_whole-value paged paged' pages values values' from to value c d v p =
    let t = leb from (c / 256) && ltb (c / 256) to in
    let was = value_of paged pages values c d in
    let inside = blocks-in c from to in
    elim (cases_Bool t) [
      | inl on ↦
          value-even paged' pages values' c d (p (c / 256) false ∙ ap (λ b. cond b false (get_or paged (c / 256) false)) on)
          ∙ v (c / 256) d ∙ ap (λ b. cond b value (get_or values (c / 256) d)) on
          ∙ sym (ap (λ b. cond b value was) (sym inside ∙ on))
      | inr off ↦
          ap₂ (λ b x. cond b (get_or (get_or pages (c / 256) []) (c % 256) d) x)
          (p (c / 256) false ∙ ap (λ b. cond b false (get_or paged (c / 256) false)) off)
          (v (c / 256) d ∙ ap (λ b. cond b value (get_or values (c / 256) d)) off)
          ∙ sym (ap (λ b. cond b value was) (sym inside ∙ off))
    ]

-- where no block is paged
pub of-value : {V : Type 0} (paged : List Bool) (pages : List (List V)) (values : List V) (v : V) (c : ℕ) (d : V)
    → ((b : ℕ) → get_or paged b false ≡ false) → ((b : ℕ) (e : V) → b < 4352 → get_or values b e ≡ v) → c < 0x110000
    → value_of paged pages values c d ≡ v
of-value paged pages values v c d none each h = value-even paged pages values c d (none (c / 256)) ∙ each (c / 256) d (omega arith)

-- a list of one value has it at each place
pub all-same : {V : Type 0} (items : List V) (n k : ℕ) (v : V) → length items ≡ n → ((k : ℕ) → k < n → get_or items k v ≡ v) → get_or items k v ≡ v
all-same items n k v len each =
    elim (cases_lt k n) [
      | inl within ↦ each k within
      | inr past ↦ get_or_past items k v (omega arith)
    ]

-- a row that was lent whole and written
pub row-written : {X : Type 0} (kept lent new : List X) (n : ℕ) → lent ≡ kept → length new ≡ length lent → n ≡ length kept
    → take n (new ++ drop (length new) kept) ≡ new
row-written kept lent new n same len all = take_at new (drop (length new) kept) n (len ∙ ap length same ∙ sym all)
