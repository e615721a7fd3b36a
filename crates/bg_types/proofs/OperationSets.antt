-- What a set of operations holds, alone and joined with another.
use Rattle.std.proofs.Common.{◌≡◌, ℕ, ◌+◌, Bool, true, false, cond, List, [], ◌∷◌, ◌++◌, Option, Some, None, refl, sym, ap, subst, ◌∙◌, arith, inl, inr}
use Rattle.std.specs.Prelude.{◌↔◌, ◌⊎◌, ◌||◌, is_some}
use Rattle.std.specs.FinMap as map
use Rattle.std.specs.FinSet as set
use Rattle.std.specs.FinMap.Entries.{find}
use Rattle.bg_types.specs.Identifier.{Identifier, id_cmp, same_id}
use Rattle.bg_types.specs.OperationSet.{Node, OperationSet, Holds, MayJoin, Agree, with_operation, union, no_operations, size}
use Rattle.bg_types.specs.declared.op.Place.{Place}
use Rattle.bg_types.specs.declared.op.OpView.{OpView}
use Rattle.bg_types.specs.declared.op.OpView.TheVariants.{Insert, Erase}
use Rattle.bg_types.proofs.IdentifierOrder.{id_cmp-total, id_cmp-exact, same_id-is, same_id-itself}
use Rattle.std.proofs.lemmas.Bool.{or_left, or_right, or_cases}

abbrev pub node : Place → ℕ → Node
node parent ch = record { parent = parent; ch = ch }

pub some_is : {X : Type 0} (x y : X) → Some x ≡ Some y → x ≡ y
some_is x y e = cc

pub none_of : (o : Option Node) → is_some o ≡ false → o ≡ None
none_of None h = refl
none_of (Some n) h = absurd cc

-- the first of two options that is there
abbrev pub unwrap_first : Option Node → Option Node → Option Node
unwrap_first (Some n) o = Some n
unwrap_first None o = o

-- two sets that answer alike are equal
pub same_sets : (s t : OperationSet) → ((q : Identifier) → map.get s.ins q ≡ map.get t.ins q) → ((q : Identifier) → set.contains s.del q ≡ set.contains t.del q) → s ≡ t
same_sets s t ins del =
    let i = map.same_map id_cmp-total id_cmp-exact s.ins t.ins ins in
    let d = set.same_set id_cmp-total id_cmp-exact s.del t.del del in
    λ k. record { ins = i k; del = d k }

same_options : (a b : Option Node) → ((n : Node) → a ≡ Some n → b ≡ Some n) → ((n : Node) → b ≡ Some n → a ≡ Some n) → a ≡ b
same_options None None f g = refl
same_options None (Some n) f g = g n refl
same_options (Some n) b f g = sym (f n refl)

pub same_tests : (a b : Bool) → (a ≡ true → b ≡ true) → (b ≡ true → a ≡ true) → a ≡ b
same_tests true b f g = sym (f refl)
same_tests false true f g = g refl
same_tests false false f g = refl

pub same_operations : (s t : OperationSet) → ((op : OpView) → Holds s op ↔ Holds t op) → s ≡ t
same_operations s t same = same_sets s t
    (λ q. same_options (map.get s.ins q) (map.get t.ins q) (λ n. (same (Insert q n.parent n.ch)).0) (λ n. (same (Insert q n.parent n.ch)).1))
    (λ q. same_tests (set.contains s.del q) (set.contains t.del q) (same (Erase q)).0 (same (Erase q)).1)

pub Holds-no_operations : (op : OpView) → Holds no_operations op → ⊥
Holds-no_operations (Insert id parent ch) h = let none = map.get-empty {X = Node} id_cmp id in cc
Holds-no_operations (Erase target) h = let none = set.contains-empty id_cmp target in cc

-- x is in S + op exactly where it is op or in S
abbrev IsJoined : OperationSet → OpView → OpView → Type 0
IsJoined s op x = Holds (with_operation s op) x ↔ ((x ≡ op) ⊎ Holds s x)

insertion_joined : (s : OperationSet) (id : Identifier) (parent : Place) (ch : ℕ) (q : Identifier) (p : Place) (c : ℕ)
    → MayJoin s (Insert id parent ch) → IsJoined s (Insert id parent ch) (Insert q p c)
insertion_joined s id parent ch q p c may =
    let n = node parent ch in
    let known : map.get (map.insert s.ins id n) q ≡ cond (same_id q id) (Some n) (map.get s.ins q) = map.get-insert id_cmp-total s.ins id n q in
    elim (same_id q id) as (λ b. same_id q id ≡ b → cond b (Some n) (map.get s.ins q) ≡ map.get (map.insert s.ins id n) q → IsJoined s (Insert id parent ch) (Insert q p c)) [
      | true ↦ λ here found.
          let at : q ≡ id = same_id-is q id here in (
            λ h. let same : n ≡ node p c = some_is n (node p c) (found ∙ h) in inl (λ i. Insert (at i) (sym same i).parent (sym same i).ch),
            λ w. elim w [
              | inl e ↦ let same_parent : p ≡ parent = cc in let same_ch : c ≡ ch = cc in sym found ∙ (λ i. Some (node (sym same_parent i) (sym same_ch i)))
              | inr h ↦ let same : node p c ≡ n = may (node p c) (ap (map.get s.ins) (sym at) ∙ h) in sym found ∙ ap (λ (m : Node). Some m) (sym same)
            ],
          )
      | false ↦ λ other kept. (
        λ h. inr (kept ∙ h),
        λ w. elim w [
          | inl e ↦ let same : q ≡ id = cc in let here : same_id q id ≡ true = subst (λ x. same_id q x ≡ true) same (same_id-itself q) in absurd cc
          | inr h ↦ sym kept ∙ h
        ],
      )
    ] refl (sym known)

erasure_joined : (s : OperationSet) (target q : Identifier) → IsJoined s (Erase target) (Erase q)
erasure_joined s target q =
    let known : set.contains (set.insert s.del target) q ≡ (same_id q target || set.contains s.del q) = set.contains-insert id_cmp-total s.del target q in (
      λ h. elim (or_cases (same_id q target) (set.contains s.del q) (sym known ∙ h)) [ inl here ↦ inl (ap Erase (same_id-is q target here)) | inr old ↦ inr old ],
      λ w. elim w [
        | inl e ↦ let same : q ≡ target = cc in known ∙ or_left (same_id q target) (set.contains s.del q) (subst (λ x. same_id q x ≡ true) same (same_id-itself q))
        | inr old ↦ known ∙ or_right (same_id q target) (set.contains s.del q) old
      ],
    )

-- an operation of the other kind is not op
pub Holds-with_operation : (s : OperationSet) (op x : OpView) → MayJoin s op → IsJoined s op x
Holds-with_operation s (Insert id parent ch) (Insert q p c) may = insertion_joined s id parent ch q p c may
Holds-with_operation s (Insert id parent ch) (Erase q) may = (λ h. inr h, λ w. elim w [ inl e ↦ absurd cc | inr h ↦ h ])
Holds-with_operation s (Erase target) (Insert q p c) may = (λ h. inr h, λ w. elim w [ inl e ↦ absurd cc | inr h ↦ h ])
Holds-with_operation s (Erase target) (Erase q) may = erasure_joined s target q

-- what the first map says, else what the second says
find_append : (xs ys : List (Identifier × Node)) (q : Identifier) → find id_cmp q (xs ++ ys) ≡ unwrap_first (find id_cmp q xs) (find id_cmp q ys)
find_append [] ys q = refl
find_append (x ∷ xs) ys q =
    elim (same_id q x.0) as (λ b. cond b (Some x.1) (find id_cmp q (xs ++ ys)) ≡ unwrap_first (cond b (Some x.1) (find id_cmp q xs)) (find id_cmp q ys)) [ true ↦ refl | false ↦ find_append xs ys q ]

pub get-union : (s t : OperationSet) (q : Identifier) → map.get (union s t).ins q ≡ unwrap_first (map.get s.ins q) (map.get t.ins q)
get-union s t q =
    map.get-from_entries id_cmp-total (map.entries s.ins ++ map.entries t.ins) q
    ∙ find_append (map.entries s.ins) (map.entries t.ins) q
    ∙ (λ i. unwrap_first (sym (map.get-entries s.ins q) i) (sym (map.get-entries t.ins q) i))

first_or_second : (a b : Option Node) (n : Node) → ((x y : Node) → a ≡ Some x → b ≡ Some y → x ≡ y) → (unwrap_first a b ≡ Some n) ↔ ((a ≡ Some n) ⊎ (b ≡ Some n))
first_or_second None b n agree = (λ h. inr h, λ w. elim w [ inl h ↦ absurd cc | inr h ↦ h ])
first_or_second (Some x) b n agree = (λ h. inl h, λ w. elim w [ inl h ↦ h | inr h ↦ ap (λ (m : Node). Some m) (agree x n refl h) ])

pub Holds-union : (s t : OperationSet) → Agree s t → (op : OpView) → Holds (union s t) op ↔ (Holds s op ⊎ Holds t op)
Holds-union s t agree (Insert id parent ch) =
    let known = get-union s t id in
    let parts = first_or_second (map.get s.ins id) (map.get t.ins id) (node parent ch) (agree id) in
    (λ h. parts.0 (sym known ∙ h), λ w. known ∙ parts.1 w)
Holds-union s t agree (Erase target) =
    let known = set.contains-union id_cmp-total s.del t.del target in
    let a = set.contains s.del target in
    let b = set.contains t.del target in
    (λ h. or_cases a b (sym known ∙ h), λ w. known ∙ elim w as (λ _. (a || b) ≡ true) [ inl h ↦ or_left a b h | inr h ↦ or_right a b h ])

-- an operation that the set holds may join
pub Holds-may_join : (s : OperationSet) (op : OpView) → Holds s op → MayJoin s op
Holds-may_join s (Insert id parent ch) h = λ kept found. some_is kept (node parent ch) (sym found ∙ h)
Holds-may_join s (Erase target) h = tt

pub with_operation-known : (s : OperationSet) (op : OpView) → Holds s op → with_operation s op ≡ s
with_operation-known s op h = same_operations (with_operation s op) s (λ x.
    let joined = Holds-with_operation s op x (Holds-may_join s op h) in
    (λ w. elim (joined.0 w) [ inl e ↦ subst (λ o. Holds s o) (sym e) h | inr k ↦ k ], λ k. joined.1 (inr k)))

absent : (o : Option Node) (n : Node) → ((kept : Node) → o ≡ Some kept → kept ≡ n) → (o ≡ Some n → ⊥) → is_some o ≡ false
absent None n may new = refl
absent (Some kept) n may new = absurd (new (ap (λ (m : Node). Some m) (may kept refl)))

unmarked : (b : Bool) → (b ≡ true → ⊥) → b ≡ false
unmarked true new = absurd (new refl)
unmarked false new = refl

pub size-with_operation : (s : OperationSet) (op : OpView) → MayJoin s op → ¬ (Holds s op) → size (with_operation s op) ≡ size s + 1
size-with_operation s (Insert id parent ch) may new =
    let grown = map.len-insert id_cmp-total s.ins id (node parent ch) ∙ ap (λ b. cond b (map.len s.ins) (map.len s.ins + 1)) (absent (map.get s.ins id) (node parent ch) may new) in
    omega (arith, grown)
size-with_operation s (Erase target) may new =
    let grown = set.len-insert id_cmp-total s.del target ∙ ap (λ b. cond b (set.len s.del) (set.len s.del + 1)) (unmarked (set.contains s.del target) new) in
    omega (arith, grown)
