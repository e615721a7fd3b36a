-- Characters are typed, each behind the one before.
use Rattle.std.proofs.Common.{◌≡◌, ◌≤◌, ◌<◌, ◌+◌, ◌^◌, ◌⊎◌, inl, inr, ℕ, zero, suc, false, true, List, [], ◌∷◌, ◌++◌, length, take, drop, Some, refl, sym, ap, subst, ◌∙◌, append_assoc, is_some, arith}
use Rattle.std.specs.Prelude.{All, slice_get, insert, encode_utf8_all, map as each}
use Rattle.std.specs.Option.{option_map_or}
use Rattle.std.specs.FinMap as map
use Rattle.std.specs.List.{AllByRecursion}
use Rattle.std.specs.Str.{chars, IsUtf8}
use Rattle.std.proofs.lemmas.Str.{encodes-chars}
use Rattle.std.proofs.lemmas.List.{take-append-drop, length-map}
use Rattle.std.proofs.lemmas.List.Elements.{All-nil, All-cons, All-head}
use Rattle.bg_types.specs.Identifier.{Identifier}
use Rattle.bg_types.specs.WellFormed.{IsWellFormed, MayFollow}
use Rattle.bg_types.specs.OperationSet.{OperationSet, Holds, MayJoin, AllWellFormed, named_counters, parent_counters, next, size, with_operation}
use Rattle.bg_types.specs.declared.op.Place.{Place}
use Rattle.bg_types.specs.declared.op.Place.TheVariants.{Root, After}
use Rattle.bg_types.specs.declared.op.OpView.{OpView}
use Rattle.bg_types.specs.declared.op.OpView.TheVariants.{Insert}
use Rattle.bg_types.proofs.Interface.{next-above, next-least, Holds-with_operation, size-with_operation}
use Rattle.rga_tree.specs.Tree.{stands_in}
use Rattle.rga_tree.specs.TextOf.{text, visible, visible_ids}
use Rattle.rga_tree.specs.Run.{later, AreNew}
use Rattle.rga_tree.proofs.Interface.{Entry, AllWellFormed-with, take-insert, drop-insert, stands_behind}
use Rattle.pending_ops.specs.Waiting.{Waiting}
use Rattle.desk_replica.specs.Placement.{IsSettled, whole}
use Rattle.desk_replica.specs.Typing.{parent_at}
use Rattle.desk_replica.specs.Replacement.{next_id, id_after, insertions, typed_text}
use Rattle.desk_replica.specs.Merging.{with_operations}
use Rattle.desk_replica.proofs.Admitting.{IsContent}
use Rattle.desk_replica.proofs.Counters.{newest-is_new}
use Rattle.desk_replica.proofs.FirstTurn.{nothing_kept}
use Rattle.desk_replica.proofs.Leaf.{length-put}
use Rattle.desk_replica.proofs.Typed.{each-insert}
use Rattle.desk_replica.proofs.Typing.{content, parted, same_set}
use Rattle.desk_replica.proofs.WorldTyped.{visible_typed}

-- ---- a list with one more element at a place

at-insert : {X : Type 0} (xs : List X) (k : ℕ) (x : X) → k ≤ length xs → slice_get (insert xs k x) k ≡ Some x
at-insert [] zero x h = refl
at-insert [] (suc k) x h = absurd (omega arith)
at-insert (y ∷ xs) zero x h = refl
at-insert (y ∷ xs) (suc k) x h = at-insert xs k x (omega arith)

-- ---- an insertion with the next counter

module _ (s : OperationSet) (id : Identifier) (is : id.counter ≡ next s) (parent : Place) (ch : ℕ) where
  pub new_joins : MayJoin s (Insert id parent ch)
  new_joins kept at = absurd (let below = All-head (λ c. c < next s) id.counter (parent_counters kept.parent) (next-above s (Insert id kept.parent kept.ch) at) in omega arith)

  pub not_held : Holds s (Insert id parent ch) → ⊥
  not_held at = let below = All-head (λ c. c < next s) id.counter (parent_counters parent) (next-above s (Insert id parent ch) at) in omega arith

  parents_below : (p : Place) → MayFollow p id → All (λ c. c < next s + 1) (parent_counters p)
  parents_below Root h = All-nil (λ c. c < next s + 1)
  parents_below (After p) h = All-cons (λ c. c < next s + 1) p.counter [] (omega (arith, h.1)) (All-nil (λ c. c < next s + 1))

  pub next_typed : MayFollow parent id → next (with_operation s (Insert id parent ch)) ≡ next s + 1
  next_typed follows =
      let op = Insert id parent ch in
      let t = with_operation s op in
      let up : next t ≤ next s + 1 = next-least t (next s + 1) (omega arith) (λ x h. grown x ((Holds-with_operation s op x new_joins).0 h)) in
      let own : Holds t op = (Holds-with_operation s op op new_joins).1 (inl refl) in
      let down = All-head (λ c. c < next t) id.counter (parent_counters parent) (next-above t op own) in
      omega (arith, up, down)
    where
      more : (xs : List ℕ) → All (λ c. c < next s) xs → All (λ c. c < next s + 1) xs
      more xs h k lt = omega (arith, h k lt)

      grown : (x : OpView) → (x ≡ Insert id parent ch) ⊎ Holds s x → All (λ c. c < next s + 1) (named_counters x)
      grown x (inl same) = subst (λ (o : OpView). All (λ c. c < next s + 1) (named_counters o)) (sym same)
          (All-cons (λ c. c < next s + 1) id.counter (parent_counters parent) (omega arith) (parents_below parent follows))
      grown x (inr h) = more (named_counters x) (next-above s x h)

  pub size_typed : size (with_operation s (Insert id parent ch)) ≡ size s + 1
  size_typed = size-with_operation s (Insert id parent ch) new_joins not_held

-- ---- a number of them, the first one at a place

module _ (site : ℕ) where
  module _ (s : OperationSet) (k : ℕ) (ch : ℕ) (typed : List ℕ) (well : AllWellFormed s) (le : k ≤ length (visible s)) (formed : AllByRecursion IsWellFormed (typed_text s site k (ch ∷ typed))) where
    abbrev id : Identifier
    id = next_id s site

    abbrev parent : Place
    parent = parent_at (visible_ids s) k

    abbrev t : OperationSet
    t = with_operation s (Insert id parent ch)

    seen : visible t ≡ insert (visible s) k (id, record { parent = parent; ch = ch })
    seen = visible_typed s well site ch k le formed.0

    read : text t ≡ insert (text s) k ch
    read = ap (each (λ (e : Entry). e.1.ch)) seen ∙ each-insert (λ (e : Entry). e.1.ch) (visible s) k (id, record { parent = parent; ch = ch })

    ids : visible_ids t ≡ insert (visible_ids s) k id
    ids = ap (each (λ (e : Entry). e.0)) seen ∙ each-insert (λ (e : Entry). e.0) (visible s) k (id, record { parent = parent; ch = ch })

    within : k ≤ length (text s)
    within = let many = length-map (visible s) (λ (e : Entry). e.1.ch) in omega (arith, many, le)

    within_ids : k ≤ length (visible_ids s)
    within_ids = let many = length-map (visible s) (λ (e : Entry). e.0) in omega (arith, many, le)

    behind : parent_at (visible_ids t) (suc k) ≡ After id
    behind = ap (λ l. option_map_or After (slice_get l k) Root) ids ∙ ap (λ o. option_map_or After o Root) (at-insert (visible_ids s) k id within_ids)

    counter : next t ≡ next s + 1
    counter = next_typed s id refl parent ch formed.0.1

    -- those behind the first are typed at the place behind it
    pub one_then : typed_text s site k (ch ∷ typed) ≡ Insert id parent ch ∷ typed_text t site (suc k) typed
    one_then = λ i. Insert id parent ch ∷ insertions (record { counter = sym counter i; site = site }) (sym behind i) typed

    within_t : suc k ≤ length (visible t)
    within_t = let one = length-put (visible s) k (id, record { parent = parent; ch = ch }) in let same = ap length seen in omega (arith, one, same, le)

    one_more : (AllWellFormed t → suc k ≤ length (visible t) → AllByRecursion IsWellFormed (typed_text t site (suc k) typed)
        → text (with_operations t (typed_text t site (suc k) typed)) ≡ take (suc k) (text t) ++ (typed ++ drop (suc k) (text t)))
        → text (with_operations s (typed_text s site k (ch ∷ typed))) ≡ take k (text s) ++ (ch ∷ typed ++ drop k (text s))
    one_more later =
        let on = one_then in
        ap (λ ops. text (with_operations s ops)) on
        ∙ later (AllWellFormed-with s (Insert id parent ch) well formed.0) within_t (subst (AllByRecursion IsWellFormed) on formed).1
        ∙ (λ i. take (suc k) (read i) ++ (typed ++ drop (suc k) (read i)))
        ∙ (λ i. take-insert (text s) k ch within i ++ (typed ++ drop-insert (text s) k ch within i))
        ∙ append_assoc (take k (text s)) (ch ∷ []) (typed ++ drop k (text s))

  pub text_stretch : (typed : List ℕ) (s : OperationSet) (k : ℕ) → AllWellFormed s → k ≤ length (visible s) → AllByRecursion IsWellFormed (typed_text s site k typed)
      → text (with_operations s (typed_text s site k typed)) ≡ take k (text s) ++ (typed ++ drop k (text s))
  text_stretch [] s k well le formed = sym (take-append-drop k (text s))
  text_stretch (ch ∷ typed) s k well le formed = one_more s k ch typed well le formed (text_stretch typed (with_operation s (Insert (next_id s site) (parent_at (visible_ids s) k) ch)) (suc k))

-- ---- characters typed into a sequence, each behind the one before

-- with an identifier above all that are named, nothing is kept at it
newest_absent : (t : OperationSet) (id : Identifier) (parent : Place) (ch : ℕ) → next t ≤ id.counter → map.contains_key t.ins id ≡ false
newest_absent t id parent ch above =
    let new = newest-is_new t (Insert id parent ch) above in
    ap is_some (nothing_kept t id parent ch new.0 new.1)

-- nor at those behind it
pub newest_new : (t : OperationSet) (id : Identifier) (n : ℕ) → next t ≤ id.counter → AreNew t id n
newest_new t id n above k less = newest_absent t (later id k) Root 0 (omega (arith, above))

-- a text with a byte has a character
pub some_characters : (bytes : List ℕ) → IsUtf8 bytes → 0 < length bytes → 0 < length (chars bytes)
some_characters bytes utf8 some = by (chars bytes) refl
  where
    by : (cs : List ℕ) → chars bytes ≡ cs → 0 < length cs
    by [] none = let nothing : [] ≡ bytes = ap encode_utf8_all (sym none) ∙ encodes-chars bytes utf8 in absurd (omega (arith, some, ap length nothing))
    by (c ∷ cs) is = omega arith

-- what was listed and what is listed now differ by the insertions so far; the rest is listed behind a parent, the next character with
-- this identifier
pub record IsUnderWay (first id : Identifier) (front parent : Place) (made told : List OpView) (all rest : List ℕ) : Type 0 where
  pub listed_is : told ++ insertions id parent rest ≡ made ++ insertions first front all
  pub formed : AllByRecursion IsWellFormed (insertions id parent rest) → AllByRecursion IsWellFormed (insertions first front all)
  pub follows : MayFollow parent id
  pub counters : id.counter + length rest ≤ 2 ^ 32

pub under_way : (first id : Identifier) (front parent : Place) (made told more : List OpView) (all rest : List ℕ) (ch : ℕ) → IsUnderWay first id front parent made told all (ch ∷ rest)
    → more ≡ told ++ Insert id parent ch ∷ [] → IsWellFormed (Insert id parent ch) → IsUnderWay first (later id 1) front (After id) made more all rest
under_way first id front parent made told more all rest ch now is formed =
    let behind = insertions (later id 1) (After id) rest in
    record {
      listed_is = ap (λ l. l ++ behind) is ∙ append_assoc told (Insert id parent ch ∷ []) behind ∙ now.listed_is;
      formed = λ h. now.formed (formed, h);
      follows = (formed.0, omega arith);
      counters = omega (arith, now.counters);
    }

-- ---- and what they make of a desk

-- the operations, placed in the tree, leave what waits, and are then kept
pub record IsPlacedAll (t : OperationSet) (w : Waiting) (ops : List OpView) : Type 0 where
  pub settled : IsSettled (with_operations t ops) w
  pub whole_is : whole (with_operations t ops) w ≡ with_operations (whole t w) ops

pub typed_whole : (chs : List ℕ) (t : OperationSet) (w : Waiting) (id : Identifier) (parent : Place) → IsContent t → IsSettled t w → id.counter ≡ next (whole t w) → stands_in t parent ≡ true
    → AllByRecursion IsWellFormed (insertions id parent chs) → IsPlacedAll t w (insertions id parent chs)
typed_whole [] t w id parent c d is stands formed = record { settled = d; whole_is = refl }
typed_whole (ch ∷ chs) t w id parent c d is stands formed =
    let u = with_operation t (Insert id parent ch) in
    let same : whole u w ≡ with_operation (whole t w) (Insert id parent ch) = same_set t w.held d.well_formed c d.parted id parent ch is formed.0 stands in
    let du : IsSettled u w = record { parted = parted t w.held d.well_formed c d.parted id parent ch is formed.0 stands; none_released = d.none_released; well_formed = d.well_formed } in
    let counter : id.counter + 1 ≡ next (whole u w) = let grown = next_typed (whole t w) id is parent ch formed.0.1 in omega (arith, ap next same, grown, is) in
    let rest = typed_whole chs u w (id_after id) (After id) (content t w.held d.well_formed c d.parted id parent ch is formed.0 stands) du counter (stands_behind t id parent ch) formed.1 in
    record { settled = rest.settled; whole_is = rest.whole_is ∙ ap (λ s. with_operations s (insertions (id_after id) (After id) chs)) same }

pub typed_size : (chs : List ℕ) (s : OperationSet) (id : Identifier) (parent : Place) → id.counter ≡ next s → AllByRecursion IsWellFormed (insertions id parent chs)
    → size (with_operations s (insertions id parent chs)) ≡ size s + length chs
typed_size [] s id parent is formed = omega arith
typed_size (ch ∷ chs) s id parent is formed =
    let counter = next_typed s id is parent ch formed.0.1 in
    let rest = typed_size chs (with_operation s (Insert id parent ch)) (id_after id) (After id) (omega (arith, is, counter)) formed.1 in
    omega (arith, rest, size_typed s id is parent ch)

pub typed_next : (chs : List ℕ) (s : OperationSet) (id : Identifier) (parent : Place) → id.counter ≡ next s → AllByRecursion IsWellFormed (insertions id parent chs)
    → next (with_operations s (insertions id parent chs)) ≡ next s + length chs
typed_next [] s id parent is formed = omega arith
typed_next (ch ∷ chs) s id parent is formed =
    let counter = next_typed s id is parent ch formed.0.1 in
    let rest = typed_next chs (with_operation s (Insert id parent ch)) (id_after id) (After id) (omega (arith, is, counter)) formed.1 in
    omega (arith, rest, counter)
