-- Characters are typed at a place, one after the other.
use Rattle.std.proofs.Common.{◌≡◌, ◌≤◌, ◌<◌, ◌+◌, ◌⊎◌, inl, inr, ℕ, zero, suc, List, [], ◌∷◌, ◌++◌, length, take, drop, Some, refl, sym, ap, subst, ◌∙◌, append_assoc, arith}
use Rattle.std.specs.Prelude.{All, slice_get, insert, map as each}
use Rattle.std.specs.Option.{option_map_or}
use Rattle.std.specs.List.{AllByRecursion}
use Rattle.std.proofs.lemmas.List.{take-append-drop, length-map}
use Rattle.std.proofs.lemmas.List.Elements.{All-nil, All-cons, All-head}
use Rattle.bg_types.specs.Identifier.{Identifier}
use Rattle.bg_types.specs.WellFormed.{IsWellFormed, MayFollow}
use Rattle.bg_types.specs.OperationSet.{OperationSet, Holds, MayJoin, AllWellFormed, named_counters, parent_counters, next, with_operation}
use Rattle.bg_types.specs.declared.op.Place.{Place}
use Rattle.bg_types.specs.declared.op.Place.TheVariants.{Root, After}
use Rattle.bg_types.specs.declared.op.OpView.{OpView}
use Rattle.bg_types.specs.declared.op.OpView.TheVariants.{Insert}
use Rattle.bg_types.proofs.Interface.{next-above, next-least, Holds-with_operation}
use Rattle.rga_tree.specs.TextOf.{text, visible, visible_ids}
use Rattle.rga_tree.proofs.Interface.{Entry, AllWellFormed-with}
use Rattle.desk_replica.specs.Typing.{parent_at}
use Rattle.desk_replica.specs.Merging.{with_operations}
use Rattle.desk_replica.specs.Replacement.{id_after, insertions}
use Rattle.desk_runs.proofs.Sets.{AllJoin}
use Rattle.desk_runs.proofs.Erased.{EditLaws}

-- ---- a list with one more element at a place

pub take-insert : {X : Type 0} (xs : List X) (k : ℕ) (x : X) → k ≤ length xs → take (suc k) (insert xs k x) ≡ take k xs ++ x ∷ []
take-insert [] zero x h = refl
take-insert [] (suc k) x h = absurd (omega arith)
take-insert (y ∷ xs) zero x h = refl
take-insert (y ∷ xs) (suc k) x h = ap (λ l. y ∷ l) (take-insert xs k x (omega arith))

pub drop-insert : {X : Type 0} (xs : List X) (k : ℕ) (x : X) → k ≤ length xs → drop (suc k) (insert xs k x) ≡ drop k xs
drop-insert [] zero x h = refl
drop-insert [] (suc k) x h = absurd (omega arith)
drop-insert (y ∷ xs) zero x h = refl
drop-insert (y ∷ xs) (suc k) x h = drop-insert xs k x (omega arith)

pub at-insert : {X : Type 0} (xs : List X) (k : ℕ) (x : X) → k ≤ length xs → slice_get (insert xs k x) k ≡ Some x
at-insert [] zero x h = refl
at-insert [] (suc k) x h = absurd (omega arith)
at-insert (y ∷ xs) zero x h = refl
at-insert (y ∷ xs) (suc k) x h = at-insert xs k x (omega arith)

pub length-insert : {X : Type 0} (xs : List X) (k : ℕ) (x : X) → k ≤ length xs → length (insert xs k x) ≡ length xs + 1
length-insert [] zero x h = omega arith
length-insert [] (suc k) x h = absurd (omega arith)
length-insert (y ∷ xs) zero x h = omega arith
length-insert (y ∷ xs) (suc k) x h = let rest = length-insert xs k x (omega arith) in omega arith

pub each-insert : {X Y : Type 0} (f : X → Y) (xs : List X) (k : ℕ) (x : X) → each f (insert xs k x) ≡ insert (each f xs) k (f x)
each-insert f [] zero x = refl
each-insert f [] (suc k) x = refl
each-insert f (y ∷ xs) zero x = refl
each-insert f (y ∷ xs) (suc k) x = ap (λ l. f y ∷ l) (each-insert f xs k x)

-- ---- an insertion with the next counter

module _ (s : OperationSet) (id : Identifier) (is : id.counter ≡ next s) (parent : Place) (ch : ℕ) where
  pub new_joins : MayJoin s (Insert id parent ch)
  new_joins kept at = absurd (let below = All-head (λ c. c < next s) id.counter (parent_counters kept.parent) (next-above s (Insert id kept.parent kept.ch) at) in omega arith)

  parents_below : (p : Place) → MayFollow p id → All (λ c. c < next s + 1) (parent_counters p)
  parents_below Root h = All-nil (λ c. c < next s + 1)
  parents_below (After p) h = All-cons (λ c. c < next s + 1) p.counter [] (omega (arith, h.1)) (All-nil (λ c. c < next s + 1))

  pub next_typed : MayFollow parent id → next (with_operation s (Insert id parent ch)) ≡ next s + 1
  next_typed follows =
      let op = Insert id parent ch in
      let t = with_operation s op in
      let up : next t ≤ next s + 1 = next-least t (next s + 1) (omega arith) (λ x h. grown x ((Holds-with_operation s op x new_joins).0 h)) in
      let own : Holds t op = (Holds-with_operation s op op new_joins).1 (inl refl) in
      let down = All-head (λ c. c < next t) id.counter (parent_counters parent) (next-above t op own) in
      omega (arith, up, down)
    where
      more : (xs : List ℕ) → All (λ c. c < next s) xs → All (λ c. c < next s + 1) xs
      more xs h k lt = omega (arith, h k lt)

      grown : (x : OpView) → (x ≡ Insert id parent ch) ⊎ Holds s x → All (λ c. c < next s + 1) (named_counters x)
      grown x (inl same) = subst (λ (o : OpView). All (λ c. c < next s + 1) (named_counters o)) (sym same)
          (All-cons (λ c. c < next s + 1) id.counter (parent_counters parent) (omega arith) (parents_below parent follows))
      grown x (inr h) = more (named_counters x) (next-above s x h)

-- ---- a number of them are typed

-- the text has the characters at place k, and each insertion may join
pub record IsTyped (s : OperationSet) (ops : List OpView) (k : ℕ) (typed : List ℕ) : Type 0 where
  pub text_is : text (with_operations s ops) ≡ take k (text s) ++ (typed ++ drop k (text s))
  pub joins : AllJoin s ops

module _ (laws : EditLaws) (site : ℕ) where
  abbrev ops_at : OperationSet → ℕ → List ℕ → List OpView
  ops_at s k typed = insertions (record { counter = next s; site = site }) (parent_at (visible_ids s) k) typed

  module _ (s : OperationSet) (k : ℕ) (ch : ℕ) (typed : List ℕ) (well : AllWellFormed s) (le : k ≤ length (visible s)) (formed : AllByRecursion IsWellFormed (ops_at s k (ch ∷ typed))) where
    abbrev id : Identifier
    id = record { counter = next s; site = site }

    abbrev parent : Place
    parent = parent_at (visible_ids s) k

    abbrev t : OperationSet
    t = with_operation s (Insert id parent ch)

    seen : visible t ≡ insert (visible s) k (id, record { parent = parent; ch = ch })
    seen = laws.typed s site k ch well le formed.0

    read : text t ≡ insert (text s) k ch
    read = ap (each (λ (e : Entry). e.1.ch)) seen ∙ each-insert (λ (e : Entry). e.1.ch) (visible s) k (id, record { parent = parent; ch = ch })

    ids : visible_ids t ≡ insert (visible_ids s) k id
    ids = ap (each (λ (e : Entry). e.0)) seen ∙ each-insert (λ (e : Entry). e.0) (visible s) k (id, record { parent = parent; ch = ch })

    within : k ≤ length (text s)
    within = let many = length-map (visible s) (λ (e : Entry). e.1.ch) in omega (arith, many, le)

    within_ids : k ≤ length (visible_ids s)
    within_ids = let many = length-map (visible s) (λ (e : Entry). e.0) in omega (arith, many, le)

    behind : parent_at (visible_ids t) (suc k) ≡ After id
    behind = ap (λ l. option_map_or After (slice_get l k) Root) ids ∙ ap (λ o. option_map_or After o Root) (at-insert (visible_ids s) k id within_ids)

    counter : next s + 1 ≡ next t
    counter = sym (next_typed s id refl parent ch formed.0.1)

    on : insertions (id_after id) (After id) typed ≡ ops_at t (suc k) typed
    on = λ i. insertions (record { counter = counter i; site = site }) (sym behind i) typed

    within_t : suc k ≤ length (visible t)
    within_t = let one = length-insert (visible s) k (id, record { parent = parent; ch = ch }) le in let same = ap length seen in omega (arith, one, same, le)

    one_more : (AllWellFormed t → suc k ≤ length (visible t) → AllByRecursion IsWellFormed (ops_at t (suc k) typed) → IsTyped t (ops_at t (suc k) typed) (suc k) typed) → IsTyped s (ops_at s k (ch ∷ typed)) k (ch ∷ typed)
    one_more later =
        let rest = later (AllWellFormed-with s (Insert id parent ch) well formed.0) within_t (subst (AllByRecursion IsWellFormed) on formed.1) in
        record {
          text_is = ap (λ ops. text (with_operations t ops)) on ∙ rest.text_is ∙ (λ i. take (suc k) (read i) ++ (typed ++ drop (suc k) (read i)))
              ∙ (λ i. take-insert (text s) k ch within i ++ (typed ++ drop-insert (text s) k ch within i))
              ∙ append_assoc (take k (text s)) (ch ∷ []) (typed ++ drop k (text s));
          joins = (new_joins s id refl parent ch, subst (AllJoin t) (sym on) rest.joins);
        }

  pub typed_all : (typed : List ℕ) (s : OperationSet) (k : ℕ) → AllWellFormed s → k ≤ length (visible s) → AllByRecursion IsWellFormed (ops_at s k typed) → IsTyped s (ops_at s k typed) k typed
  typed_all [] s k well le formed = record { text_is = sym (take-append-drop k (text s)); joins = tt }
  typed_all (ch ∷ typed) s k well le formed = one_more s k ch typed well le formed (typed_all typed (with_operation s (Insert (record { counter = next s; site = site }) (parent_at (visible_ids s) k) ch)) (suc k))
