-- How many bytes the messages of operations have.
use Rattle.std.proofs.Common.{◌≡◌, inl, inr, ◌≤◌, ◌+◌, ◌-◌, ◌*◌, ℕ, suc, List, [], ◌∷◌, ◌++◌, length, take, drop, refl, ap, subst, length-append, length-drop, arith}
use Rattle.std.specs.Prelude.{map as each}
use Rattle.std.specs.List.{flat_map}
use Rattle.std.proofs.lemmas.List.{length-map, length-take-le}
use Rattle.bg_types.specs.Identifier.{Identifier}
use Rattle.bg_types.specs.OperationSet.{OperationSet}
use Rattle.bg_types.specs.declared.op.Place.{Place}
use Rattle.bg_types.specs.declared.op.Place.TheVariants.{After}
use Rattle.bg_types.specs.declared.op.OpView.{OpView}
use Rattle.bg_types.specs.declared.op.OpView.TheVariants.{Insert, Erase}
use Rattle.rga_tree.specs.TextOf.{visible, visible_ids}
use Rattle.op_codec.specs.Spelling.{frame, spelling}
use Rattle.desk_replica.specs.Desk.{Desk}
use Rattle.desk_replica.specs.Typing.{parent_at}
use Rattle.desk_replica.specs.Replacement.{next_id, id_after, insertions, typed_text, deletions, replacement, IsReplaceRefused}
use Rattle.desk_replica.specs.Merging.{with_operations}
use Rattle.desk_replica.specs.declared.answer.TypeFault.{TypeFault}
use Rattle.desk_replica.specs.declared.answer.TypeFault.TheVariants.{CounterSpent, Full, Memory}
use Rattle.c_answers.specs.Copying.{IsCopied}
use Rattle.c_desks.specs.Desks.{replaced_size, HasRoomFor, IsRefusedExchange, IsUnreplaced}
use Rattle.c_desks.specs.Faults.{type_number}

-- the message of one operation
pub one_most : (op : OpView) → length (spelling (op ∷ [])) ≤ 24
one_most (Insert id parent ch) = omega arith
one_most (Erase target) = omega arith

-- it is written to the front of a buffer
pub copied_one : (op made : OpView) (before after : List ℕ) (told : ℕ) → op ≡ made → length (spelling (op ∷ [])) ≤ length before
    → after ≡ spelling (op ∷ []) ++ drop (length (spelling (op ∷ []))) before → told ≡ length (spelling (op ∷ [])) → IsCopied (spelling (made ∷ [])) before after told 0
copied_one op made before after told is room written size =
    subst (λ (o : OpView). IsCopied (spelling (o ∷ [])) before after told 0) is (record {
      told = size;
      fits = λ _. (refl, written);
      short = λ wrong. absurd (omega (arith, wrong, room));
    })

frames-append : (xs ys : List OpView) → length (flat_map frame (xs ++ ys)) ≡ length (flat_map frame xs) + length (flat_map frame ys)
frames-append [] ys = omega arith
frames-append (x ∷ xs) ys = omega (arith, length-append (frame x) (flat_map frame (xs ++ ys)), length-append (frame x) (flat_map frame xs), frames-append xs ys)

frames_erased : (ids : List Identifier) → length (flat_map frame (each Erase ids)) ≡ 9 * length ids
frames_erased [] = omega arith
frames_erased (x ∷ ids) = omega (arith, length-append (frame (Erase x)) (flat_map frame (each Erase ids)), frames_erased ids)

frames_typed : (chs : List ℕ) (id : Identifier) (parent : Place) → length (flat_map frame (insertions id parent chs)) ≡ 19 * length chs
frames_typed [] id parent = omega arith
frames_typed (ch ∷ chs) id parent = omega (arith, length-append (frame (Insert id parent ch)) (flat_map frame (insertions (id_after id) (After id) chs)), frames_typed chs (id_after id) (After id))

-- the message of a replacement
pub replaced_bytes : (s : OperationSet) (site from n : ℕ) (chs : List ℕ) → from + n ≤ length (visible s) → length (spelling (replacement s site from n chs)) ≡ replaced_size n (length chs)
replaced_bytes s site from n chs within =
    let t = with_operations s (deletions s from n) in
    let ids = visible_ids s in
    let many = length-map (visible s) (λ e. e.0) in
    let gone = length-take-le n (drop from ids) (omega (arith, length-drop from ids, many, within)) in
    omega (
      arith,
      frames-append (deletions s from n) (typed_text t site from chs),
      frames_erased (take n (drop from ids)),
      frames_typed chs (next_id t site) (parent_at (visible_ids t) from),
      gone,
    )

length-typed : (chs : List ℕ) (id : Identifier) (parent : Place) → length (insertions id parent chs) ≡ length chs
length-typed [] id parent = refl
length-typed (ch ∷ chs) id parent = ap suc (length-typed chs (id_after id) (After id))

-- and its operations
pub replaced_count : (s : OperationSet) (site from n : ℕ) (chs : List ℕ) → from + n ≤ length (visible s) → length (replacement s site from n chs) ≡ n + length chs
replaced_count s site from n chs within =
    let t = with_operations s (deletions s from n) in
    let ids = visible_ids s in
    let many = length-map (visible s) (λ e. e.0) in
    let gone = length-take-le n (drop from ids) (omega (arith, length-drop from ids, many, within)) in
    omega (
      arith,
      length-append (deletions s from n) (typed_text t site from chs),
      length-map (take n (drop from ids)) Erase,
      length-typed chs (next_id t site) (parent_at (visible_ids t) from),
      gone,
    )

-- the message of a replacement fits where there is room for its size
pub replaced_fits : (s : OperationSet) (site from to : ℕ) (chs : List ℕ) (room : ℕ) → from ≤ to → to ≤ length (visible s) → replaced_size (to - from) (length chs) ≤ room
    → length (spelling (replacement s site from (to - from) chs)) ≤ room
replaced_fits s site from to chs room order within fits = omega (arith, replaced_bytes s site from (to - from) chs (omega (arith, order, within)), fits)

pub replaced_length : (s : OperationSet) (site from to : ℕ) (chs : List ℕ) → from ≤ to → to ≤ length (visible s) → length (replacement s site from (to - from) chs) ≡ (to - from) + length chs
replaced_length s site from to chs order within = replaced_count s site from (to - from) chs (omega (arith, order, within))

-- why nothing was put in the place of others, by the core's fault
by_fault : (desk : Desk) (from to n room told answer : ℕ) (fault : TypeFault) → answer ≡ type_number fault → IsReplaceRefused desk.set (to - from) n fault
    → ((to - from) + n ≡ 1 → ⊥) → HasRoomFor desk from to n room → IsRefusedExchange desk from to n room told answer
by_fault desk from to n room told answer CounterSpent is spent many has = inr (inr (inr (inl (is, spent))))
by_fault desk from to n room told answer Full is full many has = inr (inr (inr (inr (is, full.1))))
by_fault desk from to n room told answer Memory is memory many has = inl (is, (λ one. absurd (many one)), has)

pub not_exchanged : (desk : Desk) (from to n room told answer : ℕ) → IsUnreplaced desk (to - from) n answer → ((to - from) + n ≡ 1 → ⊥) → HasRoomFor desk from to n room → IsRefusedExchange desk from to n room told answer
not_exchanged desk from to n room told answer refused many has = by_fault desk from to n room told answer refused.0 refused.2 refused.1 many has
