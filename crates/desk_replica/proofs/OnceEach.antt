-- A list that has each operation of a set once is as long as the set is large.
use Rattle.std.proofs.Common.{◌≡◌, ◌+◌, ◌-◌, ℕ, zero, suc, Bool, true, false, not, cond, List, [], ◌∷◌, length, None, Some, sym, ap, subst, ◌∙◌, refl, true≢false, is_some, arith}
use Rattle.std.specs.Prelude.{◌↔◌, ◌&&◌, slice_get}
use Rattle.std.specs.FinMap as map
use Rattle.std.specs.FinSet as set
use Rattle.bg_types.specs.Identifier.{Identifier, same_id}
use Rattle.bg_types.specs.OperationSet.{OperationSet, Holds, size}
use Rattle.bg_types.specs.declared.op.Place.{Place}
use Rattle.bg_types.specs.declared.op.OpView.{OpView}
use Rattle.bg_types.specs.declared.op.OpView.TheVariants.{Insert, Erase}
use Rattle.bg_types.proofs.Interface.{id_cmp-total, same_id-is, same_id-itself, node, some_is}
use Rattle.desk_replica.proofs.Settled.{there}
use Rattle.desk_replica.proofs.Sizes.{map_positive, set_positive, map_pick, set_pick}

-- S without an operation
abbrev cut : OperationSet → OpView → OperationSet
cut s (Insert id parent ch) = record s { ins = map.remove s.ins id }
cut s (Erase target) = record s { del = set.remove s.del target }

-- x is left exactly where it is in S and another
abbrev IsCut : OperationSet → OpView → OpView → Type 0
IsCut s op x = Holds (cut s op) x ↔ (Holds s x × (x ≡ op → ⊥))

insertion_cut : (s : OperationSet) (id : Identifier) (parent : Place) (ch : ℕ) (q : Identifier) (p : Place) (c : ℕ) → Holds s (Insert id parent ch) → IsCut s (Insert id parent ch) (Insert q p c)
insertion_cut s id parent ch q p c held = by (same_id q id) refl (map.get-remove id_cmp-total s.ins id q)
  where
    same_op : same_id q id ≡ true → map.get s.ins q ≡ Some (node p c) → Insert q p c ≡ Insert id parent ch
    same_op e h =
        let at : q ≡ id = same_id-is q id e in
        let same : node p c ≡ node parent ch = some_is (node p c) (node parent ch) (sym h ∙ ap (map.get s.ins) at ∙ held) in
        λ i. Insert (at i) (same i).parent (same i).ch

    other : same_id q id ≡ false → Insert q p c ≡ Insert id parent ch → ⊥
    other e f = let same : q ≡ id = cc in true≢false (sym (subst (λ x. same_id q x ≡ true) same (same_id-itself q)) ∙ e)

    by : (b : Bool) → same_id q id ≡ b → map.get (map.remove s.ins id) q ≡ cond b None (map.get s.ins q) → IsCut s (Insert id parent ch) (Insert q p c)
    by true e k = ((λ h. absurd (let f : None ≡ Some (node p c) = sym k ∙ h in cc)), (λ w. absurd (w.1 (same_op e w.0))))
    by false e k = ((λ h. (sym k ∙ h, other e)), (λ w. k ∙ w.0))

erasure_cut : (s : OperationSet) (target q : Identifier) → IsCut s (Erase target) (Erase q)
erasure_cut s target q = by (same_id q target) refl (set.contains-remove id_cmp-total s.del target q)
  where
    other : same_id q target ≡ false → Erase q ≡ Erase target → ⊥
    other e f = let same : q ≡ target = cc in true≢false (sym (subst (λ x. same_id q x ≡ true) same (same_id-itself q)) ∙ e)

    by : (b : Bool) → same_id q target ≡ b → set.contains (set.remove s.del target) q ≡ (not b && set.contains s.del q) → IsCut s (Erase target) (Erase q)
    by true e k = ((λ h. absurd (true≢false (sym h ∙ k))), (λ w. absurd (w.1 (ap Erase (same_id-is q target e)))))
    by false e k = ((λ h. (sym k ∙ h, other e)), (λ w. k ∙ w.0))

cut_is : (s : OperationSet) (op x : OpView) → Holds s op → IsCut s op x
cut_is s (Insert id parent ch) (Insert q p c) held = insertion_cut s id parent ch q p c held
cut_is s (Insert id parent ch) (Erase q) held = ((λ h. (h, (λ e. absurd cc))), (λ w. w.0))
cut_is s (Erase target) (Insert q p c) held = ((λ h. (h, (λ e. absurd cc))), (λ w. w.0))
cut_is s (Erase target) (Erase q) held = erasure_cut s target q

size_cut : (s : OperationSet) (op : OpView) → Holds s op → size (cut s op) + 1 ≡ size s
size_cut s (Insert id parent ch) h =
    let there : map.contains_key s.ins id ≡ true = ap is_some h in
    let l : map.len (map.remove s.ins id) ≡ map.len s.ins - 1 = map.len-remove id_cmp-total s.ins id ∙ ap (λ b. cond b (map.len s.ins - 1) (map.len s.ins)) there in
    let p = map_positive s.ins (map.len s.ins) id refl there in
    omega (arith, l, p)
size_cut s (Erase target) h =
    let l : set.len (set.remove s.del target) ≡ set.len s.del - 1 = set.len-remove id_cmp-total s.del target ∙ ap (λ b. cond b (set.len s.del - 1) (set.len s.del)) h in
    let p = set_positive s.del (set.len s.del) target refl h in
    omega (arith, l, p)

pub nothing_at : (j : ℕ) (op : OpView) → slice_get [] j ≡ Some op → ⊥
nothing_at zero op h = let f : None ≡ Some op = h in cc
nothing_at (suc j) op h = let f : None ≡ Some op = h in cc

size_none : (s : OperationSet) → ((op : OpView) → Holds s op → ⊥) → size s ≡ 0
size_none s none = let a = no_insertion (map.len s.ins) refl in let b = no_erasure (set.len s.del) refl in omega (arith, a, b)
  where
    no_insertion : (k : ℕ) → map.len s.ins ≡ k → map.len s.ins ≡ 0
    no_insertion zero e = e
    no_insertion (suc k) e =
        let x = map_pick s.ins (map.entries s.ins) k refl e in
        let n = there (map.get s.ins x.0) x.1 in
        absurd (none (Insert x.0 n.0.parent n.0.ch) n.1)

    no_erasure : (k : ℕ) → set.len s.del ≡ k → set.len s.del ≡ 0
    no_erasure zero e = e
    no_erasure (suc k) e = let x = set_pick s.del (set.items s.del) k refl e in absurd (none (Erase x.0) x.1)

-- the list has the operations of S and no others
abbrev pub Lists : OperationSet → List OpView → Type 0
Lists s ops = (op : OpView) → Holds s op ↔ ((j : ℕ) × (slice_get ops j ≡ Some op))

-- no operation stands at two places
abbrev pub Once : List OpView → Type 0
Once ops = (i j : ℕ) (op : OpView) → slice_get ops i ≡ Some op → slice_get ops j ≡ Some op → i ≡ j

later : (op : OpView) (ops : List OpView) (x : OpView) (j : ℕ) → slice_get (op ∷ ops) j ≡ Some x → (x ≡ op → ⊥) → (k : ℕ) × (slice_get ops k ≡ Some x)
later op ops x zero e other = absurd (other (let f : Some op ≡ Some x = e in cc))
later op ops x (suc k) e other = (k, e)

pub lists_size : (ops : List OpView) (s : OperationSet) → Lists s ops → Once ops → length ops ≡ size s
lists_size [] s each once = sym (size_none s (λ op h. let f = (each op).0 h in nothing_at f.0 op f.1))
lists_size (op ∷ ops) s each once =
    let held : Holds s op = (each op).1 (zero, refl) in
    let c = size_cut s op held in
    let rest = lists_size ops (cut s op)
    (λ x. (
      (λ h. let w = (cut_is s op x held).0 h in let f = (each x).0 w.0 in later op ops x f.0 f.1 w.1),
      (λ f. (cut_is s op x held).1 ((each x).1 (suc f.0, f.1), (λ e. let z = once zero (suc f.0) op refl (f.1 ∙ ap (λ (o : OpView). Some o) e) in absurd (omega (arith, z))))),
    ))
    (λ i j x f g. let e = once (suc i) (suc j) x f g in omega (arith, e)) in
    omega (arith, c, rest)
