-- Taking operations one after the other, and what a desk's answers mean for the files.
use Rattle.std.proofs.Common.{◌≡◌, true, false, ℕ, ◌+◌, ◌<◌, ◌≤◌, List, [], ◌∷◌, ◌++◌, None, length, get_or, take, drop, refl, sym, ap, subst, ◌∙◌, inl, inr, ◌⊎◌, arith, append_assoc}
use Rattle.std.specs.Prelude.{Contains, Option, Some, is_some}
use Rattle.std.proofs.lemmas.List.Elements.{Contains-append_left, Contains-push, Contains-push_cases}
use Rattle.std.specs.FinMap as map
use Rattle.std.specs.FinSet as set
use Rattle.bg_types.specs.Identifier.{id_cmp}
use Rattle.bg_types.specs.OperationSet.{Node, OperationSet, Holds, MayJoin, with_operation, no_operations, size}
use Rattle.bg_types.specs.declared.op.OpView.{OpView}
use Rattle.desk_replica.specs.declared.answer.TakeFault.{TakeFault}
use Rattle.desk_replica.specs.declared.answer.TakeFault.TheVariants.{IdentifierReused, Full, Memory}
use Rattle.desk_replica.specs.SetOf.{IsSetOf}
use Rattle.desk_replica.specs.Reply.{IsRefusal, IsRefused}
use Rattle.desk_replica.specs.Refusal.{IsFirstRefusal}
use Rattle.desk_files.specs.Taking.{HasTaken}
use Rattle.desk_files.proofs.LowerLaws.{HoldsBoth}
use Rattle.desk_files.proofs.Spelled.{split-at}

-- ---- what an answer says

pub nothing-limited : size no_operations ≤ 1_000_000
nothing-limited = let ins = map.len-empty id_cmp Node in let del = set.len-empty id_cmp in omega (arith, ins, del)

-- a desk that refuses wants memory, or the operation is one that it refuses whatever memory there is
refusal : (s : OperationSet) (op : OpView) (fault : TakeFault) → IsRefused s op fault → (fault ≡ Memory) ⊎ IsRefusal s op fault
refusal s op IdentifierReused h = inr h
refusal s op Full h = inr h
refusal s op Memory h = inl refl

-- ---- the set of a list

pub IsSetOf-nil : ((op : OpView) → Holds no_operations op → ⊥) → IsSetOf [] no_operations
IsSetOf-nil nothing op = ((λ h. absurd (nothing op h)), (λ h. absurd (omega (arith, h.1))))

-- S + op is the set of the list with op at its end
pub IsSetOf-push : HoldsBoth → (ops : List OpView) (op : OpView) (s : OperationSet) → IsSetOf ops s → MayJoin s op → IsSetOf (ops ++ op ∷ []) (with_operation s op)
IsSetOf-push holds ops op s h may x =
    let joined = holds s op x may in (
      λ held. elim (joined.0 held) [
        | inl is ↦ subst (Contains (ops ++ op ∷ [])) (sym is) (Contains-push ops op)
        | inr old ↦ Contains-append_left ops (op ∷ []) x ((h x).0 old)
      ],
      λ listed. elim (Contains-push_cases ops op x listed) [
        | inl old ↦ joined.1 (inr ((h x).1 old))
        | inr is ↦ joined.1 (inl (sym is))
      ],
    )

-- an operation is refused after those before it were taken
pub IsFirstRefusal-at : (before ops : List OpView) (i : ℕ) (op : OpView) (s : OperationSet) (fault : TakeFault) → i < length ops → op ≡ get_or ops i op → IsSetOf (before ++ take i ops) s → size s ≤ 1_000_000
    → IsRefusal s op fault → IsFirstRefusal (before ++ ops) fault
IsFirstRefusal-at before ops i op s fault lt is h limited refused = record {
  before = before ++ take i ops;
  op = op;
  after = drop (i + 1) ops;
  kept = s;
  in_order = ap (λ l. before ++ l) (split-at ops i op lt is) ∙ sym (append_assoc before (take i ops) (op ∷ drop (i + 1) ops));
  of_before = h;
  limited = limited;
  refused = refused;
}

-- lack of memory aside
refused-or_memory : (before ops : List OpView) (i : ℕ) (op : OpView) (s : OperationSet) (fault : TakeFault) → i < length ops → op ≡ get_or ops i op → IsSetOf (before ++ take i ops) s → size s ≤ 1_000_000
    → (fault ≡ Memory) ⊎ IsRefusal s op fault → (fault ≡ Memory) ⊎ IsFirstRefusal (before ++ ops) fault
refused-or_memory before ops i op s fault lt is h limited (inl memory) = inl memory
refused-or_memory before ops i op s fault lt is h limited (inr refused) = inr (IsFirstRefusal-at before ops i op s fault lt is h limited refused)

pub refused-at : (before ops : List OpView) (i : ℕ) (op : OpView) (s : OperationSet) (fault : TakeFault) → i < length ops → op ≡ get_or ops i op → IsSetOf (before ++ take i ops) s → size s ≤ 1_000_000
    → IsRefused s op fault → (fault ≡ Memory) ⊎ IsFirstRefusal (before ++ ops) fault
refused-at before ops i op s fault lt is h limited refused = refused-or_memory before ops i op s fault lt is h limited (refusal s op fault refused)

-- a first refusal among the first operations is one among all
pub IsFirstRefusal-append : (ops more : List OpView) (fault : TakeFault) → IsFirstRefusal ops fault → IsFirstRefusal (ops ++ more) fault
IsFirstRefusal-append ops more fault h = record {
  before = h.before;
  op = h.op;
  after = h.after ++ more;
  kept = h.kept;
  in_order = ap (λ l. l ++ more) h.in_order ∙ append_assoc h.before (h.op ∷ h.after) more;
  of_before = h.of_before;
  limited = h.limited;
  refused = h.refused;
}

-- ---- what one desk has taken

pub nothing-taken : ((op : OpView) → Holds no_operations op → ⊥) → HasTaken [] no_operations None
nothing-taken nothing = (IsSetOf-nil nothing, nothing-limited)

-- one was refused
pub taken-refused : (before ops : List OpView) (s : OperationSet) (r : Option TakeFault) → is_some r ≡ true → HasTaken before s r → HasTaken (before ++ ops) s r
taken-refused before ops s None e h = absurd cc
taken-refused before ops s (Some fault) e h = IsFirstRefusal-append before ops fault h

-- none was refused
pub taken-more : (before ops : List OpView) (s t : OperationSet) (r : Option TakeFault) → is_some r ≡ false → (IsSetOf before s → IsSetOf (before ++ ops) t) → (size s ≤ 1_000_000 → size t ≤ 1_000_000) → HasTaken before s r → HasTaken (before ++ ops) t r
taken-more before ops s t None e grown limited h = (grown h.0, limited h.1)
taken-more before ops s t (Some fault) e grown limited h = absurd cc
