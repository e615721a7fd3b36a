-- The least level from one cluster to another.
use Rattle.std.proofs.Common.{ℕ, suc, ◌<◌, ◌≤◌, inl, inr, List, [], ◌∷◌, ◌++◌, map, min, arith}
use Rattle.std.proofs.lemmas.Bool.{cases_eq}
use Rattle.reorder.specs.VisualList.{Cluster}
use Rattle.reorder.specs.VisualOrder.{least_level}
use Rattle.reorder.proofs.Rounds.{High, high-append}
use Rattle.reorder.proofs.LeftOrder.{IsLeast, last-low}

least-le : (l : ℕ) (cs : List Cluster) → least_level l (map (λ c. c.1) cs) ≤ l
least-le l [] = omega arith
least-le l (c ∷ cs) = omega arith

high-lower : (j k : ℕ) (cs : List Cluster) → k ≤ j → High j cs → High k cs
high-lower j k [] le h = tt
high-lower j k (c ∷ cs) le h = (omega arith, high-lower j k cs le h.1)

least-high : (l : ℕ) (cs : List Cluster) → High (least_level l (map (λ c. c.1) cs)) cs
least-high l [] = tt
least-high l (c ∷ cs) =
    let le = least-le c.1 cs in
    (omega arith, high-lower (least_level c.1 (map (λ c. c.1) cs)) (min l (least_level c.1 (map (λ c. c.1) cs))) cs (omega arith) (least-high c.1 cs))

least-above : (k l : ℕ) (cs : List Cluster) → k < l → High (suc k) cs → k < least_level l (map (λ c. c.1) cs)
least-above k l [] lt h = lt
least-above k l (c ∷ cs) lt h = let rest = least-above k c.1 cs (omega (arith, h.0)) h.1 in omega arith

high-left : (k : ℕ) (p q : List Cluster) → High k (p ++ q) → High k p
high-left k [] q h = tt
high-left k (c ∷ p) q h = (h.0, high-left k p q h.1)

high-right : (k : ℕ) (p q : List Cluster) → High k (p ++ q) → High k q
high-right k [] q h = h
high-right k (c ∷ p) q h = high-right k p q h.1

pub least-is : (x : Cluster) (m : List Cluster) (y : Cluster) → IsLeast (least_level x.1 (map (λ c. c.1) (m ++ y ∷ []))) x m y
least-is x m y =
    let least = least_level x.1 (map (λ c. c.1) (m ++ y ∷ [])) in
    let all = least-high x.1 (m ++ y ∷ []) in
    let at_x : least_level x.1 (map (λ c. c.1) (m ++ y ∷ [])) ≤ x.1 = least-le x.1 (m ++ y ∷ []) in
    let at_y : least_level x.1 (map (λ c. c.1) (m ++ y ∷ [])) ≤ y.1 = (high-right (least_level x.1 (map (λ c. c.1) (m ++ y ∷ []))) m (y ∷ []) all).0 in
    record {
      at_x = at_x;
      at_y = at_y;
      at_m = high-left (least_level x.1 (map (λ c. c.1) (m ++ y ∷ []))) m (y ∷ []) all;
      met = elim (cases_eq (least_level x.1 (map (λ c. c.1) (m ++ y ∷ []))) x.1) [
        | inl e ↦ inl e
        | inr ne ↦ elim (cases_eq (least_level x.1 (map (λ c. c.1) (m ++ y ∷ []))) y.1) [
          | inl e ↦ inr (inl e)
          | inr ne' ↦ elim (last-low (suc (least_level x.1 (map (λ c. c.1) (m ++ y ∷ [])))) m) [
            | inr s ↦ inr (inr s)
            | inl h ↦
                let above = least-above (least_level x.1 (map (λ c. c.1) (m ++ y ∷ []))) x.1 (m ++ y ∷ []) (omega arith)
                (high-append (suc (least_level x.1 (map (λ c. c.1) (m ++ y ∷ [])))) m (y ∷ []) h (omega arith, tt)) in
                absurd (omega arith)
          ]
        ]
      ];
    }
