-- The boundary after one more cluster.
use Rattle.std.proofs.Common.{◌≡◌, ℕ, zero, suc, ◌+◌, ◌-◌, ◌*◌, ◌^◌, ◌<◌, ◌≤◌, cond, List, [], ◌∷◌, ◌++◌, length, take, get_or, sym, ap, ◌∙◌, arith}
use Rattle.std.proofs.lemmas.List.Elements.{All-head, All-tail}
use Rattle.std.proofs.Math.Seq.{take-suc}
use Rattle.std.specs.List.{All}
use Rattle.line_break.specs.declared.cluster.Cluster.{Cluster}
use Rattle.line_break.specs.declared.opportunity.Boundary.{Boundary}
use Rattle.line_break.specs.LineClusters.{hangs}
use Rattle.line_break.specs.Lines.{columns}
use Rattle.line_break.specs.Opportunities.{behind}
use Rattle.line_break.specs.Open.{IsBoundary, IsLastFitting}
use Rattle.line_break.proofs.Tails.{solid, solid-le, solid-push, columns-append}

-- a cluster has at most two columns
two-at : (cl : List Cluster) (i : ℕ) (d : Cluster) → All (λ (c : Cluster). c.columns ≤ 2) cl → i < length cl → (get_or cl i d).columns ≤ 2
two-at [] i d two l = absurd (omega arith)
two-at (c ∷ cl) zero d two l = All-head (λ (x : Cluster). x.columns ≤ 2) c cl two
two-at (c ∷ cl) (suc i) d two l = two-at cl i d (All-tail (λ (x : Cluster). x.columns ≤ 2) c cl two) (omega arith)

pub columns-two : (cl : List Cluster) (k : ℕ) → All (λ (c : Cluster). c.columns ≤ 2) cl → columns (take k cl) ≤ 2 * k
columns-two cl zero two = omega arith
columns-two [] (suc k) two = omega arith
columns-two (c ∷ cl) (suc k) two =
    let first = All-head (λ (x : Cluster). x.columns ≤ 2) c cl two in
    let later = columns-two cl k (All-tail (λ (x : Cluster). x.columns ≤ 2) c cl two) in
    let both = columns-append (c ∷ []) (take k cl) in
    omega arith

columns-suc : (cl : List Cluster) (k : ℕ) → All (λ (c : Cluster). c.columns ≤ 2) cl → columns (take (suc k) cl) ≤ columns (take k cl) + 2
columns-suc [] zero two = omega arith
columns-suc [] (suc k) two = omega arith
columns-suc (c ∷ cl) zero two = let first = All-head (λ (x : Cluster). x.columns ≤ 2) c cl two in omega arith
columns-suc (c ∷ cl) (suc k) two =
    let later = columns-suc cl k (All-tail (λ (x : Cluster). x.columns ≤ 2) c cl two) in
    let more = columns-append (c ∷ []) (take (suc k) cl) in
    let less = columns-append (c ∷ []) (take k cl) in
    omega arith

pub columns-step : (cl : List Cluster) (k : ℕ) → All (λ (c : Cluster). c.columns ≤ 2) cl → columns (take (k + 1) cl) ≤ columns (take k cl) + 2
columns-step cl k two =
    let one : k + 1 ≡ suc k = omega arith in
    let same = ap (λ (n : ℕ). columns (take n cl)) one in
    let step = columns-suc cl k two in
    omega arith

module _ (cl : List Cluster) (b : Boundary) (h : IsBoundary cl b) (d : Cluster) (inside : b.clusters < length cl) where
  take-next : take (b.clusters + 1) cl ≡ take b.clusters cl ++ get_or cl b.clusters d ∷ []
  take-next = let one : b.clusters + 1 ≡ suc b.clusters = omega arith in ap (λ n. take n cl) one ∙ take-suc cl b.clusters d inside

  pub IsBoundary-behind : IsBoundary cl (behind b (get_or cl b.clusters d))
  IsBoundary-behind =
      let c = get_or cl b.clusters d in
      record {
        within = omega arith;
        columns =
            let joined = ap columns take-next in
            let both = columns-append (take b.clusters cl) (c ∷ []) in
            let before = h.columns in
            omega arith;
        solid =
            sym (ap solid take-next ∙ solid-push (take b.clusters cl) c
            ∙ ap (λ n. cond (hangs c) n (columns (take b.clusters cl) + c.columns)) (sym h.solid)
            ∙ ap (λ n. cond (hangs c) b.solid (n + c.columns)) (sym h.columns));
      }

  -- there is room to count
  pub room : All (λ (c : Cluster). c.columns ≤ 2) cl → length cl < 2 ^ 31 → b.columns + (get_or cl b.clusters d).columns < 2 ^ 32
  room two small =
      let a = columns-two cl b.clusters two in
      let c = two-at cl b.clusters d two inside in
      let e = h.columns in
      omega arith

  -- the line is full before it
  module _ (w : ℕ) (start : Boundary) (order : start.clusters ≤ b.clusters) (fits : b.solid ≤ start.columns + w) where
    pub IsLastFitting-full : w < (behind b (get_or cl b.clusters d)).solid - start.columns → IsLastFitting cl w start b
    IsLastFitting-full over = record {
      boundary = h;
      order = order;
      fits = fits;
      last = λ some. let same = IsBoundary-behind.solid in omega arith;
    }

-- all clusters fit
pub IsLastFitting-all : (cl : List Cluster) (b : Boundary) → IsBoundary cl b → (w : ℕ) (start : Boundary) → start.clusters ≤ b.clusters → b.solid ≤ start.columns + w
    → length cl ≤ b.clusters → IsLastFitting cl w start b
IsLastFitting-all cl b h w start order fits all = record {
  boundary = h;
  order = order;
  fits = fits;
  last = λ some. absurd (omega arith);
}

-- a line fits that ends where it starts
pub start-fits : (cl : List Cluster) (b : Boundary) (w : ℕ) → IsBoundary cl b → b.solid ≤ b.columns + w
start-fits cl b w h = let a = h.columns in let c = h.solid in let le = solid-le (take b.clusters cl) in omega arith
