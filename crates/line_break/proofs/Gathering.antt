-- The runs of a paragraph's clusters, one cluster further.
use Rattle.std.proofs.Common.{◌≡◌, ℕ, ◌-◌, ◌≤◌, List, [], ◌∷◌, ◌++◌, map, refl, sym, ap, subst, ◌∙◌}
use Rattle.std.proofs.lemmas.List.{map-append}
use Rattle.std.proofs.lemmas.List.Elements.{All-nil, All-same}
use Rattle.std.specs.List.{flat_map}
use Rattle.paragraphs.specs.declared.span.Span.{Span}
use Rattle.line_break.specs.declared.cluster.Cluster.{Cluster}
use Rattle.line_break.specs.declared.run.ShapeRun.{ShapeRun}
use Rattle.line_break.specs.Runs.{spans_of, sizes_of, columns_of, alone, AreJoined, are_longest}
use Rattle.line_break.proofs.Joined.{HasSome, spans-one, sizes-one, columns-one, alone-span}
pub use Rattle.line_break.specs.Reached.{AreGathered}

pub AreGathered-start : (runs : List ShapeRun) (clusters : List Cluster) → runs ≡ [] → clusters ≡ [] → AreGathered runs clusters
AreGathered-start runs clusters no_runs no_clusters = record {
  columns = ap (flat_map columns_of) no_runs ∙ sym (ap (map (λ (c : Cluster). c.columns)) no_clusters);
  some = All-same HasSome runs [] no_runs (All-nil HasSome);
  longest = ap are_longest no_runs;
}

module _ (before after : List ShapeRun) (next : ShapeRun) (j : AreJoined before next after) (span : Span) (column : ℕ) (is : next ≡ alone span column) where
  alone-joined : AreJoined before (alone span column) after
  alone-joined = subst (λ (n : ShapeRun). AreJoined before n after) is j

  -- where it stands
  pub spans-on : span.first_byte ≤ span.end_byte → span.first_place ≤ span.end_place → flat_map spans_of after ≡ flat_map spans_of before ++ span ∷ []
  spans-on bytes places =
      alone-joined.spans
      ∙ ap (λ (l : List Span). flat_map spans_of before ++ l) (spans-one (alone span column) refl ∙ ap (λ (s : Span). s ∷ []) (alone-span span column bytes places))

  -- how many code points it has
  pub sizes-on : (size : ℕ) → size ≡ span.end_place - span.first_place → flat_map sizes_of after ≡ flat_map sizes_of before ++ size ∷ []
  sizes-on size n =
      alone-joined.sizes
      ∙ ap (λ (l : List ℕ). flat_map sizes_of before ++ l) (sizes-one (alone span column) refl)
      ∙ ap (λ (k : ℕ). flat_map sizes_of before ++ k ∷ []) (sym n)

  pub AreGathered-on : (cluster : Cluster) (clusters more : List Cluster) → AreGathered before clusters → column ≡ cluster.columns → more ≡ clusters ++ cluster ∷ []
      → AreGathered after more
  AreGathered-on cluster clusters more g n put = record {
    columns =
        alone-joined.columns
        ∙ ap (λ (l : List ℕ). flat_map columns_of before ++ l) (columns-one (alone span column) refl)
        ∙ ap (λ (l : List ℕ). l ++ column ∷ []) g.columns
        ∙ ap (λ (k : ℕ). map (λ (c : Cluster). c.columns) clusters ++ k ∷ []) n
        ∙ sym (ap (map (λ (c : Cluster). c.columns)) put ∙ map-append (λ (c : Cluster). c.columns) clusters (cluster ∷ []));
    some = j.some g.some;
    longest = j.longest g.longest;
  }
