-- The clusters of a paragraph, outlined up to one of them.
use Rattle.std.proofs.Common.{◌≡◌, ℕ, ◌+◌, ◌<◌, ◌≤◌, List, [], ◌∷◌, ◌++◌, map, length, drop, sym, ap, subst, ◌∙◌, arith, append-nil, append_assoc, length-append}
use Rattle.std.proofs.lemmas.List.{drop-drop, drop_at}
use Rattle.std.proofs.lemmas.List.Elements.{All-head, All-tail}
use Rattle.std.proofs.lemmas.Str.{IsUtf8-nil, IsUtf8-append, chars-append}
use Rattle.std.specs.List.{All, concat}
use Rattle.std.specs.Str.{IsUtf8}
use Rattle.paragraphs.proofs.Interface.{points-fit}
use Rattle.paragraphs.specs.Text.{code_points}
use Rattle.paragraphs.specs.Clusters.{clusters, cluster_sizes}
use Rattle.paragraphs.specs.declared.span.Span.{Span}
use Rattle.paragraphs.specs.Spans.{span_at, spans_from, spans}
pub use Rattle.line_break.specs.Reached.{IsOutlinedTo}

-- text that is joined is text
pub IsUtf8-concat : (cs : List (List ℕ)) → All IsUtf8 cs → IsUtf8 (concat cs)
IsUtf8-concat [] all = IsUtf8-nil
IsUtf8-concat (c ∷ cs) all = IsUtf8-append c (concat cs) (All-head IsUtf8 c cs all) (IsUtf8-concat cs (All-tail IsUtf8 c cs all))

module _ (text : List ℕ) where
  pub IsOutlinedTo-start : (left : List (List ℕ)) (done : List Span) (sizes : List ℕ) → left ≡ clusters text → All IsUtf8 left → All (λ (cluster : List ℕ). 0 < length cluster) left
      → concat left ≡ text → done ≡ [] → sizes ≡ [] → IsOutlinedTo text left done sizes 0 0
  IsOutlinedTo-start left done sizes all u some joined no_spans no_sizes = record {
    utf8 = u;
    some = some;
    bytes = let n = ap length joined in omega arith;
    places = omega arith;
    all_spans = ap (λ l. l ++ spans_from 0 0 left) no_spans ∙ ap (spans_from 0 0) all;
    all_sizes = ap (λ l. l ++ map length (map code_points left)) no_sizes ∙ ap (λ (l : List (List ℕ)). map length (map code_points l)) all;
    points = ap code_points (sym joined);
  }

  module _ (left : List (List ℕ)) (done : List Span) (sizes : List ℕ) (byte place : ℕ) (m : IsOutlinedTo text left done sizes byte place) where
    -- all clusters are outlined
    pub spans-end : left ≡ [] → done ≡ spans text
    spans-end none = sym (append-nil done) ∙ ap (λ l. done ++ spans_from byte place l) (sym none) ∙ m.all_spans

    pub sizes-end : left ≡ [] → sizes ≡ cluster_sizes text
    sizes-end none = sym (append-nil sizes) ∙ ap (λ (l : List (List ℕ)). sizes ++ map length (map code_points l)) (sym none) ∙ m.all_sizes

    -- one more cluster
    module _ (c : List ℕ) (later : List (List ℕ)) (e : left ≡ c ∷ later) where
      at_cluster : IsOutlinedTo text (c ∷ later) done sizes byte place
      at_cluster = subst (λ (l : List (List ℕ)). IsOutlinedTo text l done sizes byte place) e m

      pub cluster-utf8 : IsUtf8 c
      cluster-utf8 = All-head IsUtf8 c later at_cluster.utf8

      pub cluster-fits : byte + length c ≤ length text
      cluster-fits = let all = at_cluster.bytes in let n = length-append c (concat later) in omega arith

      pub cluster-points : length (code_points c) ≤ length c
      cluster-points = points-fit c cluster-utf8

      pub IsOutlinedTo-on : (new : Span) (size : ℕ) (done' : List Span) (sizes' : List ℕ) → size ≡ length (code_points c)
          → new ≡ record { first_byte = byte; end_byte = byte + length c; first_place = place; end_place = place + size }
          → done' ≡ done ++ new ∷ [] → sizes' ≡ sizes ++ size ∷ []
          → IsOutlinedTo text later done' sizes' (byte + length c) (place + size)
      IsOutlinedTo-on new size done' sizes' count is put_span put_size = record {
        utf8 = All-tail IsUtf8 c later at_cluster.utf8;
        some = All-tail (λ (x : List ℕ). 0 < length x) c later at_cluster.some;
        bytes = let all = at_cluster.bytes in let more = length-append c (concat later) in omega arith;
        places = let fit = cluster-points in let so_far = at_cluster.places in omega arith;
        all_spans =
            ap (λ l. l ++ spans_from (byte + length c) (place + size) later) (put_span ∙ ap (λ s. done ++ s ∷ []) (is ∙ ap (λ k. record { first_byte = byte; end_byte = byte + length c; first_place = place; end_place = place + k }) count))
            ∙ ap (λ k. (done ++ span_at byte place c ∷ []) ++ spans_from (byte + length c) (place + k) later) count
            ∙ append_assoc done (span_at byte place c ∷ []) (spans_from (byte + length c) (place + length (code_points c)) later) ∙ at_cluster.all_spans;
        all_sizes =
            ap (λ l. l ++ map length (map code_points later)) (put_size ∙ ap (λ k. sizes ++ k ∷ []) count)
            ∙ append_assoc sizes (length (code_points c) ∷ []) (map length (map code_points later)) ∙ at_cluster.all_sizes;
        points =
            sym (drop-drop size place (code_points text))
            ∙ ap (drop size) (at_cluster.points ∙ chars-append c (concat later) cluster-utf8)
            ∙ drop_at (code_points c) (code_points (concat later)) size (sym count);
      }

      pub IsOutlinedTo-at : (new : Span) (size end : ℕ) (done' : List Span) (sizes' : List ℕ) → size ≡ length (code_points c) → end ≡ byte + length c
          → new ≡ record { first_byte = byte; end_byte = end; first_place = place; end_place = place + size }
          → done' ≡ done ++ new ∷ [] → sizes' ≡ sizes ++ size ∷ []
          → IsOutlinedTo text later done' sizes' end (place + size)
      IsOutlinedTo-at new size end done' sizes' count at is put_span put_size =
          subst (λ (n : ℕ). IsOutlinedTo text later done' sizes' n (place + size)) (sym at)
          (IsOutlinedTo-on new size done' sizes' count (is ∙ ap (λ n. record { first_byte = byte; end_byte = n; first_place = place; end_place = place + size }) at) put_span put_size)
