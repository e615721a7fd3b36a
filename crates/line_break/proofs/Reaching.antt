-- The clusters of a paragraph, outlined one cluster further.
use Rattle.std.proofs.Common.{◌≡◌, ℕ, ◌+◌, ◌-◌, ◌*◌, ◌<◌, ◌≤◌, Bool, List, [], ◌∷◌, ◌++◌, length, drop, get_or, take, sum, refl, sym, ap, subst, ◌∙◌, arith}
use Rattle.std.proofs.lemmas.List.{append-nil}
use Rattle.std.proofs.lemmas.Str.{chars-nil, chars_past_char}
use Rattle.std.specs.List.{All, concat, flat_map}
use Rattle.std.specs.Prelude.{encode_utf8}
use Rattle.std.specs.Str.{IsUtf8}
use Rattle.unicode_tables.specs.Tables.{TableValues}
use Rattle.paragraphs.specs.Clusters.{clusters, cluster_sizes}
use Rattle.paragraphs.specs.Columns.{columns_of}
use Rattle.paragraphs.specs.Text.{code_points}
use Rattle.line_break.specs.declared.cluster.Cluster.{Cluster}
use Rattle.line_break.specs.declared.opportunity.Boundary.{Boundary}
use Rattle.line_break.specs.declared.opportunity.Opportunity.{Opportunity}
use Rattle.line_break.specs.declared.reached.Reached.{Reached}
use Rattle.line_break.specs.declared.run.ShapeRun.{ShapeRun}
use Rattle.line_break.specs.declared.status.Break.{Break}
use Rattle.line_break.specs.LineClusters.{is_space as is_space_of, measured}
use Rattle.line_break.specs.Opportunities.{before_all, behind, offered}
use Rattle.line_break.specs.Reached.{IsAt, IsOutlinedTo, IsMeasuredTo, first_lines, span_ahead}
use Rattle.line_break.specs.Runs.{AreJoined, EndsAt, alone, if_some, no_run, sizes_of, spans_of}
use Rattle.line_break.specs.Statuses.{breaks}
use Rattle.line_break.proofs.Boundaries.{columns-two}
use Rattle.line_break.proofs.Gathering.{AreGathered-start, AreGathered-on, sizes-on, spans-on}
use Rattle.line_break.proofs.Marking.{slice-from}
use Rattle.line_break.proofs.Measuring.{IsMeasuredTo-start, cluster-some, cluster-utf8, first_lines-on, length-breaks, measured-is, two-done, IsMeasuredTo-on}
use Rattle.line_break.proofs.Offering.{breaks-start, breaks-on, end-start, end-on}
use Rattle.line_break.proofs.Outlining.{IsOutlinedTo-start, IsOutlinedTo-at}
use Rattle.line_break.proofs.PlainPlaces.{same-at}

-- a cluster of one code point, with the status after it
pub measured-one : (tables : TableValues) (c : ℕ) (statuses all : List Break) (place columns : ℕ) (is_space : Bool) (d : Break) → statuses ≡ all → place < length all
    → columns ≡ columns_of tables (c ∷ []) → is_space ≡ is_space_of tables (c ∷ [])
    → record { columns = columns; is_space = is_space; after = get_or statuses place d } ≡ measured tables (c ∷ []) (drop place all)
measured-one tables c statuses all place columns is_space d same lt a b =
    let n = ap length same in
    let last : place ≡ place + 1 - 1 = omega arith in
    measured-is tables (c ∷ []) statuses all place 1 columns is_space (get_or statuses place d) same refl (omega arith) (omega arith) a b
    (same-at statuses place d (get_or statuses place d) (omega arith) ∙ ap (λ k. get_or statuses k (get_or statuses place d)) last)

same_reached : {l l' : ShapeRun} {b b' : Boundary} → l ≡ l' → b ≡ b'
    → ◌≡◌ {A = Reached} (record { last = l; end = b; byte = 0; place = 0 }) (record { last = l'; end = b'; byte = 0; place = 0 })
same_reached p q = cc

-- no cluster yet
pub IsAt-start : (tables : TableValues) (text : List ℕ) (left : List (List ℕ)) (runs : List ShapeRun) (opportunities : List Opportunity) (last : ShapeRun) (end : Boundary)
    → left ≡ clusters text → All IsUtf8 left → All (λ (cluster : List ℕ). 0 < length cluster) left → concat left ≡ text
    → All (λ size. 0 < size) (cluster_sizes text) → sum (cluster_sizes text) ≡ length (code_points text)
    → runs ≡ [] → opportunities ≡ [] → last ≡ no_run → end ≡ before_all
    → IsAt tables text left runs opportunities (record { last = last; end = end; byte = 0; place = 0 })
IsAt-start tables text left runs opportunities last end all u some joined some_sizes whole no_runs no_offers no_last no_end =
    let none : runs ++ [] ≡ [] = ap (λ (l : List ShapeRun). l ++ []) no_runs in
    subst (IsAt tables text left runs opportunities) (sym (same_reached no_last no_end)) (record {
      outlined = IsOutlinedTo-start text left _ _ all u some joined (ap (flat_map spans_of) none) (ap (flat_map sizes_of) none);
      measured = IsMeasuredTo-start tables text left [] all u some_sizes whole refl;
      gathered = AreGathered-start _ [] none refl;
      ends = record { few = omega arith; bytes = omega arith; places = omega arith };
      first = λ none. no_runs;
      count = omega arith;
      boundary = end-start [] refl;
      offered = breaks-start [] opportunities refl no_offers;
    })

module _ (tables : TableValues) (text : List ℕ) (left : List (List ℕ)) (runs : List ShapeRun) (opportunities : List Opportunity) (reached : Reached)
    (at : IsAt tables text left runs opportunities reached) where
  -- its code points from there on
  pub points-ahead : (points : List ℕ) → points ≡ code_points text → take (length points - reached.place) (drop reached.place points) ≡ code_points (concat left)
  points-ahead points same = slice-from reached.place points ∙ ap (drop reached.place) same ∙ at.outlined.points

  -- no more columns than two a byte
  pub few-columns : reached.end.columns ≤ 2 * reached.byte
  few-columns =
      let done = first_lines tables text reached.end.clusters in
      let all = ap (λ (b : Boundary). b.columns) at.boundary in
      let two = columns-two done (length done) (two-done tables text left done reached.place at.measured) in
      let same = ap (λ (b : Boundary). b.clusters) at.boundary in
      let few = at.count in
      let so_far = at.outlined.places in
      omega arith

  -- nor more code points than the text
  pub within-points : reached.place ≤ length (code_points text)
  within-points = let all = at.measured.places in let same = length-breaks tables text in omega arith

  -- a cluster of one code point
  pub point-alone : (c : ℕ) (later : List (List ℕ)) → left ≡ encode_utf8 c ∷ later → code_points (encode_utf8 c) ≡ c ∷ []
  point-alone c later e =
      chars_past_char (encode_utf8 c) [] c (cluster-utf8 tables text left (first_lines tables text reached.end.clusters) reached.place at.measured (encode_utf8 c) later e)
      (sym (append-nil (encode_utf8 c)))
      ∙ ap (λ l. c ∷ l) chars-nil

  -- one more cluster
  module _ (c : List ℕ) (later : List (List ℕ)) (e : left ≡ c ∷ later) (bytes points : ℕ) (len : bytes ≡ length c) (size : points ≡ length (code_points c))
      (cluster : Cluster) (own : cluster ≡ measured tables (code_points c) (drop reached.place (breaks tables text))) where
    pub IsAt-on : (more : List ShapeRun) (offers : List Opportunity) (next : Reached)
        → AreJoined (runs ++ if_some reached.last) (alone (span_ahead reached bytes points) cluster.columns) (more ++ if_some next.last)
        → 0 < next.last.count → EndsAt next.last next.byte next.place → next.end ≡ behind reached.end cluster
        → offers ≡ opportunities ++ offered next.end cluster.after → next.byte ≡ reached.byte + bytes → next.place ≡ reached.place + points
        → IsAt tables text later more offers next
    IsAt-on more offers next joined some ends on offer byte place =
        let o = at.outlined in
        let m = at.measured in
        let done = first_lines tables text reached.end.clusters in
        let span = span_ahead reached bytes points in
        let clusters = ap (λ (b : Boundary). b.clusters) on in
        let put : first_lines tables text next.end.clusters ≡ done ++ cluster ∷ [] =
        ap (first_lines tables text) clusters ∙ first_lines-on tables text left reached.end.clusters reached.place m c later e cluster own in
        record {
          outlined =
              subst (λ (n : ℕ). IsOutlinedTo text later (flat_map spans_of (more ++ if_some next.last)) (flat_map sizes_of (more ++ if_some next.last)) next.byte n) (sym place)
              (IsOutlinedTo-at text left _ _ reached.byte reached.place o c later e span points next.byte _ _ size (byte ∙ ap (λ n. reached.byte + n) len)
              (ap (λ (n : ℕ). record { first_byte = reached.byte; end_byte = n; first_place = reached.place; end_place = reached.place + points }) (sym byte))
              (spans-on _ _ _ joined span cluster.columns refl (omega arith) (omega arith)) (sizes-on _ _ _ joined span cluster.columns refl points (omega arith)));
          measured =
              subst (λ (n : ℕ). IsMeasuredTo tables text later (first_lines tables text next.end.clusters) n) (sym place)
              (IsMeasuredTo-on tables text left done reached.place m c later e _ points cluster size own put);
          gathered = AreGathered-on _ _ _ joined span cluster.columns refl cluster done _ at.gathered refl put;
          ends = ends;
          first = λ none. absurd (omega arith);
          count = let before = at.count in let some_points = cluster-some tables text left done reached.place m c later e in omega arith;
          boundary = end-on done cluster _ reached.end next.end put at.boundary on;
          offered = breaks-on done cluster _ reached.end next.end opportunities offers put at.boundary on at.offered offer;
        }
